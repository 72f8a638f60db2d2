use Rattle.plan_debug.proofs.Words.{◌+◌, ◌<◌, ◌↔◌, ◌≡◌, Bool, Ends, IsTrue, Some, arith, false, most_frames, subst, suc}
use Rattle.plan_debug.proofs.Words.{ℕ}
use Rattle.plan_debug.proofs.Stretches.{IsStretch, one_more}
use Rattle.plan_debug.proofs.debugger.play_frames.Goals as goal

pub loop-frames-preserved : goal.loop-frames-preserved
loop-frames-preserved g c =
    let l = c.loop-frames in
    let f = c.play_frame-last in
    let h = f.ensures in
    let p = c.args.player.now in
    let log = c.args.log.now in
    let stop = c.args.stop in
    let command = c.args.command in
    let ended = c.is_end-ended.result in
    let line = c.line.result in
    let going : l.ended ≡ false = c.if-not-ended.true in
    let old = subst (λ (b : Bool). IsStretch p log stop command l.frames l.player l.log l.last b) going
    l.invariant.played in
    let under : l.frames < most_frames command = omega (arith, c.loop-frames-test.true, c.most_of-most.ensures) in
    let at : IsTrue ended ↔ Ends stop command l.player.state.pc f.new.player.state.pc (Some line) =
    subst (λ (b : ℕ). IsTrue ended ↔ Ends stop command b f.new.player.state.pc (Some line)) c.pc-before.ensures.value
    (subst (λ (a : ℕ). IsTrue ended ↔ Ends stop command c.pc-before.result a (Some line)) c.pc.ensures.value
    c.is_end-ended.ensures) in
    let next : suc l.frames ≡ l.frames + 1 = omega arith in
    record {
      most_is = l.invariant.most_is;
      played = subst (λ (n : ℕ). IsStretch p log stop command n f.new.player f.new.log f.result ended) next
          (one_more p l.player f.new.player log l.log f.new.log stop command l.frames l.last f.result ended line old
          under h.state h.bytes h.log h.few c.line.ensures.value at);
    }
