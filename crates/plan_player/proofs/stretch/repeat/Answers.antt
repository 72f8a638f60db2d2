use Rattle.plan_player.proofs.Words.{◌%◌, ◌*◌, ◌+◌, ◌<◌, ◌∙◌, ◌≡◌, ◌≤◌, State, ap, arith, count_step}
use Rattle.plan_player.proofs.Words.{frame_fibs, layout_mode, length, mul-le-mul_right, state_of, ℕ}
use Rattle.plan_player.proofs.Cycles.{bytes_long, turn_on_turn, twice_whole, room}
use Rattle.plan_player.proofs.stretch.repeat.Goals.{After-min-more}
use Rattle.plan_player.proofs.stretch.repeat.Given as given
use Rattle.plan_player.proofs.stretch.repeat.Goals as goal

-- the bytes of the frames so far
long : (g : given.Over) (c : After-min-more g) → length c.loop-done.batch ≡ c.loop-done.done
    * (32 * frame_fibs c.args.plan.now.layout)
long g c = rw (c.loop-done.invariant.bytes) (bytes_long _ _ _ _ _ c.requires.stretch c.loop-done.invariant.within)

pub repeat-requires-clause-there : goal.repeat-requires-clause-there
repeat-requires-clause-there g c =
    let size : ℕ = 32 * frame_fibs c.args.plan.now.layout in
    let few : c.min-more.result ≤ c.loop-done.done = omega (arith, c.min-more.ensures) in
    omega (arith, long g (goal.at.repeat-requires-clause-there g c).After-min-more, mul-le-mul_right size few)

pub repeat-requires-clause-room : goal.repeat-requires-clause-room
repeat-requires-clause-room g c =
    let all : c.loop-done.done + c.min-more.result ≤ 128 =
    omega (arith, c.min-more.ensures, c.loop-done-test.true, c.requires.few) in
    let size : ℕ = 32 * frame_fibs c.args.plan.now.layout in
    let most = room (layout_mode c.args.plan.now.layout) c.loop-done.done c.min-more.result all in
    omega (arith, long g (goal.at.repeat-requires-clause-room g c).After-min-more, most)

pub loop-done-preserved : goal.loop-done-preserved
loop-done-preserved g c =
    let plan = c.args.plan.now in
    let s : State = state_of g.S.Store.content c.args.machine.now in
    let pages = c.args.pages.now in
    let count : ℕ = c.args.count in
    let done : ℕ = c.loop-done.done in
    let more : ℕ = c.min-more.result in
    let before = c.loop-done.invariant in
    let lt = c.loop-done-test.true in
    let few : more ≤ done = omega (arith, c.min-more.ensures) in
    let le : done + more ≤ count = omega (arith, c.min-more.ensures, lt) in
    let some : 1 ≤ count = omega (arith, lt) in
    let twice : done + more < count → done + more ≡ done + done = λ below. omega (arith, below, c.min-more.ensures) in
    let made = c.repeat.ensures in
    record {
      some = omega (arith, before.some);
      within = le;
      pages = λ below. ap (λ (x : ℕ). x % pages.made) (twice below) ∙ twice_whole done pages.made (before.pages lt);
      steps = λ below. ap (λ (x : ℕ). x % count_step (layout_mode plan.layout)) (twice below)
          ∙ twice_whole done (count_step (layout_mode plan.layout)) (before.steps lt);
      bytes = turn_on_turn _ _ _ _ _ _ _ _ _ _ _ c.requires.stretch c.requires.header (before.pages lt)
          (before.steps lt) some few le c.count_later.ensures before.bytes made.1 made.2;
    }
