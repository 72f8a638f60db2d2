use Rattle.schedule_verifier.proofs.Words.{◌*◌, ◌+◌, ◌<◌, ◌∙◌, ◌≡◌, arith, false, sym, true}
use Rattle.schedule_verifier.proofs.Holding.{doubled, held_more}
use Rattle.schedule_verifier.proofs.combinations.held_of.Goals as goal
use Rattle.schedule_verifier.proofs.combinations.held_of.Goals.{in-Yes, in-No}

pub loop-left-preserved : goal.loop-left-preserved
loop-left-preserved c =
    let left = c.loop-left.left in
    let set = c.loop-left.set in
    let o = c.index-overlays-left.result in
    let some : 0 < left = omega (arith, c.loop-left-test.true) in
    let within = c.loop-left.invariant.0 in
    let twice = doubled _ left set some within c.loop-left.invariant.1 in
    let more = held_more c.args.region.now c.args.notice c.args.overlays.now left o o set in
    let so_far = c.loop-left.invariant.2 in
    elim c.match-condition.branch [
      | in-Yes w ↦
          let new : c.match-condition.set ≡ 1 + 2 * set = w.set-is ∙ w.with_first-set.ensures in (
            omega (arith, within),
            omega (arith, new, twice),
            λ contacts day h.
                more true some within c.index-overlays-left.is so_far (rw c.as_slice.ensures.value at w.in-Yes.ensures)
                contacts day h ∙ sym new,
          )
      | in-No w ↦
          let new : c.match-condition.set ≡ 0 + 2 * set = w.set-is ∙ w.with_first-set-in-No.ensures in (
            omega (arith, within),
            omega (arith, new, twice),
            λ contacts day h.
                more false some within c.index-overlays-left.is so_far (rw c.as_slice.ensures.value at w.in-No.ensures)
                contacts day h ∙ sym new,
          )
    ]
