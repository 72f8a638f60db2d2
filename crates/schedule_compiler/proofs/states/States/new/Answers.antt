use Rattle.std.proofs.Common.{◌∙◌, ◌<◌, ◌≡◌, Some, ap, arith, get_or, length, slice_get, sym, ℕ}
use Rattle.std.proofs.lemmas.Option.{slice_get-get_or}
use Rattle.schedule_compiler.proofs.Blaming.{among_more, blamed_here, fine_more}
use Rattle.schedule_compiler.proofs.states.States.new.Goals as goal

pub returns-in-Err-clause-blamed : goal.returns-in-Err-clause-blamed
returns-in-Err-clause-blamed c =
    let sets = c.args.combinations.now.sets.items in
    let i = c.loop-set.set-index in
    let set = get_or c.as_slice-set-items.result.now i 0 in
    let lt : i < length c.as_slice-set-items.result.now = omega (arith, c.loop-set-test.true) in
    let there : slice_get sets i ≡ Some set =
    rw (sym c.as_slice-set-items.ensures) (slice_get-get_or c.as_slice-set-items.result.now i 0 lt) in
    blamed_here c.args.schedule.now sets i set c.in-Err.fault there c.loop-set.invariant.0 c.in-Err.ensures.blamed

pub loop-set-preserved : goal.loop-set-preserved
loop-set-preserved c =
    let sets = c.args.combinations.now.sets.items in
    let s = c.args.schedule.now in
    let i = c.loop-set.set-index in
    let set = get_or c.as_slice-set-items.result.now i 0 in
    let lt : i < length c.as_slice-set-items.result.now = omega (arith, c.loop-set-test.true) in
    let there : slice_get sets i ≡ Some set =
    rw (sym c.as_slice-set-items.ensures) (slice_get-get_or c.as_slice-set-items.result.now i 0 lt) in
    let named : slice_get sets i ≡ Some c.in-Ok.state.overlays =
    there ∙ ap (λ (n : ℕ). Some n) (sym c.in-Ok.ensures.of) in (
      fine_more s sets i set there c.in-Ok.ensures.fine c.loop-set.invariant.0,
      among_more s sets c.loop-set.list.items c.place.new.list.items c.in-Ok.state i named c.in-Ok.ensures.made
          c.loop-set.invariant.1 c.place.ensures,
    )
