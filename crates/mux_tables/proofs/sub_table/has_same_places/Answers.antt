use Rattle.mux_tables.proofs.Words.{◌∙◌, List, Option, Sub, ap, arith, false≢true, members, refl, sym}
use Rattle.mux_tables.proofs.SubTables.{with_default, same_place, all_same}
use Rattle.mux_tables.proofs.sub_table.has_same_places.Goals as goal

pub returns-then-not-is_same_entry : goal.returns-then-not-is_same_entry
returns-then-not-is_same_entry c = (
  λ e. absurd (false≢true e),
  λ e.
      let i = c.loop-place.place in
      let same = same_place c.args.one.now c.args.other.now i c.requires.one c.requires.other e in
      let here = with_default _ i _ (omega arith) ∙ same ∙ sym (with_default _ i _ (omega arith)) in
      sym c.if-not-is_same_entry.true ∙ c.is_same_entry.ensures.1 here,
)

pub returns : goal.returns
returns c =
    let same = all_same c.args.one.now c.args.other.now (omega arith)
    (λ i lt. c.loop-place.invariant i (omega arith)) in
    (λ e. ap (λ (ps : List (Option Sub)). members ps) same, λ e. refl)
