use Rattle.mux_tables.proofs.Words.{◌∙◌, ◌≡◌, List, Some, Sub, ap, changed_absent, entry_at, members, sub_key, sym}
use Rattle.mux_tables.proofs.Words.{with_entry_changed}
use Rattle.mux_tables.proofs.SubTables.{added_in_place, changed, ids_changed}
use Rattle.mux_tables.proofs.sub_table.SubTable.replace.Goals as goal

pub invariant_of-self : goal.invariant_of-self
invariant_of-self c =
    let at = c.from-place.ensures ∙ c.get-in-Some.ensures.value in
    let there : entry_at sub_key c.args.sub.id (members c.self.inside.by_id) ≡ Some c.in-Some._old =
    ap (λ (xs : List Sub). entry_at sub_key c.args.sub.id xs) c.self.view_is ∙ sym c.get.ensures.value
    ∙ c.in-Some.is in (
      added_in_place c.self.inside.by_id c.args.sub c.from-place.result c.self.invariant.0 at,
      ids_changed c.self.inside.by_id c.self.inside.ids c.in-Some._old c.args.sub c.from-place.result c.self.invariant.0
          c.self.invariant.1 at there,
    )

pub returns-in-Some : goal.returns-in-Some
returns-in-Some c =
    let at = c.from-place.ensures ∙ c.get-in-Some.ensures.value in
    let there : entry_at sub_key c.args.sub.id (members c.self.inside.by_id) ≡ Some c.in-Some._old =
    cc (c.self.view_is, c.get.ensures.value, c.in-Some.is) in
    changed _ _ _ _ c.self.invariant.0 at there ∙ ap (with_entry_changed sub_key c.args.sub) c.self.view_is

pub returns-in-None : goal.returns-in-None
returns-in-None c = sym (changed_absent sub_key c.args.sub c.args.self.now (sym c.get.ensures.value ∙ c.in-None.is))
