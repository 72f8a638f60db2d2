use Rattle.mux_tables.proofs.Words.{◌∙◌, ◌≡◌, List, None, Sub, ap, arith, entry_at, members, sub_key, subst, sym}
use Rattle.mux_tables.proofs.Words.{with_entry}
use Rattle.mux_tables.proofs.SubTables.{id_absent, id_room, added, added_in_place, ids_added}
use Rattle.mux_tables.proofs.sub_table.SubTable.insert.Goals as goal

pub insert-requires : goal.insert-requires
insert-requires c =
    let absent : entry_at sub_key c.args.sub.id (members c.self.inside.by_id) ≡ None =
    subst (λ (xs : List Sub). entry_at sub_key c.args.sub.id xs ≡ None) (sym c.self.view_is) c.requires in (
      omega arith,
      (
        id_absent c.self.inside.by_id c.self.inside.ids c.args.sub.id c.self.invariant.1 absent,
        id_room c.self.inside.by_id c.self.inside.ids c.args.sub.id (omega arith) (omega arith) c.self.invariant.0
            c.self.invariant.1 absent,
      ),
    )

pub invariant_of-self : goal.invariant_of-self
invariant_of-self c =
    let absent = subst (λ (xs : List Sub). entry_at sub_key c.args.sub.id xs ≡ None) (sym c.self.view_is) c.requires in
    let at = c.from-place.ensures ∙ c.get.ensures.value in (
      added_in_place c.self.inside.by_id c.args.sub c.from-place.result c.self.invariant.0 at,
      c.insert.ensures ∙ ids_added c.self.inside.by_id c.self.inside.ids c.args.sub c.from-place.result (omega arith)
          (omega arith) c.self.invariant.0 c.self.invariant.1 at absent,
    )

pub returns : goal.returns
returns c =
    let absent = subst (λ (xs : List Sub). entry_at sub_key c.args.sub.id xs ≡ None) (sym c.self.view_is) c.requires in
    added c.self.inside.by_id c.args.sub c.from-place.result (omega arith) (omega arith) c.self.invariant.0
    (c.from-place.ensures ∙ c.get.ensures.value) absent
    ∙ ap (with_entry sub_key c.args.sub) c.self.view_is
