use Rattle.mux_tables.proofs.Words.{◌∙◌, List, Sub, ap, at_start, changed_here, entry_at, entry_key, sub_key, sym, ℕ}
use Rattle.mux_tables.proofs.store.TablesStore.move_sub_known.Goals as goal

pub replace-requires-clause-there : goal.replace-requires-clause-there
replace-requires-clause-there c =
    let found = sym c.get.ensures.value ∙ c.in-Some.is in
    ap (λ (n : ℕ). entry_at sub_key n c.args.self.now.subs)
    (entry_key sub_key c.args.id c.args.self.now.subs c.in-Some.sub found) ∙ found

pub returns-in-Some : goal.returns-in-Some
returns-in-Some c =
    let found = sym c.get.ensures.value ∙ c.in-Some.is in
    let same = changed_here sub_key c.args.id (at_start c.args.start) c.args.self.now.subs c.in-Some.sub
    c.get.ensures.configuration.subs_ascend found (entry_key _ _ _ _ found) in
    c.replace.ensures ∙ ap (λ (xs : List Sub). record c.args.self.now { subs = xs }) same
