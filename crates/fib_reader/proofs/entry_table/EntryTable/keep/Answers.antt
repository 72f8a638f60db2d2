use Rattle.fib_reader.proofs.Words.{◌||◌, ◌∙◌, ◌≤◌, List, ap, le-ltb, length, nat_lt, subst, sym, with_entry}
use Rattle.fib_reader.proofs.Words.{with_entry_changed}
use Rattle.fib_reader.proofs.Keeping.{known_if_found}
use Rattle.fib_reader.proofs.entry_table.EntryTable.keep.Goals as goal

pub returns-then-is_some-clause-room : goal.returns-then-is_some-clause-room
returns-then-is_some-clause-room g c =
    let known = known_if_found g.T.Keyed.key (g.T.Keyed.key (g.T.TableEntry.heard c.args.entry.now c.args.at)) _
    c.args.self.now c.get.result c.is_some.result
    c.is_some.ensures c.requires c.get.ensures.value in
    ap (λ b. b || nat_lt (length c.args.self.now) 64) (sym c.if-is_some.true ∙ known)

pub returns-then-is_some-clause-kept : goal.returns-then-is_some-clause-kept
returns-then-is_some-clause-kept g c = λ yes.
    let known = known_if_found g.T.Keyed.key (g.T.Keyed.key (g.T.TableEntry.heard c.args.entry.now c.args.at)) _
    c.args.self.now c.get.result c.is_some.result
    c.is_some.ensures c.requires c.get.ensures.value in
    rw (← sym c.if-is_some.true ∙ known) (c.replace.ensures ∙ ap (λ e. with_entry_changed g.T.Keyed.key e
    c.self.inside.table) c.heard.ensures ∙ ap (with_entry_changed g.T.Keyed.key
    (g.T.TableEntry.heard c.args.entry.now c.args.at)) c.self.view_is)

pub returns-then-is_full-clause-room : goal.returns-then-is_full-clause-room
returns-then-is_full-clause-room g c =
    let known = known_if_found g.T.Keyed.key (g.T.Keyed.key (g.T.TableEntry.heard c.args.entry.now c.args.at)) _
    c.args.self.now c.get.result c.is_some.result
    c.is_some.ensures c.requires c.get.ensures.value in
    let full = subst (λ (xs : List g.row.T.Denot). 64 ≤ length xs) c.self.view_is
    (c.is_full.ensures.0 c.if-is_full.true) in
    sym (le-ltb (length c.args.self.now) 64 full) ∙ ap (λ b. b || nat_lt (length c.args.self.now) 64)
    (sym c.if-is_some.false ∙ known)

pub returns-clause-kept : goal.returns-clause-kept
returns-clause-kept g c = λ yes.
    let known = known_if_found g.T.Keyed.key (g.T.Keyed.key (g.T.TableEntry.heard c.args.entry.now c.args.at)) _
    c.args.self.now c.get.result c.is_some.result
    c.is_some.ensures c.requires c.get.ensures.value in
    rw (← sym c.if-is_some.false ∙ known) (c.insert.ensures ∙ ap (λ e. with_entry g.T.Keyed.key e c.self.inside.table)
    c.heard-2.ensures ∙ ap (with_entry g.T.Keyed.key (g.T.TableEntry.heard c.args.entry.now c.args.at)) c.self.view_is)
