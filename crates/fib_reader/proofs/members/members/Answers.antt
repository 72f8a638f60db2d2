use Rattle.fib_reader.proofs.Words.{◌<◌, ◌∙◌, ◌≡◌, ap, arith, length, length-map, length-take-le, raw_entry, rules, sym}
use Rattle.fib_reader.proofs.FromEntries.{above_all, none_says}
use Rattle.fib_reader.proofs.members.members.Goals as goal

pub returns-in_default-clause-none : goal.returns-in_default-clause-none
returns-in_default-clause-none g c = λ xs all says.
    none_says g.T.FromEntry.entry_of g.T.FromEntry.is_member xs c.args.kept.now c.loop-entry.entry-index
    c.entry-item.result c.value.result
    c.spelling.ensures.tells c.laws.ensures.within c.in_default.ensures.none all says c.loop-entry-test.true
    c.entry-item.is
    (sym c.as_raw_entry.ensures ∙ c.value.ensures.spelled) c.value.ensures.within

pub append-requires : goal.append-requires
append-requires g c =
    let size : length c.loop-entry.table ≡ c.loop-entry.entry-index =
    sym (length-map c.loop-entry.table (λ x. raw_entry (g.T.FromEntry.entry_of x)))
    ∙ ap length c.loop-entry.invariant.said
    ∙ length-take-le c.loop-entry.entry-index c.args.kept.now (omega arith) in
    let few : length c.loop-entry.table < 64 = omega arith in (
      search rules,
      (
        above_all g.T.Keyed.key (λ x. raw_entry (g.T.FromEntry.entry_of x)) g.T.FromEntry.is_member c.loop-entry.table
            c.args.kept.now
            c.loop-entry.entry-index c.in-Some.member c.entry-item.result c.laws.ensures.identified
            c.loop-entry.invariant.members
            c.in-Some.ensures.member c.loop-entry.invariant.said c.loop-entry-test.true c.entry-item.is
            (ap raw_entry c.in-Some.ensures.value ∙ sym (sym c.as_raw_entry.ensures ∙ c.value.ensures.spelled))
            c.requires.ascending,
        few,
      ),
    )
