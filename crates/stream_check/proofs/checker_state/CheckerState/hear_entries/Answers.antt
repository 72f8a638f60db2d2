use Rattle.stream_check.proofs.Words.{[], ◌∷◌, Bool, Hears, ap, entries_sent, not, subst}
use Rattle.stream_check.proofs.Loops.{sets_out, goes_on, breaks_off}
use Rattle.stream_check.proofs.checker_state.CheckerState.hear_entries.Goals as goal

pub loop-entry-init : goal.loop-entry-init
loop-entry-init g c = sets_out _ _ _ _ c.requires.sane

pub loop-entry-preserved : goal.loop-entry-preserved
loop-entry-preserved g c =
    goes_on c.args.at (entries_sent c.args.first c.args.next c.args.entries)
    (entries_sent c.args.first c.args.next c.loop-entry.entries)
    (entries_sent c.args.first c.args.next (c.in-Some.entry ∷ []))
    (entries_sent c.args.first c.args.next c.next.new.self)
    c.args.self.now c.loop-entry.self c.hear_entry.new.self (g.R.Report.reported c.args.report.now)
    (g.R.Report.reported c.loop-entry.report) (g.R.Report.reported c.hear_entry.new.report)
    (ap (entries_sent c.args.first c.args.next) c.in-Some.ensures.steps) c.hear_entry.ensures.later
    (subst (λ (t : Bool). Hears c.args.at (entries_sent c.args.first c.args.next (c.in-Some.entry ∷ []))
    c.loop-entry.self (g.R.Report.reported c.loop-entry.report) c.hear_entry.new.self
    (g.R.Report.reported c.hear_entry.new.report) (not t)) c.if-not-hear_entry.false c.hear_entry.ensures.heard)
    c.loop-entry.invariant

pub returns-then-not-hear_entry-clause-heard : goal.returns-then-not-hear_entry-clause-heard
returns-then-not-hear_entry-clause-heard g c =
    breaks_off c.args.at (entries_sent c.args.first c.args.next c.args.entries)
    (entries_sent c.args.first c.args.next c.loop-entry.entries)
    (entries_sent c.args.first c.args.next (c.in-Some.entry ∷ []))
    (entries_sent c.args.first c.args.next c.next.new.self)
    c.args.self.now c.loop-entry.self c.hear_entry.new.self (g.R.Report.reported c.args.report.now)
    (g.R.Report.reported c.loop-entry.report) (g.R.Report.reported c.hear_entry.new.report)
    (ap (entries_sent c.args.first c.args.next) c.in-Some.ensures.steps)
    (subst (λ (t : Bool). Hears c.args.at (entries_sent c.args.first c.args.next (c.in-Some.entry ∷ []))
    c.loop-entry.self (g.R.Report.reported c.loop-entry.report) c.hear_entry.new.self
    (g.R.Report.reported c.hear_entry.new.report) (not t)) c.if-not-hear_entry.true c.hear_entry.ensures.heard)
    c.loop-entry.invariant
