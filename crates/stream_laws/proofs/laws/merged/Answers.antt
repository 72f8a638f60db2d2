use Rattle.stream_laws.proofs.Merging.{merged_are_heard_alike, merged_have_the_entries, merged_listeners}
use Rattle.stream_laws.proofs.Merging.{merged_faultless, merged_announced}
use Rattle.stream_laws.proofs.laws.merged.Goals as goal

pub returns-clause-heard : goal.returns-clause-heard
returns-clause-heard c = merged_are_heard_alike c.one_list.ensures c.filled.ensures.read c.filled.ensures.heard

pub returns-clause-entries : goal.returns-clause-entries
returns-clause-entries c = merged_have_the_entries c.filled.ensures.entries c.filled.ensures.length

pub returns-clause-listeners : goal.returns-clause-listeners
returns-clause-listeners c = merged_listeners (merged_are_heard_alike c.one_list.ensures c.filled.ensures.read
    c.filled.ensures.heard) c.listener.ensures

pub returns-clause-findings : goal.returns-clause-findings
returns-clause-findings c =
    merged_faultless c.filled.ensures.stream c.checked.ensures.framed c.checked.ensures.findings c.checked.ensures.room
    c.frames.ensures c.cutting.ensures c.no_false_alarm.ensures

pub returns-clause-swaps : goal.returns-clause-swaps
returns-clause-swaps c = merged_announced c.swaps.ensures
