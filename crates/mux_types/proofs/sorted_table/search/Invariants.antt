use Rattle.std.proofs.Common.{◌-◌, ◌<◌, ◌≤◌, length, get_or}
use Rattle.mux_types.proofs.Tables.{place_of}
use Rattle.mux_types.proofs.sorted_table.search.Given as goal

abbrev pub invariant-loop-low : goal.invariant-loop-low
invariant-loop-low g l = record {
  ordered : l.low ≤ l.high;
  within : l.high ≤ length l.entries;
  from : l.low ≤ place_of g.T.Keyed.key l.key l.entries;
  to : place_of g.T.Keyed.key l.key l.entries ≤ l.high;
  apart : (d : g.row.T.Denot) → l.high < length l.entries → l.key < g.T.Keyed.key (get_or l.entries l.high d);
}

abbrev pub decreases-loop-low : goal.decreases-loop-low
decreases-loop-low g l = l.high - l.low
