use Rattle.std.proofs.Common.{◌≡◌, length}
use Rattle.std.specs.List.{list_any}
use Rattle.fig_mentions.specs.Agreeing.{is_on}
use Rattle.fig_mentions.proofs.presence.has_on.Given as goal

abbrev pub invariant-loop-component : goal.invariant-loop-component
invariant-loop-component l = list_any (is_on l.sub) l.rest ≡ list_any (is_on l.sub) l.components

abbrev pub decreases-loop-component : goal.decreases-loop-component
decreases-loop-component l = length l.rest
