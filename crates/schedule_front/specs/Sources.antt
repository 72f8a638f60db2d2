-- The script or the schedule of a text.
use Rattle.std.specs.Prelude.{ℕ, List}
use Rattle.script_front.specs.Denoting.{IsScriptOf, IsNoScript}
use Rattle.schedule_front.specs.declared.source.Source.{Source}
use Rattle.schedule_front.specs.declared.source.Source.TheVariants.{Steps, Schedule}
use Rattle.schedule_front.specs.Denoting.{IsScheduleOf, IsNoSchedule}

abbrev pub IsSourceOf : List ℕ → Source → Type 0
IsSourceOf text (Steps script) = IsScriptOf text script
IsSourceOf text (Schedule schedule) = IsScheduleOf text schedule

-- neither a script nor a schedule has this text
abbrev pub IsNoSource : List ℕ → Type 0
IsNoSource text = IsNoScript text × IsNoSchedule text
