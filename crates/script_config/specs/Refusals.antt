-- Why there is no plan from one opening to another.
use Rattle.std.specs.Prelude.{◌≡◌, ◌≢◌, ◌*◌, ◌≤◌, Some, None}
use Rattle.fib_codec.specs.Layouts.{layout_mode}
use Rattle.fib_carousel.specs.Pages.{page_set, rounds}
use Rattle.script_config.specs.declared.opening.Opening.{Opening}
use Rattle.script_config.specs.declared.refusal.DiffFault.{DiffFault}
use Rattle.script_config.specs.declared.refusal.DiffFault.TheVariants.{AnotherEnsemble, NoChange, Round, Cost}

-- the pages of the configuration go out within the opening's own period
abbrev pub FitsPeriod : Opening → Type 0
FitsPeriod o = rounds o.header.layout (page_set o.config None) ≤ o.header.period

pub record IsOneEnsemble (from to : Opening) : Type 0 where
  pub eid : from.header.eid ≡ to.header.eid
  pub mode : layout_mode from.header.layout ≡ layout_mode to.header.layout

-- the pages of both, with the layout of the second opening, go out once within its period, and three times within its
-- notice
pub record HaveRoom (from to : Opening) : Type 0 where
  pub within_period : rounds to.header.layout (page_set from.config (Some to.config)) ≤ to.header.period
  pub three_times : 3 * rounds to.header.layout (page_set from.config (Some to.config)) ≤ to.header.notice

-- nothing prevents a plan
pub record CanBePlanned (from to : Opening) : Type 0 where
  pub one_ensemble : IsOneEnsemble from to
  pub changes : from.config ≢ to.config
  pub room : HaveRoom from to
  pub budget : 2 ≤ to.header.budget

-- this refusal applies, and none tested before it
abbrev pub IsInTheWay : Opening → Opening → DiffFault → Type 0
IsInTheWay from to AnotherEnsemble = IsOneEnsemble from to → ⊥
IsInTheWay from to NoChange = IsOneEnsemble from to × (from.config ≡ to.config)
IsInTheWay from to Round = IsOneEnsemble from to × (from.config ≢ to.config) × (HaveRoom from to → ⊥)
IsInTheWay from to Cost = IsOneEnsemble from to × (from.config ≢ to.config) × HaveRoom from to × (to.header.budget ≡ 1)
