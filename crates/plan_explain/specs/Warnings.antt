-- The warnings about a script and its code, and when each is true.
use Rattle.std.specs.Prelude.{◌≡◌, ℕ, ◌⊎◌, true, List, slice_get, Some}
use Rattle.mux_types.specs.Configuration.{Configuration, nothing}
use Rattle.plan_code.specs.declared.instr.Line.{Line}
use Rattle.plan_code.specs.Program.{Program}
use Rattle.plan_verifier.specs.Rules.{commits}
use Rattle.plan_verifier.specs.Typing.{Known, IsTyping}
use Rattle.script_front.specs.Tree.{Tree}
use Rattle.plan_explain.specs.declared.flaw.Flaw.{Flaw}
use Rattle.plan_explain.specs.declared.primary.Primary.{Primary}
use Rattle.plan_explain.specs.declared.warning.Warning.{Warning}
use Rattle.plan_explain.specs.declared.warning.Warning.TheVariants.{Flawed, OtherPrimary, WaitsForTime, Unreached, Late}
use Rattle.plan_explain.specs.declared.warning.Warning.TheVariants.{NextDay, Trapped}
use Rattle.plan_explain.specs.Flaws.{HasFlaw}
use Rattle.plan_explain.specs.Primaries.{IsOtherPrimary}
use Rattle.plan_explain.specs.Beginnings.{WaitsFirst}
use Rattle.plan_explain.specs.Blocks.{IsUnreached}
use Rattle.plan_explain.specs.LateUntils.{HasLateUntil}
use Rattle.plan_explain.specs.DayWaits.{HasDayWaitIn}
use Rattle.plan_explain.specs.DayTraps.{HasTrap}

-- ---- what comes on air, and what was there before

-- the plan begins with a configuration, in the line of `begin`
pub record IsFirstOnAir (code : Program) (after : Configuration) : Type 0 where
  pub typing : List Known
  pub is : IsTyping code typing
  pub known : Known
  pub there : slice_get typing 0 ≡ Some known
  pub same : after ≡ known.current

-- a commit from this line changes one configuration into another: so they are known at its instruction
pub record IsCommit (code : Program) (line : ℕ) (before after : Configuration) : Type 0 where
  pub typing : List Known
  pub is : IsTyping code typing
  pub pc : ℕ
  pub instr : Line
  pub known : Known
  pub there : slice_get code.lines pc ≡ Some instr
  pub at : slice_get typing pc ≡ Some known
  pub commits : commits instr.instr ≡ true
  pub from : instr.number ≡ line
  pub was : before ≡ known.current
  pub is_next : after ≡ known.next

abbrev pub Comes : Tree → Program → ℕ → Configuration → Configuration → Type 0
Comes script code line before after =
    ((line ≡ script.begin_line) × (before ≡ nothing) × IsFirstOnAir code after) ⊎ IsCommit code line before after

-- ---- when a warning is true

pub record IsNewFlaw (script : Tree) (code : Program) (line : ℕ) (flaw : Flaw) : Type 0 where
  pub before : Configuration
  pub after : Configuration
  pub comes : Comes script code line before after
  pub has : HasFlaw after flaw
  pub had_not : HasFlaw before flaw → ⊥

pub record IsNewPrimary (script : Tree) (code : Program) (line : ℕ) (p : Primary) : Type 0 where
  pub before : Configuration
  pub after : Configuration
  pub comes : Comes script code line before after
  pub other : IsOtherPrimary before after p

abbrev pub IsWarranted : Tree → Program → Warning → Type 0
IsWarranted script code (Flawed line flaw) = IsNewFlaw script code line flaw
IsWarranted script code (OtherPrimary line primary) = IsNewPrimary script code line primary
IsWarranted script code (WaitsForTime wait) = WaitsFirst code.lines wait
IsWarranted script code (Unreached line) = IsUnreached code.lines script.blocks line
IsWarranted script code (Late until) = HasLateUntil script until
IsWarranted script code (NextDay wait) = HasDayWaitIn script wait
IsWarranted script code (Trapped trap) = HasTrap code.lines trap
