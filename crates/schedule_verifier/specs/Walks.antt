-- What the verifier's steps through a code find.
use Rattle.std.specs.Prelude.{◌≡◌, ℕ, ◌+◌}
use Rattle.mux_types.specs.Configuration.{Configuration}
use Rattle.plan_code.specs.Program.{Program}
use Rattle.schedule_verifier.specs.Certificate.{Moment, LeadsOn}
use Rattle.schedule_verifier.specs.Regions.{Covers}
use Rattle.schedule_verifier.specs.declared.region.Region.{Region}
use Rattle.schedule_verifier.specs.declared.region.Answer.{Answer}
use Rattle.schedule_verifier.specs.declared.region.Answer.TheVariants.{Yes, No, Ask as AskFirst}
use Rattle.schedule_verifier.specs.declared.walk.Step.{Step}
use Rattle.schedule_verifier.specs.declared.walk.Step.TheVariants.{To, Leaf, Ask, Fails}

-- a test leads to the next instruction where it holds, else to its target
abbrev pub branch_of : Answer → (pc target : ℕ) → Step
branch_of Yes pc target = To (pc + 1)
branch_of No pc target = To target
branch_of (AskFirst question) pc target = Ask question

-- in the region, what the second instruction leads to from its configuration, the first one does from its own
abbrev pub Comes : Program → Region → ℕ → Configuration → ℕ → Configuration → Type 0
Comes code region pc old to new =
    (x : Moment) → x.code ≡ code → Covers region x.contacts x.day → LeadsOn x to new → LeadsOn x pc old

-- what one instruction leads to; one that leads nowhere else changes nothing
abbrev pub Passes : Program → Region → ℕ → Configuration → Step → Configuration → Type 0
Passes code region pc old (To to) new = Comes code region pc old to new
Passes code region pc old (Leaf at) new = (at ≡ pc) × (new ≡ old)
Passes code region pc old (Ask question) new = Unit {0}
Passes code region pc old Fails new = Unit {0}

-- what instructions lead to
abbrev pub WalksTo : Program → Region → ℕ → Configuration → Step → Configuration → Type 0
WalksTo code region pc old (Leaf at) new = Comes code region pc old at new
WalksTo code region pc old _ new = Unit {0}
