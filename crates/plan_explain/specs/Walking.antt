-- What is known along a code, as it is followed from its first instruction. No public contract refers to it.
use Rattle.std.specs.Prelude.{◌≡◌, ℕ, if◌then◌else◌, List, [], slice_get, Option, Some, None}
use Rattle.mux_types.specs.Configuration.{Configuration}
use Rattle.plan_code.specs.declared.label.Label.{Label}
use Rattle.plan_code.specs.declared.instr.Line.{Line}
use Rattle.plan_code.specs.Program.{Program, label_at}
use Rattle.plan_verifier.specs.Flows.{Flow, flow_of}
use Rattle.plan_verifier.specs.Rules.{commits}
use Rattle.plan_verifier.specs.Typing.{Known}
use Rattle.plan_explain.specs.declared.warning.Warning.{Warning}
use Rattle.plan_explain.specs.ConfigurationChanges.{between}

abbrev pub or_else : Option Configuration → Configuration → Configuration
or_else None other = other
or_else (Some c) other = c

abbrev pub at_label : Program → Option Label → Flow → Flow
at_label p None f = f
at_label p (Some l) f =
    record {
      current = or_else (slice_get p.configurations l.cur) f.current;
      next = or_else (slice_get p.configurations l.next) f.next;
      pending = l.pending;
    }

-- at an instruction, given what the one before it left
abbrev pub entered : Program → ℕ → Flow → Flow
entered p pc f = at_label p (label_at p pc) f

-- what is known at an instruction
abbrev pub Knows : Program → List Known → ℕ → Flow → Type 0
Knows p typing pc f = (t : Known) → slice_get typing pc ≡ Some t → entered p pc f ≡ flow_of t

abbrev pub at_flow : Line → Flow → List Warning
at_flow l f = if commits l.instr then between l.number f.current f.next else []
