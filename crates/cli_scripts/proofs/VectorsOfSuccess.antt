-- What success means, in small cases: examples that hold and that fail.
use Rattle.cli_scripts.proofs.Words.{[], ◌∷◌, ◌≡◌, Compiled, Compiles, Diffs, Done, End, Faulty, FindsCompiled}
use Rattle.cli_scripts.proofs.Words.{FrameScriptRequest, FramesScript, GivesFrame, HasPlan, HasScript, IsAcceptedFile}
use Rattle.cli_scripts.proofs.Words.{IsCompiledFrom, IsPlanText, IsReadOf, IsReason, IsScriptText, IsUtf8, List}
use Rattle.cli_scripts.proofs.Words.{ListenScriptRequest, Memory, Named, None, Ok, Opening, Refused, Script}
use Rattle.cli_scripts.proofs.Words.{TellsScript, Verifies, ap, arith, clamped, count_of, inl, inr, length, refl, subst}
use Rattle.cli_scripts.proofs.Words.{sym, take_all, ℕ}
use Rattle.plan_code.specs.Program.{Program, IsProgram}
use Rattle.plan_code.specs.Spelling.{code_bytes}
use Rattle.plan_verifier.proofs.Samples.{label, line, line_is, code, first_is}
use Rattle.plan_verifier.proofs.OneVerdict.{typed_if}
use Rattle.script_tokens.specs.declared.fault.ScriptFault.TheVariants.{Byte}

-- ---- what is read

all_of_it : (text : List ℕ) → IsUtf8 text → IsReadOf text text
all_of_it text utf8 = record { front = sym (take_all (length text) text (omega arith)); enough = inl refl; utf8 = utf8 }

not_its_front : IsReadOf (1 ∷ 2 ∷ []) (1 ∷ []) → ⊥
not_its_front h = elim h.enough [
  | inl e ↦ (let lengths : 1 ≡ 2 = ap length e in omega (arith, lengths))
  | inr more ↦ omega (arith, more)
]

-- ---- `compile`

memory_is_no_reason : IsReason Memory → ⊥
memory_is_no_reason h = h

a_byte_is_a_reason : IsReason (Script (Byte (record { line = 2; column = 13 })))
a_byte_is_a_reason e = absurd (cc)

its_own_file : (script : List ℕ) (c : Compiled) → IsCompiledFrom script c
    → Compiles script (λ file. file ≡ c.file.items) Done
its_own_file script c h = (c, h, refl)

done_without_a_file : (script : List ℕ) → Compiles script (λ file. ⊥) Done → ⊥
done_without_a_file script h = h.2

none_found_of_memory : (script : List ℕ) → ((why : FindsCompiled script None) → why.0 ≡ Memory → ⊥)
none_found_of_memory script why e = memory_is_no_reason (subst IsReason e why.1.reason)

-- ---- `verify`

-- a code that ends in its first frame
abbrev ending : Program
ending = code (label 0 1 ∷ []) (line End ∷ [])

ending_is : IsProgram ending
ending_is = first_is 1 (line End ∷ []) (omega arith) (omega arith) (line_is End tt, tt) (omega arith) (omega arith)

accepted : IsAcceptedFile (code_bytes ending)
accepted = (
  ending,
  record {
    read = record { program = ending_is; bytes = refl };
    typed = typed_if ending ending_is refl;
  },
)

done : Verifies (code_bytes ending) Done
done = accepted

not_refused : Verifies (code_bytes ending) Refused → ⊥
not_refused h = h accepted

-- ---- `diff`

printed_plan : (from to : Opening) (text : List ℕ) → IsPlanText from to text → HasPlan from to (λ t. t ≡ text) Done
printed_plan from to text plan = (text, plan, refl)

plan_not_printed : (from to : List ℕ) → Diffs from to (λ t. ⊥) Done → ⊥
plan_not_printed from to h = h.4.2

-- ---- `listen --script`

raised : clamped 12 248 3 ≡ 12
raised = refl

as_it_is : clamped 12 248 240 ≡ 240
as_it_is = refl

printed_script : (request : ListenScriptRequest) (named : Named) (text : List ℕ) → IsScriptText request named text
    → HasScript request named (λ t. t ≡ text) Done
printed_script request named text script = (text, script, refl)

script_not_printed : (stream : List ℕ) (request : ListenScriptRequest) → TellsScript stream request (λ t. ⊥) Done → ⊥
script_not_printed stream request h = h.2.2

-- ---- `frame --script`

raw_frame : (script : List ℕ) (request : FrameScriptRequest) (frame : List ℕ)
    → GivesFrame script (count_of request) request.page (Ok frame)
    → FramesScript script request (λ t. t ≡ frame) Done
raw_frame script request frame gives = (frame, gives, λ raw. refl)

never_faulty : (script : List ℕ) (request : FrameScriptRequest) → FramesScript script request (λ t. Unit {0}) Faulty → ⊥
never_faulty script request h = h
