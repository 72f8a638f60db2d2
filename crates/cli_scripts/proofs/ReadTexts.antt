-- What is said of the text that was read of a file is so of the whole file: it is no script if it was not read to its
-- end.
use Rattle.cli_scripts.proofs.Words.{◌<◌, ◌∙◌, ◌≡◌, ◌≤◌, Compiled, Err, IfOk, IfSome, IsCompiled, IsCompiledFrom}
use Rattle.cli_scripts.proofs.Words.{IsReadOf, IsReason, IsRefusedFrom, IsUncompiled, IsUtf8, List, Memory, None, Ok}
use Rattle.cli_scripts.proofs.Words.{OnOk, Option, Result, Script, ScriptRefusal, Some, ap, arith, cases_lt, inl, inr}
use Rattle.cli_scripts.proofs.Words.{length, length-take, min, subst, sym, take, take-take, take_all, ℕ}
use Rattle.script_front.specs.Denoting.{IsScriptOf}
use Rattle.schedule_front.specs.Denoting.{IsScheduleOf}
use Rattle.schedule_front.specs.Sources.{IsNoSource}
use Rattle.script_tokens.specs.Texts.{MOST_BYTES}
use Rattle.cli_scripts.specs.declared.compile.ScriptRefusal.TheVariants.{Plan, Schedule as ScheduleFault}

-- what is so of a value, if there is one, and what is so beside it
pub both_ok : {A E : Type 0} (given : Result A E) (P Q : A → Type 0) (U : Type 0) → ((a : A) → P a → U → Q a)
    → IfOk given P → OnOk given U → IfOk given Q
both_ok (Ok a) P Q U more p u = more a p u
both_ok (Err e) P Q U more p u = tt

-- what follows from the first bytes of a file, where its bytes are known
pub of_known : (known : Option (List ℕ)) (most : ℕ) (read text : List ℕ) (Q : List ℕ → Type 0) → text ≡ read
    → IfSome known (λ bytes. read ≡ take most bytes)
    → ((bytes : List ℕ) → text ≡ take most bytes → Q bytes) → IfSome known Q
of_known None most read text Q same is more = tt
of_known (Some bytes) most read text Q same is more = more bytes (same ∙ is)

-- the first bytes of a file, and the whole characters of these
read_of : (most : ℕ) (bytes read text : List ℕ) → read ≡ take most bytes → (length read < most → text ≡ read)
    → (most ≤ length read → MOST_BYTES < length text)
    → text ≡ take (length text) read → IsUtf8 text → IsReadOf bytes text
read_of most bytes read text is short long front utf8 =
    let cut : length text ≡ min (length text) (length read) = ap length front ∙ length-take (length text) read in
    let size : length read ≡ min most (length bytes) = ap length is ∙ length-take most bytes in
    let within : length text ≤ most = omega (arith, cut, size) in
    let first : text ≡ take (length text) bytes = front ∙ ap (take (length text)) is
    ∙ take-take (length text) most bytes within in
    elim (cases_lt (length read) most) [
      | inl lt ↦ record {
        front = first;
        enough = inl (short lt ∙ is ∙ take_all most bytes (omega (arith, size, lt)));
        utf8 = utf8;
      }
      | inr ge ↦ record { front = first; enough = inr (long ge); utf8 = utf8 }
    ]

pub text_read : (most : ℕ) (bytes read kept text : List ℕ) → read ≡ take most bytes → (length read < most → kept ≡ read)
    → (most ≤ length read → MOST_BYTES < length kept)
    → kept ≡ take (length kept) read → text ≡ kept → IsUtf8 kept → IsReadOf bytes text
text_read most bytes read kept text is short long front same utf8 =
    subst (λ (t : List ℕ). IsReadOf bytes t) (sym same) (read_of most bytes read kept is short long front utf8)

pub whole_of : (bytes text : List ℕ) → IsReadOf bytes text → length text ≤ MOST_BYTES → text ≡ bytes
whole_of bytes text r fits = elim r.enough [
  | inl e ↦ e
  | inr more ↦ absurd (omega (arith, fits, more))
]

pub compiled_whole : (bytes text : List ℕ) (c : Compiled) → IsReadOf bytes text → IsCompiled text c
    → IsCompiledFrom bytes c
compiled_whole bytes text c r h =
    let e : text ≡ bytes = whole_of bytes text r (short_of h) in
    record { utf8 = subst IsUtf8 e r.utf8; compiled = subst (λ (t : List ℕ). IsCompiled t c) e h }
  where
    short_of : IsCompiled text c → length text ≤ MOST_BYTES
    short_of (inl steps) = steps.2.denotes.short
    short_of (inr schedule) = schedule.2.denotes.short

-- a file that is short enough for a script was read to its end
pub whole_if_short : (bytes text : List ℕ) → IsReadOf bytes text → length bytes ≤ MOST_BYTES → text ≡ bytes
whole_if_short bytes text r short = elim r.enough [
  | inl e ↦ e
  | inr more ↦
      let cut : length text ≡ min (length text) (length bytes) = ap length r.front ∙ length-take (length text) bytes in
      absurd (omega (arith, cut, more, short))
]

pub none_in_whole : (bytes text : List ℕ) → IsReadOf bytes text → IsNoSource text → IsNoSource bytes
none_in_whole bytes text r none = (
  λ tree script is.
      none.0 tree script (subst (λ (t : List ℕ). IsScriptOf t tree) (sym (whole_if_short bytes text r is.short)) is),
  λ tree schedule is.
      none.1 tree schedule
      (subst (λ (t : List ℕ). IsScheduleOf t tree) (sym (whole_if_short bytes text r is.short)) is),
)

pub refused_whole : (bytes text : List ℕ) (refusal : ScriptRefusal) → IsReadOf bytes text → IsUncompiled text refusal
    → IsReason refusal → IsRefusedFrom bytes refusal
refused_whole bytes text (Script fault) r h reason =
    record { uncompiled = none_in_whole bytes text r h; reason = reason }
refused_whole bytes text (Plan fault) r h reason =
    let e : text ≡ bytes = whole_of bytes text r h.2.short in
    record { uncompiled = subst (λ (t : List ℕ). IsUncompiled t (Plan fault)) e h; reason = reason }
refused_whole bytes text (ScheduleFault fault) r h reason =
    let e : text ≡ bytes = whole_of bytes text r h.2.short in
    record { uncompiled = subst (λ (t : List ℕ). IsUncompiled t (ScheduleFault fault)) e h; reason = reason }
refused_whole bytes text Memory r h reason = absurd reason
