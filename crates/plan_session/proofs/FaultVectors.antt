-- Short texts that list no steps, and their faults.
use Rattle.plan_session.proofs.Words.{[], ◌∙◌, ◌∷◌, ◌≡◌, AllByRecursion, Begins, Break, Byte, Clear, Command, Contact}
use Rattle.plan_session.proofs.Words.{Err, EventFault, Expected, Frames, HasItemFault, IsBrace, IsCommand, IsDigits}
use Rattle.plan_session.proofs.Words.{IsStep, List, Memory, Next, Number, Ok, ReportsCommandFault, ReportsFirstFault}
use Rattle.plan_session.proofs.Words.{ReportsStepFault, Run, Show, Step, Token, WantsNumber, all_ascii_digits, ap}
use Rattle.plan_session.proofs.Words.{arith, codes, command_lexemes, cut_of, decimal, decimal_digit, decimal_injective}
use Rattle.plan_session.proofs.Words.{end_position, false, first_position, flat_map, get_or, inl, inr, length, refl}
use Rattle.plan_session.proofs.Words.{step_lexemes, subst, sym, token_at, true, ℕ}
use Rattle.script_tokens.specs.declared.fault.Position.{Position}
use Rattle.script_tokens.specs.Lexing.{lexed}
use Rattle.plan_session.specs.declared.command.Command.TheVariants.{Contact as ContactCommand}
use Rattle.plan_session.proofs.FaultLaws.{has_one_fault}
use Rattle.plan_session.proofs.FaultyItems.{begins_none}
use Rattle.plan_session.proofs.ItemTexts.{head_told}
use Rattle.plan_session.proofs.WrongItems.{digits_of_number}

abbrev at_column : ℕ → Position
at_column n = record { line = 1; column = n }

-- ---- what lists of steps begin with

brace_is : IsBrace (codes "{")
brace_is = inl refl

zero_is_no_brace : IsBrace (codes "0") → ⊥
zero_is_no_brace (inl e) = let first : 48 ≡ 123 = ap (λ (l : List ℕ). get_or l 0 0) e in absurd (omega (arith, first))
zero_is_no_brace (inr e) = let first : 48 ≡ 125 = ap (λ (l : List ℕ). get_or l 0 0) e in absurd (omega (arith, first))

zero_is_digits : IsDigits (codes "0")
zero_is_digits = record { some = omega arith; digits = refl }

brace_is_not : IsDigits (codes "{") → ⊥
brace_is_not d = let none : false ≡ true = d.digits in absurd cc

one_frame : AllByRecursion IsStep (Frames 1 ∷ [])
one_frame = ((omega arith, omega arith), tt)

frames_begins : Begins step_lexemes IsStep (codes "frames" ∷ [])
frames_begins = record { items = Frames 1 ∷ []; more = decimal 1 ∷ []; in_range = one_frame; whole = refl }

by_zero : (items : List Step) (more : List (List ℕ)) → AllByRecursion IsStep items
    → flat_map step_lexemes items ≡ codes "frames" ∷ codes "0" ∷ more → ⊥
by_zero [] more h e = absurd cc
by_zero (Contact c closed ∷ ss) more h e = let lengths : 7 ≡ 6 = ap length (head_told _ _ _ _ e).0 in
    absurd (omega (arith, lengths))
by_zero (Frames n ∷ ss) more h e =
    let number : decimal n ≡ decimal 0 = (head_told _ _ _ _ (head_told _ _ _ _ e).1).0
    ∙ sym (decimal_digit 0 (omega arith)) in
    let none : n ≡ 0 = decimal_injective n 0 (omega (arith, h.0.1)) (omega arith) number in
    absurd (omega (arith, none, h.0.0))

no_frames_begin_not : Begins step_lexemes IsStep (codes "frames" ∷ codes "0" ∷ []) → ⊥
no_frames_begin_not b = by_zero b.items b.more b.in_range b.whole

frames_want_a_number : WantsNumber step_lexemes IsStep (codes "frames" ∷ [])
frames_want_a_number = record {
  number = decimal 1;
  digits = digits_of_number 1 (omega arith);
  begins = record { items = Frames 1 ∷ []; more = []; in_range = one_frame; whole = refl };
}

absurd_digits : (word d : List ℕ) → all_ascii_digits word ≡ false → IsDigits d → word ≡ d → ⊥
absurd_digits word d other h e = let none : false ≡ true = sym other ∙ ap all_ascii_digits e ∙ h.digits in absurd cc

by_digits : (items : List Step) (d : List ℕ) (more : List (List ℕ)) → IsDigits d
    → flat_map step_lexemes items ≡ d ∷ more → ⊥
by_digits [] d more h e = absurd cc
by_digits (Contact c closed ∷ ss) d more h e = absurd_digits (codes "contact") d refl h (head_told _ _ _ _ e).0
by_digits (Frames n ∷ ss) d more h e = absurd_digits (codes "frames") d refl h (head_told _ _ _ _ e).0

-- a list does not begin with a number
none_want_no_number : WantsNumber step_lexemes IsStep [] → ⊥
none_want_no_number w = by_digits w.begins.items w.number w.begins.more w.digits w.begins.whole

-- ---- texts

past_frames : end_position (codes "frames") ≡ at_column 7
past_frames = refl

past_a_line : end_position (120 ∷ 10 ∷ []) ≡ at_column 1 → ⊥
past_a_line e = let lines : 2 ≡ 1 = ap (λ (p : Position). p.line) e in absurd (omega (arith, lines))

-- no text that is cut into tokens has another first fault
first_by : (text : List ℕ) (tokens : List Token) (fault : EventFault) → cut_of text ≡ Ok tokens
    → ReportsFirstFault text fault
first_by text tokens fault cut = λ e is.
    let both : Ok tokens ≡ Err e = sym cut ∙ is in
    absurd cc

zero_frames_cut : cut_of (codes "frames 0")
    ≡ Ok (token_at first_position 6 ∷ record { start = 7; end = 8; position = at_column 8 } ∷ [])
unfolding lexed
zero_frames_cut = refl

-- `frames 0` is refused with `1:8: Number`
zero_frames : ReportsStepFault (codes "frames 0") (Number (at_column 8))
zero_frames = λ tokens cut.
    let same : tokens ≡ token_at first_position 6 ∷ record { start = 7; end = 8; position = at_column 8 } ∷ [] =
    cc (sym cut ∙ zero_frames_cut) in
    subst (λ (l : List Token). HasItemFault step_lexemes IsStep (codes "frames 0") l (Number (at_column 8))) (sym same)
    (record {
      front = token_at first_position 6 ∷ [];
      rest = record { start = 7; end = 8; position = at_column 8 } ∷ [];
      whole = refl;
      begins = frames_begins;
      fault_is = (refl, no_frames_begin_not, frames_want_a_number, zero_is_no_brace);
    })

-- and with nothing else
zero_frames_only : (fault : EventFault) → ReportsStepFault (codes "frames 0") fault → Number (at_column 8) ≡ fault
zero_frames_only fault h =
    let law = has_one_fault step_lexemes IsStep in
    law.one (codes "frames 0") (Number (at_column 8)) fault
    (first_by (codes "frames 0") _ (Number (at_column 8)) zero_frames_cut) zero_frames
    (first_by (codes "frames 0") _ fault zero_frames_cut) h

not_expected : ReportsStepFault (codes "frames 0") (Expected (at_column 8)) → ⊥
not_expected h = let same = zero_frames_only (Expected (at_column 8)) h in absurd cc

not_before : ReportsStepFault (codes "frames 0") (Number (at_column 1)) → ⊥
not_before h = let same : 8 ≡ 1 = ap column (zero_frames_only (Number (at_column 1)) h) in absurd (omega (arith, same))
  where
    column : EventFault → ℕ
    column (Number p) = p.column
    column (Expected p) = p.column
    column (Byte p) = p.column
    column Memory = 0

word_cut : cut_of (codes "x") ≡ Ok (token_at first_position 1 ∷ [])
unfolding lexed
word_cut = refl

by_word : (items : List Command) (more : List (List ℕ)) → flat_map command_lexemes items ≡ codes "x" ∷ more → ⊥
by_word [] more e = absurd cc
by_word (ContactCommand c closed ∷ ss) more e = let n : 7 ≡ 1 = ap length (head_told _ _ _ _ e).0 in
    absurd (omega (arith, n))
by_word (Run n ∷ ss) more e = let n : 3 ≡ 1 = ap length (head_told _ _ _ _ e).0 in absurd (omega (arith, n))
by_word (Next ∷ ss) more e = let n : 4 ≡ 1 = ap length (head_told _ _ _ _ e).0 in absurd (omega (arith, n))
by_word (Break line ∷ ss) more e = let n : 5 ≡ 1 = ap length (head_told _ _ _ _ e).0 in absurd (omega (arith, n))
by_word (Clear ∷ ss) more e = let n : 5 ≡ 1 = ap length (head_told _ _ _ _ e).0 in absurd (omega (arith, n))
by_word (Show ∷ ss) more e = let n : 4 ≡ 1 = ap length (head_told _ _ _ _ e).0 in absurd (omega (arith, n))

commands_not_of_digits : (items : List Command) (d : List ℕ) (more : List (List ℕ)) → IsDigits d
    → flat_map command_lexemes items ≡ d ∷ more → ⊥
commands_not_of_digits [] d more h e = absurd cc
commands_not_of_digits (ContactCommand c closed ∷ ss) d more h e =
    absurd_digits (codes "contact") d refl h (head_told _ _ _ _ e).0
commands_not_of_digits (Run n ∷ ss) d more h e = absurd_digits (codes "run") d refl h (head_told _ _ _ _ e).0
commands_not_of_digits (Next ∷ ss) d more h e = absurd_digits (codes "next") d refl h (head_told _ _ _ _ e).0
commands_not_of_digits (Break line ∷ ss) d more h e = absurd_digits (codes "break") d refl h (head_told _ _ _ _ e).0
commands_not_of_digits (Clear ∷ ss) d more h e = absurd_digits (codes "clear") d refl h (head_told _ _ _ _ e).0
commands_not_of_digits (Show ∷ ss) d more h e = absurd_digits (codes "show") d refl h (head_told _ _ _ _ e).0

-- as a command file `x` is refused with `1:1: Expected`
word_is_no_command : ReportsCommandFault (codes "x") (Expected (at_column 1))
word_is_no_command = λ tokens cut.
    let same : tokens ≡ token_at first_position 1 ∷ [] = cc (sym cut ∙ word_cut) in
    subst (λ (l : List Token). HasItemFault command_lexemes IsCommand (codes "x") l (Expected (at_column 1))) (sym same)
    (record {
      front = [];
      rest = token_at first_position 1 ∷ [];
      whole = refl;
      begins = begins_none command_lexemes IsCommand;
      fault_is = (
        refl,
        λ b. by_word b.items b.more b.whole,
        λ w. absurd (commands_not_of_digits w.begins.items w.number w.begins.more w.digits w.begins.whole),
      );
    })

word_is_no_number : ReportsCommandFault (codes "x") (Number (at_column 1)) → ⊥
word_is_no_number h =
    let law = has_one_fault command_lexemes IsCommand in
    let same = law.one (codes "x") (Expected (at_column 1)) (Number (at_column 1))
    (first_by (codes "x") _ (Expected (at_column 1)) word_cut) word_is_no_command
    (first_by (codes "x") _ (Number (at_column 1)) word_cut) h in
    absurd cc
