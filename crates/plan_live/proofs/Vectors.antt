-- Lines and the steps that they list: each definition where it holds, and where it fails.
use Rattle.plan_live.proofs.Words.{[], ◌∷◌, ◌≡◌, Err, Event, Frame, Frames, Grows, HoldsOneList, LineDoes, LineHolds}
use Rattle.plan_live.proofs.Words.{LinesDo, List, ListsNone, Ok, Playing, Program, Result, Some, State, Step, ap, arith}
use Rattle.plan_live.proofs.Words.{code, codes, first_state, inl, label, length, refl, replicate, sym, ℕ}
use Rattle.std.proofs.lemmas.Fmt.{decimal_digit}
use Rattle.script_tokens.specs.declared.fault.ScriptFault.{ScriptFault}
use Rattle.script_tokens.specs.declared.token.Token.{Token}
use Rattle.script_tokens.specs.declared.token.Inside.TheVariants.{Nothing}
use Rattle.script_tokens.specs.declared.token.TheConstants.{NO_LIMITS}
use Rattle.script_tokens.specs.Bytes.{first_position}
use Rattle.mux_config.specs.Configuration.{nothing}
use Rattle.plan_code.specs.declared.instr.Line.{Line}
use Rattle.plan_code.specs.declared.instr.Instr.TheVariants.{Wait, End as EndOfPlan}
use Rattle.script_tokens.specs.declared.fault.ScriptFault.TheVariants.{Byte as ByteAt}
use Rattle.script_tokens.specs.Lexing.{lexed}

-- ---- values shared by these vectors: a code of an empty multiplex that waits for a frame and ends

abbrev instructions : List Line
instructions = record { number = 1; instr = Wait 1 } ∷ record { number = 2; instr = EndOfPlan } ∷ []

abbrev pub waits : Program
waits = code (label 0 1 ∷ []) instructions

abbrev pub first : State
first = first_state nothing 0

abbrev pub fresh : Playing
fresh = record { code = waits; state = first; steps = 0 }

abbrev pub frames : ℕ → List Event
frames n = replicate n Frame

-- ---- lists that grow

by_one : Grows {A = ℕ} (Some (1 ∷ [])) (Some (1 ∷ 7 ∷ [])) (7 ∷ [])
by_one = refl

by_another : Grows {A = ℕ} (Some []) (Some []) (1 ∷ []) → ⊥
by_another h = let n : 0 ≡ 1 = ap (λ (l : List ℕ). length l) h in omega (arith, n)

-- ---- a line

abbrev pub two_frames : List ℕ
two_frames = codes "frames 2"

pub two_are_held : LineHolds two_frames (Frames 2 ∷ [])
unfolding lexed lib.Utf8.encode
two_are_held =
    let n : length two_frames ≡ 8 = refl in
    record {
      short = omega (arith, n);
      text = (two_frames, (refl, refl));
      holds = record {
        tokens = record { start = 0; end = 6; position = record { line = 1; column = 1 } }
            ∷ record { start = 7; end = 8; position = record { line = 1; column = 8 } } ∷ [];
        cut = refl;
        lexemes = ap (λ (digits : List ℕ). codes "frames" ∷ digits ∷ []) (sym (decimal_digit 2 (omega arith)));
        in_range = ((omega arith, omega arith), tt);
      };
    }

-- a line lists no other steps than these, by the law that a text lists at most one list of steps
pub only_two : HoldsOneList → (steps : List Step) → LineHolds two_frames steps → steps ≡ Frames 2 ∷ []
only_two law steps h = law two_frames steps (Frames 2 ∷ []) h.holds two_are_held.holds

not_none : HoldsOneList → LineHolds two_frames [] → ⊥
not_none law h = let n : 0 ≡ 1 = ap (λ (l : List Step). length l) (only_two law [] h) in omega (arith, n)

-- `@` is not allowed in an event file
abbrev pub at_sign : List ℕ
at_sign = 64 ∷ []

not_cut : (tokens : List Token) → lexed NO_LIMITS Nothing first_position at_sign ≡ Ok tokens → ⊥
unfolding lexed
not_cut tokens cut =
    let fault : Result (List Token) ScriptFault = Err (ByteAt first_position.position) in
    let same : fault ≡ Ok tokens = cut in
    absurd cc

pub no_steps : ListsNone at_sign
no_steps = λ steps h. not_cut h.holds.tokens h.holds.cut

pub some_steps : ListsNone two_frames → ⊥
some_steps h = h (Frames 2 ∷ []) two_are_held

-- ---- the steps of lines

pub two_are_played : LineDoes two_frames (Frames 2 ∷ [])
two_are_played = inl two_are_held

no_line : LinesDo [] (Frames 2 ∷ []) → ⊥
no_line h = let n : 1 ≡ 0 = ap (λ (l : List Step). length l) h in omega (arith, n)
