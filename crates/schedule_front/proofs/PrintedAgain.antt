-- A text has one list of tokens. So what is read from a printed schedule is alike.
use Rattle.schedule_front.proofs.Words.{[], ◌+◌, ◌∙◌, ◌∷◌, ◌≡◌, ◌≤◌, HasLexemes, List}
use Rattle.schedule_front.proofs.Words.{PrintedSchedulesAreRead, Spelled, Token, ap, arith, first_position}
use Rattle.schedule_front.proofs.Words.{lexemes_of, refl, sym, tokens_of, ℕ}
use Rattle.std.proofs.lemmas.Bool.{le-leb}
use Rattle.script_tokens.specs.declared.token.Limits.{Limits}
use Rattle.script_tokens.specs.Texts.{TokensFit, IsCutInto}
use Rattle.script_tokens.proofs.Pieces.{texts_are_cut}
use Rattle.script_front.proofs.Denoting.{ok_same, slices}
use Rattle.schedule_front.proofs.ReadingSchedules.{schedules_alike}

-- limits that no token of a list exceeds
abbrev reach : List Token → ℕ
reach [] = 0
reach (t ∷ ts) = t.end + (t.position.line + reach ts)

abbrev limited : ℕ → Limits
limited n = record { atom = n; line = n }

fit_within : (n : ℕ) (ts : List Token) → reach ts ≤ n → TokensFit (limited n) ts
fit_within n [] h = tt
fit_within n (t ∷ ts) h = (
  rw (le-leb t.end (t.start + n) (omega (arith, h)), le-leb t.position.line n (omega (arith, h))) refl,
  fit_within n ts (omega (arith, h)),
)

-- a text has the same tokens in all pieces that it can be put together of
pub same_words : (text : List ℕ) (v w : Spelled) → HasLexemes text v → HasLexemes text w → v ≡ w
same_words text v w h k =
    let one : List Token = tokens_of first_position h.pieces in
    let other : List Token = tokens_of first_position k.pieces in
    let n : ℕ = reach one + reach other in
    let cut : IsCutInto (limited n) text one = record {
      pieces = h.pieces;
      formed = h.formed;
      whole = h.whole;
      are = refl;
      within = fit_within n one (omega arith);
    } in
    let cut' : IsCutInto (limited n) text other = record {
      pieces = k.pieces;
      formed = k.formed;
      whole = k.whole;
      are = refl;
      within = fit_within n other (omega arith);
    } in
    let same : one ≡ other = ok_same one other _ ((texts_are_cut (limited n) text one).1 cut)
    ((texts_are_cut (limited n) text other).1 cut') in
    let here : lexemes_of text one ≡ v = rw (← h.whole) (slices [] first_position h.pieces refl) ∙ h.spelled in
    let there : lexemes_of text other ≡ w = rw (← k.whole) (slices [] first_position k.pieces refl) ∙ k.spelled in
    sym here ∙ ap (lexemes_of text) same ∙ there

pub printed_are_read : PrintedSchedulesAreRead
printed_are_read text s t x y d e =
    schedules_alike s t x y (same_words text _ _ d
    (record { pieces = e.pieces; formed = e.formed; whole = e.whole; spelled = e.spelled }))
