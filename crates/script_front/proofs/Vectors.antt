-- Short scripts that have the same tokens, and some that have not.
use Rattle.script_front.proofs.Words.{[], ◌++◌, ◌∷◌, ◌≡◌, ◌≢◌, ◌≤◌, Alternative, AreAlternatives, At, Early}
use Rattle.script_front.proofs.Words.{FrameLayout, I, IsPlan, IsScript, IsScriptOf, List, None, Plan, ReserveOne}
use Rattle.script_front.proofs.Words.{ReserveTwo, Some, Time, Tree, WaitAny, Whole, alternative_lexemes}
use Rattle.script_front.proofs.Words.{alternatives_lexemes, ap, arith, condition_at, condition_lexemes, content_of}
use Rattle.script_front.proofs.Words.{decimal, false, header_lexemes, letters, may_follow, moment_frame, not_after}
use Rattle.script_front.proofs.Words.{other_next, refl, reserve_lexemes, tree_lexemes, true, waiting_at, ℕ}
use Rattle.script_front.specs.declared.alternatives.Alternative.TheVariants.{Contact as OfContact, Until as OfMoment}
use Rattle.script_front.specs.declared.alternatives.Alternative.TheVariants.{Frames as OfFrames}
use Rattle.script_tokens.specs.Reading.{is_next, after}
use Rattle.script_front.specs.Readers.{header_at}
use Rattle.script_front.specs.BlockReader.{stops, script_at}
use Rattle.script_tokens.specs.declared.keyword.Keyword.TheVariants as the
use Rattle.script_front.proofs.FoundBlocks.{closing_stops}
use Rattle.script_front.proofs.ReadingWaits.{IsPast, one_found, any_found, condition_law}
use Rattle.script_front.proofs.ReadingHeaders.{header_found}
use Rattle.script_front.proofs.ReadingScripts.{scripts_are_read, scripts_alike, one_script}

-- `ensemble E1C5 period 4 notice 24 budget 20`, with this layout and period
abbrev headed : FrameLayout → (period : ℕ) → Plan
headed layout period = record { eid = 57797; layout = layout; period = period; notice = 24; budget = 20 }

-- such a header, and `begin` on this line
abbrev laid_out : FrameLayout → (period line : ℕ) → Tree
laid_out layout period line = record {
  header = headed layout period;
  items = [];
  names = [];
  blocks = [];
  begin_line = line;
  statements = [];
  last_line = line;
}

abbrev brief : (period line : ℕ) → Tree
brief period line = laid_out (Whole I) period line

headed_is : (layout : FrameLayout) (period : ℕ) → 1 ≤ period → period ≤ 60 → IsPlan (headed layout period)
headed_is layout period low high = record {
  ensemble = omega arith;
  period_from = low;
  period_to = high;
  notice_from = omega arith;
  notice_to = omega arith;
  budget_from = omega arith;
  budget_to = omega arith;
}

laid_out_is : (layout : FrameLayout) (period line : ℕ) → 1 ≤ period → period ≤ 60
    → IsScript (laid_out layout period line)
laid_out_is layout period line low high = record {
  headed = headed_is layout period low high;
  adding = λ k d lt. absurd (omega (arith, lt));
  named = λ k d lt. absurd (omega (arith, lt));
  different = λ i j d lt less. absurd (omega (arith, less));
  defined = refl;
  few_blocks = omega arith;
  blocks_fit = tt;
  fits = tt;
  few = omega arith;
}

brief_is : (period line : ℕ) → 1 ≤ period → period ≤ 60 → IsScript (brief period line)
brief_is period line low high = laid_out_is (Whole I) period line low high

-- lines do not change the tokens
on_other_lines : tree_lexemes (brief 4 2) ≡ tree_lexemes (brief 4 3)
on_other_lines = refl

-- another period does
of_other_periods : tree_lexemes (brief 4 2) ≢ tree_lexemes (brief 5 2)
of_other_periods e =
    let a = scripts_alike (brief 4 2) (brief 5 2) (brief_is 4 2 (omega arith) (omega arith))
    (brief_is 5 2 (omega arith) (omega arith)) e in
    let p : 4 ≡ 5 = ap (λ (h : Plan). h.period) a.header in omega (arith, p)

reserved : header_lexemes (headed (ReserveOne I) 4) ≡ header_lexemes (headed (Whole I) 4)
    ++ letters the.Reserve ∷ decimal 1 ∷ []
reserved = refl

two_reserved : reserve_lexemes ReserveTwo ≡ letters the.Reserve ∷ decimal 2 ∷ []
two_reserved = refl

-- a header is read, and `begin` is not read as one
header_read : header_at (header_lexemes (headed (Whole I) 4) ++ letters the.Begin ∷ [])
    ≡ Some (headed (Whole I) 4, letters the.Begin ∷ [])
header_read = header_found (headed (Whole I) 4) (letters the.Begin ∷ [])
    (headed_is (Whole I) 4 (omega arith) (omega arith)) (other_next the.Begin the.Reserve [] (λ e. cc))

no_header_read : header_at (letters the.Begin ∷ []) ≡ None
unfolding header_at
no_header_read = rw (not_after the.Begin the.Ensemble [] (λ e. cc)) refl

-- statements end at a closing brace, and not at `end`
stops_at_a_brace : stops (letters the.CloseBrace ∷ []) ≡ true
stops_at_a_brace = closing_stops []

goes_on_at_end : stops (letters the.End ∷ []) ≡ false
unfolding stops
goes_on_at_end = other_next the.End the.CloseBrace [] (λ e. cc)

-- a script without statements is read, and nothing is no script
script_is_read : script_at (record { lexemes = tree_lexemes (brief 4 0); lines = [] }) ≡ Some (content_of (brief 4 0))
script_is_read = scripts_are_read.found _ (brief 4 0) (brief_is 4 0 (omega arith) (omega arith))
    (record { spells = refl; lined = record { items = tt; blocks = tt; begin = refl; statements = tt; last = refl } })

nothing_is_read : script_at (record { lexemes = []; lines = [] }) ≡ None
unfolding script_at header_at after is_next
nothing_is_read = refl

-- ---- moments, alternatives and conditions

-- 250 frames before ten in the evening, 42 frames before the first second ends, and one frame before midnight
before_ten : moment_frame (Early 79200 250) ≡ 3299750
before_ten = refl

over_midnight : moment_frame (Early 0 1) ≡ 3599999
over_midnight = refl

-- `contact 3 closed or until 00:00:01 or 750`
abbrev three : List Alternative
three = OfContact 3 true ∷ OfMoment (At 1) ∷ OfFrames 750 ∷ []

three_are : AreAlternatives three
three_are = record {
  several = omega arith;
  few = omega arith;
  each = (omega arith, (omega arith, ((omega arith, omega arith), tt)));
  one_moment = omega arith;
  one_number = omega arith;
}

-- one alternative is too few, and two moments are too many
one_is_not : AreAlternatives (OfFrames 5 ∷ []) → ⊥
one_is_not h = let e = h.several in omega (arith, e)

no_more : IsPast (letters the.End ∷ [])
no_more = (other_next the.End the.Early [] (λ e. cc), other_next the.End the.Or [] (λ e. cc))

-- they are read in their order; a moment alone is not, and neither is a second number
three_are_read : waiting_at (alternatives_lexemes three ++ letters the.End ∷ [])
    ≡ Some (WaitAny three, letters the.End ∷ [])
three_are_read = any_found three (letters the.End ∷ []) three_are no_more

alone_is_not_read : waiting_at (alternative_lexemes (OfMoment (At 1)) ++ letters the.End ∷ []) ≡ None
alone_is_not_read = one_found (OfMoment (At 1)) (letters the.End ∷ []) (omega arith) no_more

second_number : may_follow (OfFrames 5 ∷ []) (OfFrames 6) ≡ false
second_number = refl

a_number_and_a_contact : may_follow (OfFrames 5 ∷ []) (OfContact 3 true) ≡ true
a_number_and_a_contact = refl

-- `time 22:00:00 to 06:00:00`
a_window_is_read : condition_at (condition_lexemes (Time 79200 21600) ++ letters the.OpenBrace ∷ [])
    ≡ Some (Time 79200 21600, letters the.OpenBrace ∷ [])
a_window_is_read = condition_law.found (Time 79200 21600) (letters the.OpenBrace ∷ []) (omega arith, omega arith)

-- no text is that of the same script on two different lines
on_one_line : (text : List ℕ) → IsScriptOf text (brief 4 2) → IsScriptOf text (brief 4 3) → ⊥
on_one_line text d e =
    let a = one_script text (brief 4 2) (brief 4 3) (brief_is 4 2 (omega arith) (omega arith))
    (brief_is 4 3 (omega arith) (omega arith)) d e in
    let line : 2 ≡ 3 = a.begin_line in omega (arith, line)
