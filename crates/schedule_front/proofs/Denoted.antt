-- The printed lines of a schedule have its tokens.
use Rattle.schedule_front.proofs.Words.{[], ◌++◌, ◌∙◌, ◌∷◌, ◌≡◌, All, AllByRecursion, AreEdits, AreTests, AreWords}
use Rattle.schedule_front.proofs.Words.{Contact, Denotes, IsName, IsOverlay, IsSchedule, IsTest, Line, List}
use Rattle.schedule_front.proofs.Words.{Overlay, OverlayEdit, Spelled, Test, Time, Tree, and_lexemes, ap, append_assoc}
use Rattle.schedule_front.proofs.Words.{arith, closing, condition_lexemes, decimal_word, edits_lexemes, edits_lines}
use Rattle.schedule_front.proofs.Words.{first_lexemes, header_lexemes, header_lines, items_lexemes, items_lines}
use Rattle.schedule_front.proofs.Words.{keyword_text, letters, line, name_word, or_lexemes, overlay_lines}
use Rattle.schedule_front.proofs.Words.{overlays_lexemes, overlays_lines, refl, suc, test_lexemes, tests_lexemes}
use Rattle.schedule_front.proofs.Words.{text_of_lines, time_word_word, tree_lexemes, tree_lines, ℕ}
use Rattle.script_tokens.specs.declared.keyword.Keyword.TheVariants as the
use Rattle.script_front.proofs.Lined.{AreLines, all_words, lines_have}
use Rattle.script_front.proofs.Denoted.{both_words, level_are, edit_are, lines_both, all_both, body_all, header_are}
use Rattle.script_front.proofs.Denoted.{header_all, items_are, items_all, closing_are}

-- ---- conditions

test_are : (t : Test) → IsTest t → AreWords (test_lexemes t)
test_are (Contact contact closed) h =
    (keyword_text the.Contact, (decimal_word contact (omega (arith, h)), (level_are closed, tt)))
test_are (Time from to) h =
    (keyword_text the.Time, (time_word_word from h.0, (keyword_text the.To, (time_word_word to h.1, tt))))

and_are : (ts : List Test) → AllByRecursion IsTest ts → AreWords (and_lexemes ts)
and_are [] h = tt
and_are (t ∷ ts) h = (
  keyword_text the.And,
  both_words (test_lexemes t) (and_lexemes ts) (test_are t h.0) (and_are ts h.1),
)

tests_are : (ts : List Test) → AreTests ts → AreWords (tests_lexemes ts)
tests_are [] h = tt
tests_are (t ∷ ts) h = both_words (test_lexemes t) (and_lexemes ts) (test_are t h.1.0) (and_are ts h.1.1)

or_are : (c : List (List Test)) → AllByRecursion AreTests c → AreWords (or_lexemes c)
or_are [] h = tt
or_are (ts ∷ others) h = (
  keyword_text the.Or,
  both_words (tests_lexemes ts) (or_lexemes others) (tests_are ts h.0) (or_are others h.1),
)

condition_are : (c : List (List Test)) → AllByRecursion AreTests c → AreWords (condition_lexemes c)
condition_are [] h = tt
condition_are (ts ∷ others) h = both_words (tests_lexemes ts) (or_lexemes others) (tests_are ts h.0) (or_are others h.1)

-- ---- overlays

edits_are : (es : List OverlayEdit) → AreEdits es → AreLines (edits_lines es)
edits_are [] h = tt
edits_are (e ∷ es) h = (edit_are e.edit h.0, edits_are es h.1)

edits_all : (es : List OverlayEdit) → all_words (edits_lines es) ≡ edits_lexemes es
edits_all [] = refl
edits_all (e ∷ es) = rw (edits_all es) refl

other_names : (n : List ℕ) (ns : List (List ℕ)) → All IsName (n ∷ ns) → All IsName ns
other_names n ns h k d lt = h (suc k) d (omega (arith, lt))

overlays_are : (names : List (List ℕ)) (os : List Overlay) → All IsName names → AllByRecursion IsOverlay os
    → AreLines (overlays_lines names os)
overlays_are [] os named h = tt
overlays_are (n ∷ ns) [] named h = tt
overlays_are (n ∷ ns) (o ∷ os) named h = lines_both (overlay_lines n o) (overlays_lines ns os) (
  (
    keyword_text the.Overlay,
    (
      name_word n (named 0 n (omega arith)),
      (
        keyword_text the.While,
        both_words (condition_lexemes o.condition) (letters the.OpenBrace ∷ [])
            (condition_are o.condition h.0.condition.each) (keyword_text the.OpenBrace, tt),
      ),
    ),
  ),
  lines_both (edits_lines o.edits) (closing 0 ∷ []) (edits_are o.edits h.0.edits) (closing_are 0, tt),
) (overlays_are ns os (other_names n ns named) h.1)

overlays_all : (names : List (List ℕ)) (os : List Overlay)
    → all_words (overlays_lines names os) ≡ overlays_lexemes names os
overlays_all [] os = refl
overlays_all (n ∷ ns) [] = refl
overlays_all (n ∷ ns) (o ∷ os) =
    let later : List Line = overlays_lines ns os in
    let body : all_words ((edits_lines o.edits ++ closing 0 ∷ []) ++ later)
    ≡ edits_lexemes o.edits ++ letters the.CloseBrace ∷ overlays_lexemes ns os =
    ap all_words (append_assoc (edits_lines o.edits) (closing 0 ∷ []) later)
    ∙ body_all (edits_lines o.edits) later _ _ 0 (edits_all o.edits) (overlays_all ns os) in
    ap (λ (ws : Spelled). first_lexemes n o ++ ws) body
    ∙ ap (λ (ws : Spelled). letters the.Overlay ∷ n ∷ letters the.While ∷ ws)
    (append_assoc (condition_lexemes o.condition) (letters the.OpenBrace ∷ [])
    (edits_lexemes o.edits ++ letters the.CloseBrace ∷ overlays_lexemes ns os))

-- ---- a schedule

tree_all : (t : Tree) → all_words (tree_lines t) ≡ tree_lexemes t
tree_all t =
    let later : List Line = line 0 (letters the.Schedule ∷ []) ∷ overlays_lines t.names t.overlays in
    all_both (header_lines t.header) (items_lines t.items ++ later)
    ∙ ap (λ (ws : Spelled). ws ++ all_words (items_lines t.items ++ later)) (header_all t.header)
    ∙ ap (λ (ws : Spelled). header_lexemes t.header ++ ws) (
    all_both (items_lines t.items) later ∙ ap (λ (ws : Spelled). ws ++ all_words later) (items_all t.items)
    ∙ ap (λ (ws : Spelled). items_lexemes t.items ++ letters the.Schedule ∷ ws) (overlays_all t.names t.overlays))

tree_are : (t : Tree) → IsSchedule t → AreLines (tree_lines t)
tree_are t s =
    lines_both (header_lines t.header) _ (header_are t.header s.headed)
    (lines_both (items_lines t.items) _ (items_are t.items s.adding)
    ((keyword_text the.Schedule, tt), overlays_are t.names t.overlays s.named s.each))

pub printed_denotes : (text : List ℕ) (t : Tree) → IsSchedule t → text ≡ text_of_lines (tree_lines t)
    → Denotes text t
printed_denotes text t s e = rw (e) (rw (← tree_all t) (lines_have (tree_lines t) (tree_are t s)))
