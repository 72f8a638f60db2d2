-- The text of a schedule, line by line.
use Rattle.schedule_front.proofs.Words.{[], ◌++◌, ◌+◌, ◌<◌, ◌∙◌, ◌∷◌, ◌≡◌, ◌≤◌, Item, Line, List, Overlay, OverlayCode}
use Rattle.schedule_front.proofs.Words.{OverlayEdit, Plan, Tree, add-one, ap, append-nil, append_assoc, closing, codes}
use Rattle.schedule_front.proofs.Words.{condition_lexemes, drop, drop-cons, drop_all, each_after, edit_lexemes}
use Rattle.schedule_front.proofs.Words.{edits_lines, first_lexemes, get_or, header_lines, items_lines, length}
use Rattle.schedule_front.proofs.Words.{line, line_text, map, name_at, overlay_lines, overlay_of, overlays_lines, refl}
use Rattle.schedule_front.proofs.Words.{sym, tree_lines, ℕ}
use Rattle.script_tokens.specs.Keywords.{letters}
use Rattle.script_tokens.specs.declared.keyword.Keyword.TheVariants as the
use Rattle.script_front.specs.Printing.{text_of_lines}
use Rattle.script_front.proofs.Printed.{behind_both, line_then, lines_then}
use Rattle.script_front.proofs.PrintedWaits.{Text, twice}
use Rattle.schedule_front.proofs.Words.{IsSchedule, Spelled, alternatives_of, length-map}
use Rattle.schedule_front.proofs.PrintedConditions.{Lists}

-- ---- edits

pub record EditsPrinted (old out : Text) (es : List OverlayEdit) (i : ℕ) : Type 0 where
  pub whole : out ++ text_of_lines (edits_lines (drop i es)) ≡ old ++ text_of_lines (edits_lines es)

pub edit_more : (old out new : Text) (es : List OverlayEdit) (i : ℕ) (x : OverlayEdit) → i < length es
    → x ≡ get_or es i x → new ≡ out ++ line_text (line 1 (edit_lexemes x.edit))
    → EditsPrinted old out es i → EditsPrinted old new es (i + 1)
edit_more old out new es i x lt same put h = record {
  whole = (
      let e : drop i es ≡ get_or es i x ∷ drop (i + 1) es = rw (add-one, drop-cons es i x lt) refl in
      line_then out new (line 1 (edit_lexemes x.edit)) (edits_lines (drop (i + 1) es)) put
      ∙ sym (ap (λ (ls : List Line). out ++ text_of_lines ls) (rw (same) (ap edits_lines e))) ∙ h.whole
      );
}

pub edits_all : (old out : Text) (es : List OverlayEdit) (i : ℕ) → length es ≤ i → EditsPrinted old out es i → out
    ≡ old ++ text_of_lines (edits_lines es)
unfolding text_of_lines
edits_all old out es i long h = let e : out ++ [] ≡ old ++ text_of_lines (edits_lines es) =
    rw (drop_all i es long) at h.whole in sym (append-nil out) ∙ e

-- ---- one overlay

pub first_put : (old one two three four new name : Text) (o : OverlayCode) (slice : Lists) → slice ≡ o.condition.items
    → one ≡ old ++ codes "overlay " → two ≡ one ++ name → three ≡ two ++ codes " while"
    → four ≡ three ++ each_after (condition_lexemes (alternatives_of slice)) → new ≡ four ++ codes " {\n"
    → new ≡ old ++ line_text (line 0 (first_lexemes name (overlay_of o)))
unfolding letters
first_put old one two three four new name o slice same e f g h i =
    let condition : Spelled = condition_lexemes (alternatives_of o.condition.items) in
    let this : Text = each_after condition in
    let brace : Text = each_after (letters the.OpenBrace ∷ []) in
    let tail : line_text (line 0 (first_lexemes name (overlay_of o)))
    ≡ codes "overlay " ++ (name ++ (codes " while" ++ (this ++ codes " {\n"))) =
    ap (λ (x : Text). (codes "overlay " ++ (name ++ (codes " while" ++ x))) ++ 10 ∷ [])
    (behind_both condition (letters the.OpenBrace ∷ []))
    ∙ ap (λ (x : Text). codes "overlay " ++ x)
    (append_assoc name (codes " while" ++ (this ++ brace)) (10 ∷ [])
    ∙ ap (λ (x : Text). name ++ (codes " while" ++ x)) (append_assoc this brace (10 ∷ []))) in
    twice old one new (codes "overlay ") (name ++ (codes " while" ++ (this ++ codes " {\n"))) e
    (twice one two new name (codes " while" ++ (this ++ codes " {\n")) f
    (twice two three new (codes " while") (this ++ codes " {\n") g
    (twice three four new this (codes " {\n") (rw (← same) h) i)))
    ∙ ap (λ (x : Text). old ++ x) (sym tail)

pub overlay_put : (old one two new name : Text) (o : OverlayCode) (slice : List OverlayEdit) → slice ≡ o.edits.items
    → one ≡ old ++ line_text (line 0 (first_lexemes name (overlay_of o)))
    → two ≡ one ++ text_of_lines (edits_lines slice) → new ≡ two ++ codes "}\n"
    → new ≡ old ++ text_of_lines (overlay_lines name (overlay_of o))
unfolding letters text_of_lines
overlay_put old one two new name o slice same e f g =
    sym (append-nil new) ∙ line_then two new (closing 0) [] g
    ∙ lines_then one two (edits_lines o.edits.items) (closing 0 ∷ []) (rw (← same) f)
    ∙ line_then old one (line 0 (first_lexemes name (overlay_of o))) (edits_lines o.edits.items ++ closing 0 ∷ []) e

-- ---- overlays

pub record OverlaysPrinted (names : List (List ℕ)) (old out : Text) (os : List OverlayCode) (i : ℕ) : Type 0 where
  pub whole : out ++ text_of_lines (overlays_lines (drop i names) (map overlay_of (drop i os))) ≡ old
      ++ text_of_lines (overlays_lines names (map overlay_of os))

name_dropped : (names : List (List ℕ)) (i : ℕ) → i < length names → drop i names ≡ name_at names i ∷ drop (i + 1) names
name_dropped names i lt = rw (add-one, drop-cons names i [] lt) refl

pub overlay_more : (names : List (List ℕ)) (old out new : Text) (os : List OverlayCode) (i : ℕ) (o : OverlayCode)
    → i < length os → length names ≡ length os → o ≡ get_or os i o
    → new ≡ out ++ text_of_lines (overlay_lines (name_at names i) (overlay_of o))
    → OverlaysPrinted names old out os i → OverlaysPrinted names old new os (i + 1)
overlay_more names old out new os i o lt each same put h = record {
  whole = (
      let e : drop i os ≡ o ∷ drop (i + 1) os = rw (same) (rw (add-one, drop-cons os i o lt) refl) in
      let n = name_dropped names i (rw (each) lt) in
      let later : List Line = overlays_lines (drop (i + 1) names) (map overlay_of (drop (i + 1) os)) in
      let f : overlays_lines (drop i names) (map overlay_of (drop i os))
      ≡ overlay_lines (name_at names i) (overlay_of o) ++ later = rw (n, e) refl in
      lines_then out new (overlay_lines (name_at names i) (overlay_of o)) later put
      ∙ sym (ap (λ (ls : List Line). out ++ text_of_lines ls) f) ∙ h.whole
      );
}

no_overlays : (names : List (List ℕ)) → overlays_lines names [] ≡ []
no_overlays [] = refl
no_overlays (n ∷ ns) = refl

pub overlays_all : (names : List (List ℕ)) (old out : Text) (os : List OverlayCode) (i : ℕ) → length os ≤ i
    → OverlaysPrinted names old out os i → out ≡ old ++ text_of_lines (overlays_lines names (map overlay_of os))
unfolding text_of_lines
overlays_all names old out os i long h =
    let e : out ++ [] ≡ old ++ text_of_lines (overlays_lines names (map overlay_of os)) =
    rw (drop_all i os long, no_overlays (drop i names)) at h.whole in sym (append-nil out) ∙ e

-- ---- a whole schedule

-- each overlay of a schedule has a name
pub each_has_name : (t : Tree) (names : List (List ℕ)) (os : List OverlayCode) → IsSchedule t → names ≡ t.names
    → map overlay_of os ≡ t.overlays → length names ≡ length os
each_has_name t names os is e f = ap length e ∙ is.each_named ∙ ap length (sym f) ∙ length-map os overlay_of

pub schedule_put : (t : Tree) (one two three new : Text) (h : Plan) (is : List Item) (names : List (List ℕ))
    (os : List Overlay) → h ≡ t.header → is ≡ t.items → names ≡ t.names → os ≡ t.overlays
    → one ≡ text_of_lines (header_lines h) → two ≡ one ++ text_of_lines (items_lines is)
    → three ≡ two ++ codes "schedule\n" → new ≡ three ++ text_of_lines (overlays_lines names os)
    → new ≡ text_of_lines (tree_lines t)
unfolding letters
schedule_put t one two three new h is names os a b c d e f g i =
    let body : List Line = overlays_lines names os in
    let word : Line = line 0 (letters the.Schedule ∷ []) in
    let whole : new ≡ text_of_lines (header_lines h ++ (items_lines is ++ word ∷ body)) =
    i ∙ line_then two three word body g ∙ lines_then one two (items_lines is) (word ∷ body) f
    ∙ lines_then [] one (header_lines h) (items_lines is ++ word ∷ body) e in
    rw (← d, ← c, ← b, ← a) whole
