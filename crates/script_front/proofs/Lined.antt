-- Printed lines have their tokens: a space or the line end follows each token.
use Rattle.script_front.proofs.Words.{[], ◌++◌, ◌∷◌, ◌≡◌, ◌⊎◌, AreWords, Blank, Brace, HasLexemes, IsWord, Line}
use Rattle.script_front.proofs.Words.{LineEnd, List, Spelled, append-nil, append_assoc, atom, blank, brace, each_after}
use Rattle.script_front.proofs.Words.{indent, inl, inr, kind_of, line, line_text, refl, spaced, suc, zero, ℕ}
use Rattle.script_front.specs.Printing.{text_of_lines}

abbrev pub IsBlank : ℕ → Type 0
IsBlank b = (kind_of b ≡ Blank) ⊎ (kind_of b ≡ LineEnd)

pub blank_first : (b : ℕ) (bytes : List ℕ) (ws : Spelled) → IsBlank b → HasLexemes bytes ws → HasLexemes (b ∷ bytes) ws
blank_first b bytes ws k h = record {
  pieces = blank b ∷ h.pieces;
  formed = (k, tt, h.formed);
  whole = rw (h.whole) refl;
  spelled = h.spelled;
}

brace_first : (c b : ℕ) (bytes : List ℕ) (ws : Spelled) → kind_of c ≡ Brace → IsBlank b → HasLexemes bytes ws
    → HasLexemes (c ∷ b ∷ bytes) ((c ∷ []) ∷ ws)
brace_first c b bytes ws is k h = record {
  pieces = brace c ∷ blank b ∷ h.pieces;
  formed = (is, tt, (k, tt, h.formed));
  whole = rw (h.whole) refl;
  spelled = rw (h.spelled) refl;
}

word_first : (w : List ℕ) (b : ℕ) (bytes : List ℕ) (ws : Spelled) → IsWord w → IsBlank b → HasLexemes bytes ws
    → HasLexemes (w ++ b ∷ bytes) (w ∷ ws)
word_first w b bytes ws (inl a) k h = record {
  pieces = atom w ∷ blank b ∷ h.pieces;
  formed = ((a.some, a.are), tt, (k, tt, h.formed));
  whole = rw (h.whole) refl;
  spelled = rw (h.spelled) refl;
}
word_first w b bytes ws (inr c) k h = rw (c.is) (brace_first c.byte b bytes ws c.kind k h)

line_has : (w : List ℕ) (ws : Spelled) (bytes : List ℕ) (more : Spelled) → IsWord w → AreWords ws
    → HasLexemes bytes more → HasLexemes ((w ++ each_after ws) ++ 10 ∷ bytes) ((w ∷ ws) ++ more)
line_has w [] bytes more is are h = rw (append-nil w) (word_first w 10 bytes more is (inr refl) h)
line_has w (v ∷ vs) bytes more is are h =
    rw (append_assoc w (32 ∷ (v ++ each_after vs)) (10 ∷ bytes))
    (word_first w 32 ((v ++ each_after vs) ++ 10 ∷ bytes) ((v ∷ vs) ++ more) is (inl refl)
    (line_has v vs bytes more are.0 are.1 h))

indent_has : (d : ℕ) (bytes : List ℕ) (ws : Spelled) → HasLexemes bytes ws → HasLexemes (indent d ++ bytes) ws
indent_has zero bytes ws h = h
indent_has (suc d) bytes ws h = blank_first _ _ _ (inl refl) (blank_first _ _ _ (inl refl) (indent_has d bytes ws h))

-- ---- lines

abbrev pub all_words : List Line → Spelled
all_words [] = []
all_words (l ∷ ls) = l.lexemes ++ all_words ls

abbrev pub IsLine : Spelled → Type 0
IsLine [] = ⊥
IsLine (w ∷ ws) = IsWord w × AreWords ws

abbrev pub AreLines : List Line → Type 0
AreLines [] = Unit {0}
AreLines (l ∷ ls) = IsLine l.lexemes × AreLines ls

words_have : (ws : Spelled) (bytes : List ℕ) (more : Spelled) → IsLine ws → HasLexemes bytes more
    → HasLexemes (spaced ws ++ 10 ∷ bytes) (ws ++ more)
words_have [] bytes more is h = absurd is
words_have (w ∷ ws) bytes more is h = line_has w ws bytes more is.0 is.1 h

text_then : (d : ℕ) (ws : Spelled) (bytes : List ℕ) → line_text (line d ws) ++ bytes ≡ indent d
    ++ (spaced ws ++ 10 ∷ bytes)
text_then d ws bytes =
    rw (← append_assoc (spaced ws) (10 ∷ []) bytes) (append_assoc (indent d) (spaced ws ++ 10 ∷ []) bytes)

pub lines_have : (ls : List Line) → AreLines ls → HasLexemes (text_of_lines ls) (all_words ls)
unfolding text_of_lines
lines_have [] are = record { pieces = []; formed = tt; whole = refl; spelled = refl }
lines_have (l ∷ ls) are =
    rw (text_then l.depth l.lexemes (text_of_lines ls)) (indent_has l.depth _ _
    (words_have l.lexemes (text_of_lines ls) (all_words ls) are.0 (lines_have ls are.1)))
