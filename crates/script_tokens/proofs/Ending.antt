-- The lines of tokens, and the last token of a text.
use Rattle.script_tokens.proofs.Words.{[], ◌++◌, ◌+◌, ◌-◌, ◌∙◌, ◌∷◌, ◌≡◌, AreLastOf, AreOnScriptLines, List, Some}
use Rattle.script_tokens.proofs.Words.{Token, ap, append_assoc, arith, get_or, length, lexemes_of, line_of_left}
use Rattle.script_tokens.proofs.Words.{lines_of, min, min-eq_left, refl, shown_lines, slice_get, suc, sym, zero, ℕ}

-- the line of the token at this index
pub line_at : (k : ℕ) (ts : List Token) (t : Token) → slice_get ts k ≡ Some t
    → min t.position.line 65535 ≡ get_or (shown_lines ts) k 0
line_at k [] t e = absurd cc
line_at zero (x ∷ ts) t e = let same : x ≡ t = cc in ap (λ (y : Token). min y.position.line 65535) (sym same)
line_at (suc k) (x ∷ ts) t e = line_at k ts t e

-- where no token is past the last line of a script, each is reported with its own line
pub shown_are : (ts : List Token) → AreOnScriptLines ts → shown_lines ts ≡ lines_of ts
shown_are [] h = refl
shown_are (t ∷ ts) h =
    let own : min t.position.line 65535 ≡ t.position.line = min-eq_left h.0 in
    let rest = shown_are ts h.1 in
    cc

pub length_lines : (ts : List Token) → length (shown_lines ts) ≡ length ts
length_lines [] = refl
length_lines (t ∷ ts) = ap suc (length_lines ts)

pub length_words : (bytes : List ℕ) (ts : List Token) → length (lexemes_of bytes ts) ≡ length ts
length_words bytes [] = refl
length_words bytes (t ∷ ts) = ap suc (length_words bytes ts)

line_behind : (front ts : List Token) (t : Token) → get_or (shown_lines (front ++ t ∷ ts)) (length front) 0
    ≡ min t.position.line 65535
line_behind [] ts t = refl
line_behind (x ∷ front) ts t = line_behind front ts t

length_behind : (front ts : List Token) → length (front ++ ts) ≡ length front + length ts
length_behind [] ts = omega arith
length_behind (x ∷ front) ts = let h = length_behind front ts in omega (arith, h)

-- the line of the first remaining token
pub first_line : (bytes : List ℕ) (all ts : List Token) (t : Token) → AreLastOf all (t ∷ ts)
    → min t.position.line 65535 ≡ line_of_left (shown_lines all) (length (lexemes_of bytes (t ∷ ts)))
first_line bytes all ts t h =
    let n = length_behind h.front (t ∷ ts) in
    let same : length (shown_lines all) - length (lexemes_of bytes (t ∷ ts)) ≡ length h.front =
    (let w = ap length h.whole in omega (arith, length_words bytes (t ∷ ts), length_lines all, n, w)) in
    rw (same, h.whole) (sym (line_behind h.front ts t))

pub last_line : (all : List Token) (t : Token) → slice_get all (length all - 1) ≡ Some t
    → min t.position.line 65535 ≡ line_of_left (shown_lines all) 1
last_line all t e = let m = length_lines all in rw (m) (line_at (length all - 1) all t e)

pub passed_last : (all ts : List Token) (t : Token) → AreLastOf all (t ∷ ts) → AreLastOf all ts
passed_last all ts t h = record { front = h.front ++ t ∷ []; whole = h.whole ∙ sym (append_assoc h.front (t ∷ []) ts) }

pub next_line : (bytes : List ℕ) (all ts : List Token) (t : Token) → AreLastOf all ts → slice_get ts 0 ≡ Some t
    → min t.position.line 65535 ≡ line_of_left (shown_lines all) (length (lexemes_of bytes ts))
next_line bytes all [] t h e = absurd cc
next_line bytes all (x ∷ ts) t h e = let same : x ≡ t = cc in
    ap (λ (y : Token). min y.position.line 65535) (sym same) ∙ first_line bytes all ts x h
