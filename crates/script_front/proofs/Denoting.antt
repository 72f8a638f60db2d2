-- The tokens of a text are those among its pieces.
use Rattle.script_front.proofs.Words.{[], ◌++◌, ◌+◌, ◌-◌, ◌∙◌, ◌∷◌, ◌≡◌, AreTokens, HasLines, IsScriptOf, LineEnd, List}
use Rattle.script_front.proofs.Words.{Ok, Piece, Result, Token, Tree, append_assoc, arith, atom, blank, brace, comment}
use Rattle.script_front.proofs.Words.{drop-append_seam, first_position, kind_of, length, length-append, lexemes_in}
use Rattle.script_front.proofs.Words.{lexemes_of, lines_of, position_after, position_past, refl, script_limits}
use Rattle.script_front.proofs.Words.{slice_range, sym, take-append_seam, text_of, tokens_of, tree_lexemes, ℕ}
use Rattle.script_tokens.specs.declared.token.Kind.{Kind}
use Rattle.script_tokens.specs.declared.token.Place.{Place}
use Rattle.script_tokens.specs.declared.fault.ScriptFault.{ScriptFault}
use Rattle.script_tokens.proofs.Pieces.{texts_are_cut}

after_byte : (p : Place) (k : Kind) → (position_after p k).at ≡ p.at + 1
after_byte p LineEnd = refl
after_byte p k = refl

pub past_bytes : (p : Place) (bs : List ℕ) → (position_past p bs).at ≡ p.at + length bs
past_bytes p [] = omega arith
past_bytes p (b ∷ bs) = let later = past_bytes (position_after p (kind_of b)) bs in let step =
    after_byte p (kind_of b) in omega (arith, later, step)

seam : (front bs rest : List ℕ) (a : ℕ) → a ≡ length front → slice_range (front ++ (bs ++ rest)) a (a + length bs) ≡ bs
seam front bs rest a e =
    let len : length front + length bs - length front ≡ length bs = omega arith in
    rw (e, drop-append_seam front (bs ++ rest), len) (take-append_seam bs rest)

next_at : (p : Place) (front bs : List ℕ) → p.at ≡ length front → (position_past p bs).at ≡ length (front ++ bs)
next_at p front bs e = let l = length-append front bs in let m = past_bytes p bs in omega (arith, l, m, e)

not_stopped : (front bs : List ℕ) (ts : List Token) (ps : List Piece)
    → lexemes_of ((front ++ bs) ++ text_of ps) ts ≡ lexemes_in ps
    → lexemes_of (front ++ (bs ++ text_of ps)) ts ≡ lexemes_in ps
not_stopped front bs ts ps h = rw (← append_assoc front bs (text_of ps)) h

pub slices : (front : List ℕ) (p : Place) (ps : List Piece) → p.at ≡ length front
    → lexemes_of (front ++ text_of ps) (tokens_of p ps) ≡ lexemes_in ps
slices front p [] e = refl
slices front p (blank b ∷ ps) e =
    not_stopped front _ _ ps (slices (front ++ b ∷ []) (position_past p (b ∷ [])) ps (next_at p front _ e))
slices front p (comment bs ∷ ps) e =
    not_stopped front _ _ ps (slices (front ++ 35 ∷ bs) (position_past p (35 ∷ bs)) ps (next_at p front _ e))
slices front p (brace b ∷ ps) e =
    rw (
      (seam front (b ∷ []) (text_of ps) p.at e),
      not_stopped front (b ∷ []) (tokens_of (position_past p (b ∷ [])) ps) ps
          (slices (front ++ b ∷ []) (position_past p (b ∷ [])) ps (next_at p front (b ∷ []) e)),
    ) refl
slices front p (atom bs ∷ ps) e =
    rw (
      seam front bs (text_of ps) p.at e,
      not_stopped front bs (tokens_of (position_past p bs) ps) ps
          (slices (front ++ bs) (position_past p bs) ps (next_at p front bs e)),
    ) refl

-- a tree whose tokens the text has, on their lines, is that of the text
pub is_script : (text : List ℕ) (tokens : List Token) (t : Tree) → AreTokens text tokens
    → lexemes_of text tokens ≡ tree_lexemes t → HasLines (lines_of tokens) t → IsScriptOf text t
is_script text tokens t h spelled lined =
    let cut = h.1 in
    let first = slices [] first_position cut.pieces refl in
    record {
      pieces = cut.pieces;
      formed = cut.formed;
      whole = cut.whole;
      spelled = sym (rw (← cut.whole, ← cut.are) first) ∙ spelled;
      lined = rw (cut.are) lined;
      short = h.0;
      within = rw (cut.are) cut.within;
    }

-- the pieces of a script's text give its tokens
pub are_tokens : (text : List ℕ) (t : Tree) → (s : IsScriptOf text t)
    → AreTokens text (tokens_of first_position s.pieces)
are_tokens text t s = (
  s.short,
  record { pieces = s.pieces; formed = s.formed; whole = s.whole; are = refl; within = s.within },
)

pub ok_same : (x y : List Token) (r : Result (List Token) ScriptFault) → r ≡ Ok x → r ≡ Ok y → x ≡ y
ok_same x y r e f = let g = sym e ∙ f in cc

-- and it has no others
pub are_its_tokens : (text : List ℕ) (tokens : List Token) (t : Tree) → AreTokens text tokens → (s : IsScriptOf text t)
    → tokens ≡ tokens_of first_position s.pieces
are_its_tokens text tokens t h s =
    let other = (texts_are_cut script_limits text (tokens_of first_position s.pieces)).1 (are_tokens text t s).1 in
    ok_same _ _ _ ((texts_are_cut script_limits text tokens).1 h.1) other

pub denoted_words : (text : List ℕ) (tokens : List Token) (t : Tree) → AreTokens text tokens → IsScriptOf text t
    → lexemes_of text tokens ≡ tree_lexemes t
denoted_words text tokens t h s =
    rw ((are_its_tokens text tokens t h s), ← s.whole) ((slices [] first_position s.pieces refl) ∙ s.spelled)
