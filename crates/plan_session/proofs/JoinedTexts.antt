-- Two texts with a line feed between them, which ends each token and each comment: the items of the first, and then
-- those of the second. No token of the first goes on in the second.
use Rattle.plan_session.proofs.Words.{[], ◌++◌, ◌+◌, ◌-◌, ◌∙◌, ◌∷◌, ◌≡◌, ◌≤◌, AllByRecursion, Bad, Blank, Brace, Hash}
use Rattle.plan_session.proofs.Words.{HoldsItems, Kind, Letter, LineEnd, List, NO_LIMITS, Nothing, Ok, Place, Token, ap}
use Rattle.plan_session.proofs.Words.{append_assoc, arith, drop-append_seam, first_position, fits, flat_map, inr}
use Rattle.plan_session.proofs.Words.{kind_of, le-leb, length, length-append, lexed, lexemes_of, position_after}
use Rattle.plan_session.proofs.Words.{position_past, refl, slice_range, sym, take-append_seam, token_at, true, ℕ}
use Rattle.std.proofs.lemmas.Grind.{flat_map-append}
use Rattle.script_tokens.specs.Texts.{AreText, CanPrecede, IsCutInto, Piece, TokensFit, atom, blank, brace, comment}
use Rattle.script_tokens.specs.Texts.{text_of, tokens_of}
use Rattle.script_tokens.proofs.Pieces.{cut_into, texts_are_cut}

-- ---- positions

pub at_after : (p : Place) (k : Kind) → (position_after p k).at ≡ p.at + 1
at_after p LineEnd = refl
at_after p Blank = refl
at_after p Hash = refl
at_after p Brace = refl
at_after p Letter = refl
at_after p Bad = refl

pub line_after : (p : Place) (k : Kind) → (position_after p k).position.line ≤ p.position.line + 1
line_after p LineEnd = omega arith
line_after p Blank = omega arith
line_after p Hash = omega arith
line_after p Brace = omega arith
line_after p Letter = omega arith
line_after p Bad = omega arith

at_past : (p : Place) (bs : List ℕ) → (position_past p bs).at ≡ p.at + length bs
at_past p [] = omega arith
at_past p (b ∷ bs) =
    omega (arith, at_after p (kind_of b), at_past (position_after p (kind_of b)) bs)

line_past : (p : Place) (bs : List ℕ) → (position_past p bs).position.line ≤ p.position.line + length bs
line_past p [] = omega arith
line_past p (b ∷ bs) =
    omega (arith, line_after p (kind_of b), line_past (position_after p (kind_of b)) bs)

-- ---- the tokens of pieces, as their bytes

abbrev pub words_of : List Piece → List (List ℕ)
words_of [] = []
words_of (blank b ∷ ps) = words_of ps
words_of (comment bs ∷ ps) = words_of ps
words_of (brace b ∷ ps) = (b ∷ []) ∷ words_of ps
words_of (atom bs ∷ ps) = bs ∷ words_of ps

-- bytes within a text
word_at : (front bs rest : List ℕ) (n m : ℕ) → n ≡ length front → m ≡ n + length bs
    → slice_range (front ++ (bs ++ rest)) n m ≡ bs
word_at front bs rest n m at to =
    let long : m - n ≡ length bs = omega (arith, to) in
    cc (long, at, drop-append_seam front (bs ++ rest), take-append_seam bs rest)

further : (front bs : List ℕ) (p : Place) → p.at ≡ length front → (position_past p bs).at ≡ length (front ++ bs)
further front bs p at =
    omega (arith, at_past p bs, length-append front bs, at)

words_are : (front : List ℕ) (p : Place) (ps : List Piece) → p.at ≡ length front
    → lexemes_of (front ++ text_of ps) (tokens_of p ps) ≡ words_of ps
words_are front p [] at = refl
words_are front p (blank b ∷ ps) at =
    ap (λ (l : List ℕ). lexemes_of l (tokens_of (position_past p (b ∷ [])) ps))
    (sym (append_assoc front (b ∷ []) (text_of ps)))
    ∙ words_are (front ++ b ∷ []) (position_past p (b ∷ [])) ps (further front (b ∷ []) p at)
words_are front p (comment bs ∷ ps) at =
    ap (λ (l : List ℕ). lexemes_of l (tokens_of (position_past p (35 ∷ bs)) ps))
    (sym (append_assoc front (35 ∷ bs) (text_of ps)))
    ∙ words_are (front ++ 35 ∷ bs) (position_past p (35 ∷ bs)) ps (further front (35 ∷ bs) p at)
words_are front p (brace b ∷ ps) at =
    ap (λ (w : List ℕ). w ∷ lexemes_of (front ++ (b ∷ text_of ps)) (tokens_of (position_past p (b ∷ [])) ps))
    (word_at front (b ∷ []) (text_of ps) p.at (p.at + 1) at refl)
    ∙ ap (λ (ws : List (List ℕ)). (b ∷ []) ∷ ws)
    (ap (λ (l : List ℕ). lexemes_of l (tokens_of (position_past p (b ∷ [])) ps))
    (sym (append_assoc front (b ∷ []) (text_of ps)))
    ∙ words_are (front ++ b ∷ []) (position_past p (b ∷ [])) ps (further front (b ∷ []) p at))
words_are front p (atom bs ∷ ps) at =
    ap (λ (w : List ℕ). w ∷ lexemes_of (front ++ (bs ++ text_of ps)) (tokens_of (position_past p bs) ps))
    (word_at front bs (text_of ps) p.at (p.at + length bs) at refl)
    ∙ ap (λ (ws : List (List ℕ)). bs ∷ ws)
    (ap (λ (l : List ℕ). lexemes_of l (tokens_of (position_past p bs) ps)) (sym (append_assoc front bs (text_of ps)))
    ∙ words_are (front ++ bs) (position_past p bs) ps (further front bs p at))

-- ---- no token of a text of at most 2^64 - 1 bytes is past a limit

pub fits_here : (p : Place) (to : ℕ) → to ≤ p.at + 18446744073709551615 → p.position.line ≤ 18446744073709551615
    → fits NO_LIMITS (token_at p to) ≡ true
fits_here p to short near = rw (
  le-leb to (p.at + 18446744073709551615) short,
  le-leb p.position.line 18446744073709551615 near,
) refl

-- where the line of the place is at most one more than its offset, so is that of the place after these bytes
near_past : (p : Place) (bs : List ℕ) → p.position.line ≤ p.at + 1
    → (position_past p bs).position.line ≤ (position_past p bs).at + 1
near_past p bs near =
    omega (arith, at_past p bs, line_past p bs, near)

all_fit : (p : Place) (ps : List Piece) → AreText ps → p.position.line ≤ p.at + 1
    → p.at + length (text_of ps) ≤ 18446744073709551615 → TokensFit NO_LIMITS (tokens_of p ps)
all_fit p [] formed near short = tt
all_fit p (blank b ∷ ps) formed near short =
    let at = at_past p (b ∷ []) in
    all_fit (position_past p (b ∷ [])) ps formed.2 (near_past p (b ∷ []) near) (omega (arith, at, short))
all_fit p (comment bs ∷ ps) formed near short =
    let at = at_past p (35 ∷ bs) in
    let long = length-append (35 ∷ bs) (text_of ps) in
    all_fit (position_past p (35 ∷ bs)) ps formed.2 (near_past p (35 ∷ bs) near) (omega (arith, at, long, short))
all_fit p (brace b ∷ ps) formed near short =
    let at = at_past p (b ∷ []) in (
      fits_here p (p.at + 1) (omega arith) (omega (arith, near, short)),
      all_fit (position_past p (b ∷ [])) ps formed.2 (near_past p (b ∷ []) near) (omega (arith, at, short)),
    )
all_fit p (atom bs ∷ ps) formed near short =
    let at = at_past p bs in
    let long = length-append bs (text_of ps) in
    let some = formed.0.0 in (
      fits_here p (p.at + length bs) (omega (arith, long, short)) (omega (arith, near, long, short, some)),
      all_fit (position_past p bs) ps formed.2 (near_past p bs near) (omega (arith, at, long, short)),
    )

-- ---- pieces with a line feed between them

abbrev joined : List Piece → List Piece → List Piece
joined ps qs = ps ++ blank 10 ∷ qs

text_joined : (ps qs : List Piece) → text_of (joined ps qs) ≡ text_of ps ++ 10 ∷ text_of qs
text_joined [] qs = refl
text_joined (blank b ∷ ps) qs = ap (λ (l : List ℕ). b ∷ l) (text_joined ps qs)
text_joined (comment bs ∷ ps) qs = cc (text_joined ps qs, append_assoc (35 ∷ bs) (text_of ps) (10 ∷ text_of qs))
text_joined (brace b ∷ ps) qs = ap (λ (l : List ℕ). b ∷ l) (text_joined ps qs)
text_joined (atom bs ∷ ps) qs = cc (text_joined ps qs, append_assoc bs (text_of ps) (10 ∷ text_of qs))

words_joined : (ps qs : List Piece) → words_of (joined ps qs) ≡ words_of ps ++ words_of qs
words_joined [] qs = refl
words_joined (blank b ∷ ps) qs = words_joined ps qs
words_joined (comment bs ∷ ps) qs = words_joined ps qs
words_joined (brace b ∷ ps) qs = ap (λ (ws : List (List ℕ)). (b ∷ []) ∷ ws) (words_joined ps qs)
words_joined (atom bs ∷ ps) qs = ap (λ (ws : List (List ℕ)). bs ∷ ws) (words_joined ps qs)

can_precede : (p : Piece) (ps qs : List Piece) → CanPrecede p ps → CanPrecede p (joined ps qs)
can_precede (blank b) [] qs h = tt
can_precede (comment bs) [] qs h = refl
can_precede (brace b) [] qs h = tt
can_precede (atom bs) [] qs h = tt
can_precede (blank b) (q ∷ ps) qs h = tt
can_precede (brace b) (q ∷ ps) qs h = tt
can_precede (comment bs) (blank b ∷ ps) qs h = h
can_precede (comment bs) (comment cs ∷ ps) qs h = absurd h
can_precede (comment bs) (brace b ∷ ps) qs h = absurd h
can_precede (comment bs) (atom cs ∷ ps) qs h = absurd h
can_precede (atom bs) (blank b ∷ ps) qs h = tt
can_precede (atom bs) (comment cs ∷ ps) qs h = tt
can_precede (atom bs) (brace b ∷ ps) qs h = tt
can_precede (atom bs) (atom cs ∷ ps) qs h = absurd h

formed_joined : (ps qs : List Piece) → AreText ps → AreText qs → AreText (joined ps qs)
formed_joined [] qs h k = (inr refl, tt, k)
formed_joined (p ∷ ps) qs h k = (h.0, can_precede p ps qs h.1, formed_joined ps qs h.2 k)

-- ---- texts with a line feed between them

-- a text and its tokens as their bytes
pub record Cut (text : List ℕ) (words : List (List ℕ)) : Type 0 where
  pub pieces : List Piece
  pub formed : AreText pieces
  pub whole : text_of pieces ≡ text
  pub are : words_of pieces ≡ words

pub cut_of_tokens : (text : List ℕ) (tokens : List Token) → lexed NO_LIMITS Nothing first_position text ≡ Ok tokens
    → Cut text (lexemes_of text tokens)
cut_of_tokens text tokens e =
    let h : IsCutInto NO_LIMITS text tokens = cut_into NO_LIMITS text tokens e in
    record {
      pieces = h.pieces;
      formed = h.formed;
      whole = h.whole;
      are = sym (words_are [] first_position h.pieces refl)
          ∙ ap (λ (l : List ℕ). lexemes_of l (tokens_of first_position h.pieces)) h.whole ∙ ap (lexemes_of text) h.are;
    }

cut_joined : (a b : List ℕ) (xs ys : List (List ℕ)) → Cut a xs → Cut b ys → Cut (a ++ 10 ∷ b) (xs ++ ys)
cut_joined a b xs ys h k = record {
  pieces = joined h.pieces k.pieces;
  formed = formed_joined h.pieces k.pieces h.formed k.formed;
  whole = text_joined h.pieces k.pieces ∙ ap (λ (l : List ℕ). l ++ 10 ∷ text_of k.pieces) h.whole
      ∙ ap (λ (l : List ℕ). a ++ 10 ∷ l) k.whole;
  are = words_joined h.pieces k.pieces ∙ ap (λ (ws : List (List ℕ)). ws ++ words_of k.pieces) h.are
      ∙ ap (λ (ws : List (List ℕ)). xs ++ ws) k.are;
}

-- the tokens of a text that is short enough
pub record Tokens (text : List ℕ) (words : List (List ℕ)) : Type 0 where
  pub tokens : List Token
  pub cut : lexed NO_LIMITS Nothing first_position text ≡ Ok tokens
  pub are : lexemes_of text tokens ≡ words

pub tokens_of_cut : (text : List ℕ) (words : List (List ℕ)) → length text ≤ 18446744073709551615 → Cut text words
    → Tokens text words
tokens_of_cut text words short h =
    let ts : List Token = tokens_of first_position h.pieces in
    let long : length (text_of h.pieces) ≡ length text = ap (λ (l : List ℕ). length l) h.whole in
    let all = all_fit first_position h.pieces h.formed (omega arith) (omega (arith, long, short)) in
    record {
      tokens = ts;
      cut = (texts_are_cut NO_LIMITS text ts).1
          (record { pieces = h.pieces; formed = h.formed; whole = h.whole; are = refl; within = all });
      are = ap (λ (l : List ℕ). lexemes_of l ts) (sym h.whole) ∙ words_are [] first_position h.pieces refl ∙ h.are;
    }

-- ---- texts that list items

all_both : {T : Type 0} (P : T → Type 0) (xs ys : List T) → AllByRecursion P xs → AllByRecursion P ys
    → AllByRecursion P (xs ++ ys)
all_both P [] ys h k = k
all_both P (x ∷ xs) ys h k = (h.0, all_both P xs ys h.1 k)

-- two texts that list items, with a line feed between them, list the items of both
pub holds_joined : {T : Type 0} (spelled : T → List (List ℕ)) (IsItem : T → Type 0) (a b : List ℕ) (xs ys : List T)
    → length (a ++ 10 ∷ b) ≤ 18446744073709551615
    → HoldsItems spelled IsItem a xs → HoldsItems spelled IsItem b ys
    → HoldsItems spelled IsItem (a ++ 10 ∷ b) (xs ++ ys)
holds_joined spelled IsItem a b xs ys short h k =
    let both : Cut (a ++ 10 ∷ b) (lexemes_of a h.tokens ++ lexemes_of b k.tokens) =
    cut_joined _ _ _ _ (cut_of_tokens _ _ h.cut) (cut_of_tokens _ _ k.cut) in
    let all = tokens_of_cut (a ++ 10 ∷ b) (lexemes_of a h.tokens ++ lexemes_of b k.tokens) short both in
    record {
      tokens = all.tokens;
      cut = all.cut;
      lexemes = all.are ∙ ap (λ (ws : List (List ℕ)). ws ++ lexemes_of b k.tokens) h.lexemes
          ∙ ap (λ (ws : List (List ℕ)). flat_map spelled xs ++ ws) k.lexemes ∙ sym (flat_map-append spelled xs ys);
      in_range = all_both IsItem xs ys h.in_range k.in_range;
    }
