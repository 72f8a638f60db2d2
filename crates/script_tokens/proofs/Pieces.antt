-- The lexer cuts a text into the tokens of its pieces.
use Rattle.script_tokens.proofs.Words.{[], ◌++◌, ◌+◌, ◌∙◌, ◌∷◌, ◌≡◌, ◌≢◌, ◌≤◌, ◌⊎◌, AreLetters, AreText, Atom, Bad}
use Rattle.script_tokens.proofs.Words.{Blank, Bool, Brace, Byte, CanPrecede, Comment, Err, Hash, HaveNoLineEnd, Inside}
use Rattle.script_tokens.proofs.Words.{IsCutInto, Kind, Letter, Limit, Limits, LineEnd, List, Nothing, Ok, Piece, Place}
use Rattle.script_tokens.proofs.Words.{Result, ScriptFault, TextsAreCut, Token, TokensFit, added, ap, arith, atom}
use Rattle.script_tokens.proofs.Words.{atom_ended, blank, brace, comment, cond, eqb-true, false, first_position, fits}
use Rattle.script_tokens.proofs.Words.{inl, inr, inside_after, is_bad, kind_of, length, made, position_after}
use Rattle.script_tokens.proofs.Words.{position_past, refl, subst, sym, text_of, token_at, tokens_before, tokens_of}
use Rattle.script_tokens.proofs.Words.{true, ℕ}
use Rattle.script_tokens.specs.Lexing.{lexed}
use Rattle.script_tokens.proofs.Lexing.{Cuts}

abbrev head_of : List ℕ → ℕ
head_of [] = 0
head_of (b ∷ bs) = b

-- ---- from pieces to tokens

-- what ends an atom: the end of the text, or a byte that cannot be in an atom
abbrev Ends : List ℕ → Type 0
Ends [] = Unit {0}
Ends (b ∷ bs) = kind_of b ≢ Letter

-- what ends a comment: the end of the text, or of the line
abbrev EndsLine : List ℕ → Type 0
EndsLine [] = Unit {0}
EndsLine (b ∷ bs) = kind_of b ≡ LineEnd

letters_on : (limits : Limits) (q p : Place) (bs rest : List ℕ) → AreLetters bs
    → lexed limits (Atom q) p (bs ++ rest) ≡ lexed limits (Atom q) (position_past p bs) rest
unfolding lexed
letters_on limits q p [] rest h = refl
letters_on limits q p (b ∷ bs) rest h = rw (h.0) (letters_on limits q (position_after p Letter) bs rest h.1)

in_line : (limits : Limits) (p : Place) (b : ℕ) (k : Kind) (rest : List ℕ) → kind_of b ≡ k → k ≢ LineEnd
    → lexed limits Comment p (b ∷ rest) ≡ lexed limits Comment (position_after p k) rest
unfolding lexed
in_line limits p b LineEnd rest e ne = absurd (ne refl)
in_line limits p b _ rest e ne = rw (e) refl

line_on : (limits : Limits) (p : Place) (bs rest : List ℕ) → HaveNoLineEnd bs
    → lexed limits Comment p (bs ++ rest) ≡ lexed limits Comment (position_past p bs) rest
line_on limits p [] rest h = refl
line_on limits p (b ∷ bs) rest h = in_line limits p b (kind_of b) (bs ++ rest) refl h.0
    ∙ line_on limits (position_after p (kind_of b)) bs rest h.1

line_ends : (limits : Limits) (p : Place) (bs : List ℕ) → EndsLine bs
    → lexed limits Comment p bs ≡ lexed limits Nothing p bs
unfolding lexed
line_ends limits p [] e = refl
line_ends limits p (b ∷ bs) e = rw (e) refl

atom_ends_by : (limits : Limits) (q p : Place) (b : ℕ) (k : Kind) (rest : List ℕ) → kind_of b ≡ k → k ≢ Letter
    → lexed limits (Atom q) p (b ∷ rest) ≡ tokens_before limits (token_at q p.at ∷ [])
    (lexed limits Nothing p (b ∷ rest))
unfolding lexed
atom_ends_by limits q p b Letter rest e ne = absurd (ne refl)
atom_ends_by limits q p b _ rest e ne = rw (e) refl

atom_ends : (limits : Limits) (q p : Place) (bs : List ℕ) → Ends bs
    → lexed limits (Atom q) p bs ≡ tokens_before limits (token_at q p.at ∷ []) (lexed limits Nothing p bs)
unfolding lexed
atom_ends limits q p [] e = refl
atom_ends limits q p (b ∷ bs) e = atom_ends_by limits q p b (kind_of b) bs refl e

ends_atom : (bs : List ℕ) (ps : List Piece) → CanPrecede (atom bs) ps → AreText ps → Ends (text_of ps)
ends_atom bs [] m h = tt
ends_atom bs (blank b ∷ ps) m h =
    λ e. elim h.0 [
      | inl f ↦ absurd (let g : Letter ≡ Blank = sym e ∙ f in cc)
      | inr f ↦ absurd (let g : Letter ≡ LineEnd = sym e ∙ f in cc)
    ]
ends_atom bs (comment cs ∷ ps) m h = λ e. absurd cc
ends_atom bs (brace b ∷ ps) m h = λ e. absurd (let g : Letter ≡ Brace = sym e ∙ h.0 in cc)
ends_atom bs (atom cs ∷ ps) m h = absurd m

ends_line : (bs : List ℕ) (ps : List Piece) → CanPrecede (comment bs) ps → EndsLine (text_of ps)
ends_line bs [] m = tt
ends_line bs (blank b ∷ ps) m = m
ends_line bs _ m = absurd m

-- the offset after the bytes of an atom
past_at : (p : Place) (bs : List ℕ) → AreLetters bs → (position_past p bs).at ≡ p.at + length bs
past_at p [] h = omega arith
past_at p (b ∷ bs) h =
    let later = past_at (position_after p Letter) bs h.1 in
    ap (λ (q : Place). q.at) (ap (λ (k : Kind). position_past (position_after p k) bs) h.0) ∙ later ∙ (omega arith)

begins_atom : (limits : Limits) (p : Place) (b : ℕ) (rest : List ℕ) → kind_of b ≡ Letter
    → lexed limits Nothing p (b ∷ rest) ≡ lexed limits (Atom p) (position_after p Letter) rest
unfolding lexed
begins_atom limits p b rest e = rw (e) refl

cut_atom : (limits : Limits) (p : Place) (bs rest : List ℕ) → 1 ≤ length bs → AreLetters bs
    → lexed limits Nothing p (bs ++ rest) ≡ lexed limits (Atom p) (position_past p bs) rest
cut_atom limits p [] rest some h = absurd (omega (arith, some))
cut_atom limits p (b ∷ bs) rest some h = begins_atom _ _ _ _ h.0 ∙ rw (h.0) (letters_on _ _ _ _ _ h.1)

blank_on : (limits : Limits) (p : Place) (b : ℕ) (rest : List ℕ) → (kind_of b ≡ Blank) ⊎ (kind_of b ≡ LineEnd)
    → lexed limits Nothing p (b ∷ rest) ≡ lexed limits Nothing (position_past p (b ∷ [])) rest
unfolding lexed
blank_on limits p b rest h = elim h [ inl e ↦ rw (e) refl | inr e ↦ rw (e) refl ]

brace_on : (limits : Limits) (p : Place) (b : ℕ) (rest : List ℕ) → kind_of b ≡ Brace
    → lexed limits Nothing p (b ∷ rest) ≡ tokens_before limits (token_at p (p.at + 1) ∷ [])
    (lexed limits Nothing (position_past p (b ∷ [])) rest)
unfolding lexed
brace_on limits p b rest e = rw (e) refl

comment_on : (limits : Limits) (p : Place) (rest : List ℕ)
    → lexed limits Nothing p (35 ∷ rest) ≡ lexed limits Comment (position_past p (35 ∷ [])) rest
unfolding lexed
comment_on limits p rest = refl

cut_pieces : (limits : Limits) (p : Place) (ps : List Piece) → AreText ps → TokensFit limits (tokens_of p ps)
    → lexed limits Nothing p (text_of ps) ≡ Ok (tokens_of p ps)
unfolding lexed
cut_pieces limits p [] h f = refl
cut_pieces limits p (blank b ∷ ps) h f = blank_on _ p b _ h.0 ∙ cut_pieces limits (position_past p (b ∷ [])) ps h.2 f
cut_pieces limits p (comment bs ∷ ps) h f =
    comment_on limits p (bs ++ text_of ps) ∙ line_on limits (position_past p (35 ∷ [])) bs (text_of ps) h.0
    ∙ line_ends limits (position_past p (35 ∷ bs)) (text_of ps) (ends_line bs ps h.1)
    ∙ cut_pieces limits (position_past p (35 ∷ bs)) ps h.2 f
cut_pieces limits p (brace b ∷ ps) h f = brace_on limits p b (text_of ps) h.0
    ∙ rw (cut_pieces limits (position_past p (b ∷ [])) ps h.2 f.1, f.0) refl
cut_pieces limits p (atom bs ∷ ps) h f =
    cut_atom limits p bs (text_of ps) h.0.0 h.0.1 ∙ atom_ends limits p (position_past p bs) (text_of ps)
    (ends_atom bs ps h.1 h.2)
    ∙ rw (cut_pieces limits (position_past p bs) ps h.2 f.1, (past_at p bs h.0.1), f.0) refl

-- ---- from tokens to pieces

-- the tokens come before those of the rest, and are all within the limits
pub record Parts (limits : Limits) (ts us : List Token) (r : Cuts) : Type 0 where
  pub later : List Token
  pub rest : r ≡ Ok later
  pub whole : us ≡ ts ++ later
  pub inside : TokensFit limits ts

test_of : (t : Token) (b : Bool) (r : Cuts) (us : List Token) → cond b r (Err (Limit t.position)) ≡ Ok us → (b ≡ true)
    × (r ≡ Ok us)
test_of t true r us e = (refl, e)
test_of t false r us e = absurd cc

after_added : (t : Token) (r : Cuts) (us : List Token) → added t r ≡ Ok us → (vs : List Token) × (r ≡ Ok vs)
    × (us ≡ t ∷ vs)
after_added t (Ok vs) us e = (vs, refl, cc)
after_added t (Err d) us e = absurd cc

pub parts : (limits : Limits) (ts us : List Token) (r : Cuts) → tokens_before limits ts r ≡ Ok us → Parts limits ts us r
parts limits [] us r e = record { later = us; rest = e; whole = refl; inside = tt }
parts limits (t ∷ ts) us r e =
    let p = test_of t (fits limits t) (added t (tokens_before limits ts r)) us e in
    let q = after_added t (tokens_before limits ts r) us p.1 in
    let h = parts limits ts q.0 r q.1 in
    record {
      later = h.later;
      rest = h.rest;
      whole = q.2
          ∙ ap (λ (xs : List Token). t ∷ xs) h.whole;
      inside = (p.0, h.inside);
    }

abbrev pub Goes : Inside → Place → List ℕ → List Piece → List ℕ → List Token → Type 0
Goes Nothing p begun ps bs ts = (begun ≡ []) × (text_of ps ≡ bs) × (tokens_of p ps ≡ ts)
Goes Comment p begun ps bs ts = HaveNoLineEnd begun × CanPrecede (comment begun) ps × (begun ++ text_of ps ≡ bs)
    × (tokens_of (position_past p begun) ps ≡ ts)
Goes (Atom q) p begun ps bs ts = AreLetters begun × CanPrecede (atom begun) ps × (begun ++ text_of ps ≡ bs)
    × (token_at q (p.at + length begun) ∷ tokens_of (position_past p begun) ps ≡ ts)

-- the pieces of the remaining bytes, after the rest of an atom or comment that has begun
pub record Found (m : Inside) (p : Place) (bs : List ℕ) (ts : List Token) : Type 0 where
  pub begun : List ℕ
  pub pieces : List Piece
  pub formed : AreText pieces
  pub goes : Goes m p begun pieces bs ts

hash_test : (t u v w x : Bool) → cond t LineEnd (cond u Blank (cond v Hash (cond w Brace (cond x Letter Bad)))) ≡ Hash
    → v ≡ true
hash_test true u v w x e = absurd cc
hash_test false true v w x e = absurd cc
hash_test false false true w x e = refl
hash_test false false false true x e = absurd cc
hash_test false false false false true e = absurd cc
hash_test false false false false false e = absurd cc

other_atom : (bs cs : List ℕ) (ps : List Piece) → CanPrecede (atom bs) ps → CanPrecede (atom cs) ps
other_atom bs cs (atom ds ∷ ps) h = h
other_atom bs cs _ h = tt

other_comment : (bs cs : List ℕ) (ps : List Piece) → CanPrecede (comment bs) ps → CanPrecede (comment cs) ps
other_comment bs cs [] h = tt
other_comment bs cs _ h = h

atom_more : (q p : Place) (b : ℕ) (bs : List ℕ) (ts : List Token) → kind_of b ≡ Letter
    → Found (Atom q) (position_after p Letter) bs ts → Found (Atom q) p (b ∷ bs) ts
atom_more q p b bs ts e h = record {
  begun = b ∷ h.begun;
  pieces = h.pieces;
  formed = h.formed;
  goes = (
    (e, h.goes.0),
    other_atom h.begun (b ∷ h.begun) h.pieces h.goes.1,
    ap (λ (xs : List ℕ). b ∷ xs) h.goes.2,
    rw (e) (let more : p.at + length (b ∷ h.begun) ≡ p.at + 1 + length h.begun = omega arith in rw (more) h.goes.3),
  );
}

comment_more : (p : Place) (b : ℕ) (k : Kind) (bs : List ℕ) (ts : List Token) → kind_of b ≡ k → k ≢ LineEnd
    → Found Comment (position_after p k) bs ts → Found Comment p (b ∷ bs) ts
comment_more p b k bs ts e ne h = record {
  begun = b ∷ h.begun;
  pieces = h.pieces;
  formed = h.formed;
  goes = (
    (λ f. ne (sym e ∙ f), h.goes.0),
    other_comment h.begun (b ∷ h.begun) h.pieces h.goes.1,
    ap (λ (xs : List ℕ). b ∷ xs) h.goes.2,
    rw (e) h.goes.3,
  );
}

blank_more : (p : Place) (b : ℕ) (k : Kind) (bs : List ℕ) (ts : List Token) → kind_of b ≡ k → (kind_of b ≡ Blank)
    ⊎ (kind_of b ≡ LineEnd) → Found Nothing (position_after p k) bs ts → Found Nothing p (b ∷ bs) ts
blank_more p b k bs ts e is h = record {
  begun = [];
  pieces = blank b ∷ h.pieces;
  formed = (is, tt, h.formed);
  goes = (refl, ap (λ (xs : List ℕ). b ∷ xs) h.goes.1, rw (e) h.goes.2);
}

brace_more : (p : Place) (b : ℕ) (bs : List ℕ) (ts : List Token) → kind_of b ≡ Brace
    → Found Nothing (position_after p Brace) bs ts → Found Nothing p (b ∷ bs) (token_at p (p.at + 1) ∷ ts)
brace_more p b bs ts e h = record {
  begun = [];
  pieces = brace b ∷ h.pieces;
  formed = (e, tt, h.formed);
  goes = (
    refl,
    ap (λ (xs : List ℕ). b ∷ xs) h.goes.1,
    rw (e) (ap (λ (us : List Token). token_at p (p.at + 1) ∷ us) h.goes.2),
  );
}

comment_begins : (p : Place) (b : ℕ) (bs : List ℕ) (ts : List Token) → kind_of b ≡ Hash
    → Found Comment (position_after p Hash) bs ts → Found Nothing p (b ∷ bs) ts
comment_begins p b bs ts e h = record {
  begun = [];
  pieces = comment h.begun ∷ h.pieces;
  formed = (h.goes.0, h.goes.1, h.formed);
  goes = (
    refl,
    ap (λ (x : ℕ). x ∷ (h.begun ++ text_of h.pieces)) (sym (eqb-true b 35 (hash_test _ _ _ _ _ e)))
        ∙ ap (λ (xs : List ℕ). b ∷ xs) h.goes.2,
    h.goes.3,
  );
}

atom_begins : (p : Place) (b : ℕ) (bs : List ℕ) (ts : List Token) → kind_of b ≡ Letter
    → Found (Atom p) (position_after p Letter) bs ts → Found Nothing p (b ∷ bs) ts
atom_begins p b bs ts e h = record {
  begun = [];
  pieces = atom (b ∷ h.begun) ∷ h.pieces;
  formed = ((omega arith, (e, h.goes.0)), other_atom h.begun (b ∷ h.begun) h.pieces h.goes.1, h.formed);
  goes = (
    refl,
    ap (λ (xs : List ℕ). b ∷ xs) h.goes.2,
    rw (e) (let more : p.at + length (b ∷ h.begun) ≡ p.at + 1 + length h.begun = omega arith in rw (more) h.goes.3),
  );
}

line_over : (p : Place) (b : ℕ) (bs : List ℕ) (ts : List Token) → kind_of b ≡ LineEnd
    → Found Nothing (position_after p LineEnd) bs ts → Found Comment p (b ∷ bs) ts
line_over p b bs ts e h = record {
  begun = [];
  pieces = blank b ∷ h.pieces;
  formed = (inr e, tt, h.formed);
  goes = (tt, e, ap (λ (xs : List ℕ). b ∷ xs) h.goes.1, rw (e) h.goes.2);
}

no_atom : (b : ℕ) (bs : List ℕ) (ps : List Piece) → kind_of b ≢ Letter → AreText ps → text_of ps ≡ b ∷ bs
    → CanPrecede (atom []) ps
no_atom b bs (atom [] ∷ ps) ne h e = absurd (let some = h.0.0 in omega (arith, some))
no_atom b bs (atom (c ∷ cs) ∷ ps) ne h e =
    absurd (ne (let same : b ≡ c = ap (λ (xs : List ℕ). head_of xs) (sym e) in ap kind_of same ∙ h.0.1.0))
no_atom b bs _ ne h e = tt

-- an atom that ends before a byte that cannot be in an atom
atom_over : (q p : Place) (b : ℕ) (bs : List ℕ) (ts : List Token) → kind_of b ≢ Letter → Found Nothing p (b ∷ bs) ts
    → Found (Atom q) p (b ∷ bs) (token_at q p.at ∷ ts)
atom_over q p b bs ts ne h = record {
  begun = [];
  pieces = h.pieces;
  formed = h.formed;
  goes = (
    tt,
    no_atom b bs h.pieces ne h.formed h.goes.1,
    h.goes.1,
    (let none : p.at + 0 ≡ p.at = omega arith in rw (none) (ap (λ (us : List Token). token_at q p.at ∷ us) h.goes.2)),
  );
}

found_step : (m : Inside) (p : Place) (b : ℕ) (k : Kind) (bs : List ℕ) (ts : List Token) → kind_of b ≡ k
    → is_bad m k ≡ false
    → Found (inside_after m p k) (position_after p k) bs ts → Found m p (b ∷ bs) (made m p k ++ ts)
found_step Nothing p b Blank bs ts e good h = blank_more p b Blank bs ts e (inl e) h
found_step Nothing p b LineEnd bs ts e good h = blank_more p b LineEnd bs ts e (inr e) h
found_step Nothing p b Hash bs ts e good h = comment_begins p b bs ts e h
found_step Nothing p b Brace bs ts e good h = brace_more p b bs ts e h
found_step Nothing p b Letter bs ts e good h = atom_begins p b bs ts e h
found_step Comment p b Blank bs ts e good h = comment_more p b Blank bs ts e (λ f. absurd cc) h
found_step Comment p b LineEnd bs ts e good h = line_over p b bs ts e h
found_step Comment p b Hash bs ts e good h = comment_more p b Hash bs ts e (λ f. absurd cc) h
found_step Comment p b Brace bs ts e good h = comment_more p b Brace bs ts e (λ f. absurd cc) h
found_step Comment p b Letter bs ts e good h = comment_more p b Letter bs ts e (λ f. absurd cc) h
found_step Comment p b Bad bs ts e good h = comment_more p b Bad bs ts e (λ f. absurd cc) h
found_step (Atom q) p b Blank bs ts e good h =
    atom_over _ _ _ _ _ (λ f. absurd (let g : Blank ≡ Letter = sym e ∙ f in cc)) (blank_more _ _ _ _ _ e (inl e) h)
found_step (Atom q) p b LineEnd bs ts e good h =
    atom_over _ _ _ _ _ (λ f. absurd (let g : LineEnd ≡ Letter = sym e ∙ f in cc)) (blank_more _ _ _ _ _ e (inr e) h)
found_step (Atom q) p b Hash bs ts e good h =
    atom_over q p b bs ts (λ f. absurd (let g : Hash ≡ Letter = sym e ∙ f in cc)) (comment_begins p b bs ts e h)
found_step (Atom q) p b Brace bs ts e good h =
    atom_over _ _ _ _ _ (λ f. absurd (let g : Brace ≡ Letter = sym e ∙ f in cc)) (brace_more _ _ _ _ e h)
found_step (Atom q) p b Letter bs ts e good h = atom_more q p b bs ts e h
found_step _ p b Bad bs ts e good h = absurd cc

good_byte : (b : Bool) (p : Place) (r : Cuts) (us : List Token) → cond b (Err (Byte p.position)) r ≡ Ok us → (b ≡ false)
    × (r ≡ Ok us)
good_byte true p r us e = absurd cc
good_byte false p r us e = (refl, e)

pub both_fit : (limits : Limits) (ts us : List Token) → TokensFit limits ts → TokensFit limits us
    → TokensFit limits (ts ++ us)
both_fit limits [] us h k = k
both_fit limits (t ∷ ts) us h k = (h.0, both_fit limits ts us h.1 k)

found_end : (limits : Limits) (m : Inside) (p : Place) (ts : List Token)
    → tokens_before limits (atom_ended m p.at Blank) (Ok []) ≡ Ok ts → Found m p [] ts × TokensFit limits ts
found_end limits Nothing p ts e = let is : [] ≡ ts = cc in
    subst (λ (us : List Token). Found Nothing p [] us × TokensFit limits us) is
    (record { begun = []; pieces = []; formed = tt; goes = (refl, refl, refl) }, tt)
found_end limits Comment p ts e = let is : [] ≡ ts = cc in
    subst (λ (us : List Token). Found Comment p [] us × TokensFit limits us) is
    (record { begun = []; pieces = []; formed = tt; goes = (tt, tt, refl, refl) }, tt)
found_end limits (Atom q) p ts e =
    let h = parts limits (token_at q p.at ∷ []) ts (Ok []) e in
    let none : [] ≡ h.later = (let f = h.rest in cc) in
    let is : token_at q p.at ∷ [] ≡ ts = ap (λ (us : List Token). token_at q p.at ∷ us) none ∙ sym h.whole in
    let zero_more : p.at + 0 ≡ p.at = omega arith in
    rw (← is) (record { begun = []; pieces = []; formed = tt; goes = (tt, tt, refl, rw (zero_more) refl) }, h.inside)

found_pieces : (limits : Limits) (m : Inside) (p : Place) (bs : List ℕ) (ts : List Token) → lexed limits m p bs ≡ Ok ts
    → Found m p bs ts × TokensFit limits ts
unfolding lexed
found_pieces limits m p [] ts e = found_end limits m p ts e
found_pieces limits m p (b ∷ bs) ts e =
    let k = kind_of b in
    let h = parts limits (made m p k) ts
    (cond (is_bad m k) (Err (Byte p.position)) (lexed limits (inside_after m p k) (position_after p k) bs)) e in
    let good = good_byte (is_bad m k) p (lexed limits (inside_after m p k) (position_after p k) bs) h.later h.rest in
    let later = found_pieces limits (inside_after m p k) (position_after p k) bs h.later good.1 in
    subst (λ (us : List Token). Found m p (b ∷ bs) us × TokensFit limits us) (sym h.whole)
    (found_step m p b k bs h.later refl good.0 later.0, both_fit limits (made m p k) h.later h.inside later.1)

pub texts_are_cut : TextsAreCut
texts_are_cut limits text tokens = (
  λ e. let h = found_pieces limits Nothing first_position text tokens e in
      record { pieces = h.0.pieces; formed = h.0.formed; whole = h.0.goes.1; are = h.0.goes.2; within = h.1 },
  λ h. let all : TokensFit limits (tokens_of first_position h.pieces) =
      subst (λ (us : List Token). TokensFit limits us) (sym h.are) h.within in
      let cut = cut_pieces limits first_position h.pieces h.formed all in
      ap (lexed limits Nothing first_position) (sym h.whole) ∙ cut ∙ ap Ok h.are,
)

pub cut_into : (limits : Limits) (text : List ℕ) (ts : List Token) → lexed limits Nothing first_position text ≡ Ok ts
    → IsCutInto limits text ts
cut_into limits text ts e = (texts_are_cut limits text ts).0 e

pub not_cut : (limits : Limits) (text : List ℕ) (f : ScriptFault) → lexed limits Nothing first_position text ≡ Err f
    → (ts : List Token) → IsCutInto limits text ts → ⊥
not_cut limits text f e ts h = let is : lexed limits Nothing first_position text ≡ Ok ts =
    (texts_are_cut limits text ts).1 h in
    absurd (let g : Result (List Token) ScriptFault = Err f in let both : g ≡ Ok ts = sym e ∙ is in cc)
