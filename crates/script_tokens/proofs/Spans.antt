-- The tokens of a text are in order within the text, and on lines within the limit.
use Rattle.script_tokens.proofs.Words.{[], ◌++◌, ◌+◌, ◌<◌, ◌∙◌, ◌∷◌, ◌≡◌, ◌≤◌, AreOnScriptLines, AreWithin, Atom, Bad}
use Rattle.script_tokens.proofs.Words.{Blank, Bool, Brace, Byte, Comment, Err, Hash, InOrder, Inside, Kind, Letter}
use Rattle.script_tokens.proofs.Words.{Limits, LineEnd, List, Nothing, Ok, Place, Token, TokensFit, ap, arith}
use Rattle.script_tokens.proofs.Words.{atom_ended, cond, false, first_position, fits, inside_after, is_bad, kind_of}
use Rattle.script_tokens.proofs.Words.{length, made, nat_tests, position_after, refl, subst, sym, tokens_before, true}
use Rattle.script_tokens.proofs.Words.{ℕ}
use Rattle.script_tokens.specs.Lexing.{lexed}
use Rattle.script_tokens.proofs.Lexing.{Cuts}
use Rattle.script_tokens.proofs.Pieces.{parts, both_fit}

abbrev begins : Inside → Place → ℕ
begins (Atom q) p = q.at
begins _ p = p.at

abbrev IsOpen : Inside → Place → Type 0
IsOpen (Atom q) p = q.at < p.at
IsOpen _ p = Unit {0}

lower : (n m : ℕ) (ts : List Token) (to : ℕ) → m ≤ n → InOrder n ts to → InOrder m ts to
lower n m [] to le h = omega (arith, h)
lower n m (t ∷ ts) to le h = (omega (arith, h.0), h.1, h.2)

step : (m : Inside) (p : Place) (k : Kind) (us : List Token) (to : ℕ) → IsOpen m p
    → InOrder (begins (inside_after m p k) (position_after p k)) us to
    → InOrder (begins m p) (made m p k ++ us) to
step Nothing p Blank us to o h = lower (p.at + 1) _ us to (omega arith) h
step Nothing p LineEnd us to o h = lower (p.at + 1) _ us to (omega arith) h
step Nothing p Hash us to o h = lower (p.at + 1) _ us to (omega arith) h
step Nothing p Brace us to o h = (omega arith, omega arith, h)
step Nothing p Letter us to o h = h
step Nothing p Bad us to o h = lower (p.at + 1) _ us to (omega arith) h
step Comment p Blank us to o h = lower (p.at + 1) _ us to (omega arith) h
step Comment p LineEnd us to o h = lower (p.at + 1) _ us to (omega arith) h
step Comment p Hash us to o h = lower (p.at + 1) _ us to (omega arith) h
step Comment p Brace us to o h = lower (p.at + 1) _ us to (omega arith) h
step Comment p Letter us to o h = lower (p.at + 1) _ us to (omega arith) h
step Comment p Bad us to o h = lower (p.at + 1) _ us to (omega arith) h
step (Atom q) p Blank us to o h = (omega arith, o, lower (p.at + 1) _ us to (omega arith) h)
step (Atom q) p LineEnd us to o h = (omega arith, o, lower (p.at + 1) _ us to (omega arith) h)
step (Atom q) p Hash us to o h = (omega arith, o, lower (p.at + 1) _ us to (omega arith) h)
step (Atom q) p Brace us to o h = (omega arith, o, (omega arith, omega arith, h))
step (Atom q) p Letter us to o h = h
step (Atom q) p Bad us to o h = (omega arith, o, lower (p.at + 1) _ us to (omega arith) h)

stays_open : (m : Inside) (p : Place) (k : Kind) → IsOpen m p → IsOpen (inside_after m p k) (position_after p k)
stays_open Nothing p Blank o = tt
stays_open Nothing p LineEnd o = tt
stays_open Nothing p Hash o = tt
stays_open Nothing p Brace o = tt
stays_open Nothing p Bad o = tt
stays_open Comment p Blank o = tt
stays_open Comment p LineEnd o = tt
stays_open Comment p Hash o = tt
stays_open Comment p Brace o = tt
stays_open Comment p Letter o = tt
stays_open Comment p Bad o = tt
stays_open (Atom q) p Blank o = tt
stays_open (Atom q) p LineEnd o = tt
stays_open (Atom q) p Hash o = tt
stays_open (Atom q) p Brace o = tt
stays_open (Atom q) p Bad o = tt
stays_open _ p Letter o = omega arith

at_after : (p : Place) (k : Kind) → (position_after p k).at ≡ p.at + 1
at_after p LineEnd = refl
at_after p Blank = refl
at_after p Hash = refl
at_after p Brace = refl
at_after p Letter = refl
at_after p Bad = refl

not_bad : (b : Bool) (p : Place) (r : Cuts) (us : List Token) → cond b (Err (Byte p.position)) r ≡ Ok us → r ≡ Ok us
not_bad true p r us e = absurd cc
not_bad false p r us e = e

pub record AreCut (limits : Limits) (from : ℕ) (ts : List Token) (to : ℕ) : Type 0 where
  pub order : InOrder from ts to
  pub inside : TokensFit limits ts

at_end : (limits : Limits) (m : Inside) (p : Place) (ts : List Token) → IsOpen m p
    → tokens_before limits (atom_ended m p.at Blank) (Ok []) ≡ Ok ts → AreCut limits (begins m p) ts (p.at + 0)
at_end limits (Atom q) p ts o e =
    let h = parts limits (atom_ended (Atom q) p.at Blank) ts (Ok []) e in
    let none : [] ≡ h.later = (let f = h.rest in cc) in
    let is = ap (λ (us : List Token). atom_ended (Atom q) p.at Blank ++ us) none ∙ sym h.whole in
    rw (← is) (record { order = (omega arith, o, omega arith); inside = h.inside })
at_end limits _ p ts o e = let is : [] ≡ ts = cc in
    subst (λ (us : List Token). AreCut limits p.at us (p.at + 0)) is (record { order = omega arith; inside = tt })

pub cut_in_order : (limits : Limits) (m : Inside) (p : Place) (bs : List ℕ) (ts : List Token) → IsOpen m p
    → lexed limits m p bs ≡ Ok ts → AreCut limits (begins m p) ts (p.at + length bs)
unfolding lexed
cut_in_order limits m p [] ts o e = at_end limits m p ts o e
cut_in_order limits m p (b ∷ bs) ts o e =
    let k = kind_of b in
    let h = parts limits (made m p k) ts
    (cond (is_bad m k) (Err (Byte p.position)) (lexed limits (inside_after m p k) (position_after p k) bs)) e in
    let good = not_bad (is_bad m k) p (lexed limits (inside_after m p k) (position_after p k) bs) h.later h.rest in
    let later = cut_in_order limits (inside_after m p k) (position_after p k) bs h.later (stays_open m p k o) good in
    let to : (position_after p k).at + length bs ≡ p.at + length (b ∷ bs) =
    (let a = at_after p k in omega (arith, a)) in
    record {
      order = rw h.whole (step m p k h.later (p.at + length (b ∷ bs)) o (rw (← to) later.order));
      inside = rw h.whole (both_fit limits (made m p k) h.later h.inside later.inside);
    }

reaches : (from : ℕ) (ts : List Token) (to : ℕ) → InOrder from ts to → from ≤ to
reaches from [] to h = h
reaches from (t ∷ ts) to h = let later = reaches t.end ts to h.2 in omega (arith, h.0, h.1, later)

line_of : (limits : Limits) (t : Token) → fits limits t ≡ true → t.position.line ≤ limits.line
line_of limits t e = grind (arith, nat_tests, e)

are_within : (from : ℕ) (ts : List Token) (to : ℕ) → InOrder from ts to → AreWithin to ts
are_within from [] to h = tt
are_within from (t ∷ ts) to h = (h.1, reaches t.end ts to h.2, are_within t.end ts to h.2)

pub within : (limits : Limits) (bs : List ℕ) (ts : List Token) → lexed limits Nothing first_position bs ≡ Ok ts
    → AreWithin (length bs) ts
within limits bs ts e =
    let h = cut_in_order limits Nothing first_position bs ts tt e in
    subst (λ (n : ℕ). AreWithin n ts) (omega arith) (are_within 0 ts (0 + length bs) h.order)

are_on_lines : (limits : Limits) (ts : List Token) → limits.line ≤ 65535 → TokensFit limits ts → AreOnScriptLines ts
are_on_lines limits [] small k = tt
are_on_lines limits (t ∷ ts) small k = let line = line_of limits t k.0 in
    (omega (arith, line), are_on_lines limits ts small k.1)

pub on_script_lines : (limits : Limits) (bs : List ℕ) (ts : List Token) → limits.line ≤ 65535
    → lexed limits Nothing first_position bs ≡ Ok ts → AreOnScriptLines ts
on_script_lines limits bs ts small e = are_on_lines _ _ small (cut_in_order _ _ _ _ _ tt e).inside
