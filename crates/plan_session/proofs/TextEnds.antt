-- The position just past a text, byte by byte.
use Rattle.plan_session.proofs.Words.{◌+◌, ◌<◌, ◌∷◌, ◌≡◌, ◌≤◌, Bad, Blank, Brace, Hash, Kind, Letter, LineEnd}
use Rattle.plan_session.proofs.Words.{List, Place, add-one, arith, drop, drop-cons, get_or, kind_of, length}
use Rattle.plan_session.proofs.Words.{position_after, position_past, refl, ℕ}

pub record Follows (p q : Place) : Type 0 where
  pub at : q.at ≡ p.at + 1
  pub line : q.position.line ≤ p.position.line + 1
  pub column : q.position.column ≤ p.position.column + 1

pub follows : (p q : Place) (k : Kind) → q ≡ position_after p k → Follows p q
follows p q LineEnd e = rw (e) (record { at = refl; line = omega arith; column = omega arith })
follows p q Blank e = rw (e) (record { at = refl; line = omega arith; column = omega arith })
follows p q Hash e = rw (e) (record { at = refl; line = omega arith; column = omega arith })
follows p q Brace e = rw (e) (record { at = refl; line = omega arith; column = omega arith })
follows p q Letter e = rw (e) (record { at = refl; line = omega arith; column = omega arith })
follows p q Bad e = rw (e) (record { at = refl; line = omega arith; column = omega arith })

pub position_on : (p q : Place) (text : List ℕ) (k : Kind) → p.at < length text → k ≡ kind_of (get_or text p.at 0)
    → q ≡ position_after p k → q.at ≡ p.at + 1 → position_past p (drop p.at text) ≡ position_past q (drop q.at text)
position_on p q text k lt is after at =
    let cut : drop p.at text ≡ get_or text p.at 0 ∷ drop (p.at + 1) text = rw (add-one, drop-cons text _ 0 lt) refl in
    cc (cut, is, after, at)
