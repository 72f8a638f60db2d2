-- Entries one after the other: the past after them, and whether there is room.
use Rattle.stream_check.proofs.Words.{[], ◌++◌, ◌∷◌, ◌≡◌, Item, List, Moment, Said, cond, false, false≢true}
use Rattle.stream_check.proofs.Words.{has_no_room, known_of, refl, runs_full, said, sym, true, ℕ}

pub said_append : (xs ys : List Item) (past : List Moment) → said (xs ++ ys) past ≡ said ys (said xs past)
said_append [] ys past = refl
said_append (x ∷ xs) ys past = said_append xs ys (Said x ∷ past)

pub full_append : (step period : ℕ) (xs ys : List Item) (past : List Moment) → runs_full step period past xs ≡ false
    → runs_full step period past (xs ++ ys) ≡ runs_full step period (said xs past) ys
full_append step period [] ys past e = refl
full_append step period (x ∷ xs) ys past e =
    elim (has_no_room (known_of step period past) x) as (λ t.
    cond t true (runs_full step period (Said x ∷ past) xs) ≡ false
    → cond t true (runs_full step period (Said x ∷ past) (xs ++ ys))
    ≡ runs_full step period (said xs (Said x ∷ past)) ys) [
      | true ↦ λ h. absurd (false≢true (sym h))
      | false ↦ λ h. full_append step period xs ys (Said x ∷ past) h
    ] e

pub full_stays : (step period : ℕ) (xs ys : List Item) (past : List Moment) → runs_full step period past xs ≡ true
    → runs_full step period past (xs ++ ys) ≡ true
full_stays step period [] ys past e = absurd (false≢true e)
full_stays step period (x ∷ xs) ys past e =
    elim (has_no_room (known_of step period past) x) as (λ t.
    cond t true (runs_full step period (Said x ∷ past) xs) ≡ true
    → cond t true (runs_full step period (Said x ∷ past) (xs ++ ys)) ≡ true) [
      | true ↦ λ h. refl
      | false ↦ λ h. full_stays step period xs ys (Said x ∷ past) h
    ] e
