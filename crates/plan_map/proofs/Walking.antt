-- The rows of a code, instruction by instruction.
use Rattle.plan_map.proofs.Words.{[], ◌++◌, ◌+◌, ◌<◌, ◌∙◌, ◌∷◌, ◌≡◌, ◌≤◌, Configuration, Line, List, Program, Reached}
use Rattle.plan_map.proofs.Words.{Row, Ways, after, ap, append-nil, append_assoc, commits_from, drop, drop_all}
use Rattle.plan_map.proofs.Words.{drop_more, get_or, known_next, left_by, length, refl, row_at, sym, ways_from, ℕ}

-- one more instruction
pub row_more : (p : Program) (rows more all : List Row) (ls : List Line) (i : ℕ) (l : Line) (before ways onward : Ways)
    (passed longer : List Reached) (next here : Configuration) → i < length ls → l ≡ get_or ls i l
    → here ≡ known_next p i next → ways ≡ ways_from i before passed → more ≡ rows ++ row_at l ways here
    → longer ≡ passed ++ record { instr = l.instr; ways = ways } ∷ [] → onward ≡ after l.instr ways
    → rows ++ commits_from p i before passed next (drop i ls) ≡ all → more
    ++ commits_from p (i + 1) onward longer (left_by l.instr here) (drop (i + 1) ls) ≡ all
row_more p rows more all ls i l before ways onward passed longer next here lt same is leads pushed passes leaves
    so_far =
    let behind = commits_from p (i + 1) onward longer (left_by l.instr here) (drop (i + 1) ls) in
    let step : row_at l ways here ++ behind ≡ commits_from p i before passed next (drop i ls) =
    rw ((drop_more ls i l lt ∙ ap (λ (x : Line). x ∷ drop (i + 1) ls) (sym same)), is, leaves, passes, leads) refl in
    cc (pushed, append_assoc rows (row_at l ways here) behind, step, so_far)

-- no instruction is left
pub rows_all : (p : Program) (rows all : List Row) (ls : List Line) (i : ℕ) (before : Ways) (passed : List Reached)
    (next : Configuration) → length ls ≤ i → rows ++ commits_from p i before passed next (drop i ls) ≡ all → rows ≡ all
rows_all p rows all ls i before passed next past so_far =
    sym (append-nil rows) ∙ sym (ap (λ (rs : List Row). rows ++ rs) (rw (drop_all i ls past) refl)) ∙ so_far
