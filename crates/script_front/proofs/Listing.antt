-- The parts of a script are within its limits when printed.
use Rattle.script_front.proofs.Words.{[], ◌+◌, ◌-◌, ◌<◌, ◌∷◌, ◌≡◌, ◌≤◌, AllFit, Block, Global, IsInBounds, List}
use Rattle.script_front.proofs.Words.{Statement, Vec, add-one, apply, arith, basic, block_of, bodies, drop, drop-cons}
use Rattle.script_front.proofs.Words.{either, forever, get_or, length, nothing, refl, repeat, stop, subst, when, ℕ}

-- a block in range where this many blocks are known is in range where more are known
pub more_known : (known more depth : ℕ) (b : Block) → known ≤ more → IsInBounds known depth b → IsInBounds more depth b
more_known known more depth nothing le h = tt
more_known known more depth (basic line act rest) le h = (h.0, more_known known more depth rest le h.1)
more_known known more depth (stop line rest) le h = more_known known more depth rest le h
more_known known more depth (when line condition first rest) le h =
    (h.0, h.1, more_known known more (depth - 1) first le h.2, more_known known more depth rest le h.3)
more_known known more depth (either line condition first second rest) le h = (
  h.0,
  h.1,
  more_known known more (depth - 1) first le h.2,
  more_known known more (depth - 1) second le h.3,
  more_known known more depth rest le h.4,
)
more_known known more depth (repeat line times body rest) le h =
    (h.0, h.1, h.2, more_known known more (depth - 1) body le h.3, more_known known more depth rest le h.4)
more_known known more depth (forever line body rest) le h =
    (h.0, more_known known more (depth - 1) body le h.1, more_known known more depth rest le h.2)
more_known known more depth (apply line number named rest) le h =
    (omega (arith, h.0, le), more_known known more depth rest le h.1)

pub record NextFits (k i names : ℕ) (bs : List (Vec Statement Global)) (v : Vec Statement Global) : Type 0 where
  pub fits : IsInBounds names 15 (block_of [] v.items)
  pub later : AllFit (k + 1) (bodies (drop (i + 1) bs))

pub next_fits : (k i names : ℕ) (bs : List (Vec Statement Global)) (v : Vec Statement Global) → i < length bs
    → v ≡ get_or bs i v → k ≤ names → AllFit k (bodies (drop i bs)) → NextFits k i names bs v
next_fits k i names bs v lt is few h =
    let f : drop i bs ≡ v ∷ drop (i + 1) bs = rw (is) (rw (add-one, drop-cons bs i v lt) refl) in
    let g = subst (λ (xs : List (Vec Statement Global)). AllFit k (bodies xs)) f h in
    record { fits = more_known k names 15 (block_of [] v.items) few g.0; later = g.1 }
