-- Frames that are held back, in small cases: for each definition one in which it holds, and one in which it does not.
use Rattle.cli_streams.proofs.Words.{[], ◌∷◌, ◌≡◌, IsWritten, List, Option, Some, finished, left_of, refl, writer_of, ℕ}
use Rattle.cli_streams.specs.declared.held_frames.HeldFrames.{HeldFrames}

-- ---- what is left

buffered_first : left_of (record { ahead = 1 ∷ []; behind = Some (2 ∷ []) }) ≡ Some (1 ∷ 2 ∷ [])
buffered_first = refl

not_behind_alone : left_of (record { ahead = 1 ∷ []; behind = Some (2 ∷ []) }) ≡ Some (2 ∷ []) → ⊥
not_behind_alone h = absurd (cc)

-- ---- what is held

module _ {W : Type 0} (contents : W → Option (List ℕ)) (h : HeldFrames W) where
  held_behind : contents (writer_of h) ≡ Some (1 ∷ []) → h.held.items ≡ 2 ∷ [] → finished contents h ≡ Some (1 ∷ 2 ∷ [])
  held_behind known held = rw (known, held) refl

  none_held : contents (writer_of h) ≡ Some (1 ∷ []) → h.held.items ≡ [] → IsWritten contents h
  none_held known none = (none, rw (known, none) refl)

  one_held : h.held.items ≡ 2 ∷ [] → IsWritten contents h → ⊥
  one_held held written = absurd (let none = written.0 in cc)
