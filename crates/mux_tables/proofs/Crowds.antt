-- A lane above 1 is two sub-channels that share a capacity unit.
use Rattle.mux_tables.proofs.Words.{◌<◌, ◌≡◌, ◌≤◌, Block, Bool, Configuration, Counts, IsConfiguration, IsCrowded}
use Rattle.mux_tables.proofs.Words.{IsPlaced, List, arith, each_contains, false, false≢true, refl, true, users, ℕ}
use Rattle.mux_tables.proofs.Users.{sharing_told, two_found}

crowded_told : (c : Configuration) → IsConfiguration c → ((u : ℕ) × (1 < users c.subs u)) → IsCrowded c
crowded_told c is found =
    let pair = sharing_told c.subs found.0 is.subs_ascend found.1 in
    record {
      first = pair.first;
      second = pair.second;
      unit = found.0;
      has_first = pair.has_first;
      has_second = pair.has_second;
      differ = λ same. omega (arith, same);
      of_first = pair.of_first;
      of_second = pair.of_second;
    }

unit_within : (c : Configuration) → IsConfiguration c → (h : IsCrowded c) → h.unit < 864
unit_within c is h =
    let placed = each_contains IsPlaced c.subs h.first is.subs_placed h.has_first in
    omega arith

pub crowded_by : (c : Configuration) (blocks : List Block) (t : Bool) → IsConfiguration c → Counts blocks (users c.subs)
    → ((uses : ℕ → ℕ) → Counts blocks uses → t ≡ true → (u : ℕ) × (1 < uses u))
    → ((uses : ℕ → ℕ) → Counts blocks uses → t ≡ false → (u : ℕ) → u < 864 → uses u ≤ 1)
    → (t ≡ true → IsCrowded c) × (IsCrowded c → t ≡ true)
crowded_by c blocks true is counts told none = (λ e. crowded_told c is (told (users c.subs) counts refl), λ h. refl)
crowded_by c blocks false is counts told none = (
  λ e. absurd (false≢true e),
  λ h.
      absurd (
      let high = two_found c.subs h.unit h.first h.second h.has_first h.has_second h.differ h.of_first h.of_second in
      omega (arith, none (users c.subs) counts refl h.unit (unit_within c is h), high)
      ),
)
