-- Sets of counters and of contacts, as bit sets.
use Rattle.std.specs.Prelude.{◌≡◌, ◌≢◌, ℕ, ◌-◌, ◌<◌, ◌^◌, ◌==◌, ◌&&◌, Bool, true, false, not, List}
use Rattle.std.specs.Int.{bit_at}
use Rattle.std.specs.List.{list_any, range_with_len}
use Rattle.std.specs.Int.RustNames.{bit_and, bit_or}
use Rattle.plan_code.specs.declared.flags.Counters.{Counters}
use Rattle.plan_code.specs.declared.flags.Contacts.{Contacts}

-- counter r is in the set
abbrev pub is_set : Counters → ℕ → Bool
is_set counters r = bit_at counters.0 r == 1

-- contact c is closed
abbrev pub is_closed : Contacts → ℕ → Bool
is_closed contacts c = bit_at contacts.0 c == 1

-- the set with counter r, and without it
abbrev pub with_counter : ℕ → Counters → Counters
with_counter r counters = record { 0 = bit_or counters.0 (2 ^ r) }

abbrev pub without_counter : ℕ → Counters → Counters
without_counter r counters = record { 0 = bit_and counters.0 (2 ^ 8 - 1 - 2 ^ r) }

-- every counter of the other set is in this one
abbrev pub Includes : Counters → Counters → Type 0
Includes counters other = (r : ℕ) → is_set other r ≡ true → is_set counters r ≡ true

-- the contacts with contact c closed, or open
abbrev pub with_contact : ℕ → Bool → Contacts → Contacts
with_contact c true contacts = record { 0 = bit_or contacts.0 (2 ^ c) }
with_contact c false contacts = record { 0 = bit_and contacts.0 (2 ^ 16 - 1 - 2 ^ c) }

-- contact c is in a set of contacts to wait for
abbrev pub is_in : Contacts → ℕ → Bool
is_in set c = bit_at set.0 c == 1

abbrev pub contact_ids : List ℕ
contact_ids = range_with_len 0 16

-- one of the contacts of the set is closed; below, one of them is open
unfoldable pub any_closed : (set contacts : Contacts) → Bool
any_closed set contacts = list_any (λ c. is_in set c && is_closed contacts c) contact_ids

unfoldable pub any_open : (set contacts : Contacts) → Bool
any_open set contacts = list_any (λ c. is_in set c && not (is_closed contacts c)) contact_ids

-- ---- what these change, and what they leave unchanged

abbrev pub CountersChangeAlone : Type 0
CountersChangeAlone =
    (counters : Counters) (r : ℕ) → r < 8
    → (is_set (with_counter r counters) r ≡ true) × (is_set (without_counter r counters) r ≡ false)
    × ((q : ℕ) → q < 8 → q ≢ r
    → (is_set (with_counter r counters) q ≡ is_set counters q)
    × (is_set (without_counter r counters) q ≡ is_set counters q))

abbrev pub ContactsChangeAlone : Type 0
ContactsChangeAlone =
    (contacts : Contacts) (c : ℕ) (closed : Bool) → c < 16
    → (is_closed (with_contact c closed contacts) c ≡ closed)
    × ((d : ℕ) → d < 16 → d ≢ c → is_closed (with_contact c closed contacts) d ≡ is_closed contacts d)
