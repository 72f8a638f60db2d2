-- Lookup in a picture with one more entry.
use Rattle.stream_laws.proofs.Words.{[], ◌==◌, ◌||◌, ◌∙◌, ◌∷◌, ◌≡◌, Bool, List, None, Option, Pictured, Raw, Some, ap}
use Rattle.stream_laws.proofs.Words.{cond, entry_at, entry_like, eq-eqb, eqb-true, false, false≢true, finds_no_room}
use Rattle.stream_laws.proofs.Words.{has_entry, has_room, identifier_of, is_known, kept, length, lookup, lookup_among}
use Rattle.stream_laws.proofs.Words.{lookup_in, nat_lt, or_right, pictured, present, refl, sym, true, with_entry}
use Rattle.stream_laws.proofs.Words.{with_entry_changed, ℕ}
use Rattle.stream_check.specs.declared.heard_table.Lookup.TheVariants as standings

-- ---- one list

added_here : (raw : Raw) (rs : List Raw) → has_entry identifier_of (identifier_of raw) rs ≡ false
    → entry_at identifier_of (identifier_of raw) (with_entry identifier_of raw rs) ≡ Some raw
added_here raw [] none = ap (λ t. cond t (Some raw) None) (eq-eqb (identifier_of raw) (identifier_of raw) refl)
added_here raw (x ∷ xs) none =
    elim (identifier_of x == identifier_of raw) as (λ t. (identifier_of x == identifier_of raw) ≡ t
    → (t || has_entry identifier_of (identifier_of raw) xs) ≡ false
    → entry_at identifier_of (identifier_of raw)
    (cond (nat_lt (identifier_of raw) (identifier_of x)) (raw ∷ x ∷ xs) (x ∷ with_entry identifier_of raw xs))
    ≡ Some raw) [
      | true ↦ λ is n. absurd (false≢true (sym n))
      | false ↦ λ is n. elim (nat_lt (identifier_of raw) (identifier_of x))
          as (λ t. entry_at identifier_of (identifier_of raw)
          (cond t (raw ∷ x ∷ xs) (x ∷ with_entry identifier_of raw xs)) ≡ Some raw) [
            | true ↦ ap (λ t. cond t (Some raw) (entry_at identifier_of (identifier_of raw) (x ∷ xs)))
                (eq-eqb (identifier_of raw) (identifier_of raw) refl)
            | false ↦ ap (λ t. cond t (Some x)
                (entry_at identifier_of (identifier_of raw) (with_entry identifier_of raw xs))) is ∙ added_here raw xs n
          ]
    ] refl none

changed_here : (raw : Raw) (rs : List Raw) → has_entry identifier_of (identifier_of raw) rs ≡ true
    → entry_at identifier_of (identifier_of raw) (with_entry_changed identifier_of raw rs) ≡ Some raw
changed_here raw [] some = absurd (false≢true some)
changed_here raw (x ∷ xs) some =
    elim (identifier_of x == identifier_of raw) as (λ t. (identifier_of x == identifier_of raw) ≡ t
    → (t || has_entry identifier_of (identifier_of raw) xs) ≡ true
    → entry_at identifier_of (identifier_of raw) (cond t raw x ∷ with_entry_changed identifier_of raw xs) ≡ Some raw) [
      | true ↦ λ is s. ap (λ t.
          cond t (Some raw) (entry_at identifier_of (identifier_of raw) (with_entry_changed identifier_of raw xs)))
          (eq-eqb (identifier_of raw) (identifier_of raw) refl)
      | false ↦ λ is s. ap (λ t.
          cond t (Some x) (entry_at identifier_of (identifier_of raw) (with_entry_changed identifier_of raw xs))) is
          ∙ changed_here raw xs s
    ] refl some

pub kept_here : (raw : Raw) (rs : List Raw) → entry_at identifier_of (identifier_of raw) (kept raw rs) ≡ Some raw
kept_here raw rs = elim (is_known raw rs) as (λ t. is_known raw rs ≡ t
    → entry_at identifier_of (identifier_of raw)
    (cond t (with_entry_changed identifier_of raw rs) (with_entry identifier_of raw rs)) ≡ Some raw) [
      | true ↦ λ is. changed_here raw rs is
      | false ↦ λ is. added_here raw rs is
    ] refl

added_other : (raw : Raw) (k : ℕ) (rs : List Raw) → (identifier_of raw == k) ≡ false
    → entry_at identifier_of k (with_entry identifier_of raw rs) ≡ entry_at identifier_of k rs
added_other raw k [] other = ap (λ t. cond t (Some raw) None) other
added_other raw k (x ∷ xs) other =
    elim (nat_lt (identifier_of raw) (identifier_of x))
    as (λ t. entry_at identifier_of k (cond t (raw ∷ x ∷ xs) (x ∷ with_entry identifier_of raw xs))
    ≡ entry_at identifier_of k (x ∷ xs)) [
      | true ↦ ap (λ t. cond t (Some raw) (entry_at identifier_of k (x ∷ xs))) other
      | false ↦ ap (λ o. cond (identifier_of x == k) (Some x) o) (added_other raw k xs other)
    ]

changed_other : (raw : Raw) (k : ℕ) (rs : List Raw) → (identifier_of raw == k) ≡ false
    → entry_at identifier_of k (with_entry_changed identifier_of raw rs) ≡ entry_at identifier_of k rs
changed_other raw k [] other = refl
changed_other raw k (x ∷ xs) other =
    elim (identifier_of x == identifier_of raw) as (λ t. (identifier_of x == identifier_of raw) ≡ t
    → entry_at identifier_of k (cond t raw x ∷ with_entry_changed identifier_of raw xs)
    ≡ entry_at identifier_of k (x ∷ xs)) [
      | true ↦ λ is.
          let one : identifier_of x ≡ identifier_of raw = eqb-true (identifier_of x) (identifier_of raw) is in
          ap (λ t. cond t (Some raw) (entry_at identifier_of k (with_entry_changed identifier_of raw xs))) other
          ∙ changed_other raw k xs other
          ∙ sym (ap (λ n. cond (n == k) (Some x) (entry_at identifier_of k xs)) one
          ∙ ap (λ t. cond t (Some x) (entry_at identifier_of k xs)) other)
      | false ↦ λ is. ap (λ o. cond (identifier_of x == k) (Some x) o) (changed_other raw k xs other)
    ] refl

pub kept_other : (raw : Raw) (k : ℕ) (rs : List Raw) → (identifier_of raw == k) ≡ false
    → entry_at identifier_of k (kept raw rs) ≡ entry_at identifier_of k rs
kept_other raw k rs other = elim (is_known raw rs) as (λ t.
    entry_at identifier_of k (cond t (with_entry_changed identifier_of raw rs) (with_entry identifier_of raw rs))
    ≡ entry_at identifier_of k rs) [
      | true ↦ changed_other raw k rs other
      | false ↦ added_other raw k rs other
    ]

-- an entry with another identifier, or that agrees with the new one, is still there
pub kept_stays : (raw y : Raw) (rs : List Raw)
    → ((known : Raw) → entry_at identifier_of (identifier_of raw) rs ≡ Some known → known ≡ raw)
    → entry_at identifier_of (identifier_of y) rs ≡ Some y
    → entry_at identifier_of (identifier_of y) (kept raw rs) ≡ Some y
kept_stays raw y rs agrees found =
    elim (identifier_of raw == identifier_of y) as (λ t. (identifier_of raw == identifier_of y) ≡ t
    → entry_at identifier_of (identifier_of y) (kept raw rs) ≡ Some y) [
      | true ↦ λ is.
          let one : identifier_of raw ≡ identifier_of y = eqb-true (identifier_of raw) (identifier_of y) is in
          let same : y ≡ raw = agrees y (ap (λ n. entry_at identifier_of n rs) one ∙ found) in
          ap (λ n. entry_at identifier_of n (kept raw rs)) (sym one) ∙ kept_here raw rs ∙ ap Some (sym same)
      | false ↦ λ is. kept_other raw (identifier_of y) rs is ∙ found
    ] refl

-- ---- a picture

-- the picture with one more entry
abbrev pub picture_with : Raw → Pictured → Pictured
picture_with raw p = cond (raw.ext == 1) (record p { subs = kept raw p.subs })
    (cond (raw.ext == 2) (record p { services = kept raw p.services }) (record p { packets = kept raw p.packets }))

room_by : (raw : Raw) (rs : List Raw) (found : Option Raw) → entry_at identifier_of (identifier_of raw) rs ≡ found
    → finds_no_room (lookup_among raw (length rs) found) ≡ false → has_room raw rs ≡ true
room_by raw rs None e free = elim (nat_lt (length rs) 64)
    as (λ t. nat_lt (length rs) 64 ≡ t → finds_no_room (cond t standings.Absent standings.Full) ≡ false
    → has_room raw rs ≡ true) [
      | true ↦ λ few n. or_right (is_known raw rs) (nat_lt (length rs) 64) few
      | false ↦ λ many n. absurd (false≢true (sym n))
    ] refl free
room_by raw rs (Some r) e free = ap (λ t. t || nat_lt (length rs) 64) (present identifier_of (identifier_of raw) rs r e)

room_where : (raw : Raw) (rs : List Raw) → finds_no_room (lookup raw rs) ≡ false → has_room raw rs ≡ true
room_where raw rs free = room_by raw rs (entry_at identifier_of (identifier_of raw) rs) refl free

-- the list of an extension, and the picture with one more entry in it, by the tests for extensions 1 and 2
abbrev list_by : Bool → Bool → Pictured → List Raw
list_by one two p = cond one p.subs (cond two p.services p.packets)

abbrev with_by : Bool → Bool → Raw → Pictured → Pictured
with_by one two raw p = cond one (record p { subs = kept raw p.subs })
    (cond two (record p { services = kept raw p.services }) (record p { packets = kept raw p.packets }))

taken_by : (one two : Bool) (raw : Raw) (p : Pictured) → finds_no_room (lookup raw (list_by one two p)) ≡ false
    → cond one (Some (record p { subs = kept raw p.subs }))
    (cond two (cond (has_room raw p.services) (Some (record p { services = kept raw p.services })) None)
    (cond (has_room raw p.packets) (Some (record p { packets = kept raw p.packets })) None))
    ≡ Some (with_by one two raw p)
taken_by true two raw p room = refl
taken_by false true raw p room =
    ap (λ t. cond t (Some (record p { services = kept raw p.services })) None) (room_where raw p.services room)
taken_by false false raw p room =
    ap (λ t. cond t (Some (record p { packets = kept raw p.packets })) None) (room_where raw p.packets room)

pub taken_in : (raw : Raw) (p : Pictured) → finds_no_room (lookup_in raw p) ≡ false
    → pictured raw p ≡ Some (picture_with raw p)
taken_in raw p room = taken_by (raw.ext == 1) (raw.ext == 2) raw p room

-- the new entry is found
kept_by : (one two : Bool) (raw : Raw) (p : Pictured) → entry_at identifier_of (identifier_of raw)
    (list_by one two (with_by one two raw p)) ≡ Some raw
kept_by true two raw p = kept_here raw p.subs
kept_by false true raw p = kept_here raw p.services
kept_by false false raw p = kept_here raw p.packets

pub found_kept : (raw : Raw) (p : Pictured) → entry_like raw (picture_with raw p) ≡ Some raw
found_kept raw p = kept_by (raw.ext == 1) (raw.ext == 2) raw p

-- each entry that was found before is found again, if the new one agrees with what it replaces
again_by : (one two first second : Bool) (raw y : Raw) (p : Pictured)
    → ((known : Raw) → entry_at identifier_of (identifier_of raw) (list_by one two p) ≡ Some known → known ≡ raw)
    → entry_at identifier_of (identifier_of y) (list_by first second p) ≡ Some y
    → entry_at identifier_of (identifier_of y) (list_by first second (with_by one two raw p)) ≡ Some y
again_by true two true second raw y p agrees found = kept_stays raw y p.subs agrees found
again_by false true false true raw y p agrees found = kept_stays raw y p.services agrees found
again_by false false false false raw y p agrees found = kept_stays raw y p.packets agrees found
again_by _ _ _ _ raw y p agrees found = found

pub found_again : (raw y : Raw) (p : Pictured) → ((known : Raw) → entry_like raw p ≡ Some known → known ≡ raw)
    → entry_like y p ≡ Some y → entry_like y (picture_with raw p) ≡ Some y
found_again raw y p agrees found = again_by (raw.ext == 1) (raw.ext == 2) (y.ext == 1) (y.ext == 2) raw y p agrees found
