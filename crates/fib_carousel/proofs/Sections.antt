-- The three sets of a configuration in the list of its entries, and runs of entries in them.
use Rattle.fib_carousel.proofs.Words.{[], ◌*◌, ◌++◌, ◌+◌, ◌-◌, ◌<◌, ◌∙◌, ◌∷◌, ◌≡◌, ◌≤◌, AllByRecursion-at, AreAlike}
use Rattle.fib_carousel.proofs.Words.{Bool, Configuration, Entry, EntryShape, IsConfiguration, IsRun, IsService}
use Rattle.fib_carousel.proofs.Words.{IsShapeAt, List, Marked, Packet, PutsRun, Service, Some, Sub, TakesRuns, ap}
use Rattle.fib_carousel.proofs.Words.{append-nil, append_assoc, arith, config_entries, drop, drop-append-add}
use Rattle.fib_carousel.proofs.Words.{drop-append-le, drop-map, entries_bytes, entry_bytes, entry_size, facts_of, false}
use Rattle.fib_carousel.proofs.Words.{get_or_from_slice_get, is_long_entry, length, length-append, length-drop}
use Rattle.fib_carousel.proofs.Words.{length-map, length-take-le, map, marked, marked_bytes, packet_entry, packet_shape}
use Rattle.fib_carousel.proofs.Words.{piece, refl, service_entry, shape_of, size_of, slice_get, slice_get_within}
use Rattle.fib_carousel.proofs.Words.{sub_entry, sub_shape, subst, suc, sym, take, take-append-le, take-map, ℕ}
use Rattle.fib_carousel.proofs.Sharing.{same_fields}
use Rattle.fib_carousel.proofs.Walk.{take_here}
use Rattle.fib_carousel.proofs.Together.{in_run, run_shape, run_length, same_shape}

-- ---- pieces of a list
pub piece_front : {A : Type 0} (xs ys : List A) (i n : ℕ) → i + n ≤ length xs
    → take n (drop i (xs ++ ys)) ≡ take n (drop i xs)
piece_front xs ys i n h =
    ap (λ zs. take n zs) (drop-append-le i xs ys (omega (arith, h)))
    ∙ take-append-le n (drop i xs) ys (omega (arith, h, length-drop i xs))

pub piece_behind : {A : Type 0} (xs ys : List A) (i n : ℕ)
    → take n (drop (length xs + i) (xs ++ ys)) ≡ take n (drop i ys)
piece_behind xs ys i n = ap (λ zs. take n zs) (drop-append-add xs ys i)

pub piece_map : {A B : Type 0} (f : A → B) (xs : List A) (i n : ℕ)
    → take n (drop i (map f xs)) ≡ map f (take n (drop i xs))
piece_map f xs i n = ap (λ ys. take n ys) (drop-map f i xs) ∙ take-map f n (drop i xs)

-- pieces of a configuration's entries that lie within one of its sets
abbrev pub marked_all : {A : Type 0} → Bool → (A → Entry) → List A → List Marked
marked_all next f xs = map (marked next) (map f xs)

pub subs_piece : (c : Configuration) (next : Bool) (i n : ℕ) → i + n ≤ length c.subs
    → piece (facts_of c next) i n ≡ marked_all next sub_entry (take n (drop i c.subs))
subs_piece c next i n h =
    piece_map (marked next) (config_entries c) i n
    ∙ ap (map (marked next)) (piece_front (map sub_entry c.subs) _ i n (omega (arith, h, length-map c.subs sub_entry)))
    ∙ ap (map (marked next)) (piece_map sub_entry c.subs i n)

pub services_piece : (c : Configuration) (next : Bool) (i n : ℕ) → i + n ≤ length c.services
    → piece (facts_of c next) (length c.subs + i) n ≡ marked_all next service_entry (take n (drop i c.services))
services_piece c next i n h =
    let subs : List Entry = map sub_entry c.subs in
    let services : List Entry = map service_entry c.services in
    let packets : List Entry = map packet_entry c.packets in
    piece_map (marked next) (config_entries c) (length c.subs + i) n
    ∙ ap (λ k. map (marked next) (take n (drop (k + i) (subs ++ (services ++ packets)))))
    (sym (length-map c.subs sub_entry))
    ∙ ap (map (marked next)) (piece_behind subs (services ++ packets) i n)
    ∙ ap (map (marked next)) (piece_front services packets i n (omega (arith, h, length-map c.services service_entry)))
    ∙ ap (map (marked next)) (piece_map service_entry c.services i n)

pub packets_piece : (c : Configuration) (next : Bool) (i n : ℕ)
    → piece (facts_of c next) (length c.subs + (length c.services + i)) n
    ≡ marked_all next packet_entry (take n (drop i c.packets))
packets_piece c next i n =
    let subs : List Entry = map sub_entry c.subs in
    let services : List Entry = map service_entry c.services in
    let packets : List Entry = map packet_entry c.packets in
    piece_map (marked next) (config_entries c) (length c.subs + (length c.services + i)) n
    ∙ ap (λ k. map (marked next) (take n (drop (k + (length c.services + i)) (subs ++ (services ++ packets)))))
    (sym (length-map c.subs sub_entry))
    ∙ ap (map (marked next)) (piece_behind subs (services ++ packets) (length c.services + i) n)
    ∙ ap (λ k. map (marked next) (take n (drop (k + i) (services ++ packets))))
    (sym (length-map c.services service_entry))
    ∙ ap (map (marked next)) (piece_behind services packets i n)
    ∙ ap (map (marked next)) (piece_map packet_entry c.packets i n)

pub facts_length : (c : Configuration) (next : Bool) → length (facts_of c next) ≡ length c.subs
    + (length c.services + length c.packets)
facts_length c next =
    let services : List Entry = map service_entry c.services in
    let packets : List Entry = map packet_entry c.packets in
    omega (
      arith,
      length-map (config_entries c) (marked next),
      length-append (map sub_entry c.subs) (services ++ packets),
      length-append services packets,
      length-map c.subs sub_entry,
      length-map c.services service_entry,
      length-map c.packets packet_entry,
    )

-- ---- their bytes and shapes
pub all_bytes : {A : Type 0} (next : Bool) (f : A → Entry) (xs : List A)
    → marked_bytes (marked_all next f xs) ≡ entries_bytes (map f xs)
all_bytes next f [] = refl
all_bytes next f (x ∷ xs) = ap (λ t. entry_bytes (f x) ++ t) (all_bytes next f xs)

subs_alike : (next : Bool) (xs : List Sub) → AreAlike (sub_shape next) (marked_all next sub_entry xs)
subs_alike next [] = tt
subs_alike next (x ∷ xs) = (refl, subs_alike next xs)

packets_alike : (next : Bool) (xs : List Packet) → AreAlike (packet_shape next) (marked_all next packet_entry xs)
packets_alike next [] = tt
packets_alike next (x ∷ xs) = (refl, packets_alike next xs)

pub subs_run : (c : Configuration) (next : Bool) (i n : ℕ) → i + n ≤ length c.subs
    → IsRun (facts_of c next) i n (sub_shape next)
subs_run c next i n h = record {
  inside = omega (arith, h, facts_length c next);
  alike = rw (subs_piece c next i n h) (subs_alike next (take n (drop i c.subs)));
}

pub packets_run : (c : Configuration) (next : Bool) (i n : ℕ) → i + n ≤ length c.packets
    → IsRun (facts_of c next) (length c.subs + (length c.services + i)) n (packet_shape next)
packets_run c next i n h = record {
  inside = omega (arith, h, facts_length c next);
  alike = rw (packets_piece c next i n) (packets_alike next (take n (drop i c.packets)));
}

-- ---- runs put into a FIB
pub first_size : (ms : List Marked) (i n : ℕ) (s : EntryShape) (room : ℕ) (d : Marked) → IsRun ms i n s → 1 ≤ n
    → ((m : Marked) → slice_get ms i ≡ Some m → size_of m ≤ room) → s.size ≤ room
first_size ms i n s room d r some fits =
    let first = in_run ms i n s d r 0 (omega (arith, some)) in
    let size : size_of first.entry ≡ s.size = ap (λ (t : EntryShape). t.size) first.shape in
    omega (arith, size, fits first.entry (ap (λ j. slice_get ms j) (sym (omega arith)) ∙ first.here))

pub run_put : (ms : List Marked) (i n room : ℕ) (old new : List ℕ) (s : EntryShape) → IsRun ms i n s → 1 ≤ n
    → n * s.size ≤ room → new ≡ old ++ marked_bytes (piece ms i n)
    → (t : EntryShape) → IsShapeAt ms i t → PutsRun ms i t room n old new
run_put ms i n room old new s r some fits bytes t at =
    let same : s ≡ t = sym (run_shape ms i n t s at r some) in
    record {
      some = some;
      run = subst (λ (u : EntryShape). IsRun ms i n u) same r;
      fits = subst (λ (u : EntryShape). n * u.size ≤ room) same fits;
      bytes = bytes;
    }

pub subs_put : (c : Configuration) (next : Bool) (i n room : ℕ) (old new : List ℕ) → i + n ≤ length c.subs → 1 ≤ n
    → n * 4 ≤ room → new ≡ old ++ entries_bytes (map sub_entry (take n (drop i c.subs)))
    → (t : EntryShape) → IsShapeAt (facts_of c next) i t → PutsRun (facts_of c next) i t room n old new
subs_put c next i n room old new there some fits bytes =
    run_put (facts_of c next) i n room old new (sub_shape next) (subs_run c next i n there) some fits
    (bytes ∙ ap (λ t. old ++ t) (sym (all_bytes next sub_entry (take n (drop i c.subs))))
    ∙ ap (λ (ms : List Marked). old ++ marked_bytes ms) (sym (subs_piece c next i n there)))

pub packets_put : (c : Configuration) (next : Bool) (i n room index : ℕ) (old new : List ℕ)
    → index ≡ length c.subs + (length c.services + i) → i + n ≤ length c.packets → 1 ≤ n → n * 5 ≤ room
    → new ≡ old ++ entries_bytes (map packet_entry (take n (drop i c.packets)))
    → (t : EntryShape) → IsShapeAt (facts_of c next) index t → PutsRun (facts_of c next) index t room n old new
packets_put c next i n room index old new at there some fits bytes =
    subst (λ j. (t : EntryShape) → IsShapeAt (facts_of c next) j t → PutsRun (facts_of c next) j t room n old new)
    (sym at)
    (run_put (facts_of c next) (length c.subs + (length c.services + i)) n room old new (packet_shape next)
    (packets_run c next i n there) some fits
    (bytes ∙ ap (λ t. old ++ t) (sym (all_bytes next packet_entry (take n (drop i c.packets))))
    ∙ ap (λ (ms : List Marked). old ++ marked_bytes ms) (sym (packets_piece c next i n))))

-- a run with one more entry
pub one_more : {A : Type 0} (f : A → Entry) (xs : List A) (from at : ℕ) (x : A) (old now new : List ℕ) → from ≤ at
    → slice_get xs at ≡ Some x → now ≡ old ++ entries_bytes (map f (take (at - from) (drop from xs)))
    → new ≡ now ++ entry_bytes (f x) → new ≡ old ++ entries_bytes (map f (take (at + 1 - from) (drop from xs)))
one_more f xs from at x old now new le here before put =
    let part = take (at - from) (drop from xs) in
    put
    ∙ ap (λ t. t ++ entry_bytes (f x)) before
    ∙ append_assoc old (entries_bytes (map f part)) (entry_bytes (f x))
    ∙ ap (λ t. old ++ t) (more f part x)
    ∙ ap (λ ys. old ++ entries_bytes (map f ys)) (sym (take_here xs from at x le here))
  where
    more : {A : Type 0} (f : A → Entry) (xs : List A) (x : A) → entries_bytes (map f xs)
        ++ entry_bytes (f x) ≡ entries_bytes (map f (xs ++ x ∷ []))
    more f [] x = sym (append-nil (entry_bytes (f x)))
    more f (y ∷ ys) x = append_assoc (entry_bytes (f y)) (entries_bytes (map f ys)) (entry_bytes (f x))
        ∙ ap (λ t. entry_bytes (f y) ++ t) (more f ys x)

-- ---- services
pub service_formed : (c : Configuration) (i : ℕ) (x : Service) → IsConfiguration c → slice_get c.services i ≡ Some x
    → IsService x
service_formed c i x is here =
    subst (λ (s : Service). IsService s) (get_or_from_slice_get c.services i x x here)
    (AllByRecursion-at IsService c.services i x is.services_formed (slice_get_within c.services i x here))

pub service_shaped : (next : Bool) (x : Service) (s : EntryShape) → s.head.next ≡ next → s.head.oe ≡ false
    → s.head.long ≡ is_long_entry (service_entry x) → s.head.ext ≡ 2 → s.size ≡ entry_size (service_entry x)
    → shape_of (marked next (service_entry x)) ≡ s
service_shaped next x s n oe long ext size = sym (same_shape s _ (same_fields _ _ n oe long ext) size)

pub services_run : (c : Configuration) (next : Bool) (i n : ℕ) (s : EntryShape) → i + n ≤ length c.services
    → AreAlike s (marked_all next service_entry (take n (drop i c.services)))
    → IsRun (facts_of c next) (length c.subs + i) n s
services_run c next i n s h alike = record {
  inside = omega (arith, h, facts_length c next);
  alike = subst (λ (ms : List Marked). AreAlike s ms) (sym (services_piece c next i n h)) alike;
}

pub services_put : (c : Configuration) (next : Bool) (i n room : ℕ) (old new : List ℕ) (s : EntryShape)
    → i + n ≤ length c.services → AreAlike s (marked_all next service_entry (take n (drop i c.services))) → 1 ≤ n
    → n * s.size ≤ room
    → new ≡ old ++ entries_bytes (map service_entry (take n (drop i c.services)))
    → (t : EntryShape) → IsShapeAt (facts_of c next) (length c.subs + i) t
    → PutsRun (facts_of c next) (length c.subs + i) t room n old new
services_put c next i n room old new s there alike some fits bytes =
    run_put (facts_of c next) (length c.subs + i) n room old new s (services_run c next i n s there alike) some fits
    (bytes ∙ ap (λ t. old ++ t) (sym (all_bytes next service_entry (take n (drop i c.services))))
    ∙ ap (λ (ms : List Marked). old ++ marked_bytes ms) (sym (services_piece c next i n there)))

alike_more : (next : Bool) (s : EntryShape) (xs : List Service) (from at : ℕ) (x : Service) → from ≤ at
    → slice_get xs at ≡ Some x → shape_of (marked next (service_entry x)) ≡ s
    → AreAlike s (marked_all next service_entry (take (at - from) (drop from xs)))
    → AreAlike s (marked_all next service_entry (take (at + 1 - from) (drop from xs)))
alike_more next s xs from at x le here is before =
    subst (λ (ys : List Service). AreAlike s (marked_all next service_entry ys)) (sym (take_here xs from at x le here))
    (more (take (at - from) (drop from xs)) before)
  where
    more : (ys : List Service) → AreAlike s (marked_all next service_entry ys)
        → AreAlike s (marked_all next service_entry (ys ++ x ∷ []))
    more [] h = (is, tt)
    more (y ∷ ys) h = (h.0, more ys h.1)

-- the next service of a run, and the room for it
pub record NextService (c : Configuration) (next : Bool) (from place : ℕ) (s : EntryShape) (now : List ℕ) : Type 0 where
  pub alike : AreAlike s (marked_all next service_entry (take (place + 1 - from) (drop from c.services)))
  pub times : (place + 1 - from) * s.size ≡ (place - from) * s.size + s.size
  pub room : length now + s.size ≤ 30

pub next_service : (c : Configuration) (next : Bool) (from place room left : ℕ) (x : Service) (s : EntryShape)
    (old now : List ℕ) → from ≤ place → slice_get c.services place ≡ Some x
    → shape_of (marked next (service_entry x)) ≡ s
    → AreAlike s (marked_all next service_entry (take (place - from) (drop from c.services))) → now ≡ old
    ++ entries_bytes (map service_entry (take (place - from) (drop from c.services)))
    → (place - from) * s.size + left ≡ room → s.size ≤ left
    → TakesRuns (facts_of c next) (length c.subs + from) room old → NextService c next from place s now
next_service c next from place room left x s old now le here is alike bytes counts fits takes =
    let there : place < length c.services = slice_get_within c.services place x here in
    let more = alike_more next s c.services from place x le here is alike in
    let n : place + 1 - from ≡ suc (place - from) = omega (arith, le) in
    let times : (place + 1 - from) * s.size ≡ (place - from) * s.size + s.size = ap (λ k. k * s.size) n ∙ omega arith in
    let all : length old + (place + 1 - from) * s.size ≤ 30 = takes (place + 1 - from) s
    (services_run c next from _ s (omega (arith, le, there)) more) (omega (arith, times, counts, fits)) in
    let part : List Service = take (place - from) (drop from c.services) in
    let count : length (marked_all next service_entry part) ≡ place - from =
    length-map (map service_entry part) (marked next) ∙ length-map part service_entry
    ∙ length-take-le (place - from) (drop from c.services)
    (omega (arith, le, there, length-drop from c.services)) in
    let long : length now ≡ length old + (place - from) * s.size =
    ap length bytes ∙ length-append old (entries_bytes (map service_entry part))
    ∙ ap (λ k. length old + k)
    (ap length (sym (all_bytes next service_entry part)) ∙ run_length s (marked_all next service_entry part) alike
    ∙ ap (λ k. k * s.size) count) in
    record { alike = more; times = times; room = omega (arith, all, times, long) }

pub first_service : (c : Configuration) (next : Bool) (from room : ℕ) (x : Service) (s : EntryShape) (old : List ℕ)
    → slice_get c.services from ≡ Some x → shape_of (marked next (service_entry x)) ≡ s
    → ((m : Marked) → slice_get (facts_of c next) (length c.subs + from) ≡ Some m → size_of m ≤ room)
    → TakesRuns (facts_of c next) (length c.subs + from) room old
    → NextService c next from from s old × (s.size ≤ room)
first_service c next from room x s old here is first takes =
    let there : from < length c.services = slice_get_within c.services from x here in
    let none : from - from ≡ 0 = omega arith in
    let nothing : take (from - from) (drop from c.services) ≡ [] = ap (λ k. take k (drop from c.services)) none in
    let alike : AreAlike s (marked_all next service_entry (take (from - from) (drop from c.services))) =
    subst (λ (ys : List Service). AreAlike s (marked_all next service_entry ys)) (sym nothing) tt in
    let bytes : old ≡ old ++ entries_bytes (map service_entry (take (from - from) (drop from c.services))) =
    sym (append-nil old) ∙ ap (λ ys. old ++ entries_bytes (map service_entry ys)) (sym nothing) in
    let one : AreAlike s (marked_all next service_entry (take (from + 1 - from) (drop from c.services))) =
    alike_more next s c.services from from x (omega arith) here is alike in
    let n : from + 1 - from ≡ 1 = omega arith in
    let run : IsRun (facts_of c next) (length c.subs + from) 1 s =
    services_run c next from 1 s (omega (arith, there))
    (subst (λ k. AreAlike s (marked_all next service_entry (take k (drop from c.services)))) n one) in
    let fits : s.size ≤ room =
    first_size (facts_of c next) (length c.subs + from) 1 s room (marked next (service_entry x)) run (omega arith)
    first in
    let times : (from - from) * s.size ≡ 0 = ap (λ k. k * s.size) none ∙ omega arith in (
      next_service c next from from room room x s old old (omega arith) here is alike bytes (omega (arith, times)) fits
          takes,
      fits,
    )

-- ---- in the terms of the code
some_of : (ms : List Marked) → 0 < length ms → Marked
some_of [] h = absurd (omega (arith, h))
some_of (m ∷ ms) h = m

pub subs_done : (c : Configuration) (next : Bool) (index i n room : ℕ) (old new : List ℕ) → i ≡ index
    → i + n ≤ length c.subs → 1 ≤ n → n * 4 ≤ room → new ≡ old
    ++ entries_bytes (map sub_entry (take (i + n - i) (drop i c.subs)))
    → (t : EntryShape) → IsShapeAt (facts_of c next) index t → PutsRun (facts_of c next) index t room n old new
subs_done c next index i n room old new at there some fits bytes =
    subst (λ j. (t : EntryShape) → IsShapeAt (facts_of c next) j t → PutsRun (facts_of c next) j t room n old new) at
    (subs_put c next i n room old new there some fits (bytes
    ∙ ap (λ k. old ++ entries_bytes (map sub_entry (take k (drop i c.subs)))) (omega arith)))

pub packets_done : (c : Configuration) (next : Bool) (index i n room : ℕ) (old new : List ℕ)
    → index ≡ length c.subs + (length c.services + i) → i + n ≤ length c.packets → 1 ≤ n → n * 5 ≤ room
    → new ≡ old ++ entries_bytes (map packet_entry (take (i + n - i) (drop i c.packets)))
    → (t : EntryShape) → IsShapeAt (facts_of c next) index t → PutsRun (facts_of c next) index t room n old new
packets_done c next index i n room old new at there some fits bytes =
    packets_put c next i n room index old new at there some fits
    (bytes ∙ ap (λ k. old ++ entries_bytes (map packet_entry (take k (drop i c.packets)))) (omega arith))

-- there is room for the first entry, and for as many as fit
pub subs_room : (c : Configuration) (next : Bool) (index i room : ℕ) (old : List ℕ) → i ≡ index → i < length c.subs
    → ((m : Marked) → slice_get (facts_of c next) index ≡ Some m → size_of m ≤ room)
    → TakesRuns (facts_of c next) index room old
    → (4 ≤ room) × ((n : ℕ) → i + n ≤ length c.subs → n * 4 ≤ room → length old + (i + n - i) * 4 ≤ 30)
subs_room c next index i room old at there first takes =
    let takes' = subst (λ j. TakesRuns (facts_of c next) j room old) (sym at) takes in
    let d : Marked = some_of (facts_of c next) (omega (arith, there, facts_length c next)) in (
      first_size (facts_of c next) i 1 (sub_shape next) room d (subs_run c next i 1 (omega (arith, there)))
          (omega arith) (λ m h. first m (ap (λ j. slice_get (facts_of c next) j) (sym at) ∙ h)),
      λ n h fits.
          omega (arith, takes' n (sub_shape next) (subs_run c next i n h) fits),
    )

pub packets_room : (c : Configuration) (next : Bool) (index i room : ℕ) (old : List ℕ)
    → index ≡ length c.subs + (length c.services + i) → i < length c.packets
    → ((m : Marked) → slice_get (facts_of c next) index ≡ Some m → size_of m ≤ room)
    → TakesRuns (facts_of c next) index room old
    → (5 ≤ room) × ((n : ℕ) → i + n ≤ length c.packets → n * 5 ≤ room → length old + (i + n - i) * 5 ≤ 30)
packets_room c next index i room old at there first takes =
    let place : ℕ = length c.subs + (length c.services + i) in
    let takes' = subst (λ j. TakesRuns (facts_of c next) j room old) at takes in
    let d : Marked = some_of (facts_of c next) (omega (arith, there, facts_length c next)) in (
      first_size (facts_of c next) place 1 (packet_shape next) room d (packets_run c next i 1 (omega (arith, there)))
          (omega arith) (λ m h. first m (ap (λ j. slice_get (facts_of c next) j) at ∙ h)),
      λ n h fits.
          omega (arith, takes' n (packet_shape next) (packets_run c next i n h) fits),
    )

-- the index of an entry after those of the sub-channels, and of one after those of the services too
pub behind_subs : (c : Configuration) (index i subs : ℕ) → i ≡ index → subs ≡ length c.subs → subs ≤ i
    → index ≡ length c.subs + (i - subs)
behind_subs c index i subs at count le = omega (arith, at, count, le)

pub behind_services : (c : Configuration) (index i subs services : ℕ) → i ≡ index → subs ≡ length c.subs
    → services ≡ length c.services → subs + services ≤ i
    → index ≡ length c.subs + (length c.services + (i - subs - services))
behind_services c index i subs services at count counts le = omega (arith, at, count, counts, le)
