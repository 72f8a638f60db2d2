-- The identifiers of a picture, and properties of each of its entries, with one more entry.
use Rattle.stream_check.proofs.Words.{[], ◌++◌, ◌<◌, ◌==◌, ◌||◌, ◌∙◌, ◌∷◌, ◌≡◌, ◌≢◌, ◌⊎◌, AllByRecursion, Bool}
use Rattle.stream_check.proofs.Words.{Contains, Contains-append_cases, Contains-append_left, Contains-append_right}
use Rattle.stream_check.proofs.Words.{Each, HasKinds, Heard, HeardPicture, List, None, Option, Raw, Some, agree, ap}
use Rattle.stream_check.proofs.Words.{arith, cases_lt, cond, each_weaker, entry_at, eq-eqb, eqb-true, false, false≢true}
use Rattle.stream_check.proofs.Words.{finds_no_room, has_entry, heard_kept, heard_key, identifier_of, inl, inr}
use Rattle.stream_check.proofs.Words.{is_absent, is_found, is_some, key_of, keys, keys_of, length, lookup, lookup_among}
use Rattle.stream_check.proofs.Words.{lookup_in, nat_lt, not, picture_kept, picture_of_heard, raws, refl, subst, sym}
use Rattle.stream_check.proofs.Words.{true, with_entry, with_entry_changed, ℕ}
use Rattle.stream_check.specs.declared.heard_table.Lookup.TheVariants as standings
use Rattle.stream_check.proofs.PartCount.{here, there, one_of, in_none}
use Rattle.stream_check.proofs.Tables.{raw_in, standing_found, each_kept}

-- ---- identifiers of one list

-- two entries of one kind with different identifiers
pub keys_differ : (x h : Heard) (e : ℕ) → x.raw.ext ≡ e → h.raw.ext ≡ e → (heard_key x == heard_key h) ≡ false
    → key_of x.raw ≢ key_of h.raw
keys_differ x h e a b free same =
    false≢true (sym free ∙ eq-eqb (heard_key x) (heard_key h) (omega (arith, a, b, same)))

-- two entries of different kinds
pub kinds_differ : (x h : Heard) (e f : ℕ) → x.raw.ext ≡ e → h.raw.ext ≡ f → e < 4 → f < 4 → e ≢ f
    → key_of x.raw ≢ key_of h.raw
kinds_differ x h e f a b small less other same = other (omega (arith, a, b, same, small, less))

changed_keys : (h : Heard) (hs : List Heard) (e : ℕ) → h.raw.ext ≡ e → AllByRecursion (λ x. x.raw.ext ≡ e) hs
    → keys (with_entry_changed heard_key h hs) ≡ keys hs
changed_keys h [] e k all = refl
changed_keys h (x ∷ xs) e k all =
    elim (heard_key x == heard_key h) as (λ t. (heard_key x == heard_key h) ≡ t
    → key_of (cond t h x).raw ∷ keys (with_entry_changed heard_key h xs) ≡ key_of x.raw ∷ keys xs) [
      | true ↦ λ is.
          let same : key_of h.raw ≡ key_of x.raw = omega (arith, eqb-true (heard_key x) (heard_key h) is, k, all.0) in
          ap (λ n. n ∷ keys (with_entry_changed heard_key h xs)) same
          ∙ ap (λ ns. key_of x.raw ∷ ns) (changed_keys h xs e k all.1)
      | false ↦ λ is. ap (λ ns. key_of x.raw ∷ ns) (changed_keys h xs e k all.1)
    ] refl

added_has : (h : Heard) (hs : List Heard) → Contains (keys (with_entry heard_key h hs)) (key_of h.raw)
added_has h [] = here (key_of h.raw) []
added_has h (x ∷ xs) = elim (nat_lt (heard_key h) (heard_key x))
    as (λ t. Contains (keys (cond t (h ∷ x ∷ xs) (x ∷ with_entry heard_key h xs))) (key_of h.raw)) [
      | true ↦ here (key_of h.raw) (key_of x.raw ∷ keys xs)
      | false ↦ there (key_of x.raw) (key_of h.raw) (keys (with_entry heard_key h xs)) (added_has h xs)
    ]

added_keeps : (h : Heard) (hs : List Heard) (k : ℕ) → Contains (keys hs) k
    → Contains (keys (with_entry heard_key h hs)) k
added_keeps h [] k c = absurd (in_none k c)
added_keeps h (x ∷ xs) k c = elim (nat_lt (heard_key h) (heard_key x))
    as (λ t. Contains (keys (cond t (h ∷ x ∷ xs) (x ∷ with_entry heard_key h xs))) k) [
      | true ↦ there (key_of h.raw) k (key_of x.raw ∷ keys xs) c
      | false ↦ elim (Contains-append_cases (key_of x.raw ∷ []) (keys xs) k c) [
        | inl first ↦ subst (λ (n : ℕ). Contains (key_of x.raw ∷ keys (with_entry heard_key h xs)) n)
            (sym (one_of (key_of x.raw) k first)) (here (key_of x.raw) (keys (with_entry heard_key h xs)))
        | inr rest ↦ there (key_of x.raw) k (keys (with_entry heard_key h xs)) (added_keeps h xs k rest)
      ]
    ]

-- an entry that is not in the list
none_has : (hs : List Heard) (h : Heard) (e : ℕ) → h.raw.ext ≡ e → AllByRecursion (λ x. x.raw.ext ≡ e) hs
    → has_entry heard_key (heard_key h) hs ≡ false → Contains (keys hs) (key_of h.raw) → ⊥
none_has [] h e k all free c = in_none (key_of h.raw) c
none_has (x ∷ xs) h e k all free c =
    elim (heard_key x == heard_key h) as (λ t. (heard_key x == heard_key h) ≡ t
    → (t || has_entry heard_key (heard_key h) xs) ≡ false → ⊥) [
      | true ↦ λ is n. false≢true (sym n)
      | false ↦ λ is n. elim (Contains-append_cases (key_of x.raw ∷ []) (keys xs) (key_of h.raw) c) [
        | inl first ↦ keys_differ x h e all.0 k is (sym (one_of (key_of x.raw) (key_of h.raw) first))
        | inr rest ↦ none_has xs h e k all.1 n rest
      ]
    ] refl free

other_kind : (hs : List Heard) (h : Heard) (e f : ℕ) → h.raw.ext ≡ f → AllByRecursion (λ x. x.raw.ext ≡ e) hs → e < 4
    → f < 4 → e ≢ f → Contains (keys hs) (key_of h.raw) → ⊥
other_kind [] h e f k all small less other c = in_none (key_of h.raw) c
other_kind (x ∷ xs) h e f k all small less other c =
    elim (Contains-append_cases (key_of x.raw ∷ []) (keys xs) (key_of h.raw) c) [
      | inl first ↦ kinds_differ x h e f all.0 k small less other (sym (one_of (key_of x.raw) (key_of h.raw) first))
      | inr rest ↦ other_kind xs h e f k all.1 small less other rest
    ]

kept_as_added : (h : Heard) (hs : List Heard) → has_entry heard_key (heard_key h) hs ≡ false
    → heard_kept h hs ≡ with_entry heard_key h hs
kept_as_added h hs e = rw (e) refl

-- ---- whether an entry is in the list, from its lookup

by_standing : (raw : Raw) (hs : List Heard) (found : Option Heard) → found ≡ entry_at heard_key (identifier_of raw) hs
    → finds_no_room (lookup_among raw (length hs) (raw_in found)) ≡ false
    → is_absent (lookup_among raw (length hs) (raw_in found)) ≡ not (is_some found)
by_standing raw hs None e free =
    elim (nat_lt (length hs) 64) as (λ t. finds_no_room (cond t standings.Absent standings.Full) ≡ false
    → is_absent (cond t standings.Absent standings.Full) ≡ true) [
      | true ↦ λ n. refl
      | false ↦ λ n. absurd (false≢true (sym n))
    ] free
by_standing raw hs (Some h) e free =
    elim (agree h.raw raw) as (λ t. is_absent (cond t standings.Same standings.Other) ≡ false)
    [ true ↦ refl | false ↦ refl ]

pub absent_where : (raw : Raw) (hs : List Heard) → finds_no_room (lookup raw (raws hs)) ≡ false
    → is_absent (lookup raw (raws hs)) ≡ not (has_entry heard_key (identifier_of raw) hs)
absent_where raw hs free =
    let found = standing_found raw hs (entry_at heard_key (identifier_of raw) hs) refl in
    ap is_absent found ∙ by_standing raw hs _ refl (ap finds_no_room (sym found) ∙ free) ∙ ap not
    (is_found heard_key (identifier_of raw) hs (entry_at heard_key (identifier_of raw) hs) refl)

-- ---- pictures

-- the list for an entry
by_kind : (n : ℕ) → 0 < n → n < 4 → (n ≡ 1) ⊎ ((n ≡ 2) ⊎ (n ≡ 3))
by_kind n some few = elim (cases_lt n 2) [
  | inl one ↦ inl (omega (arith, one, some))
  | inr more ↦ inr (elim (cases_lt n 3) [
    | inl two ↦ inl (omega (arith, two, more))
    | inr three ↦
        inr (omega (arith, three, few))
  ])
]

sub_kept : (h : Heard) (p : HeardPicture) → h.raw.ext ≡ 1 → picture_kept h p ≡ record p { subs = heard_kept h p.subs }
sub_kept h p e = ap (λ n. cond (n == 1) (record p { subs = heard_kept h p.subs })
    (cond (n == 2) (record p { services = heard_kept h p.services }) (record p { packets = heard_kept h p.packets }))) e

service_kept : (h : Heard) (p : HeardPicture) → h.raw.ext ≡ 2
    → picture_kept h p ≡ record p { services = heard_kept h p.services }
service_kept h p e = ap (λ n. cond (n == 1) (record p { subs = heard_kept h p.subs })
    (cond (n == 2) (record p { services = heard_kept h p.services }) (record p { packets = heard_kept h p.packets }))) e

packet_kept : (h : Heard) (p : HeardPicture) → h.raw.ext ≡ 3
    → picture_kept h p ≡ record p { packets = heard_kept h p.packets }
packet_kept h p e = ap (λ n. cond (n == 1) (record p { subs = heard_kept h p.subs })
    (cond (n == 2) (record p { services = heard_kept h p.services }) (record p { packets = heard_kept h p.packets }))) e

sub_standing : (raw : Raw) (p : HeardPicture) → raw.ext ≡ 1
    → lookup_in raw (picture_of_heard p) ≡ lookup raw (raws p.subs)
sub_standing raw p e = rw (e) refl

service_standing : (raw : Raw) (p : HeardPicture) → raw.ext ≡ 2
    → lookup_in raw (picture_of_heard p) ≡ lookup raw (raws p.services)
service_standing raw p e = rw (e) refl

packet_standing : (raw : Raw) (p : HeardPicture) → raw.ext ≡ 3
    → lookup_in raw (picture_of_heard p) ≡ lookup raw (raws p.packets)
packet_standing raw p e = rw (e) refl

-- ---- properties of each entry

both_each : {X : Type 0} (P Q : X → Type 0) (xs : List X) → AllByRecursion P xs → AllByRecursion Q xs
    → AllByRecursion (λ x. P x × Q x) xs
both_each P Q [] p q = tt
both_each P Q (x ∷ xs) p q = ((p.0, q.0), both_each P Q xs p.1 q.1)

-- in the list for the entry
own_kept : (P Q : Heard → Type 0) (h : Heard) (hs : List Heard) (e : ℕ) → h.raw.ext ≡ e
    → AllByRecursion (λ x. x.raw.ext ≡ e) hs → Q h
    → ((x : Heard) → key_of x.raw ≢ key_of h.raw → P x → Q x) → AllByRecursion P hs → AllByRecursion Q (heard_kept h hs)
own_kept P Q h hs e k kinds one other all =
    each_kept (λ x. (x.raw.ext ≡ e) × P x) Q h hs one (λ x free both. other x (keys_differ x h e both.0 k free) both.1)
    (both_each (λ x. x.raw.ext ≡ e) P hs kinds all)

-- in another list
other_kept : (P Q : Heard → Type 0) (h : Heard) (hs : List Heard) (e f : ℕ) → h.raw.ext ≡ f
    → AllByRecursion (λ x. x.raw.ext ≡ e) hs → e < 4 → f < 4 → e ≢ f
    → ((x : Heard) → key_of x.raw ≢ key_of h.raw → P x → Q x) → AllByRecursion P hs → AllByRecursion Q hs
other_kept P Q h hs e f k kinds small less apart other all =
    each_weaker (λ x. (x.raw.ext ≡ e) × P x) Q (λ x both.
    other x (kinds_differ x h e f both.0 k small less apart) both.1) hs
    (both_each (λ x. x.raw.ext ≡ e) P hs kinds all)

pub picture_each : (P Q : Heard → Type 0) (h : Heard) (p : HeardPicture) → 0 < h.raw.ext → h.raw.ext < 4 → HasKinds p
    → Q h
    → ((x : Heard) → key_of x.raw ≢ key_of h.raw → P x → Q x) → Each P p → Each Q (picture_kept h p)
picture_each P Q h p some few kinds one other all = elim (by_kind h.raw.ext some few) [
  | inl k ↦ subst (λ (q : HeardPicture). Each Q q) (sym (sub_kept h p k)) (
    own_kept P Q h p.subs 1 k kinds.0 one other all.0,
    (
      other_kept P Q h p.services 2 1 k kinds.1.0 (omega arith) (omega arith) (λ e. omega (arith, e)) other all.1.0,
      other_kept P Q h p.packets 3 1 k kinds.1.1 (omega arith) (omega arith) (λ e. omega (arith, e)) other all.1.1,
    ),
  )
  | inr rest ↦ elim rest [
    | inl k ↦ subst (λ (q : HeardPicture). Each Q q) (sym (service_kept h p k)) (
      other_kept P Q h p.subs 1 2 k kinds.0 (omega arith) (omega arith) (λ e. omega (arith, e)) other all.0,
      (
        own_kept P Q h p.services 2 k kinds.1.0 one other all.1.0,
        other_kept P Q h p.packets 3 2 k kinds.1.1 (omega arith) (omega arith) (λ e. omega (arith, e)) other all.1.1,
      ),
    )
    | inr k ↦ subst (λ (q : HeardPicture). Each Q q) (sym (packet_kept h p k)) (
      other_kept P Q h p.subs 1 3 k kinds.0 (omega arith) (omega arith) (λ e. omega (arith, e)) other all.0,
      (
        other_kept P Q h p.services 2 3 k kinds.1.0 (omega arith) (omega arith) (λ e. omega (arith, e)) other all.1.0,
        own_kept P Q h p.packets 3 k kinds.1.1 one other all.1.1,
      ),
    )
  ]
]

pub kinds_kept : (h : Heard) (p : HeardPicture) → 0 < h.raw.ext → h.raw.ext < 4 → HasKinds p
    → HasKinds (picture_kept h p)
kinds_kept h p some few kinds = elim (by_kind h.raw.ext some few) [
  | inl k ↦ subst (λ (q : HeardPicture). HasKinds q) (sym (sub_kept h p k)) (
    own_kept (λ x. x.raw.ext ≡ 1) (λ x. x.raw.ext ≡ 1) h p.subs 1 k kinds.0 k (λ x d e. e) kinds.0,
    (kinds.1.0, kinds.1.1),
  )
  | inr rest ↦ elim rest [
    | inl k ↦ subst (λ (q : HeardPicture). HasKinds q) (sym (service_kept h p k)) (
      kinds.0,
      (
        own_kept (λ x. x.raw.ext ≡ 2) (λ x. x.raw.ext ≡ 2) h p.services 2 k kinds.1.0 k (λ x d e. e)
            kinds.1.0,
        kinds.1.1,
      ),
    )
    | inr k ↦ subst (λ (q : HeardPicture). HasKinds q) (sym (packet_kept h p k)) (
      kinds.0,
      (
        kinds.1.0,
        own_kept (λ x. x.raw.ext ≡ 3) (λ x. x.raw.ext ≡ 3) h p.packets 3 k kinds.1.1 k
            (λ x d e. e) kinds.1.1,
      ),
    )
  ]
]

-- ---- the identifiers

-- an entry with a known identifier adds none; one with a new identifier adds it
pub record Joined (h : Heard) (p : HeardPicture) : Type 0 where
  pub new : Contains (keys_of p) (key_of h.raw) → ⊥
  pub has : Contains (keys_of (picture_kept h p)) (key_of h.raw)
  pub keeps : (k : ℕ) → Contains (keys_of p) k → Contains (keys_of (picture_kept h p)) k

own_known : (h : Heard) (hs : List Heard) (e : ℕ) → h.raw.ext ≡ e → AllByRecursion (λ x. x.raw.ext ≡ e) hs
    → has_entry heard_key (heard_key h) hs ≡ true → keys (heard_kept h hs) ≡ keys hs
own_known h hs e k kinds is = ap keys (rw (is) refl) ∙ changed_keys h hs e k kinds

own_has : (h : Heard) (hs : List Heard) → has_entry heard_key (heard_key h) hs ≡ false
    → Contains (keys (heard_kept h hs)) (key_of h.raw)
own_has h hs is = rw (kept_as_added h hs is) (added_has h hs)

own_keeps : (h : Heard) (hs : List Heard) (k : ℕ) → has_entry heard_key (heard_key h) hs ≡ false → Contains (keys hs) k
    → Contains (keys (heard_kept h hs)) k
own_keeps h hs k is c = rw (kept_as_added h hs is) (added_keeps h hs k c)

in_first : (a b c : List ℕ) (k : ℕ) → Contains a k → Contains (a ++ (b ++ c)) k
in_first a b c k h = Contains-append_left a (b ++ c) k h

in_second : (a b c : List ℕ) (k : ℕ) → Contains b k → Contains (a ++ (b ++ c)) k
in_second a b c k h = Contains-append_right a (b ++ c) k (Contains-append_left b c k h)

in_third : (a b c : List ℕ) (k : ℕ) → Contains c k → Contains (a ++ (b ++ c)) k
in_third a b c k h = Contains-append_right a (b ++ c) k (Contains-append_right b c k h)

of_three : {ℓ : Type 0} (a b c : List ℕ) (k : ℕ) → Contains (a ++ (b ++ c)) k → (Contains a k → ℓ) → (Contains b k → ℓ)
    → (Contains c k → ℓ) → ℓ
of_three a b c k h x y z = elim (Contains-append_cases a (b ++ c) k h) [
  | inl one ↦ x one
  | inr rest ↦ elim (Contains-append_cases b c k rest) [ inl two ↦ y two | inr three ↦ z three ]
]

not_true : (b : Bool) → not b ≡ true → b ≡ false
not_true true e = absurd (false≢true e)
not_true false e = refl

not_false : (b : Bool) → not b ≡ false → b ≡ true
not_false true e = refl
not_false false e = absurd (false≢true (sym e))

pub known_keys : (h : Heard) (p : HeardPicture) → 0 < h.raw.ext → h.raw.ext < 4 → HasKinds p
    → finds_no_room (lookup_in h.raw (picture_of_heard p)) ≡ false
    → is_absent (lookup_in h.raw (picture_of_heard p)) ≡ false → keys_of (picture_kept h p) ≡ keys_of p
known_keys h p some few kinds room known = elim (by_kind h.raw.ext some few) [
  | inl k ↦
      let s = sub_standing h.raw p k in
      let is = not_false (has_entry heard_key (heard_key h) p.subs)
      (sym (absent_where h.raw p.subs (ap finds_no_room (sym s) ∙ room)) ∙ ap is_absent (sym s) ∙ known) in
      ap keys_of (sub_kept h p k) ∙ ap (λ a. a ++ (keys p.services ++ keys p.packets))
      (own_known h p.subs 1 k kinds.0 is)
  | inr rest ↦ elim rest [
    | inl k ↦
        let s = service_standing h.raw p k in
        let is = not_false (has_entry heard_key (heard_key h) p.services)
        (sym (absent_where h.raw p.services (ap finds_no_room (sym s) ∙ room)) ∙ ap is_absent (sym s) ∙ known) in
        ap keys_of (service_kept h p k) ∙ ap (λ a. keys p.subs ++ (a ++ keys p.packets))
        (own_known h p.services 2 k kinds.1.0 is)
    | inr k ↦
        let s = packet_standing h.raw p k in
        let is = not_false (has_entry heard_key (heard_key h) p.packets)
        (sym (absent_where h.raw p.packets (ap finds_no_room (sym s) ∙ room)) ∙ ap is_absent (sym s) ∙ known) in
        ap keys_of (packet_kept h p k) ∙ ap (λ a. keys p.subs ++ (keys p.services ++ a))
        (own_known h p.packets 3 k kinds.1.1 is)
  ]
]

pub new_keys : (h : Heard) (p : HeardPicture) → 0 < h.raw.ext → h.raw.ext < 4 → HasKinds p
    → finds_no_room (lookup_in h.raw (picture_of_heard p)) ≡ false
    → is_absent (lookup_in h.raw (picture_of_heard p)) ≡ true → Joined h p
new_keys h p some few kinds room new = elim (by_kind h.raw.ext some few) [
  | inl k ↦
      let s = sub_standing h.raw p k in
      let is = not_true _ (sym (absent_where h.raw _ (ap finds_no_room (sym s) ∙ room)) ∙ ap is_absent (sym s) ∙ new) in
      let kept = sym (ap keys_of (sub_kept h p k)) in
      record {
        new = λ c. of_three (keys p.subs) (keys p.services) (keys p.packets) (key_of h.raw) c
            (none_has p.subs h 1 k kinds.0 is)
            (other_kind p.services h 2 1 k kinds.1.0 (omega arith) (omega arith) (λ e. omega (arith, e)))
            (other_kind p.packets h 3 1 k kinds.1.1 (omega arith) (omega arith) (λ e. omega (arith, e)));
        has = subst (λ (l : List ℕ). Contains l (key_of h.raw)) kept
            (in_first (keys (heard_kept h p.subs)) (keys p.services) (keys p.packets) (key_of h.raw)
            (own_has h p.subs is));
        keeps = λ n c. subst (λ (l : List ℕ). Contains l n) kept
            (of_three (keys p.subs) (keys p.services) (keys p.packets) n c
            (λ a. in_first (keys (heard_kept h p.subs)) (keys p.services) (keys p.packets) n
            (own_keeps h p.subs n is a))
            (λ a. in_second (keys (heard_kept h p.subs)) (keys p.services) (keys p.packets) n a)
            (λ a. in_third (keys (heard_kept h p.subs)) (keys p.services) (keys p.packets) n a));
      }
  | inr rest ↦ elim rest [
    | inl k ↦
        let s = service_standing h.raw p k in
        let is = not_true (has_entry heard_key (heard_key h) p.services)
        (sym (absent_where h.raw p.services (ap finds_no_room (sym s) ∙ room)) ∙ ap is_absent (sym s) ∙ new) in
        let kept = sym (ap keys_of (service_kept h p k)) in
        record {
          new = λ c. of_three (keys p.subs) (keys p.services) (keys p.packets) (key_of h.raw) c
              (other_kind p.subs h 1 2 k kinds.0 (omega arith) (omega arith) (λ e. omega (arith, e)))
              (none_has p.services h 2 k kinds.1.0 is)
              (other_kind p.packets h 3 2 k kinds.1.1 (omega arith) (omega arith) (λ e. omega (arith, e)));
          has = subst (λ (l : List ℕ). Contains l (key_of h.raw)) kept
              (in_second (keys p.subs) (keys (heard_kept h p.services)) (keys p.packets) (key_of h.raw)
              (own_has h p.services is));
          keeps = λ n c. subst (λ (l : List ℕ). Contains l n) kept
              (of_three (keys p.subs) (keys p.services) (keys p.packets) n c
              (λ a. in_first (keys p.subs) (keys (heard_kept h p.services)) (keys p.packets) n a)
              (λ a. in_second (keys p.subs) (keys (heard_kept h p.services)) (keys p.packets) n
              (own_keeps h p.services n is a))
              (λ a. in_third (keys p.subs) (keys (heard_kept h p.services)) (keys p.packets) n a));
        }
    | inr k ↦
        let s = packet_standing h.raw p k in
        let is = not_true (has_entry heard_key (heard_key h) p.packets)
        (sym (absent_where h.raw p.packets (ap finds_no_room (sym s) ∙ room)) ∙ ap is_absent (sym s) ∙ new) in
        let kept = sym (ap keys_of (packet_kept h p k)) in
        record {
          new = λ c. of_three (keys p.subs) (keys p.services) (keys p.packets) (key_of h.raw) c
              (other_kind p.subs h 1 3 k kinds.0 (omega arith) (omega arith) (λ e. omega (arith, e)))
              (other_kind p.services h 2 3 k kinds.1.0 (omega arith) (omega arith) (λ e. omega (arith, e)))
              (none_has p.packets h 3 k kinds.1.1 is);
          has = subst (λ (l : List ℕ). Contains l (key_of h.raw)) kept (in_third _ _ _ _ (own_has h _ is));
          keeps = λ n c. subst (λ (l : List ℕ). Contains l n) kept
              (of_three (keys p.subs) (keys p.services) (keys p.packets) n c
              (λ a. in_first (keys p.subs) (keys p.services) (keys (heard_kept h p.packets)) n a)
              (λ a. in_second (keys p.subs) (keys p.services) (keys (heard_kept h p.packets)) n a)
              (λ a. in_third (keys p.subs) (keys p.services) (keys (heard_kept h p.packets)) n
              (own_keeps h p.packets n is a)));
        }
  ]
]

-- an entry with its identifier is in the list
own_there : (hs : List Heard) (h : Heard) (e : ℕ) → h.raw.ext ≡ e → AllByRecursion (λ x. x.raw.ext ≡ e) hs
    → has_entry heard_key (heard_key h) hs ≡ true → Contains (keys hs) (key_of h.raw)
own_there [] h e k all is = absurd (false≢true is)
own_there (x ∷ xs) h e k all is =
    elim (heard_key x == heard_key h) as (λ t. (heard_key x == heard_key h) ≡ t
    → (t || has_entry heard_key (heard_key h) xs) ≡ true → Contains (keys (x ∷ xs)) (key_of h.raw)) [
      | true ↦ λ same more.
          let key : key_of x.raw ≡ key_of h.raw = omega (arith, eqb-true (heard_key x) (heard_key h) same, k, all.0) in
          rw (← key) (here (key_of x.raw) (keys xs))
      | false ↦ λ same more. there (key_of x.raw) (key_of h.raw) (keys xs) (own_there xs h e k all.1 more)
    ] refl is

pub known_has : (h : Heard) (p : HeardPicture) → 0 < h.raw.ext → h.raw.ext < 4 → HasKinds p
    → finds_no_room (lookup_in h.raw (picture_of_heard p)) ≡ false
    → is_absent (lookup_in h.raw (picture_of_heard p)) ≡ false → Contains (keys_of p) (key_of h.raw)
known_has h p some few kinds room known = elim (by_kind h.raw.ext some few) [
  | inl k ↦
      let s = sub_standing h.raw p k in
      let is = not_false (has_entry heard_key (heard_key h) p.subs)
      (sym (absent_where h.raw p.subs (ap finds_no_room (sym s) ∙ room)) ∙ ap is_absent (sym s) ∙ known) in
      in_first (keys p.subs) (keys p.services) (keys p.packets) (key_of h.raw) (own_there p.subs h 1 k kinds.0 is)
  | inr rest ↦ elim rest [
    | inl k ↦
        let s = service_standing h.raw p k in
        let is = not_false (has_entry heard_key (heard_key h) p.services)
        (sym (absent_where h.raw p.services (ap finds_no_room (sym s) ∙ room)) ∙ ap is_absent (sym s) ∙ known) in
        in_second (keys p.subs) (keys p.services) (keys p.packets) (key_of h.raw)
        (own_there p.services h 2 k kinds.1.0 is)
    | inr k ↦
        let s = packet_standing h.raw p k in
        let is = not_false (has_entry heard_key (heard_key h) p.packets)
        (sym (absent_where h.raw p.packets (ap finds_no_room (sym s) ∙ room)) ∙ ap is_absent (sym s) ∙ known) in
        in_third (keys p.subs) (keys p.services) (keys p.packets) (key_of h.raw)
        (own_there p.packets h 3 k kinds.1.1 is)
  ]
]
