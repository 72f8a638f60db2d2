-- Tables of entries with times, and of the entries alone.
use Rattle.stream_check.proofs.Words.{[], ◌<◌, ◌==◌, ◌||◌, ◌∙◌, ◌∷◌, ◌≡◌, ◌≢◌, ◌≤◌, AllByRecursion, Bool, Heard}
use Rattle.stream_check.proofs.Words.{HeardPicture, List, None, Option, Raw, Some, absent_found, agree, ap, cond}
use Rattle.stream_check.proofs.Words.{entry_at, false, false≢true, finds_no_room, has_entry, has_room, heard_kept}
use Rattle.stream_check.proofs.Words.{heard_key, identifier_of, is_known, kept, le-ltb, length, length-map, lookup}
use Rattle.stream_check.proofs.Words.{lookup_among, lookup_in, lt-ltb, nat_lt, not, or_parts, picture_kept}
use Rattle.stream_check.proofs.Words.{picture_of_heard, pictured, present, raws, refl, subst, sym, true, with_entry}
use Rattle.stream_check.proofs.Words.{with_entry_changed, ℕ}
use Rattle.stream_check.specs.declared.heard_table.Lookup.{Lookup}
use Rattle.stream_check.specs.declared.heard_table.Lookup.TheVariants as standings

abbrev pub raw_in : Option Heard → Option Raw
raw_in None = None
raw_in (Some h) = Some h.raw

pub found_raw : (k : ℕ) (hs : List Heard) → entry_at identifier_of k (raws hs) ≡ raw_in (entry_at heard_key k hs)
found_raw k [] = refl
found_raw k (h ∷ hs) = elim (heard_key h == k) as (λ t.
    cond t (Some h.raw) (entry_at identifier_of k (raws hs)) ≡ raw_in (cond t (Some h) (entry_at heard_key k hs))) [
      | true ↦ refl
      | false ↦ found_raw k hs
    ]

-- how an entry compares with a table, from what is found there
pub standing_found : (raw : Raw) (hs : List Heard) (found : Option Heard)
    → found ≡ entry_at heard_key (identifier_of raw) hs
    → lookup raw (raws hs) ≡ lookup_among raw (length hs) (raw_in found)
standing_found raw hs found e =
    rw (length-map hs (λ h. h.raw)) (ap (lookup_among raw (length hs)) (found_raw _ hs ∙ ap raw_in (sym e)))

pub standing_known : (raw : Raw) (hs : List Heard) (h : Heard) (b : Bool)
    → Some h ≡ entry_at heard_key (identifier_of raw) hs → b ≡ agree h.raw raw
    → lookup raw (raws hs) ≡ cond b standings.Same standings.Other
standing_known raw hs h b e is = rw (is) (standing_found raw hs (Some h) e)

pub standing_new : (raw : Raw) (hs : List Heard) → None ≡ entry_at heard_key (identifier_of raw) hs → length hs < 64
    → standings.Absent ≡ lookup raw (raws hs)
standing_new raw hs e lt = sym (standing_found raw hs None e
    ∙ ap (λ t. cond t standings.Absent standings.Full) (lt-ltb (length hs) 64 lt))

pub standing_full : (raw : Raw) (hs : List Heard) → None ≡ entry_at heard_key (identifier_of raw) hs → 64 ≤ length hs
    → standings.Full ≡ lookup raw (raws hs)
standing_full raw hs e le = sym (standing_found raw hs None e
    ∙ ap (λ t. cond t standings.Absent standings.Full) (le-ltb (length hs) 64 le))

-- ---- the entries alone

has_raw : (k : ℕ) (hs : List Heard) → has_entry identifier_of k (raws hs) ≡ has_entry heard_key k hs
has_raw k [] = refl
has_raw k (h ∷ hs) = ap (λ t. (heard_key h == k) || t) (has_raw k hs)

changed_raw : (h : Heard) (hs : List Heard) → raws (with_entry_changed heard_key h hs)
    ≡ with_entry_changed identifier_of h.raw (raws hs)
changed_raw h [] = refl
changed_raw h (x ∷ xs) = elim (heard_key x == heard_key h)
    as (λ t. (cond t h x).raw ∷ raws (with_entry_changed heard_key h xs) ≡ cond t h.raw x.raw
    ∷ with_entry_changed identifier_of h.raw (raws xs)) [
      | true ↦ rw (changed_raw h xs) refl
      | false ↦ rw (changed_raw h xs) refl
    ]

added_raw : (h : Heard) (hs : List Heard) → raws (with_entry heard_key h hs) ≡ with_entry identifier_of h.raw (raws hs)
added_raw h [] = refl
added_raw h (x ∷ xs) = elim (nat_lt (heard_key h) (heard_key x))
    as (λ t. raws (cond t (h ∷ x ∷ xs) (x ∷ with_entry heard_key h xs))
    ≡ cond t (h.raw ∷ x.raw ∷ raws xs) (x.raw ∷ with_entry identifier_of h.raw (raws xs))) [
      | true ↦ refl
      | false ↦ rw (added_raw h xs) refl
    ]

pub kept_raw : (h : Heard) (hs : List Heard) → raws (heard_kept h hs) ≡ kept h.raw (raws hs)
kept_raw h hs =
    chosen (has_entry heard_key (heard_key h) hs)
    ∙ ap (λ t. cond t (with_entry_changed identifier_of h.raw (raws hs)) (with_entry identifier_of h.raw (raws hs)))
    (sym (has_raw (heard_key h) hs))
  where
    chosen : (t : Bool) → raws (cond t (with_entry_changed heard_key h hs) (with_entry heard_key h hs))
        ≡ cond t (with_entry_changed identifier_of h.raw (raws hs)) (with_entry identifier_of h.raw (raws hs))
    chosen true = changed_raw h hs
    chosen false = added_raw h hs

-- ---- room

room_among : (raw : Raw) (rs : List Raw) (found : Option Raw) → found ≡ entry_at identifier_of (identifier_of raw) rs
    → has_room raw rs ≡ not (finds_no_room (lookup_among raw (length rs) found))
room_among raw rs None e =
    ap (λ t. t || nat_lt (length rs) 64) (absent_found identifier_of (identifier_of raw) rs (sym e))
    ∙ (elim (nat_lt (length rs) 64) as (λ t. t ≡ not (finds_no_room (cond t standings.Absent standings.Full)))
    [ true ↦ refl | false ↦ refl ])
room_among raw rs (Some r) e =
    ap (λ t. t || nat_lt (length rs) 64) (present identifier_of (identifier_of raw) rs r (sym e))
    ∙ (elim (agree r raw) as (λ t. true ≡ not (finds_no_room (cond t standings.Same standings.Other)))
    [ true ↦ refl | false ↦ refl ])

has_room_where : (raw : Raw) (rs : List Raw) → finds_no_room (lookup raw rs) ≡ false → has_room raw rs ≡ true
has_room_where raw rs free = room_among raw rs (entry_at identifier_of (identifier_of raw) rs) refl ∙ ap not free

-- whether a table has room for an entry decides whether its lookup finds room
room_heard : (h : Heard) (hs : List Heard) → (has_entry heard_key (heard_key h) hs || nat_lt (length hs) 64)
    ≡ not (finds_no_room (lookup h.raw (raws hs)))
room_heard h hs =
    ap (λ t. t || nat_lt (length hs) 64) (sym (has_raw (heard_key h) hs))
    ∙ ap (λ n. is_known h.raw (raws hs) || nat_lt n 64) (sym (length-map hs (λ x. x.raw)))
    ∙ room_among h.raw (raws hs) (entry_at identifier_of (identifier_of h.raw) (raws hs)) refl

pub full_without_room : (h : Heard) (hs : List Heard) → false
    ≡ (has_entry heard_key (heard_key h) hs || nat_lt (length hs) 64) → standings.Full ≡ lookup h.raw (raws hs)
full_without_room h hs none = by_cases (lookup h.raw (raws hs)) (none ∙ room_heard h hs)
  where
    by_cases : (s : Lookup) → false ≡ not (finds_no_room s) → standings.Full ≡ s
    by_cases standings.Same e = absurd (false≢true e)
    by_cases standings.Other e = absurd (false≢true e)
    by_cases standings.Absent e = absurd (false≢true e)
    by_cases standings.Full e = refl

pub not_full : (h : Heard) (hs : List Heard) → true ≡ (has_entry heard_key (heard_key h) hs || nat_lt (length hs) 64)
    → lookup h.raw (raws hs) ≢ standings.Full
not_full h hs some full = false≢true (sym (some ∙ room_heard h hs ∙ ap (λ s. not (finds_no_room s)) full))

-- an entry for which there is room is kept in a picture
pub pictured_kept : (h : Heard) (p : HeardPicture) → finds_no_room (lookup_in h.raw (picture_of_heard p)) ≡ false
    → pictured h.raw (picture_of_heard p) ≡ Some (picture_of_heard (picture_kept h p))
pictured_kept h p room = elim (h.raw.ext == 1) as (λ t.
    finds_no_room (lookup h.raw (cond t (raws p.subs) (cond (h.raw.ext == 2) (raws p.services) (raws p.packets))))
    ≡ false
    → cond t (Some (record (picture_of_heard p) { subs = kept h.raw (raws p.subs) }))
    (cond (h.raw.ext == 2) (cond (has_room h.raw (raws p.services))
    (Some (record (picture_of_heard p) { services = kept h.raw (raws p.services) })) None)
    (cond (has_room h.raw (raws p.packets))
    (Some (record (picture_of_heard p) { packets = kept h.raw (raws p.packets) })) None))
    ≡ Some (picture_of_heard (cond t (record p { subs = heard_kept h p.subs })
    (cond (h.raw.ext == 2) (record p { services = heard_kept h p.services })
    (record p { packets = heard_kept h p.packets }))))) [
      | true ↦ λ room. rw (kept_raw h p.subs) refl
      | false ↦ elim (h.raw.ext == 2) as (λ t. finds_no_room (lookup h.raw (cond t (raws p.services) (raws p.packets)))
          ≡ false
          → cond t (cond (has_room h.raw (raws p.services))
          (Some (record (picture_of_heard p) { services = kept h.raw (raws p.services) })) None)
          (cond (has_room h.raw (raws p.packets))
          (Some (record (picture_of_heard p) { packets = kept h.raw (raws p.packets) })) None)
          ≡ Some (picture_of_heard
          (cond t (record p { services = heard_kept h p.services })
          (record p { packets = heard_kept h p.packets })))) [
            | true ↦ λ room. rw (has_room_where h.raw (raws p.services) room, kept_raw h p.services) refl
            | false ↦ λ room. rw (has_room_where h.raw (raws p.packets) room, kept_raw h p.packets) refl
          ]
    ] room

-- ---- properties of each entry

each_changed : (P Q : Heard → Type 0) (h : Heard) (hs : List Heard) → Q h
    → ((x : Heard) → (heard_key x == heard_key h) ≡ false → P x → Q x) → AllByRecursion P hs
    → AllByRecursion Q (with_entry_changed heard_key h hs)
each_changed P Q h [] one other all = tt
each_changed P Q h (x ∷ xs) one other all = (
  elim (heard_key x == heard_key h) as (λ t. (heard_key x == heard_key h) ≡ t → Q (cond t h x))
      [ true ↦ λ e. one | false ↦ λ e. other x e all.0 ] refl,
  each_changed P Q h xs one other all.1,
)

each_added : (P Q : Heard → Type 0) (h : Heard) (hs : List Heard) → Q h → has_entry heard_key (heard_key h) hs ≡ false
    → ((x : Heard) → (heard_key x == heard_key h) ≡ false → P x → Q x) → AllByRecursion P hs
    → AllByRecursion Q (with_entry heard_key h hs)
each_added P Q h [] one none other all = (one, tt)
each_added P Q h (x ∷ xs) one none other all =
    let left = or_parts (heard_key x == heard_key h) (has_entry heard_key (heard_key h) xs) none in
    let first : Q x = other x left.0 all.0 in
    elim (nat_lt (heard_key h) (heard_key x)) as (λ b.
    AllByRecursion Q (cond b (h ∷ x ∷ xs) (x ∷ with_entry heard_key h xs))) [
      | true ↦ (one, (first, others xs left.1 all.1))
      | false ↦ (first, (each_added P Q h xs one left.1 other all.1))
    ]
  where
    others : (ys : List Heard) → has_entry heard_key (heard_key h) ys ≡ false → AllByRecursion P ys
        → AllByRecursion Q ys
    others [] none all = tt
    others (y ∷ ys) none all =
        let left = or_parts (heard_key y == heard_key h) (has_entry heard_key (heard_key h) ys) none in
        (other y left.0 all.0, others ys left.1 all.1)

-- the new entry, and all others
pub each_kept : (P Q : Heard → Type 0) (h : Heard) (hs : List Heard) → Q h
    → ((x : Heard) → (heard_key x == heard_key h) ≡ false → P x → Q x) → AllByRecursion P hs
    → AllByRecursion Q (heard_kept h hs)
each_kept P Q h hs one other all =
    elim (has_entry heard_key (heard_key h) hs) as (λ t. has_entry heard_key (heard_key h) hs ≡ t
    → AllByRecursion Q (cond t (with_entry_changed heard_key h hs) (with_entry heard_key h hs))) [
      | true ↦ λ e. each_changed P Q h hs one other all
      | false ↦ λ e. each_added P Q h hs one e other all
    ] refl

-- in a list into which an entry was inserted, or which had no room for it
pub each_heard : (P : Heard → Type 0) (h : Heard) (hs new : List Heard) (s : Lookup) → P h → AllByRecursion P hs
    → (s ≢ standings.Full → new ≡ heard_kept h hs) → (s ≡ standings.Full → new ≡ hs) → AllByRecursion P new
each_heard P h hs new s one all kept full = by_cases s refl
  where
    taken : s ≢ standings.Full → AllByRecursion P new
    taken other = subst (AllByRecursion P) (sym (kept other)) (each_kept P P h hs one (λ x free p. p) all)

    by_cases : (t : Lookup) → s ≡ t → AllByRecursion P new
    by_cases standings.Same e = taken (λ f. absurd (cc))
    by_cases standings.Other e = taken (λ f. absurd (cc))
    by_cases standings.Absent e = taken (λ f. absurd (cc))
    by_cases standings.Full e = subst (AllByRecursion P) (sym (full e)) all
