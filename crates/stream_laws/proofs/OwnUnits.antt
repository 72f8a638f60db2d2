-- Without a fault, no capacity unit is one of two sub-channels after a swap, and the units stay so.
use Rattle.stream_laws.proofs.Words.{[], ◌&&◌, ◌++◌, ◌+◌, ◌<◌, ◌==◌, ◌∙◌, ◌∷◌, ◌≡◌, ◌≤◌, AllByRecursion, Bool, Ended}
use Rattle.stream_laws.proofs.Words.{Fault, HaveOwnUnits, IsAscending, IsNoFault, IsUnitOf, Item, KnownBefore, List}
use Rattle.stream_laws.proofs.Words.{Listening, Moment, None, Option, Pictured, Raw, Said, Some, SwapsKeepUnits}
use Rattle.stream_laws.proofs.Words.{UnitsStayOwn, and_from, ap, arith, as_list, ascends_changed, ascends_with}
use Rattle.stream_laws.proofs.Words.{cases_lt, cond, each_contains, end_unit, ends_past, ensemble_of_item, entry_at}
use Rattle.stream_laws.proofs.Words.{entry_like, false, false≢true, first_unit, frames_ended, heard_as, identifier_of}
use Rattle.stream_laws.proofs.Words.{inl, inr, is_cut_off, is_ensemble, is_flagged, is_known, is_long_form, is_made}
use Rattle.stream_laws.proofs.Words.{is_swap, kept, kept_where_found, known_of, listener_after, lt-ltb, member_settles}
use Rattle.stream_laws.proofs.Words.{nat_lt, not, not-true, notice_faults, overlap, overlap_or, partner, past_end}
use Rattle.stream_laws.proofs.Words.{present, refl, settles_at, share_unit, slice_get, subst, suc, sym, true}
use Rattle.stream_laws.proofs.Words.{with_entry, with_entry_changed, zero, ℕ}
use Rattle.stream_check.specs.declared.finding.Fault.TheVariants as faults
use Rattle.stream_laws.proofs.Clean.{all_left, all_right, IsClean, entry_clean}
use Rattle.stream_laws.proofs.Kept.{first_holds, after_heard, ensemble_made, plain_ensemble, current_kept, second_holds}
use Rattle.stream_laws.proofs.Kept.{with_member, after_member}
use Rattle.stream_laws.proofs.Pictures.{picture_with}
use Rattle.stream_laws.proofs.Staying.{no_current, a_current, after_ensemble_is}

-- ---- what the rules compute

none_found : (o : Option Fault) → AllByRecursion IsNoFault (as_list o) → o ≡ None
none_found None all = refl
none_found (Some fault) all = absurd all.0

shared : (a b : Raw) (unit : ℕ) → IsUnitOf a unit → IsUnitOf b unit → share_unit a b ≡ true
shared a b unit x y =
    and_from (is_long_form a && is_long_form b) _ (and_from (is_long_form a) (is_long_form b) x.long_form y.long_form)
    (and_from (nat_lt (first_unit a) (end_unit a)) _ (lt-ltb (first_unit a) (end_unit a) (omega arith))
    (and_from (nat_lt (first_unit b) (end_unit b)) _ (lt-ltb (first_unit b) (end_unit b) (omega arith))
    (and_from (nat_lt (first_unit a) (end_unit b)) _ (lt-ltb (first_unit a) (end_unit b) (omega arith))
    (lt-ltb (first_unit b) (end_unit a) (omega arith)))))

abbrev SharesNone : Raw → Raw → Type 0
SharesNone a b = share_unit a b ≡ false

no_partner : (a : Raw) (rs : List Raw) → partner a rs ≡ None → AllByRecursion (SharesNone a) rs
no_partner a [] e = tt
no_partner a (b ∷ bs) e = elim (share_unit a b) as (λ t. share_unit a b ≡ t
    → cond t (Some (identifier_of b)) (partner a bs) ≡ None → AllByRecursion (SharesNone a) (b ∷ bs)) [
      | true ↦ λ is n. absurd cc
      | false ↦ λ is n. (is, no_partner a bs n)
    ] refl e

parted : (o : Option ℕ) (a : Raw) (later : Option Fault) → overlap_or o a later ≡ None → (o ≡ None) × (later ≡ None)
parted None a later e = (refl, e)
parted (Some b) a later e = absurd cc

not_at : (a : Raw) (rs : List Raw) (n : ℕ) (b : Raw) (unit : ℕ) → AllByRecursion (SharesNone a) rs
    → slice_get rs n ≡ Some b → IsUnitOf a unit → IsUnitOf b unit → ⊥
not_at a [] n b unit all got x y = absurd cc
not_at a (r ∷ rs) zero b unit all got x y =
    let same : r ≡ b = cc in
    false≢true (sym all.0 ∙ ap (share_unit a) same ∙ shared a b unit x y)
not_at a (r ∷ rs) (suc n) b unit all got x y = not_at a rs n b unit all.1 got x y

apart : (rs : List Raw) → overlap rs ≡ None → (m n : ℕ) (a b : Raw) (unit : ℕ) → slice_get rs m ≡ Some a
    → slice_get rs n ≡ Some b → IsUnitOf a unit → IsUnitOf b unit → m ≡ n
apart [] e m n a b unit first second x y = absurd cc
apart (r ∷ rs) e zero zero a b unit first second x y = refl
apart (r ∷ rs) e zero (suc n) a b unit first second x y =
    let both = parted (partner r rs) r (overlap rs) e in
    absurd (not_at r rs n b unit (no_partner r rs both.0) second (subst (λ s. IsUnitOf s unit) (sym cc) x) y)
apart (r ∷ rs) e (suc m) zero a b unit first second x y =
    let both = parted (partner r rs) r (overlap rs) e in
    absurd (not_at r rs m a unit (no_partner r rs both.0) first (subst (λ s. IsUnitOf s unit) (sym cc) y) x)
apart (r ∷ rs) e (suc m) (suc n) a b unit first second x y =
    ap suc (apart rs (parted (partner r rs) r (overlap rs) e).1 m n a b unit first second x y)

none_past : (rs : List Raw) → past_end rs ≡ None → AllByRecursion (λ a. ends_past a ≡ false) rs
none_past [] e = tt
none_past (r ∷ rs) e = elim (ends_past r) as (λ t. ends_past r ≡ t
    → cond t (Some (faults.PastEnd (identifier_of r))) (past_end rs) ≡ None
    → AllByRecursion (λ a. ends_past a ≡ false) (r ∷ rs)) [
      | true ↦ λ is n. absurd cc
      | false ↦ λ is n. (is, none_past rs n)
    ] refl e

within : (a : Raw) (unit : ℕ) → ends_past a ≡ false → IsUnitOf a unit → unit < 864
within a unit e x = elim (cases_lt 864 (end_unit a)) [
  | inl past ↦ absurd (false≢true
      (sym e ∙ and_from (is_long_form a) (nat_lt 864 (end_unit a)) x.long_form (lt-ltb 864 (end_unit a) past)))
  | inr le ↦ (let to = x.to in omega (arith, to, le))
]

pub own_units : (rs : List Raw) → AllByRecursion IsNoFault (as_list (overlap rs) ++ as_list (past_end rs))
    → HaveOwnUnits rs
own_units rs all =
    let none = none_found (overlap rs) (all_left IsNoFault (as_list (overlap rs)) (as_list (past_end rs)) all) in
    let few = none_found (past_end rs) (all_right IsNoFault (as_list (overlap rs)) (as_list (past_end rs)) all) in
    record {
      apart = λ m n a b unit first second x y. apart rs none m n a b unit first second x y;
      within = λ a unit inside x.
          within a unit (each_contains (λ r. ends_past r ≡ false) rs a (none_past rs few) inside) x;
    }

-- ---- a swap

after_swap : (f : Bool) (i : Item) (l : Listening) → (heard_as true f (ensemble_of_item i) l).current.subs ≡ l.next.subs
after_swap true i l = refl
after_swap false i l = refl

pub swap_units : (step period : ℕ) (past : List Moment) (i : Item) → IsClean step period (Said i ∷ past)
    → is_swap past i ≡ true → HaveOwnUnits (listener_after (Said i ∷ past)).current.subs
swap_units step period past i clean sw =
    let e : is_ensemble i ≡ true = first_holds (is_ensemble i) _ sw in
    let made : is_made (listener_after past).awaited (ensemble_of_item i) ≡ true = sym (ensemble_made past i e) ∙ sw in
    let k : KnownBefore = known_of step period past in
    let rest = all_right _ _ _ ((plain_ensemble step period past i clean e).swap made).1 in
    let units = all_right IsNoFault (notice_faults k) _ rest in
    let same : (listener_after (Said i ∷ past)).current.subs ≡ (listener_after past).next.subs =
    ap (λ (l : Listening). l.current.subs) (after_heard step period past i true (is_flagged i) clean e sw refl)
    ∙ after_swap (is_flagged i) i (listener_after past) in
    subst HaveOwnUnits (sym same) (own_units (listener_after past).next.subs units)

pub swaps_keep_units : SwapsKeepUnits
swaps_keep_units size step period frames past i faultless s sw =
    swap_units step period past i (entry_clean size step period frames past i faultless s) sw

-- ---- the lists of pictures ascend

absent : (raw : Raw) (rs : List Raw) (found : Option Raw) → entry_at identifier_of (identifier_of raw) rs ≡ found
    → is_known raw rs ≡ false → found ≡ None
absent raw rs None e unknown = refl
absent raw rs (Some x) e unknown = absurd (false≢true (sym unknown ∙ present identifier_of (identifier_of raw) rs x e))

kept_ascends : (raw : Raw) (rs : List Raw) → IsAscending identifier_of rs → IsAscending identifier_of (kept raw rs)
kept_ascends raw rs up = elim (is_known raw rs) as (λ t. is_known raw rs ≡ t
    → IsAscending identifier_of (cond t (with_entry_changed identifier_of raw rs) (with_entry identifier_of raw rs))) [
      | true ↦ λ is. ascends_changed identifier_of raw rs up
      | false ↦ λ is. ascends_with identifier_of raw rs up
          (absent raw rs (entry_at identifier_of (identifier_of raw) rs) refl is)
    ] refl

with_ascends : (raw : Raw) (p : Pictured) → IsAscending identifier_of p.subs
    → IsAscending identifier_of (picture_with raw p).subs
with_ascends raw p up = elim (raw.ext == 1)
    as (λ t. IsAscending identifier_of
    (cond t (record p { subs = kept raw p.subs })
    (cond (raw.ext == 2) (record p { services = kept raw p.services })
    (record p { packets = kept raw p.packets }))).subs) [
      | true ↦ kept_ascends raw p.subs up
      | false ↦ elim (raw.ext == 2)
          as (λ t. IsAscending identifier_of
          (cond t (record p { services = kept raw p.services }) (record p { packets = kept raw p.packets })).subs) [
            | true ↦ up
            | false ↦ up
          ]
    ]

record Ascend (l : Listening) : Type 0 where
  current : IsAscending identifier_of l.current.subs
  next : IsAscending identifier_of l.next.subs

member_ascends : (t n : Bool) (raw : Raw) (l : Listening) → Ascend l → Ascend (cond t (with_member n raw l) l)
member_ascends true true raw l h = record { current = h.current; next = with_ascends raw l.next h.next }
member_ascends true false raw l h = record { current = with_ascends raw l.current h.current; next = h.next }
member_ascends false n raw l h = h

ensemble_ascends : (b f : Bool) (i : Item) (l : Listening) → Ascend l → Ascend (heard_as b f (ensemble_of_item i) l)
ensemble_ascends true true i l h = record { current = h.next; next = tt }
ensemble_ascends true false i l h = record { current = h.next; next = tt }
ensemble_ascends false true i l h = record { current = h.current; next = h.next }
ensemble_ascends false false i l h = record { current = h.current; next = h.next }

entry_ascends : (step period : ℕ) (past : List Moment) (i : Item) (b : Bool) → is_ensemble i ≡ b
    → IsClean step period (Said i ∷ past) → Ascend (listener_after past) → Ascend (listener_after (Said i ∷ past))
entry_ascends step period past i true e c h =
    subst Ascend (sym (after_heard step _ past i _ _ c e refl refl)) (ensemble_ascends _ _ i _ h)
entry_ascends step period past i false e c h =
    subst Ascend (sym (after_member step _ past i c e)) (member_ascends _ _ i.raw _ h)

all_ascend : (step period : ℕ) (past : List Moment) → IsClean step period past → Ascend (listener_after past)
all_ascend step period [] c = record { current = tt; next = tt }
all_ascend step period (Said i ∷ past) c = entry_ascends step _ past i _ refl c (all_ascend step period past c.2)
all_ascend step period (Ended count ∷ past) c = all_ascend step period past c

-- ---- an entry that is in the picture leaves it as it is

place_of : (k : ℕ) (rs : List Raw) (raw : Raw) → entry_at identifier_of k rs ≡ Some raw → (place : ℕ)
    × (slice_get rs place ≡ Some raw)
place_of k [] raw e = absurd cc
place_of k (x ∷ xs) raw e = elim (identifier_of x == k)
    as (λ t. cond t (Some x) (entry_at identifier_of k xs) ≡ Some raw → (place : ℕ)
    × (slice_get (x ∷ xs) place ≡ Some raw)) [
      | true ↦ λ is. (0, is)
      | false ↦ λ is. (let rest = place_of k xs raw is in (suc rest.0, rest.1))
    ] e

same_subs : (raw : Raw) (p : Pictured) → IsAscending identifier_of p.subs → entry_like raw p ≡ Some raw
    → (picture_with raw p).subs ≡ p.subs
same_subs raw p up found = elim (raw.ext == 1) as (λ t.
    entry_at identifier_of (identifier_of raw) (cond t p.subs (cond (raw.ext == 2) p.services p.packets)) ≡ Some raw
    → (cond t (record p { subs = kept raw p.subs })
    (cond (raw.ext == 2) (record p { services = kept raw p.services })
    (record p { packets = kept raw p.packets }))).subs ≡ p.subs) [
      | true ↦ λ f. (let there = place_of (identifier_of raw) p.subs raw f in
          sym (kept_where_found raw p.subs there.0 up there.1))
      | false ↦ λ f. elim (raw.ext == 2)
          as (λ t. (cond t (record p { services = kept raw p.services })
          (record p { packets = kept raw p.packets })).subs ≡ p.subs) [
            | true ↦ refl
            | false ↦ refl
          ]
    ] found

-- ---- along a stream

stays : (step period : ℕ) (past : List Moment) (i : Item) (b d e : Bool) → is_ensemble i ≡ b → is_swap past i ≡ d
    → ((listener_after past).tuned && not i.next) ≡ e → IsClean step period (Said i ∷ past)
    → settles_at period (Said i ∷ past) ≡ 0
    → (settles_at period past ≡ 0 → HaveOwnUnits (listener_after past).current.subs)
    → HaveOwnUnits (listener_after (Said i ∷ past)).current.subs
stays step period past i true true e is sw now c settled before = swap_units step period past i c sw
stays step period past i true false e is sw now c settled before =
    let same : (listener_after (Said i ∷ past)).current ≡ (listener_after past).current =
    ap (λ (l : Listening). l.current) (after_heard step period past i false (is_flagged i) c is sw refl)
    ∙ after_ensemble_is false (is_flagged i) i (listener_after past) in
    let settles : settles_at period (Said i ∷ past) ≡ settles_at period past =
    ap (λ t. cond t (cond (is_cut_off past) (frames_ended past + period) 0) (settles_at period past)) sw in
    subst (λ (p : Pictured). HaveOwnUnits p.subs) (sym same) (before (sym settles ∙ settled))
stays step period past i false d true is sw now c settled before =
    let l : Listening = listener_after past in
    let none : settles_at period past ≡ 0 = member_settles period past i is ∙ settled in
    let k = current_kept step period past i is (first_holds l.tuned (not i.next) now)
    (not-true i.next (second_holds l.tuned (not i.next) now)) c in
    let there : entry_like i.raw l.current ≡ Some i.raw = k.there (omega (arith, none)) in
    let same : (listener_after (Said i ∷ past)).current ≡ picture_with i.raw l.current =
    ap (λ (x : Listening). x.current) (after_member step period past i c is) ∙ a_current l.tuned i.next i.raw l now in
    let subs : (listener_after (Said i ∷ past)).current.subs ≡ l.current.subs =
    ap (λ (p : Pictured). p.subs) same ∙ same_subs i.raw l.current (all_ascend step period past c.2).current there in
    subst HaveOwnUnits (sym subs) (before none)
stays step period past i false d false is sw now c settled before =
    let l : Listening = listener_after past in
    let same : (listener_after (Said i ∷ past)).current ≡ l.current =
    ap (λ (x : Listening). x.current) (after_member step period past i c is) ∙ no_current l.tuned i.next i.raw l now in
    subst (λ (p : Pictured). HaveOwnUnits p.subs) (sym same) (before (member_settles period past i is ∙ settled))

own : (step period : ℕ) (past : List Moment) → 1 ≤ period → IsClean step period past → settles_at period past ≡ 0
    → HaveOwnUnits (listener_after past).current.subs
own step period [] some c settled = absurd (omega (arith, some, settled))
own step period (Said i ∷ past) some c settled =
    stays step period past i (is_ensemble i) (is_swap past i) ((listener_after past).tuned && not i.next) refl refl refl
    c settled (own step period past some c.2)
own step period (Ended count ∷ past) some c settled = own step period past some c settled

pub units_stay_own : UnitsStayOwn
units_stay_own size step period frames past i some faultless s settled =
    own step period past some (entry_clean size step period frames past i faultless s).2 settled
