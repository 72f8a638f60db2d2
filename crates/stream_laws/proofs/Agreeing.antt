-- The entries of a frame of a run compare with the pictures as the checker requires.
use Rattle.stream_laws.proofs.Words.{[], ◌&&◌, ◌<◌, ◌==◌, ◌||◌, ◌∙◌, ◌∷◌, ◌≡◌, ◌≤◌, ◌⊎◌, AllByRecursion, Bool}
use Rattle.stream_laws.proofs.Words.{Configuration, In, IsAscending, IsConfiguration, IsOf, IsPart, IsPartial, IsSentOf}
use Rattle.stream_laws.proofs.Words.{Item, List, Listening, Marked, Moment, NextBy, None, Nothing, Option, Or, Pictured}
use Rattle.stream_laws.proofs.Words.{Plan, Raw, Said, SaidIn, Some, State, Tuned, absent_found, after_is, agree}
use Rattle.stream_laws.proofs.Words.{agree_self, ap, arith, began_early, bits_of, change_of, cond, each_in, entry_at}
use Rattle.stream_laws.proofs.Words.{entry_is_of, entry_key, false, false≢true, finds_no_room, has_begun, has_ensemble}
use Rattle.stream_laws.proofs.Words.{has_room, hear_entry, hear_marked, hears_entries, identifier_of, inl, inr}
use Rattle.stream_laws.proofs.Words.{is_ensemble, is_known, is_noticed, is_other_one, last_flags, length}
use Rattle.stream_laws.proofs.Words.{listener_after, listening, lookup, lookup_among, lookup_in, member_began_early}
use Rattle.stream_laws.proofs.Words.{member_flags, member_has_begun, member_heard, nat_lt, not, or_left, part_takes}
use Rattle.stream_laws.proofs.Words.{partly, raw_entry, refl, said, subst, sym, true, tuned_weaker, where_heard}
use Rattle.stream_laws.proofs.Words.{whole_is_set, whole_of, ℕ, sent_ext}
use Rattle.stream_check.specs.declared.heard_table.Lookup.TheVariants as standings
use Rattle.stream_laws.proofs.Kept.{second_holds, member_room}
use Rattle.stream_laws.proofs.Sending.{IsSentItem}
use Rattle.stream_laws.proofs.Findings.{quiet_early, Each, Agrees, not_both}

-- ---- one list

pub in_full : (known : ℕ → Bool) (full : List Raw) (x : Raw) → In x (partly known full) → In x full
in_full known [] x h = absurd h
in_full known (y ∷ ys) x h = elim (known (identifier_of y))
    as (λ t. In x (cond t (y ∷ partly known ys) (partly known ys)) → In x (y ∷ ys)) [
      | true ↦ λ c. elim c [ inl same ↦ inl same | inr more ↦ inr (in_full known ys x more) ]
      | false ↦ λ c. inr (in_full known ys x c)
    ] h

found_in : (k : ℕ) (rs : List Raw) (x : Raw) → entry_at identifier_of k rs ≡ Some x → In x rs
found_in k [] x e = absurd cc
found_in k (y ∷ ys) x e = elim (identifier_of y == k) as (λ t. cond t (Some y) (entry_at identifier_of k ys) ≡ Some x
    → In x (y ∷ ys)) [
      | true ↦ λ f. (let same : y ≡ x = cc in inl same)
      | false ↦ λ f. inr (found_in k ys x f)
    ] e

-- two entries of an ascending list with the same identifier are equal
one_of : (full : List Raw) (x y : Raw) → IsAscending identifier_of full → In x full → In y full
    → identifier_of x ≡ identifier_of y → x ≡ y
one_of [] x y up a b e = absurd a
one_of (z ∷ zs) x y up (inl a) (inl b) e = sym a ∙ b
one_of (z ∷ zs) x y up (inl a) (inr b) e =
    let less = each_in (λ (r : Raw). identifier_of z < identifier_of r) zs y up.0 b in
    let same : identifier_of z ≡ identifier_of x = ap identifier_of a in
    absurd (omega (arith, less, same, e))
one_of (z ∷ zs) x y up (inr a) (inl b) e =
    let less = each_in (λ (r : Raw). identifier_of z < identifier_of r) zs x up.0 a in
    let same : identifier_of z ≡ identifier_of y = ap identifier_of b in
    absurd (omega (arith, less, same, e))
one_of (z ∷ zs) x y up (inr a) (inr b) e = one_of zs x y up.1 a b e

pub record IsFine (raw : Raw) (part : List Raw) : Type 0 where
  pub same : is_other_one (lookup raw part) ≡ false
  pub room : finds_no_room (lookup raw part) ≡ false

fine_by : (full : List Raw) (C : Raw → Type 0) (raw : Raw) (part : List Raw) → IsAscending identifier_of full
    → length full ≤ 64 → In raw full → IsPart full C part
    → (found : Option Raw) → entry_at identifier_of (identifier_of raw) part ≡ found
    → (is_other_one (lookup_among raw (length part) found) ≡ false)
    × (finds_no_room (lookup_among raw (length part) found) ≡ false)
fine_by full C raw part up few inside h None e =
    let room : has_room raw part ≡ true = (part_takes full C raw part up few inside h).room in
    let new : is_known raw part ≡ false = absent_found identifier_of (identifier_of raw) part e in
    let less : nat_lt (length part) 64 ≡ true = sym (ap (λ t. t || nat_lt (length part) 64) new) ∙ room in (
      ap (λ t. is_other_one (cond t standings.Absent standings.Full)) less,
      ap (λ t. finds_no_room (cond t standings.Absent standings.Full)) less,
    )
fine_by full C raw part up few inside h (Some k) e =
    let there : In k part = found_in (identifier_of raw) part k e in
    let whole : In k full = in_full h.known full k (subst (λ (ps : List Raw). In k ps) h.is there) in
    let same : k ≡ raw = one_of full k raw up whole inside (entry_key identifier_of (identifier_of raw) part k e) in
    let agrees : agree k raw ≡ true = ap (λ x. agree x raw) same ∙ agree_self raw in (
      ap (λ t. is_other_one (cond t standings.Same standings.Other)) agrees,
      ap (λ t. finds_no_room (cond t standings.Same standings.Other)) agrees,
    )

fine : (full : List Raw) (C : Raw → Type 0) (raw : Raw) (part : List Raw) → IsAscending identifier_of full
    → length full ≤ 64 → In raw full → IsPart full C part → IsFine raw part
fine full C raw part up few inside h =
    let both = fine_by full C raw part up few inside h (entry_at identifier_of (identifier_of raw) part) refl in
    record { same = both.0; room = both.1 }

-- ---- a picture

pub record IsFineIn (raw : Raw) (p : Pictured) : Type 0 where
  pub same : is_other_one (lookup_in raw p) ≡ false
  pub room : finds_no_room (lookup_in raw p) ≡ false

as_fine : (raw : Raw) (p : Pictured) (part : List Raw) → lookup_in raw p ≡ lookup raw part → IsFine raw part
    → IsFineIn raw p
as_fine raw p part e h = record { same = ap is_other_one e ∙ h.same; room = ap finds_no_room e ∙ h.room }

pub fine_in : (c : Configuration) (C : Raw → Type 0) (raw : Raw) (p : Pictured) → IsConfiguration c
    → IsOf raw (whole_of c) → IsPartial (whole_of c) C p → IsFineIn raw p
fine_in c C raw p is (inl (ext, inside)) h =
    let set = whole_is_set c is in
    as_fine raw p p.subs (ap (λ k. lookup raw (cond (k == 1) p.subs (cond (k == 2) p.services p.packets))) ext)
    (fine (whole_of c).subs C raw p.subs set.subs_ascend set.subs_few inside h.subs)
fine_in c C raw p is (inr (inl (ext, inside))) h =
    let set = whole_is_set c is in
    as_fine raw p p.services (ap (λ k. lookup raw (cond (k == 1) p.subs (cond (k == 2) p.services p.packets))) ext)
    (fine (whole_of c).services C raw p.services set.services_ascend set.services_few inside h.services)
fine_in c C raw p is (inr (inr (ext, inside))) h =
    let set = whole_is_set c is in
    as_fine raw p p.packets (ap (λ k. lookup raw (cond (k == 1) p.subs (cond (k == 2) p.services p.packets))) ext)
    (fine (whole_of c).packets C raw p.packets set.packets_ascend set.packets_few inside h.packets)

-- ---- within a frame

-- what is known after FIG 0/0, if it is sent, and some of the entries
pub record IsInside (plan : Plan) (u : State) (awaited : Option ℕ) (past : List Moment) : Type 0 where
  pub heard : Listening
  pub is : listening past ≡ Some heard
  pub knows : Tuned (is_noticed plan.notice u.left) u.current u.next Nothing Nothing awaited heard
  pub begun : has_ensemble past ≡ true → is_noticed plan.notice u.left ≡ true → has_begun past ≡ true
  pub pending : (low : ℕ) → awaited ≡ Some low → has_begun past ≡ true
  pub early : began_early past ≡ true → (awaited ≡ None) × (is_noticed plan.notice u.left ≡ true)
  pub flags : (low : ℕ) → awaited ≡ Some low → last_flags past ≡ bits_of (change_of u.current u.next)

record MemberFine (step period : ℕ) (plan : Plan) (u : State) (awaited : Option ℕ) (past : List Moment)
    (i : Item) : Type 0 where
  word : Agrees step period past i
  after : IsInside plan u awaited (Said i ∷ past)

pub one_heard : (o : Option Listening) (a : Listening) → where_heard o (hear_marked []) ≡ Some a → o ≡ Some a
one_heard None a e = e
one_heard (Some l) a e = e

pub none_or_some : (o : Option ℕ) → (o ≡ None) ⊎ ((low : ℕ) × (o ≡ Some low))
none_or_some None = inl refl
none_or_some (Some low) = inr (low, refl)

-- an entry is unchanged, and there is room for it
entry_fine : (step period : ℕ) (plan : Plan) (u : State) (awaited : Option ℕ) (past : List Moment) (i : Item)
    (in_is : IsInside plan u awaited past) (s : IsSentItem (is_noticed plan.notice u.left) u.current u.next i)
    → IsConfiguration u.current → IsConfiguration u.next → is_ensemble i ≡ false
    → IsSentOf (is_noticed plan.notice u.left) u.current u.next s.m → Agrees step period past i
entry_fine step period plan u awaited past i h s is_c is_n e (inl (flag, inside)) =
    let l : Listening = h.heard in
    let same : listener_after past ≡ l = after_is past l h.is in
    let next : i.next ≡ false = s.next ∙ flag in
    let of = subst (λ (x : Raw). IsOf x (whole_of u.current)) (sym s.raw) (entry_is_of u.current s.m.entry inside) in
    let fine = fine_in u.current Nothing i.raw l.current is_c of h.knows.current in
    let room = ap (λ (x : Listening). finds_no_room (lookup_in i.raw x.current)) same ∙ fine.room in
    record {
      room = member_room step period past i e (ap (λ (x : Listening). x.tuned) same ∙ h.knows.is_tuned) ∙ ap
          (λ b. finds_no_room (lookup_in i.raw (cond b (listener_after past).next (listener_after past).current))) next
          ∙ room;
      head = λ ens. not_both e ens;
      member = λ other. record {
        same = λ current. (ap (λ (x : Listening). is_other_one (lookup_in i.raw x.current)) same ∙ fine.same);
        flagged = λ is. not_both next is;
        next = λ is. not_both next is;
      };
    }
entry_fine step period plan u awaited past i h s is_c is_n e (inr (on, flag, inside)) =
    let l : Listening = h.heard in
    let same : listener_after past ≡ l = after_is past l h.is in
    let tuned : (listener_after past).tuned ≡ true = ap (λ (x : Listening). x.tuned) same ∙ h.knows.is_tuned in
    let next : i.next ≡ true = s.next ∙ flag in
    let of = subst (λ (x : Raw). IsOf x (whole_of u.next)) (sym s.raw) (entry_is_of u.next s.m.entry inside) in
    let part = subst (λ (b : Bool). NextBy b u.next Nothing l.next) on h.knows.next in
    let fine = fine_in u.next Nothing i.raw l.next is_n of part in
    let room = ap (λ (x : Listening). finds_no_room (lookup_in i.raw x.next)) same ∙ fine.room in
    let flagged = quiet_early (has_begun past) (has_ensemble past) (λ has. h.begun has on) in
    record {
      room = member_room step period past i e tuned ∙ ap
          (λ b. finds_no_room (lookup_in i.raw (cond b (listener_after past).next (listener_after past).current))) next
          ∙ room;
      head = λ ens. not_both e ens;
      member = λ other. record {
        same = λ current. not_both current next;
        flagged = λ is. flagged;
        next = λ is. (ap (λ (x : Listening). is_other_one (lookup_in i.raw x.next)) same ∙ fine.same);
      };
    }

sent_next : (on : Bool) (c n : Configuration) (m : Marked) → IsSentOf on c n m → m.next ≡ true → on ≡ true
sent_next on c n m (inl h) e = absurd (false≢true (sym h.0 ∙ e))
sent_next on c n m (inr h) e = h.0

early_after : (t b x y : Bool) → cond (t && not b) x y ≡ true → ((t ≡ true) × (b ≡ false)) ⊎ (y ≡ true)
early_after true false x y e = inl (refl, refl)
early_after _ _ x y e = inr e

member_fine : (step period : ℕ) (plan : Plan) (u : State) (awaited : Option ℕ) (past : List Moment) (i : Item)
    → IsInside plan u awaited past → IsSentItem (is_noticed plan.notice u.left) u.current u.next i
    → IsConfiguration u.current → IsConfiguration u.next → MemberFine step period plan u awaited past i
member_fine step period plan u awaited past i h s is_c is_n =
    let on : Bool = is_noticed plan.notice u.left in
    let e : is_ensemble i ≡ false = ap (λ (x : Raw). x.ext == 0) s.raw ∙ sent_ext on u.current u.next s.m s.sent in
    let l : Listening = h.heard in
    let hears = hears_entries on u.current u.next Nothing Nothing awaited (s.m ∷ []) l (whole_is_set u.current is_c)
    (whole_is_set u.next is_n) (s.sent, tt) h.knows in
    let heard = one_heard (hear_entry s.m.next (raw_entry s.m.entry) l) hears.after hears.is in
    record {
      word = entry_fine step period plan u awaited past i h s is_c is_n e s.sent;
      after = record {
        heard = hears.after;
        is = member_heard past i l h.is ∙ ap (λ b. hear_entry b i.raw l) s.next
            ∙ ap (λ x. hear_entry s.m.next x l) s.raw ∙ heard;
        knows = tuned_weaker on u.current u.next (Or Nothing (SaidIn false (s.m ∷ []))) Nothing
            (Or Nothing (SaidIn true (s.m ∷ []))) Nothing awaited hears.after (λ x no_entry. absurd no_entry)
            (λ x no_entry. absurd no_entry) hears.knows;
        begun = λ has is_on. member_has_begun past i e ∙ or_left (has_begun past) _ (h.begun (has_before has) is_on);
        pending = λ low is. member_has_begun past i e ∙ or_left (has_begun past) _ (h.pending low is);
        early = λ is. elim (early_after ((listener_after past).tuned && i.next) (has_begun past)
            (not (has_ensemble past)) (began_early past) (sym (member_began_early past i e) ∙ is)) [
              | inl now ↦ (
                not_awaited now.1,
                sent_next on u.current u.next s.m s.sent
                    (sym s.next ∙ second_holds (listener_after past).tuned i.next now.0),
              )
              | inr before ↦ h.early before
            ];
        flags = λ low is. sym (member_flags past i e) ∙ h.flags low is;
      };
    }
  where
    has_before : has_ensemble (Said i ∷ past) ≡ true → has_ensemble past ≡ true
    has_before has = sym (ap (λ t. t || has_ensemble past)
        (ap (λ (x : Raw). x.ext == 0) s.raw ∙ sent_ext (is_noticed plan.notice u.left) u.current u.next s.m s.sent))
        ∙ has

    not_awaited : has_begun past ≡ false → awaited ≡ None
    not_awaited none = elim (none_or_some awaited) [
      | inl is ↦ is
      | inr some ↦ absurd (false≢true (sym none ∙ h.pending some.0 some.1))
    ]

pub record MembersFine (step period : ℕ) (plan : Plan) (u : State) (awaited : Option ℕ) (past : List Moment)
    (items : List Item) : Type 0 where
  pub word : Each (Agrees step period) past items
  pub after : IsInside plan u awaited (said items past)

pub members_fine : (step period : ℕ) (plan : Plan) (u : State) (awaited : Option ℕ) (past : List Moment)
    (items : List Item) → IsInside plan u awaited past
    → AllByRecursion (IsSentItem (is_noticed plan.notice u.left) u.current u.next) items → IsConfiguration u.current
    → IsConfiguration u.next → MembersFine step period plan u awaited past items
members_fine step period plan u awaited past [] h all is_c is_n = record { word = tt; after = h }
members_fine step period plan u awaited past (i ∷ is) h all is_c is_n =
    let one = member_fine step period plan u awaited past i h all.0 is_c is_n in
    let rest = members_fine step period plan u awaited (Said i ∷ past) is one.after all.1 is_c is_n in
    record { word = (one.word, rest.word); after = rest.after }
