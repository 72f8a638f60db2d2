-- The frames of a notice, with one more entry and with one more frame.
use Rattle.stream_check.proofs.Words.{[], ◌&&◌, ◌++◌, ◌+◌, ◌<◌, ◌↔◌, ◌∙◌, ◌∷◌, ◌≡◌, ◌≢◌, ◌≤◌, ◌⊎◌, AllByRecursion, Bool}
use Rattle.stream_check.proofs.Words.{Contains, Contains-append_cases, Contains-append_left, Contains-append_right}
use Rattle.stream_check.proofs.Words.{Each, HasAll, HasKinds, HasNotice, Heard, HeardPicture, IsStamped, List}
use Rattle.stream_check.proofs.Words.{ap, append-nil, append_assoc, arith, cases_lt, concat, drop, drop-append-le}
use Rattle.stream_check.proofs.Words.{drop_all, each_weaker, empty_picture, false, false≢true, finds_no_room}
use Rattle.stream_check.proofs.Words.{heard_since, inl, inr, is_absent, key_of, keys, keys_of, length, length-append}
use Rattle.stream_check.proofs.Words.{list_all, lookup_in, lt-ltb, nat_lt, picture_kept, picture_of_heard, refl, subst}
use Rattle.stream_check.proofs.Words.{sym, take, take-append-drop, take-append-le, take_all, true, ℕ}
use Rattle.std.proofs.lemmas.Bool.Decides.{Decides-ltb}
use Rattle.stream_check.proofs.Rows.{concat-more}
use Rattle.stream_check.proofs.Greedily.{greedy_closes, greedy_stays, new_begins_anew}
use Rattle.stream_check.proofs.PartCount.{here, there, one_of, in_none, greedy_at_first}
use Rattle.stream_check.proofs.Keys.{picture_each, known_keys, new_keys}

-- ---- one more entry

joins : (heard frame : List ℕ) (id x : ℕ) → x ≢ id → Contains (heard ++ frame) x
    ↔ Contains (heard ++ (frame ++ id ∷ [])) x
joins heard frame id x other = (
  λ h. subst (λ (l : List ℕ). Contains l x) (append_assoc heard frame (id ∷ []))
      (Contains-append_left (heard ++ frame) (id ∷ []) x h),
  λ h. elim (Contains-append_cases (heard ++ frame) (id ∷ []) x
      (subst (λ (l : List ℕ). Contains l x) (sym (append_assoc heard frame (id ∷ []))) h)) [
        | inl before ↦ before
        | inr last ↦ absurd (other (one_of id x last))
      ],
)

joined : (heard frame : List ℕ) (id : ℕ) → Contains (heard ++ (frame ++ id ∷ [])) id
joined heard frame id = Contains-append_right heard (frame ++ id ∷ []) id
    (Contains-append_right frame (id ∷ []) id (here id []))

stamp_new : (frames : List (List ℕ)) (frame : List ℕ) (h : Heard) → h.at ≡ length frames + 1
    → IsStamped frames (frame ++ key_of h.raw ∷ []) h
stamp_new frames frame h at = (
  omega (arith, at),
  λ s le.
      (λ c. omega (arith, at, le), λ b. joined (concat (drop s frames)) frame (key_of h.raw)),
)

stamp_other : (frames : List (List ℕ)) (frame : List ℕ) (id : ℕ) (x : Heard) → key_of x.raw ≢ id
    → IsStamped frames frame x → IsStamped frames (frame ++ id ∷ []) x
stamp_other frames frame id x other h = (
  h.0,
  λ s le.
      let both = joins (concat (drop s frames)) frame id (key_of x.raw) other in
      (λ c. (h.1 s le).0 (both.1 c), λ b. both.0 ((h.1 s le).1 b)),
)

-- an identifier was heard before, or is the new one
heard_or_new : (frames : List (List ℕ)) (frame : List ℕ) (id x : ℕ) → Contains (concat frames ++ (frame ++ id ∷ [])) x
    → Contains (concat frames ++ frame) x ⊎ (x ≡ id)
heard_or_new frames frame id x c =
    elim (Contains-append_cases (concat frames ++ frame) (id ∷ []) x
    (subst (λ (l : List ℕ). Contains l x) (sym (append_assoc (concat frames) frame (id ∷ []))) c)) [
      | inl before ↦ inl before
      | inr last ↦ inr (one_of id x last)
    ]

pub notice_known : (frames : List (List ℕ)) (frame : List ℕ) (count since parts : ℕ) (next : HeardPicture)
    (begun : Bool) (h : Heard) → 0 < h.raw.ext → h.raw.ext < 4 → HasKinds next
    → finds_no_room (lookup_in h.raw (picture_of_heard next)) ≡ false
    → is_absent (lookup_in h.raw (picture_of_heard next)) ≡ false → h.at ≡ count + 1
    → Contains (keys_of next) (key_of h.raw) → HasNotice frames frame count since parts next begun
    → HasNotice frames (frame ++ key_of h.raw ∷ []) count since parts (picture_kept h next) true
notice_known frames frame count since parts next begun h some few kinds room known at has n =
    let same = known_keys h next some few kinds room known in
    let now : h.at ≡ length frames + 1 = omega (arith, at, n.count_is) in
    record {
      count_is = n.count_is;
      part = n.part;
      stamps = picture_each _ _ h next some few kinds (stamp_new _ frame h now)
          (λ x other s. stamp_other _ frame _ x other s) n.stamps;
      only = λ x c. subst (λ (l : List ℕ). Contains l x) (sym same)
          (elim (heard_or_new frames frame _ x c) [ inl before ↦ n.only x before | inr is ↦ rw (is) has ]);
      greedy = rw (same) n.greedy;
      idle = λ e. absurd (false≢true (sym e));
    }

pub notice_new : (frames : List (List ℕ)) (frame : List ℕ) (count since parts : ℕ) (next : HeardPicture) (begun : Bool)
    (h : Heard) → 0 < h.raw.ext → h.raw.ext < 4 → HasKinds next
    → finds_no_room (lookup_in h.raw (picture_of_heard next)) ≡ false
    → is_absent (lookup_in h.raw (picture_of_heard next)) ≡ true → h.at ≡ count + 1
    → HasNotice frames frame count since parts next begun
    → HasNotice frames (frame ++ key_of h.raw ∷ []) count 0 0 (picture_kept h next) true
notice_new frames frame count since parts next begun h some few kinds room new at n =
    let j = new_keys h next some few kinds room new in
    let now : h.at ≡ length frames + 1 = omega (arith, at, n.count_is) in
    let unheard : Contains (concat frames) (key_of h.raw) → ⊥ =
    λ c. j.new (n.only (key_of h.raw) (Contains-append_left (concat frames) frame (key_of h.raw) c)) in
    record {
      count_is = n.count_is;
      part = omega arith;
      stamps = picture_each _ _ h next some few kinds (stamp_new _ frame h now)
          (λ x other s. stamp_other _ frame _ x other s) n.stamps;
      only = λ x c. elim (heard_or_new frames frame (key_of h.raw) x c) [
        | inl before ↦ j.keeps x (n.only x before)
        | inr is ↦ rw (is) j.has
      ];
      greedy = new_begins_anew (keys_of (picture_kept h next)) (key_of h.raw) frames j.has unheard;
      idle = λ e. absurd (false≢true (sym e));
    }

-- ---- the end of a frame

pub wanted_more : (frames : List (List ℕ)) (frame : List ℕ) → concat frames ++ frame ≡ concat (frames ++ frame ∷ [])
    ++ []
wanted_more frames frame = sym (concat-more frames frame) ∙ sym (append-nil (concat (frames ++ frame ∷ [])))

stamp_after : (frames : List (List ℕ)) (frame : List ℕ) (x : Heard) → IsStamped frames frame x
    → IsStamped (frames ++ frame ∷ []) [] x
stamp_after frames frame x h =
    let one : length (frame ∷ []) ≡ 1 = refl in (
      omega (arith, h.0, length-append frames (frame ∷ []), one),
      λ s le. elim (cases_lt (length frames) s) [
        | inl far ↦
            let past : length (frames ++ frame ∷ []) ≤ s = omega (arith, length-append frames (frame ∷ []), far, one) in
            let empty : concat (drop s (frames ++ frame ∷ [])) ++ [] ≡ [] =
            ap (λ r. concat r ++ []) (drop_all s (frames ++ frame ∷ []) past) in (
              λ c. absurd (in_none (key_of x.raw) (subst (λ (l : List ℕ). Contains l (key_of x.raw)) empty c)),
              λ b. absurd (omega (arith, b, h.0, far)),
            )
        | inr near ↦
            let row : concat (drop s frames) ++ frame ≡ concat (drop s (frames ++ frame ∷ [])) ++ [] =
            wanted_more (drop s frames) frame ∙ ap (λ r. concat r ++ [])
            (sym (drop-append-le s frames (frame ∷ []) near)) in (
              λ c. (h.1 s near).0 (rw (row) c),
              λ b. subst (λ (l : List ℕ). Contains l (key_of x.raw)) row ((h.1 s near).1 b),
            )
      ],
    )

both_true : (a b : Bool) → (a && b) ≡ true → (a ≡ true) × (b ≡ true)
both_true true b e = (refl, e)
both_true false b e = absurd (false≢true e)

true_both : (a b : Bool) → a ≡ true → b ≡ true → (a && b) ≡ true
true_both true b e f = f
true_both false b e f = absurd (false≢true e)

all_later : (since : ℕ) (hs : List Heard) → list_all (λ h. nat_lt since h.at) hs ≡ true
    → AllByRecursion (λ h. since < h.at) hs
all_later since [] e = tt
all_later since (h ∷ hs) e = let both = both_true (nat_lt since h.at) (list_all (λ x. nat_lt since x.at) hs) e in
    ((Decides-ltb since h.at).0 both.0, all_later since hs both.1)

later_all : (since : ℕ) (hs : List Heard) → AllByRecursion (λ h. since < h.at) hs
    → list_all (λ h. nat_lt since h.at) hs ≡ true
later_all since [] e = refl
later_all since (h ∷ hs) e = true_both _ _ (lt-ltb since h.at e.0) (later_all since hs e.1)

each_later : (since : ℕ) (p : HeardPicture) → heard_since since p ≡ true → Each (λ h. since < h.at) p
each_later since p e =
    let one = both_true (list_all (λ h. nat_lt since h.at) p.subs)
    (list_all (λ h. nat_lt since h.at) p.services && list_all (λ h. nat_lt since h.at) p.packets) e in
    let two = both_true (list_all (λ h. nat_lt since h.at) p.services) (list_all (λ h. nat_lt since h.at) p.packets)
    one.1 in
    (all_later since p.subs one.0, (all_later since p.services two.0, all_later since p.packets two.1))

later_each : (since : ℕ) (p : HeardPicture) → Each (λ h. since < h.at) p → heard_since since p ≡ true
later_each since p e = true_both _ _ (later_all _ _ e.0) (true_both _ _ (later_all _ _ e.1.0) (later_all _ _ e.1.1))

-- a property of the identifiers
by_keys : (Q : ℕ → Type 0) (hs : List Heard) → AllByRecursion (λ h. Q (key_of h.raw)) hs → (x : ℕ)
    → Contains (keys hs) x → Q x
by_keys Q [] all x c = absurd (in_none x c)
by_keys Q (h ∷ hs) all x c = elim (Contains-append_cases (key_of h.raw ∷ []) (keys hs) x c) [
  | inl first ↦ subst Q (sym (one_of (key_of h.raw) x first)) all.0
  | inr rest ↦ by_keys Q hs all.1 x rest
]

to_keys : (Q : ℕ → Type 0) (hs : List Heard) → ((x : ℕ) → Contains (keys hs) x → Q x)
    → AllByRecursion (λ h. Q (key_of h.raw)) hs
to_keys Q [] f = tt
to_keys Q (h ∷ hs) f = (
  f (key_of h.raw) (here (key_of h.raw) (keys hs)),
  to_keys Q hs (λ x c. f x (there (key_of h.raw) x (keys hs) c)),
)

picture_by_keys : (Q : ℕ → Type 0) (p : HeardPicture) → Each (λ h. Q (key_of h.raw)) p → (x : ℕ)
    → Contains (keys_of p) x → Q x
picture_by_keys Q p all x c = elim (Contains-append_cases (keys p.subs) (keys p.services ++ keys p.packets) x c) [
  | inl one ↦ by_keys Q p.subs all.0 x one
  | inr rest ↦ elim (Contains-append_cases (keys p.services) (keys p.packets) x rest)
      [ inl two ↦ by_keys Q p.services all.1.0 x two | inr three ↦ by_keys Q p.packets all.1.1 x three ]
]

picture_to_keys : (Q : ℕ → Type 0) (p : HeardPicture) → ((x : ℕ) → Contains (keys_of p) x → Q x)
    → Each (λ h. Q (key_of h.raw)) p
picture_to_keys Q p f = (
  to_keys Q p.subs (λ x c. f x (Contains-append_left (keys p.subs) (keys p.services ++ keys p.packets) x c)),
  (
    to_keys Q p.services (λ x c.
        f x (Contains-append_right (keys p.subs) (keys p.services ++ keys p.packets) x
        (Contains-append_left (keys p.services) (keys p.packets) x c))),
    to_keys Q p.packets (λ x c.
        f x (Contains-append_right (keys p.subs) (keys p.services ++ keys p.packets) x
        (Contains-append_right (keys p.services) (keys p.packets) x c))),
  ),
)

each_both : (P Q R : Heard → Type 0) (p : HeardPicture) → ((x : Heard) → P x → Q x → R x) → Each P p → Each Q p
    → Each R p
each_both P Q R p f a b = (all_both p.subs a.0 b.0, (all_both p.services a.1.0 b.1.0, all_both p.packets a.1.1 b.1.1))
  where
    all_both : (hs : List Heard) → AllByRecursion P hs → AllByRecursion Q hs → AllByRecursion R hs
    all_both [] a b = tt
    all_both (h ∷ hs) a b = (f h a.0 b.0, all_both hs a.1 b.1)

pub each_in : (P Q : Heard → Type 0) (p : HeardPicture) → ((x : Heard) → P x → Q x) → Each P p → Each Q p
each_in P Q p f a = (
  each_weaker P Q f p.subs a.0,
  (each_weaker P Q f p.services a.1.0, each_weaker P Q f p.packets a.1.1),
)

-- all entries were heard after a frame exactly where the frames after it contain all of them
whole_has_all : (frames : List (List ℕ)) (frame : List ℕ) (count since parts : ℕ) (next : HeardPicture) (begun : Bool)
    → HasNotice frames frame count since parts next begun → heard_since since next ≡ true
    → HasAll (keys_of next) (drop since frames ++ frame ∷ [])
whole_has_all frames frame count since parts next begun n whole x want =
    let each = each_both (λ h. since < h.at) (IsStamped frames frame)
    (λ h. Contains (concat (drop since frames) ++ frame) (key_of h.raw)) next (λ h lt s. (s.1 since n.part).1 lt)
    (each_later since next whole) n.stamps in
    rw (concat-more _ _) (picture_by_keys (λ k. Contains (concat (drop since frames) ++ frame) k) _ each _ want)

has_all_whole : (frames : List (List ℕ)) (frame : List ℕ) (count since parts : ℕ) (next : HeardPicture) (begun : Bool)
    → HasNotice frames frame count since parts next begun
    → HasAll (keys_of next) (drop since frames ++ frame ∷ []) → heard_since since next ≡ true
has_all_whole frames frame count since parts next begun n all =
    let each = picture_to_keys (λ k. Contains (concat (drop since frames) ++ frame) k) next
    (λ x c. subst (λ (l : List ℕ). Contains l x) (concat-more (drop since frames) frame) (all x c)) in
    later_each since next (each_both (λ h. Contains (concat (drop since frames) ++ frame) (key_of h.raw))
    (IsStamped frames frame) (λ h. since < h.at) next (λ h c s. (s.1 since n.part).0 c) each n.stamps)

only_after : (frames : List (List ℕ)) (frame : List ℕ) (next : HeardPicture)
    → ((x : ℕ) → Contains (concat frames ++ frame) x → Contains (keys_of next) x)
    → (x : ℕ) → Contains (concat (frames ++ frame ∷ []) ++ []) x → Contains (keys_of next) x
only_after frames frame next only x c = only x (rw (wanted_more frames frame) c)

count_after : (frames : List (List ℕ)) (frame : List ℕ) (count : ℕ) → count ≡ length frames
    → count + 1 ≡ length (frames ++ frame ∷ [])
count_after frames frame count e = let longer = length-append frames (frame ∷ []) in let one : length (frame ∷ []) ≡ 1 =
    refl in omega (arith, longer, one, e)

pub notice_closed : (frames : List (List ℕ)) (frame : List ℕ) (count since parts : ℕ) (next : HeardPicture)
    → heard_since since next ≡ true
    → HasNotice frames frame count since parts next true
    → HasNotice (frames ++ frame ∷ []) [] (count + 1) (count + 1) (parts + 1) next true
notice_closed frames frame count since parts next whole n =
    let now = count_after frames frame count n.count_is in
    let all : length (frames ++ frame ∷ []) ≤ count + 1 = omega (arith, now) in
    let closed = greedy_closes (keys_of next) parts (take since frames) (drop since frames) frame n.greedy
    (whole_has_all frames frame count since parts next true n whole) in
    let is : take since frames ++ (drop since frames ++ frame ∷ []) ≡ take (count + 1) (frames ++ frame ∷ []) =
    sym (append_assoc (take since frames) (drop since frames) (frame ∷ []))
    ∙ ap (λ r. r ++ frame ∷ []) (take-append-drop since frames)
    ∙ sym (take_all (count + 1) (frames ++ frame ∷ []) all) in
    record {
      count_is = now;
      part = omega (arith, now);
      stamps = each_in _ _ next (λ x s. stamp_after _ frame x s) n.stamps;
      only = only_after frames frame next n.only;
      greedy = rw (drop_all (count + 1) (frames ++ frame ∷ []) all) (rw (← is) closed);
      idle = λ e. absurd (false≢true (sym e));
    }

pub notice_open : (frames : List (List ℕ)) (frame : List ℕ) (count since parts : ℕ) (next : HeardPicture)
    → heard_since since next ≡ false
    → HasNotice frames frame count since parts next true
    → HasNotice (frames ++ frame ∷ []) [] (count + 1) since parts next true
notice_open frames frame count since parts next short n =
    let now = count_after frames frame count n.count_is in
    let stays = greedy_stays (keys_of next) parts (take since frames) (drop since frames) frame n.greedy
    (λ all. false≢true (sym short ∙ has_all_whole frames frame count since parts next true n all)) in
    record {
      count_is = now;
      part = omega (arith, now, n.part, n.count_is);
      stamps = each_in _ _ next (λ x s. stamp_after _ frame x s) n.stamps;
      only = only_after frames frame next n.only;
      greedy =
          rw (drop-append-le since frames (frame ∷ []) n.part)
          (rw (take-append-le since frames (frame ∷ []) n.part) stays);
      idle = λ e. absurd (false≢true (sym e));
    }

-- ---- before it begins

pub notice_none : (begun : Bool) → HasNotice [] [] 0 0 0 empty_picture begun
notice_none begun = record {
  count_is = refl;
  part = omega arith;
  stamps = (tt, (tt, tt));
  only = λ x c. c;
  greedy = greedy_at_first [];
  idle = λ e. (refl, refl);
}

pub notice_begins : (frames : List (List ℕ)) (frame : List ℕ) (count since parts : ℕ) (next : HeardPicture)
    (begun : Bool) → HasNotice frames frame count since parts next begun
    → HasNotice frames frame count since parts next true
notice_begins frames frame count since parts next begun n = record {
  count_is = n.count_is;
  part = n.part;
  stamps = n.stamps;
  only = n.only;
  greedy = n.greedy;
  idle = λ e. absurd (false≢true (sym e));
}
