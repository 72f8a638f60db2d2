-- What becomes of the FIGs that are taken.
use Rattle.fig_merge.proofs.Words.{[], ◌++◌, ◌+◌, ◌-◌, ◌<◌, ◌^◌, ◌||◌, ◌∙◌, ◌∷◌, ◌≡◌, ◌≤◌, ◌⊎◌, AllAreAccounted}
use Rattle.fig_merge.proofs.Words.{AllByRecursion, AreDifferent, Bool, Fib, Fill, Go, List, Merging, None, Reading}
use Rattle.fig_merge.proofs.Words.{Some, Step, Take, TheLongestWaitingGoes, after_fill, after_step, after_steps}
use Rattle.fig_merge.proofs.Words.{after_take, agrees_with, all_carried, all_dropped, all_repeated, all_stale}
use Rattle.fig_merge.proofs.Words.{all_taken, ap, append-nil, append_assoc, arith, carried_at, carried_by, carried_in}
use Rattle.fig_merge.proofs.Words.{carried_of, cases_lt, cond, cond-false, cond-true, dropped_of, false, inl, inr}
use Rattle.fig_merge.proofs.Words.{le-ltb, leb, leb-false, leb-true, left_waiting, length, length-append, limited}
use Rattle.fig_merge.proofs.Words.{lt-ltb, ltb, ltb-true, most, nothing_taken, refl, repeated_of, room_after, room_of}
use Rattle.fig_merge.proofs.Words.{stale_at, stale_by, stale_in, stale_of, subst, subst₂, sym, taken_at, taken_in}
use Rattle.fig_merge.proofs.Words.{taken_of, times, true, turns_at, turns_by, turns_in, waits, with_fig, with_figs, ℕ}
use Rattle.std.proofs.lemmas.Slice.Eq.{bytes_eq-Decides}
use Rattle.std.specs.Str.{bytes_eq}
use Rattle.fig_merge.proofs.Passing.{few_left}

-- ---- a measure of lists: how long they are, or how often they have some bytes
record IsMeasure (size : List (List ℕ) → ℕ) : Type 0 where
  none : size [] ≡ 0
  more : (fig : List ℕ) (figs : List (List ℕ)) → size (fig ∷ figs) ≡ size (fig ∷ []) + size figs

both : (size : List (List ℕ) → ℕ) → IsMeasure size → (xs ys : List (List ℕ)) → size (xs ++ ys) ≡ size xs + size ys
both size is [] ys = omega (arith, is.none)
both size is (x ∷ xs) ys = omega (arith, is.more x (xs ++ ys), is.more x xs, both size is xs ys)

lengths : IsMeasure length
lengths = record { none = refl; more = λ fig figs. omega arith }

how_often : (fig : List ℕ) → IsMeasure (times fig)
how_often fig = record { none = refl; more = λ x xs. omega arith }

-- ---- a FIG that is taken
fate_by : (size : List (List ℕ) → ℕ) → IsMeasure size → (there room : Bool) (fig : List ℕ) (m one other : Merging)
    → one.waiting ≡ m.waiting ++ fig ∷ [] → other.waiting ≡ m.waiting
    → size (fig ∷ []) + size m.waiting
    ≡ size (cond there m (cond room one other)).waiting + size (cond there (fig ∷ []) [])
    + size (cond there [] (cond room [] (fig ∷ [])))
fate_by size is true room fig m one other e f = omega (arith, is.none)
fate_by size is false true fig m one other e f =
    omega (arith, is.none, ap size e ∙ both size is m.waiting (fig ∷ []))
fate_by size is false false fig m one other e f =
    omega (arith, is.none, ap size f)

fate : (size : List (List ℕ) → ℕ) → IsMeasure size → (fig : List ℕ) (m : Merging)
    → size (fig ∷ []) + size m.waiting
    ≡ size (with_fig fig m).waiting + size (cond (waits fig m.waiting) (fig ∷ []) [])
    + size (cond (waits fig m.waiting) [] (cond (ltb (length m.waiting) most) [] (fig ∷ [])))
fate size is fig m = fate_by _ is _ _ _ _ _ _ refl refl

fates : (size : List (List ℕ) → ℕ) → IsMeasure size → (figs : List (List ℕ)) (m : Merging)
    → size figs + size m.waiting ≡ size (with_figs figs m).waiting + size (repeated_of figs m)
    + size (dropped_of figs m)
fates size is [] m = omega (arith, is.none)
fates size is (fig ∷ figs) m =
    let gone : List (List ℕ) = cond (waits fig m.waiting) [] (cond (ltb (length m.waiting) most) [] (fig ∷ [])) in
    let later = with_fig fig m in
    omega (
      arith,
      is.more fig figs,
      fate size is fig m,
      fates size is figs later,
      both size is (cond (waits fig m.waiting) (fig ∷ []) []) (repeated_of figs later),
      both size is gone (dropped_of figs later),
    )

-- ---- FIGs that are carried, or wait on
parts_by : (size : List (List ℕ) → ℕ) → IsMeasure size
    → (fits : Bool) (fig : List ℕ) (figs there left gone on : List (List ℕ)) → size there + size left ≡ size figs
    → size gone + size on ≡ size figs
    → size (cond fits (fig ∷ there) gone) + size (cond fits left (fig ∷ on)) ≡ size (fig ∷ figs)
parts_by size is true fig figs there left gone on e f = omega (arith, is.more fig figs, is.more fig there, e)
parts_by size is false fig figs there left gone on e f = omega (arith, is.more fig figs, is.more fig on, f)

parts : (size : List (List ℕ) → ℕ) → IsMeasure size → (ok : List ℕ → Bool) (room : ℕ) (waiting : List (List ℕ))
    → size (turns_in ok room waiting) + size (left_waiting ok room waiting) ≡ size waiting
parts size is ok room [] = omega (arith, is.none)
parts size is ok room (fig ∷ figs) =
    parts_by _ is _ _ _ _ _ _ _ (parts size is ok (room_after ok room fig) figs) (parts size is ok room figs)

-- those whose turn comes are carried, or stale
judged_by : (size : List (List ℕ) → ℕ) → IsMeasure size
    → (agrees : Bool) (fig : List ℕ) (figs carried stale : List (List ℕ)) → size carried + size stale ≡ size figs
    → size (cond agrees (fig ∷ carried) carried) + size (cond agrees stale (fig ∷ stale)) ≡ size (fig ∷ figs)
judged_by size is true fig figs carried stale e = omega (arith, is.more fig figs, is.more fig carried, e)
judged_by size is false fig figs carried stale e = omega (arith, is.more fig figs, is.more fig stale, e)

judged : (size : List (List ℕ) → ℕ) → IsMeasure size → (ok : List ℕ → Bool) (turns : List (List ℕ))
    → size (carried_of ok turns) + size (stale_of ok turns) ≡ size turns
judged size is ok [] = omega (arith, is.none)
judged size is ok (fig ∷ figs) =
    judged_by size is (ok fig) fig figs (carried_of ok figs) (stale_of ok figs) (judged size is ok figs)

fib_judged : (size : List (List ℕ) → ℕ) → IsMeasure size → (fib : Fib) (m : Merging)
    → size (turns_by fib m) ≡ size (carried_by fib m) + size (stale_by fib m)
fib_judged size is None m = omega (arith, is.none)
fib_judged size is (Some figs) m =
    omega (
      arith,
      judged size is (agrees_with figs m.heard)
          (turns_in (agrees_with figs m.heard) (room_of figs) m.waiting),
    )

step_judged : (size : List (List ℕ) → ℕ) → IsMeasure size → (r : Reading) (s : Step) (m : Merging)
    → size (turns_at r s m) ≡ size (carried_at r s m) + size (stale_at r s m)
step_judged size is r (Take fib) m = omega (arith, is.none)
step_judged size is r (Fill fib) m = fib_judged size is (r.read fib) m

-- ---- a call
taken_fate : (size : List (List ℕ) → ℕ) → IsMeasure size → (fib : Fib) (m : Merging)
    → size (taken_in fib) + size m.waiting ≡ size (after_take fib m).waiting + size (repeated_of (taken_in fib) m)
    + size (dropped_of (taken_in fib) m)
taken_fate size is None m = omega (arith, is.none)
taken_fate size is (Some figs) m = fates size is (taken_of figs) m

filled_fate : (size : List (List ℕ) → ℕ) → IsMeasure size → (fib : Fib) (m : Merging)
    → size m.waiting ≡ size (turns_by fib m) + size (after_fill fib m).waiting
filled_fate size is None m = omega (arith, is.none)
filled_fate size is (Some figs) m = omega (arith, parts size is (agrees_with figs m.heard) (room_of figs) m.waiting)

step_fate : (size : List (List ℕ) → ℕ) → IsMeasure size → (r : Reading) (s : Step) (m : Merging)
    → size (taken_at r s) + size m.waiting
    ≡ size (turns_at r s m) + size (after_step r s m).waiting + size (repeated_of (taken_at r s) m)
    + size (dropped_of (taken_at r s) m)
step_fate size is r (Take fib) m = omega (arith, is.none, taken_fate size is (r.read fib) m)
step_fate size is r (Fill fib) m = omega (arith, is.none, filled_fate size is (r.read fib) m)

steps_fate : (size : List (List ℕ) → ℕ) → IsMeasure size → (r : Reading) (steps : List Step) (m : Merging)
    → size (all_taken r steps) + size m.waiting
    ≡ size (all_carried r steps m) + size (after_steps r steps m).waiting + size (all_repeated r steps m)
    + size (all_dropped r steps m) + size (all_stale r steps m)
steps_fate size is r [] m = omega (arith, is.none)
steps_fate size is r (s ∷ ss) m =
    let later = after_step r s m in
    omega (
      arith,
      step_fate size is r s m,
      step_judged size is r s m,
      steps_fate size is r ss later,
      both size is (taken_at r s) (all_taken r ss),
      both size is (carried_at r s m) (all_carried r ss later),
      both size is (stale_at r s m) (all_stale r ss later),
      both size is (repeated_of (taken_at r s) m) (all_repeated r ss later),
      both size is (dropped_of (taken_at r s) m) (all_dropped r ss later),
    )

-- ---- counts, which end at a limit
abbrev limit_of : ℕ → ℕ → ℕ
limit_of top n = cond (ltb n top) n (top - 1)

below_limit : (top n : ℕ) → n < top → limit_of top n ≡ n
below_limit top n lt = cond-true (ltb n top) n (top - 1) (lt-ltb n top lt)

at_limit : (top n : ℕ) → top ≤ n → limit_of top n ≡ top - 1
at_limit top n le = cond-false (ltb n top) n (top - 1) (le-ltb n top le)

limit_more : (top n more : ℕ) → 0 < top → limit_of top (limit_of top n + more) ≡ limit_of top (n + more)
limit_more top n more some = elim (cases_lt n top) [
  | inl lt ↦ rw (below_limit top n lt) refl
  | inr ge ↦ rw (at_limit top n ge) (at_end (cases_lt (top - 1 + more) top) ge)
]
  where
    at_end : (top - 1 + more < top) ⊎ (top ≤ top - 1 + more) → top ≤ n
        → limit_of top (top - 1 + more) ≡ limit_of top (n + more)
    at_end (inl lt) ge = below_limit top (top - 1 + more) lt
        ∙ (let e : top - 1 + more ≡ top - 1 = omega (arith, lt, some) in e)
        ∙ sym (at_limit top (n + more) (omega (arith, ge)))
    at_end (inr le) ge = at_limit top (top - 1 + more) le ∙ sym (at_limit top (n + more) (omega (arith, ge)))

more_limited : (n more : ℕ) → limited (limited n + more) ≡ limited (n + more)
more_limited n more = limit_more (2 ^ 64) n more (omega arith)

-- ---- no two are equal
same_both : (a b : List ℕ) → bytes_eq a b ≡ true → bytes_eq b a ≡ true
same_both a b e = (bytes_eq-Decides b a).1 (sym ((bytes_eq-Decides a b).0 e))

other_by : (b c : Bool) → (c ≡ true → b ≡ true) → b ≡ false → c ≡ false
other_by b true h e = absurd (let t = h refl in cc)
other_by b false h e = refl

others : (a b : List ℕ) → bytes_eq a b ≡ false → bytes_eq b a ≡ false
others a b e = other_by (bytes_eq a b) (bytes_eq b a) (same_both b a) e

or_none : (a b : Bool) → (a || b) ≡ false → (a ≡ false) × (b ≡ false)
or_none true b e = absurd cc
or_none false b e = (refl, e)

or_both : (a b : Bool) → a ≡ false → b ≡ false → (a || b) ≡ false
or_both true b e f = absurd cc
or_both false b e f = f

waits_last : (x fig : List ℕ) (figs : List (List ℕ)) → waits x figs ≡ false → bytes_eq x fig ≡ false
    → waits x (figs ++ fig ∷ []) ≡ false
waits_last x fig [] h e = or_both (bytes_eq x fig) false e refl
waits_last x fig (y ∷ ys) h e =
    let parts = or_none (bytes_eq x y) (waits x ys) h in
    or_both (bytes_eq x y) (waits x (ys ++ fig ∷ [])) parts.0 (waits_last x fig ys parts.1 e)

different_last : (fig : List ℕ) (figs : List (List ℕ)) → waits fig figs ≡ false → AreDifferent figs
    → AreDifferent (figs ++ fig ∷ [])
different_last fig [] h d = (refl, tt)
different_last fig (x ∷ xs) h d =
    let parts = or_none (bytes_eq fig x) (waits fig xs) h in
    (waits_last x fig xs d.0 (others fig x parts.0), different_last fig xs parts.1 d.1)

none_left_by : (fits : Bool) (x fig : List ℕ) (there on : List (List ℕ)) → bytes_eq x fig ≡ false
    → waits x there ≡ false → waits x on ≡ false → waits x (cond fits there (fig ∷ on)) ≡ false
none_left_by true x fig there on e f g = f
none_left_by false x fig there on e f g = or_both (bytes_eq x fig) (waits x on) e g

none_left : (x : List ℕ) (ok : List ℕ → Bool) (room : ℕ) (waiting : List (List ℕ)) → waits x waiting ≡ false
    → waits x (left_waiting ok room waiting) ≡ false
none_left x ok room [] h = refl
none_left x ok room (fig ∷ figs) h =
    let parts = or_none (bytes_eq x fig) (waits x figs) h in
    none_left_by _ x fig _ _ parts.0 (none_left x ok (room_after ok room fig) figs parts.1)
    (none_left x ok room figs parts.1)

different_by : (fits : Bool) (fig : List ℕ) (there on : List (List ℕ)) → AreDifferent there → waits fig on ≡ false
    → AreDifferent on → AreDifferent (cond fits there (fig ∷ on))
different_by true fig there on d e f = d
different_by false fig there on d e f = (e, f)

different_left : (ok : List ℕ → Bool) (room : ℕ) (waiting : List (List ℕ)) → AreDifferent waiting
    → AreDifferent (left_waiting ok room waiting)
different_left ok room [] d = tt
different_left ok room (fig ∷ figs) d =
    different_by (leb (length fig) room) fig (left_waiting ok (room_after ok room fig) figs) (left_waiting ok room figs)
    (different_left ok (room_after ok room fig) figs d.1) (none_left fig ok room figs d.0)
    (different_left ok room figs d.1)

-- ---- what holds after each call
record IsKept (m : Merging) (carried dropped stale : ℕ) : Type 0 where
  carried_is : m.carried ≡ limited carried
  dropped_is : m.dropped ≡ limited dropped
  stale_is : m.stale ≡ limited stale
  different : AreDifferent m.waiting
  few : length m.waiting ≤ most

kept_by : (there room : Bool) (fig : List ℕ) (m : Merging) (c d e : ℕ) → waits fig m.waiting ≡ there
    → ltb (length m.waiting) most ≡ room → IsKept m c d e
    → IsKept (cond there m (cond room (record m { waiting = m.waiting ++ fig ∷ [] })
    (record m { dropped = limited (m.dropped + 1) })))
    c (d + length (cond there [] (cond room [] (fig ∷ [])))) e
kept_by true room fig m c d e waits_so full k =
    record {
      carried_is = k.carried_is;
      dropped_is = k.dropped_is
          ∙ ap limited (let z : d ≡ d + 0 = omega arith in z);
      stale_is = k.stale_is;
      different = k.different;
      few = k.few;
    }
kept_by false true fig m c d e waits_so full k = record {
  carried_is = k.carried_is;
  dropped_is = k.dropped_is ∙ ap limited (let z : d ≡ d + 0 = omega arith in z);
  stale_is = k.stale_is;
  different = different_last fig m.waiting waits_so k.different;
  few = omega (arith, length-append m.waiting (fig ∷ []), ltb-true (length m.waiting) most full);
}
kept_by false false fig m c d e waits_so full k = record {
  carried_is = k.carried_is;
  dropped_is = rw (k.dropped_is) (more_limited d 1);
  stale_is = k.stale_is;
  different = k.different;
  few = k.few;
}

kept_figs : (figs : List (List ℕ)) (m : Merging) (c d e : ℕ) → IsKept m c d e
    → IsKept (with_figs figs m) c (d + length (dropped_of figs m)) e
kept_figs [] m c d e k = subst (λ (n : ℕ). IsKept m c n e) (let z : d ≡ d + 0 = omega arith in z) k
kept_figs (fig ∷ figs) m c d e k =
    let gone : List (List ℕ) = cond (waits fig m.waiting) [] (cond (ltb (length m.waiting) most) [] (fig ∷ [])) in
    let one = kept_by (waits fig m.waiting) (ltb (length m.waiting) most) fig m c d e refl refl k in
    let all : d + length gone + length (dropped_of figs (with_fig fig m)) ≡ d
    + length (gone ++ dropped_of figs (with_fig fig m)) =
    omega (arith, length-append gone (dropped_of figs (with_fig fig m))) in
    rw (← all) (kept_figs figs (with_fig fig m) c (d + length gone) e one)

kept_take : (fib : Fib) (m : Merging) (c d e : ℕ) → IsKept m c d e
    → IsKept (after_take fib m) c (d + length (dropped_of (taken_in fib) m)) e
kept_take None m c d e k = subst (λ (n : ℕ). IsKept (after_take None m) c n e) (let z : d ≡ d + 0 = omega arith in z)
    (record {
      carried_is = k.carried_is;
      dropped_is = k.dropped_is;
      stale_is = k.stale_is;
      different = k.different;
      few = k.few;
    })
kept_take (Some figs) m c d e k = kept_figs (taken_of figs) m c d e k

-- the counts are as many as these
counted : (m : Merging) (c d e c2 d2 e2 : ℕ) → c ≡ c2 → d ≡ d2 → e ≡ e2 → IsKept m c d e → IsKept m c2 d2 e2
counted m c d e c2 d2 e2 one two three k =
    record {
      carried_is = rw (← one) k.carried_is;
      dropped_is = rw (← two) k.dropped_is;
      stale_is = rw (← three) k.stale_is;
      different = k.different;
      few = k.few;
    }

kept_fill : (fib : Fib) (m : Merging) (c d e : ℕ) → IsKept m c d e
    → IsKept (after_fill fib m) (c + length (carried_by fib m)) d (e + length (stale_by fib m))
kept_fill None m c d e k = record {
  carried_is = k.carried_is ∙ ap limited (let z : c ≡ c + 0 = omega arith in z);
  dropped_is = k.dropped_is;
  stale_is = k.stale_is ∙ ap limited (let z : e ≡ e + 0 = omega arith in z);
  different = k.different;
  few = k.few;
}
kept_fill (Some figs) m c d e k =
    let ok = agrees_with figs m.heard in
    record {
      carried_is = rw (k.carried_is) (more_limited c (length (carried_in ok (room_of figs) m.waiting)));
      dropped_is = k.dropped_is;
      stale_is = rw (k.stale_is) (more_limited e (length (stale_in ok (room_of figs) m.waiting)));
      different = different_left ok (room_of figs) m.waiting k.different;
      few = omega (arith, few_left ok (room_of figs) m.waiting, k.few);
    }

kept_step : (r : Reading) (s : Step) (m : Merging) (c d e : ℕ) → IsKept m c d e
    → IsKept (after_step r s m) (c + length (carried_at r s m)) (d + length (dropped_of (taken_at r s) m))
    (e + length (stale_at r s m))
kept_step r (Take fib) m c d e k =
    counted (after_take (r.read fib) m) c (d + length (dropped_of (taken_in (r.read fib)) m)) e (c + 0)
    (d + length (dropped_of (taken_in (r.read fib)) m)) (e + 0) (omega arith) refl (omega arith)
    (kept_take (r.read fib) m c d e k)
kept_step r (Fill fib) m c d e k =
    counted (after_fill (r.read fib) m) (c + length (carried_by (r.read fib) m)) d
    (e + length (stale_by (r.read fib) m)) (c + length (carried_by (r.read fib) m)) (d + 0)
    (e + length (stale_by (r.read fib) m)) refl (omega arith) refl (kept_fill (r.read fib) m c d e k)

kept_steps : (r : Reading) (steps : List Step) (m : Merging) (c d e : ℕ) → IsKept m c d e
    → IsKept (after_steps r steps m) (c + length (all_carried r steps m)) (d + length (all_dropped r steps m))
    (e + length (all_stale r steps m))
kept_steps r [] m c d e k = counted m c d e (c + 0) (d + 0) (e + 0) (omega arith) (omega arith) (omega arith) k
kept_steps r (s ∷ ss) m c d e k =
    let later = after_step r s m in
    let more = kept_steps r ss later (c + length (carried_at r s m)) (d + length (dropped_of (taken_at r s) m))
    (e + length (stale_at r s m)) (kept_step r s m c d e k) in
    counted (after_steps r ss later) _ _ _ (c + length (carried_at r s m ++ all_carried r ss later))
    (d + length (dropped_of (taken_at r s) m ++ all_dropped r ss later))
    (e + length (stale_at r s m ++ all_stale r ss later))
    (omega (arith, length-append (carried_at r s m) (all_carried r ss later)))
    (omega (arith, length-append (dropped_of (taken_at r s) m) (all_dropped r ss later)))
    (omega (arith, length-append (stale_at r s m) (all_stale r ss later)))
    more

from_nothing : (n count : ℕ) → count ≡ limited (0 + n) → count ≡ limited n
from_nothing n count is = let same : 0 + n ≡ n = omega arith in is ∙ ap limited same

pub all_are_accounted : AllAreAccounted
all_are_accounted r steps =
    let start : IsKept nothing_taken 0 0 0 =
    record { carried_is = refl; dropped_is = refl; stale_is = refl; different = tt; few = omega arith } in
    let kept = kept_steps r steps nothing_taken 0 0 0 start in
    record {
      adds_up = λ fig. omega (arith, steps_fate (times fig) (how_often fig) r steps nothing_taken);
      numbers = omega (arith, steps_fate length lengths r steps nothing_taken);
      carried = from_nothing _ _ kept.carried_is;
      dropped = from_nothing _ _ kept.dropped_is;
      stale = from_nothing _ _ kept.stale_is;
      different = kept.different;
      few = kept.few;
    }

-- ---- order
longer_all : (room less : ℕ) (figs : List (List ℕ)) → less ≤ room → AllByRecursion (λ fig. room < length fig) figs
    → AllByRecursion (λ fig. less < length fig) figs
longer_all room less [] le all = tt
longer_all room less (fig ∷ figs) le all = (omega (arith, le, all.0), longer_all room less figs le all.1)

longer_more : (room : ℕ) (fig : List ℕ) (figs : List (List ℕ)) → AllByRecursion (λ fig. room < length fig) figs
    → room < length fig → AllByRecursion (λ fig. room < length fig) (figs ++ fig ∷ [])
longer_more room fig [] all long = (long, tt)
longer_more room fig (x ∷ xs) all long = (all.0, longer_more room fig xs all.1 long)

smaller : (ok : List ℕ → Bool) (room : ℕ) (fig : List ℕ) → room_after ok room fig ≤ room
smaller ok room fig = by_case (ok fig)
  where
    by_case : (b : Bool) → cond b (room - length fig) room ≤ room
    by_case true = omega arith
    by_case false = omega arith

go_case : (ok : List ℕ → Bool) (fits : Bool) (room : ℕ) (fig : List ℕ) (before figs : List (List ℕ))
    → leb (length fig) room ≡ fits → AllByRecursion (λ fig. room < length fig) before
    → Go ok (room_after ok room fig) (before ++ figs) (turns_in ok (room_after ok room fig) figs)
    (before ++ left_waiting ok (room_after ok room fig) figs)
    → (room < length fig → Go ok room ((before ++ fig ∷ []) ++ figs) (turns_in ok room figs)
    ((before ++ fig ∷ []) ++ left_waiting ok room figs))
    → Go ok room (before ++ fig ∷ figs)
    (cond fits (fig ∷ turns_in ok (room_after ok room fig) figs) (turns_in ok room figs))
    (before ++ cond fits (left_waiting ok (room_after ok room fig) figs) (fig ∷ left_waiting ok room figs))
go_case ok true room fig before figs e all one two = (before, figs, refl, all, leb-true (length fig) room e, one)
go_case ok false room fig before figs e all one two =
    subst₂ (λ (xs ys : List (List ℕ)). Go ok room xs (turns_in ok room figs) ys) (append_assoc before (fig ∷ []) figs)
    (append_assoc before (fig ∷ []) (left_waiting ok room figs)) (two (leb-false (length fig) room e))

go_from : (ok : List ℕ → Bool) (room : ℕ) (before waiting : List (List ℕ))
    → AllByRecursion (λ fig. room < length fig) before
    → Go ok room (before ++ waiting) (turns_in ok room waiting) (before ++ left_waiting ok room waiting)
go_from ok room before [] all = (refl, rw (append-nil before) all)
go_from ok room before (fig ∷ figs) all =
    go_case ok (leb (length fig) room) room fig before figs refl all
    (go_from ok (room_after ok room fig) before figs
    (longer_all room (room_after ok room fig) before (smaller ok room fig) all))
    (λ long. go_from ok room (before ++ fig ∷ []) figs (longer_more room fig before all long))

pub the_longest_waiting_goes : TheLongestWaitingGoes
the_longest_waiting_goes ok room waiting = go_from ok room [] waiting tt
