-- No FIG waits for ever where each frame has a FIB without FIGs.
use Rattle.fig_merge.proofs.Words.{[], ◌++◌, ◌+◌, ◌<◌, ◌∙◌, ◌∷◌, ◌≡◌, ◌≤◌, ◌⊎◌, AllAreCarried, AllByRecursion, Bool}
use Rattle.fig_merge.proofs.Words.{Contains, Contains-append_left, Contains-append_right, Fib, Fig, Fill, FillsEmpty}
use Rattle.fig_merge.proofs.Words.{HasEmpty, IsMerging, IsPassedOver, IsSendable, List, Merging, None, Reading, Reads}
use Rattle.fig_merge.proofs.Words.{Some, Step, Take, after_fill, after_step, after_steps, after_take, agrees_with}
use Rattle.fig_merge.proofs.Words.{all_turns, ap, append-nil, append_assoc, arith, cond, cond-true, drop, drop-cons}
use Rattle.fig_merge.proofs.Words.{false, fig_spelled, inl, inr, is_left_out, joined, le-leb, leb, left_waiting, length}
use Rattle.fig_merge.proofs.Words.{length-append, length-take-le, limited, ltb, ltb-true, most, refl, room_after}
use Rattle.fig_merge.proofs.Words.{room_of, subst, subst₂, suc, sym, take, take-append-drop, taken_of, true, turns_at}
use Rattle.fig_merge.proofs.Words.{turns_by, turns_in, waits, with_fig, with_figs, zero, ℕ}
use Rattle.fib_codec.proofs.Lengths.{AllByRecursion-append}
use Rattle.fig_merge.proofs.Passing.{all_left, few_left, sendable}

-- ---- what holds of a merger stays so
merging_by : (there room : Bool) (fig : List ℕ) (m : Merging) → ltb (length m.waiting) most ≡ room → IsPassedOver fig
    → IsMerging m
    → IsMerging (cond there m (cond room (record m { waiting = m.waiting ++ fig ∷ [] })
    (record m { dropped = limited (m.dropped + 1) })))
merging_by true room fig m e passed h = h
merging_by false true fig m e passed h = record {
  few = omega (arith, length-append m.waiting (fig ∷ []), ltb-true (length m.waiting) most e, h.few);
  passed_over = AllByRecursion-append IsPassedOver m.waiting (fig ∷ []) h.passed_over (passed, tt);
}
merging_by false false fig m e passed h = record { few = h.few; passed_over = h.passed_over }

pub merging_fig : (fig : List ℕ) (m : Merging) → IsPassedOver fig → IsMerging m → IsMerging (with_fig fig m)
merging_fig fig m passed h = merging_by (waits fig m.waiting) (ltb (length m.waiting) most) fig m refl passed h

merging_kept : (out : Bool) (f : Fig) (fs : List Fig) (m : Merging) → is_left_out f ≡ out → IsSendable f
    → ((n : Merging) → IsMerging n → IsMerging (with_figs (taken_of fs) n)) → IsMerging m
    → IsMerging (with_figs (cond out (taken_of fs) (fig_spelled f ∷ taken_of fs)) m)
merging_kept true f fs m e send more h = more m h
merging_kept false f fs m e send more h = more (with_fig (fig_spelled f) m) (merging_fig (fig_spelled f) m (send e) h)

merging_figs : (fs : List Fig) (m : Merging) → AllByRecursion IsSendable fs → IsMerging m
    → IsMerging (with_figs (taken_of fs) m)
merging_figs [] m send h = h
merging_figs (f ∷ fs) m send h = merging_kept (is_left_out f) f fs m refl send.0 (λ n k. merging_figs fs n send.1 k) h

merging_take : (bytes : List ℕ) (fib : Fib) (m : Merging) → Reads bytes fib → IsMerging m → IsMerging (after_take fib m)
merging_take bytes None m read h = record { few = h.few; passed_over = h.passed_over }
merging_take bytes (Some figs) m read h = merging_figs figs m (sendable bytes figs read) h

merging_fill : (fib : Fib) (m : Merging) → IsMerging m → IsMerging (after_fill fib m)
merging_fill None m h = record { few = h.few; passed_over = h.passed_over }
merging_fill (Some figs) m h = record {
  few = omega (arith, few_left (agrees_with figs m.heard) (room_of figs) m.waiting, h.few);
  passed_over = all_left IsPassedOver (agrees_with figs m.heard) (room_of figs) m.waiting h.passed_over;
}

pub merging_step : (r : Reading) (s : Step) (m : Merging) → IsMerging m → IsMerging (after_step r s m)
merging_step r (Take fib) m h = merging_take fib (r.read fib) m (r.right fib) h
merging_step r (Fill fib) m h = merging_fill (r.read fib) m h

pub merging_steps : (r : Reading) (steps : List Step) (m : Merging) → IsMerging m → IsMerging (after_steps r steps m)
merging_steps r [] m h = h
merging_steps r (s ∷ ss) m h = merging_steps r ss (after_step r s m) (merging_step r s m h)

-- ---- steps, and then others
pub after_then : (r : Reading) (xs ys : List Step) (m : Merging)
    → after_steps r (xs ++ ys) m ≡ after_steps r ys (after_steps r xs m)
after_then r [] ys m = refl
after_then r (x ∷ xs) ys m = after_then r xs ys (after_step r x m)

turns_then : (r : Reading) (xs ys : List Step) (m : Merging) → all_turns r (xs ++ ys) m ≡ all_turns r xs m
    ++ all_turns r ys (after_steps r xs m)
turns_then r [] ys m = refl
turns_then r (x ∷ xs) ys m =
    rw (turns_then r xs ys (after_step r x m)) (sym (append_assoc (turns_at r x m) (all_turns r xs (after_step r x m))
    (all_turns r ys (after_steps r xs (after_step r x m)))))

-- ---- a FIG that waits behind at most this many others
record IsBehind (count : ℕ) (fig : List ℕ) (waiting : List (List ℕ)) : Type 0 where
  before : List (List ℕ)
  after : List (List ℕ)
  waiting_is : waiting ≡ before ++ fig ∷ after
  few : length before ≤ count

-- it is carried, or waits behind at most this many
abbrev Waits : ℕ → List ℕ → List (List ℕ) → List (List ℕ) → Type 0
Waits count fig carried waiting = Contains carried fig ⊎ IsBehind count fig waiting

front_of : (fig : List ℕ) (figs : List (List ℕ)) → Contains (fig ∷ figs) fig
front_of fig figs = (0, omega arith, refl)

behind_more : (count : ℕ) (fig : List ℕ) (waiting more : List (List ℕ)) → IsBehind count fig waiting
    → IsBehind count fig (waiting ++ more)
behind_more count fig waiting more b = record {
  before = b.before;
  after = b.after ++ more;
  waiting_is = rw (b.waiting_is) (append_assoc b.before (fig ∷ b.after) more);
  few = b.few;
}

-- taking FIGs adds to those that wait
record IsLonger (old new : List (List ℕ)) : Type 0 where
  more : List (List ℕ)
  new_is : new ≡ old ++ more

longer_by : (there room : Bool) (fig : List ℕ) (m one other : Merging) → one.waiting ≡ m.waiting ++ fig ∷ []
    → other.waiting ≡ m.waiting
    → IsLonger m.waiting (cond there m (cond room one other)).waiting
longer_by true room fig m one other e f = record { more = []; new_is = sym (append-nil m.waiting) }
longer_by false true fig m one other e f = record { more = fig ∷ []; new_is = e }
longer_by false false fig m one other e f = record { more = []; new_is = f ∙ sym (append-nil m.waiting) }

longer_figs : (figs : List (List ℕ)) (m : Merging) → IsLonger m.waiting (with_figs figs m).waiting
longer_figs [] m = record { more = []; new_is = sym (append-nil m.waiting) }
longer_figs (fig ∷ figs) m =
    let one = longer_by _ _ _ _ _ _ refl refl in
    let rest = longer_figs figs (with_fig fig m) in
    record {
      more = one.more ++ rest.more;
      new_is = rest.new_is ∙ ap (λ xs. xs ++ rest.more) one.new_is ∙ append_assoc m.waiting one.more rest.more;
    }

longer_take : (fib : Fib) (m : Merging) → IsLonger m.waiting (after_take fib m).waiting
longer_take None m = record { more = []; new_is = sym (append-nil m.waiting) }
longer_take (Some figs) m = longer_figs (taken_of figs) m

-- ---- filling: those before a FIG get no more, and fewer where the first of them fits
behind_by : (ok : List ℕ → Bool) (fits : Bool) (room : ℕ) (g fig : List ℕ) (gs after : List (List ℕ))
    → Waits (length gs) fig (turns_in ok (room_after ok room g) (gs ++ fig ∷ after))
    (left_waiting ok (room_after ok room g) (gs ++ fig ∷ after))
    → Waits (length gs) fig (turns_in ok room (gs ++ fig ∷ after)) (left_waiting ok room (gs ++ fig ∷ after))
    → Waits (suc (length gs)) fig
    (cond fits (g ∷ turns_in ok (room_after ok room g) (gs ++ fig ∷ after)) (turns_in ok room (gs ++ fig ∷ after)))
    (cond fits (left_waiting ok (room_after ok room g) (gs ++ fig ∷ after))
    (g ∷ left_waiting ok room (gs ++ fig ∷ after)))
behind_by ok true room g fig gs after (inl c) two =
    inl (Contains-append_right (g ∷ []) (turns_in ok (room_after ok room g) (gs ++ fig ∷ after)) fig c)
behind_by ok true room g fig gs after (inr b) two =
    inr (record { before = b.before; after = b.after; waiting_is = b.waiting_is; few = omega (arith, b.few) })
behind_by ok false room g fig gs after one (inl c) = inl c
behind_by ok false room g fig gs after one (inr b) = inr (record {
  before = g ∷ b.before;
  after = b.after;
  waiting_is = rw (b.waiting_is) refl;
  few = omega (arith, b.few);
})

here_by : (fits : Bool) (room : ℕ) (fig : List ℕ) (there left gone on : List (List ℕ))
    → Waits 0 fig (cond fits (fig ∷ there) gone) (cond fits left (fig ∷ on))
here_by true room fig there left gone on = inl (front_of fig there)
here_by false room fig there left gone on =
    inr (record { before = []; after = on; waiting_is = refl; few = omega arith })

behind_fill : (ok : List ℕ → Bool) (room : ℕ) (fig : List ℕ) (before after : List (List ℕ))
    → Waits (length before) fig (turns_in ok room (before ++ fig ∷ after))
    (left_waiting ok room (before ++ fig ∷ after))
behind_fill ok room fig [] after =
    here_by (leb (length fig) room) room fig (turns_in ok (room_after ok room fig) after)
    (left_waiting ok (room_after ok room fig) after) (turns_in ok room after) (left_waiting ok room after)
behind_fill ok room fig (g ∷ gs) after =
    behind_by ok (leb (length g) room) room g fig gs after (behind_fill ok (room_after ok room g) fig gs after)
    (behind_fill ok room fig gs after)

-- the first fits: then fewer are before it
fewer_fill : (ok : List ℕ → Bool) (room : ℕ) (fig : List ℕ) (before after : List (List ℕ)) (count : ℕ)
    → AllByRecursion (λ g. length g ≤ room) (before ++ fig ∷ after) → length before ≤ suc count
    → (length before ≡ 0 → Contains (turns_in ok room (before ++ fig ∷ after)) fig)
    × Waits count fig (turns_in ok room (before ++ fig ∷ after)) (left_waiting ok room (before ++ fig ∷ after))
fewer_fill ok room fig [] after count all few =
    let e : turns_in ok room (fig ∷ after) ≡ fig ∷ turns_in ok (room_after ok room fig) after =
    cond-true (leb (length fig) room) (fig ∷ turns_in ok (room_after ok room fig) after) (turns_in ok room after)
    (le-leb (length fig) room all.0) in
    let c : Contains (turns_in ok room (fig ∷ after)) fig = rw (e)
    (front_of fig (turns_in ok (room_after ok room fig) after)) in
    ((λ none. c), inl c)
fewer_fill ok room fig (g ∷ gs) after count all few =
    let rest = gs ++ fig ∷ after in
    let fits = le-leb (length g) room all.0 in
    let e : turns_in ok room (g ∷ rest) ≡ g ∷ turns_in ok (room_after ok room g) rest =
    cond-true (leb (length g) room) (g ∷ turns_in ok (room_after ok room g) rest) (turns_in ok room rest) fits in
    let f : left_waiting ok room (g ∷ rest) ≡ left_waiting ok (room_after ok room g) rest =
    cond-true (leb (length g) room) (left_waiting ok (room_after ok room g) rest) (g ∷ left_waiting ok room rest)
    fits in (
      (λ none. absurd (omega (arith, none))),
      subst₂ (λ (xs ys : List (List ℕ)). Waits count fig xs ys) (sym e) (sym f)
          (elim (behind_fill ok (room_after ok room g) fig gs after) [
            | inl c ↦ inl (Contains-append_right (g ∷ []) (turns_in ok (room_after ok room g) rest) fig c)
            | inr b ↦ inr (record {
              before = b.before;
              after = b.after;
              waiting_is = b.waiting_is;
              few = omega (arith, b.few, few);
            })
          ]),
    )

-- ---- steps
waits_step : (r : Reading) (s : Step) (m : Merging) (fig : List ℕ) (count : ℕ) → IsBehind count fig m.waiting
    → Waits count fig (turns_at r s m) (after_step r s m).waiting
waits_step r (Take fib) m fig count b =
    let l = longer_take (r.read fib) m in
    inr (rw (l.new_is) (behind_more count fig m.waiting l.more b))
waits_step r (Fill fib) m fig count b = waits_fill (r.read fib) m fig count b
  where
    waits_fill : (fib : Fib) (m : Merging) (fig : List ℕ) (count : ℕ) → IsBehind count fig m.waiting
        → Waits count fig (turns_by fib m) (after_fill fib m).waiting
    waits_fill None m fig count b =
        inr (record { before = b.before; after = b.after; waiting_is = b.waiting_is; few = b.few })
    waits_fill (Some figs) m fig count b =
        let all : Waits (length b.before) fig (turns_in (agrees_with figs m.heard) (room_of figs) m.waiting)
        (left_waiting (agrees_with figs m.heard) (room_of figs) m.waiting) = rw (b.waiting_is)
        (behind_fill (agrees_with figs m.heard) (room_of figs) fig b.before b.after) in
        elim all [
          | inl c ↦ inl c
          | inr d ↦ inr (record {
            before = d.before;
            after = d.after;
            waiting_is = d.waiting_is;
            few = omega (arith, d.few, b.few);
          })
        ]

waits_steps : (r : Reading) (steps : List Step) (m : Merging) (fig : List ℕ) (count : ℕ) → IsBehind count fig m.waiting
    → Waits count fig (all_turns r steps m) (after_steps r steps m).waiting
waits_steps r [] m fig count b = inr b
waits_steps r (s ∷ ss) m fig count b =
    elim (waits_step r s m fig count b) [
      | inl c ↦ inl (Contains-append_left (turns_at r s m) (all_turns r ss (after_step r s m)) fig c)
      | inr d ↦ elim (waits_steps r ss (after_step r s m) fig count d) [
        | inl c ↦ inl (Contains-append_right (turns_at r s m) (all_turns r ss (after_step r s m)) fig c)
        | inr e ↦ inr e
      ]
    ]

-- a FIB without FIGs carries it, or one of those before it
all_short : (figs : List (List ℕ)) → AllByRecursion IsPassedOver figs → AllByRecursion (λ g. length g ≤ 30) figs
all_short [] all = tt
all_short (fig ∷ figs) all = (all.0.1, all_short figs all.1)

empty_fill : (fib : Fib) (m : Merging) (fig : List ℕ) (count : ℕ) → fib ≡ Some [] → IsMerging m
    → IsBehind (suc count) fig m.waiting
    → Waits count fig (turns_by fib m) (after_fill fib m).waiting
empty_fill fib m fig count is h b =
    let ok = agrees_with [] m.heard in
    let short : AllByRecursion (λ g. length g ≤ 30) (b.before ++ fig ∷ b.after) =
    rw (← b.waiting_is) (all_short m.waiting h.passed_over) in
    rw (is) (rw (b.waiting_is) (fewer_fill ok 30 fig b.before b.after count short b.few).1)

empty_carries : (fib : Fib) (m : Merging) (fig : List ℕ) → fib ≡ Some [] → IsMerging m → IsBehind 0 fig m.waiting
    → Contains (turns_by fib m) fig
empty_carries fib m fig is h b =
    let ok = agrees_with [] m.heard in
    let short : AllByRecursion (λ g. length g ≤ 30) (b.before ++ fig ∷ b.after) =
    rw (← b.waiting_is) (all_short m.waiting h.passed_over) in
    let now = (fewer_fill ok 30 fig b.before b.after 0 short (omega (arith, b.few))).0 (omega (arith, b.few)) in
    rw (is) (rw (b.waiting_is) now)

empty_step : (r : Reading) (s : Step) (m : Merging) (fig : List ℕ) (count : ℕ) → FillsEmpty r s → IsMerging m
    → IsBehind (suc count) fig m.waiting
    → Waits count fig (turns_at r s m) (after_step r s m).waiting
empty_step r (Take fib) m fig count is h b = absurd is
empty_step r (Fill fib) m fig count is h b = empty_fill (r.read fib) m fig count is h b

empty_step_carries : (r : Reading) (s : Step) (m : Merging) (fig : List ℕ) → FillsEmpty r s → IsMerging m
    → IsBehind 0 fig m.waiting → Contains (turns_at r s m) fig
empty_step_carries r (Take fib) m fig is h b = absurd is
empty_step_carries r (Fill fib) m fig is h b = empty_carries (r.read fib) m fig is h b

-- the steps of a frame around the one that fills such a FIB
around : (r : Reading) (before after : List Step) (s : Step) (m : Merging) (fig : List ℕ)
    → Contains (all_turns r before m) fig ⊎ Contains (turns_at r s (after_steps r before m)) fig
    → Contains (all_turns r (before ++ s ∷ after) m) fig
around r before after s m fig one =
    let mid = after_steps r before m in
    let rest = all_turns r after (after_step r s mid) in
    subst (λ (xs : List (List ℕ)). Contains xs fig) (sym (turns_then r before (s ∷ after) m))
    (elim one [
      | inl c ↦ Contains-append_left (all_turns r before m) (turns_at r s mid ++ rest) fig c
      | inr c ↦ Contains-append_right (all_turns r before m) (turns_at r s mid ++ rest) fig
          (Contains-append_left (turns_at r s mid) rest fig c)
    ])

frame_carries : (r : Reading) (steps : List Step) (m : Merging) (fig : List ℕ) → HasEmpty r steps → IsMerging m
    → IsBehind 0 fig m.waiting → Contains (all_turns r steps m) fig
frame_carries r steps m fig e h b =
    subst (λ (ss : List Step). Contains (all_turns r ss m) fig) (sym e.steps_are)
    (around r e.before e.after e.step m fig
    (elim (waits_steps r e.before m fig 0 b) [
      | inl c ↦ inl c
      | inr d ↦ inr (empty_step_carries r e.step (after_steps r e.before m) fig e.empty (merging_steps r e.before m h)
          d)
    ]))

frame_waits : (r : Reading) (steps : List Step) (m : Merging) (fig : List ℕ) (count : ℕ) → HasEmpty r steps
    → IsMerging m → IsBehind (suc count) fig m.waiting
    → Waits count fig (all_turns r steps m) (after_steps r steps m).waiting
frame_waits r steps m fig count e h b =
    let mid = after_steps r e.before m in
    let later = after_step r e.step mid in
    let rest = all_turns r e.after later in
    let joins = turns_then r e.before (e.step ∷ e.after) m in
    let ends = after_then r e.before (e.step ∷ e.after) m in
    subst (λ (ss : List Step). Waits count fig (all_turns r ss m) (after_steps r ss m).waiting) (sym e.steps_are)
    (subst₂ (λ (xs : List (List ℕ)) (n : Merging). Waits count fig xs n.waiting) (sym joins) (sym ends)
    (elim (waits_steps r e.before m fig (suc count) b) [
      | inl c ↦ inl (Contains-append_left (all_turns r e.before m) (turns_at r e.step mid ++ rest) fig c)
      | inr d ↦ elim (empty_step r e.step mid fig count e.empty (merging_steps r e.before m h) d) [
        | inl c ↦ inl (Contains-append_right (all_turns r e.before m) (turns_at r e.step mid ++ rest) fig
            (Contains-append_left (turns_at r e.step mid) rest fig c))
        | inr f ↦ elim (waits_steps r e.after later fig count f) [
          | inl c ↦ inl (Contains-append_right (all_turns r e.before m) (turns_at r e.step mid ++ rest) fig
              (Contains-append_right (turns_at r e.step mid) rest fig c))
          | inr g ↦ inr g
        ]
      ]
    ]))

-- ---- frames
frames_carry : (r : Reading) (frames : List (List Step)) (m : Merging) (fig : List ℕ) (count : ℕ)
    → AllByRecursion (HasEmpty r) frames → IsMerging m
    → IsBehind count fig m.waiting → count < length frames → Contains (all_turns r (joined frames) m) fig
frames_carry r [] m fig count all h b lt = absurd (omega (arith, lt))
frames_carry r (frame ∷ frames) m fig zero all h b lt =
    rw (turns_then r frame (joined frames) m) (Contains-append_left (all_turns r frame m)
    (all_turns r (joined frames) (after_steps r frame m)) fig (frame_carries r frame m fig all.0 h b))
frames_carry r (frame ∷ frames) m fig (suc count) all h b lt =
    let later = after_steps r frame m in
    subst (λ (xs : List (List ℕ)). Contains xs fig) (sym (turns_then r frame (joined frames) m))
    (elim (frame_waits r frame m fig count all.0 h b) [
      | inl c ↦ Contains-append_left (all_turns r frame m) (all_turns r (joined frames) later) fig c
      | inr d ↦ Contains-append_right (all_turns r frame m) (all_turns r (joined frames) later) fig
          (frames_carry r frames later fig count all.1 (merging_steps r frame m h) d (omega (arith, lt)))
    ])

behind_of : (fig : List ℕ) (waiting : List (List ℕ)) (count : ℕ) → Contains waiting fig → length waiting ≤ suc count
    → IsBehind count fig waiting
behind_of fig waiting count c few =
    record {
      before = take c.0 waiting;
      after = drop (suc c.0) waiting;
      waiting_is = sym (take-append-drop c.0 waiting) ∙ ap (λ xs. take c.0 waiting ++ xs)
          (drop-cons waiting c.0 fig c.1 ∙ ap (λ x. x ∷ drop (suc c.0) waiting) c.2);
      few = omega (arith, length-take-le c.0 waiting (omega (arith, c.1)), c.1, few);
    }

pub all_are_carried : AllAreCarried
all_are_carried r m frames h all = record {
  first = λ fig others is some. frames_carry r frames m fig 0 all h
      (record { before = []; after = others; waiting_is = is; few = omega arith }) (omega (arith, some));
  all = λ fig c enough. frames_carry r frames m fig 255 all h (behind_of fig m.waiting 255 c (omega (arith, h.few)))
      (omega (arith, enough));
}
