-- The form of entries in FIBs.
use Rattle.stream_laws.proofs.Words.{[], ◌%◌, ◌&&◌, ◌++◌, ◌/◌, ◌<◌, ◌==◌, ◌∙◌, ◌∷◌, ◌≡◌, AllByRecursion, AreFigs, Bool}
use Rattle.stream_laws.proofs.Words.{Fib, Fig, IsFig, Item, List, Moment, None, Open, Other, Reading, Reads, Said, Some}
use Rattle.stream_laws.proofs.Words.{after_frames, all_append, and_right, eqb_tells, false, false≢true, fibs_items}
use Rattle.stream_laws.proofs.Words.{fig_items, figs_items, frame_items, inl, inr, is_ensemble, is_long, is_next}
use Rattle.stream_laws.proofs.Words.{is_open, items_of, ltb-true, map, nat_lt, past_after_frame, raw_of, refl, said}
use Rattle.stream_laws.proofs.Words.{subst, sym, true, ℕ}
use Rattle.stream_laws.proofs.Rows.{at_hand}
use Rattle.stream_laws.proofs.Tracking.{IsFormed}
use Rattle.stream_laws.proofs.Kept.{second_holds}

-- an entry outside of the first FIG, or other than FIG 0/0
abbrev IsLater : Item → Type 0
IsLater i = (i.raw.ext < 4) × ((i.first && is_ensemble i) ≡ false)

abbrev pub AreOrdered : List Item → Type 0
AreOrdered [] = Unit {0}
AreOrdered (i ∷ is) = (i.raw.ext < 4) × AllByRecursion IsLater is

later_ordered : (is : List Item) → AllByRecursion IsLater is → AreOrdered is
later_ordered [] all = tt
later_ordered (i ∷ is) all = (all.0.0, all.1)

ordered_more : (xs ys : List Item) → AreOrdered xs → AllByRecursion IsLater ys → AreOrdered (xs ++ ys)
ordered_more [] ys a all = later_ordered ys all
ordered_more (x ∷ xs) ys a all = (a.0, all_append IsLater xs ys a.1 all)

-- ---- of a FIG

not_first : (next long : Bool) (ext : ℕ) (es : List (List ℕ)) → ext < 4
    → AllByRecursion IsLater (items_of false next (map (raw_of ext long) es))
not_first next long ext [] small = tt
not_first next long ext (e ∷ es) small = ((small, refl), not_first next long ext es small)

no_ensemble : (first next long : Bool) (ext : ℕ) (es : List (List ℕ)) → ext < 4 → (ext == 0) ≡ false
    → AllByRecursion IsLater (items_of first next (map (raw_of ext long) es))
no_ensemble first next long ext [] small other = tt
no_ensemble first next long ext (e ∷ es) small other =
    ((small, and_right first (ext == 0) other), no_ensemble first next long ext es small other)

one_alone : (next long : Bool) (ext : ℕ) (e : List ℕ) → ext < 4
    → AreOrdered (items_of true next (map (raw_of ext long) (e ∷ [])))
one_alone next long ext e small = (small, tt)

pub open_small : (second : ℕ) → is_open second ≡ true → second % 32 < 4
open_small second h = ltb-true (second % 32) 4 (second_holds (second / 64 % 2 == 0) (nat_lt (second % 32) 4) h)

fig_later : (bytes : List ℕ) (f : Fig) → IsFig bytes f → AllByRecursion IsLater (fig_items false f)
fig_later bytes (Open second es) h = not_first _ _ _ _ (open_small _ h.3)
fig_later bytes (Other given) h = tt

fig_ordered : (bytes : List ℕ) (f : Fig) → IsFig bytes f → AreOrdered (fig_items true f)
fig_ordered bytes (Open second es) h =
    let small = open_small second h.3 in
    elim (eqb_tells (second % 32) 0) [
      | inl zero_ext ↦
          let alone = h.4.1 zero_ext.1 in
          subst (λ (xs : List (List ℕ)).
          AreOrdered (items_of true (is_next second) (map (raw_of (second % 32) (is_long second)) xs)))
          (sym alone.1)
          (one_alone (is_next second) (is_long second) (second % 32) alone.0 small)
      | inr other ↦ later_ordered (fig_items true (Open second es))
          (no_ensemble true (is_next second) (is_long second) (second % 32) es small other.0)
    ]
fig_ordered bytes (Other given) h = tt

figs_later : (bytes : List ℕ) (fs : List Fig) → AreFigs bytes fs → AllByRecursion IsLater (figs_items false fs)
figs_later bytes [] h = tt
figs_later bytes (f ∷ fs) h = all_append _ _ _ (fig_later h.0 f h.3) (figs_later h.1 fs h.4)

figs_ordered : (bytes : List ℕ) (fs : List Fig) → AreFigs bytes fs → AreOrdered (figs_items true fs)
figs_ordered bytes [] h = tt
figs_ordered bytes (f ∷ fs) h = ordered_more _ _ (fig_ordered _ _ h.3) (figs_later h.1 fs h.4)

-- ---- of a frame

-- what was read from the bytes of a FIB
abbrev pub IsRead : Fib → Type 0
IsRead None = Unit {0}
IsRead (Some figs) = (bytes : List ℕ) × AreFigs bytes figs

fibs_later : (fibs : List Fib) → AllByRecursion IsRead fibs → AllByRecursion IsLater (fibs_items false fibs)
fibs_later [] all = tt
fibs_later (None ∷ fibs) all = fibs_later fibs all.1
fibs_later (Some figs ∷ fibs) all = all_append _ _ _ (figs_later all.0.0 figs all.0.1) (fibs_later fibs all.1)

pub frame_ordered : (frame : List Fib) → AllByRecursion IsRead frame → AreOrdered (frame_items frame)
frame_ordered [] all = tt
frame_ordered (None ∷ fibs) all = later_ordered (fibs_items false fibs) (fibs_later fibs all.1)
frame_ordered (Some figs ∷ fibs) all = ordered_more _ _ (figs_ordered _ _ all.0.1) (fibs_later _ all.1)

-- ---- of all frames

later_formed : (items : List Item) (past : List Moment) → AllByRecursion IsLater items → IsFormed past
    → IsFormed (said items past)
later_formed [] past all w = w
later_formed (i ∷ is) past all w =
    later_formed is (Said i ∷ past) all.1 (all.0.0, (λ first. absurd (false≢true (sym all.0.1 ∙ first))), w)

items_formed : (items : List Item) (past : List Moment) → AreOrdered items → at_hand past ≡ [] → IsFormed past
    → IsFormed (said items past)
items_formed [] past a hand w = w
items_formed (i ∷ is) past a hand w = later_formed is (Said i ∷ past) a.1 (a.0, (λ first. hand), w)

frames_formed : (step : ℕ) (frames : List (List Fib)) (past : List Moment)
    → AllByRecursion (AllByRecursion IsRead) frames → at_hand past ≡ [] → IsFormed past
    → IsFormed (after_frames step past frames)
frames_formed step [] past all hand w = w
frames_formed step (frame ∷ frames) past all hand w =
    frames_formed step frames (past_after_frame step past frame) all.1 refl
    (items_formed (frame_items frame) past (frame_ordered frame all.0) hand w)

read_is : (bytes : List ℕ) (fib : Fib) → Reads bytes fib → IsRead fib
read_is bytes None h = tt
read_is bytes (Some figs) h = (_, h.1)

fibs_read : (r : Reading) (fibs : List (List ℕ)) → AllByRecursion IsRead (map r.read fibs)
fibs_read r [] = tt
fibs_read r (b ∷ bs) = (read_is b (r.read b) (r.right b), fibs_read r bs)

frames_read : (r : Reading) (frames : List (List (List ℕ)))
    → AllByRecursion (AllByRecursion IsRead) (map (map r.read) frames)
frames_read r [] = tt
frames_read r (f ∷ fs) = (fibs_read r f, frames_read r fs)

pub all_formed : (r : Reading) (step : ℕ) (frames : List (List (List ℕ)))
    → IsFormed (after_frames step [] (map (map r.read) frames))
all_formed r step frames = frames_formed step (map (map r.read) frames) [] (frames_read r frames) refl tt
