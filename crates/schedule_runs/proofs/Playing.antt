-- A schedule comes to exactly one airing over the same events: it can be computed.
use Rattle.schedule_runs.proofs.Words.{◌++◌, ◌<◌, AreFrames, IsFrame, arith, frame_count, get_or, get_or_from_slice_get}
use Rattle.schedule_runs.proofs.Words.{length, same_lists, suc, zero}
use Rattle.schedule_runs.proofs.Words.{[], ◌∙◌, ◌∷◌, ◌≡◌, Airing, Bool, Contact, Event}
use Rattle.schedule_runs.proofs.Words.{Frame, List, None, Option, PerformsAll, PerformsFrame, SchedulesComeToOne, Some}
use Rattle.schedule_runs.proofs.Words.{TakesUp, Tree, absurd_none, after_counts, after_swap, announced, ap, due_in}
use Rattle.schedule_runs.proofs.Words.{false}
use Rattle.schedule_runs.proofs.Words.{inl, inr, refl, subst, sym, true, with_level, ℕ}
use Rattle.schedule_runs.proofs.Deciding.{is_same, same_if, same_not}

-- ---- one frame

-- what is taken up, where this many frames are left until a swap, and where what is due is on air or is not
abbrev pub chosen : Option ℕ → (same : Bool) → (unchanged announced : Airing) → Airing
chosen (Some left) same x z = x
chosen None true x z = x
chosen None false x z = z

abbrev pub taken : Tree → Airing → Airing
taken s x = chosen x.left (is_same (due_in s x) x.current) x (announced s x)

abbrev pub played : Tree → Airing → Airing
played s x = after_counts (taken s (after_swap x))

takes : (s : Tree) (x : Airing) (left : Option ℕ) (same : Bool) → x.left ≡ left → is_same (due_in s x) x.current ≡ same
    → TakesUp s x (chosen left same x (announced s x))
takes s x (Some left) same e is = inl ((λ none. absurd_none left (sym e ∙ none)), refl)
takes s x None true e is = inr (inl (e, same_if (due_in s x) x.current is, refl))
takes s x None false e is = inr (inr (e, same_not (due_in s x) x.current is, refl))

pub performs : (s : Tree) (x : Airing) → PerformsFrame s x (played s x)
performs s x =
    let y : Airing = after_swap x in
    (taken s y, takes s y y.left (is_same (due_in s y) y.current) refl refl, refl)

takes_one : (s : Tree) (x y : Airing) (left : Option ℕ) (same : Bool) → x.left ≡ left
    → is_same (due_in s x) x.current ≡ same → TakesUp s x y → y ≡ chosen left same x (announced s x)
takes_one s x y (Some left) same e is (inl waiting) = waiting.1
takes_one s x y (Some left) same e is (inr (inl staying)) = absurd_none left (sym e ∙ staying.0)
takes_one s x y (Some left) same e is (inr (inr taking)) = absurd_none left (sym e ∙ taking.0)
takes_one s x y None same e is (inl waiting) = absurd (waiting.0 e)
takes_one s x y None true e is (inr (inl staying)) = staying.2
takes_one s x y None true e is (inr (inr taking)) = absurd (taking.1 (same_if (due_in s x) x.current is))
takes_one s x y None false e is (inr (inl staying)) = absurd (same_not (due_in s x) x.current is staying.1)
takes_one s x y None false e is (inr (inr taking)) = taking.2

pub performs_one : (s : Tree) (x y : Airing) → PerformsFrame s x y → y ≡ played s x
performs_one s x y h =
    let z : Airing = after_swap x in
    h.2 ∙ ap after_counts (takes_one s z h.0 z.left (is_same (due_in s z) z.current) refl refl h.1)

-- ---- events

abbrev pub end_of : Tree → Airing → List Event → Airing
end_of s x [] = x
end_of s x (Contact contact closed ∷ es) = end_of s (with_level contact closed x) es
end_of s x (Frame ∷ es) = end_of s (played s x) es

pub comes_to : (s : Tree) (x : Airing) (events : List Event) → PerformsAll s x events (end_of s x events)
comes_to s x [] = refl
comes_to s x (Contact contact closed ∷ es) =
    (with_level contact closed x, refl, comes_to s (with_level contact closed x) es)
comes_to s x (Frame ∷ es) = (played s x, performs s x, comes_to s (played s x) es)

pub comes_to_only : (s : Tree) (x : Airing) (events : List Event) (other : Airing) → PerformsAll s x events other
    → other ≡ end_of s x events
comes_to_only s x [] other h = sym h
comes_to_only s x (Contact contact closed ∷ es) other h =
    comes_to_only s (with_level contact closed x) es other (subst (λ z. PerformsAll s z es other) h.1 h.2)
comes_to_only s x (Frame ∷ es) other h =
    comes_to_only s (played s x) es other (subst (λ z. PerformsAll s z es other) (performs_one s x h.0 h.1) h.2)

pub schedules_come_to_one : SchedulesComeToOne
schedules_come_to_one s x events = record {
  end = end_of s x events;
  comes = comes_to s x events;
  only = comes_to_only s x events;
}

-- ---- the frames of a run

abbrev pub aired : Tree → Airing → List Event → List Airing
aired s x [] = []
aired s x (Contact contact closed ∷ es) = aired s (with_level contact closed x) es
aired s x (Frame ∷ es) = x ∷ aired s (played s x) es

each_frame : (s : Tree) (x : Airing) (before behind : List Event) (y : Airing) → PerformsAll s x before y
    → IsFrame (aired s x (before ++ Frame ∷ behind)) (frame_count before) y
each_frame s x [] behind y h = ap (λ z. Some z) h
each_frame s x (Contact contact closed ∷ es) behind y h =
    each_frame s (with_level contact closed x) es behind y (subst (λ z. PerformsAll s z es y) h.1 h.2)
each_frame s x (Frame ∷ es) behind y h =
    each_frame s (played s x) es behind y (subst (λ z. PerformsAll s z es y) (performs_one s x h.0 h.1) h.2)

all_frames : (s : Tree) (x : Airing) (events : List Event) → length (aired s x events) ≡ frame_count events
all_frames s x [] = refl
all_frames s x (Contact contact closed ∷ es) = all_frames s (with_level contact closed x) es
all_frames s x (Frame ∷ es) = ap (λ n. suc n) (all_frames s (played s x) es)

pub its_frames : (s : Tree) (x : Airing) (events : List Event) → AreFrames s x events (aired s x events)
its_frames s x events = record {
  all = all_frames s x events;
  each = λ before behind y e h.
      subst (λ es. IsFrame (aired s x es) (frame_count before) y) (sym e) (each_frame s x before behind y h);
}

-- a frame among events, by its number
record Split (events : List Event) (k : ℕ) : Type 0 where
  pub before : List Event
  pub behind : List Event
  pub whole : events ≡ before ++ Frame ∷ behind
  pub number : frame_count before ≡ k

split_at : (events : List Event) (k : ℕ) → k < frame_count events → Split events k
split_at [] k lt = absurd (omega (arith, lt))
split_at (Contact contact closed ∷ es) k lt =
    let h = split_at es k lt in
    record {
      before = Contact contact closed ∷ h.before;
      behind = h.behind;
      whole = ap (λ (ys : List Event). Contact contact closed ∷ ys) h.whole;
      number = h.number;
    }
split_at (Frame ∷ es) zero lt = record { before = []; behind = es; whole = refl; number = refl }
split_at (Frame ∷ es) (suc k) lt =
    let h = split_at es k (omega (arith, lt)) in
    record {
      before = Frame ∷ h.before;
      behind = h.behind;
      whole = ap (λ (ys : List Event). Frame ∷ ys) h.whole;
      number = ap (λ n. suc n) h.number;
    }

found_at : (s : Tree) (x : Airing) (events : List Event) (run : List Airing) → AreFrames s x events run → (k : ℕ)
    (d : Airing) (h : Split events k) → get_or run k d ≡ end_of s x h.before
found_at s x events run frames k d h =
    let there : IsFrame run (frame_count h.before) (end_of s x h.before) =
    frames.each h.before h.behind (end_of s x h.before) h.whole (comes_to s x h.before) in
    get_or_from_slice_get run k (end_of s x h.before) d
    (subst (λ n. IsFrame run n (end_of s x h.before)) h.number there)

pub its_frames_only : (s : Tree) (x : Airing) (events : List Event) (run : List Airing) → AreFrames s x events run
    → run ≡ aired s x events
its_frames_only s x events run frames =
    same_lists run (aired s x events) (frames.all ∙ sym (all_frames s x events))
    (λ k d lt.
    let h = split_at events k (omega (arith, lt, frames.all)) in
    found_at s x events run frames k d h ∙ sym (found_at s x events (aired s x events) (its_frames s x events) k d h))
