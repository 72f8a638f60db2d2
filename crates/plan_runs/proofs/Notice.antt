-- The frames of a notice, one after another; what was heard of them is a function of the state.
use Rattle.plan_runs.proofs.Words.{[], ◌%◌, ◌++◌, ◌+◌, ◌-◌, ◌<◌, ◌∙◌, ◌∷◌, ◌≡◌, ◌≤◌, Bool, Configuration, Contains}
use Rattle.plan_runs.proofs.Words.{Known, List, None, Option, Plan, Program, Running, Some, State, after_frame, ap}
use Rattle.plan_runs.proofs.Words.{arith, cond, false, heard_after, heard_before, heard_left, heard_of, inl, inr}
use Rattle.plan_runs.proofs.Words.{is_due, is_noticed, left_after_frame, notice_begin, notice_frames, page_set, refl}
use Rattle.plan_runs.proofs.Words.{rounds, sent_rounds, shown, shown_bytes, slice_get, subst, suc, sym, true}
use Rattle.plan_runs.proofs.Words.{with_next_counts, with_swap, zero, ℕ}
use Rattle.plan_runs.proofs.Knowledge.{IsAhead}
use Rattle.plan_runs.proofs.Tracked.{Airs, TurnShown, page_of, page_of_first, page_of_next, noticed, not_noticed}
use Rattle.plan_runs.proofs.Tracked.{split_le}
use Rattle.plan_runs.proofs.Between.{frame_goes}
use Rattle.plan_runs.proofs.Carries.{IsNewly, LeftBy, Carries, frame_carries}
use Rattle.plan_runs.proofs.Facts.{Holds, IsCode, airs}

-- ---- lists of frames by number

pub frames_from : (ℕ → List ℕ) → ℕ → ℕ → List (List ℕ)
frames_from f a zero = []
frames_from f a (suc k) = f a ∷ frames_from f (suc a) k

pub frames_more : (f : ℕ → List ℕ) (a k : ℕ) → frames_from f a (suc k) ≡ frames_from f a k ++ f (a + k) ∷ []
unfolding frames_from
frames_more f a zero =
    ap (λ (n : ℕ). f n ∷ []) (sym (omega arith))
frames_more f a (suc k) =
    ap (λ xs. f a ∷ xs) (frames_more f (suc a) k ∙ ap (λ (n : ℕ). frames_from f (suc a) k ++ f n ∷ []) (omega arith))

pub frames_cut : (f : ℕ → List ℕ) (a j k : ℕ) → frames_from f a (j + k) ≡ frames_from f a j ++ frames_from f (a + j) k
unfolding frames_from
frames_cut f a zero k =
    ap (frames_from f a) (omega arith) ∙ ap (λ (n : ℕ). frames_from f n k) (omega arith)
frames_cut f a (suc j) k =
    let up : suc j + k ≡ suc (j + k) = omega arith in
    let same : suc a + j ≡ a + suc j = omega arith in
    cc (up, frames_cut f (suc a) j k, same)

pub frames_get : (f : ℕ → List ℕ) (a k i : ℕ) → i < k → slice_get (frames_from f a k) i ≡ Some (f (a + i))
unfolding frames_from
frames_get f a zero i below = absurd (omega (arith, below))
frames_get f a (suc k) zero below =
    ap (λ (n : ℕ). Some (f n)) (omega arith)
frames_get f a (suc k) (suc i) below =
    frames_get f (suc a) k i (omega (arith, below)) ∙ ap (λ (n : ℕ). Some (f n)) (omega arith)

-- a frame in such a list
pub record IsFrameOf (f : ℕ → List ℕ) (a k : ℕ) (frame : List ℕ) : Type 0 where
  pub number : ℕ
  pub from : a ≤ number
  pub below : number < a + k
  pub is : f number ≡ frame

pub frames_contain : (f : ℕ → List ℕ) (a k : ℕ) (frame : List ℕ) → Contains (frames_from f a k) frame
    → IsFrameOf f a k frame
unfolding frames_from
frames_contain f a zero frame h = absurd (omega (arith, h.1))
frames_contain f a (suc k) frame (zero, lt, is) =
    record { number = a; from = omega arith; below = omega arith; is = is }
frames_contain f a (suc k) frame (suc i, lt, is) =
    let later = frames_contain f (suc a) k frame (i, omega (arith, lt), is) in
    record {
      number = later.number;
      from = omega (arith, later.from);
      below = omega (arith, later.below);
      is = later.is;
    }

later_frame : (x : List ℕ) (xs : List (List ℕ)) (y : List ℕ) → Contains xs y → Contains (x ∷ xs) y
later_frame x xs y h = (suc h.0, omega (arith, h.1), h.2)

pub contains_frame : (f : ℕ → List ℕ) (a k i : ℕ) → a ≤ i → i < a + k → Contains (frames_from f a k) (f i)
unfolding frames_from
contains_frame f a zero i from below = absurd (omega (arith, from, below))
contains_frame f a (suc k) i from below =
    elim (split_le i a) [
      | inl here ↦
          (0, omega arith, ap f (omega (arith, from, here)))
      | inr later ↦ later_frame (f a) (frames_from f (suc a) k) (f i)
          (contains_frame f (suc a) k i (omega (arith, later)) (omega (arith, below)))
    ]

-- ---- the frames of a notice

abbrev pub notice_state : Configuration → Configuration → ℕ → Option ℕ → ℕ → ℕ → State
notice_state c n eid left count page_index =
    record {
      current = c;
      next = n;
      left = left;
      pc = 0;
      hold = Running;
      counters = [];
      contacts = record { 0 = 0 };
      count = count;
      day = 0;
      eid = eid;
      page_index = page_index;
    }

abbrev pub both_rounds : Plan → Configuration → Configuration → ℕ
both_rounds plan c n = rounds plan.layout (page_set c (Some n))

-- frame i of the notice that begins at CIF count `base`
abbrev pub noticed_state : Plan → Configuration → Configuration → ℕ → ℕ → ℕ → State
noticed_state plan c n eid base i =
    notice_state c n eid (Some (plan.notice - i)) ((base + i) % 5000) (page_of (both_rounds plan c n) i)

pub notice_at : Plan → Configuration → Configuration → ℕ → ℕ → ℕ → List ℕ
notice_at plan c n eid base i = shown_bytes plan (noticed_state plan c n eid base i)

pub notice_at_is : (plan : Plan) (c n : Configuration) (eid base i : ℕ)
    → notice_at plan c n eid base i ≡ shown_bytes plan (noticed_state plan c n eid base i)
unfolding notice_at
notice_at_is plan c n eid base i = refl

-- the bytes made from frame i of a notice
pub shown_as : (plan : Plan) (s : State) (base i : ℕ) → s.left ≡ Some (plan.notice - i) → s.count ≡ (base + i) % 5000
    → s.page_index ≡ page_of (both_rounds plan s.current s.next) i
    → shown_bytes plan s ≡ notice_at plan s.current s.next s.eid base i
unfolding notice_at
shown_as plan s base i left count page_index =
    ap (λ (o : Option ℕ). shown_bytes plan (notice_state s.current s.next s.eid o s.count s.page_index)) left
    ∙ ap (λ (x : ℕ). shown_bytes plan (notice_state s.current s.next s.eid (Some (plan.notice - i)) x s.page_index))
    count
    ∙ ap (λ (x : ℕ). shown_bytes plan
    (notice_state s.current s.next s.eid (Some (plan.notice - i)) ((base + i) % 5000) x)) page_index

rounds_noticed : (plan : Plan) (s : State) (l : ℕ) → s.left ≡ Some l → 1 ≤ l → l ≤ plan.notice
    → sent_rounds plan s ≡ both_rounds plan s.current s.next
rounds_noticed plan s l is some within =
    let yes = ap (is_noticed plan.notice) is ∙ noticed plan.notice l some within in
    ap (λ (b : Bool). rounds plan.layout (page_set s.current (cond b (Some s.next) None))) yes

count_up : (base a : ℕ) → ((base + a) % 5000 + 1) % 5000 ≡ (base + suc a) % 5000
count_up base a = omega arith

notice_is : (plan : Plan) (k a base : ℕ) (s : State) → s.left ≡ Some (plan.notice - a) → s.count ≡ (base + a) % 5000
    → s.page_index ≡ page_of (both_rounds plan s.current s.next) a → a + k ≤ plan.notice
    → notice_frames plan k s ≡ frames_from (notice_at plan s.current s.next s.eid base) a k
unfolding frames_from
notice_is plan zero a base s left count page_index within = refl
notice_is plan (suc k) a base s left count page_index within =
    let t : State = with_next_counts plan s in
    let f : ℕ → List ℕ = notice_at plan s.current s.next s.eid base in
    let some : 1 ≤ plan.notice - a = omega (arith, within) in
    let fewer : plan.notice - a - 1 ≡ plan.notice - suc a = omega arith in
    let left_next : t.left ≡ Some (plan.notice - suc a) = ap left_after_frame left ∙ ap (λ (x : ℕ). Some x) fewer in
    let count_next : t.count ≡ (base + suc a) % 5000 = ap (λ (x : ℕ). (x + 1) % 5000) count ∙ count_up base a in
    let pages : ℕ = both_rounds plan s.current s.next in
    let turn_next : t.page_index ≡ page_of pages (suc a) =
    cc (rounds_noticed plan s (plan.notice - a) left some (omega arith), page_index, page_of_next pages a) in
    let rest = notice_is plan k (suc a) base t left_next count_next turn_next (omega (arith, within)) in
    cc (shown_as plan s base a left count page_index, rest)

-- the CIF count at the beginning of the notice whose swap falls this many frames later
abbrev pub base_of : Plan → ℕ → ℕ → ℕ
base_of plan count l = (count + l + 5000 - plan.notice) % 5000

pub heard_is : (plan : Plan) (s : State) (l : ℕ) → s.left ≡ Some l
    → heard_of plan s ≡ frames_from (notice_at plan s.current s.next s.eid (base_of plan s.count l)) 0 (plan.notice - l)
heard_is plan s l is =
    let base : ℕ = base_of plan s.count l in
    let whole : plan.notice ≡ plan.notice - 0 = omega arith in
    ap (heard_left plan s) is ∙ notice_is plan (plan.notice - l) 0 base (notice_begin plan l s)
    (ap (λ (x : ℕ). Some x) whole) (omega arith) (sym (page_of_first _)) (omega arith)

heard_none : (plan : Plan) (s : State) → s.left ≡ None → heard_of plan s ≡ []
heard_none plan s none = ap (heard_left plan s) none

-- ---- from a state to the one that its frame's bytes are made from

pub record Links (plan : Plan) (s u : State) : Type 0 where
  pub due : is_due s.left ≡ true → IsNewly plan s.count u.left
  pub left : is_due s.left ≡ false → LeftBy plan s.count s.left s.next u.left u.next
  pub current : is_due s.left ≡ false → u.current ≡ s.current
  pub count : u.count ≡ s.count
  pub eid : u.eid ≡ s.eid

links_by : (plan : Plan) (s u : State) (b : Bool) → is_due s.left ≡ b → Carries plan (cond b (with_swap s) s) u
    → Links plan s u
links_by plan s u true e h =
    record {
      due = λ yes. h.left;
      left = λ not_so. let clash : true ≡ false = sym e ∙ not_so in absurd cc;
      current = λ not_so. let clash : true ≡ false = sym e ∙ not_so in absurd cc;
      count = h.count;
      eid = h.eid;
    }
links_by plan s u false e h =
    record {
      due = λ yes. let clash : true ≡ false = sym yes ∙ e in absurd cc;
      left = λ not_so. h.left;
      current = λ not_so. h.current;
      count = h.count;
      eid = h.eid;
    }

links_turned : (plan : Plan) (s u : State) → Links plan s u → (b : Bool)
    → Links plan s (cond b (let r : State = record u { page_index = 0 } in r) u)
links_turned plan s u h true = record { due = h.due; left = h.left; current = h.current; count = h.count; eid = h.eid }
links_turned plan s u h false = h

pub links : (p : Program) (ts : List Known) → IsCode p ts → (s : State) → Holds p ts s → Links p.plan s (shown p s)
links p ts c s h =
    let goes = frame_goes p ts c.program c.typing s h.between in
    let carried = frame_carries p c.program s goes.allowed.steps goes.allowed.executes in
    links_turned _ s _ (links_by _ s _ _ refl carried) _

-- ---- what was heard before the frame

due_nothing : (s : State) (heard : List (List ℕ)) → is_due s.left ≡ true → heard_before s heard ≡ []
due_nothing s heard e = ap (λ (b : Bool). cond b [] heard) e

not_due_same : (s : State) (heard : List (List ℕ)) → is_due s.left ≡ false → heard_before s heard ≡ heard
not_due_same s heard e = ap (λ (b : Bool). cond b [] heard) e

pub none_some : {X : Type 0} (l : ℕ) (o : Option ℕ) → o ≡ None → o ≡ Some l → X
none_some l o e f = absurd cc

-- by the frames left in the state that the bytes are made from
nothing_heard : (plan : Plan) (s u : State) (before : Option ℕ) → s.left ≡ before
    → LeftBy plan s.count before s.next u.left u.next → u.left ≡ None → heard_of plan s ≡ []
nothing_heard plan s u None e g none = heard_none plan s e
nothing_heard plan s u (Some k) e g none = none_some k u.left none g.0

early_heard : (plan : Plan) (s u : State) (before : Option ℕ) (l : ℕ) → s.left ≡ before
    → LeftBy plan s.count before s.next u.left u.next → u.left ≡ Some l → plan.notice ≤ l → heard_of plan s ≡ []
unfolding frames_from
early_heard plan s u None l e g is past = heard_none plan s e
early_heard plan s u (Some k) l e g is past =
    let equal : l ≡ k = cc (sym is ∙ g.0) in
    let none : plan.notice - k ≡ 0 = omega (arith, past, equal) in
    heard_is plan s k e ∙ ap (frames_from (notice_at plan s.current s.next s.eid (base_of plan s.count k)) 0) none

late_heard : (plan : Plan) (s u : State) (before : Option ℕ) (l : ℕ) → s.left ≡ before
    → LeftBy plan s.count before s.next u.left u.next → u.left ≡ Some l → l < plan.notice
    → u.current ≡ s.current → u.count ≡ s.count → u.eid ≡ s.eid
    → heard_of plan s ≡ frames_from (notice_at plan u.current u.next u.eid (base_of plan u.count l)) 0 (plan.notice - l)
late_heard plan s u None l e g is below c k i =
    absurd (omega (arith, (subst (λ (o : Option ℕ). IsNewly plan s.count o) is g).0, below))
late_heard plan s u (Some k) l e g is below c d i =
    let form : Configuration → Configuration → ℕ → ℕ → ℕ → List (List ℕ) =
    λ x y z w v. frames_from (notice_at plan x y z (base_of plan w v)) 0 (plan.notice - v) in
    cc (heard_is plan s k e, c, g.1, i, d)

new_late : (plan : Plan) (count : ℕ) (left : Option ℕ) (l : ℕ) → IsNewly plan count left → left ≡ Some l
    → plan.notice ≤ l
new_late plan count left l new is =
    (subst (λ (o : Option ℕ). IsNewly plan count o) is new).0

before_none : (plan : Plan) (s u : State) → Links plan s u → u.left ≡ None → (b : Bool) → is_due s.left ≡ b
    → heard_before s (heard_of plan s) ≡ []
before_none plan s u h none true e = due_nothing s (heard_of plan s) e
before_none plan s u h none false e = not_due_same s _ e ∙ nothing_heard plan s u s.left refl (h.left e) none

before_early : (plan : Plan) (s u : State) (l : ℕ) → Links plan s u → u.left ≡ Some l → plan.notice ≤ l → (b : Bool)
    → is_due s.left ≡ b → heard_before s (heard_of plan s) ≡ []
before_early plan s u l h is past true e = due_nothing s (heard_of plan s) e
before_early plan s u l h is past false e = not_due_same s _ e ∙ early_heard plan s u _ l refl (h.left e) is past

before_late : (plan : Plan) (s u : State) (l : ℕ) → Links plan s u → u.left ≡ Some l → l < plan.notice → (b : Bool)
    → is_due s.left ≡ b
    → heard_before s (heard_of plan s) ≡ frames_from (notice_at plan u.current u.next u.eid (base_of plan u.count l)) 0
    (plan.notice - l)
before_late plan s u l h is below true e = absurd (omega (arith, below, new_late plan s.count u.left l (h.due e) is))
before_late plan s u l h is below false e =
    not_due_same s _ e ∙ late_heard plan s u _ l refl (h.left e) is below (h.current e) h.count h.eid

-- in a frame of the notice: what was heard are the frames before it
before_noticed : (plan : Plan) (s u : State) (l : ℕ) → Links plan s u → u.left ≡ Some l → l ≤ plan.notice
    → heard_before s (heard_of plan s) ≡ frames_from (notice_at plan u.current u.next u.eid (base_of plan u.count l)) 0
    (plan.notice - l)
unfolding frames_from
before_noticed plan s u l h is within =
    elim (split_le plan.notice l) [
      | inl first ↦
          let none : 0 ≡ plan.notice - l = omega (arith, first) in
          before_early plan s u l h is first (is_due s.left) refl
          ∙ ap (frames_from (notice_at plan u.current u.next u.eid (base_of plan u.count l)) 0) none
      | inr below ↦ before_late plan s u l h is below (is_due s.left) refl
    ]

-- ---- after the frame

same_base : (notice count l : ℕ) → 1 ≤ l → notice ≤ 5000
    → ((count + 1) % 5000 + (l - 1) + 5000 - notice) % 5000 ≡ (count + l + 5000 - notice) % 5000
same_base notice count l some short = omega (arith, some, short)

this_count : (notice count l : ℕ) → count < 5000 → l ≤ notice → notice ≤ 5000
    → count ≡ ((count + l + 5000 - notice) % 5000 + (notice - l)) % 5000
this_count notice count l below within short = omega (arith, below, within, short)

heard_next : (plan : Plan) (s u : State) (bytes : List ℕ) (left : Option ℕ) → plan.notice ≤ 5000 → u.left ≡ left
    → Links plan s u → Airs plan u → bytes ≡ shown_bytes plan u
    → cond (is_noticed plan.notice left) (heard_before s (heard_of plan s) ++ bytes ∷ [])
    (heard_before s (heard_of plan s)) ≡ heard_of plan (with_next_counts plan u)
unfolding frames_from
heard_next plan s u bytes None short is h a shows =
    let none : (with_next_counts plan u).left ≡ None = ap left_after_frame is in
    before_none plan s u h is (is_due s.left) refl ∙ sym (heard_none plan (with_next_counts plan u) none)
heard_next plan s u bytes (Some l) short is h a shows =
    let t : State = with_next_counts plan u in
    let ahead : IsAhead (Some l) = subst IsAhead is a.ahead in
    let left : t.left ≡ Some (l - 1) = ap left_after_frame is in
    let f : ℕ → List ℕ = notice_at plan u.current u.next u.eid (base_of plan u.count l) in
    let page_index = subst (λ (o : Option ℕ). TurnShown plan o u.current u.next u.page_index) is a.page_index in
    let base : base_of plan t.count (l - 1) ≡ base_of plan u.count l = same_base plan.notice u.count l ahead short in
    let after : heard_of plan t ≡ frames_from f 0 (plan.notice - (l - 1)) = cc (heard_is plan t (l - 1) left, base) in
    elim (split_le l plan.notice) [
      | inl within ↦
          let up : plan.notice - (l - 1) ≡ suc (plan.notice - l) = omega (arith, within, ahead) in
          let back : plan.notice - (plan.notice - l) ≡ l = omega (arith, within) in
          let this : bytes ≡ f (0 + (plan.notice - l)) =
          shows
          ∙ shown_as plan u (base_of plan u.count l) (plan.notice - l) (is ∙ ap (λ (x : ℕ). Some x) (sym back))
          (this_count plan.notice u.count l a.count within short) (page_index.within within)
          ∙ ap f (omega arith) in
          ap (λ (b : Bool). cond b (heard_before s (heard_of plan s) ++ bytes ∷ []) (heard_before s (heard_of plan s)))
          (noticed plan.notice l ahead within)
          ∙ ap (λ xs. xs ++ bytes ∷ []) (before_noticed plan s u l h is within)
          ∙ ap (λ (x : List ℕ). frames_from f 0 (plan.notice - l) ++ x ∷ []) this
          ∙ sym (after ∙ ap (frames_from f 0) up ∙ frames_more f 0 (plan.notice - l))
      | inr past ↦
          let none : plan.notice - (l - 1) ≡ 0 = omega (arith, past) in
          ap (λ (b : Bool). cond b (heard_before s (heard_of plan s) ++ bytes ∷ []) (heard_before s (heard_of plan s)))
          (not_noticed plan.notice l past)
          ∙ before_early plan s u l h is (omega (arith, past)) (is_due s.left) refl
          ∙ sym (after ∙ ap (frames_from f 0) none)
    ]

pub heard_frame : (p : Program) (ts : List Known) → IsCode p ts → (s : State) → Holds p ts s
    → heard_after p s (heard_of p.plan s) ≡ heard_of p.plan (after_frame p s)
heard_frame p ts c s h =
    heard_next _ s _ _ _ (omega (arith, c.program.planned.notice_to)) refl (links p ts c s h) (airs p ts c s h) refl
