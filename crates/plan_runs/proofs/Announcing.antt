-- Every swap was announced by the frames of its notice.
use Rattle.plan_runs.proofs.Words.{[], ◌%◌, ◌*◌, ◌++◌, ◌+◌, ◌-◌, ◌<◌, ◌==◌, ◌∙◌, ◌∷◌, ◌≡◌, ◌≤◌, Bool, Configuration}
use Rattle.plan_runs.proofs.Words.{Contact, Contains, Contains-append_right, EnsembleInformation, Event, Frame}
use Rattle.plan_runs.proofs.Words.{FrameRuns, HasHeader, HasThreeHeaders, HeardIsKnown, I, IsAnnounced, IsConfiguration}
use Rattle.plan_runs.proofs.Words.{IsEnsembleHeardInRow, IsFlagged, IsHeaded, IsHeardInRow, IsHeardWhole, Known, List}
use Rattle.plan_runs.proofs.Words.{Marked, Mode, None, Option, Plan, Program, Runs, Some, State, SwapsAreAnnounced}
use Rattle.plan_runs.proofs.Words.{after_frame, ap, append_assoc, arith, bits_of, change_of, cond, count_step}
use Rattle.plan_runs.proofs.Words.{ensemble_of, ensemble_sent, facts_of, false, happens, heard_after, heard_along}
use Rattle.plan_runs.proofs.Words.{heard_of, is_due, is_noticed, layout_mode, low_of_swap, lt-ltb, ltb, ltb-true}
use Rattle.plan_runs.proofs.Words.{page_after, page_entries, page_set, refl, run, sent_entries, shown_bytes, subst, suc}
use Rattle.plan_runs.proofs.Words.{sym, true, with_contact, zero, ℕ}
use Rattle.plan_runs.proofs.Knowledge.{IsOnAir, IsCommitted, CommittedBy}
use Rattle.plan_runs.proofs.Passing.{due_is}
use Rattle.plan_runs.proofs.Tracked.{Airs, SwapsOn, page_of, page_of_first, page_of_next, noticed, some_rounds}
use Rattle.plan_runs.proofs.Between.{frame_goes}
use Rattle.plan_runs.proofs.Facts.{Holds, IsCode, frame_holds, happens_holds, code_of, played_holds}
use Rattle.plan_runs.proofs.Right.{PageLaws, pageable, is_sent}
use Rattle.plan_runs.proofs.Notice.{frames_from, frames_cut, frames_get, frames_contain, contains_frame, noticed_state}
use Rattle.plan_runs.proofs.Notice.{both_rounds, notice_at, notice_at_is, base_of, heard_is, heard_frame}

-- ---- the cycle of pages

pub page_up : (pages k : ℕ) → k < pages → page_of pages k ≡ k
page_up pages zero below = page_of_first pages
page_up pages (suc k) below =
    let before = page_up pages k (omega (arith, below)) in
    let one : k + 1 ≡ suc k = omega arith in
    cc (page_of_next pages k, before, lt-ltb (k + 1) pages (omega (arith, below)), one)

wraps_by : (pages k : ℕ) → k + 1 ≡ pages → (b : Bool) → ltb (k + 1) pages ≡ b → cond b (k + 1) 0 ≡ 0
wraps_by pages k last true e = let below = ltb-true (k + 1) pages e in absurd (omega (arith, below, last))
wraps_by pages k last false e = refl

pub page_wraps : (pages k : ℕ) → k + 1 ≡ pages → page_after pages k ≡ 0
page_wraps pages k last = wraps_by pages k last (ltb (k + 1) pages) refl

-- after as many frames as there are pages, page 0 is in turn again
page_whole : (pages : ℕ) → 1 ≤ pages → page_of pages pages ≡ 0
page_whole zero some = absurd (omega (arith, some))
page_whole (suc k) some = page_of_next (suc k) k ∙ ap (page_after (suc k)) (page_up (suc k) k (omega arith))
    ∙ page_wraps (suc k) k (omega arith)

page_round : (pages k : ℕ) → 1 ≤ pages → page_of pages (pages + k) ≡ page_of pages k
page_round pages zero some =
    ap (page_of pages) (omega arith) ∙ page_whole pages some ∙ sym (page_of_first pages)
page_round pages (suc k) some =
    let up : pages + suc k ≡ suc (pages + k) = omega arith in
    cc (up, page_of_next pages (pages + k), page_round pages k some, page_of_next pages k)

-- ---- one frame of a notice

-- what is known where a swap is due
pub record IsDue (plan : Plan) (c n : Configuration) (eid count : ℕ) : Type 0 where
  pub notice_from : 12 ≤ plan.notice
  pub notice_to : plan.notice ≤ 248
  pub count_low : count < 5000
  pub eid_low : eid < 65536
  pub current : IsConfiguration c
  pub next : IsConfiguration n
  pub on_air : IsOnAir plan c
  pub committed : IsCommitted plan c n
  pub on_step : count % count_step (layout_mode plan.layout) ≡ 0

swap_base : (m : Mode) (notice count i : ℕ) → i < notice → notice ≤ 248 → count < 5000 → count % count_step m ≡ 0
    → (((count + 0 + 5000 - notice) % 5000 + i) % 5000 + (notice - i)) % count_step m ≡ 0
swap_base I notice count i below short low whole = omega (arith, below, short, low, whole)
swap_base _ notice count i below short low whole = omega (arith, below, short, low, whole)

frame_count : (x : ℕ) → x % 5000 < 5000
frame_count x = omega arith

pub notice_airs : (plan : Plan) (c n : Configuration) (eid count i : ℕ) → IsDue plan c n eid count → i < plan.notice
    → Airs plan (noticed_state plan c n eid (base_of plan count 0) i)
notice_airs plan c n eid count i d below =
    let ahead : 1 ≤ plan.notice - i = omega (arith, below) in
    record {
      count = frame_count (base_of plan count 0 + i);
      eid = d.eid_low;
      current = d.current;
      next = d.next;
      ahead = ahead;
      on_air = d.on_air;
      committed = d.committed;
      swaps = swap_base (layout_mode plan.layout) plan.notice count i below d.notice_to d.count_low d.on_step;
      page_index = record {
        within = λ inside. sym (ap (page_of (both_rounds plan c n)) (omega (arith, below)));
        before = λ past. absurd (omega (arith, past));
      };
    }

notice_entries : (plan : Plan) (c n : Configuration) (eid base i : ℕ) → i < plan.notice
    → sent_entries plan (noticed_state plan c n eid base i) ≡ page_set c (Some n)
notice_entries plan c n eid base i below =
    let yes = noticed plan.notice (plan.notice - i) (omega (arith, below)) (omega arith) in
    ap (λ (b : Bool). page_set c (cond b (Some n) None)) yes

-- an entry of the page in turn is heard
pub notice_hears : PageLaws → (plan : Plan) (c n : Configuration) (eid count i : ℕ) → IsDue plan c n eid count
    → i < plan.notice → (m : Marked)
    → Contains (page_entries plan.layout (page_of (both_rounds plan c n) i) (page_set c (Some n))) m
    → IsHeardInRow (notice_at plan c n eid (base_of plan count 0) i) m
notice_hears laws plan c n eid count i d below m inside =
    let base : ℕ = base_of plan count 0 in
    let st : State = noticed_state plan c n eid base i in
    let a = notice_airs plan c n eid count i d below in
    let there : Contains (page_entries plan.layout st.page_index (sent_entries plan st)) m =
    rw (notice_entries plan c n eid base i below) inside in
    let heard : IsHeardInRow (shown_bytes plan st) m =
    (laws.heard plan.layout (ensemble_sent plan st) st.page_index (sent_entries plan st) (pageable laws plan st a)
    m).1 there in
    subst (λ (b : List ℕ). IsHeardInRow b m) (sym (notice_at_is plan c n eid base i)) heard

-- ---- three parts

-- a part of the notice that starts when page 0 is in turn, and has all pages
part_whole : PageLaws → (plan : Plan) (c n : Configuration) (eid count a k : ℕ) → IsDue plan c n eid count
    → ((j : ℕ) → page_of (both_rounds plan c n) (a + j) ≡ page_of (both_rounds plan c n) j)
    → both_rounds plan c n ≤ k → a + k ≤ plan.notice → IsHeardWhole n true
    (frames_from (notice_at plan c n eid (base_of plan count 0)) a k)
part_whole laws plan c n eid count a k d again long within m inside =
    let f : ℕ → List ℕ = notice_at plan c n eid (base_of plan count 0) in
    let pages : ℕ = both_rounds plan c n in
    let there = laws.each plan.layout (page_set c (Some n)) m
    (Contains-append_right (facts_of c false) (facts_of n true) m inside) in
    let j : ℕ = there.0 in
    let page_index : page_of pages (a + j) ≡ j = again j ∙ page_up pages j there.1 in
    let here : Contains (page_entries plan.layout (page_of pages (a + j)) (page_set c (Some n))) m =
    subst (λ (x : ℕ). Contains (page_entries plan.layout x (page_set c (Some n))) m) (sym page_index) there.2 in
    let below : a + j < plan.notice = omega (arith, there.1, long, within) in (
      f (a + j),
      contains_frame f a k (a + j) (omega arith) (omega (arith, there.1, long)),
      notice_hears laws plan c n eid count (a + j) d below m here,
    )

-- ---- FIG 0/0 of the notice

-- a frame in which FIG 0/0 is sent: there are three of them before the swap
header_count : (m : Mode) (notice count j : ℕ) → 1 ≤ j → j ≤ 3 → 12 ≤ notice → notice ≤ 248 → count < 5000
    → count % count_step m ≡ 0
    → ((count + 0 + 5000 - notice) % 5000 + (notice - j * count_step m)) % 5000 % count_step m ≡ 0
header_count I notice count j some three long short low whole = omega (arith, some, three, long, short, low, whole)
header_count _ notice count j some three long short low whole = omega (arith, some, three, long, short, low, whole)

header_at : PageLaws → (plan : Plan) (c n : Configuration) (eid count i : ℕ) → IsDue plan c n eid count
    → i < plan.notice → (base_of plan count 0 + i) % 5000 % count_step (layout_mode plan.layout) ≡ 0
    → HasHeader (notice_at plan c n eid (base_of plan count 0) i)
header_at laws plan c n eid count i d below whole =
    let base : ℕ = base_of plan count 0 in
    let st : State = noticed_state plan c n eid base i in
    let a = notice_airs plan c n eid count i d below in
    let heard : IsEnsembleHeardInRow (shown_bytes plan st) false (ensemble_of plan st) =
    (laws.ensemble plan.layout (ensemble_sent plan st) st.page_index (sent_entries plan st) (pageable laws plan st a)
    false (ensemble_of plan st)).1 (refl, is_sent plan st whole) in (
      false,
      ensemble_of plan st,
      subst (λ (b : List ℕ). IsEnsembleHeardInRow b false (ensemble_of plan st))
          (sym (notice_at_is plan c n eid base i)) heard,
    )

header_below : (m : Mode) (notice j : ℕ) → 1 ≤ j → 12 ≤ notice → notice - j * count_step m < notice
header_below I notice j some long = omega (arith, some, long)
header_below _ notice j some long = omega (arith, some, long)

headed_at : PageLaws → (plan : Plan) (c n : Configuration) (eid count j : ℕ) → IsDue plan c n eid count → 1 ≤ j → j ≤ 3
    → IsHeaded (frames_from (notice_at plan c n eid (base_of plan count 0)) 0 plan.notice)
    (plan.notice - j * count_step (layout_mode plan.layout))
headed_at laws plan c n eid count j d some three =
    let f : ℕ → List ℕ = notice_at plan c n eid (base_of plan count 0) in
    let i : ℕ = plan.notice - j * count_step (layout_mode plan.layout) in
    let below : i < plan.notice = header_below (layout_mode plan.layout) plan.notice j some d.notice_from in
    let whole = header_count _ _ count j some three d.notice_from d.notice_to d.count_low d.on_step in
    let at = frames_get f 0 plan.notice i below ∙ ap (λ (x : ℕ). Some (f x)) (omega arith) in
    (f i, at, header_at laws plan c n eid count i d below whole)

headers_rise : (m : Mode) (notice : ℕ) → 12 ≤ notice → (notice - 3 * count_step m < notice - 2 * count_step m)
    × (notice - 2 * count_step m < notice - 1 * count_step m)
headers_rise I notice long = (omega (arith, long), omega (arith, long))
headers_rise _ notice long = (omega (arith, long), omega (arith, long))

three_headers : PageLaws → (plan : Plan) (c n : Configuration) (eid count : ℕ) → IsDue plan c n eid count
    → HasThreeHeaders (frames_from (notice_at plan c n eid (base_of plan count 0)) 0 plan.notice)
three_headers laws plan c n eid count d =
    let rise = headers_rise (layout_mode plan.layout) plan.notice d.notice_from in
    record {
      first = plan.notice - 3 * count_step (layout_mode plan.layout);
      second = plan.notice - 2 * count_step (layout_mode plan.layout);
      third = plan.notice - 1 * count_step (layout_mode plan.layout);
      before_second = rise.0;
      before_third = rise.1;
      in_first = headed_at laws plan c n eid count 3 d (omega arith) (omega arith);
      in_second = headed_at laws plan c n eid count 2 d (omega arith) (omega arith);
      in_third = headed_at laws plan c n eid count 1 d (omega arith) (omega arith);
    }

-- ---- each FIG 0/0 is flagged

swap_low : (notice count i : ℕ) → i < notice → notice ≤ 248 → count < 5000
    → (((count + 0 + 5000 - notice) % 5000 + i) % 5000 + (notice - i)) % 5000 % 250 ≡ count % 250
swap_low notice count i below short low = omega (arith, below, short, low)

-- the ensemble information that is sent is that of the state
sent_by : (plan : Plan) (s : State) (e : EnsembleInformation) (b : Bool)
    → cond b (Some (ensemble_of plan s)) None ≡ Some e → ensemble_of plan s ≡ e
sent_by plan s e true h = cc h
sent_by plan s e false h = absurd cc

pub sent_is : (plan : Plan) (s : State) (e : EnsembleInformation) → ensemble_sent plan s ≡ Some e
    → ensemble_of plan s ≡ e
sent_is plan s e h = sent_by plan s e (s.count % count_step (layout_mode plan.layout) == 0) h

-- in a notice it has the change flags and the occurrence
pub record IsNoticeInformation (s : State) (e : EnsembleInformation) : Type 0 where
  pub change : e.change ≡ bits_of (change_of s.current s.next)
  pub occurrence : e.occurrence ≡ Some (low_of_swap s.count s.left)

noticed_by : (s : State) (b : Bool) → b ≡ true
    → IsNoticeInformation s
    (cond b (let r : EnsembleInformation = record {
      eid = s.eid;
      change = bits_of (change_of s.current s.next);
      al = false;
      count = s.count;
      occurrence = Some (low_of_swap s.count s.left);
    } in r)
    (record { eid = s.eid; change = 0; al = false; count = s.count; occurrence = None }))
noticed_by s true e = record { change = refl; occurrence = refl }
noticed_by s false e = absurd cc

pub noticed_information : (plan : Plan) (s : State) → is_noticed plan.notice s.left ≡ true
    → IsNoticeInformation s (ensemble_of plan s)
noticed_information plan s e = noticed_by s (is_noticed plan.notice s.left) e

flagged_at : PageLaws → (plan : Plan) (c n : Configuration) (eid count i : ℕ) → IsDue plan c n eid count
    → i < plan.notice → (marked : Bool) (e : EnsembleInformation)
    → IsEnsembleHeardInRow (notice_at plan c n eid (base_of plan count 0) i) marked e → IsFlagged c n count e
flagged_at laws plan c n eid count i d below marked e heard =
    let base : ℕ = base_of plan count 0 in
    let st : State = noticed_state plan c n eid base i in
    let there = subst (λ (b : List ℕ). IsEnsembleHeardInRow b marked e) (notice_at_is plan c n eid base i) heard in
    let sent = (laws.ensemble plan.layout (ensemble_sent plan st) st.page_index (sent_entries plan st)
    (pageable laws plan st (notice_airs plan c n eid count i d below)) marked e).0 there in
    let info = noticed_information plan st
    (noticed plan.notice (plan.notice - i) (omega (arith, below)) (omega arith)) in
    let low = swap_low plan.notice count i below d.notice_to d.count_low in
    let flags : IsFlagged c n count (ensemble_of plan st) =
    (info.change, info.occurrence ∙ ap (λ (x : ℕ). Some x) low) in
    subst (λ (x : EnsembleInformation). IsFlagged c n count x) (sent_is plan st e sent.1) flags

-- ---- the notice

pub notice_announces : PageLaws → (plan : Plan) (c n : Configuration) (eid count : ℕ) → IsDue plan c n eid count
    → IsAnnounced c n count (frames_from (notice_at plan c n eid (base_of plan count 0)) 0 plan.notice)
notice_announces laws plan c n eid count d =
    let f : ℕ → List ℕ = notice_at plan c n eid (base_of plan count 0) in
    let pages : ℕ = both_rounds plan c n in
    let some = some_rounds plan.layout (page_set c (Some n)) in
    let rest : ℕ = plan.notice - (pages + pages) in
    let all : plan.notice ≡ pages + (pages + rest) = omega arith in
    let cut : frames_from f 0 plan.notice ≡ frames_from f 0 pages ++ frames_from f (0 + pages) pages
    ++ frames_from f (0 + pages + pages) rest =
    ap (frames_from f 0) all ∙ frames_cut f 0 pages (pages + rest)
    ∙ ap (λ xs. frames_from f 0 pages ++ xs) (frames_cut f (0 + pages) pages rest)
    ∙ sym (append_assoc (frames_from f 0 pages) (frames_from f (0 + pages) pages)
    (frames_from f (0 + pages + pages) rest)) in
    let none : (j : ℕ) → page_of pages (0 + j) ≡ page_of pages j = λ j. let same : 0 + j ≡ j = omega arith in
    ap (page_of pages) same in
    let once : (j : ℕ) → page_of pages (0 + pages + j) ≡ page_of pages j = λ j. let same : 0 + pages + j ≡ pages + j =
    omega arith in ap (page_of pages) same ∙ page_round pages j some in
    let twice : (j : ℕ) → page_of pages (0 + pages + pages + j) ≡ page_of pages j =
    λ j. let same : 0 + pages + pages + j ≡ pages + (pages + j) = omega arith in
    ap (page_of pages) same ∙ page_round pages (pages + j) some ∙ page_round pages j some in
    record {
      first = frames_from f 0 pages;
      second = frames_from f (0 + pages) pages;
      third = frames_from f (0 + pages + pages) rest;
      cut = cut;
      whole_in_first = part_whole laws plan c n eid count 0 pages d none (omega arith) (omega arith);
      whole_in_second = part_whole laws plan c n eid count (0 + pages) pages d once (omega arith) (omega arith);
      whole_in_third = part_whole laws plan c n eid count (0 + pages + pages) rest d twice (omega arith)
          (omega arith);
      headers = three_headers laws plan c n eid count d;
      flagged = λ frame marked e inside heard.
          let at = frames_contain f 0 plan.notice frame inside in
          flagged_at laws plan c n eid count at.number d (omega (arith, at.below)) marked e
          (subst (λ (b : List ℕ). IsEnsembleHeardInRow b marked e) (sym at.is) heard);
    }

-- ---- runs

pub due_left : (left : Option ℕ) → is_due left ≡ true → left ≡ Some 0
due_left None e = absurd cc
due_left (Some l) e = ap (λ (x : ℕ). Some x) (due_is l e)

swap_announced : PageLaws → (p : Program) (ts : List Known) → IsCode p ts → (s : State) → Holds p ts s
    → is_due s.left ≡ true → IsAnnounced s.current s.next s.count (heard_of p.plan s)
swap_announced laws p ts c s h due =
    let is = due_left s.left due in
    let whole = subst (λ (o : Option ℕ). SwapsOn p.plan s.count o) is h.tracked.swaps in
    let all : p.plan.notice - 0 ≡ p.plan.notice = omega arith in
    let d : IsDue p.plan s.current s.next s.eid s.count =
    record {
      notice_from = omega (arith, c.program.planned.notice_from);
      notice_to = omega (arith, c.program.planned.notice_to);
      count_low = h.tracked.count;
      eid_low = h.tracked.eid;
      current = h.tracked.current;
      next = h.tracked.next;
      on_air = h.between.kept.on_air;
      committed = subst (λ (o : Option ℕ). CommittedBy p.plan o s.current s.next) is h.between.kept.committed;
      on_step = subst (λ (x : ℕ). x % count_step (layout_mode p.plan.layout) ≡ 0) (omega arith) whole;
    } in
    let heard : heard_of p.plan s ≡ frames_from (notice_at p.plan s.current s.next s.eid (base_of p.plan s.count 0)) 0
    p.plan.notice = cc (heard_is p.plan s 0 is, all) in
    rw heard (notice_announces laws p.plan s.current s.next s.eid s.count d)

-- contacts do not affect what was heard
pub heard_contacts : (plan : Plan) (s : State) (d : ℕ) (closed : Bool) (left : Option ℕ) → s.left ≡ left
    → heard_of plan (let r : State = record s { contacts = with_contact d closed s.contacts } in r) ≡ heard_of plan s
heard_contacts plan s d closed None e = cc (e)
heard_contacts plan s d closed (Some l) e = heard_is plan (record s { contacts = with_contact d closed s.contacts }) l e
    ∙ sym (heard_is plan s l e)

runs_as : (p : Program) (s : State) (a b : List (List ℕ)) (events : List Event) → a ≡ b → Runs p s a events
    → Runs p s b events
runs_as p s a b events e h = subst (λ (xs : List (List ℕ)). Runs p s xs events) e h

pub swaps_run : PageLaws → (p : Program) (ts : List Known) → IsCode p ts → (s : State) (events : List Event)
    → Holds p ts s → Runs p s (heard_of p.plan s) events
swaps_run laws p ts c s [] h = tt
swaps_run laws p ts c s (Contact d closed ∷ es) h =
    let t : State = happens p s (Contact d closed) in
    let rest = swaps_run laws p ts c t es (happens_holds p ts c s (Contact d closed) h) in
    (tt, runs_as p t (heard_of p.plan t) (heard_of p.plan s) es (heard_contacts p.plan s d closed s.left refl) rest)
swaps_run laws p ts c s (Frame ∷ es) h =
    let t : State = after_frame p s in
    let rest = swaps_run laws p ts c t es (frame_holds p ts c s h) in
    let one : FrameRuns p s (heard_of p.plan s) =
    record {
      allowed = (frame_goes p ts c.program c.typing s h.between).allowed;
      announced = swap_announced laws p ts c s h;
    } in
    (one, runs_as p t (heard_of p.plan t) (heard_after p s (heard_of p.plan s)) es (sym (heard_frame p ts c s h)) rest)

pub heard_run : (p : Program) (ts : List Known) → IsCode p ts → (s : State) (events : List Event) → Holds p ts s
    → heard_along p s (heard_of p.plan s) events ≡ heard_of p.plan (run p s events)
heard_run p ts c s [] h = refl
heard_run p ts c s (Contact d closed ∷ es) h =
    let t : State = happens p s (Contact d closed) in
    ap (λ xs. heard_along p t xs es) (sym (heard_contacts p.plan s d closed s.left refl))
    ∙ heard_run p ts c t es (happens_holds p ts c s (Contact d closed) h)
heard_run p ts c s (Frame ∷ es) h =
    let t : State = after_frame p s in
    ap (λ xs. heard_along p t xs es) (heard_frame p ts c s h) ∙ heard_run p ts c t es (frame_holds p ts c s h)

pub heard_is_known : HeardIsKnown
heard_is_known p s events h = heard_run p h.typed.0 (code_of p s h) s events (played_holds p s h)

pub swaps_are_announced : PageLaws → SwapsAreAnnounced
swaps_are_announced laws p s events h = swaps_run laws p h.typed.0 (code_of p s h) s events (played_holds p s h)
