-- What the checker hears of the next configuration in the frames of a run: a row for each frame, three times in all.
use Rattle.stream_laws.proofs.Words.{[], ◌%◌, ◌&&◌, ◌++◌, ◌||◌, ◌∙◌, ◌∷◌, ◌≡◌, ◌≢◌, ◌≤◌, Airs, AllByRecursion, Bool}
use Rattle.stream_laws.proofs.Words.{Configuration, Contact, Contains, Contains-append_left, Contains-append_right}
use Rattle.stream_laws.proofs.Words.{Ended, EnsembleInformation, Frame, HasHeader, Holds, IsCode, IsHeardInRow}
use Rattle.stream_laws.proofs.Words.{IsPartial, IsTheMost, Item, Known, KnowsBy, KnowsPending, List, Listening, Marked}
use Rattle.stream_laws.proofs.Words.{Moment, None, Nothing, Option, Plan, Program, Reading, Said, Some, State}
use Rattle.stream_laws.proofs.Words.{after_frame, after_is, airs, all_entries, and_false, ap, arith, begins_notice}
use Rattle.stream_laws.proofs.Words.{cond, contains_cases, contains_first, contains_in, contains_none, count_step}
use Rattle.stream_laws.proofs.Words.{ensemble_sent, entries_of, fact_in, facts_of, false, false≢true, frame_bytes}
use Rattle.stream_laws.proofs.Words.{frame_items, happens, has_begun, headed, hear_entry, heard_contacts, heard_of}
use Rattle.stream_laws.proofs.Words.{in_contains, in_fact, inl, inr, is_cut_off, is_due, is_flagged, is_swap, key_of}
use Rattle.stream_laws.proofs.Words.{layout_mode, le-ltb, listener_after, listening, map, mapped_to, marked}
use Rattle.stream_laws.proofs.Words.{member_has_begun, member_heard, member_row, member_rows, nat_lt, not, or_false}
use Rattle.stream_laws.proofs.Words.{or_parts, or_true, pageable, raw_entry, refl, row_at_hand, rows, said}
use Rattle.stream_laws.proofs.Words.{sent_entries, shown, shown_bytes, subst, swaps_run, sym, three_or_more}
use Rattle.stream_laws.proofs.Words.{times_heard, true, wanted, whole_of, zero_or_not, ℕ, due_left, unnoticed_left}
use Rattle.stream_laws.proofs.Rows.{HasNone}
use Rattle.stream_laws.proofs.LastHeard.{some_before, stays_tuned}
use Rattle.stream_laws.proofs.Framing.{read_frame}
use Rattle.stream_laws.proofs.Sending.{IsSentItem, not_sent}
use Rattle.stream_laws.proofs.AgreeingRuns.{on_air, IsBetween}
use Rattle.stream_laws.proofs.AgreeingFrames.{agrees_by, before_of}
use Rattle.stream_laws.proofs.NoticeFrames.{SaysNothing, HasNext, IsRowed, IsNoticing, IsReading, none_rowed}
use Rattle.stream_laws.proofs.NoticeFrames.{rowed_more, rowed_silent, AreKeysOf, announced_thrice}
use Rattle.stream_laws.proofs.Opening.{FrameLaws, IsOpened, entry_at_frame, items_at, past_after, next_opened}
use Rattle.stream_laws.proofs.Opening.{first_opened, cut_still}
use Rattle.stream_laws.proofs.Following.{more_heard, heard_then, cut_first}
use Rattle.stream_laws.proofs.Ages.{entry_of}

-- ---- a notice that has not begun

-- it has no frames
pub begun_rows : (past : List Moment) → has_begun past ≡ false → rows past ≡ []
begun_rows [] e = refl
begun_rows (Said i ∷ past) e =
    elim (is_swap past i) as (λ t. cond t (is_flagged i) (has_begun past || begins_notice past i) ≡ false
    → cond t [] (rows past) ≡ []) [
      | true ↦ λ h. refl
      | false ↦ λ h. begun_rows past (or_parts (has_begun past) (begins_notice past i) h).0
    ] e
begun_rows (Ended count ∷ past) e = ap (λ t. cond t (rows past ++ row_at_hand past ∷ []) []) e

-- ---- entries other than FIG 0/0

pub rows_stay : (items : List Item) (past : List Moment) → HasNone items → rows (said items past) ≡ rows past
rows_stay [] past none = refl
rows_stay (i ∷ is) past none = rows_stay is (Said i ∷ past) none.1 ∙ member_rows past i none.0

pub begun_stays : (items : List Item) (past : List Moment) → HasNone items → has_begun past ≡ true
    → has_begun (said items past) ≡ true
begun_stays [] past none e = e
begun_stays (i ∷ is) past none e =
    begun_stays is (Said i ∷ past) none.1 (member_has_begun past i none.0
    ∙ ap (λ t. t || ((listener_after past).tuned && i.next)) e)

row_stays : (key : ℕ) (items : List Item) (past : List Moment) → HasNone items → Contains (row_at_hand past) key
    → Contains (row_at_hand (said items past)) key
row_stays key [] past none h = h
row_stays key (i ∷ is) past none h =
    let more : List ℕ = cond ((listener_after past).tuned && i.next) (key_of i.raw ∷ []) [] in
    row_stays key is (Said i ∷ past) none.1
    (subst (λ (r : List ℕ). Contains r key) (sym (member_row past i none.0))
    (Contains-append_left (row_at_hand past) more key h))

-- entries with C/N 0 begin no notice
pub none_begins : (items : List Item) (past : List Moment) → HasNone items → AllByRecursion (λ i. i.next ≡ false) items
    → has_begun (said items past) ≡ has_begun past
none_begins [] past none all = refl
none_begins (i ∷ is) past none all =
    none_begins is (Said i ∷ past) none.1 all.1
    ∙ member_has_begun past i none.0
    ∙ ap (λ t. has_begun past || ((listener_after past).tuned && t)) all.0
    ∙ ap (λ t. has_begun past || t) (and_false (listener_after past).tuned)
    ∙ or_false (has_begun past)

-- the entry with this key was heard with C/N 1 in the current frame, and the notice has begun
pub record IsNoted (key : ℕ) (past : List Moment) : Type 0 where
  pub row : Contains (row_at_hand past) key
  pub begun : has_begun past ≡ true

-- an entry of the next configuration among these is heard
pub next_member : (key : ℕ) (items : List Item) (past : List Moment) (l after : Listening) → listening past ≡ Some l
    → l.tuned ≡ true → listening (said items past) ≡ Some after → HasNone items
    → (i : Item) → Contains items i → i.next ≡ true → key_of i.raw ≡ key → IsNoted key (said items past)
next_member key [] past l after is t all none i inside n k = absurd (contains_none i inside)
next_member key (j ∷ js) past l after is t all none i inside n k = elim (contains_cases j js i inside) [
  | inl same ↦ (
      let tuned : (listener_after past).tuned ≡ true = ap (λ (x : Listening). x.tuned) (after_is past l is) ∙ t in
      let next : j.next ≡ true = ap (λ (x : Item). x.next) same ∙ n in
      let keys : key_of j.raw ≡ key = ap (λ (x : Item). key_of x.raw) same ∙ k in
      let row : row_at_hand (Said j ∷ past) ≡ row_at_hand past ++ key_of j.raw ∷ [] =
      member_row past j none.0
      ∙ ap (λ b. row_at_hand past ++ cond (b && j.next) (key_of j.raw ∷ []) []) tuned
      ∙ ap (λ b. row_at_hand past ++ cond b (key_of j.raw ∷ []) []) next in
      let here : Contains (row_at_hand past ++ key_of j.raw ∷ []) (key_of j.raw) =
      Contains-append_right (row_at_hand past) (key_of j.raw ∷ []) (key_of j.raw)
      (contains_first (key_of j.raw) []) in
      let now : Contains (row_at_hand (Said j ∷ past)) key = rw (← keys) (rw row here) in
      let begun : has_begun (Said j ∷ past) ≡ true =
      member_has_begun past j none.0
      ∙ ap (λ b. has_begun past || (b && j.next)) tuned
      ∙ ap (λ b. has_begun past || b) next
      ∙ or_true (has_begun past) in
      record { row = row_stays key js (Said j ∷ past) none.1 now; begun = begun_stays js (Said j ∷ past) none.1 begun }
      )
  | inr more ↦ (
      let next = some_before js (Said j ∷ past) after all in
      let heard : hear_entry j.next j.raw l ≡ Some next.0 = sym (member_heard past j l is) ∙ next.1 in
      next_member key js (Said j ∷ past) next.0 after next.1 (stays_tuned j.next j.raw l next.0 t heard) all none.1 i
      more n k
      )
]

-- ---- a frame of a run

-- outside of a notice all entries have C/N 0
all_current : (c n : Configuration) (on : Bool) (items : List Item) → on ≡ false
    → AllByRecursion (IsSentItem on c n) items → AllByRecursion (λ i. i.next ≡ false) items
all_current c n on [] off all = tt
all_current c n on (i ∷ is) off all = (
  all.0.next
      ∙ elim all.0.sent [
        | inl current ↦ current.0
        | inr next ↦ absurd (false≢true (sym off ∙ next.0))
      ],
  all_current c n on is off all.1,
)

pub still_quiet : (plan : Plan) (u : State) (due : Bool) (past : List Moment) (items : List Item)
    → IsOpened plan u due past items → on_air plan u ≡ false
    → has_begun (said items past) ≡ cond due false (has_begun past)
still_quiet plan u due past items o off =
    ap has_begun o.are ∙ none_begins _ _ o.none (all_current _ _ _ _ off o.sent) ∙ o.unflagged off

pub rows_after : (plan : Plan) (u : State) (due : Bool) (past : List Moment) (items : List Item)
    → IsOpened plan u due past items → rows (said items past) ≡ cond due [] (rows past)
rows_after plan u due past items o = ap rows o.are ∙ rows_stay o.members (said o.heads past) o.none ∙ o.rows_left

-- an entry with C/N 1 that is heard in the bytes of the frame
pub next_noted : FrameLaws → (r : Reading) (plan : Plan) (u : State) → Airs plan u → (due : Bool) (past : List Moment)
    → IsOpened plan u due past (frame_items (read_frame r plan.layout (shown_bytes plan u))) → (after : Listening)
    → listening (said (frame_items (read_frame r plan.layout (shown_bytes plan u))) past) ≡ Some after → (m : Marked)
    → m.next ≡ true → IsHeardInRow (shown_bytes plan u) m
    → IsNoted (key_of (raw_entry m.entry)) (said (frame_items (read_frame r plan.layout (shown_bytes plan u))) past)
next_noted laws r plan u a due past o after all m next row =
    let key : ℕ = key_of (raw_entry m.entry) in
    let it = entry_at_frame laws r plan u a m row in
    let l = some_before (frame_items (read_frame r plan.layout (shown_bytes plan u))) past after all in
    let h = o.hears l.0 l.1 in
    subst (IsNoted key) (sym o.are)
    (next_member key o.members (said o.heads past) (headed (ensemble_sent plan u) l.0) after h.0 h.1
    (sym (ap listening o.are) ∙ all) o.none it.0.item (o.among it.0.item it.0.inside it.1) (it.0.next ∙ next)
    (ap key_of it.0.raw))

pub frame_next : FrameLaws → (r : Reading) (plan : Plan) (u : State) → Airs plan u → (due : Bool) (past : List Moment)
    → IsOpened plan u due past (frame_items (read_frame r plan.layout (shown_bytes plan u))) → (after : Listening)
    → listening (said (frame_items (read_frame r plan.layout (shown_bytes plan u))) past) ≡ Some after
    → HasNext (shown_bytes plan u)
    (row_at_hand (said (frame_items (read_frame r plan.layout (shown_bytes plan u))) past))
frame_next laws r plan u a due past o after all m next row =
    (next_noted laws r plan u a due past o after all m next row).row

-- if no notice has begun after a frame on the air, nothing in the frame belongs to one
pub frame_silent : FrameLaws → (r : Reading) (plan : Plan) (u : State) → Airs plan u → (due : Bool) (past : List Moment)
    → IsOpened plan u due past (frame_items (read_frame r plan.layout (shown_bytes plan u))) → (after : Listening)
    → listening (said (frame_items (read_frame r plan.layout (shown_bytes plan u))) past) ≡ Some after
    → on_air plan u ≡ true
    → has_begun (said (frame_items (read_frame r plan.layout (shown_bytes plan u))) past) ≡ false
    → SaysNothing (shown_bytes plan u)
frame_silent laws r plan u a due past o after all on quiet = record {
  none = λ m next row. false≢true (sym quiet ∙ (next_noted laws r plan u a due past o after all m next row).begun);
  bare = λ header. elim (zero_or_not (u.count % count_step (layout_mode plan.layout))) [
    | inl here ↦ false≢true (sym quiet ∙ ap has_begun o.are
        ∙ begun_stays o.members (said o.heads past) o.none (o.flagged here on))
    | inr off ↦ not_headed header off
  ];
}
  where
    none_some : (e : EnsembleInformation) → None ≡ Some e → ⊥
    none_some e is = cc is

    not_headed : HasHeader (shown_bytes plan u) → u.count % count_step (layout_mode plan.layout) ≢ 0 → ⊥
    not_headed (marked, e, heard) off =
        let able = pageable laws.heard.pages plan u a in
        let sent = (laws.heard.pages.ensemble plan.layout (ensemble_sent plan u) u.page_index (sent_entries plan u) able
        marked e).0 heard in
        none_some e (sym (not_sent plan u off) ∙ sent.1)

-- ---- a row for each frame heard

some_frames : (frames : List (List ℕ)) (frame : List ℕ) → frames ++ frame ∷ [] ≡ [] → ⊥
some_frames [] frame e = cc e
some_frames (f ∷ fs) frame e = cc e

-- one more frame, given its entries after FIG 0/0
after_opened : FrameLaws → (r : Reading) (p : Program) (s : State) → Airs p.plan (shown p s)
    → (due : Bool) (past : List Moment) (count : ℕ) (heard : List (List ℕ))
    → IsOpened p.plan (shown p s) due past (items_at r p s)
    → (after : Listening) → listening (said (items_at r p s) past) ≡ Some after
    → heard_of p.plan (after_frame p s) ≡ more_heard (on_air p.plan (shown p s)) due heard (frame_bytes p s)
    → (heard ≡ [] → has_begun past ≡ false)
    → (on_air p.plan (shown p s) ≡ true → is_cut_off (said (items_at r p s) past) ≡ false
    → IsRowed (cond due [] heard) (cond due [] (rows past)))
    → (b : Bool) → on_air p.plan (shown p s) ≡ b
    → IsNoticing p.plan (Ended count ∷ said (items_at r p s) past) (after_frame p s)
after_opened laws r p s a due past count heard o after all more fresh old false off =
    let plan : Plan = p.plan in
    let u : State = shown p s in
    let items : List Item = frame_items (read_frame r plan.layout (frame_bytes p s)) in
    let none : heard_of plan (after_frame p s) ≡ [] = unnoticed_left plan u u.left refl a.ahead off in
    let before : cond due [] heard ≡ [] = sym (more ∙ ap (λ b. more_heard b due heard (frame_bytes p s)) off) ∙ none in
    let quiet : has_begun (said items past) ≡ false = still_quiet plan u due past items o off ∙ by due before in
    let no_rows = ap (λ t. cond t (rows (said items past) ++ row_at_hand (said items past) ∷ []) []) quiet in
    record {
      fresh = λ e. quiet;
      rowed = λ cut. rw none (rw no_rows none_rowed);
    }
  where
    by : (d : Bool) → cond d [] heard ≡ [] → cond d false (has_begun past) ≡ false
    by true e = refl
    by false e = fresh e
after_opened laws r p s a due past count heard o after all more fresh old true on =
    let plan : Plan = p.plan in
    let u : State = shown p s in
    let items : List Item = frame_items (read_frame r plan.layout (frame_bytes p s)) in
    let now = more ∙ ap (λ b. more_heard b due heard (frame_bytes p s)) on in
    record {
      fresh = λ e. absurd (some_frames (cond due [] heard) (frame_bytes p s) (sym now ∙ e));
      rowed = λ cut.
          let before = subst (IsRowed (cond due [] heard)) (sym (rows_after plan u due past items o)) (old on cut) in
          subst (λ (hs : List (List ℕ)). IsRowed hs (rows (Ended count ∷ said items past))) (sym now)
          (grow before (has_begun (said items past)) refl);
    }
  where
    grow : IsRowed (cond due [] heard) (rows (said (items_at r p s) past))
        → (b : Bool) → has_begun (said (items_at r p s) past) ≡ b
        → IsRowed (cond due [] heard ++ frame_bytes p s ∷ []) (rows (Ended count ∷ said (items_at r p s) past))
    grow before true begun =
        let later : List Moment = said (items_at r p s) past in
        subst (IsRowed (cond due [] heard ++ frame_bytes p s ∷ []))
        (sym (ap (λ t. cond t (rows later ++ row_at_hand later ∷ []) []) begun))
        (rowed_more (cond due [] heard) (rows later) (frame_bytes p s) (row_at_hand later) before
        (frame_next laws r p.plan (shown p s) a due past o after all))
    grow before false quiet =
        let later : List Moment = said (items_at r p s) past in
        subst (IsRowed (cond due [] heard ++ frame_bytes p s ∷ []))
        (sym (ap (λ t. cond t (rows later ++ row_at_hand later ∷ []) []) quiet))
        (rowed_silent (cond due [] heard) (rows later) (frame_bytes p s) before (begun_rows later quiet)
        (frame_silent laws r p.plan (shown p s) a due past o after all on quiet))

next_noticing : FrameLaws → (r : Reading) (p : Program) (ts : List Known) → IsCode p ts → (s : State) → Holds p ts s
    → (past : List Moment) → IsBetween p.plan past s → IsNoticing p.plan past s → (count : ℕ) (after : Listening)
    → listening (said (items_at r p s) past) ≡ Some after
    → IsNoticing p.plan (Ended count ∷ said (items_at r p s) past) (after_frame p s)
next_noticing laws r p ts c s holds past b g count after all =
    after_opened laws r p s (airs p ts c s holds) (is_due s.left) past count (heard_of p.plan s)
    (next_opened laws.one laws.heard r p ts c s holds past b (is_due s.left) refl) after all
    (heard_then p ts c s holds) g.fresh
    (λ on cut. by (is_due s.left) refl cut) (on_air p.plan (shown p s)) refl
  where
    by : (d : Bool) → is_due s.left ≡ d → is_cut_off (said (items_at r p s) past) ≡ false
        → IsRowed (cond d [] (heard_of p.plan s)) (cond d [] (rows past))
    by true due cut = none_rowed
    by false due cut = g.rowed
        (sym (cut_still p.plan s (shown p s) past (items_at r p s) b
        (next_opened laws.one laws.heard r p ts c s holds past b false due)) ∙ cut)

first_noticing : FrameLaws → (r : Reading) (p : Program) (ts : List Known) → IsCode p ts → (s : State) → Holds p ts s
    → s.count % count_step (layout_mode p.plan.layout) ≡ 0 → (count : ℕ) (after : Listening)
    → listening (said (items_at r p s) []) ≡ Some after
    → IsNoticing p.plan (Ended count ∷ said (items_at r p s) []) (after_frame p s)
first_noticing laws r p ts c s holds whole count after all =
    let plan : Plan = p.plan in
    after_opened laws r p s (airs p ts c s holds) false [] count (cond (is_due s.left) [] (heard_of plan s))
    (first_opened laws.one laws.heard r p ts c s holds whole) after all (heard_then p ts c s holds) (λ e. refl)
    (λ on cut. absurd (false≢true
    (sym cut ∙ cut_first p.plan (shown p s) (items_at r p s)
    (first_opened laws.one laws.heard r p ts c s holds whole) on))) (on_air plan (shown p s)) refl

pub noticing : FrameLaws → (r : Reading) (period : ℕ) (p : Program) (ts : List Known) → IsCode p ts → (s : State)
    → Holds p ts s → (past : List Moment) → IsReading p.plan past s
    → IsNoticing p.plan (past_after r p s past) (after_frame p s)
noticing laws r period p ts c s holds past reading =
    let now = agrees_by laws.one laws.heard r period p ts c s holds past (before_of p.plan past s reading) in
    by reading now.after.heard now.after.is
  where
    by : IsReading p.plan past s → (after : Listening) → listening (said (items_at r p s) past) ≡ Some after
        → IsNoticing p.plan (past_after r p s past) (after_frame p s)
    by (inl (none, on)) after all =
        subst (λ (l : List Moment). listening (said (items_at r p s) l) ≡ Some after
        → IsNoticing p.plan (past_after r p s l) (after_frame p s))
        (sym none) (λ heard. first_noticing laws r p ts c s holds on _ after heard) all
    by (inr (b, g)) after all = next_noticing laws r p ts c s holds past b g _ after all

-- contacts between two frames change no rows
pub noticing_contact : (p : Program) (past : List Moment) (s : State) (d : ℕ) (closed : Bool) → IsNoticing p.plan past s
    → IsNoticing p.plan past (happens p s (Contact d closed))
noticing_contact p past s d closed g =
    let heard = heard_contacts p.plan s d closed s.left refl in
    record {
      fresh = λ e. g.fresh (sym heard ∙ e);
      rowed = λ cut. subst (λ (hs : List (List ℕ)). IsRowed hs (rows past)) (sym heard) (g.rowed cut);
    }

-- ---- what is wanted in the frames of a notice

facts_marked : (n : Configuration) (m : Marked) → Contains (facts_of n true) m → m.next ≡ true
facts_marked n m inside = sym (fact_in true (entries_of n) m (contains_in (facts_of n true) m inside)).0

-- where a swap is due, the listener's next picture has only entries of the next configuration
next_part : (p : Program) (ts : List Known) → IsCode p ts → (s : State) → (past : List Moment)
    → (b : IsBetween p.plan past s) → is_due s.left ≡ true → IsPartial (whole_of s.next) Nothing b.heard.next
next_part p ts c s past b due =
    let pending : KnowsPending p.plan 0 s.current s.next s.count Nothing Nothing b.heard =
    subst (λ (o : Option ℕ). KnowsBy p.plan o s.current s.next s.count Nothing Nothing b.heard)
    (due_left s.left due) b.knows in
    (pending.inside (omega (arith, c.program.planned.notice_from))).knows.next

wanted_keys : (p : Program) (ts : List Known) → IsCode p ts → (s : State) → (past : List Moment)
    → IsBetween p.plan past s → is_due s.left ≡ true → AreKeysOf s.next (wanted past)
wanted_keys p ts c s past b due x inside =
    let same : listener_after past ≡ b.heard = after_is past b.heard b.is in
    let there = subst (λ (l : Listening). Contains (map key_of (all_entries l.next)) x) same inside in
    let raw = mapped_to key_of (all_entries b.heard.next) x there in
    let it = entry_of _ _ _ _ (next_part p ts c s past b due) (contains_in _ _ raw.1) in
    let m : Marked = marked true it.0 in
    (m, in_contains (facts_of s.next true) m (in_fact true (entries_of s.next) it.0 it.2), refl, ap key_of it.1 ∙ raw.2)

-- ---- a swap

not_few : (cut : Bool) (n : ℕ) → (cut ≡ false → 3 ≤ n) → (not cut && nat_lt n 3) ≡ false
not_few true n h = refl
not_few false n h = le-ltb n 3 (h refl)

pub repeated : IsTheMost → FrameLaws → (p : Program) (ts : List Known) → IsCode p ts → (s : State) → Holds p ts s
    → (past : List Moment) → IsBetween p.plan past s → IsNoticing p.plan past s → is_due s.left ≡ true
    → (not (is_cut_off past) && nat_lt (times_heard past) 3) ≡ false
repeated most laws p ts c s holds past b g due =
    let announced = (swaps_run laws.heard.pages p ts c s (Frame ∷ []) holds).0.announced due in
    not_few (is_cut_off past) (times_heard past) (λ whole.
    (three_or_more (wanted past) (times_heard past) (rows past) (most (wanted past) (rows past))).1
    (announced_thrice s.current s.next s.count (heard_of p.plan s) (rows past) (wanted past) announced (g.rowed whole)
    (wanted_keys p ts c s past b due) (facts_marked s.next)))
