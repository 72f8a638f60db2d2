-- In the frames of a run no entry of the current configuration is silent, or appears once it is settled.
use Rattle.stream_laws.proofs.Words.{[], ◌%◌, ◌*◌, ◌++◌, ◌+◌, ◌-◌, ◌<◌, ◌∙◌, ◌≡◌, ◌≤◌, ◌⊎◌, Bool, Configuration}
use Rattle.stream_laws.proofs.Words.{Contact, Contains, Entry, HasAll, Holds, In, IsCode, IsHeardInRow, IsLongFor}
use Rattle.stream_laws.proofs.Words.{IsPart, IsPartial, Item, Known, List, Listening, Marked, Moment, Nothing, Pictured}
use Rattle.stream_laws.proofs.Words.{Plan, Program, Raw, Reading, Some, State, Still, after_frame, after_is, airs}
use Rattle.stream_laws.proofs.Words.{all_entries, ap, arith, cond, contains_in, count_step, current_part, current_shown}
use Rattle.stream_laws.proofs.Words.{due_current, ensemble_sent, entries_of, fact_in, facts_of, false, frame_bytes}
use Rattle.stream_laws.proofs.Words.{frames_ended, happens, headed, in_append, in_contains, in_fact, in_first}
use Rattle.stream_laws.proofs.Words.{in_second, inl, inr, is_cut_off, is_due, is_first_noticed, is_silent, key_of}
use Rattle.stream_laws.proofs.Words.{last_heard, layout_mode, leb-true, links, listener_after, listening, map, marked}
use Rattle.stream_laws.proofs.Words.{ne_eqb, packet_entry, page_after, page_entries, pageable, raw_entry, refl, said}
use Rattle.stream_laws.proofs.Words.{said_by, sent_entries, sent_period, sent_rounds, service_entries, service_entry}
use Rattle.stream_laws.proofs.Words.{settles_at, shown, shown_bytes, sub_entries, sub_entry, subst, sym, true}
use Rattle.stream_laws.proofs.Words.{turn_is_page, whole_of, ℕ}
use Rattle.stream_laws.proofs.LastHeard.{last_grows, last_stays, some_before, last_member}
use Rattle.stream_laws.proofs.Clean.{said_ended}
use Rattle.stream_laws.proofs.Opening.{FrameLaws, items_at, past_after, IsOpened, entry_at_frame, next_opened}
use Rattle.stream_laws.proofs.Opening.{first_opened, opened_settles, Knows, Enters, enters_first, enters_due}
use Rattle.stream_laws.proofs.Opening.{enters_still, knows_later}
use Rattle.stream_laws.proofs.Turning.{Comes, comes_now, Turns, IsBound, turns_by, comes_some, some_period, new_bound}
use Rattle.stream_laws.proofs.Turning.{turns_contact, Turned, turned}
use Rattle.stream_laws.proofs.Agreeing.{in_full}
use Rattle.stream_laws.proofs.AgreeingRuns.{IsBetween}
use Rattle.stream_laws.proofs.Framing.{read_frame}
use Rattle.stream_laws.proofs.AgreeingFrames.{agrees_by, SinceFirst, before_of, FrameAgrees}
use Rattle.stream_laws.proofs.NoticeFrames.{next_whole}
use Rattle.stream_laws.proofs.Findings.{Each, IsKnown}
use Rattle.stream_laws.proofs.Following.{Had, Follows}
use Rattle.stream_laws.proofs.Settling.{frame_settled}

-- ---- what is heard in a frame

-- an entry with C/N 0 of the page in turn
heard_now : FrameLaws → (r : Reading) (p : Program) (ts : List Known) → IsCode p ts → (s : State) → Holds p ts s
    → (made : Bool) (past : List Moment) → IsOpened p.plan (shown p s) made past (items_at r p s)
    → (after : Listening) → listening (said (items_at r p s) past) ≡ Some after → (m : Marked) → m.next ≡ false
    → Contains (page_entries p.plan.layout (shown p s).page_index (sent_entries p.plan (shown p s))) m
    → last_heard (key_of (raw_entry m.entry)) (said (items_at r p s) past) ≡ frames_ended past + 1
heard_now laws r p ts c s holds made past o after all m current inside =
    let plan : Plan = p.plan in
    let u : State = shown p s in
    let key : ℕ = key_of (raw_entry m.entry) in
    let able = pageable laws.heard.pages plan u (airs p ts c s holds) in
    let row : IsHeardInRow (shown_bytes plan u) m =
    (laws.heard.pages.heard plan.layout (ensemble_sent plan u) u.page_index (sent_entries plan u) able m).1
    inside in
    let it = entry_at_frame laws r plan u (airs p ts c s holds) m row in
    let l = some_before (items_at r p s) past after all in
    let h = o.hears l.0 l.1 in
    ap (last_heard key) o.are
    ∙ last_member key o.members (said o.heads past) (headed (ensemble_sent plan u) l.0) after h.0 h.1
    (sym (ap listening o.are) ∙ all) it.0.item (o.among it.0.item it.0.inside it.1) it.1 (it.0.next ∙ current)
    (ap key_of it.0.raw)
    ∙ ap (λ n. n + 1) (said_ended o.heads past)

-- in the frame of a swap, all entries count as heard
pub swap_now : (plan : Plan) (u : State) (past : List Moment) (items : List Item) → IsOpened plan u true past items
    → (key : ℕ) → last_heard key (said items past) ≡ frames_ended past + 1
swap_now plan u past items o key =
    let ended = said_ended o.heads past in
    cc (o.are, last_stays key o.members (said o.heads past) (o.swapped refl key ∙ ap (λ n. n + 1) (sym ended)), ended)

-- ---- ages

-- each entry of the current configuration was heard, or will be, within the bound
abbrev pub IsAged : (plan : Plan) → List Moment → (s : State) → Turns plan s → Type 0
IsAged plan past s t =
    (plan.period ≤ t.bound + 1)
    × ((m : Marked) (d : ℕ) → Comes plan s.current t.ms t.page_index m d
    → frames_ended past + d ≤ last_heard (key_of (raw_entry m.entry)) past + t.bound)

-- one frame later, given what was heard before it
pub aged_after : FrameLaws → (r : Reading) (p : Program) (ts : List Known) (c : IsCode p ts) (s : State)
    (holds : Holds p ts s) (made : Bool) (past : List Moment) → IsOpened p.plan (shown p s) made past (items_at r p s)
    → (after : Listening) → listening (said (items_at r p s) past) ≡ Some after
    → (bound : ℕ) (h : IsBound p.plan (shown p s) bound)
    → ((m : Marked) (d : ℕ) → Comes p.plan (shown p s).current (sent_entries p.plan (shown p s)) (shown p s).page_index
    m d
    → (last_heard (key_of (raw_entry m.entry)) (said (items_at r p s) past) ≡ frames_ended past + 1)
    ⊎ (frames_ended past + d ≤ last_heard (key_of (raw_entry m.entry)) past + bound))
    → IsAged p.plan (past_after r p s past) (after_frame p s) (turns_by p ts c s holds bound h)
aged_after laws r p ts c s holds made past o after all bound h old = (
  h.from,
  λ m d x.
      let plan : Plan = p.plan in
      let u : State = shown p s in
      let a = airs p ts c s holds in
      let items : List Item = items_at r p s in
      let key : ℕ = key_of (raw_entry m.entry) in
      let ended = said_ended items past in
      let short : d < sent_rounds plan u = x.comes.0 in
      let few : sent_rounds plan u ≤ plan.period = sent_period plan u a in
      let from = h.from in
      let now : last_heard key (said items past) ≡ frames_ended past + 1
      → frames_ended (said items past) + 1 + d ≤ last_heard key (said items past) + bound =
      λ is. omega (arith, is, ended, short, few, from) in
      elim (comes_now plan u.current (sent_entries plan u) u.page_index (turn_is_page plan u a) m d x) [
        | inl same ↦ now (heard_now laws r p ts c s holds made past o after all m
            (sym (fact_in false (entries_of u.current) m (contains_in (facts_of u.current false) m x.fact)).0) same)
        | inr further ↦ elim (old m (d + 1) further) [
          | inl is ↦ now is
          | inr aged ↦ (let grows = last_grows key items past in omega (arith, aged, grows, ended))
        ]
      ],
)

-- ---- the entries of a picture are those of the configuration

in_part : (full : List Raw) (C : Raw → Type 0) (part : List Raw) (x : Raw) → IsPart full C part → In x part → In x full
in_part full C part x h inside = in_full h.known full x (subst (λ (xs : List Raw). In x xs) h.is inside)

pub entry_of : (c : Configuration) (C : Raw → Type 0) (p : Pictured) (x : Raw) → IsPartial (whole_of c) C p
    → In x (all_entries p) → (e : Entry) × (raw_entry e ≡ x) × In e (entries_of c)
entry_of c C p x h inside = elim (in_append x (p.subs ++ p.services) p.packets inside) [
  | inl front ↦ elim (in_append x p.subs p.services front) [
    | inl sub ↦ (let there = said_by sub_entry c.subs x (in_part (whole_of c).subs C p.subs x h.subs sub) in
        (there.0, there.1, in_first there.0 (sub_entries c) (service_entries c) there.2))
    | inr service ↦ (let there =
        said_by service_entry c.services x (in_part (whole_of c).services C p.services x h.services service) in (
          there.0,
          there.1,
          in_second there.0 (sub_entries c) (service_entries c)
              (in_first there.0 (map service_entry c.services) (map packet_entry c.packets) there.2),
        ))
  ]
  | inr packet ↦ (let there = said_by packet_entry c.packets x
      (in_part (whole_of c).packets C p.packets x h.packets packet) in (
        there.0,
        there.1,
        in_second there.0 (sub_entries c) (service_entries c)
            (in_second there.0 (map service_entry c.services) (map packet_entry c.packets) there.2),
      ))
]

-- ---- none is silent

-- at the end of a frame, given the ages after it
pub none_silent : FrameLaws → (r : Reading) (period : ℕ) (p : Program) (s : State) (past : List Moment)
    → IsBetween p.plan (past_after r p s past) (after_frame p s)
    → (g : Turns p.plan (after_frame p s)) → IsAged p.plan (past_after r p s past) (after_frame p s) g
    → IsLongFor p period → (x : Raw) → In x (all_entries (listener_after (said (items_at r p s) past)).current)
    → is_silent period (said (items_at r p s) past) x ≡ false
none_silent laws r period p s past b g aged long x inside =
    let plan : Plan = p.plan in
    let t : State = after_frame p s in
    let later : List Moment = said (items_at r p s) past in
    let part = current_part plan t.left t.current t.next t.count Nothing Nothing b.heard b.knows in
    let here = subst (λ (l : Listening). In x (all_entries l.current)) (after_is later b.heard b.is) inside in
    let it = entry_of t.current Nothing b.heard.current x part here in
    let m : Marked = marked false it.0 in
    let mine = in_contains (facts_of t.current false) m (in_fact false (entries_of t.current) it.0 it.2) in
    let way = comes_some laws.heard.pages plan t.current g.ms g.page_index g.below m mine (g.has m mine) in
    let since = aged.1 m way.0 way.1 in
    let bound = g.to in
    let keys = ap (λ (y : Raw). last_heard (key_of y) later) it.1 in
    ne_eqb (last_heard (key_of x) later + period) (frames_ended later + 1)
    (λ e. omega (arith, e, keys, since, bound, long))

-- ---- which entries are known

-- an entry of the current configuration that is known, or will be when its page is in turn
pub record Due (plan : Plan) (period : ℕ) (past : List Moment) (c : Configuration) (ms : List Marked)
    (page_index bound : ℕ) (x : Raw) : Type 0 where
  pub m : Marked
  pub is : raw_entry m.entry ≡ x
  pub d : ℕ
  pub comes : Comes plan c ms page_index m d
  pub late : settles_at period past + bound < frames_ended past + d + period

abbrev pub Settles : (plan : Plan) → ℕ → List Moment → (s : State) → Turns plan s → Type 0
Settles plan period past s t = Knows plan past s (Due plan period past s.current t.ms t.page_index t.bound) Nothing

-- ---- one frame later

settles_after : FrameLaws → (r : Reading) (period : ℕ) (p : Program) (ts : List Known) (c : IsCode p ts) (s : State)
    (holds : Holds p ts s) (past : List Moment) (C N : Raw → Type 0) → Enters p s past C N
    → (bound : ℕ) (h : IsBound p.plan (shown p s) bound)
    → ((m : Marked) (d : ℕ) → Comes p.plan (shown p s).current (sent_entries p.plan (shown p s)) (shown p s).page_index
    m d
    → settles_at period (said (items_at r p s) past) + bound < frames_ended past + d + period → C (raw_entry m.entry))
    → Settles p.plan period (past_after r p s past) (after_frame p s) (turns_by p ts c s holds bound h)
settles_after laws r period p ts c s holds past C N en bound h old =
    let plan : Plan = p.plan in
    let u : State = shown p s in
    let a = airs p ts c s holds in
    let ms : List Marked = sent_entries plan u in
    let ended = said_ended (items_at r p s) past in
    knows_later laws.one laws.heard r p ts c s holds past C N
    (Due plan period (past_after r p s past) u.current ms (page_after (sent_rounds plan u) u.page_index) bound)
    Nothing en
    (λ x due. elim (comes_now plan u.current ms u.page_index (turn_is_page plan u a) due.m due.d due.comes) [
      | inl now ↦ (
          let row : IsHeardInRow (shown_bytes plan u) due.m =
          (laws.heard.pages.heard plan.layout (ensemble_sent plan u) u.page_index ms
          (pageable laws.heard.pages plan u a) due.m).1 now in
          let flag : due.m.next ≡ false = sym (fact_in _ _ _ (contains_in _ _ due.comes.fact)).0 in
          inr (
            due.m.entry,
            due.is,
            subst (λ (b : Bool). IsHeardInRow (shown_bytes plan u) (record { next = b; entry = due.m.entry })) flag
                row,
          )
          )
      | inr further ↦ (let late = due.late in
          inl (subst C due.is (old due.m (due.d + 1) further (omega (arith, late, ended)))))
    ])
    (λ x no_entry. absurd no_entry)

-- the entries of a frame that are known, and what is known after it
pub record Step (r : Reading) (period : ℕ) (p : Program) (s : State) (past : List Moment)
    (t : Turns p.plan (after_frame p s)) : Type 0 where
  pub known : Each (IsKnown (count_step (layout_mode p.plan.layout)) period) past (items_at r p s)
  pub after : Settles p.plan period (past_after r p s past) (after_frame p s) t

-- the first frame of the stream
first_step : FrameLaws → (r : Reading) (period : ℕ) (p : Program) (ts : List Known) (c : IsCode p ts) (s : State)
    (holds : Holds p ts s) → s.count % count_step (layout_mode p.plan.layout) ≡ 0 → 2 * p.plan.period ≤ period + 1
    → Step r period p s [] (turns_by p ts c s holds (p.plan.period - 1) (new_bound p ts c (shown p s)))
first_step laws r period p ts c s holds on long =
    let plan : Plan = p.plan in
    let u : State = shown p s in
    let items : List Item = items_at r p s in
    let some = some_period p ts c in
    let few : sent_rounds plan u ≤ plan.period = sent_period plan u (airs p ts c s holds) in
    let o = first_opened laws.one laws.heard r p ts c s holds on in
    let settles : settles_at period (said items []) ≡ period = opened_settles plan u false [] items o period in
    let ended = said_ended items [] in
    let en = enters_first p ts c s holds on in
    record {
      known = frame_settled period p ts c s holds [] Nothing Nothing false items o en
          (λ settled. absurd (let le = leb-true _ _ settled in omega (arith, le, settles, ended, long, some)));
      after = settles_after laws r period p ts c s holds [] Nothing Nothing en (plan.period - 1) (new_bound p ts c u)
          (λ m d x late. absurd (let short = x.comes.0 in omega (arith, late, settles, short, few)));
    }

-- a frame with a swap
swap_step : FrameLaws → (r : Reading) (period : ℕ) (p : Program) (ts : List Known) (c : IsCode p ts) (s : State)
    (holds : Holds p ts s) (past : List Moment) → IsOpened p.plan (shown p s) true past (items_at r p s)
    → Follows p.plan past s → is_due s.left ≡ true → 2 * p.plan.period ≤ period + 1
    → Step r period p s past (turns_by p ts c s holds (p.plan.period - 1) (new_bound p ts c (shown p s)))
swap_step laws r period p ts c s holds past o g due long =
    let plan : Plan = p.plan in
    let u : State = shown p s in
    let items : List Item = items_at r p s in
    let some = some_period p ts c in
    let few : sent_rounds plan u ≤ plan.period = sent_period plan u (airs p ts c s holds) in
    let ended = said_ended items past in
    let C : Raw → Type 0 = Had plan past s true in
    let en = enters_due p ts c s holds past (Had plan past s false) C due g in
    let settles = opened_settles plan u true past items o period in
    record {
      known = frame_settled period p ts c s holds past C Nothing true items o en
          (λ settled. known (is_cut_off past) refl settles
          (let le = leb-true _ _ settled in omega (arith, le, ended, some, long)));
      after = settles_after laws r period p ts c s holds past C Nothing en (plan.period - 1) (new_bound p ts c u)
          (λ m d x late. known (is_cut_off past) refl settles (let short = x.comes.0 in omega (arith, late, few, short))
          m.entry (fact_in false (entries_of u.current) m (contains_in (facts_of u.current false) m x.fact)).1);
    }
  where
    known : (b : Bool) → is_cut_off past ≡ b → settles_at period (said (items_at r p s) past)
        ≡ cond b (frames_ended past + period) 0
        → settles_at period (said (items_at r p s) past) < frames_ended past + period
        → HasAll (shown p s).current (Had p.plan past s true)
    known true cut settles less = absurd (omega (arith, settles, less))
    known false cut settles less = λ e inside.
        let current : (shown p s).current ≡ s.next = current_shown p ts c s holds ∙ due_current s due in (
          cut,
          next_whole laws.heard.pages p ts c s holds due e
              (subst (λ (x : Configuration). In e (entries_of x)) current inside),
        )

-- a frame without a swap
plain_step : FrameLaws → (r : Reading) (period : ℕ) (p : Program) (ts : List Known) (c : IsCode p ts) (s : State)
    (holds : Holds p ts s) (past : List Moment) → IsOpened p.plan (shown p s) false past (items_at r p s)
    → (g : Turns p.plan s) → Settles p.plan period past s g → is_due s.left ≡ false → 2 * p.plan.period ≤ period + 1
    → (t : Turned p s g) → Step r period p s past (turns_by p ts c s holds t.bound t.is)
plain_step laws r period p ts c s holds past o g k due long t =
    let plan : Plan = p.plan in
    let u : State = shown p s in
    let items : List Item = items_at r p s in
    let link = links p ts c s holds in
    let settles = opened_settles plan u false past items o period in
    let ended = said_ended items past in
    let C : Raw → Type 0 = Due plan period past s.current g.ms g.page_index g.bound in
    let en = enters_still p ts c s holds past C Nothing due k in
    let to = g.to in
    record {
      known = frame_settled period p ts c s holds past C (Still plan u.left Nothing) false items o en
          (λ settled e inside.
          let le = leb-true _ _ settled in
          let there = subst (λ (x : Configuration). In e (entries_of x)) (link.current due) inside in
          let fact : Contains (facts_of s.current false) (marked false e) = in_contains _ _ (in_fact _ _ _ there) in
          let way = comes_some laws.heard.pages _ _ _ _ g.below _ fact (g.has (marked _ _) fact) in
          record {
            m = marked false e;
            is = refl;
            d = way.0;
            comes = way.1;
            late = omega (arith, le, settles, ended, to, long);
          });
      after = settles_after laws r period p ts c s holds past C (Still plan u.left Nothing) en t.bound t.is
          (λ m d x late.
          let before = t.before m d x in
          let more = before.2 in
          record { m = m; is = refl; d = before.0; comes = before.1; late = omega (arith, late, settles, more) });
    }

-- ---- along a run

-- each entry was heard when its page was in turn; it is known, or will be before the current configuration is settled
pub record IsTurning (period : ℕ) (plan : Plan) (past : List Moment) (s : State) : Type 0 where
  pub turns : Turns plan s
  pub aged : IsAged plan past s turns
  pub settles : 2 * plan.period ≤ period + 1 → Settles plan period past s turns

pub turning_contact : (period : ℕ) (p : Program) (past : List Moment) (s : State) (d : ℕ) (closed : Bool)
    → IsTurning period p.plan past s → IsTurning period p.plan past (happens p s (Contact d closed))
turning_contact period p past s d closed g = record {
  turns = turns_contact p s d closed g.turns;
  aged = g.aged;
  settles = λ long. (let k = g.settles long in record { heard = k.heard; is = k.is; knows = k.knows });
}

pub record NextTurning (r : Reading) (period : ℕ) (p : Program) (s : State) (past : List Moment) : Type 0 where
  pub known : 2 * p.plan.period ≤ period + 1 → Each (IsKnown (count_step (layout_mode p.plan.layout)) period) past
      (items_at r p s)
  pub after : IsTurning period p.plan (past_after r p s past) (after_frame p s)

turning_by : (r : Reading) (period : ℕ) (p : Program) (s : State) (past : List Moment)
    (t : Turns p.plan (after_frame p s)) → IsAged p.plan (past_after r p s past) (after_frame p s) t
    → (2 * p.plan.period ≤ period + 1 → Step r period p s past t) → NextTurning r period p s past
turning_by r period p s past t aged step =
    record {
      known = λ long. (step long).known;
      after = record { turns = t; aged = aged; settles = λ long. (step long).after };
    }

pub turning : FrameLaws → (r : Reading) (period : ℕ) (p : Program) (ts : List Known) → IsCode p ts → (s : State)
    → Holds p ts s → (past : List Moment)
    → SinceFirst p.plan past s (Follows p.plan past s × IsTurning period p.plan past s) → NextTurning r period p s past
turning laws r period p ts c s holds past before = by before now.after.heard now.after.is
  where
    now : FrameAgrees period p s past (read_frame r p.plan.layout (frame_bytes p s))
    now = agrees_by laws.one laws.heard r period p ts c s holds past (before_of p.plan past s before)

    by : SinceFirst p.plan past s (Follows p.plan past s × IsTurning period p.plan past s) → (after : Listening)
        → listening (said (items_at r p s) past) ≡ Some after → NextTurning r period p s past
    by (inl (none, on)) after all =
        let few = sent_period p.plan (shown p s) (airs p ts c s holds) in
        subst (λ (l : List Moment). listening (said (items_at r p s) l) ≡ Some after → NextTurning r period p s l)
        (sym none) (λ heard.
        turning_by r period p s [] _
        (aged_after laws r p ts c s holds false [] (first_opened laws.one laws.heard r p ts c s holds on) after heard
        (p.plan.period - 1) (new_bound p ts c (shown p s))
        (λ m d x. (let short = x.comes.0 in inr (omega (arith, few, short)))))
        (first_step laws r period p ts c s holds on)) all
    by (inr (b, (f, g))) after all = by_due (is_due s.left) refl
      where
        by_due : (d : Bool) → is_due s.left ≡ d → NextTurning r period p s past
        by_due true due =
            let o = next_opened laws.one laws.heard r p ts c s holds past b true due in
            turning_by r period p s past _
            (aged_after laws r p ts c s holds true past o after all (p.plan.period - 1) (new_bound p ts c (shown p s))
            (λ m d x. inl (swap_now p.plan (shown p s) past (items_at r p s) o (key_of (raw_entry m.entry)))))
            (λ long. swap_step laws r period p ts c s holds past o f due long)
        by_due false due =
            let o = next_opened laws.one laws.heard r p ts c s holds past b false due in
            let t = turned laws.heard.pages p ts c s holds g.turns due g.aged.0
            (is_first_noticed p.plan.notice (shown p s).left) refl in
            turning_by r period p s past _
            (aged_after laws r p ts c s holds false past o after all t.bound t.is (λ m d x.
            let before = t.before m d x in
            let more = before.2 in
            let aged = g.aged.1 m before.0 before.1 in
            inr (omega (arith, aged, more))))
            (λ long. plain_step laws r period p ts c s holds past o g.turns (g.settles long) due long t)
