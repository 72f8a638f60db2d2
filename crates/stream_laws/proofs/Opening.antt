-- A frame of a run: its FIG 0/0, the entries after it, and what is known after them.
use Rattle.stream_laws.proofs.Words.{[], ◌%◌, ◌&&◌, ◌++◌, ◌+◌, ◌==◌, ◌||◌, ◌∙◌, ◌∷◌, ◌≡◌, ◌⊎◌, Airs, AllByRecursion}
use Rattle.stream_laws.proofs.Words.{Bool, Configuration, Contains, EnsembleInformation, FibHas32Bytes, Holds, InFrame}
use Rattle.stream_laws.proofs.Words.{IsCode, IsHeardInRow, Item, Known, KnowsAt, KnowsBy, Laws, List, Listening, Marked}
use Rattle.stream_laws.proofs.Words.{Moment, None, Nothing, OneList, Option, Or, Plan, Program, Raw, Reading, RowSaid}
use Rattle.stream_laws.proofs.Words.{Said, Some, State, Still, SwapsOn, after_frame, after_is, airs, ap, arith}
use Rattle.stream_laws.proofs.Words.{at_ensemble, cond, contains_cases, count_step, ensemble_heard, ensemble_of}
use Rattle.stream_laws.proofs.Words.{ensemble_right, ensemble_sent, enters, enters_swap, enters_untuned, eq-eqb, ext_of}
use Rattle.stream_laws.proofs.Words.{false, false≢true, frame_bytes, frame_heard, frame_items, frames_ended, has_begun}
use Rattle.stream_laws.proofs.Words.{has_flags, headed, inl, inr, is_cut_off, is_due, is_ensemble, is_flagged, is_made}
use Rattle.stream_laws.proofs.Words.{is_member, is_swap, key_of, knows_after, knows_weaker, last_heard, layout_mode}
use Rattle.stream_laws.proofs.Words.{links, listener_after, listening, member_cut_off, member_settles, member_times}
use Rattle.stream_laws.proofs.Words.{ne_eqb, not, or_false, pageable, refl, rows, said, sent_entries, settles_at, shown}
use Rattle.stream_laws.proofs.Words.{shown_bytes, split_le, subst, sym, times_announced, true, untuned, zero_or_not, ℕ}
use Rattle.plan_runs.proofs.HeardFrame.{fibs_in}
use Rattle.stream_check.specs.History.{ensemble_of_item as said_ensemble}
use Rattle.stream_check.specs.Stream.{past_after_frame as after_read}
use Rattle.stream_laws.proofs.Kept.{ensemble_made, ensemble_flags, begun_is, rows_are, times_are, begun_flagged}
use Rattle.stream_laws.proofs.Rows.{HasNone}
use Rattle.stream_laws.proofs.Framing.{read_frame}
use Rattle.stream_laws.proofs.Sending.{IsSentItem, IsHeadOf, frame_said, fibs_heard, is_sent, not_sent}
use Rattle.stream_laws.proofs.AgreeingRuns.{IsBetween, on_air, flags_on, made_where_due}
use Rattle.stream_laws.proofs.LastHeard.{at_tuned, row_said, IsSaidOf}
use Rattle.stream_laws.proofs.Findings.{Each}
use Rattle.stream_laws.proofs.Words.{due_left, sent_ext}

-- the laws of FIBs and pages that are used
pub record FrameLaws : Type 0 where
  pub one : OneList
  pub size : FibHas32Bytes
  pub heard : Laws

-- the entries of the frame of a state, and what is known after it
abbrev pub items_at : Reading → Program → State → List Item
items_at r p s = frame_items (read_frame r p.plan.layout (frame_bytes p s))

abbrev pub past_after : Reading → Program → State → List Moment → List Moment
past_after r p s past = after_read (count_step (layout_mode p.plan.layout)) past
    (read_frame r p.plan.layout (frame_bytes p s))

-- FIG 0/0 is sent in the frame
abbrev pub IsOnStep : Plan → State → Type 0
IsOnStep plan u = u.count % count_step (layout_mode plan.layout) ≡ 0

-- ---- a swap that is made

-- it was due
pub made_due : (p : Program) (ts : List Known) → IsCode p ts → (s : State) → Holds p ts s → (past : List Moment)
    → IsBetween p.plan past s → (e : EnsembleInformation) → e ≡ ensemble_of p.plan (shown p s)
    → is_made (listener_after past).awaited e ≡ true → is_due s.left ≡ true
made_due p ts c s holds past h e says made =
    let same : listener_after past ≡ h.heard = after_is past h.heard h.is in
    cc (made_where_due p ts c s holds past h, says, same, made)

-- where none is awaited, none is made
pub none_made : {X : Type 0} (e : EnsembleInformation) (o : Option ℕ) → o ≡ None → is_made o e ≡ true → X
none_made e o none made = absurd (false≢true (sym (ap (λ x. is_made x e) none) ∙ made))

-- ---- entries other than FIG 0/0

pub none_of : (on : Bool) (u : State) (items : List Item) → AllByRecursion (IsSentItem on u.current u.next) items
    → HasNone items
none_of on u [] all = tt
none_of on u (i ∷ is) all = (
  ap (λ (x : Raw). x.ext == 0) all.0.raw
      ∙ sent_ext on u.current u.next all.0.m all.0.sent,
  none_of on u is all.1,
)

pub said_times : (items : List Item) (past : List Moment) → HasNone items
    → times_announced (said items past) ≡ times_announced past
said_times [] past none = refl
said_times (i ∷ is) past none = said_times is (Said i ∷ past) none.1 ∙ sym (member_times past i none.0)

said_cut : (items : List Item) (past : List Moment) → HasNone items → is_cut_off (said items past) ≡ is_cut_off past
said_cut [] past none = refl
said_cut (i ∷ is) past none = said_cut is (Said i ∷ past) none.1 ∙ sym (member_cut_off past i none.0)

pub said_settles : (period : ℕ) (items : List Item) (past : List Moment) → HasNone items
    → settles_at period (said items past) ≡ settles_at period past
said_settles period [] past none = refl
said_settles period (i ∷ is) past none = said_settles period is (Said i ∷ past) none.1
    ∙ sym (member_settles period past i none.0)

-- ---- a frame after its FIG 0/0

-- one more announcement, if FIG 0/0 is sent
abbrev IsTimed : Plan → State → Bool → (past opening : List Moment) → Type 0
IsTimed plan u made past opening =
    (IsOnStep plan u × (times_announced opening ≡ cond made 0 (times_announced past) + 1))
    ⊎ ((IsOnStep plan u → ⊥) × (times_announced opening ≡ cond made 0 (times_announced past)))

-- the entries of a frame are FIG 0/0, if it is sent, and others. After FIG 0/0 a listener is tuned; it may make a swap,
-- which ends a notice; and change flags begin one.
pub record IsOpened (plan : Plan) (u : State) (made : Bool) (past : List Moment) (items : List Item) : Type 0 where
  pub heads : List Item
  pub members : List Item
  pub list : items ≡ heads ++ members
  pub are : said items past ≡ said members (said heads past)
  pub none : HasNone members
  pub sent : AllByRecursion (IsSentItem (on_air plan u) u.current u.next) members
  pub head : ((heads ≡ []) × (made ≡ false) × (IsOnStep plan u → ⊥))
      ⊎ ((i : Item) × (heads ≡ i ∷ []) × (is_ensemble i ≡ true) × (said_ensemble i ≡ ensemble_of plan u)
      × (is_swap past i ≡ made) × IsOnStep plan u)
  pub hears : (l : Listening) → listening past ≡ Some l
      → (listening (said heads past) ≡ Some (headed (ensemble_sent plan u) l))
      × ((headed (ensemble_sent plan u) l).tuned ≡ true)
  pub among : (i : Item) → Contains items i → is_ensemble i ≡ false → Contains members i
  pub rows_left : rows (said heads past) ≡ cond made [] (rows past)
  pub flagged : IsOnStep plan u → on_air plan u ≡ true → has_begun (said heads past) ≡ true
  pub unflagged : on_air plan u ≡ false → has_begun (said heads past) ≡ cond made false (has_begun past)
  pub cut : is_cut_off (said heads past) ≡ cond made false
      (cond (not (listener_after past).tuned) (on_air plan u) (is_cut_off past))
  pub times : on_air plan u ≡ true → IsTimed plan u made past (said heads past)
  pub settles : (period : ℕ)
      → settles_at period (said heads past) ≡ cond made (cond (is_cut_off past) (frames_ended past + period) 0)
      (settles_at period past)
  pub swapped : made ≡ true → (key : ℕ) → last_heard key (said heads past) ≡ frames_ended past + 1

flags_air : (plan : Plan) (u : State) → Airs plan u → (i : Item) → is_ensemble i ≡ true
    → said_ensemble i ≡ ensemble_of plan u → is_flagged i ≡ on_air plan u
flags_air plan u a i ens says = ensemble_flags i ens ∙ ap has_flags says ∙ by (on_air plan u) refl
  where
    by : (b : Bool) → on_air plan u ≡ b → has_flags (ensemble_of plan u) ≡ b
    by true on = flags_on plan u a on
    by false off = ap not (eq-eqb (ensemble_of plan u).change 0 ((ensemble_right plan u).unflagged off).0)

begun_no : (b x : Bool) → cond b false (x || false) ≡ cond b false x
begun_no true x = refl
begun_no false x = or_false x

one_more : (b : Bool) (n : ℕ) → cond b 1 (n + 1) ≡ cond b 0 n + 1
one_more true n = refl
one_more false n = refl

headed_opens : (plan : Plan) (u : State) → Airs plan u
    → (made : Bool) (past : List Moment) (i : Item) (members : List Item) → is_ensemble i ≡ true
    → said_ensemble i ≡ ensemble_of plan u
    → AllByRecursion (IsSentItem (on_air plan u) u.current u.next) members → IsOnStep plan u
    → is_made (listener_after past).awaited (ensemble_of plan u) ≡ made → IsOpened plan u made past (i ∷ members)
headed_opens plan u a made past i members ens says sent on is =
    let swap = ensemble_made past i ens ∙ ap (is_made (listener_after past).awaited) says ∙ is in
    let flags : is_flagged i ≡ on_air plan u = flags_air plan u a i ens says in
    record {
      heads = i ∷ [];
      members = members;
      list = refl;
      are = refl;
      none = none_of (on_air plan u) u members sent;
      sent = sent;
      head = inr (i, refl, ens, says, swap, on);
      hears = λ l h. (
        ensemble_heard past i l ens h ∙ ap (λ x. Some (at_ensemble x l)) says
            ∙ ap (λ o. Some (headed o l)) (sym (is_sent plan u on)),
        ap (λ o. (headed o l).tuned) (is_sent plan u on) ∙ at_tuned (ensemble_of plan u) l,
      );
      among = λ j inside other. elim (contains_cases i members j inside) [
        | inl here ↦ absurd (false≢true (sym other ∙ sym (ap is_ensemble here) ∙ ens))
        | inr more ↦ more
      ];
      rows_left = rows_are past i made swap;
      flagged = λ here air. begun_flagged past i made ens swap (flags ∙ air);
      unflagged = λ off. begun_is past i made false ens swap (flags ∙ off) ∙ begun_no made (has_begun past);
      cut = ap (λ t. cond t false
          (cond (is_ensemble i && not (listener_after past).tuned) (is_flagged i) (is_cut_off past))) swap
          ∙ ap (λ t. cond made false (cond (t && not (listener_after past).tuned) (is_flagged i) (is_cut_off past))) ens
          ∙ ap (λ t. cond made false (cond (not (listener_after past).tuned) t (is_cut_off past))) flags;
      times = λ air. inl (on, times_are past i made true swap (flags ∙ air) ∙ one_more made (times_announced past));
      settles = λ period. ap (λ t. cond t (cond (is_cut_off past) (frames_ended past + period) 0)
          (settles_at period past)) swap;
      swapped = λ yes key.
          ap (λ t. cond (t || (is_member past i && (not i.next && (key_of i.raw == key)))) (frames_ended past + 1)
          (last_heard key past)) (swap ∙ yes);
    }

bare_opens : (plan : Plan) (u : State) (past : List Moment) (members : List Item) → (IsOnStep plan u → ⊥)
    → AllByRecursion (IsSentItem (on_air plan u) u.current u.next) members → (listener_after past).tuned ≡ true
    → IsOpened plan u false past members
bare_opens plan u past members off sent tuned = record {
  heads = [];
  members = members;
  list = refl;
  are = refl;
  none = none_of (on_air plan u) u members sent;
  sent = sent;
  head = inl (refl, refl, off);
  hears = λ l h. (
    h ∙ ap (λ o. Some (headed o l)) (sym (not_sent plan u off)),
    ap (λ o. (headed o l).tuned) (not_sent plan u off) ∙ sym (ap (λ (x : Listening). x.tuned) (after_is past l h))
        ∙ tuned,
  );
  among = λ j inside other. inside;
  rows_left = refl;
  flagged = λ here air. absurd (off here);
  unflagged = λ air. refl;
  cut = sym (ap (λ t. cond (not t) (on_air plan u) (is_cut_off past)) tuned);
  times = λ air. inr (off, refl);
  settles = λ period. refl;
  swapped = λ yes. absurd (false≢true yes);
}

-- a due swap comes with FIG 0/0
pub due_on : (p : Program) (ts : List Known) → IsCode p ts → (s : State) → Holds p ts s → is_due s.left ≡ true
    → IsOnStep p.plan (shown p s)
due_on p ts c s holds due =
    let step = subst (λ (o : Option ℕ). SwapsOn p.plan s.count o) (due_left s.left due) holds.tracked.swaps in
    let none = (links p ts c s holds).count ∙ (let same : s.count ≡ s.count + 0 = omega arith in same) in
    ap (λ n. n % count_step (layout_mode p.plan.layout)) none ∙ step

tuned_by : (plan : Plan) (left : Option ℕ) (c n : Configuration) (count : ℕ) (l : Listening)
    → KnowsBy plan left c n count Nothing Nothing l → l.tuned ≡ true
tuned_by plan None c n count l h = h.is_tuned
tuned_by plan (Some k) c n count l h =
    elim (split_le plan.notice k) [ inl late ↦ (h.outside late).is_tuned | inr below ↦ (h.inside below).knows.is_tuned ]

between_tuned : (plan : Plan) (past : List Moment) (s : State) → IsBetween plan past s
    → (listener_after past).tuned ≡ true
between_tuned plan past s b = ap (λ (x : Listening). x.tuned) (after_is past b.heard b.is)
    ∙ tuned_by plan s.left s.current s.next s.count b.heard b.knows

-- a frame between others
pub next_opened : OneList → Laws → (r : Reading) (p : Program) (ts : List Known) → IsCode p ts → (s : State)
    → Holds p ts s → (past : List Moment) → IsBetween p.plan past s
    → (d : Bool) → is_due s.left ≡ d → IsOpened p.plan (shown p s) d past (items_at r p s)
next_opened one laws r p ts c s holds past b d due =
    let plan : Plan = p.plan in
    let u : State = shown p s in
    let a = airs p ts c s holds in
    let fs = frame_said one laws r plan u a in
    elim (zero_or_not (u.count % count_step (layout_mode plan.layout))) [
      | inl on ↦
          let head = subst (λ (o : Option EnsembleInformation). IsHeadOf o fs.heads) (is_sent plan u on) fs.header in
          let made : is_made (listener_after past).awaited (ensemble_of plan u) ≡ d =
          cc (after_is past b.heard b.is, made_where_due p ts c s holds past b, due) in
          subst (IsOpened plan u d past) (sym (fs.are ∙ ap (λ hs. hs ++ fs.members) head.1))
          (headed_opens plan u a d past head.0 fs.members head.2 head.3 fs.sent on made)
      | inr off ↦
          let bare = subst (λ (o : Option EnsembleInformation). IsHeadOf o fs.heads) (not_sent plan u off) fs.header in
          subst (IsOpened plan u d past) (sym (fs.are ∙ ap (λ hs. hs ++ fs.members) bare))
          (subst (λ (t : Bool). IsOpened plan u t past fs.members) (not_so off d due)
          (bare_opens plan u past fs.members off fs.sent (between_tuned plan past s b)))
    ]
  where
    not_so : (IsOnStep p.plan (shown p s) → ⊥) → (t : Bool) → is_due s.left ≡ t → false ≡ t
    not_so off true is = absurd (off (due_on p ts c s holds is))
    not_so off false is = refl

-- the first frame: before it nothing was heard, so that it makes no swap
pub first_opened : OneList → Laws → (r : Reading) (p : Program) (ts : List Known) → IsCode p ts → (s : State)
    → Holds p ts s → s.count % count_step (layout_mode p.plan.layout) ≡ 0
    → IsOpened p.plan (shown p s) false [] (items_at r p s)
first_opened one laws r p ts c s holds whole =
    let plan : Plan = p.plan in
    let u : State = shown p s in
    let a = airs p ts c s holds in
    let on = ap (λ n. n % count_step (layout_mode plan.layout)) (links p ts c s holds).count ∙ whole in
    let fs = frame_said one laws r plan u a in
    let head = subst (λ (o : Option EnsembleInformation). IsHeadOf o fs.heads) (is_sent plan u on) fs.header in
    subst (IsOpened plan u false []) (sym (fs.are ∙ ap (λ hs. hs ++ fs.members) head.1))
    (headed_opens plan u a false [] head.0 fs.members head.2 head.3 fs.sent on refl)

-- ---- what holds after all entries of the frame

pub opened_cut : (plan : Plan) (u : State) (made : Bool) (past : List Moment) (items : List Item)
    → IsOpened plan u made past items
    → is_cut_off (said items past)
    ≡ cond made false (cond (not (listener_after past).tuned) (on_air plan u) (is_cut_off past))
opened_cut plan u made past items o = ap is_cut_off o.are ∙ said_cut o.members (said o.heads past) o.none ∙ o.cut

pub opened_settles : (plan : Plan) (u : State) (made : Bool) (past : List Moment) (items : List Item)
    → IsOpened plan u made past items → (period : ℕ)
    → settles_at period (said items past) ≡ cond made (cond (is_cut_off past) (frames_ended past + period) 0)
    (settles_at period past)
opened_settles plan u made past items o period = ap (settles_at _) o.are ∙ said_settles _ _ _ o.none ∙ o.settles period

-- a frame without a swap does not change whether the beginning of the notice was heard
pub cut_still : (plan : Plan) (s u : State) (past : List Moment) (items : List Item) → IsBetween plan past s
    → IsOpened plan u false past items → is_cut_off (said items past) ≡ is_cut_off past
cut_still plan s u past items b o = cc (opened_cut plan u false past items o, between_tuned plan past s b)

-- what holds of FIG 0/0 and of each other entry holds of each entry of the frame
pub each_opened : (P : List Moment → Item → Type 0) (plan : Plan) (u : State) (made : Bool) (past : List Moment)
    (items : List Item) → (o : IsOpened plan u made past items)
    → ((i : Item) → is_ensemble i ≡ true → said_ensemble i ≡ ensemble_of plan u → P past i)
    → Each P (said o.heads past) o.members → Each P past items
each_opened P plan u made past items o f rest = subst (Each P past) (sym o.list) (elim o.head [
  | inl none ↦ subst (λ hs. Each P (said hs past) o.members → Each P past (hs ++ o.members)) (sym none.0) (λ e. e) rest
  | inr (i, are, ens, says, made_is, on) ↦
      subst (λ hs. Each P (said hs past) o.members → Each P past (hs ++ o.members)) (sym are) (λ e. (f i ens says, e))
      rest
])

-- ---- what a listener knows, one frame later

-- between two frames, and in a frame after FIG 0/0: it has heard the entries with these properties
pub record Knows (plan : Plan) (past : List Moment) (s : State) (C N : Raw → Type 0) : Type 0 where
  pub heard : Listening
  pub is : listening past ≡ Some heard
  pub knows : KnowsAt plan s C N heard

pub record Enters (p : Program) (s : State) (past : List Moment) (C N : Raw → Type 0) : Type 0 where
  pub heard : Listening
  pub is : listening past ≡ Some heard
  pub entered : InFrame p.plan (shown p s) C N (headed (ensemble_sent p.plan (shown p s)) heard)

pub enters_first : (p : Program) (ts : List Known) → IsCode p ts → (s : State) → Holds p ts s
    → s.count % count_step (layout_mode p.plan.layout) ≡ 0 → Enters p s [] Nothing Nothing
enters_first p ts c s holds on = record { heard = untuned; is = refl; entered = enters_untuned p ts c s holds on }

pub enters_due : (p : Program) (ts : List Known) → IsCode p ts → (s : State) → Holds p ts s
    → (past : List Moment) (C N : Raw → Type 0) → is_due s.left ≡ true → Knows p.plan past s C N
    → Enters p s past N Nothing
enters_due p ts c s holds past C N due g =
    record { heard = g.heard; is = g.is; entered = enters_swap p ts c s holds C N g.heard due g.knows }

pub enters_still : (p : Program) (ts : List Known) → IsCode p ts → (s : State) → Holds p ts s
    → (past : List Moment) (C N : Raw → Type 0) → is_due s.left ≡ false → Knows p.plan past s C N
    → Enters p s past C (Still p.plan (shown p s).left N)
enters_still p ts c s holds past C N due g =
    record { heard = g.heard; is = g.is; entered = enters p ts c s holds C N g.heard due g.knows }

-- it also knows the entries of the frame
pub knows_later : OneList → Laws → (r : Reading) (p : Program) (ts : List Known) → IsCode p ts → (s : State)
    → Holds p ts s → (past : List Moment) (C N D M : Raw → Type 0) → Enters p s past C N
    → ((x : Raw) → D x → Or C (RowSaid (frame_bytes p s) false) x)
    → ((x : Raw) → M x → Or N (RowSaid (frame_bytes p s) true) x)
    → Knows p.plan (past_after r p s past) (after_frame p s) D M
knows_later one laws r p ts c s holds past C N D M en f g =
    let plan : Plan = p.plan in
    let u : State = shown p s in
    let t : State = after_frame p s in
    let a = airs p ts c s holds in
    let X : Raw → Type 0 = Or C (RowSaid (frame_bytes p s) false) in
    let Y : Raw → Type 0 = Or N (RowSaid (frame_bytes p s) true) in
    let h = frame_heard laws plan u a C N en.heard en.entered in
    record {
      heard = h.after;
      is = fibs_heard one r true (fibs_in plan u) past en.heard h.after h.hears en.is;
      knows = knows_weaker _ _ _ _ _ _ _ _ _ _ f g (knows_after _ _ _ _ _ a h.knows);
    }

-- ---- an entry that is heard in the bytes of the frame is among its entries

pub entry_at_frame : FrameLaws → (r : Reading) (plan : Plan) (u : State) → Airs plan u → (m : Marked)
    → IsHeardInRow (shown_bytes plan u) m
    → (it : IsSaidOf (frame_items (read_frame r plan.layout (shown_bytes plan u))) m) × (is_ensemble it.item ≡ false)
entry_at_frame laws r plan u a m row =
    let able = pageable laws.heard.pages plan u a in
    let long = (laws.heard.pages.valid plan.layout (ensemble_sent plan u) u.page_index (sent_entries plan u) able).1 in
    let it = row_said laws.one laws.size r plan.layout (shown_bytes plan u) m long row in
    (it, ap (λ (x : Raw). x.ext == 0) it.raw ∙ ne_eqb (ext_of m.entry) 0 (λ e. omega (arith, e)))
