-- The notice of a run: how often it is announced, what is heard of it, and its flags at the swap.
use Rattle.stream_laws.proofs.Words.{[], ◌%◌, ◌&&◌, ◌++◌, ◌+◌, ◌-◌, ◌/◌, ◌<◌, ◌==◌, ◌∙◌, ◌∷◌, ◌≡◌, ◌≢◌, ◌≤◌, ◌⊎◌, Airs}
use Rattle.stream_laws.proofs.Words.{Bool, ChangeIsUnique, Contact, EnsembleInformation, Holds, I, IsAhead, IsCode}
use Rattle.stream_laws.proofs.Words.{IsNewly, Item, Known, KnowsAt, KnowsBy, KnowsPending, Laws, LeftBy, List}
use Rattle.stream_laws.proofs.Words.{Listening, Mode, Moment, None, Nothing, OneList, Option, Or, Plan, Program, Raw}
use Rattle.stream_laws.proofs.Words.{Reading, RowSaid, ShowsEach, Some, SomeSaid, SpellingIdentifies, State, Still}
use Rattle.stream_laws.proofs.Words.{SwapsOn, after_frame, after_is, airs, ap, arith, at_most, bits_of, change_between}
use Rattle.stream_laws.proofs.Words.{change_of, cond, count_step, each_whole, eq-eqb, eqb-true, false, false≢true}
use Rattle.stream_laws.proofs.Words.{frame_bytes, happens, heard_contacts, heard_frame, heard_of, inl, inr, is_cut_off}
use Rattle.stream_laws.proofs.Words.{is_due, is_first_noticed, is_made, is_noticed, last_flags, layout_mode, le-ltb}
use Rattle.stream_laws.proofs.Words.{left_after_frame, links, listener_after, nat_lt, none_said, not, noticed, refl}
use Rattle.stream_laws.proofs.Words.{said, shown, some_is, split_le, subst, sym, times_announced, true, ℕ, due_left}
use Rattle.stream_laws.proofs.AgreeingRuns.{on_air, IsBetween}
use Rattle.stream_laws.proofs.AgreeingFrames.{SinceFirst}
use Rattle.stream_laws.proofs.Opening.{IsOpened, opened_cut, past_after, items_at, first_opened, next_opened, cut_still}
use Rattle.stream_laws.proofs.Opening.{said_times, Knows, knows_later, enters_first, enters_due, enters_still}
use Rattle.stream_laws.proofs.Opening.{none_made}
use Rattle.stream_laws.proofs.Shown.{flags_of_change}
use Rattle.stream_laws.proofs.Agreeing.{none_or_some}
use Rattle.stream_laws.proofs.NoticeFrames.{current_whole, next_whole}
use Rattle.stream_laws.proofs.Words.{unnoticed_left, said_of_two, said_one, begun_left, none_heard}

-- ---- the number of announcements

-- a notice that was heard from its beginning has been announced as often as its frames so far require
abbrev pub IsCounted : Plan → List Moment → Option ℕ → Type 0
IsCounted plan past left =
    is_cut_off past ≡ false → (k : ℕ) → left ≡ Some k → k < plan.notice
    → plan.notice / count_step (layout_mode plan.layout) ≤ times_announced past + k
    / count_step (layout_mode plan.layout)

-- one frame later, one announcement less remains if FIG 0/0 was sent
with_one : (m : Mode) (w t k : ℕ) → 1 ≤ k → w / count_step m ≤ t + k / count_step m
    → w / count_step m ≤ (t + 1) + (k - 1) / count_step m
with_one I w t k some h = omega (arith, some, h)
with_one m w t k some h = omega (arith, some, h)

with_none : (m : Mode) (w t k count : ℕ) → 1 ≤ k → (count + k) % count_step m ≡ 0 → count % count_step m ≢ 0
    → w / count_step m ≤ t + k / count_step m → w / count_step m ≤ t + (k - 1) / count_step m
with_none I w t k count some on off h = omega (arith, some, on, off, h)
with_none m w t k count some on off h = omega (arith, some, on, off, h)

long_enough : (m : Mode) (w t k : ℕ) → 12 ≤ w → k ≡ 0 → w / count_step m ≤ t + k / count_step m → 3 ≤ t
long_enough I w t k long none h = omega (arith, long, none, h)
long_enough m w t k long none h = omega (arith, long, none, h)

whole_notice : (m : Mode) (w t k : ℕ) → w ≤ k → k ≤ w → w / count_step m ≤ t + k / count_step m
whole_notice I w t k from to = omega (arith, from, to)
whole_notice m w t k from to = omega (arith, from, to)

-- ---- a frame

pub no_counts : {X : Type 0} (k : ℕ) → None ≡ Some k → X
no_counts k e = absurd cc

newly_whole : (plan : Plan) (count : ℕ) (left : Option ℕ) (k t : ℕ) → IsNewly plan count left → left ≡ Some k
    → k ≤ plan.notice → plan.notice / count_step (layout_mode plan.layout) ≤ t + k
    / count_step (layout_mode plan.layout)
newly_whole plan count None k t new is to = no_counts k is
newly_whole plan count (Some j) k t new is to =
    let same : j ≡ k = some_is j k is in
    whole_notice (layout_mode plan.layout) plan.notice t k (omega (arith, new.0, same)) to

-- in a frame of the notice, where no swap is due
counted_at : (plan : Plan) (s u : State) (past : List Moment) (left : Option ℕ) (k : ℕ) → s.left ≡ left
    → LeftBy plan s.count left s.next u.left u.next → IsCounted plan past s.left → is_cut_off past ≡ false
    → u.left ≡ Some k → k ≤ plan.notice
    → plan.notice / count_step (layout_mode plan.layout) ≤ times_announced past + k
    / count_step (layout_mode plan.layout)
counted_at plan s u past None k is by h cut at to = newly_whole plan s.count u.left k (times_announced past) by at to
counted_at plan s u past (Some j) k is by h cut at to =
    elim (split_le plan.notice k) [
      | inl from ↦ whole_notice (layout_mode plan.layout) plan.notice (times_announced past) k from to
      | inr below ↦ h cut k (is ∙ ap Some (some_is j k (sym by.0 ∙ at))) below
    ]

-- after a frame
after_left : (left : Option ℕ) (k : ℕ) → left_after_frame left ≡ Some k → IsAhead left → (j : ℕ) × (left ≡ Some j)
    × (1 ≤ j) × (k ≡ j - 1)
after_left None k e ahead = no_counts k e
after_left (Some j) k e ahead = (j, refl, ahead, some_is k (j - 1) (sym e))

-- a swap is not too soon
soon_not : (cut : Bool) (n : ℕ) → (cut ≡ false → 3 ≤ n) → (not cut && nat_lt (at_most 3 n) 3) ≡ false
soon_not true n h = refl
soon_not false n h =
    ap (λ t. nat_lt (cond t n 3) 3) (le-ltb n 3 (h refl))

enough : (p : Program) (ts : List Known) → IsCode p ts → (past : List Moment) (left : Option ℕ)
    → IsCounted p.plan past left → is_cut_off past ≡ false → is_due left ≡ true → 3 ≤ times_announced past
enough p ts c past None counts whole due = absurd (false≢true due)
enough p ts c past (Some j) counts whole due =
    let none_left : j ≡ 0 = eqb-true j 0 due in
    let long : 12 ≤ p.plan.notice = omega (arith, c.program.planned.notice_from) in
    long_enough _ _ _ _ long none_left (counts whole j refl (omega (arith, none_left, long)))

pub not_too_soon : (p : Program) (ts : List Known) → IsCode p ts → (s : State) (past : List Moment)
    → IsCounted p.plan past s.left → is_due s.left ≡ true
    → (not (is_cut_off past) && nat_lt (at_most 3 (times_announced past)) 3) ≡ false
not_too_soon p ts c s past counts due = soon_not _ _ (λ whole. enough p ts c past s.left counts whole due)

-- ---- one frame later

-- nothing was heard, and the next frame has FIG 0/0; or frames were heard
abbrev pub IsCounting : Plan → List Moment → State → Type 0
IsCounting plan past s = SinceFirst plan past s (IsCounted plan past s.left)

-- given how often a notice that is on the air was announced before the frame, not counting one that a swap has ended
counted_by : (plan : Plan) (u : State) → Airs plan u → (made : Bool) (past : List Moment) (items : List Item)
    → IsOpened plan u made past items
    → ((j : ℕ) → u.left ≡ Some j → j ≤ plan.notice → on_air plan u ≡ true → is_cut_off (said items past) ≡ false
    → plan.notice / count_step (layout_mode plan.layout) ≤ cond made 0 (times_announced past) + j
    / count_step (layout_mode plan.layout))
    → IsCounted plan (said items past) (left_after_frame u.left)
counted_by plan u a made past items o old whole k is below =
    let step : ℕ = count_step (layout_mode plan.layout) in
    let t : ℕ = cond made 0 (times_announced past) in
    let there = after_left u.left k is a.ahead in
    let to : there.0 ≤ plan.notice = omega (arith, below, there.3, there.2) in
    let air : on_air plan u ≡ true = ap (is_noticed plan.notice) there.1 ∙ noticed plan.notice there.0 there.2 to in
    let before : plan.notice / step ≤ t + there.0 / step = old there.0 there.1 to air whole in
    let swaps : (u.count + there.0) % step ≡ 0 = subst (λ (x : Option ℕ). SwapsOn plan u.count x) there.1 a.swaps in
    let times = ap times_announced o.are ∙ said_times o.members (said o.heads past) o.none in
    let now : plan.notice / step ≤ times_announced (said o.heads past) + (there.0 - 1) / step = elim (o.times air) [
      | inl sent ↦ subst (λ (n : ℕ). plan.notice / step ≤ n + (there.0 - 1) / step) (sym sent.1)
          (with_one (layout_mode plan.layout) plan.notice t there.0 there.2 before)
      | inr bare ↦ subst (λ (n : ℕ). plan.notice / step ≤ n + (there.0 - 1) / step) (sym bare.1)
          (with_none (layout_mode plan.layout) plan.notice t there.0 u.count there.2 swaps bare.0 before)
    ] in
    rw times (rw there.3 now)

pub counted_after : OneList → Laws → (r : Reading) (p : Program) (ts : List Known) (c : IsCode p ts) (s : State)
    (holds : Holds p ts s) (past : List Moment) → IsCounting p.plan past s
    → IsCounted p.plan (past_after r p s past) (after_frame p s).left
counted_after one laws r p ts c s holds past (inl (none, on)) =
    let o = first_opened one laws r p ts c s holds on in
    subst (λ (l : List Moment). IsCounted p.plan (past_after r p s l) (after_frame p s).left) (sym none)
    (counted_by p.plan (shown p s) (airs p ts c s holds) false [] (items_at r p s) o
    (λ j is to air whole. absurd
    (false≢true (sym whole ∙ opened_cut p.plan (shown p s) false [] (items_at r p s) o ∙ air))))
counted_after one laws r p ts c s holds past (inr (b, counts)) = by (is_due s.left) refl
  where
    by : (d : Bool) → is_due s.left ≡ d → IsCounted p.plan (past_after r p s past) (after_frame p s).left
    by true due =
        counted_by p.plan (shown p s) (airs p ts c s holds) true past (items_at r p s)
        (next_opened one laws r p ts c s holds past b true due)
        (λ j is to air whole. newly_whole p.plan s.count (shown p s).left j 0 ((links p ts c s holds).due due) is to)
    by false due =
        let o = next_opened one laws r p ts c s holds past b false due in
        counted_by p.plan (shown p s) (airs p ts c s holds) false past (items_at r p s) o
        (λ j is to air whole. counted_at p.plan s (shown p s) past s.left j refl ((links p ts c s holds).left due)
        counts (sym (cut_still p.plan s (shown p s) past (items_at r p s) b o) ∙ whole) is to)

-- ---- what was heard of the notice, one frame later

abbrev pub more_heard : Bool → Bool → List (List ℕ) → List ℕ → List (List ℕ)
more_heard on due heard frame = cond on (cond due [] heard ++ frame ∷ []) (cond due [] heard)

pub heard_then : (p : Program) (ts : List Known) → IsCode p ts → (s : State) → Holds p ts s
    → heard_of p.plan (after_frame p s) ≡ more_heard (on_air p.plan (shown p s)) (is_due s.left) (heard_of p.plan s)
    (frame_bytes p s)
heard_then p ts c s holds = sym (heard_frame p ts c s holds)

-- where a swap was due, only this frame
swap_heard : (on : Bool) (heard : List (List ℕ)) (frame : List ℕ) (flag : Bool) (x : Raw)
    → SomeSaid (more_heard on true heard frame) flag x → RowSaid frame flag x
swap_heard true heard frame flag x h = said_one frame flag x h
swap_heard false heard frame flag x h = absurd (none_said flag x h)

still_heard : (on : Bool) (heard : List (List ℕ)) (frame : List ℕ) (flag : Bool) (x : Raw)
    → SomeSaid (more_heard on false heard frame) flag x → SomeSaid heard flag x ⊎ RowSaid frame flag x
still_heard true heard frame flag x h =
    elim (said_of_two heard (frame ∷ []) flag x h) [ inl old ↦ inl old | inr now ↦ inr (said_one frame flag x now) ]
still_heard false heard frame flag x h = inl h

-- what was heard before belongs to a notice that continues
goes_on : (p : Program) (ts : List Known) → IsCode p ts → (s : State) → Holds p ts s → is_due s.left ≡ false
    → (flag : Bool) (x : Raw) → SomeSaid (heard_of p.plan s) flag x → (b : Bool)
    → is_first_noticed p.plan.notice (shown p s).left ≡ b
    → is_first_noticed p.plan.notice (shown p s).left ≡ false
goes_on p ts c s holds due flag x h false e = e
goes_on p ts c s holds due flag x h true e =
    let link = links p ts c s holds in
    let none = none_heard p.plan s s.left (shown p s).left s.next (shown p s).next refl (link.left due)
    (begun_left p.plan.notice (shown p s).left e) in
    absurd (none_said flag x (subst (λ (xs : List (List ℕ)). SomeSaid xs flag x) none h))

-- ---- what the checker knows between two frames

-- heard in the current notice, which was heard from its beginning
abbrev pub Had : Plan → List Moment → State → Bool → Raw → Type 0
Had plan past s flag x = (is_cut_off past ≡ false) × SomeSaid (heard_of plan s) flag x

abbrev pub Follows : Plan → List Moment → State → Type 0
Follows plan past s = Knows plan past s (Had plan past s false) (Had plan past s true)

-- nothing was heard, and the next frame has FIG 0/0; or frames were heard
abbrev pub IsFollowing : Plan → List Moment → State → Type 0
IsFollowing plan past s = SinceFirst plan past s (Follows plan past s)

-- where the first FIG 0/0 of the stream is flagged, the beginning was not heard
pub cut_first : (plan : Plan) (u : State) (items : List Item) → IsOpened plan u false [] items → on_air plan u ≡ true
    → is_cut_off (said items []) ≡ true
cut_first plan u items o on = opened_cut plan u false [] items o ∙ on

-- ---- one more frame

first_follows : OneList → Laws → (r : Reading) (p : Program) (ts : List Known) → IsCode p ts → (s : State)
    → Holds p ts s → s.count % count_step (layout_mode p.plan.layout) ≡ 0
    → Follows p.plan (past_after r p s []) (after_frame p s)
first_follows one laws r p ts c s holds whole =
    knows_later one laws r p ts c s holds [] Nothing Nothing (Had p.plan (past_after r p s []) (after_frame p s) false)
    (Had p.plan (past_after r p s []) (after_frame p s) true)
    (enters_first p ts c s holds whole) (had (on_air p.plan (shown p s)) refl false)
    (had (on_air p.plan (shown p s)) refl true)
  where
    had : (b : Bool) → on_air p.plan (shown p s) ≡ b → (flag : Bool) (x : Raw)
        → Had p.plan (past_after r p s []) (after_frame p s) flag x → Or Nothing (RowSaid (frame_bytes p s) flag) x
    had true on flag x (cut, said) =
        absurd (false≢true (sym cut ∙ cut_first p.plan (shown p s) (items_at r p s)
        (first_opened one laws r p ts c s holds whole) on))
    had false off flag x (cut, said) =
        absurd (none_said flag x
        (subst (λ (xs : List (List ℕ)). SomeSaid xs flag x)
        (unnoticed_left p.plan (shown p s) (shown p s).left refl (airs p ts c s holds).ahead off) said))

next_follows : OneList → Laws → (r : Reading) (p : Program) (ts : List Known) → IsCode p ts → (s : State) → Holds p ts s
    → (past : List Moment) → IsBetween p.plan past s → Follows p.plan past s → (b : Bool) → is_due s.left ≡ b
    → Follows p.plan (past_after r p s past) (after_frame p s)
next_follows one laws r p ts c s holds past between g true due =
    let later : List Moment = past_after r p s past in
    let N : Raw → Type 0 = Had p.plan past s true in
    knows_later one laws r p ts c s holds past N Nothing (Had p.plan later (after_frame p s) false)
    (Had p.plan later (after_frame p s) true)
    (enters_due p ts c s holds past (Had p.plan past s false) N due g) (λ x had. inr (now false x had.1))
    (λ x had. inr (now true x had.1))
  where
    now : (flag : Bool) (x : Raw) → SomeSaid (heard_of p.plan (after_frame p s)) flag x
        → RowSaid (frame_bytes p s) flag x
    now flag x said =
        swap_heard (on_air p.plan (shown p s)) (heard_of p.plan s) (frame_bytes p s) flag x
        (subst (λ (xs : List (List ℕ)). SomeSaid xs flag x)
        (heard_then p ts c s holds
        ∙ ap (λ b. more_heard (on_air p.plan (shown p s)) b (heard_of p.plan s) (frame_bytes p s)) due) said)
next_follows one laws r p ts c s holds past between g false due =
    let later : List Moment = past_after r p s past in
    let u : State = shown p s in
    let C : Raw → Type 0 = Had p.plan past s false in
    let N : Raw → Type 0 = Had p.plan past s true in
    let cut = cut_still p.plan s u past (items_at r p s) between
    (next_opened one laws r p ts c s holds past between false due) in
    knows_later one laws r p ts c s holds past C (Still p.plan u.left N) (Had p.plan later (after_frame p s) false)
    (Had p.plan later (after_frame p s) true) (enters_still p ts c s holds past C N due g)
    (λ x had. elim (old_or_now false x had.1) [ inl old ↦ inl (sym cut ∙ had.0, old) | inr now ↦ inr now ])
    (λ x had. elim (old_or_now true x had.1) [
      | inl old ↦ inl (
        goes_on p ts c s holds due true x old (is_first_noticed p.plan.notice u.left) refl,
        (sym cut ∙ had.0, old),
      )
      | inr now ↦ inr now
    ])
  where
    old_or_now : (flag : Bool) (x : Raw) → SomeSaid (heard_of p.plan (after_frame p s)) flag x
        → SomeSaid (heard_of p.plan s) flag x ⊎ RowSaid (frame_bytes p s) flag x
    old_or_now flag x said =
        still_heard (on_air p.plan (shown p s)) (heard_of p.plan s) (frame_bytes p s) flag x
        (subst (λ (xs : List (List ℕ)). SomeSaid xs flag x)
        (heard_then p ts c s holds
        ∙ ap (λ b. more_heard (on_air p.plan (shown p s)) b (heard_of p.plan s) (frame_bytes p s)) due) said)

pub follows : OneList → Laws → (r : Reading) (p : Program) (ts : List Known) → IsCode p ts → (s : State) → Holds p ts s
    → (past : List Moment) → IsFollowing p.plan past s → Follows p.plan (past_after r p s past) (after_frame p s)
follows one laws r p ts c s holds past (inl (none, on)) = rw none (first_follows one laws r p ts c s holds on)
follows one laws r p ts c s holds past (inr (between, g)) =
    next_follows one laws r p ts c s holds past between g (is_due s.left) refl

-- the laws that are used
pub record SwapLaws : Type 0 where
  pub one : OneList
  pub heard : Laws
  pub tells : SpellingIdentifies
  pub change : ChangeIsUnique

-- ---- whole pictures

-- before the frame of a swap both pictures show their configurations
pub record AreWhole (past : List Moment) (s : State) : Type 0 where
  pub current : ShowsEach (listener_after past).current s.current
  pub next : ShowsEach (listener_after past).next s.next

pub whole_at_swap : Laws → (p : Program) (ts : List Known) → IsCode p ts → (s : State) → Holds p ts s
    → (past : List Moment) → Follows p.plan past s → is_due s.left ≡ true → is_cut_off past ≡ false → AreWhole past s
whole_at_swap laws p ts c s holds past g due whole =
    let plan : Plan = p.plan in
    let C : Raw → Type 0 = Had plan past s false in
    let N : Raw → Type 0 = Had plan past s true in
    let same : listener_after past ≡ g.heard = after_is past g.heard g.is in
    let pending : KnowsPending plan 0 s.current s.next s.count C N g.heard =
    subst (λ (o : Option ℕ). KnowsBy plan o s.current s.next s.count C N g.heard) (due_left s.left due) g.knows in
    let at = pending.inside (omega (arith, c.program.planned.notice_from)) in
    let current = each_whole s.current C g.heard.current at.knows.current
    (λ e inside. (whole, current_whole laws.pages p ts c s holds due e inside)) in
    let next = each_whole s.next N g.heard.next at.knows.next
    (λ e inside. (whole, next_whole laws.pages p ts c s holds due e inside)) in
    record {
      current = subst (λ (l : Listening). ShowsEach l.current s.current) (sym same) current;
      next = subst (λ (l : Listening). ShowsEach l.next s.next) (sym same) next;
    }

-- contacts between two frames change nothing of what is followed
pub follows_contact : (p : Program) (past : List Moment) (s : State) (d : ℕ) (closed : Bool) → Follows p.plan past s
    → Follows p.plan past (happens p s (Contact d closed))
follows_contact p past s d closed g =
    let t : State = happens p s (Contact d closed) in
    let heard : heard_of p.plan s ≡ heard_of p.plan t = sym (heard_contacts p.plan s d closed s.left refl) in
    record {
      heard = g.heard;
      is = g.is;
      knows = subst (λ (xs : List (List ℕ)). KnowsAt p.plan s (λ x. (is_cut_off past ≡ false) × SomeSaid xs false x)
          (λ x. (is_cut_off past ≡ false) × SomeSaid xs true x) g.heard) heard g.knows;
    }

-- ---- the flags

not_either : (cut x : Bool) → (cut ≡ false → x ≡ true) → (not cut && not x) ≡ false
not_either false false h = absurd (false≢true (h refl))
not_either _ _ h = refl

-- at a swap, unless the beginning of its notice was not heard
pub flags_change : SwapLaws → (p : Program) (ts : List Known) → IsCode p ts → (s : State) → Holds p ts s
    → (past : List Moment) → IsBetween p.plan past s → Follows p.plan past s
    → is_due s.left ≡ true → (e : EnsembleInformation) → is_made (listener_after past).awaited e ≡ true
    → (not (is_cut_off past) && not (last_flags past == change_between (listener_after past).current
    (listener_after past).next)) ≡ false
flags_change laws p ts c s holds past b g due e made =
    let same : listener_after past ≡ b.heard = after_is past b.heard b.is in
    let flags : last_flags past ≡ bits_of (change_of s.current s.next) = elim (none_or_some b.heard.awaited) [
      | inl none ↦ none_made e (listener_after past).awaited (ap (λ (l : Listening). l.awaited) same ∙ none) made
      | inr some ↦ b.flags some.0 some.1
    ] in
    not_either (is_cut_off past)
    (last_flags past == change_between (listener_after past).current (listener_after past).next) (λ whole.
    let are = whole_at_swap laws.heard p ts c s holds past g due whole in
    eq-eqb (last_flags past) (change_between (listener_after past).current (listener_after past).next)
    (flags ∙ sym (flags_of_change laws.tells laws.change (listener_after past).current (listener_after past).next
    s.current s.next holds.tracked.current holds.tracked.next are.current are.next)))
