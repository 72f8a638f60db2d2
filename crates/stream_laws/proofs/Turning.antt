-- Which page of entries is in turn in the frames of a run, and how many frames later each other one is.
use Rattle.stream_laws.proofs.Words.{◌*◌, ◌+◌, ◌-◌, ◌<◌, ◌==◌, ◌||◌, ◌∙◌, ◌≡◌, ◌≢◌, ◌≤◌, ◌⊎◌, Bool, Configuration}
use Rattle.stream_laws.proofs.Words.{Contact, Contains, Goes, Holds, IsCode, Known, LeftBy, List, Marked, None, Option}
use Rattle.stream_laws.proofs.Words.{PageLaws, Plan, Program, Some, State, after_frame, after_goes, airs, ap, arith}
use Rattle.stream_laws.proofs.Words.{begins_phase, cases_lt, cond, eqb-false, eqb-true, facts_of, false, happens, inl}
use Rattle.stream_laws.proofs.Words.{inr, is_due, is_first_noticed, is_noticed, le-ltb, left_after_frame, links, lt-ltb}
use Rattle.stream_laws.proofs.Words.{not_due, page_after, page_after_below, page_entries, refl, rounds, sends}
use Rattle.stream_laws.proofs.Words.{sent_entries, sent_period, sent_rounds, shown, some_is, some_rounds, split_le}
use Rattle.stream_laws.proofs.Words.{subst, sym, true, ℕ}
use Rattle.stream_laws.proofs.Following.{no_counts}
use Rattle.stream_laws.proofs.Words.{begun_left, left_on, current_inside}

-- ---- how many frames later a page is in turn

abbrev pub ComesIn : ℕ → ℕ → ℕ → ℕ → Type 0
ComesIn pages page_index page d = (d < pages) × ((page_index + d ≡ page) ⊎ (page_index + d ≡ page + pages))

pub comes_in : (pages page_index page : ℕ) → page_index < pages → page < pages → (d : ℕ)
    × ComesIn pages page_index page d
comes_in pages page_index page below last = elim (split_le page_index page) [
  | inl up ↦ (page - page_index, (omega (arith, last), inl (omega (arith, up))))
  | inr down ↦ (page + pages - page_index, (omega (arith, below, down), inr (omega (arith, below, down))))
]

same_or_not : (a b : ℕ) → (a ≡ b) ⊎ (a ≢ b)
same_or_not a b = by (a == b) refl
  where
    by : (t : Bool) → (a == b) ≡ t → (a ≡ b) ⊎ (a ≢ b)
    by true e = inl (eqb-true a b e)
    by false e = inr (eqb-false a b e)

comes_up : (pages page_index page d : ℕ) → page_index + 1 < pages → page < pages → page ≢ page_index
    → ComesIn pages (page_index + 1) page d → ComesIn pages page_index page (d + 1)
comes_up pages page_index page d up last apart (below, inl at) =
    (omega (arith, up, last, below, at), inl (omega (arith, at)))
comes_up pages page_index page d up last apart (below, inr at) =
    (omega (arith, up, last, below, at, apart), inr (omega (arith, at)))

comes_round : (pages page_index page d : ℕ) → page_index < pages → pages ≤ page_index + 1 → page < pages
    → page ≢ page_index → ComesIn pages 0 page d → ComesIn pages page_index page (d + 1)
comes_round pages page_index page d within top last apart (below, inl at) =
    (omega (arith, within, top, last, apart, at), inr (omega (arith, within, top, at)))
comes_round pages page_index page d within top last apart (below, inr at) = absurd (omega (arith, below, at))

-- a frame earlier, it was the page in turn or one frame further away
pub comes_before : (pages page_index page d : ℕ) → page_index < pages → page < pages
    → ComesIn pages (page_after pages page_index) page d → (page ≡ page_index) ⊎ ComesIn pages page_index page (d + 1)
comes_before pages page_index page d within last to = elim (same_or_not page page_index) [
  | inl same ↦ inl same
  | inr apart ↦ elim (cases_lt (page_index + 1) pages) [
    | inl lt ↦ inr (comes_up pages page_index page d lt last apart
        (subst (λ (t : ℕ). ComesIn pages t page d)
        (ap (λ (b : Bool). cond b (page_index + 1) 0) (lt-ltb (page_index + 1) pages lt)) to))
    | inr ge ↦ inr (comes_round pages page_index page d within ge last apart
        (subst (λ (t : ℕ). ComesIn pages t page d)
        (ap (λ (b : Bool). cond b (page_index + 1) 0) (le-ltb (page_index + 1) pages ge)) to))
  ]
]

-- ---- when an entry of the current configuration is sent

-- d frames later the page of an entry is in turn
pub record Comes (plan : Plan) (c : Configuration) (ms : List Marked) (page_index : ℕ) (m : Marked) (d : ℕ) : Type
    0 where
  pub fact : Contains (facts_of c false) m
  pub page : ℕ
  pub below : page < rounds plan.layout ms
  pub inside : Contains (page_entries plan.layout page ms) m
  pub comes : ComesIn (rounds plan.layout ms) page_index page d

pub comes_some : PageLaws → (plan : Plan) (c : Configuration) (ms : List Marked) (page_index : ℕ)
    → page_index < rounds plan.layout ms → (m : Marked) → Contains (facts_of c false) m → Contains ms m
    → (d : ℕ) × Comes plan c ms page_index m d
comes_some laws plan c ms page_index first m fact inside =
    let there = laws.each plan.layout ms m inside in
    let way = comes_in (rounds plan.layout ms) page_index there.0 first there.1 in
    (way.0, record { fact = fact; page = there.0; below = there.1; inside = there.2; comes = way.1 })

-- one frame earlier, it was in turn or one frame further away
pub comes_now : (plan : Plan) (c : Configuration) (ms : List Marked) (page_index : ℕ)
    → page_index < rounds plan.layout ms → (m : Marked) (d : ℕ)
    → Comes plan c ms (page_after (rounds plan.layout ms) page_index) m d
    → Contains (page_entries plan.layout page_index ms) m ⊎ Comes plan c ms page_index m (d + 1)
comes_now plan c ms page_index first m d x =
    elim (comes_before (rounds plan.layout ms) page_index x.page d first x.below x.comes) [
      | inl same ↦ inl (subst (λ (k : ℕ). Contains (page_entries plan.layout k ms) m) same x.inside)
      | inr further ↦ inr (record { fact = x.fact; page = x.page; below = x.below; inside = x.inside; comes = further })
    ]

-- ---- the pages in turn, along a run

-- in a frame and the ones before it each entry was sent; the bound is less than two periods, and outside of a notice
-- less than one
pub record Turns (plan : Plan) (s : State) : Type 0 where
  pub ms : List Marked
  pub page_index : ℕ
  pub bound : ℕ
  pub goes : Goes plan s ms page_index
  pub below : page_index < rounds plan.layout ms
  pub has : (m : Marked) → Contains (facts_of s.current false) m → Contains ms m
  pub to : bound + 2 ≤ 2 * plan.period
  pub outside : ((k : ℕ) → s.left ≡ Some k → k < plan.notice → ⊥) → bound + 1 ≤ plan.period

-- a bound, one frame later
pub record IsBound (plan : Plan) (u : State) (bound : ℕ) : Type 0 where
  pub from : plan.period ≤ bound + 1
  pub to : bound + 2 ≤ 2 * plan.period
  pub outside : ((k : ℕ) → left_after_frame u.left ≡ Some k → k < plan.notice → ⊥) → bound + 1 ≤ plan.period

pub some_period : (p : Program) (ts : List Known) → IsCode p ts → 1 ≤ p.plan.period
some_period p ts c = omega (arith, c.program.planned.period_from)

pub new_bound : (p : Program) (ts : List Known) → IsCode p ts → (u : State) → IsBound p.plan u (p.plan.period - 1)
new_bound p ts c u = (let some = some_period p ts c in
    record { from = omega (arith, some); to = omega (arith, some); outside = λ none. omega (arith, some) })

abbrev pub turns_by : (p : Program) (ts : List Known) → IsCode p ts → (s : State) → Holds p ts s → (bound : ℕ)
    → IsBound p.plan (shown p s) bound → Turns p.plan (after_frame p s)
turns_by p ts c s holds bound h =
    let plan : Plan = p.plan in
    let u : State = shown p s in
    record {
      ms = sent_entries plan u;
      page_index = page_after (sent_rounds plan u) u.page_index;
      bound = bound;
      goes = after_goes plan u (airs p ts c s holds) (sent_entries plan u) refl;
      below = page_after_below (sent_rounds plan u) u.page_index (some_rounds plan.layout (sent_entries plan u));
      has = λ m inside. current_inside u.current u.next (is_noticed plan.notice u.left) m inside;
      to = h.to;
      outside = h.outside;
    }

-- contacts between two frames change no turn
abbrev pub turns_contact : (p : Program) (s : State) (d : ℕ) (closed : Bool) → Turns p.plan s
    → Turns p.plan (happens p s (Contact d closed))
turns_contact p s d closed g = record {
  ms = g.ms;
  page_index = g.page_index;
  bound = g.bound;
  goes = record { sent = g.goes.sent; turn_is = g.goes.turn_is };
  below = g.below;
  has = g.has;
  to = g.to;
  outside = g.outside;
}

-- ---- where no swap is due

-- no notice had begun before one begins
none_before : (plan : Plan) (count : ℕ) (before left : Option ℕ) (n m : Configuration)
    → LeftBy plan count before n left m → left ≡ Some plan.notice → (k : ℕ) → before ≡ Some k → k < plan.notice → ⊥
none_before plan count None left n m g is k e below = no_counts k e
none_before plan count (Some j) left n m g is k e below =
    let one : j ≡ plan.notice = some_is j plan.notice (sym g.0 ∙ is) in
    let two : j ≡ k = some_is j k e in
    omega (arith, one, two, below)

-- an entry that comes d frames later came before the frame, too, and the difference is in the bounds
pub record Turned (p : Program) (s : State) (g : Turns p.plan s) : Type 0 where
  pub bound : ℕ
  pub is : IsBound p.plan (shown p s) bound
  pub before : (m : Marked) (d : ℕ) → Comes p.plan (shown p s).current (sent_entries p.plan (shown p s))
      (shown p s).page_index m d
      → (e : ℕ) × Comes p.plan s.current g.ms g.page_index m e × (d + g.bound ≤ e + bound)

pub turned : PageLaws → (p : Program) (ts : List Known) → IsCode p ts → (s : State) → Holds p ts s
    → (g : Turns p.plan s) → is_due s.left ≡ false → p.plan.period ≤ g.bound + 1
    → (b : Bool) → is_first_noticed p.plan.notice (shown p s).left ≡ b → Turned p s g
turned laws p ts c s holds g due from true first =
    let plan : Plan = p.plan in
    let u : State = shown p s in
    let link = links p ts c s holds in
    let some = some_period p ts c in
    let few : sent_rounds plan u ≤ plan.period = sent_period plan u (airs p ts c s holds) in
    let begun : u.left ≡ Some plan.notice = begun_left plan.notice u.left first in
    let small = g.outside (none_before plan s.count s.left u.left s.next u.next (link.left due) begun) in
    record {
      bound = 2 * plan.period - 2;
      is = record {
        from = omega (arith, some);
        to = omega (arith, some);
        outside = λ none. absurd
            (none (plan.notice - 1) (ap left_after_frame begun) (omega (arith, c.program.planned.notice_from)));
      };
      before = λ m d x.
          let mine : Contains (facts_of s.current false) m =
          subst (λ (y : Configuration). Contains (facts_of y false) m) (link.current due) x.fact in
          let way = comes_some laws plan s.current g.ms g.page_index g.below m mine (g.has m mine) in
          let short = x.comes.0 in
          (way.0, way.1, omega (arith, short, few, small, some));
    }
turned laws p ts c s holds g due from false first =
    let plan : Plan = p.plan in
    let u : State = shown p s in
    let link = links p ts c s holds in
    let quiet : begins_phase p s ≡ false = ap (λ t. t || is_first_noticed plan.notice u.left) due ∙ first in
    let sent = sends p ts c s holds quiet g.ms g.page_index g.goes in
    record {
      bound = g.bound;
      is = record {
        from = from;
        to = g.to;
        outside = λ none. g.outside (λ k is below.
            let more : 1 ≤ k = not_due k (sym (ap is_due is) ∙ due) in
            let left : u.left ≡ Some k = left_on plan s.count k s.left u.left s.next u.next is (link.left due) in
            none (k - 1) (ap left_after_frame left) (omega (arith, below)));
      };
      before = λ m d x. (
        d,
        subst (λ (i : ℕ). Comes plan s.current g.ms i m d) sent.turn_is
            (subst (λ (ms : List Marked). Comes plan s.current ms u.page_index m d) sent.entries
            (subst (λ (y : Configuration). Comes plan y (sent_entries plan u) u.page_index m d) (link.current due) x)),
        omega arith,
      );
    }
