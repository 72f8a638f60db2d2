use Rattle.fib_carousel.proofs.Words.{◌*◌, ◌+◌, ◌-◌, ◌≡◌, IsShapeAt, List, NextIsAfter, Position, Some, ap, arith, refl}
use Rattle.fib_carousel.proofs.Words.{room, slice_index_or, slice_set, subst, sym, ℕ}
use Rattle.fib_carousel.proofs.Least.{room_high}
use Rattle.fib_carousel.proofs.Walk.{passed, passed_entry, walked_over, walked_end, passed_by}
use Rattle.fib_carousel.proofs.Filling.{FilledTo, Entered, filled_start, filled_all, filled_fits, filled_before}
use Rattle.fib_carousel.proofs.Closing.{past_entry, past_full, walked_past, passed_past}
use Rattle.fib_carousel.proofs.Together.{Room, RunIn, Counted, first_of_run, counted, takes, all_in}
use Rattle.fib_carousel.proofs.page_writer.put_figs.Goals.{Then-state-number, After-put_run-count, After-from}
use Rattle.fib_carousel.proofs.page_writer.put_figs.Goals.{Then-left-more-lt-SHORTEST}
use Rattle.fib_carousel.proofs.page_writer.put_figs.Given as given
use Rattle.fib_carousel.proofs.page_writer.put_figs.Goals as goal

-- the step of the entry into this FIB, and the room there for a run of its shape
entered : (g : given.Over) (c : Then-state-number g)
    → Entered c.args.layout (g.L.EntryList.entries c.args.list.now) c.args.place.number c.args.fib.now
    c.entries.position (record { index = c.entries.position.index + 1; state = c.in-Some.state })
entered g c = record {
  step = passed _ _ _ _ _ _ c.shape-shape.ensures.value c.in-Some.ensures.within.is;
  at = refl;
  into = c.if-state-number.true;
  used = c.in-Some.ensures.within.used;
  near = c.in-Some.ensures.within.near;
  inside = omega arith;
  room = c.requires.room;
}

free : (g : given.Over) (c : Then-state-number g)
    → Room c.args.layout c.args.place.number c.in-Some.state c.shape-shape.result
    (c.shape-shape.result.size + (c.args.place.room - c.in-Some.state.used))
free g c = record {
  first = first_of_run _ _ _ _ _ _ c.shape-shape.ensures.value c.shape-shape.ensures.small (entered g c).step;
  into = c.if-state-number.true;
  is = ap (λ k. c.shape-shape.result.size + (k - c.in-Some.state.used)) c.requires.known;
}

-- what the run takes of it, the position after the run, and the FIB with it
taken : (g : given.Over) (c : After-put_run-count g) → Counted c.args.layout c.args.place.number c.in-Some.state
    c.shape-shape.result c.put_run-count.result
taken g c = counted _ _ _ _ _ _ _ _ _ _ (free g (goal.at.overflow_sub-more g c).Then-state-number)
    (c.put_run-count.ensures c.shape-shape.result c.shape-shape.ensures.value)

abbrev after_run : (g : given.Over) (c : After-put_run-count g) → Position
after_run g c = record {
  index = c.entries.position.index + c.put_run-count.result;
  state = record {
    fib = c.in-Some.state.fib;
    used = c.in-Some.state.used + (c.put_run-count.result - 1)
        * c.shape-shape.result.size;
    head = c.in-Some.state.head;
  };
}

run_in : (g : given.Over) (c : After-put_run-count g)
    → RunIn c.args.layout (g.L.EntryList.entries c.args.list.now) c.args.place.number c.args.fib.now (after_run g c)
    c.fig_for-fig.result c.put_run-count.new.fib ((c.put_run-count.result - 1) * c.shape-shape.result.size)
run_in g c =
    let here = (goal.at.overflow_sub-more g c).Then-state-number in
    let at : IsShapeAt (g.L.EntryList.entries c.args.list.now) c.entries.position.index c.shape-shape.result =
    c.shape-shape.ensures.value in
    all_in _ _ _ _ _ _ c.put_run-count.new.fib c.entries.position _ (after_run g c) _ _ _ at (entered g here)
    c.entries.invariant c.fig_for-fig.ensures _ _ (free g here) (c.put_run-count.ensures _ at)
    (record { index = refl; fib = refl; used = refl; head = refl })

-- the loop's invariant after the run
filled : (g : given.Over) (c : After-from g)
    → FilledTo c.args.layout (g.L.EntryList.entries c.args.list.now) c.args.place.number c.args.fib.now
    (record {
      index = c.entries.position.index + c.from.result;
      state = (after_run g (goal.at.overflow_add-position g c).After-put_run-count).state;
    }) (Some c.fig_for-fig.result)
    c.lengthen_fig.new.self
filled g c =
    let run = (goal.at.overflow_add-position g c).After-put_run-count in
    let d : Position = after_run g run in
    let after : List ℕ = slice_set c.put_run-count.new.fib c.fig_for-fig.result.place
    (slice_index_or c.put_run-count.new.fib c.fig_for-fig.result.place 0 + (c.put_run-count.result - 1)
    * c.shape-shape.result.size) in
    let Filled : ℕ → List ℕ → Type 0 =
    λ n bs. FilledTo c.args.layout (g.L.EntryList.entries c.args.list.now) c.args.place.number c.args.fib.now
    (record { index = n; state = d.state }) (Some c.fig_for-fig.result) bs in
    let same : d.index ≡ c.entries.position.index + c.from.result =
    ap (λ n. c.entries.position.index + n) (sym c.from.ensures) in
    subst (λ (bs : List ℕ). Filled (c.entries.position.index + c.from.result) bs) (sym c.lengthen_fig.ensures)
    (subst (λ n. Filled n after) same (run_in g run).filled)

-- after a run that leaves less than the shortest entry takes, the next entry goes past the FIB
past : (g : given.Over) (c : Then-left-more-lt-SHORTEST g)
    → NextIsAfter c.args.layout (g.L.EntryList.entries c.args.list.now) c.args.place.number
    (record {
      index = c.entries.position.index + c.from.result;
      state = (after_run g (goal.at.returns-then-left-more-lt-SHORTEST-clause-past g c).After-put_run-count).state;
    })
past g c =
    let many = taken g (goal.at.returns-then-left-more-lt-SHORTEST-clause-past g c).After-put_run-count in
    let known : c.args.place.room ≡ room c.args.layout c.args.place.number = c.requires.known in
    past_full _ _ _ _ c.requires.sendable c.if-state-number.true
    (omega (arith, many.fits, known, c.if-left-more-lt-SHORTEST.true))

pub entries-init : goal.entries-init
entries-init g c = filled_start _ _ _ _ _ c.requires.stands

pub returns-in-None-clause-bytes : goal.returns-in-None-clause-bytes
returns-in-None-clause-bytes g c =
    let at : IsShapeAt (g.L.EntryList.entries c.args.list.now) c.entries.position.index c.shape-shape.result =
    c.shape-shape.ensures.value in
    filled_all _ _ _ _ _ _ _ c.entries.invariant
    (walked_over _ _ _ _ _ _ (passed_entry c.args.layout _ _ _ c.entries.position.state at)
    (c.then_within.ensures.behind c.in-None.is at.entry at.head at.size) c.entries.invariant.walked)

pub returns-in-None-clause-passed : goal.returns-in-None-clause-passed
returns-in-None-clause-passed g c =
    let at : IsShapeAt (g.L.EntryList.entries c.args.list.now) c.entries.position.index c.shape-shape.result =
    c.shape-shape.ensures.value in
    passed_by _ _ _ _ _ _ (passed_entry c.args.layout _ _ _ c.entries.position.state at)
    (c.then_within.ensures.behind c.in-None.is at.entry at.head at.size) c.entries.invariant.walked

pub fig_for-fig-requires-clause-room : goal.fig_for-fig-requires-clause-room
fig_for-fig-requires-clause-room g c =
    filled_fits _ _ _ _ _ c.entries.position _ _ _ c.shape-shape.ensures.value
    (entered g (goal.at.fig_for-fig-requires-clause-room g c).Then-state-number) c.entries.invariant

pub put_run-count-requires-clause-room : goal.put_run-count-requires-clause-room
put_run-count-requires-clause-room g c =
    let here = (goal.at.put_run-count-requires-clause-room g c).Then-state-number in
    takes _ _ _ _ _ _ c.entries.position _ _ _ _ c.shape-shape.ensures.value (entered g here) c.entries.invariant
    c.fig_for-fig.ensures _ (free g here)

pub returns-clause-bytes : goal.returns-clause-bytes
returns-clause-bytes g c = filled_all _ _ _ _ _ _ _ c.entries.invariant
    (walked_end _ _ _ _ _ (omega (arith, c.entries-test.false, c.requires.count)) c.entries.invariant.walked)

pub overflow_sub-more : goal.overflow_sub-more
overflow_sub-more g c =
    let put = c.put_run-count.ensures c.shape-shape.result c.shape-shape.ensures.value in
    omega (arith, put.some)

pub overflow_mul-more : goal.overflow_mul-more
overflow_mul-more g c =
    let many = taken g (goal.at.overflow_mul-more g c).After-put_run-count in
    omega (arith, many.fits, room_high c.args.layout c.args.place.number)

pub overflow_add-position-then-state-number : goal.overflow_add-position-then-state-number
overflow_add-position-then-state-number g c =
    let many = taken g (goal.at.overflow_add-position-then-state-number g c).After-put_run-count in
    omega (arith, many.fits, room_high c.args.layout c.args.place.number)

pub overflow_sub-left-then-state-number : goal.overflow_sub-left-then-state-number
overflow_sub-left-then-state-number g c =
    let many = taken g (goal.at.overflow_sub-left-then-state-number g c).After-put_run-count in
    let known : c.args.place.room ≡ room c.args.layout c.args.place.number = c.requires.known in
    omega (arith, many.fits, known)

pub lengthen_fig-requires-clause-place : goal.lengthen_fig-requires-clause-place
lengthen_fig-requires-clause-place g c =
    (run_in g (goal.at.lengthen_fig-requires-clause-place g c).After-put_run-count).place

pub lengthen_fig-requires-clause-fits : goal.lengthen_fig-requires-clause-fits
lengthen_fig-requires-clause-fits g c =
    (run_in g (goal.at.lengthen_fig-requires-clause-fits g c).After-put_run-count).byte

pub overflow_add-position : goal.overflow_add-position
overflow_add-position g c =
    let put = c.put_run-count.ensures c.shape-shape.result c.shape-shape.ensures.value in
    omega (arith, put.run.inside, c.requires.count, c.from.ensures)

pub entries-smaller-else-left-more-lt-SHORTEST : goal.entries-smaller-else-left-more-lt-SHORTEST
entries-smaller-else-left-more-lt-SHORTEST g c =
    let put = c.put_run-count.ensures c.shape-shape.result c.shape-shape.ensures.value in
    omega (arith, put.some, put.run.inside, c.requires.count, c.from.ensures)

pub entries-preserved-else-left-more-lt-SHORTEST : goal.entries-preserved-else-left-more-lt-SHORTEST
entries-preserved-else-left-more-lt-SHORTEST g c =
    filled g (goal.at.entries-preserved-else-left-more-lt-SHORTEST g c).After-from

pub entries-preserved : goal.entries-preserved
entries-preserved g c =
    let d : Position = record { index = c.entries.position.index + 1; state = c.in-Some.state } in
    let step = passed _ _ _ _ _ _ c.shape-shape.ensures.value c.in-Some.ensures.within.is in
    filled_before _ _ _ _ _ c.entries.position d _ step refl
    (omega (arith, c.in-Some.ensures.within.low, c.if-state-number.false)) c.in-Some.ensures.within.used
    c.in-Some.ensures.within.near (omega arith) c.entries.invariant

pub returns-in-None-clause-past : goal.returns-in-None-clause-past
returns-in-None-clause-past g c =
    let at : IsShapeAt (g.L.EntryList.entries c.args.list.now) c.entries.position.index c.shape-shape.result =
    c.shape-shape.ensures.value in
    past_entry c.args.layout (g.L.EntryList.entries c.args.list.now) c.args.place.number c.entries.position _
    (passed_entry c.args.layout _ _ _ c.entries.position.state at)
    (c.then_within.ensures.behind c.in-None.is at.entry at.head at.size)

pub returns-then-left-more-lt-SHORTEST-clause-bytes : goal.returns-then-left-more-lt-SHORTEST-clause-bytes
returns-then-left-more-lt-SHORTEST-clause-bytes g c =
    let all = filled g (goal.at.returns-then-left-more-lt-SHORTEST-clause-bytes g c).After-from in
    filled_all _ _ _ _ _ _ _ all
    (walked_past _ _ _ _ _ (past g
    (goal.at.returns-then-left-more-lt-SHORTEST-clause-bytes g c).Then-left-more-lt-SHORTEST) all.walked)

pub returns-then-left-more-lt-SHORTEST-clause-next : goal.returns-then-left-more-lt-SHORTEST-clause-next
returns-then-left-more-lt-SHORTEST-clause-next g c =
    (filled g (goal.at.returns-then-left-more-lt-SHORTEST-clause-next g c).After-from).walked.later

pub returns-then-left-more-lt-SHORTEST-clause-passed : goal.returns-then-left-more-lt-SHORTEST-clause-passed
returns-then-left-more-lt-SHORTEST-clause-passed g c =
    passed_past _ _ _ _ _ (past g
    (goal.at.returns-then-left-more-lt-SHORTEST-clause-passed g c).Then-left-more-lt-SHORTEST)
    (filled g (goal.at.returns-then-left-more-lt-SHORTEST-clause-passed g c).After-from).walked

pub returns-then-left-more-lt-SHORTEST-clause-past : goal.returns-then-left-more-lt-SHORTEST-clause-past
returns-then-left-more-lt-SHORTEST-clause-past g c =
    past g (goal.at.returns-then-left-more-lt-SHORTEST-clause-past g c).Then-left-more-lt-SHORTEST
