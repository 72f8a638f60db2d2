use Rattle.plan_player.proofs.Words.{◌%◌, ◌*◌, ◌+◌, ◌/◌, ◌∙◌, ◌≡◌, Appends, IsCut, State, ap, arith, concat}
use Rattle.plan_player.proofs.Words.{notice_frames, state_of, suc, take, ℕ}
use Rattle.plan_player.proofs.Together.{Cut, stretch_cut, stretch_rounds, fewer_rounds}
use Rattle.plan_player.proofs.stretch.put_stretch.Goals.{After-fibs-size}
use Rattle.plan_player.proofs.stretch.put_stretch.Given as given
use Rattle.plan_player.proofs.stretch.put_stretch.Goals as goal

-- the bytes that the sink took are whole frames and a part of one
cut : (g : given.Over) (c : After-fibs-size g)
    → Cut c.args.plan.now c.args.count (state_of g.S.Store.content c.args.machine.now) c.in-Err.taken
    (c.in-Err.taken / (32 * c.fibs-size.result)) (c.in-Err.taken % (32 * c.fibs-size.result))
cut g c =
    let s : State = state_of g.S.Store.content c.args.machine.now in
    stretch_cut _ _ _ _ _ _ c.requires.stretch (ap (λ (k : ℕ). 32 * k) c.fibs-size.ensures.value)
    (omega (arith, c.fibs-size.ensures.in_range)) (rw (← c.as_slice.ensures ∙ c.fill.ensures) c.in-Err.ensures.bound)

pub overflow_cast-frames : goal.overflow_cast-frames
overflow_cast-frames g c =
    omega (arith, (cut g (goal.at.overflow_cast-frames g c).After-fibs-size).few, c.requires.few)

pub overflow_add-frames : goal.overflow_add-frames
overflow_add-frames g c =
    omega (arith, (cut g (goal.at.overflow_add-frames g c).After-fibs-size).few, c.requires.few)

pub returns-in-Err-clause-cut : goal.returns-in-Err-clause-cut
returns-in-Err-clause-cut g c =
    let plan = c.args.plan.now in
    let n : ℕ = c.args.count in
    let s : State = state_of g.S.Store.content c.args.machine.now in
    let x = g.K.Sink.taken c.args.sink.now in
    let y = g.K.Sink.taken c.put_all.new.sink in
    let frames : ℕ = c.in-Err.taken / (32 * c.fibs-size.result) in
    let bytes : ℕ = c.in-Err.taken % (32 * c.fibs-size.result) in
    let all = cut g (goal.at.returns-in-Err-clause-cut g c).After-fibs-size in
    let rounds = fewer_rounds plan _ n s _ (omega (arith, all.few)) (stretch_rounds plan n s _ c.requires.stretch) in
    let next : frames + 1 ≡ suc frames = omega arith in
    let part : Appends x y (take c.in-Err.taken (concat (notice_frames plan n s))) =
    rw (← c.as_slice.ensures ∙ c.fill.ensures) c.in-Err.ensures.part in
    let whole : IsCut plan n s (state_of g.S.Store.content c.pass_many-in-Err.new.machine) x y frames bytes = record {
      few = all.few;
      part = all.part;
      state = rw (← next) (c.pass_many-in-Err.ensures plan rounds);
      out = rw (← all.text) part;
    } in
    rw (c.from-in-Err.ensures) whole

pub returns-in-Ok-clause-counted : goal.returns-in-Ok-clause-counted
returns-in-Ok-clause-counted g c = (
  c.args.count,
  omega arith,
  c.pass_many.ensures c.args.plan.now
      (stretch_rounds c.args.plan.now c.args.count _ c.args.pages.now c.requires.stretch),
)

pub returns-in-Err-clause-counted : goal.returns-in-Err-clause-counted
returns-in-Err-clause-counted g c =
    let plan = c.args.plan.now in
    let n : ℕ = c.args.count in
    let s : State = state_of g.S.Store.content c.args.machine.now in
    let frames : ℕ = c.in-Err.taken / (32 * c.fibs-size.result) in
    let all = cut g (goal.at.returns-in-Err-clause-counted g c).After-fibs-size in
    let rounds = fewer_rounds plan _ n s _ (omega (arith, all.few)) (stretch_rounds plan n s _ c.requires.stretch) in
    (frames + 1, omega (arith, all.few), c.pass_many-in-Err.ensures plan rounds)
