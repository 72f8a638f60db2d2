use Rattle.plan_player.proofs.Words.{◌-◌, ◌≡◌, ◌≤◌, AreQuiet, Playing, State}
use Rattle.plan_player.proofs.Words.{ap, arith, refl, state_of, subst, sym, true, ℕ}
use Rattle.plan_player.proofs.Joining.{stopped_among, one_delivered, one_stopped, first_quiet}
use Rattle.plan_player.proofs.Stretches.{fewer_quiet, stretch, quiet_done, quiet_stopped, some_quiet, goes_quiet}
use Rattle.plan_player.proofs.player.Player.put_quiet.Goals.{After-min-count}
use Rattle.plan_player.proofs.player.Player.put_quiet.Given as given
use Rattle.plan_player.proofs.player.Player.put_quiet.Goals as goal

-- the plan, the pages and the quiet frames, of the player's own fields
plan_is : (g : given.Over) (c : After-min-count g) → c.args.plan.now ≡ c.self.inside.code.now.plan
plan_is g c = subst (λ (x : Playing). c.args.plan.now ≡ x.code.plan) (sym c.self.view_is) c.requires.plan

few : (g : given.Over) (c : After-min-count g) → c.min-count.result ≤ c.args.most
few g c = omega (arith, c.min-count.ensures)

whole : (g : given.Over) (c : After-min-count g) → c.self.inside.pages.is_whole ≡ true
whole g c = grind (arith, c.if-not-self.false)

quiet : (g : given.Over) (c : After-min-count g) → AreQuiet c.self.inside.code.now c.min-count.result
    (state_of g.S.Store.content c.self.inside.machine)
quiet g c =
    fewer_quiet c.self.inside.code.now c.args.most c.min-count.result (state_of g.S.Store.content c.self.inside.machine)
    (few g c)
    (subst (λ (x : Playing). AreQuiet x.code c.args.most x.state) (sym c.self.view_is) c.requires.quiet)

pub same-self : goal.same-self
same-self g c = refl

pub put_quiet_frame-requires-clause-working : goal.put_quiet_frame-requires-clause-working
put_quiet_frame-requires-clause-working g c = c.requires.working

pub put_quiet_frame-requires-clause-plan : goal.put_quiet_frame-requires-clause-plan
put_quiet_frame-requires-clause-plan g c = c.requires.plan

pub put_quiet_frame-requires-clause-quiet : goal.put_quiet_frame-requires-clause-quiet
put_quiet_frame-requires-clause-quiet g c =
    let p : Playing = c.args.self.now in
    let m : ℕ = c.args.most - 1 in
    (first_quiet p.code p.state c.args.most m (omega (arith, c.requires.one)) c.requires.quiet).0

pub returns-in-Ok-clause-done : goal.returns-in-Ok-clause-done
returns-in-Ok-clause-done g c =
    let taken = g.K.Sink.taken in
    let h = c.in-Ok.ensures in
    one_delivered _ _ _ _ h.state h.bytes

pub returns-in-Ok-clause-some : goal.returns-in-Ok-clause-some
returns-in-Ok-clause-some g c = (omega arith, c.requires.one)

pub returns-in-Ok-clause-code : goal.returns-in-Ok-clause-code
returns-in-Ok-clause-code g c = rw (c.in-Ok.ensures.state) refl

pub returns-in-Ok-clause-works : goal.returns-in-Ok-clause-works
returns-in-Ok-clause-works g c = c.in-Ok.ensures.works

pub returns-in-Err-clause-code : goal.returns-in-Err-clause-code
returns-in-Err-clause-code g c = rw (c.in-Err.ensures.state) refl

pub returns-in-Err-clause-stopped : goal.returns-in-Err-clause-stopped
returns-in-Err-clause-stopped g c =
    let h = c.in-Err.ensures in
    let x = g.K.Sink.taken c.args.sink.now in
    let y = g.K.Sink.taken c.put_quiet_frame.new.sink in
    stopped_among _ _ _ _ _ _ _ _ c.requires.one (one_stopped _ _ _ _ _ h.state h.bound h.part)

pub returns-in-Err-clause-fails : goal.returns-in-Err-clause-fails
returns-in-Err-clause-fails g c = c.in-Err.ensures.fails

pub overflow_cast-count : goal.overflow_cast-count
overflow_cast-count g c = omega (arith, c.min-count.ensures, c.from.ensures)

pub put_stretch-requires-clause-one : goal.put_stretch-requires-clause-one
put_stretch-requires-clause-one g c = omega (arith, c.min-count.ensures, c.from.ensures, c.requires.one)

pub put_stretch-requires-clause-few : goal.put_stretch-requires-clause-few
put_stretch-requires-clause-few g c = omega (arith, c.min-count.ensures, c.from.ensures)

pub put_stretch-requires-clause-working : goal.put_stretch-requires-clause-working
put_stretch-requires-clause-working g c = c.requires.working

pub put_stretch-requires-clause-stretch : goal.put_stretch-requires-clause-stretch
put_stretch-requires-clause-stretch g c =
    let i = c.self.inside in
    let here = (goal.at.put_stretch-requires-clause-stretch g c).After-min-count in
    stretch _ _ _ _ _ _ (plan_is g here) (whole g here) c.self.invariant (quiet g here)

pub invariant_of-self : goal.invariant_of-self
invariant_of-self g c =
    let i = c.self.inside in
    let here = (goal.at.invariant_of-self g c).After-min-count in
    let counted = c.put_stretch.ensures.counted in
    goes_quiet _ _ _ _ _ _ _ _ (plan_is g here) counted.1 (whole g here) c.self.invariant (quiet g here) counted.2

pub returns-clause-done : goal.returns-clause-done
returns-clause-done g c =
    let i = c.self.inside in
    let here = (goal.at.returns-clause-done g c).After-min-count in
    let x = g.K.Sink.taken c.args.sink.now in
    let y = g.K.Sink.taken c.put_stretch.new.sink in
    let t : State = state_of g.S.Store.content c.put_stretch.new.machine in
    let e = c.put_stretch.ensures in
    let some : 1 ≤ c.min-count.result = omega (arith, c.min-count.ensures, c.requires.one, c.from.ensures) in
    rw (← c.self.view_is) (quiet_done _ _ _ _ t _ x y _ (plan_is g here) some (quiet g here) e.all e.state e.bytes)

pub returns-clause-some : goal.returns-clause-some
returns-clause-some g c =
    some_quiet c.args.most c.min-count.result c.put_stretch.result
    (omega (arith, c.min-count.ensures, c.requires.one, c.from.ensures))
    (few g (goal.at.returns-clause-some g c).After-min-count) c.put_stretch.ensures.all

pub returns-clause-code : goal.returns-clause-code
returns-clause-code g c = ap (λ (x : Playing). x.code) c.self.view_is

pub returns-clause-works : goal.returns-clause-works
returns-clause-works g c = c.put_stretch.ensures.works

pub returns-clause-stopped : goal.returns-clause-stopped
returns-clause-stopped g c =
    let i = c.self.inside in
    let here = (goal.at.returns-clause-stopped g c).After-min-count in
    let x = g.K.Sink.taken c.args.sink.now in
    let y = g.K.Sink.taken c.put_stretch.new.sink in
    let t : State = state_of g.S.Store.content c.put_stretch.new.machine in
    rw (← c.self.view_is) (quiet_stopped i.code.now c.args.plan.now c.args.most c.min-count.result
    (state_of g.S.Store.content i.machine) t i.steps x y c.put_stretch.result (plan_is g here) (few g here)
    (quiet g here) c.put_stretch.ensures.cut)

pub returns-clause-fails : goal.returns-clause-fails
returns-clause-fails g c = c.put_stretch.ensures.fails
