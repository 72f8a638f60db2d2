use Rattle.plan_player.proofs.Words.{◌-◌, ◌≡◌, ◌≤◌, AreQuiet, IsStretch, Playing, State, arith}
use Rattle.plan_player.proofs.Words.{state_of, subst, sym, true, ℕ}
use Rattle.plan_player.proofs.Joining.{first_quiet}
use Rattle.plan_player.proofs.Stretches.{fewer_quiet, stretch, goes_quiet, passed_by}
use Rattle.plan_player.proofs.Together.{stretch_rounds, turn_within}
use Rattle.plan_player.proofs.player.Player.pass_quiet.Goals.{After-min-count}
use Rattle.plan_player.proofs.player.Player.pass_quiet.Given as given
use Rattle.plan_player.proofs.player.Player.pass_quiet.Goals as goal

-- the plan, the pages and the quiet frames, of the player's own fields
plan_is : (g : given.Over) (c : After-min-count g) → c.args.plan.now ≡ c.self.inside.code.now.plan
plan_is g c = subst (λ (x : Playing). c.args.plan.now ≡ x.code.plan) (sym c.self.view_is) c.requires.plan

few : (g : given.Over) (c : After-min-count g) → c.min-count.result ≤ c.args.most
few g c = omega (arith, c.min-count.ensures)

some : (g : given.Over) (c : After-min-count g) → 1 ≤ c.min-count.result
some g c = omega (arith, c.min-count.ensures, c.from.ensures, c.requires.one)

whole : (g : given.Over) (c : After-min-count g) → c.self.inside.pages.is_whole ≡ true
whole g c = grind (arith, c.if-not-self.false)

quiet : (g : given.Over) (c : After-min-count g) → AreQuiet c.self.inside.code.now c.min-count.result
    (state_of g.S.Store.content c.self.inside.machine)
quiet g c =
    fewer_quiet c.self.inside.code.now c.args.most c.min-count.result (state_of g.S.Store.content c.self.inside.machine)
    (few g c)
    (subst (λ (x : Playing). AreQuiet x.code c.args.most x.state) (sym c.self.view_is) c.requires.quiet)

stretches : (g : given.Over) (c : After-min-count g) → IsStretch c.args.plan.now c.min-count.result
    (state_of g.S.Store.content c.self.inside.machine) c.self.inside.pages
stretches g c =
    let i = c.self.inside in
    stretch i.code.now c.args.plan.now c.min-count.result (state_of g.S.Store.content i.machine) i.steps i.pages
    (plan_is g c) (whole g c) c.self.invariant (quiet g c)

pub pass_quiet_frame-requires-clause-quiet : goal.pass_quiet_frame-requires-clause-quiet
pass_quiet_frame-requires-clause-quiet g c =
    let p : Playing = c.args.self.now in
    let m : ℕ = c.args.most - 1 in
    (first_quiet p.code p.state c.args.most m (omega (arith, c.requires.one)) c.requires.quiet).0

pub pass_many-requires-clause-within : goal.pass_many-requires-clause-within
pass_many-requires-clause-within g c =
    let i = c.self.inside in
    let here = (goal.at.pass_many-requires-clause-within g c).After-min-count in
    turn_within c.args.plan.now c.min-count.result (state_of g.S.Store.content i.machine) i.pages (some g here)
    (stretches g here)

pub invariant_of-self : goal.invariant_of-self
invariant_of-self g c =
    let i = c.self.inside in
    let here = (goal.at.invariant_of-self g c).After-min-count in
    let s : State = state_of g.S.Store.content i.machine in
    let n : ℕ = c.min-count.result in
    let rounds = stretch_rounds c.args.plan.now n s i.pages (stretches g here) in
    let state = c.pass_many.ensures c.args.plan.now rounds in
    goes_quiet i.code.now c.args.plan.now n n s (state_of g.S.Store.content c.pass_many.new.machine) i.steps i.pages
    (plan_is g here) (omega arith) (whole g here) c.self.invariant (quiet g here) state

pub returns-clause-state : goal.returns-clause-state
returns-clause-state g c =
    let i = c.self.inside in
    let here = (goal.at.returns-clause-state g c).After-min-count in
    let s : State = state_of g.S.Store.content i.machine in
    let n : ℕ = c.min-count.result in
    let rounds = stretch_rounds c.args.plan.now n s i.pages (stretches g here) in
    let state = c.pass_many.ensures c.args.plan.now rounds in
    rw (← c.self.view_is, c.from-2.ensures) (passed_by i.code.now c.args.plan.now n s
    (state_of g.S.Store.content c.pass_many.new.machine) i.steps (plan_is g here) (some g here) (quiet g here) state)
