use Rattle.plan_player.proofs.Words.{[], ◌∙◌, ◌∷◌, ◌≡◌, Frame, IsQuiet, Playing, ap, played, state_of, subst, sym}
use Rattle.plan_player.proofs.player.Player.pass_quiet_frame.Goals.{After-send}
use Rattle.plan_player.proofs.Stretches.{ready_in, quiet_goes, quiet_played}
use Rattle.plan_player.proofs.player.Player.pass_quiet_frame.Given as given
use Rattle.plan_player.proofs.player.Player.pass_quiet_frame.Goals as goal

-- the plan and the quiet state, of the player's own fields
plan_is : (g : given.Over) (c : After-send g) → c.args.plan.now ≡ c.self.inside.code.now.plan
plan_is g c = subst (λ (x : Playing). c.args.plan.now ≡ x.code.plan) (sym c.self.view_is) c.requires.plan

quiet : (g : given.Over) (c : After-send g) → IsQuiet c.self.inside.code.now
    (state_of g.S.Store.content c.self.inside.machine)
quiet g c = subst (λ (x : Playing). IsQuiet x.code x.state) (sym c.self.view_is) c.requires.quiet

pub send-requires-clause-sent : goal.send-requires-clause-sent
send-requires-clause-sent g c =
    let i = c.self.inside in
    (ready_in c.args.self.now i.code.now c.args.plan.now (state_of g.S.Store.content i.machine) i.steps i.pages
    c.self.view_is c.requires.plan c.requires.quiet c.self.invariant).sent

pub send-requires-clause-few : goal.send-requires-clause-few
send-requires-clause-few g c =
    let i = c.self.inside in
    (ready_in c.args.self.now i.code.now c.args.plan.now (state_of g.S.Store.content i.machine) i.steps i.pages
    c.self.view_is c.requires.plan c.requires.quiet c.self.invariant).few

pub send-requires-clause-keeps : goal.send-requires-clause-keeps
send-requires-clause-keeps g c =
    let i = c.self.inside in
    (ready_in c.args.self.now i.code.now c.args.plan.now (state_of g.S.Store.content i.machine) i.steps i.pages
    c.self.view_is c.requires.plan c.requires.quiet c.self.invariant).keeps

pub send-requires-clause-change : goal.send-requires-clause-change
send-requires-clause-change g c =
    let i = c.self.inside in
    (ready_in c.args.self.now i.code.now c.args.plan.now (state_of g.S.Store.content i.machine) i.steps i.pages
    c.self.view_is c.requires.plan c.requires.quiet c.self.invariant).change

pub invariant_of-self : goal.invariant_of-self
invariant_of-self g c =
    let i = c.self.inside in
    let here = (goal.at.invariant_of-self g c).After-send in
    let e = c.send.ensures in
    quiet_goes _ _ _ _ _ _ _ (plan_is g here) c.self.invariant (quiet g here) e.state e.keeps e.change

pub returns : goal.returns
returns g c =
    let i = c.self.inside in
    let here = (goal.at.returns g c).After-send in
    quiet_played _ _ _ _ i.steps (plan_is g here) (quiet g here) c.send.ensures.state ∙ ap
    (λ (x : Playing). played x (Frame ∷ [])) c.self.view_is
