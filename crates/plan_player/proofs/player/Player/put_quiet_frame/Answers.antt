use Rattle.plan_player.proofs.Words.{[], ◌∙◌, ◌∷◌, ◌≡◌, Frame, IsQuiet, Playing, ap}
use Rattle.plan_player.proofs.Words.{frame_bytes, next_frame, played, state_of, subst, sym}
use Rattle.plan_player.proofs.player.Player.put_quiet_frame.Goals.{After-send, After-bytes}
use Rattle.plan_player.proofs.Stretches.{ready_in, quiet_goes, quiet_played, quiet_bytes}
use Rattle.plan_player.proofs.player.Player.put_quiet_frame.Given as given
use Rattle.plan_player.proofs.player.Player.put_quiet_frame.Goals as goal

-- the plan and the quiet state, of the player's own fields
plan_is : (g : given.Over) (c : After-send g) → c.args.plan.now ≡ c.self.inside.code.now.plan
plan_is g c = subst (λ (x : Playing). c.args.plan.now ≡ x.code.plan) (sym c.self.view_is) c.requires.plan

quiet : (g : given.Over) (c : After-send g) → IsQuiet c.self.inside.code.now
    (state_of g.S.Store.content c.self.inside.machine)
quiet g c = subst (λ (x : Playing). IsQuiet x.code x.state) (sym c.self.view_is) c.requires.quiet

-- the bytes of the frame
sent : (g : given.Over) (c : After-bytes g) → c.bytes.result.now ≡ next_frame c.args.self.now
sent g c =
    let plan = subst (λ (x : Playing). c.args.plan.now ≡ x.code.plan) (sym c.self.view_is) c.requires.plan in
    let still = subst (λ (x : Playing). IsQuiet x.code x.state) (sym c.self.view_is) c.requires.quiet in
    c.bytes.ensures.value ∙ c.frame.ensures _ c.send.ensures.bytes ∙ quiet_bytes _ _ _ plan still ∙ ap
    (λ (x : Playing). frame_bytes x.code x.state) c.self.view_is

pub send-requires-clause-sent : goal.send-requires-clause-sent
send-requires-clause-sent g c =
    let i = c.self.inside in
    (ready_in c.args.self.now i.code.now c.args.plan.now (state_of g.S.Store.content i.machine) i.steps i.pages
    c.self.view_is c.requires.plan c.requires.quiet c.self.invariant).sent

pub send-requires-clause-few : goal.send-requires-clause-few
send-requires-clause-few g c =
    let i = c.self.inside in
    (ready_in c.args.self.now i.code.now c.args.plan.now (state_of g.S.Store.content i.machine) i.steps i.pages
    c.self.view_is c.requires.plan c.requires.quiet c.self.invariant).few

pub send-requires-clause-keeps : goal.send-requires-clause-keeps
send-requires-clause-keeps g c =
    let i = c.self.inside in
    (ready_in c.args.self.now i.code.now c.args.plan.now (state_of g.S.Store.content i.machine) i.steps i.pages
    c.self.view_is c.requires.plan c.requires.quiet c.self.invariant).keeps

pub send-requires-clause-change : goal.send-requires-clause-change
send-requires-clause-change g c =
    let i = c.self.inside in
    (ready_in c.args.self.now i.code.now c.args.plan.now (state_of g.S.Store.content i.machine) i.steps i.pages
    c.self.view_is c.requires.plan c.requires.quiet c.self.invariant).change

pub invariant_of-self : goal.invariant_of-self
invariant_of-self g c =
    let i = c.self.inside in
    let here = (goal.at.invariant_of-self g c).After-send in
    let e = c.send.ensures in
    quiet_goes _ _ _ _ _ _ _ (plan_is g here) c.self.invariant (quiet g here) e.state e.keeps e.change

pub returns-clause-state : goal.returns-clause-state
returns-clause-state g c =
    let i = c.self.inside in
    let here = (goal.at.returns-clause-state g c).After-send in
    quiet_played _ _ _ _ i.steps (plan_is g here) (quiet g here) c.send.ensures.state ∙ ap
    (λ (x : Playing). played x (Frame ∷ [])) c.self.view_is

pub returns-clause-bytes : goal.returns-clause-bytes
returns-clause-bytes g c = rw (← sent g (goal.at.returns-clause-bytes g c).After-bytes) c.put_all.ensures.all

pub returns-clause-bound : goal.returns-clause-bound
returns-clause-bound g c = rw (← sent g (goal.at.returns-clause-bound g c).After-bytes) c.put_all.ensures.bound

pub returns-clause-part : goal.returns-clause-part
returns-clause-part g c = rw (← sent g (goal.at.returns-clause-part g c).After-bytes) c.put_all.ensures.part
