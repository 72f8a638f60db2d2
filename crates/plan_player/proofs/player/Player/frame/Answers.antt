use Rattle.plan_player.proofs.Words.{[], ◌∙◌, ◌∷◌, Frame, IsGoing, Playing, Program, ap, frame_bytes, state_of}
use Rattle.plan_player.proofs.FrameFacts.{lent_ready, lent_goes}
use Rattle.plan_player.proofs.player.Player.frame.Goals.{After-make_frame-self-inside}
use Rattle.plan_player.proofs.player.Player.frame.Given as given
use Rattle.plan_player.proofs.player.Player.frame.Goals as goal

-- the player after the frame
goes : (g : given.Over) (c : After-make_frame-self-inside g)
    → IsGoing c.self.inside.code.now (state_of g.S.Store.content c.make_frame-self-inside.new.machine)
    c.make_frame-self-inside.result c.make_frame-self-inside.new.pages
goes g c =
    let i = c.self.inside in
    let made = c.make_frame-self-inside in
    lent_goes _ _ _ _ _ _ _ _ c.code-code.ensures.value c.self.invariant made.ensures.state made.ensures.steps
    made.ensures.keeps made.ensures.change

pub make_frame-self-inside-requires : goal.make_frame-self-inside-requires
make_frame-self-inside-requires g c =
    let i = c.self.inside in
    record {
      ready = lent_ready _ _ _ _ _ c.code-code.ensures.value c.self.invariant;
    }

pub invariant_of-self : goal.invariant_of-self
invariant_of-self g c = goes g (goal.at.invariant_of-self g c).After-make_frame-self-inside

pub returns-clause-played : goal.returns-clause-played
returns-clause-played g c = (goes g (goal.at.returns-clause-played g c).After-make_frame-self-inside).played

pub returns-clause-bytes : goal.returns-clause-bytes
returns-clause-bytes g c =
    c.frame.ensures _ c.make_frame-self-inside.ensures.bytes
    ∙ ap (λ (p : Program). frame_bytes p (state_of g.S.Store.content c.self.inside.machine)) c.code-code.ensures.value
    ∙ ap (λ (x : Playing). frame_bytes x.code x.state) c.self.view_is

pub returns-clause-announced : goal.returns-clause-announced
returns-clause-announced g c = (c.promise.ensures (Frame ∷ [])).runs.0

pub returns-clause-right : goal.returns-clause-right
returns-clause-right g c = (c.promise.ensures (Frame ∷ [])).right.0

pub returns-clause-whole : goal.returns-clause-whole
returns-clause-whole g c = (c.promise.ensures []).whole

pub returns-clause-counted : goal.returns-clause-counted
returns-clause-counted g c = λ events. (c.promise.ensures events).counted

pub returns-clause-within : goal.returns-clause-within
returns-clause-within g c =
    rw (← c.self.view_is) (goes g (goal.at.returns-clause-within g c).After-make_frame-self-inside).within
