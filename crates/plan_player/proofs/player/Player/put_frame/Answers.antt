use Rattle.plan_player.proofs.Words.{◌∙◌, ◌≡◌, Playing, Program, ap, frame_bytes, next_frame, state_of}
use Rattle.plan_player.proofs.FrameFacts.{lent_ready, lent_goes}
use Rattle.plan_player.proofs.player.Player.put_frame.Goals.{After-bytes}
use Rattle.plan_player.proofs.player.Player.put_frame.Given as given
use Rattle.plan_player.proofs.player.Player.put_frame.Goals as goal

-- the bytes of the frame
sent : (g : given.Over) (c : After-bytes g) → c.bytes.result.now ≡ next_frame c.args.self.now
sent g c =
    c.bytes.ensures.value
    ∙ c.frame.ensures _ c.make_frame-self-inside.ensures.bytes
    ∙ ap (λ (p : Program). frame_bytes p (state_of g.S.Store.content c.self.inside.machine)) c.code-code.ensures.value
    ∙ ap (λ (x : Playing). frame_bytes x.code x.state) c.self.view_is

pub make_frame-self-inside-requires : goal.make_frame-self-inside-requires
make_frame-self-inside-requires g c =
    let i = c.self.inside in
    record {
      ready = lent_ready _ _ _ _ _ c.code-code.ensures.value c.self.invariant;
    }

pub invariant_of-self : goal.invariant_of-self
invariant_of-self g c =
    let i = c.self.inside in
    let made = c.make_frame-self-inside in
    lent_goes _ _ _ _ _ _ _ _ c.code-code.ensures.value c.self.invariant made.ensures.state made.ensures.steps
    made.ensures.keeps made.ensures.change

pub returns-clause-bytes : goal.returns-clause-bytes
returns-clause-bytes g c = rw (← sent g (goal.at.returns-clause-bytes g c).After-bytes) c.put_all.ensures.all

pub returns-clause-bound : goal.returns-clause-bound
returns-clause-bound g c = rw (← sent g (goal.at.returns-clause-bound g c).After-bytes) c.put_all.ensures.bound

pub returns-clause-part : goal.returns-clause-part
returns-clause-part g c = rw (← sent g (goal.at.returns-clause-part g c).After-bytes) c.put_all.ensures.part
