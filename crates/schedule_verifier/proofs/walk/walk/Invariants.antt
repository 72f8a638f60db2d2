use Rattle.schedule_verifier.proofs.Words.{Comes}
use Rattle.schedule_verifier.proofs.walk.walk.Given as goal

abbrev pub invariant-steps : goal.invariant-steps
invariant-steps l = Comes l.code l.region l.top l.fn.next l.pc l.next
