use Rattle.schedule_verifier.proofs.Words.{◌%◌, ◌+◌, Decides, FRAMES_A_DAY, alternatives_of, condition_holds, take}
use Rattle.schedule_verifier.proofs.conditions.condition.Given as goal

abbrev pub invariant-loop-alternative : goal.invariant-loop-alternative
invariant-loop-alternative l = Decides l.any l.region (λ contacts day.
    condition_holds contacts ((day + l.notice) % FRAMES_A_DAY) (take l.alternative-index (alternatives_of l.condition)))
