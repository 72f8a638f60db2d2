use Rattle.schedule_verifier.proofs.Words.{◌%◌, ◌+◌, Decides, FRAMES_A_DAY, list_all, take, test_holds}
use Rattle.schedule_verifier.proofs.conditions.all_hold.Given as goal

abbrev pub invariant-loop-one : goal.invariant-loop-one
invariant-loop-one l = Decides l.all l.region (λ contacts day.
    list_all (test_holds contacts ((day + l.notice) % FRAMES_A_DAY)) (take l.one-index l.tests))
