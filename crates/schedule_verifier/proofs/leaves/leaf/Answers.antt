use Rattle.schedule_verifier.proofs.Words.{◌≡◌, CommitIn, End, Some, WaitAny, instr_at}
use Rattle.schedule_verifier.proofs.Leaving.{commit_leads, end_leads, wait_leads}
use Rattle.schedule_verifier.proofs.leaves.leaf.Goals as goal

pub returns-in-CommitIn : goal.returns-in-CommitIn
returns-in-CommitIn c =
    let there : instr_at c.args.code.now c.args.pc ≡ Some (CommitIn c.in-CommitIn.delay) =
    cc (c.instr.ensures.value, c.in-Some.is, c.in-CommitIn.is) in
    commit_leads c.args.schedule.now c.args.code.now c.args.current.now c.args.region.now c.args.pc c.in-CommitIn.delay
    c.args.next.now c.changes.result there (c.changes.ensures c.args.current.now)

pub returns-in-WaitAny : goal.returns-in-WaitAny
returns-in-WaitAny c =
    let there : instr_at c.args.code.now c.args.pc
    ≡ Some (WaitAny c.in-WaitAny.closed c.in-WaitAny.opened c.in-WaitAny.until c.in-WaitAny.frames) =
    cc (c.instr.ensures.value, c.in-Some.is, c.in-WaitAny.is) in
    wait_leads c.args.schedule.now c.args.code.now c.args.current.now c.args.next.now c.args.region.now c.args.pc
    c.in-WaitAny.closed c.in-WaitAny.opened c.in-WaitAny.until c.in-WaitAny.frames c.rests.result c.answer.result there
    c.answer.ensures c.rests.ensures

pub returns-in-End : goal.returns-in-End
returns-in-End c =
    let there : instr_at c.args.code.now c.args.pc ≡ Some End =
    cc (c.instr.ensures.value, c.in-Some.is, c.in-End.is) in
    end_leads c.args.schedule.now c.args.code.now c.args.current.now c.args.next.now c.args.region.now c.args.pc
    c.stays.result c.answer-in-End.result there c.answer-in-End.ensures c.stays.ensures
