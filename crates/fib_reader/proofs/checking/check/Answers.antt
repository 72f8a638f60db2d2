use Rattle.fib_reader.proofs.Words.{◌∙◌, ◌≡◌, None, Ok, ap, arith, figs_fault, length, refl, sym, take}
use Rattle.fib_reader.proofs.FigFaults.{found_is_fault}
use Rattle.fib_reader.proofs.FigLists.{sound_figs, same_figs, no_fault_twice}
use Rattle.fib_reader.proofs.checking.check.Goals as goal

pub returns-in-Some-clause-every : goal.returns-in-Some-clause-every
returns-in-Some-clause-every c =
    λ figs h. absurd (no_fault_twice _ _ _ figs c.in-Some.fault h.1 (sym c.figs_fault_of.ensures ∙ c.in-Some.is))

pub returns-in-Some-clause-fault : goal.returns-in-Some-clause-fault
returns-in-Some-clause-fault c =
    found_is_fault _ c.in-Some.fault (c.if-not-is_checked.ensures.0 refl) (sym c.figs_fault_of.ensures ∙ c.in-Some.is)

pub of-requires : goal.of-requires
of-requires c =
    (sound_figs _ 0 (take 30 c.args.bytes.now) (omega arith) (sym c.figs_fault_of.ensures ∙ c.in_default.is)).0

pub returns-clause-figs : goal.returns-clause-figs
returns-clause-figs c =
    let none : figs_fault (length (take 30 c.args.bytes.now)) 0 (take 30 c.args.bytes.now) ≡ None =
    sym c.figs_fault_of.ensures ∙ c.in_default.is in (
      c.if-not-is_checked.ensures.0 refl,
      rw c.of.ensures
          (sound_figs _ 0 (take 30 c.args.bytes.now) (omega arith) none).1,
    )

pub returns-clause-every : goal.returns-clause-every
returns-clause-every c = λ figs h. ap Ok (c.of.ensures ∙ same_figs _ figs h.1)
