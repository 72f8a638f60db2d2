use Rattle.plan_debug.proofs.Words.{◌∷◌, ◌≡◌, arith, raw_entry}
use Rattle.std.proofs.lemmas.Grind.{common_steps}
use Rattle.mux_types.specs.declared.entry.Entry.TheVariants.{Ensemble as EnsembleOf}
use Rattle.plan_debug.proofs.Headers.{header_held}
use Rattle.plan_debug.proofs.decoding.announcement_in_fib.Goals as goal

pub returns-in-Err-clause-headed : goal.returns-in-Err-clause-headed
returns-in-Err-clause-headed c = λ header others e fib inside.
    let read = c.in-Err.ensures.every (header ∷ others) fib in
    grind (arith, common_steps, read)

pub returns-clause-headed : goal.returns-clause-headed
returns-clause-headed c = λ header others e fib inside.
    let read = c.in-Ok.ensures.every (header ∷ others) fib in
    let h = header_held c.args.fib.now header others e fib inside in
    let same : c.in_ok-first.first ≡ header = grind (arith, common_steps, read, c.in_ok-first.ensures) in
    let one : c.in_ok-entry.entry ≡ raw_entry (EnsembleOf e) =
    grind (arith, common_steps, same, h.entries, c.entries.ensures, c.in_ok-entry.ensures) in
    c.announcement_of_entry.ensures e one h.within
