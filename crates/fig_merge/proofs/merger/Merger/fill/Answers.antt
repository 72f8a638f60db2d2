use Rattle.fig_merge.proofs.Words.{◌++◌, ◌-◌, ◌∙◌, ◌≡◌, Bool, Fig, IsFib, IsPassedOver, List, Listening, Ok, Result}
use Rattle.fig_merge.proofs.Words.{Some, after_fill, agrees_with, ap₂, arith, carried_in, checked, concat, data_of}
use Rattle.fig_merge.proofs.Words.{fig_agrees, filled, filled_fib, length, refl, sym, take, ℕ}
use Rattle.fib_reader.specs.Listening.{hear_figs}
use Rattle.fib_reader.specs.declared.fault.FibFault.{FibFault}
use Rattle.stream_check.proofs.Seeing.{read_whole}
use Rattle.fig_merge.proofs.Hearing.{fill_is, heard_is, judges}
use Rattle.fig_merge.proofs.Passing.{data_short, data_front, filled_is, all_left, few_left}
use Rattle.fig_merge.proofs.merger.Merger.fill.Goals as goal

pub data_len-used-requires : goal.data_len-used-requires
data_len-used-requires c = data_short c.args.fib.now c.in-Ok.figs c.in-Ok.ensures.figs

pub carry-load-requires-clause-within : goal.carry-load-requires-clause-within
carry-load-requires-clause-within c =
    omega (arith, data_short c.args.fib.now c.in-Ok.figs c.in-Ok.ensures.figs, c.data_len-used.ensures)

pub invariant_of-self : goal.invariant_of-self
invariant_of-self c =
    let ok = fig_agrees c.current.result.now in
    let room = 30 - c.data_len-used.result in
    let left = c.carry-load.ensures.left in
    record {
      few = rw left (omega (arith, few_left ok room c.self.inside.queue, c.self.invariant.few));
      passed_over = rw left (all_left IsPassedOver ok room c.self.inside.queue c.self.invariant.passed_over);
    }

-- the bytes of the FIB, by the FIGs that were read
pub bytes_are : (before behind sealed : List ℕ) (used : ℕ) (figs : List Fig) (l : Listening) (ok : List ℕ → Bool)
    (waiting : List (List ℕ)) → IsFib before figs → used ≡ length (data_of figs)
    → ok ≡ agrees_with figs l → behind ≡ take used before ++ concat (carried_in ok (30 - used) waiting)
    → sealed ≡ checked (filled behind) → sealed ≡ filled_fib figs l waiting
bytes_are before behind sealed used figs l ok waiting is size same carried seals =
    let front : take used before ≡ data_of figs = rw (size) (data_front before figs is) in
    cc (seals, carried, ap₂ (λ xs n. xs ++ concat (carried_in ok (30 - n) waiting)) front size, same)

-- the FIGs of the FIB are read in one way alone
abbrev whole : List Fig → Result (List Fig) FibFault
whole figs = Ok figs

ok_same : (one other : List Fig) → whole one ≡ whole other → one ≡ other
ok_same one other same = cc

pub returns-clause-figs : goal.returns-clause-figs
returns-clause-figs c = λ figs is.
    let l = c.self.inside.listener in
    let waiting = c.self.inside.queue in
    let same : c.in-Ok.figs ≡ figs = ok_same _ _ (sym c.in-Ok.is ∙ c.check.ensures.every figs is) in
    let heard = heard_is (hear_figs c.in-Ok.figs l) l c.hear.new.self c.hear.result
    (c.hear.ensures.every c.in-Ok.figs c.in-Ok.ensures.figs) in
    let here : c.end_fib.new.fib ≡ filled_fib c.in-Ok.figs l waiting =
    bytes_are c.args.fib.now _ c.end_fib.new.fib c.data_len-used.result c.in-Ok.figs l (fig_agrees c.current.result.now)
    waiting
    c.in-Ok.ensures.figs c.data_len-used.ensures
    (judges c.in-Ok.figs l c.hear.new.self c.current.result.now heard c.current.ensures) c.carry-load.ensures.data
    c.end_fib.ensures in
    let there : c.end_fib.new.fib ≡ filled_fib figs l waiting = rw (← same) here in
    rw (← c.self.view_is) (rw (there) (filled_is c.args.fib.now figs l waiting is c.self.invariant.passed_over))

pub returns-clause-bytes : goal.returns-clause-bytes
returns-clause-bytes c = λ r.
    let l = c.self.inside.listener in
    let waiting = c.self.inside.queue in
    let one : Some c.in-Ok.figs ≡ r.read c.args.fib.now = read_whole _ _ c.in-Ok.ensures.figs
    (λ fs is. sym c.in-Ok.is ∙ c.check.ensures.every fs is) _ (r.right c.args.fib.now) in
    let heard = heard_is (hear_figs c.in-Ok.figs l) l c.hear.new.self c.hear.result
    (c.hear.ensures.every c.in-Ok.figs c.in-Ok.ensures.figs) in
    let here : c.end_fib.new.fib ≡ filled_fib c.in-Ok.figs l waiting =
    bytes_are c.args.fib.now _ c.end_fib.new.fib c.data_len-used.result c.in-Ok.figs l (fig_agrees c.current.result.now)
    waiting
    c.in-Ok.ensures.figs c.data_len-used.ensures
    (judges c.in-Ok.figs l c.hear.new.self c.current.result.now heard c.current.ensures) c.carry-load.ensures.data
    c.end_fib.ensures in
    rw (← one) (here ∙ (rw (← c.self.view_is) refl))

pub returns-clause-merger : goal.returns-clause-merger
returns-clause-merger c = λ r.
    let l = c.self.inside.listener in
    let m = c.args.self.now in
    let one : Some c.in-Ok.figs ≡ r.read c.args.fib.now = read_whole _ _ c.in-Ok.ensures.figs
    (λ fs is. sym c.in-Ok.is ∙ c.check.ensures.every fs is) _ (r.right c.args.fib.now) in
    let heard = heard_is (hear_figs c.in-Ok.figs l) l c.hear.new.self c.hear.result
    (c.hear.ensures.every c.in-Ok.figs c.in-Ok.ensures.figs) in
    let done : _ ≡ after_fill (Some c.in-Ok.figs) m =
    rw (← c.self.view_is) (fill_is c.in-Ok.figs _ (fig_agrees c.current.result.now) c.data_len-used.result
    c.carry-load.new.self c.sum-self-inside.result c.sum-self-inside-2.result
    c.carry-load.result.figs c.carry-load.result.stale c.hear.new.self c.data_len-used.ensures
    (judges c.in-Ok.figs l c.hear.new.self c.current.result.now heard c.current.ensures)
    c.carry-load.ensures.left c.carry-load.ensures.count c.carry-load.ensures.stale c.sum-self-inside.ensures
    c.sum-self-inside-2.ensures heard) in
    rw (← one) done
