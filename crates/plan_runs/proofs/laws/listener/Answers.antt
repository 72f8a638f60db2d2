use Rattle.plan_runs.proofs.Words.{page_is_fibs}
use Rattle.plan_runs.proofs.Right.{page_laws}
use Rattle.plan_runs.proofs.Contents.{Laws}
use Rattle.plan_runs.proofs.CurrentKnown.{never_full, knows_the_current}
use Rattle.plan_runs.proofs.NewKnown.{knows_the_new}
use Rattle.plan_runs.proofs.laws.listener.Goals as goal

pub returns : goal.returns
returns c =
    let laws : Laws = record { pages = page_laws; fibs = page_is_fibs; ensemble = c.ensemble.ensures } in
    λ p s h. record {
      room = never_full laws p s h;
      current = knows_the_current c.one_list.ensures laws p s h;
      after_swap = knows_the_new c.one_list.ensures laws p s h;
    }
