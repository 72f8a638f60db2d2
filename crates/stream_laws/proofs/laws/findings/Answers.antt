use Rattle.stream_laws.proofs.Words.{Laws, page_laws}
use Rattle.stream_laws.proofs.Following.{SwapLaws}
use Rattle.stream_laws.proofs.NoFault.{runs_are_free}
use Rattle.stream_laws.proofs.Opening.{FrameLaws}
use Rattle.stream_laws.proofs.laws.findings.Goals as goal

pub returns : goal.returns
returns c =
    let heard : Laws = record { pages = page_laws; fibs = c.pages.ensures.fibs; ensemble = c.ensemble.ensures } in
    let swap : SwapLaws = record {
      one = c.one_list.ensures;
      heard = heard;
      tells = c.spelling.ensures.tells;
      change = c.changes.ensures;
    } in
    let laws : FrameLaws = record { one = c.one_list.ensures; size = c.fib_length.ensures; heard = heard } in
    runs_are_free c.headline.ensures c.parts.ensures swap laws
