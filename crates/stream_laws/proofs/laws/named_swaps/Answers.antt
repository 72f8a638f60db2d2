use Rattle.stream_laws.proofs.Words.{Laws, page_laws}
use Rattle.stream_laws.proofs.Named.{swaps_are_named}
use Rattle.stream_laws.proofs.laws.named_swaps.Goals as goal

pub returns : goal.returns
returns c =
    let laws : Laws = record { pages = page_laws; fibs = c.pages.ensures.fibs; ensemble = c.ensemble.ensures } in
    swaps_are_named c.one_list.ensures laws
