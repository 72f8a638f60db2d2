use Rattle.cli_streams.proofs.ReadingAhead.{passed_over}
use Rattle.cli_streams.proofs.merge.end_of.Goals as goal

pub returns-else-cut-eq0-clause-reads : goal.returns-else-cut-eq0-clause-reads
returns-else-cut-eq0-clause-reads g c =
    λ frame. passed_over c.args.source.now c.pass.new.self c.len-cut.result c.pass.ensures.ahead c.pass.ensures.behind
