use Rattle.plan_session.proofs.Words.{Consumes}
use Rattle.plan_session.proofs.text_file.read_bytes.Given as goal

-- the bytes read so far were kept
abbrev pub invariant-loop : goal.invariant-loop
invariant-loop g l = Consumes (g.R.Read.remaining l.initial.source) (g.R.Read.remaining l.source) l.bytes.items
