use Rattle.mux_tables.proofs.Words.{◌↔◌, ◌∙◌, Configuration, IsCrowded, IsTrue, ap, length, subst, users}
use Rattle.mux_tables.proofs.Words.{with_sub_channels}
use Rattle.mux_tables.proofs.Lanes.{length_block}
use Rattle.mux_tables.proofs.Crowds.{crowded_by}
use Rattle.mux_tables.proofs.tables.Tables.is_crowded.Goals as goal

pub has_shared_unit-requires : goal.has_shared_unit-requires
has_shared_unit-requires c = λ b lt. ap length (c.self.invariant.counted.each b lt)
    ∙ length_block (users c.self.inside.subs) b

pub returns-clause-value : goal.returns-clause-value
returns-clause-value c =
    let before = with_sub_channels c.self.inside.subs c.self.inside.others in
    let both = crowded_by before c.self.inside.units c.has_shared_unit.result c.self.invariant.configuration
    c.self.invariant.counted c.has_shared_unit.ensures.told c.has_shared_unit.ensures.none in
    subst (λ (k : Configuration). IsTrue c.has_shared_unit.result ↔ IsCrowded k) c.self.view_is both
