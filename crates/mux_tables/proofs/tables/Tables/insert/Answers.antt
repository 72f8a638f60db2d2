use Rattle.mux_tables.proofs.Words.{◌≡◌, Counts, CountsIn, IsConfiguration, List, None, Span, Sub, add_sub_fault}
use Rattle.mux_tables.proofs.Words.{add_sub_fits, add_sub_keeps, arith, subst, sym, users, with_sub_channels}
use Rattle.mux_tables.proofs.Users.{counts_with}
use Rattle.mux_tables.proofs.tables.Tables.insert.Goals as goal

pub insert-requires : goal.insert-requires
insert-requires c =
    let before = with_sub_channels c.self.inside.subs c.self.inside.others in
    let fault : add_sub_fault c.args.sub before ≡ None = rw (← c.self.view_is) at c.requires in
    (add_sub_fits c.args.sub before (omega arith) c.self.invariant.configuration fault).0

pub invariant_of-self : goal.invariant_of-self
invariant_of-self c =
    let before = with_sub_channels c.self.inside.subs c.self.inside.others in
    let keeps = add_sub_keeps c.args.sub before (omega arith) (omega arith) (omega arith) c.self.invariant.configuration
    (rw (← c.self.view_is) at c.requires) in
    let counted = counts_with c.self.inside.units c.count_in.new.blocks c.args.sub c.self.inside.subs
    c.self.invariant.configuration.subs_few
    (subst (λ (s : Span). CountsIn c.self.inside.units c.count_in.new.blocks s) c.span_of.ensures.value
    c.count_in.ensures) c.self.invariant.counted in
    record {
      apart = c.self.invariant.apart;
      configuration = subst (λ (xs : List Sub). IsConfiguration (record before { subs = xs })) (sym c.insert.ensures)
          keeps;
      counted = subst (λ (xs : List Sub). Counts c.count_in.new.blocks (users xs)) (sym c.insert.ensures) counted;
    }
