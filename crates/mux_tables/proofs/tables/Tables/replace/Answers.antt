use Rattle.mux_tables.proofs.Words.{◌≡◌, Counts, CountsIn, CountsOut, IsConfiguration, IsPlaced, List, Some, Span, Sub}
use Rattle.mux_tables.proofs.Words.{entry_at, entry_holds, sub_key, subst, sym, users, with_sub_channels}
use Rattle.mux_tables.proofs.Replacing.{replaced_keeps}
use Rattle.mux_tables.proofs.Users.{counts_changed}
use Rattle.mux_tables.proofs.tables.Tables.replace.Goals as goal

pub span_of-requires : goal.span_of-requires
span_of-requires c =
    entry_holds IsPlaced sub_key c.args.new.id c.self.inside.subs c.args.old c.self.invariant.configuration.subs_placed
    (rw (← c.self.view_is) at c.requires.there)

pub invariant_of-self : goal.invariant_of-self
invariant_of-self c =
    let before = with_sub_channels c.self.inside.subs c.self.inside.others in
    let there : entry_at sub_key c.args.new.id c.self.inside.subs ≡ Some c.args.old =
    rw (← c.self.view_is) at c.requires.there in
    let counted = counts_changed c.self.inside.units c.count_out.new.blocks c.count_in.new.blocks c.args.new c.args.old
    c.self.inside.subs c.self.invariant.configuration.subs_few c.self.invariant.configuration.subs_ascend there
    (subst (λ (s : Span). CountsOut c.self.inside.units c.count_out.new.blocks s) c.span_of.ensures.value
    c.count_out.ensures)
    (subst (λ (s : Span). CountsIn c.count_out.new.blocks c.count_in.new.blocks s) c.span_of-2.ensures.value
    c.count_in.ensures) c.self.invariant.counted in
    record {
      apart = c.self.invariant.apart;
      configuration = subst (λ (xs : List Sub). IsConfiguration (record before { subs = xs })) (sym c.replace.ensures)
          (replaced_keeps c.args.new before c.self.invariant.configuration c.requires.placed);
      counted = subst (λ (xs : List Sub). Counts c.count_in.new.blocks (users xs)) (sym c.replace.ensures) counted;
    }
