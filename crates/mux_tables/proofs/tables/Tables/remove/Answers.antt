use Rattle.mux_tables.proofs.Words.{◌∙◌, ◌≡◌, Counts, CountsOut, IsConfiguration, IsPlaced, List, None}
use Rattle.mux_tables.proofs.Words.{Span, Sub, ap, drop_sub_keeps, entry_at, entry_holds, sub_key, subst, sym, users}
use Rattle.mux_tables.proofs.Words.{with_sub_channels, without_absent}
use Rattle.mux_tables.proofs.Users.{counts_without}
use Rattle.mux_tables.proofs.tables.Tables.remove.Goals as goal

pub span_of-requires : goal.span_of-requires
span_of-requires c = entry_holds IsPlaced sub_key c.args.id c.self.inside.subs c.in-Some.sub
    c.self.invariant.configuration.subs_placed (sym c.get.ensures.value ∙ c.in-Some.is)

pub invariant_of-self : goal.invariant_of-self
invariant_of-self c =
    let before = with_sub_channels c.self.inside.subs c.self.inside.others in
    let counted = counts_without c.self.inside.units c.count_out.new.blocks c.args.id c.in-Some.sub c.self.inside.subs
    c.self.invariant.configuration.subs_few c.self.invariant.configuration.subs_ascend
    (sym c.get.ensures.value ∙ c.in-Some.is)
    (subst (λ (s : Span). CountsOut c.self.inside.units c.count_out.new.blocks s) c.span_of.ensures.value
    c.count_out.ensures) c.self.invariant.counted in
    record {
      apart = c.self.invariant.apart;
      configuration = subst (λ (xs : List Sub). IsConfiguration (record before { subs = xs })) (sym c.remove.ensures)
          (drop_sub_keeps c.args.id before c.self.invariant.configuration);
      counted = subst (λ (xs : List Sub). Counts c.count_out.new.blocks (users xs)) (sym c.remove.ensures) counted;
    }

pub returns-in_default : goal.returns-in_default
returns-in_default c =
    let none : entry_at sub_key c.args.id c.args.self.now.subs ≡ None =
    rw (← c.self.view_is) (sym c.get.ensures.value ∙ c.in_default.is) in
    ap (λ (xs : List Sub). record c.args.self.now { subs = xs }) (sym (without_absent _ _ _ none))
