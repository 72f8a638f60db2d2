use Rattle.mux_config.proofs.Words.{◌∙◌, ◌≡◌, Configuration, IsConfiguration, List, None, Some, Sub, ap, at_rate}
use Rattle.mux_config.proofs.Words.{entry_at, rate_sub_fault, sub_at, sub_key, sub_rated, subst, sym}
use Rattle.mux_config.proofs.Keeping.{changed_here, entry_key, rate_sub_keeps}
use Rattle.mux_config.proofs.edits.ConfigStore.rate_sub_known.Goals as goal

pub invariant_of-self : goal.invariant_of-self
invariant_of-self c =
    let before : Configuration =
    record { subs = c.self.inside.subs; services = c.self.inside.services; packets = c.self.inside.packets } in
    let fault : rate_sub_fault c.args.id c.args.kbits before ≡ None = rw (← c.self.view_is) at c.requires in
    let found : entry_at sub_key c.args.id c.self.inside.subs ≡ Some c.in-Some.sub =
    ap (λ (x : Configuration). sub_at c.args.id x) c.self.view_is ∙ sym c.find_sub.ensures.value ∙ c.in-Some.is in
    let same = changed_here sub_key c.args.id (at_rate c.args.kbits) c.self.inside.subs c.in-Some.sub
    c.self.invariant.subs_ascend found (entry_key sub_key c.args.id c.self.inside.subs c.in-Some.sub found) in
    let keeps = rate_sub_keeps c.args.id c.args.kbits before c.self.invariant fault in
    subst (λ (xs : List Sub). IsConfiguration (record before { subs = xs })) (sym (c.replace.ensures ∙ same)) keeps

pub returns-in-Some : goal.returns-in-Some
returns-in-Some c =
    let before : Configuration =
    record { subs = c.self.inside.subs; services = c.self.inside.services; packets = c.self.inside.packets } in
    let found : entry_at sub_key c.args.id c.self.inside.subs ≡ Some c.in-Some.sub =
    ap (λ (x : Configuration). sub_at c.args.id x) c.self.view_is ∙ sym c.find_sub.ensures.value ∙ c.in-Some.is in
    let same = changed_here sub_key c.args.id (at_rate c.args.kbits) c.self.inside.subs c.in-Some.sub
    c.self.invariant.subs_ascend found (entry_key sub_key c.args.id c.self.inside.subs c.in-Some.sub found) in
    ap (λ (xs : List Sub). record before { subs = xs }) (c.replace.ensures ∙ same)
    ∙ ap (sub_rated c.args.id c.args.kbits) c.self.view_is
