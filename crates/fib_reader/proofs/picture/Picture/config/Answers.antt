use Rattle.fib_reader.proofs.Words.{◌∙◌, Configuration, IsConfiguration, Pictured, Shows, Some, ap, subst, sym}
use Rattle.fib_reader.proofs.Shown.{ShowsEach, shows_each, each_shows, shows_one, makes_configuration}
use Rattle.fib_reader.proofs.picture.Picture.config.Goals as goal

pub returns-in_default-clause-every : goal.returns-in_default-clause-every
returns-in_default-clause-every c = λ d is_d shows.
    let parts = shows_each _ d c.self.invariant (subst (λ (p : Pictured). Shows p d) (sym c.self.view_is) shows) in
    absurd (c.in_default.ensures.none d.subs is_d.subs_placed (parts.subs ∙ sym c.as_slice.ensures.value))

pub returns-in_default-members-clause-every : goal.returns-in_default-members-clause-every
returns-in_default-members-clause-every c = λ d is_d shows.
    let parts = shows_each _ d c.self.invariant (subst (λ (p : Pictured). Shows p d) (sym c.self.view_is) shows) in
    absurd (c.in_default-members.ensures.none d.services is_d.services_formed
    (parts.services ∙ sym c.as_slice-2.ensures.value))

pub returns-in_default-members-2-clause-every : goal.returns-in_default-members-2-clause-every
returns-in_default-members-2-clause-every c = λ d is_d shows.
    let parts = shows_each _ d c.self.invariant (subst (λ (p : Pictured). Shows p d) (sym c.self.view_is) shows) in
    absurd (c.in_default-members-2.ensures.none d.packets is_d.packets_addressed
    (parts.packets ∙ sym c.as_slice-3.ensures.value))

pub returns-clause-shown : goal.returns-clause-shown
returns-clause-shown c =
    let made : Configuration =
    record {
      subs = c.in-Some.subs;
      services = c.in-Some-members.services;
      packets = c.in-Some-members-2.packets;
    } in
    let inside : Pictured = record {
      subs = c.self.inside.subs;
      services = c.self.inside.services;
      packets = c.self.inside.packets;
    } in
    let parts : ShowsEach inside made = record {
      subs = c.in-Some.ensures.said ∙ c.as_slice.ensures.value;
      services = c.in-Some-members.ensures.said ∙ c.as_slice-2.ensures.value;
      packets = c.in-Some-members-2.ensures.said ∙ c.as_slice-3.ensures.value;
    } in
    subst (Shows c.args.self.now) (sym c.of.ensures) (rw (← c.self.view_is) (each_shows inside made parts))

pub returns-clause-every : goal.returns-clause-every
returns-clause-every c = λ d is_d shows.
    let made : Configuration =
    record {
      subs = c.in-Some.subs;
      services = c.in-Some-members.services;
      packets = c.in-Some-members-2.packets;
    } in
    let inside : Pictured = record {
      subs = c.self.inside.subs;
      services = c.self.inside.services;
      packets = c.self.inside.packets;
    } in
    let parts : ShowsEach inside made = record {
      subs = c.in-Some.ensures.said ∙ c.as_slice.ensures.value;
      services = c.in-Some-members.ensures.said ∙ c.as_slice-2.ensures.value;
      packets = c.in-Some-members-2.ensures.said ∙ c.as_slice-3.ensures.value;
    } in
    let is_made : IsConfiguration made = makes_configuration inside made parts c.in-Some.ensures.members
    c.in-Some-members.ensures.members c.in-Some-members-2.ensures.members c.as_slice.ensures.ascending
    c.as_slice-2.ensures.ascending c.as_slice-3.ensures.ascending
    (rw (← c.as_slice.ensures.value) c.as_slice.ensures.bound)
    (rw (← c.as_slice-2.ensures.value) c.as_slice-2.ensures.bound)
    (rw (← c.as_slice-3.ensures.value) c.as_slice-3.ensures.bound) in
    ap Some (c.of.ensures ∙ shows_one inside made d c.spelling.ensures.tells c.facts.ensures is_made is_d
    (each_shows inside made parts) (subst (λ (p : Pictured). Shows p d) (sym c.self.view_is) shows))
