use Rattle.schedule_verifier.proofs.Words.{◌∙◌, eqb-true, inr}
use Rattle.schedule_verifier.proofs.combinations.can_hold.Goals as goal

pub returns-in-Set : goal.returns-in-Set
returns-in-Set c told = inr (record {
  contacts = c.args.moment.contacts;
  day = c.args.moment.day;
  in_range = c.region_of.ensures.in_range;
  holds = c.in-Set.ensures c.args.moment.contacts c.args.moment.day c.region_of.ensures ∙ eqb-true _ _ told;
})
