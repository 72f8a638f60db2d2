use Rattle.fib_reader.proofs.Words.{◌++◌, ◌∙◌, ◌≡◌, AreInOrder, IsKept, ap, subst, sym}
use Rattle.fib_reader.proofs.Order.{in_order}
use Rattle.fib_reader.proofs.picture.Picture.entries.Goals as goal

pub returns-clause-ascending : goal.returns-clause-ascending
returns-clause-ascending c =
    let same : c.as_slice.result.now ++ c.as_slice-2.result.now ++ c.as_slice-3.result.now
    ≡ c.self.inside.subs ++ c.self.inside.services ++ c.self.inside.packets =
    ap (λ t. t ++ c.as_slice-2.result.now ++ c.as_slice-3.result.now) c.as_slice.ensures.value
    ∙ ap (λ t. c.self.inside.subs ++ t ++ c.as_slice-3.result.now) c.as_slice-2.ensures.value
    ∙ ap (λ t. c.self.inside.subs ++ c.self.inside.services ++ t) c.as_slice-3.ensures.value in
    subst AreInOrder (sym same)
    (in_order (record { subs = c.self.inside.subs; services = c.self.inside.services; packets = c.self.inside.packets })
    c.self.invariant c.as_slice.ensures.ascending c.as_slice-2.ensures.ascending c.as_slice-3.ensures.ascending)

pub returns-clause-kept : goal.returns-clause-kept
returns-clause-kept c = subst IsKept c.self.view_is (record {
  pictured = c.self.invariant;
  subs_ascend = c.as_slice.ensures.ascending;
  services_ascend = c.as_slice-2.ensures.ascending;
  packets_ascend = c.as_slice-3.ensures.ascending;
  subs_few = rw (← c.as_slice.ensures.value) c.as_slice.ensures.bound;
  services_few = rw (← c.as_slice-2.ensures.value) c.as_slice-2.ensures.bound;
  packets_few = rw (← c.as_slice-3.ensures.value) c.as_slice-3.ensures.bound;
})
