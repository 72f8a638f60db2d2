use Rattle.fib_carousel.proofs.Words.{item_entry, marked}
use Rattle.fib_carousel.proofs.Sides.{marked_at}
use Rattle.fib_carousel.proofs.Sharing.{same_fields}
use Rattle.fib_carousel.proofs.page_set.shape_at.Goals as goal

pub returns-clause-value : goal.returns-clause-value
returns-clause-value g c = record {
  entry = marked c.args.next (item_entry c.item_at.result);
  here = marked_at _ c.args.next c.args.index _ c.item_at.ensures.here;
  head = same_fields _ _ c.shape.ensures.next c.shape.ensures.ours c.shape.ensures.long c.shape.ensures.ext;
  size = c.shape.ensures.size;
}
