use Rattle.plan_code.proofs.Words.{◌∙◌, err_from_is_err_and}
use Rattle.plan_code.proofs.Loops.{items_next, items_fault, items_done}
use Rattle.plan_code.proofs.code_reader.items.Goals as goal

pub returns-in_err-item-clause-read : goal.returns-in_err-item-clause-read
returns-in_err-item-clause-read g c =
    let p = err_from_is_err_and c.from_residual-in_err-item.result c.from_residual-in_err-item.ensures.1 in
    rw (p.1, p.2) (items_fault g.T.Item.item_at c.args.reader.now.total c.loop.reader.total c.loop.invariant.total
    c.loop.items.items c.args.count c.loop.counter c.loop.reader.rest _ c.in_err-item.field-0.0 c.loop-test.true
    c.loop.invariant.given c.in_err-item.ensures.read)

pub loop-preserved : goal.loop-preserved
loop-preserved g c = record {
  total = c.in_ok-item.ensures.total
      ∙ c.loop.invariant.total;
  given =
      rw c.in_ok-push.ensures.items
      (items_next g.T.Item.item_at c.args.reader.now.total c.loop.reader.total c.loop.invariant.total c.loop.items.items
      c.args.count c.loop.counter c.loop.reader.rest _ c.in_ok-item.item c.read.new.reader.rest c.loop-test.true
      c.loop.invariant.given c.in_ok-item.ensures.read);
}

pub returns-clause-read : goal.returns-clause-read
returns-clause-read g c = items_done _ _ _ _ _ _ c.loop-test.false c.loop.invariant.given
