use Rattle.fib_carousel.proofs.Hearing.{valid_page, packed_page}
use Rattle.fib_carousel.proofs.carousel.page.Goals as goal

pub returns-clause-valid : goal.returns-clause-valid
returns-clause-valid g c = valid_page c.args.layout _ c.args.page _ _ _ c.new.ensures c.write_page.ensures.pageable
    c.write_page.ensures.bytes

pub returns-clause-packing : goal.returns-clause-packing
returns-clause-packing g c =
    λ ns p. packed_page c.args.layout _ c.args.page _ _
    (valid_page c.args.layout _ c.args.page _ _ _ c.new.ensures c.write_page.ensures.pageable
    c.write_page.ensures.bytes) ns p
