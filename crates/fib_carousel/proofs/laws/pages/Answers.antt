use Rattle.fib_carousel.proofs.Pieces.{pages_are_all, each_in_a_page, none_beyond, page_is_fibs}
use Rattle.fib_carousel.proofs.Most.{most_pages}
use Rattle.fib_carousel.proofs.laws.pages.Goals as goal

pub returns-clause-all : goal.returns-clause-all
returns-clause-all c = pages_are_all

pub returns-clause-each : goal.returns-clause-each
returns-clause-each c = each_in_a_page

pub returns-clause-beyond : goal.returns-clause-beyond
returns-clause-beyond c = none_beyond

pub returns-clause-fibs : goal.returns-clause-fibs
returns-clause-fibs c = page_is_fibs

pub returns-clause-most : goal.returns-clause-most
returns-clause-most c = most_pages
