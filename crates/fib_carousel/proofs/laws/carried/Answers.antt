use Rattle.fib_carousel.proofs.Hearing.{page_sets_are_pageable, pages_are_valid, pages_are_heard, ensemble_is_heard}
use Rattle.fib_carousel.proofs.Hearing.{pages_keep_reserve}
use Rattle.fib_carousel.proofs.laws.carried.Goals as goal

pub returns-clause-pageable : goal.returns-clause-pageable
returns-clause-pageable c = page_sets_are_pageable

pub returns-clause-valid : goal.returns-clause-valid
returns-clause-valid c = pages_are_valid

pub returns-clause-heard : goal.returns-clause-heard
returns-clause-heard c = pages_are_heard

pub returns-clause-ensemble : goal.returns-clause-ensemble
returns-clause-ensemble c = ensemble_is_heard

pub returns-clause-reserved : goal.returns-clause-reserved
returns-clause-reserved c = pages_keep_reserve
