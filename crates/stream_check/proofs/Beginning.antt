-- The state before the first FIB.
use Rattle.stream_check.proofs.Words.{[], CheckerState, Knows, None, arith, empty_picture, false, refl, ℕ}
use Rattle.stream_check.proofs.Notice.{notice_none}

abbrev pub at_first : (step period : ℕ) → CheckerState
at_first step period = record {
  step = step;
  period = period;
  frames = 0;
  due = None;
  eid = None;
  has_ensemble = false;
  tuned = false;
  current = empty_picture;
  next = empty_picture;
  awaited = None;
  flags = 0;
  times = 0;
  is_cut_off = false;
  swapped = 0;
  settles_at = period;
  has_begun = false;
  began_early = false;
  rows = 0;
  since = 0;
  parts = 0;
  noted = [];
}

pub knows_nothing : (step period : ℕ) → Knows step period [] (at_first step period)
knows_nothing step period = record {
  mode = refl;
  page_index = refl;
  heard = refl;
  frames = refl;
  due = refl;
  eid = refl;
  has_ensemble = refl;
  has_begun = refl;
  began_early = refl;
  is_cut_off = refl;
  flags = refl;
  times = refl;
  settles_at = refl;
  untuned = λ u. (refl, refl);
  few = omega arith;
  swapped = omega arith;
  kinds = ((tt, (tt, tt)), (tt, (tt, tt)));
  last = (tt, (tt, tt));
  notice = notice_none false;
}
