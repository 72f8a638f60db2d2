use Rattle.script_front.proofs.Words.{[], ◌-◌, ◌∷◌, ◌≡◌, ◌≤◌, alternatives_from, length}
use Rattle.script_front.proofs.waits.alternatives.Given as goal

abbrev pub invariant-alternatives : goal.invariant-alternatives
invariant-alternatives l = record {
  read : alternatives_from 7 (l.fn.first ∷ []) l.fn.reader.lexemes
      ≡ alternatives_from (8 - length l.all) l.all l.reader.lexemes;
  lines : l.reader.lines ≡ l.fn.reader.lines;
  few : length l.all ≤ 8;
}

abbrev pub decreases-alternatives : goal.decreases-alternatives
decreases-alternatives l = 8 - length l.all
