-- A brace is not an atom.
use Rattle.script_tokens.proofs.Words.{◌≡◌, AreLetters, Brace, CloseBrace, Letter, List, OpenBrace, subst, ℕ}
use Rattle.script_tokens.specs.Keywords.{letters}

pub no_open : (w : List ℕ) → w ≡ letters OpenBrace → AreLetters w → ⊥
unfolding letters
no_open w e h = let g : AreLetters (letters OpenBrace) = subst AreLetters e h in let f : Brace ≡ Letter = g.0 in
    absurd cc

pub no_close : (w : List ℕ) → w ≡ letters CloseBrace → AreLetters w → ⊥
unfolding letters
no_close w e h = let g : AreLetters (letters CloseBrace) = subst AreLetters e h in let f : Brace ≡ Letter = g.0 in
    absurd cc
