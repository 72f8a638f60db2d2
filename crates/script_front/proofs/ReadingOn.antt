-- Statements that are read one after another, and what the code of a statement returns.
use Rattle.script_front.proofs.Words.{[], ◌++◌, ◌-◌, ◌<◌, ◌∙◌, ◌∷◌, ◌≡◌, ◌≤◌, Before, Block, Input, List, None, Option}
use Rattle.script_front.proofs.Words.{Passage, ReadsBlock, ReadsNone, ReadsNoneAfter, ReadsStatement, Some, Spelled}
use Rattle.script_front.proofs.Words.{Statement, StatementKeyword, and_then, ap, arith, before, block_of, drop, false}
use Rattle.script_front.proofs.Words.{first_statement, line_of, nothing, put, refl, statement_from, stops, suc, sym}
use Rattle.script_front.proofs.Words.{true, zero, ℕ}
use Rattle.script_front.specs.BlockReader.{begun_at, block_at}
use Rattle.script_front.proofs.ReadingBlocks.{Names, passed}

-- ---- statements put in front

put_same : (f g : Before) (r : Option Passage) → ((b : Block) → f b ≡ g b) → put f r ≡ put g r
put_same f g None h = refl
put_same f g (Some p) h = rw (h p.block) refl

put_both : (f g : Before) (r : Option Passage) → put f (put g r) ≡ put (λ b. f (g b)) r
put_both f g None = refl
put_both f g (Some p) = refl

and_then_more : (ss : List Statement) (s : Statement) (b : Block)
    → and_then [] (ss ++ s ∷ []) b ≡ and_then [] ss (before [] s b)
and_then_more [] s b = refl
and_then_more (x ∷ ss) s b = ap (before [] x) (and_then_more ss s b)

-- ---- one statement after another

-- some fuel is left, and what was read is in front of what is read from here
pub record Fueled (names : Names) (depth left : ℕ) (lines : List ℕ) (whole : Option Passage) (now : Spelled)
    (list : List Statement) : Type 0 where
  pub fuel : ℕ
  pub enough : left < fuel
  pub read : whole ≡ put (and_then [] list) (block_at fuel names lines depth left now)

pub record GoesOn (names : Names) (depth old left : ℕ) (before now : Input) (list : List Statement) : Type 0 where
  pub read : (fuel : ℕ) → old < fuel → Fueled names depth left before.lines
      (block_at fuel names before.lines depth old before.lexemes) now.lexemes list
  pub fewer : left ≤ old
  pub same : now.lines ≡ before.lines

put_nothing : (r : Option Passage) → r ≡ put (and_then [] []) r
put_nothing None = refl
put_nothing (Some p) = refl

pub begins_on : (names : Names) (depth left : ℕ) (i : Input) → GoesOn names depth left left i i []
begins_on names depth left i = record {
  read = λ fuel lt. record {
    fuel = fuel;
    enough = lt;
    read = put_nothing (block_at fuel names i.lines depth left i.lexemes);
  };
  fewer = omega arith;
  same = refl;
}

pub goes_on : (names : Names) (depth old left new : ℕ) (i j k : Input) (ss ts : List Statement) (s : Statement)
    → ts ≡ ss ++ s ∷ [] → GoesOn names depth old left i j ss
    → ReadsStatement names depth left new j k (before [] s) → GoesOn names depth old new i k ts
goes_on names depth old left new i j k ss ts s is h m = rw (is) (record {
  read = λ fuel lt. (let f = h.read fuel lt in one_more f.fuel f.enough f.read);
  fewer = (let a = h.fewer in let b = m.fewer in omega (arith, a, b));
  same = m.same ∙ h.same;
})
  where
    one_more : {whole : Option Passage} (fuel : ℕ) → left < fuel
        → whole ≡ put (and_then [] ss) (block_at fuel names i.lines depth left j.lexemes)
        → Fueled names depth new i.lines whole k.lexemes (ss ++ s ∷ [])
    one_more zero lt e = absurd (omega (arith, lt))
    one_more (suc fuel) lt e = record {
      fuel = fuel;
      enough = (let b = m.fewer in omega (arith, b, lt));
      read = e ∙ ap (λ (ls : List ℕ). put (and_then [] ss) (block_at (suc fuel) names ls depth left j.lexemes))
          (sym h.same) ∙ ap (put (and_then [] ss)) (m.read fuel (omega (arith, lt)))
          ∙ ap (λ (ls : List ℕ). put (and_then [] ss) (put (before [] s) (block_at fuel names ls depth new k.lexemes)))
          h.same
          ∙ put_both (and_then [] ss) (before [] s) (block_at fuel names i.lines depth new k.lexemes)
          ∙ put_same _ (and_then [] (ss ++ s ∷ [])) (block_at fuel names i.lines depth new k.lexemes)
          (λ b. sym (and_then_more ss s b));
    }

-- where statements end, nothing more is read
ended : (names : Names) (lines : List ℕ) (fuel depth left : ℕ) (ws : Spelled) → left < fuel → stops ws ≡ true
    → block_at fuel names lines depth left ws ≡ Some (passed nothing left ws)
unfolding block_at
ended names lines zero depth left ws lt h = absurd (omega (arith, lt))
ended names lines (suc fuel) depth left ws lt h = rw (h) refl

pub all_read : (names : Names) (depth old left : ℕ) (i j : Input) (ss : List Statement)
    → GoesOn names depth old left i j ss → stops j.lexemes ≡ true → ReadsBlock names depth old left i j (block_of [] ss)
all_read names depth old left i j ss h over = record {
  read = λ fuel lt. (let f = h.read fuel lt in
      f.read ∙ ap (put (and_then [] ss)) (ended names i.lines f.fuel depth left j.lexemes f.enough over));
  fewer = h.fewer;
  same = h.same;
}

pub none_next : (names : Names) (depth old left : ℕ) (i j : Input) (ss : List Statement)
    → GoesOn names depth old left i j ss → ReadsNone names depth left j → ReadsNone names depth old i
none_next names depth old left i j ss h none = λ fuel lt. (
    let f = h.read fuel lt in
    cc (f.read, h.same, ap (put (and_then [] ss)) (none f.fuel f.enough)))

-- ---- a statement, and its first keyword

unrolled : (fuel depth left : ℕ) (names : Names) (lines : List ℕ) (k : StatementKeyword) (ws : Spelled)
    → stops ws ≡ false → first_statement ws ≡ Some k → 1 ≤ left
    → block_at (suc fuel) names lines depth left ws ≡ statement_from (block_at fuel names lines) names
    (line_of lines ws) depth (left - 1) k (drop 1 ws)
unfolding block_at begun_at
unrolled fuel depth zero names lines k ws go first some = absurd (omega (arith, some))
unrolled fuel depth (suc left) names lines k ws go first some = let less : suc left - 1 ≡ left = omega arith in
    rw (go, first, less) refl

pub none_read : (names : Names) (line depth left : ℕ) (i j : Input) (k : StatementKeyword) → stops i.lexemes ≡ false
    → first_statement i.lexemes ≡ Some k → 1 ≤ left
    → line ≡ line_of i.lines i.lexemes → j.lexemes ≡ drop 1 i.lexemes → j.lines ≡ i.lines
    → ReadsNoneAfter k names line depth (left - 1) j → ReadsNone names depth left i
none_read names line depth left i j k go first some at e f none zero lt = absurd (omega (arith, lt))
none_read names line depth left i j k go first some at e f none (suc fuel) lt =
    cc (unrolled fuel depth left names i.lines k i.lexemes go first some, at, e, f, none fuel (omega (arith, lt, some)))
