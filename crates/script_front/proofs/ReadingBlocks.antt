-- The reading of statements: what is read is in range, is counted, and is spelled by the tokens taken, on their lines.
use Rattle.script_front.proofs.Words.{[], ◌++◌, ◌+◌, ◌-◌, ◌<◌, ◌==◌, ◌>>=◌, ◌∙◌, ◌∷◌, ◌≡◌, ◌≤◌, Block, BlockOn, Bool}
use Rattle.script_front.proofs.Words.{Condition, IsCondition, IsInBounds, List, None, Option, Passage, ReadsAsSpelled}
use Rattle.script_front.proofs.Words.{Some, Spelled, StatementKeyword, Statements, act_from, act_lexemes}
use Rattle.script_front.proofs.Words.{after, after_begins, ap, append_assoc, arith, bind_some, block_lexemes, braced}
use Rattle.script_front.proofs.Words.{bytes_eq, bytes_eq-Decides, condition_at, condition_lexemes, counted, decimal}
use Rattle.script_front.proofs.Words.{drop, either, false, finish, first_statement, from_one, if◌then◌else◌, is_next}
use Rattle.script_front.proofs.Words.{length, letters, line_of, name_at, name_next, next_begins, nothing, number_at}
use Rattle.script_front.proofs.Words.{position, position-Some, put, refl, statement_given, statement_keyword, stops}
use Rattle.script_front.proofs.Words.{subst, suc, sym, true, values_are_read, when, zero, ℕ}
use Rattle.std.proofs.lemmas.Bool.Decides.{nat_tests}
use Rattle.script_front.specs.BlockReader.{open_at, body_at, applied_at, branch_at, statement_from, begun_at, block_at}
use Rattle.script_tokens.specs.declared.keyword.Keyword.TheVariants as the
use Rattle.script_tokens.specs.declared.first_keyword.StatementKeyword.TheVariants as statement
use Rattle.script_front.proofs.ReadingWaits.{condition_law}
use Rattle.script_front.proofs.Readings.{act_begins, act_law}

abbrev pub Names : Type 0
Names = List (List ℕ)

-- two lists of names agree on the first `known`
abbrev pub Agree : ℕ → (names more : Names) → Type 0
Agree known names more = (n : ℕ) → n < known → name_at names n ≡ name_at more n

abbrev pub passed : Block → ℕ → Spelled → Passage
passed b left rest = record { block = b; left = left; rest = rest }

-- ---- fields

pub times_law : ReadsAsSpelled (number_at 1 65535) (λ n. (1 ≤ n) × (n < 65536)) (λ n. decimal n ∷ [])
times_law = from_one 65536 65535 refl (omega arith)

-- ---- what is read

-- statements were read, in front of others
record Put (added : Block → Block) (r : Option Passage) (p : Passage) : Type 0 where
  more : Passage
  read : r ≡ Some more
  is : Some (passed (added more.block) more.left more.rest) ≡ Some p

put_some : (added : Block → Block) (r : Option Passage) (p : Passage) → put added r ≡ Some p → Put added r p
put_some added None p e = absurd cc
put_some added (Some q) p e = record { more = q; read = refl; is = e }

-- a block was read, where the first `known` blocks are defined, and all blocks have these names
pub record IsBlockRead (all : Names) (known depth left : ℕ) (lines : List ℕ) (ws : Spelled) (p : Passage) : Type 0 where
  pub fits : IsInBounds known depth p.block
  pub counts : counted p.block + p.left ≡ left
  pub spelled : ws ≡ block_lexemes all p.block ++ p.rest
  pub lined : BlockOn all lines p.block p.rest
  pub stops : stops p.rest ≡ true

pub record IsBodyRead (all : Names) (known depth left : ℕ) (lines : List ℕ) (ws : Spelled) (p : Passage) : Type 0 where
  pub room : 1 ≤ depth
  pub fits : IsInBounds known (depth - 1) p.block
  pub counts : counted p.block + p.left ≡ left
  pub spelled : ws ≡ letters the.OpenBrace ∷ (block_lexemes all p.block ++ letters the.CloseBrace ∷ p.rest)
  pub lined : BlockOn all lines p.block (letters the.CloseBrace ∷ p.rest)

pub not_zero : (n : ℕ) → 1 ≤ n → (n == 0) ≡ false
not_zero n some = grind (arith, nat_tests)

open_given : (depth : ℕ) (ws rest : Spelled) → open_at depth ws ≡ Some rest → (1 ≤ depth)
    × (ws ≡ letters the.OpenBrace ∷ rest)
unfolding open_at
open_given depth ws rest e = chosen (depth == 0) refl e
  where
    chosen : (b : Bool) → (depth == 0) ≡ b → if◌then◌else◌ {A = Option Spelled} b None (after the.OpenBrace ws)
        ≡ Some rest → (1 ≤ depth) × (ws ≡ letters the.OpenBrace ∷ rest)
    chosen true is f = absurd cc
    chosen false is f = (grind (arith, nat_tests, is), after_begins the.OpenBrace ws rest f)

-- a block in braces, and the tokens after it
pub braced_then : (body tail rest : Spelled) → braced body tail
    ++ rest ≡ letters the.OpenBrace ∷ (body ++ letters the.CloseBrace ∷ (tail ++ rest))
braced_then body tail rest = rw (append_assoc body (letters the.CloseBrace ∷ tail) rest) refl

pub closed : (body tail rest vs ws : Spelled) → ws ≡ letters the.OpenBrace ∷ (body ++ letters the.CloseBrace ∷ vs)
    → vs ≡ tail ++ rest → ws ≡ braced body tail ++ rest
closed body tail rest vs ws e f = cc (e, f, braced_then body tail rest)

applied_given : (names : Names) (ws : Spelled) (x : ℕ × Spelled) → applied_at names ws ≡ Some x → (x.0 < length names)
    × (ws ≡ name_at names x.0 ∷ x.1)
unfolding applied_at
applied_given names ws x e =
    let a = bind_some (name_next ws) _ x e in
    let b = bind_some (position (bytes_eq a.x.0) names) _ x a.second in
    let g = values_are_read.names.given ws a.x a.first in
    let p = position-Some (bytes_eq a.x.0) names b.x [] b.first in
    let same : a.x.0 ≡ name_at names b.x = (bytes_eq-Decides a.x.0 (name_at names b.x)).0 p.1 in
    finish (λ y. (y.0 < length names) × (ws ≡ name_at names y.0 ∷ y.1)) (b.x, a.x.1) x b.second (p.0, rw (← same) g.1)

-- what a reading of statements gives
abbrev Given : (all names : Names) → List ℕ → Statements → Type 0
Given all names lines go = (depth left : ℕ) (ws : Spelled) (p : Passage) → go depth left ws ≡ Some p
    → IsBlockRead all (length names) depth left lines ws p

module _ (all names : Names) (lines : List ℕ) (agree : Agree (length names) names all) (go : Statements)
    (given : Given all names lines go) where
  pub body_given : (depth left : ℕ) (ws : Spelled) (p : Passage) → body_at go depth left ws ≡ Some p
      → IsBodyRead all (length names) depth left lines ws p
  unfolding body_at
  body_given depth left ws p e =
      let a = bind_some (open_at depth ws) _ p e in
      let o = open_given depth ws a.x a.first in
      let b = bind_some (go (depth - 1) left a.x) _ p a.second in
      let h = given (depth - 1) left a.x b.x b.first in
      let c = bind_some (after the.CloseBrace b.x.rest) _ p b.second in
      let k = after_begins the.CloseBrace b.x.rest c.x c.first in
      finish (IsBodyRead all (length names) depth left lines ws) _ p c.second (record {
        room = o.0;
        fits = h.fits;
        counts = h.counts;
        spelled = o.1 ∙ ap (λ (vs : Spelled). letters the.OpenBrace ∷ vs)
            (h.spelled ∙ ap (λ (vs : Spelled). block_lexemes all b.x.block ++ vs) k);
        lined = rw (← k) h.lined;
      })

  -- a block on its lines, where the tokens after it are known to be others
  pub behind : (b : Block) (vs us : Spelled) → vs ≡ us → BlockOn all lines b (letters the.CloseBrace ∷ vs)
      → BlockOn all lines b (letters the.CloseBrace ∷ us)
  behind b vs us e h = subst (λ (ts : Spelled). BlockOn all lines b (letters the.CloseBrace ∷ ts)) e h

  -- what follows the condition of `if`, and the tokens after it
  tested : (condition : Condition) (vs us rest : Spelled) → vs ≡ us ++ rest
      → letters the.If ∷ (condition_lexemes condition ++ vs) ≡ (letters the.If ∷ (condition_lexemes condition ++ us))
      ++ rest
  tested condition vs us rest e = cc (e, append_assoc (condition_lexemes condition) us rest)

  branch_given : (line depth left : ℕ) (condition : Condition) (first p : Passage) (ws vs : Spelled)
      → branch_at go line depth condition first ≡ Some p → IsCondition condition
      → ws ≡ letters the.If ∷ (condition_lexemes condition ++ vs)
      → IsBodyRead all (length names) depth left lines vs first → line ≡ line_of lines ws
      → IsBlockRead all (length names) depth (suc left) lines ws p
  unfolding branch_at
  branch_given line depth left condition first p ws vs e small begins h at = chosen (is_next the.Else first.rest) refl e
    where
      chosen : (b : Bool) → is_next the.Else first.rest ≡ b
          → if◌then◌else◌ {A = Option Passage} b (body_at go depth first.left (drop 1 first.rest)
          >>= λ second. put (either line condition first.block second.block) (go depth second.left second.rest))
          (put (when line condition first.block) (go depth first.left first.rest)) ≡ Some p
          → IsBlockRead all (length names) depth (suc left) lines ws p
      chosen false is f = (
          let q = put_some _ _ p f in
          let g = given depth first.left first.rest q.more q.read in
          let whole = begins ∙ tested condition _ _ q.more.rest (closed _ _ _ _ _ h.spelled g.spelled) in
          finish (IsBlockRead all (length names) depth (suc left) lines ws) _ p q.is (record {
            fits = (h.room, small, h.fits, g.fits);
            counts = (let c = h.counts in let d = g.counts in omega (arith, c, d));
            spelled = whole;
            lined = (at ∙ ap (line_of lines) whole, behind first.block _ _ g.spelled h.lined, g.lined);
            stops = g.stops;
          })
          )
      chosen true is f = (
          let a = bind_some (body_at go depth first.left (drop 1 first.rest)) _ p f in
          let s = body_given depth first.left (drop 1 first.rest) a.x a.first in
          let q = put_some _ _ p a.second in
          let g = given depth a.x.left a.x.rest q.more q.read in
          let tail = letters the.Else ∷ braced (block_lexemes all a.x.block) (block_lexemes all q.more.block) in
          let later : first.rest ≡ tail ++ q.more.rest = rw (← closed _ (block_lexemes all q.more.block) q.more.rest _ _
          s.spelled g.spelled) (next_begins the.Else first.rest is) in
          let whole = begins ∙ tested condition _ _ q.more.rest (closed _ tail q.more.rest _ vs h.spelled later) in
          finish (IsBlockRead all (length names) depth (suc left) lines ws) _ p q.is (record {
            fits = (h.room, small, h.fits, s.fits, g.fits);
            counts = (let c = h.counts in let d = s.counts in let f = g.counts in omega (arith, c, d, f));
            spelled = whole;
            lined = (
              at ∙ ap (line_of lines) whole,
              behind first.block _ _ later h.lined,
              behind a.x.block _ _ g.spelled s.lined,
              g.lined,
            );
            stops = g.stops;
          })
          )

  after_given : (k : StatementKeyword) (line depth left : ℕ) (vs ws : Spelled) (p : Passage)
      → statement_from go names line depth left k vs ≡ Some p → ws ≡ letters (statement_keyword k) ∷ vs
      → line ≡ line_of lines ws
      → IsBlockRead all (length names) depth (suc left) lines ws p
  unfolding statement_from
  after_given statement.End line depth left vs ws p e begins at =
      let q = put_some _ _ p e in
      let g = given depth left vs q.more q.read in
      let whole = begins ∙ ap (λ (us : Spelled). letters the.End ∷ us) g.spelled in
      finish (IsBlockRead all (length names) depth (suc left) lines ws) _ p q.is
      (record {
        fits = g.fits;
        counts = (let c = g.counts in omega (arith, c));
        spelled = whole;
        lined = (at ∙ ap (line_of lines) whole, g.lined);
        stops = g.stops;
      })
  after_given statement.If line depth left vs ws p e begins at =
      let a = bind_some (condition_at vs) _ p e in
      let f = condition_law.given vs a.x a.first in
      let b = bind_some (body_at go depth left a.x.1) _ p a.second in
      branch_given line depth left a.x.0 b.x p ws a.x.1 b.second f.0
      (begins ∙ ap (λ (us : Spelled). letters the.If ∷ us) f.1) (body_given depth left a.x.1 b.x b.first) at
  after_given statement.Repeat line depth left vs ws p e begins at =
      let a = bind_some (number_at 1 65535 vs) _ p e in
      let f = times_law.given vs a.x a.first in
      let b = bind_some (body_at go depth left a.x.1) _ p a.second in
      let h = body_given depth left a.x.1 b.x b.first in
      let q = put_some _ _ p b.second in
      let g = given depth b.x.left b.x.rest q.more q.read in
      let whole = begins ∙ ap (λ (us : Spelled). letters the.Repeat ∷ us)
      (f.1 ∙ ap (λ (us : Spelled). decimal a.x.0 ∷ us) (closed _ _ _ _ _ h.spelled g.spelled)) in
      finish (IsBlockRead all (length names) depth (suc left) lines ws) _ p q.is (record {
        fits = (h.room, f.0.0, f.0.1, h.fits, g.fits);
        counts = (let c = h.counts in let d = g.counts in omega (arith, c, d));
        spelled = whole;
        lined = (at ∙ ap (line_of lines) whole, behind b.x.block _ _ g.spelled h.lined, g.lined);
        stops = g.stops;
      })
  after_given statement.Forever line depth left vs ws p e begins at =
      let b = bind_some (body_at go depth left vs) _ p e in
      let h = body_given depth left vs b.x b.first in
      let q = put_some _ _ p b.second in
      let g = given depth b.x.left b.x.rest q.more q.read in
      let whole = begins ∙ ap (λ (us : Spelled). letters the.Forever ∷ us) (closed _ _ _ _ _ h.spelled g.spelled) in
      finish (IsBlockRead all (length names) depth (suc left) lines ws) _ p q.is (record {
        fits = (h.room, h.fits, g.fits);
        counts = (let c = h.counts in let d = g.counts in omega (arith, c, d));
        spelled = whole;
        lined = (at ∙ ap (line_of lines) whole, behind b.x.block _ _ g.spelled h.lined, g.lined);
        stops = g.stops;
      })
  after_given statement.Apply line depth left vs ws p e begins at =
      let a = bind_some (applied_at names vs) _ p e in
      let f = applied_given names vs a.x a.first in
      let q = put_some _ _ p a.second in
      let g = given depth left a.x.1 q.more q.read in
      let whole = begins ∙ ap (λ (us : Spelled). letters the.Apply ∷ us)
      (f.1 ∙ ap (λ (w : List ℕ). w ∷ a.x.1) (agree a.x.0 f.0)
      ∙ ap (λ (us : Spelled). name_at all a.x.0 ∷ us) g.spelled) in
      finish (IsBlockRead all (length names) depth (suc left) lines ws) _ p q.is
      (record {
        fits = (f.0, g.fits);
        counts = (let c = g.counts in omega (arith, c));
        spelled = whole;
        lined = (at ∙ ap (line_of lines) whole, g.lined);
        stops = g.stops;
      })
  after_given (statement.Act k) line depth left vs ws p e begins at =
      let a = bind_some (act_from k vs) _ p e in
      let f = (act_law k).given vs a.x a.first in
      let q = put_some _ _ p a.second in
      let g = given depth left a.x.1 q.more q.read in
      let here : ws ≡ act_lexemes a.x.0 ++ a.x.1 = rw (act_begins a.x.0, ← f.1, f.0.1) begins in
      let whole = here ∙ ap (λ (us : Spelled). act_lexemes a.x.0 ++ us) g.spelled
      ∙ sym (append_assoc (act_lexemes a.x.0) (block_lexemes all q.more.block) q.more.rest) in
      finish (IsBlockRead all (length names) depth (suc left) lines ws) _ p q.is
      (record {
        fits = (f.0.0, g.fits);
        counts = (let c = g.counts in omega (arith, c));
        spelled = whole;
        lined = (at ∙ ap (line_of lines) whole, g.lined);
        stops = g.stops;
      })

  begun_given : (depth left : ℕ) (ws : Spelled) (k : StatementKeyword) (p : Passage) → first_statement ws ≡ Some k
      → begun_at go names lines depth left ws k ≡ Some p → IsBlockRead all (length names) depth left lines ws p
  unfolding begun_at
  begun_given depth zero ws k p first e = absurd cc
  begun_given depth (suc left) ws k p first e = after_given _ _ _ _ _ _ _ e (statement_given _ _ first) refl

pub block_given : (all names : Names) (lines : List ℕ) → Agree (length names) names all → (fuel : ℕ)
    → Given all names lines (block_at fuel names lines)
unfolding block_at
block_given all names lines agree zero depth left ws p e = absurd cc
block_given all names lines agree (suc fuel) depth left ws p e =
    chosen (block_given all names lines agree fuel) (stops ws) refl e
  where
    chosen : Given all names lines (block_at fuel names lines) → (b : Bool) → stops ws ≡ b
        → if◌then◌else◌ {A = Option Passage} b (Some (passed nothing left ws))
        (first_statement ws >>= begun_at (block_at fuel names lines) names lines depth left ws) ≡ Some p
        → IsBlockRead all (length names) depth left lines ws p
    chosen given true is f = finish (IsBlockRead all (length names) depth left lines ws) _ p f
        (record { fits = tt; counts = omega arith; spelled = refl; lined = tt; stops = is })
    chosen given false is f = (
        let a = bind_some (first_statement ws) _ p f in
        begun_given all names lines agree (block_at fuel names lines) given depth left ws a.x p a.first a.second
        )
