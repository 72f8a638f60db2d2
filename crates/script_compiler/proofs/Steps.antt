-- Statements with blocks and whole scripts, step by step as the compiler processes them.
use Rattle.script_compiler.proofs.Words.{[], ◌&&◌, ◌++◌, ◌+◌, ◌<◌, ◌∙◌, ◌∷◌, ◌≡◌, ◌≤◌, Act, Block, BlockFacts, Bool}
use Rattle.script_compiler.proofs.Words.{CompileFault, Emits, End, Err, Global, IfOk, IsFine, IsJudged, Left, List}
use Rattle.script_compiler.proofs.Words.{None, Ok, OnOk, Plan, ProgramPoint, Reached, Result, Some, Statement, Vec}
use Rattle.script_compiler.proofs.Words.{Work, after_instr, all_places, alone, ap, append-nil, apply, arith, basic}
use Rattle.script_compiler.proofs.Words.{before, block_of, drop, facts_of, false, get_or, has_no_instr, instr_of_act}
use Rattle.script_compiler.proofs.Words.{known_at, length, lines_of_placed, map, named_at, nested, nothing, onward}
use Rattle.script_compiler.proofs.Words.{places, point_after, refl, subst, suc, sym, tables, take, true}
use Rattle.script_compiler.proofs.Words.{unpriced_labels, way, without_label, zero, ℕ}
use Rattle.script_compiler.proofs.Trees.{statements_cut, tables_take, tables_length}
use Rattle.script_compiler.proofs.Emitted.{left_act, left_apply, left_start, Whole, whole_of, whole_length, lines_both}
use Rattle.script_compiler.proofs.Emitted.{marks_both}

-- ---- the statements with blocks, step by step as the compiler processes them

pub ok_map : (x : Result Bool CompileFault) {P Q : Bool → Type 0} → ((f : Bool) → P f → Q f) → IfOk x P → IfOk x Q
ok_map (Ok f) m h = m f h
ok_map (Err y) m h = h

-- a call that always returns true
pub ok_true : (x : Result Bool CompileFault) (C : Type 0) (Q : Bool → Type 0) → IfOk x (λ f. f ≡ true) → OnOk x C
    → (C → Q true) → IfOk x Q
ok_true (Ok f) C Q e h m = subst Q (sym e) (m h)
ok_true (Err y) C Q e h m = e

pub ok_both : (x : Result Bool CompileFault) (C D : Type 0) → OnOk x C → OnOk x D → OnOk x (C × D)
ok_both (Ok f) C D h k = (h, k)
ok_both (Err y) C D h k = h

pub act_step : (plan : Plan) (r line : ℕ) (a : Act) (rest : Block) (v w : Work) (x : Result Bool CompileFault)
    → IfOk x (λ f. f ≡ true) → OnOk x (Emits v w (alone line (instr_of_act a) r v.now))
    → OnOk x (w.now ≡ without_label (after_instr plan (instr_of_act a) v.now.flow))
    → OnOk x (IsFine plan (instr_of_act a) (known_at v.now.flow))
    → IfOk x (λ f. Left plan r (basic line a rest) v w f rest)
act_step plan r line a rest v w x goes emits now fine =
    ok_true x _ _ goes (ok_both x _ _ emits (ok_both x _ _ now fine))
    (λ (all : Emits v w (alone line (instr_of_act a) r v.now)
    × ((w.now ≡ without_label (after_instr plan (instr_of_act a) v.now.flow))
    × IsFine plan (instr_of_act a) (known_at v.now.flow))). left_act plan r line a rest v w all.0 all.1.0 all.1.1)

-- the statements before one have been compiled: it is left, with the rest of the block
pub left_before : (plan : Plan) (r : ℕ) (table : List Block) (ss : List Statement) (k : ℕ) (s : Statement) (v w : Work)
    (f g : Bool) → s ≡ get_or ss k s → k < length ss → f ≡ g →
    Left plan r (block_of table ss) v w f (block_of table (drop k ss))
    → Left plan r (block_of table ss) v w g (before table s (block_of table (drop (k + 1) ss)))
left_before plan r table ss k s v w f g is lt e left = rw (← statements_cut table ss k s is lt) (rw (← e) left)

-- ---- blocks by number

map_length : (P : Block → BlockFacts) (xs : List Block) → length (map P xs) ≡ length xs
map_length P [] = refl
map_length P (x ∷ xs) = omega (arith, map_length P xs)

take_map : (P : Block → BlockFacts) (k : ℕ) (xs : List Block) → take k (map P xs) ≡ map P (take k xs)
take_map P (suc k) (x ∷ xs) = ap (λ ys. P x ∷ ys) (take_map P k xs)
take_map P _ _ = refl

pub facts_length : (facts : List BlockFacts) (bs : List (Vec Statement Global)) → facts ≡ map facts_of (tables bs)
    → length facts ≡ length bs
facts_length facts bs e = ap length e ∙ map_length facts_of (tables bs) ∙ tables_length bs

pub facts_take : (facts : List BlockFacts) (bs : List (Vec Statement Global)) (k : ℕ) → facts ≡ map facts_of (tables bs)
    → take k facts ≡ map facts_of (tables (take k bs))
facts_take facts bs k e = cc (e, take_map facts_of k (tables bs), tables_take bs k)

silent_named : (table : List Block) (facts : List BlockFacts) (k : ℕ) (d : BlockFacts) → facts ≡ map facts_of table
    → k < length facts → has_no_instr (named_at table k) ≡ (get_or facts k d).emits_nothing
silent_named table facts k d e lt = by table k (omega (arith, lt, ap length e))
    ∙ ap (λ xs. (get_or xs k d).emits_nothing) (sym e)
  where
    by : (xs : List Block) (k : ℕ) → k < length (map facts_of xs)
        → has_no_instr (named_at xs k) ≡ (get_or (map facts_of xs) k d).emits_nothing
    by [] k lt = absurd (omega (arith, lt))
    by (x ∷ xs) zero lt = refl
    by (x ∷ xs) (suc k) lt = by xs k (omega (arith, lt))

record Silent (plan : Plan) (b : Block) (s : ProgramPoint) : Type 0 where
  empty : (r pc : ℕ) → places plan r pc b s ≡ []
  leads : point_after plan b s ≡ Some s
  judged : IsJudged plan b s
  flat : nested b ≡ 0

silent_block : (plan : Plan) (b : Block) (s : ProgramPoint) → has_no_instr b ≡ true → Silent plan b s
silent_block plan nothing s h = record { empty = λ r pc. refl; leads = refl; judged = tt; flat = refl }
silent_block plan (apply line k name rest) s h =
    let both : (a b : Bool) → (a && b) ≡ true → (a ≡ true) × (b ≡ true) =
    λ a b e. elim a as (λ x. (x && b) ≡ true → (x ≡ true) × (b ≡ true)) [ true ↦ λ g. (refl, g) | false ↦ λ g. cc ]
    e in
    let two = both (has_no_instr name) (has_no_instr rest) h in
    let a = silent_block plan name s two.0 in
    let b = silent_block plan rest s two.1 in
    record {
      empty = λ r pc.
          let at : pc + length (places plan r pc name s) ≡ pc = let n = ap length (a.empty r pc) in omega (arith, n) in
          ap (λ xs. xs ++ onward (point_after plan name s) []
          (λ u. places plan r (pc + length (places plan r pc name s)) rest u)) (a.empty r pc)
          ∙ ap (λ w. onward w [] (λ u. places plan r (pc + length (places plan r pc name s)) rest u)) a.leads
          ∙ ap (λ n. places plan r n rest s) at ∙ b.empty r pc;
      leads = ap (λ w. onward w None (λ u. point_after plan rest u)) a.leads ∙ b.leads;
      judged = (a.judged, subst (λ w. Reached w rest (λ u. IsJudged plan rest u)) (sym a.leads) b.judged);
      flat = let n = a.flat in let m = b.flat in omega (arith, n, m);
    }
silent_block plan _ s h = cc

-- applying a block that emits nothing changes nothing
pub silent_step : (plan : Plan) (r line : ℕ) (bs : List (Vec Statement Global)) (s : Statement) (name k : ℕ)
    (facts : List BlockFacts) (d : BlockFacts) (w : Work) → r ≤ 8
    → ((rest : Block) → before (tables bs) s rest ≡ apply line name (named_at (tables bs) name) rest) → k ≡ name
    → facts ≡ map facts_of (tables bs) → k < length facts → (get_or facts k d).emits_nothing ≡ true → (rest : Block)
    → Left plan r (before (tables bs) s rest) w w true rest
silent_step plan r line bs s name k facts d w deep e ek es lt is_silent rest =
    let b = named_at (tables bs) name in
    let is : has_no_instr b ≡ true = cc (ek, silent_named (tables bs) facts k d es lt, is_silent) in
    let h = silent_block plan b w.now is in
    let none : Left plan r b w w true nothing = record {
      emitted = [];
      emits = record {
        lines = sym (append-nil w.lines.items);
        unpriced = sym (append-nil w.unpriced.items);
        saved = refl;
      };
      whole = h.empty r (length w.lines.items);
      leads = h.leads;
      judged = λ _. h.judged;
      only = λ _. tt;
      fails = λ at given j. absurd j;
      repeats = λ m. let n = h.flat in omega (arith, n, m);
      fewer = omega arith;
    } in
    subst (λ x. Left plan r x w w true rest) (sym (e rest)) (left_apply plan r line name b rest w w true deep none)

named_past : (table : List Block) (k : ℕ) → length table ≤ k → named_at table k ≡ nothing
named_past [] k le = refl
named_past (b ∷ table) zero le = absurd (omega (arith, le))
named_past (b ∷ table) (suc k) le = named_past table k (omega (arith, le))

pub unnamed_step : (plan : Plan) (r line : ℕ) (bs : List (Vec Statement Global)) (s : Statement) (name k : ℕ) (w : Work)
    → r ≤ 8 → ((rest : Block) → before (tables bs) s rest ≡ apply line name (named_at (tables bs) name) rest) → k ≡ name
    → length bs ≤ k → (rest : Block) → Left plan r (before (tables bs) s rest) w w true rest
unnamed_step plan r line bs s name k w deep e ek le rest =
    let without_label = named_past (tables bs) name (omega (arith, tables_length bs, ek, le)) in
    let h = left_apply plan r line name nothing rest w w true deep (left_start plan r nothing w) in
    subst (λ b. Left plan r b w w true rest) (sym (e rest ∙ ap (λ b. apply line name b rest) without_label)) h

-- ---- a whole script

pub record LaidWhole (plan : Plan) (last : ℕ) (b : Block) (t : ProgramPoint) (w : Work) : Type 0 where
  pub lines : w.lines.items ≡ lines_of_placed (all_places plan last b t)
  pub unpriced : w.unpriced.items ≡ unpriced_labels 0 (all_places plan last b t)
  pub judged : IsJudged plan b t
  pub repeats : nested b ≤ 8

-- nothing has been emitted before the block of a script, which starts at this point
pub record Starts (b c : Block) (t : ProgramPoint) (w0 : Work) : Type 0 where
  pub same : c ≡ b
  pub lines : w0.lines.items ≡ []
  pub unpriced : w0.unpriced.items ≡ []
  pub now : w0.now ≡ t

module _ {b c : Block} {t : ProgramPoint} {w0 w1 : Work} {f : Bool} (starts : Starts b c t w0) where
  pub whole_start : (plan : Plan) → Left plan 0 c w0 w1 f nothing → Whole plan 0 0 b t w0 w1 f
  whole_start plan left = whole_of plan 0 0 b t w0 w1 f (ap length starts.lines) starts.now (rw (← starts.same) left)

pub laid_whole : (plan : Plan) (last : ℕ) (w1 w2 : Work) (f : Bool) {b c : Block} {t : ProgramPoint} {w0 : Work}
    → Starts b c t w0 → Left plan 0 c w0 w1 f nothing →
    Emits w1 w2 (onward (way f w1) [] (alone last End 0)) → LaidWhole plan last b t w2
laid_whole plan last w1 w2 f {b} {c} {t} {w0} starts left emits =
    let h = whole_start starts plan left in
    let body = places plan 0 0 b t in
    let ending = onward (point_after plan b t) [] (alone last End 0) in
    let ending_is = ap (λ w. onward w [] (alone last End 0)) (sym h.leads) in
    let code1 : w1.lines.items ≡ lines_of_placed body = h.lines ∙ ap (λ xs. xs ++ lines_of_placed body) starts.lines in
    let labels1 = h.unpriced ∙ ap (λ xs. xs ++ unpriced_labels 0 body) starts.unpriced in
    record {
      lines = emits.lines ∙ ap (λ ps. w1.lines.items ++ lines_of_placed ps) ending_is
          ∙ ap (λ xs. xs ++ lines_of_placed ending) code1 ∙ sym (lines_both body ending);
      unpriced = emits.unpriced ∙ ap (λ ps. w1.unpriced.items ++ unpriced_labels (length w1.lines.items) ps) ending_is
          ∙ ap (λ n. w1.unpriced.items ++ unpriced_labels n ending) (whole_length h (ap length starts.lines))
          ∙ ap (λ xs. xs ++ unpriced_labels (0 + length body) ending) labels1 ∙ sym (marks_both 0 body ending);
      judged = h.judged;
      repeats = let k = h.repeats (omega arith) in omega (arith, k);
    }
