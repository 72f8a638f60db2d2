-- Statements of a tree as blocks, the size of blocks, and the facts of defined ones.
use Rattle.script_compiler.proofs.Words.{[], ◌&&◌, ◌++◌, ◌+◌, ◌<◌, ◌||◌, ◌∙◌, ◌∷◌, ◌≡◌, ◌≤◌, Act, Before, Block}
use Rattle.script_compiler.proofs.Words.{BlockFacts, Bool, Condition, Global, List, Statement, Statement-F, Vec}
use Rattle.script_compiler.proofs.Words.{add-one, ap, append-nil, append_assoc, apply, arith, basic, before, block_of}
use Rattle.script_compiler.proofs.Words.{drop, drop-cons, drop_all, either, facts_of, falls_out, false, forever, get_or}
use Rattle.script_compiler.proofs.Words.{has_no_instr, length, map, named_at, nothing, refl, repeat, statement_step}
use Rattle.script_compiler.proofs.Words.{stop, subst, suc, sym, table_of, tables, take, true, when, whole, zero, ℕ}
use Rattle.script_front.specs.declared.tree.Statement.TheFolds.{fold-roll-Statement, fold_out-Statement, map-Statement}
use Rattle.script_front.specs.declared.tree.Statement.TheViews.{out-Statement}
use Rattle.script_front.specs.declared.tree.Statement.TheVariants.{End, If, IfElse, Repeat, Forever, Apply, rolls-Act}
use Rattle.script_front.specs.declared.tree.Statement.TheVariants.{rolls-End, rolls-If, rolls-IfElse, rolls-Repeat}
use Rattle.script_front.specs.declared.tree.Statement.TheVariants.{rolls-Forever, rolls-Apply, Act as Acts}

-- ---- what each statement of a tree is as a block, and the statements after it

-- a property of each statement, given its parts as blocks, is a property of each statement
pub by_step : (table : List Block) (P : Before → Type 0) → ((x : Statement-F Before) → P (statement_step table x))
    → (s : Statement) → P (before table s)
by_step table P h s = subst P (sym (fold_out-Statement Before (statement_step table) s))
    (h (map-Statement Statement Before (before table) (out-Statement s)))

-- the statements from an index on
pub statements_cut : (table : List Block) (ss : List Statement) (k : ℕ) (s : Statement) → s ≡ get_or ss k s
    → k < length ss → block_of table (drop k ss) ≡ before table s (block_of table (drop (k + 1) ss))
statements_cut table ss k s is lt =
    let cut : drop k ss ≡ get_or ss k s ∷ drop (k + 1) ss = rw (add-one, drop-cons ss k s lt) refl in
    ap (λ xs. block_of table xs) cut ∙ ap (λ x. before table x (block_of table (drop (k + 1) ss))) (sym is)

pub none_left : (table : List Block) (ss : List Statement) (k : ℕ) → length ss ≤ k
    → block_of table (drop k ss) ≡ nothing
none_left table ss k le = ap (λ xs. block_of table xs) (drop_all k ss le)

and_true : (a b : Bool) → (a && b) ≡ ((a && true) && b)
and_true true b = refl
and_true false b = refl

step_falls : (table : List Block) (x : Statement-F Before) (rest : Block)
    → falls_out (statement_step table x rest) ≡ (falls_out (statement_step table x nothing) && falls_out rest)
step_falls table (Statement-F.IfElse line condition first second) rest =
    and_true (falls_out (whole first.items) || falls_out (whole second.items)) (falls_out rest)
step_falls table (Statement-F.Repeat line times body) rest = and_true (falls_out (whole body.items)) (falls_out rest)
step_falls table (Statement-F.Apply line block) rest = and_true (falls_out (named_at table block)) (falls_out rest)
step_falls table _ rest = refl

falls_before : (table : List Block) (s : Statement) (rest : Block)
    → falls_out (before table s rest) ≡ (falls_out (before table s nothing) && falls_out rest)
falls_before table s rest = by_step table (λ f. falls_out (f rest) ≡ (falls_out (f nothing) && falls_out rest))
    (λ x. step_falls table x rest) s

pub falls_cut : (table : List Block) (ss : List Statement) (k : ℕ) (s : Statement) → s ≡ get_or ss k s → k < length ss
    → falls_out (block_of table (drop k ss))
    ≡ (falls_out (before table s nothing) && falls_out (block_of table (drop (k + 1) ss)))
falls_cut table ss k s is lt = ap falls_out (statements_cut _ _ _ _ is lt) ∙ falls_before _ _ _

step_silent : (table : List Block) (x : Statement-F Before) (rest : Block)
    → has_no_instr (statement_step table x rest) ≡ (has_no_instr (statement_step table x nothing) && has_no_instr rest)
step_silent table (Statement-F.Apply line block) rest =
    and_true (has_no_instr (named_at table block)) (has_no_instr rest)
step_silent table _ rest = refl

pub silent_cut : (table : List Block) (ss : List Statement) (k : ℕ) (s : Statement) → s ≡ get_or ss k s → k < length ss
    → has_no_instr (block_of table (drop k ss))
    ≡ (has_no_instr (before table s nothing) && has_no_instr (block_of table (drop (k + 1) ss)))
silent_cut table ss k s is lt =
    ap has_no_instr (statements_cut table ss k s is lt)
    ∙ by_step table (λ f. has_no_instr (f (block_of table (drop (k + 1) ss)))
    ≡ (has_no_instr (f nothing) && has_no_instr (block_of table (drop (k + 1) ss))))
    (λ x. step_silent table x (block_of table (drop (k + 1) ss))) s

-- ---- what a statement of each kind is as a block

pub is_act : (table : List Block) (s : Statement) (line : ℕ) (act : Act) → s ≡ Acts line act → (rest : Block)
    → before table s rest ≡ basic line act rest
is_act table s line act e rest = ap (λ x. before table x rest) e
    ∙ ap (λ f. f rest) (ap (before table) (sym (rolls-Act line act))
    ∙ fold-roll-Statement Before (statement_step table) (Statement-F.Act line act))

pub is_end : (table : List Block) (s : Statement) (line : ℕ) → s ≡ End line → (rest : Block)
    → before table s rest ≡ stop line rest
is_end table s line e rest = ap (λ x. before table x rest) e
    ∙ ap (λ f. f rest) (ap (before table) (sym (rolls-End line))
    ∙ fold-roll-Statement Before (statement_step table) (Statement-F.End line))

pub is_if : (table : List Block) (s : Statement) (line : ℕ) (condition : Condition) (first : Vec Statement Global)
    → s ≡ If line condition first → (rest : Block) → before table s rest
    ≡ when line condition (block_of table first.items) rest
is_if table s line condition first e rest = ap (λ x. before table x rest) e
    ∙ ap (λ f. f rest) (ap (before table) (sym (rolls-If line condition first))
    ∙ fold-roll-Statement Before (statement_step table) (Statement-F.If line condition first))

pub is_if_else : (table : List Block) (s : Statement) (line : ℕ) (condition : Condition)
    (first second : Vec Statement Global) → s ≡ IfElse line condition first second → (rest : Block)
    → before table s rest ≡ either line condition (block_of table first.items) (block_of table second.items) rest
is_if_else table s line condition first second e rest =
    ap (λ x. before table x rest) e ∙ ap (λ f. f rest)
    (ap (before table) (sym (rolls-IfElse line condition first second))
    ∙ fold-roll-Statement Before (statement_step table) (Statement-F.IfElse line condition first second))

pub is_repeat : (table : List Block) (s : Statement) (line times : ℕ) (body : Vec Statement Global)
    → s ≡ Repeat line times body → (rest : Block) → before table s rest
    ≡ repeat line times (block_of table body.items) rest
is_repeat table s line times body e rest = ap (λ x. before table x rest) e
    ∙ ap (λ f. f rest) (ap (before table) (sym (rolls-Repeat line times body))
    ∙ fold-roll-Statement Before (statement_step table) (Statement-F.Repeat line times body))

pub is_forever : (table : List Block) (s : Statement) (line : ℕ) (body : Vec Statement Global) → s ≡ Forever line body
    → (rest : Block) → before table s rest ≡ forever line (block_of table body.items) rest
is_forever table s line body e rest = ap (λ x. before table x rest) e
    ∙ ap (λ f. f rest) (ap (before table) (sym (rolls-Forever line body))
    ∙ fold-roll-Statement Before (statement_step table) (Statement-F.Forever line body))

pub is_apply : (table : List Block) (s : Statement) (line number : ℕ) → s ≡ Apply line number → (rest : Block)
    → before table s rest ≡ apply line number (named_at table number) rest
is_apply table s line number e rest = ap (λ x. before table x rest) e
    ∙ ap (λ f. f rest) (ap (before table) (sym (rolls-Apply line number))
    ∙ fold-roll-Statement Before (statement_step table) (Statement-F.Apply line number))

-- ---- the size of a block that is still to be compiled, and the blocks that a script names

abbrev pub weight : Block → ℕ
weight nothing = 0
weight (basic line act rest) = 1 + weight rest
weight (stop line rest) = 1 + weight rest
weight (when line condition first rest) = 1 + weight first + weight rest
weight (either line condition first second rest) = 1 + weight first + weight second + weight rest
weight (repeat line times body rest) = 1 + weight body + weight rest
weight (forever line body rest) = 1 + weight body + weight rest
weight (apply line number named rest) = 1 + weight named + weight rest

step_weight : (table : List Block) (x : Statement-F Before) (rest : Block)
    → weight (statement_step table x rest) ≡ weight (statement_step table x nothing) + weight rest
step_weight table (Statement-F.Act line act) rest = omega arith
step_weight table (Statement-F.End line) rest = omega arith
step_weight table (Statement-F.If line condition first) rest = omega arith
step_weight table (Statement-F.IfElse line condition first second) rest = omega arith
step_weight table (Statement-F.Repeat line times body) rest = omega arith
step_weight table (Statement-F.Forever line body) rest = omega arith
step_weight table (Statement-F.Apply line block) rest = omega arith

pub weight_before : (table : List Block) (s : Statement) (rest : Block)
    → weight (before table s rest) ≡ weight (before table s nothing) + weight rest
weight_before table s rest = by_step table (λ f. weight (f rest) ≡ weight (f nothing) + weight rest)
    (λ x. step_weight table x rest) s

pub weight_each : (table : List Block) (ss : List Statement) (k : ℕ) (s : Statement) → s ≡ get_or ss k s → k < length ss
    → weight (before table s nothing) ≤ weight (block_of table ss)
weight_each table [] k s is lt = absurd (omega (arith, lt))
weight_each table (x ∷ ss) zero s is lt = let more = weight_before table x (block_of table ss) in
    let e : weight (before table s nothing) ≡ weight (before table x nothing) =
    ap (λ y. weight (before table y nothing)) is in omega (arith, more, e)
weight_each table (x ∷ ss) (suc k) s is lt = let more = weight_before table x (block_of table ss) in let ih =
    weight_each table ss k s is (omega (arith, lt)) in omega (arith, more, ih)

-- ---- the blocks defined before one

-- the blocks that are added
abbrev pub added : List Block → List (List Statement) → List Block
added table [] = []
added table (b ∷ bs) = block_of table b ∷ added (table ++ block_of table b ∷ []) bs

pub table_added : (table : List Block) (bs : List (List Statement)) → table_of table bs ≡ table ++ added table bs
table_added table [] = sym (append-nil table)
table_added table (b ∷ bs) = table_added (table ++ block_of table b ∷ []) bs
    ∙ append_assoc table (block_of table b ∷ []) (added (table ++ block_of table b ∷ []) bs)

pub added_length : (table : List Block) (bs : List (List Statement)) → length (added table bs) ≡ length bs
added_length table [] = refl
added_length table (b ∷ bs) = let ih = added_length (table ++ block_of table b ∷ []) bs in omega (arith, ih)

added_take : (table : List Block) (bs : List (List Statement)) (k : ℕ)
    → added table (take k bs) ≡ take k (added table bs)
added_take table [] zero = refl
added_take table [] (suc k) = refl
added_take table (b ∷ bs) zero = refl
added_take table (b ∷ bs) (suc k) = ap (λ xs. block_of table b ∷ xs) (added_take (table ++ block_of table b ∷ []) bs k)

added_at : (table : List Block) (bs : List (List Statement)) (k : ℕ) (d : List Statement) → k < length bs
    → get_or (added table bs) k nothing ≡ block_of (table_of table (take k bs)) (get_or bs k d)
added_at table [] k d lt = absurd (omega (arith, lt))
added_at table (b ∷ bs) zero d lt = refl
added_at table (b ∷ bs) (suc k) d lt = added_at (table ++ block_of table b ∷ []) bs k d (omega (arith, lt))

map_take : (k : ℕ) (bs : List (Vec Statement Global)) → map (λ b. b.items) (take k bs) ≡ take k (map (λ b. b.items) bs)
map_take (suc k) (b ∷ bs) = ap (λ xs. b.items ∷ xs) (map_take k bs)
map_take _ _ = refl

map_length : (bs : List (Vec Statement Global)) → length (map (λ (v : Vec Statement Global). v.items) bs) ≡ length bs
map_length [] = refl
map_length (b ∷ bs) = omega (arith, map_length bs)

tables_added : (bs : List (Vec Statement Global)) → tables bs ≡ added [] (map (λ b. b.items) bs)
tables_added bs = table_added [] (map (λ b. b.items) bs)

-- the blocks defined before one are the first ones
pub tables_take : (bs : List (Vec Statement Global)) (k : ℕ) → tables (take k bs) ≡ take k (tables bs)
tables_take bs k = tables_added (take k bs) ∙ ap (λ xs. added [] xs) (map_take k bs)
    ∙ added_take [] (map (λ b. b.items) bs) k ∙ ap (λ xs. take k xs) (sym (tables_added bs))

pub tables_at : (bs : List (Vec Statement Global)) (k : ℕ) (b : Vec Statement Global) → b ≡ get_or bs k b
    → k < length bs → named_at (tables bs) k ≡ block_of (tables (take k bs)) b.items
tables_at bs k b is lt =
    let within : k < length (map (λ (v : Vec Statement Global). v.items) bs) = omega (arith, lt, map_length bs) in
    ap (λ xs. get_or xs k nothing) (tables_added bs) ∙ added_at [] (map (λ v. v.items) bs) k b.items within
    ∙ ap (λ xs. block_of (table_of [] xs) (get_or (map (λ v. v.items) bs) k b.items)) (sym (map_take k bs))
    ∙ ap (λ x. block_of (tables (take k bs)) x) (map_at bs k b.items b is lt)
  where
    map_at : (bs : List (Vec Statement Global)) (k : ℕ) (d : List Statement) (b : Vec Statement Global)
        → b ≡ get_or bs k b → k < length bs → get_or (map (λ v. v.items) bs) k d ≡ b.items
    map_at [] k d b is lt = absurd (omega (arith, lt))
    map_at (x ∷ bs) zero d b is lt = ap (λ (v : Vec Statement Global). v.items) (sym is)
    map_at (x ∷ bs) (suc k) d b is lt = map_at bs k d b is (omega (arith, lt))

-- an applied block, with the blocks before it
pub applied_is : (bs : List (Vec Statement Global)) (s : Statement) (line number k : ℕ) (b : Vec Statement Global)
    (ss : List Statement) → s ≡ Apply line number → k ≡ number → b ≡ get_or bs k b → k < length bs → ss ≡ b.items →
    (rest : Block) → before (tables bs) s rest ≡ apply line number (block_of (tables (take k bs)) ss) rest
applied_is bs s line number k b ss is number_is there lt same rest =
    cc (is_apply (tables bs) s line number is rest, number_is, tables_at bs k b there lt, same)

pub tables_length : (bs : List (Vec Statement Global)) → length (tables bs) ≡ length bs
tables_length bs = ap length (tables_added bs) ∙ added_length [] (map (λ b. b.items) bs) ∙ map_length bs

-- ---- the facts of defined blocks, one by one

table_more : (table : List Block) (bs : List (List Statement)) (b : List Statement)
    → table_of table (bs ++ b ∷ []) ≡ table_of table bs ++ block_of (table_of table bs) b ∷ []
table_more table [] b = refl
table_more table (x ∷ bs) b = table_more (table ++ block_of table x ∷ []) bs b

take_items : (bs : List (Vec Statement Global)) (k : ℕ) (b : Vec Statement Global) → b ≡ get_or bs k b → k < length bs
    → map (λ (v : Vec Statement Global). v.items) (take (suc k) bs)
    ≡ map (λ (v : Vec Statement Global). v.items) (take k bs) ++ b.items ∷ []
take_items [] k b is lt = absurd (omega (arith, lt))
take_items (x ∷ bs) zero b is lt = ap (λ (v : Vec Statement Global). v.items ∷ []) (sym is)
take_items (x ∷ bs) (suc k) b is lt = ap (λ xs. x.items ∷ xs) (take_items bs k b is (omega (arith, lt)))

map_more : (xs : List Block) (b : Block) → map facts_of (xs ++ b ∷ []) ≡ map facts_of xs ++ facts_of b ∷ []
map_more [] b = refl
map_more (x ∷ xs) b = ap (λ ys. facts_of x ∷ ys) (map_more xs b)

abbrev pub told : Bool → Bool → BlockFacts
told f g = record { reaches_end = f; emits_nothing = g }

pub facts_more :
    (bs : List (Vec Statement Global)) (k : ℕ) (b : Vec Statement Global) (facts : List BlockFacts) (f g : Bool)
    → b ≡ get_or bs k b → k < length bs → facts ≡ map facts_of (tables (take k bs)) →
    f ≡ falls_out (block_of (tables (take k bs)) b.items) → g ≡ has_no_instr (block_of (tables (take k bs)) b.items) →
    facts ++ told f g ∷ [] ≡ map facts_of (tables (take (k + 1) bs))
facts_more bs k b facts f g is lt e h h2 =
    let one : suc k ≡ k + 1 = omega arith in
    ap (λ xs. xs ++ told f g ∷ []) e ∙ ap (λ x. map facts_of (tables (take k bs)) ++ x ∷ [])
    (ap (λ x. told x g) h ∙ ap (λ x. told (falls_out (block_of (tables (take k bs)) b.items)) x) h2)
    ∙ sym (map_more (tables (take k bs)) (block_of (tables (take k bs)) b.items))
    ∙ ap (λ xs. map facts_of xs) (sym (table_more [] (map (λ v. v.items) (take k bs)) b.items))
    ∙ ap (λ xs. map facts_of (table_of [] xs)) (sym (take_items bs k b is lt))
    ∙ ap (λ n. map facts_of (tables (take n bs))) one
