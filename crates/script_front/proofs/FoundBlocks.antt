-- Statements that are spelled by some tokens are read from them, on the lines of their tokens.
use Rattle.script_front.proofs.Words.{[], ◌++◌, ◌+◌, ◌-◌, ◌<◌, ◌∙◌, ◌∷◌, ◌≡◌, ◌≢◌, ◌≤◌, Act, ActKeyword, Before, Block}
use Rattle.script_front.proofs.Words.{BlockOn, Bool, Condition, IsCondition, IsInBounds, IsName, List, None, Passage}
use Rattle.script_front.proofs.Words.{Some, Spelled, Statement, StatementKeyword, Statements, act_from, act_keyword}
use Rattle.script_front.proofs.Words.{act_lexemes, after_itself, ap, append_assoc, apply, arith, basic, before}
use Rattle.script_front.proofs.Words.{block_lexemes, block_of, braced, bytes_eq, bytes_eq-Decides, condition_at}
use Rattle.script_front.proofs.Words.{condition_lexemes, counted, drop, either, false, fold-roll-Statement, forever}
use Rattle.script_front.proofs.Words.{ind-Statement, keyword_again, le-ltb, length, letters, line_of, lt-ltb, map}
use Rattle.script_front.proofs.Words.{map-Statement, name_at, next_itself, nothing, number_at, other_next, position}
use Rattle.script_front.proofs.Words.{position_or_len, put, refl, repeat, statement_found, statement_keyword}
use Rattle.script_front.proofs.Words.{statement_of, statement_step, stop, subst, suc, sym, true, unlined}
use Rattle.script_front.proofs.Words.{values_are_read, when, whole, zero, ℕ}
use Rattle.script_front.specs.declared.tree.Statement.TheOpen.{Statement-F}
use Rattle.script_tokens.specs.declared.keyword.Keyword.{Keyword}
use Rattle.script_tokens.specs.Reading.{is_next}
use Rattle.script_front.specs.BlockReader.{stops, open_at, body_at, applied_at, branch_at, statement_from, begun_at}
use Rattle.script_front.specs.BlockReader.{block_at}
use Rattle.script_tokens.specs.declared.keyword.Keyword.TheVariants as the
use Rattle.script_tokens.specs.declared.first_keyword.StatementKeyword.TheVariants as statement
use Rattle.script_front.proofs.ReadingWaits.{IsPast, condition_law}
use Rattle.script_front.proofs.Readings.{act_first, act_rest, act_begins, act_law}
use Rattle.script_front.proofs.ReadingBlocks.{not_zero, Names, Agree, passed, times_law, braced_then}

-- ---- names

false_if : (b : Bool) → (b ≡ true → ⊥) → b ≡ false
false_if true h = absurd (h refl)
false_if false h = refl

pub first_at : (names : Names) (n : ℕ) (w : List ℕ) → n < length names → name_at names n ≡ w
    → ((k : ℕ) → k < n → name_at names k ≢ w) → position_or_len (bytes_eq w) names ≡ n
first_at [] n w lt is others = absurd (omega (arith, lt))
first_at (x ∷ names) zero w lt is others = let e = (bytes_eq-Decides w x).1 (sym is) in rw (e) refl
first_at (x ∷ names) (suc n) w lt is others =
    let r = first_at names n w (omega (arith, lt)) is (λ k less. others (suc k) (omega (arith, less))) in
    rw ((false_if (bytes_eq w x) (λ e. others 0 (omega arith) (sym ((bytes_eq-Decides w x).0 e)))), r) (omega arith)

none_at : (names : Names) (w : List ℕ) → ((k : ℕ) → k < length names → name_at names k ≢ w)
    → position_or_len (bytes_eq w) names ≡ length names
none_at [] w others = refl
none_at (x ∷ names) w others =
    let e = false_if (bytes_eq w x) (λ e. others 0 (omega arith) (sym ((bytes_eq-Decides w x).0 e))) in
    let r = none_at names w (λ k less. others (suc k) (omega (arith, less))) in rw (e, r) (omega arith)

pub no_number : (names : Names) (w : List ℕ) → ((k : ℕ) → k < length names → name_at names k ≢ w)
    → position (bytes_eq w) names ≡ None
no_number names w others = let r = none_at names w others in
    rw (r, le-ltb (length names) (length names) (omega arith)) refl

-- the names of the first `known` blocks differ
abbrev pub AreApart : (known : ℕ) → Names → Type 0
AreApart known names = (k n : ℕ) → k < n → n < known → name_at names k ≢ name_at names n

pub number_found : (names : Names) (n : ℕ) → AreApart (length names) names → n < length names
    → position (bytes_eq (name_at names n)) names ≡ Some n
number_found names n apart lt =
    rw ((first_at names n (name_at names n) lt refl (λ k less. apart k n less lt)), lt-ltb n (length names) lt) refl

applied_found : (names : Names) (n : ℕ) (rest : Spelled) → AreApart (length names) names → n < length names
    → IsName (name_at names n) → applied_at names (name_at names n ∷ rest) ≡ Some (n, rest)
unfolding applied_at
applied_found names n rest apart lt named =
    rw (values_are_read.names.found (name_at names n) rest named, number_found names n apart lt) refl

-- ---- the lines of statements

-- the block on the lines of its tokens, where `after` follows it
abbrev pub lined : Names → List ℕ → Block → Spelled → Block
lined names lines nothing after = nothing
lined names lines (basic line act rest) after =
    basic (line_of lines (block_lexemes names (basic line act rest) ++ after)) act (lined names lines rest after)
lined names lines (stop line rest) after =
    stop (line_of lines (block_lexemes names (stop line rest) ++ after)) (lined names lines rest after)
lined names lines (when line condition first rest) after =
    when (line_of lines (block_lexemes names (when line condition first rest) ++ after)) condition
    (lined names lines first (letters the.CloseBrace ∷ (block_lexemes names rest ++ after)))
    (lined names lines rest after)
lined names lines (either line condition first second rest) after =
    either (line_of lines (block_lexemes names (either line condition first second rest) ++ after)) condition
    (lined names lines first (letters the.CloseBrace ∷ letters the.Else
    ∷ (braced (block_lexemes names second) (block_lexemes names rest) ++ after)))
    (lined names lines second (letters the.CloseBrace ∷ (block_lexemes names rest ++ after)))
    (lined names lines rest after)
lined names lines (repeat line times body rest) after =
    repeat (line_of lines (block_lexemes names (repeat line times body rest) ++ after)) times
    (lined names lines body (letters the.CloseBrace ∷ (block_lexemes names rest ++ after)))
    (lined names lines rest after)
lined names lines (forever line body rest) after =
    forever (line_of lines (block_lexemes names (forever line body rest) ++ after))
    (lined names lines body (letters the.CloseBrace ∷ (block_lexemes names rest ++ after)))
    (lined names lines rest after)
lined names lines (apply line number named rest) after =
    apply (line_of lines (block_lexemes names (apply line number named rest) ++ after)) number nothing
    (lined names lines rest after)

-- only the lines are others
pub lined_unlined : (names : Names) (lines : List ℕ) (b : Block) (after : Spelled)
    → unlined (lined names lines b after) ≡ unlined b
lined_unlined names lines nothing after = refl
lined_unlined names lines (basic line act rest) after = let r = lined_unlined names lines rest after in cc
lined_unlined names lines (stop line rest) after = let r = lined_unlined names lines rest after in cc
lined_unlined names lines (when line condition first rest) after =
    let a = lined_unlined names lines first (letters the.CloseBrace ∷ (block_lexemes names rest ++ after)) in let r =
    lined_unlined names lines rest after in cc
lined_unlined names lines (either line condition first second rest) after =
    let a = lined_unlined names lines first (letters the.CloseBrace ∷ letters the.Else
    ∷ (braced (block_lexemes names second) (block_lexemes names rest) ++ after)) in
    let b = lined_unlined names lines second (letters the.CloseBrace ∷ (block_lexemes names rest ++ after)) in let r =
    lined_unlined names lines rest after in cc
lined_unlined names lines (repeat line times body rest) after =
    let a = lined_unlined names lines body (letters the.CloseBrace ∷ (block_lexemes names rest ++ after)) in let r =
    lined_unlined names lines rest after in cc
lined_unlined names lines (forever line body rest) after =
    let a = lined_unlined names lines body (letters the.CloseBrace ∷ (block_lexemes names rest ++ after)) in let r =
    lined_unlined names lines rest after in cc
lined_unlined names lines (apply line number named rest) after = let r = lined_unlined names lines rest after in cc

-- no statement names the block that it applies
abbrev pub IsPlain : Block → Type 0
IsPlain nothing = Unit {0}
IsPlain (basic line act rest) = IsPlain rest
IsPlain (stop line rest) = IsPlain rest
IsPlain (when line condition first rest) = IsPlain first × IsPlain rest
IsPlain (either line condition first second rest) = IsPlain first × IsPlain second × IsPlain rest
IsPlain (repeat line times body rest) = IsPlain body × IsPlain rest
IsPlain (forever line body rest) = IsPlain body × IsPlain rest
IsPlain (apply line number named rest) = (named ≡ nothing) × IsPlain rest

-- a block on its lines is the same
pub lined_is : (names : Names) (lines : List ℕ) (b : Block) (after : Spelled) → IsPlain b → BlockOn names lines b after
    → lined names lines b after ≡ b
lined_is names lines nothing after p o = refl
lined_is names lines (basic line act rest) after p o = let r = lined_is names lines rest after p o.1 in let l = o.0 in
    cc
lined_is names lines (stop line rest) after p o = let r = lined_is names lines rest after p o.1 in let l = o.0 in cc
lined_is names lines (when line condition first rest) after p o =
    let a = lined_is names lines first _ p.0 o.1 in let r = lined_is names lines rest after p.1 o.2 in let l = o.0 in cc
lined_is names lines (either line condition first second rest) after p o =
    let a = lined_is names lines first _ p.0 o.1 in let b = lined_is names lines second _ p.1 o.2 in let r =
    lined_is names lines rest after p.2 o.3 in let l = o.0 in cc
lined_is names lines (repeat line times body rest) after p o =
    let a = lined_is names lines body _ p.0 o.1 in let r = lined_is names lines rest after p.1 o.2 in let l = o.0 in cc
lined_is names lines (forever line body rest) after p o =
    let a = lined_is names lines body _ p.0 o.1 in let r = lined_is names lines rest after p.1 o.2 in let l = o.0 in cc
lined_is names lines (apply line number named rest) after p o =
    let r = lined_is names lines rest after p.1 o.1 in let n = p.0 in let l = o.0 in cc

-- one more statement changes nothing in this
abbrev StaysPlain : Before → Type 0
StaysPlain s = (rest : Block) → IsPlain rest → IsPlain (s rest)

abbrev IsPlainStatement : Statement → Type 0
IsPlainStatement s = StaysPlain (before [] s)

whole_plain : (ss : List ((s : Statement) × IsPlainStatement s)) → IsPlain (whole (map (before []) (map (λ e. e.0) ss)))
whole_plain [] = tt
whole_plain (s ∷ ss) = s.1 _ (whole_plain ss)

layer_plain : (y : Statement-F ((s : Statement) × IsPlainStatement s))
    → StaysPlain (statement_step []
    (map-Statement Statement Before (before [])
    (map-Statement ((s : Statement) × IsPlainStatement s) Statement (λ e. e.0) y)))
layer_plain (Statement-F.If line condition first) rest h = (whole_plain first.items, h)
layer_plain (Statement-F.IfElse line condition first second) rest h =
    (whole_plain first.items, whole_plain second.items, h)
layer_plain (Statement-F.Repeat line times body) rest h = (whole_plain body.items, h)
layer_plain (Statement-F.Forever line body) rest h = (whole_plain body.items, h)
layer_plain (Statement-F.Apply line block) rest h = (refl, h)
layer_plain _ rest h = h

statement_plain : (s : Statement) → IsPlainStatement s
statement_plain =
    ind-Statement IsPlainStatement (λ x y is. subst StaysPlain (sym (fold-roll-Statement Before (statement_step []) x))
    (rw (← is) (layer_plain y)))

pub plain : (ss : List Statement) → IsPlain (block_of [] ss)
plain [] = tt
plain (s ∷ ss) = statement_plain s _ (plain ss)

-- ---- what is spelled is read

-- keywords that begin a statement, and others
pub differs : (k : StatementKeyword) (j : Keyword) → statement_of j ≡ None → statement_keyword k ≡ j → ⊥
differs k j none e = let f : None ≡ Some k = sym none ∙ ap statement_of (sym e) ∙ keyword_again k in absurd cc

-- a statement begins with its keyword
begun_found : (fuel depth left : ℕ) (names : Names) (lines : List ℕ) (k : StatementKeyword) (ws : Spelled)
    → block_at (suc fuel) names lines depth (suc left) (letters (statement_keyword k) ∷ ws)
    ≡ statement_from (block_at fuel names lines) names (line_of lines (letters (statement_keyword k) ∷ ws)) depth
    left k ws
unfolding block_at begun_at stops
begun_found fuel depth left names lines k ws =
    rw (other_next _ _ _ (differs k the.CloseBrace refl), statement_found _ _, keyword_again _) refl

body_found : (go : Statements) (depth left mid : ℕ) (b : Block) (body rest : Spelled) → 1 ≤ depth
    → go (depth - 1) left (body ++ letters the.CloseBrace ∷ rest) ≡ Some (passed b mid (letters the.CloseBrace ∷ rest))
    → body_at go depth left (letters the.OpenBrace ∷ (body ++ letters the.CloseBrace ∷ rest)) ≡ Some (passed b mid rest)
unfolding body_at open_at
body_found go depth left mid b body rest room e =
    rw (not_zero depth room, after_itself _ _, e, after_itself _ _) refl

-- tokens that end here do not begin with a keyword that begins no statement
ends_so : (j : Keyword) (ws : Spelled) → (the.CloseBrace ≡ j → ⊥) → stops ws ≡ true → is_next j ws ≡ false
unfolding stops is_next
ends_so j [] other h = refl
ends_so j (w ∷ ws) other h = let is = (bytes_eq-Decides w (letters the.CloseBrace)).0 h in
    rw (is) (other_next the.CloseBrace j ws other)

-- nor does a block in front of them
never_next : (j : Keyword) (names : Names) (b : Block) (rest : Spelled) → statement_of j ≡ None
    → (the.CloseBrace ≡ j → ⊥) → stops rest ≡ true → is_next j (block_lexemes names b ++ rest) ≡ false
never_next j names nothing rest none other h = ends_so j rest other h
never_next j names (basic line act r) rest none other h =
    let e = append_assoc (act_lexemes act) (block_lexemes names r) rest
    ∙ ap (λ (us : Spelled). us ++ (block_lexemes names r ++ rest)) (act_begins act) in
    rw (e) (other_next _ _ _ (differs (statement.Act (act_first act)) j none))
never_next j names (stop line r) rest none other h = other_next the.End j _ (differs statement.End j none)
never_next j names (repeat line times body r) rest none other h = other_next _ _ _ (differs statement.Repeat j none)
never_next j names (forever line body r) rest none other h = other_next _ _ _ (differs statement.Forever j none)
never_next j names (apply line number named r) rest none other h = other_next _ _ _ (differs statement.Apply j none)
never_next j names _ rest none other h =
    other_next the.If j _ (differs statement.If j none)

-- neither `early` nor `or` follows an act
is_past : (names : Names) (b : Block) (rest : Spelled) → stops rest ≡ true → IsPast (block_lexemes names b ++ rest)
is_past names b rest h = (
  never_next the.Early names b rest refl (λ e. cc) h,
  never_next the.Or names b rest refl (λ e. cc) h,
)

pub closing_stops : (ws : Spelled) → stops (letters the.CloseBrace ∷ ws) ≡ true
unfolding stops
closing_stops ws = next_itself the.CloseBrace ws

-- each statement, where its parts are read
pub after_act : (go : Statements) (names : Names) (line depth left : ℕ) (k : ActKeyword) (ws : Spelled) (act : Act)
    (rest : Spelled) → act_from k ws ≡ Some (act, rest)
    → statement_from go names line depth left (statement.Act k) ws ≡ put (basic line act) (go depth left rest)
unfolding statement_from
after_act go names line depth left k ws act rest e = rw (e) refl

pub after_apply : (go : Statements) (names : Names) (line depth left number : ℕ) (ws rest : Spelled)
    → applied_at names ws ≡ Some (number, rest)
    → statement_from go names line depth left statement.Apply ws ≡ put (apply line number nothing) (go depth left rest)
unfolding statement_from
after_apply go names line depth left number ws rest e = rw (e) refl

pub after_forever : (go : Statements) (names : Names) (line depth left : ℕ) (ws : Spelled) (body : Passage)
    → body_at go depth left ws ≡ Some body
    → statement_from go names line depth left statement.Forever ws
    ≡ put (forever line body.block) (go depth body.left body.rest)
unfolding statement_from
after_forever go names line depth left ws body e = rw (e) refl

pub after_repeat : (go : Statements) (names : Names) (line depth left : ℕ) (ws : Spelled) (times : ℕ) (vs : Spelled)
    (body : Passage) → number_at 1 65535 ws ≡ Some (times, vs) → body_at go depth left vs ≡ Some body
    → statement_from go names line depth left statement.Repeat ws
    ≡ put (repeat line times body.block) (go depth body.left body.rest)
unfolding statement_from
after_repeat go names line depth left ws times vs body e f = rw (e, f) refl

pub after_if : (go : Statements) (names : Names) (line depth left : ℕ) (ws : Spelled) (condition : Condition)
    (vs : Spelled) (first : Passage) → condition_at ws ≡ Some (condition, vs) → body_at go depth left vs ≡ Some first
    → statement_from go names line depth left statement.If ws ≡ branch_at go line depth condition first
unfolding statement_from
after_if go names line depth left ws condition vs first e f = rw (e, f) refl

-- `if` and its condition, where its first block is read after them
if_begins : (fuel depth left : ℕ) (names : Names) (lines : List ℕ) (condition : Condition) (body rest : Spelled)
    (first : Passage) → IsCondition condition
    → body_at (block_at fuel names lines) depth left (body ++ rest) ≡ Some first
    → block_at (suc fuel) names lines depth (suc left)
    ((letters the.If ∷ (condition_lexemes condition ++ body)) ++ rest)
    ≡ branch_at (block_at fuel names lines)
    (line_of lines ((letters the.If ∷ (condition_lexemes condition ++ body)) ++ rest)) depth condition first
if_begins fuel depth left names lines condition body rest first is read =
    let ws : Spelled = condition_lexemes condition ++ (body ++ rest) in
    let spelled : (letters the.If ∷ (condition_lexemes condition ++ body)) ++ rest ≡ letters the.If ∷ ws =
    rw (append_assoc (condition_lexemes condition) body rest) refl in
    ap (block_at (suc fuel) names lines depth (suc left)) spelled
    ∙ begun_found fuel depth left names lines statement.If ws
    ∙ after_if (block_at fuel names lines) names (line_of lines (letters the.If ∷ ws)) depth left ws condition
    (body ++ rest) first (condition_law.found condition (body ++ rest) is) read
    ∙ ap (λ (us : Spelled). branch_at (block_at fuel names lines) (line_of lines us) depth condition first)
    (sym spelled)

pub alone : (go : Statements) (line depth : ℕ) (condition : Condition) (first : Passage)
    → is_next the.Else first.rest ≡ false → branch_at go line depth condition first
    ≡ put (when line condition first.block) (go depth first.left first.rest)
unfolding branch_at
alone go line depth condition first e = rw (e) refl

pub with_else : (go : Statements) (line depth : ℕ) (condition : Condition) (first second : Passage)
    → is_next the.Else first.rest ≡ true → body_at go depth first.left (drop 1 first.rest) ≡ Some second
    → branch_at go line depth condition first ≡ put (either line condition first.block second.block)
    (go depth second.left second.rest)
unfolding branch_at
with_else go line depth condition first second e f = rw (e, f) refl

module _ (all names : Names) (lines : List ℕ) (agree : Agree (length names) names all)
    (apart : AreApart (length names) names) (named : (n : ℕ) → n < length names → IsName (name_at names n)) where
  pub in_braces : (go : Statements) (depth left mid : ℕ) (b body : Block) (tail rest : Spelled) → 1 ≤ depth
      → go (depth - 1) left (block_lexemes all body ++ letters the.CloseBrace ∷ (tail ++ rest))
      ≡ Some (passed b mid (letters the.CloseBrace ∷ (tail ++ rest)))
      → body_at go depth left (braced (block_lexemes all body) tail ++ rest) ≡ Some (passed b mid (tail ++ rest))
  in_braces go depth left mid b body tail rest room e =
      ap (body_at go depth left) (braced_then _ _ _) ∙ body_found _ _ _ _ _ _ _ room e

  pub block_found : (b : Block) (fuel depth left new : ℕ) (rest : Spelled) → IsInBounds (length names) depth b
      → counted b + new ≡ left → left < fuel → stops rest ≡ true
      → block_at fuel names lines depth left (block_lexemes all b ++ rest)
      ≡ Some (passed (lined all lines b rest) new rest)
  unfolding block_at statement_from
  block_found b zero depth left new rest f c lt h = absurd (omega (arith, lt))
  block_found nothing (suc fuel) depth left new rest f c lt h = let e : left ≡ new = omega (arith, c) in rw (h, e) refl
  block_found (basic line act r) (suc fuel) depth (suc left) new rest f c lt h =
      let later = block_found r fuel depth left new rest f.1 (omega (arith, c)) (omega (arith, lt)) h in
      let k : StatementKeyword = statement.Act (act_first act) in
      let ws : Spelled = act_rest act ++ (block_lexemes all r ++ rest) in
      let spelled : (act_lexemes act ++ block_lexemes all r) ++ rest ≡ letters (act_keyword (act_first act)) ∷ ws =
      cc (append_assoc (act_lexemes act) (block_lexemes all r) rest, act_begins act) in
      let here = (act_law (act_first act)).found act (block_lexemes all r ++ rest) (f.0, refl) (is_past all r rest h) in
      ap (block_at (suc fuel) names lines depth (suc left)) spelled ∙ begun_found fuel depth left names lines k ws
      ∙ after_act (block_at fuel names lines) names (line_of lines (letters (act_keyword (act_first act)) ∷ ws))
      depth left (act_first act) ws act (block_lexemes all r ++ rest) here
      ∙ ap (λ (us : Spelled). put (basic (line_of lines us) act)
      (block_at fuel names lines depth left (block_lexemes all r ++ rest))) (sym spelled)
      ∙ ap (put (basic (line_of lines ((act_lexemes act ++ block_lexemes all r) ++ rest)) act)) later
  block_found (stop line r) (suc fuel) depth (suc left) new rest f c lt h =
      let later = block_found r fuel depth left new rest f (omega (arith, c)) (omega (arith, lt)) h in
      begun_found fuel depth left names lines statement.End _ ∙ ap (put (stop _)) later
  block_found (apply line number block r) (suc fuel) depth (suc left) new rest f c lt h =
      let later = block_found r fuel depth left new rest f.1 (omega (arith, c)) (omega (arith, lt)) h in
      let vs : Spelled = block_lexemes all r ++ rest in
      let here = ap (λ (w : List ℕ). applied_at names (w ∷ vs)) (sym (agree number f.0))
      ∙ applied_found names number vs apart f.0 (named number f.0) in
      begun_found fuel depth left names lines statement.Apply _
      ∙ after_apply (block_at fuel names lines) names _ depth left number _ vs here
      ∙ ap (put (apply _ number nothing)) later
  block_found (forever line body r) (suc fuel) depth (suc left) new rest f c lt h =
      let vs : Spelled = block_lexemes all r ++ rest in
      let mid : ℕ = counted r + new in
      let one = block_found body fuel (depth - 1) left mid (letters the.CloseBrace ∷ vs) f.1 (omega (arith, c))
      (omega (arith, lt)) (closing_stops vs) in
      begun_found fuel depth left names lines statement.Forever _
      ∙ after_forever (block_at fuel names lines) names _ depth left _ _
      (in_braces (block_at fuel names lines) depth left mid _ body (block_lexemes all r) rest f.0 one)
      ∙ ap (put (forever _ _)) (block_found r fuel depth mid new rest f.2 refl (omega (arith, c, lt)) h)
  block_found (repeat line times body r) (suc fuel) depth (suc left) new rest f c lt h =
      let vs : Spelled = block_lexemes all r ++ rest in
      let mid : ℕ = counted r + new in
      let one = block_found body fuel (depth - 1) left mid (letters the.CloseBrace ∷ vs) f.3 (omega (arith, c))
      (omega (arith, lt)) (closing_stops vs) in
      begun_found fuel depth left names lines statement.Repeat _
      ∙ after_repeat (block_at fuel names lines) names _ depth left _ times _ _ (times_law.found times _ (f.1, f.2))
      (in_braces (block_at fuel names lines) depth left mid _ body (block_lexemes all r) rest f.0 one)
      ∙ ap (put (repeat _ times _)) (block_found r fuel depth mid new rest f.4 refl (omega (arith, c, lt)) h)
  block_found (when line condition first r) (suc fuel) depth (suc left) new rest f c lt h =
      let vs : Spelled = block_lexemes all r ++ rest in
      let mid : ℕ = counted r + new in
      let one = block_found first fuel (depth - 1) left mid (letters the.CloseBrace ∷ vs) f.2 (omega (arith, c))
      (omega (arith, lt)) (closing_stops vs) in
      let later = block_found r fuel depth mid new rest f.3 refl (omega (arith, c, lt)) h in
      if_begins _ _ _ _ _ _ _ _ _ f.1 (in_braces _ _ _ _ _ _ _ _ f.0 one) ∙ alone (block_at fuel names lines) _ depth
      condition _ (never_next _ _ _ _ refl (λ e. cc) h) ∙ ap (put (when _ condition _)) later
  block_found (either line condition first second r) (suc fuel) depth (suc left) new rest f c lt h =
      let vs : Spelled = block_lexemes all r ++ rest in
      let tail : Spelled = letters the.Else ∷ braced (block_lexemes all second) (block_lexemes all r) in
      let mid : ℕ = counted r + new in
      let half : ℕ = counted second + mid in
      let one = block_found first fuel (depth - 1) left half (letters the.CloseBrace ∷ (tail ++ rest)) f.2
      (omega (arith, c)) (omega (arith, lt)) (closing_stops (tail ++ rest)) in
      let two = block_found second fuel (depth - 1) half mid (letters the.CloseBrace ∷ vs) f.3 refl
      (omega (arith, c, lt)) (closing_stops vs) in
      let later = block_found r fuel depth mid new rest f.4 refl (omega (arith, c, lt)) h in
      if_begins _ _ _ _ _ _ _ _ _ f.1 (in_braces _ _ _ _ _ _ _ _ f.0 one) ∙ with_else _ _ _ _ _ _ (next_itself _ _)
      (in_braces _ _ _ _ _ _ _ _ f.0 two) ∙ ap (put (either _ condition _ _)) later
  block_found _ (suc fuel) depth zero new rest f c lt h = absurd (omega (arith, c))
