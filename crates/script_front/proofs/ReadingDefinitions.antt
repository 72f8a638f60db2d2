-- The reading of definitions: what is read is spelled so, on its lines, and what is spelled so is read.
use Rattle.script_front.proofs.Words.{[], ◌++◌, ◌+◌, ◌<◌, ◌>>=◌, ◌∙◌, ◌∷◌, ◌≡◌, ◌≢◌, ◌≤◌, All, All-push, AllFit}
use Rattle.script_front.proofs.Words.{AreNamedApart, Block, Bool, Defined, DefinedOn, Global, Input, IsInBounds, IsName}
use Rattle.script_front.proofs.Words.{List, None, Option, Passage, ReadsDefinition, ReadsDefinitions, Some, Spelled}
use Rattle.script_front.proofs.Words.{Statement, Vec, after_blocks, all_pairs_push, ap, append-nil, append_assoc, arith}
use Rattle.script_front.proofs.Words.{bind_some, block_at, block_lexemes, block_of, bodies, body_at, braced, bytes_eq}
use Rattle.script_front.proofs.Words.{bytes_eq-Decides, counted, counted_in, defined_lexemes, drop, false, finish}
use Rattle.script_front.proofs.Words.{if◌then◌else◌, is_next, length, length-append, letters, lt-ltb, map, name_at}
use Rattle.script_front.proofs.Words.{name_next, new_if, next_begins, next_itself, position, position_or_len, refl}
use Rattle.script_front.proofs.Words.{said_by, slice_index_or, subst, suc, sym, true, unlined, values_are_read, zero, ℕ}
use Rattle.script_front.specs.BlockReader.{new_name_at, definition_at, definitions_at}
use Rattle.script_tokens.specs.declared.keyword.Keyword.TheVariants as the
use Rattle.script_front.proofs.ReadingBlocks.{Names, Agree, passed, closed, body_given, block_given}
use Rattle.script_front.proofs.FoundBlocks.{no_number, AreApart, lined, lined_is, lined_unlined, plain, closing_stops}
use Rattle.script_front.proofs.FoundBlocks.{in_braces, block_found}

-- ---- names

pub name_front : (names more : Names) → Agree (length names) names (names ++ more)
name_front [] more n lt = absurd (omega arith)
name_front (x ∷ names) more zero lt = refl
name_front (x ∷ names) more (suc n) lt = name_front names more n (omega arith)

pub name_mid : (names : Names) (n : List ℕ) (ns : Names) → name_at (names ++ n ∷ ns) (length names) ≡ n
name_mid [] n ns = refl
name_mid (x ∷ names) n ns = name_mid names n ns

pub one_longer : (names : Names) (n : List ℕ) → length (names ++ n ∷ []) ≡ length names + 1
one_longer names n = length-append names (n ∷ [])

-- the first names are as all are
pub agrees : (all names later : Names) → all ≡ names ++ later → Agree (length names) names all
agrees all names later front n lt = rw (front) (name_front names later n lt)

pub apart_of : (all names later : Names) → all ≡ names ++ later → AreNamedApart all → AreApart (length names) names
apart_of all names later front different k n less lt e =
    let agree = agrees all names later front in
    let whole = length-append names later in
    let whole' = ap length front in
    different k n [] less (omega (arith, lt, whole, whole')) (sym (agree k (omega (arith, less, lt))) ∙ e ∙ agree n lt)

pub named_of : (all names later : Names) → all ≡ names ++ later → All IsName all → (n : ℕ) → n < length names
    → IsName (name_at names n)
named_of all names later front named n lt =
    let whole = length-append names later in
    subst IsName (sym (agrees all names later front n lt)) (named n [] (omega (arith, lt, whole, ap length front)))

-- ---- one definition

pub record IsNewName (names : Names) (ws : Spelled) (x : List ℕ × Spelled) : Type 0 where
  pub named : IsName x.0
  pub absent : All (λ other. other ≢ x.0) names
  pub spelled : ws ≡ x.0 ∷ x.1

within : (names : Names) (w : List ℕ) (k : ℕ) (d : List ℕ) → k < length names → slice_index_or names k d ≡ w
    → position_or_len (bytes_eq w) names ≤ k
within [] w k d lt e = absurd (omega (arith, lt))
within (x ∷ names) w zero d lt e = let f = (bytes_eq-Decides w x).1 (sym e) in rw (f) (omega arith)
within (x ∷ names) w (suc k) d lt e = chosen (bytes_eq w x) refl (within names w k d (omega (arith, lt)) e)
  where
    chosen : (b : Bool) → bytes_eq w x ≡ b → position_or_len (bytes_eq w) names ≤ k
        → position_or_len (bytes_eq w) (x ∷ names) ≤ suc k
    chosen true is h = rw (is) (omega arith)
    chosen false is h = rw (is) (omega (arith, h))

absent_all : (names : Names) (w : List ℕ) → position (bytes_eq w) names ≡ None → All (λ other. other ≢ w) names
absent_all names w none k d lt e =
    let some : position (bytes_eq w) names ≡ Some (position_or_len (bytes_eq w) names) =
    rw (lt-ltb (position_or_len (bytes_eq w) names) (length names) (omega (arith, within names w k d lt e, lt))) refl in
    let f : None ≡ Some (position_or_len (bytes_eq w) names) = sym none ∙ some in absurd cc

pub new_name_given : (names : Names) (ws : Spelled) (x : List ℕ × Spelled) → new_name_at names ws ≡ Some x
    → IsNewName names ws x
unfolding new_name_at
new_name_given names ws x e =
    let a = bind_some (name_next ws) _ x e in
    let g = values_are_read.names.given ws a.x a.first in
    chosen a.x g (position (bytes_eq a.x.0) names) refl a.second
  where
    chosen : (name : List ℕ × Spelled) → IsName name.0 × (ws ≡ name.0 ∷ name.1) → (r : Option ℕ)
        → position (bytes_eq name.0) names ≡ r → new_if r name ≡ Some x → IsNewName names ws x
    chosen name g None is f = finish (IsNewName names ws) name x f
        (record { named = g.0; absent = absent_all names name.0 is; spelled = g.1 })
    chosen name g (Some n) is f = absurd cc

pub new_name_found : (names : Names) (name : List ℕ) (rest : Spelled) → IsName name
    → ((k : ℕ) → k < length names → name_at names k ≢ name) → new_name_at names (name ∷ rest) ≡ Some (name, rest)
unfolding new_name_at
new_name_found names name rest named absent =
    rw (values_are_read.names.found name rest named, no_number names name absent) refl

-- ---- what is read

pub record AreDefinitionsRead (room : ℕ) (names : Names) (lines : List ℕ) (left : ℕ) (ws : Spelled) (d : Defined)
    (bs : List (List Statement)) : Type 0 where
  pub later : Names
  pub front : d.names ≡ names ++ later
  pub named : All IsName d.names
  pub different : AreNamedApart d.names
  pub each : length later ≡ length bs
  pub few : length bs ≤ room
  pub fit : AllFit (length names) bs
  pub counts : counted_in bs + d.left ≡ left
  pub spelled : ws ≡ defined_lexemes d.names (length names) bs ++ d.rest
  pub lined : DefinedOn d.names lines (length names) bs d.rest

none_defined : (room : ℕ) (names : Names) (lines : List ℕ) (left : ℕ) (ws : Spelled) (d : Defined)
    (bs : List (List Statement)) → All IsName names → AreNamedApart names
    → Some (let q : Defined = record { names = names; blocks = []; left = left; rest = ws } in q) ≡ Some d
    → d.blocks ≡ map (block_of []) bs → AreDefinitionsRead room names lines left ws d bs
none_defined room names lines left ws d [] named different e is =
    finish (λ x. AreDefinitionsRead room names lines left ws x []) _ d e
    (record {
      later = [];
      front = sym (append-nil names);
      named = named;
      different = different;
      each = refl;
      few = omega arith;
      fit = tt;
      counts = omega arith;
      spelled = refl;
      lined = tt;
    })
none_defined room names lines left ws d (b ∷ bs) named different e is = let f =
    finish (λ x. x.blocks ≡ []) _ d e refl in absurd cc

record Later (b : Block) (r : Option Defined) (d : Defined) : Type 0 where
  more : Defined
  read : r ≡ Some more
  is : Some (let q : Defined = record {
    names = more.names;
    blocks = b ∷ more.blocks;
    left = more.left;
    rest = more.rest;
  } in q) ≡ Some d

later_some : (b : Block) (r : Option Defined) (d : Defined) → after_blocks (b ∷ []) r ≡ Some d → Later b r d
later_some b None d e = absurd cc
later_some b (Some q) d e = record { more = q; read = refl; is = e }

-- a definition, and those after it
one_defined : (room : ℕ) (names : Names) (lines : List ℕ) (left : ℕ) (ws : Spelled) (name : List ℕ) (p : Passage)
    (more : Defined) (x : List Statement) (xs : List (List Statement))
    → is_next the.Define ws ≡ true → definition_at names lines left (drop 1 ws) ≡ Some (name, p)
    → p.block ≡ block_of [] x
    → AreDefinitionsRead room (names ++ name ∷ []) lines p.left p.rest more xs
    → AreDefinitionsRead (suc room) names lines left ws
    (record { names = more.names; blocks = p.block ∷ more.blocks; left = more.left; rest = more.rest }) (x ∷ xs)
unfolding definition_at
one_defined room names lines left ws name p more x xs next e is h =
    let a = bind_some (new_name_at names (drop 1 ws)) _ (name, p) e in
    let n = new_name_given names (drop 1 ws) a.x a.first in
    let b = bind_some (body_at (block_at (suc left) names lines) 16 left a.x.1) _ (name, p) a.second in
    let same : a.x.0 ≡ name = finish (λ y. a.x.0 ≡ y.0) (a.x.0, b.x) (name, p) b.second refl in
    let front : more.names ≡ names ++ name ∷ h.later = h.front ∙ append_assoc names (name ∷ []) h.later in
    let agree = agrees more.names names (name ∷ h.later) front in
    let g = body_given _ names lines agree (block_at (suc left) names lines) (block_given _ names lines agree _) 16
    left a.x.1 p (b.first ∙ ap (λ (q : Passage). Some q) (finish (λ y. b.x ≡ y.1) _ _ b.second refl)) in
    let later : p.rest ≡ defined_lexemes more.names (length names + 1) xs ++ more.rest =
    rw (← one_longer names name) h.spelled in
    let whole = closed _ _ more.rest p.rest a.x.1 (rw (← is) g.spelled) later in
    record {
      later = name ∷ h.later;
      front = front;
      named = h.named;
      different = h.different;
      each = (let c = h.each in omega (arith, c));
      few = (let c = h.few in omega (arith, c));
      fit = (
        rw (← is) g.fits,
        rw (← one_longer names name) h.fit,
      );
      counts = (let c = h.counts in let d = g.counts in let f = ap counted is in omega (arith, c, d, f));
      spelled = next_begins the.Define ws next ∙ ap (λ (us : Spelled). letters the.Define ∷ us)
          (n.spelled ∙ ap (λ (w : List ℕ). w ∷ a.x.1) (same ∙ sym (rw (front) (name_mid names name h.later)))
          ∙ ap (λ (us : Spelled). name_at more.names (length names) ∷ us) whole);
      lined = (rw (← later) (rw (← is) g.lined), rw (← one_longer names name) h.lined);
    }

name_new : (names : Names) (lines : List ℕ) (left : ℕ) (ws : Spelled) (x : List ℕ × Passage)
    → definition_at names lines left ws ≡ Some x → IsName x.0 × All (λ other. other ≢ x.0) names
unfolding definition_at
name_new names lines left ws x e =
    let a = bind_some (new_name_at names ws) _ x e in
    let n = new_name_given names ws a.x a.first in
    let b = bind_some (body_at (block_at (suc left) names lines) 16 left a.x.1) _ x a.second in
    finish (λ y. IsName y.0 × All (λ other. other ≢ y.0) names) (a.x.0, b.x) x b.second (n.named, n.absent)

pub definitions_given : (room : ℕ) (names : Names) (lines : List ℕ) (left : ℕ) (ws : Spelled) (d : Defined)
    (bs : List (List Statement)) → All IsName names → AreNamedApart names
    → definitions_at room names lines left ws ≡ Some d → d.blocks ≡ map (block_of []) bs
    → AreDefinitionsRead room names lines left ws d bs
unfolding definitions_at
definitions_given zero names lines left ws d bs named different e is = chosen (is_next the.Define ws) e
  where
    chosen : (b : Bool) → if◌then◌else◌ {A = Option Defined} b None
        (Some (record { names = names; blocks = []; left = left; rest = ws })) ≡ Some d
        → AreDefinitionsRead 0 names lines left ws d bs
    chosen true f = absurd cc
    chosen false f = none_defined 0 names lines left ws d bs named different f is
definitions_given (suc room) names lines left ws d bs named different e is =
    chosen (definitions_given room) (is_next the.Define ws) refl e
  where
    Given : Type 0
    Given = (ns : Names) (ls : List ℕ) (l : ℕ) (vs : Spelled) (q : Defined) (cs : List (List Statement)) → All IsName ns
        → AreNamedApart ns → definitions_at room ns ls l vs ≡ Some q → q.blocks ≡ map (block_of []) cs
        → AreDefinitionsRead room ns ls l vs q cs

    one : Given → (x : List ℕ × Passage) → is_next the.Define ws ≡ true
        → definition_at names lines left (drop 1 ws) ≡ Some x → (more : Defined)
        → definitions_at room (names ++ x.0 ∷ []) lines x.1.left x.1.rest ≡ Some more
        → (cs : List (List Statement)) → x.1.block ∷ more.blocks ≡ map (block_of []) cs
        → AreDefinitionsRead (suc room) names lines left ws
        (record { names = more.names; blocks = x.1.block ∷ more.blocks; left = more.left; rest = more.rest }) cs
    one given x next f more g [] same = absurd cc
    one given x next f more g (c ∷ cs) same = (
        let first : x.1.block ≡ block_of [] c = cc in
        let others : more.blocks ≡ map (block_of []) cs = cc in
        let n = name_new names lines left (drop 1 ws) x f in
        one_defined room names lines left ws x.0 x.1 more c cs next f first
        (given (names ++ x.0 ∷ []) lines x.1.left x.1.rest more cs (All-push IsName names x.0 named n.0)
        (all_pairs_push (λ one other. one ≢ other) names x.0 different n.1) g others)
        )

    chosen : Given → (b : Bool) → is_next the.Define ws ≡ b
        → if◌then◌else◌ {A = Option Defined} b (definition_at names lines left (drop 1 ws)
        >>= λ x. after_blocks (x.1.block ∷ []) (definitions_at room (names ++ x.0 ∷ []) lines x.1.left x.1.rest))
        (Some (record { names = names; blocks = []; left = left; rest = ws })) ≡ Some d
        → AreDefinitionsRead (suc room) names lines left ws d bs
    chosen given false next f = none_defined (suc room) names lines left ws d bs named different f is
    chosen given true next f = (
        let a = bind_some (definition_at names lines left (drop 1 ws)) _ d f in
        let l = later_some a.x.1.block _ d a.second in
        let same : a.x.1.block ∷ l.more.blocks ≡ map (block_of []) bs =
        finish (λ q. q.blocks ≡ map (block_of []) bs → a.x.1.block ∷ l.more.blocks ≡ map (block_of []) bs) _ d l.is
        (λ h. h) is in
        finish (λ q. AreDefinitionsRead (suc room) names lines left ws q bs) _ d l.is
        (one given a.x next a.first l.more l.read bs same)
        )

-- ---- steps

one_step : (room : ℕ) (names : Names) (lines : List ℕ) (left : ℕ) (ws : Spelled) (name : List ℕ) (p : Passage)
    → is_next the.Define ws ≡ true → definition_at names lines left (drop 1 ws) ≡ Some (name, p)
    → definitions_at (suc room) names lines left ws ≡ after_blocks (p.block ∷ [])
    (definitions_at room (names ++ name ∷ []) lines p.left p.rest)
unfolding definitions_at
one_step room names lines left ws name p next e = rw (next, e) refl

no_step : (room : ℕ) (names : Names) (lines : List ℕ) (left : ℕ) (ws : Spelled) → is_next the.Define ws ≡ false
    → definitions_at room names lines left ws ≡ Some (record { names = names; blocks = []; left = left; rest = ws })
unfolding definitions_at
no_step zero names lines left ws none = rw (none) refl
no_step (suc room) names lines left ws none = rw (none) refl

stuck : (room : ℕ) (names : Names) (lines : List ℕ) (left : ℕ) (ws : Spelled) → 1 ≤ room → is_next the.Define ws ≡ true
    → definition_at names lines left (drop 1 ws) ≡ None → definitions_at room names lines left ws ≡ None
unfolding definitions_at
stuck zero names lines left ws some next none = absurd (omega (arith, some))
stuck (suc room) names lines left ws some next none = rw (next, none) refl

-- ---- what is spelled

-- the blocks on the lines of their tokens, where `after` follows the definitions
abbrev pub defined_on : Names → List ℕ → ℕ → List (List Statement) → Spelled → List Block
defined_on names lines number [] after = []
defined_on names lines number (b ∷ bs) after =
    lined names lines (block_of [] b) (letters the.CloseBrace ∷ (defined_lexemes names (number + 1) bs ++ after))
    ∷ defined_on names lines (number + 1) bs after

pub defined_same : (names : Names) (lines : List ℕ) (number : ℕ) (bs : List (List Statement)) (after : Spelled)
    → DefinedOn names lines number bs after → defined_on names lines number bs after ≡ map (block_of []) bs
defined_same names lines number [] after h = refl
defined_same names lines number (b ∷ bs) after h =
    let one = lined_is _ _ _ _ (plain _) h.0 in
    let others = defined_same names lines (number + 1) bs after h.1 in cc

pub defined_said : (names : Names) (lines : List ℕ) (number : ℕ) (bs : List (List Statement)) (after : Spelled)
    → map unlined (defined_on names lines number bs after) ≡ map said_by bs
defined_said names lines number [] after = refl
defined_said names lines number (b ∷ bs) after =
    let one = lined_unlined names lines (block_of [] b)
    (letters the.CloseBrace ∷ (defined_lexemes names (number + 1) bs ++ after)) in
    let others = defined_said names lines (number + 1) bs after in cc

definition_found : (all names later : Names) (name : List ℕ) (lines : List ℕ) (left mid : ℕ) (b : List Statement)
    (bs : List (List Statement)) (rest : Spelled) → all ≡ names ++ name ∷ later → All IsName all → AreNamedApart all
    → IsInBounds (length names) 15 (block_of [] b) → counted (block_of [] b) + mid ≡ left
    → let tail : Spelled = defined_lexemes all (length names + 1) bs in
    definition_at names lines left (name ∷ (braced (block_lexemes all (block_of [] b)) tail ++ rest))
    ≡ Some (
      name,
      passed (lined all lines (block_of [] b) (letters the.CloseBrace ∷ (tail ++ rest))) mid
          (tail ++ rest),
    )
unfolding definition_at
definition_found all names later name lines left mid b bs rest front named different fits counts =
    let tail : Spelled = defined_lexemes all (length names + 1) bs in
    let agree = agrees all names (name ∷ later) front in
    let apart = apart_of all names (name ∷ later) front different in
    let mine : name_at all (length names) ≡ name = rw (front) (name_mid names name later) in
    let there : length names < length all =
    (let l = ap length front in let m = length-append names (name ∷ later) in omega (arith, l, m)) in
    let is : IsName name = subst IsName mine (named (length names) [] there) in
    let absent : (k : ℕ) → k < length names → name_at names k ≢ name =
    λ k lt e. different k (length names) [] lt there (sym (agree k lt) ∙ e ∙ sym mine) in
    let new = new_name_found names name (braced (block_lexemes all (block_of [] b)) tail ++ rest) is absent in
    let inner = block_found all names lines agree apart (named_of all names (name ∷ later) front named) (block_of [] b)
    (suc left) 15 left mid (letters the.CloseBrace ∷ (tail ++ rest)) fits counts (omega arith)
    (closing_stops (tail ++ rest)) in
    let body = in_braces all names lines agree apart (named_of all names (name ∷ later) front named)
    (block_at (suc left) names lines) 16 left mid _ (block_of [] b) tail rest (omega arith) inner in
    rw (new, body) refl

pub definitions_found : (later : Names) (all names : Names) (room : ℕ) (lines : List ℕ) (left new : ℕ)
    (bs : List (List Statement)) (rest : Spelled) → all ≡ names ++ later → All IsName all → AreNamedApart all
    → length later ≡ length bs
    → length bs ≤ room → AllFit (length names) bs → counted_in bs + new ≡ left → is_next the.Define rest ≡ false
    → definitions_at room names lines left (defined_lexemes all (length names) bs ++ rest)
    ≡ Some (record { names = all; blocks = defined_on all lines (length names) bs rest; left = new; rest = rest })
unfolding definitions_at
definitions_found [] all names room lines left new [] rest front named different each few fit counts none =
    let e : left ≡ new = omega (arith, counts) in let f : names ≡ all = sym (front ∙ append-nil names) in
    rw (e, f) (no_step room all lines new rest none)
definitions_found (n ∷ later) all names zero lines left new (b ∷ bs) rest front named different each few fit counts
    none = absurd (omega (arith, few))
definitions_found (n ∷ later) all names (suc room) lines left new (b ∷ bs) rest front named different each few fit
    counts none =
    let mid : ℕ = counted_in bs + new in
    let mine : name_at all (length names) ≡ n = rw (front) (name_mid names n later) in
    let one = definition_found all names later n lines left mid b bs rest front named different fit.0
    (omega (arith, counts)) in
    let step = one_longer names n in
    let others = definitions_found later all (names ++ n ∷ []) room lines mid new bs rest
    (front ∙ sym (append_assoc names (n ∷ []) later)) named different (omega (arith, each)) (omega (arith, few))
    (subst (λ k. AllFit k bs) (sym step) fit.1) refl none in
    let others' = subst (λ k. definitions_at room (names ++ n ∷ []) lines mid (defined_lexemes all k bs ++ rest)
    ≡ Some (record { names = all; blocks = defined_on all lines k bs rest; left = new; rest = rest })) step
    others in
    rw (next_itself _ _, mine, one, others') refl
definitions_found _ all names room lines left new _ rest front named different each few fit counts none =
    absurd (omega (arith, each))

-- ---- one definition after another

-- the definitions that were read, in front of those that are read from here
pub record GoesOn (names : Names) (old left : ℕ) (before now : Input) (blocks : List (Vec Statement Global)) : Type
    0 where
  pub room : ℕ
  pub fills : length blocks + room ≡ 64
  pub each : length names ≡ length blocks
  pub read : definitions_at 64 [] before.lines old before.lexemes
      ≡ after_blocks (map (block_of []) (bodies blocks)) (definitions_at room names before.lines left now.lexemes)
  pub same : now.lines ≡ before.lines

after_none : (r : Option Defined) → r ≡ after_blocks [] r
after_none None = refl
after_none (Some d) = refl

pub begins_on : (left : ℕ) (i : Input) → GoesOn [] left left i i []
begins_on left i = record {
  room = 64;
  fills = refl;
  each = refl;
  read = after_none (definitions_at 64 [] i.lines left i.lexemes);
  same = refl;
}

after_both : (bs : List (Vec Statement Global)) (b : Vec Statement Global) (r : Option Defined)
    → after_blocks (map (block_of []) (bodies bs)) (after_blocks (block_of [] b.items ∷ []) r)
    ≡ after_blocks (map (block_of []) (bodies (bs ++ b ∷ []))) r
after_both bs b None = refl
after_both bs b (Some d) =
    ap (λ (xs : List Block). Some (let q : Defined = record d { blocks = xs } in q))
    (sym (append_assoc (map (block_of []) (bodies bs)) (block_of [] b.items ∷ []) d.blocks)
    ∙ ap (λ (xs : List Block). xs ++ d.blocks) (sym (more bs)))
  where
    more : (bs : List (Vec Statement Global)) → map (block_of []) (bodies (bs ++ b ∷ []))
        ≡ map (block_of []) (bodies bs) ++ block_of [] b.items ∷ []
    more [] = refl
    more (x ∷ bs) = ap (λ (xs : List Block). block_of [] x.items ∷ xs) (more bs)

pub goes_on : (names more : Names) (old left new : ℕ) (i j k : Input) (bs cs : List (Vec Statement Global))
    (b : Vec Statement Global) → cs ≡ bs ++ b ∷ [] → length bs < 64 → is_next the.Define j.lexemes ≡ true
    → ReadsDefinition names more left new j k (block_of [] b.items) → GoesOn names old left i j bs
    → GoesOn more old new i k cs
goes_on names more old left new i j k bs cs b is few next d h = further h.room h.fills h.read
  where
    further : (room : ℕ) → length bs + room ≡ 64 → definitions_at 64 [] i.lines old i.lexemes
        ≡ after_blocks (map (block_of []) (bodies bs)) (definitions_at room names i.lines left j.lexemes)
        → GoesOn more old new i k cs
    further zero fills read = absurd (omega (arith, fills, few))
    further (suc room) fills read = record {
      room = room;
      fills = (let l = ap length is in let m = length-append bs (b ∷ []) in omega (arith, l, m, fills));
      each = (let l = ap length is in let m = length-append bs (b ∷ []) in let n = ap length d.more in
          let o = one_longer names d.name in let e = h.each in omega (arith, l, m, n, o, e));
      read = read ∙ ap (after_blocks (map (block_of []) (bodies bs)))
          (one_step room names i.lines left j.lexemes d.name _ next
          (ap (λ (ls : List ℕ). definition_at names ls left (drop 1 j.lexemes)) (sym h.same) ∙ d.read))
          ∙ after_both bs b (definitions_at room (names ++ d.name ∷ []) i.lines new k.lexemes)
          ∙ ap (λ (xs : List (Vec Statement Global)). after_blocks (map (block_of []) (bodies xs))
          (definitions_at room (names ++ d.name ∷ []) i.lines new k.lexemes)) (sym is)
          ∙ ap (λ (ns : Names). after_blocks (map (block_of []) (bodies cs))
          (definitions_at room ns i.lines new k.lexemes)) (sym d.more);
      same = d.same ∙ h.same;
    }

pub all_read : (names : Names) (old left : ℕ) (i j : Input) (bs : List (Vec Statement Global))
    → is_next the.Define j.lexemes ≡ false → GoesOn names old left i j bs → ReadsDefinitions names old left i j bs
all_read names old left i j bs none h = record {
  read = h.read ∙ ap (after_blocks (map (block_of []) (bodies bs))) (no_step h.room names i.lines left j.lexemes none)
      ∙ ap (λ (xs : List Block).
      Some (let q : Defined = record { names = names; blocks = xs; left = left; rest = j.lexemes } in q))
      (append-nil (map (block_of []) (bodies bs)));
  same = h.same;
  few = (let f = h.fills in omega (arith, f));
  each = h.each;
}

pub no_room : (names : Names) (old left : ℕ) (i j : Input) (bs : List (Vec Statement Global)) → length bs ≡ 64
    → is_next the.Define j.lexemes ≡ true → GoesOn names old left i j bs
    → definitions_at 64 [] i.lines old i.lexemes ≡ None
unfolding definitions_at
no_room names old left i j bs full next h = let e : h.room ≡ 0 = (let f = h.fills in omega (arith, f, full)) in
    h.read ∙ rw (e, next) refl

pub none_next : (names : Names) (old left : ℕ) (i j : Input) (bs : List (Vec Statement Global)) → length bs < 64
    → is_next the.Define j.lexemes ≡ true → definition_at names j.lines left (drop 1 j.lexemes) ≡ None
    → GoesOn names old left i j bs
    → definitions_at 64 [] i.lines old i.lexemes ≡ None
none_next names old left i j bs few next none h =
    h.read ∙ ap (after_blocks (map (block_of []) (bodies bs)))
    (stuck h.room names i.lines left j.lexemes (let f = h.fills in omega (arith, f, few)) next
    (ap (λ (ls : List ℕ). definition_at names ls left (drop 1 j.lexemes)) (sym h.same) ∙ none))
