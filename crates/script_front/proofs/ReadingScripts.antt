-- The reading of a script: what is read is the content of the script that the tokens spell. So tokens are those of one
-- script, apart from lines, and a text is that of one script.
use Rattle.script_front.proofs.Words.{[], ◌++◌, ◌+◌, ◌-◌, ◌∙◌, ◌∷◌, ◌≡◌, All, All-nil, AreNamedApart, AreTokens}
use Rattle.script_front.proofs.Words.{Block, BlockOn, Content, DefinedOn, HasLines, Input, IsInBounds, IsItem, IsName}
use Rattle.script_front.proofs.Words.{IsNoScript, IsPlan, IsScript, Item, ItemsOn, List, None, ScriptsAreRead}
use Rattle.script_front.proofs.Words.{ScriptsHaveTheirOwnTokens, Some, Spelled, SpellsTree, Statement}
use Rattle.script_front.proofs.Words.{TextsAreOfOneScript, Token, Tree, added_by, after, after_begins, after_itself, ap}
use Rattle.script_front.proofs.Words.{append-nil, append_assoc, arith, at_end, begin_lexemes, bind_some, block_at}
use Rattle.script_front.proofs.Words.{block_lexemes, block_of, content_of, counted, counted_in, defined_lexemes}
use Rattle.script_front.proofs.Words.{definitions_at, edit_keyword, edit_lexemes, false, finish, first_item}
use Rattle.script_front.proofs.Words.{first_position, header_at, header_lexemes, is_next, item_found, items_at}
use Rattle.script_front.proofs.Words.{items_lexemes, length, letters, lexemes_of, line_of, line_of_left, lines_of, map}
use Rattle.script_front.proofs.Words.{other_next, refl, subst, suc, sym, tokens_of, tree_lexemes, unlined, ℕ}
use Rattle.script_front.specs.BlockReader.{stops, script_at}
use Rattle.script_tokens.specs.declared.keyword.Keyword.TheVariants as the
use Rattle.script_tokens.specs.declared.first_keyword.StatementKeyword.TheVariants as statement
use Rattle.script_tokens.specs.declared.first_keyword.ActKeyword.TheVariants as act
use Rattle.script_front.proofs.Denoting.{are_tokens, are_its_tokens, denoted_words}
use Rattle.script_front.proofs.Readings.{edit_first, edit_begins}
use Rattle.script_front.proofs.ReadingHeaders.{header_given, header_found}
use Rattle.script_front.proofs.ReadingItems.{items_given, items_found, items_on, on_same, on_added}
use Rattle.script_front.proofs.ReadingBlocks.{Names, block_given}
use Rattle.script_front.proofs.FoundBlocks.{differs, lined, lined_is, lined_unlined, plain, block_found}
use Rattle.script_front.proofs.ReadingDefinitions.{apart_of, named_of, definitions_given, definitions_found, defined_on}
use Rattle.script_front.proofs.ReadingDefinitions.{defined_same, defined_said}

-- ---- what is read

no_words : (names : Names) (b : Block) → block_lexemes names b ++ [] ≡ block_lexemes names b
no_words names b = append-nil (block_lexemes names b)

ended : (c d : Content) (ws : Spelled) → at_end c ws ≡ Some d → (ws ≡ []) × (c ≡ d)
ended c d [] e = (refl, finish (λ x. c ≡ x) c d e refl)
ended c d (w ∷ ws) e = absurd cc

pub script_given : (i : Input) (t : Tree) → script_at i ≡ Some (content_of t) → IsScript t × SpellsTree t i
unfolding script_at
script_given i t e =
    let h = bind_some (header_at i.lexemes) _ (content_of t) e in
    let fh = header_given i.lexemes h.x h.first in
    let m = bind_some (items_at 8192 i.lines h.x.1) _ (content_of t) h.second in
    let fm = items_given 8192 i.lines h.x.1 m.x m.first in
    let d = bind_some (definitions_at 64 [] i.lines m.x.left m.x.rest) _ (content_of t) m.second in
    let b = bind_some (after the.Begin d.x.rest) _ (content_of t) d.second in
    let begins = after_begins the.Begin d.x.rest b.x b.first in
    let r = bind_some (block_at (suc d.x.left) d.x.names i.lines 16 d.x.left b.x) _ (content_of t) b.second in
    let last = ended _ (content_of t) r.x.rest r.second in
    let header : h.x.0 ≡ t.header = ap (λ (c : Content). c.header) last.1 in
    let items : m.x.items ≡ t.items = ap (λ (c : Content). c.items) last.1 in
    let names : d.x.names ≡ t.names = ap (λ (c : Content). c.names) last.1 in
    let blocks : d.x.blocks ≡ map (block_of []) t.blocks = ap (λ (c : Content). c.blocks) last.1 in
    let run : r.x.block ≡ block_of [] t.statements = ap (λ (c : Content). c.statements) last.1 in
    let fd = definitions_given 64 [] i.lines m.x.left m.x.rest d.x t.blocks (All-nil IsName)
    (λ i j d lt within. absurd (omega (arith, within))) d.first blocks in
    let fr = block_given d.x.names d.x.names i.lines (λ n lt. refl) (suc d.x.left) 16 d.x.left b.x r.x r.first in
    let few : length d.x.names ≡ length t.blocks = ap length fd.front ∙ fd.each in
    let body : d.x.rest ≡ begin_lexemes t = rw (begins, fr.spelled, last.0, no_words d.x.names r.x.block, run, names) in
    let later : m.x.rest ≡ defined_lexemes t.names 0 t.blocks ++ begin_lexemes t =
    fd.spelled ∙ ap (λ (ns : Names). defined_lexemes ns 0 t.blocks ++ d.x.rest) names
    ∙ ap (λ (ws : Spelled). defined_lexemes t.names 0 t.blocks ++ ws) body in (
      record {
        headed = subst IsPlan header fh.0;
        adding = subst (All IsItem) items fm.formed;
        named = subst (All IsName) names fd.named;
        different = subst AreNamedApart names fd.different;
        defined = ap length (sym names) ∙ few;
        few_blocks = fd.few;
        blocks_fit = fd.fit;
        fits = rw (← run) (rw (← few) fr.fits);
        few = (let x = fm.counts in let y = fd.counts in let z = fr.counts in let u = ap counted run in
            let v = ap length items in omega (arith, x, y, z, u, v));
      },
      record {
        spells = fh.1 ∙ ap (λ p. header_lexemes p ++ h.x.1) header
            ∙ ap (λ (ws : Spelled). header_lexemes t.header ++ ws) (
            fm.spelled ∙ ap (λ (xs : List Item). items_lexemes xs ++ m.x.rest) items
            ∙ ap (λ (ws : Spelled). items_lexemes t.items ++ ws) later);
        lined = record {
          items = subst (λ (ws : Spelled). ItemsOn i.lines t.items ws) later
              (subst (λ (xs : List Item). ItemsOn i.lines xs m.x.rest) items fm.lined);
          blocks = subst (λ (ws : Spelled). DefinedOn t.names i.lines 0 t.blocks ws) body
              (subst (λ (ns : Names). DefinedOn ns i.lines 0 t.blocks d.x.rest) names fd.lined);
          begin = sym (ap (λ (c : Content). c.begin_line) last.1) ∙ ap (line_of i.lines) body;
          statements = subst (λ (ns : Names). BlockOn ns i.lines (block_of [] t.statements) []) names
              (subst (λ c. BlockOn d.x.names i.lines c []) run
              (subst (λ (ws : Spelled). BlockOn d.x.names i.lines r.x.block ws) last.0 fr.lined));
          last = sym (ap (λ (c : Content). c.last_line) last.1);
        };
      },
    )

-- ---- what is spelled

abbrev after_items : Tree → Spelled
after_items t = defined_lexemes t.names 0 t.blocks ++ begin_lexemes t

no_item : (names : Names) (n : ℕ) (blocks : List (List Statement)) (ws : Spelled)
    → first_item (defined_lexemes names n blocks ++ letters the.Begin ∷ ws) ≡ None
no_item names n [] ws = item_found the.Begin ws
no_item names n (b ∷ bs) ws = item_found the.Define _

no_reserve : (names : Names) (n : ℕ) (blocks : List (List Statement)) (ws : Spelled)
    → is_next the.Reserve (defined_lexemes names n blocks ++ letters the.Begin ∷ ws) ≡ false
no_reserve names n [] ws = other_next the.Begin the.Reserve ws (λ e. cc)
no_reserve names n (b ∷ bs) ws = other_next the.Define the.Reserve _ (λ e. cc)

-- no item begins with `reserve`
pub ends_header : (is : List Item) (later : Spelled) → is_next the.Reserve later ≡ false
    → is_next the.Reserve (items_lexemes is ++ later) ≡ false
ends_header [] later h = h
ends_header (i ∷ is) later h =
    let k = statement.Act (act.Edit (edit_first i.edit)) in
    let e = append_assoc (edit_lexemes i.edit) (items_lexemes is) later
    ∙ ap (λ (ws : Spelled). ws ++ (items_lexemes is ++ later)) (edit_begins i.edit) in
    rw (e) (other_next (edit_keyword (edit_first i.edit)) the.Reserve _ (differs k the.Reserve refl))

-- the content of a tree on the lines of its tokens
abbrev content_on : List ℕ → Tree → Content
content_on lines t = record {
  header = t.header;
  items = items_on lines t.items (after_items t);
  names = t.names;
  blocks = defined_on t.names lines 0 t.blocks (begin_lexemes t);
  begin_line = line_of lines (begin_lexemes t);
  statements = lined t.names lines (block_of [] t.statements) [];
  last_line = line_of_left lines 1;
}

script_read : (i : Input) (t : Tree) → IsScript t → i.lexemes ≡ tree_lexemes t
    → script_at i ≡ Some (content_on i.lines t)
unfolding script_at stops
script_read i t is e =
    let run : ℕ = counted (block_of [] t.statements) in
    let left : ℕ = 8192 - (length t.items + (counted_in t.blocks + run)) in
    let words : Spelled = block_lexemes t.names (block_of [] t.statements) in
    let header = header_found t.header (items_lexemes t.items ++ after_items t) is.headed
    (ends_header t.items (after_items t) (no_reserve t.names 0 t.blocks words)) in
    let items = items_found t.items 8192 (counted_in t.blocks + (run + left)) i.lines (after_items t) is.adding
    (omega arith) (no_item t.names 0 t.blocks words) in
    let definitions = definitions_found t.names t.names [] 64 i.lines (counted_in t.blocks + (run + left)) (run + left)
    t.blocks (begin_lexemes t) refl is.named is.different is.defined is.few_blocks is.blocks_fit refl
    (other_next the.Begin the.Define words (λ e. cc)) in
    let whole = sym (append-nil t.names) in
    let block = block_found t.names t.names i.lines (λ n lt. refl) (apart_of t.names t.names [] whole is.different)
    (named_of t.names t.names [] whole is.named) (block_of [] t.statements) (suc (run + left)) 16 (run + left) left
    [] (subst (λ n. IsInBounds n 16 (block_of [] t.statements)) (sym is.defined) is.fits) refl (omega arith) refl in
    let block' = ap (block_at (suc (run + left)) t.names i.lines 16 (run + left)) (sym (no_words _ _)) ∙ block in
    rw (e, header, items, definitions, after_itself the.Begin words, block') refl

content_same : (lines : List ℕ) (t : Tree) → HasLines lines t → content_on lines t ≡ content_of t
content_same lines t h =
    let b = defined_same t.names lines 0 t.blocks (begin_lexemes t) h.blocks in
    let c = lined_is t.names lines (block_of [] t.statements) [] (plain t.statements) h.statements in
    rw ((on_same lines t.items (after_items t) h.items), b, c, h.begin, h.last) refl

pub scripts_are_read : ScriptsAreRead
scripts_are_read = record {
  given = script_given;
  found = λ i t is h. script_read _ _ is h.spells ∙ ap (λ (c : Content). Some c) (content_same _ _ h.lined);
}

-- ---- scripts and texts

some_content : (c d : Content) → Some c ≡ Some d → c ≡ d
some_content c d e = finish (λ x. c ≡ x) c d e refl

pub scripts_alike : ScriptsHaveTheirOwnTokens
scripts_alike s t x y e =
    let i : Input = record { lexemes = tree_lexemes s; lines = [] } in
    let same = some_content (content_on [] s) (content_on [] t) (sym (script_read i s x refl) ∙ script_read i t y e) in
    record {
      header = ap (λ (c : Content). c.header) same;
      items = sym (on_added [] s.items _) ∙ ap (λ (c : Content). added_by c.items) same ∙ on_added [] t.items _;
      names = ap (λ (c : Content). c.names) same;
      blocks = sym (defined_said s.names [] 0 s.blocks (begin_lexemes s))
          ∙ ap (λ (c : Content). map unlined c.blocks) same ∙ defined_said t.names [] 0 t.blocks (begin_lexemes t);
      statements = sym (lined_unlined s.names [] (block_of [] s.statements) [])
          ∙ ap (λ (c : Content). unlined c.statements) same ∙ lined_unlined t.names [] (block_of [] t.statements) [];
    }

pub one_script : TextsAreOfOneScript
one_script text s t x y d e =
    let tokens : List Token = tokens_of first_position d.pieces in
    let here = are_tokens text s d in
    let i : Input = record { lexemes = tree_lexemes s; lines = lines_of tokens } in
    let spells = sym (denoted_words text tokens s here d) ∙ denoted_words text tokens t here e in
    let on : HasLines (lines_of tokens) t = rw (are_its_tokens text tokens t here e) e.lined in
    let one = scripts_are_read.found i s x (record { spells = refl; lined = d.lined }) in
    let other = scripts_are_read.found i t y (record { spells = spells; lined = on }) in
    let same = some_content (content_of s) (content_of t) (sym one ∙ other) in
    record {
      header = ap (λ (c : Content). c.header) same;
      items = ap (λ (c : Content). c.items) same;
      names = ap (λ (c : Content). c.names) same;
      blocks = ap (λ (c : Content). c.blocks) same;
      begin_line = ap (λ (c : Content). c.begin_line) same;
      statements = ap (λ (c : Content). c.statements) same;
      last_line = ap (λ (c : Content). c.last_line) same;
    }

-- where nothing is read, no script has this text
pub none_spelled : (text : List ℕ) (tokens : List Token) (i : Input) → AreTokens text tokens
    → i.lexemes ≡ lexemes_of text tokens → i.lines ≡ lines_of tokens → script_at i ≡ None → IsNoScript text
none_spelled text tokens i are lexemes lines none t is s =
    let on = subst (λ (ts : List Token). HasLines (lines_of ts) t) (sym (are_its_tokens text tokens t are s)) s.lined in
    let read =
    scripts_are_read.found i t is (record { spells = lexemes ∙ denoted_words _ _ _ are s; lined = rw (lines) on }) in
    let f : None ≡ Some (content_of t) = sym none ∙ read in absurd cc
