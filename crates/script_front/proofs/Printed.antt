-- The text of a script, line by line.
use Rattle.script_front.proofs.Words.{[], ◌++◌, ◌+◌, ◌-◌, ◌<◌, ◌^◌, ◌∙◌, ◌∷◌, ◌≡◌, ◌≢◌, ◌≤◌, Act, AddComponent, Before}
use Rattle.script_front.proofs.Words.{Block, Carrier, Component, Condition, DropComponent, Global, IsPut, Item, Line}
use Rattle.script_front.proofs.Words.{List, None, Plan, Sid, Some, Sound, Spelled, Statement, Stream, Tree, Vec}
use Rattle.script_front.proofs.Words.{act_lexemes, add-one, ap, append-nil, append_assoc, apply, arith, basic, before}
use Rattle.script_front.proofs.Words.{block_lines, block_of, bodies, carried_lexemes, carrier_lexemes, closing, codes}
use Rattle.script_front.proofs.Words.{decimal, defined_lines, definition_lines, digits, drop, drop-cons, drop_all}
use Rattle.script_front.proofs.Words.{each_after, edit_lexemes, either, false, forever, format_spec, get_or}
use Rattle.script_front.proofs.Words.{header_lines, hex_byte, hex_text, if_lexemes, indent, items_lines, layout_mode}
use Rattle.script_front.proofs.Words.{length, limits_lexemes, limits_line, line, line_text, mode_lexemes, name_at}
use Rattle.script_front.proofs.Words.{nothing, padded_integral, refl, repeat, reserve_lexemes, slice_get, spaced, stop}
use Rattle.script_front.proofs.Words.{suc, sym, tree_lines, true, when, within_lexemes, zero, ℕ}
use Rattle.std.proofs.lemmas.Fmt.{decimal_digit, hex_byte as shown_byte}
use Rattle.mux_types.specs.declared.parts.Component.TheVariants.{Packet as InPackets}
use Rattle.script_tokens.specs.Keywords.{letters}
use Rattle.script_front.specs.Printing.{text_of_lines}
use Rattle.script_tokens.specs.declared.keyword.Keyword.TheVariants as the

-- ---- tokens

pub printed_byte : (n : ℕ) → n < 256 → padded_integral (format_spec 32 0 4 2 (2 ^ 64 - 1)) false [] (digits 16 true n)
    ≡ hex_byte n
printed_byte n small = shown_byte true n small

pub digit : (n : ℕ) → n < 10 → decimal n ≡ (48 + n) ∷ []
digit n small = decimal_digit n small

pub behind_both : (xs ys : Spelled) → each_after (xs ++ ys) ≡ each_after xs ++ each_after ys
behind_both [] ys = refl
behind_both (w ∷ xs) ys = rw (behind_both xs ys, ← append_assoc w (each_after xs) (each_after ys)) refl

spaced_both : (w : List ℕ) (xs ys : Spelled) → spaced ((w ∷ xs) ++ ys) ≡ spaced (w ∷ xs) ++ each_after ys
spaced_both w xs ys = rw (behind_both xs ys) (sym (append_assoc w (each_after xs) (each_after ys)))

carried_in : (m : Component) (ys : Spelled) → spaced (carried_lexemes m ++ ys) ≡ spaced (carried_lexemes m)
    ++ each_after ys
carried_in (Sound ty sub) ys = spaced_both (letters the.Audio) (decimal ty ∷ letters the.Sub ∷ decimal sub ∷ []) ys
carried_in (Stream ty sub) ys = spaced_both (letters the.Data) (decimal ty ∷ letters the.Sub ∷ decimal sub ∷ []) ys
carried_in (InPackets scid) ys = spaced_both (letters the.Carry) (decimal scid ∷ []) ys

pub component_put : (old out new : List ℕ) (sid : Sid) (m : Component) → out ≡ old ++ spaced (carried_lexemes m)
    → new ≡ out ++ each_after (within_lexemes sid)
    → new ≡ old ++ spaced (edit_lexemes (AddComponent sid m))
component_put old out new sid m e f =
    rw (carried_in m (within_lexemes sid)) (f ∙ ap (λ (t : List ℕ). t ++ each_after (within_lexemes sid)) e
    ∙ append_assoc old (spaced (carried_lexemes m)) (each_after (within_lexemes sid)))

pub drop_put : (old one two new : List ℕ) (sid : Sid) (m : Carrier) → one ≡ old ++ codes "drop component" → two ≡ one
    ++ each_after (carrier_lexemes m) → new ≡ two ++ each_after (within_lexemes sid)
    → new ≡ old ++ spaced (edit_lexemes (DropComponent sid m))
unfolding letters
drop_put old one two new sid m e f g =
    rw (behind_both (carrier_lexemes m) (within_lexemes sid))
    (g ∙ ap (λ (t : List ℕ). t ++ each_after (within_lexemes sid)) (rw (← e) f)
    ∙ append_assoc (old ++ codes "drop component") (each_after (carrier_lexemes m)) (each_after (within_lexemes sid))
    ∙ append_assoc old (codes "drop component") (each_after (carrier_lexemes m) ++ each_after (within_lexemes sid)))

-- ---- lines

pub indent_more : (n : ℕ) → indent (n + 1) ≡ indent n ++ (32 ∷ 32 ∷ [])
indent_more zero = refl
indent_more (suc n) = let up : suc n + 1 ≡ suc (n + 1) = omega arith in
    rw (← indent_more n) (ap indent up)

pub indented : (old out new : List ℕ) (n : ℕ) → out ≡ old ++ indent n → new ≡ out ++ (32 ∷ 32 ∷ []) → new ≡ old
    ++ indent (n + 1)
indented old out new n h k = rw (k, h, indent_more n) (append_assoc old (indent n) (32 ∷ 32 ∷ []))

pub text_both : (xs ys : List Line) → text_of_lines (xs ++ ys) ≡ text_of_lines xs ++ text_of_lines ys
unfolding text_of_lines
text_both [] ys = refl
text_both (x ∷ xs) ys = rw (text_both xs ys) (sym (append_assoc (line_text x) (text_of_lines xs) (text_of_lines ys)))

-- a line, and the lines after it
pub line_then : (old new : List ℕ) (l : Line) (ls : List Line) → new ≡ old ++ line_text l
    → new ++ text_of_lines ls ≡ old
    ++ text_of_lines (l ∷ ls)
unfolding text_of_lines
line_then old new l ls e = rw (e) (append_assoc old (line_text l) (text_of_lines ls))

-- lines, and more after them
pub lines_then : (old new : List ℕ) (xs ys : List Line) → new ≡ old ++ text_of_lines xs → new ++ text_of_lines ys ≡ old
    ++ text_of_lines (xs ++ ys)
lines_then old new xs ys e = rw (e) (rw (text_both xs ys) (append_assoc old (text_of_lines xs) (text_of_lines ys)))

pub act_put : (names : List (List ℕ)) (old new : List ℕ) (d n : ℕ) (act : Act) (added : Before) → new ≡ old
    ++ line_text (line d (act_lexemes act)) → ((b : Block) → added b ≡ basic n act b)
    → IsPut names d added old new
act_put names old new d n act added e is =
    record { before = λ b. rw (is b) (line_then old new (line d (act_lexemes act)) (block_lines names d b) e) }

pub stop_put : (names : List (List ℕ)) (old new : List ℕ) (d n : ℕ) (added : Before) → new ≡ old
    ++ (indent d ++ codes "end\n") → ((b : Block) → added b ≡ stop n b) → IsPut names d added old new
unfolding letters
stop_put names old new d n added e is =
    record { before = λ b. rw (is b) (line_then old new (line d (letters the.End ∷ [])) (block_lines names d b) e) }

-- a line, a block after it, and the line that closes it
body_put : (names : List (List ℕ)) (old one two new : List ℕ) (d : ℕ) (l : Line) (body : Block) (rest : List Line)
    → one ≡ old ++ line_text l
    → two ≡ one ++ text_of_lines (block_lines names (d + 1) body) → new ≡ two ++ (indent d ++ codes "}\n")
    → new ++ text_of_lines rest ≡ old ++ text_of_lines (l ∷ (block_lines names (d + 1) body ++ closing d ∷ rest))
unfolding letters
body_put names old one two new d l body rest e f g =
    line_then two new (closing d) rest g ∙ lines_then _ _ _ _ f ∙ line_then old one _ _ e

pub when_put : (names : List (List ℕ)) (old one two new : List ℕ) (d n : ℕ) (condition : Condition) (first : Block)
    (added : Before) → one ≡ old ++ line_text (line d (if_lexemes condition))
    → two ≡ one ++ text_of_lines (block_lines names (d + 1) first) → new ≡ two ++ (indent d ++ codes "}\n")
    → ((b : Block) → added b ≡ when n condition first b) → IsPut names d added old new
when_put names old one two new d n condition first added e f g is =
    record { before = λ b. rw (is b) (body_put names old one two new d _ first (block_lines names d b) e f g) }

pub repeat_put : (names : List (List ℕ)) (old one two new : List ℕ) (d n times : ℕ) (body : Block) (added : Before)
    → one ≡ old ++ line_text (line d (letters the.Repeat ∷ decimal times ∷ letters the.OpenBrace ∷ []))
    → two ≡ one ++ text_of_lines (block_lines names (d + 1) body) → new ≡ two ++ (indent d ++ codes "}\n")
    → ((b : Block) → added b ≡ repeat n times body b) → IsPut names d added old new
repeat_put names old one two new d n times body added e f g is =
    record { before = λ b. rw (is b) (body_put names old one two new d _ body (block_lines names d b) e f g) }

pub forever_put : (names : List (List ℕ)) (old one two new : List ℕ) (d n : ℕ) (body : Block) (added : Before)
    → one ≡ old ++ (indent d ++ codes "forever {\n")
    → two ≡ one ++ text_of_lines (block_lines names (d + 1) body) → new ≡ two ++ (indent d ++ codes "}\n")
    → ((b : Block) → added b ≡ forever n body b) → IsPut names d added old new
unfolding letters
forever_put names old one two new d n body added e f g is =
    record {
      before = λ b. rw (is b) (body_put _ _ _ _ _ _ _ _ _ e f g);
    }

pub either_put : (names : List (List ℕ)) (old one two three four new : List ℕ) (d n : ℕ) (condition : Condition)
    (first second : Block) (added : Before)
    → one ≡ old ++ line_text (line d (if_lexemes condition))
    → two ≡ one ++ text_of_lines (block_lines names (d + 1) first) → three ≡ two ++ (indent d ++ codes "} else {\n")
    → four ≡ three ++ text_of_lines (block_lines names (d + 1) second) → new ≡ four ++ (indent d ++ codes "}\n")
    → ((b : Block) → added b ≡ either n condition first second b) → IsPut names d added old new
unfolding letters
either_put names old one two three four new d n condition first second added e f g h i is = record {
  before = λ b. (
      let turn : Line = line d (letters the.CloseBrace ∷ letters the.Else ∷ letters the.OpenBrace ∷ []) in
      let later : List Line = block_lines names (d + 1) second ++ closing d ∷ block_lines names d b in
      let here = body_put names two three four new d turn second (block_lines names d b) g h i in
      rw (is b) (here ∙ lines_then one two (block_lines names (d + 1) first) (turn ∷ later) f
      ∙ line_then old one (line d (if_lexemes condition)) (block_lines names (d + 1) first ++ turn ∷ later) e)
      );
}

pub apply_put : (names : List (List ℕ)) (old new : List ℕ) (d n number : ℕ) (added : Before) → new ≡ old
    ++ line_text (line d (letters the.Apply ∷ name_at names number ∷ []))
    → ((b : Block) → added b ≡ apply n number nothing b) → IsPut names d added old new
apply_put names old new d n number added e is =
    record {
      before = λ b. rw (is b)
          (line_then old new (line d (letters the.Apply ∷ name_at names number ∷ [])) (block_lines names d b) e);
    }

-- ---- names

pub name_got : (names : List (List ℕ)) (i : ℕ) (name : List ℕ) → slice_get names i ≡ Some name → name_at names i ≡ name
name_got [] i name e = absurd cc
name_got (n ∷ names) zero name e = cc
name_got (n ∷ names) (suc i) name e = name_got names i name e

pub name_there : (names : List (List ℕ)) (i : ℕ) → i < length names → slice_get names i ≢ None
name_there [] i lt e = absurd (omega arith)
name_there (n ∷ names) zero lt e = absurd cc
name_there (n ∷ names) (suc i) lt e = name_there names i (omega arith) e

-- ---- one statement after another

cut : (ss : List Statement) (i : ℕ) (s : Statement) → i < length ss → s ≡ get_or ss i s
    → block_of [] (drop i ss) ≡ before [] s (block_of [] (drop (i + 1) ss))
cut ss i s lt is = let e : drop i ss ≡ get_or ss i s ∷ drop (i + 1) ss = rw (add-one, drop-cons ss i s lt) refl in
    rw (is) (ap (block_of []) e)

-- the statements printed so far, and those that remain
pub record Printed (names : List (List ℕ)) (old out : List ℕ) (d : ℕ) (ss : List Statement) (i : ℕ) : Type 0 where
  pub whole : out ++ text_of_lines (block_lines names d (block_of [] (drop i ss))) ≡ old
      ++ text_of_lines (block_lines names d (block_of [] ss))

pub put_more : (names : List (List ℕ)) (old out new : List ℕ) (d : ℕ) (ss : List Statement) (i : ℕ) (s : Statement)
    → i < length ss → s ≡ get_or ss i s → IsPut names d (before [] s) out new
    → Printed names old out d ss i → Printed names old new d ss (i + 1)
put_more names old out new d ss i s lt is put h = record {
  whole = put.before (block_of [] (drop (i + 1) ss)) ∙ sym
      (ap (λ (b : Block). out ++ text_of_lines (block_lines names d b)) (cut ss i s lt is)) ∙ h.whole;
}

pub all_put : (names : List (List ℕ)) (old out : List ℕ) (d : ℕ) (ss : List Statement) (i : ℕ) → length ss ≤ i
    → Printed names old out d ss i
    → out ≡ old ++ text_of_lines (block_lines names d (block_of [] ss))
unfolding text_of_lines
all_put names old out d ss i long h =
    let e : out ++ [] ≡ old ++ text_of_lines (block_lines names d (block_of [] ss)) =
    rw (drop_all i ss long) at h.whole in sym (append-nil out) ∙ e

pub record ItemsPrinted (old out : List ℕ) (is : List Item) (i : ℕ) : Type 0 where
  pub whole : out ++ text_of_lines (items_lines (drop i is)) ≡ old ++ text_of_lines (items_lines is)

pub item_more : (old out new : List ℕ) (is : List Item) (i : ℕ) (x : Item) → i < length is → x ≡ get_or is i x
    → new ≡ out ++ line_text (line 0 (edit_lexemes x.edit))
    → ItemsPrinted old out is i → ItemsPrinted old new is (i + 1)
item_more old out new is i x lt same put h = record {
  whole = (
      let e : drop i is ≡ get_or is i x ∷ drop (i + 1) is = rw (add-one, drop-cons is i x lt) refl in
      line_then out new (line 0 (edit_lexemes x.edit)) (items_lines (drop (i + 1) is)) put
      ∙ sym (ap (λ (ls : List Line). out ++ text_of_lines ls) (rw (same) (ap items_lines e))) ∙ h.whole
      );
}

pub items_all : (old out : List ℕ) (is : List Item) (i : ℕ) → length is ≤ i → ItemsPrinted old out is i → out ≡ old
    ++ text_of_lines (items_lines is)
unfolding text_of_lines
items_all old out is i long h = let e : out ++ [] ≡ old ++ text_of_lines (items_lines is) =
    rw (drop_all i is long) at h.whole in sym (append-nil out) ∙ e

-- ---- definitions

pub definition_put : (names : List (List ℕ)) (old one two three four new : List ℕ) (n : ℕ) (b : List Statement)
    → one ≡ old ++ codes "define " → two ≡ one ++ name_at names n
    → three ≡ two ++ codes " {\n" → four ≡ three ++ text_of_lines (block_lines names 1 (block_of [] b)) → new ≡ four
    ++ codes "}\n"
    → new ≡ old ++ text_of_lines (definition_lines names n b)
unfolding letters text_of_lines
definition_put names old one two three four new n b e f g h i =
    let first : Line = line 0 (letters the.Define ∷ name_at names n ∷ letters the.OpenBrace ∷ []) in
    let head : three ≡ old ++ line_text first =
    g ∙ ap (λ (t : List ℕ). t ++ codes " {\n") (f ∙ ap (λ (t : List ℕ). t ++ name_at names n) e)
    ∙ append_assoc (old ++ codes "define ") (name_at names n) (codes " {\n")
    ∙ append_assoc old (codes "define ") (name_at names n ++ codes " {\n")
    ∙ ap (λ (t : List ℕ). old ++ (codes "define " ++ t))
    (sym (append_assoc (name_at names n) (codes " {") (10 ∷ []))) in
    sym (append-nil new) ∙ body_put names old three four new 0 first (block_of [] b) [] head h i

pub record AllPrinted (names : List (List ℕ)) (old out : List ℕ) (bs : List (Vec Statement Global)) (i : ℕ) : Type
    0 where
  pub whole : out ++ text_of_lines (defined_lines names i (bodies (drop i bs))) ≡ old
      ++ text_of_lines (defined_lines names 0 (bodies bs))

pub definition_more : (names : List (List ℕ)) (old out new : List ℕ) (bs : List (Vec Statement Global)) (i : ℕ)
    (b : Vec Statement Global) → i < length bs → b ≡ get_or bs i b
    → new ≡ out ++ text_of_lines (definition_lines names i b.items) → AllPrinted names old out bs i
    → AllPrinted names old new bs (i + 1)
definition_more names old out new bs i b lt same put h = record {
  whole = (
      let e : drop i bs ≡ get_or bs i b ∷ drop (i + 1) bs = rw (add-one, drop-cons bs i b lt) refl in
      let later : List Line = defined_lines names (i + 1) (bodies (drop (i + 1) bs)) in
      let f : defined_lines names i (bodies (drop i bs)) ≡ definition_lines names i b.items ++ later =
      rw (e, ← same, ← append_assoc (block_lines names 1 (block_of [] b.items)) (closing 0 ∷ []) later) refl in
      lines_then out new (definition_lines names i b.items) later put
      ∙ sym (ap (λ (ls : List Line). out ++ text_of_lines ls) f) ∙ h.whole
      );
}

pub definitions_all : (names : List (List ℕ)) (old out : List ℕ) (bs : List (Vec Statement Global)) (i : ℕ)
    → length bs ≤ i → AllPrinted names old out bs i
    → out ≡ old ++ text_of_lines (defined_lines names 0 (bodies bs))
unfolding text_of_lines
definitions_all names old out bs i long h =
    sym (append-nil out) ∙ (rw (drop_all i bs long) at h.whole)

-- ---- texts put in several steps

pub limits_put : (old one two new : List ℕ) (h : Plan) → one ≡ old ++ spaced (limits_lexemes h []) → two ≡ one
    ++ each_after (reserve_lexemes h.layout) → new ≡ two ++ 10 ∷ []
    → new ≡ old ++ line_text (limits_line h)
limits_put old one two new h e f g =
    let reserve : List ℕ = each_after (reserve_lexemes h.layout) in
    let tokens : Spelled = decimal h.period ∷ letters the.Notice ∷ decimal h.notice ∷ letters the.Budget
    ∷ decimal h.budget ∷ [] in
    g ∙ ap (λ (t : List ℕ). t ++ 10 ∷ []) (rw (spaced_both (letters the.Period) tokens (reserve_lexemes h.layout))
    (f ∙ ap (λ (t : List ℕ). t ++ reserve) e ∙ append_assoc old (spaced (limits_lexemes h [])) reserve))
    ∙ append_assoc old (spaced (limits_lexemes h (reserve_lexemes h.layout))) (10 ∷ [])

pub header_put : (old one two three four new : List ℕ) (h : Plan) → one ≡ old ++ codes "ensemble " → two ≡ one
    ++ hex_text h.eid → three ≡ two ++ each_after (mode_lexemes (layout_mode h.layout))
    → four ≡ three ++ 10 ∷ [] → new ≡ four ++ line_text (limits_line h) → new ≡ old ++ text_of_lines (header_lines h)
unfolding letters text_of_lines
header_put old one two three four new h e f g i j =
    let mode : List ℕ = each_after (mode_lexemes (layout_mode h.layout)) in
    let first : Line = line 0 (letters the.Ensemble ∷ hex_text h.eid ∷ mode_lexemes (layout_mode h.layout)) in
    let head : four ≡ old ++ line_text first =
    i ∙ ap (λ (x : List ℕ). x ++ 10 ∷ [])
    (g ∙ ap (λ (x : List ℕ). x ++ mode) (f ∙ ap (λ (x : List ℕ). x ++ hex_text h.eid) e
    ∙ append_assoc old (codes "ensemble ") (hex_text h.eid))
    ∙ append_assoc old (codes "ensemble " ++ hex_text h.eid) mode)
    ∙ append_assoc old ((codes "ensemble " ++ hex_text h.eid) ++ mode) (10 ∷ []) in
    sym (append-nil new) ∙ line_then four new (limits_line h) [] j ∙ line_then old four first (limits_line h ∷ []) head

-- the statements of a vector, as a slice
pub sliced : (names : List (List ℕ)) (old new : List ℕ) (d : ℕ) (slice items : List Statement) → slice ≡ items
    → new ≡ old ++ text_of_lines (block_lines names (d + 1) (block_of [] slice))
    → new ≡ old ++ text_of_lines (block_lines names (d + 1) (block_of [] items))
sliced names old new d slice items is e = rw (← is) e

-- a whole script
pub script_put : (t : Tree) (one two three four new : List ℕ) (h : Plan) (is : List Item) (names : List (List ℕ))
    (bs : List (List Statement)) (ss : List Statement)
    → h ≡ t.header → is ≡ t.items → names ≡ t.names → bs ≡ t.blocks → ss ≡ t.statements
    → one ≡ text_of_lines (header_lines h) → two ≡ one ++ text_of_lines (items_lines is) → three ≡ two
    ++ text_of_lines (defined_lines names 0 bs)
    → four ≡ three ++ codes "begin\n" → new ≡ four ++ text_of_lines (block_lines names 0 (block_of [] ss))
    → new ≡ text_of_lines (tree_lines t)
unfolding letters
script_put t one two three four new h is names bs ss a b c d e f g i j k =
    let body : List Line = block_lines names 0 (block_of [] ss) in
    let begin : Line = line 0 (letters the.Begin ∷ []) in
    let whole : new ≡ text_of_lines (header_lines h ++ (items_lines is ++ (defined_lines names 0 bs ++ begin ∷ body))) =
    k ∙ line_then three four begin body j ∙ lines_then two three (defined_lines names 0 bs) (begin ∷ body) i
    ∙ lines_then one two (items_lines is) (defined_lines names 0 bs ++ begin ∷ body) g
    ∙ lines_then [] one (header_lines h) (items_lines is ++ (defined_lines names 0 bs ++ begin ∷ body)) f in
    rw (← e, ← d, ← c, ← b, ← a) whole
