-- The printed lines of a script have its tokens.
use Rattle.script_front.proofs.Words.{[], ◌++◌, ◌+◌, ◌-◌, ◌<◌, ◌∙◌, ◌∷◌, ◌≡◌, ◌≤◌, Act, AddComponent, AddPacket}
use Rattle.script_front.proofs.Words.{AddService, AddSub, All, AllByRecursion, AllFit, Alternative, AreWords, At, Block}
use Rattle.script_front.proofs.Words.{Bool, Carrier, CommitAt, CommitIn, Component, Condition, Contact, Denotes}
use Rattle.script_front.proofs.Words.{DropComponent, DropPacket, DropService, DropSub, Early, Edit, FrameLayout, I, II}
use Rattle.script_front.proofs.Words.{III, IV, IsAct, IsAlternative, IsCarrier, IsComponent, IsCondition, IsEdit}
use Rattle.script_front.proofs.Words.{IsInBounds, IsItem, IsMoment, IsName, IsPlan, IsScript, IsSid, IsWord, Item, Join}
use Rattle.script_front.proofs.Words.{Line, List, Mode, MoveSub, Plan, RateSub, ReserveOne, ReserveTwo, Settle, Sid}
use Rattle.script_front.proofs.Words.{Sound, Spelled, Statement, Stream, Time, Tree, Until, Wait, WaitAny, WaitContact}
use Rattle.script_front.proofs.Words.{Whole, act_lexemes, alternative_lexemes, alternatives_lexemes, ap, append_assoc}
use Rattle.script_front.proofs.Words.{apply, arith, basic, block_lexemes, block_lines, block_of, carrier_lexemes}
use Rattle.script_front.proofs.Words.{closing, condition_lexemes, decimal_word, defined_lexemes, defined_lines}
use Rattle.script_front.proofs.Words.{edit_lexemes, either, false, forever, groups_text, header_lexemes, header_lines}
use Rattle.script_front.proofs.Words.{hex_word_word, if_lexemes, items_lexemes, items_lines, keyword_text, layout_mode}
use Rattle.script_front.proofs.Words.{length, letters, level_text, line, mode_lexemes, moment_lexemes, name_at}
use Rattle.script_front.proofs.Words.{name_word, nothing, or_lexemes, profile_word_word, refl, repeat, reserve_lexemes}
use Rattle.script_front.proofs.Words.{sid_word_word, stop, suc, sym, text_of_lines, time_word_word, tree_lexemes}
use Rattle.script_front.proofs.Words.{tree_lines, true, when, within_lexemes, ℕ}
use Rattle.mux_types.specs.declared.parts.Carrier.TheVariants.{Sub as BySub, Packet as ByPacket}
use Rattle.mux_types.specs.declared.parts.Component.TheVariants.{Packet as InPackets}
use Rattle.script_front.specs.declared.moment.MomentForm.{MomentForm as Moment}
use Rattle.script_front.specs.declared.alternatives.Alternative.TheVariants.{Contact as OfContact, Until as OfMoment}
use Rattle.script_front.specs.declared.alternatives.Alternative.TheVariants.{Frames as OfFrames}
use Rattle.script_front.specs.declared.tree.Act.TheVariants.{Edit as Edits}
use Rattle.script_tokens.specs.declared.keyword.Keyword.TheVariants as the
use Rattle.script_front.proofs.Lined.{IsLine, AreLines, all_words, lines_have}

-- ---- edits and acts

pub both_words : (xs ys : Spelled) → AreWords xs → AreWords ys → AreWords (xs ++ ys)
both_words [] ys h k = k
both_words (x ∷ xs) ys h k = (h.0, both_words xs ys h.1 k)

in_are : (sid : Sid) → IsSid sid → AreWords (within_lexemes sid)
in_are sid h = (keyword_text the.In, (sid_word_word sid h, tt))

groups_are : (dg : Bool) → IsWord (groups_text dg)
groups_are false = keyword_text the.Groups
groups_are true = keyword_text the.Raw

carrier_are : (c : Carrier) → IsCarrier c → AreWords (carrier_lexemes c)
carrier_are (BySub id) h = (keyword_text the.Sub, (decimal_word id (omega (arith, h)), tt))
carrier_are (ByPacket scid) h = (keyword_text the.Packet, (decimal_word scid (omega (arith, h)), tt))

component_are : (sid : Sid) (m : Component) → IsSid sid → IsComponent m → IsLine (edit_lexemes (AddComponent sid m))
component_are sid (Sound ty sub) s h = (
  keyword_text the.Audio,
  (
    decimal_word ty (omega (arith, h.0)),
    (keyword_text the.Sub, (decimal_word sub (omega (arith, h.1)), in_are sid s)),
  ),
)
component_are sid (Stream ty sub) s h = (
  keyword_text the.Data,
  (
    decimal_word ty (omega (arith, h.0)),
    (keyword_text the.Sub, (decimal_word sub (omega (arith, h.1)), in_are sid s)),
  ),
)
component_are sid (InPackets scid) s h = (keyword_text the.Carry, (decimal_word scid (omega (arith, h)), in_are sid s))

pub edit_are : (e : Edit) → IsEdit e → IsLine (edit_lexemes e)
edit_are (AddSub s) h = (
  keyword_text the.Sub,
  (
    decimal_word s.id (let x = h.named in omega (arith, x)),
    (
      keyword_text the.At,
      (
        decimal_word s.start (let x = h.start in omega (arith, x)),
        (
          keyword_text the.Eep,
          (
            profile_word_word s.protection h.to_four,
            (decimal_word s.kbits (let x = h.rate in omega (arith, x)), tt),
          ),
        ),
      ),
    ),
  ),
)
edit_are (DropSub id) h = (keyword_text the.Drop, (keyword_text the.Sub, (decimal_word id (omega (arith, h)), tt)))
edit_are (MoveSub id start) h = (
  keyword_text the.Move,
  (
    keyword_text the.Sub,
    (decimal_word id (omega (arith, h.0)), (keyword_text the.At, (decimal_word start (omega (arith, h.1)), tt))),
  ),
)
edit_are (RateSub id kbits) h = (
  keyword_text the.Rate,
  (
    keyword_text the.Sub,
    (decimal_word id (omega (arith, h.0)), (decimal_word kbits (omega (arith, h.1)), tt)),
  ),
)
edit_are (AddService sid) h = (keyword_text the.Service, (sid_word_word sid h, tt))
edit_are (DropService sid) h = (keyword_text the.Drop, (keyword_text the.Service, (sid_word_word sid h, tt)))
edit_are (AddComponent sid m) h = component_are sid m h.0 h.1
edit_are (DropComponent sid c) h = (
  keyword_text the.Drop,
  (
    keyword_text the.Component,
    both_words (carrier_lexemes c) (within_lexemes sid) (carrier_are c h.1) (in_are sid h.0),
  ),
)
edit_are (AddPacket p) h = (
  keyword_text the.Packet,
  (
    decimal_word p.scid (let x = h.named in omega (arith, x)),
    (
      groups_are p.dg,
      (
        keyword_text the.TypeWord,
        (
          decimal_word p.ty (let x = h.typed in omega (arith, x)),
          (
            keyword_text the.Sub,
            (
              decimal_word p.sub (let x = h.carried in omega (arith, x)),
              (keyword_text the.Address, (decimal_word p.address (let x = h.to_last in omega (arith, x)), tt)),
            ),
          ),
        ),
      ),
    ),
  ),
)
edit_are (DropPacket scid) h =
    (keyword_text the.Drop, (keyword_text the.Packet, (decimal_word scid (omega (arith, h)), tt)))

pub level_are : (closed : Bool) → IsWord (level_text closed)
level_are true = keyword_text the.Closed
level_are false = keyword_text the.Open

moment_are : (m : Moment) → IsMoment m → AreWords (moment_lexemes m)
moment_are (At time) h = (time_word_word time h, tt)
moment_are (Early time frames) h =
    (time_word_word time h.0, (keyword_text the.Early, (decimal_word frames (omega (arith, h.2)), tt)))

alternative_are : (a : Alternative) → IsAlternative a → AreWords (alternative_lexemes a)
alternative_are (OfContact contact closed) h =
    (keyword_text the.Contact, (decimal_word contact (omega (arith, h)), (level_are closed, tt)))
alternative_are (OfMoment moment) h = (keyword_text the.Until, moment_are moment h)
alternative_are (OfFrames frames) h = (decimal_word frames (omega (arith, h.1)), tt)

or_are : (all : List Alternative) → AllByRecursion IsAlternative all → AreWords (or_lexemes all)
or_are [] h = tt
or_are (a ∷ others) h = (
  keyword_text the.Or,
  both_words (alternative_lexemes a) (or_lexemes others)
      (alternative_are a h.0) (or_are others h.1),
)

alternatives_are : (all : List Alternative) → AllByRecursion IsAlternative all → AreWords (alternatives_lexemes all)
alternatives_are [] h = tt
alternatives_are (a ∷ others) h = both_words _ _ (alternative_are _ h.0) (or_are _ h.1)

condition_are : (c : Condition) → IsCondition c → AreWords (condition_lexemes c)
condition_are (Contact contact) h = (keyword_text the.Contact, (decimal_word contact (omega (arith, h)), tt))
condition_are (Time from to) h =
    (keyword_text the.Time, (time_word_word from h.0, (keyword_text the.To, (time_word_word to h.1, tt))))

act_are : (a : Act) → IsAct a → IsLine (act_lexemes a)
act_are (Edits e) h = edit_are e h
act_are (Wait frames) h = (keyword_text the.Wait, (decimal_word frames (omega (arith, h.1)), tt))
act_are (WaitContact contact closed) h = (
  keyword_text the.Wait,
  (
    keyword_text the.Contact,
    (decimal_word contact (omega (arith, h)), (level_are closed, tt)),
  ),
)
act_are (Until moment) h = (keyword_text the.Until, moment_are moment h)
act_are (WaitAny all) h = (keyword_text the.Wait, alternatives_are all h.each)
act_are (CommitIn delay) h = (
  keyword_text the.Commit,
  (keyword_text the.In, (decimal_word delay (omega (arith, h.1)), tt)),
)
act_are (CommitAt count) h = (
  keyword_text the.Commit,
  (keyword_text the.At, (decimal_word count (omega (arith, h)), tt)),
)
act_are Join h = (keyword_text the.Join, tt)
act_are Settle h = (keyword_text the.Settle, tt)

-- ---- blocks

pub lines_both : (xs ys : List Line) → AreLines xs → AreLines ys → AreLines (xs ++ ys)
lines_both [] ys h k = k
lines_both (x ∷ xs) ys h k = (h.0, lines_both xs ys h.1 k)

abbrev AreNamed : List (List ℕ) → Type 0
AreNamed names = (n : ℕ) → n < length names → IsWord (name_at names n)

pub closing_are : (d : ℕ) → IsLine (closing d).lexemes
closing_are d = (keyword_text the.CloseBrace, tt)

block_are : (names : List (List ℕ)) (known depth d : ℕ) → known ≤ length names → AreNamed names → (b : Block)
    → IsInBounds known depth b → AreLines (block_lines names d b)
block_are names known depth d le are nothing h = tt
block_are names known depth d le are (basic n act rest) h =
    (act_are act h.0, block_are names known depth d le are rest h.1)
block_are names known depth d le are (stop n rest) h =
    ((keyword_text the.End, tt), block_are names known depth d le are rest h)
block_are names known depth d le are (when n condition first rest) h = (
  (
    keyword_text the.If,
    both_words (condition_lexemes condition) _ (condition_are condition h.1)
        (keyword_text the.OpenBrace, tt),
  ),
  lines_both (block_lines names (d + 1) first) _ (block_are names known (depth - 1) (d + 1) le are first h.2)
      (closing_are d, block_are names known depth d le are rest h.3),
)
block_are names known depth d le are (either n condition first second rest) h = (
  (
    keyword_text the.If,
    both_words (condition_lexemes condition) _ (condition_are condition h.1)
        (keyword_text the.OpenBrace, tt),
  ),
  lines_both (block_lines names (d + 1) first) _ (block_are names known (depth - 1) (d + 1) le are first h.2) (
    (keyword_text the.CloseBrace, (keyword_text the.Else, (keyword_text the.OpenBrace, tt))),
    lines_both (block_lines names (d + 1) second) _ (block_are names known (depth - 1) (d + 1) le are second h.3)
        (closing_are d, block_are names known depth d le are rest h.4),
  ),
)
block_are names known depth d le are (repeat n times body rest) h = (
  (keyword_text the.Repeat, (decimal_word times (omega (arith, h.2)), (keyword_text the.OpenBrace, tt))),
  lines_both (block_lines names (d + 1) body) _ (block_are names known (depth - 1) (d + 1) le are body h.3)
      (closing_are d, block_are names known depth d le are rest h.4),
)
block_are names known depth d le are (forever n body rest) h = (
  (keyword_text the.Forever, (keyword_text the.OpenBrace, tt)),
  lines_both (block_lines names (d + 1) body) _ (block_are names known (depth - 1) (d + 1) le are body h.1)
      (closing_are d, block_are names known depth d le are rest h.2),
)
block_are names known depth d le are (apply n number named rest) h =
    ((keyword_text the.Apply, (are number (omega (arith, h.0, le)), tt)), block_are names known depth d le are rest h.1)

-- the tokens of two lists of lines
pub all_both : (xs ys : List Line) → all_words (xs ++ ys) ≡ all_words xs ++ all_words ys
all_both [] ys = refl
all_both (x ∷ xs) ys = rw (all_both xs ys) (sym (append_assoc x.lexemes (all_words xs) (all_words ys)))

pub body_all : (body rest : List Line) (b r : Spelled) (d : ℕ) → all_words body ≡ b → all_words rest ≡ r
    → all_words (body ++ closing d ∷ rest) ≡ b ++ letters the.CloseBrace ∷ r
body_all body rest b r d e f = rw (← f, ← e) (all_both body (closing d ∷ rest))

-- the first line of `if`, and what follows it
tested : (condition : Condition) (us ws : Spelled) → us ≡ ws → if_lexemes condition
    ++ us ≡ letters the.If ∷ (condition_lexemes condition ++ letters the.OpenBrace ∷ ws)
tested condition us ws e =
    ap (λ (ts : Spelled). letters the.If ∷ ts)
    (append_assoc (condition_lexemes condition) (letters the.OpenBrace ∷ []) us
    ∙ ap (λ (ts : Spelled). condition_lexemes condition ++ letters the.OpenBrace ∷ ts) e)

block_all : (names : List (List ℕ)) (d : ℕ) (b : Block) → all_words (block_lines names d b) ≡ block_lexemes names b
block_all names d nothing = refl
block_all names d (basic n act rest) = rw (block_all names d rest) refl
block_all names d (stop n rest) = rw (block_all names d rest) refl
block_all names d (when n condition first rest) =
    tested condition _ _
    (body_all (block_lines names (d + 1) first) (block_lines names d rest) _ _ d (block_all names (d + 1) first)
    (block_all names d rest))
block_all names d (either n condition first second rest) =
    tested condition _ _ (rw (
      ← body_all (block_lines names (d + 1) second) (block_lines names d rest) _ _ d
          (block_all names (d + 1) second) (block_all names d rest),
      ← block_all names (d + 1) first,
    )
    (all_both (block_lines names (d + 1) first) _))
block_all names d (repeat n times body rest) =
    rw (body_all _ _ _ _ _ (block_all names (d + 1) body) (block_all names d rest)) refl
block_all names d (forever n body rest) =
    rw (body_all _ _ _ _ d (block_all names (d + 1) body) (block_all names d rest)) refl
block_all names d (apply n number named rest) = rw (block_all names d rest) refl

-- ---- a script

pub name_among : (names : List (List ℕ)) → All IsName names → AreNamed names
name_among names h n lt = name_word (name_at names n) (h n [] lt)

mode_are : (m : Mode) → AreWords (mode_lexemes m)
mode_are I = tt
mode_are II = (keyword_text the.Mode, (decimal_word 2 (omega arith), tt))
mode_are III = (keyword_text the.Mode, (decimal_word 3 (omega arith), tt))
mode_are IV = (keyword_text the.Mode, (decimal_word 4 (omega arith), tt))

reserve_are : (l : FrameLayout) → AreWords (reserve_lexemes l)
reserve_are (Whole mode) = tt
reserve_are (ReserveOne mode) = (keyword_text the.Reserve, (decimal_word 1 (omega arith), tt))
reserve_are ReserveTwo = (keyword_text the.Reserve, (decimal_word 2 (omega arith), tt))

pub header_are : (h : Plan) → IsPlan h → AreLines (header_lines h)
header_are h is = (
  (keyword_text the.Ensemble, (hex_word_word h.eid is.ensemble, mode_are (layout_mode h.layout))),
  (
    (
      keyword_text the.Period,
      (
        decimal_word h.period (let x = is.period_to in omega (arith, x)),
        (
          keyword_text the.Notice,
          (
            decimal_word h.notice (let x = is.notice_to in omega (arith, x)),
            (
              keyword_text the.Budget,
              (
                decimal_word h.budget (let x = is.budget_to in omega (arith, x)),
                reserve_are h.layout,
              ),
            ),
          ),
        ),
      ),
    ),
    tt,
  ),
)

all_rest : (x : Item) (xs : List Item) → All IsItem (x ∷ xs) → All IsItem xs
all_rest x xs h k d lt = h (suc k) d (omega arith)

pub items_are : (is : List Item) → All IsItem is → AreLines (items_lines is)
items_are [] h = tt
items_are (i ∷ is) h = (edit_are i.edit (h 0 i (omega arith)).0, items_are is (all_rest i is h))

pub items_all : (is : List Item) → all_words (items_lines is) ≡ items_lexemes is
items_all [] = refl
items_all (i ∷ is) = rw (items_all is) refl

defined_are : (names : List (List ℕ)) (n : ℕ) (bs : List (List Statement)) → n + length bs ≤ length names
    → AreNamed names → AllFit n bs → AreLines (defined_lines names n bs)
defined_are names n [] le are h = tt
defined_are names n (b ∷ bs) le are h = (
  (keyword_text the.Define, (are n (omega (arith, le)), (keyword_text the.OpenBrace, tt))),
  lines_both (block_lines names 1 (block_of [] b)) _
      (block_are names n 15 1 (omega (arith, le)) are (block_of [] b) h.0)
      (closing_are 0, defined_are names (n + 1) bs (omega (arith, le)) are h.1),
)

defined_all : (names : List (List ℕ)) (n : ℕ) (bs : List (List Statement))
    → all_words (defined_lines names n bs) ≡ defined_lexemes names n bs
defined_all names n [] = refl
defined_all names n (b ∷ bs) = rw (body_all _ _ _ _ _ (block_all _ _ _) (defined_all names (n + 1) bs)) refl

reserve_all : (l : FrameLayout) → reserve_lexemes l ++ [] ≡ reserve_lexemes l
reserve_all (Whole mode) = refl
reserve_all (ReserveOne mode) = refl
reserve_all ReserveTwo = refl

pub header_all : (h : Plan) → all_words (header_lines h) ≡ header_lexemes h
header_all h = rw (reserve_all h.layout) refl

tree_all : (t : Tree) → all_words (tree_lines t) ≡ tree_lexemes t
tree_all t =
    let body : List Line = line 0 (letters the.Begin ∷ []) ∷ block_lines t.names 0 (block_of [] t.statements) in
    let later : List Line = defined_lines t.names 0 t.blocks ++ body in
    all_both (header_lines t.header) (items_lines t.items ++ later)
    ∙ ap (λ (ws : Spelled). ws ++ all_words (items_lines t.items ++ later)) (header_all t.header)
    ∙ ap (λ (ws : Spelled). header_lexemes t.header ++ ws) (
    all_both (items_lines t.items) later ∙ ap (λ (ws : Spelled). ws ++ all_words later) (items_all t.items)
    ∙ ap (λ (ws : Spelled). items_lexemes t.items ++ ws) (
    all_both (defined_lines t.names 0 t.blocks) body ∙ ap (λ (ws : Spelled). ws ++ all_words body)
    (defined_all t.names 0 t.blocks)
    ∙ ap (λ (ws : Spelled). defined_lexemes t.names 0 t.blocks ++ letters the.Begin ∷ ws)
    (block_all t.names 0 (block_of [] t.statements))))

tree_are : (t : Tree) → IsScript t → AreLines (tree_lines t)
tree_are t s =
    let are = name_among t.names s.named in
    let le : 0 + length t.blocks ≤ length t.names = (let e = s.defined in omega (arith, e)) in
    lines_both (header_lines t.header) _ (header_are t.header s.headed)
    (lines_both (items_lines t.items) _ (items_are t.items s.adding) (
    lines_both (defined_lines t.names 0 t.blocks) _ (defined_are t.names 0 t.blocks le are s.blocks_fit) (
      (keyword_text the.Begin, tt),
      block_are t.names (length t.blocks) 16 0 (omega (arith, le)) are (block_of [] t.statements) s.fits,
    )))

pub printed_denotes : (text : List ℕ) (t : Tree) → IsScript t → text ≡ text_of_lines (tree_lines t) → Denotes text t
printed_denotes text t s e =
    rw (e) (rw (← tree_all t) (lines_have (tree_lines t) (tree_are t s)))
