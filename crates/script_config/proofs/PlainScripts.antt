-- Scripts without blocks: their items and statements one by one, and that they are scripts.
use Rattle.script_config.proofs.Words.{[], ◌++◌, ◌+◌, ◌<◌, ◌∙◌, ◌∷◌, ◌≡◌, ◌≤◌, Act, Adds, All, AllByRecursion, AllFit}
use Rattle.script_config.proofs.Words.{AreNamedApart, Component, Configuration, Edit, IsAct, IsAddressed, IsComponent}
use Rattle.script_config.proofs.Words.{IsConfiguration, IsEdit, IsInBounds, IsItem, IsPlaced, IsPlan, IsScript}
use Rattle.script_config.proofs.Words.{IsService, IsSid, Item, List, Plan, Service, Sid, Tree, acts_from, added_by, ap}
use Rattle.script_config.proofs.Words.{arith, components_added, counted, counted_in, edits_that_make, flat_map, get_or}
use Rattle.script_config.proofs.Words.{items_from, length, length-take-le, packet_edits, refl, service_edits, sub_edits}
use Rattle.script_config.proofs.Words.{subst, suc, sym, take, take_more, zero, ℕ}
use Rattle.script_front.specs.declared.tree.Statement.{Statement}
use Rattle.script_front.specs.Block.{Block, and_then, basic, before, block_of, nothing}
use Rattle.script_front.specs.Keywords.{IsName}
use Rattle.script_config.proofs.Members.{both, each_of}
use Rattle.script_config.proofs.PacketSteps.{new_packet}
use Rattle.script_config.proofs.SubTurns.{new_sub}

-- ---- appending one

pub items_pushed : (line : ℕ) (es : List Edit) (e : Edit) → items_from line (es ++ e ∷ []) ≡ items_from line es
    ++ record { line = line + length es; edit = e } ∷ []
items_pushed line [] e = let same : line ≡ line + 0 = omega arith in
    ap (λ (n : ℕ). record { line = n; edit = e } ∷ []) same
items_pushed line (f ∷ es) e =
    let rest = items_pushed (line + 1) es e in
    let same : (line + 1) + length es ≡ line + length (f ∷ es) = omega arith in
    ap (λ (is : List Item). record { line = line; edit = f } ∷ is)
    (rest ∙ ap (λ (n : ℕ). items_from (line + 1) es ++ record { line = n; edit = e } ∷ []) same)

pub acts_pushed : (line : ℕ) (acts : List Act) (a : Act) (b : Block)
    → acts_from line (acts ++ a ∷ []) b ≡ acts_from line acts (basic (line + length acts) a b)
acts_pushed line [] a b = let same : line ≡ line + 0 = omega arith in ap (λ (n : ℕ). basic n a b) same
acts_pushed line (x ∷ acts) a b =
    let rest = acts_pushed (line + 1) acts a b in
    let same : (line + 1) + length acts ≡ line + length (x ∷ acts) = omega arith in
    ap (basic line x) (rest ∙ ap (λ (n : ℕ). acts_from (line + 1) acts (basic n a b)) same)

pub then_pushed : (ss : List Statement) (s : Statement) (b : Block)
    → and_then [] (ss ++ s ∷ []) b ≡ and_then [] ss (before [] s b)
then_pushed [] s b = refl
then_pushed (x ∷ ss) s b = ap (before [] x) (then_pushed ss s b)

-- ---- loop invariants

pub record AreItemsFrom (line now : ℕ) (es : List Edit) (i : ℕ) (out : List Item) : Type 0 where
  pub here : now ≡ line + i
  pub so_far : out ≡ items_from line (take i es)

take_length : {T : Type 0} (xs : List T) (i : ℕ) → i ≤ length xs → length (take i xs) ≡ i
take_length xs i le = length-take-le i xs le

pub item_on : (line now : ℕ) (es : List Edit) (i : ℕ) (e : Edit) (out : List Item) → i < length es → e ≡ get_or es i e
    → AreItemsFrom line now es i out
    → AreItemsFrom line (now + 1) es (i + 1) (out ++ record { line = now; edit = e } ∷ [])
item_on line now es i e out lt same h =
    let more : take (i + 1) es ≡ take i es ++ e ∷ [] =
    take_more es i e lt ∙ ap (λ (x : Edit). take i es ++ x ∷ []) (sym same) in
    let long : line + length (take i es) ≡ now = let n = take_length es i (omega (arith, lt)) in let at = h.here in
    omega (arith, n, at) in
    record {
      here = let at = h.here in omega (arith, at);
      so_far = sym (ap (items_from line) more ∙ items_pushed line (take i es) e
          ∙ ap (λ (n : ℕ). items_from line (take i es) ++ record { line = n; edit = e } ∷ []) long
          ∙ ap (λ (is : List Item). is ++ record { line = now; edit = e } ∷ []) (sym h.so_far));
    }

pub record AreActsFrom (line now : ℕ) (acts : List Act) (i : ℕ) (out : List Statement) : Type 0 where
  pub here : now ≡ line + i
  pub so_far : (b : Block) → and_then [] out b ≡ acts_from line (take i acts) b

pub act_on : (line now : ℕ) (acts : List Act) (i : ℕ) (a : Act) (out : List Statement) (s : Statement) → i < length acts
    → a ≡ get_or acts i a → ((b : Block) → before [] s b ≡ basic now a b)
    → AreActsFrom line now acts i out → AreActsFrom line (now + 1) acts (i + 1) (out ++ s ∷ [])
act_on line now acts i a out s lt same is h =
    let more : take (i + 1) acts ≡ take i acts ++ a ∷ [] =
    take_more acts i a lt ∙ ap (λ (x : Act). take i acts ++ x ∷ []) (sym same) in
    let long : now ≡ line + length (take i acts) = let n = take_length acts i (omega (arith, lt)) in let at = h.here in
    omega (arith, n, at) in
    record {
      here = let at = h.here in omega (arith, at);
      so_far = λ b. then_pushed out s b ∙ ap (and_then [] out) (is b) ∙ h.so_far (basic now a b)
          ∙ ap (λ (n : ℕ). acts_from line (take i acts) (basic n a b)) long ∙ sym (acts_pushed line (take i acts) a b)
          ∙ sym (ap (λ (xs : List Act). acts_from line xs b) more);
    }

-- ---- the edits of items

pub added_again : (line : ℕ) (es : List Edit) → added_by (items_from line es) ≡ es
added_again line [] = refl
added_again line (e ∷ es) = ap (λ (xs : List Edit). e ∷ xs) (added_again (line + 1) es)

pub items_length : (line : ℕ) (es : List Edit) → length (items_from line es) ≡ length es
items_length line [] = refl
items_length line (e ∷ es) = let rest = items_length (line + 1) es in omega (arith, rest)

-- ---- the edits can be items

abbrev pub IsAdding : Edit → Type 0
IsAdding e = IsEdit e × Adds e

components_adding : (sid : Sid) (ms : List Component) → IsSid sid → AllByRecursion IsComponent ms
    → AllByRecursion IsAdding (components_added sid ms)
components_adding sid [] named h = tt
components_adding sid (m ∷ ms) named h = (((named, h.0), tt), components_adding sid ms named h.1)

service_adding : (s : Service) → IsService s → AllByRecursion IsAdding (service_edits s)
service_adding s h = ((h.named, tt), components_adding s.sid s.components h.named h.within)

pub made_adding : (c : Configuration) → IsConfiguration c → AllByRecursion IsAdding (edits_that_make c)
made_adding c h =
    both IsAdding (flat_map sub_edits c.subs) (flat_map service_edits c.services ++ flat_map packet_edits c.packets)
    (each_of IsPlaced IsAdding sub_edits (λ x k. ((new_sub x k, tt), tt)) c.subs h.subs_placed)
    (both IsAdding (flat_map service_edits c.services) (flat_map packet_edits c.packets)
    (each_of IsService IsAdding service_edits service_adding c.services h.services_formed)
    (each_of IsAddressed IsAdding packet_edits (λ x k. ((new_packet x k, tt), tt)) c.packets h.packets_addressed))

-- ---- the result is a script

items_formed : (line : ℕ) (es : List Edit) → AllByRecursion IsAdding es → All IsItem (items_from line es)
items_formed line [] h k d lt = absurd (omega (arith, lt))
items_formed line (e ∷ es) h zero d lt = h.0
items_formed line (e ∷ es) h (suc k) d lt = items_formed (line + 1) es h.1 k d (omega (arith, lt))

all_later : (P : Act → Type 0) (a : Act) (acts : List Act) → All P (a ∷ acts) → All P acts
all_later P a acts h k d lt = h (suc k) d (omega (arith, lt))

acts_bounded : (line : ℕ) (acts : List Act) → All IsAct acts → IsInBounds 0 16 (acts_from line acts nothing)
acts_bounded line [] h = tt
acts_bounded line (a ∷ acts) h = (h 0 a (omega arith), acts_bounded (line + 1) acts (all_later IsAct a acts h))

acts_counted : (line : ℕ) (acts : List Act) → counted (acts_from line acts nothing) ≡ length acts
acts_counted line [] = refl
acts_counted line (a ∷ acts) = let rest = acts_counted (line + 1) acts in omega (arith, rest)

apart_none : AreNamedApart []
apart_none i j d lt below = absurd (omega (arith, below))

none_formed : {X : Type 0} (P : X → Type 0) → All P []
none_formed P k d lt = absurd (omega (arith, lt))

pub is_script : (h : Plan) (es : List Edit) (acts : List Act) (t : Tree) → IsPlan h → AllByRecursion IsAdding es
    → All IsAct acts → length es ≤ 960 → length acts ≤ 7000
    → t.header ≡ h → t.items ≡ items_from 3 es → t.names ≡ [] → t.blocks ≡ [] → (line : ℕ)
    → block_of [] t.statements ≡ acts_from line acts nothing → IsScript t
is_script h es acts t headed adding ranged few_items few_acts header items names blocks line statements =
    let counts = acts_counted line acts in
    let count : counted (block_of [] t.statements) ≡ length acts = ap counted statements ∙ counts in
    let long : length t.items ≡ length es = ap length items ∙ items_length 3 es in
    let none : counted_in t.blocks ≡ 0 = ap counted_in blocks in
    let no_blocks : length t.blocks ≡ 0 = ap length blocks in
    let no_names : length t.names ≡ 0 = ap length names in
    record {
      headed = subst IsPlan (sym header) headed;
      adding = subst (All IsItem) (sym items) (items_formed 3 es adding);
      named = subst (All IsName) (sym names) (none_formed IsName);
      different = subst AreNamedApart (sym names) (apart_none);
      defined = no_names ∙ sym no_blocks;
      few_blocks = omega (arith, no_blocks);
      blocks_fit = subst (AllFit 0) (sym blocks) tt;
      fits = subst (λ (n : ℕ). IsInBounds n 16 (block_of [] t.statements)) (sym no_blocks)
          (subst (IsInBounds 0 16) (sym statements) (acts_bounded line acts ranged));
      few = omega (arith, count, long, none, few_items, few_acts);
    }
