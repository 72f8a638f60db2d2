-- Which instructions have a label; one without a label follows one that continues to it.
use Rattle.script_compiler.proofs.Words.{[], ◌++◌, ◌+◌, ◌<◌, ◌==◌, ◌∙◌, ◌∷◌, ◌≡◌, Act, AreLabelsOf, Block, Bool}
use Rattle.script_compiler.proofs.Words.{Condition, Configuration, Contains, End, IsLabelOf, Jump, Label, List, Loop}
use Rattle.script_compiler.proofs.Words.{None, Option, PlacedInstr, Plan, ProgramPoint, Some, after_instr, all_places}
use Rattle.script_compiler.proofs.Words.{alone, ap, apply, arith, at_label, basic, continues, either, eq-eqb, eqb-true}
use Rattle.script_compiler.proofs.Words.{eqb_tells, falls_out, false, find, forever, get_or, head, if◌then◌else◌, inl}
use Rattle.script_compiler.proofs.Words.{inr, instr_of_act, join, length, meet, nothing, onward, placed_instr, places}
use Rattle.script_compiler.proofs.Words.{point_after, refl, repeat, same_Some, slice_get, slice_get-get_or}
use Rattle.script_compiler.proofs.Words.{slice_get_within, stop, subst, suc, sym, test_of, true, unpriced_label}
use Rattle.script_compiler.proofs.Words.{unpriced_labels, when, without_label, zero, ℕ}
use Rattle.script_front.specs.declared.tree.Act.TheVariants.{Edit as Edits, Wait as Waits, WaitContact as WaitsContact}
use Rattle.script_front.specs.declared.tree.Act.TheVariants.{Until as WaitsUntil, WaitAny as WaitsAny}
use Rattle.script_front.specs.declared.tree.Act.TheVariants.{CommitIn as CommitsIn, CommitAt as CommitsAt}
use Rattle.script_front.specs.declared.tree.Act.TheVariants.{Join as Joins, Settle as Settles}
use Rattle.script_front.specs.declared.tree.Condition.TheVariants.{Contact as IfContact, Time as IfTime}

-- ---- which instructions have a label

same_number : (n : ℕ) → (n == n) ≡ true
same_number n = eq-eqb n n refl

other_number : (m n : ℕ) → m < n → (m == n) ≡ false
other_number m n lt = elim (eqb_tells m n) [ inl h ↦ absurd (omega (arith, lt, h.1)) | inr h ↦ h.0 ]

abbrev pub finding : ℕ → List Label → Option Label
finding pc ls = find (λ l. l.pc == pc) ls

module _ (table : List Configuration) where
  -- the label of the instruction with this index
  pub record Stands (k : ℕ) (ps : List PlacedInstr) (l : Label) : Type 0 where
    pub index : ℕ
    pub place : PlacedInstr
    pub there : slice_get ps index ≡ Some place
    pub labelled : place.point.labelled ≡ true
    pub is : IsLabelOf table (unpriced_label (k + index) place) l

  -- the label found for this instruction
  pub record Found (pc : ℕ) (p : PlacedInstr) (ls : List Label) : Type 0 where
    pub label : Label
    pub there : finding pc ls ≡ Some label
    pub is : IsLabelOf table (unpriced_label pc p) label

  -- an instruction marked as labelled has a label
  found_head : (k : ℕ) (b : Bool) (p : PlacedInstr) (ps : List PlacedInstr) (ls : List Label) → b ≡ true
      → AreLabelsOf table (if b then unpriced_label k p ∷ unpriced_labels (k + 1) ps else unpriced_labels (k + 1) ps) ls
      → Found k p ls
  found_head k true p ps [] e are = absurd are
  found_head k true p ps (l ∷ ls) e are =
      let at : (l.pc == k) ≡ true = ap (λ n. n == k) are.0.place ∙ same_number k in
      record { label = l; there = ap (λ f. if f then Some l else finding k ls) at; is = are.0 }
  found_head k false p ps ls e are = cc

  found_later : (k m : ℕ) (b : Bool) (p q : PlacedInstr) (ps : List PlacedInstr) (ls : List Label) → k < m
      → AreLabelsOf table (if b then unpriced_label k p ∷ unpriced_labels (k + 1) ps else unpriced_labels (k + 1) ps) ls
      → ((rest : List Label) → AreLabelsOf table (unpriced_labels (k + 1) ps) rest → Found m q rest) → Found m q ls
  found_later k m true p q ps [] lt are h = absurd are
  found_later k m true p q ps (l ∷ ls) lt are h =
      let f = h ls are.1 in
      let off : (l.pc == m) ≡ false = ap (λ n. n == m) are.0.place ∙ other_number k m lt in
      record { label = f.label; there = ap (λ x. if x then Some l else finding m ls) off ∙ f.there; is = f.is }
  found_later k m false p q ps ls lt are h = h ls are

  pub label_found : (ps : List PlacedInstr) (ls : List Label) (k j : ℕ) (p : PlacedInstr)
      → AreLabelsOf table (unpriced_labels k ps) ls → slice_get ps j ≡ Some p → p.point.labelled ≡ true
      → Found (k + j) p ls
  label_found [] ls k j p are h e = cc
  label_found (q ∷ ps) ls k zero p are h e =
      let same : q ≡ p = same_Some q p h in
      let point_here = found_head k _ q ps ls (ap (λ (x : PlacedInstr). x.point.labelled) same ∙ e) are in
      subst (λ n. Found n p ls) (omega arith) (subst (λ (x : PlacedInstr). Found k x ls) same point_here)
  label_found (q ∷ ps) ls k (suc j) p are h e =
      found_later k (k + suc j) q.point.labelled q p ps ls (omega arith) are
      (λ rest a. subst (λ n. Found n p rest) (omega arith) (label_found ps rest (k + 1) j p a h e))

  later : (k : ℕ) (q : PlacedInstr) (ps : List PlacedInstr) (l : Label) → Stands (k + 1) ps l → Stands k (q ∷ ps) l
  later k q ps l m = let at : k + 1 + m.index ≡ k + suc m.index = omega arith in
      record {
        index = suc m.index;
        place = m.place;
        there = m.there;
        labelled = m.labelled;
        is = subst (λ n. IsLabelOf table (unpriced_label n m.place) l) at m.is;
      }

  -- every label is that of such an instruction
  label_only_from : (k i : ℕ) (q : PlacedInstr) (ps : List PlacedInstr) (b : Bool) (ls : List Label) (l : Label)
      → q.point.labelled ≡ b → AreLabelsOf table (if b then unpriced_label k q
      ∷ unpriced_labels (k + 1) ps else unpriced_labels (k + 1) ps) ls
      → ((i : ℕ) (rest : List Label) → AreLabelsOf table (unpriced_labels (k + 1) ps) rest → slice_get rest i ≡ Some l
      → Stands (k + 1) ps l) → slice_get ls i ≡ Some l → Stands k (q ∷ ps) l
  label_only_from k i q ps true [] l e are ih h = absurd are
  label_only_from k zero q ps true (m ∷ ls) l e are ih h =
      let same : m ≡ l = same_Some m l h in
      record {
        index = 0;
        place = q;
        there = refl;
        labelled = e;
        is = subst (λ n. IsLabelOf table (unpriced_label n q) l) (omega arith)
            (subst (λ (x : Label). IsLabelOf table (unpriced_label k q) x) same are.0);
      }
  label_only_from k (suc i) q ps true (m ∷ ls) l e are ih h = later k q ps l (ih i ls are.1 h)
  label_only_from k i q ps false ls l e are ih h = later k q ps l (ih i ls are h)

  label_only : (ps : List PlacedInstr) (ls : List Label) (k i : ℕ) (l : Label)
      → AreLabelsOf table (unpriced_labels k ps) ls → slice_get ls i ≡ Some l → Stands k ps l
  label_only [] ls k i l are h = let f : slice_get [] i ≡ Some l =
      subst (λ (xs : List Label). slice_get xs i ≡ Some l) are h in cc
  label_only (q ∷ ps) ls k i l are h =
      label_only_from k i q ps q.point.labelled ls l refl are (λ j rest a e. label_only ps rest (k + 1) j l a e) h

  pub label_contained : (ps : List PlacedInstr) (ls : List Label) (k : ℕ) (l : Label)
      → AreLabelsOf table (unpriced_labels k ps) ls → Contains ls l → Stands k ps l
  label_contained ps ls k l are h = label_only ps ls k h.0 l are (slice_get-get_or ls h.0 l h.1 ∙ ap Some h.2)

  -- other instructions have no label
  found_by : (m : Label) (ls : List Label) (pc : ℕ) (l : Label) (b : Bool) → (m.pc == pc) ≡ b →
      (finding pc ls ≡ Some l → (i : ℕ) × (slice_get ls i ≡ Some l) × (l.pc ≡ pc)) →
      (if b then Some m else finding pc ls) ≡ Some l → (i : ℕ) × (slice_get (m ∷ ls) i ≡ Some l) × (l.pc ≡ pc)
  found_by m ls pc l true e ih h = let same : m ≡ l = same_Some m l h in
      (0, h, subst (λ (x : Label). x.pc ≡ pc) same (eqb-true m.pc pc e))
  found_by m ls pc l false e ih h = let r = ih h in (suc r.0, r.1, r.2)

  found_label : (ls : List Label) (pc : ℕ) (l : Label) → finding pc ls ≡ Some l → (i : ℕ) × (slice_get ls i ≡ Some l)
      × (l.pc ≡ pc)
  found_label [] pc l h = cc
  found_label (m ∷ ls) pc l h = found_by m ls pc l (m.pc == pc) refl (λ k. found_label ls pc l k) h

  pub found_contained : (ls : List Label) (pc : ℕ) (l : Label) → finding pc ls ≡ Some l → Contains ls l
  found_contained ls pc l h =
      let f = found_label ls pc l h in
      let within : f.0 < length ls = slice_get_within ls f.0 l f.1 in
      (f.0, within, same_Some (get_or ls f.0 l) l (sym (slice_get-get_or ls f.0 l within) ∙ f.1))

  -- if a label is found for a pc, the instruction there is marked as labelled
  pub label_place : (ps : List PlacedInstr) (ls : List Label) (pc : ℕ) (l : Label) (p : PlacedInstr)
      → AreLabelsOf table (unpriced_labels 0 ps) ls → finding pc ls ≡ Some l → slice_get ps pc ≡ Some p
      → p.point.labelled ≡ true
  label_place ps ls pc l p are h e =
      let f = found_label ls pc l h in
      let m = label_only ps ls 0 f.0 l are f.1 in
      let at : m.index ≡ pc = sym (omega arith) ∙ sym m.is.place ∙ f.2 in
      let same : m.place ≡ p = same_Some m.place p (sym m.there ∙ subst (λ n. slice_get ps n ≡ Some p) (sym at) e) in
      subst (λ (x : PlacedInstr). x.point.labelled ≡ true) same m.labelled

-- ---- an instruction without a label follows one that continues to it

-- the preceding code continues to this point, or the point has a label
abbrev pub Follows : Bool → ProgramPoint → Type 0
Follows came s = s.labelled ≡ false → came ≡ true

abbrev pub Connected : Bool → List PlacedInstr → Type 0
Connected came [] = Unit {0}
Connected came (p ∷ ps) = Follows came p.point × Connected (continues p.instr) ps

abbrev pub ends : Bool → List PlacedInstr → Bool
ends came [] = came
ends came (p ∷ ps) = ends (continues p.instr) ps

ends_both : (came : Bool) (a b : List PlacedInstr) → ends came (a ++ b) ≡ ends (ends came a) b
ends_both came [] b = refl
ends_both came (p ∷ a) b = ends_both (continues p.instr) a b

pub connected_both : (came : Bool) (a b : List PlacedInstr) → Connected came a → Connected (ends came a) b
    → Connected came (a ++ b)
connected_both came [] b h k = k
connected_both came (p ∷ a) b h k = (h.0, connected_both (continues p.instr) a b h.1 k)

-- these instructions are connected, and so is what follows them
pub record Chain (came : Bool) (ps : List PlacedInstr) (w : Option ProgramPoint) : Type 0 where
  pub inner : Connected came ps
  pub exits : (u : ProgramPoint) → w ≡ Some u → Follows (ends came ps) u

chain_both : (came : Bool) (a b : List PlacedInstr) (w : Option ProgramPoint) → Connected came a
    → Chain (ends came a) b w → Chain came (a ++ b) w
chain_both came a b w h k = record {
  inner = connected_both came a b h k.inner;
  exits = λ u e l. ends_both came a b ∙ k.exits u e l;
}

rest_chain : (came : Bool) (emit : ProgramPoint → List PlacedInstr) (jump_past : ProgramPoint → Option ProgramPoint)
    (w : Option ProgramPoint) →
    ((u : ProgramPoint) → Follows came u → Chain came (emit u) (jump_past u))
    → ((u : ProgramPoint) → w ≡ Some u → Follows came u) →
    Chain came (onward w [] emit) (onward w None jump_past)
rest_chain came emit jump_past None ih h = record { inner = tt; exits = λ u e. cc }
rest_chain came emit jump_past (Some s) ih h = ih s (h s refl)

labelled_follows : (came : Bool) (u : ProgramPoint) → u.labelled ≡ true → Follows came u
labelled_follows came u e h = let f : true ≡ false = sym e ∙ h in cc

meet_follows : (came : Bool) (v : Option ProgramPoint) (s u : ProgramPoint) → meet v (Some s) ≡ Some u → Follows came u
meet_follows came None s u e h = cc
meet_follows came (Some t) s u e h = cc

join_follows : (came : Bool) (v w : Option ProgramPoint) → ((u : ProgramPoint) → w ≡ Some u → Follows came u)
    → (u : ProgramPoint) → join v w ≡ Some u → Follows came u
join_follows came None w k u e h = k u e h
join_follows came (Some s) None k u e h = cc
join_follows came (Some s) (Some t) k u e h = cc

head_follows : (came : Bool) (f : Bool) (s : ProgramPoint) → Follows came s
    → Follows came (record { flow = s.flow; labelled = if f then true else s.labelled })
head_follows came true s h e = cc
head_follows came false s h e = h e

act_continues : (a : Act) → continues (instr_of_act a) ≡ true
act_continues (Edits edit) = refl
act_continues (Waits frames) = refl
act_continues (WaitsContact contact closed) = refl
act_continues (WaitsUntil moment) = refl
act_continues (WaitsAny all) = refl
act_continues (CommitsIn delay) = refl
act_continues (CommitsAt count) = refl
act_continues Joins = refl
act_continues Settles = refl

test_continues : (c : Condition) (target : ℕ) → continues (test_of c target) ≡ true
test_continues (IfContact contact) target = refl
test_continues (IfTime from until) target = refl

jump_chain : (came : Bool) (line to r : ℕ) (w : Option ProgramPoint)
    → ((u : ProgramPoint) → w ≡ Some u → Follows came u) → Connected came (onward w [] (alone line (Jump to) r))
jump_chain came line to r None h = tt
jump_chain came line to r (Some u) h = (h u refl, tt)

pub chain : (plan : Plan) (b : Block) (r pc : ℕ) (s : ProgramPoint) (came : Bool) → Follows came s
    → Chain came (places plan r pc b s) (point_after plan b s)
chain plan nothing r pc s came h =
    record { inner = tt; exits = λ u e l. h (ap (λ (x : ProgramPoint). x.labelled) (same_Some s u e) ∙ l) }
chain plan (basic line act rest) r pc s came h =
    let ih = chain plan rest r (pc + 1) (without_label (after_instr plan (instr_of_act act) s.flow))
    (continues (instr_of_act act)) (λ e. act_continues act) in
    record { inner = (h, ih.inner); exits = ih.exits }
chain plan (stop line rest) r pc s came h = record { inner = (h, tt); exits = λ u e. cc }
chain plan (when line c first rest) r pc s came h =
    let firsts = places plan r (pc + 1) first (without_label s.flow) in
    let a = point_after plan first (without_label s.flow) in
    let end = pc + 1 + length firsts in
    let goes = continues (test_of c end) in
    let front = chain plan first r (pc + 1) (without_label s.flow) goes (λ e. test_continues c end) in
    let back = rest_chain _ (λ u. places plan r end rest u) (λ u. point_after plan rest u) _
    (λ u k. chain plan rest r end u (ends goes firsts) k) (λ u e. meet_follows _ a s u e) in
    let both = chain_both goes firsts _ _ front.inner back in
    record { inner = (h, both.inner); exits = both.exits }
chain plan (either line c first second rest) r pc s came h =
    let firsts = places plan r (pc + 1) first (without_label s.flow) in
    let a = point_after plan first (without_label s.flow) in
    let start = pc + 1 + length firsts + (if falls_out first then 1 else 0) in
    let seconds = places plan r start second (at_label s.flow) in
    let b = point_after plan second (at_label s.flow) in
    let end = start + length seconds in
    let jumps = onward a [] (alone line (Jump end) r) in
    let goes = continues (test_of c start) in
    let front = chain plan first r (pc + 1) (without_label s.flow) goes (λ e. test_continues c start) in
    let jump = jump_chain (ends goes firsts) line end r a front.exits in
    let come = ends (ends goes firsts) jumps in
    let middle = chain plan second r start (at_label s.flow) come (labelled_follows come (at_label s.flow) refl) in
    let back = rest_chain (ends come seconds) (λ u. places plan r end rest u) (λ u. point_after plan rest u) (join a b)
    (λ u k. chain plan rest r end u (ends come seconds) k) (join_follows (ends come seconds) a b middle.exits) in
    let both = chain_both _ _ _ _ front.inner (chain_both _ _ _ _ jump (chain_both _ _ _ _ middle.inner back)) in
    record { inner = (h, both.inner); exits = both.exits }
chain plan (repeat line n body rest) r pc s came h =
    let start = head body (without_label s.flow) in
    let bodies = places plan (r + 1) (pc + 1) body start in
    let a = point_after plan body start in
    let end = pc + 1 + length bodies in
    let front = chain plan body (r + 1) (pc + 1) start true (λ e. refl) in
    let back = rest_chain (ends true bodies) (λ u. placed_instr line (Loop r (pc + 1)) (r + 1) u
    ∷ places plan r (end + 1) rest (without_label u.flow)) (λ u. point_after plan rest (without_label u.flow)) a
    (λ u k. let ih = chain plan rest r (end + 1) (without_label u.flow) true (λ e. refl) in
    record { inner = (k, ih.inner); exits = ih.exits }) front.exits in
    let both = chain_both true bodies _ _ front.inner back in
    record { inner = (h, both.inner); exits = both.exits }
chain plan (forever line body rest) r pc s came h =
    let start = head body s in
    let bodies = places plan r pc body start in
    let front = chain plan body r pc start came (head_follows came (falls_out body) s h) in
    record {
      inner = connected_both _ _ _ front.inner (jump_chain _ _ _ _ _ front.exits);
      exits = λ u e. cc;
    }
chain plan (apply line k named rest) r pc s came h =
    let names = places plan r pc named s in
    let end = pc + length names in
    let front = chain plan named r pc s came h in
    let come = ends came names in
    let back = rest_chain come (λ u. places plan r end rest u) (λ u. point_after plan rest u) (point_after plan named s)
    (λ u k. chain plan rest r end u come k) front.exits in
    chain_both came names _ _ front.inner back

pub all_connected : (plan : Plan) (last : ℕ) (b : Block) (s : ProgramPoint) → s.labelled ≡ true
    → Connected false (all_places plan last b s)
all_connected plan last b s e =
    let whole = chain plan b 0 0 s false (labelled_follows false s e) in
    connected_both false (places plan 0 0 b s) _ whole.inner
    (ending (ends false (places plan 0 0 b s)) (point_after plan b s) whole.exits)
  where
    ending : (came : Bool) (w : Option ProgramPoint) → ((u : ProgramPoint) → w ≡ Some u → Follows came u)
        → Connected came (onward w [] (alone last End 0))
    ending came None h = tt
    ending came (Some u) h = (h u refl, tt)
