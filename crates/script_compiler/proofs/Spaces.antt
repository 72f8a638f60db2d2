-- Room for the code still to be emitted, and for labels at numbered configurations.
use Rattle.script_compiler.proofs.Words.{[], ◌++◌, ◌+◌, ◌<◌, ◌∙◌, ◌∷◌, ◌≡◌, ◌≤◌, Added, Block, Bool, Cause, CodeLimit}
use Rattle.script_compiler.proofs.Words.{CompileFault, Configuration, Configurations, Counters, Covers, Emits, Err}
use Rattle.script_compiler.proofs.Words.{FitsFlow, FitsSwap, Flow, HasRoomFor, HasSpace, HasTable, Idle, IfErr, IfLimit}
use Rattle.script_compiler.proofs.Words.{IfRefused, IndexedLabel, IndexedPoint, Instr, Instructions, IsCovered}
use Rattle.script_compiler.proofs.Words.{IsInTable, IsLimitAt, Jump, Labels, Leaves, Limit, List, Memory, None, Ok}
use Rattle.script_compiler.proofs.Words.{Option, Perhaps, PlacedInstr, Plan, ProgramPoint, Refused, Result, Some, Swap}
use Rattle.script_compiler.proofs.Words.{Tabled, UnpricedLabel, UnpricedTable, Within, Work, alone, ap, append_assoc}
use Rattle.script_compiler.proofs.Words.{arith, at_label, configuration_at, count_of_labels, false, if◌then◌else◌, inl}
use Rattle.script_compiler.proofs.Words.{inr, is_some, jumping, known_at, length, length-append, lines_of_placed, meet}
use Rattle.script_compiler.proofs.Words.{merged, named_by, names_of, onward, placed_instr, places, point_after}
use Rattle.script_compiler.proofs.Words.{point_in, refl, slice_get, subst, suc, sym, true, unpriced_in, unpriced_labels}
use Rattle.script_compiler.proofs.Words.{way, zero, ℕ}
use Rattle.script_compiler.proofs.Places.{first_of}
use Rattle.script_compiler.proofs.Emitted.{laid_length, length_lines}
use Rattle.script_compiler.proofs.Labelling.{tabled_more, mark_is, one_mark}
use Rattle.script_compiler.proofs.Rooms.{stays, room_fewer, room_added, named_both, leaves_mark, leaves_both}

-- ---- room for the code still to be emitted

-- ---- labels of instructions

labels_by : (b : Bool) (k n : ℕ) → (if b then 1 + (k + n) else (k + n)) ≡ (if b then 1 + k else k) + n
labels_by true k n = omega arith
labels_by false k n = refl

labels_both : (ps qs : List PlacedInstr) → count_of_labels (ps ++ qs) ≡ count_of_labels ps + count_of_labels qs
labels_both [] qs = omega arith
labels_both (p ∷ ps) qs = cc (labels_both ps qs, labels_by p.point.labelled (count_of_labels ps) (count_of_labels qs))

names_by : (b : Bool) (x y : Configuration) (xs ys : List Configuration)
    → (if b then x ∷ y ∷ (xs ++ ys) else (xs ++ ys)) ≡ (if b then x ∷ y ∷ xs else xs) ++ ys
names_by true x y xs ys = refl
names_by false x y xs ys = refl

names_both : (ps qs : List PlacedInstr) → names_of (ps ++ qs) ≡ names_of ps ++ names_of qs
names_both [] qs = refl
names_both (p ∷ ps) qs =
    cc (names_both ps qs, names_by p.point.labelled p.point.flow.current p.point.flow.next (names_of ps) (names_of qs))

count_by : (b : Bool) (m : UnpricedLabel) (ms : List UnpricedLabel) (n : ℕ) → length ms ≡ n
    → length (if b then m ∷ ms else ms) ≡ (if b then 1 + n else n)
count_by true m ms n e = omega (arith, e)
count_by false m ms n e = e

pub marks_count : (pc : ℕ) (ps : List PlacedInstr) → length (unpriced_labels pc ps) ≡ count_of_labels ps
marks_count pc [] = refl
marks_count pc (p ∷ ps) = count_by _ _ _ _ (marks_count (pc + 1) ps)

named_if : (b : Bool) (m : UnpricedLabel) (ms : List UnpricedLabel) (xs : List Configuration) → named_by ms ≡ xs
    → named_by (if b then m ∷ ms else ms) ≡ (if b then m.flow.current ∷ m.flow.next ∷ xs else xs)
named_if true m ms xs e = ap (λ zs. m.flow.current ∷ m.flow.next ∷ zs) e
named_if false m ms xs e = e

pub marks_named : (pc : ℕ) (ps : List PlacedInstr) → named_by (unpriced_labels pc ps) ≡ names_of ps
marks_named pc [] = refl
marks_named pc (p ∷ ps) = named_if _ _ _ _ (marks_named (pc + 1) ps)

-- ---- after part of what there was room for has been emitted

pub space_from : (k : CodeLimit) (v w : Work) (n : ℕ) (ps qs : List PlacedInstr)
    → length w.lines.items ≡ length v.lines.items + length ps → w.unpriced.items ≡ v.unpriced.items
    ++ unpriced_labels n ps → HasSpace k v (ps ++ qs) → HasSpace k w qs
space_from Instructions v w n ps qs lines unpriced h = let a = length-append ps qs in omega (arith, h, a, lines)
space_from Labels v w n ps qs lines unpriced h =
    let a = labels_both ps qs in let m = ap length unpriced ∙ length-append v.unpriced.items (unpriced_labels n ps) in
    let c = marks_count n ps in omega (arith, h, a, m, c)
space_from Configurations v w n ps qs lines unpriced h =
    let e : named_by v.unpriced.items ++ names_of (ps ++ qs) ≡ named_by w.unpriced.items ++ names_of qs =
    ap (λ xs. named_by v.unpriced.items ++ xs) (names_both ps qs)
    ∙ sym (append_assoc (named_by v.unpriced.items) (names_of ps) (names_of qs))
    ∙ ap (λ xs. (named_by v.unpriced.items ++ xs) ++ names_of qs) (sym (marks_named n ps))
    ∙ ap (λ xs. xs ++ names_of qs) (sym (named_both v.unpriced.items (unpriced_labels n ps)))
    ∙ ap (λ ms. named_by ms ++ names_of qs) (sym unpriced) in
    subst (λ cs. HasRoomFor [] cs) e h
space_from Counters v w n ps qs lines unpriced h = tt

pub space_after : (k : CodeLimit) (v w : Work) (ps qs : List PlacedInstr) → Emits v w ps → HasSpace k v (ps ++ qs)
    → HasSpace k w qs
space_after k v w ps qs l h = space_from k v w (length v.lines.items) ps qs (laid_length v w ps l) l.unpriced h

-- only the program point of an instruction counts
pub space_spot : (k : CodeLimit) (w : Work) (p q : PlacedInstr) (ps : List PlacedInstr) → p.point ≡ q.point
    → HasSpace k w (p ∷ ps) → HasSpace k w (q ∷ ps)
space_spot Instructions w p q ps e h = h
space_spot Labels w p q ps e h =
    omega (arith, h, ap (λ (s : ProgramPoint). if s.labelled then 1 + count_of_labels ps else count_of_labels ps) e)
space_spot Configurations w p q ps e h =
    let names : names_of (p ∷ ps) ≡ names_of (q ∷ ps) =
    ap (λ (s : ProgramPoint). if s.labelled then s.flow.current ∷ s.flow.next ∷ names_of ps else names_of ps) e in
    subst (λ cs. HasRoomFor [] (named_by w.unpriced.items ++ cs)) names h
space_spot Counters w p q ps e h = tt

pub space_one : (k : CodeLimit) (v w : Work) (n : ℕ) (line r : ℕ) (i : Instr) (p : PlacedInstr) (ps : List PlacedInstr)
    → p.point ≡ v.now → length w.lines.items ≡ length v.lines.items + 1 → w.unpriced.items ≡ v.unpriced.items
    ++ unpriced_labels n (alone line i r v.now) → HasSpace k v (p ∷ ps) → HasSpace k w ps
space_one k v w n line r i p ps e lines unpriced h =
    space_from k v w n (alone line i r v.now) ps lines unpriced (space_spot k v p (placed_instr line i r v.now) ps e h)

-- the same instructions and labels
pub space_as : (k : CodeLimit) (v w : Work) (ps : List PlacedInstr) → length w.lines.items ≡ length v.lines.items
    → w.unpriced.items ≡ v.unpriced.items → HasSpace k v ps → HasSpace k w ps
space_as Instructions v w ps lines unpriced h = omega (arith, h, lines)
space_as Labels v w ps lines unpriced h = let m = ap length unpriced in omega (arith, h, m)
space_as Configurations v w ps lines unpriced h = rw unpriced h
space_as Counters v w ps lines unpriced h = tt

pub space_onward : (k : CodeLimit) (w : Work) (line line' r r' : ℕ) (i j : Instr) (a : Option ProgramPoint)
    (ps : List PlacedInstr) → HasSpace k w (onward a [] (alone line i r) ++ ps)
    → HasSpace k w (onward a [] (alone line' j r') ++ ps)
space_onward k w line line' r r' i j None ps h = h
space_onward k w line line' r r' i j (Some s) ps h = space_spot _ _ _ _ _ refl h

-- ---- labels that are required

pub covered_here : (s : ProgramPoint) (p : PlacedInstr) (ps : List PlacedInstr) → p.point ≡ s → Covers s (p ∷ ps)
covered_here s p ps e = λ l. record {
  place = p;
  rest = ps;
  is = refl;
  labelled = ap (λ (t : ProgramPoint). t.labelled) e ∙ l;
  names = λ c h. subst (λ (t : ProgramPoint). IsInTable c (t.flow.current ∷ t.flow.next ∷ [])) (sym e) h;
}

pub some_of : (w : Option ProgramPoint) → true ≡ is_some w → (s : ProgramPoint) × (w ≡ Some s)
some_of None e = absurd cc
some_of (Some s) e = (s, refl)

pub met_labelled : (v : Option ProgramPoint) (t u : ProgramPoint) → meet v (Some t) ≡ Some u → u.labelled ≡ true
met_labelled None t u e = let is : at_label t.flow ≡ u = cc in ap (λ (s : ProgramPoint). s.labelled) (sym is)
met_labelled (Some s) t u e = let is : at_label (merged s.flow t.flow) ≡ u = cc in
    ap (λ (s : ProgramPoint). s.labelled) (sym is)

-- a flow that fits another one has no configurations that the other lacks
two_same : (a b x y : Configuration) → a ≡ x → b ≡ y → (c : Configuration) → IsInTable c (a ∷ b ∷ [])
    → IsInTable c (x ∷ y ∷ [])
two_same a b x y e f c h = subst (λ z. IsInTable c (x ∷ z ∷ [])) f (subst (λ z. IsInTable c (z ∷ b ∷ [])) e h)

two_next : (a b x y : Configuration) → a ≡ y → b ≡ y → (c : Configuration) → IsInTable c (a ∷ b ∷ [])
    → IsInTable c (x ∷ y ∷ [])
two_next a b x y e f c h = by h.0 h.1
  where
    by : (i : ℕ) → slice_get (a ∷ b ∷ []) i ≡ Some c → IsInTable c (x ∷ y ∷ [])
    by zero k = (1, ap (λ z. Some z) (sym e) ∙ k)
    by (suc zero) k = (1, ap (λ z. Some z) (sym f) ∙ k)
    by (suc (suc i)) k = absurd (none_here i k)
      where
        none_here : (i : ℕ) → slice_get [] i ≡ Some c → ⊥
        none_here i k = cc

swap_names : (p q : Swap) (s t : Flow) → FitsSwap p q (known_at s) (known_at t) → (c : Configuration)
    → IsInTable c (s.current ∷ s.next ∷ []) → IsInTable c (t.current ∷ t.next ∷ [])
swap_names Idle Idle s t h = two_same s.current s.next t.current t.next h.0 h.1
swap_names Idle (Within low high) s t h = absurd h
swap_names Idle (Perhaps high) s t h = two_next s.current s.next t.current t.next h.0 h.1
swap_names (Within lo hi) Idle s t h = absurd h
swap_names (Within lo hi) (Within low high) s t h = two_same s.current s.next t.current t.next h.0.0 h.0.1
swap_names (Within lo hi) (Perhaps high) s t h = two_same s.current s.next t.current t.next h.0.0 h.0.1
swap_names (Perhaps hi) Idle s t h = absurd h
swap_names (Perhaps hi) (Within low high) s t h = absurd h
swap_names (Perhaps hi) (Perhaps high) s t h = two_same s.current s.next t.current t.next h.0.0 h.0.1

pub covered_fits : (s t : Flow) (ps : List PlacedInstr) → FitsFlow s t → IsCovered t ps → IsCovered s ps
covered_fits s t ps fits h = record {
  place = h.place;
  rest = h.rest;
  is = h.is;
  labelled = h.labelled;
  names = λ c k. h.names c (swap_names s.pending t.pending s t fits c k);
}

stands_more : (a b c : Configuration) (more : List Configuration) → IsInTable c (a ∷ b ∷ [])
    → IsInTable c (a ∷ b ∷ more)
stands_more a b c more h = (h.0, stays (a ∷ b ∷ []) more h.0 c h.1)

-- a label before a block is that of its first instruction, or of what follows it
pub covers_block : (plan : Plan) (r pc : ℕ) (b : Block) (s : ProgramPoint) (more : List PlacedInstr)
    → ((u : ProgramPoint) → point_after plan b s ≡ Some u → Covers u more) → Covers s (places plan r pc b s ++ more)
covers_block plan r pc b s more onward_to = λ l. elim (first_of plan r pc b s) [
  | inl none ↦ subst (λ ps. IsCovered s.flow (ps ++ more)) (sym none.0) (onward_to s none.1 l)
  | inr some ↦ record {
    place = some.place;
    rest = some.rest ++ more;
    is = ap (λ ps. ps ++ more) some.is;
    labelled = some.labelled l;
    names = λ c h. subst (λ (t : Flow). IsInTable c (t.current ∷ t.next ∷ [])) (sym some.flow) h;
  }
]

-- ---- after a label is emitted

-- and for the configurations that it names
pub room_names : (w : Work) (t : Flow) (ps : List PlacedInstr) → HasTable w → IsCovered t ps
    → HasSpace Configurations w ps → HasRoomFor w.unpriced.table (t.current ∷ t.next ∷ [])
room_names w t ps table cover h =
    let p = cover.place in
    let more = names_of cover.rest in
    let e : names_of ps ≡ p.point.flow.current ∷ p.point.flow.next ∷ more = cc (cover.is, cover.labelled) in
    let room : HasRoomFor w.unpriced.table (p.point.flow.current ∷ p.point.flow.next ∷ more) =
    table.room (p.point.flow.current ∷ p.point.flow.next ∷ more) (rw (← e) h) in
    room_fewer w.unpriced.table (t.current ∷ t.next ∷ []) (p.point.flow.current ∷ p.point.flow.next ∷ more)
    (λ c k. stands_more p.point.flow.current p.point.flow.next c more (cover.names c k)) room

-- the table after a label
pub table_mark : (v w : Work) (one : List Configuration) (m : UnpricedLabel) → Added m.flow.current v.unpriced.table one
    → Added m.flow.next one w.unpriced.table → w.unpriced.items ≡ v.unpriced.items ++ m ∷ []
    → length w.unpriced.table ≤ 256 → length v.unpriced.items < 1024 → HasTable v → HasTable w
table_mark v w one m a b e few fewer table = record {
  few = few;
  labels = let n = ap length e ∙ length-append v.unpriced.items (m ∷ []) in omega (arith, n, fewer);
  room =
      subst (λ ms. Leaves [] w.unpriced.table ms) (sym e) (leaves_both [] _ _ _ _ table.room
      (leaves_mark m _ one _ a b));
  tabled = rw e (tabled_more v.unpriced.table one w.unpriced.table v.unpriced.items m [] table.tabled a b);
}

-- ---- one of two configurations

pub room_left : (table : List Configuration) (a b : Configuration) → HasRoomFor table (a ∷ b ∷ [])
    → HasRoomFor table (a ∷ [])
room_left table a b room = room_fewer table (a ∷ []) (a ∷ b ∷ []) (λ c h. (h.0, stays (a ∷ []) (b ∷ []) h.0 c h.1)) room

pub room_right : (table : List Configuration) (a b : Configuration) → HasRoomFor table (a ∷ b ∷ [])
    → HasRoomFor table (b ∷ [])
room_right table a b room = room_fewer table (b ∷ []) (a ∷ b ∷ []) (λ c h. (suc h.0, h.1)) room

pub room_next : (table one : List Configuration) (a b : Configuration) → Added a table one
    → HasRoomFor table (a ∷ b ∷ []) → HasRoomFor one (b ∷ [])
room_next table one a b added room = room_right one a b (room_added a table one (a ∷ b ∷ []) added (0, refl) room)

-- ---- a path that continues

-- if a fault is an exceeded limit
pub limit_map : (e : CompileFault) {P Q : ℕ → CodeLimit → Type 0} → ((at : ℕ) (k : CodeLimit) → P at k → Q at k)
    → IfLimit e P → IfLimit e Q
limit_map (Limit line k) m h = m line k h
limit_map _ m h = tt

-- a fault that is no refusal
pub limit_at_map : (e : CompileFault) (line : ℕ) {P Q : CodeLimit → Type 0} → ((k : CodeLimit) → P k → Q k)
    → IsLimitAt line P e → IsLimitAt line Q e
limit_at_map (Refused at cause) line m h = h
limit_at_map (Limit at k) line m h = (h.0, m k h.1)
limit_at_map Memory line m h = tt

pub limits_at_map : {A : Type 0} (x : Result A CompileFault) (line : ℕ) {P Q : CodeLimit → Type 0}
    → ((k : CodeLimit) → P k → Q k) → IfErr x (λ e. IsLimitAt line P e) → IfErr x (λ e. IsLimitAt line Q e)
limits_at_map (Ok a) line m h = h
limits_at_map (Err e) line m h = limit_at_map e line m h

pub limit_here : (e : CompileFault) (line : ℕ) {P Q : CodeLimit → Type 0} → ((k : CodeLimit) → P k → Q k)
    → IsLimitAt line P e → IfLimit e (λ at k. (at ≡ line) × Q k)
limit_here (Refused at cause) line m h = absurd h
limit_here (Limit at k) line m h = (h.0, m k h.1)
limit_here Memory line m h = tt

pub limits_here : {A : Type 0} (x : Result A CompileFault) (line : ℕ) {P Q : CodeLimit → Type 0}
    → ((k : CodeLimit) → P k → Q k) → IfErr x (λ e. IsLimitAt line P e)
    → IfErr x (λ e. IfLimit e (λ at k. (at ≡ line) × Q k))
limits_here (Ok a) line m h = h
limits_here (Err e) line m h = limit_here e line m h

pub never_refused : (e : CompileFault) (line : ℕ) (P : CodeLimit → Type 0) (Q : ℕ → Cause → Type 0) → IsLimitAt line P e
    → IfRefused e Q
never_refused (Refused at cause) line P Q h = absurd h
never_refused _ line P Q h = tt

pub none_refused : {A : Type 0} (x : Result A CompileFault) (line : ℕ) (P : CodeLimit → Type 0) (Q : ℕ → Cause → Type 0)
    → IfErr x (λ e. IsLimitAt line P e) → IfErr x (λ e. IfRefused e Q)
none_refused (Ok a) line P Q h = h
none_refused (Err e) line P Q h = never_refused e line P Q h

pub space_back : (k : CodeLimit) (w : Work) (falls : Bool) (m n : ℕ) (i : Instr) (ps : List PlacedInstr) → falls ≡ true
    → HasSpace k w (onward (way falls w) [] (alone m i n) ++ ps) → HasSpace k w (placed_instr m i n w.now ∷ ps)
space_back k w falls m n i ps e h = subst (λ f. HasSpace k w (onward (way f w) [] (alone m i n) ++ ps)) e h

pub space_end : (k : CodeLimit) (w : Work) (falls : Bool) (m n : ℕ) (i : Instr) → falls ≡ true
    → HasSpace k w (onward (way falls w) [] (alone m i n)) → HasSpace k w (placed_instr m i n w.now ∷ [])
space_end k w falls m n i e h = subst (λ f. HasSpace k w (onward (way f w) [] (alone m i n))) e h

-- after the jump at the end of a first branch
pub space_left : (k : CodeLimit) (v w : Work) (falls : Bool) (line r m n : ℕ) (i : Instr) (ps : List PlacedInstr)
    → length w.lines.items ≡ length v.lines.items + length (lines_of_placed (jumping falls line r v))
    → w.unpriced.items ≡ v.unpriced.items ++ unpriced_labels (length v.lines.items) (jumping falls line r v)
    → HasSpace k v (onward (way falls v) [] (alone m i n) ++ ps) → HasSpace k w ps
space_left k v w falls line r m n i ps lines unpriced h =
    space_from k v w (length v.lines.items) (jumping falls line r v) ps
    (let n = length_lines (jumping falls line r v) in omega (arith, lines, n)) unpriced
    (space_onward k v m line n r i (Jump 0) (way falls v) ps h)

pub none_of : {A : Type 0} (x : Option A) → is_some x ≡ false → x ≡ None
none_of None e = refl
none_of (Some a) e = cc

pub space_restored : (k : CodeLimit) (v w : Work) (falls : Bool) (m n : ℕ) (i : Instr) (ps : List PlacedInstr)
    → v.lines ≡ w.lines → v.unpriced ≡ w.unpriced → v.now ≡ w.now
    → HasSpace k w (onward (way falls w) [] (alone m i n) ++ ps)
    → HasSpace k v (onward (way falls v) [] (alone m i n) ++ ps)
space_restored k v w falls m n i ps lines unpriced now h =
    let there = space_as _ _ _ _ (ap (λ x. length x.items) lines) (ap (λ x. x.items) unpriced) h in
    subst (λ (s : ProgramPoint). HasSpace k v (onward (if falls then Some s else None) [] (alone m i n) ++ ps))
    (sym now) there

-- ---- what a label emitted at a program point with numbered configurations is

pub table_as : (v w : Work) → w.unpriced ≡ v.unpriced → HasTable v → HasTable w
table_as v w e h = record {
  few = subst (λ (m : UnpricedTable). length m.table ≤ 256) (sym e) h.few;
  labels = subst (λ (m : UnpricedTable). length m.items ≤ 1024) (sym e) h.labels;
  room = subst (λ (m : UnpricedTable). Leaves [] m.table m.items) (sym e) h.room;
  tabled = subst (λ (m : UnpricedTable). Tabled [] m.items m.table) (sym e) h.tabled;
}

-- the table has room for the configurations of a label at the current point
pub room_here : (w : Work) (s : IndexedPoint) (ps : List PlacedInstr) → point_in w.pool s ≡ w.now → HasTable w
    → IsCovered w.now.flow ps → HasSpace Configurations w ps
    → HasRoomFor w.unpriced.table (configuration_at w.pool s.flow.current ∷ configuration_at w.pool s.flow.next ∷ [])
room_here w s ps same table cover space =
    subst (λ (x : ProgramPoint). HasRoomFor w.unpriced.table (x.flow.current ∷ x.flow.next ∷ [])) (sym same)
    (room_names w w.now.flow ps table cover space)

abbrev pub mark_with : ℕ → ℕ → ProgramPoint → UnpricedLabel
mark_with pc r s = record { pc = pc; flow = s.flow; repeats = r }

abbrev pub short_with : ℕ → ℕ → ℕ → ℕ → IndexedPoint → IndexedLabel
short_with pc cur next r s = record { pc = pc; cur = cur; next = next; pending = s.flow.pending; repeats = r }

-- the unpriced label that was added is that of the current point
pub marked_as : (w : Work) (s : IndexedPoint) (table : List Configuration) (cur next pc r : ℕ)
    (items : List UnpricedLabel) → point_in w.pool s ≡ w.now
    → slice_get table cur ≡ Some (configuration_at w.pool s.flow.current)
    → slice_get table next ≡ Some (configuration_at w.pool s.flow.next)
    → items ≡ w.unpriced.items ++ unpriced_in table (short_with pc cur next r s) ∷ [] → items ≡ w.unpriced.items
    ++ mark_with pc r w.now ∷ []
marked_as w s table cur next pc r items same e f is =
    is ∙ ap (λ (m : UnpricedLabel). w.unpriced.items ++ m ∷ [])
    (mark_is table (short_with pc cur next r s) (configuration_at w.pool s.flow.current)
    (configuration_at w.pool s.flow.next) e f)
    ∙ ap (λ (x : ProgramPoint). w.unpriced.items ++ mark_with pc r x ∷ []) same

pub marked_here : (w : Work) (pc r line : ℕ) (i : Instr) (items : List UnpricedLabel) → w.now.labelled ≡ true
    → pc ≡ length w.lines.items
    → items ≡ w.unpriced.items ++ mark_with pc r w.now ∷ [] → items ≡ w.unpriced.items
    ++ unpriced_labels (length w.lines.items) (alone line i r w.now)
marked_here w pc r line i items labelled at is =
    cc (is, one_mark (length w.lines.items) pc (placed_instr line i r w.now) labelled at)
