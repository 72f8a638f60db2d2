-- Labels and configurations by their numbers: in a pool, and in the table.
use Rattle.script_compiler.proofs.Words.{[], ◌++◌, ◌+◌, ◌<◌, ◌∙◌, ◌∷◌, ◌≡◌, ◌≢◌, ◌≤◌, ◌⊎◌, Added, AreBelow, AreInPool}
use Rattle.script_compiler.proofs.Words.{AreInTable, AreLabelsOf, AreShallow, Bool, CompileFault, Configuration, Err}
use Rattle.script_compiler.proofs.Words.{Extends, Flow, IfErr, IfOk, IndexedLabel, IndexedPoint, IsDeepAtMost}
use Rattle.script_compiler.proofs.Words.{IsDistinct, IsInPool, IsTracked, Label, List, None, Ok, OnOk, Option}
use Rattle.script_compiler.proofs.Words.{PlacedInstr, Priced, ProgramPoint, Result, Some, Tabled, UnpricedLabel, ap}
use Rattle.script_compiler.proofs.Words.{arith, configuration_at, drop, flow_at, get_or, get_or_from_slice_get}
use Rattle.script_compiler.proofs.Words.{if◌then◌else◌, inl, inr, length, length-append, map, mix, mix_all, point_in}
use Rattle.script_compiler.proofs.Words.{priced_label, print_of, refl, slice_get, slice_get-get_or, slice_index, subst}
use Rattle.script_compiler.proofs.Words.{suc, sym, take, true, unpriced_in, unpriced_label, unpriced_labels, zero, ℕ}
use Rattle.mux_types.proofs.Walking.{cut, walked}
use Rattle.mux_config.specs.Configuration.{nothing}
use Rattle.plan_verifier.specs.declared.indices.IndexedFlow.{IndexedFlow}
use Rattle.plan_verifier.specs.declared.tracked.TrackedFlow.{TrackedFlow}
use Rattle.plan_verifier.specs.Indexed.{IsAt}
use Rattle.script_compiler.proofs.Rooms.{stays}

-- ---- unpriced labels with the indices of their configurations in a table, and the labels that they become

-- ---- configurations by index

pub at_within : (xs : List Configuration) (i : ℕ) → i < length xs → slice_get xs i ≡ Some (configuration_at xs i)
at_within xs i lt = slice_get-get_or xs i nothing lt

pub at_some : (xs : List Configuration) (i : ℕ) (c : Configuration) → slice_get xs i ≡ Some c
    → configuration_at xs i ≡ c
at_some xs i c e = get_or_from_slice_get xs i c nothing e

pub at_more : (xs ys : List Configuration) (i : ℕ) → i < length xs
    → configuration_at (xs ++ ys) i ≡ configuration_at xs i
at_more [] ys i lt = absurd (omega (arith, lt))
at_more (x ∷ xs) ys zero lt = refl
at_more (x ∷ xs) ys (suc i) lt = at_more xs ys i (omega (arith, lt))

-- ---- unpriced labels in a table that has grown

mark_as : (m : IndexedLabel) (a b c d : Configuration) → a ≡ c → b ≡ d
    → (let x : UnpricedLabel = record {
      pc = m.pc;
      flow = record { current = a; next = b; pending = m.pending };
      repeats = m.repeats;
    } in x) ≡ record {
      pc = m.pc;
      flow = record { current = c; next = d; pending = m.pending };
      repeats = m.repeats;
    }
mark_as m a b c d e f =
    ap (λ (z : Configuration). let x : UnpricedLabel =
    record { pc = m.pc; flow = record { current = z; next = b; pending = m.pending }; repeats = m.repeats } in x) e
    ∙ ap (λ (z : Configuration). let x : UnpricedLabel =
    record { pc = m.pc; flow = record { current = c; next = z; pending = m.pending }; repeats = m.repeats } in x) f

pub marks_more : (table more : List Configuration) (ms : List IndexedLabel) → AreInTable (length table) ms
    → map (unpriced_in (table ++ more)) ms ≡ map (unpriced_in table) ms
marks_more table more [] h = refl
marks_more table more (m ∷ ms) h =
    let one = mark_as m _ _ _ _ (at_more table more m.cur h.0) (at_more table more m.next h.1) in
    let rest = marks_more table more ms h.2 in
    cc (one, rest)

pub within_more : (n k : ℕ) (ms : List IndexedLabel) → n ≤ k → AreInTable n ms → AreInTable k ms
within_more n k [] le h = tt
within_more n k (m ∷ ms) le h =
    (let a = h.0 in omega (arith, a, le), let b = h.1 in omega (arith, b, le), within_more n k ms le h.2)

pub within_push : (n : ℕ) (ms : List IndexedLabel) (m : IndexedLabel) → m.cur < n → m.next < n → AreInTable n ms
    → AreInTable n (ms ++ m ∷ [])
within_push n [] m cur next h = (cur, next, tt)
within_push n (x ∷ ms) m cur next h = (h.0, h.1, within_push n ms m cur next h.2)

pub added_marks : (c : Configuration) (table new : List Configuration) (ms : List IndexedLabel) → Added c table new
    → AreInTable (length table) ms → map (unpriced_in new) ms ≡ map (unpriced_in table) ms
added_marks c table new ms (inl old) h = ap (λ (t : List Configuration). map (unpriced_in t) ms) old.1
added_marks c table new ms (inr fresh) h = cc (fresh.1, marks_more table (c ∷ []) ms h)

pub added_within : (c : Configuration) (table new : List Configuration) (ms : List IndexedLabel) → Added c table new
    → AreInTable (length table) ms → AreInTable (length new) ms
added_within c table new ms (inl old) h = subst (λ (t : List Configuration). AreInTable (length t) ms) (sym old.1) h
added_within c table new ms (inr fresh) h =
    within_more (length table) (length new) ms (omega (arith, ap length fresh.1 ∙ length-append table (c ∷ []))) h

-- whether the configuration is added or refused
pub kept_marks : (x : Result ℕ CompileFault) (c : Configuration) (table new : List Configuration)
    (ms : List IndexedLabel) → OnOk x (Added c table new) → IfErr x (λ _. new ≡ table) → AreInTable (length table) ms
    → map (unpriced_in new) ms ≡ map (unpriced_in table) ms
kept_marks (Ok i) c table new ms added kept h = added_marks c table new ms added h
kept_marks (Err e) c table new ms added kept h = ap (λ (t : List Configuration). map (unpriced_in t) ms) kept

pub kept_within : (x : Result ℕ CompileFault) (c : Configuration) (table new : List Configuration)
    (ms : List IndexedLabel) → OnOk x (Added c table new) → IfErr x (λ _. new ≡ table) → AreInTable (length table) ms
    → AreInTable (length new) ms
kept_within (Ok i) c table new ms added kept h = added_within c table new ms added h
kept_within (Err e) c table new ms added kept h = rw kept h

-- ---- an unpriced label of two configurations in the table

pub grown : (c d : Configuration) (i : ℕ) (table new : List Configuration) → Added d table new
    → slice_get table i ≡ Some c → slice_get new i ≡ Some c
grown c d i table new (inl old) e = ap (λ (t : List Configuration). slice_get t i) old.1 ∙ e
grown c d i table new (inr fresh) e = cc (fresh.1, stays table (d ∷ []) i c e)

pub mark_is : (table : List Configuration) (m : IndexedLabel) (c d : Configuration) → slice_get table m.cur ≡ Some c
    → slice_get table m.next ≡ Some d → unpriced_in table m
    ≡ record { pc = m.pc; flow = record { current = c; next = d; pending = m.pending }; repeats = m.repeats }
mark_is table m c d e f = mark_as m _ _ _ _ (at_some table m.cur c e) (at_some table m.next d f)

-- it is the unpriced label of a labelled instruction
pub one_mark : (pc n : ℕ) (p : PlacedInstr) → p.point.labelled ≡ true → n ≡ pc
    → (let x : UnpricedLabel = record { pc = n; flow = p.point.flow; repeats = p.repeats } in x ∷ [])
    ≡ unpriced_labels pc (p ∷ [])
one_mark pc n p labelled e =
    ap (λ k. let x : UnpricedLabel = record { pc = k; flow = p.point.flow; repeats = p.repeats } in x ∷ []) e
    ∙ ap (λ (b : Bool). if b then unpriced_label pc p ∷ [] else []) (sym labelled)

-- the table of labels, with one more
pub tabled_more : (table one both : List Configuration) (ms : List UnpricedLabel) (m : UnpricedLabel)
    (start : List Configuration) → Tabled start ms table → Added m.flow.current table one → Added m.flow.next one both
    → Tabled start (ms ++ m ∷ []) both
tabled_more table one both [] m start t a b =
    (one, both, subst (λ (x : List Configuration). Added m.flow.current x one) t a, b, refl)
tabled_more table one both (x ∷ ms) m start t a b = (t.0, t.1, t.2, t.3, tabled_more table one both ms m t.1 t.4 a b)

-- ---- the labels of unpriced labels

pub labels_at : (table : List Configuration) (needs : List ℕ) (ms : List IndexedLabel) → AreInTable (length table) ms
    → AreLabelsOf table (map (unpriced_in table) ms) (map (priced_label needs) ms)
labels_at table needs [] h = refl
labels_at table needs (m ∷ ms) h = (
  record {
    place = refl;
    current = at_within table m.cur h.0;
    following = at_within table m.next h.1;
    pending = refl;
    counters = refl;
  },
  labels_at table needs ms h.2,
)

pub priced_at : (needs : List ℕ) (ms : List IndexedLabel) → Priced needs (map (priced_label needs) ms)
priced_at needs [] = λ l has. absurd (omega (arith, has.1))
priced_at needs (m ∷ ms) = λ l has. by (priced_at needs ms) l has.0 has.1 has.2
  where
    by : Priced needs (map (priced_label needs) ms) → (l : Label) (i : ℕ)
        → i < length (map (priced_label needs) (m ∷ ms)) → get_or (map (priced_label needs) (m ∷ ms)) i l ≡ l
        → l.cost ≡ slice_index needs l.pc
    by ih l zero lt e = subst (λ (y : Label). y.cost ≡ slice_index needs y.pc) e refl
    by ih l (suc i) lt e = ih l (i, omega (arith, lt), e)

pub shallow_marks : (table : List Configuration) (most : ℕ) (ms : List IndexedLabel)
    → IsDeepAtMost most (map (unpriced_in table) ms) → AreShallow most ms
shallow_marks table most [] h = tt
shallow_marks table most (m ∷ ms) h = (h.0, shallow_marks table most ms h.1)

pub shallow_at : (most : ℕ) (ms : List IndexedLabel) (k : ℕ) (d : IndexedLabel) → k < length ms → AreShallow most ms
    → (get_or ms k d).repeats ≤ most
shallow_at most [] k d lt h = absurd (omega (arith, lt))
shallow_at most (x ∷ xs) zero d lt h = h.0
shallow_at most (x ∷ xs) (suc k) d lt h = shallow_at most xs k d (omega (arith, lt)) h.1

pub ok_each : {A B : Type 0} (x : Result A B) {P Q : A → Type 0} → ((y : A) → P y → Q y) → IfOk x P → IfOk x Q
ok_each (Ok y) m h = m y h
ok_each (Err f) m h = h

-- ---- configurations by their numbers in a pool that grows at its end

-- ---- each configuration once

pub in_more : (xs : List Configuration) (c : Configuration) (i : ℕ) (d : Configuration)
    → slice_get (xs ++ c ∷ []) i ≡ Some d → (slice_get xs i ≡ Some d) ⊎ ((i ≡ length xs) × (d ≡ c))
in_more [] c zero d e = inr (refl, (let h : d ≡ c = cc in h))
in_more [] c (suc i) d e = cc
in_more (x ∷ xs) c zero d e = inl e
in_more (x ∷ xs) c (suc i) d e = elim (in_more xs c i d e) [ inl h ↦ inl h | inr h ↦ inr (ap (λ n. suc n) h.0, h.1) ]

pub distinct_more : (xs : List Configuration) (c : Configuration) → IsDistinct xs → ((i : ℕ) → slice_get xs i ≢ Some c)
    → IsDistinct (xs ++ c ∷ [])
distinct_more xs c once none i j d e f = elim (in_more xs c i d e) [
  | inl a ↦ elim (in_more xs c j d f) [ inl b ↦ once i j d a b | inr b ↦ absurd (none i (a ∙ ap Some b.1)) ]
  | inr a ↦ elim (in_more xs c j d f) [ inl b ↦ absurd (none j (b ∙ ap Some a.1)) | inr b ↦ a.0 ∙ sym b.0 ]
]

-- ---- a pool that has grown

pub extends_length : (xs ys : List Configuration) → Extends xs ys → length xs ≤ length ys
extends_length xs ys a = let e = ap length a.1 in let n = length-append xs a.0 in omega (arith, e, n)

pub stays_in : (xs ys : List Configuration) (i : ℕ) (c : Configuration) → Extends xs ys → slice_get xs i ≡ Some c
    → slice_get ys i ≡ Some c
stays_in xs ys i c a e = ap (λ (l : List Configuration). slice_get l i) a.1 ∙ stays xs a.0 i c e

pub at_in : (xs ys : List Configuration) (i : ℕ) → Extends xs ys → i < length xs
    → configuration_at ys i ≡ configuration_at xs i
at_in xs ys i a lt = ap (λ (l : List Configuration). configuration_at l i) a.1 ∙ at_more xs a.0 i lt

known_in : (xs ys : List Configuration) (known : Option ℕ) (c : Configuration) → Extends xs ys → IsAt xs known c
    → IsAt ys known c
known_in xs ys None c a h = h
known_in xs ys (Some k) c a h = stays_in xs ys k c a h

pub tracked_in : (xs ys : List Configuration) (f : TrackedFlow Configuration) → Extends xs ys → IsTracked (λ c. c) xs f
    → IsTracked (λ c. c) ys f
tracked_in xs ys f a h = (
  known_in xs ys f.indices.current f.flow.current a h.0,
  known_in xs ys f.indices.next f.flow.next a h.1,
)

-- ---- a table of configurations in the pool

pub table_in : (xs ys : List Configuration) (ks : List ℕ) → Extends xs ys → AreBelow (length xs) ks
    → map (configuration_at ys) ks ≡ map (configuration_at xs) ks
table_in xs ys [] a h = refl
table_in xs ys (k ∷ ks) a h = cc (at_in xs ys k a h.0, table_in xs ys ks a h.1)

pub below_more : (m n : ℕ) (ks : List ℕ) → m ≤ n → AreBelow m ks → AreBelow n ks
below_more m n [] le h = tt
below_more m n (k ∷ ks) le h = ((let lt = h.0 in omega (arith, lt, le)), below_more m n ks le h.1)

pub below_push : (n : ℕ) (ks : List ℕ) (k : ℕ) → k < n → AreBelow n ks → AreBelow n (ks ++ k ∷ [])
below_push n [] k lt h = (lt, tt)
below_push n (j ∷ ks) k lt h = (h.0, below_push n ks k lt h.1)

pub below_at : (n : ℕ) (ks : List ℕ) (i k : ℕ) → AreBelow n ks → slice_get ks i ≡ Some k → k < n
below_at n [] i k h e = cc
below_at n (j ∷ ks) zero k h e = (let same : j ≡ k = cc in subst (λ m. m < n) same h.0)
below_at n (j ∷ ks) (suc i) k h e = below_at n ks i k h.1 e

-- a configuration in the table has its number there
from_table : (xs : List Configuration) (ks : List ℕ) (i : ℕ) (c : Configuration)
    → slice_get (map (configuration_at xs) ks) i ≡ Some c → (k : ℕ) × (slice_get ks i ≡ Some k)
    × (configuration_at xs k ≡ c)
from_table xs [] i c e = cc
from_table xs (j ∷ ks) zero c e = (j, refl, (let h : configuration_at xs j ≡ c = cc in h))
from_table xs (j ∷ ks) (suc i) c e = from_table xs ks i c e

pub none_in_table : (xs : List Configuration) (ks : List ℕ) (k : ℕ) → IsDistinct xs → AreBelow (length xs) ks
    → k < length xs → ((i : ℕ) → slice_get ks i ≢ Some k) → (i : ℕ)
    → slice_get (map (configuration_at xs) ks) i ≢ Some (configuration_at xs k)
none_in_table xs ks k once below lt none i e =
    let f = from_table xs ks i (configuration_at xs k) e in
    let there = at_within xs f.0 (below_at (length xs) ks i f.0 below f.1) ∙ ap Some f.2 in
    none i (f.1 ∙ ap Some (once f.0 k (configuration_at xs k) there (at_within xs k lt)))

-- ---- program points

-- flows of equal configurations
flow_same : (f : IndexedFlow) (a b c d : Configuration) → a ≡ c → b ≡ d
    → (let t : Flow = record { current = a; next = b; pending = f.pending } in t)
    ≡ record { current = c; next = d; pending = f.pending }
flow_same f a b c d e g = λ i. record { current = e i; next = g i; pending = f.pending }

pub spot_same : (xs ys : List Configuration) (s : IndexedPoint) → Extends xs ys → IsInPool (length xs) s
    → point_in ys s ≡ point_in xs s
spot_same xs ys s a h =
    ap (λ (t : Flow). let u : ProgramPoint = record { flow = t; labelled = s.labelled } in u)
    (flow_same s.flow _ _ _ _ (at_in xs ys s.flow.current a h.0) (at_in xs ys s.flow.next a h.1))

pub in_pool : (xs ys : List Configuration) (s : IndexedPoint) → Extends xs ys → IsInPool (length xs) s
    → IsInPool (length ys) s
in_pool xs ys s a h = let n = extends_length xs ys a in
    ((let k = h.0 in omega (arith, k, n)), (let k = h.1 in omega (arith, k, n)))

pub all_in_pool : (xs ys : List Configuration) (ss : List IndexedPoint) → Extends xs ys → AreInPool (length xs) ss
    → AreInPool (length ys) ss
all_in_pool xs ys [] a h = tt
all_in_pool xs ys (s ∷ ss) a h = (in_pool xs ys s a h.0, all_in_pool xs ys ss a h.1)

pub all_same : (xs ys : List Configuration) (ss : List IndexedPoint) → Extends xs ys → AreInPool (length xs) ss
    → map (point_in ys) ss ≡ map (point_in xs) ss
all_same xs ys [] a h = refl
all_same xs ys (s ∷ ss) a h = cc (spot_same xs ys s a h.0, all_same xs ys ss a h.1)

pub pushed_in_pool : (n : ℕ) (ss : List IndexedPoint) (s : IndexedPoint) → IsInPool n s → AreInPool n ss
    → AreInPool n (ss ++ s ∷ [])
pushed_in_pool n [] s one h = (one, tt)
pushed_in_pool n (x ∷ ss) s one h = (h.0, pushed_in_pool n ss s one h.1)

pub popped_in_pool : (n : ℕ) (ss : List IndexedPoint) (s : IndexedPoint) → AreInPool n (ss ++ s ∷ []) → IsInPool n s
    × AreInPool n ss
popped_in_pool n [] s h = (h.0, tt)
popped_in_pool n (x ∷ ss) s h = (let r = popped_in_pool n ss s h.1 in (r.0, (h.0, r.1)))

pub flow_is : (pool : List Configuration) (f : IndexedFlow) (a b : Configuration) → slice_get pool f.current ≡ Some a
    → slice_get pool f.next ≡ Some b
    → flow_at pool f ≡ record { current = a; next = b; pending = f.pending }
flow_is pool f a b e g = flow_same f _ _ _ _ (at_some pool f.current a e) (at_some pool f.next b g)

-- ---- fingerprints

prints_more : (xs : List Configuration) (c : Configuration) → map print_of (xs ++ c ∷ []) ≡ map print_of xs
    ++ print_of c ∷ []
prints_more [] c = refl
prints_more (x ∷ xs) c = ap (λ (l : List ℕ). print_of x ∷ l) (prints_more xs c)

pub prints_push : (ps : List ℕ) (xs : List Configuration) (p : ℕ) (c : Configuration) → ps ≡ map print_of xs
    → p ≡ print_of c → (ys : List Configuration) → ys ≡ xs ++ c ∷ [] → ps ++ p ∷ [] ≡ map print_of ys
prints_push ps xs p c e f ys g = cc (e, f, prints_more xs c, g)

-- ---- a table that is a prefix of its pool

in_order_from : (xs : List Configuration) (ks : List ℕ) (j : ℕ) → AreBelow (length xs) ks
    → ((i k : ℕ) → slice_get ks i ≡ Some k → k ≡ j + i) → take (length ks) (drop j xs) ≡ map (configuration_at xs) ks
in_order_from xs [] j h each = refl
in_order_from xs (k ∷ ks) j h each =
    let point_here : k ≡ j = (let e = each 0 k refl in omega (arith, e)) in
    let lt : j < length xs = subst (λ n. n < length xs) point_here h.0 in
    let rest = in_order_from xs ks (j + 1) h.1 (λ i m e. let f = each (suc i) m e in omega (arith, f)) in
    ap (λ (l : List Configuration). take (suc (length ks)) l) (cut xs j (configuration_at xs j) (at_within xs j lt))
    ∙ ap (λ (l : List Configuration). configuration_at xs j ∷ l) rest
    ∙ ap (λ n. configuration_at xs n ∷ map (configuration_at xs) ks) (sym point_here)

pub in_order : (xs : List Configuration) (ks : List ℕ) → AreBelow (length xs) ks
    → ((i k : ℕ) → slice_get ks i ≡ Some k → k ≡ i) → take (length ks) xs ≡ map (configuration_at xs) ks
in_order xs ks h each = in_order_from xs ks 0 h (λ i k e. let f = each i k e in omega (arith, f))

-- ---- the fingerprint of a list, member by member

pub mixed_more : {T : Type 0} (word : T → ℕ) (print : ℕ) (xs : List T) (i : ℕ) (x : T) → slice_get xs i ≡ Some x
    → mix_all word (mix print (word x)) (drop (i + 1) xs) ≡ mix_all word print (drop i xs)
mixed_more word print xs i x e = sym (ap (λ ys. mix_all word print ys) (cut xs i x e))

pub mixed_end : {T : Type 0} (word : T → ℕ) (print : ℕ) (xs : List T) (i : ℕ) → length xs ≤ i
    → mix_all word print (drop i xs) ≡ print
mixed_end word print xs i le = ap (λ ys. mix_all word print ys) (walked xs i le)
