-- The limits of a code: room in the table of configurations, and how deep repeats are nested.
use Rattle.script_compiler.proofs.Words.{[], ◌++◌, ◌+◌, ◌<◌, ◌∙◌, ◌∷◌, ◌≡◌, ◌≢◌, ◌≤◌, ◌⊎◌, Added, AreNew, Block, Bool}
use Rattle.script_compiler.proofs.Words.{CodeLimit, Configuration, Configurations, Contains, CostsItsNeeds, Counters}
use Rattle.script_compiler.proofs.Words.{End, HasRoomFor, Instructions, IsAccepted, IsDeepAtMost, IsInTable, IsNeed}
use Rattle.script_compiler.proofs.Words.{IsWithin, Jump, Keeps, Label, Labels, Leaves, Line, List, Loop, None, Option}
use Rattle.script_compiler.proofs.Words.{PlacedInstr, Plan, Priced, Program, ProgramPoint, Some, Tabled, Tree}
use Rattle.script_compiler.proofs.Words.{UnpricedLabel, after_instr, all_places, alone, ap, append_assoc, apply, arith}
use Rattle.script_compiler.proofs.Words.{at_label, basic, body_of, cases_lt, either, falls_out, false, forever, get_or}
use Rattle.script_compiler.proofs.Words.{head, if◌then◌else◌, inl, inr, instr_of_act, instrs_of, join, length}
use Rattle.script_compiler.proofs.Words.{length-append, length-map, longest, map, meet, named_by, nested, nothing}
use Rattle.script_compiler.proofs.Words.{onward, option_map, placed_instr, placed_instrs, places, point_after, print_of}
use Rattle.script_compiler.proofs.Words.{refl, repeat, same_Some, slice_get, slice_get-get_or, slice_get-map}
use Rattle.script_compiler.proofs.Words.{slice_get_within, slice_index, stop, subst, suc, sym, true, unpriced_label}
use Rattle.script_compiler.proofs.Words.{unpriced_labels, when, without_label, zero, ℕ}
use Rattle.script_compiler.proofs.Paths.{within_from, is_need}

-- ---- room in the table of configurations

none_in_nothing : (c : Configuration) → IsInTable c [] → ⊥
none_in_nothing c h = let e = h.1 in cc

pub stays : (xs ys : List Configuration) (i : ℕ) (c : Configuration) → slice_get xs i ≡ Some c
    → slice_get (xs ++ ys) i ≡ Some c
stays [] ys i c e = cc
stays (x ∷ xs) ys zero c e = e
stays (x ∷ xs) ys (suc i) c e = stays xs ys i c e

pub stands_last : (xs : List Configuration) (c : Configuration) → slice_get (xs ++ c ∷ []) (length xs) ≡ Some c
stands_last [] c = refl
stands_last (x ∷ xs) c = stands_last xs c

stands_front : (xs ys : List Configuration) (c : Configuration) → IsInTable c xs → IsInTable c (xs ++ ys)
stands_front xs ys c h = (h.0, stays xs ys h.0 c h.1)

-- ---- fewer configurations, and a table that has grown

new_fewer : (table cs ds xs : List Configuration) → ((x : Configuration) → IsInTable x cs → IsInTable x ds)
    → AreNew table cs xs → AreNew table ds xs
new_fewer table cs ds [] h n = tt
new_fewer table cs ds (x ∷ xs) h n = (h x n.0, n.1, n.2, new_fewer table cs ds xs h n.3)

pub room_fewer : (table cs ds : List Configuration) → ((x : Configuration) → IsInTable x cs → IsInTable x ds)
    → HasRoomFor table ds → HasRoomFor table cs
room_fewer table cs ds h room = λ new n. room new (new_fewer table cs ds new h n)

out_of : (table cs xs : List Configuration) (x : Configuration) → AreNew table cs xs → IsInTable x xs
    → IsInTable x table → ⊥
out_of table cs [] x n h t = none_in_nothing x h
out_of table cs (y ∷ ys) x n h t = by (λ k. out_of table cs ys x n.3 k t) h.0 h.1
  where
    by : (IsInTable x ys → ⊥) → (i : ℕ) → slice_get (y ∷ ys) i ≡ Some x → ⊥
    by ih zero e = n.1 (subst (λ z. IsInTable z table) (sym (same_Some y x e)) t)
    by ih (suc i) e = ih (i, e)

new_wider : (table one cs xs : List Configuration) → ((x : Configuration) → IsInTable x table → IsInTable x one)
    → AreNew one cs xs → AreNew table cs xs
new_wider table one cs [] h n = tt
new_wider table one cs (x ∷ xs) h n = (n.0, (λ t. n.1 (h x t)), n.2, new_wider table one cs xs h n.3)

pub room_added : (c : Configuration) (table one cs : List Configuration) → Added c table one → IsInTable c cs
    → HasRoomFor table cs → HasRoomFor one cs
room_added c table one cs (inl old) there room = subst (λ t. HasRoomFor t cs) (sym old.1) room
room_added c table one cs (inr new) there room = λ xs n.
    let n' : AreNew (table ++ c ∷ []) cs xs = subst (λ t. AreNew t cs xs) new.1 n in
    let wider = new_wider table (table ++ c ∷ []) cs xs (λ x t. stands_front table (c ∷ []) x t) n' in
    let fresh : IsInTable c xs → ⊥ = λ h. out_of (table ++ c ∷ []) cs xs c n' h (length table, stands_last table c) in
    omega (arith, room (c ∷ xs) (there, new.0, fresh, wider), ap length new.1, length-append table (c ∷ []))

-- ---- after labels

pub leaves_same : (table : List Configuration) → Leaves table table []
leaves_same table = λ more h. h

pub leaves_mark : (m : UnpricedLabel) (table one both : List Configuration) → Added m.flow.current table one
    → Added m.flow.next one both → Leaves table both (m ∷ [])
leaves_mark m table one both a b = λ more room.
    let cs = m.flow.current ∷ m.flow.next ∷ more in
    let r2 = room_added m.flow.next one both cs b (1, refl) (room_added m.flow.current table one cs a (0, refl) room) in
    room_fewer both more cs (λ x h. (suc (suc h.0), h.1)) r2

pub named_both : (ms ns : List UnpricedLabel) → named_by (ms ++ ns) ≡ named_by ms ++ named_by ns
named_both [] ns = refl
named_both (m ∷ ms) ns = ap (λ xs. m.flow.current ∷ m.flow.next ∷ xs) (named_both ms ns)

pub leaves_both : (t0 t1 t2 : List Configuration) (ms ns : List UnpricedLabel) → Leaves t0 t1 ms → Leaves t1 t2 ns
    → Leaves t0 t2 (ms ++ ns)
leaves_both t0 t1 t2 ms ns h k = λ more room.
    let e = ap (λ xs. xs ++ more) (named_both ms ns) ∙ append_assoc (named_by ms) (named_by ns) more in
    k more (h (named_by ns ++ more) (subst (λ cs. HasRoomFor t0 cs) e room))

-- ---- no room

pub full_table : (table : List Configuration) (c : Configuration) → ((i : ℕ) → slice_get table i ≢ Some c)
    → 256 ≤ length table → HasRoomFor table (c ∷ []) → ⊥
full_table table c none full room =
    absurd (omega (arith, room (c ∷ []) ((0, refl), (λ h. none h.0 h.1), (λ h. none_in_nothing c h), tt), full))

pub room_two : (table : List Configuration) (a b : Configuration) → (IsInTable a table → ⊥) → (IsInTable b table → ⊥)
    → (b ≡ a → ⊥) → HasRoomFor table (a ∷ b ∷ []) → length table + 2 ≤ 256
room_two table a b na nb differs room =
    let k = room (a ∷ b ∷ []) ((0, refl), na, (λ h. apart h.0 h.1), ((1, refl), nb, (λ h. none_in_nothing b h), tt)) in
    omega (arith, k)
  where
    apart : (i : ℕ) → slice_get (b ∷ []) i ≡ Some a → ⊥
    apart zero e = differs (same_Some b a e)
    apart (suc i) e = none_in_nothing a (i, e)

-- ---- a table for all labels

module _ (c : Configuration) (table : List Configuration) where
  added_some : ((new : List Configuration) → Added c table new → ⊥) → ⊥
  added_some k = k (table ++ c ∷ []) (inr ((λ h. k table (inl (h, refl))), refl))

tabled_some : (ms : List UnpricedLabel) (table : List Configuration)
    → ((new : List Configuration) → Tabled table ms new → ⊥) → ⊥
tabled_some [] table k = k table refl
tabled_some (m ∷ ms) table k =
    added_some m.flow.current table
    (λ one a. added_some m.flow.next one (λ both b. tabled_some ms both (λ new t. k new (one, both, a, b, t))))

abbrev without : ℕ → List Configuration → List Configuration
without i [] = []
without zero (x ∷ xs) = xs
without (suc i) (x ∷ xs) = x ∷ without i xs

without_length : (i : ℕ) (xs : List Configuration) (c : Configuration) → slice_get xs i ≡ Some c
    → length xs ≡ 1 + length (without i xs)
without_length i [] c e = absurd (none_in_nothing c (i, e))
without_length zero (x ∷ xs) c e = omega arith
without_length (suc i) (x ∷ xs) c e = omega (arith, without_length i xs c e)

without_keeps : (i : ℕ) (xs : List Configuration) (c d : Configuration) → slice_get xs i ≡ Some c → (d ≡ c → ⊥)
    → IsInTable d xs → IsInTable d (without i xs)
without_keeps i [] c d e differs h = absurd (none_in_nothing d h)
without_keeps zero (x ∷ xs) c d e differs h = by h.0 h.1
  where
    by : (j : ℕ) → slice_get (x ∷ xs) j ≡ Some d → IsInTable d xs
    by zero f = absurd (differs (sym (same_Some x d f) ∙ same_Some x c e))
    by (suc j) f = (j, f)
without_keeps (suc i) (x ∷ xs) c d e differs h = by (λ k. without_keeps i xs c d e differs k) h.0 h.1
  where
    by : (IsInTable d xs → IsInTable d (without i xs)) → (j : ℕ) → slice_get (x ∷ xs) j ≡ Some d
        → IsInTable d (x ∷ without i xs)
    by ih zero f = (0, f)
    by ih (suc j) f = let r = ih (j, f) in (suc r.0, r.1)

-- a table has at least as many entries as there are different configurations in it
abbrev AllDiffer : List Configuration → List Configuration → Type 0
AllDiffer table [] = Unit {0}
AllDiffer table (x ∷ xs) = IsInTable x table × (IsInTable x xs → ⊥) × AllDiffer table xs

differ_most : (xs table : List Configuration) → AllDiffer table xs → length xs ≤ length table
differ_most [] table h = omega arith
differ_most (x ∷ xs) table h =
    let i = h.0.0 in
    omega (arith, without_length i table x h.0.1, differ_most xs (without i table) (kept xs (λ y k. k) h.2))
  where
    kept : (ys : List Configuration) → ((y : Configuration) → IsInTable y ys → IsInTable y xs) → AllDiffer table ys
        → AllDiffer (without h.0.0 table) ys
    kept [] inside k = tt
    kept (y ∷ ys) inside k =
        let apart : y ≡ x → ⊥ = λ e. h.1 (subst (λ z. IsInTable z xs) e (inside y (0, refl))) in
        (without_keeps h.0.0 table x y h.0.1 apart k.0, k.1, kept ys (λ z s. inside z (suc s.0, s.1)) k.2)

grows_stands : (c : Configuration) (table new : List Configuration) → Added c table new → (d : Configuration)
    → IsInTable d table → IsInTable d new
grows_stands c table new (inl old) d h = subst (λ t. IsInTable d t) (sym old.1) h
grows_stands c table new (inr fresh) d h = subst (λ t. IsInTable d t) (sym fresh.1) (stands_front table (c ∷ []) d h)

added_stands : (c : Configuration) (table new : List Configuration) → Added c table new → IsInTable c new
added_stands c table new (inl old) = subst (λ t. IsInTable c t) (sym old.1) old.0
added_stands c table new (inr fresh) = subst (λ t. IsInTable c t) (sym fresh.1) (length table, stands_last table c)

tabled_keeps : (ms : List UnpricedLabel) (table new : List Configuration) → Tabled table ms new → (d : Configuration)
    → IsInTable d table → IsInTable d new
tabled_keeps [] table new t d h = subst (λ x. IsInTable d x) (sym t) h
tabled_keeps (m ∷ ms) table new t d h =
    tabled_keeps ms t.1 new t.4 d (grows_stands _ _ _ t.3 _ (grows_stands _ _ _ t.2 _ h))

tabled_names : (ms : List UnpricedLabel) (table new : List Configuration) → Tabled table ms new
    → (d : Configuration) (i : ℕ) → slice_get (named_by ms) i ≡ Some d → IsInTable d new
tabled_names [] table new t d i e = absurd (none_in_nothing d (i, e))
tabled_names (m ∷ ms) table new t d zero e =
    let point_here = grows_stands m.flow.next t.0 t.1 t.3 m.flow.current (added_stands m.flow.current table t.0 t.2) in
    subst (λ x. IsInTable x new) (same_Some m.flow.current d e) (tabled_keeps ms t.1 new t.4 m.flow.current point_here)
tabled_names (m ∷ ms) table new t d (suc zero) e =
    rw (← same_Some m.flow.next d e) (tabled_keeps ms t.1 new t.4 m.flow.next (added_stands m.flow.next t.0 t.1 t.3))
tabled_names (m ∷ ms) table new t d (suc (suc i)) e = tabled_names ms t.1 new t.4 d i e

new_differ : (table cs new xs : List Configuration) → ((d : Configuration) → IsInTable d cs → IsInTable d new)
    → AreNew table cs xs → AllDiffer new xs
new_differ table cs new [] h n = tt
new_differ table cs new (x ∷ xs) h n = (h x n.0, n.2, new_differ table cs new xs h n.3)

-- if every table for these labels is small enough, the empty table has room for them
pub room_from : (ms : List UnpricedLabel) → ((table : List Configuration) → Tabled [] ms table → length table ≤ 256)
    → HasRoomFor [] (named_by ms)
room_from ms most = λ xs n.
    let few : (length xs ≤ 256 → ⊥) → ⊥ = λ many. tabled_some ms [] (λ new t.
    let k = differ_most xs new (new_differ [] (named_by ms) new xs (λ d s. tabled_names ms [] new t d s.0 s.1) n) in
    let q = most new t in
    many (omega (arith, k, q))) in
    let h = stable (length xs) 256 few in
    omega (arith, h)
  where
    stable : (a b : ℕ) → ((a ≤ b → ⊥) → ⊥) → a ≤ b
    stable a b h = elim (cases_lt b a) [ inl gt ↦ absurd (h (λ le. absurd (omega (arith, gt, le)))) | inr le ↦ le ]

-- ---- how deep the repeats of a script are nested, and when its code is within the limits

-- each of these is in at most eight repeats
abbrev AreDeep : List PlacedInstr → Type 0
AreDeep [] = Unit {0}
AreDeep (p ∷ ps) = (p.repeats ≤ 8) × AreDeep ps

deep_both : (ps qs : List PlacedInstr) → AreDeep ps → AreDeep qs → AreDeep (ps ++ qs)
deep_both [] qs h k = k
deep_both (p ∷ ps) qs h k = (h.0, deep_both ps qs h.1 k)

deep_onward : (w : Option ProgramPoint) (emit : ProgramPoint → List PlacedInstr)
    → ((u : ProgramPoint) → AreDeep (emit u)) → AreDeep (onward w [] emit)
deep_onward None emit h = tt
deep_onward (Some u) emit h = h u

places_deep : (plan : Plan) (b : Block) (r pc : ℕ) (s : ProgramPoint) → r + nested b ≤ 8
    → AreDeep (places plan r pc b s)
places_deep plan nothing r pc s h = tt
places_deep plan (basic line act rest) r pc s h = (
  omega (arith, h),
  places_deep plan rest r (pc + 1) (without_label (after_instr plan (instr_of_act act) s.flow))
      (omega (arith, h)),
)
places_deep plan (stop line rest) r pc s h = (omega (arith, h), tt)
places_deep plan (when line c first rest) r pc s h =
    let firsts = places plan r (pc + 1) first (without_label s.flow) in (
      omega (arith, h),
      deep_both firsts _ (places_deep plan first r (pc + 1) (without_label s.flow) (omega (arith, h)))
          (deep_onward (meet (point_after plan first (without_label s.flow)) (Some s))
          (λ u. places plan r (pc + 1 + length firsts) rest u)
          (λ u. places_deep plan rest r (pc + 1 + length firsts) u (omega (arith, h)))),
    )
places_deep plan (either line c first second rest) r pc s h =
    let firsts = places plan r (pc + 1) first (without_label s.flow) in
    let a = point_after plan first (without_label s.flow) in
    let start = pc + 1 + length firsts + (if falls_out first then 1 else 0) in
    let seconds = places plan r start second (at_label s.flow) in
    let b = point_after plan second (at_label s.flow) in
    let end = start + length seconds in
    let jumps = onward a [] (alone line (Jump end) r) in
    let rests = onward (join a b) [] (λ u. places plan r end rest u) in
    let low : r ≤ 8 = omega (arith, h) in (
      low,
      deep_both firsts (jumps ++ (seconds ++ rests))
          (places_deep plan first r (pc + 1) (without_label s.flow) (omega (arith, h)))
          (deep_both jumps (seconds ++ rests) (deep_onward a (alone line (Jump end) r) (λ u. (low, tt)))
          (deep_both seconds rests (places_deep plan second r start (at_label s.flow) (omega (arith, h)))
          (deep_onward (join a b) (λ u. places plan r end rest u)
          (λ u. places_deep plan rest r end u (omega (arith, h)))))),
    )
places_deep plan (repeat line n body rest) r pc s h =
    let start = head body (without_label s.flow) in
    let bodies = places plan (r + 1) (pc + 1) body start in
    let end = pc + 1 + length bodies in (
      omega (arith, h),
      deep_both bodies _ (places_deep plan body (r + 1) (pc + 1) start (omega (arith, h)))
          (deep_onward (point_after plan body start) (λ u.
          placed_instr line (Loop r (pc + 1)) (r + 1) u ∷ places plan r (end + 1) rest (without_label u.flow))
          (λ u. (omega (arith, h), places_deep plan rest r (end + 1) (without_label u.flow) (omega (arith, h))))),
    )
places_deep plan (forever line body rest) r pc s h =
    let start = head body s in
    deep_both (places plan r pc body start) _ (places_deep plan body r pc start (omega (arith, h)))
    (deep_onward (point_after plan body start) (alone line (Jump pc) r) (λ u. ((omega (arith, h)), tt)))
places_deep plan (apply line k named rest) r pc s h =
    let names = places plan r pc named s in
    deep_both names _ (places_deep plan named r pc s (omega (arith, h)))
    (deep_onward (point_after plan named s) (λ u. places plan r (pc + length names) rest u)
    (λ u. places_deep plan rest r (pc + length names) u (omega (arith, h))))

deep_marks : (pc : ℕ) (ps : List PlacedInstr) → AreDeep ps → IsDeepAtMost 8 (unpriced_labels pc ps)
deep_marks pc [] h = tt
deep_marks pc (p ∷ ps) h = by p.point.labelled (deep_marks (pc + 1) ps h.1)
  where
    by : (b : Bool) → IsDeepAtMost 8 (unpriced_labels (pc + 1) ps)
        → IsDeepAtMost 8 (if b then unpriced_label pc p ∷ unpriced_labels (pc + 1) ps else unpriced_labels (pc + 1) ps)
    by true k = (h.0, k)
    by false k = k

-- each label is in at most eight repeats, so there are counters for them
pub nested_deep : (plan : Plan) (last : ℕ) (b : Block) (t : ProgramPoint) → nested b ≤ 8
    → IsDeepAtMost 8 (unpriced_labels 0 (all_places plan last b t))
nested_deep plan last b t deep =
    deep_marks 0 (all_places plan last b t)
    (deep_both (places plan 0 0 b t) _ (places_deep plan b 0 0 t (omega (arith, deep)))
    (deep_onward (point_after plan b t) (alone last End 0) (λ u. (omega arith, tt))))

-- a code within a limit satisfies what the compiler tests
pub within_keeps : (k : CodeLimit) (s : Tree) → IsWithin k s → Keeps k (nested (body_of s)) (placed_instrs s)
within_keeps Configurations s h = room_from (unpriced_labels 0 (placed_instrs s)) (λ table t. h table t)
within_keeps _ s h = h

-- the code of an accepted script is within each limit
pub accepted_within : (k : CodeLimit) (s : Tree) → IsAccepted s → IsWithin k s
accepted_within Instructions s a = a.instructions
accepted_within Labels s a = a.labels
accepted_within Configurations s a = λ table t. a.configurations table t
accepted_within Counters s a = a.repeats

-- ---- the table of configurations grows at its end

pub last_new : (c : Configuration) (table new : List Configuration) (i : ℕ) → i ≡ length table → new ≡ table ++ c ∷ []
    → slice_get new i ≡ Some c
last_new c table new i e f = cc (f, e, stands_last table c)

-- not among the first `k + 1`
none_at : (xs : List Configuration) (k : ℕ) (c : Configuration) → slice_get xs k ≢ Some c
    → ((i : ℕ) → i < k → slice_get xs i ≢ Some c) → (i : ℕ) → i < k + 1 → slice_get xs i ≢ Some c
none_at xs k c differs before i le e = elim (below i k (omega (arith, le))) [
  | inl less ↦ before i less e
  | inr same ↦ differs (ap (λ n. slice_get xs n) (sym same) ∙ e)
]
  where
    below : (i k : ℕ) → i ≤ k → (i < k) ⊎ (i ≡ k)
    below zero zero le = inr refl
    below zero (suc k) le = inl (omega arith)
    below (suc i) zero le = absurd (omega (arith, le))
    below (suc i) (suc k) le =
        elim (below i k (omega (arith, le))) [
          | inl less ↦ inl (omega (arith, less))
          | inr same ↦ inr (ap (λ n. suc n) same)
        ]

pub none_more : (xs : List Configuration) (k : ℕ) (x c : Configuration) → x ≡ get_or xs k x → k < length xs
    → (x ≡ c → ⊥) → ((i : ℕ) → i < k → slice_get xs i ≢ Some c) → (i : ℕ) → i < k + 1 → slice_get xs i ≢ Some c
none_more xs k x c is lt differs = none_at xs k c (λ e.
    let point_here : Some (get_or xs k x) ≡ Some c = sym (slice_get-get_or xs k x lt) ∙ e in
    differs (is ∙ cc))

-- a configuration is not at an index with another fingerprint
pub none_by_print : (xs : List Configuration) (prints : List ℕ) (k print : ℕ) (c : Configuration)
    → prints ≡ map print_of xs → print ≡ print_of c → k < length prints → (get_or prints k 0 ≡ print → ⊥)
    → ((i : ℕ) → i < k → slice_get xs i ≢ Some c) → (i : ℕ) → i < k + 1 → slice_get xs i ≢ Some c
none_by_print xs prints k print c all one lt differs = none_at xs k c (λ e.
    let point_here = ap (λ ps. slice_get ps k) all ∙ slice_get-map print_of xs k in
    let there = sym (slice_get-get_or prints k 0 lt) ∙ point_here ∙ ap (option_map print_of) e in
    let h : get_or prints k 0 ≡ print_of c = cc in
    differs (h ∙ sym one))

pub as_many : (xs : List Configuration) (prints : List ℕ) → prints ≡ map print_of xs → length prints ≡ length xs
as_many xs prints all = ap length all ∙ length-map xs print_of

pub none_of_all : (xs : List Configuration) (k : ℕ) (c : Configuration) → length xs ≤ k
    → ((i : ℕ) → i < k → slice_get xs i ≢ Some c) → (i : ℕ) → slice_get xs i ≢ Some c
none_of_all xs k c le before i e = let lt = slice_get_within xs i c e in before i (omega (arith, le, lt)) e

-- labels priced by the longest paths cost what the code needs, if these are within the budget
pub costs_needs : (code : Program) (lines : List Line) (labels : List Label) (needs : List ℕ) (budget : ℕ)
    → code.lines ≡ lines → code.labels ≡ labels
    → ((pc : ℕ) → slice_index needs pc ≡ longest (instrs_of lines) (budget + 1) pc)
    → ((pc : ℕ) → slice_index needs pc ≤ budget) → Priced needs labels → CostsItsNeeds code
costs_needs code lines labels needs budget same_lines same_labels each within priced l has =
    let has' : Contains labels l = subst (λ (ls : List Label). Contains ls l) same_labels has in
    let all = within_from (instrs_of lines) budget (λ pc. let e = each pc in let h = within pc in
    omega (arith, e, h)) in
    let cost : l.cost ≡ longest (instrs_of lines) (budget + 1) l.pc = priced l has' ∙ each l.pc in
    let need = subst (λ n. IsNeed (instrs_of lines) l.pc n) (sym cost) (is_need (instrs_of lines) budget l.pc all) in
    subst (λ (ls : List Line). IsNeed (instrs_of ls) l.pc l.cost) (sym same_lines) need
