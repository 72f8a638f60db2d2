-- The sub-channels after the edits for one of them.
use Rattle.script_config.proofs.Words.{[], ◌%◌, ◌&&◌, ◌*◌, ◌++◌, ◌+◌, ◌/◌, ◌<◌, ◌==◌, ◌∙◌, ◌∷◌, ◌≡◌, ◌≢◌, ◌≤◌, A}
use Rattle.script_config.proofs.Words.{AddSub, B, Bool, Configuration, DropSub, EepSet, IsConfiguration, IsPlaced}
use Rattle.script_config.proofs.Words.{IsSize, MoveSub, None, Ok, Option, PastEnd, Profile, RateSub, SizesGrow, Some}
use Rattle.script_config.proofs.Words.{Sub, absent_found, absent_or, add_sub_fault, after, alterations, ap, arith}
use Rattle.script_config.proofs.Words.{at_rate, at_start, cases_lt, cond, eqb-true, false, false≢true, has_bad_rate}
use Rattle.script_config.proofs.Words.{inl, inr, is_past_end, is_same_profile, is_same_set, le-ltb, ltb, ne_eqb}
use Rattle.script_config.proofs.Words.{placing_fault, rate_altered, rate_step, refl, size_of_sub, size_or_fault}
use Rattle.script_config.proofs.Words.{start_altered, sub_altered, sub_at, sub_gone, sub_key, sub_new, subst, sym}
use Rattle.script_config.proofs.Words.{table_size, true, units_of_step, ℕ}
use Rattle.plan_code.specs.Program.{IsNewSub}
use Rattle.std.proofs.lemmas.Bool.{ltb-false, ltb-true}
use Rattle.std.specs.Result.{is_err}
use Rattle.script_config.proofs.Walks.{Part, Turns, adds, alters, back, joint, removes, turns_both, turns_gone}
use Rattle.script_config.proofs.Walks.{turns_nothing, turns_unless}

abbrev pub subs : Part Sub
subs = record {
  key = sub_key;
  set = λ c. c.subs;
  rest = λ c. record { subs = []; services = c.services; packets = c.packets };
  ascends = λ c h. h.subs_ascend;
}

-- ---- sub-channels with a size

pub sized_fine : (p : Profile) (kbits size : ℕ) → IsSize p kbits size → size_or_fault p kbits ≡ Ok (table_size p kbits)
sized_fine p kbits size h =
    let some : kbits ≢ 0 = λ e. let positive = h.positive in omega (arith, e, positive) in
    let whole : kbits % rate_step p.set ≤ 0 = let e = h.multiple in omega (arith, e) in
    let room : table_size p kbits ≤ 864 = let e = h.from_table in let f = h.within in omega (arith, e, f) in
    rw (ne_eqb kbits 0 some, le-ltb 0 (kbits % rate_step p.set) whole, le-ltb 864 (table_size p kbits) room) refl

pub within_fine : (s : Sub) → IsPlaced s → is_past_end s ≡ false
within_fine s h = le-ltb 864 (s.start + size_of_sub s) h.ends

pub placed_fine : (s : Sub) → IsPlaced s → placing_fault s ≡ None
placed_fine s h =
    let good : has_bad_rate s ≡ false = ap is_err (sized_fine s.protection s.kbits (size_of_sub s) h.sized) in
    rw (good, within_fine s h) refl

-- ---- a rate with a size is a number of 16 bits

-- what holds of two numbers holds of the selected one
chosen : (P : ℕ → Type 0) (b : Bool) (x y : ℕ) → P x → P y → P (cond b x y)
chosen P true x y h k = h
chosen P false x y h k = k

-- the size is within 864 capacity units, so the number of rate steps is small
abbrev AreFew : ℕ → ℕ → Type 0
AreFew q units = units * q ≤ 864 → q ≤ 864

steps_few : (set : EepSet) (level q : ℕ) → AreFew q (units_of_step set level)
steps_few A level q =
    chosen (AreFew q) (level == 1) 12 _ (λ h. omega (arith, h))
    (chosen (AreFew q) (level == 2) 8 _ (λ h. omega (arith, h))
    (chosen (AreFew q) (level == 3) 6 4 (λ h. omega (arith, h)) (λ h. omega (arith, h))))
steps_few B level q =
    chosen (AreFew q) (level == 1) 27 _ (λ h. omega (arith, h))
    (chosen (AreFew q) (level == 2) 21 _ (λ h. omega (arith, h))
    (chosen (AreFew q) (level == 3) 18 15 (λ h. omega (arith, h)) (λ h. omega (arith, h))))

rate_by : (set : EepSet) (kbits : ℕ) → kbits % rate_step set ≡ 0 → kbits / rate_step set ≤ 864 → kbits < 65536
rate_by A kbits whole few = omega (arith, whole, few)
rate_by B kbits whole few = omega (arith, whole, few)

rate_short : (s : Sub) → IsPlaced s → s.kbits < 65536
rate_short s h =
    let size = h.sized.from_table in
    let within = h.sized.within in
    let few : units_of_step s.protection.set s.protection.level * (s.kbits / rate_step s.protection.set) ≤ 864 =
    omega (arith, size, within) in
    rate_by s.protection.set s.kbits h.sized.multiple
    (steps_few s.protection.set s.protection.level (s.kbits / rate_step s.protection.set) few)

pub new_sub : (s : Sub) → IsPlaced s → IsNewSub s
new_sub s h = record {
  named = h.named;
  start = let ends = h.ends in omega (arith, ends);
  from_one = h.from_one;
  to_four = h.to_four;
  rate = rate_short s h;
}

-- ---- one edit

drops : (s : Sub) (c : Configuration) → IsPlaced s → IsConfiguration c → sub_at s.id c ≡ Some s
    → Turns subs (DropSub s.id ∷ []) s.id None c
drops s c placed h e =
    removes subs (DropSub s.id) s.id c placed.named h (ap (λ (o : Option Sub). absent_or o (λ s. None)) e) refl refl

comes_new : (t : Sub) (c : Configuration) → IsPlaced t → IsConfiguration c → sub_at t.id c ≡ None
    → Turns subs (AddSub t ∷ []) t.id (Some t) c
comes_new t c placed h e =
    let fine : add_sub_fault t c ≡ None = rw (absent_found sub_key t.id c.subs e) (placed_fine t placed) in
    adds subs (AddSub t) t c (new_sub t placed) h fine refl refl e

-- ---- only what differs

rates : (t s : Sub) (c : Configuration) → IsPlaced t → IsConfiguration c → sub_at t.id c ≡ Some s → IsPlaced
    (at_rate t.kbits s)
    → Turns subs (rate_altered s t) t.id (Some (at_rate t.kbits s)) c
rates t s c target h e placed =
    turns_unless subs (s.kbits == t.kbits) (RateSub t.id t.kbits ∷ []) t.id (Some (at_rate t.kbits s)) c h
    (λ is. let same : s ≡ at_rate t.kbits s =
    λ i. record { id = s.id; start = s.start; protection = s.protection; kbits = eqb-true s.kbits t.kbits is i } in
    e ∙ ap Some same)
    (λ _. alters subs (RateSub t.id t.kbits) t.id (at_rate t.kbits) s c (target.named, rate_short t target) h
    (ap (λ (o : Option Sub). absent_or o (λ s. placing_fault (at_rate t.kbits s))) e
    ∙ placed_fine (at_rate t.kbits s) placed)
    refl refl (λ x. refl) e)

moves : (t s : Sub) (c : Configuration) → IsPlaced t → IsConfiguration c → sub_at t.id c ≡ Some s → IsPlaced
    (at_start t.start s)
    → Turns subs (start_altered s t) t.id (Some (at_start t.start s)) c
moves t s c target h e placed =
    turns_unless subs (s.start == t.start) (MoveSub t.id t.start ∷ []) t.id (Some (at_start t.start s)) c h
    (λ is. let same : s ≡ at_start t.start s =
    λ i. record { id = s.id; start = eqb-true s.start t.start is i; protection = s.protection; kbits = s.kbits } in
    e ∙ ap Some same)
    (λ _. alters subs (MoveSub t.id t.start) t.id (at_start t.start) s c (target.named, (new_sub t target).start) h
    (ap (λ (o : Option Sub). absent_or o (λ s. cond (is_past_end (at_start t.start s)) (Some PastEnd) None)) e
    ∙ ap (λ (b : Bool). cond b (Some PastEnd) None) (within_fine (at_start t.start s) placed))
    refl refl (λ x. refl) e)

-- ---- turning a sub-channel into another with the same profile

-- two sub-channels with the same identifier and protection profile
pub record AreKin (s t : Sub) : Type 0 where
  pub id : s.id ≡ t.id
  pub protection : s.protection ≡ t.protection
  pub placed : IsPlaced s
  pub target : IsPlaced t

-- at the other's rate, a sub-channel has the other's size
rated_size : (s t : Sub) → s.protection ≡ t.protection → size_of_sub (at_rate t.kbits s) ≡ size_of_sub t
rated_size s t e = ap (λ (p : Profile). table_size p t.kbits) e

sized_as : (s t : Sub) → s.protection ≡ t.protection → IsPlaced t
    → IsSize s.protection t.kbits (table_size s.protection t.kbits)
sized_as s t e h = subst (λ (p : Profile). IsSize p t.kbits (table_size p t.kbits)) (sym e) h.sized

smaller : SizesGrow → (s t : Sub) → AreKin s t → t.kbits ≤ s.kbits → size_of_sub t ≤ size_of_sub s
smaller grow s t k le =
    elim (cases_lt t.kbits s.kbits) [
      | inl lt ↦
          let less = grow s.protection t.kbits s.kbits (table_size s.protection t.kbits) (size_of_sub s)
          (sized_as s t k.protection k.target) k.placed.sized lt in
          let same = rated_size s t k.protection in
          omega (arith, less, same)
      | inr ge ↦
          let equal : t.kbits ≡ s.kbits = omega (arith, le, ge) in
          let same : table_size t.protection t.kbits ≡ table_size s.protection s.kbits =
          ap (λ (n : ℕ). table_size t.protection n) equal
          ∙ ap (λ (p : Profile). table_size p s.kbits) (sym k.protection) in
          omega (arith, same)
    ]

kin_back : (s t : Sub) → AreKin s t → AreKin t s
kin_back s t k = record { id = sym k.id; protection = sym k.protection; placed = k.target; target = k.placed }

-- it is still placed when its rate falls
falls_placed : SizesGrow → (s t : Sub) → AreKin s t → t.kbits ≤ s.kbits → IsPlaced (at_rate t.kbits s)
falls_placed grow s t k le = record {
  named = k.placed.named;
  from_one = k.placed.from_one;
  to_four = k.placed.to_four;
  sized = sized_as s t k.protection k.target;
  ends = let small = smaller grow s t k le in let ends = k.placed.ends in let same = rated_size s t k.protection in
      omega (arith, small, ends, same);
}

-- it is still placed when it moves, at a rate not above the other's
moves_placed : SizesGrow → (s t : Sub) → AreKin s t → s.kbits ≤ t.kbits → IsPlaced (at_start t.start s)
moves_placed grow s t k le = record {
  named = k.placed.named;
  from_one = k.placed.from_one;
  to_four = k.placed.to_four;
  sized = k.placed.sized;
  ends = let small = smaller grow t s (kin_back s t k) le in let ends = k.target.ends in omega (arith, small, ends);
}

rebuilt : (s t : Sub) → AreKin s t → at_start t.start (at_rate t.kbits s) ≡ t
rebuilt s t k i = record { id = k.id i; start = t.start; protection = k.protection i; kbits = t.kbits }

alters_by : SizesGrow → (s t : Sub) (c : Configuration) (b : Bool) → ltb t.kbits s.kbits ≡ b → AreKin s t
    → IsConfiguration c → sub_at t.id c ≡ Some s
    → Turns subs (cond b (rate_altered s t ++ start_altered s t) (start_altered s t ++ rate_altered s t)) t.id (Some t)
    c
alters_by grow s t c true is k h e =
    let built = rebuilt s t k in
    let mid : Sub = at_rate t.kbits s in
    let falls : t.kbits ≤ s.kbits = let lt = ltb-true t.kbits s.kbits is in omega (arith, lt) in
    let first = rates t s c k.target h e (falls_placed grow s t k falls) in
    let second = moves t mid (after (rate_altered s t) c) k.target first.formed first.here
    (subst IsPlaced (sym built) k.target) in
    turns_both subs (rate_altered s t) (start_altered s t) t.id (Some mid) (Some t) c first
    (subst (λ (x : Sub). Turns subs (start_altered s t) t.id (Some x) (after (rate_altered s t) c)) built second)
alters_by grow s t c false is k h e =
    let built = rebuilt s t k in
    let mid : Sub = at_start t.start s in
    let first = moves t s c k.target h e (moves_placed grow s t k (ltb-false t.kbits s.kbits is)) in
    let second = rates t mid (after (start_altered s t) c) k.target first.formed first.here
    (subst IsPlaced (sym built) k.target) in
    turns_both subs (start_altered s t) (rate_altered s t) t.id (Some mid) (Some t) c first
    (subst (λ (x : Sub). Turns subs (rate_altered s t) t.id (Some x) (after (start_altered s t) c)) built second)

-- ---- profiles

both_parts : (a b : Bool) → (a && b) ≡ true → (a ≡ true) × (b ≡ true)
both_parts true b e = (refl, e)
both_parts false b e = absurd (false≢true e)

set_same : (a b : EepSet) → is_same_set a b ≡ true → a ≡ b
set_same A A e = refl
set_same A B e = absurd (false≢true e)
set_same B A e = absurd (false≢true e)
set_same B B e = refl

pub profile_same : (p q : Profile) → is_same_profile p q ≡ true → p ≡ q
profile_same p q e =
    let parts = both_parts (is_same_set p.set q.set) (p.level == q.level) e in
    let set : p.set ≡ q.set = set_same p.set q.set parts.0 in
    let level : p.level ≡ q.level = eqb-true p.level q.level parts.1 in
    λ i. record { set = set i; level = level i }

-- ---- the three walks over sub-channels

-- one with another profile is dropped, and one that stays is altered
abbrev pub sub_kept : Sub → Sub → Option Sub
sub_kept s t = cond (is_same_profile s.protection t.protection) (Some s) None

abbrev pub sub_turned : Sub → Sub → Option Sub
sub_turned s t = cond (is_same_profile s.protection t.protection) (Some t) None

pub goes : (o : Option Sub) (s : Sub) (c : Configuration) → IsPlaced s → IsConfiguration c
    → sub_at s.id c ≡ Some s
    → Turns subs (sub_gone o s) s.id (joint sub_kept (Some s) o) c
goes None s c placed h e = drops s c placed h e
goes (Some t) s c placed h e =
    turns_gone subs (is_same_profile s.protection t.protection) (DropSub s.id) s c h e (drops s c placed h e)

stays_by : SizesGrow → (s t : Sub) (c : Configuration) (b : Bool) → is_same_profile s.protection t.protection ≡ b
    → IsPlaced s → IsPlaced t → s.id ≡ t.id → IsConfiguration c → sub_at s.id c ≡ cond b (Some s) None
    → Turns subs (cond b (alterations s t) []) s.id (cond b (Some t) None) c
stays_by grow s t c true is placed target id h e =
    let k : AreKin s t = record {
      id = id;
      protection = profile_same s.protection t.protection is;
      placed = placed;
      target = target;
    } in
    subst (λ (n : ℕ). Turns subs (alterations s t) n (Some t) c) (sym id)
    (alters_by grow s t c (ltb t.kbits s.kbits) refl k h (ap (λ (n : ℕ). sub_at n c) (sym id) ∙ e))
stays_by grow s t c false is placed target id h e = turns_nothing subs s.id None c h e

pub stays : SizesGrow → (o : Option Sub) (s : Sub) (c : Configuration) → IsPlaced s
    → ((t : Sub) → o ≡ Some t → IsPlaced t × (s.id ≡ t.id))
    → IsConfiguration c → sub_at s.id c ≡ joint sub_kept (Some s) o
    → Turns subs (sub_altered o s) s.id (joint sub_turned (Some s) o) c
stays grow None s c placed known h e = turns_nothing subs s.id None c h e
stays grow (Some t) s c placed known h e =
    let k = known t refl in
    stays_by grow s t c (is_same_profile s.protection t.protection) refl placed k.0 k.1 h e

pub comes : (o : Option Sub) (t : Sub) (c : Configuration) → IsPlaced t → IsConfiguration c
    → sub_at t.id c ≡ back sub_turned (Some t) o → Turns subs (sub_new o t) t.id (Some t) c
comes None t c placed h e = comes_new t c placed h e
comes (Some s) t c placed h e =
    turns_unless subs (is_same_profile s.protection t.protection) (AddSub t ∷ []) t.id (Some t) c h
    (λ yes. e ∙ ap (λ (b : Bool). cond b (Some t) None) yes)
    (λ no. comes_new t c placed h (e ∙ ap (λ (b : Bool). cond b (Some t) None) no))
