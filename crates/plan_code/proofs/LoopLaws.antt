-- A counter that was set to n lets its loop jump n - 1 times.
use Rattle.plan_code.proofs.Words.{◌+◌, ◌-◌, ◌<◌, ◌∙◌, ◌≡◌, ◌≤◌, Loop, LoopsAsSet, LoopsRun, Plan, Set, State, ap}
use Rattle.plan_code.proofs.Words.{arith, counter_of, effect, get_or-set_same, le-ltb, length, length-set, looped}
use Rattle.plan_code.proofs.Words.{lt-ltb, refl, suc, zero, ℕ}

same_length : (plan : Plan) (r target k : ℕ) (s : State)
    → length (looped plan r target k s).counters ≡ length s.counters
same_length plan r target zero s = refl
same_length plan r target (suc k) s =
    let before = looped plan r target k s in
    length-set before.counters r (counter_of before r - 1) ∙ same_length plan r target k s

left_of : (plan : Plan) (r target n k : ℕ) (s : State) → r < length s.counters → counter_of s r ≡ n
    → counter_of (looped plan r target k s) r ≡ n - k
left_of plan r target n zero s inside set = set ∙ omega arith
left_of plan r target n (suc k) s inside set =
    let before = looped plan r target k s in
    let here : r < length before.counters = omega (arith, inside, same_length plan r target k s) in
    let so_far : counter_of before r ≡ n - k = left_of plan r target n k s inside set in
    omega (arith, get_or-set_same before.counters r (counter_of before r - 1) 0 here, so_far)

jump : (plan : Plan) (r target : ℕ) (s : State) → 1 < counter_of s r → (effect plan (Loop r target) s).pc ≡ target
jump plan r target s more = rw (lt-ltb 1 (counter_of s r) more) refl

pass : (plan : Plan) (r target : ℕ) (s : State) → counter_of s r ≤ 1 → (effect plan (Loop r target) s).pc ≡ s.pc + 1
pass plan r target s few = rw (le-ltb 1 (counter_of s r) few) refl

as_set : (plan : Plan) (r target n : ℕ) (s : State) → r < length s.counters → 1 ≤ n → counter_of s r ≡ n
    → LoopsAsSet plan r target n s
as_set plan r target n s inside some set = record {
  jumps = λ k lt.
      let left : counter_of (looped plan r target k s) r ≡ n - k = left_of plan r target n k s inside set in
      let next : k + 1 ≡ suc k = omega arith in
      ap (λ (m : ℕ). (looped plan r target m s).pc) next
      ∙ jump plan r target (looped plan r target k s) (omega (arith, left, lt));
  ends =
      let left = left_of plan r target n (n - 1) s inside set in
      let last : n ≡ suc (n - 1) = omega (arith, some) in
      ap (λ (m : ℕ). (looped plan r target m s).pc) last
      ∙ pass plan r target (looped plan r target (n - 1) s) (omega (arith, left, some));
  set = λ k lt.
      omega (arith, left_of plan r target n k s inside set, lt);
  unset = left_of plan r target n n s inside set ∙ omega arith;
}

pub loops_run : LoopsRun
loops_run plan r target n s inside some =
    let begun = effect plan (Set r n) s in
    let here : r < length begun.counters = omega (arith, inside, length-set s.counters r n) in
    as_set plan r target n begun here some (get_or-set_same s.counters r n 0 inside)
