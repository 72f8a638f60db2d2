-- Upper bounds on the number of edits.
use Rattle.script_config.proofs.Words.{[], ◌*◌, ◌++◌, ◌+◌, ◌∷◌, ◌≡◌, ◌≤◌, AllByRecursion, Bool, Component}
use Rattle.script_config.proofs.Words.{Configuration, DropComponent, Edit, IsConfiguration, IsService, List, Long}
use Rattle.script_config.proofs.Words.{Service, Short, Sid, after_common, arith, carrier_of, component_limit}
use Rattle.script_config.proofs.Words.{components_added, components_dropped, cond, edits_that_make, false, flat_map}
use Rattle.script_config.proofs.Words.{is_same_component, length, length-append, packet_edits, refl, service_edits}
use Rattle.script_config.proofs.Words.{sub_edits, true, ℕ}

-- ---- a bound for each member

pub few_each : {T : Type 0} (P : T → Type 0) (f : T → List Edit) (most : ℕ) → ((x : T) → P x → length (f x) ≤ most)
    → (xs : List T) → AllByRecursion P xs → length (flat_map f xs) ≤ most * length xs
few_each P f most few [] h = omega arith
few_each P f most few (x ∷ xs) h =
    let rest = few_each P f most few xs h.1 in
    let first = few x h.0 in
    let long = length-append (f x) (flat_map f xs) in
    let split : most * length (x ∷ xs) ≡ most + most * length xs = omega arith in
    omega (arith, rest, first, long, split)

pub each_any : {T : Type 0} (xs : List T) → AllByRecursion (λ x. Unit {0}) xs
each_any [] = tt
each_any (x ∷ xs) = (tt, each_any xs)

pub chosen : (b : Bool) (es fs : List Edit) (n : ℕ) → length es ≤ n → length fs ≤ n → length (cond b es fs) ≤ n
chosen true es fs n h k = h
chosen false es fs n h k = k

-- ---- components

behind_by : (m n : Component) (ms ns : List Component) (b : Bool) → length (after_common ms ns) ≤ length ms
    → length (cond b (after_common ms ns) (m ∷ ms)) ≤ length (m ∷ ms)
behind_by m n ms ns true rest = omega (arith, rest)
behind_by m n ms ns false rest = omega arith

pub behind_few : (ms ns : List Component) → length (after_common ms ns) ≤ length ms
behind_few [] ns = omega arith
behind_few (m ∷ ms) [] = omega arith
behind_few (m ∷ ms) (n ∷ ns) = behind_by m n ms ns (is_same_component m n) (behind_few ms ns)

pub dropped_length : (sid : Sid) (ms : List Component) → length (components_dropped sid ms) ≡ length ms
dropped_length sid [] = refl
dropped_length sid (m ∷ ms) =
    let rest = dropped_length sid ms in
    let long = length-append (components_dropped sid ms) (DropComponent sid (carrier_of m) ∷ []) in
    omega (arith, rest, long)

pub added_length : (sid : Sid) (ms : List Component) → length (components_added sid ms) ≡ length ms
added_length sid [] = refl
added_length sid (m ∷ ms) = let rest = added_length sid ms in omega (arith, rest)

limit_few : (sid : Sid) → component_limit sid ≤ 12
limit_few (Short n) = omega arith
limit_few (Long n) = omega arith

pub service_few : (s : Service) → IsService s → length s.components ≤ 12
service_few s h = let few = h.few in let most = limit_few s.sid in omega (arith, few, most)

pub added_few : (s : Service) → IsService s → length (service_edits s) ≤ 13
added_few s h = let few = service_few s h in let same = added_length s.sid s.components in omega (arith, few, same)

-- ---- the edits that make a configuration

pub made_few : (c : Configuration) → IsConfiguration c → length (edits_that_make c) ≤ 960
made_few c h =
    let e1 : List Edit = flat_map sub_edits c.subs in
    let e2 : List Edit = flat_map service_edits c.services in
    let e3 : List Edit = flat_map packet_edits c.packets in
    let one : length e1 ≤ 1 * length c.subs =
    few_each (λ s. Unit {0}) sub_edits 1 (λ s _. omega arith) c.subs (each_any c.subs) in
    let two : length e2 ≤ 13 * length c.services =
    few_each IsService service_edits 13 added_few c.services h.services_formed in
    let three : length e3 ≤ 1 * length c.packets =
    few_each (λ p. Unit {0}) packet_edits 1 (λ p _. omega arith) c.packets (each_any c.packets) in
    let l1 = length-append e1 (e2 ++ e3) in
    let l2 = length-append e2 e3 in
    let n1 = h.subs_few in
    let n2 = h.services_few in
    let n3 = h.packets_few in
    omega (arith, one, two, three, l1, l2, n1, n2, n3)
