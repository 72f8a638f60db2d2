use Rattle.plan_code.proofs.Words.{◌≡◌, AlwaysSettles, IsSome, None, Option, Some, State, WaitsSwap, advance, ap, false}
use Rattle.plan_code.proofs.Words.{refl, settle, suspend, true, ℕ}
use Rattle.plan_code.proofs.laws.settling.Goals as goal

at_once : (s : State) (left : Option ℕ) → left ≡ None → settle left s ≡ advance s
at_once s left none = ap (λ (l : Option ℕ). settle l s) none

joined : (s : State) (left : Option ℕ) → IsSome left → settle left s ≡ suspend WaitsSwap s
joined s (Some left) some = refl
joined s None some = absurd (let wrong : false ≡ true = some in cc)

always : AlwaysSettles
always plan s = record { idle = λ none. at_once s s.left none; pending = λ some. joined s s.left some }

pub returns : goal.returns
returns c = record { settles = always }
