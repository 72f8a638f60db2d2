-- What a typing says about a state, now and some frames later.
use Rattle.plan_runs.proofs.Words.{◌*◌, ◌+◌, ◌<◌, ◌≡◌, ◌≢◌, ◌≤◌, ◌⊎◌, Configuration, Counters, Idle, IsSound, Known}
use Rattle.plan_runs.proofs.Words.{List, None, Option, Perhaps, Plan, Some, Swap, Within, is_set, length, page_set}
use Rattle.plan_runs.proofs.Words.{rounds, slice_index, true, ℕ}

-- no swap is pending, and these are the configurations
pub record IsIdleAs (a b : Configuration) (left : Option ℕ) (c n : Configuration) : Type 0 where
  pub none : left ≡ None
  pub current : c ≡ a
  pub next : n ≡ b

-- a swap is pending within these bounds, and these are the configurations
pub record IsPendingAs (a b : Configuration) (first least greatest : ℕ) (left : Option ℕ) (c n : Configuration) : Type
    0 where
  pub frames : ℕ
  pub is : left ≡ Some frames
  pub ahead : first ≤ frames
  pub low : least ≤ frames
  pub high : frames ≤ greatest
  pub current : c ≡ a
  pub next : n ≡ b

-- a swap is pending and falls after at most this many frames; after it, both configurations are these
pub record IsPendingTo (a b : Configuration) (limit : ℕ) (left : Option ℕ) (n : Configuration) : Type 0 where
  pub frames : ℕ
  pub is : left ≡ Some frames
  pub most : frames ≤ limit
  pub current : n ≡ a
  pub next : n ≡ b

-- now, as an instruction is executed
abbrev pub AgreesBy : Swap → Configuration → Configuration → Option ℕ → Configuration → Configuration → Type 0
AgreesBy Idle a b left c n = IsIdleAs a b left c n
AgreesBy (Within lo hi) a b left c n = IsPendingAs a b 1 lo hi left c n
AgreesBy (Perhaps hi) a b left c n = IsPendingAs a b 1 1 hi left c n ⊎ IsIdleAs b b left c n

-- in k frames
abbrev pub ComesBy : ℕ → Swap → Configuration → Configuration → Option ℕ → Configuration → Configuration → Type 0
ComesBy k Idle a b left c n = IsIdleAs a b left c n ⊎ IsPendingTo a b k left n
ComesBy k (Within lo hi) a b left c n = IsPendingAs a b (1 + k) (lo + k) (hi + k) left c n
ComesBy k (Perhaps hi) a b left c n = IsPendingAs a b 0 0 (hi + k) left c n ⊎ IsIdleAs b b left c n

-- in any frame from now on
abbrev pub PausesBy : Swap → Configuration → Configuration → Option ℕ → Configuration → Configuration → Type 0
PausesBy Idle a b left c n = IsIdleAs a b left c n ⊎ IsPendingTo a b 0 left n
PausesBy (Within lo hi) a b left c n = ⊥
PausesBy (Perhaps hi) a b left c n = IsPendingAs a b 0 0 hi left c n ⊎ IsIdleAs b b left c n

-- after the swap
pub record JoinsBy (t : Known) (left : Option ℕ) (n : Configuration) : Type 0 where
  pub frames : ℕ
  pub is : left ≡ Some frames
  pub idle : t.pending ≡ Idle
  pub current : n ≡ t.current
  pub next : n ≡ t.next

-- the counters that are known to be set are set
abbrev pub AreSet : Counters → List ℕ → Type 0
AreSet known counters = (r : ℕ) → r < 8 → is_set known r ≡ true → 1 ≤ slice_index counters r

-- a pending swap is not in this very frame
abbrev pub IsAhead : Option ℕ → Type 0
IsAhead None = Unit {0}
IsAhead (Some left) = 1 ≤ left

-- ---- what the bytes depend on

-- a configuration that is on the air: sound, and sent in full in each period
pub record IsOnAir (plan : Plan) (c : Configuration) : Type 0 where
  pub sound : IsSound c
  pub within_period : rounds plan.layout (page_set c None) ≤ plan.period

-- a reconfiguration that was committed
pub record IsCommitted (plan : Plan) (c n : Configuration) : Type 0 where
  pub changes : n ≢ c
  pub within_period : rounds plan.layout (page_set c (Some n)) ≤ plan.period
  pub three_times : 3 * rounds plan.layout (page_set c (Some n)) ≤ plan.notice
  pub after : IsOnAir plan n

abbrev pub CommittedBy : Plan → Option ℕ → Configuration → Configuration → Type 0
CommittedBy plan None c n = Unit {0}
CommittedBy plan (Some left) c n = IsCommitted plan c n

pub record IsKept (plan : Plan) (left : Option ℕ) (c n : Configuration) (counters : List ℕ) : Type 0 where
  pub on_air : IsOnAir plan c
  pub committed : CommittedBy plan left c n
  pub eight : length counters ≡ 8
