-- A code that drops a sub-channel and commits that: for each definition, an example that holds and one that fails.
use Rattle.plan_map.proofs.Words.{[], ◌+◌, ◌<◌, ◌∙◌, ◌∷◌, ◌≡◌, Begin, Beginning, Commit, CommitIn, CommitsAt}
use Rattle.plan_map.proofs.Words.{Configuration, Edit, End, HasCommit, Idle, Instr, IsCommitted, IsOfCommit, Join}
use Rattle.plan_map.proofs.Words.{Known, Line, List, None, OpensWith, Program, Row, SendsRows, Some, State, Sub, ap}
use Rattle.plan_map.proofs.Words.{arith, burst, commits_before, contains_cases, contains_first, contains_later}
use Rattle.plan_map.proofs.Words.{contains_none, inl, inr, length, ready, refl, rows_of, suc, sym, zero, ℕ}
use Rattle.mux_eep.specs.declared.sizes.EepSet.TheVariants.{A}
use Rattle.mux_config.specs.declared.edit.Edit.TheVariants.{DropSub}
use Rattle.plan_runs.proofs.Samples.{first_state}
use Rattle.plan_verifier.proofs.Samples.{plan, counters, label}

-- ---- the code and its rows

abbrev sub : ℕ → ℕ → Sub
sub id start = record { id = id; start = start; protection = record { set = A; level = 3 }; kbits = 128 }

abbrev both : Configuration
both = record { subs = sub 1 0 ∷ sub 2 96 ∷ []; services = []; packets = [] }

abbrev one : Configuration
one = record { subs = sub 1 0 ∷ []; services = []; packets = [] }

abbrev line : ℕ → Instr → Line
line number i = record { number = number; instr = i }

abbrev commit : Line
commit = line 4 (CommitIn 30)

abbrev drops : Program
drops =
    record {
      plan = plan;
      configurations = both ∷ [];
      labels = label 0 3 ∷ [];
      lines = line 3 (Edit (DropSub 2)) ∷ commit ∷ line 5 Join ∷ line 5 End ∷ [];
    }

abbrev opening : Row
opening = record { kind = Begin; line = 1; block = []; lead = None; config = both }

abbrev committed : Configuration → Row
committed c = record { kind = Commit; line = 4; block = []; lead = Some Beginning; config = c }

its_rows : rows_of 1 drops ≡ opening ∷ committed one ∷ []
its_rows = refl

-- the row keeps the configuration from before the edit
abbrev wrong_rows : List Row
wrong_rows = opening ∷ committed both ∷ []

different : one ≡ both → ⊥
different e =
    let lengths : 1 ≡ 2 = ap (λ (c : Configuration). length c.subs) e in
    omega (arith, lengths)

-- ---- the opening

opens_with_both : OpensWith (rows_of 1 drops) 1 both
opens_with_both = record { row = opening; there = refl; kind = refl; line = refl; config = refl }

not_with_one : OpensWith (rows_of 1 drops) 1 one → ⊥
not_with_one h =
    let is : opening ≡ h.row = cc (h.there) in
    different (sym (ap (λ (r : Row). r.config) is ∙ h.config))

-- ---- the commit

has_its_row : HasCommit (rows_of 1 drops) (1 + commits_before drops 1) commit one
has_its_row = record { row = committed one; there = refl; kind = refl; line = refl; config = refl }

wrong_row : HasCommit wrong_rows (1 + commits_before drops 1) commit one → ⊥
wrong_row h =
    let is : committed both ≡ h.row = cc (h.there) in
    different (sym (ap (λ (r : Row). r.config) is ∙ h.config))

abbrev knows : Configuration → Configuration → Known
knows c n = record { current = c; next = n; pending = Idle; counters = counters 0; allowance = 3 }

abbrev typing : List Known
typing = knows both both ∷ knows both one ∷ []

is_of_its_commit : IsOfCommit drops typing 0 (committed one)
is_of_its_commit = record {
  pc = 1;
  instr = commit;
  known = knows both one;
  there = refl;
  commits = tt;
  order = refl;
  at = refl;
  kind = refl;
  line = refl;
  config = refl;
}

opening_is_of_none : (n : ℕ) → IsOfCommit drops typing n opening → ⊥
opening_is_of_none n h = let same : Begin ≡ Commit = h.kind in absurd cc

-- ---- a run

abbrev first : State
first = first_state both 0

commits_one : CommitsAt drops first 1 commit one
commits_one = record { steps = 1; within = omega arith; reached = refl; there = refl; commits = tt; next = refl }

commits_no_other : CommitsAt drops first 1 commit both → ⊥
commits_no_other h = by h.steps h.within h.reached h.next
  where
    by : (k : ℕ) → k < 3 → (burst k drops (ready first)).pc ≡ 1 → (burst k drops (ready first)).next ≡ both → ⊥
    by zero below reached next = omega (arith, reached)
    by (suc zero) below reached next = different next
    by (suc (suc zero)) below reached next = omega (arith, reached)
    by (suc (suc (suc k))) below reached next = omega (arith, below)

abbrev in_notice : State
in_notice = record first { next = one; left = Some 24 }

sends_both : SendsRows (rows_of 1 drops) plan in_notice
sends_both =
    record {
      current = (opening, contains_first opening (committed one ∷ []), refl);
      next = (
        committed one,
        contains_later opening (committed one ∷ []) (committed one)
            (contains_first (committed one) []),
        refl,
        refl,
      );
    }

is_not_committed : IsCommitted wrong_rows one → ⊥
is_not_committed h =
    elim (contains_cases opening (committed both ∷ []) h.0 h.1) [
      | inl is ↦
          let same : Begin ≡ Commit = ap (λ (r : Row). r.kind) is ∙ h.2 in
          absurd cc
      | inr later ↦
          elim (contains_cases (committed both) [] h.0 later) [
            | inl is ↦ different (sym (ap (λ (r : Row). r.config) is ∙ h.3))
            | inr none ↦ contains_none h.0 none
          ]
    ]

sends_no_row : SendsRows wrong_rows plan in_notice → ⊥
sends_no_row h = is_not_committed h.next
