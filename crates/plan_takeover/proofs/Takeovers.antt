-- The parts of a code that takes over are those of its definition.
use Rattle.std.proofs.Common.{[], ◌++◌, ◌-◌, ◌∷◌, ◌≡◌, ◌≤◌, List, Some, arith, length, length-append, map, refl}
use Rattle.std.proofs.Common.{slice_get, subst, sym, ℕ}
use Rattle.std.proofs.lemmas.List.{length-map}
use Rattle.mux_types.specs.Configuration.{Configuration}
use Rattle.plan_code.specs.Program.{Program}
use Rattle.plan_code.specs.declared.instr.Line.{Line}
use Rattle.plan_code.specs.declared.plan.Plan.{Plan}
use Rattle.plan_takeover.specs.Refusals.{IsBegunBy, IsPriced, IsTakeoverCode}
use Rattle.plan_takeover.specs.Takeover.{leading, moved_line}
use Rattle.script_compiler.specs.Alternatives.{instr_of_act}
use Rattle.script_config.specs.Differences.{edits_between}
use Rattle.script_config.specs.Plan.{committed, paced, plan_acts}

last_there : {A : Type 0} (xs : List A) (x : A) → slice_get (xs ++ x ∷ []) (length xs) ≡ Some x
last_there [] x = refl
last_there (y ∷ ys) x = last_there ys x

-- a commit and `join` at least
pub some_lead : (plan : Plan) (line : ℕ) (from to : Configuration) → 1 ≤ length (leading plan line from to)
some_lead plan line from to =
    let all = length-map (plan_acts plan from to)
    (λ act. let l : Line = record { number = line; instr = instr_of_act act } in l) in
    let parts = length-append (paced (plan.budget - 1) 1 (edits_between from to)) (committed plan) in
    omega (arith, all, parts)

pub of_begun : (line : ℕ) (old : Program) (plan : Plan) (from to : Configuration) (new : Program)
    (front lines : List Line) (by : ℕ)
    → plan ≡ old.plan → front ≡ leading plan line from to
    → by ≡ length front → lines ≡ front ++ map (moved_line by) old.lines
    → IsBegunBy by lines old from new → IsTakeoverCode line old from to new
of_begun line old plan from to new front lines by p f b l h =
    record {
      takes = record {
        plan = h.plan;
        lines = rw (h.instructions, l, b, f, p) refl;
        index = length old.configurations;
        cost = h.cost;
        begins = rw h.table (last_there old.configurations from);
        labels = rw (h.labels, b, f, p) refl;
      };
      table = h.table;
      priced = subst (λ (ls : List Line). IsPriced old.plan.budget ls h.cost) (sym h.instructions) h.priced;
    }
