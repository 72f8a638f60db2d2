-- The parts of a code that takes over are within the limits of codes.
use Rattle.std.proofs.Common.{[], ◌++◌, ◌+◌, ◌<◌, ◌∙◌, ◌∷◌, ◌≡◌, ◌≤◌, List, ap, arith, length, length-append}
use Rattle.std.proofs.Common.{map, subst, sym, ℕ}
use Rattle.std.specs.List.{AllByRecursion}
use Rattle.std.proofs.lemmas.List.{length-map}
use Rattle.mux_types.specs.Configuration.{Configuration, IsAscending, IsConfiguration}
use Rattle.plan_code.specs.Program.{IsLabel, IsLine, IsPlan, IsProgram, Program, label_key}
use Rattle.plan_code.specs.declared.plan.Plan.{Plan}
use Rattle.plan_code.specs.declared.instr.Line.{Line}
use Rattle.plan_code.specs.declared.label.Label.{Label}
use Rattle.plan_takeover.specs.Refusals.{IsNear}
use Rattle.plan_takeover.specs.Takeover.{beginning, moved_label}

-- ---- labels

moved_labels : (count by : ℕ) (ls : List Label) → AllByRecursion (IsLabel count) ls → AllByRecursion (IsNear by) ls
    → AllByRecursion (IsLabel (count + 1)) (map (moved_label by) ls)
moved_labels count by [] h near = tt
moved_labels count by (l ∷ ls) h near = (
  record {
    place = near.0;
    current = omega (arith, h.0.current);
    following = omega (arith, h.0.following);
    bounds = h.0.bounds;
    set = h.0.set;
    cost_from = h.0.cost_from;
    cost_to = h.0.cost_to;
  },
  moved_labels count by ls h.1 near.1,
)

behind : (low by : ℕ) (ls : List Label) → AllByRecursion (λ l. low < label_key l) ls
    → AllByRecursion (λ l. low + by < label_key l) (map (moved_label by) ls)
behind low by [] h = tt
behind low by (l ∷ ls) h = (omega (arith, h.0), behind low by ls h.1)

in_order : (by : ℕ) (ls : List Label) → IsAscending label_key ls → IsAscending label_key (map (moved_label by) ls)
in_order by [] h = tt
in_order by (l ∷ ls) h = (behind l.pc by ls h.0, in_order by ls h.1)

behind_first : (by : ℕ) (ls : List Label) → 1 ≤ by → AllByRecursion (λ l. 0 < label_key l) (map (moved_label by) ls)
behind_first by [] leads = tt
behind_first by (l ∷ ls) leads = (omega (arith, leads), behind_first by ls leads)

-- ---- the whole

pub is_program : (old : Program) (plan : Plan) (from : Configuration) (by cost : ℕ)
    (configs : List Configuration)
    (labels : List Label) (lines : List Line)
    → IsProgram old → plan ≡ old.plan → configs ≡ old.configurations ++ from ∷ [] → length old.configurations < 256
    → AllByRecursion IsConfiguration configs
    → labels ≡ beginning (length old.configurations) cost ∷ map (moved_label by) old.labels
    → 1 + length old.labels ≤ 1024 → AllByRecursion (IsNear by) old.labels
    → 1 ≤ by → 1 ≤ cost → cost ≤ 255 → by ≤ length lines → length lines ≤ 4096 → AllByRecursion IsLine lines
    → IsProgram (record { plan = plan; configurations = configs; labels = labels; lines = lines })
is_program old plan from by cost configs labels lines p same table few formed are most near leads from_one to some all
    instrs =
    let count : length configs ≡ length old.configurations + 1 =
    ap length table ∙ length-append old.configurations (from ∷ []) in
    let moved = length-map old.labels (moved_label by) in
    let all_labels = ap length are in
    let size : length labels ≡ 1 + length old.labels = omega (arith, all_labels, moved) in
    let first : IsLabel (length old.configurations + 1) (beginning (length old.configurations) cost) =
    record {
      place = omega arith;
      current = omega arith;
      following = omega arith;
      bounds = tt;
      set = omega arith;
      cost_from = from_one;
      cost_to = to;
    } in
    record {
      planned = subst IsPlan (sym same) p.planned;
      configurations_from = omega (arith, count);
      configurations_to = omega (arith, count, few);
      configurations_formed = formed;
      labels_from = omega (arith, size);
      labels_to = omega (arith, size, most);
      labels_formed =
          rw (count, are) (first, moved_labels (length old.configurations) by old.labels p.labels_formed near);
      labels_ascend = rw are (behind_first by old.labels leads, in_order by old.labels p.labels_ascend);
      lines_from = omega (arith, leads, some);
      lines_to = all;
      lines_formed = instrs;
    }
