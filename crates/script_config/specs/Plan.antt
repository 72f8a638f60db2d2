-- The plan that turns one configuration into another by one reconfiguration.
use Rattle.std.specs.Prelude.{ℕ, ◌+◌, ◌-◌, ◌%◌, ◌==◌, if◌then◌else◌, List, [], ◌∷◌, ◌++◌}
use Rattle.mux_config.specs.declared.edit.Edit.{Edit}
use Rattle.mux_types.specs.Configuration.{Configuration}
use Rattle.script_config.specs.Differences.{edits_between}
use Rattle.script_front.specs.declared.tree.Act.{Act}
use Rattle.script_front.specs.declared.tree.Act.TheVariants.{Edit as Edits, Wait, CommitIn, Join}
use Rattle.plan_code.specs.declared.plan.Plan.{Plan}

-- the wait after the edit with this number, counted from 1, if `full` edits fill a frame
abbrev pub pause_after : (full number : ℕ) → List Act
pause_after full number = if number % full == 0 then Wait 1 ∷ [] else []

-- the edits, the first of which has this number, paced at `full` edits a frame
abbrev pub paced : (full number : ℕ) → List Edit → List Act
paced full number [] = []
paced full number (e ∷ es) = Edits e ∷ (pause_after full number ++ paced full (number + 1) es)

-- announces the swap one notice ahead and waits for it
abbrev pub committed : Plan → List Act
committed header = CommitIn header.notice ∷ Join ∷ []

-- each frame leaves one instruction for the wait, and the last one two for `commit` and `join`
abbrev pub plan_acts : Plan → Configuration → Configuration → List Act
plan_acts header from to = paced (header.budget - 1) 1 (edits_between from to) ++ committed header
