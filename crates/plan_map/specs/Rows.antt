-- The rows of a map: the configuration that a code begins with, and the configuration committed by each commit.
use Rattle.std.specs.Prelude.{ℕ, ◌+◌, if◌then◌else◌, List, [], ◌∷◌, ◌++◌, Option, Some, None, slice_get}
use Rattle.mux_types.specs.Configuration.{Configuration, nothing}
use Rattle.mux_config.specs.declared.fault.EditFault.{EditFault}
use Rattle.mux_config.specs.Edits.{edit_fault, changed}
use Rattle.plan_code.specs.declared.instr.Instr.{Instr}
use Rattle.plan_code.specs.declared.instr.Instr.TheVariants.{Edit as Edits}
use Rattle.plan_code.specs.declared.instr.Line.{Line}
use Rattle.plan_code.specs.declared.label.Label.{Label}
use Rattle.plan_code.specs.Program.{Program, label_at}
use Rattle.plan_verifier.specs.Rules.{commits}
use Rattle.plan_map.specs.declared.rows.Row.{Row}
use Rattle.plan_map.specs.declared.rows.RowKind.TheVariants.{Begin, Commit}
use Rattle.plan_map.specs.declared.lead.Lead.TheVariants.{Begin as Beginning}
use Rattle.plan_map.specs.declared.lead.Ways.{Ways}
use Rattle.plan_map.specs.declared.lead.Ways.TheVariants.{One}
use Rattle.plan_map.specs.declared.lead.Reached.{Reached}
use Rattle.plan_map.specs.Leads.{after, ways_from, lead_of}

-- one, if present, else another
abbrev pub or_else : Option Configuration → Configuration → Configuration
or_else None other = other
or_else (Some c) other = c

abbrev pub declared_by : Program → Option Label → Configuration → Configuration
declared_by p None next = next
declared_by p (Some l) next = or_else (slice_get p.configurations l.next) next

-- the next configuration at a pc, given the one that the instruction before left: the one that a label there
-- declares, if there is one
abbrev pub known_next : Program → ℕ → Configuration → Configuration
known_next p pc next = declared_by p (label_at p pc) next

-- the configuration that a code begins with
abbrev pub opening_of : Program → Configuration
opening_of p = known_next p 0 nothing

-- the next configuration after an instruction: an edit without a fault changes it
abbrev pub unless_at_fault : Option EditFault → Configuration → Configuration → Configuration
unless_at_fault None after before = after
unless_at_fault (Some fault) after before = before

abbrev pub left_by : Instr → Configuration → Configuration
left_by (Edits e) c = unless_at_fault (edit_fault e c) (changed e c) c
left_by _ c = c

-- the row of an instruction that commits this configuration, with what leads to it; none for another instruction
abbrev pub row_at : Line → Ways → Configuration → List Row
row_at l ways here = if commits l.instr then record {
  kind = Commit;
  line = l.number;
  block = [];
  lead = lead_of ways;
  config = here;
} ∷ [] else []

-- the commits among the instructions from a pc on, each with the configuration that it commits; given what leads on
-- from the instruction before them, those before them, and the next configuration that these leave
abbrev pub commits_from : Program → ℕ → Ways → List Reached → Configuration → List Line → List Row
commits_from p pc before passed next [] = []
commits_from p pc before passed next (l ∷ ls) =
    let here = known_next p pc next in
    let ways = ways_from pc before passed in
    row_at l ways here
    ++ commits_from p (pc + 1) (after l.instr ways) (passed ++ record { instr = l.instr; ways = ways } ∷ [])
    (left_by l.instr here) ls

abbrev pub rows_of : ℕ → Program → List Row
rows_of begin p =
    record { kind = Begin; line = begin; block = []; lead = None; config = opening_of p }
    ∷ commits_from p 0 (One Beginning) [] (opening_of p) p.lines
