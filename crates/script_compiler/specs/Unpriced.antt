-- Unpriced labels that give their configurations by index in a table. Not used in public contracts.
pub use Rattle.plan_verifier.specs.Indexed.{configuration_at}
use Rattle.std.specs.Prelude.{ℕ, ◌<◌, ◌≤◌, List, [], ◌∷◌, slice_index}
use Rattle.mux_config.specs.Configuration.{Configuration}
use Rattle.plan_code.specs.declared.label.Label.{Label}
use Rattle.script_compiler.specs.declared.flow.UnpricedLabel.{UnpricedLabel}
use Rattle.script_compiler.specs.Compiled.{first_counters}
use Rattle.script_compiler.specs.declared.short.IndexedLabel.{IndexedLabel}

-- unpriced labels, and the table of the configurations that they name
pub record UnpricedTable : Type 0 where
  pub items : List UnpricedLabel
  pub table : List Configuration

-- the unpriced label, with its configurations
abbrev pub unpriced_in : List Configuration → IndexedLabel → UnpricedLabel
unpriced_in table m =
    record {
      pc = m.pc;
      flow = record {
        current = configuration_at table m.cur;
        next = configuration_at table m.next;
        pending = m.pending;
      };
      repeats = m.repeats;
    }

-- a table of this length has the configurations of these labels
abbrev pub AreInTable : ℕ → List IndexedLabel → Type 0
AreInTable n [] = Unit {0}
AreInTable n (m ∷ ms) = (m.cur < n) × (m.next < n) × AreInTable n ms

-- the label of an unpriced label, with the need of its pc as its cost
abbrev pub priced_label : List ℕ → IndexedLabel → Label
priced_label needs m =
    record {
      pc = m.pc;
      cur = m.cur;
      next = m.next;
      pending = m.pending;
      counters = first_counters m.repeats;
      cost = slice_index needs m.pc;
    }

-- each label is in at most this many repeats
abbrev pub AreShallow : ℕ → List IndexedLabel → Type 0
AreShallow most [] = Unit {0}
AreShallow most (m ∷ ms) = (m.repeats ≤ most) × AreShallow most ms
