-- The EId that a stream of FIBs signals last (EN 300 401 clause 6.4).
use Rattle.std.specs.Prelude.{◌≡◌, ℕ, ◌==◌, ◌⊎◌, if◌then◌else◌, List, [], ◌∷◌, Option, Some}
use Rattle.fib_codec.specs.Grammar.{Fig, IsFib}
use Rattle.fib_reader.specs.declared.fault.FibFault.{FibFault}
use Rattle.fib_reader.specs.Faults.{IsFibFault}
use Rattle.fib_reader.specs.Raw.{Raw, entries_in, ensemble_in}

-- the EId of an entry of FIG 0/0; other entries keep the previous one
abbrev pub named_by_entry : Raw → Option ℕ → Option ℕ
named_by_entry raw before = if raw.ext == 0 then Some (ensemble_in raw).eid else before

abbrev pub named_by_entries : List Raw → Option ℕ → Option ℕ
named_by_entries [] before = before
named_by_entries (raw ∷ raws) before = named_by_entries raws (named_by_entry raw before)

abbrev pub named_by_figs : List Fig → Option ℕ → Option ℕ
named_by_figs [] before = before
named_by_figs (fig ∷ figs) before = named_by_figs figs (named_by_entries (entries_in fig) before)

-- the EId after these FIBs, given the one before them; a damaged FIB keeps it
abbrev pub NamesAfter : List (List ℕ) → Option ℕ → Option ℕ → Type 0
NamesAfter [] before after = after ≡ before
NamesAfter (fib ∷ fibs) before after =
    ((figs : List Fig) × IsFib fib figs × NamesAfter fibs (named_by_figs figs before) after)
    ⊎ ((fault : FibFault) × IsFibFault fib fault × NamesAfter fibs before after)
