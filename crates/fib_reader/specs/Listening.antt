-- A receiver's view of the multiplex after what it has heard: a fold over the FIGs of undamaged FIBs (EN 300 401
-- clauses 6.2.1, 6.3.1, 6.3.2, 6.4 and 6.5).
use Rattle.std.specs.Prelude.{◌≡◌, ℕ, ◌+◌, ◌*◌, ◌/◌, ◌%◌, ◌==◌, ◌||◌, Bool, true, false, if◌then◌else◌, nat_lt, List}
use Rattle.std.specs.Prelude.{[], ◌∷◌, ◌++◌, length, get_or, Option, Some, None, Result, Ok, Err}
use Rattle.mux_types.specs.Entries.{EnsembleInformation}
use Rattle.mux_config.specs.Tables.{with_entry, with_entry_changed, has_entry}
use Rattle.fib_codec.specs.Grammar.{Fig, Open, Other, IsFib, is_next}
use Rattle.fib_reader.specs.declared.fault.ListenFault.{ListenFault}
use Rattle.fib_reader.specs.declared.fault.ListenFault.TheVariants.{Fib, Full}
use Rattle.fib_reader.specs.Faults.{IsFibFault}
use Rattle.fib_reader.specs.Raw.{Raw, entries_in, u16_at_offset, ensemble_in}

-- the entries heard of one configuration, each list in ascending order of identifiers
pub record Pictured : Type 0 where
  pub subs : List Raw
  pub services : List Raw
  pub packets : List Raw

abbrev pub blank : Pictured
blank = record { subs = []; services = []; packets = [] }

-- in ascending order of extension and identifier
abbrev pub all_entries : Pictured → List Raw
all_entries p = p.subs ++ p.services ++ p.packets

-- the identifier that distinguishes an entry from others of its extension: the EId, the SubChId in both forms of FIG
-- 0/1, the SId with short ones before long ones, the SCId
abbrev pub identifier_of : Raw → ℕ
identifier_of raw =
    if raw.ext == 0 then u16_at_offset 0 raw.bytes
    else if raw.ext == 1 then get_or raw.bytes 0 0 / 4
    else if raw.ext == 2
    then (if raw.long then 65536 + (u16_at_offset 0 raw.bytes * 65536 + u16_at_offset 2 raw.bytes) else u16_at_offset 0
    raw.bytes)
    else u16_at_offset 0 raw.bytes / 16

-- an entry replaces one with the same identifier, or else is added to the others
abbrev pub is_known : Raw → List Raw → Bool
is_known raw raws = has_entry identifier_of (identifier_of raw) raws

abbrev pub kept : Raw → List Raw → List Raw
kept raw raws = if is_known raw raws then with_entry_changed identifier_of raw raws else with_entry identifier_of raw
    raws

-- there are at most 64 sub-channels; a picture has room for 64 services and 64 packet components
abbrev pub has_room : Raw → List Raw → Bool
has_room raw raws = is_known raw raws || nat_lt (length raws) 64

-- the picture with an entry of FIG 0/1 to 0/3; None if it has no room for it
abbrev pub pictured : Raw → Pictured → Option Pictured
pictured raw p =
    if raw.ext == 1 then Some (record p { subs = kept raw p.subs })
    else if raw.ext == 2
    then (if has_room raw p.services then Some (record p { services = kept raw p.services }) else None)
    else (if has_room raw p.packets then Some (record p { packets = kept raw p.packets }) else None)

-- the state of a listener: whether it has heard a FIG 0/0 yet, the current and the next configuration as far as it has
-- heard them, and the low part of the CIF count at which a swap is awaited
pub record Listening : Type 0 where
  pub tuned : Bool
  pub current : Pictured
  pub next : Pictured
  pub awaited : Option ℕ

abbrev pub untuned : Listening
untuned = record { tuned = false; current = blank; next = blank; awaited = None }

-- the awaited swap has been made: no change flag is set any more, or the low part of the CIF count is the awaited one
abbrev pub is_made : Option ℕ → EnsembleInformation → Bool
is_made None e = false
is_made (Some low) e = e.change == 0 || e.count % 250 == low

abbrev pub swapped : Listening → Listening
swapped l = record l { current = l.next; next = blank; awaited = None }

-- if a change flag is set, the swap is awaited at the occurrence change
abbrev pub awaiting : EnsembleInformation → Listening → Listening
awaiting e l = if e.change == 0 then l else record l { awaited = e.occurrence }

abbrev pub at_ensemble : EnsembleInformation → Listening → Listening
at_ensemble e l = awaiting e (record (if is_made l.awaited e then swapped l else l) { tuned = true })

-- an entry of FIG 0/1 to 0/3 goes into the picture selected by its C/N flag
abbrev pub into : Bool → Listening → Option Pictured → Option Listening
into next l None = None
into true l (Some p) = Some (record l { next = p })
into false l (Some p) = Some (record l { current = p })

abbrev pub picture_of : Bool → Listening → Pictured
picture_of next l = if next then l.next else l.current

-- one entry with this C/N flag; before the first FIG 0/0 only ensemble information is heard
abbrev pub hear_entry : Bool → Raw → Listening → Option Listening
hear_entry next raw l =
    if raw.ext == 0 then Some (at_ensemble (ensemble_in raw) l)
    else if l.tuned then into next l (pictured raw (picture_of next l))
    else Some l

abbrev pub where_heard : Option Listening → (Listening → Option Listening) → Option Listening
where_heard None more = None
where_heard (Some l) more = more l

-- in order; None if a picture has no room for an entry
abbrev pub hear_entries : Bool → List Raw → Listening → Option Listening
hear_entries next [] l = Some l
hear_entries next (raw ∷ raws) l = where_heard (hear_entry next raw l) (hear_entries next raws)

abbrev pub hear_fig : Fig → Listening → Option Listening
hear_fig (Open second es) l = hear_entries (is_next second) (entries_in (Open second es)) l
hear_fig (Other given) l = Some l

abbrev pub hear_figs : List Fig → Listening → Option Listening
hear_figs [] l = Some l
hear_figs (f ∷ fs) l = where_heard (hear_fig f l) (hear_figs fs)

-- the result for these 32 bytes, and the listener's new state, which is the old one on a fault or without room
abbrev pub Hears : List ℕ → Listening → Listening → Result (Unit {0}) ListenFault → Type 0
Hears bytes old new (Ok done) = (figs : List Fig) × IsFib bytes figs × (hear_figs figs old ≡ Some new)
Hears bytes old new (Err (Fib fault)) = IsFibFault bytes fault × (new ≡ old)
Hears bytes old new (Err Full) = ((figs : List Fig) × IsFib bytes figs × (hear_figs figs old ≡ None)) × (new ≡ old)

-- so the FIGs alone determine the result
abbrev pub Heard : Option Listening → Listening → Listening → Result (Unit {0}) ListenFault → Type 0
Heard None old new answer = (answer ≡ Err Full) × (new ≡ old)
Heard (Some heard) old new answer = (answer ≡ Ok tt) × (new ≡ heard)
