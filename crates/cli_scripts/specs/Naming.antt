-- The state of a new listener after a stream of FIBs, and the ensemble of the stream's last FIG 0/0.
use Rattle.std.specs.Prelude.{ℕ, Bool, if◌then◌else◌, List, Option, None, Result, Ok, Err}
use Rattle.script_config.specs.Ensembles.{NamesAfter}
use Rattle.cli_streams.specs.declared.listen.StreamFault.{StreamFault}
use Rattle.cli_streams.specs.declared.listen.StreamFault.TheVariants.{Full as NoRoom}
use Rattle.cli_streams.specs.declared.listen.Heard.{Heard}
use Rattle.cli_scripts.specs.declared.listen_script.Named.{Named}
use Rattle.cli_streams.specs.Stream.{HearsStream, fibs_of_stream}

-- the result of decoding a stream, with the EId of its last FIG 0/0
abbrev pub HearsNamed : List ℕ → Result Named StreamFault → Type 0
HearsNamed stream (Ok named) = HearsStream stream (Ok named.heard) × NamesAfter (fibs_of_stream stream) None named.eid
HearsNamed stream (Err fault) = HearsStream stream (Err fault)

-- the result after these FIBs, depending on whether a picture had room
abbrev pub ended_named : (has_room : Bool) → Heard → Option ℕ → Result Named StreamFault
ended_named has_room heard eid = if has_room then Ok (record { heard = heard; eid = eid }) else Err NoRoom
