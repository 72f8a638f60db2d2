-- Examples of records, computed by the checker from the definitions.
use Rattle.mux_config.proofs.Words.{[], ◌++◌, ◌∷◌, ◌≡◌, A, Configuration, Err, Field, List, Ok, Sound, config_at}
use Rattle.mux_config.proofs.Words.{config_bytes, refl, ℕ}
use Rattle.mux_types.specs.declared.numbers.Sid.TheVariants.{Short as ShortSid}
use Rattle.mux_config.specs.Reading.{record_at, members_at, read_sub, read_service, components_at}
use Rattle.mux_config.specs.FieldReading.{protection_at, sid_at, component_at, component_of}

-- one programme of 128 kbit/s at 3-A
abbrev one_programme : Configuration
one_programme =
    record {
      subs = record { id = 1; start = 0; protection = record { set = A; level = 3 }; kbits = 128 } ∷ [];
      services = record { sid = ShortSid 49697; components = Sound 63 1 ∷ [] } ∷ [];
      packets = [];
    }

abbrev one_programme_bytes : List ℕ
one_programme_bytes = 1 ∷ 1 ∷ 0 ∷ 1 ∷ 0 ∷ 0 ∷ 0 ∷ 3 ∷ 0 ∷ 128 ∷ 0 ∷ 194 ∷ 33 ∷ 1 ∷ 0 ∷ 63 ∷ 1 ∷ []

one_programme-spelled : config_bytes one_programme ≡ one_programme_bytes
one_programme-spelled = refl

-- bytes after a record are left over
one_programme-followed : config_at (one_programme_bytes ++ 255 ∷ 0 ∷ []) ≡ Ok (one_programme, 255 ∷ 0 ∷ [])
unfolding record_at members_at read_sub protection_at read_service sid_at components_at component_at component_of
one_programme-followed = refl

-- a carrier that occurs twice is at fault at its component
carrier-fault : config_at (0 ∷ 1 ∷ 0 ∷ 0 ∷ 194 ∷ 33 ∷ 2 ∷ 0 ∷ 63 ∷ 1 ∷ 1 ∷ 5 ∷ 1 ∷ []) ≡ Err (Field 10)
unfolding record_at members_at read_service sid_at components_at component_at component_of
carrier-fault = refl
