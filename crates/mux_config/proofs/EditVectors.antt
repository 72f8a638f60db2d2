-- Examples of edits, soundness and change, computed by the checker from the definitions.
use Rattle.mux_config.proofs.Words.{[], ◌∷◌, ◌≡◌, A, AddComponent, AddPacket, AddService, AddSub, AddressUsed}
use Rattle.mux_config.proofs.Words.{BadAddress, BadRate, Component, Configuration, DropComponent, DropService}
use Rattle.mux_config.proofs.Words.{EmptyService, Err, IdAbsent, IdUsed, List, MoveSub, None, Ok, Orphan, Overlap}
use Rattle.mux_config.proofs.Words.{Packet, PastEnd, RateSub, Service, Some, Sound, Sub, TableFull, TooManyComponents}
use Rattle.mux_config.proofs.Words.{bits_of, change_of, edited, false, first_fault, map, nothing, range_with_len, refl}
use Rattle.mux_config.proofs.Words.{ℕ}
use Rattle.mux_types.specs.declared.parts.Component.TheVariants.{Packet as InPackets}
use Rattle.mux_types.specs.declared.parts.Carrier.TheVariants.{Sub as BySub}
use Rattle.mux_types.specs.declared.numbers.Sid.TheVariants.{Short as ShortSid, Long as LongSid}

-- sub-channels of 3-A
abbrev sub : ℕ → ℕ → ℕ → Sub
sub id start kbits = record { id = id; start = start; protection = record { set = A; level = 3 }; kbits = kbits }

abbrev packet : ℕ → ℕ → ℕ → Packet
packet scid sub address = record { scid = scid; dg = false; ty = 60; sub = sub; address = address }

abbrev service : ℕ → List Component → Service
service id components = record { sid = ShortSid id; components = components }

-- one programme of 128 kbit/s at 3-A
abbrev one_programme : Configuration
one_programme = record { subs = sub 1 0 128 ∷ []; services = service 49697 (Sound 63 1 ∷ []) ∷ []; packets = [] }

sub-used : edited (AddSub (sub 1 900 7)) one_programme ≡ Err IdUsed
sub-used = refl

sub-past_end : edited (AddSub (sub 2 800 128)) one_programme ≡ Err PastEnd
sub-past_end = refl

abbrev two_programmes : Configuration
two_programmes = record one_programme { subs = sub 1 0 128 ∷ sub 2 768 128 ∷ [] }

sub-added : edited (AddSub (sub 2 768 128)) one_programme ≡ Ok two_programmes
sub-added = refl

sub-absent : edited (MoveSub 2 900) one_programme ≡ Err IdAbsent
sub-absent = refl

sub-bad_rate : edited (RateSub 1 33) one_programme ≡ Err BadRate
sub-bad_rate = refl

sub-rated : edited (RateSub 1 96) one_programme ≡ Ok (record one_programme { subs = sub 1 0 96 ∷ [] })
sub-rated = refl

service-added : edited (AddService (LongSid 0)) one_programme
    ≡ Ok (record one_programme {
      services = service 49697 (Sound 63 1 ∷ [])
          ∷ record { sid = LongSid 0; components = [] } ∷ [];
    })
service-added = refl

-- the 32-bit SId with the same number is another one
service-absent : edited (DropService (LongSid 49697)) one_programme ≡ Err IdAbsent
service-absent = refl

service-table_full : edited (AddService (ShortSid 64))
    (record nothing { services = map (λ n. service n []) (range_with_len 0 64) }) ≡ Err TableFull
service-table_full = refl

-- a service of twelve components
abbrev full_service : Configuration
full_service = record nothing { services = service 7 (map (Sound 63) (range_with_len 0 12)) ∷ [] }

component-used : edited (AddComponent (ShortSid 7) (Sound 5 3)) full_service ≡ Err IdUsed
component-used = refl

component-too_many : edited (AddComponent (ShortSid 7) (Sound 5 12)) full_service ≡ Err TooManyComponents
component-too_many = refl

component-at_the_end : edited (AddComponent (ShortSid 49697) (InPackets 1)) one_programme
    ≡ Ok (record one_programme { services = service 49697 (Sound 63 1 ∷ InPackets 1 ∷ []) ∷ [] })
component-at_the_end = refl

component-dropped : edited (DropComponent (ShortSid 49697) (BySub 1)) one_programme
    ≡ Ok (record one_programme { services = service 49697 [] ∷ [] })
component-dropped = refl

packet-bad_address : edited (AddPacket (packet 1 5 0)) one_programme ≡ Err BadAddress
packet-bad_address = refl

-- ---- soundness

sound : first_fault one_programme ≡ None
sound = refl

least_overlap : first_fault (record one_programme { subs = sub 1 48 64 ∷ sub 2 0 64 ∷ sub 3 40 64 ∷ sub 4 90 64 ∷ [] })
    ≡ Some (Overlap 1 3)
least_overlap = refl

orphan : first_fault (record one_programme { subs = sub 2 0 128 ∷ [] }) ≡ Some Orphan
orphan = refl

address_used : first_fault (record one_programme { packets = packet 1 1 5 ∷ packet 2 1 5 ∷ [] }) ≡ Some AddressUsed
address_used = refl

empty_service : first_fault (record one_programme { services = service 7 [] ∷ [] }) ≡ Some EmptyService
empty_service = refl

-- ---- change

sub-change : bits_of (change_of one_programme two_programmes) ≡ 1
sub-change = refl

service-change : bits_of (change_of one_programme (record one_programme { packets = packet 1 1 5 ∷ [] })) ≡ 2
service-change = refl

whole-change : bits_of (change_of one_programme nothing) ≡ 3
whole-change = refl

no-change : bits_of (change_of one_programme one_programme) ≡ 0
no-change = refl
