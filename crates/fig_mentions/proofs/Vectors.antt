-- FIGs that agree with a configuration, and FIGs that do not, computed by the checker from the definitions.
use Rattle.std.proofs.Common.{◌≡◌, true, false, [], ◌∷◌, None, Some, refl}
use Rattle.fib_reader.specs.Raw.{Raw}
use Rattle.fib_reader.specs.Listening.{Pictured}
use Rattle.fig_mentions.specs.declared.mention.Mention.TheVariants.{Nothing, Sub, Packet, OnSub, ByPacket}
use Rattle.fig_mentions.specs.Mentions.{channel_in, component_size, first_entry_length, has_bit, is_naming, mentions_in}
use Rattle.fig_mentions.specs.Mentions.{mentions_of, scid_in, sid_in}
use Rattle.fig_mentions.specs.Agreeing.{are_there, fig_agrees, is_by, is_judged, is_named, is_nothing, is_of_next}
use Rattle.fig_mentions.specs.Agreeing.{is_on, is_present}

-- sub-channel 1; service C221 with audio on it and packet component 7; packet component 7
abbrev sub : Raw
sub = record { ext = 1; long = false; bytes = 4 ∷ 0 ∷ 136 ∷ 96 ∷ [] }

abbrev service : Raw
service = record { ext = 2; long = false; bytes = 194 ∷ 33 ∷ 2 ∷ 63 ∷ 6 ∷ 192 ∷ 28 ∷ [] }

abbrev packet : Raw
packet = record { ext = 3; long = false; bytes = 0 ∷ 112 ∷ 60 ∷ 20 ∷ 1 ∷ [] }

abbrev current : Pictured
current = record { subs = sub ∷ []; services = service ∷ []; packets = packet ∷ [] }

-- ---- fields

bit_is_set : has_bit 64 64 ≡ true
bit_is_set = refl

bit_is_not_set : has_bit 63 64 ≡ false
bit_is_not_set = refl

a_sub_channel : channel_in 129 ≡ Sub 1
a_sub_channel = refl

a_fidc : channel_in 65 ≡ Nothing
a_fidc = refl

twelve_bits : scid_in 240 7 ≡ 7
twelve_bits = refl

short_sid : sid_in false (194 ∷ 33 ∷ 0 ∷ 1 ∷ []) ≡ 49697
short_sid = refl

-- that of 32 bits comes behind all short ones
long_sid : sid_in true (0 ∷ 0 ∷ 0 ∷ 1 ∷ []) ≡ 65537
long_sid = refl

ext_byte : component_size 128 1 ≡ 3
ext_byte = refl

no_ext_byte : component_size 0 1 ≡ 2
no_ext_byte = refl

-- ---- entries

component : mentions_of 8 false (194 ∷ 33 ∷ 128 ∷ 1 ∷ 0 ∷ 194 ∷ 33 ∷ 1 ∷ 128 ∷ 7 ∷ [])
    ≡ Some (OnSub 49697 1 ∷ ByPacket 49697 7 ∷ [])
unfolding mentions_in
component = refl

not_whole : mentions_of 4 false (1 ∷ 0 ∷ []) ≡ None
unfolding mentions_in
not_whole = refl

size_of_an_access : first_entry_length 4 false (1 ∷ []) ≡ 3
size_of_an_access = refl

names_something : is_naming 19 ≡ true
names_something = refl

names_nothing : is_naming 9 ≡ false
names_nothing = refl

-- ---- what is there

on_it : is_on 1 (63 ∷ 6 ∷ []) ≡ true
on_it = refl

not_in_packets : is_on 7 (192 ∷ 28 ∷ []) ≡ false
not_in_packets = refl

by_it : is_by 7 (192 ∷ 28 ∷ []) ≡ true
by_it = refl

not_on_a_sub_channel : is_by 1 (63 ∷ 6 ∷ []) ≡ false
not_on_a_sub_channel = refl

sub_is_named : is_named (Sub 1) sub ≡ true
sub_is_named = refl

packet_is_not : is_named (Sub 7) packet ≡ false
packet_is_not = refl

nothing : is_nothing Nothing ≡ true
nothing = refl

something : is_nothing (Sub 0) ≡ false
something = refl

component_is_there : is_present current (ByPacket 49697 7) ≡ true
component_is_there = refl

of_another_service : is_present current (OnSub 49698 1) ≡ false
of_another_service = refl

none_is_whole : are_there current None ≡ false
none_is_whole = refl

all_are_there : are_there current (Some (Sub 1 ∷ Packet 7 ∷ [])) ≡ true
all_are_there = refl

-- ---- FIGs: the header byte, then the second byte with C/N, OE, P/D and the extension

judged : is_judged (4 ∷ 4 ∷ []) ≡ true
judged = refl

of_another_ensemble : is_judged (4 ∷ 68 ∷ []) ≡ false
of_another_ensemble = refl

services_to_come : is_of_next 136 ≡ true
services_to_come = refl

services_of_now : is_of_next 8 ≡ false
services_of_now = refl

languages_to_come : is_of_next 133 ≡ false
languages_to_come = refl

of_the_next_configuration : is_judged (4 ∷ 132 ∷ []) ≡ false
of_the_next_configuration = refl

languages_are_judged : is_judged (4 ∷ 133 ∷ []) ≡ true
languages_are_judged = refl

agrees : fig_agrees current (6 ∷ 8 ∷ 194 ∷ 33 ∷ 0 ∷ 1 ∷ []) ≡ true
unfolding mentions_in
agrees = refl

does_not : fig_agrees current (6 ∷ 8 ∷ 194 ∷ 33 ∷ 0 ∷ 2 ∷ []) ≡ false
unfolding mentions_in
does_not = refl

may_come : fig_agrees current (6 ∷ 136 ∷ 194 ∷ 33 ∷ 0 ∷ 2 ∷ []) ≡ true
may_come = refl
