-- Fingerprints of configurations. Not used in public contracts.
use Rattle.std.specs.Prelude.{ℕ, ◌+◌, ◌*◌, ◌%◌, if◌then◌else◌, List, [], ◌∷◌}
use Rattle.mux_eep.specs.declared.sizes.EepSet.{EepSet}
use Rattle.mux_eep.specs.declared.sizes.EepSet.TheVariants.{A, B}
use Rattle.mux_types.specs.declared.parts.Sub.{Sub}
use Rattle.mux_types.specs.declared.parts.Service.{Service}
use Rattle.mux_types.specs.declared.parts.Component.{Component}
use Rattle.mux_types.specs.declared.parts.Component.TheVariants.{Sound, Stream, Packet as InPackets}
use Rattle.mux_types.specs.declared.parts.Packet.{Packet}
use Rattle.mux_config.specs.Configuration.{Configuration, service_key}

-- the configurations of a pool
pub record Listed : Type 0 where
  pub items : List Configuration

-- a fingerprint, extended by a number below 2 to the power of 64
unfoldable pub mix : ℕ → ℕ → ℕ
mix print word = (print * 11400714819323198485 % 18446744073709551616 + word) % 18446744073709551616

-- a fingerprint, extended by the numbers of a list's members
abbrev pub mix_all : {T : Type 0} → (T → ℕ) → ℕ → List T → ℕ
mix_all word print [] = print
mix_all word print (x ∷ xs) = mix_all word (mix print (word x)) xs

abbrev pub set_bits : EepSet → ℕ
set_bits A = 0
set_bits B = 8

abbrev pub sub_bits : Sub → ℕ
sub_bits s = mix (mix (s.id + 64 * (s.protection.level + set_bits s.protection.set)) s.start) s.kbits

abbrev pub component_number : Component → ℕ
component_number (Sound ty sub) = sub + 64 * ty
component_number (Stream ty sub) = sub + 64 * ty + 4096
component_number (InPackets scid) = scid + 8192

abbrev pub service_bits : Service → ℕ
service_bits s = mix_all component_number (service_key s) s.components

abbrev pub packet_bits : Packet → ℕ
packet_bits p = mix (mix p.scid (p.sub + 4096 * (p.ty + (if p.dg then 64 else 0)))) p.address

abbrev pub print_of : Configuration → ℕ
print_of c = mix_all packet_bits (mix_all service_bits (mix_all sub_bits 0 c.subs) c.services) c.packets
