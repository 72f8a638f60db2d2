-- Which of the two organizations of the multiplex a reconfiguration changes, as the change flags of FIG 0/0 encode it
-- (EN 300 401 clauses 6.4 and 6.5).
use Rattle.std.specs.Prelude.{◌≡◌, ℕ, ◌+◌, ◌&&◌, ◌↔◌, Bool, not, IsTrue, if◌then◌else◌, List}
use Rattle.mux_config.specs.declared.flags.Change.{Change}
use Rattle.mux_types.specs.Configuration.{Configuration, IsConfiguration}
use Rattle.mux_types.specs.Sameness.{is_same_list, is_same_sub, is_same_service, is_same_packet}
use Rattle.mux_types.specs.Facts.{sub_entries, service_entries, HaveSameMembers}

-- the sets of entries differ
abbrev pub AreOtherSets : {T : Type 0} → List T → List T → Type 0
AreOtherSets xs ys = HaveSameMembers xs ys → ⊥

-- the sub-channel organization changes if the sets of entries of FIG 0/1 differ, the service organization if those of
-- FIG 0/2 and 0/3 differ
pub record IsChange (c d : Configuration) (change : Change) : Type 0 where
  pub subs : IsTrue change.subs ↔ AreOtherSets (sub_entries c) (sub_entries d)
  pub services : IsTrue change.services ↔ AreOtherSets (service_entries c) (service_entries d)

-- the change flags as a number: 1 for the sub-channel organization, 2 for the service organization
abbrev pub bits_of : Change → ℕ
bits_of change = (if change.subs then 1 else 0) + (if change.services then 2 else 0)

-- ---- the change, by tests of equality

abbrev pub has_same_subs : Configuration → Configuration → Bool
has_same_subs c d = is_same_list is_same_sub c.subs d.subs

abbrev pub has_same_services : Configuration → Configuration → Bool
has_same_services c d = is_same_list is_same_service c.services d.services
    && is_same_list is_same_packet c.packets d.packets

abbrev pub change_of : Configuration → Configuration → Change
change_of c d = record { subs = not (has_same_subs c d); services = not (has_same_services c d) }

-- it is the change, and the only one
abbrev pub ChangeIsUnique : Type 0
ChangeIsUnique =
    (c d : Configuration) (change : Change) → IsConfiguration c → IsConfiguration d
    → IsChange c d change ↔ (change ≡ change_of c d)
