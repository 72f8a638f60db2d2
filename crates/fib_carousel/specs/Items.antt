-- The members of a configuration by index, its three sets one after another.
use Rattle.std.specs.Prelude.{◌≡◌, ℕ, List, ◌++◌, slice_get, Some}
use Rattle.mux_config.specs.Configuration.{Configuration, IsPlaced, IsService, IsAddressed}
use Rattle.mux_types.specs.Facts.{sub_entry, service_entry, packet_entry, sub_entries, service_entries}
use Rattle.mux_types.specs.declared.entry.Entry.{Entry}
use Rattle.fib_carousel.specs.declared.page_set.Item.{Item}
use Rattle.fib_carousel.specs.declared.page_set.Item.TheVariants.{Sub as SubItem, Service as ServiceItem}
use Rattle.fib_carousel.specs.declared.page_set.Item.TheVariants.{Packet as PacketItem}

abbrev pub item_entry : Item → Entry
item_entry (SubItem s) = sub_entry s
item_entry (ServiceItem s) = service_entry s.now
item_entry (PacketItem p) = packet_entry p

abbrev pub IsFormedItem : Item → Type 0
IsFormedItem (SubItem s) = IsPlaced s
IsFormedItem (ServiceItem s) = IsService s.now
IsFormedItem (PacketItem p) = IsAddressed p

abbrev pub config_entries : Configuration → List Entry
config_entries c = sub_entries c ++ service_entries c

pub record IsItemAt (c : Configuration) (place : ℕ) (item : Item) : Type 0 where
  pub here : slice_get (config_entries c) place ≡ Some (item_entry item)
  pub formed : IsFormedItem item
