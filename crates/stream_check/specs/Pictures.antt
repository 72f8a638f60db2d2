-- Pictures whose entries have the time when they were last heard.
use Rattle.std.specs.Prelude.{◌≡◌, ℕ, ◌+◌, ◌*◌, ◌==◌, Bool, ◌&&◌, if◌then◌else◌, nat_lt, List, [], ◌++◌, map}
use Rattle.std.specs.List.{list_all, AllByRecursion}
use Rattle.fib_reader.specs.Raw.{Raw}
use Rattle.fib_reader.specs.Listening.{Pictured, identifier_of}
use Rattle.mux_config.specs.Tables.{with_entry, with_entry_changed, has_entry}

-- an entry, and the time when it was last heard
pub record Heard : Type 0 where
  pub raw : Raw
  pub at : ℕ

abbrev pub heard_key : Heard → ℕ
heard_key h = identifier_of h.raw

abbrev pub raws : List Heard → List Raw
raws hs = map (λ h. h.raw) hs

-- replaces the entry with the same identifier, or inserts a new one
abbrev pub heard_kept : Heard → List Heard → List Heard
heard_kept h hs = if has_entry heard_key (heard_key h) hs then with_entry_changed heard_key h hs else with_entry
    heard_key h hs

-- the entries heard of one configuration
pub record HeardPicture : Type 0 where
  pub subs : List Heard
  pub services : List Heard
  pub packets : List Heard

abbrev pub empty_picture : HeardPicture
empty_picture = record { subs = []; services = []; packets = [] }

-- the picture of a listener
abbrev pub picture_of_heard : HeardPicture → Pictured
picture_of_heard p = record { subs = raws p.subs; services = raws p.services; packets = raws p.packets }

abbrev pub picture_kept : Heard → HeardPicture → HeardPicture
picture_kept h p =
    if h.raw.ext == 1 then record p { subs = heard_kept h p.subs }
    else if h.raw.ext == 2 then record p { services = heard_kept h p.services }
    else record p { packets = heard_kept h p.packets }

-- each entry was last heard after this time
abbrev pub heard_since : ℕ → HeardPicture → Bool
heard_since since p = list_all (λ h. nat_lt since h.at) p.subs
    && (list_all (λ h. nat_lt since h.at) p.services && list_all (λ h. nat_lt since h.at) p.packets)

-- a property of each entry
abbrev pub Each : (Heard → Type 0) → HeardPicture → Type 0
Each P p = AllByRecursion P p.subs × (AllByRecursion P p.services × AllByRecursion P p.packets)

-- each list has entries of its extension
abbrev pub HasKinds : HeardPicture → Type 0
HasKinds p =
    AllByRecursion (λ h. h.raw.ext ≡ 1) p.subs
    × (AllByRecursion (λ h. h.raw.ext ≡ 2) p.services × AllByRecursion (λ h. h.raw.ext ≡ 3) p.packets)

-- the kind and the identifier of an entry, as one number
abbrev pub key_of : Raw → ℕ
key_of raw = raw.ext + 4 * identifier_of raw

abbrev pub keys : List Heard → List ℕ
keys hs = map (λ h. key_of h.raw) hs

abbrev pub keys_of : HeardPicture → List ℕ
keys_of p = keys p.subs ++ (keys p.services ++ keys p.packets)
