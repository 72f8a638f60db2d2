-- The readings of edits and of statements without a block: what is read is spelled so, and what is spelled so is read.
use Rattle.script_front.proofs.Words.{[], ◌++◌, ◌<◌, ◌∙◌, ◌∷◌, ◌≡◌, ◌≤◌, Act, ActKeyword, AddComponent, AddPacket}
use Rattle.script_front.proofs.Words.{AddService, AddSub, Adds, Bool, Carrier, CommitAt, CommitIn, Component}
use Rattle.script_front.proofs.Words.{DropComponent, DropPacket, DropService, DropSub, Edit, IsAct, IsCarrier}
use Rattle.script_front.proofs.Words.{IsComponent, IsEdit, IsNewPacket, IsNewSub, IsSid, ItemKeyword, Join, MoveSub}
use Rattle.script_front.proofs.Words.{RateSub, ReadsAsSpelled, Settle, Some, Sound, Spelled, Stream, Until, Wait}
use Rattle.script_front.proofs.Words.{WaitAny, WaitContact, act_keyword, act_lexemes, after_itself, arith, below}
use Rattle.script_front.proofs.Words.{bind_some, both, both_law, built, carried_lexemes, carrier_lexemes}
use Rattle.script_front.proofs.Words.{component_keyword, decimal, drop, dropping, edit_keyword, edit_lexemes}
use Rattle.script_front.proofs.Words.{either_given, false, finish, from_one, giving, groups_text, inl, inr, keyed}
use Rattle.script_front.proofs.Words.{keyed_given, keyed_law, letters, made_found, made_given, moment_at, next_itself}
use Rattle.script_front.proofs.Words.{number_at, other_next, packet_of, profile_at, profile_text, refl, sid_at}
use Rattle.script_front.proofs.Words.{sid_text, sub_of, true, values_are_read, within_lexemes, ℕ}
use Rattle.mux_eep.specs.Sizes.{Profile}
use Rattle.mux_types.specs.declared.parts.Sub.{Sub}
use Rattle.mux_types.specs.declared.parts.Packet.{Packet}
use Rattle.script_tokens.specs.declared.first_keyword.ComponentKeyword.{ComponentKeyword}
use Rattle.script_tokens.specs.declared.first_keyword.EditKeyword.{EditKeyword}
use Rattle.script_tokens.specs.Reading.{either}
use Rattle.mux_types.specs.declared.parts.Carrier.TheVariants.{Sub as BySub, Packet as ByPacket}
use Rattle.mux_types.specs.declared.parts.Component.TheVariants.{Packet as InPackets}
use Rattle.script_front.specs.declared.tree.Act.TheVariants.{Edit as Edits}
use Rattle.script_front.specs.Readers.{sub_at, service_at, groups_at, new_sub_at, new_packet_at, typed_sub_at}
use Rattle.script_front.specs.Readers.{component_from, item_from, carrier_at, dropped_at, moved_at, rated_at, edit_from}
use Rattle.script_front.specs.Readers.{committing_at, act_from}
use Rattle.script_tokens.specs.declared.keyword.Keyword.TheVariants as the
use Rattle.script_tokens.specs.declared.first_keyword.ComponentKeyword.TheVariants as component
use Rattle.script_tokens.specs.declared.first_keyword.ItemKeyword.TheVariants as item
use Rattle.script_tokens.specs.declared.first_keyword.EditKeyword.TheVariants as edit
use Rattle.script_tokens.specs.declared.first_keyword.ActKeyword.TheVariants as act
use Rattle.script_front.proofs.ReadingWaits.{IsPast, IsWait, wait_rest, moment_given, moment_found, wait_given}
use Rattle.script_front.proofs.ReadingWaits.{wait_found, contact_found, any_found}

-- ---- fields

six : ReadsAsSpelled (number_at 0 63) (λ n. n < 64) (λ n. decimal n ∷ [])
six = below 64 63 refl (omega arith)

ten : ReadsAsSpelled (number_at 0 1023) (λ n. n < 1024) (λ n. decimal n ∷ [])
ten = below 1024 1023 refl (omega arith)

twelve : ReadsAsSpelled (number_at 0 4095) (λ n. n < 4096) (λ n. decimal n ∷ [])
twelve = below 4096 4095 refl (omega arith)

sixteen : ReadsAsSpelled (number_at 0 65535) (λ n. n < 65536) (λ n. decimal n ∷ [])
sixteen = below 65536 65535 refl (omega arith)

sub_law : ReadsAsSpelled sub_at (λ n. n < 64) (λ n. letters the.Sub ∷ decimal n ∷ [])
unfolding sub_at
sub_law = keyed_law the.Sub (number_at 0 63) (λ n. n < 64) (λ n. decimal n ∷ []) six

service_law : ReadsAsSpelled service_at IsSid within_lexemes
unfolding service_at
service_law = keyed_law the.In sid_at IsSid (λ s. sid_text s ∷ []) values_are_read.sids

typed_sub_law : ReadsAsSpelled typed_sub_at (λ p. (p.0 < 64) × (p.1 < 64))
    (λ p. decimal p.0 ∷ letters the.Sub ∷ decimal p.1 ∷ [])
unfolding typed_sub_at
typed_sub_law = both_law (number_at 0 63) (λ n. n < 64) (λ n. decimal n ∷ []) sub_at (λ n. n < 64)
    (λ n. letters the.Sub ∷ decimal n ∷ []) six sub_law

groups_law : ReadsAsSpelled groups_at (λ dg. Unit {0}) (λ dg. groups_text dg ∷ [])
unfolding groups_at
groups_law = record {
  given = λ ws x e. elim (either_given the.Groups (λ vs. Some (false, vs)) (keyed the.Raw (λ vs. Some (true, vs))) ws x
      e) [
        | inl h ↦ finish (λ y. Unit {0} × (ws ≡ groups_text y.0 ∷ y.1)) (false, drop 1 ws) x h.1 (tt, h.0)
        | inr h ↦ (let k = keyed_given the.Raw (λ vs. Some (true, vs)) ws x h.1 in
            finish (λ y. Unit {0} × (ws ≡ groups_text y.0 ∷ y.1)) (true, k.rest) x k.read_is (tt, k.begins))
      ];
  found = groups_found;
}
  where
    groups_found : (dg : Bool) (rest : Spelled) → Unit {0} → groups_at (groups_text dg ∷ rest) ≡ Some (dg, rest)
    groups_found false rest u = rw (next_itself the.Groups rest) refl
    groups_found true rest u = rw (other_next the.Raw the.Groups rest (λ e. cc), after_itself the.Raw rest) refl

-- ---- records

abbrev Text : Sub → Spelled
Text s = decimal s.id ∷ letters the.At ∷ decimal s.start ∷ letters the.Eep ∷ profile_text s.protection ∷ decimal s.kbits
    ∷ []

abbrev IsFields : ℕ × (ℕ × (Profile × ℕ)) → Type 0
IsFields p = (p.0 < 64) × ((p.1.0 < 1024) × (((1 ≤ p.1.1.0.level) × (p.1.1.0.level ≤ 4)) × (p.1.1.1 < 65536)))

fields_law : ReadsAsSpelled (both (number_at 0 63) (both (keyed the.At (number_at 0 1023))
    (both (keyed the.Eep profile_at) (number_at 0 65535)))) IsFields (λ p. Text (sub_of p))
fields_law =
    let start = keyed_law the.At (number_at 0 1023) (λ n. n < 1024) (λ n. decimal n ∷ []) ten in
    let profile = keyed_law the.Eep profile_at (λ (p : Profile). (1 ≤ p.level) × (p.level ≤ 4))
    (λ p. profile_text p ∷ []) values_are_read.profiles in
    both_law _ _ _ _ _ _ six (both_law _ _ _ _ _ _ start (both_law _ _ _ _ _ _ profile sixteen))

new_sub_law : ReadsAsSpelled new_sub_at IsNewSub Text
unfolding new_sub_at
new_sub_law = record {
  given = made_given _ _ _ fields_law sub_of IsNewSub Text []
      (λ p h. record { named = h.0; start = h.1.0; from_one = h.1.1.0.0; to_four = h.1.1.0.1; rate = h.1.1.1 })
      (λ p h. refl);
  found = λ s rest is. made_found _ _ _ fields_law _ _ _ (is.named, (is.start, ((is.from_one, is.to_four), is.rate)));
}

abbrev PacketText : Packet → Spelled
PacketText p = decimal p.scid ∷ groups_text p.dg ∷ letters the.TypeWord ∷ decimal p.ty ∷ letters the.Sub ∷ decimal p.sub
    ∷ letters the.Address ∷ decimal p.address ∷ []

abbrev ArePacketFields : ℕ × (Bool × (ℕ × (ℕ × ℕ))) → Type 0
ArePacketFields p = (p.0 < 4096) × (Unit {0} × ((p.1.1.0 < 64) × ((p.1.1.1.0 < 64) × (p.1.1.1.1 < 65536))))

packet_fields_law : ReadsAsSpelled
    (both (number_at 0 4095) (both groups_at (both (keyed the.TypeWord (number_at 0 63))
    (both sub_at (keyed the.Address (number_at 0 65535)))))) ArePacketFields (λ p. PacketText (packet_of p))
packet_fields_law =
    let type = keyed_law the.TypeWord (number_at 0 63) (λ n. n < 64) (λ n. decimal n ∷ []) six in
    let address = keyed_law the.Address (number_at 0 65535) (λ n. n < 65536) (λ n. decimal n ∷ []) sixteen in
    both_law _ _ _ _ _ _ twelve
    (both_law _ _ _ _ _ _ groups_law (both_law _ _ _ _ _ _ type (both_law _ _ _ _ _ _ sub_law address)))

new_packet_law : ReadsAsSpelled new_packet_at IsNewPacket PacketText
unfolding new_packet_at
new_packet_law = record {
  given = made_given _ _ _ packet_fields_law packet_of IsNewPacket PacketText []
      (λ p h. record { named = h.0; typed = h.1.1.0; carried = h.1.1.1.0; to_last = h.1.1.1.1 }) (λ p h. refl);
  found = λ p rest is. made_found _ _ _ packet_fields_law _ _ _ (is.named, (tt, (is.typed, (is.carried, is.to_last))));
}

-- ---- components and carriers

-- the keyword that begins a component, and the tokens after it
abbrev pub component_first : Component → ComponentKeyword
component_first (Sound ty sub) = component.Audio
component_first (Stream ty sub) = component.Data
component_first (InPackets scid) = component.Carry

abbrev pub carried_rest : Component → Spelled
carried_rest m = drop 1 (carried_lexemes m)

abbrev IsBegun : ComponentKeyword → Component → Type 0
IsBegun k m = IsComponent m × (component_first m ≡ k)

component_given : (k : ComponentKeyword) (ws : Spelled) (x : Component × Spelled) → component_from k ws ≡ Some x
    → IsBegun k x.0 × (ws ≡ carried_rest x.0 ++ x.1)
unfolding component_from
component_given component.Audio ws x e =
    made_given _ _ _ typed_sub_law (λ p. Sound p.0 p.1) (IsBegun component.Audio) carried_rest [] (λ p h. (h, refl))
    (λ p h. refl) ws x e
component_given component.Data ws x e =
    made_given _ _ _ typed_sub_law (λ p. Stream p.0 p.1) (IsBegun component.Data) carried_rest [] (λ p h. (h, refl))
    (λ p h. refl) ws x e
component_given component.Carry ws x e =
    made_given _ _ _ twelve InPackets (IsBegun component.Carry) carried_rest [] (λ p h. (h, refl)) (λ p h. refl) ws x e

component_found : (m : Component) (rest : Spelled) → IsComponent m
    → component_from (component_first m) (carried_rest m ++ rest) ≡ Some (m, rest)
unfolding component_from
component_found (Sound ty sub) rest is = made_found _ _ _ typed_sub_law (λ p. Sound p.0 p.1) (ty, sub) rest is
component_found (Stream ty sub) rest is = made_found _ _ _ typed_sub_law (λ p. Stream p.0 p.1) (ty, sub) rest is
component_found (InPackets scid) rest is = made_found _ _ _ twelve InPackets scid rest is

component_law : (k : ComponentKeyword) → ReadsAsSpelled (component_from k) (IsBegun k) carried_rest
component_law k = record {
  given = component_given k;
  found = λ m rest is. rw (← is.1) (component_found m rest is.0);
}

carrier_law : ReadsAsSpelled carrier_at IsCarrier carrier_lexemes
unfolding carrier_at
carrier_law = record {
  given = λ ws x e. elim (either_given the.Sub (built BySub (number_at 0 63))
      (keyed the.Packet (built ByPacket (number_at 0 4095))) ws x e) [
        | inl h ↦ (let g = made_given _ _ _ six BySub IsCarrier carrier_lexemes (letters the.Sub ∷ []) (λ a is. is)
            (λ a h. refl) _ x h.1 in (g.0, h.0 ∙ g.1))
        | inr h ↦ (
            let k = keyed_given the.Packet (built ByPacket (number_at 0 4095)) ws x h.1 in
            let g = made_given _ _ _ twelve ByPacket IsCarrier carrier_lexemes (letters the.Packet ∷ []) (λ a is. is)
            (λ a h. refl) k.rest x k.read_is in (g.0, k.begins ∙ g.1)
            )
      ];
  found = carrier_found;
}
  where
    carrier_found : (m : Carrier) (rest : Spelled) → IsCarrier m
        → carrier_at (carrier_lexemes m ++ rest) ≡ Some (m, rest)
    carrier_found (BySub id) rest is =
        rw (next_itself the.Sub (decimal id ∷ rest))
        (made_found (number_at 0 63) (λ n. n < 64) (λ n. decimal n ∷ []) six BySub id rest is)
    carrier_found (ByPacket scid) rest is =
        rw (
          other_next the.Packet the.Sub (decimal scid ∷ rest) (λ e. cc),
          after_itself the.Packet (decimal scid ∷ rest),
        )
        (made_found (number_at 0 4095) (λ n. n < 4096) (λ n. decimal n ∷ []) twelve ByPacket scid rest is)

-- ---- edits

abbrev pub edit_first : Edit → EditKeyword
edit_first (AddSub s) = edit.Item item.Sub
edit_first (AddService sid) = edit.Item item.Service
edit_first (AddPacket p) = edit.Item item.Packet
edit_first (AddComponent sid m) = edit.Item (item.Component (component_first m))
edit_first (MoveSub id start) = edit.Move
edit_first (RateSub id kbits) = edit.Rate
edit_first e = edit.Drop

abbrev pub edit_rest : Edit → Spelled
edit_rest (AddComponent sid m) = carried_rest m ++ within_lexemes sid
edit_rest e = drop 1 (edit_lexemes e)

carried_begins : (m : Component) → carried_lexemes m ≡ letters (component_keyword (component_first m)) ∷ carried_rest m
carried_begins (Sound ty sub) = refl
carried_begins (Stream ty sub) = refl
carried_begins (InPackets scid) = refl

pub edit_begins : (e : Edit) → edit_lexemes e ≡ letters (edit_keyword (edit_first e)) ∷ edit_rest e
edit_begins (AddComponent sid m) = rw (carried_begins m) refl
edit_begins e = refl

-- an edit that begins with this keyword
abbrev pub IsEditOf : EditKeyword → Edit → Type 0
IsEditOf k e = IsEdit e × (edit_first e ≡ k)

abbrev pub IsItemOf : ItemKeyword → Edit → Type 0
IsItemOf k e = IsEdit e × Adds e × (edit_first e ≡ edit.Item k)

pub item_given : (k : ItemKeyword) (ws : Spelled) (x : Edit × Spelled) → item_from k ws ≡ Some x → IsItemOf k x.0
    × (ws ≡ edit_rest x.0 ++ x.1)
unfolding item_from
item_given item.Sub ws x e = made_given _ _ _ new_sub_law AddSub (IsItemOf item.Sub) edit_rest [] (λ a h. (h, tt, refl))
    (λ a h. refl) ws x e
item_given item.Service ws x e =
    made_given _ _ _ values_are_read.sids AddService (IsItemOf item.Service) edit_rest [] (λ a h. (h, tt, refl))
    (λ a h. refl) ws x e
item_given item.Packet ws x e =
    made_given _ _ _ new_packet_law AddPacket (IsItemOf item.Packet) edit_rest [] (λ a h. (h, tt, refl)) (λ a h. refl)
    ws x e
item_given (item.Component k) ws x e =
    made_given _ _ _ (both_law _ _ _ _ _ _ (component_law k) service_law) (λ p. AddComponent p.1 p.0)
    (IsItemOf (item.Component k)) edit_rest [] (λ a h. ((h.1, h.0.0), tt, rw (h.0.1) refl)) (λ a h. refl) ws x e

placed_law : ReadsAsSpelled (both carrier_at service_at) (λ p. IsCarrier p.0 × IsSid p.1)
    (λ p. carrier_lexemes p.0 ++ within_lexemes p.1)
placed_law = both_law _ _ _ _ _ _ carrier_law service_law

moving_law : ReadsAsSpelled (both sub_at (keyed the.At (number_at 0 1023))) (λ p. (p.0 < 64) × (p.1 < 1024))
    (λ p. letters the.Sub ∷ decimal p.0 ∷ letters the.At ∷ decimal p.1 ∷ [])
moving_law = both_law _ _ _ _ _ _ sub_law (keyed_law _ _ (λ n. n < 1024) (λ n. decimal n ∷ []) ten)

rating_law : ReadsAsSpelled (both sub_at (number_at 0 65535)) (λ p. (p.0 < 64) × (p.1 < 65536))
    (λ p. letters the.Sub ∷ decimal p.0 ∷ decimal p.1 ∷ [])
rating_law = both_law _ _ _ _ _ _ sub_law sixteen

dropping_is : (c : Carrier) → IsCarrier c → IsEditOf edit.Drop (dropping c)
dropping_is (BySub id) h = (h, refl)
dropping_is (ByPacket scid) h = (h, refl)

dropping_rest : (c : Carrier) → IsCarrier c → edit_rest (dropping c) ≡ carrier_lexemes c
dropping_rest (BySub id) h = refl
dropping_rest (ByPacket scid) h = refl

dropped_given : (ws : Spelled) (x : Edit × Spelled) → dropped_at ws ≡ Some x → IsEditOf edit.Drop x.0
    × (ws ≡ edit_rest x.0 ++ x.1)
unfolding dropped_at
dropped_given ws x e = elim (either_given the.Service (built DropService sid_at)
    (either the.Component (built (λ p. DropComponent p.1 p.0) (both carrier_at service_at)) (built dropping carrier_at))
    ws x e) [
      | inl h ↦ (let g = made_given _ _ _ values_are_read.sids DropService (IsEditOf edit.Drop) edit_rest
          (letters the.Service ∷ []) (λ a is. (is, refl)) (λ a h. refl) _ x h.1 in (g.0, h.0 ∙ g.1))
      | inr h ↦ elim (either_given the.Component (built (λ p. DropComponent p.1 p.0) (both carrier_at service_at))
          (built dropping carrier_at) ws x h.1) [
            | inl k ↦ (
                let g = made_given _ _ _ placed_law (λ p. DropComponent p.1 p.0) (IsEditOf edit.Drop) edit_rest
                (letters the.Component ∷ []) (λ a is. ((is.1, is.0), refl)) (λ a h. refl) _ x k.1 in
                (g.0, k.0 ∙ g.1)
                )
            | inr k ↦ made_given _ _ _ carrier_law dropping (IsEditOf edit.Drop) edit_rest [] dropping_is dropping_rest
                ws x k.1
          ]
    ]

edit_given : (k : EditKeyword) (ws : Spelled) (x : Edit × Spelled) → edit_from k ws ≡ Some x → IsEditOf k x.0
    × (ws ≡ edit_rest x.0 ++ x.1)
unfolding edit_from moved_at rated_at
edit_given edit.Drop ws x e = dropped_given ws x e
edit_given edit.Move ws x e = made_given _ _ _ moving_law (λ p. MoveSub p.0 p.1) (IsEditOf edit.Move) edit_rest []
    (λ a h. (h, refl)) (λ a h. refl) ws x e
edit_given edit.Rate ws x e = made_given _ _ _ rating_law (λ p. RateSub p.0 p.1) (IsEditOf edit.Rate) edit_rest []
    (λ a h. (h, refl)) (λ a h. refl) ws x e
edit_given (edit.Item k) ws x e = let g = item_given k ws x e in ((g.0.0, g.0.2), g.1)

-- `drop`, and then a carrier
carrier_dropped : (c : Carrier) (rest : Spelled) → IsCarrier c
    → dropped_at (carrier_lexemes c ++ rest) ≡ Some (dropping c, rest)
unfolding dropped_at
carrier_dropped (BySub id) rest is =
    rw (
      other_next the.Sub the.Service (decimal id ∷ rest) (λ e. cc),
      other_next the.Sub the.Component (decimal id ∷ rest) (λ e. cc),
    )
    (made_found _ _ _ carrier_law dropping (BySub id) rest is)
carrier_dropped (ByPacket scid) rest is =
    rw (
      other_next the.Packet the.Service (decimal scid ∷ rest) (λ e. cc),
      other_next the.Packet the.Component (decimal scid ∷ rest) (λ e. cc),
    )
    (made_found _ _ _ carrier_law dropping (ByPacket scid) rest is)

edit_found : (e : Edit) (rest : Spelled) → IsEdit e → edit_from (edit_first e) (edit_rest e ++ rest) ≡ Some (e, rest)
unfolding edit_from item_from dropped_at moved_at rated_at
edit_found (AddSub s) rest is = made_found _ _ _ new_sub_law AddSub s rest is
edit_found (AddService sid) rest is = made_found _ _ _ values_are_read.sids AddService sid rest is
edit_found (AddPacket p) rest is = made_found _ _ _ new_packet_law AddPacket p rest is
edit_found (AddComponent sid m) rest is =
    made_found _ _ _ (both_law _ _ _ _ _ _ (component_law (component_first m)) service_law) (λ p. AddComponent p.1 p.0)
    (m, sid) rest ((is.1, refl), is.0)
edit_found (MoveSub id start) rest is = made_found _ _ _ moving_law (λ p. MoveSub p.0 p.1) (id, start) rest is
edit_found (RateSub id kbits) rest is = made_found _ _ _ rating_law (λ p. RateSub p.0 p.1) (id, kbits) rest is
edit_found (DropService sid) rest is = rw (next_itself _ _) (made_found _ _ _ values_are_read.sids _ _ _ is)
edit_found (DropComponent sid c) rest is =
    let later : Spelled = (carrier_lexemes c ++ within_lexemes sid) ++ rest in
    rw (other_next the.Component the.Service later (λ e. cc), next_itself the.Component later)
    (made_found _ _ _ placed_law (λ p. DropComponent p.1 p.0) (c, sid) rest (is.1, is.0))
edit_found (DropSub id) rest is = carrier_dropped (BySub id) rest is
edit_found (DropPacket scid) rest is = carrier_dropped (ByPacket scid) rest is

pub edit_law : (k : EditKeyword) → ReadsAsSpelled (edit_from k) (IsEditOf k) edit_rest
edit_law k = record {
  given = edit_given k;
  found = λ e rest is. rw (← is.1) (edit_found e rest is.0);
}

pub item_law : (k : ItemKeyword) → ReadsAsSpelled (item_from k) (IsItemOf k) edit_rest
unfolding edit_from
item_law k = record { given = item_given k; found = λ e rest is. (edit_law (edit.Item k)).found e rest (is.0, is.2) }

-- ---- statements without a block

abbrev pub act_first : Act → ActKeyword
act_first (Edits e) = act.Edit (edit_first e)
act_first (Wait frames) = act.Wait
act_first (WaitContact contact closed) = act.Wait
act_first (Until moment) = act.Until
act_first (WaitAny alternatives) = act.Wait
act_first (CommitIn delay) = act.Commit
act_first (CommitAt count) = act.Commit
act_first Join = act.Join
act_first Settle = act.Settle

abbrev pub act_rest : Act → Spelled
act_rest (Edits e) = edit_rest e
act_rest a = drop 1 (act_lexemes a)

pub act_begins : (a : Act) → act_lexemes a ≡ letters (act_keyword (act_first a)) ∷ act_rest a
act_begins (Edits e) = edit_begins e
act_begins a = refl

abbrev pub IsActOf : ActKeyword → Act → Type 0
IsActOf k a = IsAct a × (act_first a ≡ k)

delay_law : ReadsAsSpelled (number_at 1 60000) (λ n. (1 ≤ n) × (n ≤ 60000)) (λ n. decimal n ∷ [])
delay_law = values_are_read.numbers 1 60000 (omega arith)

-- the acts that begin with `wait`
begins_so : (a : Act) → IsWait a → act_first a ≡ act.Wait
begins_so (Wait frames) h = refl
begins_so (WaitContact contact closed) h = refl
begins_so (WaitAny all) h = refl
begins_so a h = absurd h

rests_so : (a : Act) → IsWait a → wait_rest a ≡ act_rest a
rests_so (Wait frames) h = refl
rests_so (WaitContact contact closed) h = refl
rests_so (WaitAny all) h = refl
rests_so a h = absurd h

act_given : (k : ActKeyword) (ws : Spelled) (x : Act × Spelled) → act_from k ws ≡ Some x → IsActOf k x.0
    × (ws ≡ act_rest x.0 ++ x.1)
unfolding act_from committing_at
act_given act.Wait ws x e = let g = wait_given ws x e in
    ((g.0, begins_so x.0 g.1), rw (← rests_so x.0 g.1) g.2)
act_given act.Until ws x e =
    let m = bind_some (moment_at ws) (giving Until) x e in
    let g = moment_given ws m.x m.first in
    finish (λ y. IsActOf act.Until y.0 × (ws ≡ act_rest y.0 ++ y.1)) _ _ m.second ((g.0, refl), g.1)
act_given act.Commit ws x e = elim (either_given the.In (built CommitIn (number_at 1 60000))
    (keyed the.At (built CommitAt (number_at 0 65535))) ws x e) [
      | inl h ↦ (let g = made_given _ _ _ delay_law CommitIn (IsActOf act.Commit) act_rest (letters the.In ∷ [])
          (λ a is. (is, refl)) (λ a h. refl) _ x h.1 in (g.0, h.0 ∙ g.1))
      | inr h ↦ (
          let k = keyed_given the.At (built CommitAt (number_at 0 65535)) ws x h.1 in
          let g = made_given _ _ _ sixteen CommitAt (IsActOf act.Commit) act_rest (letters the.At ∷ [])
          (λ a is. (is, refl))
          (λ a h. refl) k.rest x k.read_is in (g.0, k.begins ∙ g.1)
          )
    ]
act_given act.Join ws x e = finish (λ y. IsActOf act.Join y.0 × (ws ≡ act_rest y.0 ++ y.1)) _ _ e ((tt, refl), refl)
act_given act.Settle ws x e = finish (λ y. IsActOf act.Settle y.0 × (ws ≡ act_rest y.0 ++ y.1)) _ _ e ((tt, refl), refl)
act_given (act.Edit k) ws x e =
    made_given _ _ _ (edit_law k) Edits (IsActOf (act.Edit k)) act_rest [] (λ a h. (h.0, rw (h.1) refl)) (λ a h. refl)
    ws x e

act_found : (a : Act) (rest : Spelled) → IsAct a → IsPast rest
    → act_from (act_first a) (act_rest a ++ rest) ≡ Some (a, rest)
unfolding act_from committing_at
act_found (Edits e) rest is past = made_found _ _ _ (edit_law (edit_first e)) Edits e rest (is, refl)
act_found (Wait frames) rest is past = wait_found frames rest is past
act_found (WaitContact contact closed) rest is past = contact_found contact closed rest is past
act_found (Until moment) rest is past = rw (moment_found moment rest is past.0) refl
act_found (WaitAny all) rest is past = any_found all rest is past
act_found (CommitIn delay) rest is past = rw (next_itself _ _) (made_found _ _ _ delay_law _ _ _ is)
act_found (CommitAt count) rest is past =
    rw (other_next the.At the.In _ (λ e. cc), after_itself the.At _) (made_found _ _ _ sixteen CommitAt count rest is)
act_found _ rest is past = refl

-- the law of acts: what is read is in range, and spelled so; and what is spelled so is read, where neither `early` nor
-- `or` follows
pub record ActsAreRead (k : ActKeyword) : Type 0 where
  pub given : (ws : Spelled) (x : Act × Spelled) → act_from k ws ≡ Some x → IsActOf k x.0 × (ws ≡ act_rest x.0 ++ x.1)
  pub found : (a : Act) (rest : Spelled) → IsActOf k a → IsPast rest → act_from k (act_rest a ++ rest) ≡ Some (a, rest)

pub act_law : (k : ActKeyword) → ActsAreRead k
act_law k = record {
  given = act_given k;
  found = λ a rest is past. rw (← is.1) (act_found a rest is.0 past);
}
