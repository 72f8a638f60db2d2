-- Reading the parts of a script from the front of the remaining tokens: what is read, and the tokens after it; None
-- where they do not begin with such a part. The relation that these functions meet is `SpellsTree` of
-- specs/Parsing.antt.
use Rattle.std.specs.Prelude.{ℕ, zero, suc, ◌-◌, ◌++◌, Bool, true, false, if◌then◌else◌, List, [], ◌∷◌, drop, Some}
use Rattle.std.specs.Prelude.{None, Option}
use Rattle.mux_config.specs.declared.edit.Edit.{Edit}
use Rattle.mux_config.specs.declared.edit.Edit.TheVariants.{AddSub, DropSub, MoveSub, RateSub, AddService, DropService}
use Rattle.mux_config.specs.declared.edit.Edit.TheVariants.{AddComponent, DropComponent, AddPacket, DropPacket}
use Rattle.mux_eep.specs.Sizes.{Profile}
use Rattle.mux_types.specs.declared.parts.Sub.{Sub}
use Rattle.mux_types.specs.declared.parts.Packet.{Packet}
use Rattle.mux_types.specs.declared.parts.Carrier.{Carrier}
use Rattle.mux_types.specs.declared.parts.Carrier.TheVariants.{Sub as BySub, Packet as ByPacket}
use Rattle.mux_types.specs.declared.parts.Component.{Component}
use Rattle.mux_types.specs.declared.parts.Component.TheVariants.{Sound, Stream, Packet as InPackets}
use Rattle.mux_types.specs.declared.numbers.Sid.{Sid}
use Rattle.fib_codec.specs.Modes.{fib_count}
use Rattle.fib_codec.specs.declared.frame_layout.FrameLayout.{FrameLayout}
use Rattle.fib_codec.specs.declared.frame_layout.FrameLayout.TheVariants.{Whole}
use Rattle.fib_codec.specs.declared.modes.Mode.{Mode}
use Rattle.fib_codec.specs.declared.modes.Mode.TheVariants.{I}
use Rattle.plan_code.specs.Reading.{mode_of, reserving}
use Rattle.plan_code.specs.declared.plan.Plan.{Plan}
use Rattle.script_tokens.specs.declared.keyword.Keyword.TheVariants as the
use Rattle.script_tokens.specs.declared.first_keyword.ComponentKeyword.{ComponentKeyword}
use Rattle.script_tokens.specs.declared.first_keyword.ComponentKeyword.TheVariants as component
use Rattle.script_tokens.specs.declared.first_keyword.ItemKeyword.{ItemKeyword}
use Rattle.script_tokens.specs.declared.first_keyword.ItemKeyword.TheVariants as item
use Rattle.script_tokens.specs.declared.first_keyword.EditKeyword.{EditKeyword}
use Rattle.script_tokens.specs.declared.first_keyword.EditKeyword.TheVariants as edit
use Rattle.script_tokens.specs.declared.first_keyword.ActKeyword.{ActKeyword}
use Rattle.script_tokens.specs.declared.first_keyword.ActKeyword.TheVariants as act
use Rattle.script_tokens.specs.Reading.{Spelled, Reads, ◌>>=◌, first_item, keyed, both, built, either, line_of}
use Rattle.script_tokens.specs.Taking.{number_at, eid_at, sid_at, profile_at, time_at, level_at}
use Rattle.script_front.specs.declared.tree.Act.{Act}
use Rattle.script_front.specs.declared.tree.Act.TheVariants.{Edit as Edits, Wait, WaitContact, Until, WaitAny, CommitIn}
use Rattle.script_front.specs.declared.tree.Act.TheVariants.{CommitAt, Join, Settle}
use Rattle.script_front.specs.declared.tree.Condition.{Condition}
use Rattle.script_front.specs.declared.tree.Condition.TheVariants.{Contact, Time}
use Rattle.script_front.specs.declared.moment.MomentForm.{MomentForm as Moment}
use Rattle.script_front.specs.declared.moment.MomentForm.TheVariants.{At, Early}
use Rattle.script_front.specs.declared.alternatives.Alternative.{Alternative}
use Rattle.script_front.specs.declared.alternatives.Alternative.TheVariants.{Contact as OfContact, Until as OfMoment}
use Rattle.script_front.specs.declared.alternatives.Alternative.TheVariants.{Frames as OfFrames}
use Rattle.script_front.specs.Waits.{may_follow}
use Rattle.script_front.specs.declared.tree.Item.{Item}

-- ---- edits, after their first keyword

unfoldable pub sub_at : Spelled → Reads ℕ
sub_at ws = keyed the.Sub (number_at 0 63) ws

unfoldable pub service_at : Spelled → Reads Sid
service_at ws = keyed the.In sid_at ws

-- `groups` is DG flag 0, and `raw` is 1
unfoldable pub groups_at : Spelled → Reads Bool
groups_at ws = either the.Groups (λ vs. Some (false, vs)) (keyed the.Raw (λ vs. Some (true, vs))) ws

-- `ID at START eep PROFILE RATE`
abbrev pub sub_of : ℕ × (ℕ × (Profile × ℕ)) → Sub
sub_of p = record { id = p.0; start = p.1.0; protection = p.1.1.0; kbits = p.1.1.1 }

unfoldable pub new_sub_at : Spelled → Reads Sub
new_sub_at ws =
    built sub_of (both (number_at 0 63)
    (both (keyed the.At (number_at 0 1023)) (both (keyed the.Eep profile_at) (number_at 0 65535)))) ws

-- `SCID groups type TYPE sub ID address ADDR`
abbrev pub packet_of : ℕ × (Bool × (ℕ × (ℕ × ℕ))) → Packet
packet_of p = record { scid = p.0; dg = p.1.0; ty = p.1.1.0; sub = p.1.1.1.0; address = p.1.1.1.1 }

unfoldable pub new_packet_at : Spelled → Reads Packet
new_packet_at ws =
    built packet_of (both (number_at 0 4095)
    (both groups_at (both (keyed the.TypeWord (number_at 0 63))
    (both sub_at (keyed the.Address (number_at 0 65535)))))) ws

-- `TYPE sub ID`
unfoldable pub typed_sub_at : Spelled → Reads (ℕ × ℕ)
typed_sub_at ws = both (number_at 0 63) sub_at ws

unfoldable pub component_from : ComponentKeyword → Spelled → Reads Component
component_from component.Audio ws = built (λ p. Sound p.0 p.1) typed_sub_at ws
component_from component.Data ws = built (λ p. Stream p.0 p.1) typed_sub_at ws
component_from component.Carry ws = built InPackets (number_at 0 4095) ws

unfoldable pub item_from : ItemKeyword → Spelled → Reads Edit
item_from item.Sub ws = built AddSub new_sub_at ws
item_from item.Service ws = built AddService sid_at ws
item_from item.Packet ws = built AddPacket new_packet_at ws
item_from (item.Component k) ws = built (λ p. AddComponent p.1 p.0) (both (component_from k) service_at) ws

unfoldable pub carrier_at : Spelled → Reads Carrier
carrier_at ws = either the.Sub (built BySub (number_at 0 63)) (keyed the.Packet (built ByPacket (number_at 0 4095))) ws

abbrev pub dropping : Carrier → Edit
dropping (BySub id) = DropSub id
dropping (ByPacket scid) = DropPacket scid

unfoldable pub dropped_at : Spelled → Reads Edit
dropped_at ws =
    either the.Service (built DropService sid_at)
    (either the.Component (built (λ p. DropComponent p.1 p.0) (both carrier_at service_at)) (built dropping carrier_at))
    ws

unfoldable pub moved_at : Spelled → Reads Edit
moved_at ws = built (λ p. MoveSub p.0 p.1) (both sub_at (keyed the.At (number_at 0 1023))) ws

unfoldable pub rated_at : Spelled → Reads Edit
rated_at ws = built (λ p. RateSub p.0 p.1) (both sub_at (number_at 0 65535)) ws

unfoldable pub edit_from : EditKeyword → Spelled → Reads Edit
edit_from edit.Drop ws = dropped_at ws
edit_from edit.Move ws = moved_at ws
edit_from edit.Rate ws = rated_at ws
edit_from (edit.Item k) ws = item_from k ws

-- ---- statements without a block, after their first keyword

-- `TIME`, or `TIME early N`
unfoldable pub moment_at : Spelled → Reads Moment
moment_at ws = time_at ws >>= λ time. either the.Early (built (Early time.0) (number_at 1 65535))
    (λ vs. Some (At time.0, vs)) time.1

-- `contact C closed` or `open`, `until MOMENT`, or a number of frames
unfoldable pub alternative_at : Spelled → Reads Alternative
alternative_at ws =
    either the.Contact (built (λ p. OfContact p.0 p.1) (both (number_at 0 15) level_at))
    (either the.Until (built OfMoment moment_at) (built OfFrames (number_at 1 65535))) ws

-- an alternative that can be beside those before it
abbrev pub allowed : List Alternative → Alternative × Spelled → Reads Alternative
allowed before a = if may_follow before a.0 then Some a else None

unfoldable pub allowed_at : List Alternative → Spelled → Reads Alternative
allowed_at before ws = alternative_at ws >>= allowed before

-- these alternatives, and at most `room` more, each after `or`
unfoldable pub alternatives_from : (room : ℕ) → List Alternative → Spelled → Reads (List Alternative)
alternatives_from zero before ws = either the.Or (λ vs. None) (λ vs. Some (before, vs)) ws
alternatives_from (suc room) before ws =
    either the.Or (λ vs. allowed_at before vs >>= λ a. alternatives_from room (before ++ a.0 ∷ []) a.1)
    (λ vs. Some (before, vs)) ws

-- the `wait` for these alternatives; a moment alone has none
abbrev pub wait_for : List Alternative → Option Act
wait_for (OfContact contact closed ∷ []) = Some (WaitContact contact closed)
wait_for (OfMoment moment ∷ []) = None
wait_for (OfFrames frames ∷ []) = Some (Wait frames)
wait_for alternatives = Some (WaitAny alternatives)

abbrev pub waiting : List Alternative × Spelled → Reads Act
waiting all = wait_for all.0 >>= λ act. Some (act, all.1)

unfoldable pub waiting_at : Spelled → Reads Act
waiting_at ws = allowed_at [] ws >>= λ first. (alternatives_from 7 (first.0 ∷ []) first.1 >>= waiting)

unfoldable pub committing_at : Spelled → Reads Act
committing_at ws = either the.In (built CommitIn (number_at 1 60000))
    (keyed the.At (built CommitAt (number_at 0 65535))) ws

unfoldable pub act_from : ActKeyword → Spelled → Reads Act
act_from act.Wait ws = waiting_at ws
act_from act.Until ws = built Until moment_at ws
act_from act.Commit ws = committing_at ws
act_from act.Join ws = Some (Join, ws)
act_from act.Settle ws = Some (Settle, ws)
act_from (act.Edit k) ws = built Edits (edit_from k) ws

-- ---- the condition of an `if`

-- `contact C`, or `time A to B`
unfoldable pub condition_at : Spelled → Reads Condition
condition_at ws =
    either the.Time (built (λ p. Time p.0 p.1) (both time_at (keyed the.To time_at)))
    (keyed the.Contact (built Contact (number_at 0 15))) ws

-- ---- the header

-- mode I where no mode is written
unfoldable pub mode_at : Spelled → Reads Mode
mode_at ws = either the.Mode (built mode_of (number_at 2 4)) (λ vs. Some (I, vs)) ws

-- no reserved FIB where none is written
unfoldable pub layout_at : Mode → Spelled → Reads FrameLayout
layout_at mode ws = either the.Reserve (built (reserving mode) (number_at 1 (fib_count mode - 2)))
    (λ vs. Some (Whole mode, vs)) ws

unfoldable pub header_at : Spelled → Reads Plan
header_at ws = do
  eid ← keyed the.Ensemble eid_at ws
  mode ← mode_at eid.1
  period ← keyed the.Period (number_at 1 60) mode.1
  notice ← keyed the.Notice (number_at 12 248) period.1
  budget ← keyed the.Budget (number_at 1 255) notice.1
  layout ← layout_at mode.0 budget.1
  let plan : Plan = record {
    eid = eid.0;
    layout = layout.0;
    period = period.0;
    notice = notice.0;
    budget = budget.0;
  } in
      Some (plan, layout.1)

-- ---- items, with the lines of all tokens of the text

-- items, how many more items and statements may follow, and the tokens after them
pub record Items : Type 0 where
  pub items : List Item
  pub left : ℕ
  pub rest : Spelled

abbrev pub item_on : List ℕ → Spelled → Edit → Item
item_on lines ws e = record { line = line_of lines ws; edit = e }

-- these items, and more that are read after them
abbrev pub after_items : List Item → Option Items → Option Items
after_items is None = None
after_items is (Some more) = Some (record { items = is ++ more.items; left = more.left; rest = more.rest })

-- none where no item begins
abbrev pub items_if : (left : ℕ) → Spelled → (ItemKeyword → Option Items) → Option ItemKeyword → Option Items
items_if left ws read None = Some (record { items = []; left = left; rest = ws })
items_if left ws read (Some k) = read k

-- an item, after its first keyword, and those after it
abbrev pub items_from : (later : Spelled → Option Items) → List ℕ → Spelled → ItemKeyword → Option Items
items_from later lines ws k = item_from k (drop 1 ws) >>= λ e. after_items (item_on lines ws e.0 ∷ []) (later e.1)

-- at most `left` items
unfoldable pub items_at : (left : ℕ) → List ℕ → Spelled → Option Items
items_at zero lines ws = items_if 0 ws (λ k. None) (first_item ws)
items_at (suc left) lines ws = items_if (suc left) ws (items_from (items_at left lines) lines ws) (first_item ws)
