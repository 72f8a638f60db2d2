-- The tokens that spell a script's tree, as bytes, in order.
use Rattle.std.specs.Prelude.{◌≡◌, ℕ, ◌+◌, Bool, true, false, List, [], ◌∷◌, ◌++◌, slice_index_or}
use Rattle.std.specs.Fmt.{decimal}
use Rattle.mux_config.specs.declared.edit.Edit.{Edit}
use Rattle.mux_config.specs.declared.edit.Edit.TheVariants.{AddSub, DropSub, MoveSub, RateSub, AddService, DropService}
use Rattle.mux_config.specs.declared.edit.Edit.TheVariants.{AddComponent, DropComponent, AddPacket, DropPacket}
use Rattle.mux_types.specs.declared.parts.Carrier.{Carrier}
use Rattle.mux_types.specs.declared.parts.Carrier.TheVariants.{Sub as BySub, Packet as ByPacket}
use Rattle.mux_types.specs.declared.parts.Component.{Component}
use Rattle.mux_types.specs.declared.parts.Component.TheVariants.{Sound, Stream, Packet as InPackets}
use Rattle.mux_types.specs.declared.numbers.Sid.{Sid}
use Rattle.fib_codec.specs.declared.frame_layout.FrameLayout.{FrameLayout}
use Rattle.fib_codec.specs.declared.frame_layout.FrameLayout.TheVariants.{Whole, ReserveOne, ReserveTwo}
use Rattle.fib_codec.specs.Layouts.{layout_mode}
use Rattle.fib_codec.specs.declared.modes.Mode.{Mode}
use Rattle.fib_codec.specs.declared.modes.Mode.TheVariants.{I, II, III, IV}
use Rattle.script_front.specs.declared.tree.Act.{Act}
use Rattle.script_front.specs.declared.tree.Act.TheVariants.{Edit as Edits, Wait, WaitContact, Until, WaitAny, CommitIn}
use Rattle.script_front.specs.declared.tree.Act.TheVariants.{CommitAt, Join, Settle}
use Rattle.script_front.specs.declared.tree.Condition.{Condition}
use Rattle.script_front.specs.declared.tree.Condition.TheVariants.{Contact, Time}
use Rattle.script_front.specs.declared.moment.MomentForm.{MomentForm as Moment}
use Rattle.script_front.specs.declared.moment.MomentForm.TheVariants.{At, Early}
use Rattle.script_front.specs.declared.alternatives.Alternative.{Alternative}
use Rattle.script_front.specs.declared.alternatives.Alternative.TheVariants.{Contact as OfContact, Until as OfMoment}
use Rattle.script_front.specs.declared.alternatives.Alternative.TheVariants.{Frames as OfFrames}
use Rattle.plan_code.specs.declared.plan.Plan.{Plan}
use Rattle.script_front.specs.declared.tree.Item.{Item}
use Rattle.script_front.specs.declared.tree.Statement.{Statement}
use Rattle.script_tokens.specs.declared.keyword.Keyword.TheVariants as the
use Rattle.script_tokens.specs.Keywords.{letters}
use Rattle.script_tokens.specs.Spelling.{hex_text, sid_text, profile_text, level_text, time_text}
use Rattle.script_front.specs.Block.{Block, nothing, basic, stop, when, either, repeat, forever, apply, block_of}
use Rattle.script_tokens.specs.Reading.{Spelled, line_of_left, line_of}
use Rattle.script_front.specs.Tree.{Tree}

-- ---- edits

-- `groups` is DG flag 0, and `raw` is 1
abbrev pub groups_text : Bool → List ℕ
groups_text false = letters the.Groups
groups_text true = letters the.Raw

-- what is carried, up to `in`
abbrev pub carried_lexemes : Component → Spelled
carried_lexemes (Sound ty sub) = letters the.Audio ∷ decimal ty ∷ letters the.Sub ∷ decimal sub ∷ []
carried_lexemes (Stream ty sub) = letters the.Data ∷ decimal ty ∷ letters the.Sub ∷ decimal sub ∷ []
carried_lexemes (InPackets scid) = letters the.Carry ∷ decimal scid ∷ []

abbrev pub carrier_lexemes : Carrier → Spelled
carrier_lexemes (BySub id) = letters the.Sub ∷ decimal id ∷ []
carrier_lexemes (ByPacket scid) = letters the.Packet ∷ decimal scid ∷ []

abbrev pub within_lexemes : Sid → Spelled
within_lexemes sid = letters the.In ∷ sid_text sid ∷ []

abbrev pub edit_lexemes : Edit → Spelled
edit_lexemes (AddSub s) =
    letters the.Sub ∷ decimal s.id ∷ letters the.At ∷ decimal s.start ∷ letters the.Eep ∷ profile_text s.protection
    ∷ decimal s.kbits ∷ []
edit_lexemes (DropSub id) = letters the.Drop ∷ letters the.Sub ∷ decimal id ∷ []
edit_lexemes (MoveSub id start) = letters the.Move ∷ letters the.Sub ∷ decimal id ∷ letters the.At ∷ decimal start ∷ []
edit_lexemes (RateSub id kbits) = letters the.Rate ∷ letters the.Sub ∷ decimal id ∷ decimal kbits ∷ []
edit_lexemes (AddService sid) = letters the.Service ∷ sid_text sid ∷ []
edit_lexemes (DropService sid) = letters the.Drop ∷ letters the.Service ∷ sid_text sid ∷ []
edit_lexemes (AddComponent sid component) = carried_lexemes component ++ within_lexemes sid
edit_lexemes (DropComponent sid carrier) = letters the.Drop ∷ letters the.Component
    ∷ (carrier_lexemes carrier ++ within_lexemes sid)
edit_lexemes (AddPacket p) =
    letters the.Packet ∷ decimal p.scid ∷ groups_text p.dg ∷ letters the.TypeWord ∷ decimal p.ty ∷ letters the.Sub
    ∷ decimal p.sub ∷ letters the.Address ∷ decimal p.address ∷ []
edit_lexemes (DropPacket scid) = letters the.Drop ∷ letters the.Packet ∷ decimal scid ∷ []

-- ---- statements

abbrev pub moment_lexemes : Moment → Spelled
moment_lexemes (At time) = time_text time ∷ []
moment_lexemes (Early time frames) = time_text time ∷ letters the.Early ∷ decimal frames ∷ []

abbrev pub alternative_lexemes : Alternative → Spelled
alternative_lexemes (OfContact contact closed) = letters the.Contact ∷ decimal contact ∷ level_text closed ∷ []
alternative_lexemes (OfMoment moment) = letters the.Until ∷ moment_lexemes moment
alternative_lexemes (OfFrames frames) = decimal frames ∷ []

-- alternatives, each after `or`
abbrev pub or_lexemes : List Alternative → Spelled
or_lexemes [] = []
or_lexemes (a ∷ others) = letters the.Or ∷ (alternative_lexemes a ++ or_lexemes others)

-- alternatives in their order, with `or` between each two
abbrev pub alternatives_lexemes : List Alternative → Spelled
alternatives_lexemes [] = []
alternatives_lexemes (a ∷ others) = alternative_lexemes a ++ or_lexemes others

abbrev pub act_lexemes : Act → Spelled
act_lexemes (Edits edit) = edit_lexemes edit
act_lexemes (Wait frames) = letters the.Wait ∷ decimal frames ∷ []
act_lexemes (WaitContact contact closed) = letters the.Wait ∷ letters the.Contact ∷ decimal contact ∷ level_text closed
    ∷ []
act_lexemes (Until moment) = letters the.Until ∷ moment_lexemes moment
act_lexemes (WaitAny alternatives) = letters the.Wait ∷ alternatives_lexemes alternatives
act_lexemes (CommitIn delay) = letters the.Commit ∷ letters the.In ∷ decimal delay ∷ []
act_lexemes (CommitAt count) = letters the.Commit ∷ letters the.At ∷ decimal count ∷ []
act_lexemes Join = letters the.Join ∷ []
act_lexemes Settle = letters the.Settle ∷ []

abbrev pub condition_lexemes : Condition → Spelled
condition_lexemes (Contact contact) = letters the.Contact ∷ decimal contact ∷ []
condition_lexemes (Time from to) = letters the.Time ∷ time_text from ∷ letters the.To ∷ time_text to ∷ []

-- the name of the block with this number
abbrev pub name_at : List (List ℕ) → ℕ → List ℕ
name_at names number = slice_index_or names number []

-- tokens in braces, followed by others
abbrev pub braced : Spelled → Spelled → Spelled
braced body rest = letters the.OpenBrace ∷ (body ++ letters the.CloseBrace ∷ rest)

-- the statements of a block, where the defined blocks have these names
abbrev pub block_lexemes : List (List ℕ) → Block → Spelled
block_lexemes names nothing = []
block_lexemes names (basic line act rest) = act_lexemes act ++ block_lexemes names rest
block_lexemes names (stop line rest) = letters the.End ∷ block_lexemes names rest
block_lexemes names (when line condition first rest) =
    letters the.If ∷ (condition_lexemes condition ++ braced (block_lexemes names first) (block_lexemes names rest))
block_lexemes names (either line condition first second rest) =
    letters the.If ∷ (condition_lexemes condition ++ braced (block_lexemes names first) (
    letters the.Else ∷ braced (block_lexemes names second) (block_lexemes names rest)))
block_lexemes names (repeat line times body rest) =
    letters the.Repeat ∷ decimal times ∷ braced (block_lexemes names body) (block_lexemes names rest)
block_lexemes names (forever line body rest) = letters the.Forever
    ∷ braced (block_lexemes names body) (block_lexemes names rest)
block_lexemes names (apply line number named rest) = letters the.Apply ∷ name_at names number ∷ block_lexemes names rest

-- ---- a script

-- mode I is not written
abbrev pub mode_lexemes : Mode → Spelled
mode_lexemes I = []
mode_lexemes II = letters the.Mode ∷ decimal 2 ∷ []
mode_lexemes III = letters the.Mode ∷ decimal 3 ∷ []
mode_lexemes IV = letters the.Mode ∷ decimal 4 ∷ []

-- no reserved FIB is not written
abbrev pub reserve_lexemes : FrameLayout → Spelled
reserve_lexemes (Whole mode) = []
reserve_lexemes (ReserveOne mode) = letters the.Reserve ∷ decimal 1 ∷ []
reserve_lexemes ReserveTwo = letters the.Reserve ∷ decimal 2 ∷ []

-- the second line of a header, up to `reserve`
abbrev pub limits_lexemes : Plan → Spelled → Spelled
limits_lexemes h rest =
    letters the.Period ∷ decimal h.period ∷ letters the.Notice ∷ decimal h.notice ∷ letters the.Budget
    ∷ decimal h.budget ∷ rest

abbrev pub header_lexemes : Plan → Spelled
header_lexemes h =
    letters the.Ensemble ∷ hex_text h.eid ∷ (mode_lexemes (layout_mode h.layout)
    ++ limits_lexemes h (reserve_lexemes h.layout))

abbrev pub items_lexemes : List Item → Spelled
items_lexemes [] = []
items_lexemes (i ∷ is) = edit_lexemes i.edit ++ items_lexemes is

-- the definitions of these blocks, numbered from `number`
abbrev pub defined_lexemes : List (List ℕ) → ℕ → List (List Statement) → Spelled
defined_lexemes names number [] = []
defined_lexemes names number (b ∷ bs) =
    letters the.Define ∷ name_at names number ∷ braced (block_lexemes names (block_of [] b))
    (defined_lexemes names (number + 1) bs)

-- from `begin` on
abbrev pub begin_lexemes : Tree → Spelled
begin_lexemes t = letters the.Begin ∷ block_lexemes t.names (block_of [] t.statements)

-- the tokens of a script
abbrev pub tree_lexemes : Tree → Spelled
tree_lexemes t =
    header_lexemes t.header ++ (items_lexemes t.items ++ (defined_lexemes t.names 0 t.blocks ++ begin_lexemes t))

-- ---- the lines of a script, given the lines of all of its tokens

-- each item is on the line of its first token, where `after` follows the items
abbrev pub ItemsOn : List ℕ → List Item → Spelled → Type 0
ItemsOn lines [] after = Unit {0}
ItemsOn lines (i ∷ is) after = (i.line ≡ line_of lines (items_lexemes (i ∷ is) ++ after)) × ItemsOn lines is after

-- each statement is on the line of its first token, where `after` follows the block
abbrev pub BlockOn : List (List ℕ) → List ℕ → Block → Spelled → Type 0
BlockOn names lines nothing after = Unit {0}
BlockOn names lines (basic line act rest) after =
    (line ≡ line_of lines (block_lexemes names (basic line act rest) ++ after)) × BlockOn names lines rest after
BlockOn names lines (stop line rest) after = (line ≡ line_of lines (block_lexemes names (stop line rest) ++ after))
    × BlockOn names lines rest after
BlockOn names lines (when line condition first rest) after =
    (line ≡ line_of lines (block_lexemes names (when line condition first rest) ++ after))
    × BlockOn names lines first (letters the.CloseBrace ∷ (block_lexemes names rest ++ after))
    × BlockOn names lines rest after
BlockOn names lines (either line condition first second rest) after =
    (line ≡ line_of lines (block_lexemes names (either line condition first second rest) ++ after))
    × BlockOn names lines first (letters the.CloseBrace ∷ letters the.Else
    ∷ (braced (block_lexemes names second) (block_lexemes names rest) ++ after))
    × BlockOn names lines second (letters the.CloseBrace ∷ (block_lexemes names rest ++ after))
    × BlockOn names lines rest after
BlockOn names lines (repeat line times body rest) after =
    (line ≡ line_of lines (block_lexemes names (repeat line times body rest) ++ after))
    × BlockOn names lines body (letters the.CloseBrace ∷ (block_lexemes names rest ++ after))
    × BlockOn names lines rest after
BlockOn names lines (forever line body rest) after =
    (line ≡ line_of lines (block_lexemes names (forever line body rest) ++ after))
    × BlockOn names lines body (letters the.CloseBrace ∷ (block_lexemes names rest ++ after))
    × BlockOn names lines rest after
BlockOn names lines (apply line number named rest) after =
    (line ≡ line_of lines (block_lexemes names (apply line number named rest) ++ after))
    × BlockOn names lines rest after

-- the same for the definitions of these blocks, numbered from `number`
abbrev pub DefinedOn : List (List ℕ) → List ℕ → ℕ → List (List Statement) → Spelled → Type 0
DefinedOn names lines number [] after = Unit {0}
DefinedOn names lines number (b ∷ bs) after =
    BlockOn names lines (block_of [] b) (letters the.CloseBrace ∷ (defined_lexemes names (number + 1) bs ++ after))
    × DefinedOn names lines (number + 1) bs after

pub record HasLines (lines : List ℕ) (t : Tree) : Type 0 where
  pub items : ItemsOn lines t.items (defined_lexemes t.names 0 t.blocks ++ begin_lexemes t)
  pub blocks : DefinedOn t.names lines 0 t.blocks (begin_lexemes t)
  pub begin : t.begin_line ≡ line_of lines (begin_lexemes t)
  pub statements : BlockOn t.names lines (block_of [] t.statements) []
  pub last : t.last_line ≡ line_of_left lines 1
