-- `until` directly behind `wait contact`: the wait for the time begins only once the contact has its level.
use Rattle.std.specs.Prelude.{◌≡◌, Option, Some, None}
use Rattle.script_front.specs.declared.tree.Act.{Act}
use Rattle.script_front.specs.declared.tree.Act.TheVariants.{WaitContact, Until}
use Rattle.script_front.specs.Block.{Block, basic}
use Rattle.script_front.specs.Tree.{Tree}
use Rattle.plan_explain.specs.declared.late_until.LateUntil.{LateUntil}
use Rattle.plan_explain.specs.declared.straight.ContactWait.{ContactWait}
use Rattle.plan_explain.specs.ActsInside.{HasAct, HasActIn}

-- an act is this wait for the contact, and the statement directly behind it is this `until`
pub record IsLate (act : Act) (rest : Block) (u : LateUntil) : Type 0 where
  pub waits : act ≡ WaitContact u.contact u.closed
  pub behind : Block
  pub follows : rest ≡ basic u.line (Until u.until) behind

-- among these statements, or in their braces; and in a script
abbrev pub HasLate : Block → LateUntil → Type 0
HasLate b u = HasAct (λ act rest. IsLate act rest u) b

abbrev pub HasLateUntil : Tree → LateUntil → Type 0
HasLateUntil script u = HasActIn (λ act rest. IsLate act rest u) script

-- the wait for a contact that an act is
abbrev pub contact_wait : Act → Option ContactWait
contact_wait (WaitContact k b) = Some (record { contact = k; closed = b })
contact_wait _ = None
