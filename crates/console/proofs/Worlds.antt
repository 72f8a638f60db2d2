-- What two calls after one another leave of a world.
use Rattle.std.proofs.Common.{List, ℕ, Option, None, Some, ◌∙◌}
use Rattle.console.specs.World.{World, Becomes, Stays, IsSameBut, HasWritten}

pub but_then_written : (path bytes : List ℕ) (old mid new : Option World)
    → Becomes (IsSameBut path) old mid → Becomes (HasWritten path bytes) mid new
    → Becomes (HasWritten path bytes) old new
but_then_written path bytes None mid new p q = tt
but_then_written path bytes (Some a) None new p q = absurd p
but_then_written path bytes (Some a) (Some b) None p q = absurd q
but_then_written path bytes (Some a) (Some b) (Some c) p q =
    record { written = q.written; others = λ other not. q.others other not ∙ p other not }

pub stays_but : (path : List ℕ) (old new : Option World) → Stays old new → Becomes (IsSameBut path) old new
stays_but path None new p = tt
stays_but path (Some a) None p = p
stays_but path (Some a) (Some b) p = λ other not. p other

pub stays_then_written : (path bytes : List ℕ) (old mid new : Option World)
    → Stays old mid → Becomes (HasWritten path bytes) mid new → Becomes (HasWritten path bytes) old new
stays_then_written path bytes old mid new p q = but_then_written path bytes old mid new (stays_but path old mid p) q
