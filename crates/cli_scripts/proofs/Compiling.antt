-- What `compile` leaves, from what its steps leave.
use Rattle.cli_scripts.proofs.Words.{◌∙◌, ◌≡◌, Appends, Appends-kept, Compiles, Done, FindsCompiled, IfSome, IsCompiled}
use Rattle.cli_scripts.proofs.Words.{IsReadOf, IsReason, IsUncompiled, Keeps, List, None, Option}
use Rattle.cli_scripts.proofs.Words.{ScriptRefusal, Some, arith, length, subst, take, take_all, ℕ}
use Rattle.console.specs.World.{World, Becomes, Stays, HasWritten}
use Rattle.console.proofs.Worlds.{stays_then_written}
use Rattle.cli_scripts.proofs.Words.{Compiled, Tree, inl, inr}
use Rattle.cli_scripts.specs.Compiled.{IsFileOf, IsMadeOf, IsScheduledBy}
use Rattle.cli_scripts.specs.declared.compile.Found.{Found}
use Rattle.plan_code.specs.Program.{Program}
use Rattle.schedule_front.specs.Tree.{Tree as Schedule}
use Rattle.cli_scripts.proofs.ReadTexts.{compiled_whole, refused_whole}

-- all bytes are taken, and then the writer is flushed
pub all_taken : (before mid after : Option (List ℕ)) (bytes : List ℕ) (count : ℕ)
    → Appends before mid (take count bytes) → count ≡ length bytes → Keeps mid after → Appends before after bytes
all_taken before mid after bytes count taken all kept =
    let whole : take count bytes ≡ bytes = take_all count bytes (omega (arith, all)) in
    Appends-kept before mid after bytes (subst (Appends before mid) whole taken) kept

-- ---- before the output is written

pub of_steps : (text : List ℕ) (tree : Tree) (code : Program) (c : Compiled) → IsMadeOf text tree code → IsFileOf code c
    → IsCompiled text c
of_steps text tree code c made file = inl (tree, code, made, file)

pub of_schedule : (text : List ℕ) (tree : Schedule) (code : Program) (c : Compiled) → IsScheduledBy text tree code
    → IsFileOf code c → IsCompiled text c
of_schedule text tree code c made file = inr (tree, code, made, file)

pub found : (bytes text : List ℕ) (f : Found) → IsReadOf bytes text → IsCompiled text f.compiled
    → FindsCompiled bytes (Some f)
found bytes text f r h = compiled_whole bytes text f.compiled r h

pub refused : (bytes text : List ℕ) (refusal : ScriptRefusal)
    → IsReadOf bytes text → IsUncompiled text refusal → IsReason refusal → FindsCompiled bytes None
refused bytes text refusal r why reason = (refusal, refused_whole bytes text refusal r why reason)

-- what was found is this
pub found_as : (known : Option (List ℕ)) (o p : Option Found) → o ≡ p
    → IfSome known (λ script. FindsCompiled script o) → IfSome known (λ script. FindsCompiled script p)
found_as known o p same h = subst (λ (x : Option Found). IfSome known (λ script. FindsCompiled script x)) same h

-- ---- with it

-- a file keeps what was written to it, where all files are as they were then
still_written : (path bytes : List ℕ) (old mid new : Option World)
    → Becomes (HasWritten path bytes) old mid → Stays mid new → Becomes (HasWritten path bytes) old new
still_written path bytes None mid new p q = tt
still_written path bytes (Some a) None new p q = absurd p
still_written path bytes (Some a) (Some b) None p q = absurd q
still_written path bytes (Some a) (Some b) (Some c) p q =
    record { written = q path ∙ p.written; others = λ other not. q other ∙ p.others other not }

-- files that stay as they were, and stay so again
pub stays_on : (old mid new : Option World) → Stays old mid → Stays mid new → Stays old new
stays_on None mid new p q = tt
stays_on (Some a) None new p q = absurd p
stays_on (Some a) (Some b) None p q = absurd q
stays_on (Some a) (Some b) (Some c) p q = λ path. q path ∙ p path

pub written_then_stays : (path bytes file : List ℕ) (u v w x : Option World) → bytes ≡ file → Stays u v
    → Becomes (HasWritten path bytes) v w → Stays w x → Becomes (HasWritten path file) u x
written_then_stays path bytes file u v w x same first written last =
    subst (λ (f : List ℕ). Becomes (HasWritten path f) u x) same
    (still_written path bytes u w x (stays_then_written path bytes u v w first written) last)

pub compiles : (known : Option (List ℕ)) (f : Found) (Holds : List ℕ → Type 0)
    → IfSome known (λ script. FindsCompiled script (Some f)) → Holds f.compiled.file.items
    → IfSome known (λ script. Compiles script Holds Done)
compiles None f Holds h held = tt
compiles (Some script) f Holds h held = (f.compiled, h, held)
