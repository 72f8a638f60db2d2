-- A playback of what was read, and what its file or its output has then.
use Rattle.cli_plans.proofs.Words.{[], ◌++◌, ◌∙◌, ◌≡◌, Appends, Becomes, Err, HasWritten, IfOk, IfSome, IsOk}
use Rattle.cli_plans.proofs.Words.{IsPlayedInto, IsSameBut, Keeps, List, None, Ok, Option, Result, Some, StartOptions}
use Rattle.cli_plans.proofs.Words.{Stays, World, ap, subst, sym, ℕ}
use Rattle.std.proofs.lemmas.Bool.{false≢true}
use Rattle.console.specs.declared.exit.Status.{Status}
use Rattle.console.specs.declared.exit.Status.TheVariants.{Done, Refused as StatusRefused}
use Rattle.console.proofs.Worlds.{but_then_written, stays_then_written}
use Rattle.plan_session.specs.declared.run_fault.RunFault.{RunFault}
use Rattle.plan_session.specs.declared.run_fault.RunFault.TheVariants.{Code, Refused, Start, Events, Write}
use Rattle.plan_session.specs.Playback.{Request, IsBeginFault, IsRunFault, is_write}
use Rattle.cli_plans.specs.Success.{EndsWithVerdict, IsRefusedFor}
use Rattle.cli_plans.proofs.Words.{IfErr, IsPlayback, OnErr, Playing, Step, true}

-- ---- what was read

-- a file that is known keeps its bytes
pub still_known : (before after : Option (List ℕ)) (text : List ℕ) → Keeps before after → before ≡ Some text
    → after ≡ Some text
still_known None after text h e = absurd cc
still_known (Some xs) None text h e = absurd h
still_known (Some xs) (Some ys) text h e =
    let same : xs ≡ text = cc e in
    ap (λ (l : List ℕ). Some l) (h ∙ same)

pub read_is : (f : List ℕ → List ℕ) (known : Option (List ℕ)) (bytes items read : List ℕ)
    → IfSome known (λ b. items ≡ f b) → known ≡ Some bytes → read ≡ items → read ≡ f bytes
read_is f known bytes items read holds e same =
    same ∙ subst (λ (k : Option (List ℕ)). IfSome k (λ b. items ≡ f b)) e holds

pub known_is : (known : Option (List ℕ)) (bytes items read : List ℕ) → IfSome known (λ b. b ≡ items)
    → known ≡ Some bytes → read ≡ items → bytes ≡ read
known_is known bytes items read holds e same = subst (λ (k : Option (List ℕ)). IfSome k (λ b. b ≡ items)) e holds
    ∙ sym same

-- ---- the file

-- an empty file that has taken these bytes and was closed
pub file_written : (path bytes : List ℕ) (old mid new : Option World) (empty filled : Option (List ℕ))
    → IfSome old (λ w. empty ≡ Some []) → Becomes (IsSameBut path) old mid
    → Appends empty filled bytes → IfSome filled (λ taken. Becomes (HasWritten path taken) mid new)
    → Becomes (HasWritten path bytes) old new
file_written path bytes None mid new empty filled e others more closed = tt
file_written path bytes (Some w) mid new None filled e others more closed = absurd cc
file_written path bytes (Some w) mid new (Some x) None e others more closed = absurd more
file_written path bytes (Some w) mid new (Some x) (Some y) e others more closed =
    let none : x ≡ [] = cc e in
    let all : y ≡ bytes = more ∙ ap (λ (l : List ℕ). l ++ bytes) none in
    but_then_written path bytes (Some w) mid new others
    (subst (λ (l : List ℕ). Becomes (HasWritten path l) mid new) all closed)

-- the files were as they were before
pub played_before : (path code text : List ℕ) (start : StartOptions) (before first second after : Option World)
    → Stays before first → Stays first second → IsPlayedInto path code text start second after
    → IsPlayedInto path code text start before after
played_before path code text start before first second after p q (player, steps, playback, written) = (
  player,
  steps,
  playback,
  stays_then_written path _ before first after p
      (stays_then_written path _ first second after q written),
)

-- ---- the status

-- what holds where a playback came to its end holds where that is reported
pub done_so : {E : Type 0} (result : Result Status E) (ended : Result ℕ RunFault) (P Q : Type 0) → IfOk ended (λ n. P)
    → (P → Q) → IfOk result (λ status. status ≡ Done → IsOk ended) → IfOk result (λ status. status ≡ Done → Q)
done_so (Err failure) ended P Q holds f printed = tt
done_so (Ok status) (Err fault) P Q holds f printed = λ e. absurd (false≢true (printed e))
done_so (Ok status) (Ok frames) P Q holds f printed = λ e. f holds

-- ---- the verdict

-- a fault with which a session does not begin is one of the request
pub begin_is_run : (r : Request) (e : RunFault) → IsBeginFault r e → IsRunFault r e
begin_is_run r (Code fault) h = h
begin_is_run r (Refused pc line cause) h = h
begin_is_run r (Start fault) h = h
begin_is_run r (Events fault) h = absurd h
begin_is_run r (Write frames bytes) h = absurd h

-- so is a failing output
pub write_is_run : (r : Request) (p : Playing) (steps : List Step) (e : RunFault) → IsPlayback r p steps
    → is_write (Err e) ≡ true → IsRunFault r e
write_is_run r p steps (Write frames bytes) h e = (p, steps, h)
write_is_run r p steps (Code fault) h e = absurd (false≢true e)
write_is_run r p steps (Refused pc line cause) h e = absurd (false≢true e)
write_is_run r p steps (Start fault) h e = absurd (false≢true e)
write_is_run r p steps (Events fault) h e = absurd (false≢true e)

pub write_ended : (r : Request) (p : Playing) (steps : List Step) (ended : Result ℕ RunFault) → IsPlayback r p steps
    → OnErr ended (is_write ended ≡ true) → IfErr ended (λ e. IsRunFault r e)
write_ended r p steps (Ok frames) h only = tt
write_ended r p steps (Err e) h only = write_is_run r p steps e h only

-- a playback that was not begun ended with this fault
pub refused_for : {E : Type 0} (r : Request) (fault : RunFault) (result : Result (Result ℕ RunFault) E)
    → IfOk result (λ ended. ended ≡ Err fault) → IsRunFault r fault
    → IfOk result (λ ended. IfErr ended (λ e. IsRunFault r e))
refused_for r fault (Err failure) is h = tt
refused_for r fault (Ok ended) is h =
    subst (λ (e : Result ℕ RunFault). IfErr e (λ f. IsRunFault r f)) (sym is) h

pub not_played_for : {E : Type 0} (fault : RunFault) (result : Result (Result ℕ RunFault) E) (P : ℕ → Type 0)
    → IfOk result (λ ended. ended ≡ Err fault) → IfOk result (λ ended. IfOk ended P)
not_played_for fault (Err failure) P is = tt
not_played_for fault (Ok ended) P is = subst (λ (e : Result ℕ RunFault). IfOk e P) (sym is) tt

-- a verdict that is printed is that of the request
pub refused_so : {E : Type 0} (result : Result Status E) (ended : Result ℕ RunFault) (r : Request) (Q : Type 0)
    → IfErr ended (λ e. IsRunFault r e) → (IsRefusedFor r → Q)
    → IfOk result (λ status. status ≡ StatusRefused → EndsWithVerdict ended)
    → IfOk result (λ status. status ≡ StatusRefused → Q)
refused_so (Err failure) ended r Q holds f printed = tt
refused_so (Ok status) (Ok frames) r Q holds f printed = λ e. absurd (printed e)
refused_so (Ok status) (Err fault) r Q holds f printed = λ e. f (fault, printed e, holds)
