-- A check from one FIB to the next.
use Rattle.stream_monitor.proofs.Words.{[], ◌++◌, ◌∙◌, ◌∷◌, ◌≡◌, CheckOptions, ChecksFib, ChecksInput, ChecksSoFar}
use Rattle.stream_monitor.proofs.Words.{Consumes, End, Ending, Gives, GoesOn, HasLines, IsAfter, IsLog, IsPrompt, Line}
use Rattle.stream_monitor.proofs.Words.{List, Log, LogsNext, None, Option, Part, Reading, Some, State, StopsAtEnd, ap}
use Rattle.stream_monitor.proofs.Words.{append-nil, concat, inl, inr, subst, sym, ℕ}
use Rattle.std.proofs.lemmas.List.Folds.{concat-append}
use Rattle.std.proofs.KnownBytes.{Consumes-nil, Consumes-trans}
use Rattle.stream_monitor.specs.declared.fibs.Next.TheVariants.{Fib}
use Rattle.stream_monitor.specs.declared.ending.Ending.TheVariants as endings
use Rattle.stream_monitor.specs.declared.line.Cause.TheVariants as causes
use Rattle.stream_monitor.proofs.Logs.{has_lines, kept_lines, lines_logged, one_more_fib}
use Rattle.stream_monitor.proofs.Steps.{goes_on}

pub begins : (o : CheckOptions) (s : State) (left now : Option (List ℕ)) (log : Option Log)
    → ((r : Reading) → IsAfter r o [] [] s)
    → now ≡ left → IsLog o [] [] log → ChecksSoFar o left now s log
begins o s left now log start same is =
    λ r. ([], [], subst (λ (x : Option (List ℕ)). Consumes left x []) (sym same) (Consumes-nil left), is, start r)

prompt_log : (r : Reading) (o : CheckOptions) (fibs : List (List ℕ)) (lines : List Line) (log : Option Log)
    → IsLog o fibs lines log
    → GoesOn r o fibs lines → IsPrompt r log
prompt_log r o fibs lines None is goes = tt
prompt_log r o fibs lines (Some x) is goes = subst (λ (l : Log). GoesOn r l.options l.fibs l.lines) (sym is) goes

-- whenever a FIB is requested
pub prompt : (o : CheckOptions) (left now : Option (List ℕ)) (s : State) (log : Option Log)
    → ChecksSoFar o left now s log
    → (r : Reading) → IsPrompt r log
prompt o left now s log so_far r =
    let one = so_far r in prompt_log r o one.0 one.1 log one.3 (goes_on r o one.0 one.1 s one.4)

-- the FIBs so far, and then these bytes
read_on : (left now later : Option (List ℕ)) (fibs : List (List ℕ)) (more : List ℕ) → Consumes left now (concat fibs)
    → Consumes now later more
    → Consumes left later (concat fibs ++ more)
read_on left now later fibs more before read = Consumes-trans left now later (concat fibs) more before read

concat_more : (fibs : List (List ℕ)) (fib : List ℕ) → concat (fibs ++ fib ∷ []) ≡ concat fibs ++ fib
concat_more fibs fib = concat-append fibs (fib ∷ []) ∙ ap (λ l. concat fibs ++ l) (append-nil fib)

-- a FIB with which the check goes on
pub goes_further : (o : CheckOptions) (left now later last : Option (List ℕ)) (old new : State) (a b c : Option Log)
    (fib : List ℕ)
    → ChecksSoFar o left now old a → Gives now later (Fib fib) → LogsNext a b (Fib fib)
    → ChecksFib o fib old new b c None → last ≡ later
    → ChecksSoFar o left last new c
goes_further o left now later last old new a b c fib so_far read given step same = λ r.
    let one = so_far r in
    let two = step r one.0 one.1 one.4 in (
      one.0 ++ fib ∷ [],
      one.1 ++ two.0,
      subst (λ (l : List ℕ). Consumes left last l) (sym (concat_more one.0 fib))
          (subst (λ (x : Option (List ℕ)). Consumes left x (concat one.0 ++ fib)) (sym same)
          (read_on left now later one.0 fib one.2 read.1)),
      lines_logged o (one.0 ++ fib ∷ []) one.1 two.0 b c (one_more_fib o one.0 one.1 a b fib one.3 given) two.1,
      two.2,
    )

-- a FIB with which it ends
pub ends_with_fib : (o : CheckOptions) (left now later last : Option (List ℕ)) (old new : State) (a b c : Option Log)
    (fib : List ℕ) (e : Ending)
    → ChecksSoFar o left now old a → Gives now later (Fib fib) → LogsNext a b (Fib fib)
    → ChecksFib o fib old new b c (Some e) → last ≡ later
    → (r : Reading) → (log : List Line) × ChecksInput r o left last log e × HasLines o log c
ends_with_fib o left now later last old new a b c fib e so_far read given step same r =
    let one = so_far r in
    let two = step r one.0 one.1 one.4 in
    let bytes = ap (λ l. concat one.0 ++ l) (sym (append-nil fib)) in (
      one.1 ++ two.0,
      inr (
        one.0,
        fib,
        [],
        subst (λ (l : List ℕ). Consumes left last l) bytes
            (subst (λ (x : Option (List ℕ)). Consumes left x (concat one.0 ++ fib)) (sym same)
            (read_on left now later one.0 fib one.2 read.1)),
        two.2,
      ),
      has_lines o (one.0 ++ fib ∷ []) (one.1 ++ two.0) c
          (lines_logged o (one.0 ++ fib ∷ []) one.1 two.0 b c (one_more_fib o one.0 one.1 a b fib one.3 given) two.1),
    )

-- a part of a FIB
pub ends_within_fib : (o : CheckOptions) (left now later : Option (List ℕ)) (s : State) (a b : Option Log)
    → ChecksSoFar o left now s a → Gives now later Part → LogsNext a b Part
    → (r : Reading) → (log : List Line) × ChecksInput r o left later log (endings.Refused causes.NotWhole)
    × HasLines o log b
ends_within_fib o left now later s a b so_far read given r =
    let one = so_far r in (
      one.1,
      inl (
        one.0,
        read.0,
        read_on left now later one.0 read.0 one.2 read.3,
        read.4,
        (goes_on r o one.0 one.1 s one.4, read.1, read.2),
      ),
      kept_lines o one.0 one.1 a b Part one.3 given,
    )

-- the end of the stream
pub ends_at_end : (o : CheckOptions) (left now later : Option (List ℕ)) (s : State) (a b : Option Log) (e : Ending)
    → ChecksSoFar o left now s a → Gives now later End → LogsNext a b End
    → ((r : Reading) (fibs : List (List ℕ)) (log : List Line) → IsAfter r o fibs log s → StopsAtEnd r o fibs [] log e)
    → (r : Reading) → (log : List Line) × ChecksInput r o left later log e × HasLines o log b
ends_at_end o left now later s a b e so_far read given ends r =
    let one = so_far r in (
      one.1,
      inl (
        one.0,
        [],
        read_on left now later one.0 [] one.2 read.0,
        read.1,
        ends r one.0 one.1 one.4,
      ),
      kept_lines o one.0 one.1 a b End one.3 given,
    )
