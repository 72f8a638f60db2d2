-- Examples of logs: for each definition one in which it holds, and one in which it does not.
use Rattle.stream_monitor.proofs.Words.{[], ◌∷◌, ◌≡◌, BeginsWith, Gives, HasLines, IsLog, IsPrompt, List, Log}
use Rattle.stream_monitor.proofs.Words.{LogsLines, LogsNext, None, Option, Part, Reading, Some, ap, arith, length}
use Rattle.stream_monitor.proofs.Words.{log_of, refl, ℕ}
use Rattle.stream_monitor.specs.declared.fibs.Next.TheVariants.{Fib}
use Rattle.stream_monitor.specs.Checking.{StopsAtFib, HasReadAll}
use Rattle.stream_monitor.specs.declared.ending.Ending.TheVariants as endings
use Rattle.stream_monitor.specs.declared.line.Cause.TheVariants as causes
use Rattle.stream_monitor.specs.declared.line.Line.TheVariants as lines
use Rattle.stream_monitor.proofs.VectorsOfChecks.{goes_on, options, tells_nothing, two}

-- ---- what a monitor gives

gives_part : Gives (Some (7 ∷ [])) (Some []) Part
gives_part = (7 ∷ [], omega arith, omega arith, refl, refl)

-- a byte is no FIB
gives_no_fib : Gives (Some (7 ∷ [])) (Some []) (Fib (7 ∷ [])) → ⊥
gives_no_fib h = absurd (omega (arith, h.0))

begins_with_part : BeginsWith (7 ∷ []) Part
begins_with_part = (omega arith, omega arith)

begins_with_no_fib : (fib : List ℕ) → BeginsWith (7 ∷ []) (Fib fib) → ⊥
begins_with_no_fib fib h = absurd (omega (arith, h.0))

-- ---- logs

abbrev line_count : Option Log → ℕ
line_count None = 0
line_count (Some l) = length l.lines

logs_a_fib : LogsNext (Some (log_of options [] [])) (Some (log_of options ((7 ∷ []) ∷ []) [])) (Fib (7 ∷ []))
logs_a_fib = refl

logs_no_part : LogsNext (Some (log_of options [] [])) None Part → ⊥
logs_no_part h = absurd cc

logs_a_line : LogsLines (Some (log_of options [] [])) (Some (log_of options [] (lines.Alive two ∷ [])))
    (lines.Alive two ∷ [])
logs_a_line = refl

logs_no_line : LogsLines (Some (log_of options [] [])) (Some (log_of options [] [])) (lines.Alive two ∷ []) → ⊥
logs_no_line h = let len : 0 ≡ 1 = ap line_count h in absurd (omega (arith, len))

is_log : IsLog options [] [] (Some (log_of options [] []))
is_log = refl

is_no_log : IsLog options [] [] (Some (log_of options [] (lines.Alive two ∷ []))) → ⊥
is_no_log h = let len = ap (λ l. length l.lines) h in absurd (omega (arith, len))

has_lines : HasLines options [] (Some (log_of options ((7 ∷ []) ∷ []) []))
has_lines = (refl, refl)

has_other_lines : HasLines options [] (Some (log_of options [] (lines.Alive two ∷ []))) → ⊥
has_other_lines h = let len = ap length h.1 in absurd (omega (arith, len))

-- ---- promptness

prompt_at_first : (r : Reading) → IsPrompt r (Some (log_of options [] []))
prompt_at_first r = goes_on r

-- nothing is told before the first FIB
not_prompt : (r : Reading) → IsPrompt r (Some (log_of options [] (lines.Alive two ∷ []))) → ⊥
not_prompt r h = let len = ap length (tells_nothing r (lines.Alive two ∷ []) h) in absurd (omega (arith, len))

-- ---- ends

ends_without_totals : HasReadAll options (endings.Refused causes.NoEnsemble) (Some [])
ends_without_totals = refl

has_more : HasReadAll options (endings.Refused causes.NoEnsemble) (Some (7 ∷ [])) → ⊥
has_more h = let len = ap length h in absurd (omega (arith, len))

stops_full : StopsAtFib options (endings.Refused causes.Full)
stops_full = tt

stops_not_whole : StopsAtFib options (endings.Refused causes.NotWhole) → ⊥
stops_not_whole h = h
