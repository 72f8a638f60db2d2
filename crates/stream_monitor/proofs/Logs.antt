-- What a log has after one step and then another.
use Rattle.stream_monitor.proofs.Words.{[], ◌++◌, ◌∙◌, ◌∷◌, ◌≡◌, CheckOptions, End, HasLines, IsLog, Line, List, Log}
use Rattle.stream_monitor.proofs.Words.{LogsLines, LogsNext, Next, None, Option, Part, Some, after_lines, after_next}
use Rattle.stream_monitor.proofs.Words.{ap, append_assoc, subst, sym, ℕ}
use Rattle.std.specs.Option.{option_map}
use Rattle.stream_monitor.specs.declared.fibs.Next.TheVariants.{Fib}

pub more_lines : (a b c : Option Log) (one two : List Line) → LogsLines a b one → LogsLines b c two
    → LogsLines a c (one ++ two)
more_lines None b c one two p q = q ∙ ap (option_map (λ l. after_lines l two)) p
more_lines (Some x) b c one two p q = cc (q, p, append_assoc x.lines one two)

-- a log with these FIBs and lines, and then one more FIB
pub one_more_fib : (o : CheckOptions) (fibs : List (List ℕ)) (log : List Line) (a b : Option Log) (fib : List ℕ)
    → IsLog o fibs log a → LogsNext a b (Fib fib) → IsLog o (fibs ++ fib ∷ []) log b
one_more_fib o fibs log None b fib is given = subst (IsLog o (fibs ++ fib ∷ []) log) (sym given) tt
one_more_fib o fibs log (Some x) b fib is given = rw given (ap (λ l. after_next l (Fib fib)) is)

-- and then more lines
pub lines_logged : (o : CheckOptions) (fibs : List (List ℕ)) (log more : List Line) (a b : Option Log)
    → IsLog o fibs log a → LogsLines a b more → IsLog o fibs (log ++ more) b
lines_logged o fibs log more None b is told = subst (IsLog o fibs (log ++ more)) (sym told) tt
lines_logged o fibs log more (Some x) b is told = rw told (ap (λ l. after_lines l more) is)

-- the lines at the end
pub has_lines : (o : CheckOptions) (fibs : List (List ℕ)) (log : List Line) (a : Option Log) → IsLog o fibs log a
    → HasLines o log a
has_lines o fibs log None is = tt
has_lines o fibs log (Some x) is = (ap (λ l. l.options) is, ap (λ l. l.lines) is)

-- nothing behind the last FIB is logged
pub kept_lines : (o : CheckOptions) (fibs : List (List ℕ)) (log : List Line) (a b : Option Log) (next : Next)
    → IsLog o fibs log a → LogsNext a b next → HasLines o log b
kept_lines o fibs log None b next is given = subst (HasLines o log) (sym given) tt
kept_lines o fibs log (Some x) b next is given = subst (HasLines o log) (sym given) (chosen next)
  where
    chosen : (n : Next) → ((after_next x n).options ≡ o) × ((after_next x n).lines ≡ log)
    chosen (Fib fib) = (ap (λ l. l.options) is, ap (λ l. l.lines) is)
    chosen Part = (ap (λ l. l.options) is, ap (λ l. l.lines) is)
    chosen End = (ap (λ l. l.options) is, ap (λ l. l.lines) is)
