-- What a monitor has given and was told, and how much of it whenever more is requested.
use Rattle.std.specs.Prelude.{◌≡◌, ℕ, ◌<◌, List, [], ◌∷◌, ◌++◌, length, IfSome, Option}
use Rattle.std.specs.Option.{option_map}
use Rattle.std.specs.Io.KnownBytes.{Consumes, IsAtEnd}
use Rattle.stream_check.specs.Frames.{Reading}
use Rattle.stream_monitor.specs.declared.line.Line.{Line}
use Rattle.stream_monitor.specs.declared.fibs.Next.{Next}
use Rattle.stream_monitor.specs.declared.fibs.Next.TheVariants.{Fib, Part, End}
use Rattle.stream_monitor.specs.declared.options.CheckOptions.{CheckOptions}
use Rattle.stream_monitor.specs.Outcome.{HasFibSize, GoesOn}

-- of a check with these options so far: the FIBs that were given to it, and the lines that it has told
pub record Log : Type 0 where
  pub options : CheckOptions
  pub fibs : List (List ℕ)
  pub lines : List Line

abbrev pub log_of : CheckOptions → List (List ℕ) → List Line → Log
log_of options fibs lines = record { options = options; fibs = fibs; lines = lines }

-- a log has these FIBs and these lines, if it is kept
abbrev pub IsLog : CheckOptions → List (List ℕ) → List Line → Option Log → Type 0
IsLog o fibs lines log = IfSome log (λ l. l ≡ log_of o fibs lines)

-- ---- what a monitor gives

-- of an input that had the first bytes left, and now has the second ones: a FIB; a part of one, which ends it; nothing
abbrev pub Gives : (old new : Option (List ℕ)) → Next → Type 0
Gives old new (Fib fib) = HasFibSize fib × Consumes old new fib
Gives old new Part = (cut : List ℕ) × (0 < length cut) × (length cut < 32) × Consumes old new cut × IsAtEnd new
Gives old new End = Consumes old new [] × IsAtEnd new

-- a FIB that is given is in the log; nothing behind the last one is
abbrev pub after_next : Log → Next → Log
after_next l (Fib fib) = log_of l.options (l.fibs ++ fib ∷ []) l.lines
after_next l Part = l
after_next l End = l

-- if a log is kept, and none if not
abbrev pub LogsNext : (old new : Option Log) → Next → Type 0
LogsNext old new next = new ≡ option_map (λ l. after_next l next) old

-- ---- what a monitor is told

abbrev pub after_lines : Log → List Line → Log
after_lines l lines = log_of l.options l.fibs (l.lines ++ lines)

abbrev pub LogsLines : (old new : Option Log) → List Line → Type 0
LogsLines old new lines = new ≡ option_map (λ l. after_lines l lines) old

-- these are the lines since the check began, with these options
abbrev pub HasLines : CheckOptions → List Line → Option Log → Type 0
HasLines o lines log = IfSome log (λ l. (l.options ≡ o) × (l.lines ≡ lines))

-- whenever more is requested: none of the FIBs so far ends the check, and all lines of the frames that they decide were
-- told, and no others
abbrev pub IsPrompt : Reading → Option Log → Type 0
IsPrompt r log = IfSome log (λ l. GoesOn r l.options l.fibs l.lines)
