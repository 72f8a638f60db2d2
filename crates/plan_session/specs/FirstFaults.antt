-- The first fault of the text of an event file or of a command file that has no tokens.
use Rattle.std.specs.Prelude.{◌≡◌, ℕ, List, Result, Err}
use Rattle.script_tokens.specs.declared.token.Token.{Token}
use Rattle.script_tokens.specs.declared.token.Inside.TheVariants.{Nothing}
use Rattle.script_tokens.specs.declared.token.TheConstants.{NO_LIMITS}
use Rattle.script_tokens.specs.declared.fault.ScriptFault.{ScriptFault}
use Rattle.script_tokens.specs.declared.fault.ScriptFault.TheVariants.{Byte as ByteOfText, Number as NumberInText}
use Rattle.script_tokens.specs.declared.fault.ScriptFault.TheVariants.{Expected as ExpectedInText, Depth, NameUsed}
use Rattle.script_tokens.specs.declared.fault.ScriptFault.TheVariants.{NameUnknown, Limit, Memory as NoMemory}
use Rattle.script_tokens.specs.Bytes.{first_position}
use Rattle.script_tokens.specs.Lexing.{lexed}
use Rattle.plan_session.specs.declared.event_fault.EventFault.{EventFault}
use Rattle.plan_session.specs.declared.event_fault.EventFault.TheVariants.{Byte, Number, Expected, Memory}

-- the tokens of a text without the limits of scripts, or its first fault with its position
abbrev pub cut_of : List ℕ → Result (List Token) ScriptFault
cut_of text = lexed NO_LIMITS Nothing first_position text

-- the fault that is reported for one of the lexer or of the reader. These texts have no blocks, names or limits; where
-- a text has no tokens, the fault is `Byte` or out of memory
abbrev pub reported_fault : ScriptFault → EventFault
reported_fault (ByteOfText place) = Byte place
reported_fault (NumberInText place) = Number place
reported_fault (ExpectedInText place) = Expected place
reported_fault (Depth place) = Expected place
reported_fault (NameUsed place) = Expected place
reported_fault (NameUnknown place) = Expected place
reported_fault (Limit place) = Expected place
reported_fault NoMemory = Memory

-- where the text has no tokens, this is the reason
abbrev pub ReportsFirstFault : List ℕ → EventFault → Type 0
ReportsFirstFault text e = (fault : ScriptFault) → cut_of text ≡ Err fault → e ≡ reported_fault fault
