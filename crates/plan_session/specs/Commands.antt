-- The text of a command file: its tokens spell the commands, one after another.
use Rattle.std.specs.Prelude.{ℕ, ◌<◌, ◌≤◌, List, [], ◌∷◌, codes}
use Rattle.std.specs.Fmt.{decimal}
use Rattle.plan_code.specs.declared.limits.TheConstants.{FRAMES_A_DAY}
use Rattle.script_tokens.specs.Spelling.{level_text}
use Rattle.plan_session.specs.declared.command.Command.{Command}
use Rattle.plan_session.specs.declared.command.Command.TheVariants.{Contact, Run, Next, Break, Clear, Show}
use Rattle.plan_session.specs.Items.{HoldsItems, HoldsOneListOf}

-- the numbers of a command are in their ranges
abbrev pub IsCommand : Command → Type 0
IsCommand (Contact c closed) = c < 16
IsCommand (Run n) = (1 ≤ n) × (n ≤ FRAMES_A_DAY)
IsCommand Next = Unit {0}
IsCommand (Break line) = (1 ≤ line) × (line ≤ 65535)
IsCommand Clear = Unit {0}
IsCommand Show = Unit {0}

-- the tokens that spell a command
abbrev pub command_lexemes : Command → List (List ℕ)
command_lexemes (Contact c closed) = codes "contact" ∷ decimal c ∷ level_text closed ∷ []
command_lexemes (Run n) = codes "run" ∷ decimal n ∷ []
command_lexemes Next = codes "next" ∷ []
command_lexemes (Break line) = codes "break" ∷ decimal line ∷ []
command_lexemes Clear = codes "clear" ∷ []
command_lexemes Show = codes "show" ∷ []

-- the text lists these commands
abbrev pub HoldsCommands : List ℕ → List Command → Type 0
HoldsCommands text commands = HoldsItems command_lexemes IsCommand text commands

-- a text has at most one list of commands
abbrev pub HoldsOneListOfCommands : Type 0
HoldsOneListOfCommands = HoldsOneListOf command_lexemes IsCommand
