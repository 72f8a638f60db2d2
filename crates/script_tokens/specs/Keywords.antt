-- The keywords of the grammar, as the bytes that spell them, and the names of blocks, which are not keywords.
use Rattle.std.specs.Prelude.{◌≡◌, ◌≢◌, ℕ, ◌≤◌, ◌||◌, ◌&&◌, ◌==◌, Bool, true, false, List, [], ◌∷◌, ◌++◌}
use Rattle.std.specs.Prelude.{length, nat_le, codes, if◌then◌else◌}
use Rattle.std.specs.List.{list_all, AllByRecursion}
use Rattle.std.specs.Str.{bytes_eq}
use Rattle.script_tokens.specs.declared.keyword.Keyword.{Keyword}
use Rattle.script_tokens.specs.declared.keyword.Keyword.TheVariants.{Ensemble, Mode, Period, Notice, Budget, Reserve}
use Rattle.script_tokens.specs.declared.keyword.Keyword.TheVariants.{Define, Begin, Schedule, Overlay, While, And}
use Rattle.script_tokens.specs.declared.keyword.Keyword.TheVariants.{Sub, At, Eep, Service, Audio, In}
use Rattle.script_tokens.specs.declared.keyword.Keyword.TheVariants.{Data, Carry, Packet, Groups, Raw, TypeWord}
use Rattle.script_tokens.specs.declared.keyword.Keyword.TheVariants.{Address, Drop, Component, Move, Rate, Wait}
use Rattle.script_tokens.specs.declared.keyword.Keyword.TheVariants.{Contact, Closed, Open, Until, Early, Or, Time, To}
use Rattle.script_tokens.specs.declared.keyword.Keyword.TheVariants.{Commit, Join, Settle, End, If, Else, Repeat}
use Rattle.script_tokens.specs.declared.keyword.Keyword.TheVariants.{Forever, Apply, OpenBrace, CloseBrace}

unfoldable pub letters : Keyword → List ℕ
letters Ensemble = codes "ensemble"
letters Mode = codes "mode"
letters Period = codes "period"
letters Notice = codes "notice"
letters Budget = codes "budget"
letters Reserve = codes "reserve"
letters Define = codes "define"
letters Begin = codes "begin"
letters Schedule = codes "schedule"
letters Overlay = codes "overlay"
letters While = codes "while"
letters And = codes "and"
letters Sub = codes "sub"
letters At = codes "at"
letters Eep = codes "eep"
letters Service = codes "service"
letters Audio = codes "audio"
letters In = codes "in"
letters Data = codes "data"
letters Carry = codes "carry"
letters Packet = codes "packet"
letters Groups = codes "groups"
letters Raw = codes "raw"
letters TypeWord = codes "type"
letters Address = codes "address"
letters Drop = codes "drop"
letters Component = codes "component"
letters Move = codes "move"
letters Rate = codes "rate"
letters Wait = codes "wait"
letters Contact = codes "contact"
letters Closed = codes "closed"
letters Open = codes "open"
letters Until = codes "until"
letters Early = codes "early"
letters Or = codes "or"
letters Time = codes "time"
letters To = codes "to"
letters Commit = codes "commit"
letters Join = codes "join"
letters Settle = codes "settle"
letters End = codes "end"
letters If = codes "if"
letters Else = codes "else"
letters Repeat = codes "repeat"
letters Forever = codes "forever"
letters Apply = codes "apply"
letters OpenBrace = codes "{"
letters CloseBrace = codes "}"

-- a token: a keyword, or the bytes of another atom
pub data Lexeme : Type 0 where
  the : (keyword : Keyword) → Lexeme
  text : (bytes : List ℕ) → Lexeme

-- the keywords by subject: the head of a script, schedules, items, packet components, changes, waiting and times, and
-- control flow
abbrev pub head_keywords : List Keyword
head_keywords = Ensemble ∷ Mode ∷ Period ∷ Notice ∷ Budget ∷ Reserve ∷ Define ∷ Begin ∷ []

abbrev pub schedule_keywords : List Keyword
schedule_keywords = Schedule ∷ Overlay ∷ While ∷ And ∷ []

abbrev pub item_keywords : List Keyword
item_keywords = Sub ∷ At ∷ Eep ∷ Service ∷ Audio ∷ In ∷ Data ∷ Carry ∷ []

abbrev pub packet_keywords : List Keyword
packet_keywords = Packet ∷ Groups ∷ Raw ∷ TypeWord ∷ Address ∷ []

abbrev pub change_keywords : List Keyword
change_keywords = Drop ∷ Component ∷ Move ∷ Rate ∷ Commit ∷ Join ∷ Settle ∷ []

abbrev pub wait_keywords : List Keyword
wait_keywords = Wait ∷ Contact ∷ Closed ∷ Open ∷ Until ∷ Early ∷ Or ∷ Time ∷ To ∷ []

abbrev pub flow_keywords : List Keyword
flow_keywords = End ∷ If ∷ Else ∷ Repeat ∷ Forever ∷ Apply ∷ OpenBrace ∷ CloseBrace ∷ []

abbrev pub keywords : List Keyword
keywords =
    head_keywords ++ (schedule_keywords ++ (item_keywords ++ (packet_keywords ++ (change_keywords
    ++ (wait_keywords ++ flow_keywords)))))

abbrev pub lexeme_among : List Keyword → List ℕ → Lexeme
lexeme_among [] bytes = text bytes
lexeme_among (k ∷ ks) bytes = if bytes_eq bytes (letters k) then the k else lexeme_among ks bytes

-- the token of these bytes
unfoldable pub word_of : List ℕ → Lexeme
word_of bytes = lexeme_among keywords bytes

-- these bytes spell none of these keywords
abbrev pub IsNoneOf : List Keyword → List ℕ → Type 0
IsNoneOf ks bytes = AllByRecursion (λ k. bytes ≢ letters k) ks

-- these bytes spell no keyword at all
abbrev pub IsNoKeyword : List ℕ → Type 0
IsNoKeyword bytes = (k : Keyword) → bytes ≢ letters k

-- ---- names

abbrev pub is_lower : ℕ → Bool
is_lower b = nat_le 97 b && nat_le b 122

abbrev pub is_name_byte : ℕ → Bool
is_name_byte b = is_lower b || (nat_le 48 b && nat_le b 57) || (b == 95)

-- a lower-case letter, then lower-case letters, digits or `_`
abbrev pub has_name_letters : List ℕ → Bool
has_name_letters [] = false
has_name_letters (b ∷ bs) = is_lower b && list_all is_name_byte bs

-- a name is not a keyword
pub record IsName (bs : List ℕ) : Type 0 where
  pub formed : has_name_letters bs ≡ true
  pub short : length bs ≤ 32
  pub own : IsNoKeyword bs
