-- Regions: what is known of the contacts and of the frame of the day; and what is known there of a test.
use Rattle.std.specs.Prelude.{◌≡◌, ℕ, ◌+◌, ◌-◌, ◌%◌, ◌<◌, ◌≤◌, Bool, true, false}
use Rattle.plan_code.specs.declared.limits.TheConstants.{FRAMES_A_DAY}
use Rattle.plan_code.specs.declared.flags.Contacts.{Contacts}
use Rattle.plan_code.specs.Flags.{is_closed, with_contact}
use Rattle.schedule_verifier.specs.declared.region.Region.{Region}
use Rattle.schedule_verifier.specs.declared.region.Question.{Question}
use Rattle.schedule_verifier.specs.declared.region.Question.TheVariants.{Contact, Day}
use Rattle.schedule_verifier.specs.declared.region.Answer.{Answer}
use Rattle.schedule_verifier.specs.declared.region.Answer.TheVariants.{Yes, No, Ask}

-- the contacts and the frame of the day are as known
pub record Covers (r : Region) (contacts : Contacts) (day : ℕ) : Type 0 where
  pub closed : (c : ℕ) → c < 16 → is_closed r.closed c ≡ true → is_closed contacts c ≡ true
  pub opened : (c : ℕ) → c < 16 → is_closed r.opened c ≡ true → is_closed contacts c ≡ false
  pub from : r.from ≤ day
  pub to : day < r.to
  pub in_range : day < FRAMES_A_DAY

-- the part of a region in which the contact of a question is closed, or the frame of the day comes before the one of it
abbrev pub first_part : Question → Region → Region
first_part (Contact contact) r = record r { closed = with_contact contact true r.closed }
first_part (Day at) r = record r { to = at }

-- the other part
abbrev pub second_part : Question → Region → Region
second_part (Contact contact) r = record r { opened = with_contact contact true r.opened }
second_part (Day at) r = record r { from = at }

-- all contacts and all frames of the day
abbrev pub everything : Region
everything = record { closed = record { 0 = 0 }; opened = record { 0 = 0 }; from = 0; to = FRAMES_A_DAY }

-- the answer is right everywhere in the region; a question is no answer
abbrev pub Decides : Answer → Region → (Contacts → ℕ → Bool) → Type 0
Decides Yes r test = (contacts : Contacts) (day : ℕ) → Covers r contacts day → test contacts day ≡ true
Decides No r test = (contacts : Contacts) (day : ℕ) → Covers r contacts day → test contacts day ≡ false
Decides (Ask question) r test = Unit {0}

-- this holds everywhere in a region
abbrev pub Throughout : Region → (Contacts → ℕ → Type 0) → Type 0
Throughout r P = (contacts : Contacts) (day : ℕ) → Covers r contacts day → P contacts day

abbrev pub IfYes : Answer → Type 0 → Type 0
IfYes Yes P = P
IfYes No P = Unit {0}
IfYes (Ask question) P = Unit {0}

-- whether both hold; below, whether one of them does
abbrev pub both : Answer → Answer → Answer
both No other = No
both Yes other = other
both (Ask question) No = No
both (Ask question) _ = Ask question

abbrev pub either : Answer → Answer → Answer
either Yes other = Yes
either No other = other
either (Ask question) Yes = Yes
either (Ask question) _ = Ask question

-- the frame of the day that comes so many frames before this one
abbrev pub earlier : (at frames : ℕ) → ℕ
earlier at frames = (at + (FRAMES_A_DAY - frames)) % FRAMES_A_DAY
