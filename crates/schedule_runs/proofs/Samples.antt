-- What vectors speak of: small schedules, their configurations, starts and events, and when a schedule commits and
-- swaps.
use Rattle.schedule_runs.proofs.Words.{[], ◌+◌, ◌∷◌, ◌||◌, Airing, Configuration, Contacts, Event}
use Rattle.schedule_runs.proofs.Words.{Frame, I, Item, List, Mode, Overlay, Short, Start, Test, Tree, Whole}
use Rattle.schedule_runs.proofs.Words.{after_swap, begins, cond, due_in, is_due, is_some, left_in, step_of, suc}
use Rattle.schedule_runs.proofs.Words.{zero, ℕ}
use Rattle.mux_config.specs.declared.edit.Edit.TheVariants.{AddComponent, AddService, AddSub, RateSub}
use Rattle.mux_eep.specs.declared.sizes.EepSet.TheVariants.{A}
use Rattle.mux_types.specs.declared.parts.Component.TheVariants.{Sound}
use Rattle.mux_types.specs.declared.parts.Sub.{Sub}
use Rattle.schedule_runs.proofs.Deciding.{is_same}
use Rattle.schedule_runs.proofs.Playing.{aired}

-- ---- schedules

abbrev sub : ℕ → Sub
sub kbits = record { id = 1; start = 0; protection = record { set = A; level = 3 }; kbits = kbits }

-- `sub 1 at 0 eep 3-A 128`, `service C221`, `audio 63 sub 1 in C221`
abbrev items : List Item
items =
    record { line = 3; edit = AddSub (sub 128) }
    ∷ record { line = 4; edit = AddService (Short 0xc221) }
    ∷ record { line = 5; edit = AddComponent (Short 0xc221) (Sound 63 1) }
    ∷ []

-- with the sub-channel at this rate
abbrev pub at_rate : ℕ → Configuration
at_rate kbits =
    record {
      subs = sub kbits ∷ [];
      services = record { sid = Short 0xc221; components = Sound 63 1 ∷ [] } ∷ [];
      packets = [];
    }

-- the rate of the first sub-channel
abbrev rate_in : List Sub → ℕ
rate_in [] = 0
rate_in (s ∷ ss) = s.kbits

abbrev pub rate : Configuration → ℕ
rate c = rate_in c.subs

-- `overlay .. while CONDITION { rate sub 1 KBITS }`
abbrev pub overlay : List (List Test) → ℕ → Overlay
overlay condition kbits =
    record { line = 7; condition = condition; edits = record { line = 7; edit = RateSub 1 kbits } ∷ [] }

-- `ensemble E1C5 mode M`, `period 4 notice 24 budget 100`, the items, and these overlays, named a, b and so on
abbrev names_from : ℕ → List Overlay → List (List ℕ)
names_from letter [] = []
names_from letter (o ∷ os) = (letter ∷ []) ∷ names_from (letter + 1) os

abbrev pub schedule_in : Mode → List Overlay → Tree
schedule_in mode overlays =
    record {
      header = record { eid = 0xe1c5; layout = Whole mode; period = 4; notice = 24; budget = 100 };
      items = items;
      line = 6;
      names = names_from 97 overlays;
      overlays = overlays;
      last_line = 7;
    }

abbrev pub schedule : List Overlay → Tree
schedule overlays = schedule_in I overlays

-- ---- runs

-- a set of contacts that are closed
abbrev pub closed : ℕ → Contacts
closed set = record { 0 = set }

abbrev pub start_at : (count day : ℕ) → Contacts → Start
start_at count day contacts = record { eid = 0xe1c5; count = count; day = day; contacts = contacts }

-- these many frames, and then these events
abbrev pub frames : ℕ → List Event → List Event
frames zero es = es
frames (suc n) es = Frame ∷ frames n es

abbrev pub run_from : Tree → Start → List Event → List Airing
run_from s start events = aired s (begins s start) events

-- the frames that commit, with the number of frames until the swap; below, those that swap
abbrev pub commits_from : Tree → ℕ → List Airing → List (ℕ × ℕ)
commits_from s n [] = []
commits_from s n (x ∷ xs) =
    let y : Airing = after_swap x in
    cond (is_some y.left || is_same (due_in s y) y.current) (commits_from s (n + 1) xs)
    ((n, left_in (step_of s) y.count s.header.notice) ∷ commits_from s (n + 1) xs)

abbrev pub swaps_from : ℕ → List Airing → List ℕ
swaps_from n [] = []
swaps_from n (x ∷ xs) = cond (is_due x.left) (n ∷ swaps_from (n + 1) xs) (swaps_from (n + 1) xs)

abbrev pub commits_of : Tree → Start → List Event → List (ℕ × ℕ)
commits_of s start events = commits_from s 0 (run_from s start events)

abbrev pub swaps_of : Tree → Start → List Event → List ℕ
swaps_of s start events = swaps_from 0 (run_from s start events)
