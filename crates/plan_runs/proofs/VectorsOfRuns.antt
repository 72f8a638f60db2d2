-- Runs of a code that waits for a frame and ends: for each definition, an example that holds and one that fails.
use Rattle.plan_runs.proofs.Words.{[], ◌<◌, ◌==◌, ◌∷◌, ◌≡◌, ◌≤◌, AgreeOnContacts, AreAllAlike, Bool, CanBeSent, Contact}
use Rattle.plan_runs.proofs.Words.{Contacts, End, EventIsAllowed, Executes, Frame, Instr, IsAllowed, IsEvent, IsJoined}
use Rattle.plan_runs.proofs.Words.{IsPlayed, IsProgram, IsReached, IsSetting, IsStart, Join, Line, List, Marked, None}
use Rattle.plan_runs.proofs.Words.{Program, SentBy, Setting, Some, Start, StartIsInRange, State, Wait, after_burst}
use Rattle.plan_runs.proofs.Words.{after_frame, ap, arith, code_from, codes_have_one_verdict, cond, false}
use Rattle.plan_runs.proofs.Words.{first_from_is, label, last_of, length, line, line_is, one_sub, one_sub_is, page_set}
use Rattle.plan_runs.proofs.Words.{plan, ready, refl, refused_if, subst, suc, sym, true, typed_if, with_sub, zero, ℕ}
use Rattle.plan_verifier.specs.declared.cause.Cause.TheVariants.{JoinIdle}
use Rattle.plan_runs.proofs.Samples.{all_open, start_at, in_range, first_state, it_starts}
use Rattle.plan_runs.proofs.Joined.{runs_join}
use Rattle.plan_runs.proofs.Reached.{starts_are_reached, reached_is_kept}

-- ---- values shared by these vectors: one sub-channel, at 128 kbit/s and at 96 kbit/s

abbrev code : List Line → Program
code lines = code_from one_sub (label 0 1 ∷ []) lines

abbrev pub waits : Program
waits = code (line (Wait 1) ∷ line End ∷ [])

abbrev pub joins : Program
joins = code (line Join ∷ [])

abbrev start : Start
start = start_at 0

abbrev pub first : State
first = first_state one_sub 0

abbrev pub second : State
second = after_frame waits first

-- ---- starts and events

past_the_day : StartIsInRange (record start { day = 3600000 }) → ⊥
past_the_day h = let e : 3600000 < 3600000 = h.day in omega (arith, e)

last_contact : IsEvent (Contact 15 true)
last_contact = omega arith

no_such_contact : IsEvent (Contact 16 true) → ⊥
no_such_contact h = let e : 16 < 16 = h in omega (arith, e)

waits_starts : IsStart waits start first
waits_starts = it_starts one_sub waits.lines 0 1

some_left : (left : ℕ) → Some left ≡ None → ⊥
some_left left e = absurd cc

-- with a swap that no instruction committed
not_with_a_swap : IsStart waits start (record first { left = Some 4 }) → ⊥
not_with_a_swap h = some_left 4 h.left

-- ---- events without a trap

pub one_instruction : Executes waits (ready first) 1 (after_burst waits first)
one_instruction = (refl, record { instr = Wait 1; within = refl; allowed = tt }, (refl, refl))

-- a join without a pending swap
no_join : (c : Contacts) (i : Instr) → Some Join ≡ Some i → IsAllowed plan i (record first { contacts = c }) → ⊥
no_join c i at allowed =
    let same : Join ≡ i = cc in
    let pending : IsAllowed plan Join (record first { contacts = c }) =
    subst (λ (j : Instr). IsAllowed plan j (record first { contacts = c })) (sym same) allowed in
    let some : false ≡ true = pending in
    absurd cc

pub join_traps : (c : Contacts) (n : ℕ) (t : State) → Executes joins (record first { contacts = c }) n t → ⊥
join_traps c zero t h = let e : true ≡ false = h.0 in absurd cc
join_traps c (suc n) t h = no_join c h.1.instr h.1.within h.1.allowed

pub frame_traps : EventIsAllowed joins first Frame → ⊥
frame_traps h = join_traps all_open h.steps (after_burst joins first) h.executes

-- ---- a run in two parts, which joins for every run

frame_by_frame : IsJoined waits first [] (Frame ∷ []) (Contact 3 true ∷ Frame ∷ [])
frame_by_frame = runs_join waits first [] (Frame ∷ []) (Contact 3 true ∷ Frame ∷ [])

-- ---- states that a run reaches

reached_by_a_frame : IsReached waits second
reached_by_a_frame = reached_is_kept waits first (Frame ∷ [])
    (starts_are_reached waits start first (in_range 0 (omega arith)) waits_starts) (tt, tt)

-- a code without a label at its first instruction has no start
never_reached : IsReached (record waits { labels = [] }) first → ⊥
never_reached h = let e : None ≡ Some h.started.label = h.started.first in absurd cc

-- ---- typed codes in states that they reach

waits_is : IsProgram waits
waits_is = first_from_is one_sub 1 waits.lines one_sub_is (omega arith) (omega arith)
    (line_is (Wait 1) (omega arith, omega arith), (line_is End tt, tt)) (omega arith) (omega arith)

joins_is : IsProgram joins
joins_is = first_from_is one_sub 1 joins.lines one_sub_is (omega arith) (omega arith) (line_is Join tt, tt)
    (omega arith) (omega arith)

pub played : IsPlayed waits second
played = record { program = waits_is; typed = typed_if waits waits_is refl; reached = reached_by_a_frame }

pub played_first : IsPlayed waits first
played_first = record {
  program = waits_is;
  typed = typed_if waits waits_is refl;
  reached = starts_are_reached waits start first (in_range 0 (omega arith)) waits_starts;
}

-- the verifier refuses its join
not_played : (s : State) → IsPlayed joins s → ⊥
not_played s h = (codes_have_one_verdict joins joins_is).never_both 0 JoinIdle h.typed
    (refused_if joins 0 JoinIdle joins_is refl)

can_be_sent : CanBeSent plan first
can_be_sent = record {
  page_index = omega arith;
  current = one_sub_is;
  next = one_sub_is;
  count = omega arith;
  ensemble = record {
    eid = omega arith;
    change = omega arith;
    count = omega arith;
    flagged = (λ none. absurd cc, λ some. absurd (omega (arith, some)));
    occurrence = tt;
  };
}

-- all entries are on page 0
no_second_page : CanBeSent plan (record first { page_index = 1 }) → ⊥
no_second_page h = let e : 1 < 1 = h.page_index in omega (arith, e)

-- ---- what a phase sends, with a notice of 24 frames

sent_beside_the_next : SentBy plan (Some 23) (with_sub 128) (with_sub 96) (page_set (with_sub 128) (Some (with_sub 96)))
sent_beside_the_next = ((λ lt. refl), λ le. let e : 24 ≤ 23 = le in absurd (omega (arith, e)))

not_without_the_next : SentBy plan (Some 23) (with_sub 128) (with_sub 96) (page_set (with_sub 128) None) → ⊥
not_without_the_next h =
    let same : page_set (with_sub 128) (Some (with_sub 96)) ≡ page_set (with_sub 128) None = h.0 (omega arith) in
    let two : 2 ≡ 1 = ap (λ (ms : List Marked). length ms) same in
    omega (arith, two)

-- ---- settings of contacts between two frames

abbrev closes : ℕ → Setting
closes contact = record { contact = contact; closed = true }

abbrev opens : ℕ → Setting
opens contact = record { contact = contact; closed = false }

a_setting : IsSetting (closes 15)
a_setting = omega arith

no_setting : IsSetting (closes 16) → ⊥
no_setting h = let e : 16 < 16 = h in omega (arith, e)

-- contact 3 opens and then closes
last_counts : AgreeOnContacts (opens 3 ∷ closes 3 ∷ []) (closes 3 ∷ [])
last_counts contact = by (3 == contact)
  where
    by : (b : Bool) → last_of (cond b (Some false) None) (last_of (cond b (Some true) None) None)
        ≡ last_of (cond b (Some true) None) None
    by true = refl
    by false = refl

order_counts : AgreeOnContacts (closes 3 ∷ opens 3 ∷ []) (opens 3 ∷ closes 3 ∷ []) → ⊥
order_counts h = let e : Some false ≡ Some true = h 3 in absurd cc

frames_alike : AreAllAlike ((opens 3 ∷ closes 3 ∷ []) ∷ [] ∷ []) ((closes 3 ∷ []) ∷ [] ∷ [])
frames_alike = (last_counts, ((λ contact. refl), tt))

another_frame : AreAllAlike ((closes 3 ∷ []) ∷ [] ∷ []) ([] ∷ (closes 3 ∷ []) ∷ []) → ⊥
another_frame h = let e : Some true ≡ None = h.0 3 in absurd cc
