-- Swaps, waits, counts, contacts and what was heard: for each definition, examples that hold and examples that fail.
use Rattle.plan_runs.proofs.Words.{[], ◌%◌, ◌<◌, ◌∷◌, ◌≡◌, ◌≤◌, AreLastSent, CarriesOut, CommitAt, CommitIn}
use Rattle.plan_runs.proofs.Words.{Configuration, Contact, End, EnsembleInformation, Frame, HasHeaderOf, I, II}
use Rattle.plan_runs.proofs.Words.{IsCommit, IsCounted, IsFirstWhere, IsOnStep, IsSwapAfterDelay, IsSwapAtCount}
use Rattle.plan_runs.proofs.Words.{IsWaitOf, Line, List, None, Program, Running, Set, Some, Start, State, SwapsWhereDue}
use Rattle.plan_runs.proofs.Words.{Wait, Waits, WaitsSwap, WaitsUntil, after_frame, ap, arith, ensemble_of, false}
use Rattle.plan_runs.proofs.Words.{frame_bytes, get_or, hold_after_frame, hold_after_swap, inl, inr, is_due, is_here}
use Rattle.plan_runs.proofs.Words.{is_running, length, level_after, map, refl, shown, suc, true, with_hold_ended}
use Rattle.plan_runs.proofs.Words.{with_sub, zero, ℕ}
use Rattle.mux_types.specs.declared.parts.Sub.{Sub}
use Rattle.plan_runs.proofs.Samples.{line, start_at, short_plan, ended}
use Rattle.plan_runs.proofs.Waits.{waits_are_kept}
use Rattle.plan_runs.proofs.VectorsOfRuns.{waits, first, second, played, played_first}
use Rattle.plan_runs.proofs.Right.{page_laws}
use Rattle.plan_runs.proofs.Headline.{headers_are_sent}

-- with FIG 0/0 in every frame, and a notice of one frame
abbrev code : ℕ → List Line → Program
code budget lines = record (ended (short_plan II 1 budget)) { lines = lines }

-- ---- the instructions of a frame

the_wait : CarriesOut waits first (Wait 1)
the_wait = (0, omega arith, refl)

not_the_end : CarriesOut waits first End → ⊥
not_the_end (zero, below, at) = let same : Some (Wait 1) ≡ Some End = at in absurd cc
not_the_end (suc k, below, at) = let e : suc k < 1 = below in omega (arith, e)

-- ---- swaps, with 128 kbit/s on the air and 96 kbit/s next

abbrev due_at : ℕ → State
due_at count = record first { next = with_sub 96; left = Some 0; count = count }

on_a_step : IsOnStep (short_plan I 12 20) (due_at 8)
on_a_step due = refl

off_the_step : IsOnStep (short_plan I 12 20) (due_at 7) → ⊥
off_the_step h = let e : 3 ≡ 0 = h refl in omega (arith, e)

other_rate : with_sub 128 ≡ with_sub 96 → ⊥
other_rate e = let rate : 128 ≡ 96 = ap (λ (c : Configuration). get_or (map (λ (sub : Sub). sub.kbits) c.subs) 0 0) e in
    omega (arith, rate)

swapped : SwapsWhereDue (due_at 8) (record first { current = with_sub 96 })
swapped = record { becomes_next = λ due. refl; stays = λ none. let clash : true ≡ false = none in absurd cc }

not_swapped : SwapsWhereDue (due_at 8) (due_at 8) → ⊥
not_swapped h = other_rate (h.becomes_next refl)

a_commit : IsCommit (CommitIn 24)
a_commit = tt

no_commit : IsCommit (Wait 24) → ⊥
no_commit h = h

-- a commit for the next count, at count 0
at_its_count : IsSwapAtCount 1 (code 20 (line (CommitAt 1) ∷ line End ∷ [])) first (Frame ∷ [])
at_its_count carries = inl (refl, (omega arith, refl))

-- a second commit in the same frame, which is not allowed, replaces the first
abbrev commits_twice : Program
commits_twice = code 20 (line (CommitAt 1) ∷ line (CommitAt 2) ∷ line End ∷ [])

at_another_count : IsSwapAtCount 1 commits_twice first (Frame ∷ []) → ⊥
at_another_count h = by (h (0, omega arith, refl))
  where
    by : IsFirstWhere (λ t. is_due t.left) (λ later t. (1 ≤ later) × (t.count ≡ 1)) 1 commits_twice
        (after_frame commits_twice first) (Frame ∷ []) → ⊥
    by (inl g) = let clash : false ≡ true = g.0 in absurd cc
    by (inr g) = g.1 (omega arith, refl)

in_time : IsSwapAfterDelay 1 (code 20 (line (CommitIn 1) ∷ line End ∷ [])) first (Frame ∷ [])
in_time carries = inl (refl, (omega arith, refl))

abbrev commits_again : Program
commits_again = code 20 (line (CommitIn 1) ∷ line (CommitIn 2) ∷ line End ∷ [])

out_of_time : IsSwapAfterDelay 1 commits_again first (Frame ∷ []) → ⊥
out_of_time h = by (h (0, omega arith, refl))
  where
    by : IsFirstWhere (λ t. is_due t.left) (λ later t. (1 ≤ later) × (t.count % 1 ≡ 0)) 1 commits_again
        (after_frame commits_again first) (Frame ∷ []) → ⊥
    by (inl g) = let clash : false ≡ true = g.0 in absurd cc
    by (inr g) = g.1 (omega arith, refl)

-- ---- running and waiting

executes_instructions : is_running Running ≡ true
executes_instructions = refl

executes_none_before_the_frame : is_running (Waits 0) ≡ true → ⊥
executes_none_before_the_frame e = let clash : false ≡ true = e in absurd cc

no_frame_left : is_here first (Waits 0) ≡ true
no_frame_left = refl

one_frame_left : is_here first (Waits 1) ≡ true → ⊥
one_frame_left e = let clash : false ≡ true = e in absurd cc

resumes : (with_hold_ended (record first { hold = Waits 0 })).hold ≡ Running
resumes = refl

does_not_resume : (with_hold_ended (record first { hold = Waits 1 })).hold ≡ Running → ⊥
does_not_resume e = absurd cc

joins_and_runs : hold_after_swap WaitsSwap ≡ Running
joins_and_runs = refl

waits_on : hold_after_swap (Waits 1) ≡ Running → ⊥
waits_on e = absurd cc

runs_on : hold_after_frame Running ≡ Running
runs_on = refl

waits_a_frame_less : hold_after_frame (Waits 1) ≡ Running → ⊥
waits_a_frame_less e = absurd cc

-- ---- waits

suspends_for_three : IsWaitOf (Wait 3) (Waits 3)
suspends_for_three = refl

suspends_for_two : IsWaitOf (Wait 3) (Waits 2) → ⊥
suspends_for_two h = let e : 2 ≡ 3 = after_wait 2 3 h in omega (arith, e)
  where
    after_wait : (a b : ℕ) → Waits a ≡ Waits b → a ≡ b
    after_wait a b same = cc same

waits_for_one : WaitsUntil waits second (Frame ∷ Contact 3 true ∷ Frame ∷ [])
waits_for_one = waits_are_kept waits second (Frame ∷ Contact 3 true ∷ Frame ∷ []) played

-- a code that a budget of one instruction cuts off within a frame
abbrev cut_off : Program
cut_off = code 1 (line (Set 0 1) ∷ line (Set 0 1) ∷ line End ∷ [])

waits_for_nothing : WaitsUntil cut_off first (Frame ∷ []) → ⊥
waits_for_nothing (inl h) = h.1
waits_for_nothing (inr h) = let clash : true ≡ false = h.0 in absurd cc

-- ---- counts and contacts

abbrev before_midnight : Start
before_midnight = record (start_at 4999) { day = 3599999 }

counted : IsCounted before_midnight 2 (record first { count = 1; day = 1 })
counted = record { count = refl; day = refl }

not_counted : IsCounted before_midnight 2 (record first { count = 1; day = 2 }) → ⊥
not_counted h = let e : 2 ≡ 1 = h.day in omega (arith, e)

last_setting : level_after 3 false (Contact 3 true ∷ Contact 4 false ∷ Frame ∷ []) ≡ true
last_setting = refl

earlier_setting : level_after 3 false (Contact 3 true ∷ Contact 3 false ∷ Frame ∷ []) ≡ true → ⊥
earlier_setting e = let clash : false ≡ true = e in absurd cc

-- ---- what was heard

nothing_was_heard : AreLastSent waits first (Frame ∷ [])
nothing_was_heard = record {
  along = refl;
  earlier = frame_bytes waits first ∷ [];
  sent = refl;
  whole = λ due. let clash : false ≡ true = due in absurd cc;
}

-- one frame of a notice of 12 frames has passed, but none was sent
heard_unsent : AreLastSent (record waits { plan = short_plan I 12 20 }) (record (due_at 1) { left = Some 11 }) [] → ⊥
heard_unsent h = let e : 0 ≡ 1 = ap (λ (frames : List (List ℕ)). length frames) h.along in omega (arith, e)

its_own_header : HasHeaderOf waits.plan (shown waits first) (frame_bytes waits first)
its_own_header = headers_are_sent page_laws waits first played_first

-- the frame after it has no FIG 0/0
another_header : HasHeaderOf waits.plan (shown waits second) (frame_bytes waits first) → ⊥
another_header h =
    let e : EnsembleInformation = ensemble_of waits.plan (shown waits first) in
    let heard = (its_own_header false e).1 (refl, refl) in
    let sent : None ≡ Some e = ((h false e).0 heard).1 in
    absurd cc
