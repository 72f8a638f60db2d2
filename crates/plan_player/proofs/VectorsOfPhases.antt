-- The pages that a player keeps of a phase, and its invariant between frames, for a code with one sub-channel that
-- waits for a frame and ends: examples that hold and examples that fail for each definition.
use Rattle.plan_player.proofs.Words.{◌<◌, ◌∷◌, ◌≡◌, ◌≤◌, Cursor, HasPage, Headed, I, IsFrameReady, IsGoing, IsInPhase}
use Rattle.plan_player.proofs.Words.{Keeps, Kept, KeptPage, List, Marked, None, PhasePages, ShowsBytes, Some, Whole, ap}
use Rattle.plan_player.proofs.Words.{arith, false, first, get_or, one_sub_is, page_bytes, page_set, plan, refl}
use Rattle.plan_player.proofs.Words.{replicate, rounds, second, suc, true, waits, with_sub, zero, ℕ}
use Rattle.fib_carousel.proofs.Sendable.{sendable_page_set}
use Rattle.plan_runs.proofs.VectorsOfRuns.{played}
use Rattle.fib_carousel.specs.Greedy.{start as before_all}
use Rattle.plan_player.proofs.FrameFacts.{frame_ready}

-- ---- the pages of a phase

abbrev entries : ℕ → List Marked
entries kbits = page_set (with_sub kbits) None

one_page : rounds (Whole I) (entries 128) ≡ 1
one_page = refl

abbrev page_of : ℕ → KeptPage
page_of kbits = record { plain = page_bytes (Whole I) None 0 (entries kbits) }

abbrev at_page : ℕ → Cursor
at_page k = record { page = k; position = record { index = 0; state = before_all } }

-- no page has been made yet
abbrev pub fresh : PhasePages
fresh = record {
  pages = replicate 60 None;
  made = 0;
  is_whole = false;
  cursor = at_page 0;
  change = 0;
  sent = Headed;
  headed = replicate 96 0;
}

-- the only page has been made, and was the last frame
abbrev pub kept : PhasePages
kept = record {
  pages = Some (page_of 128) ∷ replicate 59 None;
  made = 1;
  is_whole = true;
  cursor = at_page 0;
  change = 0;
  sent = Kept 0;
  headed = replicate 96 0;
}

has_page : HasPage (Whole I) (entries 128) 0 kept.pages
has_page = record {
  page = page_of 128;
  held = refl;
  kept = record { plain = refl; sendable = sendable_page_set (with_sub 128) None one_sub_is tt };
}

each_made : (n : ℕ) → n < 1 → HasPage (Whole I) (entries 128) n kept.pages
each_made zero below = has_page
each_made (suc n) below = absurd (omega (arith, below))

-- the page in turn is the one that was made, or there is none left
keeps_one : (page_index : ℕ) → page_index ≤ 1 → Keeps (Whole I) (entries 128) page_index kept
keeps_one page_index le = record {
  whole = refl;
  room = omega arith;
  index_within = le;
  each = each_made;
  all = λ e. refl;
  more = λ e. absurd cc;
  cursor = λ more. let lt : 1 < 1 = more in absurd (omega (arith, lt));
}

-- page 2 can't be in turn before page 1 was made
turn_past_made : Keeps (Whole I) (entries 128) 2 kept → ⊥
turn_past_made h = let e : 2 ≤ 1 = h.index_within in omega (arith, e)

-- the last byte of the entry of the sub-channel, with the low part of its size
abbrev size_in : List ℕ → ℕ
size_in bytes = get_or bytes 5 0

-- ---- the last frame

shows_the_page : ShowsBytes kept (page_bytes (Whole I) None 0 (entries 128))
shows_the_page = (page_of 128, refl, refl)

shows_no_other : ShowsBytes kept (page_bytes (Whole I) None 0 (entries 96)) → ⊥
shows_no_other h =
    let held : Some (Some (page_of 128)) ≡ Some (Some h.0) = h.1 in
    let same : page_of 128 ≡ h.0 = cc held in
    let plain : size_in h.0.plain ≡ 72 = ap size_in h.2 in
    let other : 96 ≡ size_in h.0.plain = ap (λ (p : KeptPage). size_in p.plain) same in
    omega (arith, plain, other)

-- ---- between frames

in_phase : IsInPhase plan first kept
in_phase = record { entries = entries 128; sent = refl; keeps = keeps_one 0 (omega arith); change = tt }

-- page 2 can't be in turn if there is one page
not_at_page_two : IsInPhase plan (record first { page_index = 2 }) kept → ⊥
not_at_page_two h = let e : 2 ≤ 1 = h.keeps.index_within in omega (arith, e)

-- the first frame executed the wait, and sent page 0, which is in turn again
going : IsGoing waits second 1 kept
going = record {
  played = played;
  phase = record { entries = entries 128; sent = refl; keeps = keeps_one 0 (omega arith); change = tt };
  within = omega arith;
}

-- the budget is 20
not_of_21_steps : IsGoing waits second 21 kept → ⊥
not_of_21_steps h = let e : 21 ≤ 20 = h.within in omega (arith, e)

-- ---- before a frame

pub ready_for_the_second : IsFrameReady waits second kept
ready_for_the_second = frame_ready waits second 1 kept going

-- there is no page 1
no_page_one : IsFrameReady waits (record second { page_index = 1 }) kept → ⊥
no_page_one h = let e : 1 < 1 = h.sent.page_index in omega (arith, e)
