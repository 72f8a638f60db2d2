-- Quiet frames that go to a sink together: for each definition, an example that holds and one that fails.
use Rattle.plan_player.proofs.Words.{[], ◌<◌, ◌∙◌, ◌≡◌, AreAlike, AreRecounted, HasRounds, Header, I, IsAlike, IsCut}
use Rattle.plan_player.proofs.Words.{IsPageReady, IsPageable, IsStretch, List, None, Option, Running, Some, State}
use Rattle.plan_player.proofs.Words.{Waits, ap, arith, concat, counted_on, ensemble_at, ensemble_sent, false, headed_at}
use Rattle.plan_player.proofs.Words.{header_of, hold_later, left_later, length, notice_frames, plan, refl, second}
use Rattle.plan_player.proofs.Words.{sent_entries, shown, shown_bytes, suc, take, true, waits, zero, ℕ}
use Rattle.plan_player.proofs.Together.{stretch_page}
use Rattle.plan_player.proofs.Cycles.{bytes_long}
use Rattle.plan_player.proofs.VectorsOfPhases.{fresh, kept, ready_for_the_second}

-- ---- the counts

two_left : left_later 3 (Some 5) ≡ Some 2
two_left = refl

not_three_left : left_later 3 (Some 5) ≡ Some 3 → ⊥
not_three_left e = absurd cc

waits_over : hold_later 9 (Waits 5) ≡ Waits 0
waits_over = refl

not_running : hold_later 9 (Waits 5) ≡ Running → ⊥
not_running e = absurd cc

-- ---- FIG 0/0

abbrev at : State
at = shown waits second

abbrev before_swap : ℕ → State
before_swap left = record at { left = Some left; count = 4990 }

unflagged : header_of plan (before_swap 25) ≡ record { eid = 0xe1c5; change = 0; swap = None }
unflagged = refl

-- the swap falls on count 10
flagged : (header_of plan (before_swap 20)).swap ≡ Some 10
flagged = refl

not_at_the_next : (header_of plan (before_swap 20)).swap ≡ Some 11 → ⊥
not_at_the_next e = absurd cc

abbrev header : Header
header = record { eid = 0xe1c5; change = 0; swap = None }

on_step : headed_at I header 8 ≡ Some (ensemble_at header 8)
on_step = refl

off_step : headed_at I header 9 ≡ Some (ensemble_at header 9) → ⊥
off_step e = absurd cc

its_count : (ensemble_at header 8).count ≡ 8
its_count = refl

no_other_count : (ensemble_at header 8).count ≡ 9 → ⊥
no_other_count e = omega (arith, e)

-- ---- the frames

page_ready : IsPageReady plan at kept
page_ready = record {
  sent = ready_for_the_second.sent;
  few = ready_for_the_second.few;
  keeps = ready_for_the_second.kept refl;
  change = ready_for_the_second.change refl;
}

-- there is no page 1
no_page_one : IsPageReady plan (record at { page_index = 1 }) kept → ⊥
no_page_one h = let e : 1 < 1 = h.sent.page_index in omega (arith, e)

each_ready : (k : ℕ) → k < 1 → IsPageReady plan (counted_on plan k at) kept
each_ready zero lt = page_ready
each_ready (suc k) lt = absurd (omega (arith, lt))

one_frame : IsStretch plan 1 at kept
one_frame = record { whole = refl; away = tt; ready = each_ready }

-- the page has not been made yet
not_made : IsStretch plan 1 at fresh → ⊥
not_made h = let e : false ≡ true = h.whole in absurd cc

one_page : HasRounds plan 1 at 1
one_page = each
  where
    each : HasRounds plan 1 at 1
    each zero lt = refl
    each (suc k) lt = absurd (omega (arith, lt))

not_two_pages : HasRounds plan 1 at 2 → ⊥
not_two_pages h = let e : 1 ≡ 2 = h 0 (omega arith) in omega (arith, e)

-- the sink accepted five bytes of the frame
five_bytes : IsCut plan 1 at (counted_on plan 1 at) (Some []) (Some (take 5 (shown_bytes plan at))) 0 5
five_bytes = record { few = omega arith; part = omega arith; state = refl; out = refl }

-- there is no frame after it
no_second_frame : (before after : Option (List ℕ)) → IsCut plan 1 at (counted_on plan 2 at) before after 1 5 → ⊥
no_second_frame before after h = let e : 1 < 1 = h.few in omega (arith, e)

-- ---- frames that differ in the count alone

pageable : IsPageable (ensemble_sent plan at) (sent_entries plan at)
pageable = record {
  entries = (stretch_page plan 1 0 at kept one_frame (omega arith)).kept.sendable;
  ensemble_within = page_ready.sent.ensemble;
}

as_itself : IsAlike plan (header_of plan at) at at
as_itself = record {
  page_index = refl;
  entries = refl;
  first = refl;
  second = refl;
  on_step = refl;
  pageable = pageable;
}

-- another page is in turn
no_other_page : IsAlike plan (header_of plan at) (record at { page_index = 1 }) at → ⊥
no_other_page h = let e : 1 ≡ 0 = h.page_index in omega (arith, e)

one_alike : AreAlike plan (header_of plan at) 1 at at
one_alike zero lt = as_itself
one_alike (suc k) lt = absurd (omega (arith, lt))

not_alike : AreAlike plan (header_of plan at) 1 (record at { page_index = 1 }) at → ⊥
not_alike h = no_other_page (h 0 (omega arith))

-- no frames become no frames
none_recounted : AreRecounted plan (header_of plan at) 0 0 [] []
none_recounted s t alike counts old = refl

-- but one frame does not
one_not_gone : AreRecounted plan (header_of plan at) at.count 1 (concat (notice_frames plan 1 at)) [] → ⊥
one_not_gone h =
    let gone : [] ≡ concat (notice_frames plan 1 at) = h at at one_alike refl refl in
    let e : 0 ≡ 96 = ap (λ (l : List ℕ). length l) gone ∙ bytes_long plan 1 1 at kept one_frame (omega arith) in
    omega (arith, e)
