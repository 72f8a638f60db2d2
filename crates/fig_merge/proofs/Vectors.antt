-- Small cases, computed by the checker from the definitions: for each definition one that holds and one that fails.
use Rattle.fig_merge.proofs.Words.{[], ◌++◌, ◌==◌, ◌∷◌, ◌≡◌, AreDifferent, AreFilled, Bool, Go, List, Merging, None}
use Rattle.fig_merge.proofs.Words.{Open, Other, Some, after_take, agreeing, any_carried, arith, carried_by, carried_in}
use Rattle.fig_merge.proofs.Words.{dropped_of, false, filled, hearing_fibs, is_left_out, left_waiting, length, limited}
use Rattle.fig_merge.proofs.Words.{not, nothing_taken, refl, repeated_of, replicate, room_of, stale_in, taken_in}
use Rattle.fig_merge.proofs.Words.{taken_of, times, true, with_carried, with_fig, ℕ}
use Rattle.fib_reader.specs.Listening.{untuned}
use Rattle.fig_mentions.specs.Mentions.{mentions_in}

-- ---- which FIGs are taken: the header byte, then the second byte with C/N, OE, P/D and the extension

sub_channels : is_left_out (Open 1 ((4 ∷ 0 ∷ 136 ∷ 96 ∷ []) ∷ [])) ≡ true
sub_channels = refl

of_another_ensemble : is_left_out (Other (5 ∷ 65 ∷ 4 ∷ 0 ∷ 136 ∷ 96 ∷ [])) ≡ false
of_another_ensemble = refl

taken_in_order : taken_of (Other (33 ∷ 1 ∷ []) ∷ Open 1 ((4 ∷ 0 ∷ 136 ∷ 96 ∷ []) ∷ []) ∷ Other (33 ∷ 2 ∷ []) ∷ [])
    ≡ (33 ∷ 1 ∷ []) ∷ (33 ∷ 2 ∷ []) ∷ []
taken_in_order = refl

none_of_a_damaged_one : taken_in None ≡ []
none_of_a_damaged_one = refl

-- ---- how they wait

abbrev one : List ℕ
one = 33 ∷ 1 ∷ []

abbrev two : List ℕ
two = 33 ∷ 2 ∷ []

repeat_waits_once : (with_fig one (with_fig two (with_fig one nothing_taken))).waiting ≡ one ∷ two ∷ []
repeat_waits_once = refl

abbrev full : Merging
full = record nothing_taken { waiting = replicate 256 one; dropped = 7 }

dropped_where_256_wait : (with_fig two full).dropped ≡ 8
dropped_where_256_wait = refl

repeated_or_dropped : repeated_of (one ∷ two ∷ []) full ≡ one ∷ []
repeated_or_dropped = refl

dropped_or_repeated : dropped_of (one ∷ two ∷ []) full ≡ two ∷ []
dropped_or_repeated = refl

damaged_is_counted : (after_take None nothing_taken).damaged ≡ 1
damaged_is_counted = refl

limit : limited 18446744073709551616 ≡ 18446744073709551615
limit = refl

below_the_limit : limited 3 ≡ 3
below_the_limit = refl

-- ---- which of them go

abbrev long : List ℕ
long = replicate 8 9

abbrev middle : List ℕ
middle = replicate 5 8

abbrev short : List ℕ
short = replicate 2 7

-- all agree, or all but the one of five bytes
abbrev always : List ℕ → Bool
always fig = true

abbrev not_middle : List ℕ → Bool
not_middle fig = not (length fig == 5)

short_overtakes_longer : carried_in always 10 (long ∷ middle ∷ short ∷ []) ≡ long ∷ short ∷ []
short_overtakes_longer = refl

longer_waits_on : left_waiting always 10 (long ∷ middle ∷ short ∷ []) ≡ middle ∷ []
longer_waits_on = refl

-- one that does not agree takes no room
stale_takes_no_room : carried_in not_middle 11 (middle ∷ long ∷ short ∷ []) ≡ long ∷ short ∷ []
stale_takes_no_room = refl

it_is_stale : stale_in not_middle 11 (middle ∷ long ∷ short ∷ []) ≡ middle ∷ []
it_is_stale = refl

it_waits_no_more : left_waiting not_middle 11 (middle ∷ long ∷ short ∷ []) ≡ []
it_waits_no_more = refl

-- one that does not fit is not judged
not_judged : stale_in not_middle 4 (middle ∷ []) ≡ []
not_judged = refl

room_behind_a_fig : room_of (Other (35 ∷ 7 ∷ 32 ∷ 1 ∷ []) ∷ []) ≡ 26
room_behind_a_fig = refl

none_in_a_damaged_one : carried_by None full ≡ []
none_in_a_damaged_one = refl

marker_behind_29 : filled (replicate 29 1) ≡ replicate 29 1 ++ 255 ∷ []
marker_behind_29 = refl

no_marker_behind_30 : filled (replicate 30 1) ≡ replicate 30 1
no_marker_behind_30 = refl

one_goes : Go always 2 (one ∷ []) (one ∷ []) []
one_goes = ([], [], refl, tt, omega arith, (refl, tt))

none_that_fits_stays : Go always 2 (one ∷ []) [] (one ∷ []) → ⊥
none_that_fits_stays h = absurd (omega (arith, h.1.0))

-- ---- accounts

twice : times one (one ∷ one ∷ []) ≡ 2
twice = refl

apart : AreDifferent (one ∷ two ∷ [])
apart = (refl, (refl, tt))

alike_are_not_different : AreDifferent (one ∷ one ∷ []) → ⊥
alike_are_not_different h = let same = h.0 in absurd cc

-- ---- what is known of a filled FIB

carried_behind : with_carried (Some (Other two ∷ [])) (one ∷ []) ≡ Some (Other two ∷ Other one ∷ [])
carried_behind = refl

filled_behind : AreFilled any_carried untuned (Some [] ∷ None ∷ []) (Some (Other one ∷ []) ∷ None ∷ [])
filled_behind = (one ∷ [], None ∷ [], refl, refl, ([], [], refl, refl, refl))

none_left_out : AreFilled any_carried untuned (Some [] ∷ []) [] → ⊥
none_left_out h = let left_out = h.2 in absurd cc

-- FIG 0/14 for sub-channel 1, which is not there before the first FIG 0/0; a damaged FIB carries nothing that is judged
absent_is_not_carried : agreeing untuned (Some []) ((2 ∷ 14 ∷ 4 ∷ []) ∷ []) ≡ false
unfolding mentions_in
absent_is_not_carried = refl

another_is_carried : agreeing untuned (Some []) ((2 ∷ 10 ∷ 4 ∷ []) ∷ []) ≡ true
another_is_carried = refl

heard_nothing : hearing_fibs (None ∷ Some [] ∷ []) untuned ≡ untuned
heard_nothing = refl
