-- Contradictions in small cases, computed by the checker from the definitions: for each definition one that holds and
-- one that fails.
use Rattle.stream_check.proofs.Words.{[], ◌∷◌, ◌≡◌, AreNew, Contradiction, Ended, EntrySent, FigSent, Item, List}
use Rattle.stream_check.proofs.Words.{Moment, None, NotThere, NotWhole, Nothing, OnSub, Open, Other, Packet, Pictured}
use Rattle.stream_check.proofs.Words.{Raw, Said, Some, Sub, absent, absent_among, are_whole, contradictions_at}
use Rattle.stream_check.proofs.Words.{contradictions_in, false, fib_sent, fig_sent, findings_at_sent, is_new, is_noted}
use Rattle.stream_check.proofs.Words.{is_same, is_same_mention, items_in, new_among, noted_after, noted_at}
use Rattle.stream_check.proofs.Words.{noted_in_frames, noted_with, refl, replicate, true, ℕ}
use Rattle.fig_mentions.specs.Mentions.{mentions_in}
use Rattle.stream_check.specs.declared.finding.Fault.TheVariants as faults
use Rattle.stream_check.specs.declared.finding.What.TheVariants as whats

-- sub-channel 1, and service C221 on it
abbrev sub : Raw
sub = record { ext = 1; long = false; bytes = 4 ∷ 0 ∷ 136 ∷ 96 ∷ [] }

abbrev service : Raw
service = record { ext = 2; long = false; bytes = 194 ∷ 33 ∷ 1 ∷ 63 ∷ 6 ∷ [] }

abbrev current : Pictured
current = record { subs = sub ∷ []; services = service ∷ []; packets = [] }

-- ---- of one FIG: FIG 0/8 of C221 on sub-channel 1, and on 2; FIG 0/14 of sub-channels 1, 2 and 3; FIG 0/4 cut short

abbrev own : List ℕ
own = 5 ∷ 8 ∷ 194 ∷ 33 ∷ 0 ∷ 1 ∷ []

abbrev stale : List ℕ
stale = 5 ∷ 8 ∷ 194 ∷ 33 ∷ 0 ∷ 2 ∷ []

abbrev schemes : List ℕ
schemes = 4 ∷ 14 ∷ 5 ∷ 9 ∷ 13 ∷ []

abbrev cut : List ℕ
cut = 3 ∷ 4 ∷ 1 ∷ 0 ∷ []

own_agrees : contradictions_in current own ≡ []
unfolding mentions_in
own_agrees = refl

stale_does_not : contradictions_in current stale ≡ NotThere 8 (OnSub 49697 2) ∷ []
unfolding mentions_in
stale_does_not = refl

not_whole : contradictions_in current cut ≡ NotWhole 4 ∷ []
unfolding mentions_in
not_whole = refl

a_channel_of_the_fic : absent current 4 Nothing ≡ []
a_channel_of_the_fic = refl

no_such_packet : absent current 5 (Packet 7) ≡ NotThere 5 (Packet 7) ∷ []
no_such_packet = refl

cut_short : absent_among current 8 None ≡ NotWhole 8 ∷ []
cut_short = refl

cut_is_not_whole : are_whole None ≡ false
cut_is_not_whole = refl

whole : are_whole (Some []) ≡ true
whole = refl

-- ---- the same, and others

same_mention : is_same_mention (OnSub 49697 2) (OnSub 49697 2) ≡ true
same_mention = refl

other_service : is_same_mention (OnSub 49697 2) (OnSub 49698 2) ≡ false
other_service = refl

same_contradiction : is_same (NotThere 4 (Sub 2)) (NotThere 4 (Sub 2)) ≡ true
same_contradiction = refl

other_extension : is_same (NotThere 4 (Sub 2)) (NotThere 5 (Sub 2)) ≡ false
other_extension = refl

-- ---- once between two swaps, and at most 64

abbrev two : Contradiction
two = NotThere 14 (Sub 2)

abbrev three : Contradiction
three = NotThere 14 (Sub 3)

was_noted : is_noted (three ∷ two ∷ []) two ≡ true
was_noted = refl

was_not_noted : is_noted (three ∷ []) two ≡ false
was_not_noted = refl

new_at_first : is_new [] two ≡ true
new_at_first = refl

not_again : is_new (two ∷ []) two ≡ false
not_again = refl

not_behind_sixty_four : is_new (replicate 64 three) two ≡ false
not_behind_sixty_four = refl

twice_in_a_fig : new_among [] (two ∷ two ∷ three ∷ []) ≡ two ∷ three ∷ []
twice_in_a_fig = refl

all_of_them : noted_with (three ∷ []) (two ∷ three ∷ []) ≡ three ∷ two ∷ []
all_of_them = refl

apart : AreNew [] (two ∷ three ∷ [])
apart = (refl, (refl, tt))

twice : AreNew [] (two ∷ two ∷ []) → ⊥
twice h = let again = h.1.0 in absurd cc

-- ---- in a stream with a period of one frame: FIG 0/0, the sub-channel and the service are sent in the first frame

abbrev of_current : Raw → Item
of_current raw = record { first = false; next = false; raw = raw }

abbrev header : (flags count : ℕ) → List ℕ → Item
header flags count low = record {
  first = true;
  next = false;
  raw = record { ext = 0; long = false; bytes = 225 ∷ 197 ∷ flags ∷ count ∷ low };
}

abbrev first_frame : List Moment
first_frame = Ended 0 ∷ Said (of_current service) ∷ Said (of_current sub) ∷ Said (header 0 0 []) ∷ []

in_the_second : contradictions_at 1 first_frame stale ≡ NotThere 8 (OnSub 49697 2) ∷ []
unfolding mentions_in
in_the_second = refl

not_with_a_longer_period : contradictions_at 2 first_frame stale ≡ []
not_with_a_longer_period = refl

reported_once : findings_at_sent 1 1 first_frame [] (FigSent stale ∷ FigSent own ∷ FigSent stale ∷ [])
    ≡ whats.Fault (faults.Contradicts (NotThere 8 (OnSub 49697 2))) ∷ []
unfolding mentions_in
reported_once = refl

noted_then : noted_after 1 first_frame [] (FigSent schemes ∷ FigSent own ∷ []) ≡ two ∷ three ∷ []
unfolding mentions_in
noted_then = refl

-- with change flags, and at the count that they announce
abbrev announced : List Moment
announced = Said (header 64 1 (2 ∷ [])) ∷ first_frame

forgotten_at_a_swap : noted_at announced (header 64 2 (2 ∷ [])) (two ∷ []) ≡ []
forgotten_at_a_swap = refl

kept_at_others : noted_at first_frame (header 0 1 []) (two ∷ []) ≡ two ∷ []
kept_at_others = refl

-- ---- what is sent

an_entry : fig_sent false (Open 1 ((4 ∷ 0 ∷ 136 ∷ 96 ∷ []) ∷ [])) ≡ EntrySent (of_current sub) ∷ []
an_entry = refl

a_fig : fig_sent false (Other own) ≡ FigSent own ∷ []
a_fig = refl

nothing_of_a_damaged_fib : fib_sent true None ≡ []
nothing_of_a_damaged_fib = refl

its_entries : items_in (FigSent own ∷ EntrySent (of_current sub) ∷ []) ≡ of_current sub ∷ []
its_entries = refl

nothing_before : noted_in_frames 1 1 [] [] [] ≡ []
nothing_before = refl

in_the_frame_after : noted_in_frames 1 0 [] [] ((Some (Other schemes ∷ []) ∷ []) ∷ []) ≡ NotThere 14 (Sub 1) ∷ two
    ∷ three ∷ []
unfolding mentions_in
in_the_frame_after = refl
