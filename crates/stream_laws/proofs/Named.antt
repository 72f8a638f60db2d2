-- The swaps that are reported in the frames of a run are those of the run.
use Rattle.stream_laws.proofs.Words.{[], ◌%◌, ◌&&◌, ◌++◌, ◌+◌, ◌==◌, ◌∙◌, ◌∷◌, ◌≡◌, AllByRecursion, Bool, Contact}
use Rattle.stream_laws.proofs.Words.{Contradiction, EnsembleInformation, EntrySent, Event, Fault, Fib, FigSent, Finding}
use Rattle.stream_laws.proofs.Words.{Frame, FrameAt, Holds, IsCode, Item, Known, Laws, List, Moment, None, OneList}
use Rattle.stream_laws.proofs.Words.{Option, Plan, Program, Raw, Reading, Said, Sent, Some, State, SwapsAreNamed, What}
use Rattle.stream_laws.proofs.Words.{after_frame, all_append, announcement, announces_another, announces_first, ap}
use Rattle.stream_laws.proofs.Words.{append-nil, as_list, awaited_low, can_fall_at, code_of, cond, contradictions_at}
use Rattle.stream_laws.proofs.Words.{contradicts, count_step, current_findings, due, due_after_first, due_frames}
use Rattle.stream_laws.proofs.Words.{ensemble_findings, false, findings_at, findings_at_items, findings_at_sent}
use Rattle.stream_laws.proofs.Words.{findings_from, findings_in, findings_of, finds_no_room, frame_at, frame_bytes}
use Rattle.stream_laws.proofs.Words.{frame_fibs, frame_findings, frame_has_items, frame_holds, frame_items, frame_sent}
use Rattle.stream_laws.proofs.Words.{frames_ended, frames_of, happens, happens_holds, has_flags, has_no_room, in_frame}
use Rattle.stream_laws.proofs.Words.{inl, inr, is_absent, is_due, is_ensemble, is_made, is_other_one, is_settled}
use Rattle.stream_laws.proofs.Words.{items_in, known_of, last_findings, layout_mode, listener_after, lookup_in}
use Rattle.stream_laws.proofs.Words.{makes_swap, map, member_findings, name_of, names_swap, new_among, new_findings}
use Rattle.stream_laws.proofs.Words.{next_findings, not, noted_at, noted_in, noted_with, notice_faults, occurrence_of}
use Rattle.stream_laws.proofs.Words.{overlap, past_end, place_faults, played_holds, read_frames, refl, run, run_frames}
use Rattle.stream_laws.proofs.Words.{run_holds, runs_full, said, shown, silence, silent_findings, subst, swap_findings}
use Rattle.stream_laws.proofs.Words.{swap_frames, swap_or_another, sym, true, unit_faults, when, ℕ}
use Rattle.stream_check.specs.History.{ensemble_of_item as said_ensemble}
use Rattle.stream_check.specs.Rules.{KnownBefore as Knowledge}
use Rattle.stream_check.specs.Stream.{past_after_frame as after_read}
use Rattle.stream_check.specs.declared.finding.Fault.TheVariants as faults
use Rattle.stream_laws.proofs.Rows.{HasNone}
use Rattle.stream_laws.proofs.Framing.{read_frame}
use Rattle.stream_laws.proofs.AgreeingRuns.{IsBetween}
use Rattle.stream_laws.proofs.AgreeingFrames.{agrees_by, before_contact}
use Rattle.stream_laws.proofs.Findings.{items_room, when_each, when_then, either_each, frame_each, place_each}
use Rattle.stream_laws.proofs.Findings.{notice_each}
use Rattle.stream_laws.proofs.Clean.{said_ended}
use Rattle.stream_laws.proofs.Opening.{IsOpened, next_opened, first_opened}
use Rattle.stream_laws.proofs.Kept.{ensemble_made}

-- ---- findings other than a swap

abbrev IsQuietly : List What → Type 0
IsQuietly ws = AllByRecursion (λ w. names_swap w ≡ false) ws

listed_quiet : (o : Option Fault) → IsQuietly (as_list o)
listed_quiet None = tt
listed_quiet (Some fault) = (refl, tt)

both : (xs ys : List What) → IsQuietly xs → IsQuietly ys → IsQuietly (xs ++ ys)
both xs ys a b = all_append (λ w. names_swap w ≡ false) xs ys a b

silence_quiet : (rs : List Raw) → IsQuietly (map silence rs)
silence_quiet [] = tt
silence_quiet (r ∷ rs) = (refl, silence_quiet rs)

items_quiet : (step period : ℕ) (items : List Item) (past : List Moment) → HasNone items
    → IsQuietly (findings_at_items step period past items)
items_quiet step period [] past none = tt
items_quiet step period (i ∷ is) past none =
    let k : Knowledge = known_of step period past in
    let P : What → Type 0 = λ w. names_swap w ≡ false in
    let member : IsQuietly (member_findings k i.next i.raw) =
    either_each P k.listener.tuned _ []
    (λ t. either_each P i.next (next_findings k i.raw) (current_findings k i.raw)
    (λ is. when_then P (not k.has_begun && k.has_ensemble) faults.NextUnannounced _ (λ met. refl)
    (when_each P (is_other_one (lookup_in i.raw k.listener.next)) (faults.NextChanged (name_of i.raw))
    (λ met. refl)))
    (λ is. when_then P (is_other_one (lookup_in i.raw k.listener.current)) (faults.Changed (name_of i.raw)) _
    (λ met. refl)
    (when_each P (is_absent (lookup_in i.raw k.listener.current) && is_settled k) (faults.Appeared (name_of i.raw))
    (λ met. refl)))) (λ t. tt) in
    either_each P (has_no_room k i) [] _ (λ full. tt) (λ room. both (findings_at k i) _
    (subst IsQuietly (sym (ap (λ t. cond t (ensemble_findings k i.first (said_ensemble i))
    (member_findings k i.next i.raw)) none.0)) member)
    (items_quiet step period is (Said i ∷ past) none.1))

-- ---- the swaps among findings

-- the number of a frame, once for each swap that is reported in it
abbrev named : ℕ → List What → List ℕ
named n [] = []
named n (w ∷ ws) = cond (names_swap w) (n ∷ named n ws) (named n ws)

quiet_named : (n : ℕ) (ws : List What) → IsQuietly ws → named n ws ≡ []
quiet_named n [] all = refl
quiet_named n (w ∷ ws) all = ap (λ t. cond t (n ∷ named n ws) (named n ws)) all.0 ∙ quiet_named n ws all.1

named_both : (n : ℕ) (xs ys : List What) → named n (xs ++ ys) ≡ named n xs ++ named n ys
named_both n [] ys = refl
named_both n (x ∷ xs) ys = elim (names_swap x) as (λ t.
    cond t (n ∷ named n (xs ++ ys)) (named n (xs ++ ys)) ≡ cond t (n ∷ named n xs) (named n xs) ++ named n ys) [
      | true ↦ ap (λ l. n ∷ l) (named_both n xs ys)
      | false ↦ named_both n xs ys
    ]

named_then : (n : ℕ) (xs ys : List What) → IsQuietly xs → named n (xs ++ ys) ≡ named n ys
named_then n xs ys all = named_both n xs ys ∙ ap (λ l. l ++ named n ys) (quiet_named n xs all)

named_first : (n : ℕ) (xs ys : List What) → IsQuietly ys → named n (xs ++ ys) ≡ named n xs
named_first n xs ys all = cc (named_both n xs ys, quiet_named n ys all, append-nil (named n xs))

at_swap : (n : ℕ) (k : Knowledge) (e : EnsembleInformation) (b : Bool)
    → named n (cond b (swap_findings k e)
    (when (announces_another k e) (faults.AnnouncedAgain e.change (occurrence_of e)))) ≡ cond b (n ∷ []) []
at_swap n k e true =
    let P : What → Type 0 = λ w. names_swap w ≡ false in
    ap (λ l. n ∷ l) (quiet_named n _
    (when_then P (not (e.count % 250 == awaited_low k)) (faults.AnnouncedFor (awaited_low k))
    (notice_faults k ++ unit_faults k) (λ met. refl)
    (both (notice_faults k) (unit_faults k) (notice_each P k (λ met. refl) (λ met. refl) (λ met. refl))
    (both (as_list (overlap k.listener.next.subs)) (as_list (past_end k.listener.next.subs))
    (listed_quiet (overlap k.listener.next.subs)) (listed_quiet (past_end k.listener.next.subs))))))
at_swap n k e false = quiet_named n _
    (when_each (λ w. names_swap w ≡ false) (announces_another k e) (faults.AnnouncedAgain e.change (occurrence_of e))
    (λ met. refl))

at_head : (n : ℕ) (k : Knowledge) (first : Bool) (e : EnsembleInformation)
    → named n (ensemble_findings k first e) ≡ cond (makes_swap k e) (n ∷ []) []
at_head n k first e =
    let P : What → Type 0 = λ w. names_swap w ≡ false in
    named_then n (place_faults k first e) _ (place_each P k first e (λ met. refl) (λ met. refl) (λ met. refl))
    ∙ named_first n (swap_or_another k e) _ (both (announcement k e) _
    (either_each P (announces_first k e) _ []
    (λ is. (
      refl,
      when_each P (not (can_fall_at k.step (occurrence_of e))) (faults.NoSwapAt (occurrence_of e))
          (λ met. refl),
    )) (λ no. tt))
    (when_each P (not (has_flags e) && k.began_early) faults.NextUnannounced (λ met. refl)))
    ∙ at_swap n k e (makes_swap k e)

in_frame_named : (at : FrameAt) (ws : List What) → swap_frames (map (in_frame at) ws) ≡ named at.frame ws
in_frame_named at [] = refl
in_frame_named at (w ∷ ws) = elim (names_swap w) as (λ t.
    cond t (at.frame ∷ swap_frames (map (in_frame at) ws)) (swap_frames (map (in_frame at) ws))
    ≡ cond t (at.frame ∷ named at.frame ws) (named at.frame ws)) [
      | true ↦ ap (λ l. at.frame ∷ l) (in_frame_named at ws)
      | false ↦ in_frame_named at ws
    ]

frames_both : (xs ys : List Finding) → swap_frames (xs ++ ys) ≡ swap_frames xs ++ swap_frames ys
frames_both [] ys = refl
frames_both (x ∷ xs) ys = elim (names_swap x.what) as (λ t.
    cond t (x.frame ∷ swap_frames (xs ++ ys)) (swap_frames (xs ++ ys))
    ≡ cond t (x.frame ∷ swap_frames xs) (swap_frames xs) ++ swap_frames ys) [
      | true ↦ ap (λ l. x.frame ∷ l) (frames_both xs ys)
      | false ↦ frames_both xs ys
    ]

last_quiet : (full : Bool) (period : ℕ) (past : List Moment) → IsQuietly (last_findings full period past)
last_quiet full period past = either_each (λ w. names_swap w ≡ false) full [] (silent_findings period past) (λ is. tt)
    (λ no. silence_quiet _)

-- what a FIG contradicts is no swap
new_quiet : (cs : List Contradiction) → IsQuietly (map contradicts cs)
new_quiet [] = tt
new_quiet (c ∷ cs) = (refl, new_quiet cs)

sent_named : (n step period : ℕ) (sent : List Sent) (past : List Moment) (noted : List Contradiction)
    → named n (findings_at_sent step period past noted sent)
    ≡ named n (findings_at_items step period past (items_in sent))
sent_named n step period [] past noted = refl
sent_named n step period (FigSent fig ∷ ss) past noted =
    let some = contradictions_at period past fig in
    named_then n (new_findings noted some) _ (new_quiet (new_among noted some))
    ∙ sent_named n step period ss past (noted_with noted some)
sent_named n step period (EntrySent i ∷ ss) past noted =
    let here = findings_at (known_of step period past) i in
    let rest = findings_at_sent step period (Said i ∷ past) (noted_at past i noted) ss in
    let items = findings_at_items step period (Said i ∷ past) (items_in ss) in
    let same = named_both n here rest ∙ ap (λ l. named n here ++ l)
    (sent_named n step period ss (Said i ∷ past) (noted_at past i noted)) ∙ sym (named_both n here items) in
    elim (has_no_room (known_of step period past) i) as (λ t.
    named n (cond t [] (here ++ rest)) ≡ named n (cond t [] (here ++ items))) [
      | true ↦ refl
      | false ↦ same
    ]

-- in a frame, from its entries
frame_named : (size step period : ℕ) (past : List Moment) (noted : List Contradiction) (frame : List Fib)
    → swap_frames (findings_in size step period past noted frame)
    ≡ named (frames_ended past) (findings_at_items step period past (frame_items frame))
frame_named size step period past noted frame =
    let items : List What = findings_at_sent step period past noted (frame_sent frame) in
    let last = last_findings (runs_full step period past (frame_items frame)) period (said (frame_items frame) past) in
    let whole : List What = frame_findings size step (due past) frame in
    in_frame_named (frame_at step past frame) (whole ++ (items ++ last))
    ∙ named_then (frames_ended past) whole (items ++ last)
    (frame_each (λ w. names_swap w ≡ false) size step (due past) frame (λ eid. refl) (λ met. refl) (λ met. refl)
    (λ met. refl))
    ∙ named_first (frames_ended past) items last
    (last_quiet (runs_full step period past (frame_items frame)) period (said (frame_items frame) past))
    ∙ sent_named (frames_ended past) step period (frame_sent frame) past noted
    ∙ ap (λ is. named (frames_ended past) (findings_at_items step period past is)) (frame_has_items frame)

-- ---- a frame of a run

with_head : (n step period : ℕ) (past : List Moment) (h : Item) (items : List Item) → is_ensemble h ≡ true
    → HasNone items
    → named n (findings_at_items step period past (h ∷ items))
    ≡ cond (is_made (listener_after past).awaited (said_ensemble h)) (n ∷ []) []
with_head n step period past h items ens none =
    let k : Knowledge = known_of step period past in
    let room : has_no_room k h ≡ false =
    ap (λ t. cond t false (k.listener.tuned && finds_no_room
    (lookup_in h.raw (cond h.next k.listener.next k.listener.current)))) ens in
    let found = ap (λ t. cond t (ensemble_findings k h.first (said_ensemble h)) (member_findings k h.next h.raw)) ens in
    ap (λ t. named n (cond t [] (findings_at k h ++ findings_at_items step period (Said h ∷ past) items))) room
    ∙ named_first n (findings_at k h) _ (items_quiet step period items (Said h ∷ past) none)
    ∙ ap (named n) found ∙ at_head n k h.first (said_ensemble h)

-- the swaps reported in a frame
opened_named : (n step period : ℕ) (plan : Plan) (u : State) (made : Bool) (past : List Moment) (items : List Item)
    → IsOpened plan u made past items
    → named n (findings_at_items step period past items) ≡ cond made (n ∷ []) []
opened_named n step period plan u made past items o = ap (λ is. named n (findings_at_items step period past is)) o.list
    ∙ elim o.head [
      | inl none ↦
          ap (λ hs. named n (findings_at_items step period past (hs ++ o.members))) none.0
          ∙ quiet_named n _ (items_quiet step period o.members past o.none) ∙ ap (λ b. cond b (n ∷ []) []) (sym none.1)
      | inr (i, are, ens, says, made_is, on) ↦
          ap (λ hs. named n (findings_at_items step period past (hs ++ o.members))) are
          ∙ with_head n step period past i o.members ens o.none
          ∙ ap (λ b. cond b (n ∷ []) []) (sym (ensemble_made past i ens) ∙ made_is)
    ]

-- ---- along a run

along : OneList → Laws → (r : Reading) (period : ℕ) (p : Program) (ts : List Known) → IsCode p ts
    → (s : State) (events : List Event) → Holds p ts s → (past : List Moment) (noted : List Contradiction)
    → IsBetween p.plan past s
    → swap_frames (findings_from (frame_fibs p.plan.layout) (count_step (layout_mode p.plan.layout)) period past noted
    (read_frames r (frames_of p.plan.layout (run_frames p s events)))) ≡ due_frames p (frames_ended past) s events
along one laws r period p ts c s [] holds past noted h = refl
along one laws r period p ts c s (Contact d closed ∷ es) holds past noted h =
    along one laws r period p ts c (happens p s (Contact d closed)) es (happens_holds p ts c s (Contact d closed) holds)
    past noted (before_contact p past s d closed h)
along one laws r period p ts c s (Frame ∷ es) holds past noted h =
    let size : ℕ = frame_fibs p.plan.layout in
    let step : ℕ = count_step (layout_mode p.plan.layout) in
    let frame : List Fib = read_frame r p.plan.layout (frame_bytes p s) in
    let later : List Finding =
    findings_from size step period (after_read step past frame) (noted_in period past noted frame)
    (read_frames r (frames_of p.plan.layout (run_frames p (after_frame p s) es))) in
    let now = agrees_by one laws r period p ts c s holds past (inr h) in
    let rest = along one laws r period p ts c (after_frame p s) es (frame_holds p ts c s holds)
    (after_read step past frame) (noted_in period past noted frame) now.after in
    let here : swap_frames (findings_in size step period past noted frame)
    ≡ cond (is_due s.left) (frames_ended past ∷ []) [] =
    frame_named size step period past noted frame ∙ opened_named (frames_ended past) step period p.plan (shown p s)
    (is_due s.left) past (frame_items frame) (next_opened one laws r p ts c s holds past h (is_due s.left) refl) in
    frames_both (findings_in size step period past noted frame) _
    ∙ ap (λ b. swap_frames (findings_in size step period past noted frame) ++ swap_frames (cond b [] later))
    (items_room step period (frame_items frame) past now.word)
    ∙ ap (λ l. l ++ swap_frames later) here
    ∙ ap (λ l. cond (is_due s.left) (frames_ended past ∷ []) [] ++ l)
    (rest ∙ ap (λ n. due_frames p n (after_frame p s) es) (ap (λ n. n + 1) (said_ended (frame_items frame) past)))
    ∙ joined (is_due s.left)
  where
    joined : (b : Bool) → cond b (frames_ended past ∷ []) []
        ++ due_frames p (frames_ended past + 1) (after_frame p s) es
        ≡ cond b (frames_ended past ∷ due_frames p (frames_ended past + 1) (after_frame p s) es)
        (due_frames p (frames_ended past + 1) (after_frame p s) es)
    joined true = refl
    joined false = refl

from_first : OneList → Laws → (r : Reading) (period : ℕ) (p : Program) (ts : List Known) → IsCode p ts
    → (s : State) (events : List Event) → Holds p ts s → s.count % count_step (layout_mode p.plan.layout) ≡ 0
    → swap_frames (findings_of (frame_fibs p.plan.layout) (count_step (layout_mode p.plan.layout)) period []
    (read_frames r (frames_of p.plan.layout (run_frames p s events)))) ≡ due_after_first p s events
from_first one laws r period p ts c s [] holds on = refl
from_first one laws r period p ts c s (Contact d closed ∷ es) holds on =
    from_first one laws r period p ts c (happens p s (Contact d closed)) es
    (happens_holds p ts c s (Contact d closed) holds) on
from_first one laws r period p ts c s (Frame ∷ es) holds on =
    let size : ℕ = frame_fibs p.plan.layout in
    let step : ℕ = count_step (layout_mode p.plan.layout) in
    let frame : List Fib = read_frame r p.plan.layout (frame_bytes p s) in
    let later : List Finding =
    findings_from size step period (after_read step [] frame) (noted_in period [] [] frame)
    (read_frames r (frames_of p.plan.layout (run_frames p (after_frame p s) es))) in
    let now = agrees_by one laws r period p ts c s holds [] (inl (refl, on)) in
    let rest = along one laws r period p ts c (after_frame p s) es (frame_holds p ts c s holds)
    (after_read step [] frame) (noted_in period [] [] frame) now.after in
    let here : swap_frames (findings_in size step period [] [] frame) ≡ [] =
    frame_named size step period [] [] frame ∙ opened_named 0 step period p.plan (shown p s) false []
    (frame_items frame) (first_opened one laws r p ts c s holds on) in
    frames_both (findings_in size step period [] [] frame) _
    ∙ ap (λ b. swap_frames (findings_in size step period [] [] frame) ++ swap_frames (cond b [] later))
    (items_room step period (frame_items frame) [] now.word)
    ∙ ap (λ l. l ++ swap_frames later) here
    ∙ rest ∙ ap (λ n. due_frames p n (after_frame p s) es) (ap (λ n. n + 1) (said_ended (frame_items frame) []))

pub swaps_are_named : OneList → Laws → SwapsAreNamed
swaps_are_named one laws r p s period waiting events played on =
    let ts : List Known = played.typed.0 in
    let code = code_of p s played in
    from_first one laws r period p ts code (run p s waiting) events
    (run_holds p ts code s waiting (played_holds p s played)) on
