-- Streams without a fault, entry by entry.
use Rattle.stream_laws.proofs.Words.{[], ◌++◌, ◌∷◌, ◌≡◌, AllByRecursion, Bool, Contradiction, Ended, EntrySent}
use Rattle.stream_laws.proofs.Words.{Fib, FigSent, Finding, FrameAt, IsFaultless, IsNoFault, IsSaidIn, Item, List}
use Rattle.stream_laws.proofs.Words.{Moment, Said, Sent, What, after_frames, all_append, cond, contradictions_at, due}
use Rattle.stream_laws.proofs.Words.{false, false≢true, findings_at, findings_at_items, findings_at_sent, findings_from}
use Rattle.stream_laws.proofs.Words.{findings_in, frame_at, frame_findings, frame_has_items, frame_items, frame_sent}
use Rattle.stream_laws.proofs.Words.{frames_ended, frames_full, has_no_room, in_frame, items_in, known_of}
use Rattle.stream_laws.proofs.Words.{last_findings, map, new_findings, noted_at, noted_in, noted_with, past_after_frame}
use Rattle.stream_laws.proofs.Words.{refl, room_before, runs_full, said, said_append, silent_findings, subst, sym, true}
use Rattle.stream_laws.proofs.Words.{ℕ}

pub all_left : {X : Type 0} (P : X → Type 0) (xs ys : List X) → AllByRecursion P (xs ++ ys) → AllByRecursion P xs
all_left P [] ys all = tt
all_left P (x ∷ xs) ys all = (all.0, all_left P xs ys all.1)

pub all_right : {X : Type 0} (P : X → Type 0) (xs ys : List X) → AllByRecursion P (xs ++ ys) → AllByRecursion P ys
all_right P [] ys all = all
all_right P (x ∷ xs) ys all = all_right P xs ys all.1

-- what holds of all findings holds of those at entries
items_hold : (P : What → Type 0) (step period : ℕ) (sent : List Sent) (past : List Moment) (noted : List Contradiction)
    → AllByRecursion P (findings_at_sent step period past noted sent)
    → AllByRecursion P (findings_at_items step period past (items_in sent))
items_hold P step period [] past noted all = tt
items_hold P step period (FigSent fig ∷ ss) past noted all =
    let some = contradictions_at period past fig in
    items_hold P step period ss past (noted_with noted some) (all_right P (new_findings noted some) _ all)
items_hold P step period (EntrySent i ∷ ss) past noted all =
    let here = findings_at (known_of step period past) i in
    let now = noted_at past i noted in
    elim (has_no_room (known_of step period past) i) as (λ t.
    AllByRecursion P (cond t [] (here ++ findings_at_sent step period (Said i ∷ past) now ss))
    → AllByRecursion P (cond t [] (here ++ findings_at_items step period (Said i ∷ past) (items_in ss)))) [
      | true ↦ λ a. tt
      | false ↦ λ a. all_append P here _ (all_left P here _ a)
          (items_hold P step period ss (Said i ∷ past) now (all_right P here _ a))
    ] all

pub frame_holds : (P : What → Type 0) (step period : ℕ) (frame : List Fib) (past : List Moment)
    (noted : List Contradiction)
    → AllByRecursion P (findings_at_sent step period past noted (frame_sent frame))
    → AllByRecursion P (findings_at_items step period past (frame_items frame))
frame_holds P step period frame past noted all =
    rw (← frame_has_items frame) (items_hold P step period (frame_sent frame) past noted all)

-- ---- each entry

-- no entry that was sent is a fault, and there was room for each
abbrev pub IsClean : ℕ → ℕ → List Moment → Type 0
IsClean step period [] = Unit {0}
IsClean step period (Said i ∷ past) =
    AllByRecursion IsNoFault (findings_at (known_of step period past) i)
    × (has_no_room (known_of step period past) i ≡ false) × IsClean step period past
IsClean step period (Ended count ∷ past) = IsClean step period past

items_clean : (step period : ℕ) (items : List Item) (past : List Moment) → runs_full step period past items ≡ false
    → AllByRecursion IsNoFault (findings_at_items step period past items) → IsClean step period past
    → IsClean step period (said items past)
items_clean step period [] past room plain clean = clean
items_clean step period (i ∷ is) past room plain clean =
    elim (has_no_room (known_of step period past) i) as (λ t. has_no_room (known_of step period past) i ≡ t
    → cond t true (runs_full step period (Said i ∷ past) is) ≡ false
    → AllByRecursion IsNoFault
    (cond t [] (findings_at (known_of step period past) i ++ findings_at_items step period (Said i ∷ past) is))
    → IsClean step period (said is (Said i ∷ past))) [
      | true ↦ λ e r p. absurd (false≢true (sym r))
      | false ↦ λ e r p.
          let here = all_left IsNoFault (findings_at (known_of step period past) i)
          (findings_at_items step period (Said i ∷ past) is) p in
          let later = all_right _ _ _ p in
          items_clean step period is (Said i ∷ past) r later (here, e, clean)
    ] refl room plain

pub told_alone : (at : FrameAt) (ws : List What) → AllByRecursion (λ (found : Finding). IsNoFault found.what)
    (map (in_frame at) ws) → AllByRecursion IsNoFault ws
told_alone at [] all = tt
told_alone at (w ∷ ws) all = (all.0, told_alone at ws all.1)

-- one frame: its own findings, those at what is sent in it, those at its end, and the frames after it
pub record IsFrameFree (size step period : ℕ) (past : List Moment) (noted : List Contradiction) (frame : List Fib)
    (frames : List (List Fib)) : Type 0 where
  pub itself : AllByRecursion IsNoFault (frame_findings size step (due past) frame)
  pub full : runs_full step period past (frame_items frame) ≡ false
  pub sent : AllByRecursion IsNoFault (findings_at_sent step period past noted (frame_sent frame))
  pub silent : AllByRecursion IsNoFault (silent_findings period (said (frame_items frame) past))
  pub room : frames_full step period (past_after_frame step past frame) frames ≡ false
  pub plain : AllByRecursion (λ (found : Finding). IsNoFault found.what)
      (findings_from size step period (past_after_frame step past frame) (noted_in period past noted frame) frames)

pub frame_free : (size step period : ℕ) (past : List Moment) (noted : List Contradiction) (frame : List Fib)
    (frames : List (List Fib)) → frames_full step period past (frame ∷ frames) ≡ false
    → AllByRecursion (λ (found : Finding). IsNoFault found.what)
    (findings_from size step period past noted (frame ∷ frames))
    → IsFrameFree size step period past noted frame frames
frame_free size step period past noted frame frames room plain =
    let here = told_alone (frame_at step past frame) _
    (all_left (λ (found : Finding). IsNoFault found.what) (findings_in size step period past noted frame) _
    plain) in
    let rest = all_right (λ (found : Finding). IsNoFault found.what) _ _ plain in
    let sent = all_right IsNoFault (frame_findings size step (due past) frame) _ here in
    elim (runs_full step period past (frame_items frame))
    as (λ t. runs_full step period past (frame_items frame) ≡ t
    → cond t true (frames_full step period (past_after_frame step past frame) frames) ≡ false
    → AllByRecursion (λ (found : Finding). IsNoFault found.what)
    (cond t [] (findings_from size step period (past_after_frame step past frame) (noted_in period past noted frame)
    frames))
    → AllByRecursion IsNoFault (last_findings t period (said (frame_items frame) past))
    → IsFrameFree size step period past noted frame frames) [
      | true ↦ λ e r p q. absurd (false≢true (sym r))
      | false ↦ λ e r p q. record {
        itself = all_left IsNoFault (frame_findings size step (due past) frame) _ here;
        full = e;
        sent = all_left IsNoFault (findings_at_sent step period past noted (frame_sent frame)) _ sent;
        silent = q;
        room = r;
        plain = p;
      }
    ] refl room rest (all_right IsNoFault (findings_at_sent step period past noted (frame_sent frame)) _ sent)

frames_clean : (size step period : ℕ) (frames : List (List Fib)) (past : List Moment) (noted : List Contradiction)
    → frames_full step period past frames ≡ false
    → AllByRecursion (λ (found : Finding). IsNoFault found.what) (findings_from size step period past noted frames)
    → IsClean step period past → IsClean step period (after_frames step past frames)
frames_clean size step period [] past noted room plain clean = clean
frames_clean size step period (frame ∷ frames) past noted room plain clean =
    let f = frame_free size step period past noted frame frames room plain in
    frames_clean size step period frames (past_after_frame step past frame) (noted_in period past noted frame) f.room
    f.plain
    (items_clean step period (frame_items frame) past f.full (frame_holds IsNoFault step period frame past noted f.sent)
    clean)

pub all_clean : (size step period : ℕ) (frames : List (List Fib)) → IsFaultless size step period frames
    → IsClean step period (after_frames step [] frames)
all_clean size step period frames f = frames_clean size step period frames [] [] f.room f.plain tt

-- ---- properties of the past that also held before

pub record IsHanded (P : List Moment → Type 0) : Type 0 where
  pub by_entry : (i : Item) (past : List Moment) → P (Said i ∷ past) → P past
  pub by_frame : (count : ℕ) (past : List Moment) → P (Ended count ∷ past) → P past

pub before_said : (P : List Moment → Type 0) → IsHanded P → (items : List Item) (past : List Moment)
    → P (said items past) → P past
before_said P h [] past p = p
before_said P h (i ∷ is) past p = h.by_entry i past (before_said P h is (Said i ∷ past) p)

pub before_frames : (P : List Moment → Type 0) → IsHanded P → (step : ℕ) (frames : List (List Fib)) (past : List Moment)
    → P (after_frames step past frames) → P past
before_frames P h step [] past p = p
before_frames P h step (frame ∷ frames) past p =
    before_said P h (frame_items frame) past
    (h.by_frame _ (said (frame_items frame) past)
    (before_frames P h step frames (past_after_frame step past frame) p))

pub frames_twice : (step : ℕ) (xs ys : List (List Fib)) (past : List Moment)
    → after_frames step past (xs ++ ys) ≡ after_frames step (after_frames step past xs) ys
frames_twice step [] ys past = refl
frames_twice step (x ∷ xs) ys past = frames_twice step xs ys (past_after_frame step past x)

pub said_ended : (items : List Item) (past : List Moment) → frames_ended (said items past) ≡ frames_ended past
said_ended [] past = refl
said_ended (i ∷ is) past = said_ended is (Said i ∷ past)

-- such a property holds after each entry
pub after_entry : (P : List Moment → Type 0) → IsHanded P
    → (step : ℕ) (frames : List (List Fib)) (past : List Moment) (i : Item) → IsSaidIn step frames past i
    → P (after_frames step [] frames) → P (Said i ∷ past)
after_entry P h step frames past i s p =
    let start : List Moment = after_frames step [] s.before in
    let whole : P (after_frames step start (s.frame ∷ s.after)) =
    subst P (frames_twice step s.before (s.frame ∷ s.after) []) (rw (← s.frames_are) p) in
    let framed : P (said (frame_items s.frame) start) =
    h.by_frame _ (said (frame_items s.frame) start) (before_frames P h step s.after _ whole) in
    let split = subst (λ (is : List Item). P (said is start)) s.items_are framed in
    subst (λ (l : List Moment). P (Said i ∷ l)) (sym s.past_is)
    (before_said P h s.back (Said i ∷ said s.front start) (subst P (said_append s.front (i ∷ s.back) start) split))

pub clean_handed : (step period : ℕ) → IsHanded (IsClean step period)
clean_handed step period = record { by_entry = λ i past c. c.2; by_frame = λ count past c. c }

pub entry_clean : (size step period : ℕ) (frames : List (List Fib)) (past : List Moment) (i : Item)
    → IsFaultless size step period frames → IsSaidIn step frames past i
    → IsClean step period (Said i ∷ past)
entry_clean size step period frames past i f s = after_entry _ (clean_handed _ _) _ _ _ _ s (all_clean _ _ _ _ f)

-- ---- the first frames

abbrev AreNoFaults : List Finding → Type 0
AreNoFaults fs = AllByRecursion (λ found. IsNoFault found.what) fs

plain_before : (size step period : ℕ) (past : List Moment) (noted : List Contradiction) (f more : List (List Fib))
    → AreNoFaults (findings_from size step period past noted (f ++ more))
    → AreNoFaults (findings_from size step period past noted f)
plain_before size step period past noted [] more all = tt
plain_before size step period past noted (g ∷ gs) more all =
    let here = findings_in size step period past noted g in
    let then = past_after_frame step past g in
    let now = noted_in period past noted g in
    all_append (λ found. IsNoFault found.what) here _
    (all_left (λ found. IsNoFault found.what) here _ all)
    (chosen (findings_from size step period then now (gs ++ more)) (findings_from size step period then now gs)
    (plain_before size step period then now gs more) (runs_full step period past (frame_items g))
    (all_right (λ found. IsNoFault found.what) here _ all))
  where
    chosen : (whole front : List Finding) → (AreNoFaults whole → AreNoFaults front) → (t : Bool)
        → AreNoFaults (cond t [] whole) → AreNoFaults (cond t [] front)
    chosen whole front rest true h = tt
    chosen whole front rest false h = rest h

pub faultless_before : (size step period : ℕ) (f more : List (List Fib)) → IsFaultless size step period (f ++ more)
    → IsFaultless size step period f
faultless_before size step period f more h =
    record {
      room = room_before step period [] f more h.room;
      plain = plain_before size step period [] [] f more h.plain;
    }
