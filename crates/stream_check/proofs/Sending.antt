-- What is sent, one after the other: entries, and what FIGs contradict.
use Rattle.stream_check.proofs.Words.{[], ◌++◌, ◌∙◌, ◌∷◌, ◌≡◌, Bool, Contradiction, EntrySent, Fib, Fig, FigSent, List}
use Rattle.stream_check.proofs.Words.{Moment, None, Open, Other, Raw, Said, Sent, Some, ap, append-nil, append_assoc}
use Rattle.stream_check.proofs.Words.{cond, contradictions_at, contradicts, entries_in, entries_sent, false, false≢true}
use Rattle.stream_check.proofs.Words.{fib_items, fib_sent, fibs_items, fibs_sent, fig_items, fig_sent, figs_items}
use Rattle.stream_check.proofs.Words.{figs_sent, findings_at, findings_at_sent, frame_items, frame_sent, has_no_room}
use Rattle.stream_check.proofs.Words.{is_new, is_next, items_in, items_of, known_of, map-append, new_among}
use Rattle.stream_check.proofs.Words.{new_findings, noted_after, noted_at, noted_with, refl, runs_full, said, sym, true}
use Rattle.stream_check.proofs.Words.{ℕ}
use Rattle.stream_check.proofs.Saying.{said_append, full_append, full_stays}

-- ---- the entries among what is sent

pub items_append : (xs ys : List Sent) → items_in (xs ++ ys) ≡ items_in xs ++ items_in ys
items_append [] ys = refl
items_append (EntrySent i ∷ ss) ys = rw (items_append ss ys) refl
items_append (FigSent fig ∷ ss) ys = items_append ss ys

pub entries_items : (first next : Bool) (raws : List Raw)
    → items_in (entries_sent first next raws) ≡ items_of first next raws
entries_items first next [] = refl
entries_items first next (raw ∷ raws) =
    rw (entries_items first next raws) refl

pub fig_has_items : (first : Bool) (f : Fig) → items_in (fig_sent first f) ≡ fig_items first f
fig_has_items first (Open second es) = entries_items first (is_next second) (entries_in (Open second es))
fig_has_items first (Other given) = refl

pub figs_have_items : (first : Bool) (figs : List Fig) → items_in (figs_sent first figs) ≡ figs_items first figs
figs_have_items first [] = refl
figs_have_items first (f ∷ fs) =
    rw (← figs_have_items false fs, ← fig_has_items first f) (items_append (fig_sent first f) (figs_sent false fs))

pub fib_has_items : (first : Bool) (fib : Fib) → items_in (fib_sent first fib) ≡ fib_items first fib
fib_has_items first None = refl
fib_has_items first (Some figs) = figs_have_items first figs

pub fibs_have_items : (first : Bool) (fibs : List Fib) → items_in (fibs_sent first fibs) ≡ fibs_items first fibs
fibs_have_items first [] = refl
fibs_have_items first (fib ∷ fibs) =
    rw (← fibs_have_items false fibs, ← fib_has_items first fib)
    (items_append (fib_sent first fib) (fibs_sent false fibs))

pub frame_has_items : (frame : List Fib) → items_in (frame_sent frame) ≡ frame_items frame
frame_has_items frame = fibs_have_items true frame

-- ---- some, and then others

pub noted_append : (period : ℕ) (xs ys : List Sent) (past : List Moment) (noted : List Contradiction)
    → noted_after period past noted (xs ++ ys) ≡ noted_after period (said (items_in xs) past)
    (noted_after period past noted xs) ys
noted_append period [] ys past noted = refl
noted_append period (EntrySent i ∷ ss) ys past noted = noted_append period ss ys (Said i ∷ past) (noted_at past i noted)
noted_append period (FigSent fig ∷ ss) ys past noted =
    noted_append period ss ys past (noted_with noted (contradictions_at period past fig))

pub said_sent : (xs ys : List Sent) (past : List Moment)
    → said (items_in (xs ++ ys)) past ≡ said (items_in ys) (said (items_in xs) past)
said_sent xs ys past = rw (items_append xs ys) (said_append (items_in xs) (items_in ys) past)

pub full_sent : (step period : ℕ) (xs ys : List Sent) (past : List Moment)
    → runs_full step period past (items_in xs) ≡ false
    → runs_full step period past (items_in (xs ++ ys)) ≡ runs_full step period (said (items_in xs) past) (items_in ys)
full_sent step period xs ys past e = cc (items_append xs ys, full_append step period (items_in xs) (items_in ys) past e)

pub full_sent_stays : (step period : ℕ) (xs ys : List Sent) (past : List Moment)
    → runs_full step period past (items_in xs) ≡ true → runs_full step period past (items_in (xs ++ ys)) ≡ true
full_sent_stays step period xs ys past e = ap (runs_full step period past) (items_append xs ys)
    ∙ full_stays step period (items_in xs) (items_in ys) past e

pub findings_append : (step period : ℕ) (xs ys : List Sent) (past : List Moment) (noted : List Contradiction)
    → runs_full step period past (items_in xs) ≡ false
    → findings_at_sent step period past noted (xs ++ ys)
    ≡ findings_at_sent step period past noted xs ++ findings_at_sent step period (said (items_in xs) past)
    (noted_after period past noted xs) ys
findings_append step period [] ys past noted e = refl
findings_append step period (FigSent fig ∷ xs) ys past noted e =
    let cs = contradictions_at period past fig in
    rw (findings_append step period xs ys past (noted_with noted cs) e)
    (sym (append_assoc (new_findings noted cs) (findings_at_sent step period past (noted_with noted cs) xs)
    (findings_at_sent step period (said (items_in xs) past) (noted_after period past (noted_with noted cs) xs) ys)))
findings_append step period (EntrySent x ∷ xs) ys past noted e =
    let now = noted_at past x noted in
    let rest = findings_at_sent step period (said (items_in xs) (Said x ∷ past))
    (noted_after period (Said x ∷ past) now xs) ys in
    elim (has_no_room (known_of step period past) x) as (λ t.
    cond t true (runs_full step period (Said x ∷ past) (items_in xs)) ≡ false
    → cond t [] (findings_at (known_of step period past) x
    ++ findings_at_sent step period (Said x ∷ past) now (xs ++ ys))
    ≡ cond t [] (findings_at (known_of step period past) x ++ findings_at_sent step period (Said x ∷ past) now xs)
    ++ rest) [
      | true ↦ λ h. absurd (false≢true (sym h))
      | false ↦ λ h. ap (λ fs. findings_at (known_of step period past) x ++ fs)
          (findings_append step period xs ys (Said x ∷ past) now h)
          ∙ sym (append_assoc (findings_at (known_of step period past) x)
          (findings_at_sent step period (Said x ∷ past) now xs) rest)
    ] e

pub findings_stay : (step period : ℕ) (xs ys : List Sent) (past : List Moment) (noted : List Contradiction)
    → runs_full step period past (items_in xs) ≡ true
    → findings_at_sent step period past noted (xs ++ ys) ≡ findings_at_sent step period past noted xs
findings_stay step period [] ys past noted e = absurd (false≢true e)
findings_stay step period (FigSent fig ∷ xs) ys past noted e =
    rw (findings_stay step period xs ys past (noted_with noted (contradictions_at period past fig)) e) refl
findings_stay step period (EntrySent x ∷ xs) ys past noted e =
    let now = noted_at past x noted in
    elim (has_no_room (known_of step period past) x) as (λ t.
    cond t true (runs_full step period (Said x ∷ past) (items_in xs)) ≡ true
    → cond t [] (findings_at (known_of step period past) x
    ++ findings_at_sent step period (Said x ∷ past) now (xs ++ ys))
    ≡ cond t [] (findings_at (known_of step period past) x ++ findings_at_sent step period (Said x ∷ past) now xs)) [
      | true ↦ λ h. refl
      | false ↦ λ h. ap (λ fs. findings_at (known_of step period past) x ++ fs)
          (findings_stay step period xs ys (Said x ∷ past) now h)
    ] e

-- ---- contradictions, and then others

pub new_append : (xs ys noted : List Contradiction) → new_among noted (xs ++ ys) ≡ new_among noted xs
    ++ new_among (noted_with noted xs) ys
new_append [] ys noted = ap (λ n. new_among n ys) (sym (append-nil noted))
new_append (c ∷ cs) ys noted =
    elim (is_new noted c) as (λ t. cond t (c ∷ new_among (noted ++ c ∷ []) (cs ++ ys)) (new_among noted (cs ++ ys))
    ≡ cond t (c ∷ new_among (noted ++ c ∷ []) cs) (new_among noted cs)
    ++ new_among (noted ++ cond t (c ∷ new_among (noted ++ c ∷ []) cs) (new_among noted cs)) ys) [
      | true ↦ ap (λ l. c ∷ l) (new_append cs ys (noted ++ c ∷ [])
          ∙ ap (λ n. new_among (noted ++ c ∷ []) cs ++ new_among n ys)
          (append_assoc noted (c ∷ []) (new_among (noted ++ c ∷ []) cs)))
      | false ↦ new_append cs ys noted
    ]

pub noted_twice : (xs ys noted : List Contradiction) → noted_with (noted_with noted xs) ys ≡ noted_with noted (xs ++ ys)
noted_twice xs ys noted =
    rw (new_append xs ys noted) (append_assoc noted (new_among noted xs) (new_among (noted_with noted xs) ys))

pub found_twice : (xs ys noted : List Contradiction) → new_findings noted xs
    ++ new_findings (noted_with noted xs) ys ≡ new_findings noted (xs ++ ys)
found_twice xs ys noted =
    cc (map-append contradicts (new_among noted xs) (new_among (noted_with noted xs) ys), new_append xs ys noted)
