-- The checker finds in frames with FIGs carried behind their own what it finds in the frames, if those FIGs agree.
use Rattle.fig_merge.proofs.Words.{[], ◌&&◌, ◌++◌, ◌==◌, ◌||◌, ◌∙◌, ◌∷◌, ◌≡◌, AreFilled, AreFilledFrames, Bool, Fib}
use Rattle.fig_merge.proofs.Words.{Fig, FilledIsCheckedAlike, Item, List, Moment, None, Open, Option, Other, Pictured}
use Rattle.fig_merge.proofs.Words.{Raw, Said, Some, What, agreeing, agrees_with, ap, append-nil, append_assoc, ap₂}
use Rattle.fig_merge.proofs.Words.{at_ensemble, cond, due, ensemble_in, entries_in, false, false≢true, fibs_items}
use Rattle.fig_merge.proofs.Words.{fig_agrees, fig_items, figs_items, findings_at_sent, findings_from, findings_in}
use Rattle.fig_merge.proofs.Words.{frame_items, frames_ended, has_room, hear_entries, hear_entry, hear_figs, heard_or}
use Rattle.fig_merge.proofs.Words.{hearing, hearing_fibs, identifier_of, in_frame, into, is_ensemble, is_next, items_of}
use Rattle.fig_merge.proofs.Words.{kept, last_findings, length, list_all, listener, listener_after, listening, map}
use Rattle.fig_merge.proofs.Words.{nat_le, nat_lt, noted_in, past_after_frame, picture_of, pictured, refl, runs_full}
use Rattle.fig_merge.proofs.Words.{said, sym, true, untuned, where_heard, ℕ}
use Rattle.mux_config.proofs.Keeping.{present, absent_found}
use Rattle.mux_config.specs.Tables.{entry_at}
use Rattle.stream_check.specs.Listening.{Listening}
use Rattle.stream_check.specs.declared.contradiction.Contradiction.{Contradiction}
use Rattle.stream_check.specs.declared.finding.Finding.{Finding}
use Rattle.stream_check.specs.declared.heard_table.Lookup.TheVariants.{Absent, Full}
use Rattle.stream_check.specs.Lookup.{lookup, lookup_among, lookup_in}
use Rattle.stream_check.specs.Rules.{known_of, finds_no_room, has_no_room}
use Rattle.stream_check.specs.Sent.{Sent, FigSent, fig_sent, figs_sent, fibs_sent, items_in, contradictions_at}
use Rattle.stream_check.specs.Sent.{noted_after}
use Rattle.stream_check.proofs.Agreement.{agreeing_none}
use Rattle.stream_check.proofs.Saying.{said_append, full_append, full_stays}
use Rattle.stream_check.proofs.Sending.{figs_have_items, findings_append, findings_stay, noted_append}
use Rattle.fig_merge.proofs.Alike.{frame_alike, after_alike, count_alike, joined, whole_alike}

-- ---- where there is room, a listener hears an entry

room_where : (raw : Raw) (rs : List Raw) → finds_no_room (lookup raw rs) ≡ false → has_room raw rs ≡ true
room_where raw rs free = by (entry_at identifier_of (identifier_of raw) rs) refl
  where
    by : (o : Option Raw) → entry_at identifier_of (identifier_of raw) rs ≡ o → has_room raw rs ≡ true
    by (Some x) is = ap (λ b. b || nat_lt (length rs) 64) (present identifier_of (identifier_of raw) rs x is)
    by None is =
        ap (λ b. b || nat_lt (length rs) 64) (absent_found identifier_of (identifier_of raw) rs is)
        ∙ some_room (nat_lt (length rs) 64) (sym (ap (λ o. finds_no_room (lookup_among raw (length rs) o)) is) ∙ free)
      where
        some_room : (b : Bool) → finds_no_room (cond b Absent Full) ≡ false → b ≡ true
        some_room true e = refl
        some_room false e = absurd (false≢true (sym e))

kept_some : (raw : Raw) (p : Pictured) → finds_no_room (lookup_in raw p) ≡ false → (q : Pictured)
    × (pictured raw p ≡ Some q)
kept_some raw p = by (raw.ext == 1) (raw.ext == 2)
  where
    subs : Pictured
    subs = record p { subs = kept raw p.subs }

    services : Pictured
    services = record p { services = kept raw p.services }

    packets : Pictured
    packets = record p { packets = kept raw p.packets }

    by : (a b : Bool) → finds_no_room (lookup raw (cond a p.subs (cond b p.services p.packets))) ≡ false
        → (q : Pictured) × (cond a (Some subs)
        (cond b (cond (has_room raw p.services) (Some services) None)
        (cond (has_room raw p.packets) (Some packets) None)) ≡ Some q)
    by true b free = (subs, refl)
    by false true free = (services, ap (λ t. cond t (Some services) None) (room_where raw p.services free))
    by false false free = (packets, ap (λ t. cond t (Some packets) None) (room_where raw p.packets free))

into_some : (next : Bool) (l : Listening) (o : Option Pictured) (p : Pictured) → o ≡ Some p → (m : Listening)
    × (into next l o ≡ Some m)
into_some true l o p is = (record l { next = p }, ap (into true l) is)
into_some false l o p is = (record l { current = p }, ap (into false l) is)

-- whether a listener in this state has no room for an entry
abbrev no_room : Item → Listening → Bool
no_room i l = cond (is_ensemble i) false (l.tuned && finds_no_room (lookup_in i.raw (cond i.next l.next l.current)))

entry_heard : (i : Item) (l : Listening) → no_room i l ≡ false → (m : Listening) × (hear_entry i.next i.raw l ≡ Some m)
entry_heard i l = by (is_ensemble i) l.tuned
  where
    by : (b t : Bool) → cond b false (t && finds_no_room (lookup_in i.raw (cond i.next l.next l.current))) ≡ false
        → (m : Listening) × (cond b (Some (at_ensemble (ensemble_in i.raw) l))
        (cond t (into i.next l (pictured i.raw (picture_of i.next l))) (Some l)) ≡ Some m)
    by true t free = (at_ensemble (ensemble_in i.raw) l, refl)
    by false false free = (l, refl)
    by false true free =
        let kept = kept_some i.raw (picture_of i.next l) free in
        into_some i.next l (pictured i.raw (picture_of i.next l)) kept.0 kept.1

listener_is : (past : List Moment) (l : Listening) → listening past ≡ Some l → listener_after past ≡ l
listener_is past l is = ap listener is

one_heard : (step period : ℕ) (past : List Moment) (i : Item) (l : Listening)
    → has_no_room (known_of step period past) i ≡ false → listening past ≡ Some l
    → (m : Listening) × (listening (Said i ∷ past) ≡ Some m)
one_heard step period past i l free is =
    let there = entry_heard i l (sym (ap (no_room i) (listener_is past l is)) ∙ free) in
    (there.0, ap (λ o. where_heard o (hear_entry i.next i.raw)) is ∙ there.1)

items_heard : (step period : ℕ) (items : List Item) (past : List Moment) (l : Listening)
    → runs_full step period past items ≡ false → listening past ≡ Some l
    → (m : Listening) × (listening (said items past) ≡ Some m)
items_heard step period [] past l room is = (l, is)
items_heard step period (i ∷ items) past l room is =
    elim (has_no_room (known_of step period past) i) as (λ t. has_no_room (known_of step period past) i ≡ t
    → cond t true (runs_full step period (Said i ∷ past) items) ≡ false
    → (m : Listening) × (listening (said items (Said i ∷ past)) ≡ Some m)) [
      | true ↦ λ full more. absurd (false≢true (sym more))
      | false ↦ λ free more.
          let one = one_heard step period past i l free is in
          items_heard step period items (Said i ∷ past) one.0 more one.1
    ] refl room

-- ---- FIGs are heard entry by entry

entries_said : (first next : Bool) (raws : List Raw) (past : List Moment)
    → listening (said (items_of first next raws) past) ≡ where_heard (listening past) (hear_entries next raws)
entries_said first next [] past = by (listening past)
  where
    by : (o : Option Listening) → o ≡ where_heard o (hear_entries next [])
    by None = refl
    by (Some l) = refl
entries_said first next (raw ∷ raws) past =
    entries_said first next raws (Said (record { first = first; next = next; raw = raw }) ∷ past) ∙ by (listening past)
  where
    by : (o : Option Listening) → where_heard (where_heard o (hear_entry next raw)) (hear_entries next raws)
        ≡ where_heard o (hear_entries next (raw ∷ raws))
    by None = refl
    by (Some l) = refl

figs_said : (first : Bool) (figs : List Fig) (past : List Moment)
    → listening (said (figs_items first figs) past) ≡ where_heard (listening past) (hear_figs figs)
figs_said first [] past = by (listening past)
  where
    by : (o : Option Listening) → o ≡ where_heard o (hear_figs [])
    by None = refl
    by (Some l) = refl
figs_said first (Open second es ∷ fs) past =
    let items = fig_items first (Open second es) in
    ap listening (said_append items (figs_items false fs) past) ∙ figs_said false fs (said items past)
    ∙ ap (λ o. where_heard o (hear_figs fs)) (entries_said first (is_next second) (entries_in (Open second es)) past)
    ∙ by (listening past)
  where
    by : (o : Option Listening)
        → where_heard (where_heard o (hear_entries (is_next second) (entries_in (Open second es)))) (hear_figs fs)
        ≡ where_heard o (hear_figs (Open second es ∷ fs))
    by None = refl
    by (Some l) = refl
figs_said first (Other given ∷ fs) past = figs_said false fs past ∙ by (listening past)
  where
    by : (o : Option Listening) → where_heard o (hear_figs fs) ≡ where_heard o (hear_figs (Other given ∷ fs))
    by None = refl
    by (Some l) = refl

some_heard : (o : Option Listening) (l m : Listening) → o ≡ Some m → o ≡ Some (heard_or l o)
some_heard None l m is = absurd cc
some_heard (Some n) l m is = refl

pub figs_hearing : (step period : ℕ) (first : Bool) (figs : List Fig) (past : List Moment) (l : Listening)
    → runs_full step period past (figs_items first figs) ≡ false → listening past ≡ Some l
    → listening (said (figs_items first figs) past) ≡ Some (hearing figs l)
figs_hearing step period first figs past l room is =
    let there = items_heard step period (figs_items first figs) past l room is in
    let same = figs_said first figs past ∙ ap (λ o. where_heard o (hear_figs figs)) is in
    same ∙ some_heard (hear_figs figs l) l there.0 (sym same ∙ there.1)

-- where there is room for all entries, there is room for the first ones, and then for the others
front_free : (step period : ℕ) (xs ys : List Item) (past : List Moment) → runs_full step period past (xs ++ ys) ≡ false
    → (runs_full step period past xs ≡ false) × (runs_full step period (said xs past) ys ≡ false)
front_free step period xs ys past room = by (runs_full step period past xs) refl
  where
    by : (b : Bool) → runs_full step period past xs ≡ b → (runs_full step period past xs ≡ false)
        × (runs_full step period (said xs past) ys ≡ false)
    by true full = absurd (false≢true (sym room ∙ full_stays step period xs ys past full))
    by false free = (free, sym (full_append step period xs ys past free) ∙ room)

pub fibs_hearing : (step period : ℕ) (first : Bool) (fibs : List Fib) (past : List Moment) (l : Listening)
    → runs_full step period past (fibs_items first fibs) ≡ false → listening past ≡ Some l
    → listening (said (fibs_items first fibs) past) ≡ Some (hearing_fibs fibs l)
fibs_hearing step period first [] past l room is = is
fibs_hearing step period first (None ∷ fibs) past l room is = fibs_hearing step period false fibs past l room is
fibs_hearing step period first (Some figs ∷ fibs) past l room is =
    let front = front_free step period (figs_items first figs) (fibs_items false fibs) past room in
    rw (said_append (figs_items first figs) (fibs_items false fibs) past)
    (fibs_hearing step period false fibs (said (figs_items first figs) past) (hearing figs l) front.1
    (figs_hearing step period first figs past l front.0 is))

-- ---- FIGs that agree add nothing

none_at : (period : ℕ) (past : List Moment) (fig : List ℕ) → fig_agrees (listener_after past).current fig ≡ true
    → contradictions_at period past fig ≡ []
none_at period past fig agrees =
    ap (λ cs. cond (nat_le period (frames_ended past)) cs []) (agreeing_none (listener_after past).current fig agrees)
    ∙ same (nat_le period (frames_ended past))
  where
    none : List Contradiction
    none = []

    same : (b : Bool) → cond b none none ≡ none
    same true = refl
    same false = refl

both_true : (a b : Bool) → (a && b) ≡ true → (a ≡ true) × (b ≡ true)
both_true true true e = (refl, refl)
both_true _ _ e = absurd (false≢true e)

pub found_quietly : (step period : ℕ) (carried : List (List ℕ)) (rest : List Sent) (past : List Moment)
    (noted : List Contradiction) → list_all (fig_agrees (listener_after past).current) carried ≡ true
    → findings_at_sent step period past noted (map FigSent carried ++ rest)
    ≡ findings_at_sent step period past noted rest
found_quietly step period [] rest past noted all = refl
found_quietly step period (c ∷ cs) rest past noted all =
    let both = both_true (fig_agrees (listener_after past).current c)
    (list_all (fig_agrees (listener_after past).current) cs) all in
    rw (none_at period past c both.0, append-nil noted) (found_quietly step period cs rest past noted both.1)

pub noted_quietly : (period : ℕ) (carried : List (List ℕ)) (rest : List Sent) (past : List Moment)
    (noted : List Contradiction) → list_all (fig_agrees (listener_after past).current) carried ≡ true
    → noted_after period past noted (map FigSent carried ++ rest) ≡ noted_after period past noted rest
noted_quietly period [] rest past noted all = refl
noted_quietly period (c ∷ cs) rest past noted all =
    let both = both_true (fig_agrees (listener_after past).current c)
    (list_all (fig_agrees (listener_after past).current) cs) all in
    cc (none_at period past c both.0, append-nil noted, noted_quietly period cs rest past noted both.1)

others_sent : (first : Bool) (figs : List Fig) (carried : List (List ℕ))
    → figs_sent first (figs ++ map Other carried) ≡ figs_sent first figs ++ map FigSent carried
others_sent first [] [] = refl
others_sent first [] (c ∷ cs) = rw (others_sent false [] cs) refl
others_sent first (f ∷ fs) carried =
    rw (others_sent false fs carried) (sym (append_assoc (fig_sent first f) (figs_sent false fs) (map FigSent carried)))

-- ---- what is sent in the FIBs of a frame

-- those that agree when their turn comes, for the listener that has heard the FIB's own FIGs
agree_then : (step period : ℕ) (first : Bool) (figs : List Fig) (carried : List (List ℕ)) (past : List Moment)
    (l : Listening) → runs_full step period past (items_in (figs_sent first figs)) ≡ false → listening past ≡ Some l
    → list_all (agrees_with figs l) carried ≡ true
    → (listening (said (items_in (figs_sent first figs)) past) ≡ Some (hearing figs l))
    × (list_all (fig_agrees (listener_after (said (items_in (figs_sent first figs)) past)).current) carried ≡ true)
agree_then step period first figs carried past l room is all =
    let own = figs_have_items first figs in
    let heard : listening (said (items_in (figs_sent first figs)) past) ≡ Some (hearing figs l) =
    ap (λ items. listening (said items past)) own ∙ figs_hearing step period first figs past l
    (ap (runs_full step period past) (sym own) ∙ room) is in (
      heard,
      ap (λ (m : Listening). list_all (fig_agrees m.current) carried)
          (listener_is (said (items_in (figs_sent first figs)) past) (hearing figs l) heard) ∙ all,
    )

pub found_alike : (step period : ℕ) (first : Bool) (fibs sent : List Fib) (past : List Moment)
    (noted : List Contradiction) (l : Listening) → AreFilled agreeing l fibs sent → listening past ≡ Some l
    → findings_at_sent step period past noted (fibs_sent first sent)
    ≡ findings_at_sent step period past noted (fibs_sent first fibs)
found_alike step period first [] sent past noted l h is = rw (h) refl
found_alike step period first (None ∷ fibs) sent past noted l h is =
    rw (h.2) (found_alike step period false fibs h.1 past noted l h.4 is)
found_alike step period first (Some figs ∷ fibs) sent past noted l h is =
    let own = figs_sent first figs in
    let later = fibs_sent false h.1 in
    ap (λ fs. findings_at_sent step period past noted (fibs_sent first fs)) h.2
    ∙ ap (λ ss. findings_at_sent step period past noted (ss ++ later)) (others_sent first figs h.0)
    ∙ ap (findings_at_sent step period past noted) (append_assoc own (map FigSent h.0) later)
    ∙ by (λ then now is. found_alike step period false fibs h.1 then now (hearing figs l) h.4 is)
    (runs_full step period past (items_in own)) refl
  where
    by : ((then : List Moment) (now : List Contradiction) → listening then ≡ Some (hearing figs l)
        → findings_at_sent step period then now (fibs_sent false h.1)
        ≡ findings_at_sent step period then now (fibs_sent false fibs))
        → (b : Bool) → runs_full step period past (items_in (figs_sent first figs)) ≡ b
        → findings_at_sent step period past noted (figs_sent first figs ++ (map FigSent h.0 ++ fibs_sent false h.1))
        ≡ findings_at_sent step period past noted (figs_sent first figs ++ fibs_sent false fibs)
    by behind true full =
        findings_stay step period (figs_sent first figs) (map FigSent h.0 ++ fibs_sent false h.1) past noted full
        ∙ sym (findings_stay step period (figs_sent first figs) (fibs_sent false fibs) past noted full)
    by behind false free =
        let own = figs_sent first figs in
        let then = said (items_in own) past in
        let now = noted_after period past noted own in
        let agree = agree_then step period first figs h.0 past l free is h.3 in
        findings_append step period own (map FigSent h.0 ++ fibs_sent false h.1) past noted free
        ∙ ap (λ fs. findings_at_sent step period past noted own ++ fs)
        (found_quietly step period h.0 (fibs_sent false h.1) then now agree.1 ∙ behind then now agree.0)
        ∙ sym (findings_append step period own (fibs_sent false fibs) past noted free)

pub noted_alike : (step period : ℕ) (first : Bool) (fibs sent : List Fib) (past : List Moment)
    (noted : List Contradiction) (l : Listening) → runs_full step period past (fibs_items first fibs) ≡ false
    → AreFilled agreeing l fibs sent → listening past ≡ Some l
    → noted_after period past noted (fibs_sent first sent) ≡ noted_after period past noted (fibs_sent first fibs)
noted_alike step period first [] sent past noted l room h is = rw (h) refl
noted_alike step period first (None ∷ fibs) sent past noted l room h is =
    rw (h.2) (noted_alike step period false fibs h.1 past noted l room h.4 is)
noted_alike step period first (Some figs ∷ fibs) sent past noted l room h is =
    let own = figs_sent first figs in
    let others = map FigSent h.0 in
    let later = fibs_sent false h.1 in
    let then = said (items_in own) past in
    let now = noted_after period past noted own in
    let front = front_free step period (figs_items first figs) (fibs_items false fibs) past room in
    let free = ap (runs_full step period past) (figs_have_items first figs) ∙ front.0 in
    let behind : runs_full step period then (fibs_items false fibs) ≡ false = rw (figs_have_items first figs) front.1 in
    let agree = agree_then step period first figs h.0 past l free is h.3 in
    rw (h.2, others_sent first figs h.0, append_assoc own others later)
    (noted_append period own (others ++ later) past noted ∙ noted_quietly period h.0 later then now agree.1
    ∙ noted_alike step period false fibs h.1 then now (hearing figs l) behind h.4 agree.0
    ∙ sym (noted_append period own (fibs_sent false fibs) past noted))

-- ---- frames

frame_found : (size step period : ℕ) (past : List Moment) (noted : List Contradiction) (l : Listening)
    (frame sent : List Fib) → AreFilled agreeing l frame sent → listening past ≡ Some l
    → findings_in size step period past noted sent ≡ findings_in size step period past noted frame
frame_found size step period past noted l frame sent h is =
    let a = frame_alike agreeing l frame sent h in
    ap₂ (λ (n : ℕ) (xs : List What). map (in_frame (record { frame = frames_ended past; count = n })) xs)
    (count_alike step (due past) frame sent a)
    (ap₂ joined (whole_alike size step (due past) frame sent a)
    (ap₂ joined (found_alike step period true frame sent past noted l h is)
    (ap (λ (items : List Item). last_findings (runs_full step period past items) period (said items past))
    (a.items true))))

frames_found : (size step period : ℕ) (frames sent : List (List Fib)) (past : List Moment) (noted : List Contradiction)
    (l : Listening) → AreFilledFrames agreeing l frames sent → listening past ≡ Some l
    → findings_from size step period past noted sent ≡ findings_from size step period past noted frames
frames_found size step period [] sent past noted l h is = ap (findings_from size step period past noted) h
frames_found size step period (frame ∷ frames) sent past noted l h is =
    ap (findings_from size step period past noted) h.2
    ∙ ap₂ (λ (xs ys : List Finding). xs ++ ys) (frame_found size step period past noted l frame h.0 h.3 is)
    (ap (λ (full : Bool). cond full []
    (findings_from size step period (past_after_frame step past h.0) (noted_in period past noted h.0) h.1))
    (ap (runs_full step period past) ((frame_alike agreeing l frame h.0 h.3).items true))
    ∙ by (λ then now is. frames_found size step period frames h.1 then now (hearing_fibs frame l) h.4 is)
    (runs_full step period past (frame_items frame)) refl)
  where
    by : ((then : List Moment) (now : List Contradiction) → listening then ≡ Some (hearing_fibs frame l)
        → findings_from size step period then now h.1 ≡ findings_from size step period then now frames)
        → (full : Bool) → runs_full step period past (frame_items frame) ≡ full
        → cond full [] (findings_from size step period (past_after_frame step past h.0) (noted_in period past noted h.0)
        h.1)
        ≡ cond full [] (findings_from size step period (past_after_frame step past frame)
        (noted_in period past noted frame) frames)
    by behind true room = refl
    by behind false room =
        ap (λ (p : List Moment). findings_from size step period p (noted_in period past noted h.0) h.1)
        (after_alike step past frame h.0 (frame_alike agreeing l frame h.0 h.3))
        ∙ ap (λ n. findings_from size step period (past_after_frame step past frame) n h.1)
        (noted_alike step period true frame h.0 past noted l room h.3 is)
        ∙ behind (past_after_frame step past frame) (noted_in period past noted frame)
        (fibs_hearing step period true frame past l room is)

pub checked_alike : FilledIsCheckedAlike
checked_alike size step period frames sent h = frames_found size step period frames sent [] [] untuned h refl
