-- Where nothing is at fault: entries agree with the picture, and what holds after one more entry.
use Rattle.stream_laws.proofs.Words.{[], ◌%◌, ◌&&◌, ◌++◌, ◌+◌, ◌<◌, ◌==◌, ◌||◌, ◌∙◌, ◌∷◌, ◌≡◌, AllByRecursion, Bool}
use Rattle.stream_laws.proofs.Words.{CurrentIsKept, Ended, EnsembleInformation, Fault, IsKept, IsNoFault, Item}
use Rattle.stream_laws.proofs.Words.{KnownBefore, List, Listening, Moment, None, Option, Pictured, Raw, Said, Some}
use Rattle.stream_laws.proofs.Words.{What, after_is, agree, agree_same, announcement, announces_another, ap, append-nil}
use Rattle.stream_laws.proofs.Words.{arith, at_ensemble, begins_notice, cond, current_findings, ensemble_findings}
use Rattle.stream_laws.proofs.Words.{ensemble_heard, ensemble_no_member, ensemble_of_item, entry_like, eqb-true, false}
use Rattle.stream_laws.proofs.Words.{false≢true, findings_at, finds_no_room, frames_ended, get_or, has_begun}
use Rattle.stream_laws.proofs.Words.{has_ensemble, has_flags, has_low, has_no_room, has_other_count, heard_as, heard_is}
use Rattle.stream_laws.proofs.Words.{into, is_absent, is_ensemble, is_flagged, is_made, is_member, is_of_other_ensemble}
use Rattle.stream_laws.proofs.Words.{is_other, is_other_one, is_placed, is_settled, is_swap, known_of, last_flags}
use Rattle.stream_laws.proofs.Words.{le-leb, length, list_for, listener_after, listening, lookup_among, lookup_in}
use Rattle.stream_laws.proofs.Words.{makes_swap, member_entry, member_findings, member_heard, name_of, nat_lt}
use Rattle.stream_laws.proofs.Words.{next_findings, not, not-false, not-true, occurrence_of, or_false, or_parts}
use Rattle.stream_laws.proofs.Words.{or_true, picture_of, pictured, place_faults, refl, row_at_hand, rows, settles_at}
use Rattle.stream_laws.proofs.Words.{subst, suc, swap_findings, swap_or_another, sym, times_announced, true, untuned}
use Rattle.stream_laws.proofs.Words.{unwrap_or, when, zero, ℕ}
use Rattle.stream_check.specs.declared.finding.Fault.TheVariants as faults
use Rattle.stream_check.specs.declared.heard_table.Lookup.TheVariants as standings
use Rattle.stream_laws.proofs.Clean.{IsClean, entry_clean, all_left, all_right}
use Rattle.stream_laws.proofs.Pictures.{picture_with, taken_in}

pub no_fault : (b : Bool) (fault : Fault) → AllByRecursion IsNoFault (when b fault) → b ≡ false
no_fault true fault all = absurd (all.0)
no_fault false fault all = refl

-- the first of several tests
pub first_fine : (b : Bool) (fault : Fault) (rest : List What) → AllByRecursion IsNoFault (when b fault ++ rest)
    → (b ≡ false) × AllByRecursion IsNoFault rest
first_fine true fault rest all = absurd all.0
first_fine false fault rest all = (refl, all)

pub second_false : (a b : Bool) → a ≡ true → (a && b) ≡ false → b ≡ false
second_false true b e h = h
second_false false b e h = absurd (false≢true e)

pub first_holds : (a b : Bool) → (a && b) ≡ true → a ≡ true
first_holds true b h = refl
first_holds false b h = absurd (false≢true h)

pub second_holds : (a b : Bool) → (a && b) ≡ true → b ≡ true
second_holds true b h = h
second_holds false b h = absurd (false≢true h)

-- ---- how an entry compares with the picture

no_other : (raw : Raw) (many : ℕ) (found : Option Raw) (known : Raw)
    → is_other_one (lookup_among raw many found) ≡ false → found ≡ Some known → known ≡ raw
no_other raw many None known none e = absurd cc
no_other raw many (Some k) known none e =
    let same : k ≡ known = cc in
    elim (agree k raw) as (λ t. agree k raw ≡ t → is_other_one (cond t standings.Same standings.Other) ≡ false
    → known ≡ raw) [
      | true ↦ λ is n. sym same ∙ agree_same k raw is
      | false ↦ λ is n. absurd (false≢true (sym n))
    ] refl none

pub agrees : (raw : Raw) (p : Pictured) (known : Raw) → is_other_one (lookup_in raw p) ≡ false
    → entry_like raw p ≡ Some known → known ≡ raw
agrees raw p known none e = no_other raw (length (list_for raw p)) (entry_like raw p) known none e

there_by : (raw : Raw) (many : ℕ) (found : Option Raw) (settled : Bool) → settled ≡ true
    → finds_no_room (lookup_among raw many found) ≡ false
    → (is_absent (lookup_among raw many found) && settled) ≡ false → (k : Raw) × (found ≡ Some k)
there_by raw many None settled so room none =
    elim (nat_lt many 64) as (λ t. finds_no_room (cond t standings.Absent standings.Full) ≡ false
    → (is_absent (cond t standings.Absent standings.Full) && settled) ≡ false → (k : Raw) × (None ≡ Some k)) [
      | true ↦ λ r n. absurd (false≢true (sym n ∙ so))
      | false ↦ λ r n. absurd (false≢true (sym r))
    ] room none
there_by raw many (Some k) settled so room none = (k, refl)

pub there : (raw : Raw) (p : Pictured) (settled : Bool) → settled ≡ true → finds_no_room (lookup_in raw p) ≡ false
    → (is_absent (lookup_in raw p) && settled) ≡ false
    → (k : Raw) × (entry_like raw p ≡ Some k)
there raw p settled so room none = there_by raw (length (list_for raw p)) (entry_like raw p) settled so room none

-- ---- an entry of FIG 0/1 to 0/3

pub member_parts : (past : List Moment) (i : Item) → is_member past i ≡ true → (is_ensemble i ≡ false)
    × ((listener_after past).tuned ≡ true)
member_parts past i m = (
  not-true (is_ensemble i) (first_holds (not (is_ensemble i)) (listener_after past).tuned m),
  second_holds (not (is_ensemble i)) (listener_after past).tuned m,
)

pub member_found : (step period : ℕ) (past : List Moment) (i : Item) → is_ensemble i ≡ false
    → (listener_after past).tuned ≡ true
    → findings_at (known_of step period past) i ≡ cond i.next (next_findings (known_of step period past) i.raw)
    (current_findings (known_of step period past) i.raw)
member_found step period past i e t = cc (e, t)

pub member_room : (step period : ℕ) (past : List Moment) (i : Item) → is_ensemble i ≡ false
    → (listener_after past).tuned ≡ true
    → has_no_room (known_of step period past) i ≡ finds_no_room
    (lookup_in i.raw (cond i.next (listener_after past).next (listener_after past).current))
member_room step period past i e t = cc (e, t)

-- with C/N 0
pub current_kept : (step period : ℕ) (past : List Moment) (i : Item) → is_ensemble i ≡ false
    → (listener_after past).tuned ≡ true → i.next ≡ false
    → IsClean step period (Said i ∷ past) → IsKept period past i
current_kept step period past i e t n c =
    let now : Pictured = (listener_after past).current in
    let plain : AllByRecursion IsNoFault (current_findings (known_of step period past) i.raw) =
    subst (AllByRecursion IsNoFault) (member_found step period past i e t
    ∙ ap (λ b. cond b (next_findings (known_of step period past) i.raw)
    (current_findings (known_of step period past) i.raw)) n) c.0 in
    let both = first_fine (is_other_one (lookup_in i.raw now)) (faults.Changed (name_of i.raw)) _ plain in
    let known = no_fault (is_absent (lookup_in i.raw now) && is_settled (known_of step period past))
    (faults.Appeared (name_of i.raw)) both.1 in
    let room : finds_no_room (lookup_in i.raw now) ≡ false = cc (member_room step period past i e t, n, c.1) in
    record {
      agrees = λ k is. agrees i.raw now k both.0 is;
      there = λ settled.
          let found = there i.raw now (is_settled (known_of step period past))
          (le-leb (settles_at period past) (frames_ended past) settled) room known in
          found.1 ∙ ap Some (agrees i.raw now found.0 both.0 found.1);
    }

pub current_is_kept : CurrentIsKept
current_is_kept size step period frames past i f s m n =
    let parts = member_parts past i m in
    current_kept step period past i parts.0 parts.1 n (entry_clean size step period frames past i f s)

-- ---- with C/N 1

pub record IsNextKept (past : List Moment) (i : Item) : Type 0 where
  pub agrees : (known : Raw) → entry_like i.raw (listener_after past).next ≡ Some known → known ≡ i.raw
  pub room : finds_no_room (lookup_in i.raw (listener_after past).next) ≡ false
  pub early : has_begun past ≡ false → has_ensemble past ≡ false

turned : (b e : Bool) → (not b && e) ≡ false → b ≡ false → e ≡ false
turned true e h is = absurd (false≢true (sym is))
turned false e h is = h

pub next_kept : (step period : ℕ) (past : List Moment) (i : Item) → is_ensemble i ≡ false
    → (listener_after past).tuned ≡ true → i.next ≡ true
    → IsClean step period (Said i ∷ past) → IsNextKept past i
next_kept step period past i e t n c =
    let next : Pictured = (listener_after past).next in
    let plain : AllByRecursion IsNoFault (next_findings (known_of step period past) i.raw) =
    subst (AllByRecursion IsNoFault) (member_found step period past i e t
    ∙ ap (λ b. cond b (next_findings (known_of step period past) i.raw)
    (current_findings (known_of step period past) i.raw)) n) c.0 in
    let both = first_fine (not (has_begun past) && has_ensemble past) faults.NextUnannounced _ plain in
    let same = no_fault (is_other_one (lookup_in i.raw next)) (faults.NextChanged (name_of i.raw)) both.1 in
    record {
      agrees = λ k is. agrees i.raw next k same is;
      room = sym (member_room step period past i e t ∙ ap
          (λ b. finds_no_room (lookup_in i.raw (cond b next (listener_after past).current))) n) ∙ c.1;
      early = λ is. turned (has_begun past) (has_ensemble past) both.0 is;
    }

-- ---- what a listener knows after it

abbrev pub with_member : Bool → Raw → Listening → Listening
with_member true raw l = record l { next = picture_with raw l.next }
with_member false raw l = record l { current = picture_with raw l.current }

abbrev pub listened : Item → Listening → Listening
listened i l = cond (is_ensemble i) (at_ensemble (ensemble_of_item i) l) (cond l.tuned (with_member i.next i.raw l) l)

taken : (next : Bool) (raw : Raw) (l : Listening) → finds_no_room (lookup_in raw (cond next l.next l.current)) ≡ false
    → into next l (pictured raw (picture_of next l)) ≡ Some (with_member next raw l)
taken true raw l room = ap (into true l) (taken_in raw l.next room)
taken false raw l room = ap (into false l) (taken_in raw l.current room)

heard_by : (step period : ℕ) (past : List Moment) (i : Item) (l : Listening) (b : Bool) → is_ensemble i ≡ b
    → listening past ≡ Some l → has_no_room (known_of step period past) i ≡ false
    → listening (Said i ∷ past)
    ≡ Some (cond b (at_ensemble (ensemble_of_item i) l) (cond l.tuned (with_member i.next i.raw l) l))
heard_by step period past i l true e h room = ensemble_heard past i l e h
heard_by step period past i l false e h room =
    let same : listener_after past ≡ l = after_is past l h in
    member_heard past i l h ∙ member_entry i.next i.raw l e
    ∙ elim l.tuned as (λ t. l.tuned ≡ t → cond t (into i.next l (pictured i.raw (picture_of i.next l))) (Some l)
    ≡ Some (cond t (with_member i.next i.raw l) l)) [
      | true ↦ λ t.
          let free : finds_no_room (lookup_in i.raw (cond i.next l.next l.current)) ≡ false =
          cc (same, member_room step period past i e (ap (λ (x : Listening). x.tuned) same ∙ t), room) in
          taken i.next i.raw l free
      | false ↦ λ t. refl
    ] refl

pub hears : (step period : ℕ) (past : List Moment) → IsClean step period past → (l : Listening)
    × (listening past ≡ Some l)
hears step period [] c = (untuned, refl)
hears step period (Said i ∷ past) c =
    let before = hears step period past c.2 in
    (listened i before.0, heard_by step period past i before.0 (is_ensemble i) refl before.1 c.1)
hears step period (Ended count ∷ past) c = hears step period past c

pub after_said : (step period : ℕ) (past : List Moment) (i : Item) → IsClean step period (Said i ∷ past)
    → listener_after (Said i ∷ past) ≡ listened i (listener_after past)
after_said step period past i c =
    let before = hears step period past c.2 in
    let now = heard_by step period past i before.0 (is_ensemble i) refl before.1 c.1 in
    after_is (Said i ∷ past) (listened i before.0) now ∙ ap (listened i) (sym (after_is past before.0 before.1))

pub after_ensemble : (step period : ℕ) (past : List Moment) (i : Item) → IsClean step period (Said i ∷ past)
    → is_ensemble i ≡ true → listener_after (Said i ∷ past) ≡ at_ensemble (ensemble_of_item i) (listener_after past)
after_ensemble step period past i c e = cc (after_said step period past i c, e)

pub after_member : (step period : ℕ) (past : List Moment) (i : Item) → IsClean step period (Said i ∷ past)
    → is_ensemble i ≡ false
    → listener_after (Said i ∷ past) ≡ cond (listener_after past).tuned (with_member i.next i.raw (listener_after past))
    (listener_after past)
after_member step period past i c e = cc (after_said step period past i c, e)

awaited_with : (next : Bool) (raw : Raw) (l : Listening) → (with_member next raw l).awaited ≡ l.awaited
awaited_with true raw l = refl
awaited_with false raw l = refl

awaited_by : (t next : Bool) (raw : Raw) (l : Listening) → (cond t (with_member next raw l) l).awaited ≡ l.awaited
awaited_by true next raw l = awaited_with next raw l
awaited_by false next raw l = refl

pub awaited_member : (step period : ℕ) (past : List Moment) (i : Item) → IsClean step period (Said i ∷ past)
    → is_ensemble i ≡ false → (listener_after (Said i ∷ past)).awaited ≡ (listener_after past).awaited
awaited_member step period past i c e =
    cc (after_member step period past i c e, awaited_by (listener_after past).tuned i.next i.raw (listener_after past))

-- ---- a FIG 0/0

pub ensemble_made : (past : List Moment) (i : Item) → is_ensemble i ≡ true
    → is_swap past i ≡ is_made (listener_after past).awaited (ensemble_of_item i)
ensemble_made past i e = ap (λ t. t && is_made (listener_after past).awaited (ensemble_of_item i)) e

pub ensemble_flags : (i : Item) → is_ensemble i ≡ true → is_flagged i ≡ has_flags (ensemble_of_item i)
ensemble_flags i e = ap (λ t. t && not ((ensemble_of_item i).change == 0)) e

begins_is : (past : List Moment) (i : Item) (f : Bool) → is_ensemble i ≡ true → is_flagged i ≡ f
    → begins_notice past i ≡ f
begins_is past i f e fl = cc (fl, ensemble_no_member past i e, or_false f)

pub begun_is : (past : List Moment) (i : Item) (b f : Bool) → is_ensemble i ≡ true → is_swap past i ≡ b
    → is_flagged i ≡ f → has_begun (Said i ∷ past) ≡ cond b f (has_begun past || f)
begun_is past i b f e sw fl = cc (sw, fl, begins_is past i f e fl)

pub begun_flagged : (past : List Moment) (i : Item) (b : Bool) → is_ensemble i ≡ true → is_swap past i ≡ b
    → is_flagged i ≡ true → has_begun (Said i ∷ past) ≡ true
begun_flagged past i b e sw fl = begun_is past i b true e sw fl ∙ by b
  where
    by : (t : Bool) → cond t true (has_begun past || true) ≡ true
    by true = refl
    by false = or_true (has_begun past)

pub times_are : (past : List Moment) (i : Item) (b f : Bool) → is_swap past i ≡ b → is_flagged i ≡ f
    → times_announced (Said i ∷ past) ≡ cond b (cond f 1 0) (times_announced past + cond f 1 0)
times_are past i b f sw fl = cc (sw, fl)

pub flags_are : (past : List Moment) (i : Item) (f : Bool) → is_flagged i ≡ f
    → last_flags (Said i ∷ past) ≡ cond f (ensemble_of_item i).change (last_flags past)
flags_are past i f fl = ap (λ t. cond t (ensemble_of_item i).change (last_flags past)) fl

pub rows_are : (past : List Moment) (i : Item) (b : Bool) → is_swap past i ≡ b
    → rows (Said i ∷ past) ≡ cond b [] (rows past)
rows_are past i b sw = ap (λ t. cond t [] (rows past)) sw

pub row_is : (past : List Moment) (i : Item) (b : Bool) → is_ensemble i ≡ true → is_swap past i ≡ b
    → row_at_hand (Said i ∷ past) ≡ cond b [] (row_at_hand past)
row_is past i b e sw = rw (sw, ensemble_no_member past i e, append-nil (row_at_hand past))

pub after_heard : (step period : ℕ) (past : List Moment) (i : Item) (b f : Bool) → IsClean step period (Said i ∷ past)
    → is_ensemble i ≡ true → is_swap past i ≡ b → is_flagged i ≡ f
    → listener_after (Said i ∷ past) ≡ heard_as b f (ensemble_of_item i) (listener_after past)
after_heard step period past i b f c e sw fl =
    after_ensemble step period past i c e
    ∙ heard_is (ensemble_of_item i) (listener_after past) b f (sym (ensemble_made past i e) ∙ sw)
    (sym (ensemble_flags i e) ∙ fl)

-- ---- its rules

pub record IsPlainEnsemble (k : KnownBefore) (first : Bool) (e : EnsembleInformation) : Type 0 where
  pub first_one : first ≡ true
  pub on_step : e.count % k.step ≡ 0
  pub eid : is_other e.eid k.eid ≡ false
  pub count : is_other e.count k.due ≡ false
  pub again : makes_swap k e ≡ false → announces_another k e ≡ false
  pub flagged : k.began_early ≡ true → has_flags e ≡ true
  pub swap : makes_swap k e ≡ true → AllByRecursion IsNoFault (swap_findings k e)

flags_where : (f b : Bool) → (not f && b) ≡ false → b ≡ true → f ≡ true
flags_where true b h is = refl
flags_where false b h is = absurd (false≢true (sym h ∙ is))

plain_rules : (k : KnownBefore) (first : Bool) (e : EnsembleInformation)
    → AllByRecursion IsNoFault (ensemble_findings k first e) → IsPlainEnsemble k first e
plain_rules k first e all =
    let place = all_left IsNoFault (place_faults k first e) _ all in
    let rest = all_right IsNoFault (place_faults k first e) _ all in
    let swap = all_left IsNoFault (swap_or_another k e) _ rest in
    let last = all_right IsNoFault (announcement k e) _ (all_right IsNoFault (swap_or_another k e) _ rest) in
    let one = first_fine (is_of_other_ensemble k first e) (faults.OtherEnsemble e.eid) _ place in
    let two = first_fine (has_other_count k first e) (faults.Count (unwrap_or k.due 0)) _ one.1 in
    let placed = not-false (is_placed k first e) (no_fault (not (is_placed k first e)) faults.OutOfPlace two.1) in
    record {
      first_one = first_holds first (e.count % k.step == 0) placed;
      on_step = eqb-true (e.count % k.step) 0 (second_holds first (e.count % k.step == 0) placed);
      eid = second_false (is_placed k first e) (is_other e.eid k.eid) placed one.0;
      count = second_false (is_placed k first e) (is_other e.count k.due) placed two.0;
      again = λ not_so.
          let only = subst (λ (b : Bool). AllByRecursion IsNoFault
          (cond b (swap_findings k e)
          (when (announces_another k e) (faults.AnnouncedAgain e.change (occurrence_of e))))) not_so swap in
          no_fault (announces_another k e) (faults.AnnouncedAgain e.change (occurrence_of e)) only;
      flagged = λ is. flags_where _ _ (no_fault (not (has_flags e) && k.began_early) faults.NextUnannounced last) is;
      swap = λ so. subst (λ (b : Bool). AllByRecursion IsNoFault
          (cond b (swap_findings k e)
          (when (announces_another k e) (faults.AnnouncedAgain e.change (occurrence_of e))))) so swap;
    }

pub plain_ensemble : (step period : ℕ) (past : List Moment) (i : Item) → IsClean step period (Said i ∷ past)
    → is_ensemble i ≡ true → IsPlainEnsemble (known_of step period past) i.first (ensemble_of_item i)
plain_ensemble step period past i c e =
    plain_rules (known_of step period past) i.first (ensemble_of_item i)
    (subst (λ (b : Bool). AllByRecursion IsNoFault
    (cond b (ensemble_findings (known_of step period past) i.first (ensemble_of_item i))
    (member_findings (known_of step period past) i.next i.raw))) e c.0)

-- flags are not 0
pub some_flags : (n : ℕ) → not (n == 0) ≡ true → 0 < n
some_flags zero h = absurd (false≢true h)
some_flags (suc n) h = omega arith

-- flags come with an occurrence change
pub occurrence_is : (i : Item) → has_flags (ensemble_of_item i) ≡ true
    → (ensemble_of_item i).occurrence ≡ Some (get_or i.raw.bytes 4 0)
occurrence_is i f = ap (λ t. cond t None (Some (get_or i.raw.bytes 4 0)))
    (not-true ((ensemble_of_item i).change == 0) f)

-- an awaited swap is announced again with the same values
pub not_another : (aw : Option ℕ) (low change flags occurrence : ℕ) → aw ≡ Some low
    → (has_low aw && (not (change == flags) || not (occurrence == unwrap_or aw 0))) ≡ false → (change ≡ flags)
    × (occurrence ≡ low)
not_another None low change flags occurrence e h = absurd cc
not_another (Some a) low change flags occurrence e h =
    let both = or_parts (not (change == flags)) (not (occurrence == a)) h in (
      eqb-true change flags (not-false (change == flags) both.0),
      eqb-true occurrence a (not-false (occurrence == a) both.1) ∙ cc,
    )

-- no swap is awaited where a FIG 0/0 without flags makes none
pub nothing_awaited : (aw : Option ℕ) (e : EnsembleInformation) → is_made aw e ≡ false → has_flags e ≡ false → aw ≡ None
nothing_awaited None e made none = refl
nothing_awaited (Some low) e made none =
    absurd (false≢true (sym made ∙ ap (λ t. t || (e.count % 250 == low)) (not-false (e.change == 0) none)))
