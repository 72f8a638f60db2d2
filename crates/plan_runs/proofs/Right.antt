-- The bytes of every frame are correct.
use Rattle.plan_runs.proofs.Words.{[], ◌%◌, ◌*◌, ◌++◌, ◌+◌, ◌/◌, ◌<◌, ◌==◌, ◌∙◌, ◌∷◌, ◌≡◌, ◌≢◌, ◌≤◌, ◌⊎◌}
use Rattle.plan_runs.proofs.Words.{AllByRecursion, AreFibs, AreSendable, Bool, Configuration, Contains}
use Rattle.plan_runs.proofs.Words.{Contains-append_cases, EachInAPage, EnsembleInformation, EnsembleIsCarried}
use Rattle.plan_runs.proofs.Words.{EnsembleOf, Entry, FrameLayout, I, IfSome, IsConfiguration, IsEnsembleInformation}
use Rattle.plan_runs.proofs.Words.{IsEnsembleOf, IsFlaggedBy, IsHeadedBy, IsHeardInRow, IsInFig, IsNoHeader, IsPageable}
use Rattle.plan_runs.proofs.Words.{IsRight, IsUnheaded, IsValid, List, Marked, Mode, None, Open, Option, Other}
use Rattle.plan_runs.proofs.Words.{PageSetsArePageable, PagesAreHeard, PagesAreValid, Plan, ReserveOne, ReserveTwo}
use Rattle.plan_runs.proofs.Words.{Some, State, Whole, Written, and_parts, announced_next, ap, arith, bit_of, bits_of}
use Rattle.plan_runs.proofs.Words.{change_of, cond, count_step, drop, drop-drop, each_in_a_page, ensemble_figs}
use Rattle.plan_runs.proofs.Words.{ensemble_is_heard, ensemble_of, ensemble_sent, entries_in_fib, entries_where}
use Rattle.plan_runs.proofs.Words.{entry_bytes, eq-eqb, eqb-true, ext_of, facts_of, false, fib_at, fib_count, fig_bytes}
use Rattle.plan_runs.proofs.Words.{fig_of, figs_of, first_fib, frame_fibs, has_same_services, has_same_subs, head_byte}
use Rattle.plan_runs.proofs.Words.{head_of, inl, inr, is_noticed, is_same_list, is_same_packet, is_same_service}
use Rattle.plan_runs.proofs.Words.{is_same_sub, later_fibs, layout_mode, length, low_of_swap, map, marked, not, packing}
use Rattle.plan_runs.proofs.Words.{page_entries, page_figs, page_set, page_sets_are_pageable, pages_are_heard}
use Rattle.plan_runs.proofs.Words.{pages_are_valid, refl, replicate, reserved_fibs, reserved_figs, same_head}
use Rattle.plan_runs.proofs.Words.{sendable_where, sent_entries, shown_bytes, slice_get, subst, suc, sym, take, true}
use Rattle.plan_runs.proofs.Words.{used_fibs, with_entry_first, zero, ℕ}
use Rattle.mux_config.proofs.Same.{list_same, sub_same, service_same, packet_same}
use Rattle.plan_runs.proofs.Knowledge.{CommittedBy}
use Rattle.plan_runs.proofs.Tracked.{Airs}

-- ---- the laws of pages that are used

pub record PageLaws : Type 0 where
  pub each : EachInAPage
  pub pageable : PageSetsArePageable
  pub valid : PagesAreValid
  pub heard : PagesAreHeard
  pub ensemble : EnsembleIsCarried

pub page_laws : PageLaws
page_laws = record {
  each = each_in_a_page;
  pageable = page_sets_are_pageable;
  valid = pages_are_valid;
  heard = pages_are_heard;
  ensemble = ensemble_is_heard;
}

-- ---- every change sets a change flag

not_both : (a b : Bool) → (cond (not a) 1 0) + (cond (not b) 2 0) ≡ 0 → (a ≡ true) × (b ≡ true)
not_both true true e = (refl, refl)
not_both _ _ e = absurd (omega (arith, e))

unchanged : (c n : Configuration) → bits_of (change_of c n) ≡ 0 → n ≡ c
unchanged c n e =
    let both = not_both (has_same_subs c n) (has_same_services c n) e in
    let parts = and_parts (is_same_list is_same_service c.services n.services)
    (is_same_list is_same_packet c.packets n.packets) both.1 in
    let subs : c.subs ≡ n.subs = list_same is_same_sub sub_same c.subs n.subs both.0 in
    let services : c.services ≡ n.services = list_same is_same_service service_same c.services n.services parts.0 in
    let packets : c.packets ≡ n.packets = list_same is_same_packet packet_same c.packets n.packets parts.1 in
    sym (λ i. record { subs = subs i; services = services i; packets = packets i })

bits_below : (a b : Bool) → (cond a 1 0) + (cond b 2 0) < 4
bits_below true true = omega arith
bits_below true false = omega arith
bits_below false true = omega arith
bits_below false false = omega arith

change_some : (c n : Configuration) → n ≢ c → 0 < bits_of (change_of c n)
change_some c n apart = by (bits_of (change_of c n)) refl
  where
    by : (k : ℕ) → bits_of (change_of c n) ≡ k → 0 < bits_of (change_of c n)
    by zero e = absurd (apart (unchanged c n e))
    by (suc k) e = omega (arith, e)

-- ---- FIG 0/0 of a state

pub plain_within : (eid count : ℕ) → eid < 65536 → count < 5000
    → IsEnsembleInformation (record { eid = eid; change = 0; al = false; count = count; occurrence = None })
plain_within eid count e c = record {
  eid = e;
  change = omega arith;
  count = c;
  flagged = (λ none. absurd cc, λ some. absurd (omega (arith, some)));
  occurrence = tt;
}

pub flagged_within : (eid count change low : ℕ) → eid < 65536 → count < 5000 → change < 4 → 0 < change → low < 256
    → IsEnsembleInformation (record { eid = eid; change = change; al = false; count = count; occurrence = Some low })
flagged_within eid count change low e c b some l =
    record { eid = e; change = b; count = c; flagged = (λ there. some, λ more. refl); occurrence = l }

committed_changes : (plan : Plan) (left : Option ℕ) (c n : Configuration) → is_noticed plan.notice left ≡ true
    → CommittedBy plan left c n → n ≢ c
committed_changes plan None c n e h = absurd cc
committed_changes plan (Some l) c n e h = h.changes

low_below : (count : ℕ) (left : Option ℕ) → low_of_swap count left < 256
low_below count None = omega arith
low_below count (Some l) = omega arith

ensemble_by : (plan : Plan) (s : State) → Airs plan s → (b : Bool) → is_noticed plan.notice s.left ≡ b
    → IsEnsembleInformation
    (cond b (let r : EnsembleInformation = record {
      eid = s.eid;
      change = bits_of (change_of s.current s.next);
      al = false;
      count = s.count;
      occurrence = Some (low_of_swap s.count s.left);
    } in r)
    (record { eid = s.eid; change = 0; al = false; count = s.count; occurrence = None }))
ensemble_by plan s h true e =
    flagged_within s.eid s.count (bits_of (change_of s.current s.next)) (low_of_swap s.count s.left) h.eid h.count
    (bits_below (change_of s.current s.next).subs (change_of s.current s.next).services)
    (change_some s.current s.next (committed_changes plan s.left s.current s.next e h.committed))
    (low_below s.count s.left)
ensemble_by plan s h false e = plain_within s.eid s.count h.eid h.count

pub ensemble_within : (plan : Plan) (s : State) → Airs plan s → IsEnsembleInformation (ensemble_of plan s)
ensemble_within plan s h = ensemble_by plan s h (is_noticed plan.notice s.left) refl

sent_within_by : (plan : Plan) (s : State) → Airs plan s → (b : Bool)
    → IfSome (cond b (Some (ensemble_of plan s)) None) IsEnsembleInformation
sent_within_by plan s h true = ensemble_within plan s h
sent_within_by plan s h false = tt

next_is : (plan : Plan) (s : State) → Airs plan s → (b : Bool) → IfSome (cond b (Some s.next) None) IsConfiguration
next_is plan s h true = h.next
next_is plan s h false = tt

-- what a state sends can be packed
pub pageable : PageLaws → (plan : Plan) (s : State) → Airs plan s
    → IsPageable (ensemble_sent plan s) (sent_entries plan s)
pageable laws plan s h =
    laws.pageable s.current (announced_next plan s) (ensemble_sent plan s) h.current
    (next_is plan s h (is_noticed plan.notice s.left))
    (sent_within_by plan s h (s.count % count_step (layout_mode plan.layout) == 0))

-- ---- the entries of a page

later_inside : (e : Marked) (es : List Marked) (m : Marked) → Contains es m → Contains (e ∷ es) m
later_inside e es m h = (suc h.0, omega (arith, h.1), h.2)

first_inside : (e m : Marked) (es xs : List Marked) → (Contains xs m → Contains es m) → Contains (e ∷ xs) m
    → Contains (e ∷ es) m
first_inside e m es xs f (zero, lt, is) = (0, omega arith, is)
first_inside e m es xs f (suc k, lt, is) = later_inside e es m (f (k, omega (arith, lt), is))

where_by : (e : Marked) (es xs : List Marked) (m : Marked) → (Contains xs m → Contains es m) → (b : Bool)
    → Contains (cond b (e ∷ xs) xs) m → Contains (e ∷ es) m
where_by e es xs m f true h = first_inside e m es xs f h
where_by e es xs m f false h = later_inside e es m (f h)

where_inside : (test : ℕ → Bool) (es : List Marked) (ns : List ℕ) (m : Marked) → Contains (entries_where test es ns) m
    → Contains es m
where_inside test [] ns m h = h
where_inside test (e ∷ es) [] m h = absurd (omega (arith, h.1))
where_inside test (e ∷ es) (n ∷ ns) m h = where_by e es _ m (where_inside test es ns m) _ h

pub page_inside : (layout : FrameLayout) (k : ℕ) (es : List Marked) (m : Marked) → Contains (page_entries layout k es) m
    → Contains es m
page_inside layout k es m h = where_inside (λ n. n / used_fibs layout == k) es (packing layout es) m h

set_by : (c n : Configuration) (b : Bool) (m : Marked) → Contains (page_set c (cond b (Some n) None)) m
    → Contains (facts_of c false) m ⊎ ((b ≡ true) × Contains (facts_of n true) m)
set_by c n false m h = inl h
set_by c n true m h = elim (Contains-append_cases (facts_of c false) (facts_of n true) m h)
    [ inl here ↦ inl here | inr there ↦ inr (refl, there) ]

entries_right : PageLaws → (plan : Plan) (s : State) → Airs plan s → (m : Marked) → IsHeardInRow (shown_bytes plan s) m
    → Contains (facts_of s.current false) m
    ⊎ ((is_noticed plan.notice s.left ≡ true) × Contains (facts_of s.next true) m)
entries_right laws plan s h m heard =
    let inside = (laws.heard plan.layout (ensemble_sent plan s) s.page_index (sent_entries plan s)
    (pageable laws plan s h) m).0 heard in
    set_by s.current s.next (is_noticed plan.notice s.left) m (page_inside _ _ _ m inside)

-- ---- FIGs that are not FIG 0/0

-- a FIG with a head of extension 1 to 3
abbrev IsOrganized : Written → Type 0
IsOrganized w = (1 ≤ w.head.ext) × (w.head.ext ≤ 3) × (w.head.oe ≡ false)

pub ext_low : (e : Entry) → ext_of e ≤ 3
ext_low (EnsembleOf e) = omega arith
ext_low _ = omega arith

head_organized : (m : Marked) (es : List Entry) → 1 ≤ ext_of m.entry
    → IsOrganized (record { head = head_of m; entries = es })
head_organized m es some = (some, ext_low m.entry, refl)

join_by : (m : Marked) (f : Written) (fs : List Written) → 1 ≤ ext_of m.entry → IsOrganized f
    → AllByRecursion IsOrganized fs → (b : Bool)
    → AllByRecursion IsOrganized
    (cond b ((let w : Written = record { head = f.head; entries = m.entry ∷ f.entries } in w) ∷ fs)
    ((let w : Written = record { head = head_of m; entries = m.entry ∷ [] } in w) ∷ f ∷ fs))
join_by m f fs some h hs true = (h, hs)
join_by m f fs some h hs false = (head_organized m (m.entry ∷ []) some, (h, hs))

join_organized : (m : Marked) (fs : List Written) → 1 ≤ ext_of m.entry → AllByRecursion IsOrganized fs
    → AllByRecursion IsOrganized (with_entry_first m fs)
join_organized m [] some h = (head_organized m (m.entry ∷ []) some, tt)
join_organized m (f ∷ fs) some h = join_by m f fs some h.0 h.1 (same_head (head_of m) f.head)

figs_organized : (ms : List Marked) → AreSendable ms → AllByRecursion IsOrganized (figs_of ms)
figs_organized [] h = tt
figs_organized (m ∷ ms) h = join_organized m (figs_of ms) h.0.organization (figs_organized ms h.1)

pub flag_le : (b : Bool) → bit_of b ≤ 1
flag_le true = omega arith
flag_le false = omega arith

not_ours : (oe : Bool) (second : ℕ) (bytes : List ℕ) (es : List (List ℕ)) → 1 ≤ second % 32
    → IsNoHeader (cond oe (Other bytes) (Open second es))
not_ours true second bytes es some h = h
not_ours false second bytes es some h = omega (arith, some, h)

no_header : (w : Written) → IsOrganized w → IsNoHeader (fig_of w)
no_header w h =
    let some : 1 ≤ head_byte w.head % 32 = omega (arith, h.0) in
    not_ours w.head.oe (head_byte w.head) (fig_bytes w.head w.entries) (map entry_bytes w.entries) some

no_headers : (fs : List Written) → AllByRecursion IsOrganized fs → AllByRecursion IsNoHeader (map fig_of fs)
no_headers [] h = tt
no_headers (w ∷ ws) h = (no_header w h.0, no_headers ws h.1)

-- ---- the FIBs of a page

-- FIB n of these FIBs
pub record IsFibAt (all : List (List Written)) (bytes : List ℕ) (n : ℕ) : Type 0 where
  pub figs : List Written
  pub there : slice_get all n ≡ Some figs
  pub valid : IsValid (fib_at bytes n) (map fig_of figs)

fib_is : (all : List (List Written)) (bytes : List ℕ) → AreFibs all bytes → (n : ℕ) → n < length all
    → IsFibAt all bytes n
fib_is [] bytes h n below = absurd (omega (arith, below))
fib_is (figs ∷ rest) bytes h zero below = record { figs = figs; there = refl; valid = h.0 }
fib_is (figs ∷ rest) bytes h (suc n) below =
    let later = fib_is rest (drop 32 bytes) h.1 n (omega (arith, below)) in
    let places = drop-drop (32 * n) 32 bytes ∙ ap (λ k. drop k bytes) (omega arith) in
    record {
      figs = later.figs;
      there = later.there;
      valid = subst (λ (b : List ℕ). IsValid (take 32 b) (map fig_of later.figs)) places later.valid;
    }

page_length : (layout : FrameLayout) (o : Option EnsembleInformation) (k : ℕ) (ms : List Marked)
    → length (page_figs layout o k ms) ≡ frame_fibs layout
page_length (Whole I) o k ms = refl
page_length (Whole _) o k ms = refl
page_length (ReserveOne I) o k ms = refl
page_length (ReserveOne _) o k ms = refl
page_length ReserveTwo o k ms = refl

-- the reserved FIBs have no FIGs
reserved_organized : (count n : ℕ) (figs : List Written)
    → (let none : List (List Written) = replicate count [] in slice_get none n) ≡ Some figs
    → AllByRecursion IsOrganized figs
reserved_organized zero n figs e = absurd cc
reserved_organized (suc count) zero figs e =
    let same : [] ≡ figs = cc e in
    subst (λ (f : List Written). AllByRecursion IsOrganized f) same tt
reserved_organized (suc count) (suc n) figs e = reserved_organized count n figs e

mapped_organized : (layout : FrameLayout) (ms : List Marked) → AreSendable ms
    → (ns : List ℕ) (n : ℕ) (figs : List Written)
    → slice_get (map (λ m. figs_of (entries_in_fib m ms (packing layout ms))) ns ++ reserved_figs layout) n ≡ Some figs
    → AllByRecursion IsOrganized figs
mapped_organized layout ms h [] n figs e = reserved_organized (reserved_fibs layout) n figs e
mapped_organized layout ms h (m ∷ ns) zero figs e =
    subst (λ (f : List Written). AllByRecursion IsOrganized f) (cc e)
    (figs_organized (entries_in_fib m ms (packing layout ms))
    (sendable_where (λ x. x == m) ms (packing layout ms) h))
mapped_organized layout ms h (m ∷ ns) (suc n) figs e = mapped_organized layout ms h ns n figs e

later_figs : (layout : FrameLayout) (o : Option EnsembleInformation) (k : ℕ) (ms : List Marked) → AreSendable ms
    → (n : ℕ) (figs : List Written) → 1 ≤ n → slice_get (page_figs layout o k ms) n ≡ Some figs
    → AllByRecursion IsOrganized figs
later_figs layout o k ms h zero figs some e = absurd (omega (arith, some))
later_figs layout o k ms h (suc n) figs some e = mapped_organized layout ms h (later_fibs layout k) n figs e

-- ---- the frame

valid_at : PageLaws → (plan : Plan) (s : State) → Airs plan s → (n : ℕ) → n < frame_fibs plan.layout
    → IsFibAt (page_figs plan.layout (ensemble_sent plan s) s.page_index (sent_entries plan s)) (shown_bytes plan s) n
valid_at laws plan s h n below =
    let figs : List (List Written) = page_figs plan.layout (ensemble_sent plan s) s.page_index (sent_entries plan s) in
    let long = page_length plan.layout (ensemble_sent plan s) s.page_index (sent_entries plan s) in
    let are = (laws.valid plan.layout (ensemble_sent plan s) s.page_index (sent_entries plan s)
    (pageable laws plan s h)).0 in
    fib_is figs (shown_bytes plan s) are n (omega (arith, below, long))

some_fibs : (mode : Mode) → 0 < fib_count mode
some_fibs I = omega arith
some_fibs _ = omega arith

first_sendable : PageLaws → (plan : Plan) (s : State) → Airs plan s → AreSendable (sent_entries plan s)
first_sendable laws plan s h = (pageable laws plan s h).entries

-- the first FIB, with or without FIG 0/0
abbrev FirstFigs : Plan → State → Option EnsembleInformation → List Written
FirstFigs plan s o = ensemble_figs o
    ++ figs_of (entries_in_fib (first_fib plan.layout s.page_index) (sent_entries plan s)
    (packing plan.layout (sent_entries plan s)))

first_valid : PageLaws → (plan : Plan) (s : State) → Airs plan s → (o : Option EnsembleInformation)
    → ensemble_sent plan s ≡ o → IsValid (fib_at (shown_bytes plan s) 0) (map fig_of (FirstFigs plan s o))
first_valid laws plan s h o e =
    let at = valid_at laws plan s h 0 (some_fibs (layout_mode plan.layout)) in
    let now : FirstFigs plan s o ≡ at.figs = sym (ap (FirstFigs plan s) e) ∙ (cc at.there) in
    subst (λ (f : List Written). IsValid (fib_at (shown_bytes plan s) 0) (map fig_of f)) (sym now) at.valid

others_organized : PageLaws → (plan : Plan) (s : State) → Airs plan s
    → AllByRecursion IsOrganized
    (figs_of (entries_in_fib (first_fib plan.layout s.page_index) (sent_entries plan s)
    (packing plan.layout (sent_entries plan s))))
others_organized laws plan s h =
    let es : List Marked = sent_entries plan s in
    figs_organized _ (sendable_where (λ x. x == first_fib plan.layout s.page_index) es _ (first_sendable laws plan s h))

-- the content of FIG 0/0
flagged_right : (plan : Plan) (s : State) (left : Option ℕ) → (e : EnsembleInformation)
    → is_noticed plan.notice left ≡ true
    → e.change ≡ bits_of (change_of s.current s.next) → e.occurrence ≡ Some (low_of_swap s.count left)
    → IsFlaggedBy s left e
flagged_right plan s None e noticed change occurrence = absurd cc
flagged_right plan s (Some l) e noticed change occurrence = (change, occurrence)

ensemble_right_by : (plan : Plan) (s : State) (b : Bool) → is_noticed plan.notice s.left ≡ b
    → IsEnsembleOf plan s
    (cond b (let r : EnsembleInformation = record {
      eid = s.eid;
      change = bits_of (change_of s.current s.next);
      al = false;
      count = s.count;
      occurrence = Some (low_of_swap s.count s.left);
    } in r)
    (record { eid = s.eid; change = 0; al = false; count = s.count; occurrence = None }))
ensemble_right_by plan s true e =
    let info : EnsembleInformation =
    record {
      eid = s.eid;
      change = bits_of (change_of s.current s.next);
      al = false;
      count = s.count;
      occurrence = Some (low_of_swap s.count s.left);
    } in
    record {
      eid = refl;
      alarm = refl;
      count = refl;
      flagged = λ noticed. flagged_right plan s s.left info noticed refl refl;
      unflagged = λ not_so. let clash : true ≡ false = sym e ∙ not_so in absurd cc;
    }
ensemble_right_by plan s false e =
    record {
      eid = refl;
      alarm = refl;
      count = refl;
      flagged = λ noticed. let clash : true ≡ false = sym noticed ∙ e in absurd cc;
      unflagged = λ not_so. (refl, refl);
    }

pub ensemble_right : (plan : Plan) (s : State) → IsEnsembleOf plan s (ensemble_of plan s)
ensemble_right plan s = ensemble_right_by plan s (is_noticed plan.notice s.left) refl

pub is_sent : (plan : Plan) (s : State) → s.count % count_step (layout_mode plan.layout) ≡ 0
    → ensemble_sent plan s ≡ Some (ensemble_of plan s)
is_sent plan s e = ap (λ (b : Bool). cond b (Some (ensemble_of plan s)) None)
    (eq-eqb (s.count % count_step (layout_mode plan.layout)) 0 e)

not_sent_by : (plan : Plan) (s : State) (b : Bool) → (s.count % count_step (layout_mode plan.layout) == 0) ≡ b
    → s.count % count_step (layout_mode plan.layout) ≢ 0 → cond b (Some (ensemble_of plan s)) None ≡ None
not_sent_by plan s true e apart = absurd (apart (eqb-true (s.count % count_step (layout_mode plan.layout)) 0 e))
not_sent_by plan s false e apart = refl

pub not_sent : (plan : Plan) (s : State) → s.count % count_step (layout_mode plan.layout) ≢ 0
    → ensemble_sent plan s ≡ None
not_sent plan s apart = not_sent_by plan s (s.count % count_step (layout_mode plan.layout) == 0) refl apart

says_it : (e : EnsembleInformation) → IsEnsembleInformation e
    → IsInFig (fig_of (record { head = head_of (marked false (EnsembleOf e)); entries = EnsembleOf e ∷ [] }))
    (marked false (EnsembleOf e))
says_it e within = (
  entry_bytes (EnsembleOf e),
  (0, omega arith, refl),
  record { ext = refl; next = refl; long = λ two. absurd (omega (arith, two)); spelled = refl; within = within },
)

headed : PageLaws → (plan : Plan) (s : State) → Airs plan s → s.count % count_step (layout_mode plan.layout) ≡ 0
    → IsHeadedBy plan s (fib_at (shown_bytes plan s) 0)
headed laws plan s h whole =
    let e : EnsembleInformation = ensemble_of plan s in
    let rest : List Written = figs_of (entries_in_fib (first_fib plan.layout s.page_index) (sent_entries plan s)
    (packing plan.layout (sent_entries plan s))) in
    record {
      header = fig_of (record { head = head_of (marked false (EnsembleOf e)); entries = EnsembleOf e ∷ [] });
      others = map fig_of rest;
      information = e;
      first = (first_valid laws plan s h (Some e) (is_sent plan s whole)).fib;
      says = says_it e (ensemble_within plan s h);
      right = ensemble_right plan s;
      alone = no_headers rest (others_organized laws plan s h);
    }

unheaded : PageLaws → (plan : Plan) (s : State) → Airs plan s → s.count % count_step (layout_mode plan.layout) ≢ 0
    → IsUnheaded (fib_at (shown_bytes plan s) 0)
unheaded laws plan s h apart =
    let valid = first_valid laws plan s h None (not_sent plan s apart) in
    let rest : List Written = figs_of (entries_in_fib (first_fib plan.layout s.page_index) (sent_entries plan s)
    (packing plan.layout (sent_entries plan s))) in
    (map fig_of rest, valid.fib, no_headers rest (others_organized laws plan s h))

others_unheaded : PageLaws → (plan : Plan) (s : State) → Airs plan s → (n : ℕ) → 1 ≤ n → n < frame_fibs plan.layout
    → IsUnheaded (fib_at (shown_bytes plan s) n)
others_unheaded laws plan s h n some below =
    let at = valid_at laws plan s h n below in
    let organized = later_figs _ _ _ _ (first_sendable laws plan s h) n _ some at.there in
    (map fig_of at.figs, at.valid.fib, no_headers at.figs organized)

pub frame_right : PageLaws → (plan : Plan) (s : State) → Airs plan s → IsRight plan s (shown_bytes plan s)
frame_right laws plan s h = record {
  length_of_fibs = (laws.valid plan.layout (ensemble_sent plan s) s.page_index (sent_entries plan s)
      (pageable laws plan s h)).1;
  valid = λ n below. let at = valid_at laws plan s h n below in (map fig_of at.figs, at.valid);
  headed = headed laws plan s h;
  unheaded = unheaded laws plan s h;
  others_unheaded = others_unheaded laws plan s h;
  entries = entries_right laws plan s h;
}

pub sent_within : (plan : Plan) (s : State) → Airs plan s → IfSome (ensemble_sent plan s) IsEnsembleInformation
sent_within plan s h = sent_within_by plan s h (s.count % count_step (layout_mode plan.layout) == 0)
