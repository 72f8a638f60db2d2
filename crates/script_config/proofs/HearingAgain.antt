-- A listener hears the pages of a configuration one after another.
use Rattle.script_config.proofs.Words.{[], ◌%◌, ◌+◌, ◌/◌, ◌<◌, ◌≡◌, ◌≤◌, Bool, Configuration, EachInAPage}
use Rattle.script_config.proofs.Words.{EnsembleInformation, Entry, FrameLayout, IsConfiguration, Listening, None}
use Rattle.script_config.proofs.Words.{PageIsFibs, PagesAreHeardAgain, Plan, Raw, Shows, Some, ap, arith, at_ensemble}
use Rattle.script_config.proofs.Words.{cases_lt, cond, eq-eqb, false, frame_fibs, inl, inr, last_number, layout_mode}
use Rattle.script_config.proofs.Words.{marked, packing, page_frames, page_set, raw_entry, refl, rounds, subst, suc, sym}
use Rattle.script_config.proofs.Words.{true, untuned, used_fibs, zero, ℕ}
use Rattle.mux_config.specs.Sound.{IsSound}
use Rattle.fib_codec.specs.Modes.{count_step}
use Rattle.fib_carousel.specs.Carried.{PageSetsArePageable, PagesAreValid, PagesAreHeard, EnsembleIsCarried}
use Rattle.fib_reader.specs.Laws.{EnsembleIsHeard}
use Rattle.plan_code.specs.declared.hold.Hold.TheVariants.{Ended}
use Rattle.plan_code.specs.Machine.{State}
use Rattle.plan_runs.specs.Frames.{shown_bytes, ensemble_of, ensemble_sent}
use Rattle.plan_runs.specs.Listening.{HearsAll, fibs_from, fibs_of}
use Rattle.plan_runs.proofs.Right.{pageable}
use Rattle.plan_runs.proofs.Tracked.{Airs}
use Rattle.plan_runs.proofs.Contents.{Laws}
use Rattle.plan_runs.proofs.HeardFrame.{RowSaid, HearsFrame, frame_heard}
use Rattle.plan_runs.proofs.Hearing.{headed}
use Rattle.plan_runs.proofs.Knowing.{Ready, InFrame, headed_ready, headed_untuned, knows_after}
use Rattle.plan_runs.proofs.Parts.{In}
use Rattle.plan_runs.proofs.Pictures.{entries_of, in_fact, in_contains, all_shown}
use Rattle.plan_runs.proofs.Tuned.{Tuned, Or}
use Rattle.plan_runs.proofs.HeardFrames.{hears_join}

-- a plan that does nothing, and its state before the frame of a page
abbrev idle_plan : FrameLayout → ℕ → Configuration → Plan
idle_plan layout eid c = record {
  eid = eid;
  layout = layout;
  period = rounds layout (page_set c None);
  notice = 24;
  budget = 1;
}

abbrev at_page : (eid count : ℕ) → Configuration → ℕ → State
at_page eid count c k = record {
  current = c;
  next = c;
  left = None;
  pc = 0;
  hold = Ended;
  counters = [];
  contacts = record { 0 = 0 };
  count = count;
  day = 0;
  eid = eid;
  page_index = k;
}

pub record Steady (layout : FrameLayout) (eid count : ℕ) (c : Configuration) : Type 0 where
  pub formed : IsConfiguration c
  pub sound : IsSound c
  pub eid_below : eid < 65536
  pub count_below : count < 5000
  pub headed_at : count % count_step (layout_mode layout) ≡ 0

airs : (layout : FrameLayout) (eid count : ℕ) (c : Configuration) (k : ℕ) → Steady layout eid count c
    → k < rounds layout (page_set c None)
    → Airs (idle_plan layout eid c) (at_page eid count c k)
airs layout eid count c k s below = record {
  count = s.count_below;
  eid = s.eid_below;
  current = s.formed;
  next = s.formed;
  ahead = tt;
  on_air = record { sound = s.sound; within_period = omega arith };
  committed = tt;
  swaps = tt;
  page_index = below;
}

-- FIG 0/0 is sent in each frame
is_headed : (layout : FrameLayout) (eid count : ℕ) (c : Configuration) (k : ℕ) (l : Listening)
    → Steady layout eid count c
    → headed (ensemble_sent (idle_plan layout eid c) (at_page eid count c k)) l
    ≡ headed (Some (ensemble_of (idle_plan layout eid c) (at_page eid count c k))) l
is_headed layout eid count c k l s =
    let e : EnsembleInformation = ensemble_of (idle_plan layout eid c) (at_page eid count c k) in
    ap (λ (b : Bool). headed (cond b (Some e) None) l) (eq-eqb (count % count_step (layout_mode layout)) 0 s.headed_at)

-- an entry that is heard in the frame of a page
abbrev InPage : FrameLayout → (eid count : ℕ) → Configuration → ℕ → Raw → Type 0
InPage layout eid count c k x = RowSaid (shown_bytes (idle_plan layout eid c) (at_page eid count c k)) false x

-- what is heard of the current and of the next configuration in this many pages, and was heard before
abbrev HeardIn : FrameLayout → (eid count : ℕ) → Configuration → Bool → (pages first : ℕ) → (Raw → Type 0) → Raw
    → Type 0
HeardIn layout eid count c flag zero first C x = C x
HeardIn layout eid count c flag (suc pages) first C x =
    HeardIn layout eid count c flag pages (suc first)
    (Or C (RowSaid (shown_bytes (idle_plan layout eid c) (at_page eid count c first)) flag)) x

pub record HearsPages (layout : FrameLayout) (eid count : ℕ) (c : Configuration) (C N : Raw → Type 0) (pages first : ℕ)
    (l : Listening) : Type 0 where
  pub after : Listening
  pub hears : HearsAll (fibs_of layout (page_frames layout eid count c pages first)) l after
  pub knows : Tuned false c c (HeardIn layout eid count c false pages first C)
      (HeardIn layout eid count c true pages first N) None after

-- one page, by a listener that has heard FIG 0/0
pub record HearsPage (layout : FrameLayout) (eid count : ℕ) (c : Configuration) (C N : Raw → Type 0) (k : ℕ)
    (l : Listening) : Type 0 where
  pub after : Listening
  pub hears : HearsAll (fibs_from (frame_fibs layout) 0 (shown_bytes (idle_plan layout eid c) (at_page eid count c k)))
      l after
  pub knows : Tuned false c c (Or C (InPage layout eid count c k))
      (Or N (RowSaid (shown_bytes (idle_plan layout eid c) (at_page eid count c k)) true)) None after

hears_page : Laws → (layout : FrameLayout) (eid count : ℕ) (c : Configuration) (C N : Raw → Type 0) (k : ℕ)
    (l : Listening) → Steady layout eid count c
    → k < rounds layout (page_set c None)
    → InFrame (idle_plan layout eid c) (at_page eid count c k) C N
    (at_ensemble (ensemble_of (idle_plan layout eid c) (at_page eid count c k)) l)
    → HearsPage layout eid count c C N k l
hears_page laws layout eid count c C N k l s below h =
    let plan = idle_plan layout eid c in
    let u = at_page eid count c k in
    let air = airs layout eid count c k s below in
    let frame : HearsFrame plan u C N l =
    frame_heard laws plan u air C N l
    (subst (λ (x : Listening). InFrame plan u C N x) (sym (is_headed layout eid count c k l s)) h) in
    record {
      after = frame.after;
      hears = frame.hears;
      knows = knows_after plan u (Or C (InPage layout eid count c k)) (Or N (RowSaid (shown_bytes plan u) true))
          frame.after air frame.knows;
    }

hears_pages : Laws → (layout : FrameLayout) (eid count : ℕ) (c : Configuration) (C N : Raw → Type 0) (pages first : ℕ)
    (l : Listening) → Steady layout eid count c
    → first + pages ≤ rounds layout (page_set c None) → Tuned false c c C N None l
    → HearsPages layout eid count c C N pages first l
hears_pages laws layout eid count c C N zero first l s within h = record { after = l; hears = refl; knows = h }
hears_pages laws layout eid count c C N (suc pages) first l s within h =
    let plan = idle_plan layout eid c in
    let u = at_page eid count c first in
    let below : first < rounds layout (page_set c None) = omega (arith, within) in
    let air = airs layout eid count c first s below in
    let ready : Ready plan None c c count C N l = record { awaited = None; knows = h; waits = refl } in
    let one = hears_page laws layout eid count c C N first l s below
    (headed_ready plan u C N l air (omega arith) ready) in
    let rest = hears_pages laws layout eid count c (Or C (InPage layout eid count c first))
    (Or N (RowSaid (shown_bytes plan u) true)) pages (suc first) one.after s (omega (arith, within)) one.knows in
    record {
      after = rest.after;
      hears = hears_join (fibs_from (frame_fibs layout) 0 (shown_bytes plan u))
          (fibs_of layout (page_frames layout eid count c pages (suc first))) l one.after rest.after one.hears
          rest.hears;
      knows = rest.knows;
    }

-- ---- every entry is in a page

was_heard : (layout : FrameLayout) (eid count : ℕ) (c : Configuration) (pages first : ℕ) (C : Raw → Type 0) (x : Raw)
    → C x → HeardIn layout eid count c false pages first C x
was_heard layout eid count c zero first C x h = h
was_heard layout eid count c (suc pages) first C x h =
    was_heard layout eid count c pages (suc first) (Or C (InPage layout eid count c first)) x (inl h)

in_page : (layout : FrameLayout) (eid count : ℕ) (c : Configuration) (pages first k : ℕ) (C : Raw → Type 0) (x : Raw)
    → first ≤ k → k < first + pages → InPage layout eid count c k x
    → HeardIn layout eid count c false pages first C x
in_page layout eid count c zero first k C x from below h = absurd (omega (arith, from, below))
in_page layout eid count c (suc pages) first k C x from below h = elim (cases_lt first k) [
  | inl after ↦ in_page layout eid count c pages (suc first) k (Or C (InPage layout eid count c first)) x
      (omega (arith, after)) (omega (arith, below)) h
  | inr not_after ↦
      let same : k ≡ first = omega (arith, from, not_after) in
      was_heard layout eid count c pages (suc first) (Or C (InPage layout eid count c first)) x
      (inr (subst (λ (n : ℕ). InPage layout eid count c n x) same h))
]

some_pages : (layout : FrameLayout) (c : Configuration) → (m : ℕ) × (rounds layout (page_set c None) ≡ suc m)
some_pages layout c = (last_number 0 (packing layout (page_set c None)) / used_fibs layout, omega arith)

entry_in_page : Laws → (layout : FrameLayout) (eid count : ℕ) (c : Configuration) (e : Entry)
    → Steady layout eid count c → In e (entries_of c)
    → (k : ℕ) × (k < rounds layout (page_set c None)) × InPage layout eid count c k (raw_entry e)
entry_in_page laws layout eid count c e s inside =
    let fact = in_contains (page_set c None) (marked false e) (in_fact false (entries_of c) e inside) in
    let page = laws.pages.each layout (page_set c None) (marked false e) fact in
    let plan = idle_plan layout eid c in
    let u = at_page eid count c page.0 in
    let able = pageable laws.pages plan u (airs layout eid count c page.0 s page.1) in (
      page.0,
      page.1,
      (
        e,
        refl,
        (laws.pages.heard layout (ensemble_sent plan u) page.0 (page_set c None) able (marked false e)).1 page.2,
      ),
    )

all_heard : Laws → (layout : FrameLayout) (eid count : ℕ) (c : Configuration) (m : ℕ) → Steady layout eid count c
    → rounds layout (page_set c None) ≡ suc m
    → (heard : Listening) × HearsAll (fibs_of layout (page_frames layout eid count c (suc m) 0)) untuned heard
    × Shows heard.current c
all_heard laws layout eid count c m s pages =
    let plan = idle_plan layout eid c in
    let u = at_page eid count c 0 in
    let below : 0 < rounds layout (page_set c None) = omega (arith, pages) in
    let air = airs layout eid count c 0 s below in
    let one = hears_page laws layout eid count c (λ x. ⊥) (λ x. ⊥) 0 untuned s below (headed_untuned plan u air) in
    let rest = hears_pages laws layout eid count c (Or (λ x. ⊥) (InPage layout eid count c 0))
    (Or (λ x. ⊥) (RowSaid (shown_bytes plan u) true)) m 1 one.after s (omega (arith, pages)) one.knows in (
      rest.after,
      hears_join (fibs_from (frame_fibs layout) 0 (shown_bytes plan u))
          (fibs_of layout (page_frames layout eid count c m 1)) untuned one.after rest.after one.hears rest.hears,
      all_shown c (HeardIn layout eid count c false m 1 (Or (λ x. ⊥) (InPage layout eid count c 0))) rest.after.current
          rest.knows.current
          (λ e inside.
          let page = entry_in_page laws layout eid count c e s inside in
          in_page layout eid count c (suc m) 0 page.0 (λ x. ⊥) (raw_entry e) (omega arith)
          (let under = page.1 in omega (arith, under, pages)) page.2),
    )

pub heard_again : Laws → PagesAreHeardAgain
heard_again laws layout eid count c formed sound eid_below count_below headed_at =
    let s : Steady layout eid count c =
    record {
      formed = formed;
      sound = sound;
      eid_below = eid_below;
      count_below = count_below;
      headed_at = headed_at;
    } in
    let some = some_pages layout c in
    subst (λ (n : ℕ). (heard : Listening) × HearsAll (fibs_of layout (page_frames layout eid count c n 0)) untuned heard
    × Shows heard.current c) (sym some.1)
    (all_heard laws layout eid count c some.0 s some.1)

pub by_laws : EachInAPage → PageSetsArePageable → PagesAreValid → PagesAreHeard → EnsembleIsCarried → PageIsFibs
    → EnsembleIsHeard → PagesAreHeardAgain
by_laws each able valid heard carried fibs ensemble =
    heard_again (record {
      pages = record {
        each = each;
        pageable = able;
        valid = valid;
        heard = heard;
        ensemble = carried;
      };
      fibs = fibs;
      ensemble = ensemble;
    })
