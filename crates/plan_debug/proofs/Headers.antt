-- What FIG 0/0 of a frame announces is what the state says.
use Rattle.plan_debug.proofs.Words.{[], ◌%◌, ◌==◌, ◌∙◌, ◌∷◌, ◌≡◌, Announcement, Bool, Contains, EnsembleInformation}
use Rattle.plan_debug.proofs.Words.{List, None, Option, Plan, Raw, Some, State, announced_by, announced_for, ap, arith}
use Rattle.plan_debug.proofs.Words.{ensemble_of, entries_in, false, if◌then◌else◌, is_noticed, map, raw_entry, raw_of}
use Rattle.plan_debug.proofs.Words.{refl, rules, shown_announcement, subst, suc, sym, true, zero, ℕ}
use Rattle.std.proofs.Math.Dec.{eqb-suc-zero}
use Rattle.std.specs.List.{AllByRecursion}
use Rattle.fib_codec.specs.Layouts.{layout_mode}
use Rattle.mux_types.specs.Facts.{marked}
use Rattle.fib_codec.specs.Modes.{count_step}
use Rattle.fib_codec.specs.Ranges.{IsEnsembleInformation}
use Rattle.fib_codec.specs.Grammar.{Fig, Open, Other, IsFib, IsFig, is_long}
use Rattle.fib_codec.specs.Heard.{IsInFig, fib_at}
use Rattle.plan_runs.specs.RightBytes.{IsEnsembleOf, IsFlaggedBy, IsRight, IsNoHeader}
use Rattle.mux_types.specs.declared.entry.Entry.TheVariants.{Ensemble as EnsembleOf}

-- ---- the first FIG

-- the FIG holds this ensemble information alone
pub record Holds (header : Fig) (e : EnsembleInformation) : Type 0 where
  pub entries : entries_in header ≡ raw_entry (EnsembleOf e) ∷ []
  pub within : IsEnsembleInformation e

raw_ensemble : (ext : ℕ) (long : Bool) (bytes : List ℕ) (e : EnsembleInformation) → ext ≡ 0
    → bytes ≡ (raw_entry (EnsembleOf e)).bytes → raw_of ext long bytes ≡ raw_entry (EnsembleOf e)
raw_ensemble ext long bytes e zero_ext spelled = ap (λ (x : ℕ). raw_of x long bytes) zero_ext
    ∙ ap (λ (b : List ℕ). raw_of 0 long b) spelled

only : (b c : List ℕ) → Contains (b ∷ []) c → c ≡ b
only b c h = search (rules, h)

pub held : (front : List ℕ) (header : Fig) (e : EnsembleInformation) → IsFig front header
    → IsInFig header (marked false (EnsembleOf e)) → Holds header e
held front (Other given) e fig inside = absurd inside
held front (Open second es) e fig inside =
    let said = inside.2 in
    let alone = fig.4.1 said.ext in
    let has : Contains (alone.0 ∷ []) inside.0 = subst (λ (l : List (List ℕ)). Contains l inside.0) alone.1 inside.1 in
    let spelled : alone.0 ≡ (raw_entry (EnsembleOf e)).bytes = sym (only alone.0 inside.0 has) ∙ said.spelled in
    record {
      entries = ap (λ (l : List (List ℕ)). map (raw_of (second % 32) (is_long second)) l) alone.1
          ∙ ap (λ (r : Raw). r ∷ []) (raw_ensemble (second % 32) (is_long second) alone.0 e said.ext spelled);
      within = said.within;
    }

pub header_held : (bytes : List ℕ) (header : Fig) (others : List Fig) (e : EnsembleInformation)
    → IsFib bytes (header ∷ others) → IsInFig header (marked false (EnsembleOf e)) → Holds header e
header_held bytes header others e fib inside = held fib.1.0 header e fib.1.3 inside

-- ---- the state

alike_for : (e f : EnsembleInformation) (o : Option ℕ) → e.change ≡ f.change → e.count ≡ f.count
    → announced_for e o ≡ announced_for f o
alike_for e f None change count = refl
alike_for e f (Some low) change count =
    ap (λ (c : ℕ). let a : Announcement = record { count = e.count; occurrence = low; change = c } in
    if c == 0 then None else Some a) change
    ∙ ap (λ (n : ℕ). let a : Announcement = record { count = n; occurrence = low; change = f.change } in
    if f.change == 0 then None else Some a) count

alike : (e f : EnsembleInformation) → e.change ≡ f.change → e.count ≡ f.count → e.occurrence ≡ f.occurrence
    → announced_by (Some e) ≡ announced_by (Some f)
alike e f change count occurrence = alike_for e f e.occurrence change count
    ∙ ap (λ (o : Option ℕ). announced_for f o) occurrence

flagged_alike : (plan : Plan) (s : State) (left : Option ℕ) (e : EnsembleInformation) → s.left ≡ left
    → is_noticed plan.notice s.left ≡ true → IsFlaggedBy s left e → e.count ≡ s.count
    → announced_by (Some e) ≡ announced_by (Some (ensemble_of plan s))
flagged_alike plan s None e is noticed flagged count = absurd flagged
flagged_alike plan s (Some left) e is noticed flagged count =
    alike e (ensemble_of plan s) (rw (noticed) flagged.0) (rw (noticed) count) (rw (noticed, is) flagged.1)

pub noticed_alike : (plan : Plan) (s : State) (e : EnsembleInformation) (b : Bool) → is_noticed plan.notice s.left ≡ b
    → IsEnsembleOf plan s e → announced_by (Some e) ≡ announced_by (Some (ensemble_of plan s))
noticed_alike plan s e true noticed right =
    flagged_alike plan s s.left e refl noticed (right.flagged noticed) right.count
noticed_alike plan s e false noticed right = let h = right.unflagged noticed in
    alike e (ensemble_of plan s) (rw (noticed) h.0) (rw (noticed) right.count) (rw (noticed) h.1)

abbrev pub Headed : List ℕ → Option Announcement → Type 0
Headed fib a = (header : Fig) (others : List Fig) (e : EnsembleInformation) → IsFib fib (header ∷ others)
    → IsInFig header (marked false (EnsembleOf e)) → a ≡ announced_by (Some e)

abbrev pub Unheaded : List ℕ → Option Announcement → Type 0
Unheaded fib a = (figs : List Fig) → IsFib fib figs → AllByRecursion IsNoHeader figs → a ≡ None

due : (plan : Plan) (s : State) (bytes fib : List ℕ) (a : Option Announcement) (n : ℕ)
    → s.count % count_step (layout_mode plan.layout) ≡ n → IsRight plan s bytes → fib ≡ fib_at bytes 0 → Headed fib a
    → Unheaded fib a → a ≡ shown_announcement plan s
due plan s bytes fib a zero is right at headed unheaded =
    let h = right.headed is in
    let said = headed h.header h.others h.information
    (subst (λ (l : List ℕ). IsFib l (h.header ∷ h.others)) (sym at) h.first) h.says in
    let state = noticed_alike plan s h.information (is_noticed plan.notice s.left) refl h.right in
    rw (is) (said ∙ state)
due plan s bytes fib a (suc n) is right at headed unheaded =
    let h = right.unheaded (λ (none : s.count % count_step (layout_mode plan.layout) ≡ 0). omega (arith, is, none)) in
    let said = unheaded h.0 (subst (λ (l : List ℕ). IsFib l h.0) (sym at) h.1) h.2 in
    rw (is, eqb-suc-zero n) said

pub announced_here : (plan : Plan) (s : State) (bytes fib : List ℕ) (a : Option Announcement) → IsRight plan s bytes
    → fib ≡ fib_at bytes 0 → Headed fib a → Unheaded fib a → a ≡ shown_announcement plan s
announced_here plan s bytes fib a right at headed unheaded =
    due plan s bytes fib a (s.count % count_step (layout_mode plan.layout)) refl right at headed unheaded
