-- The announcements of a debugger are exactly the flagged FIG 0/0 in the bytes of its frames.
use Rattle.plan_debug.proofs.Words.{[], ◌++◌, ◌==◌, ◌∙◌, ◌∷◌, ◌≡◌, ◌≤◌, Announcement, AnnouncementsAreFlagged}
use Rattle.plan_debug.proofs.Words.{AreFlaggedIn, Bool, Contact, EnsembleInformation, Event, Frame, HasHeaderOf}
use Rattle.plan_debug.proofs.Words.{HeadersAreSent, IsEvent, IsFlaggedIn, IsFlaggedOnly, IsUnflagged, List, None}
use Rattle.plan_debug.proofs.Words.{Option, Plan, Program, Some, State, after_frame, announced, announced_by}
use Rattle.plan_debug.proofs.Words.{announced_for, announcement_list, ap, arith, cond, ensemble_sent, eqb-false}
use Rattle.plan_debug.proofs.Words.{eqb-true, false, frame_announcement, frame_bytes, happens, inl, inr, refl}
use Rattle.plan_debug.proofs.Words.{run_frames, shown, shown_announcement, sym, true, ℕ}
use Rattle.plan_runs.specs.TypedRuns.{IsPlayed, ReachedIsKept}

-- ---- ensemble information

abbrev pub announcement_as : ℕ → ℕ → ℕ → Announcement
announcement_as count occurrence change = record { count = count; occurrence = occurrence; change = change }

-- it has change flags, and the announcement has its fields
pub record Announces (e : EnsembleInformation) (a : Announcement) : Type 0 where
  pub flags : 1 ≤ e.change
  pub change : a.change ≡ e.change
  pub occurrence : e.occurrence ≡ Some a.occurrence
  pub count : a.count ≡ e.count

some_flag : (n : ℕ) (none : Bool) → (n == 0) ≡ none → 1 ≤ n → none ≡ false
some_flag n true e some = let zero_is = eqb-true n 0 e in absurd (omega (arith, zero_is, some))
some_flag n false e some = refl

says : (e : EnsembleInformation) (a : Announcement) → Announces e a → announced_by (Some e) ≡ Some a
says e a h =
    let flagged : (e.change == 0) ≡ false = some_flag e.change (e.change == 0) refl h.flags in
    ap (announced_for e) h.occurrence
    ∙ ap (λ (b : Bool). cond b None (Some (announcement_as e.count a.occurrence e.change))) flagged
    ∙ ap (λ (n : ℕ). Some (announcement_as n a.occurrence e.change)) (sym h.count)
    ∙ ap (λ (n : ℕ). Some (announcement_as a.count a.occurrence n)) (sym h.change)

same_announcement : (a b : Announcement) → Some a ≡ Some b → a ≡ b
same_announcement a b e = cc e

announces_by : (e : EnsembleInformation) (a : Announcement) (low : ℕ) (none : Bool) → e.occurrence ≡ Some low
    → (e.change == 0) ≡ none
    → cond none None (Some (announcement_as e.count low e.change)) ≡ Some a → Announces e a
announces_by e a low true o flags is = absurd cc
announces_by e a low false o flags is =
    let same : announcement_as e.count low e.change ≡ a =
    same_announcement (announcement_as e.count low e.change) a is in
    let apart = eqb-false e.change 0 flags in
    record {
      flags = omega (arith, apart);
      change = sym (ap (λ (x : Announcement). x.change) same);
      occurrence = o ∙ ap (λ (x : Announcement). Some x.occurrence) same;
      count = sym (ap (λ (x : Announcement). x.count) same);
    }

announces_for : (e : EnsembleInformation) (a : Announcement) (occurrence : Option ℕ) → e.occurrence ≡ occurrence
    → announced_for e occurrence ≡ Some a → Announces e a
announces_for e a None o is = absurd cc
announces_for e a (Some low) o is = announces_by e a low (e.change == 0) o refl is

-- ---- the bytes of a frame

-- the announcement is the flagged FIG 0/0 in the bytes, or there is none of either
abbrev pub SaysOf : List ℕ → Option Announcement → Type 0
SaysOf frame None = IsUnflagged frame
SaysOf frame (Some a) = IsFlaggedOnly frame a

heard_says : (plan : Plan) (s : State) (frame : List ℕ) (a : Announcement) → HasHeaderOf plan s frame
    → IsFlaggedIn frame a → shown_announcement plan s ≡ Some a
heard_says plan s frame a has h =
    let sent = (has h.next h.information).0 h.heard in
    let fields : Announces h.information a =
    record { flags = h.flags; change = h.change; occurrence = h.occurrence; count = h.count } in
    ap announced_by sent.1 ∙ says h.information a fields

said_by : (plan : Plan) (s : State) (frame : List ℕ) (a : Announcement) (sent : Option EnsembleInformation)
    → HasHeaderOf plan s frame → ensemble_sent plan s ≡ sent → announced_by sent ≡ Some a → IsFlaggedIn frame a
said_by plan s frame a None has is e = absurd cc
said_by plan s frame a (Some information) has is e =
    let fields = announces_for information a information.occurrence refl e in
    record {
      next = false;
      information = information;
      heard = (has false information).1 (refl, is);
      flags = fields.flags;
      change = fields.change;
      occurrence = fields.occurrence;
      count = fields.count;
    }

none_some : (a : Announcement) → None ≡ Some a → ⊥
none_some a e = absurd cc

pub frame_says : (plan : Plan) (s : State) (frame : List ℕ) (x : Option Announcement) → HasHeaderOf plan s frame
    → shown_announcement plan s ≡ x → SaysOf frame x
frame_says plan s frame None has e = λ a flagged. none_some a (sym e ∙ heard_says plan s frame a has flagged)
frame_says plan s frame (Some a) has e = (
  said_by plan s frame a (ensemble_sent plan s) has refl e,
  λ other flagged. same_announcement other a (sym (heard_says plan s frame other has flagged) ∙ e),
)

-- ---- the frames of a run

later : ReachedIsKept → (p : Program) (s : State) (e : Event) → IsPlayed p s → IsEvent e → IsPlayed p (happens p s e)
later kept p s e h within = record {
  program = h.program;
  typed = h.typed;
  reached = kept p s (e ∷ []) h.reached (within, tt);
}

frame_first : (frame : List ℕ) (frames : List (List ℕ)) (x : Option Announcement) (rest : List Announcement)
    → SaysOf frame x → AreFlaggedIn frames rest → AreFlaggedIn (frame ∷ frames) (announcement_list x ++ rest)
frame_first frame frames None rest says h = inl (says, h)
frame_first frame frames (Some a) rest says h = inr (a, rest, refl, says, h)

pub announcements_are_flagged : HeadersAreSent → ReachedIsKept → AnnouncementsAreFlagged
announcements_are_flagged headers kept p s [] h within = refl
announcements_are_flagged headers kept p s (Contact c closed ∷ es) h within =
    announcements_are_flagged headers kept p (happens p s (Contact c closed)) es
    (later kept p s (Contact c closed) h within.0) within.1
announcements_are_flagged headers kept p s (Frame ∷ es) h within =
    frame_first (frame_bytes p s) (run_frames p (after_frame p s) es) (frame_announcement p s)
    (announced p (after_frame p s) es)
    (frame_says p.plan (shown p s) (frame_bytes p s) (frame_announcement p s) (headers p s h) refl)
    (announcements_are_flagged headers kept p (after_frame p s) es (later kept p s Frame h within.0) within.1)
