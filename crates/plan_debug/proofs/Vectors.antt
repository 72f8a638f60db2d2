-- Flagged FIG 0/0, in bytes that have the FIG 0/0 of a known state: each definition where it holds, and where it fails.
use Rattle.plan_debug.proofs.Words.{[], ◌∷◌, ◌≡◌, Announcement, AreFlaggedIn, HasHeaderOf, IsFlaggedIn, IsFlaggedOnly}
use Rattle.plan_debug.proofs.Words.{IsUnflagged, List, None, Plan, Some, State, ap, arith, false, inl, inr, refl}
use Rattle.plan_debug.proofs.Words.{replicate, ℕ}
use Rattle.fib_codec.specs.declared.frame_layout.FrameLayout.TheVariants.{Whole}
use Rattle.mux_config.specs.Configuration.{nothing}
use Rattle.fib_codec.specs.declared.modes.Mode.TheVariants.{I}
use Rattle.plan_code.specs.declared.hold.Hold.TheVariants.{Ended}
use Rattle.plan_debug.proofs.Flagged.{announcement_as, frame_says}

abbrev plan : Plan
plan = record { eid = 0xe1c5; layout = Whole I; period = 1; notice = 12; budget = 20 }

-- a first packet component takes effect with the swap in this many frames
abbrev before_swap : ℕ → State
before_swap left =
    record {
      current = nothing;
      next = record {
        subs = [];
        services = [];
        packets = record { scid = 1; dg = false; ty = 60; sub = 5; address = 1 }
            ∷ [];
      };
      left = Some left;
      pc = 0;
      hold = Ended;
      counters = replicate 8 0;
      contacts = record { 0 = 0 };
      count = 988;
      day = 0;
      eid = 0xe1c5;
      page_index = 0;
    }

abbrev told : ℕ → Announcement
told occurrence = announcement_as 988 occurrence 2

flagged : (frame : List ℕ) → HasHeaderOf plan (before_swap 12) frame → IsFlaggedOnly frame (told 0)
flagged frame has = frame_says plan (before_swap 12) frame (Some (told 0)) has refl

flagged_for_another : (frame : List ℕ) → HasHeaderOf plan (before_swap 12) frame → IsFlaggedIn frame (told 1) → ⊥
flagged_for_another frame has h =
    let same : told 1 ≡ told 0 = (flagged frame has).1 (told 1) h in
    let e : 1 ≡ 0 = ap (λ (a : Announcement). a.occurrence) same in
    omega (arith, e)

-- before the notice
unflagged : (frame : List ℕ) → HasHeaderOf plan (before_swap 13) frame → IsUnflagged frame
unflagged frame has = frame_says plan (before_swap 13) frame None has refl

not_unflagged : (frame : List ℕ) → HasHeaderOf plan (before_swap 12) frame → IsUnflagged frame → ⊥
not_unflagged frame has h = h (told 0) (flagged frame has).0

one_of_two : (before frame : List ℕ) → HasHeaderOf plan (before_swap 13) before
    → HasHeaderOf plan (before_swap 12) frame → AreFlaggedIn (before ∷ frame ∷ []) (told 0 ∷ [])
one_of_two before frame none some = inl (unflagged before none, inr (told 0, [], refl, flagged frame some, refl))

left_out : (frame : List ℕ) → HasHeaderOf plan (before_swap 12) frame → AreFlaggedIn (frame ∷ []) [] → ⊥
left_out frame has (inl h) = not_unflagged frame has h.0
left_out frame has (inr h) = let e : [] ≡ h.0 ∷ h.1 = h.2 in absurd cc
