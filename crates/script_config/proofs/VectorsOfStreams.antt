-- Test vectors: small streams for which each definition holds, and for which it fails.
use Rattle.script_config.proofs.Words.{[], ◌∷◌, ◌≡◌, ◌≢◌, Configuration, I, IsFirstUnsaid, IsOpeningReason, IsSaid}
use Rattle.script_config.proofs.Words.{NamesAfter, None, Raw, Some, Whole, ap, arith, false, inr, length}
use Rattle.script_config.proofs.Words.{named_by_entries, page_frames, refl, steady, ℕ}
use Rattle.script_tokens.specs.declared.fault.ScriptFault.TheVariants.{Expected}
use Rattle.script_config.specs.declared.opening.OpeningFault.TheVariants.{Script, Memory}
use Rattle.script_config.specs.Texts.{usual_period}

abbrev ensemble : ℕ → Raw
ensemble low = record { ext = 0; long = false; bytes = 0 ∷ low ∷ 0 ∷ 0 ∷ [] }

abbrev short : Raw
short = record { ext = 1; long = false; bytes = 4 ∷ 0 ∷ 5 ∷ [] }

the_last : named_by_entries (ensemble 5 ∷ short ∷ ensemble 6 ∷ []) None ≡ Some 6
the_last = refl

not_the_first : named_by_entries (ensemble 5 ∷ ensemble 6 ∷ []) None ≢ Some 5
not_the_first e = absurd (cc)

no_more : NamesAfter [] (Some 7) (Some 7)
no_more = refl

not_another : NamesAfter [] None (Some 7) → ⊥
not_another e = absurd (cc)

one_unsaid : (raw : Raw) → (IsSaid raw → ⊥) → IsFirstUnsaid (raw ∷ short ∷ []) raw
one_unsaid raw none = inr (refl, none)

none_unsaid : (raw : Raw) → IsFirstUnsaid [] raw → ⊥
none_unsaid raw h = h

of_one_page : usual_period 1 ≡ 4
of_one_page = refl

not_twice : usual_period 29 ≢ 58
not_twice e = absurd (omega (arith, e))

-- ---- frames of pages

sent_in_every_fourth : steady (Whole I) 57797 4 ≡ Some
    (record { eid = 57797; change = 0; al = false; count = 4; occurrence = None })
sent_in_every_fourth = refl

not_in_others : steady (Whole I) 57797 5 ≡ None
not_in_others = refl

a_frame_for_each_page : (c : Configuration) → length (page_frames (Whole I) 57797 0 c 3 0) ≡ 3
a_frame_for_each_page c = refl

no_page_no_frame : (c : Configuration) → page_frames (Whole I) 57797 0 c 1 0 ≢ []
no_page_no_frame c e = absurd (let lengths : 1 ≡ 0 = ap length e in omega (arith, lengths))

-- ---- reasons

out_of_memory : IsOpeningReason Memory → ⊥
out_of_memory h = h

no_script : IsOpeningReason (Script (Expected (record { line = 1; column = 1 })))
no_script e = absurd (cc)
