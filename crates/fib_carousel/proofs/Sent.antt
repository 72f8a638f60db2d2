-- The entries of a FIB sent as FIGs.
use Rattle.fib_carousel.proofs.Words.{[], ◌%◌, ◌+◌, ◌∷◌, ◌≡◌, ◌≤◌, AllByRecursion, AreSendable, AreSmall, Bool}
use Rattle.fib_carousel.proofs.Words.{EnsembleInformation, Entry, FrameLayout, Head, IsSendable, IsSome, IsUnder}
use Rattle.fib_carousel.proofs.Words.{IsWritten, List, Marked, None, Option, Some, Written, ap, arith, eq-eqb, false}
use Rattle.fib_carousel.proofs.Words.{fib_entries, figs_of, figs_size, head_of, inl, inr, refl, room, same_flag}
use Rattle.fib_carousel.proofs.Words.{same_head, subst, true, used_fibs, with_entry_first, ℕ}
use Rattle.mux_types.specs.declared.entry.Entry.TheVariants.{Ensemble as EnsembleOf, Sub as SubOf, Short as ShortOf}
use Rattle.mux_types.specs.declared.entry.Entry.TheVariants.{Service as ServiceOf, Packet as PacketOf}
use Rattle.fib_carousel.proofs.Least.{room_high, room_cases, greedy_is_packing}
use Rattle.fib_carousel.proofs.Sharing.{same_head_is, written_of}

pub small_all : (ms : List Marked) → AreSendable ms → AreSmall ms
small_all [] h = tt
small_all (m ∷ ms) h = (h.0.small, small_all ms h.1)

-- what the packing puts into a FIB fits there
pub fib_fits : (layout : FrameLayout) (ms : List Marked) (n : ℕ) → AreSendable ms
    → figs_size None (fib_entries layout n ms) ≤ room layout n
fib_fits layout ms n h = (greedy_is_packing layout ms (small_all ms h)).division.fits n

-- a head is the same as itself
same_flag_own : (b : Bool) → same_flag b b ≡ true
same_flag_own true = refl
same_flag_own false = refl

pub same_head_own : (h : Head) → same_head h h ≡ true
same_head_own h = rw (same_flag_own h.next, same_flag_own h.oe, same_flag_own h.long, eq-eqb h.ext h.ext refl) refl

-- the FIGs of sendable entries are FIGs that a program can write
under_own : (m : Marked) → IsUnder (head_of m) m.entry
under_own m = by m.next m.entry
  where
    by : (b : Bool) (e : Entry) → IsUnder (head_of (record { next = b; entry = e })) e
    by b (EnsembleOf e) = refl
    by b (SubOf s) = refl
    by b (ShortOf s) = refl
    by b (ServiceOf s) = (refl, refl)
    by b (PacketOf p) = refl

written_one : (m : Marked) → IsSendable m → IsWritten (written_of (head_of m) (m.entry ∷ []))
written_one m h = record {
  formed = record { some = omega arith; under = (under_own m, tt); alone = λ e. refl };
  within = (h.within, tt);
}

written_joined : (m : Marked) (fs : List Written) → IsSendable m → AllByRecursion IsWritten fs
    → AllByRecursion IsWritten (with_entry_first m fs)
written_joined m [] h w = (written_one m h, tt)
written_joined m (f ∷ fs) h w = by (same_head (head_of m) f.head) refl
  where
    by : (b : Bool) → same_head (head_of m) f.head ≡ b → AllByRecursion IsWritten (with_entry_first m (f ∷ fs))
    by true e =
        let same : head_of m ≡ f.head = same_head_is (head_of m) f.head e in
        let under : IsUnder f.head m.entry = subst (λ (g : Head). IsUnder g m.entry) same (under_own m) in
        let first : IsWritten (written_of f.head (m.entry ∷ f.entries)) = record {
          formed = record {
            some = omega arith;
            under = (under, w.0.formed.under);
            alone = λ z. absurd (omega (arith, z, ap (λ (g : Head). g.ext) same, h.organization));
          };
          within = (h.within, w.0.within);
        } in
        rw e (first, w.1)
    by false e =
        rw e (written_one m h, w)

pub written_figs : (ms : List Marked) → AreSendable ms → AllByRecursion IsWritten (figs_of ms)
written_figs [] h = tt
written_figs (m ∷ ms) h = written_joined m (figs_of ms) h.0 (written_figs ms h.1)

-- what FIG 0/0 leaves of a FIB has room for what the packing puts there
pub fib_room : (layout : FrameLayout) (ensemble : Option EnsembleInformation) (number used size : ℕ) → used ≤ 7
    → (ensemble ≡ None → used ≡ 0) → (IsSome ensemble → number % used_fibs layout ≡ 0) → size ≤ room layout number
    → used + size ≤ 30
fib_room layout None number used size low none first fits = omega (arith, none refl, fits, room_high layout number)
fib_room layout (Some e) number used size low none first fits =
    elim (room_cases layout number) [
      | inl c ↦ omega (arith, low, fits, c.1)
      | inr c ↦ absurd (c.0 (first refl))
    ]
