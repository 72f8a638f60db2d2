-- The contradictions of a FIG, entry by entry, and what is reported of them.
use Rattle.stream_check.proofs.Words.{[], ◌++◌, ◌-◌, ◌<◌, ◌∙◌, ◌≡◌, ◌≤◌, AreNoted, Bool, Contradiction, FrameAt, List}
use Rattle.stream_check.proofs.Words.{Mention, None, Option, Pictured, Reported, Some, absent, absent_among, ap}
use Rattle.stream_check.proofs.Words.{append-nil, are_whole, arith, cases_lt, drop, entry_mention, false, false≢true}
use Rattle.stream_check.proofs.Words.{first_entry_length, in_frame, inl, inr, length, length-drop, map, map-append}
use Rattle.stream_check.proofs.Words.{mentions_of, new_findings, noted_with, refl, subst, sym, take, take_all, true}
use Rattle.stream_check.proofs.Words.{with_mention, with_more, ℕ}
use Rattle.fig_mentions.proofs.Whole.{of_none, of_cut, of_more}
use Rattle.stream_check.proofs.Chain.{more_twice, more_none}
use Rattle.stream_check.proofs.Sending.{noted_twice, found_twice}

-- ---- whole entries

whole_with : (m : Mention) (ms : Option (List Mention)) → are_whole (with_mention m ms) ≡ are_whole ms
whole_with m None = refl
whole_with m (Some ms) = refl

-- the rest as a slice
rest_of : (size : ℕ) (rest : List ℕ) → take (length rest - size) (drop size rest) ≡ drop size rest
rest_of size rest = take_all (length rest - size) (drop size rest) (omega (arith, length-drop size rest))

pub fits_where : (ext : ℕ) (long : Bool) (rest : List ℕ) → 0 < length rest
    → are_whole (mentions_of ext long rest) ≡ true → first_entry_length ext long rest ≤ length rest
fits_where ext long rest some whole = elim (cases_lt (length rest) (first_entry_length ext long rest)) [
  | inl cut ↦ absurd (false≢true (sym (ap are_whole (of_cut ext long rest some cut)) ∙ whole))
  | inr fits ↦ fits
]

pub whole_more : (ext : ℕ) (long : Bool) (rest : List ℕ) (size : ℕ) → 0 < length rest
    → size ≡ first_entry_length ext long rest → size ≤ length rest
    → are_whole (mentions_of ext long (take (length rest - size) (drop size rest)))
    ≡ are_whole (mentions_of ext long rest)
whole_more ext long rest size some is fits =
    ap (λ l. are_whole (mentions_of ext long l)) (rest_of size rest ∙ ap (λ s. drop s rest) is)
    ∙ sym (whole_with (entry_mention ext long rest)
    (mentions_of ext long (drop (first_entry_length ext long rest) rest)))
    ∙ sym (ap are_whole (of_more ext long rest some (omega (arith, is, fits))))

pub whole_cut : (ext : ℕ) (long : Bool) (rest : List ℕ) (size : ℕ) → 0 < length rest
    → size ≡ first_entry_length ext long rest → length rest < size
    → are_whole (mentions_of ext long rest) ≡ false
whole_cut ext long rest size some is cut = ap are_whole (of_cut ext long rest some (omega (arith, is, cut)))

pub whole_none : (ext : ℕ) (long : Bool) (rest : List ℕ) → length rest ≡ 0
    → are_whole (mentions_of ext long rest) ≡ true
whole_none ext long rest none = ap are_whole (of_none ext long rest none)

-- ---- what is reported

pub noted_nothing : (at : FrameAt) (noted : List Contradiction) (reported : Reported)
    → AreNoted at [] noted reported noted reported
noted_nothing at noted reported = record { noted = sym (append-nil noted); findings = more_none reported }

pub noted_more : (at : FrameAt) (xs ys a b c : List Contradiction) (ra rb rc : Reported) → AreNoted at xs a ra b rb
    → AreNoted at ys b rb c rc → AreNoted at (xs ++ ys) a ra c rc
noted_more at xs ys a b c ra rb rc one two = record {
  noted = two.noted ∙ ap (λ n. noted_with n ys) one.noted ∙ noted_twice xs ys a;
  findings = two.findings
      ∙ ap (λ n. with_more rb (map (in_frame at) (new_findings n ys))) one.noted
      ∙ ap (λ r. with_more r (map (in_frame at) (new_findings (noted_with a xs) ys))) one.findings
      ∙ more_twice ra (map (in_frame at) (new_findings a xs)) (map (in_frame at) (new_findings (noted_with a xs) ys))
      ∙ ap (with_more ra) (sym (map-append (in_frame at) (new_findings a xs) (new_findings (noted_with a xs) ys))
      ∙ ap (map (in_frame at)) (found_twice xs ys a));
}

-- ---- entries in a loop: what was reported so far, and the rest

pub record AreLeft (at : FrameAt) (k : Pictured) (ext : ℕ) (long : Bool) (all rest : List ℕ) (old : List Contradiction)
    (before : Reported) (now : List Contradiction) (reported : Reported) : Type 0 where
  pub whole : are_whole (mentions_of ext long rest) ≡ true
  pub left : (new : List Contradiction) (after : Reported)
      → AreNoted at (absent_among k ext (mentions_of ext long rest)) now reported new after
      → AreNoted at (absent_among k ext (mentions_of ext long all)) old before new after

absent_with : (k : Pictured) (ext : ℕ) (m : Mention) (ms : Option (List Mention)) → are_whole ms ≡ true
    → absent_among k ext (with_mention m ms) ≡ absent k ext m ++ absent_among k ext ms
absent_with k ext m None whole = absurd (false≢true whole)
absent_with k ext m (Some ms) whole = refl

pub left_more : (at : FrameAt) (k : Pictured) (ext : ℕ) (long : Bool) (all rest : List ℕ) (size : ℕ)
    (old now then : List Contradiction) (before reported after : Reported) → 0 < length rest
    → size ≡ first_entry_length ext long rest
    → AreNoted at (absent k ext (entry_mention ext long rest)) now reported then after
    → AreLeft at k ext long all rest old before now reported
    → AreLeft at k ext long all (take (length rest - size) (drop size rest)) old before then after
left_more at k ext long all rest size old now then before reported after some is one h =
    let fits = fits_where ext long rest some h.whole in
    let same : take (length rest - size) (drop size rest) ≡ drop (first_entry_length ext long rest) rest =
    rw (← is) (rest_of size rest) in
    let whole : are_whole (mentions_of ext long (drop (first_entry_length ext long rest) rest)) ≡ true =
    sym (whole_with _ _) ∙ sym (ap are_whole (of_more _ _ _ some fits)) ∙ h.whole in
    let cut : absent_among k ext (mentions_of ext long rest) ≡ absent k ext (entry_mention ext long rest)
    ++ absent_among k ext (mentions_of ext long (drop (first_entry_length ext long rest) rest)) =
    ap (absent_among k ext) (of_more ext long rest some fits)
    ∙ absent_with k ext (entry_mention ext long rest)
    (mentions_of ext long (drop (first_entry_length ext long rest) rest)) whole in
    subst (λ (l : List ℕ). AreLeft at k ext long all l old before then after) (sym same) (record {
      whole = whole;
      left = λ new last more. h.left new last
          (subst (λ (cs : List Contradiction). AreNoted at cs now reported new last) (sym cut)
          (noted_more at (absent k ext (entry_mention ext long rest))
          (absent_among k ext (mentions_of ext long (drop (first_entry_length ext long rest) rest))) now then new
          reported after last one more));
    })

pub left_none : (at : FrameAt) (k : Pictured) (ext : ℕ) (long : Bool) (all rest : List ℕ) (old now : List Contradiction)
    (before reported : Reported) → length rest ≡ 0 → AreLeft at k ext long all rest old before now reported
    → AreNoted at (absent_among k ext (mentions_of ext long all)) old before now reported
left_none at k ext long all rest old now before reported none h =
    h.left now reported (rw (of_none ext long rest none) (noted_nothing at now reported))
