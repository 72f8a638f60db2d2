-- Hearing what is sent, one after the other.
use Rattle.stream_check.proofs.Words.{[], ◌++◌, ◌∙◌, ◌∷◌, ◌≡◌, ◌≤◌, All, AtMost, Bool, CheckerState}
use Rattle.stream_check.proofs.Words.{FrameAt, Hears, IsHeard, Knows, List, Reported, Sent, Unknown, What, ap}
use Rattle.stream_check.proofs.Words.{append-nil, append_assoc, arith, cond, false, false≢true, findings_at_sent}
use Rattle.stream_check.proofs.Words.{in_frame, items_in, kept_findings, leb-false, length, length-append, lt-leb, map}
use Rattle.stream_check.proofs.Words.{map-append, nat_le, noted_after, refl, said, subst, sym, true, with_more, ℕ}
use Rattle.stream_check.specs.declared.finding.Finding.{Finding}
use Rattle.stream_check.proofs.Sending.{noted_append, said_sent, full_sent, full_sent_stays, findings_append}
use Rattle.stream_check.proofs.Sending.{findings_stay}

-- more findings than are kept stay more
kept_twice : (most : ℕ) (xs ys zs : List Finding) → length xs ≤ length ys → nat_le (length xs) most ≡ false → ys ≡ zs
    → kept_findings most zs ≡ Unknown
kept_twice most xs ys zs le many e =
    let over = leb-false (length xs) most many in
    let same = ap (λ (l : List Finding). length l) e in
    rw ((lt-leb (length zs) most (omega (arith, le, over, same)))) refl

more_of : (b : Bool) (most : ℕ) (fs xs ys : List Finding) (x y : Finding) → nat_le (length (fs ++ x ∷ xs)) most ≡ b
    → with_more (cond b (AtMost most (fs ++ x ∷ xs)) Unknown) (y ∷ ys) ≡ kept_findings most (fs ++ (x ∷ xs ++ y ∷ ys))
more_of true most fs xs ys x y e = ap (kept_findings most) (append_assoc fs (x ∷ xs) (y ∷ ys))
more_of false most fs xs ys x y e =
    let long = length-append (fs ++ x ∷ xs) (y ∷ ys) in
    sym (kept_twice _ _ _ _ (omega (arith, long)) e (append_assoc fs (x ∷ xs) (y ∷ ys)))

none_more : (o : Reported) → with_more o [] ≡ o
none_more (All fs) = rw (append-nil fs) refl
none_more _ = refl

pub more_twice : (reported : Reported) (xs ys : List Finding)
    → with_more (with_more reported xs) ys ≡ with_more reported (xs ++ ys)
more_twice (All fs) xs ys = rw (append_assoc fs xs ys) refl
more_twice (AtMost most fs) (x ∷ xs) [] = rw (append-nil xs) (none_more (kept_findings most (fs ++ x ∷ xs)))
more_twice (AtMost most fs) (x ∷ xs) (y ∷ ys) = more_of (nat_le (length (fs ++ x ∷ xs)) most) most fs xs ys x y refl
more_twice _ _ ys = refl

pub more_none : (reported : Reported) → reported ≡ with_more reported []
more_none reported = sym (none_more reported)

-- findings in a frame, reported in three parts
pub more_thrice : (at : FrameAt) (r a b c : Reported) (xs ys zs : List What)
    → a ≡ with_more r (map (in_frame at) xs) → b ≡ with_more a (map (in_frame at) ys)
    → c ≡ with_more b (map (in_frame at) zs)
    → c ≡ with_more r (map (in_frame at) (xs ++ (ys ++ zs)))
more_thrice at r a b c xs ys zs one two three =
    three ∙ ap (λ t. with_more t (map (in_frame at) zs)) (rw (← one) two)
    ∙ more_twice (with_more r (map (in_frame at) xs)) (map (in_frame at) ys) (map (in_frame at) zs)
    ∙ more_twice r (map (in_frame at) xs) (map (in_frame at) ys ++ map (in_frame at) zs)
    ∙ ap (with_more r) (sym (rw (← map-append (in_frame at) ys zs) (map-append (in_frame at) xs (ys ++ zs))))

-- in two parts
pub more_pair : (at : FrameAt) (r a b : Reported) (xs ys : List What)
    → a ≡ with_more r (map (in_frame at) xs) → b ≡ with_more a (map (in_frame at) ys)
    → b ≡ with_more r (map (in_frame at) (xs ++ ys))
more_pair at r a b xs ys one two =
    cc (two, one, more_twice r (map (in_frame at) xs) (map (in_frame at) ys), map-append (in_frame at) xs ys)

-- nothing
pub hears_nothing : (at : FrameAt) (m : CheckerState) (reported : Reported) → Hears at [] m reported m reported false
hears_nothing at m reported past k = record {
  findings = more_none reported;
  room = refl;
  knows = λ e. subst (λ (s : ℕ). Knows s m.period past m) refl k;
  noted = λ e. refl;
}

-- something, and then something else
pub hears_more : (at : FrameAt) (xs ys : List Sent) (old mid new : CheckerState) (before reported after : Reported)
    (full : Bool)
    → mid.step ≡ old.step → mid.period ≡ old.period → Hears at xs old before mid reported false
    → Hears at ys mid reported new after full → Hears at (xs ++ ys) old before new after full
hears_more at xs ys old mid new before reported after full same page_index h g past k =
    let one = h past k in
    let then = said (items_in xs) past in
    let noted = noted_after old.period past old.noted xs in
    let known : Knows mid.step mid.period then mid =
    subst (λ (s : ℕ). Knows s mid.period then mid) (sym same)
    (subst (λ (p : ℕ). Knows old.step p then mid) (sym page_index) (one.knows refl)) in
    let two : IsHeard at old.step old.period then noted ys reported after new full =
    rw (← one.noted refl) (rw (← page_index) (rw (← same) (g then known))) in
    let first = findings_at_sent old.step old.period past old.noted xs in
    let rest = findings_at_sent old.step old.period then noted ys in
    record {
      findings = two.findings ∙ ap (λ t. with_more t (map (in_frame at) rest)) one.findings
          ∙ more_twice before (map (in_frame at) first) (map (in_frame at) rest)
          ∙ ap (with_more before) (sym (map-append (in_frame at) first rest))
          ∙ ap (λ fs. with_more before (map (in_frame at) fs))
          (sym (findings_append old.step old.period xs ys past old.noted one.room));
      room = full_sent old.step old.period xs ys past one.room ∙ two.room;
      knows = λ e. rw (said_sent xs ys past) (two.knows e);
      noted = λ e. two.noted e ∙ sym (noted_append old.period xs ys past old.noted);
    }

-- something after an entry for which there was no room
pub hears_full : (at : FrameAt) (xs ys : List Sent) (old new : CheckerState) (before after : Reported)
    → Hears at xs old before new after true → Hears at (xs ++ ys) old before new after true
hears_full at xs ys old new before after h past k =
    let one = h past k in
    record {
      findings = one.findings ∙ ap (λ fs. with_more before (map (in_frame at) fs))
          (sym (findings_stay old.step old.period xs ys past old.noted one.room));
      room = full_sent_stays old.step old.period xs ys past one.room;
      knows = λ e. absurd (false≢true (sym e));
      noted = λ e. absurd (false≢true (sym e));
    }
