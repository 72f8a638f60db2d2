-- The text of waits, of moments and of conditions.
use Rattle.script_front.proofs.Words.{[], ◌++◌, ◌+◌, ◌<◌, ◌∙◌, ◌∷◌, ◌≡◌, ◌≤◌, Alternative, At, Condition, Early, List}
use Rattle.script_front.proofs.Words.{Time, Until, WaitAny, act_lexemes, add-one, alternative_lexemes}
use Rattle.script_front.proofs.Words.{alternatives_lexemes, ap, append-nil, append_assoc, codes, condition_lexemes}
use Rattle.script_front.proofs.Words.{decimal, drop, drop-cons, drop_all, each_after, get_or, if_lexemes, indent}
use Rattle.script_front.proofs.Words.{length, line, line_text, moment_lexemes, or_lexemes, refl, spaced, sym, time_text}
use Rattle.script_front.proofs.Words.{ℕ}
use Rattle.script_tokens.specs.Keywords.{letters}
use Rattle.script_front.specs.declared.moment.MomentForm.{MomentForm as Moment}
use Rattle.script_front.specs.declared.alternatives.Alternative.TheVariants.{Until as OfMoment}
use Rattle.script_tokens.specs.declared.keyword.Keyword.TheVariants as the
use Rattle.script_front.proofs.Beside.{Alternatives}
use Rattle.script_front.proofs.Printed.{behind_both}

abbrev pub Text : Type 0
Text = List ℕ

-- two texts put one after the other
pub twice : (old one new first second : Text) → one ≡ old ++ first → new ≡ one ++ second
    → new ≡ old ++ (first ++ second)
twice old one new first second e f = f ∙ ap (λ (t : Text). t ++ second) e ∙ append_assoc old first second

-- ---- moments

pub at_put : (old new : Text) (time : ℕ) → new ≡ old ++ (32 ∷ time_text time) → new ≡ old
    ++ each_after (moment_lexemes (At time))
at_put old new time e = rw (append-nil (time_text time)) e

pub early_put : (old one new : Text) (time frames : ℕ) → one ≡ old ++ (32 ∷ time_text time) → new ≡ one
    ++ (codes " early " ++ decimal frames) → new ≡ old ++ each_after (moment_lexemes (Early time frames))
unfolding letters
early_put old one new time frames e f =
    twice old one _ _ (codes " early " ++ (decimal frames ++ [])) e (rw (append-nil (decimal frames)) f)

pub until_put : (old one new : Text) (m : Moment) → one ≡ old ++ codes "until" → new ≡ one
    ++ each_after (moment_lexemes m) → new ≡ old ++ spaced (act_lexemes (Until m))
unfolding letters
until_put old one new m e f = twice old one new (codes "until") (each_after (moment_lexemes m)) e f

-- ---- alternatives

pub moment_alternative_put : (old one new : Text) (m : Moment) → one ≡ old ++ codes " until" → new ≡ one
    ++ each_after (moment_lexemes m) → new ≡ old ++ each_after (alternative_lexemes (OfMoment m))
unfolding letters
moment_alternative_put old one new m e f = twice old one new (codes " until") (each_after (moment_lexemes m)) e f

-- the alternatives printed so far, and those that remain
pub record OrPrinted (old out : Text) (all : Alternatives) (i : ℕ) : Type 0 where
  pub whole : out ++ each_after (or_lexemes (drop i all)) ≡ old ++ each_after (or_lexemes all)

pub or_more : (old out one new : Text) (all : Alternatives) (i : ℕ) (a : Alternative) → i < length all
    → a ≡ get_or all i a → one ≡ out ++ codes " or" → new ≡ one ++ each_after (alternative_lexemes a)
    → OrPrinted old out all i → OrPrinted old new all (i + 1)
unfolding letters
or_more old out one new all i a lt same e f h = record {
  whole = (
      let rest : Text = each_after (or_lexemes (drop (i + 1) all)) in
      let this : Text = each_after (alternative_lexemes a) in
      let next : drop i all ≡ a ∷ drop (i + 1) all = rw (same) (rw (add-one, drop-cons all i a lt) refl) in
      ap (λ (t : Text). t ++ rest) (twice out one new (codes " or") this e f)
      ∙ append_assoc out (codes " or" ++ this) rest
      ∙ ap (λ (t : Text). out ++ (codes " or" ++ t))
      (sym (behind_both (alternative_lexemes a) (or_lexemes (drop (i + 1) all))))
      ∙ sym (ap (λ (xs : Alternatives). out ++ each_after (or_lexemes xs)) next) ∙ h.whole
      );
}

pub or_all : (old out : Text) (all : Alternatives) (i : ℕ) → length all ≤ i → OrPrinted old out all i → out ≡ old
    ++ each_after (or_lexemes all)
or_all old out all i long h = let e : out ++ [] ≡ old ++ each_after (or_lexemes all) =
    rw (drop_all i all long) at h.whole in sym (append-nil out) ∙ e

pub alternatives_put : (old one new : Text) (all others : Alternatives) (first : Alternative) → all ≡ first ∷ others
    → one ≡ old ++ each_after (alternative_lexemes first) → new ≡ one ++ each_after (or_lexemes others)
    → new ≡ old ++ each_after (alternatives_lexemes all)
alternatives_put old one new all others first is e f =
    twice old one new (each_after (alternative_lexemes first)) (each_after (or_lexemes others)) e f
    ∙ ap (λ (t : Text). old ++ t) (sym (behind_both (alternative_lexemes first) (or_lexemes others))
    ∙ ap (λ (xs : Alternatives). each_after (alternatives_lexemes xs)) (sym is))

pub any_put : (old one new : Text) (all : Alternatives) → one ≡ old ++ codes "wait" → new ≡ one
    ++ each_after (alternatives_lexemes all) → new ≡ old ++ spaced (act_lexemes (WaitAny all))
unfolding letters
any_put old one new all e f = twice old one new (codes "wait") (each_after (alternatives_lexemes all)) e f

-- ---- conditions

pub window_put : (old one two three new : Text) (from to : ℕ) → one ≡ old ++ codes " time " → two ≡ one
    ++ time_text from → three ≡ two ++ codes " to " → new ≡ three ++ time_text to
    → new ≡ old ++ each_after (condition_lexemes (Time from to))
unfolding letters
window_put old one two three new from to e f g h =
    twice old one new (codes " time ") (time_text from ++ (codes " to " ++ (time_text to ++ []))) e
    (twice one two new (time_text from) (codes " to " ++ (time_text to ++ [])) f
    (twice two three new (codes " to ") (time_text to ++ []) g (rw (append-nil (time_text to)) h)))

pub if_put : (old one two new : Text) (d : ℕ) (c : Condition) → one ≡ old ++ (indent d ++ codes "if") → two ≡ one
    ++ each_after (condition_lexemes c) → new ≡ two ++ codes " {\n" → new ≡ old ++ line_text (line d (if_lexemes c))
unfolding letters
if_put old one two new d c e f g =
    let this : Text = each_after (condition_lexemes c) in
    let brace : Text = each_after (letters the.OpenBrace ∷ []) in
    let tail : spaced (if_lexemes c) ++ 10 ∷ [] ≡ codes "if" ++ (this ++ codes " {\n") =
    ap (λ (t : Text). (codes "if" ++ t) ++ 10 ∷ []) (behind_both (condition_lexemes c) (letters the.OpenBrace ∷ []))
    ∙ append_assoc (codes "if") (this ++ brace) (10 ∷ [])
    ∙ ap (λ (t : Text). codes "if" ++ t) (append_assoc this brace (10 ∷ [])) in
    twice old one new (indent d ++ codes "if") (this ++ codes " {\n") e (twice one two new this (codes " {\n") f g)
    ∙ ap (λ (t : Text). old ++ t) (append_assoc (indent d) (codes "if") (this ++ codes " {\n")
    ∙ ap (λ (t : Text). indent d ++ t) (sym tail))
