-- What is appended of one configuration in the place of another.
use Rattle.std.proofs.Common.{◌≡◌, ℕ, List, ◌++◌, map, ap, ◌∙◌, append_assoc}
use Rattle.std.specs.Prelude.{Result, Ok, Err, OnOk}
use Rattle.std.specs.List.{flat_map}
use Rattle.mux_types.specs.Configuration.{Configuration}
use Rattle.plan_explain.specs.declared.flaw.Flaw.{Flaw}
use Rattle.plan_explain.specs.declared.primary.Primary.{Primary}
use Rattle.plan_explain.specs.declared.warning.Warning.{Warning}
use Rattle.plan_explain.specs.declared.warning.Warning.TheVariants.{Flawed, OtherPrimary}
use Rattle.plan_explain.specs.Flaws.{flaws, unless_among}
use Rattle.plan_explain.specs.Primaries.{primaries}
use Rattle.plan_explain.specs.ConfigurationChanges.{between}

both_appended : (line : ℕ) (before after : Configuration) (others these : List Flaw) (ps : List Primary)
    (old one two : List Warning) → others ≡ flaws before → these ≡ flaws after → ps ≡ primaries before after
    → one ≡ old ++ map (Flawed line) (flat_map (unless_among others) these) → two ≡ one ++ map (OtherPrimary line) ps
    → two ≡ old ++ between line before after
both_appended line before after others these ps old one two of_before of_after of_both first second =
    let told : one ≡ old ++ map (Flawed line) (flat_map (unless_among (flaws before)) (flaws after)) =
    first ∙ ap (λ (fs : List Flaw). old ++ map (Flawed line) (flat_map (unless_among fs) these)) of_before
    ∙ ap (λ (fs : List Flaw). old ++ map (Flawed line) (flat_map (unless_among (flaws before)) fs)) of_after in
    second ∙ ap (λ (qs : List Primary). one ++ map (OtherPrimary line) qs) of_both
    ∙ ap (λ (ws : List Warning). ws ++ map (OtherPrimary line) (primaries before after)) told
    ∙ append_assoc old (map (Flawed line) (flat_map (unless_among (flaws before)) (flaws after)))
    (map (OtherPrimary line) (primaries before after))

pub appended : {E : Type 0} (r : Result (Unit {0}) E) (line : ℕ) (before after : Configuration)
    (others these : List Flaw) (ps : List Primary) (old one two : List Warning) → others ≡ flaws before
    → these ≡ flaws after
    → ps ≡ primaries before after → one ≡ old ++ map (Flawed line) (flat_map (unless_among others) these)
    → OnOk r (two ≡ one ++ map (OtherPrimary line) ps) → OnOk r (two ≡ old ++ between line before after)
appended (Ok u) line before after others these ps old one two of_before of_after of_both first second =
    both_appended line before after others these ps old one two of_before of_after of_both first second
appended (Err e) line before after others these ps old one two of_before of_after of_both first second = second
