-- What is to be said of the configurations of a code, as a list.
use Rattle.std.specs.Prelude.{ℕ, if◌then◌else◌, List, [], ◌∷◌, ◌++◌, map}
use Rattle.std.specs.List.{flat_map}
use Rattle.mux_types.specs.Configuration.{Configuration, nothing}
use Rattle.plan_code.specs.declared.instr.Line.{Line}
use Rattle.plan_verifier.specs.Rules.{commits}
use Rattle.plan_verifier.specs.Typing.{Known}
use Rattle.plan_explain.specs.declared.warning.Warning.{Warning}
use Rattle.plan_explain.specs.declared.warning.Warning.TheVariants.{Flawed, OtherPrimary}
use Rattle.plan_explain.specs.Flaws.{flaws, unless_among}
use Rattle.plan_explain.specs.Primaries.{primaries}

-- one configuration in the place of another
abbrev pub between : ℕ → Configuration → Configuration → List Warning
between line before after =
    map (Flawed line) (flat_map (unless_among (flaws before)) (flaws after))
    ++ map (OtherPrimary line) (primaries before after)

abbrev pub at_instr : Line → Known → List Warning
at_instr l t = if commits l.instr then between l.number t.current t.next else []

abbrev pub at_commits : List Line → List Known → List Warning
at_commits [] ts = []
at_commits (l ∷ ls) [] = []
at_commits (l ∷ ls) (t ∷ ts) = at_instr l t ++ at_commits ls ts

abbrev pub at_opening : ℕ → List Known → List Warning
at_opening begin [] = []
at_opening begin (t ∷ ts) = between begin nothing t.current
