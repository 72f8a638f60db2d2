-- A short text that lists a command, and a list that is not its own.
use Rattle.plan_session.proofs.Words.{[], ◌∷◌, ◌≡◌, Clear, List, ListsCommands, NO_LIMITS, None, Ok, Result, Scan}
use Rattle.plan_session.proofs.Words.{ScriptFault, TakesCommand, codes, first_position, refl, ℕ}
use Rattle.script_tokens.specs.Lexing.{lexed}

-- `clear`
abbrev clear : Scan
clear = record { text = codes "clear"; limits = NO_LIMITS; place = first_position }

one_is_listed : ListsCommands clear (Clear ∷ [])
unfolding lexed
one_is_listed = record { left = refl; in_range = (tt, tt) }

-- the text does not list nothing
not_none : ListsCommands clear [] → ⊥
unfolding lexed
not_none l =
    let words : Result (List (List ℕ)) ScriptFault = Ok (codes "clear" ∷ []) in
    let none : words ≡ Ok [] = l.left in
    absurd cc

-- so it is not at its end
not_at_the_end : (new : Scan) → TakesCommand clear new None → ⊥
not_at_the_end new t = let none = t (Clear ∷ []) one_is_listed in absurd (cc none)
