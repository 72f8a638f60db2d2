-- What status 0 means: each definition where it holds, and where it fails.
use Rattle.cli_plans.proofs.Words.{[], ◌++◌, ◌∷◌, ◌≡◌, Appends, Begins, IsLiveTo, IsPlayback, IsPlayedInto, IsPlayedTo}
use Rattle.cli_plans.proofs.Words.{List, LiveRequest, Lives, None, Option, Playing, Plays, PlaysToOutput, Some}
use Rattle.cli_plans.proofs.Words.{StartOptions, Step, World, ap, arith, asked_from, events_of, length, played_bytes}
use Rattle.cli_plans.proofs.Words.{refl, take, ℕ}
use Rattle.plan_live.specs.Living.{kept_bytes}
use Rattle.cli_plans.specs.declared.play.PlayRequest.{PlayRequest}

-- ---- a file

-- every file has these bytes
abbrev all_have : List ℕ → World
all_have bytes = record { files = λ path. Some bytes }

abbrev no_files : World
no_files = record { files = λ path. None }

written : (path code text : List ℕ) (start : StartOptions) (p : Playing) (steps : List Step)
    → IsPlayback (asked_from code text start) p steps
    → IsPlayedInto path code text start (Some (all_have (played_bytes p (events_of steps))))
    (Some (all_have (played_bytes p (events_of steps))))
written path code text start p steps h = (p, steps, h, record { written = refl; others = λ other not. refl })

not_written : (path code text : List ℕ) (start : StartOptions)
    → IsPlayedInto path code text start (Some no_files) (Some no_files) → ⊥
not_written path code text start (p, steps, h, has) = let none = has.written in absurd cc

-- nothing is claimed of a code that is not known
unknown : (r : PlayRequest) (before after : Option World) → Plays r (λ path. None) before after
unknown r before after = λ code text e. absurd cc

not_played : (r : PlayRequest) → Plays r (λ path. Some []) (Some no_files) (Some no_files) → ⊥
not_played r h = not_written r.out.now (take 1048577 []) [] r.start (h [] [] refl refl)

-- ---- standard output

taken : (code text : List ℕ) (start : StartOptions) (p : Playing) (steps : List Step)
    → IsPlayback (asked_from code text start) p steps
    → IsPlayedTo code text start (Some []) (Some (played_bytes p (events_of steps)))
taken code text start p steps h = (p, steps, h, refl)

-- no bytes are taken back
fewer : (bytes : List ℕ) → Appends (Some (7 ∷ [])) (Some []) bytes → ⊥
fewer bytes h = let n : 0 ≡ length ((7 ∷ []) ++ bytes) = ap (λ (l : List ℕ). length l) h in omega (arith, n)

not_taken : (code text : List ℕ) (start : StartOptions) → IsPlayedTo code text start (Some (7 ∷ [])) (Some []) → ⊥
not_taken code text start (p, steps, h, out) = fewer (played_bytes p (events_of steps)) out

unknown_to_output : (r : PlayRequest) (before after : Option (List ℕ)) → PlaysToOutput r (λ path. None) before after
unknown_to_output r before after = λ code text e. absurd cc

not_played_to_output : (r : PlayRequest) → PlaysToOutput r (λ path. Some []) (Some (7 ∷ [])) (Some []) → ⊥
not_played_to_output r h = not_taken (take 1048577 []) [] r.start (h [] [] refl refl)

-- ---- lines

no_lines : (r : LiveRequest) (code : List ℕ) (p : Playing) → Begins (asked_from code [] r.start) p
    → IsLiveTo r code (Some []) (Some []) (Some (kept_bytes r.skip p []))
no_lines r code p h = (p, [], h, refl, refl)

not_live : (r : LiveRequest) (code : List ℕ) (input : Option (List ℕ)) → IsLiveTo r code input (Some (7 ∷ [])) (Some [])
    → ⊥
not_live r code input (p, steps, h, does, out) = fewer (kept_bytes r.skip p (events_of steps)) out

unknown_live : (r : LiveRequest) (input before after : Option (List ℕ)) → Lives r (λ path. None) input before after
unknown_live r input before after = λ code e. absurd cc

not_lived : (r : LiveRequest) (input : Option (List ℕ)) → Lives r (λ path. Some []) input (Some (7 ∷ [])) (Some []) → ⊥
not_lived r input h = not_live r (take 1048577 []) input (h [] refl)
