-- The outcome of a live run, by the line `frames 2` and a code that waits for a frame and ends: each definition
-- where it holds, and where it fails.
use Rattle.plan_live.proofs.Words.{[], ◌++◌, ◌∙◌, ◌∷◌, ◌≡◌, AllByRecursion, AreDone, Err, Frames, HoldsOneList}
use Rattle.plan_live.proofs.Words.{IsPrompt, LinesDo, List, None, Ok, Option, Reached, Request, Some, Step, Streamed}
use Rattle.plan_live.proofs.Words.{Whole, all_open, ap, append-nil, arith, asked, events_of, inl, inr, kept_bytes}
use Rattle.plan_live.proofs.Words.{length, refl, streamed, subst, sym, ℕ}
use Rattle.plan_code.specs.declared.fault.CodeFault.TheVariants.{Magic, Memory as NoMemoryForCode}
use Rattle.plan_session.specs.declared.run_fault.RunFault.TheVariants.{Code}
use Rattle.plan_live.specs.declared.fault.LiveFault.TheVariants.{Playback}
use Rattle.plan_live.specs.Beginning.{Lives, IsLiveFault}
use Rattle.plan_live.proofs.Vectors.{fresh, frames, two_frames, two_are_played, only_two, some_steps}

-- ---- the bytes that are written

but_for_two : length (kept_bytes 2 fresh (frames 3)) ≡ 96
but_for_two = refl

-- ---- the line `frames 2`, of which the first frame is skipped

abbrev pub input : List ℕ
input = two_frames ++ 10 ∷ []

abbrev pub second : List ℕ
second = kept_bytes 1 fresh (frames 2)

abbrev pub before : Streamed
before = streamed (Some input) (Some [])

abbrev pub after : Streamed
after = streamed (Some []) (Some second)

abbrev pub one : List (List ℕ)
one = two_frames ∷ []

pub one_does : LinesDo one (Frames 2 ∷ [])
one_does = (Frames 2 ∷ [], [], refl, two_are_played, refl)

abbrev pub reached : Reached 1 fresh before after one
reached = record { given = refl; steps = Frames 2 ∷ []; does = one_does; out = refl }

abbrev pub reached_first : Reached 1 fresh before before []
reached_first = record { given = refl; steps = []; does = refl; out = refl }

done : AreDone 1 fresh before after
done = (one, reached)

whole : Whole 1 fresh before after
whole = (one, reached, refl)

-- bytes are left in the input
not_whole : (w : Option (List ℕ)) → Whole 1 fresh before (streamed (Some input) w) → ⊥
not_whole w h = let n : 9 ≡ 0 = ap (λ (l : List ℕ). length l) h.2 in omega (arith, n)

-- ---- the requests for lines

prompt : IsPrompt 1 fresh before (Some []) (Some (before ∷ after ∷ []))
prompt = record { moments = before ∷ after ∷ []; grows = refl; done = (([], reached_first), (done, tt)) }

-- the line was read, and its second frame is not written yet
abbrev late : Streamed
late = streamed (Some []) (Some [])

steps_of_one : HoldsOneList → (steps : List Step) → LinesDo one steps → steps ≡ Frames 2 ∷ []
steps_of_one law steps (a, rest, cut, inl h, others) =
    cut ∙ ap (λ (l : List Step). l ++ rest) (only_two law a h) ∙ ap (λ (l : List Step). Frames 2 ∷ l) others
steps_of_one law steps (a, rest, cut, inr h, others) = absurd (some_steps h.0)

not_done : HoldsOneList → (lines : List (List ℕ)) → Reached 1 fresh before late lines → ⊥
not_done law lines h =
    let all : lines ≡ one = sym (append-nil lines) ∙ sym h.given in
    let does : LinesDo one h.steps = subst (λ (l : List (List ℕ)). LinesDo l h.steps) all h.does in
    let none : 0 ≡ length (kept_bytes 1 fresh (events_of h.steps)) = ap (λ (l : List ℕ). length l) h.out in
    let some : length (kept_bytes 1 fresh (events_of h.steps)) ≡ 96 =
    ap (λ (l : List Step). length (kept_bytes 1 fresh (events_of l))) (steps_of_one law h.steps does) in
    omega (arith, none, some)

not_prompt : HoldsOneList → IsPrompt 1 fresh before (Some []) (Some (late ∷ [])) → ⊥
not_prompt law h =
    let done : AreDone 1 fresh before late × Unit {0} =
    subst (λ (l : List Streamed). AllByRecursion (AreDone 1 fresh before) l) (sym h.grows) h.done in
    not_done law done.0.0 done.0.1

-- ---- how a run begins

abbrev request : Request
request = asked [] [] 0 0 all_open

lives : Lives 1 fresh before after (Ok tt)
lives = whole

-- a run that begins does not report a fault of the code
lives_as_no_code : Lives 1 fresh before after (Err (Playback (Code Magic))) → ⊥
lives_as_no_code h = let e : Code Magic ≡ Code NoMemoryForCode = h in absurd cc

nothing_done : IsLiveFault request before before (Playback (Code NoMemoryForCode))
nothing_done = ((λ other. absurd (other refl)), refl)

abbrev known : Option (List ℕ) → ℕ
known None = 0
known (Some bytes) = length bytes

something_read : IsLiveFault request before after (Playback (Code NoMemoryForCode)) → ⊥
something_read h = let n : 0 ≡ 9 = ap (λ (s : Streamed). known s.left) h.1 in omega (arith, n)
