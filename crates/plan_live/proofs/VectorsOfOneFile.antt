-- Lines as one event file, by the lines `frames 2` and `@`: each definition where it holds, and where it fails.
use Rattle.plan_live.proofs.Words.{[], ◌++◌, ◌∙◌, ◌∷◌, ◌≡◌, AreLinesOf, AreListing, Begins, FitsIntoMemory, Frames}
use Rattle.plan_live.proofs.Words.{HoldsOneList, IsPlayedAs, List, ListInTurn, Request, Some, Step, Streamed, ap}
use Rattle.plan_live.proofs.Words.{append-nil, arith, events_of, inl, inr, kept_bytes, length, length-replicate, over}
use Rattle.plan_live.proofs.Words.{played_bytes, refl, replicate, streamed, subst, sym, ℕ}
use Rattle.plan_live.proofs.OneFile.{lines_list_in_turn, playback_of}
use Rattle.plan_live.proofs.Vectors.{fresh, frames, two_frames, two_are_held, only_two, at_sign, no_steps, some_steps}

-- ---- the lines that list steps

-- `@` lists no steps
those_are_listing : AreListing (at_sign ∷ two_frames ∷ []) (two_frames ∷ [])
those_are_listing = inr (no_steps, inl (Frames 2 ∷ [], [], two_are_held, refl, refl))

-- a line that lists steps is left out
one_is_left_out : AreListing (two_frames ∷ []) [] → ⊥
one_is_left_out (inl (steps, others, holds, is, rest)) = let n : 0 ≡ length (two_frames ∷ others) =
    ap (λ (l : List (List ℕ)). length l) is in omega (arith, n)
one_is_left_out (inr h) = some_steps h.0

bad_in_turn : (steps : List Step) → ListInTurn (at_sign ∷ []) steps → ⊥
bad_in_turn steps (first, rest, holds, cut, none) = no_steps first holds

-- ---- one event file

fits : FitsIntoMemory two_frames
fits = let n : length two_frames ≡ 8 = refl in omega (arith, n)

-- 2^64 blanks
too_long : (n : ℕ) → n ≡ 18446744073709551616 → FitsIntoMemory (replicate n 32) → ⊥
too_long n is h = let long : length (replicate n 32) ≡ n = length-replicate {A = ℕ} n 32 in omega (arith, is, long, h)

-- ---- the run over a line, and over the event file

abbrev one : List (List ℕ)
one = two_frames ∷ []

abbrev input : List ℕ
input = two_frames ++ 10 ∷ []

abbrev before : Streamed
before = streamed (Some input) (Some [])

abbrev after : Streamed
after = streamed (Some []) (Some (kept_bytes 0 fresh (frames 2)))

in_turn : ListInTurn one (Frames 2 ∷ [])
in_turn = (Frames 2 ∷ [], [], two_are_held, refl, refl)

no_feed : AreLinesOf input one
no_feed = record {
  no_feed = (
    (
      λ e. omega (arith, e),
      (
        λ e. omega (arith, e),
        (
          λ e. omega (arith, e),
          (
            λ e. omega (arith, e),
            (
              λ e. omega (arith, e),
              (λ e. omega (arith, e), (λ e. omega (arith, e), (λ e. omega (arith, e), tt))),
            ),
          ),
        ),
      ),
    ),
    tt,
  );
  whole = inl refl;
}

played_as : (r : Request) → Begins r fresh → IsPlayedAs r fresh before after
played_as r begins = record {
  lines = one;
  listing = one;
  steps = Frames 2 ∷ [];
  given = refl;
  those = inl (Frames 2 ∷ [], [], two_are_held, refl, refl);
  in_turn = in_turn;
  playback = λ text are short. playback_of r fresh (Frames 2 ∷ []) text begins
      (lines_list_in_turn one (Frames 2 ∷ []) text in_turn are short);
  delivers = (refl, refl);
  file = no_feed;
}

steps_of_one : HoldsOneList → (listing : List (List ℕ)) (steps : List Step) → AreListing one listing
    → ListInTurn listing steps → steps ≡ Frames 2 ∷ []
steps_of_one law listing steps (inr h) k = absurd (some_steps h.0)
steps_of_one law listing steps (inl (more, others, holds, is, rest)) k =
    let all : listing ≡ one = is ∙ ap (λ (l : List (List ℕ)). two_frames ∷ l) rest in
    let list : ListInTurn one steps = subst (λ (l : List (List ℕ)). ListInTurn l steps) all k in
    list.3 ∙ ap (λ (s : List Step). s ++ list.1) (only_two law list.0 list.2)
    ∙ ap (λ (s : List Step). Frames 2 ∷ s) list.4

-- nothing was written
nothing_written : HoldsOneList → (r : Request) → IsPlayedAs r fresh before (streamed (Some []) (Some [])) → ⊥
nothing_written law r h =
    let all : h.lines ≡ one = sym (append-nil h.lines) ∙ sym h.given in
    let steps : h.steps ≡ Frames 2 ∷ [] =
    steps_of_one law h.listing h.steps (subst (λ (l : List (List ℕ)). AreListing l h.listing) all h.those)
    h.in_turn in
    let none : 0 ≡ length (played_bytes fresh (events_of h.steps)) = ap (λ (l : List ℕ). length l) h.delivers.1 in
    let some : length (played_bytes fresh (events_of h.steps)) ≡ 192 =
    ap (λ (s : List Step). length (played_bytes fresh (events_of s))) steps in
    omega (arith, none, some)

-- the request has the text of the file
text_of_request : (r : Request) → (over two_frames r).text ≡ two_frames
text_of_request r = refl
