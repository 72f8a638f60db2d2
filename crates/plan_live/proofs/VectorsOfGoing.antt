-- A live run from one point to the next, by the line `frames 2`: each definition where it holds, and where it
-- fails.
use Rattle.plan_live.proofs.Words.{[], ◌+◌, ◌∙◌, ◌∷◌, ◌≡◌, FrameWent, Frames, Going, LineDoes, LineWent, List, None}
use Rattle.plan_live.proofs.Words.{Playing, Some, Step, Streamed, Went, ap, arith, events_of, frames_of, inl, inr, kept}
use Rattle.plan_live.proofs.Words.{length, played, refl, streamed, streams_at, ℕ}
use Rattle.plan_live.proofs.Vectors.{fresh, frames, two_frames, at_sign, no_steps, two_are_played}
use Rattle.plan_live.proofs.VectorsOfRuns.{input, before, after, one, reached}

-- ---- a frame

skipped : kept 2 1 (7 ∷ []) ≡ []
skipped = refl

not_skipped : kept 2 2 (7 ∷ []) ≡ 7 ∷ []
not_skipped = refl

abbrev taken : List ℕ → Streamed
taken bytes = streamed None (Some bytes)

written : FrameWent 2 (7 ∷ 8 ∷ []) 2 3 (taken (5 ∷ [])) (taken (5 ∷ 7 ∷ 8 ∷ []))
written = record { count = refl; left = refl; out = refl }

written_though_skipped : FrameWent 2 (7 ∷ 8 ∷ []) 1 2 (taken []) (taken (7 ∷ 8 ∷ [])) → ⊥
written_though_skipped h = let n : 2 ≡ 0 = ap (λ (l : List ℕ). length l) h.out in omega (arith, n)

-- ---- what is known of the streams in one state

known : streams_at (λ (e : List ℕ). Some e) (λ _. None) (7 ∷ []) ≡ streamed (Some (7 ∷ [])) None
known = refl

-- ---- events

abbrev later : Playing
later = played fresh (frames 2)

went : Went 1 fresh 0 (frames 2) later 2 before (record after { left = Some input })
went = record { state = refl; count = refl; left = refl; out = refl }

-- a frame is counted though it is skipped
miscounted : Went 1 fresh 0 (frames 2) later 1 before (record after { left = Some input }) → ⊥
miscounted h = let e : 1 ≡ 2 = h.count in omega (arith, e)

-- ---- lines

line_went : LineWent 1 fresh 0 two_frames later 2 before (record after { left = Some input })
line_went = record { steps = Frames 2 ∷ []; does = two_are_played; went = went }

at_no_frame : (steps : List Step) → LineDoes at_sign steps → 1 ≡ 0 + length (frames_of fresh (events_of steps)) → ⊥
at_no_frame steps (inl h) count = no_steps steps h
at_no_frame steps (inr h) count = let n : length (frames_of fresh (events_of steps)) ≡ 0 =
    ap (λ (l : List Step). length (frames_of fresh (events_of l))) h.1 in omega (arith, n, count)

-- a line that lists no steps counts no frame
bad_counted : LineWent 1 fresh 0 at_sign fresh 1 before before → ⊥
bad_counted h = at_no_frame h.steps h.does h.went.count

-- ---- lines one after another

goes : Going 1 fresh before after later 2
goes = record { lines = one; reached = reached; player = refl; count = refl }

-- the line was not read
line_invented : (h : Going 1 fresh before before fresh 2) → h.reached.steps ≡ [] → ⊥
line_invented h none = let n : 2 ≡ 0 = h.count ∙ ap (λ (l : List Step). length (frames_of fresh (events_of l))) none in
    omega (arith, n)
