-- The entries of the frames of a notice.
use Rattle.stream_laws.proofs.Words.{[], ◌++◌, ◌+◌, ◌∙◌, ◌∷◌, ◌≡◌, ◌⊎◌, AllByRecursion, Bool, Ended, Fib, Item, List}
use Rattle.stream_laws.proofs.Words.{Moment, Said, after_frames, ap, append-nil, append_assoc, cond, each_pushed, false}
use Rattle.stream_laws.proofs.Words.{frame_items, has_begun, has_ensemble, inl, inr, is_ensemble, is_swap, length}
use Rattle.stream_laws.proofs.Words.{length-append, map, map-append, or_parts, past_after_frame, refl, row_at_hand}
use Rattle.stream_laws.proofs.Words.{rows, said, subst, sym, true, ℕ}

-- the entries of the current frame
abbrev pub at_hand : List Moment → List Item
at_hand (Said i ∷ past) = at_hand past ++ i ∷ []
at_hand _ = []

-- the entries of each frame of the notice that has ended
abbrev pub notice_rows : List Moment → List (List Item)
notice_rows [] = []
notice_rows (Said i ∷ past) = cond (is_swap past i) [] (notice_rows past)
notice_rows (Ended count ∷ past) = cond (has_begun past) (notice_rows past ++ at_hand past ∷ []) []

pub hand_after : (items : List Item) (past : List Moment) → at_hand (said items past) ≡ at_hand past ++ items
hand_after [] past = sym (append-nil (at_hand past))
hand_after (i ∷ is) past = hand_after is (Said i ∷ past) ∙ append_assoc (at_hand past) (i ∷ []) is

-- there are as many as rows of identifiers
pub as_many : (past : List Moment) → length (notice_rows past) ≡ length (rows past)
as_many [] = refl
as_many (Said i ∷ past) = elim (is_swap past i) as (λ t.
    length (cond t [] (notice_rows past)) ≡ length (cond t [] (rows past))) [ true ↦ refl | false ↦ as_many past ]
as_many (Ended count ∷ past) =
    elim (has_begun past) as (λ t. length (cond t (notice_rows past ++ at_hand past ∷ []) [])
    ≡ length (cond t (rows past ++ row_at_hand past ∷ []) [])) [
      | true ↦ length-append (notice_rows past) (at_hand past ∷ []) ∙ ap (λ n. n + 1) (as_many past)
          ∙ sym (length-append (rows past) (row_at_hand past ∷ []))
      | false ↦ refl
    ]

-- no FIG 0/0 among these entries
abbrev pub HasNone : List Item → Type 0
HasNone items = AllByRecursion (λ i. is_ensemble i ≡ false) items

pub none_at_hand : (past : List Moment) → has_ensemble past ≡ false → HasNone (at_hand past)
none_at_hand (Said i ∷ past) e =
    let both = or_parts (is_ensemble i) (has_ensemble past) e in
    each_pushed (λ (j : Item). is_ensemble j ≡ false) (at_hand past) i (none_at_hand past both.1) both.0
none_at_hand _ e = tt

-- ---- they are those of the last frames

rows_or_none : (items : List Item) (past : List Moment) → (notice_rows (said items past) ≡ notice_rows past)
    ⊎ (notice_rows (said items past) ≡ [])
rows_or_none [] past = inl refl
rows_or_none (i ∷ is) past = elim (rows_or_none is (Said i ∷ past)) [
  | inl same ↦ elim (is_swap past i) as (λ t. notice_rows (said is (Said i ∷ past)) ≡ cond t [] (notice_rows past)
      → (notice_rows (said is (Said i ∷ past)) ≡ notice_rows past) ⊎ (notice_rows (said is (Said i ∷ past)) ≡ [])) [
        | true ↦ λ h. inr h
        | false ↦ λ h. inl h
      ] same
  | inr none ↦ inr none
]

-- these frames end with those of the notice
pub record EndsWith (frames : List (List Fib)) (past : List Moment) : Type 0 where
  pub earlier : List (List Fib)
  pub notice : List (List Fib)
  pub whole : frames ≡ earlier ++ notice
  pub are : map frame_items notice ≡ notice_rows past

none_last : (frames : List (List Fib)) (past : List Moment) → notice_rows past ≡ [] → EndsWith frames past
none_last frames past e = record { earlier = frames; notice = []; whole = sym (append-nil frames); are = sym e }

ended_by : (count : ℕ) (frames : List (List Fib)) (frame : List Fib) (past : List Moment) (b : Bool)
    → has_begun past ≡ b → at_hand past ≡ frame_items frame → EndsWith frames past
    → EndsWith (frames ++ frame ∷ []) (Ended count ∷ past)
ended_by count frames frame past true b hand h = record {
  earlier = h.earlier;
  notice = h.notice ++ frame ∷ [];
  whole = ap (λ fs. fs ++ frame ∷ []) h.whole ∙ append_assoc h.earlier h.notice (frame ∷ []);
  are = map-append frame_items h.notice (frame ∷ []) ∙ ap (λ rs. rs ++ frame_items frame ∷ []) h.are
      ∙ ap (λ r. notice_rows past ++ r ∷ []) (sym hand)
      ∙ sym (ap (λ t. cond t (notice_rows past ++ at_hand past ∷ []) []) b);
}
ended_by count frames frame past false b hand h =
    none_last _ _ (ap (λ t. cond t (notice_rows past ++ at_hand past ∷ []) []) b)

said_by : (frames : List (List Fib)) (items : List Item) (past : List Moment) → EndsWith frames past
    → EndsWith frames (said items past)
said_by frames items past h = elim (rows_or_none items past) [
  | inl same ↦ record { earlier = h.earlier; notice = h.notice; whole = h.whole; are = h.are ∙ sym same }
  | inr none ↦ none_last frames (said items past) none
]

ends_by : (step : ℕ) (done frames : List (List Fib)) (past : List Moment) → at_hand past ≡ [] → EndsWith done past
    → EndsWith (done ++ frames) (after_frames step past frames)
ends_by step done [] past hand h = subst (λ (fs : List (List Fib)). EndsWith fs past) (sym (append-nil done)) h
ends_by step done (frame ∷ frames) past hand h =
    let items = hand_after (frame_items frame) past ∙ ap (λ r. r ++ frame_items frame) hand in
    let one : EndsWith (done ++ frame ∷ []) (past_after_frame step past frame) =
    ended_by _ _ _ _ _ refl items (said_by done (frame_items frame) past h) in
    subst (λ (fs : List (List Fib)). EndsWith fs (after_frames step (past_after_frame step past frame) frames))
    (append_assoc done (frame ∷ []) frames) (ends_by step (done ++ frame ∷ []) frames _ refl one)

pub ends_with : (step : ℕ) (frames : List (List Fib)) → EndsWith frames (after_frames step [] frames)
ends_with step frames = ends_by step [] frames [] refl (none_last [] [] refl)

hand_ended : (step : ℕ) (frames : List (List Fib)) (past : List Moment) → at_hand past ≡ []
    → at_hand (after_frames step past frames) ≡ []
hand_ended step [] past e = e
hand_ended step (frame ∷ frames) past e = hand_ended step frames (past_after_frame step past frame) refl

pub none_between : (step : ℕ) (frames : List (List Fib)) → at_hand (after_frames step [] frames) ≡ []
none_between step frames = hand_ended step frames [] refl
