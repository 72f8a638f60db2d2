-- What the checker knows and has reported after one more FIB.
use Rattle.stream_check.proofs.Words.{[], ◌&&◌, ◌++◌, ◌+◌, ◌<◌, ◌||◌, ◌∙◌, ◌∷◌, ◌≡◌, ◌≢◌, ◌≤◌, ◌⊎◌, Adds, AreFrames}
use Rattle.stream_check.proofs.Words.{Bool, CheckerState, Checking, Contradiction, EndsFull, EnsembleInformation, Fib}
use Rattle.stream_check.proofs.Words.{Follows, FollowsFib, HearsFrame, HoldsFirst, IsFrameHeard, IsFramed, IsOneFrame}
use Rattle.stream_check.proofs.Words.{IsSummary, Item, Knows, List, Moment, Option, Reading, Reported, Said, Unknown}
use Rattle.stream_check.proofs.Words.{after_frames, ap, append-nil, arith, begins_with_ensemble, cases_lt, count_step}
use Rattle.stream_check.proofs.Words.{damaged_in, false, false≢true, fib_count, findings_in, findings_of, first_in}
use Rattle.stream_check.proofs.Words.{flat_map-append, frame_items, frames_ended, holds_ensemble, inl, inr, is_begun}
use Rattle.stream_check.proofs.Words.{is_empty, is_there, length, length-append, length-map, lt-ltb, map, map-append}
use Rattle.stream_check.proofs.Words.{nat_lt, not, noted_in_frames, opening, past_after_frame, refl, said, subst, sym}
use Rattle.stream_check.proofs.Words.{true, with_more, ℕ}
use Rattle.fib_codec.specs.declared.modes.Mode.{Mode}
use Rattle.fib_codec.specs.declared.modes.Mode.TheVariants.{I, II, III, IV}
use Rattle.stream_check.specs.declared.checker.Summary.{Summary}
use Rattle.stream_check.proofs.Chain.{more_twice, more_none}
use Rattle.stream_check.proofs.Framing.{flat, one_more, held_of, skips_more, goes_on, after_more, full_more, noted_more}
use Rattle.stream_check.proofs.Framing.{findings_more, damaged_append}

-- ---- the number of frames

said_frames : (is : List Item) (past : List Moment) → frames_ended (said is past) ≡ frames_ended past
said_frames [] past = refl
said_frames (i ∷ is) past = said_frames is (Said i ∷ past)

ended_frames : (step : ℕ) (frames : List (List Fib)) (past : List Moment)
    → frames_ended (after_frames step past frames) ≡ frames_ended past + length frames
ended_frames step [] past = omega arith
ended_frames step (f ∷ fs) past =
    omega (arith, ended_frames step fs (past_after_frame step past f), said_frames (frame_items f) past)

pub frame_count : (step period : ℕ) (frames : List (List Fib)) (m : CheckerState)
    → Knows step period (after_frames step [] frames) m → m.frames ≡ length frames
frame_count step period frames m k = let all = ended_frames step frames [] in omega (arith, all, k.frames)

no_frames : (frames : List (List Fib)) → 0 ≡ length frames → frames ≡ []
no_frames [] e = refl
no_frames (f ∷ fs) e = absurd (omega (arith, e))

-- ---- a skipped FIB

pub follows_skip : (r : Reading) (mode : Mode) (period : ℕ) (stream : List Fib) (start reported : Reported)
    (c : Checking) (fib : List ℕ) → c.state.frames ≡ 0 → c.held ≡ [] → holds_ensemble (r.read fib) ≡ false
    → (f : Follows r mode period stream start reported c)
    → (g : Follows r mode period (stream ++ r.read fib ∷ []) start reported (record c { skipped = c.skipped + 1 }))
    × ((g.frames ≡ f.frames) × (f.frames ≡ []))
follows_skip r mode period stream start reported c fib none empty silent f =
    let count = frame_count (count_step mode) period f.frames c.state f.knows in
    let nothing : f.frames ≡ [] = no_frames f.frames (sym none ∙ count) in
    let held : map r.read c.held ≡ [] = ap (map r.read) empty in
    let before : IsFramed (fib_count mode) stream f.skipped [] [] = rw (← held) (rw (← nothing) f.framed) in
    let g : Follows r mode period (stream ++ r.read fib ∷ []) start reported (record c { skipped = c.skipped + 1 }) =
    record {
      skipped = f.skipped ++ r.read fib ∷ [];
      frames = f.frames;
      framed = rw nothing (rw held (skips_more (fib_count mode) stream f.skipped (r.read fib) silent before));
      size = f.size;
      skips = omega (arith, f.skips, length-append f.skipped (r.read fib ∷ []));
      damages = f.damages;
      room = f.room;
      knows = f.knows;
      noted = f.noted;
      findings = f.findings;
    } in
    (g, (refl, nothing))

-- ---- a FIB of a frame

-- the first FIB of all frames contains a FIG 0/0
first_holds : (size : ℕ) (frames : List (List Fib)) (held : List Fib) (fib : Fib) → AreFrames size frames held
    → HoldsFirst (flat frames ++ held) → (frames ≡ [] → held ≡ [] → holds_ensemble fib ≡ true)
    → HoldsFirst ((flat frames ++ held) ++ fib ∷ [])
first_holds size [] [] fib all first new = new refl refl
first_holds size ([] ∷ fs) held fib all first new = absurd all.0
first_holds size _ _ fib all first new = first

map_one : (r : Reading) (held : List (List ℕ)) (fib : List ℕ) → map r.read (held ++ fib ∷ []) ≡ map r.read held
    ++ r.read fib ∷ []
map_one r held fib = map-append r.read held (fib ∷ [])

some_held : (r : Reading) (held : List (List ℕ)) → held ≢ [] → map r.read held ≢ []
some_held r [] some e = some refl
some_held r (x ∷ xs) some e = absurd cc

held_some : (r : Reading) (held : List (List ℕ)) → map r.read held ≢ [] → held ≢ []
held_some r [] some e = some refl
held_some r (x ∷ xs) some e = absurd cc

-- a FIB that is buffered: the first of all contains a FIG 0/0, and only the first of a frame may begin with one
pub record IsNext (r : Reading) (c : Checking) (fib : List ℕ) : Type 0 where
  pub holds : c.state.frames ≡ 0 → c.held ≡ [] → holds_ensemble (r.read fib) ≡ true

holds_next : (r : Reading) (mode : Mode) (period : ℕ) (c : Checking) (fib : List ℕ) (frames : List (List Fib))
    → Knows (count_step mode) period (after_frames (count_step mode) [] frames) c.state → IsNext r c fib
    → frames ≡ [] → map r.read c.held ≡ [] → holds_ensemble (r.read fib) ≡ true
holds_next r mode period c fib frames k next none empty =
    let count = frame_count (count_step mode) period frames c.state k in
    next.holds (omega (arith, count, ap length none)) (empties c.held empty)
  where
    empties : (held : List (List ℕ)) → map r.read held ≡ [] → held ≡ []
    empties [] e = refl
    empties (x ∷ xs) e = absurd cc

one_frame : (size : ℕ) (xs : List Fib) → IsOneFrame xs → length xs < size → AreFrames size [] xs
one_frame size [] one lt = absurd one
one_frame size (x ∷ xs) one lt = (one, lt)

pub follows_hold : (r : Reading) (mode : Mode) (period : ℕ) (stream : List Fib) (start reported : Reported)
    (c : Checking) (fib : List ℕ) → IsNext r c fib → (c.held ≢ [] → begins_with_ensemble (r.read fib) ≡ false)
    → length c.held + 1 < c.size → (f : Follows r mode period stream start reported c)
    → (g : Follows r mode period (stream ++ r.read fib ∷ []) start reported (record c { held = c.held ++ fib ∷ [] }))
    × ((g.frames ≡ f.frames) × (g.skipped ≡ f.skipped))
follows_hold r mode period stream start reported c fib next later short f =
    let held = map r.read c.held in
    let whole = one_more (map r.read c.held) (r.read fib) (λ some. later (held_some r c.held some))
    (held_of (fib_count mode) f.frames (map r.read c.held) f.framed.cut) in
    let few : length (map r.read c.held ++ r.read fib ∷ []) < fib_count mode =
    omega (arith, length-append (map r.read c.held) (r.read fib ∷ []), length-map c.held r.read, short, f.size) in
    let g : Follows r mode period (stream ++ r.read fib ∷ []) start reported (record c { held = c.held ++ fib ∷ [] }) =
    record {
      skipped = f.skipped;
      frames = f.frames;
      framed = subst (λ (h : List Fib). IsFramed (fib_count mode) (stream ++ r.read fib ∷ []) f.skipped f.frames h)
          (sym (map_one r c.held fib))
          (subst (λ (fs : List (List Fib)). IsFramed (fib_count mode) (stream ++ r.read fib ∷ []) f.skipped fs
          (map r.read c.held ++ r.read fib ∷ [])) (append-nil f.frames)
          (goes_on (fib_count mode) stream f.skipped f.frames [] (map r.read c.held)
          (map r.read c.held ++ r.read fib ∷ []) (r.read fib) refl
          (one_frame (fib_count mode) (map r.read c.held ++ r.read fib ∷ []) whole few)
          (first_holds (fib_count mode) f.frames (map r.read c.held) (r.read fib) f.framed.cut f.framed.begun
          (holds_next r mode period c fib f.frames f.knows next)) f.framed));
      size = f.size;
      skips = f.skips;
      damages = f.damages;
      room = f.room;
      knows = f.knows;
      noted = f.noted;
      findings = f.findings;
    } in
    (g, (refl, refl))

-- ---- the end of a frame

-- the stream cut into frames with this one, and the rest
record Ends (r : Reading) (mode : Mode) (stream : List Fib) (c : Checking) (fib : List ℕ) (skipped : List Fib)
    (frames : List (List Fib)) (frame rest : List Fib) : Type 0 where
  framed : IsFramed (fib_count mode) (stream ++ r.read fib ∷ []) skipped (frames ++ frame ∷ []) rest

flat_one : (frames : List (List Fib)) (frame : List Fib) → flat (frames ++ frame ∷ []) ≡ flat frames ++ frame
flat_one frames frame = flat_map-append (λ g. g) frames (frame ∷ []) ∙ ap (λ l. flat frames ++ l) (append-nil frame)

heard_same : (mode : Mode) (c : Checking) (frame : List Fib) (reported after : Reported) (new : CheckerState)
    (full : Bool) (period : ℕ) (past : List Moment) (noted : List Contradiction) → c.size ≡ fib_count mode
    → Knows (count_step mode) period past c.state → c.state.noted ≡ noted
    → HearsFrame c.size frame c.state reported new after full
    → IsFrameHeard (fib_count mode) (count_step mode) period past noted frame reported after new full
heard_same mode c frame reported after new full period past noted size k same h =
    subst (λ (l : List Contradiction). IsFrameHeard (fib_count mode) (count_step mode) period past l frame reported
    after new full) same
    (subst (λ (n : ℕ). IsFrameHeard n (count_step mode) period past c.state.noted frame reported after new full) size
    (subst (λ (s : ℕ). IsFrameHeard c.size s period past c.state.noted frame reported after new full) k.mode
    (subst (λ (p : ℕ). IsFrameHeard c.size c.state.step p past c.state.noted frame reported after new full) k.page_index
    (h past (subst (λ (s : ℕ). Knows s c.state.period past c.state) (sym k.mode)
    (subst (λ (p : ℕ). Knows (count_step mode) p past c.state) (sym k.page_index) k))))))

pub follows_frame : (r : Reading) (mode : Mode) (period : ℕ) (stream : List Fib) (start reported after : Reported)
    (c new : Checking) (frame : List Fib) (fib : List ℕ) → (f : Follows r mode period stream start reported c)
    → IsFramed (fib_count mode) (stream ++ r.read fib ∷ []) f.skipped (f.frames ++ frame ∷ []) (map r.read new.held)
    → HearsFrame c.size frame c.state reported new.state after false
    → new.size ≡ c.size → new.skipped ≡ c.skipped → new.damaged ≡ c.damaged + damaged_in frame
    → (g : Follows r mode period (stream ++ r.read fib ∷ []) start after new)
    × ((g.frames ≡ f.frames ++ frame ∷ []) × (g.skipped ≡ f.skipped))
follows_frame r mode period stream start reported after c new frame fib f framed h size skips damages =
    let past = after_frames (count_step mode) [] f.frames in
    let noted = noted_in_frames (count_step mode) period [] [] f.frames in
    let all = heard_same mode c frame reported after new.state false period past noted f.size f.knows f.noted h in
    let g : Follows r mode period (stream ++ r.read fib ∷ []) start after new = record {
      skipped = f.skipped;
      frames = f.frames ++ frame ∷ [];
      framed = framed;
      size = size ∙ f.size;
      skips = skips ∙ f.skips;
      damages = damages ∙ ap (λ n. n + damaged_in frame) f.damages ∙ sym (damaged_append (flat f.frames) frame)
          ∙ ap damaged_in (sym (flat_one f.frames frame));
      room = full_more (count_step mode) period [] f.frames frame f.room ∙ all.room;
      knows = rw (after_more (count_step mode) [] f.frames frame) (all.knows refl);
      noted = all.noted refl ∙ sym (noted_more (count_step mode) period [] [] f.frames frame);
      findings = all.findings ∙ ap
          (λ t. with_more t (findings_in (fib_count mode) (count_step mode) period past noted frame)) f.findings
          ∙ more_twice start (findings_of (fib_count mode) (count_step mode) period [] f.frames)
          (findings_in (fib_count mode) (count_step mode) period past noted frame)
          ∙ ap (with_more start) (sym
          (findings_more (fib_count mode) (count_step mode) period [] [] f.frames frame f.room));
    } in
    (g, (refl, refl))

pub ends_frame : (r : Reading) (mode : Mode) (period : ℕ) (stream : List Fib) (start reported after : Reported)
    (c : Checking) (new : CheckerState) (frame rest : List Fib) (fib : List ℕ)
    → (f : Follows r mode period stream start reported c)
    → IsFramed (fib_count mode) (stream ++ r.read fib ∷ []) f.skipped (f.frames ++ frame ∷ []) rest
    → HearsFrame c.size frame c.state reported new after true
    → (g : EndsFull r mode period (stream ++ r.read fib ∷ []) start after)
    × ((g.frames ≡ f.frames ++ frame ∷ []) × (g.skipped ≡ f.skipped))
ends_frame r mode period stream start reported after c new frame rest fib f framed h =
    let past = after_frames (count_step mode) [] f.frames in
    let noted = noted_in_frames (count_step mode) period [] [] f.frames in
    let all = heard_same mode c frame reported after new true period past noted f.size f.knows f.noted h in
    let g : EndsFull r mode period (stream ++ r.read fib ∷ []) start after = record {
      skipped = f.skipped;
      frames = f.frames ++ frame ∷ [];
      rest = rest;
      framed = framed;
      full = full_more (count_step mode) period [] f.frames frame f.room ∙ all.room;
      findings = all.findings ∙ ap
          (λ t. with_more t (findings_in (fib_count mode) (count_step mode) period past noted frame)) f.findings
          ∙ more_twice start (findings_of (fib_count mode) (count_step mode) period [] f.frames)
          (findings_in (fib_count mode) (count_step mode) period past noted frame)
          ∙ ap (with_more start) (sym
          (findings_more (fib_count mode) (count_step mode) period [] [] f.frames frame f.room));
    } in
    (g, (refl, refl))

-- ---- what one more FIB adds, from a state that follows a stream

pub adds_skip : (r : Reading) (mode : Mode) (period : ℕ) (stream : List Fib) (reported : Reported) (c : Checking)
    (fib : List ℕ) → c.state.frames ≡ 0 → c.held ≡ [] → holds_ensemble (r.read fib) ≡ false
    → FollowsFib r mode period stream (r.read fib) false reported reported c (record c { skipped = c.skipped + 1 })
adds_skip r mode period stream reported c fib none empty silent f =
    let t = follows_skip r mode period stream Unknown Unknown c fib none empty silent f in
    (t.0, (t.1.0, inr t.1.1, refl))

pub adds_hold : (r : Reading) (mode : Mode) (period : ℕ) (stream : List Fib) (reported : Reported) (c : Checking)
    (fib : List ℕ) → IsNext r c fib → (c.held ≢ [] → begins_with_ensemble (r.read fib) ≡ false)
    → length c.held + 1 < c.size → FollowsFib r mode period stream (r.read fib) false reported reported c
    (record c { held = c.held ++ fib ∷ [] })
adds_hold r mode period stream reported c fib next later short f =
    let t = follows_hold r mode period stream Unknown Unknown c fib next later short f in
    (t.0, (t.1.0, inl t.1.1, refl))

-- the same frame, heard by a receiver that keeps nothing
unkept : (size : ℕ) (frame : List Fib) (old new : CheckerState) (reported after : Reported) (full : Bool)
    → HearsFrame size frame old reported new after full → HearsFrame size frame old Unknown new Unknown full
unkept size frame old new reported after full h past k =
    let all = h past k in
    record { findings = refl; room = all.room; knows = all.knows; noted = all.noted }

pub adds_frame : (r : Reading) (mode : Mode) (period : ℕ) (stream : List Fib) (reported after : Reported)
    (c new : Checking) (frame : List Fib) (fib : List ℕ) (f : Follows r mode period stream Unknown Unknown c)
    → IsFramed (fib_count mode) (stream ++ r.read fib ∷ []) f.skipped (f.frames ++ frame ∷ []) (map r.read new.held)
    → HearsFrame c.size frame c.state reported new.state after false
    → new.size ≡ c.size → new.skipped ≡ c.skipped → new.damaged ≡ c.damaged + damaged_in frame
    → (g : Follows r mode period (stream ++ r.read fib ∷ []) Unknown Unknown new)
    × Adds (fib_count mode) (count_step mode) period true f.skipped g.skipped f.frames g.frames reported after
adds_frame r mode period stream reported after c new frame fib f framed h size skips damages =
    let t = follows_frame r mode period stream Unknown Unknown Unknown c new frame fib f framed
    (unkept c.size frame c.state new.state reported after false h) size skips damages in
    let all = heard_same mode c frame _ after _ false _ _ _ f.size f.knows f.noted h in
    (t.0, (frame, t.1.0, t.1.1, all.findings))

pub ends_at : (r : Reading) (mode : Mode) (period : ℕ) (stream : List Fib) (reported after : Reported) (c : Checking)
    (new : CheckerState) (frame rest : List Fib) (fib : List ℕ) (f : Follows r mode period stream Unknown Unknown c)
    → IsFramed (fib_count mode) (stream ++ r.read fib ∷ []) f.skipped (f.frames ++ frame ∷ []) rest
    → HearsFrame c.size frame c.state reported new after true
    → (g : EndsFull r mode period (stream ++ r.read fib ∷ []) Unknown Unknown)
    × Adds (fib_count mode) (count_step mode) period true f.skipped g.skipped f.frames g.frames reported after
ends_at r mode period stream reported after c new frame rest fib f framed h =
    let t = ends_frame r mode _ _ _ _ _ c new frame rest fib f framed (unkept _ frame _ new _ after true h) in
    let all = heard_same mode c frame _ after new true _ _ _ f.size f.knows f.noted h in
    (t.0, (frame, t.1.0, t.1.1, all.findings))

-- the buffered FIBs are a frame, as the next FIB begins with a FIG 0/0
pub cut_before : (r : Reading) (mode : Mode) (period : ℕ) (stream : List Fib) (start reported : Reported) (c : Checking)
    (fib : List ℕ) → c.held ≢ [] → begins_with_ensemble (r.read fib) ≡ true → 1 < fib_count mode
    → length c.held < c.size → (f : Follows r mode period stream start reported c)
    → IsFramed (fib_count mode) (stream ++ r.read fib ∷ []) f.skipped (f.frames ++ map r.read c.held ∷ [])
    (r.read fib ∷ [])
cut_before r mode period stream start reported c fib some begins two short f =
    let le : length (map r.read c.held) ≤ fib_count mode = omega (arith, length-map c.held r.read, short, f.size) in
    goes_on (fib_count mode) stream f.skipped f.frames (map r.read c.held ∷ []) (map r.read c.held) (r.read fib ∷ [])
    (r.read fib)
    (ap (λ l. l ++ r.read fib ∷ []) (append-nil (map r.read c.held)))
    (is_one (held_of (fib_count mode) f.frames (map r.read c.held) f.framed.cut), le, (λ lt. begins), (tt, two))
    (first_holds (fib_count mode) f.frames (map r.read c.held) (r.read fib) f.framed.cut f.framed.begun
    (λ none empty. absurd (some_held r c.held some empty))) f.framed
  where
    is_one : IsOneFrame (map r.read c.held) ⊎ (map r.read c.held ≡ []) → IsOneFrame (map r.read c.held)
    is_one (inl one) = one
    is_one (inr none) = absurd (some_held r c.held some none)

-- the buffered FIBs and this one are a frame
pub cut_after : (r : Reading) (mode : Mode) (period : ℕ) (stream : List Fib) (start reported : Reported) (c : Checking)
    (fib : List ℕ) → IsNext r c fib → (c.held ≢ [] → begins_with_ensemble (r.read fib) ≡ false)
    → length c.held + 1 ≡ c.size → (f : Follows r mode period stream start reported c)
    → IsFramed (fib_count mode) (stream ++ r.read fib ∷ []) f.skipped
    (f.frames ++ map r.read (c.held ++ fib ∷ []) ∷ []) []
cut_after r mode period stream start reported c fib next later whole f =
    let one_is = one_more (map r.read c.held) (r.read fib) (λ some. later (held_some r c.held some))
    (held_of (fib_count mode) f.frames (map r.read c.held) f.framed.cut) in
    let long = length-append (map r.read c.held) (r.read fib ∷ []) in
    let one : length (r.read fib ∷ []) ≡ 1 = refl in
    let same = length-map c.held r.read in
    let le : length (map r.read c.held ++ r.read fib ∷ []) ≤ fib_count mode = omega arith in
    rw (map_one r c.held fib) (goes_on (fib_count mode) stream f.skipped f.frames
    ((map r.read c.held ++ r.read fib ∷ []) ∷ []) (map r.read c.held) [] (r.read fib)
    (append-nil ((map r.read c.held ++ r.read fib ∷ []) ++ []) ∙ append-nil (map r.read c.held ++ r.read fib ∷ []))
    (one_is, le, (λ lt. absurd (omega (arith, lt))), tt)
    (first_holds (fib_count mode) f.frames (map r.read c.held) (r.read fib) f.framed.cut f.framed.begun
    (holds_next r mode period c fib f.frames f.knows next)) f.framed)

-- ---- the tests of a FIB

not_true : (b : Bool) → not b ≡ true → b ≡ false
not_true true e = absurd (false≢true e)
not_true false e = refl

both : (a b : Bool) → (a && b) ≡ true → (a ≡ true) × (b ≡ true)
both true b e = (refl, e)
both false b e = absurd (false≢true e)

neither : (a b : Bool) → (a || b) ≡ false → (a ≡ false) × (b ≡ false)
neither true b e = absurd (false≢true (sym e))
neither false b e = (refl, e)

no_count : (n : ℕ) → nat_lt 0 n ≡ false → n ≡ 0
no_count n e = elim (cases_lt 0 n) [ inl lt ↦ absurd (false≢true (sym e ∙ lt-ltb 0 n lt)) | inr le ↦ omega (arith, le) ]

empty_is : (held : List (List ℕ)) → not (is_empty held) ≡ false → held ≡ []
empty_is [] e = refl
empty_is (x ∷ xs) e = absurd (false≢true (sym e))

pub record Unbegun (c : Checking) : Type 0 where
  pub none : c.state.frames ≡ 0
  pub empty : c.held ≡ []

pub unbegun : (c : Checking) → is_begun c ≡ false → Unbegun c
unbegun c e = let parts = neither (nat_lt 0 c.state.frames) (not (is_empty c.held)) e in
    record { none = no_count c.state.frames parts.0; empty = empty_is c.held parts.1 }

pub skipped_where : (r : Reading) (c : Checking) (fib : List ℕ) (first : Option EnsembleInformation)
    → first ≡ first_in (r.read fib) → (not (is_begun c) && not (is_there first)) ≡ true → Unbegun c
    × (holds_ensemble (r.read fib) ≡ false)
skipped_where r c fib first is e =
    let parts = both (not (is_begun c)) (not (is_there first)) e in
    (unbegun c (not_true (is_begun c) parts.0), ap is_there (sym is) ∙ not_true (is_there first) parts.1)

begun_not : (c : Checking) → c.state.frames ≡ 0 → c.held ≡ [] → is_begun c ≡ false
begun_not c none empty = cc (none, empty)

pub next_where : (r : Reading) (c : Checking) (fib : List ℕ) (first : Option EnsembleInformation)
    → first ≡ first_in (r.read fib) → (not (is_begun c) && not (is_there first)) ≡ false → IsNext r c fib
next_where r c fib first is e =
    record {
      holds = λ none empty. ap is_there (sym is)
          ∙ chosen (is_there first) (sym (ap (λ t. not t && not (is_there first)) (begun_not c none empty)) ∙ e);
    }
  where
    chosen : (b : Bool) → not b ≡ false → b ≡ true
    chosen true h = refl
    chosen false h = absurd (false≢true (sym h))

pub cut_where : (r : Reading) (c : Checking) (fib : List ℕ) (o : Option EnsembleInformation) → o ≡ opening (r.read fib)
    → (is_there o && not (is_empty c.held)) ≡ true → (begins_with_ensemble (r.read fib) ≡ true) × (c.held ≢ [])
cut_where r c fib o is e =
    let parts = both (is_there o) (not (is_empty c.held)) e in
    (ap is_there (sym is) ∙ parts.0, λ none. false≢true (sym (ap (λ h. not (is_empty h)) none) ∙ parts.1))

pub later_where : (r : Reading) (c : Checking) (fib : List ℕ) (o : Option EnsembleInformation)
    → o ≡ opening (r.read fib) → (is_there o && not (is_empty c.held)) ≡ false → c.held ≢ []
    → begins_with_ensemble (r.read fib) ≡ false
later_where r c fib o is e some = ap is_there (sym is) ∙ chosen (is_there o) c.held some e
  where
    chosen : (b : Bool) (held : List (List ℕ)) → held ≢ [] → (b && not (is_empty held)) ≡ false → b ≡ false
    chosen false held some h = refl
    chosen true [] some h = absurd (some refl)
    chosen true (x ∷ xs) some h = absurd (false≢true (sym h))

-- ---- before the first FIB, and after the last

pub follows_nothing : (r : Reading) (mode : Mode) (period : ℕ) (start : Reported) (c : Checking)
    → c.size ≡ fib_count mode → c.held ≡ [] → c.skipped ≡ 0 → c.damaged ≡ 0 → Knows (count_step mode) period [] c.state
    → c.state.noted ≡ []
    → 0 < fib_count mode → Follows r mode period [] start start c
follows_nothing r mode period start c size held skips damages k none some = record {
  skipped = [];
  frames = [];
  framed = subst (λ (h : List Fib). IsFramed (fib_count mode) [] [] [] h) (sym (ap (map r.read) held))
      (record { whole = refl; before = tt; begun = tt; cut = tt });
  size = size;
  skips = skips;
  damages = damages;
  room = refl;
  knows = k;
  noted = none;
  findings = more_none start;
}

pub summed : (r : Reading) (mode : Mode) (period : ℕ) (stream : List Fib) (start reported : Reported) (c : Checking)
    (s : Summary) → (f : Follows r mode period stream start reported c)
    → s.frames ≡ c.state.frames → s.skipped ≡ c.skipped → s.left_over ≡ length c.held → s.damaged ≡ c.damaged
    → IsSummary f.skipped f.frames (map r.read c.held) s
summed r mode period stream start reported c s f frames skips left damages = record {
  frame_count = frames ∙ frame_count (count_step mode) period f.frames c.state f.knows;
  skips = skips ∙ f.skips;
  left = left ∙ sym (length-map c.held r.read);
  damages = damages ∙ f.damages;
}

-- the totals of the frames so far
pub summed_so_far : (r : Reading) (mode : Mode) (period : ℕ) (stream : List Fib) (start reported : Reported)
    (c : Checking) (s : Summary) → (f : Follows r mode period stream start reported c)
    → s.frames ≡ c.state.frames → s.skipped ≡ c.skipped → s.left_over ≡ 0 → s.damaged ≡ c.damaged
    → IsSummary f.skipped f.frames [] s
summed_so_far r mode period stream start reported c s f frames skips left damages = record {
  frame_count = frames ∙ frame_count (count_step mode) period f.frames c.state f.knows;
  skips = skips ∙ f.skips;
  left = left;
  damages = damages ∙ f.damages;
}

-- ---- modes

pub some_fibs : (mode : Mode) → 0 < fib_count mode
some_fibs I = omega arith
some_fibs II = omega arith
some_fibs III = omega arith
some_fibs IV = omega arith

pub two_fibs : (mode : Mode) → 1 < fib_count mode
two_fibs I = omega arith
two_fibs II = omega arith
two_fibs III = omega arith
two_fibs IV = omega arith
