-- A buffer filled from the front by reads, and the multiplexer's next frame.
use Rattle.cli_streams.proofs.Words.{[], ◌++◌, ◌+◌, ◌<◌, ◌∙◌, ◌∷◌, ◌≡◌, ◌≤◌, AllByRecursion-append, Bool, Consumes}
use Rattle.cli_streams.proofs.Words.{Consumes-trans, Done, Err, Faulty, List, MergeFault, Merging, Misused, Ok, Option}
use Rattle.cli_streams.proofs.Words.{ReadConsumes, ReadsFrame, Refused, Result, Status, TakesAs, TakesFrames, TakesNext}
use Rattle.cli_streams.proofs.Words.{ap, append-nil, append_assoc, arith, concat, concat-append, false, inl, inr}
use Rattle.cli_streams.proofs.Words.{length, length-append, refl, subst, sym, take, true, ℕ}
use Rattle.std.specs.Prelude.{IfOk}
use Rattle.std.specs.Io.{ReadsAtMost}
use Rattle.console.proofs.Filling.{filled_more}
use borrow.Rule.Slice.PartMut.{put_mid}

-- ---- one more read

pub ok_reads : {E : Type 0} (b c : Option (List ℕ)) (at room : ℕ) (buffer part : List ℕ) (result : Result ℕ E)
    → at ≤ length buffer → ReadsAtMost result part → ReadConsumes b c result part
    → IfOk result (λ n. (a : Option (List ℕ)) → Consumes a b (take at buffer)
    → Consumes a c (take (at + n) (put_mid at room buffer part)))
ok_reads b c at room buffer part (Ok n) within bound bytes =
    λ a before. filled_more a b c at room n buffer part within bound.0 before bytes.0
ok_reads b c at room buffer part (Err e) within bound bytes = tt

-- ---- the multiplexer's next frame

none_next : {size count : ℕ} {before left : Option (List ℕ)} {is_open : Bool} {status : Status} {taken : List (List ℕ)}
    {old new : Merging}
    → length taken ≤ count → TakesFrames size before left is_open status (count + 1) taken → new ≡ old
    → TakesNext size before left is_open status count taken old new
none_next {size} {count} {before} {left} {is_open} {status} {taken} few takes same = record {
  next = [];
  takes = subst (TakesFrames size before left is_open status (count + 1)) (sym (append-nil taken)) takes;
  in_turn = inr (few, refl);
  after = λ r. same;
}

-- none is read after the last
pub closed_next : (size : ℕ) (before left : Option (List ℕ)) (is_open : Bool) (status : Status) (count : ℕ)
    (taken : List (List ℕ)) (m : Merging) → is_open ≡ false
    → TakesFrames size before left is_open status count taken
    → TakesNext size before left is_open status count taken m m
closed_next size before left true status count taken m closed t = absurd (cc)
closed_next size before left false Done count taken m closed t =
    let few : length taken < count = t.ends.0 in
    none_next (omega arith) (record {
      cut = t.cut;
      whole = t.whole;
      bytes = t.bytes;
      ends = (omega arith, t.ends.1, t.ends.2);
    }) refl
closed_next size before left false Refused count taken m closed t =
    let few : length taken < count = t.ends in
    none_next (omega arith) (record { cut = t.cut; whole = t.whole; bytes = t.bytes; ends = omega arith }) refl
closed_next size before left false Misused count taken m closed t = absurd t.ends
closed_next size before left false Faulty count taken m closed t = absurd t.ends

-- there is one, or no more
pub read_next : (size : ℕ) (before left now : Option (List ℕ)) (is_open more : Bool) (status : Status) (count : ℕ)
    (taken : List (List ℕ)) (frame : List ℕ) (old new : Merging)
    → is_open ≡ true → length frame ≡ size → ReadsFrame left now frame (Ok more) → TakesAs frame (Ok more) old new
    → TakesFrames size before left is_open status count taken
    → TakesNext size before now more status count taken old new
read_next size before left now false more status count taken frame old new opened same reads takes t = absurd (cc)
read_next size before left now true true Done count taken frame old new opened same reads takes t =
    let many : length taken ≡ count = t.ends.0 in
    let all : concat taken ++ t.cut ≡ concat taken = ap (λ (l : List ℕ). concat taken ++ l) t.ends.1
    ∙ append-nil (concat taken) in
    let joined : concat (taken ++ frame ∷ []) ++ [] ≡ concat taken ++ frame =
    append-nil (concat (taken ++ frame ∷ [])) ∙ concat-append taken (frame ∷ [])
    ∙ ap (λ (l : List ℕ). concat taken ++ l) (append-nil frame) in
    record {
      next = frame ∷ [];
      takes = record {
        cut = [];
        whole = AllByRecursion-append (λ f. length f ≡ size) taken (frame ∷ []) t.whole (same, tt);
        bytes = subst (Consumes before now) (sym joined)
            (Consumes-trans before left now (concat taken) frame (subst (Consumes before left) all t.bytes) reads);
        ends = (omega (arith, many, length-append taken (frame ∷ [])), refl);
      };
      in_turn = inl many;
      after = takes;
    }
read_next size before left now true false Done count taken frame old new opened same reads takes t =
    let many : length taken ≡ count = t.ends.0 in
    none_next (omega (arith, many)) (record {
      cut = [];
      whole = t.whole;
      bytes = subst (Consumes before now) (append-nil (concat taken ++ t.cut)
          ∙ ap (λ (l : List ℕ). concat taken ++ l) t.ends.1)
          (Consumes-trans before left now (concat taken ++ t.cut) [] t.bytes reads.0);
      ends = (omega (arith, many), refl, reads.1);
    }) takes
read_next size before left now true more Refused count taken frame old new opened same reads takes t = absurd t.ends
read_next size before left now true more Misused count taken frame old new opened same reads takes t = absurd t.ends
read_next size before left now true more Faulty count taken frame old new opened same reads takes t = absurd t.ends

-- they can't be read on
pub failed_next : (size : ℕ) (before left now : Option (List ℕ)) (is_open : Bool) (status : Status) (count : ℕ)
    (taken : List (List ℕ)) (frame : List ℕ) (fault : MergeFault) (old new : Merging)
    → is_open ≡ true → ReadsFrame left now frame (Err fault) → new ≡ old
    → TakesFrames size before left is_open status count taken
    → TakesNext size before now false Refused count taken old new
failed_next size before left now false status count taken frame fault old new opened reads same t = absurd (cc)
failed_next size before left now true Done count taken frame fault old new opened reads same t =
    let many : length taken ≡ count = t.ends.0 in
    let part = reads in
    none_next (omega (arith, many)) (record {
      cut = t.cut ++ part.0;
      whole = t.whole;
      bytes = subst (Consumes before now) (append_assoc (concat taken) t.cut part.0)
          (Consumes-trans before left now (concat taken ++ t.cut) part.0 t.bytes part.1);
      ends = omega (arith, many);
    }) same
failed_next size before left now true Refused count taken frame fault old new opened reads same t = absurd t.ends
failed_next size before left now true Misused count taken frame fault old new opened reads same t = absurd t.ends
failed_next size before left now true Faulty count taken frame fault old new opened reads same t = absurd t.ends
