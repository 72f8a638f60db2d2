-- Loops, `repeat` and `forever`: what is emitted of one, why it is refused, and the room that it takes.
use Rattle.script_compiler.proofs.Words.{[], ◌++◌, ◌+◌, ◌∙◌, ◌∷◌, ◌≡◌, ◌≤◌, ◌⊎◌, Block, Bool, CanEmit, Cause}
use Rattle.script_compiler.proofs.Words.{ClosesLoop, CodeLimit, Counters, Emits, FitsEntry, HasSpace, Instr, IsCovered}
use Rattle.script_compiler.proofs.Words.{IsJudged, IsMismatch, IsRefusedAfter, IsRefusedIn, Jump, Left, List, Loop}
use Rattle.script_compiler.proofs.Words.{Mismatch, None, Option, PlacedInstr, Plan, ProgramPoint, Reached, Set, Some}
use Rattle.script_compiler.proofs.Words.{Work, alone, ap, append-nil, append_assoc, arith, falls_out, false, forever}
use Rattle.script_compiler.proofs.Words.{head, if◌then◌else◌, inl, inr, length, length-append, lines_of_placed, nested}
use Rattle.script_compiler.proofs.Words.{nothing, onward, placed_instr, places, point_after, refl, repeat, subst, sym}
use Rattle.script_compiler.proofs.Words.{true, unpriced_labels, way, without_label, ℕ}
use Rattle.script_compiler.proofs.Emitted.{Whole, whole_of, whole_length, laid_length, lays_both, lines_both}
use Rattle.script_compiler.proofs.Emitted.{marks_both}
use Rattle.script_compiler.proofs.Spaces.{space_after, covers_block}
use Rattle.script_compiler.proofs.Fitting.{Fits, can_here, room_after, fits_as, counters_less, jump_covers}

-- ---- the body of a loop

-- the head of a loop is saved, with a label if control reaches the end of the body; its first instruction is at this pc
pub record Enters (pc : ℕ) (body : Block) (s : ProgramPoint) (old new : Work) : Type 0 where
  pub at : length new.lines.items ≡ pc
  pub lines : new.lines.items ≡ old.lines.items
  pub unpriced : new.unpriced.items ≡ old.unpriced.items
  pub now : new.now ≡ head body s
  pub saved : new.saved.items ≡ old.saved.items ++ new.now ∷ []

pub enters : (pc : ℕ) (body : Block) (s : ProgramPoint) (falls : Bool) (v w : Work) → length v.lines.items ≡ pc
    → v.now ≡ s → falls ≡ falls_out body → w.lines ≡ v.lines → w.unpriced ≡ v.unpriced →
    w.now ≡ record { flow = v.now.flow; labelled = if falls then true else v.now.labelled }
    → w.saved.items ≡ v.saved.items ++ w.now ∷ [] → Enters pc body s v w
enters pc body s falls v w at point falls_is lines unpriced now saved =
    let here : w.now ≡ head body v.now =
    now ∙ ap (λ b. let t : ProgramPoint = record {
      flow = v.now.flow;
      labelled = if b then true else v.now.labelled;
    } in t) falls_is in
    record {
      at = ap (λ x. length x.items) lines ∙ at;
      lines = ap (λ x. x.items) lines;
      unpriced = ap (λ x. x.items) unpriced;
      now = here ∙ ap (λ t. head body t) point;
      saved = saved;
    }

-- the body has been compiled
pub record HasBody (plan : Plan) (r pc : ℕ) (body : Block) (s : ProgramPoint) (v w x : Work) (f : Bool) : Type 0 where
  pub entry : Enters pc body s v w
  pub left : Left plan r body w x f nothing

module _ {plan : Plan} {r pc : ℕ} {body : Block} {s : ProgramPoint} {v w x : Work} {f : Bool}
    (b : HasBody plan r pc body s v w x f) where
  pub body_whole : Whole plan r pc body (head body s) w x f
  body_whole = whole_of plan r pc body (head body s) w x f b.entry.at b.entry.now b.left

  pub body_saved : x.saved.items ≡ v.saved.items ++ w.now ∷ []
  body_saved = b.left.emits.saved ∙ b.entry.saved

  -- the end of the body fits the head, if the loop is valid
  pub end_fits : FitsEntry (point_after plan body (head body s)) (head body s) → FitsEntry (way f x) w.now
  end_fits round = rw b.entry.now (rw (← body_whole.leads) round)

  pub loop_why : {X : Type 0} (line : ℕ) (cause : Cause) → (cause ≡ Mismatch)
      × ((front : List ProgramPoint) (entry : ProgramPoint) → x.saved.items ≡ front ++ entry ∷ []
      → FitsEntry (way f x) entry → ⊥) →
      IsRefusedIn plan body (head body s) line cause
      ⊎ (IsJudged plan body (head body s)
      × (IsMismatch line (FitsEntry (point_after plan body (head body s)) (head body s)) line cause ⊎ X))
  loop_why line cause h = inr (
    body_whole.judged,
    inl (
      (λ round. h.1 v.saved.items w.now body_saved (end_fits round)),
      refl,
      h.0,
    ),
  )

  module _ {line q : ℕ} {i : Instr} {z : Work} (g : ClosesLoop f line q i v.saved.items w.now x z) where
    round_fits : FitsEntry (point_after plan body (head body s)) (head body s)
    round_fits = rw body_whole.leads (rw (← b.entry.now) g.round)

    loop_emits : Emits v z (places plan r pc body (head body s)
        ++ onward (point_after plan body (head body s)) [] (alone line i q))
    loop_emits =
        let h = body_whole in
        let bodies = places plan r pc body (head body s) in
        let back = onward (point_after plan body (head body s)) [] (alone line i q) in
        let back_is = ap (λ o. onward o [] (alone line i q)) (sym h.leads) in
        let at : length v.lines.items ≡ pc = ap length (sym b.entry.lines) ∙ b.entry.at in
        record {
          lines = g.lines ∙ ap (λ ps. x.lines.items ++ lines_of_placed ps) back_is
              ∙ ap (λ xs. xs ++ lines_of_placed back) (h.lines ∙ ap (λ xs. xs ++ lines_of_placed bodies) b.entry.lines)
              ∙ append_assoc v.lines.items (lines_of_placed bodies) (lines_of_placed back)
              ∙ ap (λ xs. v.lines.items ++ xs) (sym (lines_both bodies back));
          unpriced = g.unpriced ∙ ap (λ ps. x.unpriced.items ++ unpriced_labels (length x.lines.items) ps) back_is
              ∙ ap (λ m. x.unpriced.items ++ unpriced_labels m back) (whole_length h b.entry.at)
              ∙ ap (λ xs. xs ++ unpriced_labels (pc + length bodies) back)
              (h.unpriced ∙ ap (λ xs. xs ++ unpriced_labels pc bodies) b.entry.unpriced)
              ∙ append_assoc v.unpriced.items (unpriced_labels pc bodies) (unpriced_labels (pc + length bodies) back)
              ∙ ap (λ xs. v.unpriced.items ++ xs) (sym (marks_both pc bodies back))
              ∙ ap (λ m. v.unpriced.items ++ unpriced_labels m (bodies ++ back)) (sym at);
          saved = g.saved;
        }

module _ {limit : CodeLimit} {plan : Plan} {r pc : ℕ} {body : Block} (s : ProgramPoint) {v : Work}
    {more : List PlacedInstr} (fits : Fits limit plan r pc body (head body s) v more) where
  loop_entered : (falls : Bool) → v.now ≡ s → falls ≡ falls_out body
      → ((ps : List PlacedInstr) → (falls ≡ true → IsCovered v.now.flow ps) → HasSpace limit v ps → ⊥) → ⊥
  loop_entered falls now falls_is full =
      let all = places plan r pc body (head body s) ++ more in
      full all (λ e. subst (λ (t : ProgramPoint). IsCovered t.flow all) (sym now)
      (covers_block plan r pc body (head body s) more fits.onward
      (ap (λ b. if b then true else s.labelled) (sym falls_is ∙ e)))) fits.space

  loop_body : {w : Work} → Enters pc body s v w → CanEmit limit plan r body w
  loop_body {w} entry = can_here (fits_as fits w entry.lines entry.unpriced) entry.at entry.now

module _ {limit : CodeLimit} {plan : Plan} {r pc : ℕ} {body : Block} {s : ProgramPoint} {v w x : Work} {f : Bool}
    (b : HasBody plan r pc body s v w x f) (line q : ℕ) (i : Instr) (more : List PlacedInstr) where
  loop_closed : Fits limit plan r pc body (head body s) v
      (onward (point_after plan body (head body s)) [] (alone line i q) ++ more) →
      ((m k : ℕ) (j : Instr) (ps : List PlacedInstr) → HasSpace limit x (onward (way f x) [] (alone m j k) ++ ps) → ⊥)
      → ⊥
  loop_closed fits full =
      full line q i more (subst (λ o. HasSpace limit x (onward o [] (alone line i q) ++ more)) (body_whole b).leads
      (room_after (fits_as fits w b.entry.lines b.entry.unpriced) x f (body_whole b)))

-- ---- after a loop

loop_whole : (plan : Plan) (line : ℕ) (i : Instr) (q r end : ℕ) (rest : Block) (f : Bool) (v w : Work)
    → w.now ≡ (if f then without_label v.now.flow else v.now)
    → length w.lines.items ≡ end + length (onward (way f v) [] (alone line i q)) →
    onward (way f v) [] (λ u. placed_instr line i q u ∷ places plan r (end + 1) rest (without_label u.flow))
    ≡ onward (way f v) [] (alone line i q) ++ onward (way f w) [] (λ u. places plan r (length w.lines.items) rest u)
loop_whole plan line i q r end rest true v w e h = cc (h, e)
loop_whole plan line i q r end rest false v w e h = refl

loop_leads : (plan : Plan) (rest : Block) (f : Bool) (v w : Work)
    → w.now ≡ (if f then without_label v.now.flow else v.now)
    → onward (way f v) None (λ u. point_after plan rest (without_label u.flow))
    ≡ onward (way f w) None (λ u. point_after plan rest u)
loop_leads plan rest true v w e = ap (λ s. point_after plan rest s) (sym e)
loop_leads plan rest false v w e = refl

loop_reached : (plan : Plan) (rest : Block) (f : Bool) (v w : Work)
    → w.now ≡ (if f then without_label v.now.flow else v.now) → Reached (way f w) rest (λ u. IsJudged plan rest u)
    → Reached (way f v) rest (λ u. IsJudged plan rest (without_label u.flow))
loop_reached plan rest true v w e j = subst (λ s. IsJudged plan rest s) e j
loop_reached plan rest false v w e j = j

loop_reached_back : (plan : Plan) (rest : Block) (f : Bool) (v w : Work)
    → w.now ≡ (if f then without_label v.now.flow else v.now)
    → Reached (way f v) rest (λ u. IsJudged plan rest (without_label u.flow))
    → Reached (way f w) rest (λ u. IsJudged plan rest u)
loop_reached_back plan rest true v w e j = subst (λ s. IsJudged plan rest s) (sym e) j
loop_reached_back plan rest false v w e j = j

loop_fails : (plan : Plan) (rest : Block) (at : ℕ) (given : Cause) (f : Bool) (v w : Work)
    → w.now ≡ (if f then without_label v.now.flow else v.now)
    → IsRefusedAfter (way f w) rest (λ u. IsRefusedIn plan rest u at given) at given
    → IsRefusedAfter (way f v) rest (λ u. IsRefusedIn plan rest (without_label u.flow) at given) at given
loop_fails plan rest at given true v w e j = subst (λ s. IsRefusedIn plan rest s at given) e j
loop_fails plan rest at given false v w e j = j

-- ---- `repeat`

loop_split : (w : Option ProgramPoint) (line : ℕ) (i : Instr) (q : ℕ) (emit : ProgramPoint → List PlacedInstr)
    (more : List PlacedInstr) → onward w [] (λ u. placed_instr line i q u ∷ emit u)
    ++ more ≡ onward w [] (alone line i q) ++ (onward w [] emit ++ more)
loop_split None line i q emit more = refl
loop_split (Some s) line i q emit more = refl

module _ {plan : Plan} {r line n : ℕ} {body : Block} {w0 w1 w2 w3 w4 : Work} {f : Bool} where
  pub left_repeat :
      r + 1 ≤ 8 → Emits w0 w1 (alone line (Set r n) r w0.now)
      → HasBody plan (r + 1) (length w0.lines.items + 1) body (without_label w0.now.flow) w1 w2 w3 f →
      ClosesLoop f line (r + 1) (Loop r (length w0.lines.items + 1)) w1.saved.items w2.now w3 w4 → (rest : Block)
      → Left plan r (repeat line n body rest) w0 w4 f rest
  left_repeat deep emits b g rest =
      let pc = length w0.lines.items in
      let start = head body (without_label w0.now.flow) in
      let h = body_whole b in
      let bodies = places plan (r + 1) (pc + 1) body start in
      let end = pc + 1 + length bodies in
      let i = Loop r (pc + 1) in
      let a = point_after plan body start in
      let back = onward a [] (alone line i (r + 1)) in
      let all = lays_both w0 w1 w4 (alone line (Set r n) r w0.now) (bodies ++ back) emits (loop_emits b g) in
      let len4 : length w4.lines.items ≡ end + length (onward (way f w3) [] (alone line i (r + 1))) =
      let m = laid_length w0 w4 _ all in let k = length-append bodies back in let e =
      ap (λ w. length (onward w [] (alone line i (r + 1)))) h.leads in omega (arith, m, k, e) in
      let rests = onward (way f w4) [] (λ u. places plan r (length w4.lines.items) rest u) in
      let whole : onward a [] (λ u. placed_instr line i (r + 1) u ∷ places plan r (end + 1) rest (without_label u.flow))
      ≡ back ++ rests =
      ap (λ w. onward w [] (λ u. placed_instr line i (r + 1) u ∷ places plan r (end + 1) rest (without_label u.flow)))
      h.leads ∙ loop_whole plan line i (r + 1) r end rest f w3 w4 g.now len4
      ∙ ap (λ w. onward w [] (alone line i (r + 1)) ++ rests) (sym h.leads) in
      record {
        emitted = placed_instr line (Set r n) r w0.now ∷ (bodies ++ back);
        emits = all;
        whole = ap (λ xs. placed_instr line (Set r n) r w0.now ∷ (bodies ++ xs)) whole
            ∙ ap (λ xs. placed_instr line (Set r n) r w0.now ∷ xs) (sym (append_assoc bodies back rests));
        leads = ap (λ w. onward w None (λ u. point_after plan rest (without_label u.flow))) h.leads
            ∙ loop_leads plan rest f w3 w4 g.now;
        judged = λ j. (h.judged, round_fits b g, rw h.leads (loop_reached plan rest f w3 w4 g.now j));
        only = λ j. loop_reached_back plan rest f w3 w4 g.now (rw (← h.leads) j.2);
        fails = λ at given j. inr (
          h.judged,
          inr (
            round_fits b g,
            subst (λ w. IsRefusedAfter w rest (λ u. IsRefusedIn plan rest (without_label u.flow) at given) at given)
                (sym h.leads) (loop_fails plan rest at given f w3 w4 g.now j),
          ),
        );
        repeats = λ m. let k = h.repeats deep in omega (arith, m, k);
        fewer = omega arith;
      }

module _ {limit : CodeLimit} {plan : Plan} {r line n : ℕ} {body rest : Block} {w0 w1 : Work}
    (emits : Emits w0 w1 (alone line (Set r n) r w0.now)) (now : w1.now ≡ without_label w0.now.flow)
    (can : CanEmit limit plan r (repeat line n body rest) w0) where
  abbrev Bodies : List PlacedInstr
  Bodies = places plan (r + 1) (length w0.lines.items + 1) body (head body (without_label w0.now.flow))

  abbrev Again : Instr
  Again = Loop r (length w0.lines.items + 1)

  abbrev Gone : Option ProgramPoint
  Gone = point_after plan body (head body (without_label w0.now.flow))

  abbrev Later : List PlacedInstr
  Later = onward Gone [] (λ u. places plan r (length w0.lines.items + 1 + length Bodies + 1) rest
      (without_label u.flow)) ++ can.more

  repeat_fits : Fits limit plan (r + 1) (length w0.lines.items + 1) body (head body (without_label w0.now.flow)) w1
      (onward Gone [] (alone line Again (r + 1)) ++ Later)
  repeat_fits =
      let after : ProgramPoint → List PlacedInstr = λ u.
      places plan r (length w0.lines.items + 1 + length Bodies + 1) rest (without_label u.flow) in
      let back = onward Gone [] (λ u. placed_instr line Again (r + 1) u ∷ after u) in
      let space : HasSpace limit w1 ((Bodies ++ back) ++ can.more) = space_after _ _ _ _ _ emits can.space in
      record {
        judged = can.judged.0;
        deep = counters_less limit (r + nested (repeat line n body rest)) (r + 1 + nested body) (omega arith) can.deep;
        onward = λ u e. jump_covers plan r 0 rest Later Gone line Again (r + 1) u e;
        space = subst (λ ps. HasSpace limit w1 ps) (append_assoc Bodies back can.more
            ∙ ap (λ ps. Bodies ++ ps) (loop_split Gone line Again (r + 1) after can.more)) space;
      }

  pub can_repeat_entered : (falls : Bool) → falls ≡ falls_out body
      → ((ps : List PlacedInstr) → (falls ≡ true → IsCovered w1.now.flow ps) → HasSpace limit w1 ps → ⊥) → ⊥
  can_repeat_entered falls falls_is full = loop_entered (without_label w0.now.flow) repeat_fits falls now falls_is full

  pub can_repeat_body : {w2 : Work} → Enters (length w0.lines.items + 1) body (without_label w0.now.flow) w1 w2
      → CanEmit limit plan (r + 1) body w2
  can_repeat_body entry = loop_body (without_label w0.now.flow) repeat_fits entry

  pub can_repeat_closed : {w2 w3 : Work} {f : Bool} → HasBody plan (r + 1) (length w0.lines.items + 1) body
      (without_label w0.now.flow) w1 w2 w3 f →
      ((m k : ℕ) (i : Instr) (ps : List PlacedInstr) → HasSpace limit w3 (onward (way f w3) [] (alone m i k) ++ ps) → ⊥)
      → ⊥
  can_repeat_closed b full = loop_closed b line (r + 1) Again Later repeat_fits full

-- a ninth repeat
pub repeat_deep : (plan : Plan) (r line n : ℕ) (body rest : Block) (w : Work) → 8 ≤ r
    → CanEmit Counters plan r (repeat line n body rest) w → ⊥
repeat_deep plan r line n body rest w many can = let d = can.deep in absurd (omega (arith, d, many))

-- ---- `forever`

module _ {plan : Plan} {r line : ℕ} {body : Block} {w0 w2 w3 w4 : Work} {f : Bool} where
  pub left_forever : r ≤ 8 → HasBody plan r (length w0.lines.items) body w0.now w0 w2 w3 f
      → ClosesLoop f line r (Jump (length w0.lines.items)) w0.saved.items w2.now w3 w4 → (rest : Block)
      → Left plan r (forever line body rest) w0 w4 false rest
  left_forever deep b g rest =
      let h = body_whole b in
      record {
        emitted = places plan r (length w0.lines.items) body (head body w0.now)
            ++ onward (point_after plan body (head body w0.now)) [] (alone line (Jump (length w0.lines.items)) r);
        emits = loop_emits b g;
        whole = sym (append-nil _);
        leads = refl;
        judged = λ j. (h.judged, round_fits b g, j);
        only = λ j. j.2;
        fails = λ at given j. inr (h.judged, inr (round_fits b g, j));
        repeats = λ m. let k = h.repeats deep in omega (arith, m, k);
        fewer = omega arith;
      }

module _ {limit : CodeLimit} {plan : Plan} {r line : ℕ} {body rest : Block} {w0 : Work}
    (can : CanEmit limit plan r (forever line body rest) w0) where
  forever_fits : Fits limit plan r (length w0.lines.items) body (head body w0.now) w0
      (onward (point_after plan body (head body w0.now)) [] (alone line (Jump (length w0.lines.items)) r) ++ can.more)
  forever_fits =
      let back = Jump (length w0.lines.items) in
      let end = point_after plan body (head body w0.now) in
      record {
        judged = can.judged.0;
        deep = counters_less limit (r + nested (forever line body rest)) (r + nested body) (omega arith) can.deep;
        onward = λ u e. jump_covers plan r 0 rest can.more end line back r u e;
        space = subst (λ ps. HasSpace limit w0 ps)
            (append_assoc (places plan r (length w0.lines.items) body (head body w0.now))
            (onward end [] (alone line back r)) can.more) can.space;
      }

  pub can_forever_entered : (falls : Bool) → falls ≡ falls_out body
      → ((ps : List PlacedInstr) → (falls ≡ true → IsCovered w0.now.flow ps) → HasSpace limit w0 ps → ⊥) → ⊥
  can_forever_entered falls falls_is full = loop_entered w0.now forever_fits falls refl falls_is full

  pub can_forever_body : {w2 : Work} → Enters (length w0.lines.items) body w0.now w0 w2 → CanEmit limit plan r body w2
  can_forever_body entry = loop_body w0.now forever_fits entry

  pub can_forever_closed : {w2 w3 : Work} {f : Bool} → HasBody plan r (length w0.lines.items) body w0.now w0 w2 w3 f →
      ((m k : ℕ) (i : Instr) (ps : List PlacedInstr) → HasSpace limit w3 (onward (way f w3) [] (alone m i k) ++ ps) → ⊥)
      → ⊥
  can_forever_closed b full = loop_closed b line r (Jump (length w0.lines.items)) can.more forever_fits full
