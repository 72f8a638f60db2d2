-- Where a block begins and ends: what is known first, and the points after it.
use Rattle.script_compiler.proofs.Words.{[], ◌&&◌, ◌++◌, ◌+◌, ◌||◌, ◌∙◌, ◌∷◌, ◌≡◌, ◌⊎◌, Block, Bool, End, Instr, Jump}
use Rattle.script_compiler.proofs.Words.{List, None, Option, PlacedInstr, Plan, ProgramPoint, Some, after_instr}
use Rattle.script_compiler.proofs.Words.{all_places, alone, ap, append_assoc, apply, arith, at_label, basic, either}
use Rattle.script_compiler.proofs.Words.{falls_out, false, forever, get_or-append_seam, head, if◌then◌else◌, inl, inr}
use Rattle.script_compiler.proofs.Words.{instr_of_act, is_some, join, length, length-append, meet, nothing, onward}
use Rattle.script_compiler.proofs.Words.{placed_instr, places, point_after, refl, repeat, slice_get, slice_get-get_or}
use Rattle.script_compiler.proofs.Words.{stop, subst, true, when, without_label, ℕ}

-- ---- a block has a point after it exactly if it falls out

onward_falls : (w : Option ProgramPoint) (f : Bool) (after_rest : ProgramPoint → Option ProgramPoint) (g : Bool)
    → is_some w ≡ f → ((u : ProgramPoint) → is_some (after_rest u) ≡ g) → is_some (onward w None after_rest) ≡ (f && g)
onward_falls None f k g e h = ap (λ b. b && g) e
onward_falls (Some u) f k g e h = h u ∙ ap (λ b. b && g) e

meet_falls : (w : Option ProgramPoint) (s : ProgramPoint) (k : ProgramPoint → Option ProgramPoint) (g : Bool)
    → ((u : ProgramPoint) → is_some (k u) ≡ g) → is_some (onward (meet w (Some s)) None k) ≡ g
meet_falls None s k g h = h _
meet_falls (Some u) s k g h = h _

join_falls : (v w : Option ProgramPoint) → is_some (join v w) ≡ (is_some v || is_some w)
join_falls None w = refl
join_falls (Some u) None = refl
join_falls (Some u) (Some v) = refl

-- there is a point after a block exactly if it falls out
pub after_falls : (plan : Plan) (b : Block) (s : ProgramPoint) → is_some (point_after plan b s) ≡ falls_out b
after_falls plan (basic line act rest) s =
    after_falls plan rest (without_label (after_instr plan (instr_of_act act) s.flow))
after_falls plan (when line c first rest) s = meet_falls _ _ _ _ (λ u. after_falls plan rest u)
after_falls plan (either line c first second rest) s =
    let a = point_after plan first (without_label s.flow) in
    let b = point_after plan second (at_label s.flow) in
    let e : is_some (join a b) ≡ (falls_out first || falls_out second) =
    cc (join_falls a b, after_falls plan first (without_label s.flow), after_falls plan second (at_label s.flow)) in
    onward_falls (join a b) _ _ (falls_out rest) e (λ u. after_falls plan rest u)
after_falls plan (repeat line n body rest) s =
    onward_falls (point_after plan body (head body (without_label s.flow))) _ _ (falls_out rest)
    (after_falls plan body (head body (without_label s.flow))) (λ u. after_falls plan rest (without_label u.flow))
after_falls plan (apply line k named rest) s =
    onward_falls _ _ _ _ (after_falls plan named s) (λ u. after_falls plan rest u)
after_falls plan _ s = refl

-- ---- ranges of a code, and the points where branches meet

-- these instructions are in the code from this pc on
abbrev pub Stand : List PlacedInstr → ℕ → List PlacedInstr → Type 0
Stand code pc [] = Unit {0}
Stand code pc (p ∷ ps) = (slice_get code pc ≡ Some p) × Stand code (pc + 1) ps

pub stand_front : (code : List PlacedInstr) (pc : ℕ) (a b : List PlacedInstr) → Stand code pc (a ++ b) → Stand code pc a
stand_front code pc [] b h = tt
stand_front code pc (i ∷ a) b h = (h.0, stand_front code (pc + 1) a b h.1)

pub stand_back : (code : List PlacedInstr) (pc : ℕ) (a b : List PlacedInstr) → Stand code pc (a ++ b)
    → Stand code (pc + length a) b
stand_back code pc [] b h = let e : pc ≡ pc + 0 = omega arith in subst (λ n. Stand code n b) e h
stand_back code pc (i ∷ a) b h =
    subst (λ n. Stand code n b) (omega arith) (stand_back code (pc + 1) a b h.1)

pub stand_all : (ps before : List PlacedInstr) → Stand (before ++ ps) (length before) ps
stand_all [] before = tt
stand_all (p ∷ ps) before =
    let here = slice_get-get_or (before ++ p ∷ ps) (length before) p (omega (arith, length-append before (p ∷ ps)))
    ∙ ap Some (get_or-append_seam before p ps p) in
    let rest = stand_all ps (before ++ p ∷ []) in
    let rest' = subst (λ l. Stand l (length (before ++ p ∷ [])) ps) (append_assoc before (p ∷ []) ps) rest in
    (here, subst (λ m. Stand (before ++ p ∷ ps) m ps) (omega (arith, length-append before (p ∷ []))) rest')

-- ---- points after branches

-- a branch ends with a jump exactly if it falls out
pub jump_length : (line : ℕ) (i : Instr) (r : ℕ) (w : Option ProgramPoint) (f : Bool) → is_some w ≡ f
    → length (onward w [] (alone line i r)) ≡ (if f then 1 else 0)
jump_length line i r None f e = ap (λ b. if b then 1 else 0) e
jump_length line i r (Some u) f e = ap (λ b. if b then 1 else 0) e

pub meets_some : (v : Option ProgramPoint) (s : ProgramPoint) → (u : ProgramPoint) × (meet v (Some s) ≡ Some u)
meets_some None s = (_, refl)
meets_some (Some t) s = (_, refl)

pub joins_first : (v w : Option ProgramPoint) (s : ProgramPoint) → v ≡ Some s → (u : ProgramPoint) × (join v w ≡ Some u)
joins_first None w s e = cc
joins_first (Some t) None s e = (_, refl)
joins_first (Some t) (Some x) s e = (_, refl)

pub joins_second : (v w : Option ProgramPoint) (s : ProgramPoint) → w ≡ Some s → (u : ProgramPoint)
    × (join v w ≡ Some u)
joins_second None w s e = (s, e)
joins_second (Some t) None s e = cc
joins_second (Some t) (Some x) s e = (_, refl)

-- ---- what is known at the first instruction of a block

-- it is what is known before the block, and it has a label if the point before the block has one
pub record Begins (s : ProgramPoint) (all : List PlacedInstr) : Type 0 where
  pub place : PlacedInstr
  pub rest : List PlacedInstr
  pub is : all ≡ place ∷ rest
  pub flow : place.point.flow ≡ s.flow
  pub labelled : s.labelled ≡ true → place.point.labelled ≡ true

-- or the block emits nothing and changes nothing
abbrev pub First : Plan → ℕ → ℕ → Block → ProgramPoint → Type 0
First plan r pc b s = ((places plan r pc b s ≡ []) × (point_after plan b s ≡ Some s)) ⊎ Begins s (places plan r pc b s)

head_labelled : (f : Bool) (l : Bool) → l ≡ true → (if f then true else l) ≡ true
head_labelled true l e = refl
head_labelled false l e = e

begins_more : (s : ProgramPoint) (ps more : List PlacedInstr) → Begins s ps → Begins s (ps ++ more)
begins_more s ps more b = record {
  place = b.place;
  rest = b.rest
      ++ more;
  is = ap (λ xs. xs ++ more) b.is;
  flow = b.flow;
  labelled = b.labelled;
}

pub first_of : (plan : Plan) (r pc : ℕ) (b : Block) (s : ProgramPoint) → First plan r pc b s
first_of plan r pc nothing s = inl (refl, refl)
first_of plan r pc (basic line act rest) s =
    inr (record { place = _; rest = _; is = refl; flow = refl; labelled = λ e. e })
first_of plan r pc (stop line rest) s = inr (record { place = _; rest = _; is = refl; flow = refl; labelled = λ e. e })
first_of plan r pc (when line c first rest) s =
    inr (record { place = _; rest = _; is = refl; flow = refl; labelled = λ e. e })
first_of plan r pc (either line c first second rest) s =
    inr (record { place = _; rest = _; is = refl; flow = refl; labelled = λ e. e })
first_of plan r pc (repeat line n body rest) s =
    inr (record { place = _; rest = _; is = refl; flow = refl; labelled = λ e. e })
first_of plan r pc (forever line body rest) s =
    let start = head body s in
    let back = onward (point_after plan body start) [] (alone line (Jump pc) r) in
    elim (first_of plan r pc body start) [
      | inl none ↦
          inr (record {
            place = placed_instr line (Jump pc) r start;
            rest = [];
            is = (ap (λ xs. xs ++ back) none.0 ∙ ap (λ w. onward w [] (alone line (Jump pc) r)) none.1);
            flow = refl;
            labelled = λ l. head_labelled (falls_out body) s.labelled l;
          })
      | inr some ↦
          let more = begins_more start (places plan r pc body start) back some in
          inr (record {
            place = more.place;
            rest = more.rest;
            is = more.is;
            flow = more.flow;
            labelled = λ l. more.labelled (head_labelled (falls_out body) s.labelled l);
          })
    ]
first_of plan r pc (apply line k named rest) s =
    let names = places plan r pc named s in
    let rests = onward (point_after plan named s) [] (λ u. places plan r (pc + length names) rest u) in
    elim (first_of plan r pc named s) [
      | inl none ↦
          let e : names ++ rests ≡ places plan r (pc + length names) rest s = cc (none.0, none.1) in
          elim (first_of plan r (pc + length names) rest s) [
            | inl empty ↦ inl (e ∙ empty.0, (ap (λ w. onward w None (λ u. point_after plan rest u)) none.1) ∙ empty.1)
            | inr some ↦ inr (record {
              place = some.place;
              rest = some.rest;
              is = e
                  ∙ some.is;
              flow = some.flow;
              labelled = some.labelled;
            })
          ]
      | inr some ↦ inr (begins_more s names rests some)
    ]

pub first_of_all : (plan : Plan) (last : ℕ) (b : Block) (s : ProgramPoint) → Begins s (all_places plan last b s)
first_of_all plan last b s =
    let ending = onward (point_after plan b s) [] (alone last End 0) in
    elim (first_of plan 0 0 b s) [
      | inl none ↦
          let e = ap (λ xs. xs ++ ending) none.0 ∙ ap (λ w. onward w [] (alone last End 0)) none.1 in
          record { place = placed_instr last End 0 s; rest = []; is = e; flow = refl; labelled = λ l. l }
      | inr some ↦ begins_more s (places plan 0 0 b s) ending some
    ]
