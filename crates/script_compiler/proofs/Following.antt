-- The code of a block does what the block means, over any number of instructions and from any state.
use Rattle.script_compiler.proofs.Words.{[], ◌++◌, ◌+◌, ◌-◌, ◌<◌, ◌∙◌, ◌∷◌, ◌≡◌, ◌≤◌, Block, Bool, Condition, End}
use Rattle.script_compiler.proofs.Words.{Instr, IsAllowed, IsFineToDo, IsInstr, Jump, List, Loop, None, Option}
use Rattle.script_compiler.proofs.Words.{Performs, PlacedInstr, Program, ProgramPoint, Reading, Scene, Set, Some, State}
use Rattle.script_compiler.proofs.Words.{StepIsAllowed, after_instr, alone, ap, apply, arith, at_label, basic, cases_lt}
use Rattle.script_compiler.proofs.Words.{effect, effect_of, either, falls_out, false, first_done, followed, forever}
use Rattle.script_compiler.proofs.Words.{get_or-set_other, get_or-set_same, head, holds, if◌then◌else◌, inl, inr}
use Rattle.script_compiler.proofs.Words.{instr_at, instr_of_act, is_running, join, le-ltb, length, length-append}
use Rattle.script_compiler.proofs.Words.{length-set, lt-ltb, meet, nat_lt, nothing, onward, placed_instr, places}
use Rattle.script_compiler.proofs.Words.{point_after, reading, refl, repeat, same_Some, scene_of, slice_get}
use Rattle.script_compiler.proofs.Words.{slice_index, slice_set, step, stop, subst, suc, sym, test_of, true, when}
use Rattle.script_compiler.proofs.Words.{without_label, zero, ℕ}
use Rattle.script_front.specs.declared.tree.Condition.TheVariants.{Contact as IfContact, Time as IfTime}
use Rattle.script_compiler.proofs.Scenes.{act_scene, act_place, act_fine}
use Rattle.script_compiler.proofs.Places.{after_falls, Stand, stand_front, stand_back, jump_length, meets_some}
use Rattle.script_compiler.proofs.Places.{joins_first, joins_second}

-- ---- counters

-- there are eight counters, and those below this one are the same
abbrev pub SameBelow : ℕ → List ℕ → List ℕ → Type 0
SameBelow r cs ds = (length ds ≡ 8) × ((q : ℕ) → q < r → slice_index cs q ≡ slice_index ds q)

set_same : (r n : ℕ) (cs : List ℕ) → r < 8 → length cs ≡ 8 → slice_index (slice_set cs r n) r ≡ n
set_same r n cs low eight = get_or-set_same cs r n 0 (omega (arith, low, eight))

set_other : (q r n : ℕ) (cs : List ℕ) → q < r → slice_index (slice_set cs r n) q ≡ slice_index cs q
set_other q r n cs lt = get_or-set_other cs r q n 0 (λ e. absurd (omega (arith, lt, e)))

set_below : (r n : ℕ) (bs cs : List ℕ) → SameBelow r bs cs → SameBelow r bs (slice_set cs r n)
set_below r n bs cs h = (length-set cs r n ∙ h.0, λ q lt. h.1 q lt ∙ sym (set_other q r n cs lt))

same_then : (r : ℕ) (bs cs ds : List ℕ) → SameBelow r bs cs → SameBelow r cs ds → SameBelow r bs ds
same_then r bs cs ds h g = (g.0, λ q lt. h.1 q lt ∙ g.1 q lt)

same_all : (r : ℕ) (cs : List ℕ) → length cs ≡ 8 → SameBelow r cs cs
same_all r cs eight = (eight, λ q lt. refl)

-- ---- following

module _ (p : Program) where
  abbrev pub at : ℕ → List ℕ → State → State
  at pc cs d = record d { pc = pc; counters = cs }

  -- whatever the script reaches from the second reading, it reaches from the first
  abbrev pub Comes : Reading → Reading → Type 0
  Comes x y = (n : ℕ) (z : Reading) → Performs p.plan y n z → (m : ℕ) × Performs p.plan x m z

  -- each of this many instructions executed from this pc on corresponds to steps of these statements
  abbrev pub Follows : ℕ → ℕ → List ℕ → Block → Type 0
  Follows zero pc cs b = Unit {0}
  Follows (suc n) pc cs b =
      (d : State) → is_running d.hold ≡ true → StepIsAllowed p (at pc cs d) →
      (c : Block) × Comes (reading b (scene_of d)) (reading c (scene_of (step p (at pc cs d))))
      × Follows n (step p (at pc cs d)).pc (step p (at pc cs d)).counters c

  abbrev Next : ℕ → Block → State → State → Type 0
  Next n b d t = (c : Block) × Comes (reading b (scene_of d)) (reading c (scene_of t)) × Follows n t.pc t.counters c

  -- no statement is executed
  comes_same : (x : Reading) → Comes x x
  comes_same x n z h = (n, h)

  -- one statement is executed
  comes_by : (b c : Block) (x y : Scene) → is_running x.hold ≡ true → IsFineToDo p.plan b x
      → first_done p.plan b x ≡ reading c y → Comes (reading b x) (reading c y)
  comes_by b c x y runs fine e n z h = (suc n, (runs, fine, subst (λ (r : Reading). Performs p.plan r n z) (sym e) h))

  by_instr : (n pc : ℕ) (cs : List ℕ) (b : Block) (i : Instr) → instr_at p pc ≡ Some i →
      ((d : State) → is_running d.hold ≡ true → IsAllowed p.plan i (at pc cs d)
      → Next n b d (effect p.plan i (at pc cs d))) → Follows (suc n) pc cs b
  by_instr n pc cs b i h f = λ d runs ok.
      let same : ok.instr ≡ i = same_Some ok.instr i (sym ok.within ∙ h) in
      let allowed = subst (λ (x : Instr). IsAllowed p.plan x (at pc cs d)) same ok.allowed in
      subst (λ (o : Option Instr). Next n b d (effect_of p.plan o (at pc cs d))) (sym h) (f d runs allowed)

  -- a step of the script alone
  by_step : (n pc : ℕ) (cs : List ℕ) (b c : Block) → ((x : Scene) → first_done p.plan b x ≡ reading c x)
      → ((x : Scene) → IsFineToDo p.plan b x) → Follows n pc cs c → Follows n pc cs b
  by_step zero pc cs b c e fine f = tt
  by_step (suc n) pc cs b c e fine f = λ d runs ok.
      let r = f d runs ok in
      let comes : Comes (reading b (scene_of d)) (reading r.0 (scene_of (step p (at pc cs d)))) = λ m z h.
      let rest = r.1 m z h in
      comes_by b c (scene_of d) (scene_of d) runs (fine (scene_of d)) (e (scene_of d)) rest.0 z rest.1 in
      (r.0, comes, r.2)

  pub ends_follow : (n pc : ℕ) (cs : List ℕ) → instr_at p pc ≡ Some End → Follows n pc cs nothing
  ends_follow zero pc cs h = tt
  ends_follow (suc n) pc cs h =
      by_instr n pc cs nothing End h
      (λ d runs ok. (
        nothing,
        comes_by nothing nothing (scene_of d) (scene_of (effect p.plan End (at pc cs d))) runs tt
            refl,
        ends_follow n pc cs h,
      ))

  -- a jump of the code, for which the script does nothing
  jumps_on : (m pc to : ℕ) (cs : List ℕ) (b : Block) → instr_at p pc ≡ Some (Jump to)
      → ((q : ℕ) → q < m → Follows q to cs b) → Follows m pc cs b
  jumps_on zero pc to cs b h f = tt
  jumps_on (suc m) pc to cs b h f = by_instr _ _ _ _ _ h (λ d runs ok. (b, comes_same _, f m (omega arith)))

  -- what a test does, as the script reads
  tested : (c : Condition) (to : ℕ) (s : State) → effect p.plan (test_of c to) s
      ≡ record s { pc = if holds c (scene_of s) then s.pc + 1 else to }
  tested (IfContact contact) to s = refl
  tested (IfTime from until) to s = refl

  branch : (n pc to : ℕ) (cs : List ℕ) (b first second : Block) (c : Condition) (d : State) → is_running d.hold ≡ true
      → ((x : Scene) → IsFineToDo p.plan b x) →
      first_done p.plan b (scene_of d) ≡ reading (if holds c (scene_of d) then first else second) (scene_of d) →
      Follows n (pc + 1) cs first → Follows n to cs second → Next n b d (effect p.plan (test_of c to) (at pc cs d))
  branch n pc to cs b first second c d runs fine e f g =
      subst (λ s. Next n b d s) (sym (tested c to (at pc cs d))) (by (holds c (scene_of d)) e)
    where
      by : (closed : Bool) → first_done p.plan b (scene_of d) ≡ reading (if closed then first else second) (scene_of d)
          →
          (x : Block) × Comes (reading b (scene_of d)) (reading x (scene_of d))
          × Follows n (if closed then pc + 1 else to) cs x
      by true e = (first, comes_by b first (scene_of d) (scene_of d) runs (fine (scene_of d)) e, f)
      by false e = (second, comes_by b second (scene_of d) (scene_of d) runs (fine (scene_of d)) e, g)

  -- the code has these instructions
  module _ (whole : List PlacedInstr) (there : (pc : ℕ) (q : PlacedInstr) → slice_get whole pc ≡ Some q
      → instr_at p pc ≡ Some q.instr) (formed : (pc : ℕ) (q : PlacedInstr) → slice_get whole pc ≡ Some q
      → IsInstr q.instr) where
    -- the code after a block follows the statements that are left
    abbrev pub Goes : ℕ → ℕ → ℕ → Option ProgramPoint → List ℕ → Block → Type 0
    Goes n pc r w cs k = (m : ℕ) → m ≤ n → (u : ProgramPoint) (ds : List ℕ) → w ≡ Some u → SameBelow r cs ds
        → Follows m pc ds k

    abbrev pub Plays : ℕ → Block → Type 0
    Plays n b =
        (r pc : ℕ) (s : ProgramPoint) (k : Block) (cs : List ℕ) → Stand whole pc (places p.plan r pc b s)
        → length cs ≡ 8 →
        Goes n (pc + length (places p.plan r pc b s)) r (point_after p.plan b s) cs k → Follows n pc cs (followed b k)

    -- the rest of a block, if it is reached
    rest_goes : (n r pc : ℕ) (rest : Block) (w : Option ProgramPoint) (cs : List ℕ) (k : Block)
        → ((m : ℕ) → m ≤ n → Plays m rest) →
        Stand whole pc (onward w [] (λ u. places p.plan r pc rest u)) →
        Goes n (pc + length (onward w [] (λ u. places p.plan r pc rest u))) r
        (onward w None (λ u. point_after p.plan rest u)) cs k →
        (v : ProgramPoint) → w ≡ Some v → (m : ℕ) → m ≤ n → (ds : List ℕ) → SameBelow r cs ds
        → Follows m pc ds (followed rest k)
    rest_goes n r pc rest None cs k ih st go v e m le ds same = cc
    rest_goes n r pc rest (Some s) cs k ih st go v e m le ds same =
        ih m le r pc s k ds st same.0 (λ q qm u es eu more.
        go q (omega (arith, le, qm)) u es eu (same_then r cs ds es same more))

    go_at : (n a b r : ℕ) (w : Option ProgramPoint) (cs : List ℕ) (k : Block) → a ≡ b → Goes n a r w cs k
        → Goes n b r w cs k
    go_at n a b r w cs k e g = subst (λ x. Goes n x r w cs k) e g

    -- an instruction that follows a block
    pub there_after : (line : ℕ) (i : Instr) (q pc : ℕ) (more : ProgramPoint → List PlacedInstr)
        (w : Option ProgramPoint) (u : ProgramPoint) → w ≡ Some u
        → Stand whole pc (onward w [] (λ v. placed_instr line i q v ∷ more v)) →
        (slice_get whole pc ≡ Some (placed_instr line i q u)) × Stand whole (pc + 1) (more u)
    there_after line i q pc more None u e st = cc
    there_after line i q pc more (Some v) u e st =
        let same : v ≡ u = same_Some v u e in
        subst (λ x. (slice_get whole pc ≡ Some (placed_instr line i q x)) × Stand whole (pc + 1) (more x)) same st

    module _ (n : ℕ) (ih : (m : ℕ) → m ≤ n → (b : Block) → Plays m b) (line r pc : ℕ) (low : r < 8)
        (body rest k : Block) (start : ProgramPoint) (cs0 : List ℕ) where
      abbrev end : ℕ
      end = pc + 1 + length (places p.plan (r + 1) (pc + 1) body start)

      abbrev left : Block
      left = followed rest k

      abbrev Out : Type 0
      Out = (q : ℕ) → q ≤ n → (u : ProgramPoint) (ds : List ℕ) → point_after p.plan body start ≡ Some u
          → SameBelow r cs0 ds → Follows q (end + 1) ds left

      abbrev There : Type 0
      There = (u : ProgramPoint) → point_after p.plan body start ≡ Some u
          → slice_get whole end ≡ Some (placed_instr line (Loop r (pc + 1)) (r + 1) u)

      -- the state after a loop instruction, given its test
      abbrev looped : Bool → List ℕ → State → State
      looped more ds d = record d {
        counters = slice_set ds r (slice_index ds r - 1);
        pc = if more then pc + 1 else end + 1;
      }

      last_turn : Out → There → (q : ℕ) (u : ProgramPoint) (ds : List ℕ) → q ≤ n
          → point_after p.plan body start ≡ Some u → slice_index ds r ≡ 1 → SameBelow r cs0 ds
          → Follows q end ds (repeat line zero body left)
      last_turn out here zero u ds le e count below = tt
      last_turn out here (suc q) u ds le e count below =
          by_instr q end ds (repeat line zero body left) (Loop r (pc + 1))
          (there end (placed_instr line (Loop r (pc + 1)) (r + 1) u) (here u e)) (λ d runs ok.
          let test : nat_lt 1 (slice_index ds r) ≡ false = le-ltb 1 (slice_index ds r) (omega (arith, count)) in
          subst (λ b. Next q (repeat line zero body left) d (looped b ds d)) (sym test) (
            left,
            comes_by (repeat line zero body left) left (scene_of d) (scene_of d) runs tt refl,
            out q (omega (arith, le)) u (slice_set ds r (slice_index ds r - 1)) e
                (set_below r (slice_index ds r - 1) cs0 ds below),
          ))

      again : There → (c : ℕ) → ((m : ℕ) (cs : List ℕ) → m ≤ n → slice_index cs r ≡ c + 1 → SameBelow r cs0 cs
          → Follows m (pc + 1) cs (followed body (repeat line c body left))) →
          (q : ℕ) (u : ProgramPoint) (ds : List ℕ) → q ≤ n → point_after p.plan body start ≡ Some u
          → slice_index ds r ≡ suc c + 1 → SameBelow r cs0 ds → Follows q end ds (repeat line (suc c) body left)
      again here c next zero u ds le e count below = tt
      again here c next (suc q) u ds le e count below =
          by_instr q end ds (repeat line (suc c) body left) (Loop r (pc + 1))
          (there end (placed_instr line (Loop r (pc + 1)) (r + 1) u) (here u e)) (λ d runs ok.
          let test : nat_lt 1 (slice_index ds r) ≡ true = lt-ltb 1 (slice_index ds r) (omega (arith, count)) in
          let count' : slice_index (slice_set ds r (slice_index ds r - 1)) r ≡ c + 1 = let x =
          set_same r (slice_index ds r - 1) ds low below.0 in omega (arith, x, count) in
          subst (λ b. Next q (repeat line (suc c) body left) d (looped b ds d)) (sym test) (
            followed body (repeat line c body left),
            comes_by (repeat line (suc c) body left) (followed body (repeat line c body left)) (scene_of d) (scene_of d)
                runs tt refl,
            next q (slice_set ds r (slice_index ds r - 1)) (omega (arith, le)) count'
                (set_below r (slice_index ds r - 1) cs0 ds below),
          ))

      -- the remaining iterations of a loop
      rounds : Stand whole (pc + 1) (places p.plan (r + 1) (pc + 1) body start) → Out → There →
          (c m : ℕ) (cs : List ℕ) → m ≤ n → slice_index cs r ≡ c + 1 → SameBelow r cs0 cs
          → Follows m (pc + 1) cs (followed body (repeat line c body left))
      rounds st out here zero m cs le count below =
          ih m le body (r + 1) (pc + 1) start (repeat line zero body left) cs st below.0 (λ q qm u ds e same.
          last_turn out here q u ds (omega (arith, le, qm)) e
          (let x = same.1 r (omega arith) in omega (arith, x, count))
          (same.0, λ z lt. below.1 z lt ∙ same.1 z (omega (arith, lt))))
      rounds st out here (suc c) m cs le count below =
          ih m le body (r + 1) (pc + 1) start (repeat line (suc c) body left) cs st below.0 (λ q qm u ds e same.
          again here c (λ m' cs' le' count' below'. rounds st out here c m' cs' le' count' below') q u ds
          (omega (arith, le, qm)) e (let x = same.1 r (omega arith) in omega (arith, x, count))
          (same.0, λ z lt. below.1 z lt ∙ same.1 z (omega (arith, lt))))

    any_below : (n : ℕ) (b : Block) → ((m : ℕ) → m < suc n → (c : Block) → Plays m c) → Plays (suc n) b → (m : ℕ)
        → m ≤ suc n → Plays m b
    any_below n b ih h m le = elim (cases_lt m (suc n)) [
      | inl lt ↦ ih m lt b
      | inr ge ↦ let e : suc n ≡ m = omega (arith, le, ge) in subst (λ x. Plays x b) e h
    ]

    by_block : (n : ℕ) → ((m : ℕ) → m < n → (b : Block) → Plays m b) → (b : Block) → Plays n b
    by_block zero ih b r pc s k cs st eight go = tt
    by_block (suc n) ih nothing r pc s k cs st eight go =
        go_at (suc n) (pc + 0) pc r (Some s) cs k (omega arith) go (suc n) (omega arith) s cs refl (same_all r cs eight)
    by_block (suc n) ih (basic line act rest) r pc s k cs st eight go =
        let t = without_label (after_instr p.plan (instr_of_act act) s.flow) in
        let e : pc + length (places p.plan r pc (basic line act rest) s) ≡ pc + 1
        + length (places p.plan r (pc + 1) rest t) = omega arith in
        by_instr n pc cs (basic line act (followed rest k)) (instr_of_act act)
        (there pc (placed_instr line (instr_of_act act) r s) st.0) (λ d runs ok.
        let there' = act_place p.plan act (at pc cs d) in
        let follows : Follows n (pc + 1) cs (followed rest k) = ih n (omega arith) rest r (pc + 1) t k cs st.1 eight
        (λ m le u ds eu same. go_at _ _ _ _ _ _ _ e go m (omega (arith, le)) u ds eu same) in
        let follows' : Follows n (effect p.plan (instr_of_act act) (at pc cs d)).pc
        (effect p.plan (instr_of_act act) (at pc cs d)).counters (followed rest k) =
        subst (λ x. Follows n (effect p.plan (instr_of_act act) (at pc cs d)).pc x (followed rest k)) (sym there'.1)
        (subst (λ x. Follows n x cs (followed rest k)) (sym there'.0) follows) in (
          followed rest k,
          comes_by (basic line act (followed rest k)) (followed rest k) (scene_of d)
              (scene_of (effect p.plan (instr_of_act act) (at pc cs d))) runs ((act_fine p.plan act (at pc cs d)).0 ok)
              (ap (reading (followed rest k)) (sym (act_scene p.plan act (at pc cs d)))),
          follows',
        ))
    by_block (suc n) ih (stop line rest) r pc s k cs st eight go =
        let h = there pc (placed_instr line End r s) st.0 in
        by_instr n pc cs (stop line (followed rest k)) End h (λ d runs ok. (
          nothing,
          comes_by (stop line (followed rest k)) nothing (scene_of d)
              (scene_of (effect p.plan End (at pc cs d))) runs tt refl,
          ends_follow n pc cs h,
        ))
    by_block (suc n) ih (when line c first rest) r pc s k cs st eight go =
        let t = without_label s.flow in
        let firsts = places p.plan r (pc + 1) first t in
        let w = meet (point_after p.plan first t) (Some s) in
        let end = pc + 1 + length firsts in
        let rests = onward w [] (λ u. places p.plan r end rest u) in
        let e : pc + length (places p.plan r pc (when line c first rest) s) ≡ end + length rests =
        omega (arith, length-append firsts rests) in
        let next = rest_goes _ _ _ _ _ _ _ (λ m le. ih m (omega (arith, le)) rest) (stand_back _ _ _ _ st.1)
        (λ m le u ds eu same. go_at _ _ _ _ _ _ _ e go m (omega (arith, le)) u ds eu same) in
        let v = meets_some (point_after p.plan first t) s in
        let b = when line c first (followed rest k) in
        by_instr n pc cs b (test_of c end) (there pc (placed_instr line (test_of c end) r s) st.0) (λ d runs ok.
        branch n pc end cs b (followed first (followed rest k)) (followed rest k) c d runs (λ x. tt) refl
        (ih n (omega arith) first r (pc + 1) t (followed rest k) cs (stand_front whole (pc + 1) firsts rests st.1) eight
        (λ m le u ds eu same. next v.0 v.1 m le ds same))
        (next v.0 v.1 n (omega arith) cs (same_all r cs eight)))
    by_block (suc n) ih (either line c first second rest) r pc s k cs st eight go =
        let t = without_label s.flow in
        let firsts = places p.plan r (pc + 1) first t in
        let a = point_after p.plan first t in
        let out = pc + 1 + length firsts in
        let start = out + (if falls_out first then 1 else 0) in
        let seconds = places p.plan r start second (at_label s.flow) in
        let b = point_after p.plan second (at_label s.flow) in
        let end = start + length seconds in
        let w = join a b in
        let rests = onward w [] (λ u. places p.plan r end rest u) in
        let jumps = onward a [] (alone line (Jump end) r) in
        let len = jump_length line (Jump end) r a (falls_out first) (after_falls p.plan first t) in
        let e : pc + length (places p.plan r pc (either line c first second rest) s) ≡ end + length rests =
        omega (
          arith,
          len,
          length-append firsts (jumps ++ (seconds ++ rests)),
          length-append jumps (seconds ++ rests),
          length-append seconds rests,
        ) in
        let st_jumps = stand_back whole (pc + 1) firsts (jumps ++ (seconds ++ rests)) st.1 in
        let st_seconds = subst (λ m. Stand whole m (seconds ++ rests)) (ap (λ m. out + m) len)
        (stand_back whole out jumps (seconds ++ rests) st_jumps) in
        let next = rest_goes n r end rest w cs k (λ m le. ih m (omega (arith, le)) rest)
        (stand_back whole start seconds rests st_seconds)
        (λ m le u ds eu same. go_at (suc n) _ _ r (point_after p.plan (either line c first second rest) s) cs k e go
        m (omega (arith, le)) u ds eu same) in
        let K = followed rest k in
        by_instr n pc cs (either line c first second K) (test_of c start)
        (there pc (placed_instr line (test_of c start) r s) st.0) (λ d runs ok.
        branch n pc start cs (either line c first second K) (followed first K) (followed second K) c d runs (λ x. tt)
        refl
        (ih n (omega arith) first r (pc + 1) t K cs
        (stand_front whole (pc + 1) firsts (jumps ++ (seconds ++ rests)) st.1) eight (λ m le u ds eu same.
        let v = joins_first a b u eu in
        let j = there_after _ _ _ _ (λ x. []) _ _ eu (stand_front _ _ _ _ st_jumps) in
        jumps_on m out end ds K (there out (placed_instr line (Jump end) r u) j.0)
        (λ q lt. next v.0 v.1 q (omega (arith, le, lt)) ds same)))
        (ih n (omega arith) second r start (at_label s.flow) K cs (stand_front whole start seconds rests st_seconds)
        eight (λ m le u ds eu same. let v = joins_second a b u eu in next v.0 v.1 m le ds same)))
    by_block (suc n) ih (repeat line zero body rest) r pc s k cs st eight go =
        absurd (let z : 1 ≤ 0 = (formed pc (placed_instr line (Set r zero) r s) st.0).1 in omega (arith, z))
    by_block (suc n) ih (repeat line (suc c) body rest) r pc s k cs st eight go =
        let low : r < 8 = (formed pc (placed_instr line (Set r (suc c)) r s) st.0).0 in
        let start = head body (without_label s.flow) in
        let bodies = places p.plan (r + 1) (pc + 1) body start in
        let a = point_after p.plan body start in
        let end = pc + 1 + length bodies in
        let more = λ (u : ProgramPoint). places p.plan r (end + 1) rest (without_label u.flow) in
        let rests = onward a [] (λ u. placed_instr line (Loop r (pc + 1)) (r + 1) u ∷ more u) in
        let e : pc + length (places p.plan r pc (repeat line (suc c) body rest) s) ≡ end + length rests =
        omega (arith, length-append bodies rests) in
        let st_rests = stand_back whole (pc + 1) bodies rests st.1 in
        let out : (q : ℕ) → q ≤ n → (u : ProgramPoint) (ds : List ℕ) → a ≡ Some u → SameBelow r cs ds
        → Follows q (end + 1) ds (followed rest k) = λ q le u ds eu same.
        let there' = there_after line (Loop r (pc + 1)) (r + 1) end more a u eu st_rests in
        let at' : pc + length (places p.plan r pc (repeat line (suc c) body rest) s) ≡ end + 1 + length (more u) =
        let x = ap (λ w. length (onward w [] (λ v. placed_instr line (Loop r (pc + 1)) (r + 1) v ∷ more v))) eu in
        omega (arith, e, x) in
        let leads = ap (λ w. onward w None (λ v. point_after p.plan rest (without_label v.flow))) eu in
        ih q (omega (arith, le)) rest r (end + 1) (without_label u.flow) k ds there'.1 same.0
        (λ m le' v es ev same'. go_at (suc n) _ _ r (point_after p.plan (repeat line (suc c) body rest) s) cs k at'
        go m (omega (arith, le, le')) v es (leads ∙ ev) (same_then r cs ds es same same')) in
        let K = followed rest k in
        by_instr n pc cs (repeat line (suc c) body K) (Set r (suc c))
        (there pc (placed_instr line (Set r (suc c)) r s) st.0) (λ d runs ok. (
          followed body (repeat line c body K),
          comes_by (repeat line (suc c) body K) (followed body (repeat line c body K)) (scene_of d) (scene_of d) runs tt
              refl,
          rounds n (λ m le. ih m (omega (arith, le))) line r pc low body rest k start cs
              (stand_front whole (pc + 1) bodies rests st.1) out
              (λ u eu. (there_after line (Loop r (pc + 1)) (r + 1) end more a u eu st_rests).0)
              c n (slice_set cs r (suc c)) (omega arith) (let x = set_same r (suc c) cs low eight in omega (arith, x))
              (set_below r (suc c) cs cs (same_all r cs eight)),
        ))
    by_block (suc n) ih (forever line body rest) r pc s k cs st eight go =
        let start = head body s in
        let bodies = places p.plan r pc body start in
        let a = point_after p.plan body start in
        let end = pc + length bodies in
        let jumps = onward a [] (alone line (Jump pc) r) in
        let B = forever line body (followed rest k) in
        by_step (suc n) pc cs B (followed body B) (λ x. refl) (λ x. tt)
        (by_block (suc n) ih body r pc start B cs (stand_front whole pc bodies jumps st) eight (λ m le u ds eu same.
        let j = there_after line (Jump pc) r end (λ x. []) a u eu (stand_back whole pc bodies jumps st) in
        jumps_on m end pc ds B (there end (placed_instr line (Jump pc) r u) j.0)
        (λ q lt. ih q (omega (arith, le, lt)) (forever line body rest) r pc s k ds st same.0
        (λ m' le' v es ev same'. cc))))
    by_block (suc n) ih (apply line number named rest) r pc s k cs st eight go =
        let names = places p.plan r pc named s in
        let w = point_after p.plan named s in
        let end = pc + length names in
        let rests = onward w [] (λ u. places p.plan r end rest u) in
        let e : pc + length (places p.plan r pc (apply line number named rest) s) ≡ end + length rests =
        omega (arith, length-append names rests) in
        let K = followed rest k in
        by_step (suc n) pc cs (apply line number named K) (followed named K) (λ x. refl) (λ x. tt)
        (by_block (suc n) ih named r pc s K cs (stand_front whole pc names rests st) eight (λ m le u ds eu same.
        rest_goes (suc n) r end rest w cs k (λ m' le'.
        any_below n rest ih (λ r' pc' s' k' cs' st' eight' go'.
        by_block (suc n) ih rest r' pc' s' k' cs' st' eight' go') m' le') (stand_back whole pc names rests st)
        (λ m' le' v es ev same'. go_at (suc n) _ _ r (point_after p.plan (apply line number named rest) s) cs k e go
        m' le' v es ev same') u eu m le ds same))

    all_below : (n m : ℕ) → m < n → (b : Block) → Plays m b
    all_below zero m lt b = absurd (omega (arith, lt))
    all_below (suc n) m lt b = by_block m (λ q ql. all_below n q (omega (arith, lt, ql))) b

    -- the code of a block does what the block means
    pub block_plays : (n : ℕ) (b : Block) → Plays n b
    block_plays n b = all_below (suc n) n (omega arith) b
