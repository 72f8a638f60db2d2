-- Test vectors: small scripts, and what their statements, frames and events result in, and what not.
use Rattle.script_compiler.proofs.Words.{[], ◌∙◌, ◌∷◌, ◌≡◌, Block, Contact, Contacts, End, Ended, Frame, Hold, Instr}
use Rattle.script_compiler.proofs.Words.{IsCodeOf, IsProgram, Line, List, None, Performs, PerformsAll, PlaysAsItReads}
use Rattle.script_compiler.proofs.Words.{Program, Reading, Running, Scene, Some, Start, State, Tree, Waits, ap, apply}
use Rattle.script_compiler.proofs.Words.{arith, basic, begins, either, first_is, inl, inr, label, nothing, plan}
use Rattle.script_compiler.proofs.Words.{reading, refl, sym, true, ℕ}
use Rattle.plan_verifier.proofs.OneVerdict.{typed_if}
use Rattle.plan_runs.proofs.Samples.{all_open, start_at, in_range, first_state, it_starts}
use Rattle.script_front.specs.declared.tree.Act.TheVariants.{Wait}
use Rattle.mux_config.specs.Configuration.{nothing as no_configuration}
use Rattle.plan_code.specs.declared.instr.Instr.TheVariants.{Wait as WaitInstr}
use Rattle.plan_verifier.proofs.Samples.{code as labelled}
use Rattle.script_front.specs.declared.tree.Condition.TheVariants.{Contact as IfContact}
use Rattle.script_compiler.proofs.Playing.{performs_one, all_one, scripts_play}

-- ---- values shared by these vectors

abbrev third_closed : Contacts
third_closed = record { 0 = 8 }

-- a scene with no sub-channel and no swap, some frames after the first
abbrev after : ℕ → Contacts → Hold → Scene
after frames contacts hold =
    record {
      current = no_configuration;
      next = no_configuration;
      left = None;
      hold = hold;
      contacts = contacts;
      count = frames;
      day = frames;
    }

abbrev wait : ℕ → Block → Block
wait frames rest = basic 1 (Wait frames) rest

held_same : (x y : Reading) → x ≡ y → x.scene.hold ≡ y.scene.hold
held_same x y e = ap (λ (r : Reading). r.scene.hold) e

-- ---- statements

-- the first branch is for a closed contact
abbrev branches : Block
branches = either 1 (IfContact 3) (wait 4 nothing) (wait 5 nothing) nothing

open_branch : Performs plan (reading branches (after 0 all_open Running)) 2
    (reading nothing (after 0 all_open (Waits 5)))
open_branch = (refl, tt, (refl, tt, (refl, refl)))

branches_exchanged : (n : ℕ) → Performs plan (reading branches (after 0 all_open Running)) n
    (reading nothing (after 0 all_open (Waits 4))) → ⊥
branches_exchanged n h = let e = held_same _ _ (performs_one plan 2 n _ _ _ open_branch h) in absurd (different e)
  where
    different : Waits 4 ≡ Waits 5 → ⊥
    different e = absurd cc

-- ---- frames and events, where a wait is over

abbrev between : ℕ → Block → Reading
between frames todo = reading todo (after frames all_open (Waits 0))

-- a contact closes before a frame; an applied block runs before what follows it
abbrev applies : Block
applies = apply 1 0 branches (wait 6 nothing)

closes_before : PerformsAll plan (between 0 applies) (Contact 3 true ∷ Frame ∷ [])
    (reading (wait 6 nothing) (after 1 third_closed (Waits 3)))
closes_before = (
  reading applies (after 0 third_closed (Waits 0)),
  refl,
  (
    reading (wait 6 nothing) (after 1 third_closed (Waits 3)),
    record {
      steps = 3;
      done = reading (wait 6 nothing) (after 0 third_closed (Waits 4));
      statements = (refl, tt, (refl, tt, (refl, tt, (refl, refl))));
      counts = refl;
    },
    refl,
  ),
)

rest_comes_first : (todo : Block) → PerformsAll plan (between 0 applies) (Contact 3 true ∷ Frame ∷ [])
    (reading todo (after 1 third_closed (Waits 5))) → ⊥
rest_comes_first todo h = let e =
    held_same (reading todo (after 1 third_closed (Waits 5))) _
    (all_one plan (Contact 3 true ∷ Frame ∷ []) (between 0 applies) _ _ closes_before h) in absurd (different e)
  where
    different : Waits 5 ≡ Waits 3 → ⊥
    different e = absurd cc

-- ---- codes of a script without statements

abbrev silent : Tree
silent =
    record {
      header = plan;
      items = [];
      names = [];
      blocks = [];
      begin_line = 2;
      statements = [];
      last_line = 3;
    }

abbrev line : Instr → Line
line i = record { number = 3; instr = i }

abbrev code : List Line → Program
code lines = labelled (label 0 1 ∷ []) lines

abbrev start : Start
start = start_at 0

abbrev first : State
first = first_state no_configuration 0

end_is : IsProgram (code (line End ∷ []))
end_is = first_is 1 (line End ∷ []) (omega arith) (omega arith) (record { numbered = omega arith; formed = tt }, tt)
    (omega arith) (omega arith)

its_code : IsCodeOf silent (code (line End ∷ []))
its_code = record {
  plan = refl;
  lines = refl;
  table = (
    no_configuration ∷ [],
    no_configuration ∷ [],
    inr (λ h. let e : None ≡ Some no_configuration = h.1 in absurd cc, refl),
    inl ((0, refl), refl),
    refl,
  );
  labels = (record { place = refl; current = refl; following = refl; pending = refl; counters = refl }, refl);
}

-- the code that ends plays as the script reads
plays : PlaysAsItReads silent (code (line End ∷ []))
plays = scripts_play silent (code (line End ∷ [])) end_is (typed_if (code (line End ∷ [])) end_is refl) its_code

-- one that waits first does not
plays_late : PlaysAsItReads silent (code (line (WaitInstr 1) ∷ line End ∷ [])) → ⊥
plays_late h =
    let lines = line (WaitInstr 1) ∷ line End ∷ [] in
    let along = h start first (Frame ∷ []) (in_range 0 (omega arith)) (it_starts no_configuration lines 0 1) (tt, tt) in
    let ended : PerformsAll plan (begins silent start) (Frame ∷ []) (reading nothing (after 1 all_open Ended)) = (
      reading nothing (after 1 all_open Ended),
      record {
        steps = 1;
        done = reading nothing (after 0 all_open Ended);
        statements = (refl, tt, (refl, refl));
        counts = refl;
      },
      refl,
    ) in
    let holds : Waits 0 ≡ along.end.scene.hold = ap (λ (x : Scene). x.hold) along.same in
    let hold : Ended ≡ along.end.scene.hold =
    held_same _ _ (along.only (reading nothing (after 1 all_open Ended)) ended) in
    absurd (different (holds ∙ sym hold))
  where
    different : Waits 0 ≡ Ended → ⊥
    different e = absurd cc
