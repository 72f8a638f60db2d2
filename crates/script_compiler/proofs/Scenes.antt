-- The scene after an instruction or a frame depends on the scene before alone.
use Rattle.script_compiler.proofs.Words.{◌+◌, ◌∙◌, ◌≡◌, Act, Bool, Hold, IsAllowed, None, Option, Plan, Program}
use Rattle.script_compiler.proofs.Words.{Running, ScenesSuffice, Some, State, acts, after_burst, ap, effect, false}
use Rattle.script_compiler.proofs.Words.{if◌then◌else◌, instr_of_act, is_due, is_first_noticed, is_here, opens, ready}
use Rattle.script_compiler.proofs.Words.{refl, scene_of, settle, shown, state_of_scene, sym, true, with_due_swap}
use Rattle.script_compiler.proofs.Words.{with_hold_ended, with_swap, ℕ}
use Rattle.script_front.specs.declared.tree.Act.TheVariants.{Edit, Wait, WaitContact, Until, WaitAny, CommitIn}
use Rattle.script_front.specs.declared.tree.Act.TheVariants.{CommitAt, Join, Settle}

-- a state with the same scene, the rest of which is fixed
abbrev plain : State → State
plain s = state_of_scene (scene_of s)

-- two states with the same pc and the same counters
abbrev pub SamePlace : State → State → Type 0
SamePlace s t = (t.pc ≡ s.pc) × (t.counters ≡ s.counters)

-- ---- a frame's beginning and end

here_same : (s : State) (h : Hold) → is_here s h ≡ is_here (plain s) h
here_same s _ = refl

ends_by : (b : Bool) (s : State) → scene_of (if b then record s { hold = Running } else s)
    ≡ scene_of (if b then record (plain s) { hold = Running } else plain s)
ends_by true s = refl
ends_by false s = refl

hold_ends : (s : State) → scene_of (with_hold_ended s) ≡ scene_of (with_hold_ended (plain s))
hold_ends s = cc (ends_by (is_here s s.hold) s, here_same s s.hold)

swaps_by : (b : Bool) (s : State) → scene_of (if b then with_swap s else s)
    ≡ scene_of (if b then with_swap (plain s) else plain s)
swaps_by true s = refl
swaps_by false s = refl

pub ready_scene : (s : State) → scene_of (ready s) ≡ opens (scene_of s)
ready_scene s =
    hold_ends (with_due_swap s) ∙ ap (λ x. scene_of (with_hold_ended (state_of_scene x))) (swaps_by (is_due s.left) s)
    ∙ sym (hold_ends (with_due_swap (plain s)))

swap_place : (b : Bool) (s : State) → SamePlace s (if b then with_swap s else s)
swap_place true s = (refl, refl)
swap_place false s = (refl, refl)

hold_place : (b : Bool) (s : State) → SamePlace s (if b then record s { hold = Running } else s)
hold_place true s = (refl, refl)
hold_place false s = (refl, refl)

pub ready_place : (s : State) → SamePlace s (ready s)
ready_place s =
    let t = with_due_swap s in
    let first : SamePlace s t = swap_place (is_due s.left) s in
    let second : SamePlace t (with_hold_ended t) = hold_place (is_here t t.hold) t in
    (second.0 ∙ first.0, second.1 ∙ first.1)

turned : (b : Bool) (s : State) → (scene_of (if b then record s { page_index = 0 } else s) ≡ scene_of s)
    × SamePlace s (if b then record s { page_index = 0 } else s)
turned true s = (refl, (refl, refl))
turned false s = (refl, (refl, refl))

pub shown_scene : (p : Program) (s : State) → (scene_of (shown p s) ≡ scene_of (after_burst p s))
    × SamePlace (after_burst p s) (shown p s)
shown_scene p s = turned (is_first_noticed p.plan.notice (after_burst p s).left) (after_burst p s)

-- ---- a statement that is one instruction

settles_by : (o : Option ℕ) (s : State) → scene_of (settle o s) ≡ scene_of (settle o (plain s))
settles_by None s = refl
settles_by (Some left) s = refl

settles_at : (o : Option ℕ) (s : State) → ((settle o s).pc ≡ s.pc + 1) × ((settle o s).counters ≡ s.counters)
settles_at None s = (refl, refl)
settles_at (Some left) s = (refl, refl)

pub act_scene : (plan : Plan) (a : Act) (s : State) → scene_of (effect plan (instr_of_act a) s)
    ≡ acts plan (instr_of_act a) (scene_of s)
act_scene plan Settle s = settles_by s.left s
act_scene plan _ s = refl

pub act_place : (plan : Plan) (a : Act) (s : State) → ((effect plan (instr_of_act a) s).pc ≡ s.pc + 1)
    × ((effect plan (instr_of_act a) s).counters ≡ s.counters)
act_place plan Settle s = settles_at s.left s
act_place plan _ s = (refl, refl)

pub act_fine : (plan : Plan) (a : Act) (s : State)
    → (IsAllowed plan (instr_of_act a) s → IsAllowed plan (instr_of_act a) (plain s))
    × (IsAllowed plan (instr_of_act a) (plain s) → IsAllowed plan (instr_of_act a) s)
act_fine plan (Edit edit) s = (λ h. h, λ h. h)
act_fine plan (Wait frames) s = (λ h. tt, λ h. tt)
act_fine plan (WaitContact contact closed) s = (λ h. tt, λ h. tt)
act_fine plan (Until moment) s = (λ h. tt, λ h. tt)
act_fine plan (WaitAny all) s = (λ h. tt, λ h. tt)
act_fine plan (CommitIn delay) s = (
  λ h. (record { idle = h.0.idle; sound = h.0.sound; changes = h.0.changes }, h.1),
  λ h. (record { idle = h.0.idle; sound = h.0.sound; changes = h.0.changes }, h.1),
)
act_fine plan (CommitAt count) s = (
  λ h. (record { idle = h.0.idle; sound = h.0.sound; changes = h.0.changes }, h.1),
  λ h. (record { idle = h.0.idle; sound = h.0.sound; changes = h.0.changes }, h.1),
)
act_fine plan Join s = (λ h. h, λ h. h)
act_fine plan Settle s = (λ h. tt, λ h. tt)

pub scenes_suffice : ScenesSuffice
scenes_suffice plan s = record {
  opened = ready_scene s;
  closed = refl;
  ended = refl;
  acted = λ a. act_scene plan a s;
  allowed = λ a. act_fine plan a s;
}
