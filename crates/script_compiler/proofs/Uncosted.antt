-- Only excessive costs are refused with `Cost`, and at which line.
use Rattle.script_compiler.proofs.Words.{[], ◌+◌, ◌<◌, ◌∙◌, ◌∷◌, ◌≡◌, ◌≤◌, Block, Cause, ClosesCycle, CommitAt}
use Rattle.script_compiler.proofs.Words.{CommitIn, CommitRefused, Configuration, Cost, Count, FlowRefused, HasCostAt}
use Rattle.script_compiler.proofs.Words.{HasPath, Instr, IsCostlyAt, IsItemRefused, IsMismatch, IsRefusedAfter}
use Rattle.script_compiler.proofs.Words.{IsRefusedIn, IsSome, IsUnreached, Item, Join, JoinIdle, Known, Line, List}
use Rattle.script_compiler.proofs.Words.{Mismatch, NoChange, None, Notice, Option, Pending, Plan, ProgramPoint, Round}
use Rattle.script_compiler.proofs.Words.{Some, SwapUncertain, Table, Wait, WhereSome, apply, arith, basic, either}
use Rattle.script_compiler.proofs.Words.{first_fault, forever, inl, inr, instr_of_act, instrs_of, known_at, longest}
use Rattle.script_compiler.proofs.Words.{nothing, refl, repeat, rules, slice_get, stop, suc, sym, when, zero, ℕ}
use Rattle.mux_config.specs.Edits.{edit_fault, changed}
use Rattle.plan_code.specs.declared.instr.Instr.TheVariants.{Edit as Edits}
use Rattle.plan_verifier.specs.declared.cause.Cause.TheVariants.{Edit as OfEdit, Config as OfConfig}
use Rattle.script_compiler.proofs.Paths.{has_longest, longest_most, shorter}

-- ---- no other refusal has this cause

some_uncosted : {T : Type 0} (o : Option T) (cause : T → Cause) (given : Cause) → ((x : T) → cause x ≡ Cost → ⊥)
    → WhereSome o cause given → given ≡ Cost → ⊥
some_uncosted None cause given not_cost h e = h
some_uncosted (Some x) cause given not_cost h e = not_cost x (sym h ∙ e)

edit_uncosted : (o : Option _) (given : Cause) → WhereSome o OfEdit given → given ≡ Cost → ⊥
edit_uncosted o given h e = some_uncosted o OfEdit given (λ x f. cc) h e

commit_uncosted : (plan : Plan) (t : Known) (fault : Type 0) (cause given : Cause) → (cause ≡ Cost → ⊥)
    → CommitRefused plan t fault cause given → given ≡ Cost → ⊥
commit_uncosted plan t fault cause given not_cost h e = elim h [
  | inl a ↦ (let x : Pending ≡ Cost = sym a.1 ∙ e in cc)
  | inr b ↦ elim b.1 [
    | inl a ↦ not_cost (sym a.1 ∙ e)
    | inr b ↦ elim b.1 [
      | inl a ↦ some_uncosted (first_fault t.next) OfConfig given (λ x f. cc) a e
      | inr b ↦ elim b.1 [
        | inl a ↦ (let x : NoChange ≡ Cost = sym a.1 ∙ e in cc)
        | inr b ↦ (let x : Round ≡ Cost = sym b.1.1 ∙ e in cc)
      ]
    ]
  ]
]

flow_uncosted : (plan : Plan) (i : Instr) (t : Known) (given : Cause) → FlowRefused plan i t given → given ≡ Cost → ⊥
flow_uncosted plan (Edits edit) t given h e = elim h [
  | inl a ↦ (let x : Pending ≡ Cost = sym a.1 ∙ e in cc)
  | inr b ↦ edit_uncosted (edit_fault edit t.next) given b.1 e
]
flow_uncosted plan (CommitIn delay) t given h e = commit_uncosted plan t _ Notice given (λ f. cc) h e
flow_uncosted plan (CommitAt count) t given h e = commit_uncosted plan t _ Count given (λ f. cc) h e
flow_uncosted plan (Wait frames) t given h e = (let x : SwapUncertain ≡ Cost = sym h.1 ∙ e in cc)
flow_uncosted plan Join t given h e = (let x : JoinIdle ≡ Cost = sym h.1 ∙ e in cc)
flow_uncosted plan _ t given h e = h

unreached_uncosted : (b : Block) (at : ℕ) (given : Cause) → IsUnreached b at given → given ≡ Cost → ⊥
unreached_uncosted b at given h e = (let x : Table ≡ Cost = sym h.1 ∙ e in cc)

mismatch_uncosted : (line : ℕ) (agree : Type 0) (at : ℕ) (given : Cause) → IsMismatch line agree at given → given ≡ Cost
    → ⊥
mismatch_uncosted line agree at given h e = (let x : Mismatch ≡ Cost = sym h.2 ∙ e in cc)

after_uncosted : (o : Option ProgramPoint) (rest : Block) (refused : ProgramPoint → Type 0) (at : ℕ) (given : Cause)
    → ((u : ProgramPoint) → refused u → ⊥) → given ≡ Cost → IsRefusedAfter o rest refused at given → ⊥
after_uncosted None rest refused at given not_cost e h = unreached_uncosted rest at given h e
after_uncosted (Some u) rest refused at given not_cost e h = not_cost u h

pub in_uncosted : (plan : Plan) (b : Block) (s : ProgramPoint) (at : ℕ) (given : Cause) → IsRefusedIn plan b s at given
    → given ≡ Cost → ⊥
in_uncosted plan nothing s at given h e = h
in_uncosted plan (basic line act rest) s at given h e = elim h [
  | inl a ↦ flow_uncosted plan (instr_of_act act) (known_at s.flow) given a.1 e
  | inr b ↦ in_uncosted plan rest _ at given b.1 e
]
in_uncosted plan (stop line rest) s at given h e = unreached_uncosted rest at given h e
in_uncosted plan (when line condition first rest) s at given h e = elim h [
  | inl a ↦ in_uncosted plan first _ at given a e
  | inr b ↦ elim b.1 [
    | inl m ↦ mismatch_uncosted line _ at given m e
    | inr r ↦ after_uncosted _ rest (λ u. IsRefusedIn plan rest u at given) at given
        (λ u k. in_uncosted plan rest u at given k e) e r.1
  ]
]
in_uncosted plan (either line condition first second rest) s at given h e = elim h [
  | inl a ↦ in_uncosted plan first _ at given a e
  | inr b ↦ elim b.1 [
    | inl a ↦ in_uncosted plan second _ at given a e
    | inr b ↦ elim b.1 [
      | inl m ↦ mismatch_uncosted line _ at given m e
      | inr r ↦ after_uncosted _ rest (λ u. IsRefusedIn plan rest u at given) at given
          (λ u k. in_uncosted plan rest u at given k e) e r.1
    ]
  ]
]
in_uncosted plan (repeat line times body rest) s at given h e = elim h [
  | inl a ↦ in_uncosted plan body _ at given a e
  | inr b ↦ elim b.1 [
    | inl m ↦ mismatch_uncosted line _ at given m e
    | inr r ↦ after_uncosted _ rest (λ u. IsRefusedIn plan rest _ at given) at given
        (λ u k. in_uncosted plan rest _ at given k e) e r.1
  ]
]
in_uncosted plan (forever line body rest) s at given h e = elim h [
  | inl a ↦ in_uncosted plan body _ at given a e
  | inr b ↦ elim b.1 [
    | inl m ↦ mismatch_uncosted line _ at given m e
    | inr r ↦ unreached_uncosted rest at given r.1 e
  ]
]
in_uncosted plan (apply line number named rest) s at given h e = elim h [
  | inl a ↦ in_uncosted plan named s at given a e
  | inr r ↦ after_uncosted _ rest (λ u. IsRefusedIn plan rest u at given) at given
      (λ u k. in_uncosted plan rest u at given k e) e r.1
]

pub item_uncosted : (items : List Item) (c : Configuration) (at : ℕ) (given : Cause) → IsItemRefused items c at given
    → given ≡ Cost → ⊥
item_uncosted [] c at given h e = h
item_uncosted (item ∷ items) c at given h e = elim h [
  | inl a ↦ edit_uncosted (edit_fault item.edit c) given a.1 e
  | inr b ↦ item_uncosted items (changed item.edit c) at given b.1 e
]

-- ---- the pc and the line

pub first_costly : (code : List Instr) (budget pc : ℕ) → ((k : ℕ) → ClosesCycle code k → ⊥)
    → budget < longest code (budget + 1) pc → ((k : ℕ) → k < pc → longest code (budget + 1) k ≤ budget)
    → IsCostlyAt budget code pc
first_costly code budget pc none over before = inr (
  none,
  record {
    point_here = (longest code (budget + 1) pc, over, has_longest code (budget + 1) pc);
    earlier = λ k lt h.
        let most = longest_most code (budget + 1) (budget + 1) k
        (shorter code (budget + 1) h.0 k (omega arith) h.2) (omega arith) in
        absurd (omega (arith, most));
  },
)

is_there : (o : Option Instr) → IsSome o → (i : Instr) × (o ≡ Some i)
is_there None h = absurd (search (rules, h))
is_there (Some i) h = (i, refl)

over_there : (code : List Instr) (n pc budget : ℕ) → budget < n → HasPath code pc n → (i : Instr)
    × (slice_get code pc ≡ Some i)
over_there code zero pc budget lt h = absurd (omega (arith, lt))
over_there code (suc zero) pc budget lt h = is_there (slice_get code pc) h
over_there code (suc (suc n)) pc budget lt h = (h.0, h.2)

costly_there : (code : List Instr) (budget pc : ℕ) → IsCostlyAt budget code pc → (i : Instr)
    × (slice_get code pc ≡ Some i)
costly_there code budget pc (inl f) = (f.point_here.instr, f.point_here.there)
costly_there code budget pc (inr f) = over_there code f.1.point_here.0 pc budget f.1.point_here.1 f.1.point_here.2

pub line_there : (lines : List Line) (pc : ℕ) (i : Instr) → slice_get (instrs_of lines) pc ≡ Some i → (l : Line)
    × (slice_get lines pc ≡ Some l)
line_there [] pc i e = cc
line_there (l ∷ lines) zero i e = (l, refl)
line_there (l ∷ lines) (suc pc) i e = line_there lines pc i e

pub cost_at : (lines : List Line) (budget pc at : ℕ) → IsCostlyAt budget (instrs_of lines) pc
    → ((l : Line) → slice_get lines pc ≡ Some l → at ≡ l.number) → HasCostAt budget lines at
cost_at lines budget pc at costly number =
    let i = costly_there (instrs_of lines) budget pc costly in
    let l = line_there lines pc i.0 i.1 in
    record { pc = pc; line = l.0; there = l.1; number = number l.0 l.1; costly = costly }
