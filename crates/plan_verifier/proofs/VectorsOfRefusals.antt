-- Why small codes are refused: for each definition of refusals, examples that hold and examples that fail.
use Rattle.plan_verifier.proofs.Words.{[], ◌<◌, ◌∷◌, ◌≡◌, ◌≢◌, ◌≤◌, AddSub, Cause, Contains, Cost, Declares, DropSub}
use Rattle.plan_verifier.proofs.Words.{Edits, End, EntryRefused, FallsOff, FitsLabel, HasOneVerdict, HasOpening, Idle}
use Rattle.plan_verifier.proofs.Words.{Instr, InstrRefused, InstructionRefused, IsFirstPast, IsInstr, IsProgram}
use Rattle.plan_verifier.proofs.Words.{IsRefused, IsRefusedAt, IsSafeBelow, IsTypingBelow, Join, JoinIdle, Jump}
use Rattle.plan_verifier.proofs.Words.{JumpRefused, Known, KnownRefused, Label, LabelRefused, Mismatch, None, Notice}
use Rattle.plan_verifier.proofs.Words.{OfEdit, OpenedRefused, OpeningRefused, PcRefused, Pending, Program, Some, Table}
use Rattle.plan_verifier.proofs.Words.{TakenRefused, Target, Within, ap, arith, false≢true, inl, inr, label_at}
use Rattle.plan_verifier.proofs.Words.{label_key, refl, subst, suc, sym, zero, ℕ}
use Rattle.mux_config.specs.declared.fault.EditFault.TheVariants.{IdAbsent}
use Rattle.plan_verifier.specs.Refusals.{Where, WhereSome, CommitRefused}
use Rattle.plan_verifier.proofs.Samples.{plan, sub, counters, label, line, code, line_is, first_is}
use Rattle.plan_verifier.proofs.Tabled.{IsTabled, tabled, declared_once}
use Rattle.plan_verifier.proofs.Causes.{decides_label, entry_computes, known_computes}
use Rattle.plan_verifier.proofs.Entries.{whole_computes}
use Rattle.plan_verifier.proofs.OneVerdict.{refused_if, codes_have_one_verdict}
use Rattle.plan_verifier.proofs.VectorsOfTyping.{joins, joins_is, adds_sub, opened, edited, committed}
use Rattle.plan_verifier.proofs.VectorsOfTyping.{its_label_declares, a_first_sub_channel}

-- adds a sub-channel, and then waits for a swap although none was committed
abbrev unjoined : Program
unjoined = code (label 0 3 ∷ []) (line (Edits (AddSub sub)) ∷ line Join ∷ [])

-- one instruction
abbrev lone : Instr → Program
lone i = code (label 0 3 ∷ []) (line i ∷ [])

-- ---- their fields are within their limits

joins_tabled : IsTabled joins
joins_tabled = tabled joins joins_is

unjoined_is : IsProgram unjoined
unjoined_is = first_is 3 unjoined.lines (omega arith) (omega arith) (adds_sub, (line_is Join tt, tt)) (omega arith)
    (omega arith)

lone_tabled : (i : Instr) → IsInstr i → IsTabled (lone i)
lone_tabled i h = tabled (lone i)
    (first_is 3 (line i ∷ []) (omega arith) (omega arith) (line_is i h, tt) (omega arith) (omega arith))

-- ---- causes in order

a_fault : Where (1 < 2) Cost Cost
a_fault = (omega arith, refl)

another_cause : Where (1 < 2) Cost Table → ⊥
another_cause h = let e : Table ≡ Cost = h.1 in absurd cc

named_by_its_fault : WhereSome (Some IdAbsent) OfEdit (OfEdit IdAbsent)
named_by_its_fault = refl

without_a_fault : WhereSome None OfEdit (OfEdit IdAbsent) → ⊥
without_a_fault h = h

-- ---- at an instruction: a swap is pending, and the delay is too short as well

swap_pending : Where (committed.pending ≢ Idle) Pending Pending
swap_pending = ((λ e. absurd cc), refl)

commit_while_pending : CommitRefused plan committed (23 < 24) Notice Pending
commit_while_pending = inl swap_pending

not_for_its_delay : CommitRefused plan committed (23 < 24) Notice Notice → ⊥
not_for_its_delay h = elim h [
  | inl first ↦ (let e : Notice ≡ Pending = first.1 in absurd cc)
  | inr later ↦ later.0 Pending swap_pending
]

with_another_next_one : FitsLabel joins (label 0 3) edited → ⊥
with_another_next_one h = false≢true ((decides_label joins (label 0 3) edited its_label_declares).found h)

abbrev spent_two : Known
spent_two = record opened { allowance = 2 }

cannot_afford_the_label : EntryRefused joins (label 0 3) spent_two Cost
cannot_afford_the_label = (entry_computes joins (label 0 3) spent_two its_label_declares).told Cost refl

comes_to_the_label : (cause : Cause) → EntryRefused joins (label 0 3) opened cause → ⊥
comes_to_the_label cause h = let e : None ≡ Some cause =
    (entry_computes joins (label 0 3) opened its_label_declares).found cause h in absurd cc

a_label_there : (cause : Cause) → JumpRefused joins (Some (label 0 3)) opened cause → ⊥
a_label_there cause h = comes_to_the_label cause h

drops_what_is_absent : InstrRefused joins (Edits (DropSub 5)) opened (OfEdit IdAbsent)
drops_what_is_absent = inr ((λ cause first. first.0 refl), refl)

jumps_to_no_label : InstrRefused joins (Jump 1) edited Target
jumps_to_no_label = refl

joins_a_swap : (cause : Cause) → InstrRefused joins Join committed cause → ⊥
joins_a_swap cause h = h.0 tt

-- the last instruction, which continues
falls_off : KnownRefused joins 3 Join committed FallsOff
falls_off = (known_computes joins 3 Join committed joins_tabled).told FallsOff refl

joins_nothing_first : KnownRefused joins 3 Join opened FallsOff → ⊥
joins_nothing_first h = let e : Some JoinIdle ≡ Some FallsOff =
    (known_computes joins 3 Join opened joins_tabled).found FallsOff h in absurd cc

-- ---- where the machine reaches an instruction

takes_too_much : TakenRefused joins 0 End (label 0 21) opened Cost
takes_too_much = inl (omega arith, refl)

takes_what_there_is : (cause : Cause) → TakenRefused joins 0 End (label 0 3) opened cause → ⊥
takes_what_there_is cause h = elim h [
  | inl first ↦ (let e : 20 < 3 = first.0 in omega (arith, e))
  | inr later ↦ (let e : None ≡ Some cause = (known_computes joins 0 End opened joins_tabled).found cause later.1 in
      absurd cc)
]

label_before_a_join : LabelRefused joins 0 Join (label 0 3) JoinIdle
label_before_a_join = (
  opened,
  its_label_declares,
  inr (
    (λ cause first. let e : 20 < 3 = first.0 in omega (arith, e)),
    (known_computes joins 0 Join opened joins_tabled).told JoinIdle refl,
  ),
)

label_before_an_end : (cause : Cause) → LabelRefused joins 0 End (label 0 3) cause → ⊥
label_before_an_end cause h =
    let same : h.0 ≡ opened = declared_once joins (label 0 3) _ _ h.1 its_label_declares in
    takes_what_there_is cause (subst (λ (t : Known). TakenRefused joins 0 End (label 0 3) t cause) same h.2)

-- no label, and no instruction continues to it
neither_label_nor_way : PcRefused joins 2 Join None None Table
neither_label_nor_way = refl

comes_with_a_swap : PcRefused joins 2 Join None (Some committed) JoinIdle → ⊥
comes_with_a_swap h = let e : None ≡ Some JoinIdle =
    (known_computes joins 2 Join committed joins_tabled).found JoinIdle h in absurd cc

begins_without_a_label : OpeningRefused joins End None Table
begins_without_a_label = refl

begins_with_an_end : (cause : Cause) → OpeningRefused (lone End) End (Some (label 0 3)) cause → ⊥
begins_with_an_end cause h = let e : None ≡ Some cause =
    (whole_computes (lone End) [] 0 End (lone_tabled End tt)).found cause h in absurd cc

lone_declares : (i : Instr) → Declares (lone i) (label 0 3) opened
lone_declares i = record { current = refl; next = refl; pending = refl; counters = refl; cost = refl }

opens_while_pending : OpenedRefused (lone End) End (label 0 3) committed Mismatch
opens_while_pending = inl ((λ h. let e : Within 24 27 ≡ Idle = h.idle in absurd cc), refl)

opens_idle : (cause : Cause) → OpenedRefused (lone End) End (label 0 3) opened cause → ⊥
opens_idle cause h = begins_with_an_end cause (opened, lone_declares End, h)

-- ---- the instructions below a pc

-- what follows that pc is not checked
safe_below_one : IsSafeBelow unjoined 1 (opened ∷ []) 0 (Edits (AddSub sub)) opened
safe_below_one = record {
  allowance = omega arith;
  fine = a_first_sub_channel;
  inside = λ on. omega arith;
  onward = λ on lt. absurd (omega (arith, lt));
  targets = λ target e. absurd cc;
}

join_of_nothing : IsSafeBelow unjoined 2 (opened ∷ edited ∷ []) 1 Join edited → ⊥
join_of_nothing h = h.fine

unjoined_refused : IsRefused unjoined 1 JoinIdle
unjoined_refused = refused_if unjoined 1 JoinIdle unjoined_is refl

typing_below_one : IsTypingBelow unjoined 1 unjoined_refused.0
typing_below_one = unjoined_refused.1.0

typing_below_two : IsTypingBelow unjoined 2 (opened ∷ edited ∷ []) → ⊥
typing_below_two h = (h.safe 1 Join edited refl refl).fine

second_refused : InstructionRefused unjoined unjoined_refused.0 1 Join JoinIdle
second_refused = unjoined_refused.1.1

second_not_for_its_cost : InstructionRefused unjoined (opened ∷ []) 1 Join Cost → ⊥
second_not_for_its_cost h =
    let e : Some JoinIdle ≡ Some Cost =
    (whole_computes unjoined (opened ∷ []) 1 Join (tabled unjoined unjoined_is)).found Cost h in
    absurd cc

-- ---- labels past the end

abbrev labels_past : Program
labels_past = code (label 0 3 ∷ label 7 3 ∷ label 9 3 ∷ []) (line End ∷ [])

least_past : (l : Label) → Contains labels_past.labels l → 1 ≤ l.pc → 7 ≤ l.pc
least_past l (zero, lt, same) past = let e : 0 ≡ l.pc = ap label_key same in omega (arith, e, past)
least_past l (suc zero, lt, same) past = let e : 7 ≡ l.pc = ap label_key same in omega (arith, e)
least_past l (suc (suc zero), lt, same) past = let e : 9 ≡ l.pc = ap label_key same in omega (arith, e)
least_past l (suc (suc (suc n)), lt, same) past = absurd (omega (arith, lt))

first_label_past : IsFirstPast labels_past 7
first_label_past = record { label = label 7 3; there = refl; first = least_past }

another_label_past : IsFirstPast labels_past 9 → ⊥
another_label_past h = let e : 9 ≤ 7 = h.first (label 7 3) (1, omega arith, refl) (omega arith) in omega (arith, e)

-- ---- the first cause at the first instruction that has one

refused_at_the_join : IsRefusedAt unjoined unjoined_refused.0 1 (Some Join) JoinIdle
refused_at_the_join = unjoined_refused.1

for_no_other_cause : IsRefusedAt unjoined (opened ∷ []) 1 (Some Join) Cost → ⊥
for_no_other_cause h = second_not_for_its_cost h.1

-- ---- one verdict

unjoined_has_one : HasOneVerdict unjoined
unjoined_has_one = codes_have_one_verdict unjoined unjoined_is

-- a label names a configuration that is not in the table: no file gives such a code
abbrev astray : Program
astray = code (record (label 0 3) { cur = 1 } ∷ []) (line End ∷ [])

declares_nothing : (t : Known) → Declares astray (record (label 0 3) { cur = 1 }) t → ⊥
declares_nothing t h = let e : None ≡ Some t.current = h.current in absurd cc

no_opening : HasOpening astray → ⊥
no_opening h =
    let same : record (label 0 3) { cur = 1 } ≡ h.label = cc_label h.label h.first in
    declares_nothing h.known (subst (λ (l : Label). Declares astray l h.known) (sym same) h.declares)
  where
    cc_label : (l : Label) → label_at astray 0 ≡ Some l → record (label 0 3) { cur = 1 } ≡ l
    cc_label l e = cc

never_refused : (pc : ℕ) (cause : Cause) → IsRefused astray pc cause → ⊥
never_refused zero cause r = declares_nothing r.1.1.0 r.1.1.1
never_refused (suc pc) cause r = no_opening (r.1.0.opening (omega arith))

no_verdict : HasOneVerdict astray → ⊥
no_verdict h = elim h.either [
  | inl typed ↦ no_opening typed.1.opening
  | inr refused ↦ never_refused refused.0 refused.1 refused.2
]
