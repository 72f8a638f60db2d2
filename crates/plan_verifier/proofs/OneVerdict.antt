-- A typing is what the walk finds; so a code is typed, or refused at one instruction with one cause, never both.
use Rattle.plan_verifier.proofs.Words.{[], ◌+◌, ◌<◌, ◌∙◌, ◌∷◌, ◌≡◌, ◌≤◌, ◌⊎◌, AddComponent, AddPacket, AddService}
use Rattle.plan_verifier.proofs.Words.{AddSub, Arrives, Bool, Cause, CodesHaveOneVerdict, Contains, Declares, Edits}
use Rattle.plan_verifier.proofs.Words.{Idle, Instr, IsConfiguration, IsEdit, IsFine, IsFirstPast, IsInstr, IsOpening}
use Rattle.plan_verifier.proofs.Words.{IsProgram, IsRefused, IsRefusedAt, IsTyped, IsTyping, IsTypingBelow, Join, Known}
use Rattle.plan_verifier.proofs.Words.{Label, Line, List, None, Ok, Option, Perhaps, Plan, Program, Refusal, Settle}
use Rattle.plan_verifier.proofs.Words.{Some, Swap, Table, Until, Wait, WaitAny, WaitContact, Within, ap, arith}
use Rattle.plan_verifier.proofs.Words.{continues, drop, entered, false, find, if◌then◌else◌, inl, inr, instr_at}
use Rattle.plan_verifier.proofs.Words.{known_cause, label_at, leaves, left_before, length, nat_le, nat_lt, option_map}
use Rattle.plan_verifier.proofs.Words.{passed_on, past_label, refl, refusal_of, refused_at, slice_get, slice_get_within}
use Rattle.plan_verifier.proofs.Words.{subst, suc, sym, true, walk, whole_cause, zero, ℕ}
use Rattle.mux_config.specs.Edits.{IsInRange}
use Rattle.mux_config.specs.declared.edit.Edit.{Edit}
use Rattle.mux_config.proofs.Keeping.{edits_keep}
use Rattle.plan_verifier.specs.Typing.{after_wait, perhaps_swapped, after_pause, after_settle, known_after_swap}
use Rattle.plan_verifier.proofs.DecidingFlows.{decides_le}
use Rattle.plan_verifier.proofs.Causes.{IsPassed, passed_none}
use Rattle.plan_verifier.proofs.Entries.{whole_computes, IsHere, IsEnteredAt, entered_found}
use Rattle.plan_verifier.proofs.Tabled.{IsTabled, AreFormed, tabled, found, mapped, declared_once, some_same}
use Rattle.plan_verifier.proofs.Verdicts.{slice_there, left_told, left_found, none_past, none_found, first_past, stops}
use Rattle.plan_verifier.proofs.Verdicts.{passes, IsVerdict, found_from, dropped}

-- ---- configurations stay well-formed

pub in_range : (e : Edit) → IsEdit e → IsInRange e
in_range (AddSub s) h = (h.named, h.from_one, h.to_four)
in_range (AddService sid) h = h
in_range (AddComponent sid m) h = h.1
in_range (AddPacket p) h = (h.named, h.typed, h.carried)
in_range _ h = tt

formed_swapped : (t : Known) → AreFormed t → AreFormed (known_after_swap t)
formed_swapped t h = record { current = h.next; next = h.next }

formed_if : (b : Bool) (t u : Known) → AreFormed t → AreFormed u → AreFormed (if b then t else u)
formed_if true t u h k = h
formed_if false t u h k = k

formed_with : (p : Swap) (t : Known) → AreFormed t → AreFormed (record t { pending = p })
formed_with p t h = record { current = h.current; next = h.next }

formed_waited : (frames : ℕ) (p : Swap) (t : Known) → AreFormed t → AreFormed (after_wait frames p t)
formed_waited frames Idle t h = h
formed_waited frames (Within lo hi) t h = formed_if (nat_lt frames lo) _ _ (formed_with _ t h) (formed_swapped t h)
formed_waited frames (Perhaps hi) t h = formed_if (nat_lt frames hi) _ _ (formed_with _ t h) (formed_swapped t h)

formed_perhaps : (hi : ℕ) (t : Known) → AreFormed t → AreFormed (perhaps_swapped hi t)
formed_perhaps hi t h = formed_if (nat_lt 1 hi) _ _ (formed_with _ t h) (formed_swapped t h)

formed_paused : (p : Swap) (t : Known) → AreFormed t → AreFormed (after_pause p t)
formed_paused Idle t h = h
formed_paused (Within lo hi) t h = formed_perhaps hi t h
formed_paused (Perhaps hi) t h = formed_perhaps hi t h

formed_settled : (p : Swap) (t : Known) → AreFormed t → AreFormed (after_settle p t)
formed_settled Idle t h = h
formed_settled _ t h = formed_swapped t h

-- only the configurations matter here
formed_as : (t u : Known) → t.current ≡ u.current → t.next ≡ u.next → AreFormed t → AreFormed u
formed_as t u e f h = record { current = subst IsConfiguration e h.current; next = subst IsConfiguration f h.next }

leaves_formed : (plan : Plan) (i : Instr) (t : Known) → IsInstr i → IsFine plan i t → AreFormed t
    → AreFormed (leaves plan i t)
leaves_formed plan (Edits edit) t is fine h =
    record { current = h.current; next = edits_keep edit t.next (in_range edit is) h.next fine.1 }
leaves_formed plan (Wait frames) t is fine h = formed_as _ _ refl refl (formed_waited frames t.pending t h)
leaves_formed plan (Until day) t is fine h = formed_as _ _ refl refl (formed_paused t.pending t h)
leaves_formed plan (WaitContact contact closed) t is fine h =
    formed_as (after_pause t.pending t) _ refl refl (formed_paused t.pending t h)
leaves_formed plan (WaitAny closed opened until frames) t is fine h =
    formed_as (after_pause t.pending t) _ refl refl (formed_paused t.pending t h)
leaves_formed plan Join t is fine h = formed_as (known_after_swap t) _ refl refl (formed_swapped t h)
leaves_formed plan Settle t is fine h = formed_as (after_settle t.pending t) _ refl refl (formed_settled t.pending t h)
leaves_formed plan _ t is fine h = formed_as t _ refl refl h

-- ---- what a typing says at one pc

at_label : (code : Program) (end : ℕ) (typing : List Known) → IsTabled code → IsTypingBelow code end typing
    → (pc : ℕ) (label : Label) (t : Known)
    → label_at code pc ≡ Some label → pc < end → slice_get typing pc ≡ Some t → Declares code label t
    × (label.cost ≤ code.plan.budget)
at_label code end typing h below pc label t e lt at =
    let f = h.found pc label e in
    let p = below.labels label f.0 (subst (λ (n : ℕ). n < end) (sym f.1) lt) in
    let same : p.known ≡ t = some_same _ _ _ p.there (subst (λ (n : ℕ). slice_get typing n ≡ Some t) (sym f.1) at) in
    (subst (λ (u : Known). Declares code label u) same p.declares, p.within)

formed_label : (code : Program) → IsTabled code → (pc : ℕ) (label : Label) (t : Known) → label_at code pc ≡ Some label
    → Declares code label t → AreFormed t
formed_label code h pc label t e d =
    let f = h.found pc label e in
    subst AreFormed (declared_once code label _ _ (h.declares label f.0) d) (h.formed label f.0)

-- the state that the preceding instruction passes to this one
record ComesIn (code : Program) (typing : List Known) (pc : ℕ) (i : Instr) (u : Known) : Type 0 where
  there : instr_at code pc ≡ Some i
  known : slice_get typing pc ≡ Some u
  onward : continues i ≡ true
  arrives : Arrives code typing (suc pc) (label_at code (suc pc)) (leaves code.plan i u)

comes_in : (code : Program) (end : ℕ) (typing : List Known) → IsTypingBelow code end typing
    → (pc : ℕ) (i : Instr) (u : Known) → suc pc < end
    → instr_at code pc ≡ Some i → slice_get typing pc ≡ Some u → continues i ≡ true → ComesIn code typing pc i u
comes_in code end typing below pc i u lt at known on =
    let s = below.safe pc i u at known in
    record {
      there = at;
      known = known;
      onward = on;
      arrives = subst (λ (n : ℕ). Arrives code typing n (label_at code n) (leaves code.plan i u)) (omega arith)
          (s.onward on (omega (arith, lt)));
    }

-- the preceding instruction continues to an instruction without a label
reached_from : (code : Program) (end : ℕ) (typing : List Known) → IsTypingBelow code end typing → (pc : ℕ)
    → suc pc < end → label_at code (suc pc) ≡ None
    → (i : Instr) × (u : Known) × ComesIn code typing pc i u
reached_from code end typing below pc lt none =
    let a = below.reached (suc pc) lt none in
    let same : a.before ≡ pc = (let e : suc pc ≡ a.before + 1 = a.next in omega (arith, e)) in
    let at : instr_at code pc ≡ Some a.instr = subst (λ (n : ℕ). instr_at code n ≡ Some a.instr) same a.there in
    let u = slice_there typing pc (omega (arith, lt)) in
    (a.instr, u.0, comes_in code end typing below pc a.instr u.0 lt at u.1 a.onward)

formed_by : (code : Program) (end : ℕ) (typing : List Known) → IsTabled code → IsTypingBelow code end typing
    → (pc : ℕ) (o : Option Label) → label_at code (suc pc) ≡ o
    → suc pc < end → (t : Known) → slice_get typing (suc pc) ≡ Some t
    → ((u : Known) → slice_get typing pc ≡ Some u → AreFormed u) → AreFormed t
formed_by code end typing h below pc (Some label) e lt t at before =
    formed_label code h (suc pc) label t e (at_label code end typing h below (suc pc) label t e lt at).0
formed_by code end typing h below pc None e lt t at before =
    let r = reached_from code end typing below pc lt e in
    let i = r.0 in
    let u = r.1 in
    let arrived = subst (λ (o : Option Label). Arrives code typing (suc pc) o (leaves code.plan i u)) e r.2.arrives in
    let same : leaves code.plan i u ≡ t = some_same _ _ _ arrived at in
    let s = below.safe pc i u r.2.there r.2.known in
    subst AreFormed same (leaves_formed code.plan i u (h.instrs pc i r.2.there) s.fine (before u r.2.known))

formed_first : (code : Program) (end : ℕ) (typing : List Known) → IsTabled code → IsTypingBelow code end typing
    → 0 < end → (t : Known) → slice_get typing 0 ≡ Some t → AreFormed t
formed_first code end typing h below lt t at =
    let o = below.opening lt in
    formed_label code h 0 o.label t o.first (at_label code end typing h below 0 o.label t o.first lt at).0

formed_at : (code : Program) (end : ℕ) (typing : List Known) → IsTabled code → IsTypingBelow code end typing → (pc : ℕ)
    → pc < end → (t : Known) → slice_get typing pc ≡ Some t → AreFormed t
formed_at code end typing h below zero lt t at = formed_first code end typing h below lt t at
formed_at code end typing h below (suc pc) lt t at =
    formed_by code end typing h below pc (label_at code (suc pc)) refl lt t at
    (λ u there. formed_at code end typing h below pc (omega (arith, lt)) u there)

arrived_here : (code : Program) (typing : List Known) (pc : ℕ) (o : Option Label) (t u : Known)
    → slice_get typing pc ≡ Some t → Arrives code typing pc o u → IsHere code o t u
arrived_here code typing pc None t u at h = some_same _ _ _ h at
arrived_here code typing pc (Some label) t u at h = h

entered_below : (code : Program) (end : ℕ) (typing : List Known) → IsTabled code → IsTypingBelow code end typing
    → (pc : ℕ) → pc < end → (t : Known) → slice_get typing pc ≡ Some t
    → IsEnteredAt code typing pc t
entered_below code end typing h below zero lt t at =
    let o = below.opening lt in
    let d = at_label code end typing h below 0 o.label t o.first lt at in
    record {
      label = o.label;
      there = o.first;
      declares = d.0;
      opening = subst (λ (u : Known). IsOpening code.plan u) (declared_once code o.label _ _ o.declares d.0) o.opening;
      within = d.1;
    }
entered_below code end typing h below (suc pc) lt t at = record {
  placed = λ label e. at_label code end typing h below (suc pc) label t e lt at;
  arrives = λ u came.
      let c = left_told code.plan (instr_at code pc) (slice_get typing pc) u came in
      let i = comes_in code end typing below pc c.instr c.known lt c.there c.holds c.onward in
      subst (λ (v : Known). IsHere code (label_at code (suc pc)) t v) (sym c.left)
      (arrived_here code typing (suc pc) (label_at code (suc pc)) t (leaves code.plan c.instr c.known) at i.arrives);
  after = λ none.
      let r = reached_from code end typing below pc lt none in
      (leaves code.plan r.0 r.1, left_found code.plan _ _ r.0 r.1 r.2.there r.2.known r.2.onward);
}

passed_below : (code : Program) (end : ℕ) (typing : List Known) → IsTypingBelow code end typing
    → (pc : ℕ) (i : Instr) (t : Known)
    → instr_at code pc ≡ Some i → slice_get typing pc ≡ Some t → IsPassed code pc i t
passed_below code end typing below pc i t at known =
    let s = below.safe pc i t at known in
    record {
      allowance = s.allowance;
      good = record { fine = s.fine; targets = s.targets };
      inside = λ on last. let lt : pc + 1 < length code.lines = s.inside on in omega (arith, lt, last);
    }

-- ---- the walk along a typing

walk_reaches : (code : Program) (end : ℕ) (typing : List Known) → IsTabled code → IsTypingBelow code end typing
    → end ≤ length code.lines → (pc : ℕ) → pc ≤ end
    → refusal_of code ≡ walk code (drop pc code.lines) pc (left_before code typing pc)
walk_reaches code end typing h below len zero le = refl
walk_reaches code end typing h below len (suc pc) le =
    let line = slice_there code.lines pc (omega (arith, le, len)) in
    let t = slice_there typing pc (omega (arith, le)) in
    let at : instr_at code pc ≡ Some line.0.instr = ap (option_map (λ (l : Line). l.instr)) line.1 in
    let formed = formed_at code end typing h below pc (omega (arith, le)) t.0 t.1 in
    let enters : entered code pc (left_before code typing pc) ≡ Ok t.0 =
    entered_found _ _ _ _ h formed.current (entered_below _ _ _ h below _ (omega (arith, le)) _ t.1) in
    let none : known_cause code pc line.0.instr t.0 ≡ None =
    passed_none _ _ _ _ h formed.next (passed_below _ _ _ below _ _ _ at t.1) in
    let before = walk_reaches code end typing h below len pc (omega (arith, le)) in
    let cut : drop pc code.lines ≡ line.0 ∷ drop (suc pc) code.lines = dropped code.lines pc line.0 line.1 in
    let go : walk code (line.0 ∷ drop (suc pc) code.lines) pc (left_before code typing pc)
    ≡ walk code (drop (suc pc) code.lines) (pc + 1) (passed_on code.plan line.0.instr t.0) =
    passes pc _ (known_cause code pc line.0.instr) (λ u.
    walk code (drop (suc pc) code.lines) (pc + 1) (passed_on code.plan line.0.instr u)) t.0 enters none in
    let left : left_before code typing (suc pc) ≡ passed_on code.plan line.0.instr t.0 = rw (at, t.1) refl in
    let up : pc + 1 ≡ suc pc = omega arith in
    cc (before, cut, go, up, left)

drop_all : {T : Type 0} (xs : List T) → drop (length xs) xs ≡ []
drop_all [] = refl
drop_all (x ∷ xs) = drop_all xs

walk_ends : (code : Program) (typing : List Known) → IsTabled code → IsTypingBelow code (length code.lines) typing
    → refusal_of code ≡ past_label (find (λ (l : Label). nat_le (length code.lines) l.pc) code.labels)
walk_ends code typing h below =
    walk_reaches code (length code.lines) typing h below (omega arith) (length code.lines) (omega arith)
    ∙ ap (λ (ls : List Line). walk code ls (length code.lines) (left_before code typing (length code.lines)))
    (drop_all code.lines)

-- ---- verdicts

typing_below : (code : Program) (typing : List Known) → IsTyping code typing
    → IsTypingBelow code (length code.lines) typing
typing_below code typing h = record {
  each = h.each;
  opening = λ some. h.opening;
  labels = λ label here lt. h.labels label here;
  safe = λ pc i t at known.
      let s = h.safe pc i t at known in
      record {
        allowance = s.allowance;
        fine = s.fine;
        inside = s.inside;
        onward = λ on lt. s.onward on;
        targets = s.targets;
      };
  reached = h.reached;
}

pub typed_passes : (code : Program) → IsProgram code → IsTyped code → refusal_of code ≡ None
typed_passes code h typed =
    let typing = typed.0 in
    let inside : (label : Label) → Contains code.labels label → label.pc < length code.lines = λ label here.
    let p = typed.1.labels label here in
    omega (arith, slice_get_within typing label.pc p.known p.there) in
    walk_ends code typing (tabled code h) (typing_below code typing typed.1)
    ∙ ap past_label (none_found (length code.lines) code.labels inside)

past_is : (code : Program) (pc : ℕ) (o : Option Label) → IsProgram code → IsFirstPast code pc → length code.lines ≤ pc
    → find (λ (l : Label). nat_le (length code.lines) l.pc) code.labels ≡ o → past_label o ≡ refused_at pc Table
past_is code pc None h first past e =
    let f = (tabled code h).found pc first.label first.there in
    absurd (omega (arith, none_past (length code.lines) code.labels e first.label f.0, past))
past_is code pc (Some label) h first past e =
    let f = (tabled code h).found pc first.label first.there in
    let g = found (λ (l : Label). nat_le (length code.lines) l.pc) code.labels label e in
    let above : pc ≤ label.pc = first.first label g.0 ((decides_le (length code.lines) label.pc).told g.1) in
    let below : label.pc ≤ first.label.pc = first_past _ _ _ h.labels_ascend e _ f.0 (omega (arith, past, f.1)) in
    let here : label.pc ≡ pc = omega (arith, above, below, f.1) in
    ap (λ (n : ℕ). refused_at n Table) here

past_lines : (xs : List Line) (k : ℕ) → option_map (λ (l : Line). l.instr) (slice_get xs k) ≡ None → length xs ≤ k
past_lines [] k e = omega arith
past_lines (x ∷ xs) zero e = absurd cc
past_lines (x ∷ xs) (suc k) e = let h : length xs ≤ k = past_lines xs k e in omega (arith, h)

none_there : (pc : ℕ) (t : Known) → slice_get [] pc ≡ Some t → ⊥
none_there _ t e = cc

refused_by : (code : Program) (pc : ℕ) (cause : Cause) (typing : List Known) (o : Option Instr) → IsProgram code
    → instr_at code pc ≡ o → IsRefusedAt code typing pc o cause
    → refusal_of code ≡ refused_at pc cause
refused_by code pc cause typing (Some i) h at r =
    let tables = tabled code h in
    let line = mapped (λ (l : Line). l.instr) (slice_get code.lines pc) i at in
    let lt : pc < length code.lines = slice_get_within code.lines pc line.0 line.1 in
    let found : whole_cause (entered code pc (left_before code typing pc)) (known_cause code pc line.0.instr) ≡ Some
    cause = rw line.2 ((whole_computes code typing pc i tables).found cause r.1) in
    walk_reaches code pc typing tables r.0 (omega (arith, lt)) pc (omega arith)
    ∙ ap (λ (ls : List Line). walk code ls pc (left_before code typing pc)) (dropped code.lines pc line.0 line.1)
    ∙ stops pc (entered code pc (left_before code typing pc)) (known_cause code pc line.0.instr)
    (λ t. walk code (drop (suc pc) code.lines) (pc + 1) (passed_on code.plan line.0.instr t)) cause found
refused_by code pc cause typing None h at r =
    let past : length code.lines ≤ pc = past_lines code.lines pc at in
    walk_ends _ _ (tabled code h) r.0 ∙ past_is _ _ _ h r.1 past refl ∙ ap (refused_at pc) (sym r.2)

pub refused_stops : (code : Program) (pc : ℕ) (cause : Cause) → IsProgram code → IsRefused code pc cause
    → refusal_of code ≡ refused_at pc cause
refused_stops code pc cause h r = refused_by code pc cause r.0 (instr_at code pc) h refl r.1

none_below : (code : Program) → IsTypingBelow code 0 []
none_below code = record {
  each = refl;
  opening = λ some. absurd (omega (arith, some));
  labels = λ label here lt. absurd (omega (arith, lt));
  safe = λ pc i t at known. absurd (none_there pc t known);
  reached = λ pc lt none. absurd (omega (arith, lt));
}

pub verdict : (code : Program) → IsProgram code → IsVerdict code (refusal_of code)
verdict code h = found_from code h code.lines 0 [] refl (omega arith) (none_below code)

pub typed_if : (code : Program) → IsProgram code → refusal_of code ≡ None → IsTyped code
typed_if code h e = subst (λ (o : Option Refusal). IsVerdict code o) e (verdict code h)

pub refused_if : (code : Program) (pc : ℕ) (cause : Cause) → IsProgram code → refusal_of code ≡ refused_at pc cause
    → IsRefused code pc cause
refused_if code pc cause h e = subst (λ (o : Option Refusal). IsVerdict code o) e (verdict code h)

either : (code : Program) → (o : Option Refusal) → IsVerdict code o → IsTyped code
    ⊎ ((pc : ℕ) × (cause : Cause) × IsRefused code pc cause)
either code None v = inl v
either code (Some r) v = inr (r.pc, r.cause, v)

pub codes_have_one_verdict : CodesHaveOneVerdict
codes_have_one_verdict code h = record {
  either = either code (refusal_of code) (verdict code h);
  never_both = λ pc cause typed refused.
      let both : None ≡ refused_at pc cause = sym (typed_passes code h typed) ∙ refused_stops code pc cause h refused in
      cc;
  one = λ pc other_pc cause other one two.
      let both = sym (refused_stops code pc cause h one) ∙ refused_stops code other_pc other h two in
      let a : Refusal = record { pc = pc; cause = cause } in
      let b : Refusal = record { pc = other_pc; cause = other } in
      let same : a ≡ b = some_same (refused_at pc cause) a b refl both in
      (ap (λ (r : Refusal). r.pc) same, ap (λ (r : Refusal). r.cause) same);
}
