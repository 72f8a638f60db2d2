-- The walk over a whole code: if it ends without a cause the code is typed, and otherwise the cause that it finds is
-- the refusal; so each code is typed, or refused at one instruction with one cause.
use Rattle.plan_verifier.proofs.Words.{[], ◌++◌, ◌+◌, ◌<◌, ◌∙◌, ◌∷◌, ◌≡◌, ◌≤◌, ◌⊎◌, Arrives, Bool, Cause, Contains}
use Rattle.plan_verifier.proofs.Words.{Declares, Err, HasOpening, Instr, InstructionRefused, IsAfter, IsAscending}
use Rattle.plan_verifier.proofs.Words.{IsFirstPast, IsLabelTyped, IsProgram, IsRefused, IsRefusedAt, IsSafeBelow}
use Rattle.plan_verifier.proofs.Words.{IsTyped, IsTyping, IsTypingBelow, Known, Label, Line, List, None, Ok, Option}
use Rattle.plan_verifier.proofs.Words.{Plan, Program, Refusal, Result, Some, Table, ap, arith, both_ways, cases_lt}
use Rattle.plan_verifier.proofs.Words.{contains_cases, contains_first, contains_later, contains_none, continues, drop}
use Rattle.plan_verifier.proofs.Words.{each_contains, entered, false, false_from_ne_true, find, inl, inr, instr_at}
use Rattle.plan_verifier.proofs.Words.{known_cause, label_at, label_key, leaves, left_before, left_by, length, nat_le}
use Rattle.plan_verifier.proofs.Words.{on_entry, option_map, or_after, passed_on, past_label, refl, refused_at}
use Rattle.plan_verifier.proofs.Words.{slice_get, slice_get_past, slice_get_within, subst, suc, sym, true, walk}
use Rattle.plan_verifier.proofs.Words.{whole_cause, zero, ℕ}
use Rattle.std.proofs.lemmas.List.{length_push}
use Rattle.plan_verifier.proofs.DecidingFlows.{Computes, decides_le}
use Rattle.plan_verifier.proofs.Causes.{IsPassed, known_passed}
use Rattle.plan_verifier.proofs.Entries.{whole_computes, IsHere, IsEnteredAt, entered_told}
use Rattle.plan_verifier.proofs.Tabled.{IsTabled, tabled, found, some_same}

-- ---- lists

pub slice_next : {T : Type 0} (xs : List T) (k : ℕ) (y : T) (ys : List T) → drop k xs ≡ y ∷ ys
    → (slice_get xs k ≡ Some y) × (drop (suc k) xs ≡ ys)
slice_next [] zero y ys e = absurd cc
slice_next [] (suc k) y ys e = absurd cc
slice_next (x ∷ xs) zero y ys e = (let h : x ≡ y = cc in ap Some h, let t : xs ≡ ys = cc in t)
slice_next (x ∷ xs) (suc k) y ys e = slice_next xs k y ys e

pub dropped : {T : Type 0} (xs : List T) (k : ℕ) (y : T) → slice_get xs k ≡ Some y → drop k xs ≡ y ∷ drop (suc k) xs
dropped (x ∷ xs) zero y e = let h : x ≡ y = cc in ap (λ (z : _). z ∷ xs) h
dropped (x ∷ xs) (suc k) y e = dropped xs k y e
dropped [] _ y e = absurd cc

pub slice_before : {T : Type 0} (xs : List T) (y : T) (k : ℕ) (z : T) → slice_get xs k ≡ Some z
    → slice_get (xs ++ y ∷ []) k ≡ Some z
slice_before (x ∷ xs) y zero z e = e
slice_before (x ∷ xs) y (suc k) z e = slice_before xs y k z e
slice_before [] y _ z e = absurd cc

pub slice_last : {T : Type 0} (xs : List T) (y : T) → slice_get (xs ++ y ∷ []) (length xs) ≡ Some y
slice_last [] y = refl
slice_last (x ∷ xs) y = slice_last xs y

pub slice_pushed : {T : Type 0} (xs : List T) (y : T) (k : ℕ) (z : T) → slice_get (xs ++ y ∷ []) k ≡ Some z
    → (slice_get xs k ≡ Some z) ⊎ ((k ≡ length xs) × (y ≡ z))
slice_pushed [] y zero z e = inr (refl, cc)
slice_pushed [] y (suc k) z e = absurd cc
slice_pushed (x ∷ xs) y zero z e = inl e
slice_pushed (x ∷ xs) y (suc k) z e = elim (slice_pushed xs y k z e) [ inl h ↦ inl h | inr h ↦ inr (ap suc h.0, h.1) ]

pub slice_there : {T : Type 0} (xs : List T) (k : ℕ) → k < length xs → (x : T) × (slice_get xs k ≡ Some x)
slice_there [] k lt = absurd (omega (arith, lt))
slice_there (x ∷ xs) zero lt = (x, refl)
slice_there (x ∷ xs) (suc k) lt = slice_there xs k (omega (arith, lt))

-- ---- what holds after the preceding instruction

pub left_found : (plan : Plan) (o : Option Instr) (k : Option Known) (i : Instr) (t : Known) → o ≡ Some i → k ≡ Some t
    → continues i ≡ true → left_by plan o k ≡ Some (leaves plan i t)
left_found plan o k i t e f on = rw (e, f, on) refl

left_chosen : (plan : Plan) (i : Instr) (t u : Known) (b : Bool) → continues i ≡ b
    → left_by plan (Some i) (Some t) ≡ Some u → (b ≡ true) × (u ≡ leaves plan i t)
left_chosen plan i t u true is e = (refl, let h : Some (leaves plan i t) ≡ Some u = sym (rw is refl) ∙ e in cc)
left_chosen plan i t u false is e = absurd (let h : None ≡ Some u = sym (rw is refl) ∙ e in cc)

pub record CameFrom (plan : Plan) (o : Option Instr) (k : Option Known) (u : Known) : Type 0 where
  pub instr : Instr
  pub known : Known
  pub there : o ≡ Some instr
  pub holds : k ≡ Some known
  pub onward : continues instr ≡ true
  pub left : u ≡ leaves plan instr known

pub left_told : (plan : Plan) (o : Option Instr) (k : Option Known) (u : Known) → left_by plan o k ≡ Some u
    → CameFrom plan o k u
left_told plan (Some i) (Some t) u e =
    let c = left_chosen plan i t u (continues i) refl e in
    record { instr = i; known = t; there = refl; holds = refl; onward = c.0; left = c.1 }
left_told plan _ _ u e = absurd cc

-- ---- extending a typing by one instruction

-- the walk enters an instruction, the first or a later one
record IsBegun (code : Program) (typing : List Known) (pc : ℕ) (t : Known) : Type 0 where
  placed : (label : Label) → label_at code pc ≡ Some label → Declares code label t × (label.cost ≤ code.plan.budget)
  opening : pc ≡ 0 → HasOpening code
  arrives : (k : ℕ) (i : Instr) (u : Known) → k + 1 ≡ pc → instr_at code k ≡ Some i → slice_get typing k ≡ Some u
      → continues i ≡ true
      → IsHere code (label_at code pc) t (leaves code.plan i u)
  after : label_at code pc ≡ None → IsAfter code pc

begun : (code : Program) (typing : List Known) (pc : ℕ) (t : Known) → IsEnteredAt code typing pc t
    → IsBegun code typing pc t
begun code typing zero t h = record {
  placed = λ label e.
      let same : h.label ≡ label = some_same _ _ _ h.there e in
      subst (λ (l : Label). Declares code l t × (l.cost ≤ code.plan.budget)) same (h.declares, h.within);
  opening = λ z. record { label = h.label; known = t; first = h.there; declares = h.declares; opening = h.opening };
  arrives = λ k i u e at known on. absurd (omega (arith, e));
  after = λ none. absurd (let f : None ≡ Some h.label = sym none ∙ h.there in cc);
}
begun code typing (suc pc) t h = record {
  placed = h.placed;
  opening = λ z. absurd (omega (arith, z));
  arrives = λ k i u e at known on.
      let here : k ≡ pc = omega (arith, e) in
      let at_pc : instr_at code pc ≡ Some i = subst (λ (n : ℕ). instr_at code n ≡ Some i) here at in
      let known_pc : slice_get typing pc ≡ Some u = subst (λ (n : ℕ). slice_get typing n ≡ Some u) here known in
      h.arrives (leaves code.plan i u) (left_found code.plan _ _ i u at_pc known_pc on);
  after = λ none.
      let a = h.after none in
      let c = left_told code.plan (instr_at code pc) (slice_get typing pc) a.0 a.1 in
      record {
        before = pc;
        instr = c.instr;
        next = (let e : suc pc ≡ pc + 1 = omega arith in e);
        there = c.there;
        onward = c.onward;
      };
}

here_arrives : (code : Program) (typing : List Known) (pc : ℕ) (o : Option Label) (t u : Known)
    → slice_get typing pc ≡ Some t → IsHere code o t u → Arrives code typing pc o u
here_arrives code typing pc None t u at h = at ∙ ap Some (sym h)
here_arrives code typing pc (Some label) t u at h = h

arrives_later : (code : Program) (typing : List Known) (y : Known) (pc : ℕ) (o : Option Label) (u : Known)
    → Arrives code typing pc o u → Arrives code (typing ++ y ∷ []) pc o u
arrives_later code typing y pc None u h = slice_before typing y pc u h
arrives_later code typing y pc (Some label) u h = h

placed_later : (code : Program) (typing : List Known) (y : Known) (label : Label) → IsLabelTyped code typing label
    → IsLabelTyped code (typing ++ y ∷ []) label
placed_later code typing y label p =
    record {
      known = p.known;
      there = slice_before typing y label.pc p.known p.there;
      declares = p.declares;
      within = p.within;
    }

-- an earlier instruction: what holds after it arrives at the new one
safe_before : (code : Program) (pc : ℕ) (typing : List Known) (t : Known) → length typing ≡ pc
    → IsBegun code typing pc t
    → (k : ℕ) (i : Instr) (u : Known) → instr_at code k ≡ Some i → slice_get typing k ≡ Some u
    → IsSafeBelow code pc typing k i u
    → IsSafeBelow code (pc + 1) (typing ++ t ∷ []) k i u
safe_before code pc typing t len b k i u at known s = record {
  allowance = s.allowance;
  fine = s.fine;
  inside = s.inside;
  onward = λ on lt.
      elim (cases_lt (k + 1) pc) [
        | inl before ↦ arrives_later code typing t (k + 1) (label_at code (k + 1)) (leaves code.plan i u)
            (s.onward on before)
        | inr after ↦
            let here : k + 1 ≡ pc = omega (arith, lt, after) in
            let arrived : Arrives code (typing ++ t ∷ []) pc (label_at code pc) (leaves code.plan i u) =
            here_arrives code (typing ++ t ∷ []) pc (label_at code pc) t (leaves code.plan i u)
            (subst (λ (n : ℕ). slice_get (typing ++ t ∷ []) n ≡ Some t) len (slice_last typing t))
            (b.arrives k i u here at known on) in
            subst (λ (n : ℕ). Arrives code (typing ++ t ∷ []) n (label_at code n) (leaves code.plan i u)) (sym here)
            arrived
      ];
  targets = s.targets;
}

safe_here : (code : Program) (pc : ℕ) (typing : List Known) (i : Instr) (t : Known) → pc < length code.lines
    → IsPassed code pc i t → IsSafeBelow code (pc + 1) typing pc i t
safe_here code pc typing i t lt p = record {
  allowance = p.allowance;
  fine = p.good.fine;
  inside = λ on. let other : pc + 1 ≡ length code.lines → ⊥ = p.inside on in omega (arith, lt, other);
  onward = λ on less. absurd (omega (arith, less));
  targets = p.good.targets;
}

extended : (code : Program) (pc : ℕ) (typing : List Known) (i : Instr) (t : Known) → IsTabled code
    → pc < length code.lines → instr_at code pc ≡ Some i
    → IsTypingBelow code pc typing → IsEnteredAt code typing pc t → IsPassed code pc i t
    → IsTypingBelow code (pc + 1) (typing ++ t ∷ [])
extended code pc typing i t h lt at below e p =
    let b = begun code typing pc t e in
    let there = subst (λ (n : ℕ). slice_get (typing ++ t ∷ []) n ≡ Some t) below.each (slice_last typing t) in
    record {
      each = length_push typing t ∙ ap (λ (n : ℕ). n + 1) below.each;
      opening = λ some. elim (cases_lt 0 pc) [
        | inl later ↦ below.opening later
        | inr first ↦ b.opening (omega (arith, first))
      ];
      labels = λ label here less.
          elim (cases_lt label.pc pc) [
            | inl before ↦ placed_later code typing t label (below.labels label here before)
            | inr after ↦
                let same : label.pc ≡ pc = omega (arith, less, after) in
                let d = b.placed label (subst (λ (n : ℕ). label_at code n ≡ Some label) same (h.there label here)) in
                record {
                  known = t;
                  there = subst (λ (n : ℕ). slice_get (typing ++ t ∷ []) n ≡ Some t) (sym same) there;
                  declares = d.0;
                  within = d.1;
                }
          ];
      safe = λ k j u at_k known.
          elim (slice_pushed typing t k u known) [
            | inl old ↦ safe_before code pc typing t below.each b k j u at_k old (below.safe k j u at_k old)
            | inr new ↦
                let here : k ≡ pc = new.0 ∙ below.each in
                let same_i : i ≡ j = some_same _ _ _ at (subst (λ (n : ℕ). instr_at code n ≡ Some j) here at_k) in
                let is = safe_here code pc (typing ++ t ∷ []) i t lt p in
                let with_j = subst (λ (x : Instr). IsSafeBelow code (pc + 1) (typing ++ t ∷ []) pc x t) same_i is in
                let with_u = subst (λ (x : Known). IsSafeBelow code (pc + 1) (typing ++ t ∷ []) pc j x) new.1 with_j in
                subst (λ (n : ℕ). IsSafeBelow code (pc + 1) (typing ++ t ∷ []) n j u) (sym here) with_u
          ];
      reached = λ k less none.
          elim (cases_lt k pc) [
            | inl before ↦ below.reached k before none
            | inr after ↦
                let here : k ≡ pc = omega (arith, less, after) in
                subst (λ (n : ℕ). IsAfter code n) (sym here)
                (b.after (subst (λ (n : ℕ). label_at code n ≡ None) here none))
          ];
    }

-- ---- labels past the end

found_none_by : (n : ℕ) (x : Label) (xs : List Label) (b : Bool) → nat_le n x.pc ≡ b
    → find (λ (l : Label). nat_le n l.pc) (x ∷ xs) ≡ None
    → (x.pc < n) × (find (λ (l : Label). nat_le n l.pc) xs ≡ None)
found_none_by n x xs true is e = absurd (let h : Some x ≡ None = sym (rw is refl) ∙ e in cc)
found_none_by n x xs false is e =
    let below : n ≤ x.pc → ⊥ = λ h. both_ways _ is ((decides_le n x.pc).found h) in
    (omega (arith, below), sym (rw is refl) ∙ e)

pub none_past : (n : ℕ) (xs : List Label) → find (λ (l : Label). nat_le n l.pc) xs ≡ None → (label : Label)
    → Contains xs label → label.pc < n
none_past n [] e label here = absurd (contains_none label here)
none_past n (x ∷ xs) e label here =
    let parts = found_none_by n x xs (nat_le n x.pc) refl e in
    elim (contains_cases x xs label here) [
      | inl same ↦ subst (λ (l : Label). l.pc < n) same parts.0
      | inr later ↦ none_past n xs parts.1 label later
    ]

pub none_found : (n : ℕ) (xs : List Label) → ((label : Label) → Contains xs label → label.pc < n)
    → find (λ (l : Label). nat_le n l.pc) xs ≡ None
none_found n [] h = refl
none_found n (x ∷ xs) h =
    let below : x.pc < n = h x (contains_first x xs) in
    let is : nat_le n x.pc ≡ false =
    false_from_ne_true _ (λ e. let above : n ≤ x.pc = (decides_le n x.pc).told e in omega (arith, above, below)) in
    rw is (none_found n xs (λ label here. h label (contains_later x xs label here)))

-- the first such label in ascending order
first_past_by : (n : ℕ) (x : Label) (xs : List Label) (label : Label) (b : Bool) → nat_le n x.pc ≡ b
    → find (λ (l : Label). nat_le n l.pc) (x ∷ xs) ≡ Some label
    → ((b ≡ true) × (x ≡ label)) ⊎ ((x.pc < n) × (find (λ (l : Label). nat_le n l.pc) xs ≡ Some label))
first_past_by n x xs label true is e = inl (refl, let h : Some x ≡ Some label = sym (rw is refl) ∙ e in cc)
first_past_by n x xs label false is e =
    let below : n ≤ x.pc → ⊥ = λ h. both_ways _ is ((decides_le n x.pc).found h) in
    inr (omega (arith, below), sym (rw is refl) ∙ e)

pub first_past : (n : ℕ) (xs : List Label) (label : Label) → IsAscending label_key xs
    → find (λ (l : Label). nat_le n l.pc) xs ≡ Some label
    → (other : Label) → Contains xs other → n ≤ other.pc → label.pc ≤ other.pc
first_past n [] label up e other here past = absurd (contains_none other here)
first_past n (x ∷ xs) label up e other here past =
    elim (first_past_by n x xs label (nat_le n x.pc) refl e) [
      | inl first ↦
          elim (contains_cases x xs other here) [
            | inl same ↦ let e : x.pc ≡ label.pc = ap label_key first.1 in let f : x.pc ≡ other.pc =
                ap label_key same in omega (arith, e, f)
            | inr later ↦
                let e : x.pc ≡ label.pc = ap label_key first.1 in
                omega (arith, each_contains (λ (y : Label). label_key x < label_key y) xs other up.0 later, e)
          ]
      | inr next ↦
          elim (contains_cases x xs other here) [
            | inl same ↦ let f : x.pc ≡ other.pc = ap label_key same in absurd (omega (arith, f, next.0, past))
            | inr later ↦ first_past n xs label up.1 next.1 other later past
          ]
    ]

-- ---- the walk

whole_none : (r : Result Known Cause) (here : Known → Option Cause) → whole_cause r here ≡ None → (t : Known)
    × (r ≡ Ok t) × (here t ≡ None)
whole_none (Err cause) here e = absurd cc
whole_none (Ok t) here e = (t, refl, e)

pub stops : (pc : ℕ) (r : Result Known Cause) (here : Known → Option Cause) (rest : Known → Option Refusal)
    (cause : Cause) → whole_cause r here ≡ Some cause
    → on_entry pc r (λ t. or_after pc (here t) (rest t)) ≡ refused_at pc cause
stops pc (Err given) here rest cause e = let h : given ≡ cause = cc in ap (refused_at pc) h
stops pc (Ok t) here rest cause e = rw e refl

pub passes : (pc : ℕ) (r : Result Known Cause) (here : Known → Option Cause) (rest : Known → Option Refusal) (t : Known)
    → r ≡ Ok t → here t ≡ None
    → on_entry pc r (λ u. or_after pc (here u) (rest u)) ≡ rest t
passes pc r here rest t e f = rw (e, f) refl

-- the result of the walk is the verdict
abbrev pub IsVerdict : Program → Option Refusal → Type 0
IsVerdict code None = IsTyped code
IsVerdict code (Some r) = IsRefused code r.pc r.cause

pub instr_here : (code : Program) (pc : ℕ) (line : Line) → slice_get code.lines pc ≡ Some line
    → instr_at code pc ≡ Some line.instr
instr_here code pc line e = ap (option_map (λ (l : Line). l.instr)) e

typing_whole : (code : Program) (pc : ℕ) (typing : List Known) → pc ≡ length code.lines → IsTypingBelow code pc typing
    → 0 < pc
    → ((label : Label) → Contains code.labels label → label.pc < length code.lines) → IsTyping code typing
typing_whole code pc typing end below some inside = record {
  each = below.each ∙ end;
  opening = below.opening some;
  labels = λ label here. below.labels label here (let lt : label.pc < length code.lines = inside label here in
      omega (arith, lt, end));
  safe = λ k i t at known.
      let s = below.safe k i t at known in
      record {
        allowance = s.allowance;
        fine = s.fine;
        inside = s.inside;
        onward = λ on. let lt : k + 1 < length code.lines = s.inside on in s.onward on (omega (arith, lt, end));
        targets = s.targets;
      };
  reached = λ k lt none. below.reached k (omega (arith, lt, end)) none;
}

verdict_past : (code : Program) (typing : List Known) → IsProgram code → IsTypingBelow code (length code.lines) typing
    → (o : Option Label)
    → find (λ (l : Label). nat_le (length code.lines) l.pc) code.labels ≡ o → IsVerdict code (past_label o)
verdict_past code typing h below None is = (
  typing,
  typing_whole code (length code.lines) typing refl below (omega (arith, h.lines_from))
      (none_past (length code.lines) code.labels is),
)
verdict_past code typing h below (Some label) is =
    let f = found (λ (l : Label). nat_le (length code.lines) l.pc) code.labels label is in
    let past : length code.lines ≤ label.pc = (decides_le (length code.lines) label.pc).told f.1 in
    let none = ap (option_map (λ (l : Line). l.instr)) (slice_get_past code.lines label.pc past) in
    let first : IsFirstPast code label.pc =
    record { label = label; there = (tabled code h).there label f.0; first = first_past _ _ _ h.labels_ascend is } in
    (typing, subst (λ (o : Option Instr). IsRefusedAt code typing label.pc o Table) (sym none) (below, first, refl))

found_next : (code : Program) → IsProgram code → (line : Line) (lines : List Line) (pc : ℕ) (typing : List Known)
    → instr_at code pc ≡ Some line.instr
    → Computes (whole_cause (entered code pc (left_before code typing pc)) (known_cause code pc line.instr))
    (InstructionRefused code typing pc line.instr)
    → (o : Option Cause) → whole_cause (entered code pc (left_before code typing pc)) (known_cause code pc line.instr)
    ≡ o → IsTypingBelow code pc typing
    → ((t : Known) → entered code pc (left_before code typing pc) ≡ Ok t → known_cause code pc line.instr t ≡ None
    → IsVerdict code (walk code lines (pc + 1) (passed_on code.plan line.instr t)))
    → IsVerdict code (walk code (line ∷ lines) pc (left_before code typing pc))
found_next code h line lines pc typing at c None is below later =
    let n = whole_none _ _ is in
    let go : walk code (line ∷ lines) pc (left_before code typing pc) ≡ walk code lines (pc + 1)
    (passed_on code.plan line.instr n.0) = passes pc _ _ (λ t. walk code lines _ _) n.0 n.1 n.2 in
    subst (λ (o : Option Refusal). IsVerdict code o) (sym go) (later n.0 n.1 n.2)
found_next code h line lines pc typing at c (Some cause) is below later =
    let halt : walk code (line ∷ lines) pc (left_before code typing pc) ≡ refused_at pc cause =
    stops pc (entered code pc _) (known_cause code pc line.instr) (λ t. walk code lines _ _) cause is in
    let refused : IsRefused code pc cause = (typing, rw at (below, c.told cause is)) in
    subst (λ (o : Option Refusal). IsVerdict code o) (sym halt) refused

pub found_from : (code : Program) → IsProgram code → (lines : List Line) (pc : ℕ) (typing : List Known)
    → drop pc code.lines ≡ lines → pc + length lines ≡ length code.lines
    → IsTypingBelow code pc typing → IsVerdict code (walk code lines pc (left_before code typing pc))
found_from code h [] pc typing rest len below =
    verdict_past code typing h (subst (λ (n : ℕ). IsTypingBelow code n typing) (omega (arith, len)) below)
    (find (λ (l : Label). nat_le (length code.lines) l.pc) code.labels) refl
found_from code h (line ∷ lines) pc typing rest len below =
    let tables = tabled code h in
    let next = slice_next code.lines pc line lines rest in
    let at : instr_at code pc ≡ Some line.instr = instr_here code pc line next.0 in
    let came = left_before code typing pc in
    let c = whole_computes code typing pc line.instr tables in
    found_next code h line lines pc typing at c (whole_cause (entered code pc came) (known_cause code pc line.instr))
    refl below
    (λ t e k.
    let lt : pc < length code.lines = slice_get_within code.lines pc line next.0 in
    let up : suc pc ≡ pc + 1 = omega arith in
    let longer = extended code pc typing line.instr t tables lt at below (entered_told code typing pc t tables e)
    (known_passed code pc line.instr t tables k) in
    let there = subst (λ (n : ℕ). slice_get (typing ++ t ∷ []) n ≡ Some t) below.each (slice_last typing t) in
    let left : left_before code (typing ++ t ∷ []) (pc + 1) ≡ passed_on code.plan line.instr t =
    rw (← up) (rw (at, there) refl) in
    let dropped_one : drop (pc + 1) code.lines ≡ lines = subst (λ (n : ℕ). drop n code.lines ≡ lines) up next.1 in
    rw (← left) (found_from code h lines (pc + 1) (typing ++ t ∷ []) dropped_one (omega (arith, len)) longer))
