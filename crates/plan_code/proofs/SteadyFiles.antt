-- Appended bytes do not affect the reading of a code file: any fault except `Truncated` stays the same.
use Rattle.plan_code.proofs.Words.{[], ◌++◌, ◌+◌, ◌-◌, ◌<◌, ◌>>=◌, ◌∙◌, ◌∷◌, ◌≡◌, ◌≢◌, ◌⊎◌, Bool, CodeFault}
use Rattle.plan_code.proofs.Words.{CutsAreTruncated, Err, Field, FileFaultsAreFirst, FileFaultsStay, Goes, Header}
use Rattle.plan_code.proofs.Words.{IsProgram, Limit, List, Magic, Ok, Order, Parses, Program, Reads, Result}
use Rattle.plan_code.proofs.Words.{Short, Trailing, Truncated, Version, ap, append-nil, arith, code_bytes, cond}
use Rattle.plan_code.proofs.Words.{config_in, count_at, drop, eqb, false, fib_count, goes_byte, goes_byte_within}
use Rattle.plan_code.proofs.Words.{goes_number, in_file, inl, inr, label_from, label_key, layout_in, length}
use Rattle.plan_code.proofs.Words.{length-append, length-take-le, line_in, ltb, magic, magic_at, mode_of, ne_eqb, not}
use Rattle.plan_code.proofs.Words.{place_same, read_from, refl, refuse_code, subst, suc, sym, take, take-append-drop}
use Rattle.plan_code.proofs.Words.{true, w16, w32, zero, ℕ}
use Rattle.mux_config.proofs.Steady.{goes_config, goes_members}
use Rattle.mux_config.specs.declared.record.RecordFault.TheVariants.{Field as FieldOfRecord}
use Rattle.plan_code.specs.Reading.{reserving_at, layout_at, plan_at, items_at, header_at, program_at, code_of}
use Rattle.plan_code.proofs.PartLaws.{label_is, line_is}
use Rattle.plan_code.proofs.HeaderLaws.{plan_after_is}
use Rattle.plan_code.proofs.FileLaws.{code_again}

-- ---- readings with appended bytes

-- the second reading has these bytes appended: where the first succeeds so does the second, and any fault of the first
-- except `Truncated` is a fault of the second
abbrev Runs : {T : Type 0} → List ℕ → Parses T → Parses T → Type 0
Runs more (Ok x) r = r ≡ Ok (x.0, x.1 ++ more)
Runs more (Err e) r = e ≢ Truncated → r ≡ Err e

runs_bind : {A B : Type 0} (more : List ℕ) (r s : Parses A) (k l : A × List ℕ → Parses B) → Runs more r s
    → ((x : A) (rest : List ℕ) → Runs more (k (x, rest)) (l (x, rest ++ more))) → Runs more (r >>= k) (s >>= l)
runs_bind more (Ok x) s k l h f = subst (λ t. Runs more (k x) (t >>= l)) (sym h) (f x.0 x.1)
runs_bind more (Err e) s k l h f = λ other. ap (λ t. t >>= l) (h other)

runs_fault : (T : Type 0) (more : List ℕ) (f g : CodeFault) → f ≡ g → Runs {T = T} more (Err f) (Err g)
runs_fault T more f g e = λ _. ap Err (sym e)

runs_refuse : {T : Type 0} (more : List ℕ) (test : Bool) (f g : CodeFault) (k l : Parses T) → f ≡ g → Runs more k l
    → Runs more (refuse_code test f >>= λ _. k) (refuse_code test g >>= λ _. l)
runs_refuse more true f g k l e h = runs_fault _ more f g e
runs_refuse more false f g k l e h = h

runs_choice : {T : Type 0} (more : List ℕ) (test : Bool) (r s q t : Parses T) → Runs more r s → Runs more q t
    → Runs more (cond test r q) (cond test s t)
runs_choice more true r s q t h k = h
runs_choice more false r s q t h k = k

-- a part that begins at the same offset
runs_part : {T : Type 0} (more : List ℕ) (at by : ℕ) (r s : Reads T) → at ≡ by → Goes more r s
    → Runs more (read_from at r) (read_from by s)
runs_part more at by (Ok x) s e h = ap (read_from by) h
runs_part more at by (Err Short) s e h = λ other. absurd (other refl)
runs_part more at by (Err (FieldOfRecord p)) s e h = λ _. ap (read_from by) h ∙ ap (λ n. Err (Field (n + p))) (sym e)
runs_part more at by (Err Order) s e h = λ _. ap (read_from by) h ∙ ap (λ n. Err (Field n)) (sym e)

runs_field : {T : Type 0} (more : List ℕ) (r s : Reads T) → Goes more r s → Runs more (in_file r) (in_file s)
runs_field more r s h = runs_part more 0 0 r s refl h

-- ---- the header

runs_magic : (bytes more : List ℕ) → Runs more (magic_at bytes) (magic_at (bytes ++ more))
runs_magic bytes more =
    runs_bind more _ _ _ _ (runs_field more _ _ (goes_number w32 bytes more)) (λ letters rest.
    runs_refuse more (not (eqb letters magic)) Magic Magic _ _ refl refl)

runs_reserving : (total : ℕ) (bytes more : List ℕ) → Runs more (reserving_at total bytes)
    (reserving_at (total + length more) (bytes ++ more))
unfolding reserving_at
runs_reserving total bytes more =
    runs_bind more _ _ _ _ (runs_field more _ _ (goes_byte_within total 1 4 bytes more)) (λ number after_number.
    runs_bind more _ _ _ _ (runs_field more _ _
    (goes_byte_within total 1 (fib_count (mode_of number) - 2) after_number more)) (λ reserve rest. refl))

runs_layout_in : (total version : ℕ) (bytes more : List ℕ)
    → Runs more (layout_in total version bytes) (layout_in (total + length more) version (bytes ++ more))
runs_layout_in total version bytes more =
    runs_choice more (eqb version 1) _ _ _ _ refl (
    runs_choice more (eqb version 2) _ _ _ _
    (runs_bind more _ _ _ _ (runs_field more _ _ (goes_byte_within total 2 4 bytes more)) (λ number rest. refl)) (
    runs_choice more (eqb version 3) _ _ _ _ (runs_reserving total bytes more) (
    runs_fault _ more Version Version refl)))

runs_layout : (total : ℕ) (bytes more : List ℕ) → Runs more (layout_at total bytes)
    (layout_at (total + length more) (bytes ++ more))
unfolding layout_at
runs_layout total bytes more =
    runs_bind more _ _ _ _ (runs_field more _ _ (goes_byte bytes more))
    (λ version rest. runs_layout_in total version rest more)

runs_plan : (total : ℕ) (bytes more : List ℕ) → Runs more (plan_at total bytes)
    (plan_at (total + length more) (bytes ++ more))
unfolding plan_at
runs_plan total bytes more =
    runs_bind _ _ _ _ _ (runs_layout _ _ _) (λ layout rest. runs_field _ _ _ ((plan_after_is _).goes total rest more))

runs_count : (total limit : ℕ) (bytes more : List ℕ) → Runs more (count_at total limit bytes)
    (count_at (total + length more) limit (bytes ++ more))
runs_count total limit bytes more =
    runs_bind more _ _ _ _ (runs_field more _ _ (goes_number w16 bytes more)) (λ number rest.
    runs_refuse more (eqb number 0) _ _ _ _ (ap Field (place_same total bytes more)) (
    runs_refuse more (ltb limit number) Limit Limit _ _ refl refl))

runs_header : (total : ℕ) (bytes more : List ℕ) → Runs more (header_at total bytes)
    (header_at (total + length more) (bytes ++ more))
unfolding header_at
runs_header total bytes more =
    runs_bind more _ _ _ _ (runs_magic bytes more) (λ letters after_letters.
    runs_bind more _ _ _ _ (runs_plan total after_letters more) (λ plan after_plan.
    runs_bind more _ _ _ _ (runs_count total 256 after_plan more) (λ configurations after_configurations.
    runs_bind more _ _ _ _ (runs_count total 1024 after_configurations more) (λ labels after_labels.
    runs_bind more _ _ _ _ (runs_count total 4096 after_labels more) (λ lines rest. refl)))))

-- ---- the tables

runs_items : {T : Type 0} (item other : List ℕ → Parses T) (more : List ℕ)
    → ((bytes : List ℕ) → Runs more (item bytes) (other (bytes ++ more)))
    → (before : List T) (count : ℕ) (bytes : List ℕ) → Runs more (items_at item before count bytes)
    (items_at other before count (bytes ++ more))
unfolding items_at
runs_items item other more h before zero bytes = refl
runs_items item other more h before (suc count) bytes =
    runs_bind more _ _ _ _ (h bytes) (λ x rest. runs_items item other more h (before ++ x ∷ []) count rest)

runs_program : (total : ℕ) (header : Header) (bytes more : List ℕ)
    → Runs more (program_at total header bytes) (program_at (total + length more) header (bytes ++ more))
unfolding program_at
runs_program total header bytes more =
    runs_bind more _ _ _ _ (runs_items (config_in total) (config_in (total + length more)) more
    (λ b. runs_part more _ _ _ _ (place_same total b more) (goes_config b more)) [] header.configurations bytes)
    (λ configurations after_configurations.
    runs_bind more _ _ _ _ (runs_field more _ _
    (goes_members label_key (label_from total header.configurations)
    (label_from (total + length more) header.configurations) more
    (λ low b. (label_is header.configurations low).goes total b more) 0 [] header.labels after_configurations))
    (λ labels after_labels.
    runs_bind more _ _ _ _ (runs_items (line_in total) (line_in (total + length more)) more
    (λ b. runs_field more _ _ (line_is.goes total b more)) [] header.lines after_labels) (λ lines rest. refl)))

-- ---- the file

-- the second reading has these bytes appended: where the first is a code and there are such bytes, the second has
-- `Trailing`; and any fault of the first except `Truncated` is a fault of the second
abbrev Ends : List ℕ → Result Program CodeFault → Result Program CodeFault → Type 0
Ends more (Ok p) s = more ≢ [] → s ≡ Err Trailing
Ends more (Err e) s = e ≢ Truncated → s ≡ Err e

ends_bind : {A : Type 0} (more : List ℕ) (r s : Parses A) (k l : A × List ℕ → Result Program CodeFault) → Runs more r s
    → ((x : A) (rest : List ℕ) → Ends more (k (x, rest)) (l (x, rest ++ more))) → Ends more (r >>= k) (s >>= l)
ends_bind more (Ok x) s k l h f = subst (λ t. Ends more (k x) (t >>= l)) (sym h) (f x.0 x.1)
ends_bind more (Err e) s k l h f = λ other. ap (λ t. t >>= l) (h other)

-- left-over bytes are refused
refused : (p : Program) (n : ℕ) → 0 < n → (refuse_code (not (eqb n 0)) Trailing >>= λ _. Ok p) ≡ Err Trailing
refused p n some = ap (λ (t : Bool). refuse_code (not t) Trailing >>= λ _. Ok p)
    (ne_eqb n 0 (λ e. omega (arith, e, some)))

ended : (p : Program) (more rest : List ℕ) → Ends more (refuse_code (not (eqb (length rest) 0)) Trailing >>= λ _. Ok p)
    (refuse_code (not (eqb (length (rest ++ more)) 0)) Trailing >>= λ _. Ok p)
ended p [] [] = λ some. absurd (some refl)
ended p (m ∷ more) [] = λ some. refused p (length (m ∷ more)) (omega arith)
ended p more (b ∷ rest) =
    rw (refused p (length (b ∷ rest)) (omega arith)) (λ _. refused p (length (b ∷ rest ++ more)) (omega arith))

ends_code : (bytes more : List ℕ) → Ends more (code_of bytes) (code_of (bytes ++ more))
unfolding code_of
ends_code bytes more =
    let whole : length bytes + length more ≡ length (bytes ++ more) = sym (length-append bytes more) in
    ends_bind more _ _ _ _ (subst (λ (n : ℕ). Runs more (header_at (length bytes) bytes) (header_at n (bytes ++ more)))
    whole (runs_header (length bytes) bytes more)) (λ header after_header.
    ends_bind more _ _ _ _ (subst
    (λ (n : ℕ). Runs more (program_at (length bytes) header after_header)
    (program_at n header (after_header ++ more))) whole (runs_program (length bytes) header after_header more))
    (λ program rest.
    ended program more rest))

truncated_or_other : (f : CodeFault) → (f ≡ Truncated) ⊎ (f ≢ Truncated)
truncated_or_other Truncated = inl refl
truncated_or_other _ = inr (λ e. absurd cc)

stays_by : (more : List ℕ) (r s : Result Program CodeFault) (fault : CodeFault) → Ends more r s → r ≡ Err fault
    → fault ≢ Truncated → s ≡ Err fault
stays_by more (Ok p) s fault h e other = absurd (cc)
stays_by more (Err f) s fault h e other = let same : f ≡ fault = cc in h (λ short. other (sym same ∙ short)) ∙ e

no_file : (bytes : List ℕ) (fault : CodeFault) → code_of bytes ≡ Err fault → (p : Program) → IsProgram p
    → bytes ≡ code_bytes p → ⊥
no_file bytes fault e p is spelled = let again = code_again p is in let read : code_of bytes ≡ code_of (code_bytes p) =
    ap code_of spelled in absurd (cc)

pub file_faults_stay : FileFaultsStay
file_faults_stay bytes more fault h other =
    let stays = stays_by more (code_of bytes) (code_of (bytes ++ more)) fault (ends_code bytes more) h other in
    (stays, no_file (bytes ++ more) fault stays)

cut_by : (more : List ℕ) (p : Program) (r s : Result Program CodeFault) → Ends more r s → s ≡ Ok p → more ≢ []
    → r ≡ Err Truncated
cut_by more p (Ok q) s h e some = let trailing = h some in absurd (cc)
cut_by more p (Err f) s h e some =
    elim (truncated_or_other f) [
      | inl short ↦ ap Err short
      | inr other ↦ let failed : s ≡ Err f = h other in absurd (cc)
    ]

pub cuts_are_truncated : CutsAreTruncated
cuts_are_truncated p n is less =
    let whole = code_bytes p in
    cut_by (drop n whole) p (code_of (take n whole)) (code_of (take n whole ++ drop n whole))
    (ends_code (take n whole) (drop n whole)) (ap code_of (take-append-drop n whole) ∙ code_again p is)
    (λ none. let left : length (drop n whole) ≡ 0 = ap length none in
    let both : length (take n whole ++ drop n whole) ≡ length whole = ap length (take-append-drop n whole) in
    omega (
      arith,
      less,
      left,
      both,
      length-append (take n whole) (drop n whole),
      length-take-le n whole (omega (arith, less)),
    ))

-- for a reading and one with appended bytes: the first is truncated, or has the same fault as the second, except for
-- `Trailing`
first_by : (more : List ℕ) (r s : Result Program CodeFault) (fault : CodeFault) → Ends more r s → (more ≡ [] → r ≡ s)
    → s ≡ Err fault → fault ≢ Trailing → (r ≡ Err Truncated) ⊎ (r ≡ Err fault)
first_by [] (Ok p) s fault h same e other = inr (same refl ∙ e)
first_by (m ∷ more) (Ok p) s fault h same e other =
    let trailing : s ≡ Err Trailing = h (λ none. absurd cc) in
    absurd (let it : fault ≡ Trailing = cc in other it)
first_by more (Err f) s fault h same e other =
    elim (truncated_or_other f) [
      | inl short ↦ inl (ap Err short)
      | inr long ↦ inr (sym (h long) ∙ e)
    ]

pub file_faults_are_first : FileFaultsAreFirst
file_faults_are_first bytes n fault h other =
    first_by (drop n bytes) (code_of (take n bytes)) (code_of (take n bytes ++ drop n bytes)) fault
    (ends_code (take n bytes) (drop n bytes))
    (λ none. ap code_of (sym (append-nil (take n bytes)) ∙ ap (λ (xs : List ℕ). take n bytes ++ xs) (sym none)))
    (ap code_of (take-append-drop n bytes) ∙ h) other
