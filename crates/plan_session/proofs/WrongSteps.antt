-- Where a step can't be read.
use Rattle.plan_session.proofs.Words.{[], ◌∙◌, ◌∷◌, ◌≡◌, ◌≢◌, ◌≤◌, Bool, Contact, FRAMES_A_DAY, Frames, IsDigits}
use Rattle.plan_session.proofs.Words.{IsNoChange, IsNoNumber, IsStep, IsWrongItem, List, Step, Wrong, all_ascii_digits}
use Rattle.plan_session.proofs.Words.{ap, arith, codes, decimal, false, first_lexeme, inl, inr, length, level_text}
use Rattle.plan_session.proofs.Words.{refl, step_lexemes, sym, true, ℕ}
use Rattle.plan_session.proofs.ItemTexts.{head_told}
use Rattle.plan_session.proofs.WrongItems.{none_first, other_first, number_wrong, level_wrong}

-- ---- the tokens of steps

frames_number : (t : Step) (w : List ℕ) (m : List (List ℕ)) → IsStep t → step_lexemes t ≡ codes "frames" ∷ w ∷ m
    → (k : ℕ) × (1 ≤ k) × (k ≤ FRAMES_A_DAY) × (w ≡ decimal k)
frames_number (Contact c closed) w m is e = let lengths : 7 ≡ 6 = ap length (head_told _ _ _ _ e).0 in
    absurd (omega (arith, lengths))
frames_number (Frames n) w m is e = let number = head_told _ _ _ _ (head_told _ _ _ _ e).1 in
    (n, is.0, is.1, sym number.0)

contact_number : (t : Step) (w : List ℕ) (m : List (List ℕ)) → IsStep t → step_lexemes t ≡ codes "contact" ∷ w ∷ m
    → (k : ℕ) × (0 ≤ k) × (k ≤ 15) × (w ≡ decimal k)
contact_number (Contact c closed) w m is e = let number = head_told _ _ _ _ (head_told _ _ _ _ e).1 in
    (c, omega arith, omega (arith, is), sym number.0)
contact_number (Frames n) w m is e = let lengths : 6 ≡ 7 = ap length (head_told _ _ _ _ e).0 in
    absurd (omega (arith, lengths))

contact_level : (t : Step) (d w : List ℕ) (m : List (List ℕ)) → step_lexemes t ≡ codes "contact" ∷ d ∷ w ∷ m
    → (closed : Bool) × (w ≡ level_text closed)
contact_level (Contact c closed) d w m e = let number = head_told _ _ _ _ (head_told _ _ _ _ e).1 in
    (closed, sym (head_told _ _ _ _ number.1).0)
contact_level (Frames n) d w m e = let lengths : 6 ≡ 7 = ap length (head_told _ _ _ _ e).0 in
    absurd (omega (arith, lengths))

no_digits : (t : Step) (d : List ℕ) (others : List (List ℕ)) → IsDigits d → step_lexemes t ≢ d ∷ others
no_digits (Contact c closed) d others h e = let none : false ≡ true =
    ap all_ascii_digits (head_told _ _ _ _ e).0 ∙ h.digits in absurd cc
no_digits (Frames n) d others h e = let none : false ≡ true = ap all_ascii_digits (head_told _ _ _ _ e).0 ∙ h.digits in
    absurd cc

no_other : (word : List ℕ) → ((frames : Bool) → word ≢ first_lexeme frames) → (t : Step) (others : List (List ℕ))
    → step_lexemes t ≢ word ∷ others
no_other word other (Contact c closed) others e = other false (sym (head_told _ _ _ _ e).0)
no_other word other (Frames n) others e = other true (sym (head_told _ _ _ _ e).0)

-- ---- faults

one_frame : IsStep (Frames 1)
one_frame = (omega arith, omega arith)

pub no_step_left : (words : List (List ℕ)) (wrong : Wrong) → words ≡ [] → wrong.index ≡ 0 → wrong.is_number ≡ false
    → IsWrongItem step_lexemes IsStep words wrong
no_step_left words wrong none index name =
    none_first step_lexemes IsStep (Frames 1) (codes "frames") (decimal 1 ∷ []) words wrong one_frame refl none index
    name

pub no_step_begins : (words : List (List ℕ)) (word : List ℕ) (rest : List (List ℕ)) (wrong : Wrong)
    → words ≡ word ∷ rest → ((frames : Bool) → word ≢ first_lexeme frames) → wrong.index ≡ 0 → wrong.is_number ≡ false
    → IsWrongItem step_lexemes IsStep words wrong
no_step_begins words word rest wrong cut other index name =
    other_first step_lexemes IsStep (Frames 1) (codes "frames") word (decimal 1 ∷ []) rest words wrong one_frame refl
    cut (no_other word other) no_digits index name

pub no_frames : (frames : Bool) → frames ≡ true → (words : List (List ℕ)) (wrong : Wrong)
    → IsNoNumber 1 FRAMES_A_DAY words wrong → IsWrongItem step_lexemes IsStep (first_lexeme frames ∷ words) wrong
no_frames true e words wrong h =
    number_wrong step_lexemes IsStep (codes "frames") 1 FRAMES_A_DAY 1 (Frames 1) [] one_frame refl (omega arith)
    (omega arith) frames_number words wrong h
no_frames false e words wrong h = absurd cc

pub no_contact : (frames : Bool) → frames ≡ false → (words : List (List ℕ)) (wrong : Wrong) → IsNoChange words wrong
    → IsWrongItem step_lexemes IsStep (first_lexeme frames ∷ words) wrong
no_contact true e words wrong h = absurd cc
no_contact false e words wrong (inl h) =
    number_wrong step_lexemes IsStep (codes "contact") 0 15 1 (Contact 1 true) (level_text true ∷ []) (omega arith) refl
    (omega arith) (omega arith) contact_number words wrong h
no_contact false e words wrong (inr h) =
    level_wrong step_lexemes IsStep (codes "contact") (λ c. Contact c true) (λ c low. low) (λ c. refl) contact_level
    words wrong h
