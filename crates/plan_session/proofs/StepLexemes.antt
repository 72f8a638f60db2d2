-- The tokens of steps identify them.
use Rattle.plan_session.proofs.Words.{[], ◌++◌, ◌∙◌, ◌∷◌, ◌≡◌, ◌≢◌, Bool, Contact, Frames, IsStep, List, Step, ap}
use Rattle.plan_session.proofs.Words.{arith, decimal_injective, false, first_lexeme, length, one_level, step_lexemes}
use Rattle.plan_session.proofs.Words.{sym, true, ℕ}
use Rattle.plan_session.proofs.ItemTexts.{head_told}

-- the first tokens identify the step
pub one_step : (s t : Step) (xs ys : List (List ℕ)) → IsStep s → IsStep t → step_lexemes s ++ xs ≡ step_lexemes t ++ ys
    → (s ≡ t) × (xs ≡ ys)
one_step (Contact c b) (Contact d e) xs ys h k same =
    let number = head_told _ _ _ _ (head_told _ _ _ _ same).1 in
    let level = head_told _ _ _ _ number.1 in
    let contact : c ≡ d = decimal_injective c d (omega (arith, h)) (omega (arith, k)) number.0 in
    let closed : b ≡ e = one_level b e level.0 in
    (cc, level.1)
one_step (Contact c b) (Frames n) xs ys h k same =
    let first = head_told _ _ _ _ same in
    absurd (omega (arith, ap length first.0))
one_step (Frames m) (Contact d e) xs ys h k same =
    let first = head_told _ _ _ _ same in
    absurd (omega (arith, ap length first.0))
one_step (Frames m) (Frames n) xs ys h k same =
    let first = head_told _ _ _ _ same in
    let number = head_told _ _ _ _ first.1 in
    let count : m ≡ n = decimal_injective m n (omega (arith, h.1)) (omega (arith, k.1)) number.0 in
    (cc, number.1)

-- a step has tokens
pub some_words : (s : Step) (xs : List (List ℕ)) → step_lexemes s ++ xs ≢ []
some_words (Contact c b) xs e = absurd (cc)
some_words (Frames n) xs e = absurd (cc)

-- no step comes first where the first token begins none
pub no_step : (lexemes : List (List ℕ)) (word : List ℕ) (left : List (List ℕ)) → lexemes ≡ word ∷ left
    → ((frames : Bool) → word ≢ first_lexeme frames) → (s : Step) (rest : List (List ℕ)) → lexemes ≡ step_lexemes s
    ++ rest → ⊥
no_step lexemes word left front other (Contact c b) rest e = other false (head_told _ _ _ _ (sym front ∙ e)).0
no_step lexemes word left front other (Frames n) rest e = other true (head_told _ _ _ _ (sym front ∙ e)).0
