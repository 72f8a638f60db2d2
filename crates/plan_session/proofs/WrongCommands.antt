-- Where a command can't be read.
use Rattle.plan_session.proofs.Words.{[], ◌<◌, ◌∙◌, ◌∷◌, ◌≡◌, ◌≢◌, ◌≤◌, Bool, Break, Clear, Command, FRAMES_A_DAY}
use Rattle.plan_session.proofs.Words.{IsCommand, IsDigits, IsNoChange, IsNoNumber, IsWrongItem, Keyword, List, Next}
use Rattle.plan_session.proofs.Words.{Run, Show, Wrong, all_ascii_digits, ap, arith, codes, command_lexemes, decimal}
use Rattle.plan_session.proofs.Words.{false, inl, inr, keyword_text, level_text, refl, sym, true, ℕ}
use Rattle.plan_session.specs.declared.command.Command.TheVariants.{Contact}
use Rattle.plan_session.specs.declared.commands.Keyword.TheVariants.{Contact as ContactWord, Run as RunWord}
use Rattle.plan_session.specs.declared.commands.Keyword.TheVariants.{Next as NextWord, Break as BreakWord}
use Rattle.plan_session.specs.declared.commands.Keyword.TheVariants.{Clear as ClearWord, Show as ShowWord}
use Rattle.plan_session.proofs.CommandLexemes.{keyword_told}
use Rattle.plan_session.proofs.ItemTexts.{head_told}
use Rattle.plan_session.proofs.WrongItems.{none_first, other_first, number_wrong, level_wrong}

-- ---- the tokens of commands

run_number : (t : Command) (w : List ℕ) (m : List (List ℕ)) → IsCommand t → command_lexemes t ≡ codes "run" ∷ w ∷ m
    → (k : ℕ) × (1 ≤ k) × (k ≤ FRAMES_A_DAY) × (w ≡ decimal k)
run_number (Contact c closed) w m is e = absurd (omega (arith, (keyword_told (Contact c closed) RunWord (w ∷ m) e).0))
run_number (Run n) w m is e = (n, is.0, is.1, sym (head_told _ _ _ _ (head_told _ _ _ _ e).1).0)
run_number Next w m is e = absurd (omega (arith, (keyword_told Next RunWord (w ∷ m) e).0))
run_number (Break n) w m is e = absurd (omega (arith, (keyword_told (Break n) RunWord (w ∷ m) e).0))
run_number Clear w m is e = absurd (omega (arith, (keyword_told Clear RunWord (w ∷ m) e).0))
run_number Show w m is e = absurd (omega (arith, (keyword_told Show RunWord (w ∷ m) e).0))

break_number : (t : Command) (w : List ℕ) (m : List (List ℕ)) → IsCommand t → command_lexemes t ≡ codes "break" ∷ w ∷ m
    → (k : ℕ) × (1 ≤ k) × (k ≤ 65535) × (w ≡ decimal k)
break_number (Contact c closed) w m is e =
    absurd (omega (arith, (keyword_told (Contact c closed) BreakWord (w ∷ m) e).0))
break_number (Run n) w m is e = absurd (omega (arith, (keyword_told (Run n) BreakWord (w ∷ m) e).0))
break_number Next w m is e = absurd (omega (arith, (keyword_told Next BreakWord (w ∷ m) e).0))
break_number (Break n) w m is e = (n, is.0, is.1, sym (head_told _ _ _ _ (head_told _ _ _ _ e).1).0)
break_number Clear w m is e = absurd (omega (arith, (keyword_told Clear BreakWord (w ∷ m) e).0))
break_number Show w m is e = absurd (omega (arith, (keyword_told Show BreakWord (w ∷ m) e).0))

-- the contact and the level after `contact`
contact_words : (t : Command) (m : List (List ℕ)) → IsCommand t → command_lexemes t ≡ codes "contact" ∷ m → (c : ℕ)
    × (closed : Bool) × (c < 16) × (m ≡ decimal c ∷ level_text closed ∷ [])
contact_words (Contact c closed) m is e = (c, closed, is, sym (head_told _ _ _ _ e).1)
contact_words (Run n) m is e = absurd (omega (arith, (keyword_told (Run n) ContactWord m e).0))
contact_words Next m is e = absurd (omega (arith, (keyword_told Next ContactWord m e).0))
contact_words (Break n) m is e = absurd (omega (arith, (keyword_told (Break n) ContactWord m e).0))
contact_words Clear m is e = absurd (omega (arith, (keyword_told Clear ContactWord m e).0))
contact_words Show m is e = absurd (omega (arith, (keyword_told Show ContactWord m e).0))

contact_number : (t : Command) (w : List ℕ) (m : List (List ℕ)) → IsCommand t
    → command_lexemes t ≡ codes "contact" ∷ w ∷ m → (k : ℕ) × (0 ≤ k) × (k ≤ 15) × (w ≡ decimal k)
contact_number t w m is e =
    let c = contact_words t (w ∷ m) is e in
    (c.0, omega arith, omega arith, (head_told _ _ _ _ c.3).0)

level_by : (t : Command) (d w : List ℕ) (m : List (List ℕ)) → command_lexemes t ≡ codes "contact" ∷ d ∷ w ∷ m
    → (closed : Bool) × (w ≡ level_text closed)
level_by (Contact c closed) d w m e = let number = head_told _ _ _ _ (head_told _ _ _ _ e).1 in
    (closed, sym (head_told _ _ _ _ number.1).0)
level_by (Run n) d w m e = absurd (omega (arith, (keyword_told (Run n) ContactWord (d ∷ w ∷ m) e).0))
level_by Next d w m e = absurd (omega (arith, (keyword_told Next ContactWord (d ∷ w ∷ m) e).0))
level_by (Break n) d w m e = absurd (omega (arith, (keyword_told (Break n) ContactWord (d ∷ w ∷ m) e).0))
level_by Clear d w m e = absurd (omega (arith, (keyword_told Clear ContactWord (d ∷ w ∷ m) e).0))
level_by Show d w m e = absurd (omega (arith, (keyword_told Show ContactWord (d ∷ w ∷ m) e).0))

no_digits : (t : Command) (d : List ℕ) (others : List (List ℕ)) → IsDigits d → command_lexemes t ≢ d ∷ others
no_digits (Contact c closed) d others h e = let none : false ≡ true =
    ap all_ascii_digits (head_told _ _ _ _ e).0 ∙ h.digits in absurd cc
no_digits _ d others h e = let none : false ≡ true = ap all_ascii_digits (head_told _ _ _ _ e).0 ∙ h.digits in
    absurd cc

no_other : (word : List ℕ) → ((k : Keyword) → word ≢ keyword_text k) → (t : Command) (others : List (List ℕ))
    → command_lexemes t ≢ word ∷ others
no_other word other (Contact c closed) others e = other ContactWord (sym (head_told _ _ _ _ e).0)
no_other word other (Run n) others e = other RunWord (sym (head_told _ _ _ _ e).0)
no_other word other Next others e = other NextWord (sym (head_told _ _ _ _ e).0)
no_other word other (Break n) others e = other BreakWord (sym (head_told _ _ _ _ e).0)
no_other word other Clear others e = other ClearWord (sym (head_told _ _ _ _ e).0)
no_other word other Show others e = other ShowWord (sym (head_told _ _ _ _ e).0)

-- ---- faults

pub no_command_left : (words : List (List ℕ)) (wrong : Wrong) → words ≡ [] → wrong.index ≡ 0 → wrong.is_number ≡ false
    → IsWrongItem command_lexemes IsCommand words wrong
no_command_left words wrong none index name = none_first _ _ Show _ [] words wrong tt refl none index name

pub no_command_begins : (words : List (List ℕ)) (word : List ℕ) (rest : List (List ℕ)) (wrong : Wrong)
    → words ≡ word ∷ rest → ((k : Keyword) → word ≢ keyword_text k) → wrong.index ≡ 0 → wrong.is_number ≡ false
    → IsWrongItem command_lexemes IsCommand words wrong
no_command_begins words word rest wrong cut other index name =
    other_first _ _ Show _ word [] rest words wrong tt refl cut (no_other word other) no_digits index name

pub no_run : (words : List (List ℕ)) (wrong : Wrong) → IsNoNumber 1 FRAMES_A_DAY words wrong
    → IsWrongItem command_lexemes IsCommand (keyword_text RunWord ∷ words) wrong
no_run words wrong h = number_wrong command_lexemes IsCommand (codes "run") 1 FRAMES_A_DAY 1 (Run 1) []
    (omega arith, omega arith) refl (omega arith) (omega arith) run_number words wrong h

pub no_break : (words : List (List ℕ)) (wrong : Wrong) → IsNoNumber 1 65535 words wrong
    → IsWrongItem command_lexemes IsCommand (keyword_text BreakWord ∷ words) wrong
no_break words wrong h = number_wrong command_lexemes IsCommand (codes "break") 1 65535 1 (Break 1) []
    (omega arith, omega arith) refl (omega arith) (omega arith) break_number words wrong h

pub no_contact : (words : List (List ℕ)) (wrong : Wrong) → IsNoChange words wrong
    → IsWrongItem command_lexemes IsCommand (keyword_text ContactWord ∷ words) wrong
no_contact words wrong (inl h) =
    number_wrong command_lexemes IsCommand (codes "contact") 0 15 1 (Contact 1 true) (level_text true ∷ [])
    (omega arith) refl (omega arith) (omega arith) contact_number words wrong h
no_contact words wrong (inr h) =
    level_wrong _ _ (codes "contact") (λ c. Contact c true) (λ c low. low) (λ c. refl) level_by words wrong h
