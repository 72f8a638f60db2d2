-- The tokens of commands identify them.
use Rattle.plan_session.proofs.Words.{[], ◌++◌, ◌<◌, ◌∙◌, ◌∷◌, ◌≡◌, ◌≢◌, Bool, Break, Clear, Command, IsCommand}
use Rattle.plan_session.proofs.Words.{Keyword, List, Next, Run, Show, ap, arith, command_lexemes, decimal}
use Rattle.plan_session.proofs.Words.{decimal_injective, get_or, keyword_text, level_text, one_level, refl, sym, ℕ}
use Rattle.plan_session.specs.declared.command.Command.TheVariants.{Contact}
use Rattle.plan_session.specs.declared.commands.Keyword.TheVariants.{Contact as ContactWord, Run as RunWord}
use Rattle.plan_session.specs.declared.commands.Keyword.TheVariants.{Next as NextWord, Break as BreakWord}
use Rattle.plan_session.specs.declared.commands.Keyword.TheVariants.{Clear as ClearWord, Show as ShowWord}
use Rattle.plan_session.proofs.ItemTexts.{head_told}

-- the keyword of a command, and the tokens after it
abbrev pub keyword_in : Command → Keyword
keyword_in (Contact c closed) = ContactWord
keyword_in (Run n) = RunWord
keyword_in Next = NextWord
keyword_in (Break line) = BreakWord
keyword_in Clear = ClearWord
keyword_in Show = ShowWord

abbrev pub tail_words : Command → List (List ℕ)
tail_words (Contact c closed) = decimal c ∷ level_text closed ∷ []
tail_words (Run n) = decimal n ∷ []
tail_words (Break line) = decimal line ∷ []
tail_words _ = []

cons_not_empty : {T : Type 0} {x : T} {xs : List T} → x ∷ xs ≡ [] → ⊥
cons_not_empty e = absurd (cc)

split : (s : Command) (xs : List (List ℕ)) → command_lexemes s
    ++ xs ≡ keyword_text (keyword_in s) ∷ (tail_words s ++ xs)
split (Contact c closed) xs = refl
split (Run n) xs = refl
split Next xs = refl
split (Break line) xs = refl
split Clear xs = refl
split Show xs = refl

-- ---- keywords differ in their second letters

-- the second letter of a token
abbrev pub second : List ℕ → ℕ
second word = get_or word 1 0

abbrev pub number_of : Keyword → ℕ
number_of ContactWord = 111
number_of RunWord = 117
number_of NextWord = 101
number_of BreakWord = 114
number_of ClearWord = 108
number_of ShowWord = 104

seconds : (k : Keyword) → second (keyword_text k) ≡ number_of k
seconds ContactWord = refl
seconds RunWord = refl
seconds NextWord = refl
seconds BreakWord = refl
seconds ClearWord = refl
seconds ShowWord = refl

told_by : (s t : Command) (xs ys : List (List ℕ)) → command_lexemes s ++ xs ≡ command_lexemes t ++ ys
    → (number_of (keyword_in s) ≡ number_of (keyword_in t)) × (tail_words s ++ xs ≡ tail_words t ++ ys)
told_by s t xs ys e =
    let both = head_told _ _ _ _ (sym (split s xs) ∙ e ∙ split t ys) in
    (sym (seconds (keyword_in s)) ∙ ap second both.0 ∙ seconds (keyword_in t), both.1)

whole : (s : Command) → command_lexemes s ≡ keyword_text (keyword_in s) ∷ tail_words s
whole (Contact c closed) = refl
whole (Run n) = refl
whole Next = refl
whole (Break line) = refl
whole Clear = refl
whole Show = refl

-- a command that begins with a keyword
pub keyword_told : (s : Command) (k : Keyword) (more : List (List ℕ)) → command_lexemes s ≡ keyword_text k ∷ more
    → (number_of (keyword_in s) ≡ number_of k) × (tail_words s ≡ more)
keyword_told s k more e =
    let both = head_told _ _ _ _ (sym (whole s) ∙ e) in
    (sym (seconds (keyword_in s)) ∙ ap second both.0 ∙ seconds k, both.1)

-- ---- one command

same_contact : (c d : ℕ) (b e : Bool) (xs ys : List (List ℕ)) → c < 16 → d < 16
    → decimal c ∷ level_text b ∷ xs ≡ decimal d ∷ level_text e ∷ ys → (Contact c b ≡ Contact d e) × (xs ≡ ys)
same_contact c d b e xs ys h k same =
    let number = head_told _ _ _ _ same in
    let level = head_told _ _ _ _ number.1 in
    let contact : c ≡ d = decimal_injective c d (omega (arith, h)) (omega (arith, k)) number.0 in
    let closed : b ≡ e = one_level b e level.0 in
    (cc, level.1)

-- the first tokens identify the command
pub one_command : (s t : Command) (xs ys : List (List ℕ)) → IsCommand s → IsCommand t → command_lexemes s
    ++ xs ≡ command_lexemes t ++ ys → (s ≡ t) × (xs ≡ ys)
one_command (Contact c b) (Contact d e) xs ys h k same =
    same_contact c d b e xs ys h k (told_by (Contact c b) (Contact d e) xs ys same).1
one_command (Contact c b) (Run n) xs ys h k same = absurd (omega (arith, (told_by (Contact c b) (Run n) xs ys same).0))
one_command (Contact c b) Next xs ys h k same = absurd (omega (arith, (told_by (Contact c b) Next xs ys same).0))
one_command (Contact c b) (Break n) xs ys h k same =
    absurd (omega (arith, (told_by (Contact c b) (Break n) xs ys same).0))
one_command (Contact c b) Clear xs ys h k same = absurd (omega (arith, (told_by (Contact c b) Clear xs ys same).0))
one_command (Contact c b) Show xs ys h k same = absurd (omega (arith, (told_by (Contact c b) Show xs ys same).0))
one_command (Run m) (Contact d e) xs ys h k same = absurd (omega (arith, (told_by (Run m) (Contact d e) xs ys same).0))
one_command (Run m) (Run n) xs ys h k same =
    let number = head_told _ _ _ _ (told_by (Run m) (Run n) xs ys same).1 in
    let count : m ≡ n = decimal_injective m n (omega (arith, h.1)) (omega (arith, k.1)) number.0 in
    (cc, number.1)
one_command (Run m) Next xs ys h k same = absurd (omega (arith, (told_by (Run m) Next xs ys same).0))
one_command (Run m) (Break n) xs ys h k same = absurd (omega (arith, (told_by (Run m) (Break n) xs ys same).0))
one_command (Run m) Clear xs ys h k same = absurd (omega (arith, (told_by (Run m) Clear xs ys same).0))
one_command (Run m) Show xs ys h k same = absurd (omega (arith, (told_by (Run m) Show xs ys same).0))
one_command Next (Contact d e) xs ys h k same = absurd (omega (arith, (told_by Next (Contact d e) xs ys same).0))
one_command Next (Run n) xs ys h k same = absurd (omega (arith, (told_by Next (Run n) xs ys same).0))
one_command Next Next xs ys h k same = (refl, (told_by Next Next xs ys same).1)
one_command Next (Break n) xs ys h k same = absurd (omega (arith, (told_by Next (Break n) xs ys same).0))
one_command Next Clear xs ys h k same = absurd (omega (arith, (told_by Next Clear xs ys same).0))
one_command Next Show xs ys h k same = absurd (omega (arith, (told_by Next Show xs ys same).0))
one_command (Break m) (Contact d e) xs ys h k same =
    absurd (omega (arith, (told_by (Break m) (Contact d e) xs ys same).0))
one_command (Break m) (Run n) xs ys h k same = absurd (omega (arith, (told_by (Break m) (Run n) xs ys same).0))
one_command (Break m) Next xs ys h k same = absurd (omega (arith, (told_by (Break m) Next xs ys same).0))
one_command (Break m) (Break n) xs ys h k same =
    let number = head_told _ _ _ _ (told_by (Break m) (Break n) xs ys same).1 in
    let count : m ≡ n = decimal_injective m n (omega (arith, h.1)) (omega (arith, k.1)) number.0 in
    (cc, number.1)
one_command (Break m) Clear xs ys h k same = absurd (omega (arith, (told_by (Break m) Clear xs ys same).0))
one_command (Break m) Show xs ys h k same = absurd (omega (arith, (told_by (Break m) Show xs ys same).0))
one_command Clear (Contact d e) xs ys h k same = absurd (omega (arith, (told_by Clear (Contact d e) xs ys same).0))
one_command Clear (Run n) xs ys h k same = absurd (omega (arith, (told_by Clear (Run n) xs ys same).0))
one_command Clear Next xs ys h k same = absurd (omega (arith, (told_by Clear Next xs ys same).0))
one_command Clear (Break n) xs ys h k same = absurd (omega (arith, (told_by Clear (Break n) xs ys same).0))
one_command Clear Clear xs ys h k same = (refl, (told_by Clear Clear xs ys same).1)
one_command Clear Show xs ys h k same = absurd (omega (arith, (told_by Clear Show xs ys same).0))
one_command Show (Contact d e) xs ys h k same = absurd (omega (arith, (told_by Show (Contact d e) xs ys same).0))
one_command Show (Run n) xs ys h k same = absurd (omega (arith, (told_by Show (Run n) xs ys same).0))
one_command Show Next xs ys h k same = absurd (omega (arith, (told_by Show Next xs ys same).0))
one_command Show (Break n) xs ys h k same = absurd (omega (arith, (told_by Show (Break n) xs ys same).0))
one_command Show Clear xs ys h k same = absurd (omega (arith, (told_by Show Clear xs ys same).0))
one_command Show Show xs ys h k same = (refl, (told_by Show Show xs ys same).1)

-- a command has tokens
pub some_words : (s : Command) (xs : List (List ℕ)) → command_lexemes s ++ xs ≢ []
some_words s xs e = absurd (cons_not_empty (sym (split s xs) ∙ e))

-- no command comes first where the first token begins none
pub no_command : (lexemes : List (List ℕ)) (word : List ℕ) (left : List (List ℕ)) → lexemes ≡ word ∷ left
    → ((k : Keyword) → word ≢ keyword_text k) → (s : Command) (rest : List (List ℕ)) → lexemes ≡ command_lexemes s
    ++ rest → ⊥
no_command lexemes word left front other s rest e =
    other (keyword_in s) (head_told _ _ _ _ (sym front ∙ e ∙ split s rest)).0
