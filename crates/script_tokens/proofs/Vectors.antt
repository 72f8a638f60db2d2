-- Short texts that have tokens, and some that have none.
use Rattle.script_tokens.proofs.Words.{[], ◌∷◌, ◌≡◌, AreTokens, Byte, FindsNext, List, None, Ok, Place, Scan, Some}
use Rattle.script_tokens.proofs.Words.{Token, arith, decimal, first_item, first_position, first_statement, number_at}
use Rattle.script_tokens.proofs.Words.{refl, script_limits, token_at, tokens_left}
use Rattle.script_tokens.specs.Lexing.{lexed}
use Rattle.std.specs.Prelude.{codes}
use Rattle.script_tokens.specs.Keywords.{the as the_token, text as bare, letters, word_of}
use Rattle.script_tokens.specs.Taking.{name_next}
use Rattle.script_tokens.specs.declared.keyword.Keyword.TheVariants as the
use Rattle.script_tokens.specs.declared.first_keyword.ItemKeyword.TheVariants as item
use Rattle.script_tokens.specs.declared.first_keyword.StatementKeyword.TheVariants as statement
use Rattle.script_tokens.proofs.Pieces.{cut_into, not_cut}
use Rattle.script_tokens.proofs.FirstKeywords.{statement_found, item_found}
use Rattle.script_tokens.proofs.Taking.{number_law, number_out}

-- `ab` is one atom
one_atom : AreTokens (97 ∷ 98 ∷ []) (token_at first_position 2 ∷ [])
unfolding lexed
one_atom = (omega arith, cut_into script_limits (97 ∷ 98 ∷ []) (token_at first_position 2 ∷ []) refl)

-- `@` has no tokens
no_tokens : (ts : List Token) → AreTokens (64 ∷ []) ts → ⊥
unfolding lexed
no_tokens ts h = not_cut script_limits (64 ∷ []) (Byte first_position.position) refl ts h.1

-- ---- one token after another

-- the place before `b` in `a b`
after_a : Place
after_a = record { at = 1; position = record { line = 1; column = 2 } }

a_and_b : Place → Scan
a_and_b place = record { text = 97 ∷ 32 ∷ 98 ∷ []; limits = script_limits; place = place }

-- the first token of `a b` is `a`, and `b` is left
a_first : FindsNext (a_and_b first_position) (a_and_b after_a) (Ok (Some (token_at first_position 1)))
unfolding lexed after_a a_and_b
a_first = (refl, omega arith, omega arith, omega arith)

-- and not the end of the text
not_the_end : (new : Scan) → FindsNext (a_and_b first_position) new (Ok None) → ⊥
unfolding lexed a_and_b
not_the_end new f =
    let some : tokens_left (a_and_b first_position) ≡ Ok [] = f.0 in
    absurd cc

-- 15 is a contact, and 16 is none
a_contact : number_at 0 15 (decimal 15 ∷ []) ≡ Some (15, [])
a_contact = (number_law 0 15 (omega arith)).found 15 [] (omega arith, omega arith)

no_contact : number_at 0 15 (decimal 16 ∷ []) ≡ None
no_contact = number_out 0 15 16 (decimal 16) (decimal 16 ∷ []) (record { rest = []; begins = refl }) refl (omega arith)
    (λ low. omega arith)

-- `if` begins a statement, and `else` none; `sub` begins an item, and `drop` none
a_statement : first_statement (letters the.If ∷ []) ≡ Some statement.If
a_statement = statement_found the.If []

no_statement : first_statement (letters the.Else ∷ []) ≡ None
no_statement = statement_found the.Else []

an_item : first_item (letters the.Sub ∷ []) ≡ Some item.Sub
an_item = item_found the.Sub []

no_item : first_item (letters the.Drop ∷ []) ≡ None
no_item = item_found the.Drop []

-- `schedule`, `overlay`, `while` and `and` are keywords, and begin no statement
the_schedule : word_of (codes "schedule") ≡ the_token the.Schedule
unfolding letters word_of
the_schedule = refl

an_overlay : word_of (codes "overlay") ≡ the_token the.Overlay
unfolding letters word_of
an_overlay = refl

a_while : word_of (codes "while") ≡ the_token the.While
unfolding letters word_of
a_while = refl

an_and : word_of (codes "and") ≡ the_token the.And
unfolding letters word_of
an_and = refl

no_plural : word_of (codes "overlays") ≡ bare (codes "overlays")
unfolding letters word_of
no_plural = refl

no_overlay : first_statement (letters the.Overlay ∷ []) ≡ None
no_overlay = statement_found the.Overlay []

no_name_and : name_next (letters the.And ∷ []) ≡ None
unfolding name_next letters word_of
no_name_and = refl

-- a keyword is no name, `a` is one
no_name : name_next (letters the.Sub ∷ []) ≡ None
unfolding name_next letters word_of
no_name = refl

a_name : name_next ((97 ∷ []) ∷ []) ≡ Some (97 ∷ [], [])
unfolding name_next letters word_of
a_name = refl
