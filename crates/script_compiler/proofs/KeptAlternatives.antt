-- The sets of contacts of a wait are those of its alternatives.
use Rattle.script_compiler.proofs.Words.{[], ◌&&◌, ◌<◌, ◌==◌, ◌||◌, ◌∙◌, ◌∷◌, ◌≡◌, ◌≢◌, AllByRecursion, Alternative}
use Rattle.script_compiler.proofs.Words.{AlternativesAreKept, Bool, Contacts, List, ap, arith, contacts_change_alone}
use Rattle.script_compiler.proofs.Words.{false, is_for, is_in, is_level, list_any, nat_tests, no_contacts, refl, subst}
use Rattle.script_compiler.proofs.Words.{sym, true, with_alternative, with_alternatives, with_contact, with_level, ℕ}
use Rattle.std.proofs.Math.Bool.{or-false, or_assoc}
use Rattle.std.proofs.lemmas.Nat.Bits.{bit_at-zero}
use Rattle.script_front.specs.declared.alternatives.Alternative.TheVariants.{Contact}
use Rattle.script_front.specs.Waits.{IsAlternative}

any_or_true : (b : Bool) → (b || true) ≡ true
any_or_true true = refl
any_or_true false = refl

-- a set with one more contact
joined : (set : Contacts) (c d : ℕ) → c < 16 → d < 16 → is_in (with_contact c true set) d ≡ (is_in set d || (c == d))
joined set c d low small = chosen (c == d) refl
  where
    chosen : (b : Bool) → (c == d) ≡ b → is_in (with_contact c true set) d ≡ (is_in set d || b)
    chosen true e = let same : c ≡ d = grind (arith, nat_tests, e) in
        subst (λ n. is_in (with_contact c true set) n ≡ (is_in set n || true)) same
        ((contacts_change_alone set c true low).0 ∙ sym (any_or_true (is_in set c)))
    chosen false e = let other : d ≢ c = λ same. grind (arith, nat_tests, e, same) in
        (contacts_change_alone set c true low).1 d small other ∙ sym (or-false (is_in set d))

and_true_is : (b : Bool) → (b && true) ≡ b
and_true_is true = refl
and_true_is false = refl

and_false_is : (b : Bool) → (b && false) ≡ false
and_false_is true = refl
and_false_is false = refl

levelled : (closed level : Bool) (set : Contacts) (c d : ℕ) → c < 16 → d < 16
    → is_in (with_level closed level c set) d ≡ (is_in set d || ((c == d) && is_level closed level))
levelled true true set c d low small = joined set c d low small
    ∙ ap (λ b. is_in set d || b) (sym (and_true_is (c == d)))
levelled false false set c d low small = joined set c d low small
    ∙ ap (λ b. is_in set d || b) (sym (and_true_is (c == d)))
levelled true false set c d low small =
    sym (ap (λ b. is_in set d || b) (and_false_is (c == d)) ∙ or-false (is_in set d))
levelled false true set c d low small =
    sym (ap (λ b. is_in set d || b) (and_false_is (c == d)) ∙ or-false (is_in set d))

one_kept : (a : Alternative) (set : Contacts) (d : ℕ) (closed : Bool) → IsAlternative a → d < 16
    → is_in (with_alternative closed a set) d ≡ (is_in set d || is_for d closed a)
one_kept (Contact c level) set d closed is small = levelled closed level set c d is small
one_kept _ set d closed is small = sym (or-false (is_in set d))

kept_with : (all : List Alternative) (set : Contacts) (d : ℕ) (closed : Bool) → AllByRecursion IsAlternative all
    → d < 16 → is_in (with_alternatives closed all set) d ≡ (is_in set d || list_any (is_for d closed) all)
kept_with [] set d closed are small = sym (or-false (is_in set d))
kept_with (a ∷ others) set d closed are small =
    kept_with others (with_alternative closed a set) d closed are.1 small
    ∙ ap (λ b. b || list_any (is_for d closed) others) (one_kept a set d closed are.0 small)
    ∙ or_assoc (is_in set d) (is_for d closed a) (list_any (is_for d closed) others)

none_in : (d : ℕ) → d < 16 → is_in no_contacts d ≡ false
none_in d small = ap (λ n. n == 1) (bit_at-zero d)

pub alternatives_are_kept : AlternativesAreKept
alternatives_are_kept all contact closed are small = kept_with all no_contacts contact closed are small
    ∙ ap (λ b. b || list_any (is_for contact closed) all) (none_in contact small)
