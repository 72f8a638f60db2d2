-- A scan of bytes up to the end of the first token.
use Rattle.script_tokens.proofs.Words.{[], ◌+◌, ◌<◌, ◌∙◌, ◌∷◌, ◌≡◌, ◌≤◌, ◌⊎◌, Atom, Bad, Blank, Brace, Byte, Comment}
use Rattle.script_tokens.proofs.Words.{Err, FindsFirst, Fits, Hash, Inside, Kind, Letter, Limits, LineEnd, List, None}
use Rattle.script_tokens.proofs.Words.{Nothing, Ok, Option, Place, Result, ScriptFault, Some, Token, ap, arith, drop}
use Rattle.script_tokens.proofs.Words.{drop_all, false, get_or, inl, inr, inside_after, is_bad, kind_of, length, made}
use Rattle.script_tokens.proofs.Words.{position_after, refl, role_of, subst, sym, token_at, tokens_before, ℕ}
use Rattle.script_tokens.specs.declared.scanner.Role.TheVariants.{Passed, Ends, Brace as IsBrace, Bad as IsBad}
use Rattle.script_tokens.specs.Lexing.{lexed}
use Rattle.script_tokens.proofs.Lexing.{Cuts, cut_at}

-- the atom that is looked for begins before the place
abbrev pub IsOpen : ℕ → Inside → Place → Type 0
IsOpen from (Atom q) p = (from ≤ q.at) × (q.at < p.at)
IsOpen from _ p = from ≤ p.at

quiet : (m : Inside) (p : Place) (k : Kind) → role_of m k ≡ Passed → (made m p k ≡ []) × (is_bad m k ≡ false)
quiet Comment p Blank e = (refl, refl)
quiet Comment p LineEnd e = (refl, refl)
quiet Comment p Hash e = (refl, refl)
quiet Comment p Brace e = (refl, refl)
quiet Comment p Letter e = (refl, refl)
quiet Comment p Bad e = (refl, refl)
quiet Nothing p Blank e = (refl, refl)
quiet Nothing p LineEnd e = (refl, refl)
quiet Nothing p Hash e = (refl, refl)
quiet Nothing p Brace e = absurd cc
quiet Nothing p Letter e = (refl, refl)
quiet Nothing p Bad e = absurd cc
quiet (Atom q) p Blank e = absurd cc
quiet (Atom q) p LineEnd e = absurd cc
quiet (Atom q) p Hash e = absurd cc
quiet (Atom q) p Brace e = absurd cc
quiet (Atom q) p Letter e = (refl, refl)
quiet (Atom q) p Bad e = absurd cc

-- a byte that is passed
passed : (limits : Limits) (m : Inside) (p : Place) (b : ℕ) (bs : List ℕ) (k : Kind) → k ≡ kind_of b
    → role_of m k ≡ Passed
    → lexed limits m p (b ∷ bs) ≡ lexed limits (inside_after m p k) (position_after p k) bs
unfolding lexed
passed limits m p b bs k is role = let q = quiet m p k role in rw (← is, q.0, q.1) refl

-- after one more byte
pub passed_on : (limits : Limits) (all : Cuts) (m n : Inside) (p q : Place) (text : List ℕ) (k : Kind)
    → p.at < length text → k ≡ kind_of (get_or text p.at 0) → role_of m k ≡ Passed
    → n ≡ inside_after m p k → q ≡ position_after p k → q.at ≡ p.at + 1 → all ≡ lexed limits m p (drop p.at text)
    → all ≡ lexed limits n q (drop q.at text)
passed_on limits all m n p q text k lt is role inside place next h =
    h ∙ ap (lexed limits m p) (cut_at text p.at lt) ∙ passed limits m p (get_or text p.at 0) (drop (p.at + 1) text) k is
    role
    ∙ ap (λ (j : ℕ). lexed limits (inside_after m p k) (position_after p k) (drop j text)) (sym next)
    ∙ ap (λ (r : Place). lexed limits (inside_after m p k) r (drop q.at text)) (sym place)
    ∙ ap (λ (i : Inside). lexed limits i q (drop q.at text)) (sym inside)

pub stays_open : (from : ℕ) (m n : Inside) (p q : Place) (k : Kind) → role_of m k ≡ Passed → n ≡ inside_after m p k
    → q.at ≡ p.at + 1 → IsOpen from m p → IsOpen from n q
stays_open from m n p q k role inside next h =
    subst (λ (i : Inside). IsOpen from i q) (sym inside) (open_after from m p q k role next h)
  where
    open_after : (from : ℕ) (m : Inside) (p q : Place) (k : Kind) → role_of m k ≡ Passed → q.at ≡ p.at + 1
        → IsOpen from m p → IsOpen from (inside_after m p k) q
    open_after from Comment p q Blank role next h = omega (arith, next, h)
    open_after from Comment p q LineEnd role next h = omega (arith, next, h)
    open_after from Comment p q Hash role next h = omega (arith, next, h)
    open_after from Comment p q Brace role next h = omega (arith, next, h)
    open_after from Comment p q Letter role next h = omega (arith, next, h)
    open_after from Comment p q Bad role next h = omega (arith, next, h)
    open_after from Nothing p q Blank role next h = omega (arith, next, h)
    open_after from Nothing p q LineEnd role next h = omega (arith, next, h)
    open_after from Nothing p q Hash role next h = omega (arith, next, h)
    open_after from Nothing p q Brace role next h = absurd cc
    open_after from Nothing p q Letter role next h = (h, omega (arith, next))
    open_after from Nothing p q Bad role next h = absurd cc
    open_after from (Atom r) p q Blank role next h = absurd cc
    open_after from (Atom r) p q LineEnd role next h = absurd cc
    open_after from (Atom r) p q Hash role next h = absurd cc
    open_after from (Atom r) p q Brace role next h = absurd cc
    open_after from (Atom r) p q Letter role next h = (h.0, omega (arith, next, h.1))
    open_after from (Atom r) p q Bad role next h = absurd cc

-- ---- the first token

-- the token is found, or is past a limit
first_found : (limits : Limits) (all : Cuts) (text : List ℕ) (token : Token) (after : Place)
    (result : Result (Option (Token × Place)) ScriptFault) → Fits limits token after result
    → all ≡ tokens_before limits (token ∷ []) (lexed limits Nothing after (drop after.at text))
    → FindsFirst limits text all result
first_found limits all text token after (Ok None) f h = absurd f
first_found limits all text token after (Ok (Some (t, next))) f h = h ∙ rw (f.2, f.0, f.1) refl
first_found limits all text token after (Err e) f h = (h ∙ rw (f.1, f.0) refl, λ m. absurd (cc (f.0, m)))

ended : (limits : Limits) (m : Inside) (p : Place) (b : ℕ) (bs : List ℕ) (k : Kind) (r : Place) → k ≡ kind_of b
    → role_of m k ≡ Ends r
    → lexed limits m p (b ∷ bs) ≡ tokens_before limits (token_at r p.at ∷ []) (lexed limits Nothing p (b ∷ bs))
unfolding lexed
ended limits Comment p b bs k r is role = absurd cc
ended limits Nothing p b bs Blank r is role = absurd cc
ended limits Nothing p b bs LineEnd r is role = absurd cc
ended limits Nothing p b bs Hash r is role = absurd cc
ended limits Nothing p b bs Brace r is role = absurd cc
ended limits Nothing p b bs Letter r is role = absurd cc
ended limits Nothing p b bs Bad r is role = absurd cc
ended limits (Atom q) p b bs Letter r is role = absurd cc
ended limits (Atom q) p b bs _ r is role = let e : q ≡ r = cc in rw (← is, e) refl

-- the atom ends before this byte
pub found_ended : (limits : Limits) (all : Cuts) (m : Inside) (p r : Place) (text : List ℕ) (k : Kind)
    (result : Result (Option (Token × Place)) ScriptFault) → p.at < length text → k ≡ kind_of (get_or text p.at 0)
    → role_of m k ≡ Ends r → Fits limits (token_at r p.at) p result → all ≡ lexed limits m p (drop p.at text)
    → FindsFirst limits text all result
found_ended limits all m p r text k result lt is role f h =
    first_found limits all text (token_at r p.at) p result f
    (h ∙ ap (lexed limits m p) (cut_at text p.at lt) ∙ ended limits m p (get_or text p.at 0) (drop (p.at + 1) text) k r
    is role
    ∙ ap (λ (bs : List ℕ). tokens_before limits (token_at r p.at ∷ []) (lexed limits Nothing p bs))
    (sym (cut_at text p.at lt)))

brace : (limits : Limits) (m : Inside) (p : Place) (b : ℕ) (bs : List ℕ) (k : Kind) → k ≡ kind_of b
    → role_of m k ≡ IsBrace
    → lexed limits m p (b ∷ bs) ≡ tokens_before limits (token_at p (p.at + 1) ∷ [])
    (lexed limits Nothing (position_after p k) bs)
unfolding lexed
brace limits Comment p b bs k is role = absurd cc
brace limits Nothing p b bs Blank is role = absurd cc
brace limits Nothing p b bs LineEnd is role = absurd cc
brace limits Nothing p b bs Hash is role = absurd cc
brace limits Nothing p b bs Brace is role = rw (← is) refl
brace limits Nothing p b bs Letter is role = absurd cc
brace limits Nothing p b bs Bad is role = absurd cc
brace limits (Atom q) p b bs Blank is role = absurd cc
brace limits (Atom q) p b bs LineEnd is role = absurd cc
brace limits (Atom q) p b bs Hash is role = absurd cc
brace limits (Atom q) p b bs Brace is role = absurd cc
brace limits (Atom q) p b bs Letter is role = absurd cc
brace limits (Atom q) p b bs Bad is role = absurd cc

pub found_brace : (limits : Limits) (all : Cuts) (m : Inside) (p q : Place) (text : List ℕ) (k : Kind)
    (result : Result (Option (Token × Place)) ScriptFault) → p.at < length text → k ≡ kind_of (get_or text p.at 0)
    → role_of m k ≡ IsBrace → q ≡ position_after p k → q.at ≡ p.at + 1 → Fits limits (token_at p q.at) q result
    → all ≡ lexed limits m p (drop p.at text) → FindsFirst limits text all result
found_brace limits all m p q text k result lt is role place next f h =
    first_found limits all text (token_at p q.at) q result f
    (h ∙ ap (lexed limits m p) (cut_at text p.at lt) ∙ brace limits m p (get_or text p.at 0) (drop (p.at + 1) text) k is
    role
    ∙ ap (λ (r : Place). tokens_before limits (token_at p (p.at + 1) ∷ [])
    (lexed limits Nothing r (drop (p.at + 1) text))) (sym place)
    ∙ ap (λ (j : ℕ). tokens_before limits (token_at p j ∷ []) (lexed limits Nothing q (drop j text))) (sym next))

bad : (limits : Limits) (m : Inside) (p : Place) (b : ℕ) (bs : List ℕ) (k : Kind) → k ≡ kind_of b → role_of m k ≡ IsBad
    → lexed limits m p (b ∷ bs) ≡ Err (Byte p.position)
unfolding lexed
bad limits Comment p b bs k is role = absurd cc
bad limits Nothing p b bs Blank is role = absurd cc
bad limits Nothing p b bs LineEnd is role = absurd cc
bad limits Nothing p b bs Hash is role = absurd cc
bad limits Nothing p b bs Brace is role = absurd cc
bad limits Nothing p b bs Letter is role = absurd cc
bad limits Nothing p b bs Bad is role = rw (← is) refl
bad limits (Atom q) p b bs Blank is role = absurd cc
bad limits (Atom q) p b bs LineEnd is role = absurd cc
bad limits (Atom q) p b bs Hash is role = absurd cc
bad limits (Atom q) p b bs Brace is role = absurd cc
bad limits (Atom q) p b bs Letter is role = absurd cc
bad limits (Atom q) p b bs Bad is role = absurd cc

pub bad_found : (limits : Limits) (all : Cuts) (m : Inside) (p : Place) (text : List ℕ) (k : Kind) → p.at < length text
    → k ≡ kind_of (get_or text p.at 0) → role_of m k ≡ IsBad
    → all ≡ lexed limits m p (drop p.at text) → all ≡ Err (Byte p.position)
bad_found limits all m p text k lt is role h = h ∙ ap (lexed limits m p) (cut_at text _ lt) ∙ bad _ _ _ _ _ _ is role

-- ---- the end of the text

pub ended_last : (limits : Limits) (all : Cuts) (m : Inside) (p r : Place) (text : List ℕ)
    (result : Result (Option (Token × Place)) ScriptFault) → length text ≤ p.at → m ≡ Atom r
    → Fits limits (token_at r p.at) p result → all ≡ lexed limits m p (drop p.at text)
    → FindsFirst limits text all result
unfolding lexed
ended_last limits all m p r text result long is f h =
    first_found limits all text (token_at r p.at) p result f (h ∙ rw (is, drop_all p.at text long) refl)

pub none_found : (limits : Limits) (all : Cuts) (m : Inside) (p : Place) (text : List ℕ) → length text ≤ p.at
    → (m ≡ Nothing) ⊎ (m ≡ Comment)
    → all ≡ lexed limits m p (drop p.at text) → all ≡ Ok []
unfolding lexed
none_found limits all m p text long (inl e) h = h ∙ rw (e, drop_all p.at text long) refl
none_found limits all m p text long (inr e) h = h ∙ rw (e, drop_all p.at text long) refl
