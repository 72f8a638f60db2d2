-- A step of the lexer: the tokens that it puts before those of the rest.
use Rattle.script_tokens.proofs.Words.{[], ◌++◌, ◌+◌, ◌<◌, ◌∙◌, ◌∷◌, ◌≡◌, ◌≢◌, ◌≤◌, Bad, Blank, Bool, Brace, Byte}
use Rattle.script_tokens.proofs.Words.{Err, Hash, Inside, IsQuiet, Kind, Letter, Limit, Limits}
use Rattle.script_tokens.proofs.Words.{LineEnd, List, Memory, Ok, Place, Pushes, Result}
use Rattle.script_tokens.proofs.Words.{ScriptFault, Token, add-one, added, ap, append-nil, arith, atom_ended, cond}
use Rattle.script_tokens.proofs.Words.{drop, drop-cons, drop_all, false, fits, get_or, if◌then◌else◌, inside_after}
use Rattle.script_tokens.proofs.Words.{is_bad, kind_of, length, made, position_after, refl, sym, tokens_before, true, ℕ}
use Rattle.script_tokens.specs.Lexing.{lexed}

pub cut_at : (bs : List ℕ) (i : ℕ) → i < length bs → drop i bs ≡ get_or bs i 0 ∷ drop (i + 1) bs
cut_at bs i lt = rw (add-one, drop-cons bs i 0 lt) refl

abbrev pub Cuts : Type 0
Cuts = Result (List Token) ScriptFault

before_before : (limits : Limits) (ts us : List Token) (r : Cuts)
    → tokens_before limits ts (tokens_before limits us r) ≡ tokens_before limits (ts ++ us) r
before_before limits [] us r = refl
before_before limits (t ∷ ts) us r =
    ap (λ x. cond (fits limits t) (added t x) (Err (Limit t.position))) (before_before limits ts us r)

not_err : (limits : Limits) (t : Token) (b : Bool) (r : Cuts) (us : List Token)
    → cond b r (Err (Limit t.position)) ≡ Ok us → (b ≡ true) × (r ≡ Ok us)
not_err limits t true r us e = (refl, e)
not_err limits t false r us e = absurd cc

unadded : (t : Token) (r : Cuts) (us : List Token) → added t r ≡ Ok (t ∷ us) → r ≡ Ok us
unadded t (Ok vs) us e = cc
unadded t (Err f) us e = absurd cc

-- where all tokens fit, an error after them is the result
pub before_err : (limits : Limits) (ts : List Token) (e : ScriptFault) → tokens_before limits ts (Ok []) ≡ Ok ts
    → tokens_before limits ts (Err e) ≡ Err e
before_err limits [] e h = refl
before_err limits (t ∷ ts) e h =
    let p = not_err limits t (fits limits t) (added t (tokens_before limits ts (Ok []))) (t ∷ ts) h in
    rw (p.0, before_err limits ts e (unadded t (tokens_before limits ts (Ok [])) ts p.1)) refl

later : (t : Token) (r s : Cuts) (e : ScriptFault) → (r ≡ Err e → s ≡ Err e) → added t r ≡ Err e → added t s ≡ Err e
later t (Ok us) s e f h = absurd cc
later t (Err d) s e f h = let g : Cuts = Err d in let is : g ≡ Err e = cc in rw (f is) refl

fault_at : (limits : Limits) (t : Token) (r s : Cuts) (e : ScriptFault) (b : Bool) → (r ≡ Err e → s ≡ Err e)
    → cond b (added t r) (Err (Limit t.position)) ≡ Err e → cond b (added t s) (Err (Limit t.position)) ≡ Err e
fault_at limits t r s e true f h = later t r s e f h
fault_at limits t r s e false f h = h

-- where a token is past a limit, that is the result whatever follows
pub before_fault : (limits : Limits) (ts : List Token) (r : Cuts) (e : ScriptFault)
    → tokens_before limits ts (Ok []) ≡ Err e → tokens_before limits ts r ≡ Err e
before_fault limits [] r e h = absurd cc
before_fault limits (t ∷ ts) r e h = fault_at limits t _ _ e _ (before_fault limits ts r e) h

-- tokens that fit, and more that fit
pub more_in : (limits : Limits) (ts us : List Token) → tokens_before limits ts (Ok []) ≡ Ok ts
    → tokens_before limits us (Ok []) ≡ Ok us → tokens_before limits (ts ++ us) (Ok []) ≡ Ok (ts ++ us)
more_in limits [] us h k = k
more_in limits (t ∷ ts) us h k =
    let p = not_err limits t (fits limits t) (added t (tokens_before limits ts (Ok []))) (t ∷ ts) h in
    rw (p.0, more_in limits ts us (unadded t (tokens_before limits ts (Ok [])) ts p.1) k) refl

-- ---- the loop

-- the tokens cut so far, and the result of the rest
pub record CutSoFar (limits : Limits) (all : Cuts) (ts : List Token) (rest : Cuts) : Type 0 where
  pub given : all ≡ tokens_before limits ts rest
  pub fit : tokens_before limits ts (Ok []) ≡ Ok ts

pub cut_on : (limits : Limits) (all : Cuts) (ts us : List Token) (m n : Inside) (p q : Place) (bs : List ℕ) (i : ℕ)
    (k : Kind) → i < length bs → k ≡ kind_of (get_or bs i 0)
    → Pushes limits ts us (made m p k) (Ok tt) → is_bad m k ≡ false → n ≡ inside_after m p k → q ≡ position_after p k
    → CutSoFar limits all ts (lexed limits m p (drop i bs))
    → CutSoFar limits all us (lexed limits n q (drop (i + 1) bs))
unfolding lexed
cut_on limits all ts us m n p q bs i k lt is push good e f h = record {
  given =
      let step : lexed limits m p (drop i bs) ≡ tokens_before limits (made m p k) (lexed limits n q (drop (i + 1) bs)) =
      rw (cut_at bs i lt, ← is, e, f, good) refl in
      h.given ∙ ap (tokens_before limits ts) step ∙ before_before limits ts (made m p k)
      (lexed limits n q (drop (i + 1) bs))
      ∙ ap (λ vs. tokens_before limits vs (lexed limits n q (drop (i + 1) bs))) (sym push.0);
  fit = rw (push.0) (more_in limits ts (made m p k) h.fit push.1);
}

-- a quiet byte
pub quiet_on : (limits : Limits) (all : Cuts) (ts : List Token) (m : Inside) (p q : Place) (bs : List ℕ) (i : ℕ)
    (k : Kind) → i < length bs → k ≡ kind_of (get_or bs i 0)
    → IsQuiet m k → q ≡ position_after p k
    → CutSoFar limits all ts (lexed limits m p (drop i bs))
    → CutSoFar limits all ts (lexed limits m q (drop (i + 1) bs))
quiet_on limits all ts m p q bs i k lt is quiet f h =
    let none : Pushes limits ts ts (made m p k) (Ok tt) = rw (quiet.none p) (sym (append-nil ts), refl) in
    cut_on limits all ts ts m m p q bs i k lt is none quiet.good (sym (quiet.stays p)) f h

-- pushing a token fails
pub fault_pushed : (limits : Limits) (all : Cuts) (ts us : List Token) (m : Inside) (p : Place) (bs : List ℕ) (i : ℕ)
    (k : Kind) (e : ScriptFault) → i < length bs → k ≡ kind_of (get_or bs i 0)
    → tokens_before limits (made m p k) (Ok []) ≡ Err e
    → CutSoFar limits all ts (lexed limits m p (drop i bs)) → all ≡ Err e
unfolding lexed
fault_pushed limits all ts us m p bs i k e lt is push h =
    let rest : Cuts = if is_bad m k then Err (Byte p.position) else lexed limits (inside_after m p k)
    (position_after p k) (drop (i + 1) bs) in
    let step : lexed limits m p (drop i bs) ≡ tokens_before limits (made m p k) rest = rw (cut_at bs i lt, ← is) refl in
    cc (h.given, step, before_fault limits (made m p k) rest e push, before_err limits ts e h.fit)

-- a bad byte, after the token that it ends
pub bad_here : (limits : Limits) (all : Cuts) (ts us : List Token) (m : Inside) (p : Place) (bs : List ℕ) (i : ℕ)
    (k : Kind) → i < length bs → k ≡ kind_of (get_or bs i 0)
    → Pushes limits ts us (made m p k) (Ok tt) → is_bad m k ≡ true
    → CutSoFar limits all ts (lexed limits m p (drop i bs)) → all ≡ Err (Byte p.position)
unfolding lexed
bad_here limits all ts us m p bs i k lt is push bad h =
    let step : lexed limits m p (drop i bs) ≡ tokens_before limits (made m p k) (Err (Byte p.position)) =
    rw (cut_at bs i lt, ← is, bad) refl in
    h.given ∙ ap (tokens_before limits ts) (step ∙ before_err _ _ _ push.1) ∙ before_err _ _ _ h.fit

pub cut_end : (limits : Limits) (all : Cuts) (ts us : List Token) (m : Inside) (p : Place) (bs : List ℕ) (i : ℕ)
    → length bs ≤ i
    → Pushes limits ts us (atom_ended m p.at Blank) (Ok tt) → CutSoFar limits all ts (lexed limits m p (drop i bs))
    → all ≡ Ok us
unfolding lexed
cut_end limits all ts us m p bs i long push h =
    let step : lexed limits m p (drop i bs) ≡ tokens_before limits (atom_ended m p.at Blank) (Ok []) =
    rw (drop_all i bs long) refl in
    h.given ∙ ap (tokens_before limits ts) step ∙ before_before _ ts _ _ ∙ ap (λ vs. tokens_before limits vs (Ok []))
    (sym push.0) ∙ rw (push.0) (more_in _ ts _ h.fit push.1)

pub fault_at_end : (limits : Limits) (all : Cuts) (ts : List Token) (m : Inside) (p : Place) (bs : List ℕ) (i : ℕ)
    (e : ScriptFault) → length bs ≤ i
    → tokens_before limits (atom_ended m p.at Blank) (Ok []) ≡ Err e
    → CutSoFar limits all ts (lexed limits m p (drop i bs)) → all ≡ Err e
unfolding lexed
fault_at_end limits all ts m p bs i e long push h =
    h.given ∙ ap (tokens_before limits ts) ((rw (drop_all i bs long) refl) ∙ push) ∙ before_err limits ts e h.fit

-- a fault other than out of memory is that of the tokens
pub its_fault : (limits : Limits) (old new ts : List Token) (e : ScriptFault) → Pushes limits old new ts (Err e)
    → e ≢ Memory → tokens_before limits ts (Ok []) ≡ Err e
its_fault limits old new ts Memory h ne = absurd (ne refl)
its_fault limits old new ts _ h ne = h

pub record Follows (p q : Place) : Type 0 where
  pub at : q.at ≡ p.at + 1
  pub line : q.position.line ≤ p.position.line + 1
  pub column : q.position.column ≤ p.position.column + 1

pub follows : (p q : Place) (k : Kind) → q ≡ position_after p k → Follows p q
follows p q LineEnd e = rw (e) (record { at = refl; line = omega arith; column = omega arith })
follows p q Blank e = rw (e) (record { at = refl; line = omega arith; column = omega arith })
follows p q Hash e = rw (e) (record { at = refl; line = omega arith; column = omega arith })
follows p q Brace e = rw (e) (record { at = refl; line = omega arith; column = omega arith })
follows p q Letter e = rw (e) (record { at = refl; line = omega arith; column = omega arith })
follows p q Bad e = rw (e) (record { at = refl; line = omega arith; column = omega arith })
