-- Decoding a stream FIB by FIB, and piece by piece.
use Rattle.cli_streams.proofs.Words.{[], ◌%◌, ◌*◌, ◌++◌, ◌+◌, ◌/◌, ◌<◌, ◌∙◌, ◌∷◌, ◌≡◌, ◌≤◌, Bool, Err, Full, Heard}
use Rattle.cli_streams.proofs.Words.{Hears, HearsTheStream, List, Listening, Ok, Result, StreamFault, add-one, ap}
use Rattle.cli_streams.proofs.Words.{arith, damaged_more, drop, drop-append-le, drop-cons, ended, false, fibs_of_stream}
use Rattle.cli_streams.proofs.Words.{first_chunks, get_or, heard_more, inl, inr, length, length-append, length-drop}
use Rattle.cli_streams.proofs.Words.{refl, subst, suc, sym, take-append-le, true, zero, ℕ}
use Rattle.cli_streams.proofs.Words.{Consumes, HearsStream, IsAtEnd, Keeps, ListensTo, None, Option, Some, Status}
use Rattle.cli_streams.proofs.Words.{append-nil}
use Rattle.cli_streams.specs.Success.{listen_status}
use Rattle.std.specs.Prelude.{◌==◌, if◌then◌else◌}
use Rattle.stream_monitor.specs.Formats.{is_other}
use Rattle.fib_reader.specs.declared.fault.FibFault.{FibFault}
use Rattle.fib_reader.specs.declared.fault.ListenFault.{ListenFault}
use Rattle.fib_reader.specs.declared.fault.ListenFault.TheVariants.{Fib}

-- ---- FIB by FIB

fib_by_fib : (fibs : List (List ℕ)) (i : ℕ) → i < length fibs → drop i fibs ≡ get_or fibs i [] ∷ drop (i + 1) fibs
fib_by_fib fibs i lt = rw (add-one, drop-cons fibs i [] lt) refl

-- a received FIB
pub one_heard : (fibs : List (List ℕ)) (i : ℕ) (old : Heard) (new : Listening) (given : Result Heard StreamFault)
    → i < length fibs → Hears (get_or fibs i []) old.listener new (Ok tt)
    → HearsTheStream (drop (i + 1) fibs) (heard_more old new) given → HearsTheStream (drop i fibs) old given
one_heard fibs i old new given lt heard rest =
    subst (λ (fs : List (List ℕ)). HearsTheStream fs old given) (sym (fib_by_fib fibs i lt)) (inl (new, heard, rest))

-- one more damaged FIB, with this listener, and as of another format or not
abbrev damaged_with : Heard → Listening → Bool → Heard
damaged_with h l other = record { fibs = h.fibs + 1; damaged = h.damaged + 1; is_other = other; listener = l }

abbrev other_after : Heard → List ℕ → Bool
other_after h fib = if h.fibs == 0 then is_other fib else h.is_other

-- a damaged FIB
pub one_damaged : (fibs : List (List ℕ)) (i : ℕ) (old : Heard) (new : Listening) (other : Bool) (fault : ListenFault)
    (inner : FibFault) (given : Result Heard StreamFault) → i < length fibs
    → other ≡ (if old.fibs == 0 then is_other (get_or fibs i []) else old.is_other) → fault ≡ Fib inner
    → Hears (get_or fibs i []) old.listener new (Err fault)
    → HearsTheStream (drop (i + 1) fibs)
    (record { fibs = old.fibs + 1; damaged = old.damaged + 1; is_other = other; listener = new }) given
    → HearsTheStream (drop i fibs) old given
one_damaged fibs i old new other fault inner given lt seen is heard rest =
    let as_fib : Hears (get_or fibs i []) old.listener new (Err (Fib inner)) =
    subst (λ (f : ListenFault). Hears (get_or fibs i []) old.listener new (Err f)) is heard in
    let known : HearsTheStream (drop (i + 1) fibs) (damaged_with old new (other_after old (get_or fibs i []))) given =
    subst (λ (b : Bool). HearsTheStream (drop (i + 1) fibs) (damaged_with old new b) given) seen rest in
    let stays : HearsTheStream (drop (i + 1) fibs) (damaged_more old (get_or fibs i [])) given =
    subst (λ (l : Listening). HearsTheStream (drop (i + 1) fibs)
    (damaged_with old l (other_after old (get_or fibs i []))) given) as_fib.1 known in
    let reported : Hears (get_or fibs i []) old.listener old.listener (Err (Fib inner)) = (as_fib.0, refl) in
    subst (λ (fs : List (List ℕ)). HearsTheStream fs old given) (sym (fib_by_fib fibs i lt))
    (inr (inl (inner, reported, stays)))

-- ---- piece by piece

no_room_is_none : (h : Heard) → Err Full ≡ Ok h → ⊥
no_room_is_none h e = absurd (cc)

ok_is : (g h : Heard) (r : Result Heard StreamFault) → r ≡ Ok g → r ≡ Ok h → g ≡ h
ok_is g h r e f = cc

-- FIBs after others that were decoded
heard_on : (xs ys : List (List ℕ)) (old mid : Heard) (given : Result Heard StreamFault) → HearsTheStream xs old (Ok mid)
    → HearsTheStream ys mid given → HearsTheStream (xs ++ ys) old given
heard_on [] ys old mid given h more =
    subst (λ (s : Heard). HearsTheStream ys s given) (ok_is mid old (Ok mid) refl h) more
heard_on (x ∷ xs) ys old mid given (inl (new, heard, rest)) more =
    inl (new, heard, heard_on xs ys (heard_more old new) mid given rest more)
heard_on (x ∷ xs) ys old mid given (inr (inl (fault, wrong, rest))) more =
    inr (inl (fault, wrong, heard_on xs ys (damaged_more old x) mid given rest more))
heard_on (x ∷ xs) ys old mid given (inr (inr (full, ends))) more = absurd (no_room_is_none mid (sym ends))

-- FIBs after others that a picture had no room for
full_on : (xs ys : List (List ℕ)) (old : Heard) → HearsTheStream xs old (Err Full)
    → HearsTheStream (xs ++ ys) old (Err Full)
full_on [] ys old h = absurd (no_room_is_none old h)
full_on (x ∷ xs) ys old (inl (new, heard, rest)) = inl (new, heard, full_on xs ys (heard_more old new) rest)
full_on (x ∷ xs) ys old (inr (inl (fault, wrong, rest))) =
    inr (inl (fault, wrong, full_on xs ys (damaged_more old x) rest))
full_on (x ∷ xs) ys old (inr (inr (full, ends))) = inr (inr (full, refl))

none_left : (s : List ℕ) → length s ≡ 0 → s ≡ []
none_left [] e = refl
none_left (x ∷ xs) e = absurd (cc)

chunks_on : (k m : ℕ) (s t : List ℕ) → length s ≡ 32 * k → first_chunks 32 (k + m) (s ++ t) ≡ first_chunks 32 k s
    ++ first_chunks 32 m t
chunks_on zero m s t e =
    let same : 0 + m ≡ m = omega arith in
    ap (λ n. first_chunks 32 n (s ++ t)) same ∙ ap (λ (l : List ℕ). first_chunks 32 m (l ++ t))
    (none_left s (omega (arith, e)))
chunks_on (suc k) m s t e =
    let enough : 32 ≤ length s = omega arith in
    let rest : length (drop 32 s) ≡ 32 * k = omega (arith, e, length-drop 32 s) in
    let same : suc k + m ≡ suc (k + m) = omega arith in
    let step : first_chunks 32 (suc (k + m)) (s ++ t) ≡ first_chunks 32 (suc k) s ++ first_chunks 32 m t =
    rw (take-append-le 32 s t enough, drop-append-le 32 s t enough, chunks_on k m (drop 32 s) t rest) refl in
    ap (λ n. first_chunks 32 n (s ++ t)) same ∙ step

pub fibs_on : (s t : List ℕ) → length s % 32 ≡ 0 → fibs_of_stream (s ++ t) ≡ fibs_of_stream s ++ fibs_of_stream t
fibs_on s t whole =
    let count : length (s ++ t) / 32 ≡ length s / 32 + length t / 32 = omega (arith, whole, length-append s t) in
    let exact : length s ≡ 32 * (length s / 32) = omega arith in
    ap (λ n. first_chunks 32 n (s ++ t)) count ∙ chunks_on (length s / 32) (length t / 32) s t exact

-- one more piece of whole FIBs
pub piece_heard : (s t : List ℕ) (start mid : Heard) (given : Result Heard StreamFault) → length s % 32 ≡ 0
    → HearsTheStream (fibs_of_stream s) start (Ok mid) → HearsTheStream (fibs_of_stream t) mid given
    → HearsTheStream (fibs_of_stream (s ++ t)) start given
piece_heard s t start mid given whole before more =
    subst (λ (fs : List (List ℕ)). HearsTheStream fs start given) (sym (fibs_on s t whole))
    (heard_on (fibs_of_stream s) (fibs_of_stream t) start mid given before more)

pub piece_passed : (s t : List ℕ) (start : Heard) → length s % 32 ≡ 0
    → HearsTheStream (fibs_of_stream s) start (Err Full) → HearsTheStream (fibs_of_stream (s ++ t)) start (Err Full)
piece_passed s t start whole before =
    subst (λ (fs : List (List ℕ)). HearsTheStream fs start (Err Full)) (sym (fibs_on s t whole))
    (full_on (fibs_of_stream s) (fibs_of_stream t) start before)

-- the result after FIBs
pub ends : (fibs : List (List ℕ)) (old mid : Heard) (all : Bool) → (all ≡ true → HearsTheStream fibs old (Ok mid))
    → (all ≡ false → HearsTheStream fibs old (Err Full)) → HearsTheStream fibs old (ended all mid)
ends fibs old mid true heard none = heard refl
ends fibs old mid false heard none = none refl

-- the result after a piece that follows others which left room, and others which did not
pub piece_ends : (s t : List ℕ) (fibs : List (List ℕ)) (start old : Heard) (room : Bool)
    (given : Result Heard StreamFault) → room ≡ true → length s % 32 ≡ 0 → fibs ≡ fibs_of_stream t
    → HearsTheStream (fibs_of_stream s) start (ended room old) → HearsTheStream fibs old given
    → HearsTheStream (fibs_of_stream (s ++ t)) start given
piece_ends s t fibs start old true given is whole are before more =
    piece_heard s t start old given whole before (subst (λ (fs : List (List ℕ)). HearsTheStream fs old given) are more)
piece_ends s t fibs start old false given is whole are before more = absurd (cc)

pub piece_has_ended : (s t : List ℕ) (start old : Heard) (room : Bool) → room ≡ false → length s % 32 ≡ 0
    → HearsTheStream (fibs_of_stream s) start (ended room old)
    → HearsTheStream (fibs_of_stream (s ++ t)) start (ended room old)
piece_has_ended s t start old false is whole before = piece_passed s t start whole before
piece_has_ended s t start old true is whole before = absurd (cc)

-- the stream of a file that is known is the file
pub listens_file : (known left now : Option (List ℕ)) (stream : List ℕ) (given : Result Heard StreamFault)
    (status : Status) → Keeps known left → Consumes left now stream → IsAtEnd now → HearsStream stream given
    → status ≡ listen_status given → ListensTo known status
listens_file None left now stream given status kept took end hears is = tt
listens_file (Some file) None now stream given status kept took end hears is = absurd kept
listens_file (Some file) (Some xs) None stream given status kept took end hears is = absurd took
listens_file (Some file) (Some xs) (Some ys) stream given status kept took end hears is =
    let same : stream ≡ file = sym (append-nil stream) ∙ ap (λ (l : List ℕ). stream ++ l) (sym end) ∙ sym took ∙ kept in
    (given, subst (λ (s : List ℕ). HearsStream s given) same hears, is)
