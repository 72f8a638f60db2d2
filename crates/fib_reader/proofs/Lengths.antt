-- The length of an entry is determined by its own bytes.
use Rattle.fib_reader.proofs.Words.{◌%◌, ◌*◌, ◌++◌, ◌+◌, ◌/◌, ◌<◌, ◌==◌, ◌∙◌, ◌≡◌, ◌≤◌, Bool, List, ap, arith, cond}
use Rattle.fib_reader.proofs.Words.{drop, ensemble_len, entry_len, false, get_or, get_or_append_left, length}
use Rattle.fib_reader.proofs.Words.{length-take-le, packet_len, service_len, sub_len, sym, take, take-append-drop, true}
use Rattle.fib_reader.proofs.Words.{ℕ}

-- every entry has some bytes
at_least : (b : Bool) (x y : ℕ) → 3 ≤ x → 3 ≤ y → 3 ≤ cond b x y
at_least true x y p q = p
at_least false x y p q = q

pub some_bytes : (ext : ℕ) (long : Bool) (bytes : List ℕ) → 3 ≤ entry_len ext long bytes
some_bytes ext long bytes =
    at_least (ext == 0) (cond (get_or bytes 2 0 / 64 == 0) 4 5) _
    (at_least (get_or bytes 2 0 / 64 == 0) 4 5 (omega arith) (omega arith))
    (at_least (ext == 1) (cond (get_or bytes 2 0 / 128 == 1) 4 3) _
    (at_least (get_or bytes 2 0 / 128 == 1) 4 3 (omega arith) (omega arith))
    (at_least (ext == 2) (cond long (5 + 2 * (get_or bytes 4 0 % 16)) (3 + 2 * (get_or bytes 2 0 % 16))) _
    (at_least long (5 + 2 * (get_or bytes 4 0 % 16)) (3 + 2 * (get_or bytes 2 0 % 16)) (omega arith) (omega arith))
    (at_least (get_or bytes 1 0 % 2 == 1) 7 5 (omega arith) (omega arith))))

-- whichever branch is taken, it is determined by bytes that are present
chosen :
    (a b c : Bool) (x x' y y' z z' w w' n : ℕ)
    → (x ≤ n → x' ≡ x) → (y ≤ n → y' ≡ y) → (z ≤ n → z' ≡ z) → (w ≤ n → w' ≡ w)
    → cond a x (cond b y (cond c z w)) ≤ n → cond a x' (cond b y' (cond c z' w')) ≡ cond a x (cond b y (cond c z w))
chosen true b c x x' y y' z z' w w' n p q r s le = p le
chosen false true c x x' y y' z z' w w' n p q r s le = q le
chosen false false true x x' y y' z z' w w' n p q r s le = r le
chosen false false false x x' y y' z z' w w' n p q r s le = s le

least_4 : (t : Bool) (n : ℕ) → cond t 4 5 ≤ n → 2 < n
least_4 true n le = omega arith
least_4 false n le = omega arith

least_3 : (t : Bool) (n : ℕ) → cond t 4 3 ≤ n → 2 < n
least_3 true n le = omega arith
least_3 false n le = omega arith

least_5 : (t : Bool) (n : ℕ) → cond t 7 5 ≤ n → 1 < n
least_5 true n le = omega arith
least_5 false n le = omega arith

ensemble_len_more : (e rest : List ℕ) → ensemble_len e ≤ length e → ensemble_len (e ++ rest) ≡ ensemble_len e
ensemble_len_more e rest le = ap (λ x. cond (x / 64 == 0) 4 5) (get_or_append_left e rest 0 2 (least_4 _ _ le))

sub_len_more : (e rest : List ℕ) → sub_len e ≤ length e → sub_len (e ++ rest) ≡ sub_len e
sub_len_more e rest le = ap (λ x. cond (x / 128 == 1) 4 3) (get_or_append_left e rest 0 2 (least_3 _ _ le))

service_len_more :
    (long : Bool) (e rest : List ℕ) → service_len long e ≤ length e → service_len long (e ++ rest) ≡ service_len long e
service_len_more true e rest le =
    ap (λ x. 5 + 2 * (x % 16)) (get_or_append_left e rest 0 4 (omega arith))
service_len_more false e rest le =
    ap (λ x. 3 + 2 * (x % 16)) (get_or_append_left e rest 0 2 (omega arith))

packet_len_more : (e rest : List ℕ) → packet_len e ≤ length e → packet_len (e ++ rest) ≡ packet_len e
packet_len_more e rest le = ap (λ x. cond (x % 2 == 1) 7 5) (get_or_append_left e rest 0 1 (least_5 _ _ le))

pub entry_len_more :
    (ext : ℕ) (long : Bool) (e rest : List ℕ) → entry_len ext long e ≤ length e
    → entry_len ext long (e ++ rest) ≡ entry_len ext long e
entry_len_more ext long e rest =
    chosen (ext == 0) (ext == 1) (ext == 2) (ensemble_len e) (ensemble_len (e ++ rest)) (sub_len e)
    (sub_len (e ++ rest))
    (service_len long e) (service_len long (e ++ rest)) (packet_len e) (packet_len (e ++ rest)) (length e)
    (ensemble_len_more e rest) (sub_len_more e rest) (service_len_more long e rest) (packet_len_more e rest)

-- the same, computed from the longer bytes
ensemble_len_front : (e rest : List ℕ) → ensemble_len (e ++ rest) ≤ length e → ensemble_len e ≡ ensemble_len (e ++ rest)
ensemble_len_front e rest le = sym (ap (λ x. cond (x / 64 == 0) 4 5) (get_or_append_left e rest 0 2 (least_4 _ _ le)))

sub_len_front : (e rest : List ℕ) → sub_len (e ++ rest) ≤ length e → sub_len e ≡ sub_len (e ++ rest)
sub_len_front e rest le = sym (ap (λ x. cond (x / 128 == 1) 4 3) (get_or_append_left e rest 0 2 (least_3 _ _ le)))

service_len_front :
    (long : Bool) (e rest : List ℕ) → service_len long (e ++ rest) ≤ length e
    → service_len long e ≡ service_len long (e ++ rest)
service_len_front true e rest le =
    sym (ap (λ x. 5 + 2 * (x % 16)) (get_or_append_left e rest 0 4 (omega arith)))
service_len_front false e rest le =
    sym (ap (λ x. 3 + 2 * (x % 16)) (get_or_append_left e rest 0 2 (omega arith)))

packet_len_front : (e rest : List ℕ) → packet_len (e ++ rest) ≤ length e → packet_len e ≡ packet_len (e ++ rest)
packet_len_front e rest le = sym (ap (λ x. cond (x % 2 == 1) 7 5) (get_or_append_left e rest 0 1 (least_5 _ _ le)))

pub entry_len_front :
    (ext : ℕ) (long : Bool) (e rest : List ℕ) → entry_len ext long (e ++ rest) ≤ length e
    → entry_len ext long e ≡ entry_len ext long (e ++ rest)
entry_len_front ext long e rest =
    chosen (ext == 0) (ext == 1) (ext == 2) (ensemble_len (e ++ rest)) (ensemble_len e) (sub_len (e ++ rest))
    (sub_len e)
    (service_len long (e ++ rest)) (service_len long e) (packet_len (e ++ rest)) (packet_len e) (length e)
    (ensemble_len_front e rest) (sub_len_front e rest) (service_len_front long e rest) (packet_len_front e rest)

-- so an entry cut off the front has the length that it encodes
pub cut_len :
    (ext : ℕ) (long : Bool) (bytes : List ℕ) → entry_len ext long bytes ≤ length bytes
    → length (take (entry_len ext long bytes) bytes) ≡ entry_len ext long (take (entry_len ext long bytes) bytes)
cut_len ext long bytes le =
    let n : ℕ = entry_len ext long bytes in
    let whole : take n bytes ++ drop n bytes ≡ bytes = take-append-drop n bytes in
    let size : length (take n bytes) ≡ n = length-take-le n bytes le in
    let same = entry_len_front ext long (take n bytes) (drop n bytes) (rw (whole, size) (omega arith)) in
    size ∙ sym (same ∙ ap (entry_len ext long) whole)
