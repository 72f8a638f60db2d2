-- Reading a line byte by byte.
use Rattle.std.proofs.Common.{◌≡◌, ℕ, ◌==◌, ◌<◌, false, List, [], ◌∷◌, ◌++◌, length, Option, None, Some, refl, sym, ap}
use Rattle.std.proofs.Common.{◌∙◌, arith, append-nil, length-append, subst, Bool, true, true≢false, ◌≤◌}
use Rattle.std.proofs.lemmas.Bool.{eqb-true}
use Rattle.std.proofs.KnownBytes.{Consumes-trans}
use Rattle.std.specs.Io.KnownBytes.{Consumes, Keeps, IsAtEnd}
use Rattle.console.specs.Lines.{lines_of, GivesLine}

-- none of these bytes is a line feed
abbrev pub NoFeed : List ℕ → Type 0
NoFeed [] = Unit {0}
NoFeed (b ∷ bs) = ((b == 10) ≡ false) × NoFeed bs

pub no_feed_more : (bs : List ℕ) (b : ℕ) → NoFeed bs → (b == 10) ≡ false → NoFeed (bs ++ b ∷ [])
no_feed_more [] b h e = (e, tt)
no_feed_more (x ∷ xs) b h e = (h.0, no_feed_more xs b h.1 e)

line_to_feed : (bs rest : List ℕ) → NoFeed bs → lines_of (bs ++ 10 ∷ rest) ≡ bs ∷ lines_of rest
line_to_feed [] rest h = refl
line_to_feed (b ∷ bs) rest h = rw (h.0, line_to_feed bs rest h.1) refl

line_to_end : (b : ℕ) (bs : List ℕ) → NoFeed (b ∷ bs) → lines_of (b ∷ bs) ≡ (b ∷ bs) ∷ []
line_to_end b [] h = rw (h.0) refl
line_to_end b (c ∷ cs) h = rw (h.0, line_to_end c cs h.1) refl

pub gives_to_feed : (before mid after : Option (List ℕ)) (bs : List ℕ) → NoFeed bs → Consumes before mid bs
    → Consumes mid after (10 ∷ []) → GivesLine before bs after
gives_to_feed None mid after bs h p q = tt
gives_to_feed (Some x) None after bs h p q = absurd p
gives_to_feed (Some x) (Some y) None bs h p q = absurd q
gives_to_feed (Some x) (Some y) (Some z) bs h p q = ap lines_of (p ∙ ap (λ (l : List ℕ). bs ++ l) q)
    ∙ line_to_feed bs z h

pub gives_to_end : (before mid after : Option (List ℕ)) (bs : List ℕ) → NoFeed bs → 0 < length bs
    → Consumes before mid bs → Consumes mid after [] → IsAtEnd after → GivesLine before bs after
gives_to_end None mid after bs h n p q e = tt
gives_to_end (Some x) None after bs h n p q e = absurd p
gives_to_end (Some x) (Some y) None bs h n p q e = absurd q
gives_to_end (Some x) (Some y) (Some z) [] h n p q e = absurd (omega (arith, n))
gives_to_end (Some x) (Some y) (Some z) (b ∷ bs) h n p q e =
    let all : x ≡ b ∷ bs = p ∙ ap (λ (l : List ℕ). (b ∷ bs) ++ l) (q ∙ e) ∙ append-nil (b ∷ bs) in
    ap lines_of all ∙ line_to_end b bs h ∙ ap (λ (ls : List (List ℕ)). (b ∷ bs) ∷ ls) (ap lines_of (sym e))

none_taken : (before mid after : Option (List ℕ)) → Consumes before mid [] → Consumes mid after [] → Keeps before after
none_taken None mid after p q = tt
none_taken (Some x) None after p q = absurd p
none_taken (Some x) (Some y) None p q = absurd q
none_taken (Some x) (Some y) (Some z) p q = sym (p ∙ q)

-- ---- the part of a line that was read: kept, or too long and skipped

pub record Held (before now : Option (List ℕ)) (line : List ℕ) (is_long : Bool) : Type 0 where
  pub bytes : List ℕ
  pub taken : Consumes before now bytes
  pub no_feed : NoFeed bytes
  pub short : is_long ≡ false → line ≡ bytes
  pub long : is_long ≡ true → 65536 < length bytes
  pub bound : length line ≤ 65536

long_bytes : (is_long : Bool) (line bytes : List ℕ) → (is_long ≡ false → line ≡ bytes)
    → (is_long ≡ true → 65536 < length bytes) → length line ≡ 65536 → 65536 ≤ length bytes
long_bytes false line bytes short long n = let e = ap (λ (l : List ℕ). length l) (short refl) in omega (arith, e, n)
long_bytes true line bytes short long n = let more = long refl in omega (arith, more)

pub held_full : (before mid after : Option (List ℕ)) (line : List ℕ) (is_long : Bool) (b : ℕ)
    → Held before mid line is_long → Consumes mid after (b ∷ []) → (b == 10) ≡ false → length line ≡ 65536
    → Held before after line true
held_full before mid after line is_long b h p e n =
    let least = long_bytes is_long line h.bytes h.short h.long n in
    let more = length-append h.bytes (b ∷ []) in
    let one : length (b ∷ []) ≡ 1 = refl in
    record {
      bytes = h.bytes ++ b ∷ [];
      taken = Consumes-trans before mid after h.bytes (b ∷ []) h.taken p;
      no_feed = no_feed_more h.bytes b h.no_feed e;
      short = λ x. absurd (true≢false x);
      long = λ _. omega (arith, least, more, one);
      bound = h.bound;
    }

pub held_pushed : (before mid after : Option (List ℕ)) (line more : List ℕ) (is_long : Bool) (b : ℕ)
    → Held before mid line is_long → Consumes mid after (b ∷ []) → (b == 10) ≡ false → length line < 65536 → more ≡ line
    ++ b ∷ [] → Held before after more is_long
held_pushed before mid after line more is_long b h p e n is =
    let longer = length-append h.bytes (b ∷ []) in
    let kept = ap (λ (l : List ℕ). length l) is ∙ length-append line (b ∷ []) in
    let one : length (b ∷ []) ≡ 1 = refl in
    record {
      bytes = h.bytes ++ b ∷ [];
      taken = Consumes-trans before mid after h.bytes (b ∷ []) h.taken p;
      no_feed = no_feed_more h.bytes b h.no_feed e;
      short = λ x. is ∙ ap (λ (l : List ℕ). l ++ b ∷ []) (h.short x);
      long = λ x. let most = h.long x in omega (arith, most, longer, one);
      bound = omega (arith, n, kept, one);
    }

pub line_at_feed : (before mid after : Option (List ℕ)) (line : List ℕ) (is_long : Bool) (b : ℕ)
    → Held before mid line is_long → is_long ≡ false → b ≡ 10 → Consumes mid after (b ∷ [])
    → GivesLine before line after
line_at_feed before mid after line is_long b h short e p =
    let feed : Consumes mid after (10 ∷ []) = subst (λ (x : ℕ). Consumes mid after (x ∷ [])) e p in
    subst (λ (l : List ℕ). GivesLine before l after) (sym (h.short short))
    (gives_to_feed before mid after h.bytes h.no_feed h.taken feed)

pub long_at_feed : (before mid after : Option (List ℕ)) (line : List ℕ) (is_long : Bool) (b : ℕ)
    → Held before mid line is_long → is_long ≡ true → b ≡ 10 → Consumes mid after (b ∷ []) → (l : List ℕ)
    × (65536 < length l) × GivesLine before l after
long_at_feed before mid after line is_long b h long e p =
    let feed : Consumes mid after (10 ∷ []) = subst (λ (x : ℕ). Consumes mid after (x ∷ [])) e p in
    (h.bytes, h.long long, gives_to_feed before mid after h.bytes h.no_feed h.taken feed)

pub line_at_end : (before mid after : Option (List ℕ)) (line : List ℕ) (is_long : Bool) → Held before mid line is_long
    → is_long ≡ false → 0 < length line → Consumes mid after [] → IsAtEnd after → GivesLine before line after
line_at_end before mid after line is_long h short some p end =
    let e = h.short short in
    let n = ap (λ (l : List ℕ). length l) e in
    let more : 0 < length h.bytes = omega (arith, n, some) in
    subst (λ (l : List ℕ). GivesLine before l after) (sym e)
    (gives_to_end before mid after h.bytes h.no_feed more h.taken p end)

pub long_at_end : (before mid after : Option (List ℕ)) (line : List ℕ) (is_long : Bool) → Held before mid line is_long
    → is_long ≡ true → Consumes mid after [] → IsAtEnd after → (l : List ℕ) × (65536 < length l)
    × GivesLine before l after
long_at_end before mid after line is_long h long p end =
    let most = h.long long in
    let more : 0 < length h.bytes = omega (arith, most) in
    (h.bytes, most, gives_to_end before mid after h.bytes h.no_feed more h.taken p end)

pub none_at_end : (before mid after : Option (List ℕ)) (line : List ℕ) (is_long : Bool) → Held before mid line is_long
    → is_long ≡ false → (length line == 0) ≡ true → Consumes mid after [] → IsAtEnd after → Keeps before after
    × IsAtEnd after
none_at_end before mid after [] is_long h short none p end =
    (none_taken before mid after (subst (λ (l : List ℕ). Consumes before mid l) (sym (h.short short)) h.taken) p, end)
none_at_end before mid after (b ∷ bs) is_long h short none p end =
    let e = eqb-true (length (b ∷ bs)) 0 none in
    absurd (omega (arith, e))

pub some_left : (line : List ℕ) → (length line == 0) ≡ false → 0 < length line
some_left [] e = absurd (true≢false e)
some_left (b ∷ bs) e = omega arith
