-- Bytes have exactly one list of lines.
use Rattle.std.proofs.Common.{◌≡◌, ◌≢◌, ◌⊎◌, ℕ, ◌==◌, Bool, true, false, List, [], ◌∷◌, ◌++◌, length, refl, sym, ap}
use Rattle.std.proofs.Common.{subst, ◌∙◌, inl, inr, arith, append_assoc, append-nil}
use Rattle.std.proofs.lemmas.Bool.{eqb-true, eqb-false, ne_eqb}
use Rattle.std.specs.Prelude.{if◌then◌else◌}
use Rattle.std.specs.List.{AllByRecursion}
use Rattle.console.specs.Lines.{HasNoFeed, with_feeds, LacksLastFeed, AreLinesOf, with_byte, lines_of, BytesHaveLines}

-- ---- lines of the bytes are the computed ones

to_feed : (line rest : List ℕ) → HasNoFeed line → lines_of (line ++ 10 ∷ rest) ≡ line ∷ lines_of rest
to_feed [] rest h = refl
to_feed (b ∷ bs) rest h = let other : (b == 10) ≡ false = ne_eqb b 10 h.0 in rw (other, to_feed bs rest h.1) refl

to_end : (b : ℕ) (bs : List ℕ) → HasNoFeed (b ∷ bs) → lines_of (b ∷ bs) ≡ (b ∷ bs) ∷ []
to_end b [] h = let other : (b == 10) ≡ false = ne_eqb b 10 h.0 in rw (other) refl
to_end b (c ∷ cs) h = let other : (b == 10) ≡ false = ne_eqb b 10 h.0 in rw (other, to_end c cs h.1) refl

last_line : (last : List ℕ) → last ≢ [] → HasNoFeed last → lines_of last ≡ last ∷ []
last_line [] some h = absurd (some refl)
last_line (b ∷ bs) some h = to_end b bs h

after_feeds : (lines : List (List ℕ)) (rest : List ℕ) → AllByRecursion HasNoFeed lines
    → lines_of (with_feeds lines ++ rest) ≡ lines ++ lines_of rest
after_feeds [] rest h = refl
after_feeds (l ∷ ls) rest h =
    ap lines_of (append_assoc (l ++ 10 ∷ []) (with_feeds ls) rest ∙ append_assoc l (10 ∷ []) (with_feeds ls ++ rest))
    ∙ to_feed l (with_feeds ls ++ rest) h.0
    ∙ ap (λ (x : List (List ℕ)). l ∷ x) (after_feeds ls rest h.1)

each_before : (front : List (List ℕ)) (last : List ℕ) → AllByRecursion HasNoFeed (front ++ last ∷ [])
    → AllByRecursion HasNoFeed front × HasNoFeed last
each_before [] last h = (tt, h.0)
each_before (l ∷ ls) last h = let later = each_before ls last h.1 in ((h.0, later.0), later.1)

found : (bytes : List ℕ) (lines : List (List ℕ)) → AllByRecursion HasNoFeed lines → (bytes ≡ with_feeds lines)
    ⊎ LacksLastFeed bytes lines → lines_of bytes ≡ lines
found bytes lines h (inl e) = ap lines_of (e ∙ sym (append-nil (with_feeds lines))) ∙ after_feeds lines [] h
    ∙ append-nil lines
found bytes lines h (inr k) =
    let both = each_before k.front k.last (subst (AllByRecursion HasNoFeed) k.lines_are h) in
    ap lines_of k.bytes_are ∙ after_feeds k.front k.last both.0
    ∙ ap (λ (x : List (List ℕ)). k.front ++ x) (last_line k.last k.some both.1) ∙ sym k.lines_are

-- ---- the computed lines are lines of the bytes

feed_first : (bs : List ℕ) (ls : List (List ℕ)) → AreLinesOf bs ls → AreLinesOf (10 ∷ bs) ([] ∷ ls)
feed_first bs ls h = record { no_feed = (tt, h.no_feed); whole = by h.whole }
  where
    by : (bs ≡ with_feeds ls) ⊎ LacksLastFeed bs ls → (10 ∷ bs ≡ with_feeds ([] ∷ ls))
        ⊎ LacksLastFeed (10 ∷ bs) ([] ∷ ls)
    by (inl e) = inl (ap (λ (x : List ℕ). 10 ∷ x) e)
    by (inr k) = inr (record {
      front = [] ∷ k.front;
      last = k.last;
      lines_are = ap (λ (x : List (List ℕ)). [] ∷ x) k.lines_are;
      some = k.some;
      bytes_are = ap (λ (x : List ℕ). 10 ∷ x) k.bytes_are;
    })

none_left : (bs : List ℕ) → (bs ≡ with_feeds []) ⊎ LacksLastFeed bs [] → bs ≡ []
none_left bs (inl e) = e
none_left bs (inr k) = absurd (longer k.front k.lines_are)
  where
    longer : (front : List (List ℕ)) → [] ≡ front ++ k.last ∷ [] → ⊥
    longer [] e = absurd cc
    longer (f ∷ fs) e = absurd cc

only_byte : (b : ℕ) (bs : List ℕ) → b ≢ 10 → AreLinesOf bs [] → AreLinesOf (b ∷ bs) ((b ∷ []) ∷ [])
only_byte b bs other h = record {
  no_feed = ((other, tt), tt);
  whole = inr (record {
    front = [];
    last = b ∷ [];
    lines_are = refl;
    some = λ e. let n : 1 ≡ 0 = ap length e in absurd (omega (arith, n));
    bytes_are = ap (λ (x : List ℕ). b ∷ x) (none_left bs h.whole);
  });
}

longer_last : (b : ℕ) (bs l : List ℕ) (ls front : List (List ℕ)) (last : List ℕ) → last ≢ [] → l ∷ ls ≡ front
    ++ last ∷ [] → bs ≡ with_feeds front ++ last → LacksLastFeed (b ∷ bs) ((b ∷ l) ∷ ls)
longer_last b bs l ls [] last some lines bytes =
    let first : l ≡ last = cc in
    let none : ls ≡ [] = cc in
    record {
      front = [];
      last = b ∷ last;
      lines_are = rw (first, none) refl;
      some = λ e. let n : length (b ∷ last) ≡ 0 = ap length e in absurd (omega (arith, n));
      bytes_are = ap (λ (x : List ℕ). b ∷ x) bytes;
    }
longer_last b bs l ls (f ∷ fs) last some lines bytes =
    let first : l ≡ f = cc in
    let rest : ls ≡ fs ++ last ∷ [] = cc in
    record {
      front = (b ∷ f) ∷ fs;
      last = last;
      lines_are = rw (first, rest) refl;
      some = some;
      bytes_are = ap (λ (x : List ℕ). b ∷ x) bytes;
    }

byte_first : (b : ℕ) (bs : List ℕ) (ls : List (List ℕ)) → b ≢ 10 → AreLinesOf bs ls
    → AreLinesOf (b ∷ bs) (with_byte b ls)
byte_first b bs [] other h = only_byte b bs other h
byte_first b bs (l ∷ ls) other h = record { no_feed = ((other, h.no_feed.0), h.no_feed.1); whole = by h.whole }
  where
    by : (bs ≡ with_feeds (l ∷ ls)) ⊎ LacksLastFeed bs (l ∷ ls) → (b ∷ bs ≡ with_feeds ((b ∷ l) ∷ ls))
        ⊎ LacksLastFeed (b ∷ bs) ((b ∷ l) ∷ ls)
    by (inl e) = inl (ap (λ (x : List ℕ). b ∷ x) e)
    by (inr k) = inr (longer_last b bs l ls k.front k.last k.some k.lines_are k.bytes_are)

step : (b : ℕ) (bs : List ℕ) (is_feed : Bool) → (b == 10) ≡ is_feed → AreLinesOf bs (lines_of bs)
    → AreLinesOf (b ∷ bs) (if is_feed then [] ∷ lines_of bs else with_byte b (lines_of bs))
step b bs true e h = let feed : b ≡ 10 = eqb-true b 10 e in
    subst (λ (x : ℕ). AreLinesOf (x ∷ bs) ([] ∷ lines_of bs)) (sym feed) (feed_first bs (lines_of bs) h)
step b bs false e h = let other : b ≢ 10 = λ same. eqb-false b 10 e same in byte_first b bs (lines_of bs) other h

pub are_lines : (bytes : List ℕ) → AreLinesOf bytes (lines_of bytes)
are_lines [] = record { no_feed = tt; whole = inl refl }
are_lines (b ∷ bs) = step b bs (b == 10) refl (are_lines bs)

pub bytes_have_lines : BytesHaveLines
bytes_have_lines bytes lines = (
  λ h. found bytes lines h.no_feed h.whole,
  λ e. subst (λ (x : List (List ℕ)). AreLinesOf bytes x) e (are_lines bytes),
)

-- ---- vectors

-- an empty line, and a last one without a line feed
three_lines : AreLinesOf (97 ∷ 10 ∷ 10 ∷ 98 ∷ []) ((97 ∷ []) ∷ [] ∷ (98 ∷ []) ∷ [])
three_lines = are_lines (97 ∷ 10 ∷ 10 ∷ 98 ∷ [])

-- no line follows the last line feed
no_empty_last : AreLinesOf (97 ∷ 10 ∷ []) ((97 ∷ []) ∷ [] ∷ []) → ⊥
no_empty_last h =
    let found_are : (97 ∷ []) ∷ [] ≡ (97 ∷ []) ∷ [] ∷ [] =
    found (97 ∷ 10 ∷ []) ((97 ∷ []) ∷ [] ∷ []) h.no_feed h.whole in
    let n : 1 ≡ 2 = ap length found_are in
    absurd (omega (arith, n))
