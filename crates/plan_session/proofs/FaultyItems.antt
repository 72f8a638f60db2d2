-- Where tokens stop spelling items: within the first item that can't be read.
use Rattle.plan_session.proofs.Words.{[], ◌++◌, ◌∙◌, ◌∷◌, ◌≡◌, ◌≢◌, ◌⊎◌, AllByRecursion, AreUnique, Begins, BeginsItem}
use Rattle.plan_session.proofs.Words.{Bool, EventFault, Expected, HasItemFault, HasLexemes, IsFaultAfter}
use Rattle.plan_session.proofs.Words.{IsWrongAfter, IsWrongItem, List, Number, Token, WantsNumber}
use Rattle.plan_session.proofs.Words.{Wrong, ap, append-nil, append_assoc, arith, false, fault_at}
use Rattle.plan_session.proofs.Words.{flat_map, inl, inr, length, lexemes_of, named_fault, position_or_end, refl}
use Rattle.plan_session.proofs.Words.{reported_fault, slice_get, subst, sym, true, word_at, ℕ}

-- ---- lists of tokens

-- where two lists begin alike, one of them begins with the other
pub split_either : {X : Type 0} (xs us ys vs : List X) → xs ++ ys ≡ us ++ vs
    → ((z : List X) × (xs ≡ us ++ z) × (vs ≡ z ++ ys)) ⊎ ((z : List X) × (us ≡ xs ++ z) × (ys ≡ z ++ vs))
split_either xs [] ys vs e = inl (xs, refl, sym e)
split_either [] (u ∷ us) ys vs e = inr (u ∷ us, refl, e)
split_either {X} (x ∷ xs) (u ∷ us) ys vs e =
    let head : x ≡ u = cc in
    both head (split_either xs us ys vs cc)
  where
    both : x ≡ u → ((z : List X) × (xs ≡ us ++ z) × (vs ≡ z ++ ys)) ⊎ ((z : List X) × (us ≡ xs ++ z) × (ys ≡ z ++ vs))
        → ((z : List X) × (x ∷ xs ≡ (u ∷ us) ++ z) × (vs ≡ z ++ ys))
        ⊎ ((z : List X) × (u ∷ us ≡ (x ∷ xs) ++ z) × (ys ≡ z ++ vs))
    both head (inl h) = let rest = h.1 in inl (h.0, cc (head, rest), h.2)
    both head (inr h) = let rest = h.1 in inr (h.0, cc (head, rest), h.2)

not_empty_after : (front : List (List ℕ)) (w : List ℕ) (more : List (List ℕ)) → front ++ w ∷ more ≢ []
not_empty_after [] w more e = absurd cc
not_empty_after (x ∷ xs) w more e = absurd cc

pub lexemes_join : (text : List ℕ) (ts us : List Token) → lexemes_of text (ts ++ us) ≡ lexemes_of text ts
    ++ lexemes_of text us
lexemes_join text [] us = refl
lexemes_join text (t ∷ ts) us = ap (λ (l : List (List ℕ)). word_at text t ∷ l) (lexemes_join text ts us)

-- tokens, cut where their bytes are cut
pub record IsSplit (text : List ℕ) (tokens : List Token) (front rest : List (List ℕ)) : Type 0 where
  pub before : List Token
  pub after : List Token
  pub whole : tokens ≡ before ++ after
  pub front_is : lexemes_of text before ≡ front
  pub rest_is : lexemes_of text after ≡ rest

pub split_tokens : (text : List ℕ) (tokens : List Token) (front rest : List (List ℕ)) → lexemes_of text tokens ≡ front
    ++ rest → IsSplit text tokens front rest
split_tokens text tokens [] rest e = record { before = []; after = tokens; whole = refl; front_is = refl; rest_is = e }
split_tokens text [] (w ∷ ws) rest e = absurd cc
split_tokens text (t ∷ ts) (w ∷ ws) rest e =
    let s = split_tokens text ts ws rest cc in
    record {
      before = t ∷ s.before;
      after = s.after;
      whole = ap (λ (l : List Token). t ∷ l) s.whole;
      front_is = ap (λ (l : List (List ℕ)). word_at text t ∷ l) s.front_is ∙ ap (λ (x : List ℕ). x ∷ ws) cc;
      rest_is = s.rest_is;
    }

pub get_after : (before after : List Token) → slice_get (before ++ after) (length before) ≡ slice_get after 0
get_after [] after = refl
get_after (t ∷ ts) after = get_after ts after

pub count_lexemes : (text : List ℕ) (ts : List Token) → length (lexemes_of text ts) ≡ length ts
count_lexemes text [] = refl
count_lexemes text (t ∷ ts) = omega (arith, count_lexemes text ts)

-- ---- beginnings of lists of items

module _ {T : Type 0} (spelled : T → List (List ℕ)) (IsItem : T → Type 0) where
  pub to_list : (front : List (List ℕ)) → BeginsItem spelled IsItem front → Begins spelled IsItem front
  to_list front b = record {
    items = b.0 ∷ [];
    more = b.1;
    in_range = (b.2, tt);
    whole = append-nil (spelled b.0)
        ∙ b.3;
  }

  pub shorter_front : (front more : List (List ℕ)) → Begins spelled IsItem (front ++ more) → Begins spelled IsItem front
  shorter_front front more b =
      record {
        items = b.items;
        more = more ++ b.more;
        in_range = b.in_range;
        whole = b.whole ∙ append_assoc front more _;
      }

  pub begins_none : Begins spelled IsItem []
  begins_none = record { items = []; more = []; in_range = tt; whole = refl }

module _ {T : Type 0} (spelled : T → List (List ℕ)) (IsItem : T → Type 0) (unique : AreUnique spelled IsItem)
    (has : HasLexemes spelled) where
  -- no item begins with a whole other one
  not_within : (item s : T) (z more : List (List ℕ)) (next : List ℕ) → IsItem item → IsItem s → spelled item ≡ spelled s
      ++ (z ++ next ∷ more) → ⊥
  not_within item s z more next is h e =
      not_empty_after z next more (sym (unique item s [] (z ++ next ∷ more) is h (append-nil (spelled item) ∙ e)).1)

  -- where an item goes on, no list of items ends
  pub not_ended : (item : T) (front more : List (List ℕ)) (next : List ℕ) (items : List T) → IsItem item
      → spelled item ≡ front ++ next ∷ more → front ≢ [] → AllByRecursion IsItem items → front ≢ flat_map spelled items
  not_ended item front more next [] is e some h f = some f
  not_ended item front more next (s ∷ ss) is e some h f =
      not_within item s (flat_map spelled ss) more next is h.0
      (e ∙ ap (λ (l : List (List ℕ)). l ++ next ∷ more) f
      ∙ append_assoc (spelled s) (flat_map spelled ss) (next ∷ more))

  -- within an item, what a list can go on with the item can
  item_of_list : (item s : T) (front more flat x : List (List ℕ)) (next w : List ℕ) → IsItem item → IsItem s
      → spelled item ≡ front ++ next ∷ more
      → ((z : List (List ℕ)) × (spelled s ≡ front ++ z) × (w ∷ x ≡ z ++ flat))
      ⊎ ((z : List (List ℕ)) × (front ≡ spelled s ++ z) × (flat ≡ z ++ w ∷ x))
      → BeginsItem spelled IsItem (front ++ w ∷ [])
  item_of_list item s front more flat x next w is h e (inr f) =
      absurd (not_within item s f.0 more next is h (e ∙ ap (λ (l : List (List ℕ)). l ++ next ∷ more) f.1
      ∙ append_assoc (spelled s) f.0 (next ∷ more)))
  item_of_list item s front more flat x next w is h e (inl ([], f, g)) =
      absurd (not_within item s [] more next is h
      (e ∙ ap (λ (l : List (List ℕ)). l ++ next ∷ more) (sym (append-nil front) ∙ sym f)))
  item_of_list item s front more flat x next w is h e (inl (y ∷ ys, f, g)) =
      let head : y ≡ w = cc in
      (s, ys, h, f ∙ ap (λ (v : List ℕ). front ++ v ∷ ys) head ∙ sym (append_assoc front (w ∷ []) ys))

  by_items : (item : T) (front more x : List (List ℕ)) (next w : List ℕ) (items : List T) → IsItem item
      → spelled item ≡ front ++ next ∷ more → AllByRecursion IsItem items → flat_map spelled items ≡ (front ++ w ∷ [])
      ++ x → BeginsItem spelled IsItem (front ++ w ∷ [])
  by_items item front more x next w [] is e h f =
      absurd (not_empty_after front w x (sym (append_assoc front (w ∷ []) x) ∙ sym f))
  by_items item front more x next w (s ∷ ss) is e h f =
      item_of_list _ _ _ _ _ _ _ _ is h.0 e (split_either _ _ _ _ (f ∙ append_assoc front (w ∷ []) x))

  pub from_list : (item : T) (front more : List (List ℕ)) (next w : List ℕ) → IsItem item → spelled item ≡ front
      ++ next ∷ more → Begins spelled IsItem (front ++ w ∷ []) → BeginsItem spelled IsItem (front ++ w ∷ [])
  from_list item front more next w is e b = by_items item front more b.more next w b.items is e b.in_range b.whole

  -- ---- after an item

  longer : (s : T) (x : List (List ℕ)) → IsItem s → Begins spelled IsItem x → Begins spelled IsItem (spelled s ++ x)
  longer s x is b = record {
    items = s ∷ b.items;
    more = b.more;
    in_range = (is, b.in_range);
    whole = ap (λ (l : List (List ℕ)). spelled s ++ l) b.whole ∙ sym (append_assoc (spelled s) x b.more);
  }

  without : (s : T) (x more : List (List ℕ)) (items : List T) → IsItem s → AllByRecursion IsItem items
      → flat_map spelled items ≡ (spelled s ++ x) ++ more → Begins spelled IsItem x
  without s x more [] is h e = absurd (has s (x ++ more) (sym (append_assoc (spelled s) x more) ∙ sym e))
  without s x more (t ∷ ts) is h e =
      let both = unique t s (flat_map spelled ts) (x ++ more) h.0 is (e ∙ append_assoc (spelled s) x more) in
      record { items = ts; more = more; in_range = h.1; whole = both.1 }

  shorter : (s : T) (x : List (List ℕ)) → IsItem s → Begins spelled IsItem (spelled s ++ x) → Begins spelled IsItem x
  shorter s x is b = without s x b.more b.items is b.in_range b.whole

  next_longer : (s : T) (x : List (List ℕ)) (w : List ℕ) → IsItem s → Begins spelled IsItem (x ++ w ∷ [])
      → Begins spelled IsItem ((spelled s ++ x) ++ w ∷ [])
  next_longer s x w is b = rw (append_assoc (spelled s) x (w ∷ [])) (longer s (x ++ w ∷ []) is b)

  next_shorter : (s : T) (x : List (List ℕ)) (w : List ℕ) → IsItem s
      → Begins spelled IsItem ((spelled s ++ x) ++ w ∷ []) → Begins spelled IsItem (x ++ w ∷ [])
  next_shorter s x w is b = shorter s (x ++ w ∷ []) is (rw (← append_assoc (spelled s) x (w ∷ [])) b)

  wants_longer : (s : T) (x : List (List ℕ)) → IsItem s → WantsNumber spelled IsItem x
      → WantsNumber spelled IsItem (spelled s ++ x)
  wants_longer s x is n = record { number = n.number; digits = n.digits; begins = next_longer s x n.number is n.begins }

  wants_shorter : (s : T) (x : List (List ℕ)) → IsItem s → WantsNumber spelled IsItem (spelled s ++ x)
      → WantsNumber spelled IsItem x
  wants_shorter s x is n = record {
    number = n.number;
    digits = n.digits;
    begins = next_shorter s x n.number is n.begins;
  }

  not_ended_later : (s : T) (x : List (List ℕ)) (items : List T) → IsItem s
      → ((others : List T) → AllByRecursion IsItem others → x ≢ flat_map spelled others) → AllByRecursion IsItem items
      → spelled s ++ x ≢ flat_map spelled items
  not_ended_later s x [] is none h e = has s x e
  not_ended_later s x (t ∷ ts) is none h e = let both = unique s t x (flat_map spelled ts) is h.0 e in
      none ts h.1 both.1

  fault_later : (text : List ℕ) (s : T) (front : List (List ℕ)) (rest : List Token) (e : EventFault) → IsItem s
      → IsFaultAfter spelled IsItem text front rest e → IsFaultAfter spelled IsItem text (spelled s ++ front) rest e
  fault_later text s front [] (Expected p) is f = (f.0, λ items h. not_ended_later s front items is f.1 h)
  fault_later text s front (t ∷ ts) (Number p) is f =
      (f.0, λ b. f.1 (next_shorter s front (word_at text t) is b), wants_longer s front is f.2, f.3)
  fault_later text s front (t ∷ ts) (Expected p) is f =
      (f.0, λ b. f.1 (next_shorter s front (word_at text t) is b), λ n. f.2 (wants_shorter s front is n))
  fault_later text s front _ _ is f = f

  -- the fault of the tokens after an item
  pub fault_after_item : (text : List ℕ) (s : T) (tokens later : List Token) (e : EventFault) → IsItem s
      → lexemes_of text tokens ≡ spelled s → HasItemFault spelled IsItem text later e
      → HasItemFault spelled IsItem text (tokens ++ later) e
  fault_after_item text s tokens later e is spells f =
      let front = lexemes_join text tokens f.front ∙ ap (λ (l : List (List ℕ)). l ++ lexemes_of text f.front) spells in
      record {
        front = tokens ++ f.front;
        rest = f.rest;
        whole = ap (λ (l : List Token). tokens ++ l) f.whole ∙ sym (append_assoc tokens f.front f.rest);
        begins = subst (Begins spelled IsItem) (sym front) (longer s (lexemes_of text f.front) is f.begins);
        fault_is = rw front (fault_later text s (lexemes_of text f.front) f.rest e is f.fault_is);
      }

  -- ---- within an item

  fault_here : (text : List ℕ) (item : T) (front more : List (List ℕ)) (next : List ℕ) (after later : List Token)
      (b : Bool) → IsItem item → spelled item ≡ front ++ next ∷ more
      → IsWrongAfter spelled IsItem front (lexemes_of text after) b
      → (after ≡ [] → front ≢ []) → (after ≡ [] → later ≡ [])
      → IsFaultAfter spelled IsItem text front (after ++ later)
      (reported_fault (named_fault b (position_or_end text (slice_get after 0))))
  fault_here text item front more next [] later true is begins wrong some last = absurd cc
  fault_here text item front more next [] later false is begins wrong some last =
      rw (last refl) (refl, λ items h. not_ended item front more next items is begins (some refl) h)
  fault_here text item front more next (t ∷ ts) later true is begins wrong some last = (
    refl,
    λ b. wrong.0 (from_list item front more next (word_at text t) is begins b),
    record {
      number = wrong.1.0.0;
      digits = wrong.1.0.1;
      begins = to_list spelled IsItem (front ++ wrong.1.0.0 ∷ []) wrong.1.0.2;
    },
    wrong.1.1,
  )
  fault_here text item front more next (t ∷ ts) later false is begins wrong some last = (
    refl,
    λ b. wrong.0 (from_list item front more next (word_at text t) is begins b),
    λ n. wrong.1 n.number n.digits (from_list item front more next n.number is begins n.begins),
  )

  -- the fault of tokens that begin with an item that can't be read
  pub fault_in_item : (text : List ℕ) (tokens later : List Token) (wrong : Wrong) → tokens ≢ []
      → IsWrongItem spelled IsItem (lexemes_of text tokens) wrong → (wrong.index ≡ length tokens → later ≡ [])
      → HasItemFault spelled IsItem text (tokens ++ later) (reported_fault (fault_at text tokens wrong))
  fault_in_item text tokens later wrong some w last =
      let s = split_tokens text tokens w.front w.rest w.whole in
      let index = w.index ∙ ap (λ (l : List (List ℕ)). length l) (sym s.front_is) ∙ (count_lexemes text s.before) in
      let found : slice_get tokens wrong.index ≡ slice_get s.after 0 =
      cc (index, s.whole, get_after s.before s.after) in
      let begins = w.begins ∙ ap (λ (l : List (List ℕ)). l ++ w.next ∷ w.more) (sym s.front_is) in
      let after : IsWrongAfter spelled IsItem (lexemes_of text s.before) (lexemes_of text s.after) wrong.is_number =
      rw s.front_is (rw s.rest_is w.after) in
      let whole : s.after ≡ [] → tokens ≡ s.before = λ none. s.whole ∙ ap (λ (l : List Token). s.before ++ l) none
      ∙ append-nil s.before in
      let here = fault_here _ _ _ _ _ _ _ _ w.is begins after (λ none e. some (whole none ∙ none_before s.before e))
      (λ none. last (index ∙ ap (λ (l : List Token). length l) (sym (whole none)))) in
      record {
        front = s.before;
        rest = s.after ++ later;
        whole = ap (λ (l : List Token). l ++ later) s.whole ∙ append_assoc s.before s.after later;
        begins = to_list spelled IsItem (lexemes_of text s.before) (w.item, w.next ∷ w.more, w.is, begins);
        fault_is = rw found here;
      }
    where
      none_before : (ts : List Token) → lexemes_of text ts ≡ [] → ts ≡ []
      none_before [] e = refl
      none_before (t ∷ ts) e = absurd cc
