-- Where an item can't be read: at its first token, at a number, or at a level.
use Rattle.plan_session.proofs.Words.{[], ◌<◌, ◌∙◌, ◌∷◌, ◌≡◌, ◌≢◌, ◌≤◌, Bool, IsAtomNext, IsDigits, IsNoLevel}
use Rattle.plan_session.proofs.Words.{IsNoNumber, IsWrongAfter, IsWrongItem, List, Wrong, all_ascii_digits, ap, arith}
use Rattle.plan_session.proofs.Words.{decimal, decimal_nonempty, digits_decimal, false, level_text, refl, subst, sym}
use Rattle.plan_session.proofs.Words.{true, ℕ}
use Rattle.script_tokens.proofs.Digits.{own}
use Rattle.script_tokens.specs.Keywords.{letters}

-- ---- digits

pub digits_of_number : (n : ℕ) → n < 1000000000 → IsDigits (decimal n)
digits_of_number n small = record {
  some = decimal_nonempty n (omega (arith, small));
  digits = digits_decimal own n (omega (arith, small));
}

no_level_of_digits : (closed : Bool) (d : List ℕ) → IsDigits d → d ≡ level_text closed → ⊥
unfolding letters
no_level_of_digits true d h e = let none : true ≡ false = sym h.digits ∙ ap all_ascii_digits e in absurd cc
no_level_of_digits false d h e = let none : true ≡ false = sym h.digits ∙ ap all_ascii_digits e in absurd cc

module _ {T : Type 0} (spelled : T → List (List ℕ)) (IsItem : T → Type 0) where
  -- ---- the first token

  pub none_first : (item : T) (next : List ℕ) (more words : List (List ℕ)) (wrong : Wrong) → IsItem item
      → spelled item ≡ next ∷ more → words ≡ [] → wrong.index ≡ 0 → wrong.is_number ≡ false
      → IsWrongItem spelled IsItem words wrong
  none_first item next more words wrong is begins none index name = record {
    front = [];
    rest = [];
    whole = none;
    index = index;
    item = item;
    is = is;
    next = next;
    more = more;
    begins = begins;
    after = name;
  }

  -- no item begins with the first token, and none with a number
  pub other_first : (item : T) (next word : List ℕ) (more rest words : List (List ℕ)) (wrong : Wrong) → IsItem item
      → spelled item ≡ next ∷ more → words ≡ word ∷ rest
      → ((t : T) (others : List (List ℕ)) → spelled t ≢ word ∷ others)
      → ((t : T) (d : List ℕ) (others : List (List ℕ)) → IsDigits d → spelled t ≢ d ∷ others)
      → wrong.index ≡ 0 → wrong.is_number ≡ false → IsWrongItem spelled IsItem words wrong
  other_first item next word more rest words wrong is begins cut other digits index name = record {
    front = [];
    rest = word ∷ rest;
    whole = cut;
    index = index;
    item = item;
    is = is;
    next = next;
    more = more;
    begins = begins;
    after = rw name (λ b. other b.0 b.1 b.3, λ d h b. absurd (digits b.0 d b.1 h b.3));
  }

  -- ---- a number

  number_after : (key : List ℕ) (low high n : ℕ) (item : T) (more : List (List ℕ)) → IsItem item
      → spelled item ≡ key ∷ decimal n ∷ more → n < 1000000000 → high < 1000000000
      → ((t : T) (w : List ℕ) (m : List (List ℕ)) → IsItem t → spelled t ≡ key ∷ w ∷ m → (k : ℕ) × (low ≤ k)
      × (k ≤ high) × (w ≡ decimal k))
      → (words : List (List ℕ)) (b : Bool) → IsAtomNext words b
      → ((k : ℕ) (rest : List (List ℕ)) → low ≤ k → k ≤ high → k < 1000000000 → words ≢ decimal k ∷ rest)
      → IsWrongAfter spelled IsItem (key ∷ []) words b
  number_after key low high n item more is begins small few only [] b a none = a
  number_after key low high n item more is begins small few only (w ∷ ws) true a none = (
    λ b. let k = only b.0 w b.1 b.2 b.3 in
        none k.0 ws k.1 k.2 (omega (arith, k.2, few)) (ap (λ (x : List ℕ). x ∷ ws) k.3),
    ((decimal n, digits_of_number n small, (item, more, is, begins)), a),
  )
  number_after key low high n item more is begins small few only (w ∷ ws) false a none = (
    λ b. let k = only b.0 w b.1 b.2 b.3 in
        none k.0 ws k.1 k.2 (omega (arith, k.2, few)) (ap (λ (x : List ℕ). x ∷ ws) k.3),
    λ d h b. a,
  )

  -- after this keyword a number is wanted
  pub number_wrong : (key : List ℕ) (low high n : ℕ) (item : T) (more : List (List ℕ)) → IsItem item
      → spelled item ≡ key ∷ decimal n ∷ more → n < 1000000000 → high < 1000000000
      → ((t : T) (w : List ℕ) (m : List (List ℕ)) → IsItem t → spelled t ≡ key ∷ w ∷ m → (k : ℕ) × (low ≤ k)
      × (k ≤ high) × (w ≡ decimal k))
      → (words : List (List ℕ)) (wrong : Wrong) → IsNoNumber low high words wrong
      → IsWrongItem spelled IsItem (key ∷ words) wrong
  number_wrong key low high n item more is begins small few only words wrong h = record {
    front = key ∷ [];
    rest = words;
    whole = refl;
    index = h.index;
    item = item;
    is = is;
    next = decimal n;
    more = more;
    begins = begins;
    after = number_after key low high n item more is begins small few only words wrong.is_number h.atom h.none;
  }

  -- ---- a level

  level_after : (key contact : List ℕ)
      → ((t : T) (d w : List ℕ) (m : List (List ℕ)) → spelled t ≡ key ∷ d ∷ w ∷ m → (closed : Bool)
      × (w ≡ level_text closed))
      → (rest : List (List ℕ)) (b : Bool) → b ≡ false
      → ((closed : Bool) (others : List (List ℕ)) → rest ≢ level_text closed ∷ others)
      → IsWrongAfter spelled IsItem (key ∷ contact ∷ []) rest b
  level_after key contact only [] b name none = name
  level_after key contact only (w ∷ ws) b name none =
      subst (IsWrongAfter spelled IsItem (key ∷ contact ∷ []) (w ∷ ws)) (sym name) (
        λ x. let l = only x.0 contact w x.1 x.3 in none l.0 ws (ap (λ (y : List ℕ). y ∷ ws) l.1),
        λ d h x. let l = only x.0 contact d x.1 x.3 in absurd (no_level_of_digits l.0 d h l.1),
      )

  -- after this keyword and a contact a level is wanted
  pub level_wrong : (key : List ℕ) (item_of : ℕ → T) → ((c : ℕ) → c < 16 → IsItem (item_of c))
      → ((c : ℕ) → spelled (item_of c) ≡ key ∷ decimal c ∷ level_text true ∷ [])
      → ((t : T) (d w : List ℕ) (m : List (List ℕ)) → spelled t ≡ key ∷ d ∷ w ∷ m → (closed : Bool)
      × (w ≡ level_text closed))
      → (words : List (List ℕ)) (wrong : Wrong) → IsNoLevel words wrong → IsWrongItem spelled IsItem (key ∷ words) wrong
  level_wrong key item_of in_range spells only words wrong h = record {
    front = key ∷ decimal h.contact ∷ [];
    rest = h.rest;
    whole = ap (λ (l : List (List ℕ)). key ∷ l) h.whole;
    index = h.index;
    item = item_of h.contact;
    is = in_range h.contact h.low;
    next = level_text true;
    more = [];
    begins = spells h.contact;
    after = level_after key (decimal h.contact) only h.rest wrong.is_number h.name h.none;
  }
