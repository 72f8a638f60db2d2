-- A text has at most one fault, and lists nothing then.
use Rattle.plan_session.proofs.Words.{[], ◌++◌, ◌∙◌, ◌∷◌, ◌≡◌, ◌⊎◌, AllByRecursion, Begins, Byte, Err, EventFault}
use Rattle.plan_session.proofs.Words.{Expected, HasItemFault, HasOneItemFault, HoldsItems, IsFaultAfter, List, Memory}
use Rattle.plan_session.proofs.Words.{Number, Ok, ReportsFirstFault, ReportsItemFault, Result, ScriptFault, Token, ap}
use Rattle.plan_session.proofs.Words.{append-nil, append_assoc, cut_of, flat_map, inl, inr, lexemes_of, refl, subst}
use Rattle.plan_session.proofs.Words.{sym, word_at, ℕ}
use Rattle.plan_session.proofs.FaultyItems.{split_either, lexemes_join, shorter_front}

module _ {T : Type 0} (spelled : T → List (List ℕ)) (IsItem : T → Type 0) where
  same_fault : (text : List ℕ) (front : List (List ℕ)) (rest : List Token) (e f : EventFault)
      → IsFaultAfter spelled IsItem text front rest e → IsFaultAfter spelled IsItem text front rest f → e ≡ f
  same_fault text front [] (Expected p) (Expected q) h k = ap Expected (h.0 ∙ sym k.0)
  same_fault text front [] (Expected p) (Number q) h k = absurd k
  same_fault text front [] (Expected p) (Byte q) h k = absurd k
  same_fault text front [] (Expected p) Memory h k = absurd k
  same_fault text front [] (Number p) f h k = absurd h
  same_fault text front [] (Byte p) f h k = absurd h
  same_fault text front [] Memory f h k = absurd h
  same_fault text front (t ∷ ts) (Number p) (Number q) h k = ap Number (h.0 ∙ sym k.0)
  same_fault text front (t ∷ ts) (Number p) (Expected q) h k = absurd (h.3 (k.2 h.2))
  same_fault text front (t ∷ ts) (Number p) (Byte q) h k = absurd k
  same_fault text front (t ∷ ts) (Number p) Memory h k = absurd k
  same_fault text front (t ∷ ts) (Expected p) (Number q) h k = absurd (k.3 (h.2 k.2))
  same_fault text front (t ∷ ts) (Expected p) (Expected q) h k = ap Expected (h.0 ∙ sym k.0)
  same_fault text front (t ∷ ts) (Expected p) (Byte q) h k = absurd k
  same_fault text front (t ∷ ts) (Expected p) Memory h k = absurd k
  same_fault text front (t ∷ ts) (Byte p) f h k = absurd h
  same_fault text front (t ∷ ts) Memory f h k = absurd h

  -- no list of items begins with the tokens up to the one at fault
  not_past : (text : List ℕ) (front : List (List ℕ)) (t : Token) (ts : List Token) (e : EventFault)
      → IsFaultAfter spelled IsItem text front (t ∷ ts) e → Begins spelled IsItem (front ++ word_at text t ∷ []) → ⊥
  not_past text front t ts (Number p) h b = h.1 b
  not_past text front t ts (Expected p) h b = h.1 b
  not_past text front t ts (Byte p) h b = h
  not_past text front t ts Memory h b = h

  -- where a list of items begins with tokens, and then more, no fault is among these
  not_among : (text : List ℕ) (front z rest : List Token) (t : Token) (e : EventFault)
      → Begins spelled IsItem (lexemes_of text (front ++ t ∷ z))
      → IsFaultAfter spelled IsItem text (lexemes_of text front) (t ∷ rest) e → ⊥
  not_among text front z rest t e b h =
      let longer : lexemes_of text (front ++ t ∷ z) ≡ (lexemes_of text front ++ word_at text t ∷ [])
      ++ lexemes_of text z = lexemes_join text front (t ∷ z)
      ∙ sym (append_assoc (lexemes_of text front) (word_at text t ∷ []) (lexemes_of text z)) in
      not_past text (lexemes_of text front) t rest e h
      (shorter_front spelled IsItem (lexemes_of text front ++ word_at text t ∷ []) (lexemes_of text z)
      (subst (Begins spelled IsItem) longer b))

  by_split : (text : List ℕ) (e f : EventFault) (us vs xs ys z : List Token)
      → Begins spelled IsItem (lexemes_of text us) → IsFaultAfter spelled IsItem text (lexemes_of text us) vs e
      → IsFaultAfter spelled IsItem text (lexemes_of text xs) ys f
      → us ≡ xs ++ z → ys ≡ z ++ vs → e ≡ f
  by_split text e f us vs xs ys [] b h k front rest =
      let same : us ≡ xs = front ∙ append-nil xs in
      let there = subst (λ (l : List Token). IsFaultAfter spelled IsItem text (lexemes_of text l) vs e) same h in
      let here = subst (λ (l : List Token). IsFaultAfter spelled IsItem text (lexemes_of text xs) l f) rest k in
      same_fault text (lexemes_of text xs) vs e f there here
  by_split text e f us vs xs ys (t ∷ z) b h k front rest =
      absurd (not_among text xs z (z ++ vs) t f (rw (← front) b) (rw (← rest) k))

  by_either : (text : List ℕ) (tokens : List Token) (e f : EventFault) (h : HasItemFault spelled IsItem text tokens e)
      (k : HasItemFault spelled IsItem text tokens f)
      → ((z : List Token) × (h.front ≡ k.front ++ z) × (k.rest ≡ z ++ h.rest))
      ⊎ ((z : List Token) × (k.front ≡ h.front ++ z) × (h.rest ≡ z ++ k.rest)) → e ≡ f
  by_either text tokens e f h k (inl s) = by_split _ _ _ _ _ _ _ _ h.begins h.fault_is k.fault_is s.1 s.2
  by_either text tokens e f h k (inr s) = sym (by_split _ _ _ _ _ _ _ _ k.begins k.fault_is h.fault_is s.1 s.2)

  -- tokens have at most one fault
  one_of_tokens : (text : List ℕ) (tokens : List Token) (e f : EventFault) → HasItemFault spelled IsItem text tokens e
      → HasItemFault spelled IsItem text tokens f → e ≡ f
  one_of_tokens text tokens e f h k = by_either text _ e f h k (split_either _ _ _ _ (sym h.whole ∙ k.whole))

  one_by : (text : List ℕ) (e f : EventFault) (r : Result (List Token) ScriptFault) → cut_of text ≡ r
      → ReportsFirstFault text e → ReportsItemFault spelled IsItem text e → ReportsFirstFault text f
      → ReportsItemFault spelled IsItem text f → e ≡ f
  one_by text e f (Ok tokens) cut first h first_too k = one_of_tokens text tokens e f (h tokens cut) (k tokens cut)
  one_by text e f (Err fault) cut first h first_too k = first fault cut ∙ sym (first_too fault cut)

  -- ---- a text with a fault lists nothing

  not_listed : (text : List ℕ) (front rest : List Token) (e : EventFault) (items : List T)
      → IsFaultAfter spelled IsItem text (lexemes_of text front) rest e → AllByRecursion IsItem items
      → lexemes_of text (front ++ rest) ≡ flat_map spelled items → ⊥
  not_listed text front [] (Expected p) items h in_range all =
      h.1 items in_range (ap (lexemes_of text) (sym (append-nil front)) ∙ all)
  not_listed text front (t ∷ ts) e items h in_range all =
      let begins : Begins spelled IsItem (lexemes_of text (front ++ t ∷ ts)) = record
      { items = items; more = []; in_range = in_range; whole = sym all ∙ sym (append-nil (lexemes_of text _)) } in
      not_among text front ts ts t e begins h
  not_listed text front [] _ items h in_range all = h

  none_by : (text : List ℕ) (e : EventFault) (items : List T) (h : HoldsItems spelled IsItem text items)
      → HasItemFault spelled IsItem text h.tokens e → ⊥
  none_by text e items h f = not_listed _ _ _ _ _ f.fault_is h.in_range (ap (lexemes_of text) (sym f.whole) ∙ h.lexemes)

  pub has_one_fault : HasOneItemFault spelled IsItem
  has_one_fault = record {
    one = λ text e f first h first_too k. one_by text e f (cut_of text) refl first h first_too k;
    none = λ text e items h holds. none_by text e items holds (h holds.tokens holds.cut);
  }
