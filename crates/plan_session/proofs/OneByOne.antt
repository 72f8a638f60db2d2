-- Items that are read one by one from the tokens that are left.
use Rattle.plan_session.proofs.Words.{[], ◌++◌, ◌+◌, ◌∙◌, ◌∷◌, ◌≡◌, ◌≢◌, ◌≤◌, ◌⊎◌, Advances, AllByRecursion, AreUnique}
use Rattle.plan_session.proofs.Words.{AreWithin, Err, EventFault, FindsItem, FindsNext, HasFaultLeft, HasItemFault}
use Rattle.plan_session.proofs.Words.{HasLexemes, HasNoTokens, HoldsItems, IsWrongItem, List, Lists, NO_LIMITS, None}
use Rattle.plan_session.proofs.Words.{Ok, Option, PassesItem, ReadsItem, ReportsItemFault, Result, Scan, ScriptFault}
use Rattle.plan_session.proofs.Words.{Some, TakesItem, Token, Wrong, added, all_added, ap, append-nil, append_assoc}
use Rattle.plan_session.proofs.Words.{arith, as_lexemes, bytes_left, first_position, flat_map, inl, inr, length}
use Rattle.plan_session.proofs.Words.{length-append, lexemes_left, lexemes_of, preceded, refl, reported_fault, subst}
use Rattle.plan_session.proofs.Words.{sym, tokens_left, ℕ}
use Rattle.plan_session.proofs.FaultyItems.{count_lexemes, fault_after_item, fault_in_item}

-- ---- tokens before others

pub added_join : (ts us : List Token) (r : Result (List Token) ScriptFault)
    → all_added ts (all_added us r) ≡ all_added (ts ++ us) r
added_join [] us r = refl
added_join (t ∷ ts) us r = ap (added t) (added_join ts us r)

lexemes_of_added : (text : List ℕ) (t : Token) (r : Result (List Token) ScriptFault)
    → as_lexemes text (added t r) ≡ preceded (lexemes_of text (t ∷ [])) (as_lexemes text r)
lexemes_of_added text t (Ok ts) = refl
lexemes_of_added text t (Err e) = refl

preceded_twice : (xs ys : List (List ℕ)) (r : Result (List (List ℕ)) ScriptFault)
    → preceded xs (preceded ys r) ≡ preceded (xs ++ ys) r
preceded_twice xs ys (Ok zs) = ap (λ (l : List (List ℕ)). Ok l) (sym (append_assoc xs ys zs))
preceded_twice xs ys (Err e) = refl

preceded_none : (r : Result (List (List ℕ)) ScriptFault) → r ≡ preceded [] r
preceded_none (Ok zs) = refl
preceded_none (Err e) = refl

-- the tokens that come first, as their bytes
pub lexemes_of_all : (text : List ℕ) (ts : List Token) (r : Result (List Token) ScriptFault)
    → as_lexemes text (all_added ts r) ≡ preceded (lexemes_of text ts) (as_lexemes text r)
lexemes_of_all text [] r = preceded_none (as_lexemes text r)
lexemes_of_all text (t ∷ ts) r =
    lexemes_of_added text t (all_added ts r) ∙ ap (preceded (lexemes_of text (t ∷ []))) (lexemes_of_all text ts r)
    ∙ preceded_twice (lexemes_of text (t ∷ [])) (lexemes_of text ts) (as_lexemes text r)

pub within_join : (n : ℕ) (ts us : List Token) → AreWithin n ts → AreWithin n us → AreWithin n (ts ++ us)
within_join n [] us h k = k
within_join n (t ∷ ts) us h k = (h.0, h.1, within_join n ts us h.2 k)

-- a fault after tokens is the result
pub added_fault : (ts : List Token) (e : ScriptFault) → all_added ts (Err e) ≡ Err e
added_fault [] e = refl
added_fault (t ∷ ts) e = ap (added t) (added_fault ts e)

pub added_end : (ts : List Token) → all_added ts (Ok []) ≡ Ok ts
added_end [] = refl
added_end (t ∷ ts) = ap (added t) (added_end ts)

added_before : (t : Token) (ts : List Token) (r mid : Result (List Token) ScriptFault) (all : List Token)
    → ((us : List Token) → mid ≡ Ok us → (rest : List Token) × (r ≡ Ok rest) × (us ≡ ts ++ rest))
    → added t mid ≡ Ok all → (rest : List Token) × (r ≡ Ok rest) × (all ≡ (t ∷ ts) ++ rest)
added_before t ts r (Err f) all on e = absurd cc
added_before t ts r (Ok us) all on e =
    let o = on us refl in
    (o.0, o.1, cc e)

all_after : (ts : List Token) (r : Result (List Token) ScriptFault) (all : List Token) → all_added ts r ≡ Ok all
    → (rest : List Token) × (r ≡ Ok rest) × (all ≡ ts ++ rest)
all_after [] r all e = (all, e, refl)
all_after (t ∷ ts) r all e = added_before t ts r (all_added ts r) all (λ us is. all_after ts r us is) e

lexemes_after : (xs : List (List ℕ)) (r : Result (List (List ℕ)) ScriptFault) (all : List (List ℕ))
    → preceded xs r ≡ Ok all → (rest : List (List ℕ)) × (r ≡ Ok rest) × (xs ++ rest ≡ all)
lexemes_after xs (Ok rest) all e = (rest, refl, cc)
lexemes_after xs (Err f) all e = absurd cc

tokens_of_left : (text : List ℕ) (r : Result (List Token) ScriptFault) (all : List (List ℕ))
    → as_lexemes text r ≡ Ok all → (ts : List Token) × (r ≡ Ok ts) × (lexemes_of text ts ≡ all)
tokens_of_left text (Ok ts) all e = (ts, refl, cc)
tokens_of_left text (Err f) all e = absurd cc

-- ---- taking tokens

-- this many tokens were taken
pub record IsTaken (count : ℕ) (old new : Scan) (tokens : List Token) : Type 0 where
  pub text : new.text ≡ old.text
  pub left : tokens_left old ≡ all_added tokens (tokens_left new)
  pub within : AreWithin (length old.text) tokens
  pub number : length tokens ≡ count
  pub bytes : bytes_left new ≤ bytes_left old

pub one_taken : (i : ℕ) (old mid new : Scan) (ts : List Token) (t : Token) → IsTaken i old mid ts
    → FindsNext mid new (Ok (Some t)) → Advances mid new → IsTaken (i + 1) old new (ts ++ t ∷ [])
one_taken i old mid new ts t h f a = record {
  text = a.text ∙ h.text;
  left = h.left ∙ ap (all_added ts) f.0 ∙ added_join ts (t ∷ []) (tokens_left new);
  within = within_join (length old.text) ts (t ∷ []) h.within (f.1, rw (← h.text) f.2, tt);
  number = length-append ts (t ∷ []) ∙ omega (arith, h.number);
  bytes = omega (arith, f.3, h.bytes);
}

pub no_tokens_by : (i : ℕ) (old mid new : Scan) (ts : List Token) (e : ScriptFault) → IsTaken i old mid ts
    → FindsNext mid new (Err e) → HasNoTokens old
no_tokens_by i old mid new ts e h f = λ tokens is. let all =
    sym (h.left ∙ ap (all_added ts) f.0 ∙ added_fault ts e) ∙ is in absurd (cc all)

-- ---- an item

head_of : (w : List ℕ) (ws xs rest : List (List ℕ)) → w ∷ ws ≡ xs ++ rest → xs ≢ [] → (tail : List (List ℕ))
    × (xs ≡ w ∷ tail) × (ws ≡ tail ++ rest)
head_of w ws [] rest e some = absurd (some refl)
head_of w ws (x ∷ xs) rest e some = (xs, cc, cc)

same_front : (xs us ys vs : List (List ℕ)) → length xs ≡ length us → xs ++ ys ≡ us ++ vs → xs ≡ us
same_front [] [] ys vs n e = refl
same_front (x ∷ xs) (u ∷ us) ys vs n e =
    let tail = same_front xs us ys vs (omega (arith, n)) cc in
    cc tail
same_front _ _ ys vs n e = absurd (omega (arith, n))

no_items_empty : (xs : List (List ℕ)) → length xs ≡ 0 → xs ≡ []
no_items_empty [] n = refl
no_items_empty (x ∷ xs) n = absurd (omega (arith, n))

module _ {T : Type 0} (spelled : T → List (List ℕ)) (IsItem : T → Type 0) where
  pub nothing_listed : (s : Scan) (items : List T) → HasNoTokens s → Lists spelled IsItem s items → ⊥
  nothing_listed s items none l = let left = tokens_of_left s.text (tokens_left s) (flat_map spelled items) l.left in
      none left.0 left.1

  -- the first token, and those that an item that begins with it can have
  pub record Window (old new : Scan) (first : Token) (more : List Token) (count : ℕ) (word : List ℕ) : Type 0 where
    pub text : new.text ≡ old.text
    pub left : tokens_left old ≡ all_added (first ∷ more) (tokens_left new)
    pub most : length more ≤ count
    pub all : (length more ≡ count) ⊎ (tokens_left new ≡ Ok [])
    pub word_is : lexemes_of old.text (first ∷ []) ≡ word ∷ []
    pub counts : (item : T) (rest : List (List ℕ)) → spelled item ≡ word ∷ rest → length rest ≡ count

  words_of : (old new : Scan) (first : Token) (more : List Token) (count : ℕ) (word : List ℕ)
      → Window old new first more count word → lexemes_of old.text (first ∷ more) ≡ word ∷ lexemes_of old.text more
  words_of old new first more count word w = let one = w.word_is in
      ap (λ (l : List (List ℕ)). l ++ lexemes_of old.text more) one

  left_by : (old new : Scan) (first : Token) (more : List Token) (count : ℕ) (word : List ℕ)
      → Window old new first more count word → lexemes_left old
      ≡ preceded (lexemes_of old.text (first ∷ more)) (lexemes_left new)
  left_by old new first more count word w =
      cc (w.left, lexemes_of_all old.text (first ∷ more) (tokens_left new), w.text)

  pub item_found : (old new : Scan) (first : Token) (more : List Token) (count : ℕ) (word : List ℕ) (item : T)
      → HasLexemes spelled → Window old new first more count word
      → ReadsItem spelled IsItem old.text (first ∷ more) (Ok item) → IsItem item
      × (lexemes_left old ≡ preceded (spelled item) (lexemes_left new)) × PassesItem spelled old new item
  item_found old new first more count word item has w r =
      let words = words_of old new first more count word w in
      let front = head_of _ _ _ _ (sym words ∙ r.1.1) (λ e. has item [] (ap (λ (l : List (List ℕ)). l ++ []) e)) in
      let size = w.counts item front.0 front.1 in
      let whole = ap (λ (l : List (List ℕ)). length l) front.2 ∙ length-append front.0 r.1.0 in
      let none : r.1.0 ≡ [] = no_items_empty r.1.0 (omega (arith, size, count_lexemes old.text more, whole, w.most)) in
      let all : lexemes_of old.text (first ∷ more) ≡ spelled item =
      r.1.1 ∙ ap (λ (l : List (List ℕ)). spelled item ++ l) none ∙ append-nil (spelled item) in (
        r.0,
        left_by old new first more count word w ∙ ap (λ (l : List (List ℕ)). preceded l (lexemes_left new)) all,
        record { tokens = first ∷ more; lexemes = all; left = w.left; text = w.text },
      )

  none_by : (old new : Scan) (first : Token) (more : List Token) (count : ℕ) (word : List ℕ) (item : T)
      (rest later : List (List ℕ)) → HasLexemes spelled → Window old new first more count word
      → ((s : T) (xs : List (List ℕ)) → IsItem s → lexemes_of old.text (first ∷ more) ≢ spelled s ++ xs) → IsItem item
      → lexemes_left new ≡ Ok later → lexemes_of old.text (first ∷ more) ++ later ≡ spelled item ++ rest
      → (length more ≡ count) ⊎ (tokens_left new ≡ Ok []) → ⊥
  none_by old new first more count word item rest later has w none is last e (inr end) =
      let nil : later ≡ [] = cc (sym last ∙ (ap (as_lexemes new.text) end)) in
      none item rest is (sym (append-nil (lexemes_of old.text (first ∷ more)))
      ∙ ap (λ (l : List (List ℕ)). lexemes_of old.text (first ∷ more) ++ l) (sym nil) ∙ e)
  none_by old new first more count word item rest later has w none is last e (inl full) =
      let words = words_of old new first more count word w in
      let front = head_of _ _ _ _ (sym (ap (λ (l : List (List ℕ)). l ++ later) words) ∙ e)
      (λ n. has item [] (ap (λ (l : List (List ℕ)). l ++ []) n)) in
      let size = w.counts item front.0 front.1 in
      let number = count_lexemes old.text more in
      let tail = same_front (lexemes_of old.text more) front.0 later rest (omega (arith, size, number, full)) front.2 in
      none item [] is (words ∙ ap (λ (l : List (List ℕ)). word ∷ l) tail ∙ sym front.1
      ∙ sym (append-nil (spelled item)))

  pub no_item_found : (old new : Scan) (first : Token) (more : List Token) (count : ℕ) (word : List ℕ) (e : ScriptFault)
      → HasLexemes spelled → Window old new first more count word
      → ReadsItem spelled IsItem old.text (first ∷ more) (Err e) → (items : List T) → Lists spelled IsItem old items → ⊥
  no_item_found old new first more count word e has w r [] l =
      let after = lexemes_after (lexemes_of old.text (first ∷ more)) (lexemes_left new) []
      (sym (left_by old new first more count word w) ∙ l.left) in
      absurd (cc after.2)
  no_item_found old new first more count word e has w r (s ∷ ss) l =
      let after = lexemes_after (lexemes_of old.text (first ∷ more)) (lexemes_left new) (flat_map spelled (s ∷ ss))
      (sym (left_by old new first more count word w) ∙ l.left) in
      none_by old new first more count word s (flat_map spelled ss) after.0 has w r.1 l.in_range.0 after.1 after.2 w.all

  -- where an item can't be read because the tokens end, no token follows
  last_by : (old new : Scan) (first : Token) (more later : List Token) (count : ℕ) (word : List ℕ) (wrong : Wrong)
      → Window old new first more count word → IsWrongItem spelled IsItem (lexemes_of old.text (first ∷ more)) wrong
      → tokens_left new ≡ Ok later → wrong.index ≡ length (first ∷ more) → (length more ≡ count)
      ⊎ (tokens_left new ≡ Ok []) → later ≡ []
  last_by old new first more later count word wrong w h is index (inr end) = cc (sym is ∙ end)
  last_by old new first more later count word wrong w h is index (inl full) =
      let words = words_of old new first more count word w in
      let front = head_of word (lexemes_of old.text more) h.front h.rest (sym words ∙ h.whole)
      (λ e. let none = ap (λ (l : List (List ℕ)). length l) e in absurd (omega (arith, none))) in
      let tail = front.0 in
      let size = w.counts h.item (tail ++ h.next ∷ h.more)
      (h.begins ∙ ap (λ (l : List (List ℕ)). l ++ h.next ∷ h.more) front.1) in
      let one = ap (λ (l : List (List ℕ)). length l) front.1 in
      absurd (omega (arith, size, length-append tail (h.next ∷ h.more), one, full))

  pub fault_found : (old new : Scan) (first : Token) (more : List Token) (count : ℕ) (word : List ℕ) (e : ScriptFault)
      → AreUnique spelled IsItem → HasLexemes spelled → Window old new first more count word
      → ReadsItem spelled IsItem old.text (first ∷ more) (Err e) → HasFaultLeft spelled IsItem old e
  fault_found old new first more count word e unique has w r = λ tokens is.
      let after = all_after (first ∷ more) (tokens_left new) tokens (sym w.left ∙ is) in
      let wrong : Wrong = r.2.0 in
      let fault = fault_in_item spelled IsItem unique has old.text (first ∷ more) after.0 wrong (λ none. absurd cc)
      r.2.1 (λ index. last_by old new first more after.0 count word wrong w r.2.1 after.1 index w.all) in
      rw after.2 (rw r.2.2 fault)

  pub no_fault_left : (s : Scan) (e : ScriptFault) → HasNoTokens s → HasFaultLeft spelled IsItem s e
  no_fault_left s e none = λ tokens is. absurd (none tokens is)

-- ---- one item after another

module _ {T : Type 0} (spelled : T → List (List ℕ)) (IsItem : T → Type 0) (unique : AreUnique spelled IsItem)
    (has : HasLexemes spelled) where
  pub took : (old new : Scan) (item : T) (items : List T) → FindsItem spelled IsItem old new (Ok (Some item))
      → Lists spelled IsItem old items → (rest : List T) × (items ≡ item ∷ rest) × Lists spelled IsItem new rest
  took old new item [] f l =
      let after = lexemes_after (spelled item) (lexemes_left new) [] (sym f.1 ∙ l.left) in
      absurd (has item after.0 after.2)
  took old new item (s ∷ ss) f l =
      let after = lexemes_after (spelled item) (lexemes_left new) (flat_map spelled (s ∷ ss)) (sym f.1 ∙ l.left) in
      let both = unique item s after.0 (flat_map spelled ss) f.0 l.in_range.0 after.2 in (
        ss,
        ap (λ (x : T). x ∷ ss) (sym both.0),
        record { left = after.1 ∙ ap (λ (l : List (List ℕ)). Ok l) both.1; in_range = l.in_range.1 },
      )

  pub fault_left : (old new : Scan) (item : T) (e : ScriptFault) → FindsItem spelled IsItem old new (Ok (Some item))
      → HasFaultLeft spelled IsItem new e → HasFaultLeft spelled IsItem old e
  fault_left old new item e f h = λ tokens is.
      let p : PassesItem spelled old new item = f.4 in
      let after = all_after p.tokens (tokens_left new) tokens (sym p.left ∙ is) in
      let later = subst (λ (x : List ℕ). HasItemFault spelled IsItem x after.0 (reported_fault e)) p.text
      (h after.0 after.1) in
      subst (λ (l : List Token). HasItemFault spelled IsItem old.text l (reported_fault e)) (sym after.2)
      (fault_after_item spelled IsItem unique has old.text item p.tokens after.0 (reported_fault e) f.0 p.lexemes later)

  no_items : (items : List T) → flat_map spelled items ≡ [] → items ≡ []
  no_items [] e = refl
  no_items (s ∷ ss) e = absurd (has s (flat_map spelled ss) e)

  pub takes_found : (old new : Scan) (found : Option T) → FindsItem spelled IsItem old new (Ok found)
      → TakesItem spelled IsItem old new found
  takes_found old new None f = λ items l. no_items items (cc (sym l.left ∙ f.0))
  takes_found old new (Some item) f =
      record { in_range = f.0; on = λ items l. took old new item items f l; bytes = f.2; bound = f.3 }

  pub still_listed : (old new : Scan) (found : Option T) (items : List T) → FindsItem spelled IsItem old new (Ok found)
      → Lists spelled IsItem old items → (rest : List T) × Lists spelled IsItem new rest
  still_listed old new None items f l = (items, subst (λ (s : Scan). Lists spelled IsItem s items) (sym f.1) l)
  still_listed old new (Some item) items f l = let t = took old new item items f l in (t.0, t.2)

-- ---- the items so far

-- these items were read, and whatever is listed goes on after them
pub record HaveRead {T : Type 0} (spelled : T → List (List ℕ)) (IsItem : T → Type 0) (old now : Scan) : Type 0 where
  pub done : List T
  pub in_range : AllByRecursion IsItem done
  pub left : lexemes_left old ≡ preceded (flat_map spelled done) (lexemes_left now)
  pub on : (all : List T) → Lists spelled IsItem old all → (rest : List T) × Lists spelled IsItem now rest
  pub fault : (e : ScriptFault) → HasFaultLeft spelled IsItem now e → HasFaultLeft spelled IsItem old e

module _ {T : Type 0} (spelled : T → List (List ℕ)) (IsItem : T → Type 0) where
  pub none_read : (s : Scan) → HaveRead spelled IsItem s s
  none_read s = record {
    done = [];
    in_range = tt;
    left = preceded_none (lexemes_left s);
    on = λ all l. (all, l);
    fault = λ e f. f;
  }

  each_pushed : (done : List T) (s : T) → AllByRecursion IsItem done → IsItem s → AllByRecursion IsItem (done ++ s ∷ [])
  each_pushed [] s h is = (is, tt)
  each_pushed (d ∷ ds) s h is = (h.0, each_pushed ds s h.1 is)

  flat_pushed : (done : List T) (s : T) → flat_map spelled (done ++ s ∷ []) ≡ flat_map spelled done ++ spelled s
  flat_pushed [] s = append-nil (spelled s)
  flat_pushed (d ∷ ds) s = cc (flat_pushed ds s, append_assoc (spelled d) (flat_map spelled ds) (spelled s))

  pub one_read : (old mid new : Scan) (item : T) → AreUnique spelled IsItem → HasLexemes spelled
      → HaveRead spelled IsItem old mid → FindsItem spelled IsItem mid new (Ok (Some item))
      → HaveRead spelled IsItem old new
  one_read old mid new item unique has h f = record {
    done = h.done ++ item ∷ [];
    in_range = each_pushed h.done item h.in_range f.0;
    left = h.left ∙ ap (preceded (flat_map spelled h.done)) f.1 ∙ preceded_twice _ _ _ ∙ ap
        (λ (l : List (List ℕ)). preceded l (lexemes_left new)) (sym (flat_pushed h.done item));
    on = λ all l. let o = h.on all l in let t = took spelled IsItem unique has mid new item o.0 f o.1 in (t.0, t.2);
    fault = λ e later. h.fault e (fault_left spelled IsItem unique has mid new item e f later);
  }

  pub all_read : (old mid new : Scan) → HaveRead spelled IsItem old mid → FindsItem spelled IsItem mid new (Ok None)
      → (items : List T) × Lists spelled IsItem old items
  all_read old mid new h f = (
    h.done,
    record {
      left = h.left ∙ ap (preceded (flat_map spelled h.done)) f.0
          ∙ ap (λ (l : List (List ℕ)). Ok l) (append-nil (flat_map spelled h.done));
      in_range = h.in_range;
    },
  )

  -- ---- the whole text

  pub lists_of : (text : List ℕ) (s : Scan) (items : List T)
      → s ≡ record { text = text; limits = NO_LIMITS; place = first_position } → HoldsItems spelled IsItem text items
      → Lists spelled IsItem s items
  lists_of text s items is h = subst (λ (x : Scan). Lists spelled IsItem x items) (sym is) (record {
    left = ap (as_lexemes text) h.cut ∙ ap (λ (l : List (List ℕ)). Ok l) h.lexemes;
    in_range = h.in_range;
  })

  pub holds_of : (text : List ℕ) (s : Scan) (items : List T)
      → s ≡ record { text = text; limits = NO_LIMITS; place = first_position } → Lists spelled IsItem s items
      → HoldsItems spelled IsItem text items
  holds_of text s items is l =
      let start : Scan = record { text = text; limits = NO_LIMITS; place = first_position } in
      let here : Lists spelled IsItem start items = subst (λ (x : Scan). Lists spelled IsItem x items) is l in
      let left = tokens_of_left text (tokens_left start) (flat_map spelled items) here.left in
      record { tokens = left.0; cut = left.1; lexemes = left.2; in_range = here.in_range }

  pub fault_of_text : (text : List ℕ) (s : Scan) (e : ScriptFault) (f : EventFault)
      → s ≡ record { text = text; limits = NO_LIMITS; place = first_position } → f ≡ reported_fault e
      → HasFaultLeft spelled IsItem s e → ReportsItemFault spelled IsItem text f
  fault_of_text text s e f is same h = λ tokens cut.
      let start : Scan = record { text = text; limits = NO_LIMITS; place = first_position } in
      let here : HasFaultLeft spelled IsItem start e = subst (λ (x : Scan). HasFaultLeft spelled IsItem x e) is h in
      subst (HasItemFault spelled IsItem text tokens) (sym same) (here tokens cut)
