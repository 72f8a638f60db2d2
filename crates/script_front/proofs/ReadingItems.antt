-- The reading of items: what is read is spelled so, on its lines, and what is spelled so is read.
use Rattle.script_front.proofs.Words.{[], ◌++◌, ◌+◌, ◌-◌, ◌>>=◌, ◌∙◌, ◌∷◌, ◌≡◌, ◌≢◌, ◌≤◌, AddComponent, AddPacket}
use Rattle.script_front.proofs.Words.{AddService, AddSub, Adds, All, Edit, HasMore, Input, IsItem, Item, ItemKeyword}
use Rattle.script_front.proofs.Words.{Items, ItemsOn, List, None, Option, ReadsItems, Some, Spelled, added_by}
use Rattle.script_front.proofs.Words.{after_items, ap, append-nil, append_assoc, arith, bind_some, drop}
use Rattle.script_front.proofs.Words.{edit_lexemes, finish, first_item, item_again, item_found, item_from, item_given}
use Rattle.script_front.proofs.Words.{item_keyword, item_of, item_on, items_from, items_if, items_lexemes, length}
use Rattle.script_front.proofs.Words.{letters, line_of, refl, statement_of, suc, sym, zero, ℕ}
use Rattle.script_front.specs.Readers.{items_at}
use Rattle.script_tokens.specs.declared.first_keyword.ItemKeyword.TheVariants as item
use Rattle.script_tokens.specs.declared.first_keyword.EditKeyword.TheVariants as edit
use Rattle.script_front.proofs.Readings.{component_first, edit_first, edit_rest, edit_begins, item_law}

-- ---- what is read

pub record AreItemsRead (left : ℕ) (lines : List ℕ) (ws : Spelled) (p : Items) : Type 0 where
  pub formed : All IsItem p.items
  pub counts : length p.items + p.left ≡ left
  pub spelled : ws ≡ items_lexemes p.items ++ p.rest
  pub lined : ItemsOn lines p.items p.rest
  pub stops : first_item p.rest ≡ None

pub all_nil : All IsItem []
all_nil k d lt = absurd (omega (arith, lt))

all_cons : (i : Item) (is : List Item) → IsItem i → All IsItem is → All IsItem (i ∷ is)
all_cons i is h k zero d lt = h
all_cons i is h k (suc n) d lt = k n d (omega (arith, lt))

none_read : (left : ℕ) (lines : List ℕ) (ws : Spelled) (p : Items) → first_item ws ≡ None
    → Some (let q : Items = record { items = []; left = left; rest = ws } in q) ≡ Some p → AreItemsRead left lines ws p
none_read left lines ws p none e =
    finish (AreItemsRead left lines ws) _ p e
    (record { formed = all_nil; counts = omega arith; spelled = refl; lined = tt; stops = none })

record Later (i : Item) (r : Option Items) (p : Items) : Type 0 where
  more : Items
  read : r ≡ Some more
  is : Some (let q : Items = record { items = i ∷ more.items; left = more.left; rest = more.rest } in q) ≡ Some p

later_some : (i : Item) (r : Option Items) (p : Items) → after_items (i ∷ []) r ≡ Some p → Later i r p
later_some i None p e = absurd cc
later_some i (Some q) p e = record { more = q; read = refl; is = e }

pub items_given : (left : ℕ) (lines : List ℕ) (ws : Spelled) (p : Items) → items_at left lines ws ≡ Some p
    → AreItemsRead left lines ws p
unfolding items_at
items_given zero lines ws p e = chosen (first_item ws) refl e
  where
    chosen : (r : Option ItemKeyword) → first_item ws ≡ r → items_if 0 ws (λ k. None) r ≡ Some p
        → AreItemsRead 0 lines ws p
    chosen None is f = none_read 0 lines ws p is f
    chosen (Some k) is f = absurd cc
items_given (suc left) lines ws p e = chosen (items_given left lines) (first_item ws) refl e
  where
    chosen : ((vs : Spelled) (q : Items) → items_at left lines vs ≡ Some q → AreItemsRead left lines vs q)
        → (r : Option ItemKeyword) → first_item ws ≡ r
        → items_if (suc left) ws (items_from (items_at left lines) lines ws) r ≡ Some p
        → AreItemsRead (suc left) lines ws p
    chosen given None is f = none_read (suc left) lines ws p is f
    chosen given (Some k) is f = (
        let a = bind_some (item_from k _) _ p f in
        let g = (item_law k).given _ a.x a.first in
        let l = later_some (item_on lines ws a.x.0) _ p a.second in
        let h = given a.x.1 l.more l.read in
        let here : ws ≡ edit_lexemes a.x.0 ++ a.x.1 = rw (edit_begins a.x.0, ← g.1, g.0.2) (item_given ws k is) in
        let whole : ws ≡ items_lexemes (item_on lines ws a.x.0 ∷ l.more.items) ++ l.more.rest =
        cc (here, h.spelled, append_assoc (edit_lexemes a.x.0) (items_lexemes l.more.items) l.more.rest) in
        finish (AreItemsRead (suc left) lines ws) _ p l.is (record {
          formed = all_cons (item_on lines ws a.x.0) l.more.items (g.0.0, g.0.1) h.formed;
          counts = (let c = h.counts in omega (arith, c));
          spelled = whole;
          lined = (ap (line_of lines) whole, h.lined);
          stops = h.stops;
        })
        )

-- ---- what is spelled

-- the items on the lines of their tokens, where `after` follows them
abbrev pub items_on : List ℕ → List Item → Spelled → List Item
items_on lines [] after = []
items_on lines (i ∷ is) after = item_on lines (items_lexemes (i ∷ is) ++ after) i.edit ∷ items_on lines is after

pub on_same : (lines : List ℕ) (is : List Item) (after : Spelled) → ItemsOn lines is after
    → items_on lines is after ≡ is
on_same lines [] after h = refl
on_same lines (i ∷ is) after h = rw (h.0, on_same lines is after h.1)

pub on_added : (lines : List ℕ) (is : List Item) (after : Spelled) → added_by (items_on lines is after) ≡ added_by is
on_added lines [] after = refl
on_added lines (i ∷ is) after = rw (on_added lines is after) refl

pub begins_none : (left : ℕ) (lines : List ℕ) (ws : Spelled) → first_item ws ≡ None
    → items_at left lines ws ≡ Some (record { items = []; left = left; rest = ws })
unfolding items_at
begins_none zero lines ws none = rw (none) refl
begins_none (suc left) lines ws none = rw (none) refl

-- the keyword that begins an item is found again
found_again : (k : ItemKeyword) → (statement_of (item_keyword k) >>= item_of) ≡ Some k
found_again k = rw (item_again k) refl

record BeginsAsItem (e : Edit) : Type 0 where
  key : ItemKeyword
  first : edit_first e ≡ edit.Item key

as_item : (e : Edit) → Adds e → BeginsAsItem e
as_item (AddSub s) h = record { key = item.Sub; first = refl }
as_item (AddService sid) h = record { key = item.Service; first = refl }
as_item (AddComponent sid m) h = record { key = item.Component (component_first m); first = refl }
as_item (AddPacket p) h = record { key = item.Packet; first = refl }
as_item e h = absurd h

all_later : (i : Item) (is : List Item) → All IsItem (i ∷ is) → All IsItem is
all_later i is h k d lt = h (suc k) d (omega (arith, lt))

pub items_found : (is : List Item) (left new : ℕ) (lines : List ℕ) (rest : Spelled) → All IsItem is
    → length is + new ≡ left → first_item rest ≡ None
    → items_at left lines (items_lexemes is ++ rest) ≡ Some
    (record { items = items_on lines is rest; left = new; rest = rest })
unfolding items_at
items_found [] left new lines rest h c none = let e : left ≡ new = omega (arith, c) in
    rw (e) (begins_none new lines rest none)
items_found (i ∷ is) zero new lines rest h c none = absurd (omega (arith, c))
items_found (i ∷ is) (suc left) new lines rest h c none =
    let good = h 0 i (omega arith) in
    let b = as_item i.edit good.1 in
    let ws : Spelled = items_lexemes (i ∷ is) ++ rest in
    let later : Spelled = items_lexemes is ++ rest in
    let spelled : ws ≡ letters (item_keyword b.key) ∷ (edit_rest i.edit ++ later) =
    cc (append_assoc (edit_lexemes i.edit) (items_lexemes is) rest, edit_begins i.edit, b.first) in
    let first : first_item ws ≡ Some b.key = ap first_item spelled
    ∙ item_found (item_keyword b.key) (edit_rest i.edit ++ later) ∙ found_again b.key in
    let others = items_found is left new lines rest (all_later i is h) (omega (arith, c)) none in
    rw (first, ap (drop 1) spelled, ((item_law b.key).found i.edit later (good.0, good.1, b.first)), others) refl

-- ---- one item after another

-- the items that were read, in front of those that are read from here
pub record GoesOn (items : List Item) (old left : ℕ) (before now : Input) : Type 0 where
  pub read : items_at old before.lines before.lexemes ≡ after_items items (items_at left before.lines now.lexemes)
  pub same : now.lines ≡ before.lines

after_both : (is : List Item) (x : Item) (r : Option Items)
    → after_items is (after_items (x ∷ []) r) ≡ after_items (is ++ x ∷ []) r
after_both is x None = refl
after_both is x (Some p) = ap (λ (xs : List Item). Some
    (let q : Items = record { items = xs; left = p.left; rest = p.rest } in q)) (sym (append_assoc is (x ∷ []) p.items))

pub goes_on : (is js : List Item) (old left : ℕ) (i j k : Input) → GoesOn is old left i j → HasMore is js j k → 1 ≤ left
    → GoesOn js old (left - 1) i k
goes_on is js old zero i j k h m some = absurd (omega (arith, some))
goes_on is js old (suc left) i j k h m some = let less : suc left - 1 ≡ left = omega arith in
    rw (m.more, less) (record {
      read = h.read ∙ ap (λ (ls : List ℕ). after_items is (items_at (suc left) ls j.lexemes)) (sym h.same)
          ∙ ap (after_items is) (m.read left)
          ∙ ap (λ (ls : List ℕ). after_items is (after_items (m.item ∷ []) (items_at left ls k.lexemes))) h.same
          ∙ after_both is m.item (items_at left i.lines k.lexemes);
      same = m.same ∙ h.same;
    })

pub all_read : (is : List Item) (old left : ℕ) (i j : Input) → GoesOn is old left i j → first_item j.lexemes ≡ None
    → ReadsItems is old left i j
all_read is old left i j h none = record {
  read = h.read ∙ ap (after_items is) (begins_none left i.lines j.lexemes none)
      ∙ ap (λ (xs : List Item). Some (let q : Items = record { items = xs; left = left; rest = j.lexemes } in q))
      (append-nil is);
  same = h.same;
}

some_first : (r : Option ItemKeyword) (lines : List ℕ) (ws : Spelled) → r ≢ None → items_if 0 ws (λ k. None) r ≡ None
some_first None lines ws h = absurd (h refl)
some_first (Some k) lines ws h = refl

pub none_left : (is : List Item) (old left : ℕ) (i j : Input) → GoesOn is old left i j → left ≡ 0
    → first_item j.lexemes ≢ None → items_at old i.lines i.lexemes ≡ None
unfolding items_at
none_left is old left i j h none begins = h.read ∙ rw (none, some_first _ i.lines _ begins) refl

pub none_next : (is : List Item) (old left : ℕ) (i j : Input) → GoesOn is old left i j → 1 ≤ left
    → ((n : ℕ) → items_at (suc n) j.lines j.lexemes ≡ None) → items_at old i.lines i.lexemes ≡ None
none_next is old zero i j h some none = absurd (omega (arith, some))
none_next is old (suc left) i j h some none = h.read ∙ rw (← h.same, none left) refl
