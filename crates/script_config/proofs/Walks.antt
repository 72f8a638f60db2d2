-- Edits of one of the three sets of a configuration, member by member.
use Rattle.script_config.proofs.Words.{[], ◌++◌, ◌<◌, ◌∙◌, ◌∷◌, ◌≡◌, ◌≢◌, ◌≤◌, AddComponent, AddPacket, AddService}
use Rattle.script_config.proofs.Words.{AddSub, AllByRecursion, Bool, Configuration, DropComponent, DropPacket}
use Rattle.script_config.proofs.Words.{DropService, DropSub, Edit, HaveNoFault, IsAscending, IsConfiguration, IsEdit}
use Rattle.script_config.proofs.Words.{List, MoveSub, None, Option, RateSub, Some, after, ap, arith, cases_eq, changed}
use Rattle.script_config.proofs.Words.{changed_at, cond, edit_fault, entry_at, false, flat_map, inl, inr, length, refl}
use Rattle.script_config.proofs.Words.{subst, sym, true, with_entry, without_entry, ℕ}
use Rattle.mux_config.proofs.Keeping.{edits_keep}
use Rattle.mux_config.specs.Edits.{IsInRange}
use Rattle.script_config.proofs.Lookups.{AreAmong, changed_found, changed_others, each_found, found_first, found_later}
use Rattle.script_config.proofs.Lookups.{found_never, room_for, same_found, some_is_none, with_here, with_others}
use Rattle.script_config.proofs.Lookups.{without_here, without_others}
use Rattle.script_config.proofs.Members.{each_both}

-- ---- concatenated edits

pub after_both : (es fs : List Edit) (c : Configuration) → after (es ++ fs) c ≡ after fs (after es c)
after_both [] fs c = refl
after_both (e ∷ es) fs c = after_both es fs (changed e c)

-- applied in order, each is in range and has no fault
abbrev pub AreGood : List Edit → Configuration → Type 0
AreGood [] c = Unit {0}
AreGood (e ∷ es) c = IsEdit e × (edit_fault e c ≡ None) × AreGood es (changed e c)

pub good_both : (es fs : List Edit) (c : Configuration) → AreGood es c → AreGood fs (after es c) → AreGood (es ++ fs) c
good_both [] fs c h k = k
good_both (e ∷ es) fs c h k = (h.0, h.1, good_both es fs (changed e c) h.2 k)

pub good_fine : (es : List Edit) (c : Configuration) → AreGood es c → HaveNoFault es c
good_fine [] c h = tt
good_fine (e ∷ es) c h = (h.1, good_fine es (changed e c) h.2)

pub good_ranged : (es : List Edit) (c : Configuration) → AreGood es c → AllByRecursion IsEdit es
good_ranged [] c h = tt
good_ranged (e ∷ es) c h = (h.0, good_ranged es (changed e c) h.2)

in_range : (e : Edit) → IsEdit e → IsInRange e
in_range (AddSub s) h = (h.named, h.from_one, h.to_four)
in_range (DropSub id) h = tt
in_range (MoveSub id start) h = tt
in_range (RateSub id kbits) h = tt
in_range (AddService sid) h = h
in_range (DropService sid) h = tt
in_range (AddComponent sid m) h = h.1
in_range (DropComponent sid carrier) h = tt
in_range (AddPacket p) h = (h.named, h.typed, h.carried)
in_range (DropPacket scid) h = tt

-- ---- one set

-- the keys of its members, the members, and the configuration without them
pub record Part (T : Type 0) : Type 0 where
  pub key : T → ℕ
  pub set : Configuration → List T
  pub rest : Configuration → Configuration
  pub ascends : (c : Configuration) → IsConfiguration c → IsAscending key (set c)

-- the member with a key
abbrev pub at : {T : Type 0} → Part T → ℕ → Configuration → Option T
at p k c = entry_at p.key k (p.set c)

-- ---- one member

-- these edits set the entry at the key to `new`, and change nothing else
pub record Turns {T : Type 0} (p : Part T) (es : List Edit) (k : ℕ) (new : Option T) (c : Configuration)
    : Type 0 where
  pub fine : AreGood es c
  pub formed : IsConfiguration (after es c)
  pub rest : p.rest (after es c) ≡ p.rest c
  pub here : at p k (after es c) ≡ new
  pub others : (j : ℕ) → (j ≢ k) → at p j (after es c) ≡ at p j c

-- concatenated edits for one member
pub turns_both : {T : Type 0} (p : Part T) (es fs : List Edit) (k : ℕ) (new last : Option T) (c : Configuration)
    → Turns p es k new c → Turns p fs k last (after es c) → Turns p (es ++ fs) k last c
turns_both {T} p es fs k new last c h g =
    let joined = after_both es fs c in
    record {
      fine = good_both es fs c h.fine g.fine;
      formed = subst IsConfiguration (sym joined) g.formed;
      rest = ap p.rest joined ∙ g.rest ∙ h.rest;
      here = ap (at p k) joined ∙ g.here;
      others = λ j other. ap (at p j) joined ∙ g.others j other ∙ h.others j other;
    }

-- no edits
pub turns_nothing : {T : Type 0} (p : Part T) (k : ℕ) (new : Option T) (c : Configuration)
    → IsConfiguration c → at p k c ≡ new → Turns p [] k new c
turns_nothing p k new c h is = record { fine = tt; formed = h; rest = refl; here = is; others = λ j other. refl }

-- edits that are left out if the entry is the new one already
pub turns_unless : {T : Type 0} (p : Part T) (b : Bool) (es : List Edit) (k : ℕ) (new : Option T) (c : Configuration)
    → IsConfiguration c → (b ≡ true → at p k c ≡ new) → (b ≡ false → Turns p es k new c)
    → Turns p (cond b [] es) k new c
turns_unless p true es k new c h is turn = turns_nothing p k new c h (is refl)
turns_unless p false es k new c h is turn = turn refl

-- an edit that drops a member unless it stays
pub turns_gone : {T : Type 0} (p : Part T) (b : Bool) (e : Edit) (x : T) (c : Configuration)
    → IsConfiguration c → at p (p.key x) c ≡ Some x → Turns p (e ∷ []) (p.key x) None c
    → Turns p (cond b [] (e ∷ [])) (p.key x) (cond b (Some x) None) c
turns_gone p true e x c h is turn = turns_nothing p (p.key x) (Some x) c h is
turns_gone p false e x c h is turn = turn

-- one edit that removes the entry, adds it, or changes it
pub removes : {T : Type 0} (p : Part T) (e : Edit) (k : ℕ) (c : Configuration) → IsEdit e → IsConfiguration c
    → edit_fault e c ≡ None → p.rest (changed e c) ≡ p.rest c → p.set (changed e c) ≡ without_entry p.key k (p.set c)
    → Turns p (e ∷ []) k None c
removes p e k c range h fine rest is = record {
  fine = (range, fine, tt);
  formed = edits_keep e c (in_range e range) h fine;
  rest = rest;
  here = ap (entry_at p.key k) is ∙ without_here p.key k (p.set c);
  others = λ j other. ap (entry_at p.key j) is ∙ without_others p.key k (p.set c) j other;
}

pub adds : {T : Type 0} (p : Part T) (e : Edit) (y : T) (c : Configuration) → IsEdit e → IsConfiguration c
    → edit_fault e c ≡ None → p.rest (changed e c) ≡ p.rest c → p.set (changed e c) ≡ with_entry p.key y (p.set c)
    → at p (p.key y) c ≡ None → Turns p (e ∷ []) (p.key y) (Some y) c
adds p e y c range h fine rest is free = record {
  fine = (range, fine, tt);
  formed = edits_keep e c (in_range e range) h fine;
  rest = rest;
  here = ap (entry_at p.key (p.key y)) is ∙ with_here p.key y (p.set c) free;
  others = λ j other. ap (entry_at p.key j) is ∙ with_others p.key y (p.set c) j other;
}

pub alters : {T : Type 0} (p : Part T) (e : Edit) (k : ℕ) (change : T → T) (x : T) (c : Configuration) → IsEdit e
    → IsConfiguration c → edit_fault e c ≡ None → p.rest (changed e c) ≡ p.rest c
    → p.set (changed e c) ≡ changed_at p.key k change (p.set c) → ((x : T) → p.key (change x) ≡ p.key x)
    → at p k c ≡ Some x → Turns p (e ∷ []) k (Some (change x)) c
alters p e k change x c range h fine rest is keeps found = record {
  fine = (range, fine, tt);
  formed = edits_keep e c (in_range e range) h fine;
  rest = rest;
  here = ap (entry_at p.key k) is ∙ changed_found p.key k change (p.set c) x keeps found;
  others = λ j other. ap (entry_at p.key j) is ∙ changed_others p.key k change (p.set c) j keeps other;
}

-- ---- all members

-- the entry at a key, given that of the list walked over and that of the other list
abbrev pub walked : {T : Type 0} → Option T → Option T → Option T
walked mine other = mine

abbrev pub joint : {T : Type 0} → (T → T → Option T) → Option T → Option T → Option T
joint f None other = None
joint f (Some x) None = None
joint f (Some x) (Some y) = f x y

-- the same where the other list is walked over
abbrev pub back : {T : Type 0} → (T → T → Option T) → Option T → Option T → Option T
back f mine other = joint f other mine

pub none_back : {T : Type 0} (f : T → T → Option T) (other : Option T) → back f None other ≡ None
none_back f None = refl
none_back f (Some x) = refl

abbrev pub Holds : {T : Type 0} → Part T → (Option T → Option T → Option T) → (xs ys : List T) → Configuration
    → Type 0
Holds p stage xs ys c = (k : ℕ) → at p k c ≡ stage (entry_at p.key k xs) (entry_at p.key k ys)

pub record Walked {T : Type 0} (p : Part T) (es : List Edit) (stage : Option T → Option T → Option T) (xs ys : List T)
    (c : Configuration) : Type 0 where
  pub fine : AreGood es c
  pub formed : IsConfiguration (after es c)
  pub rest : p.rest (after es c) ≡ p.rest c
  pub holds : Holds p stage xs ys (after es c)

-- a list to walk over, with at most 64 members
pub record IsWalk {T : Type 0} (p : Part T) (Member : T → Type 0) (xs : List T) : Type 0 where
  pub ascends : IsAscending p.key xs
  pub few : length xs ≤ 64
  pub each : AllByRecursion Member xs

-- the edits of a member lead from one stage to the next; there is room for one whose key is unused
abbrev pub Turning : {T : Type 0} → Part T → (Member : T → Type 0) → (edits : T → List Edit)
    → (old new : Option T → Option T → Option T) → (ys : List T) → Type 0
Turning {T} p Member edits old new ys =
    (x : T) (c : Configuration) → Member x → IsConfiguration c
    → (at p (p.key x) c ≡ None → length (p.set c) < 64)
    → at p (p.key x) c ≡ old (Some x) (entry_at p.key (p.key x) ys)
    → Turns p (edits x) (p.key x) (new (Some x) (entry_at p.key (p.key x) ys)) c

-- no entry where the walk has none
abbrev pub IsOutside : {T : Type 0} → (old new : Option T → Option T → Option T) → Type 0
IsOutside {T} old new = (other : Option T) → (old None other ≡ None) × (new None other ≡ None)

-- members still to come have the old entry, all others the new one
abbrev pick : {T : Type 0} → Option T → Option T → Option T → Option T
pick None old new = new
pick (Some x) old new = old

at_first : {T : Type 0} (old new : Option T → Option T → Option T) (mine other : Option T) → IsOutside old new
    → old mine other ≡ pick mine (old mine other) (new mine other)
at_first old new None other none = (none other).0 ∙ sym (none other).1
at_first old new (Some x) other none = refl

picked : {T : Type 0} (left a b : Option T) → a ≡ None → b ≡ None → pick left a b ≡ None
picked None a b h k = k
picked (Some x) a b h k = h

inside : {T : Type 0} (old new : Option T → Option T → Option T) (left mine other : Option T) (y : T)
    → IsOutside old new → pick left (old mine other) (new mine other) ≡ Some y → (x : T) × (mine ≡ Some x)
inside old new left None other y none e =
    some_is_none y (sym e ∙ picked left (old None other) (new None other) (none other).0 (none other).1)
inside old new left (Some x) other y none e = (x, refl)

walk_on : {T : Type 0} (p : Part T) (Member : T → Type 0) (edits : T → List Edit)
    (old new : Option T → Option T → Option T) (all ys : List T)
    → Turning p Member edits old new ys → IsWalk p Member all → IsOutside old new
    → (xs : List T) (c : Configuration) → IsAscending p.key xs
    → AllByRecursion (λ x. Member x × (entry_at p.key (p.key x) all ≡ Some x)) xs → IsConfiguration c
    → ((k : ℕ) → at p k c ≡ pick (entry_at p.key k xs) (old (entry_at p.key k all) (entry_at p.key k ys))
    (new (entry_at p.key k all) (entry_at p.key k ys)))
    → Walked p (flat_map edits xs) new all ys c
walk_on p Member edits old new all ys turn whole none [] c up each h is =
    record { fine = tt; formed = h; rest = refl; holds = is }
walk_on {T} p Member edits old new all ys turn whole none (x ∷ xs) c up each h is =
    let k : ℕ = p.key x in
    let other : Option T = entry_at p.key k ys in
    let found : entry_at p.key k all ≡ Some x = each.0.1 in
    let here : at p k c ≡ old (Some x) other =
    is k ∙ ap (λ o. pick o (old (entry_at p.key k all) other) (new (entry_at p.key k all) other))
    (found_first p.key k x xs refl) ∙ ap (λ o. old o other) found in
    let among : AreAmong p.key (p.set c) all = λ j y e.
    inside old new (entry_at p.key j (x ∷ xs)) (entry_at p.key j all) (entry_at p.key j ys) y none (sym (is j) ∙ e) in
    let room : at p k c ≡ None → length (p.set c) < 64 = λ free.
    let less = room_for p.key x (p.set c) all (p.ascends c h) whole.ascends free x found among in
    let few = whole.few in omega (arith, less, few) in
    let one = turn x c each.0.0 h room here in
    let d : Configuration = after (edits x) c in
    let done : at p k d ≡ pick (entry_at p.key k xs) (old (entry_at p.key k all) other)
    (new (entry_at p.key k all) other) =
    one.here ∙ sym (ap (λ o. new o other) found)
    ∙ sym (ap (λ o. pick o (old (entry_at p.key k all) other) (new (entry_at p.key k all) other))
    (found_never p.key k xs up.0)) in
    let after_one : (j : ℕ) → at p j d ≡ pick (entry_at p.key j xs)
    (old (entry_at p.key j all) (entry_at p.key j ys)) (new (entry_at p.key j all) (entry_at p.key j ys)) =
    λ j. elim (cases_eq k j) [
      | inl same ↦ subst (λ (i : ℕ). at p i d ≡ pick (entry_at p.key i xs)
          (old (entry_at p.key i all) (entry_at p.key i ys)) (new (entry_at p.key i all) (entry_at p.key i ys)))
          same done
      | inr differs ↦ one.others j (λ same. differs (sym same)) ∙ is j
          ∙ ap (λ o. pick o (old (entry_at p.key j all) (entry_at p.key j ys))
          (new (entry_at p.key j all) (entry_at p.key j ys))) (found_later p.key j x xs differs)
    ] in
    let rest = walk_on p Member edits old new all ys turn whole none xs d up.1 each.1 one.formed after_one in
    let joined : after (edits x ++ flat_map edits xs) c ≡ after (flat_map edits xs) d =
    after_both (edits x) (flat_map edits xs) c in
    record {
      fine = good_both (edits x) (flat_map edits xs) c one.fine rest.fine;
      formed = subst IsConfiguration (sym joined) rest.formed;
      rest = ap p.rest joined ∙ rest.rest ∙ one.rest;
      holds = λ j. ap (at p j) joined ∙ rest.holds j;
    }

-- a walk over all members leads from one stage to the next
pub walk : {T : Type 0} (p : Part T) (Member : T → Type 0) (edits : T → List Edit)
    (old new : Option T → Option T → Option T) (xs ys : List T) (c : Configuration)
    → IsOutside old new → Turning p Member edits old new ys → IsWalk p Member xs → IsConfiguration c
    → Holds p old xs ys c → Walked p (flat_map edits xs) new xs ys c
walk p Member edits old new xs ys c none turn whole h is =
    walk_on p Member edits old new xs ys turn whole none xs c whole.ascends
    (each_both Member (λ x. entry_at p.key (p.key x) xs ≡ Some x) _ (λ x holds found. (holds, found)) xs whole.each
    (each_found p.key xs whole.ascends)) h
    (λ k. is k ∙ at_first old new (entry_at p.key k xs) (entry_at p.key k ys) none)

-- the walk that adds members leaves exactly those of its list
pub record Arrives {T : Type 0} (p : Part T) (es : List Edit) (ys : List T) (c : Configuration) : Type 0 where
  pub fine : AreGood es c
  pub formed : IsConfiguration (after es c)
  pub rest : p.rest (after es c) ≡ p.rest c
  pub set : p.set (after es c) ≡ ys

pub arrive : {T : Type 0} (p : Part T) (Member : T → Type 0) (edits : T → List Edit) (f : T → T → Option T)
    (xs ys : List T) (c : Configuration) → Turning p Member edits (back f) walked xs → IsWalk p Member ys
    → IsConfiguration c → Holds p (joint f) xs ys c → Arrives p (flat_map edits ys) ys c
arrive p Member edits f xs ys c turn whole h is =
    let all = walk p Member edits (back f) walked ys xs c (λ other. (none_back f other, refl)) turn whole h is in
    record {
      fine = all.fine;
      formed = all.formed;
      rest = all.rest;
      set = same_found p.key (p.set (after (flat_map edits ys) c)) ys
          (p.ascends (after (flat_map edits ys) c) all.formed) whole.ascends all.holds;
    }

-- the same holds of the same set
pub still : {T : Type 0} (p : Part T) (stage : Option T → Option T → Option T) (xs ys : List T) (c d : Configuration)
    → p.set d ≡ p.set c → Holds p stage xs ys c → Holds p stage xs ys d
still p stage xs ys c d same is k = ap (entry_at p.key k) same ∙ is k
