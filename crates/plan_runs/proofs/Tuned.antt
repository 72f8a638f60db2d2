-- A tuned listener, before and after entries of the current and the next configuration.
use Rattle.plan_runs.proofs.Words.{[], ◌==◌, ◌∙◌, ◌∷◌, ◌≡◌, ◌⊎◌, AllByRecursion, Bool, Configuration}
use Rattle.plan_runs.proofs.Words.{EnsembleInformation, Fig, HearsAll, IsFib, List, Listening, Marked, None, OneList}
use Rattle.plan_runs.proofs.Words.{Option, Pictured, Raw, Some, ap, at_ensemble, blank, cond, ensemble_in, false}
use Rattle.plan_runs.proofs.Words.{hear_entry, hear_figs, inl, inr, into, picture_of, pictured, raw_entry, refl, subst}
use Rattle.plan_runs.proofs.Words.{suc, sym, take, true, untuned, where_heard, ℕ}
use Rattle.plan_runs.proofs.Parts.{In, Also}
use Rattle.plan_runs.proofs.Pictures.{whole_of, IsSet, IsOf, IsPartial, grows, weaker, entries_of, entry_is_of}
use Rattle.plan_runs.proofs.Hearing.{hear_marked, headed}
use Rattle.plan_runs.proofs.Passing.{some_is}

-- in a notice the next picture is part of the next configuration; otherwise it is empty
abbrev pub NextBy : Bool → Configuration → (Raw → Type 0) → Pictured → Type 0
NextBy true n N p = IsPartial (whole_of n) N p
NextBy false n N p = p ≡ blank

-- a tuned listener that has heard the entries with these properties
pub record Tuned (noticed : Bool) (c n : Configuration) (C N : Raw → Type 0) (awaited : Option ℕ) (l : Listening) : Type
    0 where
  pub is_tuned : l.tuned ≡ true
  pub current : IsPartial (whole_of c) C l.current
  pub next : NextBy noticed n N l.next
  pub awaits : l.awaited ≡ awaited

-- an entry of the current configuration or, in a notice, of the next one
abbrev pub IsSentOf : Bool → Configuration → Configuration → Marked → Type 0
IsSentOf noticed c n m = ((m.next ≡ false) × In m.entry (entries_of c))
    ⊎ ((noticed ≡ true) × (m.next ≡ true) × In m.entry (entries_of n))

abbrev pub IsSaying : Bool → Marked → Raw → Type 0
IsSaying flag m x = (m.next ≡ flag) × (raw_entry m.entry ≡ x)

abbrev pub SaidIn : Bool → List Marked → Raw → Type 0
SaidIn flag [] x = ⊥
SaidIn flag (m ∷ ms) x = IsSaying flag m x ⊎ SaidIn flag ms x

abbrev pub SaidInSome : Bool → List (List Marked) → Raw → Type 0
SaidInSome flag [] x = ⊥
SaidInSome flag (ms ∷ mss) x = SaidIn flag ms x ⊎ SaidInSome flag mss x

abbrev pub Or : (Raw → Type 0) → (Raw → Type 0) → Raw → Type 0
Or C D x = C x ⊎ D x

next_weaker : (noticed : Bool) (n : Configuration) (N M : Raw → Type 0) (p : Pictured) → ((x : Raw) → M x → N x)
    → NextBy noticed n N p → NextBy noticed n M p
next_weaker true n N M p f h = weaker (whole_of n) N M p f h
next_weaker false n N M p f h = h

pub tuned_weaker : (noticed : Bool) (c n : Configuration) (C D N M : Raw → Type 0) (awaited : Option ℕ) (l : Listening)
    → ((x : Raw) → D x → C x) → ((x : Raw) → M x → N x) → Tuned noticed c n C N awaited l
    → Tuned noticed c n D M awaited l
tuned_weaker noticed c n C D N M awaited l f g h =
    record {
      is_tuned = h.is_tuned;
      current = weaker (whole_of c) C D l.current f h.current;
      next = next_weaker noticed n N M l.next g h.next;
      awaits = h.awaits;
    }

next_part : (noticed : Bool) (n : Configuration) (N : Raw → Type 0) (p : Pictured) → noticed ≡ true
    → NextBy noticed n N p → IsPartial (whole_of n) N p
next_part true n N p e h = h
next_part false n N p e h = absurd cc

part_next : (noticed : Bool) (n : Configuration) (N : Raw → Type 0) (p : Pictured) → noticed ≡ true
    → IsPartial (whole_of n) N p → NextBy noticed n N p
part_next true n N p e h = h
part_next false n N p e h = absurd cc

-- ---- one entry

pub some_ext : (raw : Raw) (full : Pictured) → IsOf raw full → (raw.ext == 0) ≡ false
some_ext raw full (inl h) = ap (λ (k : ℕ). k == 0) h.0
some_ext raw full (inr (inl h)) = ap (λ (k : ℕ). k == 0) h.0
some_ext raw full (inr (inr h)) = ap (λ (k : ℕ). k == 0) h.0

heard_into : (flag : Bool) (raw : Raw) (l : Listening) (q : Pictured) → (raw.ext == 0) ≡ false → l.tuned ≡ true
    → pictured raw (picture_of flag l) ≡ Some q → hear_entry flag raw l ≡ into flag l (Some q)
heard_into flag raw l q ext is_tuned e = cc (ext, is_tuned, e)

heard_past : (flag : Bool) (raw : Raw) → (raw.ext == 0) ≡ false → hear_entry flag raw untuned ≡ Some untuned
heard_past flag raw ext =
    ap (λ (b : Bool). cond b (Some (at_ensemble (ensemble_in raw) untuned)) (Some untuned)) ext

pub record HearsEntry (noticed : Bool) (c n : Configuration) (C N : Raw → Type 0) (awaited : Option ℕ) (m : Marked)
    (l : Listening) : Type 0 where
  pub after : Listening
  pub is : hear_entry m.next (raw_entry m.entry) l ≡ Some after
  pub knows : Tuned noticed c n (Or C (IsSaying false m)) (Or N (IsSaying true m)) awaited after

other_flag : {X : Type 0} (a : Bool) → a ≡ false → a ≡ true → X
other_flag a e f = absurd cc

also_said : (flag : Bool) (C : Raw → Type 0) (m : Marked) (x : Raw) → Or C (IsSaying flag m) x
    → Also C (raw_entry m.entry) x
also_said flag C m x (inl old) = inl old
also_said flag C m x (inr now) = inr now.1

not_said : (flag other : Bool) (C : Raw → Type 0) (m : Marked) (x : Raw) → ((m.next ≡ flag) → ⊥)
    → Or C (IsSaying flag m) x → C x
not_said flag other C m x apart (inl old) = old
not_said flag other C m x apart (inr now) = absurd (apart now.0)

hears_entry : (noticed : Bool) (c n : Configuration) (C N : Raw → Type 0) (awaited : Option ℕ) (m : Marked)
    (l : Listening) → IsSet (whole_of c) → IsSet (whole_of n) → IsSentOf noticed c n m
    → Tuned noticed c n C N awaited l → HearsEntry noticed c n C N awaited m l
hears_entry noticed c n C N awaited m l set_c set_n (inl (flag, inside)) h =
    let of : IsOf (raw_entry m.entry) (whole_of c) = entry_is_of c m.entry inside in
    let grown = grows (whole_of c) C (raw_entry m.entry) l.current set_c of h.current in
    record {
      after = record l { current = grown.after };
      is = ap (λ (b : Bool). hear_entry b (raw_entry m.entry) l) flag
          ∙ heard_into false (raw_entry m.entry) l grown.after (some_ext (raw_entry m.entry) (whole_of c) of) h.is_tuned
          grown.is;
      knows = record {
        is_tuned = h.is_tuned;
        current = weaker (whole_of c) (Also C (raw_entry m.entry)) (Or C (IsSaying false m)) grown.after
            (also_said false C m) grown.partial;
        next = next_weaker _ n N _ _ (λ x. not_said true false N m x (λ e. other_flag _ flag e)) h.next;
        awaits = h.awaits;
      };
    }
hears_entry noticed c n C N awaited m l set_c set_n (inr (on, flag, inside)) h =
    let of : IsOf (raw_entry m.entry) (whole_of n) = entry_is_of n m.entry inside in
    let grown = grows (whole_of n) N (raw_entry m.entry) l.next set_n of (next_part noticed n N l.next on h.next) in
    record {
      after = record l { next = grown.after };
      is = ap (λ (b : Bool). hear_entry b (raw_entry m.entry) l) flag
          ∙ heard_into true (raw_entry m.entry) l grown.after (some_ext (raw_entry m.entry) (whole_of n) of) h.is_tuned
          grown.is;
      knows = record {
        is_tuned = h.is_tuned;
        current = weaker (whole_of c) C (Or C (IsSaying false m)) l.current
            (λ x. not_said false true C m x (λ e. other_flag m.next e flag)) h.current;
        next = part_next noticed n (Or N (IsSaying true m)) grown.after on
            (weaker (whole_of n) (Also N (raw_entry m.entry)) (Or N (IsSaying true m)) grown.after (also_said true N m)
            grown.partial);
        awaits = h.awaits;
      };
    }

-- ---- the entries of a FIB

pub record HearsEntries (noticed : Bool) (c n : Configuration) (C N : Raw → Type 0) (awaited : Option ℕ)
    (ms : List Marked) (l : Listening) : Type 0 where
  pub after : Listening
  pub is : hear_marked ms l ≡ Some after
  pub knows : Tuned noticed c n (Or C (SaidIn false ms)) (Or N (SaidIn true ms)) awaited after

regroup : (C D E : Raw → Type 0) (x : Raw) → C x ⊎ (D x ⊎ E x) → (C x ⊎ D x) ⊎ E x
regroup C D E x (inl a) = inl (inl a)
regroup C D E x (inr (inl a)) = inl (inr a)
regroup C D E x (inr (inr a)) = inr a

only_left : (C D : Raw → Type 0) (x : Raw) → (D x → ⊥) → C x ⊎ D x → C x
only_left C D x f (inl a) = a
only_left C D x f (inr a) = absurd (f a)

pub hears_entries : (noticed : Bool) (c n : Configuration) (C N : Raw → Type 0) (awaited : Option ℕ) (ms : List Marked)
    (l : Listening) → IsSet (whole_of c) → IsSet (whole_of n)
    → AllByRecursion (IsSentOf noticed c n) ms → Tuned noticed c n C N awaited l
    → HearsEntries noticed c n C N awaited ms l
hears_entries noticed c n C N awaited [] l set_c set_n sent h = record {
  after = l;
  is = refl;
  knows = tuned_weaker noticed c n C (Or C (SaidIn false [])) N (Or N (SaidIn true [])) awaited l
      (λ x. only_left C (SaidIn false []) x (λ e. e)) (λ x. only_left N (SaidIn true []) x (λ e. e)) h;
}
hears_entries noticed c n C N awaited (m ∷ ms) l set_c set_n sent h =
    let one = hears_entry noticed c n C N awaited m l set_c set_n sent.0 h in
    let rest = hears_entries noticed c n (Or C (IsSaying false m)) (Or N (IsSaying true m)) awaited ms one.after set_c
    set_n sent.1 one.knows in
    record {
      after = rest.after;
      is = ap (λ (o : Option Listening). where_heard o (hear_marked ms)) one.is ∙ rest.is;
      knows = tuned_weaker _ c n _ _ _ _ _ _ (regroup C _ _) (regroup N _ _) rest.knows;
    }

pub sent_ext : (noticed : Bool) (c n : Configuration) (m : Marked) → IsSentOf noticed c n m
    → ((raw_entry m.entry).ext == 0) ≡ false
sent_ext noticed c n m (inl h) = some_ext (raw_entry m.entry) (whole_of c) (entry_is_of c m.entry h.1)
sent_ext noticed c n m (inr h) = some_ext (raw_entry m.entry) (whole_of n) (entry_is_of n m.entry h.2)

pub passes_entries : (noticed : Bool) (c n : Configuration) (ms : List Marked)
    → AllByRecursion (IsSentOf noticed c n) ms → hear_marked ms untuned ≡ Some untuned
passes_entries noticed c n [] sent = refl
passes_entries noticed c n (m ∷ ms) sent =
    cc (heard_past m.next (raw_entry m.entry) (sent_ext noticed c n m sent.0), passes_entries noticed c n ms sent.1)

-- ---- FIBs without FIG 0/0

-- what the FIB carries: FIG 0/0, if present, and then these entries
pub record Says (fib : List ℕ) (o : Option EnsembleInformation) (ms : List Marked) : Type 0 where
  pub figs : List Fig
  pub is_fib : IsFib fib figs
  pub hears : (l : Listening) → hear_figs figs l ≡ hear_marked ms (headed o l)

abbrev pub AllSay : List (List ℕ) → List (List Marked) → Type 0
AllSay [] [] = Unit {0}
AllSay (f ∷ fs) (ms ∷ mss) = Says f None ms × AllSay fs mss
AllSay _ _ = ⊥

abbrev pub AreSentOf : Bool → Configuration → Configuration → List (List Marked) → Type 0
AreSentOf noticed c n mss = AllByRecursion (AllByRecursion (IsSentOf noticed c n)) mss

pub record HearsFibs (noticed : Bool) (c n : Configuration) (C N : Raw → Type 0) (awaited : Option ℕ)
    (fibs : List (List ℕ)) (mss : List (List Marked)) (l : Listening) : Type 0 where
  pub after : Listening
  pub hears : HearsAll fibs l after
  pub knows : Tuned noticed c n (Or C (SaidInSome false mss)) (Or N (SaidInSome true mss)) awaited after

pub hears_fibs : (noticed : Bool) (c n : Configuration) (C N : Raw → Type 0) (awaited : Option ℕ) (fibs : List (List ℕ))
    (mss : List (List Marked)) (l : Listening) → IsSet (whole_of c) → IsSet (whole_of n)
    → AllSay fibs mss → AreSentOf noticed c n mss → Tuned noticed c n C N awaited l
    → HearsFibs noticed c n C N awaited fibs mss l
hears_fibs noticed c n C N awaited [] [] l set_c set_n say sent h = record {
  after = l;
  hears = refl;
  knows = tuned_weaker noticed c n C (Or C (SaidInSome false [])) N (Or N (SaidInSome true [])) awaited l
      (λ x. only_left C (SaidInSome false []) x (λ e. e)) (λ x. only_left N (SaidInSome true []) x (λ e. e)) h;
}
hears_fibs noticed c n C N awaited (f ∷ fs) (ms ∷ mss) l set_c set_n say sent h =
    let one = hears_entries noticed c n C N awaited ms l set_c set_n sent.0 h in
    let rest = hears_fibs noticed c n (Or C (SaidIn false ms)) (Or N (SaidIn true ms)) awaited fs mss one.after set_c
    set_n say.1 sent.1 one.knows in
    record {
      after = rest.after;
      hears = (one.after, (say.0.figs, say.0.is_fib, say.0.hears l ∙ one.is), rest.hears);
      knows = tuned_weaker _ c n _ _ _ _ _ _ (regroup C _ _) (regroup N _ _) rest.knows;
    }
hears_fibs noticed c n C N awaited _ _ l set_c set_n say sent h = absurd say

pub passes_fibs : (noticed : Bool) (c n : Configuration) (fibs : List (List ℕ)) (mss : List (List Marked))
    → AllSay fibs mss → AreSentOf noticed c n mss → HearsAll fibs untuned untuned
passes_fibs noticed c n [] [] say sent = refl
passes_fibs noticed c n (f ∷ fs) (ms ∷ mss) say sent = (
  untuned,
  (say.0.figs, say.0.is_fib, say.0.hears untuned ∙ passes_entries noticed c n ms sent.0),
  passes_fibs noticed c n fs mss say.1 sent.1,
)
passes_fibs noticed c n _ _ say sent = absurd say

pub some_say : (k : ℕ) (fibs : List (List ℕ)) (mss : List (List Marked)) → AllSay fibs mss
    → AllSay (take k fibs) (take k mss)
some_say (suc k) [] (ms ∷ mss) h = absurd h
some_say (suc k) (f ∷ fs) [] h = absurd h
some_say (suc k) (f ∷ fs) (ms ∷ mss) h = (h.0, some_say k fs mss h.1)
some_say _ _ _ h = tt

pub some_sent : (noticed : Bool) (c n : Configuration) (k : ℕ) (mss : List (List Marked)) → AreSentOf noticed c n mss
    → AreSentOf noticed c n (take k mss)
some_sent noticed c n (suc k) (ms ∷ mss) h = (h.0, some_sent noticed c n k mss h.1)
some_sent noticed c n _ _ h = tt

-- ---- what is heard is unique

pub hears_same : OneList → (fibs : List (List ℕ)) (l a b : Listening) → HearsAll fibs l a → HearsAll fibs l b → a ≡ b
hears_same law [] l a b h g = h ∙ sym g
hears_same law (f ∷ fs) l a b (x, here, rest) (y, there, more) =
    let figs : here.0 ≡ there.0 = law f here.0 there.0 here.1 there.1 in
    let same : x ≡ y = some_is x y (sym here.2 ∙ ap (λ fs. hear_figs fs l) figs ∙ there.2) in
    hears_same law fs y a b (subst (λ (z : Listening). HearsAll fs z a) same rest) more
