-- A FIG that is known to a listener is known to each that agrees in its basis.
use Rattle.fib_reader.proofs.Words.{[], ◌%◌, ◌==◌, ◌∙◌, ◌∷◌, ◌≡◌, ◌≢◌, Agrees, All, AllByRecursion, Bool, Current, Fig}
use Rattle.fib_reader.proofs.Words.{Head, KeepsCurrent, List, Listening, None, Open, Option, Other, Pictured, Pictures}
use Rattle.fib_reader.proofs.Words.{Raw, Some, ap, basis_of, cond, entries_in, false, head_in, hear_entries, hear_entry}
use Rattle.fib_reader.proofs.Words.{hear_fig, hear_figs, into, is_long, is_next, map, ne_eqb, picture_of, pictured}
use Rattle.fib_reader.proofs.Words.{raw_of, refl, subst, sym, true, where_heard, ℕ}

-- ---- one entry

some_is : {A : Type 0} (x y : A) → Some x ≡ Some y → x ≡ y
some_is x y e = cc

none_is : {A : Type 0} (x : A) → None ≡ Some x → ⊥
none_is x e = absurd (cc)

-- an entry other than ensemble information
not_ensemble : (next : Bool) (raw : Raw) (l : Listening) → raw.ext ≢ 0
    → hear_entry next raw l ≡ cond l.tuned (into next l (pictured raw (picture_of next l))) (Some l)
not_ensemble next raw l other = rw (ne_eqb raw.ext 0 other) refl

into_current : (l : Listening) (o : Option Pictured) → into false l o ≡ Some l → o ≡ Some l.current
into_current l None h = absurd (none_is l h)
into_current l (Some p) h = ap (λ (x : Listening). Some x.current) (some_is _ l h)

into_next : (l : Listening) (o : Option Pictured) → into true l o ≡ Some l → o ≡ Some l.next
into_next l None h = absurd (none_is l h)
into_next l (Some p) h = ap (λ (x : Listening). Some x.next) (some_is _ l h)

-- known in the current picture
lasts_current : (b : Bool) (raw : Raw) (old l : Listening) → old.tuned ≡ b → raw.ext ≢ 0
    → hear_entry false raw old ≡ Some old → Agrees Current old l → hear_entry false raw l ≡ Some l
lasts_current false raw old l is other known (tuned, current) = not_ensemble false raw l other ∙ rw (tuned ∙ is) refl
lasts_current true raw old l is other known (tuned, current) =
    let at_old = sym (not_ensemble false raw old other ∙ rw is refl) ∙ known in
    let there : pictured raw l.current ≡ Some old.current = rw current (into_current old _ at_old) in
    not_ensemble false raw l other ∙ ap (λ (c : Bool). cond c (into false l (pictured raw l.current)) (Some l))
    (tuned ∙ is) ∙ ap (into false l) there ∙ (rw (sym current) refl)

lasts_next : (b : Bool) (raw : Raw) (old l : Listening) → old.tuned ≡ b → raw.ext ≢ 0
    → hear_entry true raw old ≡ Some old → Agrees Pictures old l → hear_entry true raw l ≡ Some l
lasts_next false raw old l is other known (tuned, current, next) = not_ensemble true raw l other ∙ rw (tuned ∙ is) refl
lasts_next true raw old l is other known (tuned, current, next) =
    let at_old = sym (not_ensemble true raw old other ∙ rw is refl) ∙ known in
    let there : pictured raw l.next ≡ Some old.next = rw next (into_next old _ at_old) in
    not_ensemble true raw l other ∙ ap (λ (c : Bool). cond c (into true l (pictured raw l.next)) (Some l)) (tuned ∙ is)
    ∙ ap (into true l) there ∙ (rw (sym next) refl)

differ : (n : ℕ) → n ≡ 0 → (n == 0) ≡ false → ⊥
differ n e f = absurd (cc)

lasts : (b next : Bool) (raw : Raw) (old l : Listening) → (raw.ext == 0) ≡ b → hear_entry next raw old ≡ Some old
    → Agrees (cond b All (cond next Pictures Current)) old l → hear_entry next raw l ≡ Some l
lasts true next raw old l is known agrees = rw (agrees) known
lasts false true raw old l is known agrees =
    lasts_next old.tuned raw old l refl (λ e. absurd (differ raw.ext e is)) known agrees
lasts false false raw old l is known agrees =
    lasts_current old.tuned raw old l refl (λ e. absurd (differ raw.ext e is)) known agrees

-- ---- the entries of a FIG

entries_last : (ext : ℕ) (long next : Bool) (old l : Listening) (es : List (List ℕ))
    → AllByRecursion (λ raw. hear_entry next raw old ≡ Some old) (map (raw_of ext long) es)
    → Agrees (basis_of next ext) old l → hear_entries next (map (raw_of ext long) es) l ≡ Some l
entries_last ext long next old l [] known agrees = refl
entries_last ext long next old l (e ∷ es) (first, rest) agrees =
    rw (lasts _ _ _ _ _ refl first agrees) (entries_last ext long next old l es rest agrees)

pub fig_lasts : (old l : Listening) (fig : Fig) (head : Head) → head_in fig ≡ Some head
    → AllByRecursion (λ raw. hear_entry head.next raw old ≡ Some old) (entries_in fig)
    → Agrees (basis_of head.next head.ext) old l → hear_fig fig l ≡ Some l
fig_lasts old l (Open second es) head is known agrees =
    let as_next : head.next ≡ is_next second = rw (← some_is _ head is) refl in
    let as_ext : head.ext ≡ second % 32 = rw (← some_is _ head is) refl in
    let there = subst (λ (b : Bool). AllByRecursion (λ raw. hear_entry b raw old ≡ Some old)
    (entries_in (Open second es))) as_next known in
    entries_last (second % 32) (is_long second) (is_next second) old l es there (rw (← as_ext) (rw (← as_next) agrees))
fig_lasts old l (Other given) head is known agrees = absurd (none_is head is)

-- one FIG, and then the others
pub figs_last : (fig : Fig) (figs : List Fig) (l : Listening) → hear_fig fig l ≡ Some l → hear_figs figs l ≡ Some l
    → hear_figs (fig ∷ figs) l ≡ Some l
figs_last fig figs l first rest = rw first rest

pub other_lasts : (fig : Fig) (l : Listening) → head_in fig ≡ None → hear_fig fig l ≡ Some l
other_lasts (Open second es) l is = absurd (none_is _ (sym is))
other_lasts (Other given) l is = refl

-- ---- FIGs of the next configuration

keeps_none : KeepsCurrent (λ l. Some l)
keeps_none old new e = rw (some_is old new e) (refl, refl)

after_one : (mid : Option Listening) (one other : Listening → Option Listening) (old new : Listening) → one old ≡ mid
    → KeepsCurrent one → KeepsCurrent other → where_heard mid other ≡ Some new
    → (new.tuned ≡ old.tuned) × (new.current ≡ old.current)
after_one None one other old new is first rest heard = absurd (none_is new heard)
after_one (Some l) one other old new is first rest heard =
    let before = first old l is in
    let after = rest l new heard in
    (after.0 ∙ before.0, after.1 ∙ before.1)

keeps_both : (one other : Listening → Option Listening) → KeepsCurrent one → KeepsCurrent other
    → KeepsCurrent (λ l. where_heard (one l) other)
keeps_both one other first rest old new heard = after_one (one old) one other old new refl first rest heard

keeps_into : (old new : Listening) (o : Option Pictured) → into true old o ≡ Some new → (new.tuned ≡ old.tuned)
    × (new.current ≡ old.current)
keeps_into old new None h = absurd (none_is new h)
keeps_into old new (Some p) h = let e = some_is _ new h in
    (rw (← e) refl, rw (← e) refl)

keeps_tuned : (b : Bool) (old new : Listening) (o : Option Pictured) → cond b (into true old o) (Some old) ≡ Some new
    → (new.tuned ≡ old.tuned) × (new.current ≡ old.current)
keeps_tuned true old new o h = keeps_into old new o h
keeps_tuned false old new o h = keeps_none old new h

keeps_entry : (raw : Raw) → raw.ext ≢ 0 → KeepsCurrent (hear_entry true raw)
keeps_entry raw other old new h = keeps_tuned _ old new _ (sym (not_ensemble true raw old other) ∙ h)

keeps_entries : (ext : ℕ) (long : Bool) (es : List (List ℕ)) → ext ≢ 0
    → KeepsCurrent (hear_entries true (map (raw_of ext long) es))
keeps_entries ext long [] other = keeps_none
keeps_entries ext long (e ∷ es) other =
    keeps_both _ _ (keeps_entry (raw_of ext long e) other) (keeps_entries ext long es other)

is_pictures : (b next : Bool) → cond b All (cond next Pictures Current) ≡ Pictures → (b ≡ false) × (next ≡ true)
is_pictures false true e = (refl, refl)
is_pictures _ _ e = absurd (cc)

keeps_open : (next : Bool) (ext : ℕ) (long : Bool) (es : List (List ℕ)) → next ≡ true → (ext == 0) ≡ false
    → KeepsCurrent (hear_entries next (map (raw_of ext long) es))
keeps_open true ext long es is other = keeps_entries ext long es (λ e. absurd (differ ext e other))
keeps_open false ext long es is other = absurd (cc)

pub keeps_fig : (fig : Fig) (head : Head) → head_in fig ≡ Some head → basis_of head.next head.ext ≡ Pictures
    → KeepsCurrent (hear_fig fig)
keeps_fig (Open second es) head is of =
    let as_next : head.next ≡ is_next second = rw (← some_is _ head is) refl in
    let as_ext : head.ext ≡ second % 32 = rw (← some_is _ head is) refl in
    let both = is_pictures (second % 32 == 0) (is_next second) (rw (← as_ext) (rw (← as_next) of)) in
    keeps_open (is_next second) (second % 32) (is_long second) es both.1 both.0
keeps_fig (Other given) head is of = absurd (none_is head is)

pub keeps_other : (fig : Fig) → head_in fig ≡ None → KeepsCurrent (hear_fig fig)
keeps_other (Open second es) is = absurd (none_is _ (sym is))
keeps_other (Other given) is = keeps_none

pub keeps_figs : (fig : Fig) (figs : List Fig) → KeepsCurrent (hear_fig fig) → KeepsCurrent (hear_figs figs)
    → KeepsCurrent (hear_figs (fig ∷ figs))
keeps_figs fig figs first rest = keeps_both (hear_fig fig) (hear_figs figs) first rest

pub keeps_nothing : KeepsCurrent (hear_figs [])
keeps_nothing = keeps_none
