-- What is to blame: the first of all combinations, or a change between what they make.
use Rattle.std.proofs.Common.{[], ◌++◌, ◌+◌, ◌∙◌, ◌∷◌, ◌<◌, ◌≡◌, ◌≢◌, ◌⊎◌, ◌≤◌, List, None, Option, Some, suc, zero}
use Rattle.std.proofs.Common.{ap, arith, inl, inr, refl, subst, sym, ℕ}
use Rattle.std.proofs.lemmas.Bool.{cases_lt}
use Rattle.std.specs.List.{AllByRecursion}
use Rattle.std.specs.Prelude.{slice_get, Err}
use Rattle.mux_types.specs.Configuration.{Configuration}
use Rattle.plan_verifier.specs.declared.cause.Cause.{Cause}
use Rattle.plan_verifier.specs.declared.cause.Cause.TheVariants.{Round}
use Rattle.plan_verifier.specs.Tests.{unless}
use Rattle.schedule_front.specs.Tree.{Tree}
use Rattle.schedule_runs.specs.Due.{opening_of}
use Rattle.schedule_verifier.specs.Combinations.{AreCombinations, CanHold, held}
use Rattle.schedule_compiler.specs.declared.fault.ScheduleFault.{ScheduleFault}
use Rattle.schedule_compiler.specs.declared.fault.ScheduleFault.TheVariants.{Refused, Limit, Uncertified, Memory}
use Rattle.schedule_compiler.specs.declared.states.State.{State}
use Rattle.schedule_compiler.specs.Refusals.{Blame, CanBeOnAir, CannotBegin, CombinationsMakeDue, HasNoWay, HasNoWayTo}
use Rattle.schedule_compiler.specs.Refusals.{IsBlamed, IsBlamedAmong}
use Rattle.schedule_compiler.specs.Refusals.{IsAmong, IsBadRound, IsFirstToBlame, IsNoBeginning, IsRefused, IsStateOf}
use Rattle.schedule_compiler.specs.Refusals.{IsRefusedAmong, IsToBlame, at_line, blame_of, last_line}
use Rattle.schedule_compiler.proofs.Made.{overlays_make}

pub combinations_make : CombinationsMakeDue
combinations_make s contacts day c is = overlays_make contacts _ s.overlays (opening_of s) c is

-- ---- the first combination

some_same : {X : Type 0} (a b : X) → Some a ≡ Some b → a ≡ b
some_same a b e = cc

same_at : (sets : List ℕ) (i j a b : ℕ) → i ≡ j → slice_get sets i ≡ Some a → slice_get sets j ≡ Some b → a ≡ b
same_at sets i j a b same at_i at_j =
    some_same a b (sym at_i ∙ ap (λ (n : ℕ). slice_get sets n) same ∙ at_j)

-- a lower combination comes before
earlier : (s : Tree) (sets : List ℕ) (i j a b : ℕ) → AreCombinations s sets → slice_get sets i ≡ Some a
    → slice_get sets j ≡ Some b → b < a → j < i
earlier s sets i j a b all at_i at_j lower = elim (cases_lt j i) [
  | inl lt ↦ lt
  | inr le ↦ absurd (not_later (cases_lt i j) le)
]
  where
    not_later : (i < j) ⊎ (j ≤ i) → i ≤ j → ⊥
    not_later (inl lt) le = let up = all.ascending i j a b lt at_i at_j in omega (arith, up, lower)
    not_later (inr ge) le =
        let same : i ≡ j = omega (arith, le, ge) in
        let equal = same_at sets i j a b same at_i at_j in
        omega (arith, equal, lower)

pub first_to_blame : (s : Tree) (sets : List ℕ) (i : ℕ) (blame : Blame) (set : ℕ) → AreCombinations s sets
    → slice_get sets i ≡ Some set → blame_of s set ≡ Some blame
    → ((j other : ℕ) → j < i → slice_get sets j ≡ Some other → blame_of s other ≡ None)
    → IsFirstToBlame s blame set
first_to_blame s sets i blame set all there is before = record {
  holds = all.each i set there;
  is = is;
  items = λ differ. before 0 0 (behind differ) all.items;
  first = λ other can lower. lower_one other can lower (all.all can.contacts can.day can.in_range);
}
  where
    behind : set ≢ 0 → 0 < i
    behind differ = elim (cases_lt 0 i) [
      | inl lt ↦ lt
      | inr le ↦ absurd (differ (same_at sets i 0 set 0 (omega (arith, le)) there all.items))
    ]

    lower_one : (other : ℕ) (can : CanHold s other) → other < set
        → (j : ℕ) × (slice_get sets j ≡ Some (held s can.contacts can.day)) → blame_of s other ≡ None
    lower_one other can lower found =
        let at_j : slice_get sets found.0 ≡ Some other = found.1 ∙ ap (λ (n : ℕ). Some n) can.holds in
        before found.0 other (earlier s sets i found.0 set other all there at_j lower) at_j

-- ---- changes

at_of : {T : Type 0} (P : T → Type 0) (xs : List T) (i : ℕ) (x : T) → AllByRecursion P xs → slice_get xs i ≡ Some x
    → P x
at_of P [] i y h e = absurd cc
at_of P (x ∷ xs) zero y h e = let is : x ≡ y = cc in subst P is h.0
at_of P (x ∷ xs) (suc i) y h e = at_of P xs i y h.1 e

with_last : {T : Type 0} (P : T → Type 0) (xs : List T) (x : T) → AllByRecursion P xs → P x
    → AllByRecursion P (xs ++ x ∷ [])
with_last P [] x h last = (last, tt)
with_last P (y ∷ ys) x h last = (h.0, with_last P ys x h.1 last)

among_at : (s : Tree) (sets : List ℕ) (states : List State) (i : ℕ) (x : State)
    → AllByRecursion (IsAmong s sets) states → slice_get states i ≡ Some x → IsAmong s sets x
among_at s sets states i x each there =
    at_of (IsAmong s sets) states i x each there

on_air : (s : Tree) (start : Configuration) (sets : List ℕ) (x : State) → AreCombinations s sets → IsAmong s sets x
    → CanBeOnAir s start x.config x.overlays
on_air s start sets x all among = inr (all.each among.index x.overlays among.there, among.made)

no_way : (s : Tree) (start from : Configuration) (before : ℕ) (sets : List ℕ) (states : List State) (line : ℕ)
    (cause : Cause) (set : ℕ) → AreCombinations s sets → AllByRecursion (IsAmong s sets) states
    → CanBeOnAir s start from before → cause ≡ Round → HasNoWayTo s from before states line set
    → HasNoWay s start (at_line line cause) set
no_way s start from before sets states line cause set all each is_from round way = record {
  from = from;
  to = way.to.config;
  before = before;
  behind = way.to.overlays;
  both = way.both;
  is_from = is_from;
  is_to = on_air s start sets way.to all (among_at s sets states way.index way.to each way.there);
  crowded = way.crowded;
  is = ap (λ (n : ℕ). at_line n cause) way.named ∙ ap (at_line (last_line s.line set s.overlays)) round;
}

no_beginning : (s : Tree) (c : Configuration) (line : ℕ) (cause : Cause) (set : ℕ)
    → IsNoBeginning s c (Refused line cause set) → CannotBegin s c (at_line line cause)
no_beginning s c line cause set is = (cause, is.2, ap (λ (n : ℕ). at_line n cause) is.0)

bad_round : (s : Tree) (start : Configuration) (sets : List ℕ) (states : List State) (line : ℕ) (cause : Cause)
    (set : ℕ) → AreCombinations s sets → AllByRecursion (IsAmong s sets) states
    → IsBadRound s (opening_of s) start states (Refused line cause set) → IsToBlame s start (at_line line cause) set
bad_round s start sets states line cause set all each (inl begins) =
    inr (inr (inl (no_beginning s start line cause set begins)))
bad_round s start sets states line cause set all each (inr (inl begins)) =
    inr (inr (inr (inl (no_beginning s (opening_of s) line cause set begins))))
bad_round s start sets states line cause set all each (inr (inr (inl way))) =
    inr (inr (inr (inr (inl
    (no_way s start start 0 sets states line cause set all each (inl (refl, refl)) way.0 way.1)))))
bad_round s start sets states line cause set all each (inr (inr (inr way))) =
    let from = way.1 in
    let among = among_at s sets states way.0 from each way.2 in
    inr (inr (inr (inr (inl
    (no_way s start from.config from.overlays sets states line cause set all each (on_air s start sets from all among)
    way.3.0 way.3.1)))))

pub confirmed : (s : Tree) (start : Configuration) (sets : List ℕ) (fault : ScheduleFault) → AreCombinations s sets
    → IsRefusedAmong s (opening_of s) start sets fault → IsRefused s start fault
confirmed s start sets (Refused line cause set) all (inl is) =
    inr (inl (first_to_blame s sets is.0 (at_line line cause) set all is.1 is.2 is.3))
confirmed s start sets (Refused line cause set) all (inr is) =
    bad_round s start sets is.0 line cause set all is.1 is.2
confirmed s start sets (Limit limit) all is = tt
confirmed s start sets Uncertified all is = tt
confirmed s start sets Memory all is = tt

-- ---- the states, combination by combination

abbrev pub FineTo : Tree → List ℕ → ℕ → Type 0
FineTo s sets n = (j set : ℕ) → j < n → slice_get sets j ≡ Some set → blame_of s set ≡ None

pub fine_none : (s : Tree) (sets : List ℕ) → FineTo s sets 0
fine_none s sets j set lt there = absurd (omega (arith, lt))

pub fine_more : (s : Tree) (sets : List ℕ) (n last : ℕ) → slice_get sets n ≡ Some last → blame_of s last ≡ None
    → FineTo s sets n → FineTo s sets (n + 1)
fine_more s sets n last there fine old j set lt here = elim (cases_lt j n) [
  | inl before ↦ old j set before here
  | inr le ↦ ap (λ (x : ℕ). blame_of s x) (same_at sets j n set last (omega (arith, lt, le)) here there) ∙ fine
]

pub among_more : (s : Tree) (sets : List ℕ) (list new : List State) (state : State) (n : ℕ)
    → slice_get sets n ≡ Some state.overlays → IsStateOf s state → AllByRecursion (IsAmong s sets) list
    → (new ≡ list) ⊎ (new ≡ list ++ state ∷ []) → AllByRecursion (IsAmong s sets) new
among_more s sets list new state n there made all (inl same) = subst (AllByRecursion (IsAmong s sets)) (sym same) all
among_more s sets list new state n there made all (inr one_more) =
    let one : IsAmong s sets state = record { index = n; there = there; made = made } in
    subst (AllByRecursion (IsAmong s sets)) (sym one_more)
    (with_last (IsAmong s sets) list state all one)

pub blamed_here : (s : Tree) (sets : List ℕ) (n set : ℕ) (fault : ScheduleFault) → slice_get sets n ≡ Some set
    → FineTo s sets n → IsBlamed s set fault → IsBlamedAmong s sets fault
blamed_here s sets n set (Refused line cause overlays) there fine blamed =
    (n, there ∙ ap (λ (x : ℕ). Some x) (sym blamed.1), ap (blame_of s) blamed.1 ∙ blamed.0, fine)
blamed_here s sets n set (Limit limit) there fine blamed = tt
blamed_here s sets n set Uncertified there fine blamed = tt
blamed_here s sets n set Memory there fine blamed = tt

-- the cause that was found is the one
pub found_cause : (o : Option Cause) (cause : Cause) → Err cause ≡ unless o → o ≡ Some cause
found_cause None cause e = absurd cc
found_cause (Some other) cause e = let same : cause ≡ other = cc in ap (λ (x : Cause). Some x) (sym same)
