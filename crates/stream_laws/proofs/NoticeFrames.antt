-- The frames of a notice: each entry is heard in them, and the rows of identifiers heard are cut into three parts.
use Rattle.stream_laws.proofs.Words.{[], ◌%◌, ◌++◌, ◌+◌, ◌-◌, ◌<◌, ◌∙◌, ◌∷◌, ◌≡◌, ◌≤◌, ◌⊎◌, AllByRecursion, CommittedBy}
use Rattle.stream_laws.proofs.Words.{Configuration, Contains, Contains-append_cases, Contains-append_left}
use Rattle.stream_laws.proofs.Words.{Contains-append_right, HasHeader, HasThreeHeaders, Holds, IsAnnounced, IsCode}
use Rattle.stream_laws.proofs.Words.{IsCutInThree, IsDue, IsHeardInRow, IsHeardInSome, IsHeardWhole, Known, List}
use Rattle.stream_laws.proofs.Words.{Marked, Moment, Option, PageLaws, Plan, Program, Some, SomeSaid, State, SwapsOn}
use Rattle.stream_laws.proofs.Words.{ap, append_assoc, arith, base_of, both_rounds, concat, contains_cases}
use Rattle.stream_laws.proofs.Words.{contains_first, contains_frame, contains_none, count_step, each_contains}
use Rattle.stream_laws.proofs.Words.{entries_of, facts_of, false, frames_from, has_begun, heard_of, in_contains}
use Rattle.stream_laws.proofs.Words.{in_fact, inl, inr, is_cut_off, is_due, key_of, layout_mode, length, length-append}
use Rattle.stream_laws.proofs.Words.{marked, notice_at, page_entries, page_of, page_set, raw_entry, refl, rows}
use Rattle.stream_laws.proofs.Words.{slice_get, subst, suc, sym, true, zero, ℕ, page_up, notice_hears, due_left}
use Rattle.plan_runs.proofs.Notice.{heard_is}
use Rattle.stream_check.specs.Cutting.{HasAll, IsPart}
use Rattle.plan_runs.proofs.Lookups.{get_below}
use Rattle.plan_runs.proofs.Pictures.{HasAll as KnowsAll}
use Rattle.stream_laws.proofs.AgreeingFrames.{SinceFirst}

-- ---- each entry is heard in the frames

notice_has : PageLaws → (p : Program) (ts : List Known) → IsCode p ts → (s : State) → Holds p ts s
    → is_due s.left ≡ true → (m : Marked) → Contains (page_set s.current (Some s.next)) m
    → IsHeardInSome (heard_of p.plan s) m
notice_has laws p ts c s h due m inside =
    let plan : Plan = p.plan in
    let is = due_left s.left due in
    let whole = subst (λ (o : Option ℕ). SwapsOn plan s.count o) is h.tracked.swaps in
    let all : plan.notice - 0 ≡ plan.notice = omega arith in
    let d : IsDue plan s.current s.next s.eid s.count =
    record {
      notice_from = omega (arith, c.program.planned.notice_from);
      notice_to = omega (arith, c.program.planned.notice_to);
      count_low = h.tracked.count;
      eid_low = h.tracked.eid;
      current = h.tracked.current;
      next = h.tracked.next;
      on_air = h.between.kept.on_air;
      committed = subst (λ (o : Option ℕ). CommittedBy plan o s.current s.next) is h.between.kept.committed;
      on_step = subst (λ (x : ℕ). x % count_step (layout_mode plan.layout) ≡ 0) (omega arith) whole;
    } in
    let f : ℕ → List ℕ = notice_at plan s.current s.next s.eid (base_of plan s.count 0) in
    let pages : ℕ = both_rounds plan s.current s.next in
    let there = laws.each plan.layout (page_set s.current (Some s.next)) m inside in
    let j : ℕ = there.0 in
    let here : Contains (page_entries plan.layout (page_of pages j) (page_set s.current (Some s.next))) m =
    rw (page_up pages j there.1) there.2 in
    let below : j < plan.notice = omega (arith, there.1, d.committed.three_times) in
    subst (λ (xs : List (List ℕ)). IsHeardInSome xs m) (sym (heard_is plan s 0 is ∙ ap (frames_from f 0) all))
    (f j, contains_frame _ _ _ _ (omega arith) (omega (arith, below)), notice_hears laws _ _ _ _ _ _ d below _ here)

-- where a swap is due, both configurations were heard in full
pub current_whole : PageLaws → (p : Program) (ts : List Known) → IsCode p ts → (s : State) → Holds p ts s
    → is_due s.left ≡ true → KnowsAll s.current (SomeSaid (heard_of p.plan s) false)
current_whole laws p ts c s h due e inside =
    let fact : Contains (facts_of s.current false) (marked false e) =
    in_contains (facts_of s.current false) (marked false e) (in_fact false (entries_of s.current) e inside) in (
      e,
      refl,
      notice_has laws p ts c s h due (marked false e)
          (Contains-append_left (facts_of s.current false) (facts_of s.next true) (marked false e) fact),
    )

pub next_whole : PageLaws → (p : Program) (ts : List Known) → IsCode p ts → (s : State) → Holds p ts s
    → is_due s.left ≡ true → KnowsAll s.next (SomeSaid (heard_of p.plan s) true)
next_whole laws p ts c s h due e inside =
    let fact : Contains (facts_of s.next true) (marked true e) =
    in_contains (facts_of s.next true) (marked true e) (in_fact true (entries_of s.next) e inside) in (
      e,
      refl,
      notice_has laws p ts c s h due (marked true e)
          (Contains-append_right (facts_of s.current false) (facts_of s.next true) (marked true e) fact),
    )

-- ---- the rows of identifiers heard in them

-- nothing in the frame belongs to a notice: no entry with C/N 1, and no FIG 0/0
pub record SaysNothing (frame : List ℕ) : Type 0 where
  pub none : (m : Marked) → m.next ≡ true → IsHeardInRow frame m → ⊥
  pub bare : HasHeader frame → ⊥

-- the identifier of each entry that is heard in the frame with C/N 1 is in the row
abbrev pub HasNext : List ℕ → List ℕ → Type 0
HasNext frame row = (m : Marked) → m.next ≡ true → IsHeardInRow frame m → Contains row (key_of (raw_entry m.entry))

-- a row for each frame
abbrev pub AreRows : List (List ℕ) → List (List ℕ) → Type 0
AreRows [] [] = Unit {0}
AreRows (f ∷ fs) (r ∷ rs) = HasNext f r × AreRows fs rs
AreRows _ _ = ⊥

-- the rows are those of the frames heard, except for the first ones, where nothing belongs to the notice
pub record IsRowed (heard rows : List (List ℕ)) : Type 0 where
  pub missing : List (List ℕ)
  pub later : List (List ℕ)
  pub whole : heard ≡ missing ++ later
  pub silent : AllByRecursion SaysNothing missing
  pub are : AreRows later rows

-- ---- along a run

-- outside of a notice none has begun; and a notice that was heard from its beginning has a row for each of its frames,
-- except for the first ones, where nothing belongs to it
pub record IsNoticing (plan : Plan) (past : List Moment) (s : State) : Type 0 where
  pub fresh : heard_of plan s ≡ [] → has_begun past ≡ false
  pub rowed : is_cut_off past ≡ false → IsRowed (heard_of plan s) (rows past)

-- nothing was heard, and the next frame has FIG 0/0; or frames were heard
abbrev pub IsReading : Plan → List Moment → State → Type 0
IsReading plan past s = SinceFirst plan past s (IsNoticing plan past s)

-- ---- frames and rows

pub none_rowed : IsRowed [] []
none_rowed = record { missing = []; later = []; whole = refl; silent = tt; are = tt }

rows_more : (fs rs : List (List ℕ)) (f r : List ℕ) → AreRows fs rs → HasNext f r → AreRows (fs ++ f ∷ []) (rs ++ r ∷ [])
rows_more [] [] f r all one = (one, tt)
rows_more (f1 ∷ fs) (r1 ∷ rs) f r all one = (all.0, rows_more fs rs f r all.1 one)
rows_more _ _ f r all one = absurd all

-- one more frame, and its row
pub rowed_more : (heard rows : List (List ℕ)) (frame row : List ℕ) → IsRowed heard rows → HasNext frame row
    → IsRowed (heard ++ frame ∷ []) (rows ++ row ∷ [])
rowed_more heard rows frame row h one = record {
  missing = h.missing;
  later = h.later ++ frame ∷ [];
  whole = ap (λ fs. fs ++ frame ∷ []) h.whole ∙ append_assoc h.missing h.later (frame ∷ []);
  silent = h.silent;
  are = rows_more h.later rows frame row h.are one;
}

none_later : (fs : List (List ℕ)) → AreRows fs [] → fs ≡ []
none_later [] all = refl
none_later (f ∷ fs) all = absurd all

silent_more : (fs : List (List ℕ)) (f : List ℕ) → AllByRecursion SaysNothing fs → SaysNothing f
    → AllByRecursion SaysNothing (fs ++ f ∷ [])
silent_more [] f all one = (one, tt)
silent_more (x ∷ xs) f all one = (all.0, silent_more xs f all.1 one)

-- one more frame without a part in the notice, where there are no rows yet
pub rowed_silent : (heard rows : List (List ℕ)) (frame : List ℕ) → IsRowed heard rows → rows ≡ [] → SaysNothing frame
    → IsRowed (heard ++ frame ∷ []) []
rowed_silent heard rows frame h none one =
    let last : h.later ≡ [] = none_later h.later (subst (AreRows h.later) none h.are) in
    record {
      missing = h.missing ++ frame ∷ [];
      later = [];
      whole = ap (λ fs. fs ++ frame ∷ []) (h.whole ∙ ap (λ fs. h.missing ++ fs) last) ∙ bare h.missing;
      silent = silent_more h.missing frame h.silent one;
      are = tt;
    }
  where
    bare : (xs : List (List ℕ)) → (xs ++ []) ++ frame ∷ [] ≡ (xs ++ frame ∷ []) ++ []
    bare [] = refl
    bare (x ∷ xs) = ap (λ ys. x ∷ ys) (bare xs)

-- ---- parts

head_is : {X : Type 0} (x y : X) (xs ys : List X) → x ∷ xs ≡ y ∷ ys → x ≡ y
head_is x y xs ys e = cc e

tail_is : {X : Type 0} (x y : X) (xs ys : List X) → x ∷ xs ≡ y ∷ ys → xs ≡ ys
tail_is x y xs ys e = cc e

-- of two cuts of a list, one comes first
cut_first : {X : Type 0} (missing later first rest : List X) → missing ++ later ≡ first ++ rest
    → ((extra : List X) × (missing ≡ first ++ extra))
    ⊎ ((more : List X) × (first ≡ missing ++ more) × (later ≡ more ++ rest))
cut_first [] later first rest e = inr (first, refl, e)
cut_first (x ∷ xs) later [] rest e = inl (x ∷ xs, refl)
cut_first (x ∷ xs) later (y ∷ ys) rest e =
    let same : x ≡ y = head_is x y (xs ++ later) (ys ++ rest) e in
    elim (cut_first xs later ys rest (tail_is x y (xs ++ later) (ys ++ rest) e)) [
      | inl (extra, is) ↦ inl (extra, ap (λ z. z ∷ xs) same ∙ ap (λ zs. y ∷ zs) is)
      | inr (more, is, last) ↦ inr (more, ap (λ z. z ∷ ys) (sym same) ∙ ap (λ zs. x ∷ zs) is, last)
    ]

record AreCut (fs gs rs : List (List ℕ)) : Type 0 where
  left : List (List ℕ)
  right : List (List ℕ)
  whole : rs ≡ left ++ right
  first : AreRows fs left
  second : AreRows gs right

rows_cut : (fs gs rs : List (List ℕ)) → AreRows (fs ++ gs) rs → AreCut fs gs rs
rows_cut [] gs rs all = record { left = []; right = rs; whole = refl; first = tt; second = all }
rows_cut (f ∷ fs) gs [] all = absurd all
rows_cut (f ∷ fs) gs (r ∷ rs) all =
    let rest = rows_cut fs gs rs all.1 in
    record {
      left = r ∷ rest.left;
      right = rest.right;
      whole = ap (λ xs. r ∷ xs) rest.whole;
      first = (all.0, rest.first);
      second = rest.second;
    }

-- these are identifiers of entries of the configuration
abbrev pub AreKeysOf : Configuration → List ℕ → Type 0
AreKeysOf n wanted = (x : ℕ) → Contains wanted x → (m : Marked) × Contains (facts_of n true) m × (m.next ≡ true)
    × (key_of (raw_entry m.entry) ≡ x)

row_has : (fs rs : List (List ℕ)) (m : Marked) → AreRows fs rs → m.next ≡ true → IsHeardInSome fs m
    → Contains (concat rs) (key_of (raw_entry m.entry))
row_has [] rs m all next (f, inside, heard) = absurd (contains_none f inside)
row_has (f ∷ fs) [] m all next h = absurd all
row_has (f ∷ fs) (r ∷ rs) m all next (g, inside, heard) = elim (contains_cases f fs g inside) [
  | inl same ↦ Contains-append_left r (concat rs) (key_of (raw_entry m.entry))
      (all.0 m next (subst (λ (b : List ℕ). IsHeardInRow b m) (sym same) heard))
  | inr later ↦ Contains-append_right r (concat rs) (key_of (raw_entry m.entry))
      (row_has fs rs m all.1 next (g, later, heard))
]

part_is : (n : Configuration) (wanted : List ℕ) (x : ℕ) → Contains wanted x → AreKeysOf n wanted
    → (fs rs : List (List ℕ)) → AreRows fs rs → IsHeardWhole n true fs → IsPart wanted rs
part_is n wanted x some keys fs rs all whole = (
  λ empty. contains_none x (subst (λ (xs : List (List ℕ)). Contains (concat xs) x) empty (has x some)),
  has,
)
  where
    has : HasAll wanted rs
    has y inside =
        let it = keys y inside in
        subst (λ (k : ℕ). Contains (concat rs) k) it.3 (row_has fs rs it.0 all it.2 (whole it.0 it.1))

-- what is heard in all frames is heard in the later ones, as nothing in the first ones belongs to the notice
heard_later : (missing more : List (List ℕ)) (m : Marked) → AllByRecursion SaysNothing missing → m.next ≡ true
    → IsHeardInSome (missing ++ more) m → IsHeardInSome more m
heard_later missing more m silent next (f, inside, heard) = elim (Contains-append_cases missing more f inside) [
  | inl early ↦ absurd ((each_contains SaysNothing missing f silent early).none m next heard)
  | inr late ↦ (f, late, heard)
]

-- a configuration with entries
three_parts : (n : Configuration) (wanted : List ℕ) (x : ℕ) → Contains wanted x → AreKeysOf n wanted
    → (next_marked : (m : Marked) → Contains (facts_of n true) m → m.next ≡ true)
    → (missing first second third rows : List (List ℕ)) (later : List (List ℕ)) → missing ++ later ≡ (first ++ second)
    ++ third → AllByRecursion SaysNothing missing → AreRows later rows
    → IsHeardWhole n true first → IsHeardWhole n true second → IsHeardWhole n true third → IsCutInThree wanted rows
three_parts n wanted x some keys marks missing first second third rows later cut silent are one two three =
    elim (cut_first missing later first (second ++ third) (cut ∙ append_assoc first second third)) [
      | inl (extra, is) ↦ (
          let it = keys x some in
          let heard = one it.0 it.1 in
          let early : Contains missing heard.0 = rw is (Contains-append_left first extra heard.0 heard.1) in
          absurd ((each_contains SaysNothing missing heard.0 silent early).none it.0 it.2 heard.2)
          )
      | inr (more, is, last) ↦ (
          let front = rows_cut more (second ++ third) rows (subst (λ (fs : List (List ℕ)). AreRows fs rows) last are) in
          let back = rows_cut second third front.right front.second in
          let whole : IsHeardWhole n true more =
          λ m inside. heard_later missing more m silent (marks m inside) (rw (← is) (one m inside)) in
          record {
            first = front.left;
            second = back.left;
            third = back.right;
            cut = front.whole ∙ ap (λ xs. front.left ++ xs) back.whole
                ∙ sym (append_assoc front.left back.left back.right);
            whole_in_first = part_is n wanted x some keys more front.left front.first whole;
            whole_in_second = part_is n wanted x some keys second back.left back.first two;
            whole_in_third = part_is n wanted x some keys third back.right back.second three;
          }
          )
    ]

-- ---- a configuration without entries: any three rows are enough

-- FIG 0/0 is in none of the first frames
header_late : (missing later : List (List ℕ)) (place : ℕ) (frame : List ℕ) → AllByRecursion SaysNothing missing
    → slice_get (missing ++ later) place ≡ Some frame → HasHeader frame → length missing ≤ place
header_late [] later place frame silent got header = omega arith
header_late (f ∷ fs) later zero frame silent got header =
    absurd (silent.0.bare (subst HasHeader (sym (cc got)) header))
header_late (f ∷ fs) later (suc place) frame silent got header = let rest =
    header_late fs later place frame silent.1 got header in omega (arith, rest)

as_many : (fs rs : List (List ℕ)) → AreRows fs rs → length fs ≡ length rs
as_many [] [] all = refl
as_many (f ∷ fs) (r ∷ rs) all = let rest = as_many fs rs all.1 in omega (arith, rest)
as_many _ _ all = absurd all

three_rows : (missing later rows : List (List ℕ)) → AllByRecursion SaysNothing missing → AreRows later rows
    → HasThreeHeaders (missing ++ later) → 3 ≤ length rows
three_rows missing later rows silent are h =
    let late = header_late missing later h.first h.in_first.0 silent h.in_first.1 h.in_first.2 in
    let below = get_below (missing ++ later) h.third h.in_third.0 h.in_third.1 in
    let both = length-append missing later in
    let many = as_many later rows are in
    let second = h.before_second in
    let third = h.before_third in
    omega (arith, late, below, both, many, second, third)

none_wanted : (row : List ℕ) (rows : List (List ℕ)) → IsPart [] (row ∷ rows)
none_wanted row rows = ((λ e. absurd cc), λ x inside. absurd (contains_none x inside))

cut_rows : (rows : List (List ℕ)) → 3 ≤ length rows → IsCutInThree [] rows
cut_rows (a ∷ b ∷ c ∷ rows) long = record {
  first = a ∷ [];
  second = b ∷ [];
  third = c ∷ rows;
  cut = refl;
  whole_in_first = none_wanted a [];
  whole_in_second = none_wanted b [];
  whole_in_third = none_wanted c rows;
}
cut_rows _ long = absurd (omega (arith, long))

-- ---- the rows of frames that announce a swap have three parts, each with the next configuration

pub announced_thrice : (now next : Configuration) (count : ℕ) (heard rows : List (List ℕ)) (wanted : List ℕ)
    → IsAnnounced now next count heard → IsRowed heard rows → AreKeysOf next wanted
    → ((m : Marked) → Contains (facts_of next true) m → m.next ≡ true) → IsCutInThree wanted rows
announced_thrice now next count heard rows [] a h keys marks =
    cut_rows rows (three_rows h.missing h.later rows h.silent h.are (subst HasThreeHeaders h.whole a.headers))
announced_thrice now next count heard rows (w ∷ ws) a h keys marks =
    three_parts next (w ∷ ws) w (contains_first w ws) keys marks h.missing a.first a.second a.third rows h.later
    (sym h.whole ∙ a.cut) h.silent h.are a.whole_in_first a.whole_in_second a.whole_in_third
