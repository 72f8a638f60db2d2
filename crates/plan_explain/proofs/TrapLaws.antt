-- The waits that are found behind a test of the time of day are those that are too late where it is passed late.
use Rattle.std.proofs.Common.{◌≡◌, ℕ, ◌+◌, ◌%◌, Bool, true, false, if◌then◌else◌, nat_lt, inl, inr, List, [], ◌∷◌}
use Rattle.std.proofs.Common.{◌++◌, drop, Contains, Option, Some, None, refl, sym, ap, subst, ◌∙◌}
use Rattle.std.specs.List.{AllByRecursion}
use Rattle.std.proofs.lemmas.List.Elements.{Contains-append_left, Contains-append_right, Contains-append_cases}
use Rattle.mux_types.proofs.Elements.{contains_first, contains_none}
use Rattle.plan_code.specs.declared.limits.TheConstants.{FRAMES_A_DAY}
use Rattle.plan_code.specs.declared.instr.Instr.{Instr}
use Rattle.plan_code.specs.declared.instr.Instr.TheVariants.{Wait, Until, WaitContact, WaitAny, CommitIn, CommitAt}
use Rattle.plan_code.specs.declared.instr.Instr.TheVariants.{Join, Settle, End, Edit, Test, TestTime, Jump, Set, Loop}
use Rattle.plan_code.specs.declared.instr.Line.{Line}
use Rattle.plan_code.specs.Machine.{frames_until}
use Rattle.plan_explain.specs.declared.straight.Way.{Way}
use Rattle.plan_explain.specs.declared.day_trap.Passage.{Passage}
use Rattle.plan_explain.specs.declared.day_trap.DayTrap.{DayTrap}
use Rattle.plan_explain.specs.declared.warning.Warning.{Warning}
use Rattle.plan_explain.specs.declared.warning.Warning.TheVariants.{Trapped}
use Rattle.plan_explain.specs.DayWaits.{new_way}
use Rattle.plan_explain.specs.DayTraps.{first_late, time_at, leads_on, farther, through, IsTrapped, Leads, HasTrap}
use Rattle.plan_explain.specs.DayTraps.{trap_of, trap_ahead, listed, at_window, at_instr, at_test, traps_from, traps}
use Rattle.plan_explain.proofs.Lists.{from_one}

-- ---- those found are

trap_by : (p : Passage) (w : Way) (l : Line) (ls : List Line) (until : ℕ) (t : DayTrap) (b : Bool)
    → leads_on l.instr ≡ false → time_at l.instr ≡ Some until
    → nat_lt (first_late p.from w.frames until) (frames_until p.from p.to) ≡ b
    → (if b then Some (record {
      line = l.number;
      until = until;
      passage = p;
      first = (p.from + first_late p.from w.frames until) % FRAMES_A_DAY;
      way = w;
    }) else None) ≡ Some t → IsTrapped p w (l ∷ ls) t
trap_by p w l ls until t true ends waits e h =
    let found : DayTrap = record {
      line = l.number;
      until = until;
      passage = p;
      first = (p.from + first_late p.from w.frames until) % FRAMES_A_DAY;
      way = w;
    } in
    let same : found ≡ t = cc in
    subst (λ (x : DayTrap). IsTrapped p w (l ∷ ls) x) same (record {
      between = [];
      last = l;
      behind = ls;
      is = refl;
      leads = tt;
      ends = ends;
      waits = waits;
      at = refl;
      window = refl;
      takes = refl;
      first = refl;
      late = e;
    })
trap_by p w l ls until t false ends waits e h = absurd cc

trap_at : (p : Passage) (w : Way) (l : Line) (ls : List Line) (t : DayTrap) (o : Option ℕ) → leads_on l.instr ≡ false
    → time_at l.instr ≡ o → trap_of p w l.number o ≡ Some t → IsTrapped p w (l ∷ ls) t
trap_at p w l ls t None ends waits h = absurd cc
trap_at p w l ls t (Some until) ends waits h =
    trap_by p w l ls until t (nat_lt (first_late p.from w.frames until) (frames_until p.from p.to)) ends waits refl h

trap_later : (p : Passage) (w : Way) (l : Line) (ls : List Line) (t : DayTrap) → leads_on l.instr ≡ true
    → IsTrapped p (farther w l.instr) ls t → IsTrapped p w (l ∷ ls) t
trap_later p w l ls t leads h = record {
  between = l ∷ h.between;
  last = h.last;
  behind = h.behind;
  is = ap (λ (xs : List Line). l ∷ xs) h.is;
  leads = (leads, h.leads);
  ends = h.ends;
  waits = h.waits;
  at = h.at;
  window = h.window;
  takes = h.takes;
  first = h.first;
  late = h.late;
}

trap_step : (p : Passage) (w : Way) (l : Line) (ls : List Line) (t : DayTrap) (b : Bool) → leads_on l.instr ≡ b
    → (trap_ahead p (farther w l.instr) ls ≡ Some t → IsTrapped p (farther w l.instr) ls t)
    → (if b then trap_ahead p (farther w l.instr) ls else trap_of p w l.number (time_at l.instr)) ≡ Some t
    → IsTrapped p w (l ∷ ls) t
trap_step p w l ls t true e rest h = trap_later p w l ls t e (rest h)
trap_step p w l ls t false e rest h = trap_at p w l ls t (time_at l.instr) e refl h

is_trapped : (p : Passage) (w : Way) (ls : List Line) (t : DayTrap) → trap_ahead p w ls ≡ Some t → IsTrapped p w ls t
is_trapped p w [] t h = absurd cc
is_trapped p w (l ∷ ls) t h =
    trap_step p w l ls t (leads_on l.instr) refl (is_trapped p (farther w l.instr) ls t) h

-- what is said of a trap in a window
pub record IsOfTrap (p : Passage) (ls : List Line) (w : Warning) : Type 0 where
  pub trap : DayTrap
  pub is : Trapped trap ≡ w
  pub has : IsTrapped p (new_way p.from) ls trap

of_listed : (p : Passage) (ls : List Line) (w : Warning) (o : Option DayTrap) → trap_ahead p (new_way p.from) ls ≡ o
    → Contains (listed o) w → IsOfTrap p ls w
of_listed p ls w None e h = absurd (contains_none w h)
of_listed p ls w (Some t) e h =
    record { trap = t; is = from_one (Trapped t) w h; has = is_trapped p (new_way p.from) ls t e }

of_window : (p : Passage) (ls : List Line) (w : Warning) → Contains (at_window p ls) w → IsOfTrap p ls w
of_window p ls w h = of_listed p ls w (trap_ahead p (new_way p.from) ls) refl h

-- of a test
pub record IsOfTest (code : List Line) (line : ℕ) (i : Instr) (behind : List Line) (w : Warning) : Type 0 where
  pub trap : DayTrap
  pub is : Trapped trap ≡ w
  pub leads : Leads code line i behind trap

of_instr : (code : List Line) (line : ℕ) (i : Instr) (behind : List Line) (w : Warning)
    → Contains (at_instr code line i behind) w → IsOfTest code line i behind w
of_instr code line (TestTime from to target) behind w h =
    elim (Contains-append_cases (at_window (record { line = line; from = from; to = to }) behind)
    (at_window (record { line = line; from = to; to = from }) (drop target code)) w h) [
      | inl inside ↦ (
          let of = of_window (record { line = line; from = from; to = to }) behind w inside in
          record { trap = of.trap; is = of.is; leads = inl of.has })
      | inr outside ↦ (
          let of = of_window (record { line = line; from = to; to = from }) (drop target code) w outside in
          record { trap = of.trap; is = of.is; leads = inr of.has })
    ]
of_instr code line (Wait n) behind w h = absurd (contains_none w h)
of_instr code line (Until t) behind w h = absurd (contains_none w h)
of_instr code line (WaitContact k b) behind w h = absurd (contains_none w h)
of_instr code line (WaitAny closed opened until frames) behind w h = absurd (contains_none w h)
of_instr code line (CommitIn d) behind w h = absurd (contains_none w h)
of_instr code line (CommitAt n) behind w h = absurd (contains_none w h)
of_instr code line Join behind w h = absurd (contains_none w h)
of_instr code line Settle behind w h = absurd (contains_none w h)
of_instr code line End behind w h = absurd (contains_none w h)
of_instr code line (Edit e) behind w h = absurd (contains_none w h)
of_instr code line (Test k t) behind w h = absurd (contains_none w h)
of_instr code line (Jump t) behind w h = absurd (contains_none w h)
of_instr code line (Set k n) behind w h = absurd (contains_none w h)
of_instr code line (Loop k t) behind w h = absurd (contains_none w h)

-- of a code
pub record IsOfCode (code ls : List Line) (w : Warning) : Type 0 where
  pub trap : DayTrap
  pub is : Trapped trap ≡ w
  pub front : List Line
  pub test : Line
  pub behind : List Line
  pub splits : ls ≡ front ++ test ∷ behind
  pub leads : Leads code test.number test.instr behind trap

of_first : (code : List Line) (l : Line) (ls : List Line) (w : Warning) → IsOfTest code l.number l.instr ls w
    → IsOfCode code (l ∷ ls) w
of_first code l ls w h = record {
  trap = h.trap;
  is = h.is;
  front = [];
  test = l;
  behind = ls;
  splits = refl;
  leads = h.leads;
}

of_later : (code : List Line) (l : Line) (ls : List Line) (w : Warning) → IsOfCode code ls w
    → IsOfCode code (l ∷ ls) w
of_later code l ls w h = record {
  trap = h.trap;
  is = h.is;
  front = l ∷ h.front;
  test = h.test;
  behind = h.behind;
  splits = ap (λ (xs : List Line). l ∷ xs) h.splits;
  leads = h.leads;
}

of_code : (code ls : List Line) (w : Warning) → Contains (traps_from code ls) w → IsOfCode code ls w
of_code code [] w h = absurd (contains_none w h)
of_code code (l ∷ ls) w h =
    elim (Contains-append_cases (at_test code l ls) (traps_from code ls) w h) [
      | inl here ↦ of_first code l ls w (of_instr code l.number l.instr ls w here)
      | inr later ↦ of_later code l ls w (of_code code ls w later)
    ]

pub record IsTrapWarning (code : List Line) (w : Warning) : Type 0 where
  pub trap : DayTrap
  pub is : Trapped trap ≡ w
  pub has : HasTrap code trap

pub is_trap : (code : List Line) (w : Warning) → Contains (traps code) w → IsTrapWarning code w
is_trap code w h =
    let of = of_code code code w h in
    record {
      trap = of.trap;
      is = of.is;
      has = record {
        front = of.front;
        test = of.test;
        behind = of.behind;
        is = of.splits;
        leads = of.leads;
      };
    }

-- ---- and back

made : (t : DayTrap) (first : ℕ) (b : Bool) → b ≡ true → t.first ≡ first
    → (if b then Some (record {
      line = t.line;
      until = t.until;
      passage = t.passage;
      first = first;
      way = t.way;
    }) else None) ≡ Some t
made t first true e at = rw (sym at) refl
made t first false e at = absurd cc

late_found : (p : Passage) (w : Way) (l : Line) (t : DayTrap) → time_at l.instr ≡ Some t.until → l.number ≡ t.line
    → t.passage ≡ p → w ≡ t.way → t.first ≡ (p.from + first_late p.from t.way.frames t.until) % FRAMES_A_DAY
    → nat_lt (first_late p.from t.way.frames t.until) (frames_until p.from p.to) ≡ true
    → trap_of p w l.number (time_at l.instr) ≡ Some t
late_found p w l t waits at window takes first late =
    let begun : t.first ≡ (t.passage.from + first_late t.passage.from t.way.frames t.until) % FRAMES_A_DAY =
    rw window first in
    let past : nat_lt (first_late t.passage.from t.way.frames t.until)
    (frames_until t.passage.from t.passage.to) ≡ true = rw window late in
    rw (waits, at, sym window, takes)
    (made t ((t.passage.from + first_late t.passage.from t.way.frames t.until) % FRAMES_A_DAY)
    (nat_lt (first_late t.passage.from t.way.frames t.until) (frames_until t.passage.from t.passage.to)) past begun)

trap_found : (p : Passage) (between : List Line) (w : Way) (last : Line) (behind : List Line) (t : DayTrap)
    → AllByRecursion (λ l. leads_on l.instr ≡ true) between → leads_on last.instr ≡ false
    → (trap_of p (through w between) last.number (time_at last.instr) ≡ Some t)
    → trap_ahead p w (between ++ last ∷ behind) ≡ Some t
trap_found p [] w last behind t leads ends h = rw ends h
trap_found p (l ∷ ls) w last behind t leads ends h =
    rw (leads.0) (trap_found p ls (farther w l.instr) last behind t leads.1 ends h)

ahead_found : (p : Passage) (w : Way) (ls : List Line) (t : DayTrap) → IsTrapped p w ls t
    → trap_ahead p w ls ≡ Some t
ahead_found p w ls t h =
    let here = late_found p (through w h.between) h.last t h.waits h.at h.window h.takes h.first h.late in
    ap (trap_ahead p w) h.is ∙ trap_found p h.between w h.last h.behind t h.leads h.ends here

window_listed : (p : Passage) (ls : List Line) (t : DayTrap) → IsTrapped p (new_way p.from) ls t
    → Contains (at_window p ls) (Trapped t)
window_listed p ls t h =
    subst (λ (o : Option DayTrap). Contains (listed o) (Trapped t)) (sym (ahead_found p (new_way p.from) ls t h))
    (contains_first (Trapped t) [])

instr_listed : (code : List Line) (line : ℕ) (i : Instr) (behind : List Line) (t : DayTrap)
    → Leads code line i behind t → Contains (at_instr code line i behind) (Trapped t)
instr_listed code line (TestTime from to target) behind t (inl inside) =
    Contains-append_left (at_window (record { line = line; from = from; to = to }) behind)
    (at_window (record { line = line; from = to; to = from }) (drop target code)) (Trapped t)
    (window_listed (record { line = line; from = from; to = to }) behind t inside)
instr_listed code line (TestTime from to target) behind t (inr outside) =
    Contains-append_right (at_window (record { line = line; from = from; to = to }) behind)
    (at_window (record { line = line; from = to; to = from }) (drop target code)) (Trapped t)
    (window_listed (record { line = line; from = to; to = from }) (drop target code) t outside)
instr_listed code line (Wait n) behind t h = absurd h
instr_listed code line (Until u) behind t h = absurd h
instr_listed code line (WaitContact k b) behind t h = absurd h
instr_listed code line (WaitAny closed opened until frames) behind t h = absurd h
instr_listed code line (CommitIn d) behind t h = absurd h
instr_listed code line (CommitAt n) behind t h = absurd h
instr_listed code line Join behind t h = absurd h
instr_listed code line Settle behind t h = absurd h
instr_listed code line End behind t h = absurd h
instr_listed code line (Edit e) behind t h = absurd h
instr_listed code line (Test k u) behind t h = absurd h
instr_listed code line (Jump u) behind t h = absurd h
instr_listed code line (Set k n) behind t h = absurd h
instr_listed code line (Loop k u) behind t h = absurd h

behind_listed : (code front : List Line) (test : Line) (behind : List Line) (t : DayTrap)
    → Leads code test.number test.instr behind t → Contains (traps_from code (front ++ test ∷ behind)) (Trapped t)
behind_listed code [] test behind t h =
    Contains-append_left (at_test code test behind) (traps_from code behind) (Trapped t)
    (instr_listed code test.number test.instr behind t h)
behind_listed code (l ∷ ls) test behind t h =
    Contains-append_right (at_test code l (ls ++ test ∷ behind)) (traps_from code (ls ++ test ∷ behind)) (Trapped t)
    (behind_listed code ls test behind t h)

pub trap_listed : (code : List Line) (t : DayTrap) → HasTrap code t → Contains (traps code) (Trapped t)
trap_listed code t h =
    subst (λ (ls : List Line). Contains (traps_from code ls) (Trapped t)) (sym h.is)
    (behind_listed code h.front h.test h.behind t h.leads)
