-- The rows of a typed code have the next configuration that is known at each of its commits.
use Rattle.plan_map.proofs.Words.{[], ◌++◌, ◌+◌, ◌-◌, ◌<◌, ◌==◌, ◌∙◌, ◌∷◌, ◌≡◌, Beginning, Bool, Commit, CommitAt}
use Rattle.plan_map.proofs.Words.{CommitIn, Configuration, Edits, HasCommit, Idle, Instr, IsCommit, IsFine, IsTyping}
use Rattle.plan_map.proofs.Words.{Known, Label, Line, List, None, One, Option, Perhaps, Plan, Program, Reached, Row}
use Rattle.plan_map.proofs.Words.{RowsAreCommits, Settle, Some, Until, Wait, WaitAny, WaitContact, Ways, Within, after}
use Rattle.plan_map.proofs.Words.{after_pause, after_settle, after_wait, ap, arith, changed, commits_from, cond}
use Rattle.plan_map.proofs.Words.{declared_by, eqb-true, false, filter, found, get_some, instr_at, known_after_swap}
use Rattle.plan_map.proofs.Words.{known_next, label_at, lead_of, leaves, left_by, length, nat_lt, opening_of}
use Rattle.plan_map.proofs.Words.{option_map, or_else, perhaps_swapped, refl, rows_of, same_Some, slice_get}
use Rattle.plan_map.proofs.Words.{slice_get_within, subst, suc, sym, take, true, unlabelled, unless_at_fault, ways_from}
use Rattle.plan_map.proofs.Words.{zero, ℕ}
use Rattle.plan_code.specs.declared.label.Swap.{Swap}
use Rattle.plan_verifier.specs.Rules.{commits}
use Rattle.plan_map.specs.declared.lead.Lead.{Lead}

-- ---- what an instruction leaves

perhaps_next : (hi : ℕ) (t : Known) → (perhaps_swapped hi t).next ≡ t.next
perhaps_next hi t = by (nat_lt 1 hi)
  where
    by : (test : Bool) → (let u : Known = cond test (record t { pending = Perhaps (hi - 1) }) (known_after_swap t) in
        u.next) ≡ t.next
    by true = refl
    by false = refl

pub waited_next : (n : ℕ) (q : Swap) (t : Known) → (after_wait n q t).next ≡ t.next
waited_next n Idle t = refl
waited_next n (Within lo hi) t = by (nat_lt n lo)
  where
    by : (test : Bool) → (let u : Known = cond test (record t { pending = Within (lo - n) (hi - n) })
        (known_after_swap t) in u.next) ≡ t.next
    by true = refl
    by false = refl
waited_next n (Perhaps hi) t = by (nat_lt n hi)
  where
    by : (test : Bool) → (let u : Known = cond test (record t { pending = Perhaps (hi - n) }) (known_after_swap t) in
        u.next) ≡ t.next
    by true = refl
    by false = refl

pub paused_next : (q : Swap) (t : Known) → (after_pause q t).next ≡ t.next
paused_next Idle t = refl
paused_next (Within lo hi) t = perhaps_next hi t
paused_next (Perhaps hi) t = perhaps_next hi t

pub settled_next : (q : Swap) (t : Known) → (after_settle q t).next ≡ t.next
settled_next Idle t = refl
settled_next _ t = refl

left_known : (plan : Plan) (i : Instr) (t : Known) → IsFine plan i t → left_by i t.next ≡ (leaves plan i t).next
left_known plan (Wait n) t h = sym (waited_next n t.pending t)
left_known plan (Until d) t h = sym (paused_next t.pending t)
left_known plan (WaitContact k b) t h = sym (paused_next t.pending t)
left_known plan (WaitAny closed opened until frames) t h = sym (paused_next t.pending t)
left_known plan Settle t h = sym (settled_next t.pending t)
left_known plan (Edits e) t h = ap (λ o. unless_at_fault o (changed e t.next) t.next) h.1
left_known plan _ t h = refl

-- ---- what is known at an instruction

-- given the next configuration that the instruction before it left
abbrev pub KnowsNext : Program → List Known → ℕ → Configuration → Type 0
KnowsNext p typing pc next = (t : Known) → slice_get typing pc ≡ Some t → known_next p pc next ≡ t.next

-- with a label, it is what the label declares
labelled : (p : Program) (typing : List Known) (pc : ℕ) (label : Label) (next : Configuration) (t : Known)
    → IsTyping p typing → label_at p pc ≡ Some label → slice_get typing pc ≡ Some t
    → declared_by p (Some label) next ≡ t.next
labelled p typing pc label next t h e there =
    let within = found (λ (l : Label). l.pc == pc) p.labels label e in
    let typed = h.labels label within.0 in
    let here = subst (λ k. slice_get typing k ≡ Some typed.known) (eqb-true label.pc pc within.1) typed.there in
    let same : typed.known ≡ t = same_Some typed.known t (sym here ∙ there) in
    ap (λ o. or_else o next) typed.declares.next ∙ ap (λ (k : Known). k.next) same

entering : (p : Program) (typing : List Known) (pc : ℕ) (i : Instr) (t u : Known) (next : Configuration)
    (o : Option Label) → IsTyping p typing → instr_at p pc ≡ Some i → slice_get typing pc ≡ Some t
    → next ≡ (leaves p.plan i t).next → label_at p (pc + 1) ≡ o → slice_get typing (pc + 1) ≡ Some u
    → declared_by p o next ≡ u.next
entering p typing pc i t u next None h at there left e later =
    left ∙ ap (λ (k : Known). k.next) (sym (unlabelled p typing pc i t u h at there e later))
entering p typing pc i t u next (Some label) h at there left e later = labelled p typing (pc + 1) label next u h e later

-- from an instruction to the next one
onward : (p : Program) (typing : List Known) (pc : ℕ) (i : Instr) (t : Known) (next : Configuration) → IsTyping p typing
    → instr_at p pc ≡ Some i → slice_get typing pc ≡ Some t
    → next ≡ (leaves p.plan i t).next → KnowsNext p typing (pc + 1) next
onward p typing pc i t next h at there left u later = entering _ _ _ _ _ _ _ _ h at there left refl later

-- at the first one
pub at_first : (p : Program) (typing : List Known) (next : Configuration) → IsTyping p typing
    → KnowsNext p typing 0 next
at_first p typing next h t there =
    let o = h.opening in
    rw o.first (labelled p typing 0 o.label next t h o.first there)

-- ---- along a code

-- these are the instructions from a pc on
abbrev pub AreFrom : Program → ℕ → List Line → Type 0
AreFrom p pc ls = (k : ℕ) → slice_get p.lines (pc + k) ≡ slice_get ls k

pub all_from : (p : Program) → AreFrom p 0 p.lines
all_from p k = let e : 0 + k ≡ k = omega arith in ap (λ n. slice_get p.lines n) e

from_next : (p : Program) (pc : ℕ) (l : Line) (ls : List Line) → AreFrom p pc (l ∷ ls) → AreFrom p (pc + 1) ls
from_next p pc l ls h k =
    ap (λ n. slice_get p.lines n) (omega arith) ∙ h (suc k)

first_of_them : (p : Program) (pc : ℕ) (l : Line) (ls : List Line) → AreFrom p pc (l ∷ ls)
    → slice_get p.lines pc ≡ Some l
first_of_them p pc l ls h =
    ap (λ n. slice_get p.lines n) (omega arith) ∙ h 0

knows_next : (p : Program) (typing : List Known) (pc : ℕ) (next : Configuration) (l : Line) (ls : List Line)
    → IsTyping p typing → AreFrom p pc (l ∷ ls) → KnowsNext p typing pc next
    → KnowsNext p typing (pc + 1) (left_by l.instr (known_next p pc next))
knows_next p typing pc next l ls ty rest knows =
    let line : slice_get p.lines pc ≡ Some l = first_of_them p pc l ls rest in
    let at : instr_at p pc ≡ Some l.instr = ap (λ o. option_map (λ (x : Line). x.instr) o) line in
    let here = get_some typing pc (subst (λ n. pc < n) (sym ty.each) (slice_get_within p.lines pc l line)) in
    let fine = (ty.safe pc l.instr here.0 at here.1).fine in
    let left = ap (λ c. left_by l.instr c) (knows here.0 here.1) ∙ left_known p.plan l.instr here.0 fine in
    onward p typing pc l.instr here.0 (left_by l.instr (known_next p pc next)) ty at here.1 left

-- ---- commits

pub commits_if : (i : Instr) → IsCommit i → commits i ≡ true
commits_if (CommitIn d) h = refl
commits_if (CommitAt n) h = refl
commits_if _ h = absurd h

is_commit : (i : Instr) → commits i ≡ true → IsCommit i
is_commit (CommitIn d) e = tt
is_commit (CommitAt n) e = tt
is_commit (Edits e) h = absurd cc
is_commit _ e = absurd cc

-- the number of commits among these instructions
abbrev pub commit_count : List Line → ℕ
commit_count ls = length (filter (λ (l : Line). commits l.instr) ls)

-- ---- the row of a commit

past_row : (b : Bool) (r : Row) (rows : List Row) (x : Line) (xs : List Line)
    → slice_get (cond b (r ∷ []) [] ++ rows) (length (cond b (x ∷ xs) xs)) ≡ slice_get rows (length xs)
past_row true r rows x xs = refl
past_row false r rows x xs = refl

pub row_of : (p : Program) (typing : List Known) → IsTyping p typing
    → (pc : ℕ) (before : Ways) (passed : List Reached) (next : Configuration) (ls : List Line) → AreFrom p pc ls
    → KnowsNext p typing pc next
    → (k : ℕ) (l : Line) (t : Known) → slice_get ls k ≡ Some l → slice_get typing (pc + k) ≡ Some t
    → commits l.instr ≡ true
    → HasCommit (commits_from p pc before passed next ls) (commit_count (take k ls)) l t.next
row_of p typing ty pc before passed next [] rest knows k l t at there c = absurd cc
row_of p typing ty pc before passed next (x ∷ ls) rest knows zero l t at there c =
    let same : l ≡ x = same_Some l x (sym at) in
    let here : Configuration = known_next p pc next in
    let ways : Ways = ways_from pc before passed in
    let row : Row = record { kind = Commit; line = x.number; block = []; lead = lead_of ways; config = here } in
    let behind : List Row = commits_from p (pc + 1) (after x.instr ways)
    (passed ++ record { instr = x.instr; ways = ways } ∷ []) (left_by x.instr here) ls in
    let on : commits x.instr ≡ true = subst (λ (y : Line). commits y.instr ≡ true) same c in
    record {
      row = row;
      there = ap (λ b. slice_get (cond b (row ∷ []) [] ++ behind) 0) on;
      kind = refl;
      line = ap (λ (y : Line). y.number) (sym same);
      config = knows t (subst (λ n. slice_get typing n ≡ Some t) (omega arith) there);
    }
row_of p typing ty pc before passed next (x ∷ ls) rest knows (suc k) l t at there c =
    let here : Configuration = known_next p pc next in
    let ways : Ways = ways_from pc before passed in
    let row : Row = record { kind = Commit; line = x.number; block = []; lead = lead_of ways; config = here } in
    let behind : List Row = commits_from p (pc + 1) (after x.instr ways)
    (passed ++ record { instr = x.instr; ways = ways } ∷ []) (left_by x.instr here) ls in
    let more =
    row_of p typing ty (pc + 1) (after x.instr ways) (passed ++ record { instr = x.instr; ways = ways } ∷ [])
    (left_by x.instr here) ls (from_next p pc x ls rest) (knows_next p typing pc next x ls ty rest knows) k l t at
    (subst (λ n. slice_get typing n ≡ Some t) (omega arith) there) c
    in
    record {
      row = more.row;
      there = past_row (commits x.instr) row behind x (filter (λ (y : Line). commits y.instr) (take k ls)) ∙ more.there;
      kind = more.kind;
      line = more.line;
      config = more.config;
    }

-- ---- the commit of a row

pub record IsFrom (typing : List Known) (pc : ℕ) (ls : List Line) (n : ℕ) (row : Row) : Type 0 where
  pub at : ℕ
  pub instr : Line
  pub known : Known
  pub there : slice_get ls at ≡ Some instr
  pub commits : commits instr.instr ≡ true
  pub order : commit_count (take at ls) ≡ n
  pub knows : slice_get typing (pc + at) ≡ Some known
  pub kind : row.kind ≡ Commit
  pub line : row.line ≡ instr.number
  pub config : row.config ≡ known.next

from_later : (typing : List Known) (pc : ℕ) (x : Line) (ls : List Line) (b : Bool) (m : ℕ) (row : Row)
    → commits x.instr ≡ b → IsFrom typing (pc + 1) ls m row → IsFrom typing pc (x ∷ ls) (cond b (suc m) m) row
from_later typing pc x ls b m row e h =
    record {
      at = suc h.at;
      instr = h.instr;
      known = h.known;
      there = h.there;
      commits = h.commits;
      order = ap (λ t. length (cond t (x ∷ kept h) (kept h))) e ∙ counted b h ∙ ap (λ n. cond b (suc n) n) h.order;
      knows = subst (λ n. slice_get typing n ≡ Some h.known) (omega arith) h.knows;
      kind = h.kind;
      line = h.line;
      config = h.config;
    }
  where
    kept : IsFrom typing (pc + 1) ls m row → List Line
    kept g = filter (λ (y : Line). commits y.instr) (take g.at ls)

    counted : (t : Bool) (g : IsFrom typing (pc + 1) ls m row)
        → length (cond t (x ∷ kept g) (kept g)) ≡ cond t (suc (length (kept g))) (length (kept g))
    counted true g = refl
    counted false g = refl

from_here : (p : Program) (typing : List Known) (pc : ℕ) (lead : Option Lead) (next : Configuration) (x : Line)
    (ls : List Line) (t : Known) (row : Row) → slice_get typing pc ≡ Some t
    → KnowsNext p typing pc next → commits x.instr ≡ true
    → row ≡ record { kind = Commit; line = x.number; block = []; lead = lead; config = known_next p pc next }
    → IsFrom typing pc (x ∷ ls) 0 row
from_here p typing pc lead next x ls t row there knows c is =
    record {
      at = 0;
      instr = x;
      known = t;
      there = refl;
      commits = c;
      order = refl;
      knows = subst (λ n. slice_get typing n ≡ Some t) (omega arith) there;
      kind = ap (λ (r : Row). r.kind) is;
      line = ap (λ (r : Row). r.line) is;
      config = ap (λ (r : Row). r.config) is ∙ knows t there;
    }

from_either : (typing : List Known) (pc : ℕ) (x : Line) (ls : List Line) (r : Row) (rows : List Row)
    → (commits x.instr ≡ true → (row : Row) → row ≡ r → IsFrom typing pc (x ∷ ls) 0 row)
    → ((m : ℕ) (row : Row) → slice_get rows m ≡ Some row → IsFrom typing (pc + 1) ls m row) → (b : Bool)
    → commits x.instr ≡ b → (n : ℕ) (row : Row)
    → slice_get (cond b (r ∷ []) [] ++ rows) n ≡ Some row → IsFrom typing pc (x ∷ ls) n row
from_either typing pc x ls r rows here later true e zero row at = here e row (same_Some row r (sym at))
from_either typing pc x ls r rows here later true e (suc n) row at =
    from_later typing pc x ls true n row e (later n row at)
from_either typing pc x ls r rows here later false e n row at = from_later typing pc x ls false n row e (later n row at)

of_row : (p : Program) (typing : List Known) → IsTyping p typing
    → (pc : ℕ) (before : Ways) (passed : List Reached) (next : Configuration) (ls : List Line) → AreFrom p pc ls
    → KnowsNext p typing pc next
    → (n : ℕ) (row : Row) → slice_get (commits_from p pc before passed next ls) n ≡ Some row → IsFrom typing pc ls n row
of_row p typing ty pc before passed next [] rest knows n row at = absurd cc
of_row p typing ty pc before passed next (x ∷ ls) rest knows n row at =
    let here : Configuration = known_next p pc next in
    let ways : Ways = ways_from pc before passed in
    let r : Row = record { kind = Commit; line = x.number; block = []; lead = lead_of ways; config = here } in
    let within = subst (λ k. pc < k) (sym ty.each) (slice_get_within p.lines pc x (first_of_them p pc x ls rest)) in
    let known = get_some typing pc within in
    from_either typing pc x ls r
    (commits_from p (pc + 1) (after x.instr ways) (passed ++ record { instr = x.instr; ways = ways } ∷ [])
    (left_by x.instr here) ls)
    (λ c given is. from_here p typing pc (lead_of ways) next x ls known.0 given known.1 knows c is)
    (of_row p typing ty (pc + 1) (after x.instr ways) (passed ++ record { instr = x.instr; ways = ways } ∷ [])
    (left_by x.instr here) ls (from_next p pc x ls rest) (knows_next p typing pc next x ls ty rest knows))
    (commits x.instr) refl n row at

-- ---- the number of rows

more_rows : (b : Bool) (r : Row) (rows : List Row) (x : Line) (xs : List Line) → length rows ≡ length xs
    → length (cond b (r ∷ []) [] ++ rows) ≡ length (cond b (x ∷ xs) xs)
more_rows true r rows x xs e = ap suc e
more_rows false r rows x xs e = e

row_count : (p : Program) (pc : ℕ) (before : Ways) (passed : List Reached) (next : Configuration) (ls : List Line)
    → length (commits_from p pc before passed next ls) ≡ commit_count (take (length ls) ls)
row_count p pc before passed next [] = refl
row_count p pc before passed next (x ∷ ls) =
    let here : Configuration = known_next p pc next in
    let ways : Ways = ways_from pc before passed in
    let row : Row = record { kind = Commit; line = x.number; block = []; lead = lead_of ways; config = here } in
    more_rows (commits x.instr) row
    (commits_from p (pc + 1) (after x.instr ways) (passed ++ record { instr = x.instr; ways = ways } ∷ [])
    (left_by x.instr here) ls) x (filter (λ (y : Line). commits y.instr) (take (length ls) ls))
    (row_count p (pc + 1) (after x.instr ways) (passed ++ record { instr = x.instr; ways = ways } ∷ [])
    (left_by x.instr here) ls)

-- ---- the law

-- the rows after the first one
abbrev pub later_rows : Program → List Row
later_rows p = commits_from p 0 (One Beginning) [] (opening_of p) p.lines

later_row : (begin n : ℕ) (p : Program) (row : Row) → slice_get (rows_of begin p) (1 + n) ≡ Some row
    → slice_get (later_rows p) n ≡ Some row
later_row begin n p row at =
    let e : 1 + n ≡ suc n = omega arith in
    subst (λ k. slice_get (rows_of begin p) k ≡ Some row) e at

pub rows_are_commits : RowsAreCommits
rows_are_commits begin p typing ty =
    let more : suc (length (later_rows p)) ≡ 1 + length (later_rows p) = omega arith in (
      more ∙ ap (λ n. 1 + n) (row_count p 0 (One Beginning) [] (opening_of p) p.lines),
      λ n row at.
          let h = of_row p typing ty 0 (One Beginning) [] (opening_of p) p.lines (all_from p)
          (at_first p typing (opening_of p) ty) n row (later_row begin n p row at) in
          record {
            pc = h.at;
            instr = h.instr;
            known = h.known;
            there = h.there;
            commits = is_commit h.instr.instr h.commits;
            order = h.order;
            at = subst (λ k. slice_get typing k ≡ Some h.known) (omega arith) h.knows;
            kind = h.kind;
            line = h.line;
            config = h.config;
          },
    )
