-- The entries that the FIBs of a frame carry.
use Rattle.plan_runs.proofs.Words.{[], ◌*◌, ◌++◌, ◌+◌, ◌==◌, ◌∙◌, ◌∷◌, ◌≡◌, ◌⊎◌, AllByRecursion, AreFibs, Bool}
use Rattle.plan_runs.proofs.Words.{Configuration, EnsembleInformation, EnsembleIsHeard, FrameLayout, I, IsHeardInRow}
use Rattle.plan_runs.proofs.Words.{List, Marked, None, Option, PageIsFibs, Plan, Raw, ReserveOne, ReserveTwo, Some}
use Rattle.plan_runs.proofs.Words.{State, Whole, ap, arith, cond, drop, drop-drop, ensemble_figs, ensemble_sent}
use Rattle.plan_runs.proofs.Words.{entries_where, facts_of, false, fib_at, fib_entries, fibs_from, fig_of, figs_of}
use Rattle.plan_runs.proofs.Words.{first_fib, flat_map, frame_fibs, inl, inr, is_noticed, later_fibs, length, map}
use Rattle.plan_runs.proofs.Words.{page_entries, page_set, raw_entry, refl, replicate, reserved_fibs}
use Rattle.plan_runs.proofs.Words.{sent_entries, shown_bytes, subst, suc, sym, true, zero, ℕ}
use Rattle.plan_runs.proofs.Tracked.{Airs}
use Rattle.plan_runs.proofs.Right.{PageLaws, pageable, sent_within}
use Rattle.plan_runs.proofs.Parts.{In}
use Rattle.plan_runs.proofs.Pictures.{entries_of, contains_in, fact_in, in_append}
use Rattle.plan_runs.proofs.Hearing.{first_heard, figs_heard}
use Rattle.plan_runs.proofs.Tuned.{IsSentOf, AreSentOf, SaidIn, SaidInSome, Says, AllSay}

-- the laws of pages and FIBs that are used
pub record Laws : Type 0 where
  pub pages : PageLaws
  pub fibs : PageIsFibs
  pub ensemble : EnsembleIsHeard

-- ---- what is sent

each_from : {T : Type 0} (P : T → Type 0) (xs : List T) → ((x : T) → In x xs → P x) → AllByRecursion P xs
each_from P [] f = tt
each_from P (x ∷ xs) f = (f x (inl refl), each_from P xs (λ y h. f y (inr h)))

chosen : (P : Marked → Type 0) (e : Marked) (xs : List Marked) → P e → AllByRecursion P xs → (b : Bool)
    → AllByRecursion P (cond b (e ∷ xs) xs)
chosen P e xs h hs true = (h, hs)
chosen P e xs h hs false = hs

each_where : (P : Marked → Type 0) (test : ℕ → Bool) (es : List Marked) (ns : List ℕ) → AllByRecursion P es
    → AllByRecursion P (entries_where test es ns)
each_where P test [] ns h = tt
each_where P test (e ∷ es) [] h = tt
each_where P test (e ∷ es) (n ∷ ns) h = chosen P e (entries_where test es ns) h.0 (each_where P test es ns h.1) (test n)

sent_by : (c n : Configuration) (b : Bool) (m : Marked) → In m (page_set c (cond b (Some n) None)) → IsSentOf b c n m
sent_by c n false m h = let fact = fact_in false (entries_of c) m h in inl (sym fact.0, fact.1)
sent_by c n true m h =
    elim (in_append m (facts_of c false) (facts_of n true) h) [
      | inl here ↦ (let fact = fact_in false (entries_of c) m here in inl (sym fact.0, fact.1))
      | inr there ↦ (let fact = fact_in true (entries_of n) m there in inr (refl, sym fact.0, fact.1))
    ]

set_sent : (plan : Plan) (u : State) → AllByRecursion (IsSentOf (is_noticed plan.notice u.left) u.current u.next)
    (sent_entries plan u)
set_sent plan u = each_from (IsSentOf (is_noticed plan.notice u.left) u.current u.next) (sent_entries plan u)
    (sent_by u.current u.next (is_noticed plan.notice u.left))

pub fib_sent : (plan : Plan) (u : State) (n : ℕ) → AllByRecursion
    (IsSentOf (is_noticed plan.notice u.left) u.current u.next) (fib_entries plan.layout n (sent_entries plan u))
fib_sent plan u n = each_where _ (λ m. m == n) _ _ (set_sent plan u)

fibs_sent : (plan : Plan) (u : State) (ns : List ℕ) → AreSentOf (is_noticed plan.notice u.left) u.current u.next
    (map (λ n. fib_entries plan.layout n (sent_entries plan u)) ns)
fibs_sent plan u [] = tt
fibs_sent plan u (n ∷ ns) = (fib_sent plan u n, fibs_sent plan u ns)

-- ---- what the FIBs carry

-- FIBs without FIGs, the reserved ones, have no entries
none_say : (count place : ℕ) (frame : List ℕ) → AreFibs (replicate count []) (drop (32 * place) frame)
    → AllSay (fibs_from count place frame) (replicate count [])
none_say zero place frame h = tt
none_say (suc count) place frame h =
    let next = drop-drop 32 (32 * place) frame ∙ ap (λ k. drop k frame) (omega arith) in
    let rest = subst (λ (b : List ℕ). AreFibs (replicate count []) b) next h.1 in
    (record { figs = []; is_fib = h.0.fib; hears = figs_heard [] }, none_say count (place + 1) frame rest)

later_say : (layout : FrameLayout) (es : List Marked) (ns : List ℕ) (count place : ℕ) (frame : List ℕ)
    → AreFibs (map (λ n. figs_of (fib_entries layout n es)) ns ++ replicate count []) (drop (32 * place) frame)
    → AllSay (fibs_from (length ns + count) place frame) (map (λ n. fib_entries layout n es) ns ++ replicate count [])
later_say layout es [] count place frame h =
    let same : 0 + count ≡ count = omega arith in
    subst (λ (n : ℕ). AllSay (fibs_from n place frame) (replicate count [])) (sym same) (none_say count place frame h)
later_say layout es (n ∷ ns) count place frame h =
    let next : drop 32 (drop (32 * place) frame) ≡ drop (32 * (place + 1)) frame =
    drop-drop 32 (32 * place) frame ∙ ap (λ k. drop k frame) (omega arith) in
    let rest : AreFibs (map (λ n. figs_of (fib_entries layout n es)) ns ++ replicate count [])
    (drop (32 * (place + 1)) frame) = rw (← next) h.1 in
    let one : suc (length ns) + count ≡ suc (length ns + count) = omega arith in
    subst (λ (k : ℕ). AllSay (fibs_from k place frame)
    (map (λ n. fib_entries layout n es) (n ∷ ns) ++ replicate count [])) (sym one) (
      record {
        figs = map fig_of (figs_of (fib_entries layout n es));
        is_fib = h.0.fib;
        hears = figs_heard (fib_entries layout n es);
      },
      later_say layout es ns count (place + 1) frame rest,
    )

pub record FrameSays (plan : Plan) (u : State) : Type 0 where
  pub first_fib_is : List ℕ
  pub later_are : List (List ℕ)
  pub fibs : fibs_from (frame_fibs plan.layout) 0 (shown_bytes plan u) ≡ first_fib_is ∷ later_are
  pub entries : List Marked
  pub more : List (List Marked)
  pub first : Says first_fib_is (ensemble_sent plan u) entries
  pub later : AllSay later_are more
  pub entries_sent : AllByRecursion (IsSentOf (is_noticed plan.notice u.left) u.current u.next) entries
  pub more_sent : AreSentOf (is_noticed plan.notice u.left) u.current u.next more
  pub heard : (m : Marked) → IsHeardInRow (shown_bytes plan u) m → SaidIn m.next entries (raw_entry m.entry)
      ⊎ SaidInSome m.next more (raw_entry m.entry)

said_in : (ms : List Marked) (m : Marked) → In m ms → SaidIn m.next ms (raw_entry m.entry)
said_in [] m h = absurd h
said_in (x ∷ xs) m (inl same) = inl (ap (λ (y : Marked). y.next) same, ap (λ (y : Marked). raw_entry y.entry) same)
said_in (x ∷ xs) m (inr more) = inr (said_in xs m more)

said_in_some : (f : ℕ → List Marked) (ns : List ℕ) (m : Marked) → In m (flat_map f ns)
    → SaidInSome m.next (map f ns) (raw_entry m.entry)
said_in_some f [] m h = absurd h
said_in_some f (n ∷ ns) m h =
    elim (in_append m (f n) (flat_map f ns) h) [
      | inl here ↦ inl (said_in (f n) m here)
      | inr there ↦ inr (said_in_some f ns m there)
    ]

said_in_more : (next : Bool) (xs ys : List (List Marked)) (raw : Raw) → SaidInSome next xs raw
    → SaidInSome next (xs ++ ys) raw
said_in_more next [] ys raw h = absurd h
said_in_more next (x ∷ xs) ys raw (inl here) = inl here
said_in_more next (x ∷ xs) ys raw (inr there) = inr (said_in_more next xs ys raw there)

sent_and_none : (on : Bool) (c n : Configuration) (xs : List (List Marked)) (count : ℕ) → AreSentOf on c n xs
    → AreSentOf on c n (xs ++ replicate count [])
sent_and_none on c n [] zero h = tt
sent_and_none on c n [] (suc count) h = (tt, sent_and_none on c n [] count tt)
sent_and_none on c n (x ∷ xs) count h = (h.0, sent_and_none on c n xs count h.1)

count_of : (layout : FrameLayout) (k : ℕ) → frame_fibs layout
    ≡ suc (length (later_fibs layout k) + reserved_fibs layout)
count_of (Whole I) k = refl
count_of (Whole _) k = refl
count_of (ReserveOne I) k = refl
count_of (ReserveOne _) k = refl
count_of ReserveTwo k = refl

pub frame_says : Laws → (plan : Plan) (u : State) → Airs plan u → FrameSays plan u
frame_says laws plan u a =
    let layout : FrameLayout = plan.layout in
    let es : List Marked = sent_entries plan u in
    let o : Option EnsembleInformation = ensemble_sent plan u in
    let k : ℕ = u.page_index in
    let frame : List ℕ = shown_bytes plan u in
    let ns : List ℕ = later_fibs layout k in
    let are = (laws.pages.valid layout o k es (pageable laws.pages plan u a)).0 in
    record {
      first_fib_is = fib_at frame 0;
      later_are = fibs_from (length ns + reserved_fibs layout) 1 frame;
      fibs = ap (λ (n : ℕ). fibs_from n 0 frame) (count_of layout k);
      entries = fib_entries layout (first_fib layout k) es;
      more = map (λ n. fib_entries layout n es) ns ++ replicate (reserved_fibs layout) [];
      first = record {
        figs = map fig_of (ensemble_figs o ++ figs_of (fib_entries layout (first_fib layout k) es));
        is_fib = are.0.fib;
        hears = first_heard laws.ensemble o (sent_within plan u a) (fib_entries layout (first_fib layout k) es);
      };
      later = later_say layout es ns (reserved_fibs layout) 1 frame are.1;
      entries_sent = fib_sent plan u (first_fib layout k);
      more_sent = sent_and_none _ _ _ _ _ (fibs_sent plan u ns);
      heard = λ m h.
          let inside = (laws.pages.heard layout o k es (pageable laws.pages plan u a) m).0 h in
          let among : In m (page_entries layout k es) = contains_in (page_entries layout k es) m inside in
          elim (in_append m (fib_entries layout (first_fib layout k) es) (flat_map (λ n. fib_entries layout n es) ns)
          (subst (λ (xs : List Marked). In m xs) (laws.fibs layout es k) among)) [
            | inl here ↦ inl (said_in (fib_entries layout (first_fib layout k) es) m here)
            | inr there ↦ inr (said_in_more m.next (map (λ n. fib_entries layout n es) ns)
                (replicate (reserved_fibs layout) []) (raw_entry m.entry)
                (said_in_some (λ n. fib_entries layout n es) ns m there))
          ];
    }
