-- The beginning of a check, and its end with the stream.
use Rattle.stream_monitor.proofs.Words.{[], ◌&&◌, ◌++◌, ◌||◌, ◌∙◌, ◌∷◌, ◌≡◌, AreFrames, Bool, CheckOptions, Fib}
use Rattle.stream_monitor.proofs.Words.{Follows, HasNoEnsemble, HoldsFirst, IsAfter, IsSummary, Line, List, Reading}
use Rattle.stream_monitor.proofs.Words.{State, StopsAtEnd, Summary, Tally, Totals, Unknown, ap, append-nil, arith}
use Rattle.stream_monitor.proofs.Words.{count_step, false, false≢true, fib_count, flat_map, frame_count, frames_lines}
use Rattle.stream_monitor.proofs.Words.{is_begun, is_empty, is_stopped, length, map, nat_lt, not, refl, subst}
use Rattle.stream_monitor.proofs.Words.{sym, tally_after, totals_after, true, unbegun, ℕ}
use Rattle.stream_monitor.specs.declared.ending.Ending.TheVariants as endings
use Rattle.stream_monitor.specs.declared.line.Cause.TheVariants as causes
use Rattle.stream_monitor.proofs.Steps.{goes_on, summary_is}

-- ---- nothing is framed

pub none_framed : (size : ℕ) (frames : List (List Fib)) (rest : List Fib) → AreFrames size frames rest
    → flat_map (λ f. f) frames ++ rest ≡ [] → (frames ≡ []) × (rest ≡ [])
none_framed size [] rest cut none = (refl, none)
none_framed size ([] ∷ frames) rest cut none = absurd cut.0
none_framed size ((x ∷ xs) ∷ frames) rest cut none = absurd cc

pub none_there : (xs ys : List Fib) → xs ++ ys ≡ [] → ys ≡ []
none_there [] ys e = e
none_there (x ∷ xs) ys e = absurd cc

none_mapped : (r : Reading) (fibs : List (List ℕ)) → map r.read fibs ≡ [] → fibs ≡ []
none_mapped r [] e = refl
none_mapped r (x ∷ xs) e = absurd cc

none_held : (skipped later : List Fib) → HasNoEnsemble (skipped ++ later) → HoldsFirst later → later ≡ []
none_held [] [] none first = refl
none_held [] (x ∷ xs) none first = absurd (false≢true (sym none.0 ∙ first))
none_held (x ∷ xs) later none first = none_held xs later none.1 first

no_frames : (frames : List (List Fib)) → 0 ≡ length frames → frames ≡ []
no_frames [] e = refl
no_frames (f ∷ fs) e = absurd (omega (arith, e))

-- ---- before the first FIB

pub starts : (r : Reading) (o : CheckOptions) (s : State) → Follows r o.mode o.period [] Unknown Unknown s.checker
    → s.tally ≡ record { swaps = 0; faults = 0 } → IsAfter r o [] [] s
starts r o s f tally =
    let empty = none_framed _ _ _ f.framed.cut (none_there _ _ (sym f.framed.whole)) in
    let none : f.frames ≡ [] = empty.0 in
    record {
      sizes = tt;
      stream = [];
      read = refl;
      follows = f;
      tally = tally ∙ sym (ap (tally_after o) none);
      no_fault = ap (is_stopped o) none ∙ nothing o.until_fault;
      lines = sym (ap (frames_lines o f.skipped []) none);
    }
  where
    nothing : (b : Bool) → b && false ≡ false
    nothing true = refl
    nothing false = refl

-- ---- at the end

abbrev pub totals_with : Summary → Tally → Totals
totals_with summary tally = record { summary = summary; swaps = tally.swaps; faults = tally.faults }

pub ends_counted : (r : Reading) (o : CheckOptions) (fibs : List (List ℕ)) (log : List Line) (s : State) (sum : Summary)
    (t : Totals) (h : IsAfter r o fibs log s) → is_begun s.checker ≡ true
    → IsSummary h.follows.skipped h.follows.frames (map r.read s.checker.held) sum → t ≡ totals_with sum s.tally
    → StopsAtEnd r o fibs [] log (endings.Counted t)
ends_counted r o fibs log s sum t h begun summary is =
    let f = h.follows in
    let rest = map r.read s.checker.held in
    let totals : t ≡ totals_after o f.skipped f.frames rest = cc (is, summary_is _ _ _ _ summary, h.tally) in
    (goes_on r o fibs log s h, refl, some, totals)
  where
    some : HasNoEnsemble (map r.read fibs) → ⊥
    some none =
        let f = h.follows in
        let whole = subst HasNoEnsemble (sym h.read ∙ f.framed.whole) none in
        let empty = none_framed (fib_count o.mode) f.frames (map r.read s.checker.held) f.framed.cut
        (none_held f.skipped (flat_map (λ g. g) f.frames ++ map r.read s.checker.held) whole f.framed.begun) in
        let count = frame_count (count_step o.mode) o.period f.frames s.checker.state f.knows ∙ ap length empty.0 in
        false≢true (sym (ap (λ n. nat_lt 0 n || not (is_empty s.checker.held)) count
        ∙ ap (λ l. nat_lt 0 0 || not (is_empty l)) (none_mapped r s.checker.held empty.1)) ∙ begun)

pub ends_without : (r : Reading) (o : CheckOptions) (fibs : List (List ℕ)) (log : List Line) (s : State)
    → IsAfter r o fibs log s → is_begun s.checker ≡ false
    → StopsAtEnd r o fibs [] log (endings.Refused causes.NoEnsemble)
ends_without r o fibs log s h begun =
    let f = h.follows in
    let un = unbegun s.checker begun in
    let none : f.frames ≡ [] =
    no_frames f.frames (sym un.none ∙ frame_count (count_step o.mode) o.period f.frames s.checker.state f.knows) in
    let all : map r.read fibs ≡ f.skipped = cc (h.read, f.framed.whole, none, un.empty, append-nil f.skipped) in
    (goes_on r o fibs log s h, refl, subst HasNoEnsemble (sym all) f.framed.before)
