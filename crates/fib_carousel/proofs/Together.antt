-- Successive entries with the same head and size: the position after all of them, and their FIG with all of them.
use Rattle.fib_carousel.proofs.Words.{[], ◌*◌, ◌++◌, ◌+◌, ◌-◌, ◌<◌, ◌∙◌, ◌∷◌, ◌≡◌, ◌≤◌, AllByRecursion-at, AreAlike}
use Rattle.fib_carousel.proofs.Words.{Bool, Entry, EntryShape, FrameLayout, Grows, GrowsBy, Head, IsRun, IsShapeAt}
use Rattle.fib_carousel.proofs.Words.{List, Marked, None, OpenFig, Option, PackState, Position, PutsRun, Some}
use Rattle.fib_carousel.proofs.Words.{TakesRuns, Written, ap, append-nil, append_assoc, arith, drop, drop-drop}
use Rattle.fib_carousel.proofs.Words.{entries_bytes, entry_bytes, entry_length, false, fib_entries, fig_bytes}
use Rattle.fib_carousel.proofs.Words.{figs_bytes, figs_of, figs_size, flat_map-append, get_or, get_or-append_seam}
use Rattle.fib_carousel.proofs.Words.{get_or-drop, get_or-take, head_byte, head_of, inl, inr, length, length-append}
use Rattle.fib_carousel.proofs.Words.{length-drop, length-set, length-take-le, map, marked_bytes, piece, placed, refl}
use Rattle.fib_carousel.proofs.Words.{room, same_head, set-append_seam, shape_of, size_of, slice_get, slice_get-get_or}
use Rattle.fib_carousel.proofs.Words.{slice_index_or, slice_set, state_at, step, subst, suc, sym, take, take-add, true}
use Rattle.fib_carousel.proofs.Words.{zero, ℕ, cut}
use Rattle.fib_carousel.proofs.Least.{placed_cases, room_high}
use Rattle.fib_carousel.proofs.Sharing.{same_head_is, figs_cost, written_of}
use Rattle.fib_carousel.proofs.Sent.{same_head_own}
use Rattle.fib_carousel.proofs.Runs.{placed_step, step_stays}
use Rattle.fib_carousel.proofs.Walk.{Passed, Walked, walked_in, rest_in}
use Rattle.fib_carousel.proofs.Filling.{IsFilled, FilledTo, Entered, figs_added, added, added_same, figs_bytes_last}
use Rattle.fib_carousel.proofs.Filling.{put_step, same_there, figs_size_part}

-- ---- an entry of a run
pub same_shape : (s t : EntryShape) → s.head ≡ t.head → s.size ≡ t.size → s ≡ t
same_shape s t head size =
    ap (λ (h : Head). let r : EntryShape = record { head = h; size = s.size } in r) head
    ∙ ap (λ n. let r : EntryShape = record { head = t.head; size = n } in r) size

pub record InRun (ms : List Marked) (at : ℕ) (s : EntryShape) : Type 0 where
  pub entry : Marked
  pub here : slice_get ms at ≡ Some entry
  pub shape : shape_of entry ≡ s

pub in_run : (ms : List Marked) (i n : ℕ) (s : EntryShape) (d : Marked) → IsRun ms i n s → (j : ℕ) → j < n
    → InRun ms (i + j) s
in_run ms i n s d r j lt =
    let count : length (piece ms i n) ≡ n = length-take-le n (drop i ms) (omega (arith, length-drop i ms, r.inside)) in
    record {
      entry = get_or ms (i + j) d;
      here = slice_get-get_or ms (i + j) d (omega (arith, r.inside, lt));
      shape = subst (λ (m : Marked). shape_of m ≡ s) (get_or-take n (drop i ms) j d lt ∙ get_or-drop i ms j d)
          (AllByRecursion-at (λ m. shape_of m ≡ s) (piece ms i n) j d r.alike (omega (arith, count, lt)));
    }

-- a shorter run
pub run_part : (ms : List Marked) (i n k : ℕ) (s : EntryShape) → k ≤ n → IsRun ms i n s → IsRun ms i k s
run_part ms i n k s le r = record {
  inside = omega (arith, le, r.inside);
  alike = front (drop i ms) k n le r.alike;
}
  where
    front : (xs : List Marked) (k n : ℕ) → k ≤ n → AreAlike s (take n xs) → AreAlike s (take k xs)
    front [] zero n le h = tt
    front [] (suc k) n le h = tt
    front (x ∷ xs) zero n le h = tt
    front (x ∷ xs) (suc k) zero le h = absurd (omega (arith, le))
    front (x ∷ xs) (suc k) (suc n) le h = (h.0, front xs k n (omega (arith, le)) h.1)

-- ---- the position after a run that fits in FIB n whole
same_state : (p : PackState) (s : EntryShape) (fib used : ℕ) → p.fib ≡ fib → p.used ≡ used → p.head ≡ Some s.head
    → p ≡ state_at s fib used
same_state p s fib used f u h =
    ap (λ k. let r : PackState = record { fib = k; used = p.used; head = p.head } in r) f
    ∙ ap (λ k. let r : PackState = record { fib = fib; used = k; head = p.head } in r) u
    ∙ ap (λ (x : Option Head). let r : PackState = record { fib = fib; used = used; head = x } in r) h

-- the state after placing the first of them, and the position after this many more
pub record Goes (layout : FrameLayout) (ms : List Marked) (n : ℕ) (c : Position) (q : PackState) (s : EntryShape)
    (k : ℕ) (d : Position) : Type 0 where
  pub index : d.index ≡ c.index + 1 + k
  pub fib : d.state.fib ≡ n
  pub used : d.state.used ≡ q.used + k * s.size
  pub head : d.state.head ≡ Some s.head
  pub fits : q.used + k * s.size ≤ room layout n
  pub run : IsRun ms c.index (suc k) s
  pub first : Passed layout ms c.index c.state q
  pub into : q.fib ≡ n
  pub own : q.head ≡ Some s.head
  pub near : q.fib ≤ c.state.fib + 2

pub walked_run : (layout : FrameLayout) (ms : List Marked) (n from : ℕ) (c : Position) (q : PackState) (s : EntryShape)
    (k : ℕ) (d : Position) → Goes layout ms n c q s k d → Walked layout ms n from c → Walked layout ms n from d
walked_run layout ms n from c q s zero d g w =
    let used : q.used + zero * s.size ≡ q.used = omega arith in
    let low : q.used ≤ 30 = omega (arith, g.fits, used, room_high layout n) in
    let at : d.index ≡ c.index + 1 = omega (arith, g.index) in
    let same : d.state ≡ q = same_state d.state s n (q.used + zero * s.size) g.fib g.used g.head
    ∙ ap (state_at s n) used ∙ sym (same_state q s n q.used g.into refl g.own) in
    let first : Passed layout ms c.index c.state d.state =
    subst (λ (r : PackState). Passed layout ms c.index c.state r) (sym same) g.first in
    walked_in layout ms n from c d first at g.fib (omega (arith, low, g.used, used))
    (omega (arith, g.fib, g.into, g.near)) (omega (arith, g.run.inside)) w
walked_run layout ms n from c q s (suc k) d g w =
    let e : Position = record { index = c.index + 1 + k; state = state_at s n (q.used + k * s.size) } in
    let more : suc k * s.size ≡ k * s.size + s.size = omega arith in
    let before : Goes layout ms n c q s k e = record {
      index = refl;
      fib = refl;
      used = refl;
      head = refl;
      fits = omega (arith, g.fits, more);
      run = run_part ms c.index (suc (suc k)) (suc k) s (omega arith) g.run;
      first = g.first;
      into = g.into;
      own = g.own;
      near = g.near;
    } in
    let there : InRun ms (c.index + (suc k)) s =
    in_run ms c.index (suc (suc k)) s g.first.entry g.run (suc k) (omega arith) in
    let at : c.index + (suc k) ≡ c.index + 1 + k = omega arith in
    let here : slice_get ms e.index ≡ Some there.entry = ap (λ i. slice_get ms i) (sym at) ∙ there.here in
    let fits : q.used + k * s.size + s.size ≤ room layout n = omega (arith, g.fits, more) in
    let whole : q.used + k * s.size + s.size ≡ q.used + suc k * s.size = omega (arith, more) in
    let next : d.state ≡ placed layout there.entry e.state =
    same_state d.state s n (q.used + suc k * s.size) g.fib g.used g.head
    ∙ ap (state_at s n) (sym whole)
    ∙ sym (step_stays layout s n (q.used + k * s.size) fits)
    ∙ ap (λ (t : EntryShape). step layout t e.state) (sym there.shape)
    ∙ sym (placed_step layout there.entry e.state) in
    let one : Passed layout ms e.index e.state d.state = record {
      entry = there.entry;
      here = here;
      row = cut ms e.index there.entry here;
      next = next;
    } in
    walked_in layout ms n from e d one (omega (arith, g.index)) g.fib
    (omega (arith, g.used, g.fits, room_high layout n)) (omega (arith, g.fib)) (omega (arith, g.run.inside))
    (walked_run layout ms n from c q s k e before w)

-- ---- the FIG with the rest of a run after its entries
figs_run : (here rest : List Marked) (before : List Written) (h : Head) (entries : List Entry) (s : EntryShape)
    → h ≡ s.head → AreAlike s rest
    → figs_of here ≡ before ++ written_of h entries ∷ [] → figs_of (here ++ rest) ≡ before
    ++ written_of h (entries ++ map (λ (m : Marked). m.entry) rest) ∷ []
figs_run here [] before h entries s same alike is =
    ap figs_of (append-nil here) ∙ is ∙ ap (λ es. before ++ written_of h es ∷ []) (sym (append-nil entries))
figs_run here (m ∷ rest) before h entries s same alike is =
    let own : h ≡ head_of m = same ∙ ap (λ (t : EntryShape). t.head) (sym alike.0) in
    let joins : same_head h (head_of m) ≡ true = ap (λ (g : Head). same_head h g) (sym own) ∙ same_head_own h in
    let one : figs_of (here ++ m ∷ []) ≡ before ++ written_of h (entries ++ m.entry ∷ []) ∷ [] =
    figs_added here m ∙ ap (λ fs. added fs m) is ∙ added_same before (written_of h entries) m joins in
    ap figs_of (sym (append_assoc here (m ∷ []) rest))
    ∙ figs_run (here ++ m ∷ []) rest before h (entries ++ m.entry ∷ []) s same alike.1 one
    ∙ ap (λ es. before ++ written_of h es ∷ [])
    (append_assoc entries (m.entry ∷ []) (map (λ (x : Marked). x.entry) rest))

pub run_length : (s : EntryShape) (ms : List Marked) → AreAlike s ms → length (marked_bytes ms) ≡ length ms * s.size
run_length s [] h = omega arith
run_length s (m ∷ ms) h =
    let one : length (entry_bytes m.entry) ≡ s.size = entry_length m.entry ∙ ap (λ (t : EntryShape). t.size) h.0 in
    let more : suc (length ms) * s.size ≡ s.size + length ms * s.size = omega arith in
    length-append (entry_bytes m.entry) (marked_bytes ms) ∙ omega (arith, one, more, run_length s ms h.1)

-- the entries of a run after its first
pub record Behind (old : List ℕ) (here rest : List Marked) (fig : OpenFig) (bytes : List ℕ) (more : ℕ) : Type 0 where
  pub place : fig.place < length bytes
  pub filled : IsFilled old (here ++ rest) (Some fig)
      (slice_set bytes fig.place (slice_index_or bytes fig.place 0 + more))
  pub byte : slice_index_or bytes fig.place 0 + more < length bytes

behind_all : (old after : List ℕ) (here rest : List Marked) (fig : OpenFig) (s : EntryShape) (more : ℕ)
    → IsFilled old here (Some fig) after → fig.head ≡ s.head → AreAlike s rest → more ≡ length rest * s.size
    → Behind old here rest fig (after ++ marked_bytes rest) more
behind_all old after here rest fig s more f headed alike sized =
    let last = f.end in
    let tail : List Entry = map (λ (m : Marked). m.entry) rest in
    let b : List ℕ = marked_bytes rest in
    let own : List ℕ = entries_bytes last.entries in
    let front : List ℕ = old ++ figs_bytes last.before in
    let bytes : List ℕ = after ++ b in
    let es : List Entry = last.entries ++ tail in
    let is : bytes ≡ front ++ (1 + length own) ∷ head_byte fig.head ∷ (own ++ b) =
    ap (λ t. t ++ b)
    (f.is
    ∙ ap (λ fs. old ++ figs_bytes fs) last.figs
    ∙ ap (λ t. old ++ t) (figs_bytes_last last.before (written_of fig.head last.entries))
    ∙ sym (append_assoc old (figs_bytes last.before) (fig_bytes fig.head last.entries)))
    ∙ append_assoc front (fig_bytes fig.head last.entries) b in
    let byte : slice_index_or bytes fig.place 0 ≡ 1 + length own =
    ap (λ xs. slice_index_or xs fig.place 0) is
    ∙ ap (λ n. slice_index_or (front ++ (1 + length own) ∷ head_byte fig.head ∷ (own ++ b)) n 0) last.place
    ∙ get_or-append_seam front (1 + length own) (head_byte fig.head ∷ (own ++ b)) 0 in
    let whole : entries_bytes es ≡ own ++ b = flat_map-append entry_bytes last.entries tail in
    let count : slice_index_or bytes fig.place 0 + more ≡ 1 + length (entries_bytes es) =
    omega (arith, byte, run_length s rest alike ∙ sym sized, ap length whole, length-append own b) in
    let total = ap length is ∙ length-append front ((1 + length own) ∷ head_byte fig.head ∷ (own ++ b)) in
    let figs = figs_run here rest last.before fig.head last.entries s headed alike last.figs in
    record {
      place = omega (arith, last.place, total);
      filled = record {
        is =
            ap (λ xs. slice_set xs fig.place (slice_index_or bytes fig.place 0 + more)) is
            ∙ ap (λ n. slice_set (front ++ (1 + length own) ∷ head_byte fig.head ∷ (own ++ b)) n
            (slice_index_or bytes fig.place 0 + more)) last.place
            ∙ set-append_seam front (1 + length own) (head_byte fig.head ∷ (own ++ b))
            (slice_index_or bytes fig.place 0 + more)
            ∙ ap (λ n. front ++ n ∷ head_byte fig.head ∷ (own ++ b)) count
            ∙ ap (λ t. front ++ (1 + length (entries_bytes es)) ∷ head_byte fig.head ∷ t) (sym whole)
            ∙ append_assoc old (figs_bytes last.before) (fig_bytes fig.head es)
            ∙ ap (λ t. old ++ t) (sym (figs_bytes_last last.before (written_of fig.head es)))
            ∙ ap (λ fs. old ++ figs_bytes fs) (sym figs);
        end = record { before = last.before; entries = es; figs = figs; place = last.place };
      };
      byte = omega (arith, byte, run_length s rest alike ∙ sym sized, total, length-append own b);
    }

-- ---- a run put into FIB n
grown_head : (last : Option OpenFig) (s : EntryShape) (bytes mid : List ℕ) (fig : OpenFig) → Grows last s bytes fig mid
    → fig.head ≡ s.head
grown_head None s bytes mid fig g = g.head
grown_head (Some f) s bytes mid fig g = by (same_head f.head s.head) refl g
  where
    by : (b : Bool) → same_head f.head s.head ≡ b → GrowsBy b f s bytes fig mid → fig.head ≡ s.head
    by true e g = ap (λ (x : OpenFig). x.head) g.same ∙ same_head_is f.head s.head e
    by false e g = g.head

-- the bytes of a run, and its shape by that of its first entry
pub piece_bytes : (ms : List Marked) (i n : ℕ) (s : EntryShape) → IsRun ms i n s
    → length (marked_bytes (piece ms i n)) ≡ n * s.size
piece_bytes ms i n s r =
    let count : length (piece ms i n) ≡ n = length-take-le n (drop i ms) (omega (arith, length-drop i ms, r.inside)) in
    run_length s (piece ms i n) r.alike ∙ ap (λ j. j * s.size) count

pub run_shape : (ms : List Marked) (i n : ℕ) (shape s : EntryShape) → IsShapeAt ms i shape → IsRun ms i n s → 1 ≤ n
    → shape ≡ s
run_shape ms i n shape s sh r some =
    let first : InRun ms (i + 0) s = in_run ms i n s sh.entry r 0 (omega (arith, some)) in
    let at : i + 0 ≡ i = omega arith in
    let same = same_there ms i sh.entry first.entry sh.here (ap (λ j. slice_get ms j) (sym at) ∙ first.here) in
    same_shape shape (shape_of sh.entry) sh.head sh.size ∙ ap shape_of same ∙ first.shape

-- the FIB after a run
pub record RunIn (layout : FrameLayout) (ms : List Marked) (n : ℕ) (old : List ℕ) (d : Position) (fig : OpenFig)
    (bytes : List ℕ) (more : ℕ) : Type 0 where
  pub place : fig.place < length bytes
  pub byte : slice_index_or bytes fig.place 0 + more ≤ 255
  pub filled : FilledTo layout ms n old d (Some fig)
      (slice_set bytes fig.place (slice_index_or bytes fig.place 0 + more))
  pub low : length bytes ≤ 30

pub run_in : (layout : FrameLayout) (ms : List Marked) (n : ℕ) (old bytes mid : List ℕ) (c e d : Position)
    (last : Option OpenFig) (fig : OpenFig) (shape : EntryShape) (sh : IsShapeAt ms c.index shape)
    (en : Entered layout ms n old c e)
    → (w : FilledTo layout ms n old c last bytes) → Grows last shape bytes fig mid → (k : ℕ)
    → Goes layout ms n c e.state shape k d
    → RunIn layout ms n old d fig (mid ++ marked_bytes (piece ms c.index (suc k))) (k * shape.size)
run_in layout ms n old bytes mid c e d last fig shape sh en w g k go =
    let here : List Marked = take (c.index - w.from) (drop w.from ms) in
    let m : Marked = en.step.entry in
    let rest : List Marked = take k (drop (c.index + 1) ms) in
    let cut : piece ms c.index (suc k) ≡ m ∷ rest = ap (λ xs. take (suc k) xs) en.step.row in
    let after : List ℕ = mid ++ entry_bytes m.entry in
    let one = (put_step layout ms n old bytes mid c e last fig shape sh en w g).filled after refl in
    let alike : AreAlike shape (m ∷ rest) = subst (λ (xs : List Marked). AreAlike shape xs) cut go.run.alike in
    let count = length-take-le k (drop (c.index + 1) ms) (omega (arith, length-drop (c.index + 1) ms, go.run.inside)) in
    let b = behind_all old after (here ++ m ∷ []) rest fig shape (k * shape.size) one
    (grown_head last shape bytes mid fig g) alike.1 (ap (λ j. j * shape.size) (sym count)) in
    let with_entry_first : after ++ marked_bytes rest ≡ mid ++ marked_bytes (piece ms c.index (suc k)) =
    append_assoc mid (entry_bytes m.entry) (marked_bytes rest) ∙ ap (λ xs. mid ++ marked_bytes xs) (sym cut) in
    let walked : Walked layout ms n w.from d = walked_run layout ms n w.from c e.state shape k d go w.walked in
    let grown : (here ++ m ∷ []) ++ rest ≡ take (d.index - w.from) (drop w.from ms) =
    append_assoc here (m ∷ []) rest
    ∙ ap (λ xs. here ++ xs) (sym cut)
    ∙ sym (pieces ms w.from c.index (suc k) w.walked.order)
    ∙ ap (λ i. take (i - w.from) (drop w.from ms)) (omega (arith, go.index)) in
    let filled : IsFilled old (take (d.index - w.from) (drop w.from ms)) (Some fig)
    (slice_set (after ++ marked_bytes rest) fig.place
    (slice_index_or (after ++ marked_bytes rest) fig.place 0 + k * shape.size)) =
    subst (λ (xs : List Marked). IsFilled old xs (Some fig)
    (slice_set (after ++ marked_bytes rest) fig.place
    (slice_index_or (after ++ marked_bytes rest) fig.place 0 + k * shape.size))) grown b.filled in
    let cost = figs_cost (take (d.index - w.from) (drop w.from ms)) in
    let part : figs_size None (take (d.index - w.from) (drop w.from ms)) ≤ figs_size None (fib_entries layout n ms) =
    subst (λ (xs : List Marked). figs_size None (take (d.index - w.from) (drop w.from ms)) ≤ figs_size None xs)
    walked.here
    (figs_size_part None (take (d.index - w.from) (drop w.from ms)) (rest_in layout n ms d.index d.state)) in
    let long : length (after ++ marked_bytes rest) ≡ length old
    + length (figs_bytes (figs_of (take (d.index - w.from) (drop w.from ms)))) =
    sym (length-set (after ++ marked_bytes rest) fig.place
    (slice_index_or (after ++ marked_bytes rest) fig.place 0 + k * shape.size))
    ∙ ap length filled.is ∙ length-append old (figs_bytes (figs_of (take (d.index - w.from) (drop w.from ms)))) in
    let low : length (after ++ marked_bytes rest) ≤ 30 = omega (arith, long, cost, part, en.room) in
    subst (λ bs. RunIn layout ms n old d fig bs (k * shape.size)) with_entry_first (record {
      place = b.place;
      byte = omega (arith, b.byte, low);
      filled = record { from = w.from; walked = walked; filled = filled };
      low = low;
    })
  where
    pieces : (ms : List Marked) (from at n : ℕ) → from ≤ at
        → take (at + n - from) (drop from ms) ≡ take (at - from) (drop from ms) ++ take n (drop at ms)
    pieces ms from at n le =
        ap (λ j. take j (drop from ms)) (omega (arith, le)) ∙ take-add (at - from) n (drop from ms)
        ∙ ap (λ xs. take (at - from) (drop from ms) ++ take n xs)
        (drop-drop (at - from) from ms ∙ ap (λ i. drop i ms) (omega (arith, le)))

-- so a FIB takes each run that fits in the room
pub takes_runs : (layout : FrameLayout) (ms : List Marked) (n : ℕ) (old bytes mid : List ℕ) (c e : Position)
    (last : Option OpenFig) (fig : OpenFig) (shape : EntryShape) (sh : IsShapeAt ms c.index shape)
    (en : Entered layout ms n old c e)
    → (w : FilledTo layout ms n old c last bytes) → Grows last shape bytes fig mid → e.state.head ≡ Some shape.head
    → e.state.used ≤ room layout n → (free : ℕ) → free ≡ shape.size + (room layout n - e.state.used)
    → TakesRuns ms c.index free mid
takes_runs layout ms n old bytes mid c e last fig shape sh en w g headed within free is zero s r fits =
    omega (arith, (put_step layout ms n old bytes mid c e last fig shape sh en w g).room)
takes_runs layout ms n old bytes mid c e last fig shape sh en w g headed within free is (suc k) s r fits =
    let own : shape ≡ s = run_shape ms c.index (suc k) shape s sh r (omega arith) in
    let r' : IsRun ms c.index (suc k) shape = subst (λ (t : EntryShape). IsRun ms c.index (suc k) t) (sym own) r in
    let more : (suc k) * shape.size ≡ shape.size + k * shape.size = omega arith in
    let d : Position = record { index = c.index + 1 + k; state = state_at shape n (e.state.used + k * shape.size) } in
    let go : Goes layout ms n c e.state shape k d = record {
      index = refl;
      fib = refl;
      used = refl;
      head = refl;
      fits = omega (arith, subst (λ (t : EntryShape). (suc k) * t.size ≤ free) (sym own) fits, more, is, within);
      run = r';
      first = en.step;
      into = en.into;
      own = headed;
      near = en.near;
    } in
    let done = run_in layout ms n old bytes mid c e d last fig shape sh en w g k go in
    let long : length (mid ++ marked_bytes (piece ms c.index (suc k))) ≡ length mid + (suc k) * shape.size =
    length-append mid (marked_bytes (piece ms c.index (suc k)))
    ∙ ap (λ j. length mid + j) (piece_bytes ms c.index (suc k) shape r') in
    subst (λ (t : EntryShape). length mid + suc k * t.size ≤ 30) own (omega (arith, long, done.low))

-- ---- the run that a FIB takes
times_less : (n s : ℕ) → 1 ≤ n → n * s ≡ s + (n - 1) * s
times_less zero s some = absurd (omega (arith, some))
times_less (suc n) s some =
    let less : suc n - 1 ≡ n = omega arith in
    let more : suc n * s ≡ s + n * s = omega arith in
    more ∙ ap (λ k. s + k * s) (sym less)

-- the state after placing the first of them
pub record IsFirst (layout : FrameLayout) (q : PackState) (shape : EntryShape) : Type 0 where
  pub within : q.used ≤ room layout q.fib
  pub head : q.head ≡ Some shape.head

pub first_of_run : (layout : FrameLayout) (ms : List Marked) (at : ℕ) (p q : PackState) (shape : EntryShape)
    → IsShapeAt ms at shape → shape.size ≤ 28 → Passed layout ms at p q → IsFirst layout q shape
first_of_run layout ms at p q shape sh small s =
    let same : sh.entry ≡ s.entry = same_there ms at sh.entry s.entry sh.here s.here in
    let head : head_of s.entry ≡ shape.head = ap head_of (sym same) ∙ sym sh.head in
    subst (λ (r : PackState). IsFirst layout r shape) (sym s.next)
    (elim (placed_cases layout s.entry p) [
      | inl c ↦ subst (λ (r : PackState). IsFirst layout r shape) (sym c.is)
          (record { within = c.fits; head = ap Some head })
      | inr c ↦ subst (λ (r : PackState). IsFirst layout r shape) (sym c.is)
          (record { within = c.fits (omega (arith, ap size_of (sym same) ∙ sym sh.size, small)); head = ap Some head })
    ])

-- the room for a run, and what is put there
pub record Room (layout : FrameLayout) (n : ℕ) (q : PackState) (shape : EntryShape) (free : ℕ) : Type 0 where
  pub first : IsFirst layout q shape
  pub into : q.fib ≡ n
  pub is : free ≡ shape.size + (room layout n - q.used)

pub record Counted (layout : FrameLayout) (n : ℕ) (q : PackState) (shape : EntryShape) (count : ℕ) : Type 0 where
  pub times : count * shape.size ≡ shape.size + (count - 1) * shape.size
  pub fits : q.used + (count - 1) * shape.size ≤ room layout n

pub counted : (layout : FrameLayout) (ms : List Marked) (i n : ℕ) (q : PackState) (shape : EntryShape) (free count : ℕ)
    (mid new : List ℕ) → Room layout n q shape free → PutsRun ms i shape free count mid new
    → Counted layout n q shape count
counted layout ms i n q shape free count mid new r p =
    let times : count * shape.size ≡ shape.size + (count - 1) * shape.size = times_less count shape.size p.some in
    let within : q.used ≤ room layout n = subst (λ k. q.used ≤ room layout k) r.into r.first.within in
    record { times = times; fits = omega (arith, times, within, r.is, p.fits) }

pub takes : (layout : FrameLayout) (ms : List Marked) (n : ℕ) (old bytes mid : List ℕ) (c e : Position)
    (last : Option OpenFig) (fig : OpenFig) (shape : EntryShape) (sh : IsShapeAt ms c.index shape)
    (en : Entered layout ms n old c e)
    → FilledTo layout ms n old c last bytes → Grows last shape bytes fig mid → (free : ℕ)
    → Room layout n e.state shape free → TakesRuns ms c.index free mid
takes layout ms n old bytes mid c e last fig shape sh en w g free r =
    takes_runs layout ms n old bytes mid c e last fig shape sh en w g r.first.head
    (subst (λ k. e.state.used ≤ room layout k) r.into r.first.within) free r.is

-- the position after it
pub record Moved (c e d : Position) (size count : ℕ) : Type 0 where
  pub index : d.index ≡ c.index + count
  pub fib : d.state.fib ≡ e.state.fib
  pub used : d.state.used ≡ e.state.used + (count - 1) * size
  pub head : d.state.head ≡ e.state.head

pub all_in : (layout : FrameLayout) (ms : List Marked) (n : ℕ) (old bytes mid new : List ℕ) (c e d : Position)
    (last : Option OpenFig) (fig : OpenFig) (shape : EntryShape) (sh : IsShapeAt ms c.index shape)
    (en : Entered layout ms n old c e)
    → FilledTo layout ms n old c last bytes → Grows last shape bytes fig mid → (free count : ℕ)
    → Room layout n e.state shape free → PutsRun ms c.index shape free count mid new → Moved c e d shape.size count
    → RunIn layout ms n old d fig new ((count - 1) * shape.size)
all_in layout ms n old bytes mid new c e d last fig shape sh en w g free count r p m =
    let k : ℕ = count - 1 in
    let whole : suc k ≡ count = omega (arith, p.some) in
    let go : Goes layout ms n c e.state shape k d = record {
      index = omega (arith, m.index, p.some);
      fib = m.fib ∙ r.into;
      used = m.used;
      head = m.head ∙ r.first.head;
      fits = (counted layout ms c.index n e.state shape free count mid new r p).fits;
      run = subst (λ j. IsRun ms c.index j shape) (sym whole) p.run;
      first = en.step;
      into = en.into;
      own = r.first.head;
      near = en.near;
    } in
    let same = ap (λ j. mid ++ marked_bytes (piece ms c.index j)) whole ∙ sym p.bytes in
    rw (← same) (run_in layout ms n old bytes mid c e d last fig shape sh en w g k go)
