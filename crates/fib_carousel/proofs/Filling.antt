-- A FIB filled entry by entry.
use Rattle.fib_carousel.proofs.Words.{[], ◌++◌, ◌+◌, ◌-◌, ◌<◌, ◌∙◌, ◌∷◌, ◌≡◌, ◌≤◌, Begins, Bool, Entry, EntryShape}
use Rattle.fib_carousel.proofs.Words.{FitsBy, FrameLayout, Grows, GrowsBy, Head, IsAtFib, IsShapeAt, Lengthens, List}
use Rattle.fib_carousel.proofs.Words.{Marked, None, OpenFig, Option, PackState, Position, Some, TakesEntry, Written, ap}
use Rattle.fib_carousel.proofs.Words.{append-nil, append_assoc, arith, drop, entries_bytes, entry_bytes, entry_length}
use Rattle.fib_carousel.proofs.Words.{entry_size, false, fib_entries, fig_bytes, figs_bytes, figs_of, figs_size}
use Rattle.fib_carousel.proofs.Words.{flat_map-append, get_or-append_seam, get_or_from_slice_get, head_byte, head_of}
use Rattle.fib_carousel.proofs.Words.{if◌then◌else◌, inl, inr, length, length-append, length-set, refl, same_head}
use Rattle.fib_carousel.proofs.Words.{set-append_seam, size_of, slice_get, slice_index_or, slice_set, subst, sym, take}
use Rattle.fib_carousel.proofs.Words.{true, with_entry_first, ℕ}
use Rattle.fib_carousel.proofs.Sharing.{same_head_is, figs_cost, written_of}
use Rattle.fib_carousel.proofs.Walk.{Passed, Walked, walked_start, walked_before, passed_above, rest_in, rest_takes}

-- FIGs with one more entry at the end
abbrev pub added : List Written → Marked → List Written
added [] m = written_of (head_of m) (m.entry ∷ []) ∷ []
added (f ∷ []) m =
    if same_head f.head (head_of m) then written_of f.head (f.entries ++ m.entry ∷ []) ∷ []
    else f ∷ written_of (head_of m) (m.entry ∷ []) ∷ []
added (f ∷ (g ∷ fs)) m = f ∷ added (g ∷ fs) m

joined_added : (x m : Marked) (fs : List Written) → with_entry_first x (added fs m) ≡ added (with_entry_first x fs) m
joined_added x m [] = by (same_head (head_of x) (head_of m)) refl
  where
    by : (b : Bool) → same_head (head_of x) (head_of m) ≡ b
        → with_entry_first x (added [] m) ≡ added (with_entry_first x []) m
    by true e =
        let whole : written_of (head_of m) (x.entry ∷ m.entry ∷ []) ∷ []
        ≡ written_of (head_of x) (x.entry ∷ m.entry ∷ []) ∷ [] =
        ap (λ (h : Head). written_of h (x.entry ∷ m.entry ∷ []) ∷ []) (sym (same_head_is (head_of x) (head_of m) e)) in
        rw e whole
    by false e = rw e refl
joined_added x m (f ∷ []) = by (same_head (head_of x) f.head) (same_head f.head (head_of m)) refl refl
  where
    by : (a b : Bool) → same_head (head_of x) f.head ≡ a → same_head f.head (head_of m) ≡ b
        → with_entry_first x (added (f ∷ []) m) ≡ added (with_entry_first x (f ∷ [])) m
    by true true d e = rw (d, e) (rw d refl)
    by true false d e = rw (d, e) (rw d refl)
    by false true d e = rw (d, e) (rw d refl)
    by false false d e = rw (d, e) (rw d refl)
joined_added x m (f ∷ (g ∷ fs)) = by (same_head (head_of x) f.head) refl
  where
    by : (a : Bool) → same_head (head_of x) f.head ≡ a
        → with_entry_first x (added (f ∷ (g ∷ fs)) m) ≡ added (with_entry_first x (f ∷ (g ∷ fs))) m
    by true d = rw d refl
    by false d = rw d refl

pub figs_added : (ms : List Marked) (m : Marked) → figs_of (ms ++ m ∷ []) ≡ added (figs_of ms) m
figs_added [] m = refl
figs_added (x ∷ ms) m = ap (λ fs. with_entry_first x fs) (figs_added ms m) ∙ joined_added x m (figs_of ms)

pub added_same : (fs : List Written) (f : Written) (m : Marked) → same_head f.head (head_of m) ≡ true
    → added (fs ++ f ∷ []) m ≡ fs ++ written_of f.head (f.entries ++ m.entry ∷ []) ∷ []
added_same [] f m e = rw e refl
added_same (g ∷ []) f m e = ap (λ t. g ∷ t) (added_same [] f m e)
added_same (g ∷ (h ∷ fs)) f m e = ap (λ t. g ∷ t) (added_same (h ∷ fs) f m e)

added_other : (fs : List Written) (f : Written) (m : Marked) → same_head f.head (head_of m) ≡ false
    → added (fs ++ f ∷ []) m ≡ (fs ++ f ∷ []) ++ written_of (head_of m) (m.entry ∷ []) ∷ []
added_other [] f m e = rw e refl
added_other (g ∷ []) f m e = ap (λ t. g ∷ t) (added_other [] f m e)
added_other (g ∷ (h ∷ fs)) f m e = ap (λ t. g ∷ t) (added_other (h ∷ fs) f m e)

-- the bytes of a FIG after others, and of one entry in a FIG
pub figs_bytes_last : (fs : List Written) (f : Written) → figs_bytes (fs ++ f ∷ []) ≡ figs_bytes fs
    ++ fig_bytes f.head f.entries
figs_bytes_last fs f =
    flat_map-append (λ (g : Written). fig_bytes g.head g.entries) fs (f ∷ [])
    ∙ ap (λ t. figs_bytes fs ++ t) (append-nil (fig_bytes f.head f.entries))

one_fig : (h : Head) (e : Entry) → fig_bytes h (e ∷ []) ≡ (1 + entry_size e) ∷ head_byte h ∷ entry_bytes e
one_fig h e =
    ap (λ t. (1 + length t) ∷ head_byte h ∷ t) (append-nil (entry_bytes e))
    ∙ ap (λ n. (1 + n) ∷ head_byte h ∷ entry_bytes e) (entry_length e)

more_entries : (es : List Entry) (e : Entry) → entries_bytes (es ++ e ∷ []) ≡ entries_bytes es ++ entry_bytes e
more_entries es e = flat_map-append _ es _ ∙ ap (λ t. entries_bytes es ++ t) (append-nil (entry_bytes e))

-- the last of the FIGs of these entries has this head, and its first byte is at this offset
pub record IsLast (old : List ℕ) (here : List Marked) (fig : OpenFig) : Type 0 where
  pub before : List Written
  pub entries : List Entry
  pub figs : figs_of here ≡ before ++ written_of fig.head entries ∷ []
  pub place : fig.place ≡ length (old ++ figs_bytes before)

abbrev pub HasLast : List ℕ → List Marked → Option OpenFig → Type 0
HasLast old here None = here ≡ []
HasLast old here (Some fig) = IsLast old here fig

-- the bytes of old, followed by the FIGs of these entries
pub record IsFilled (old : List ℕ) (here : List Marked) (last : Option OpenFig) (bytes : List ℕ) : Type 0 where
  pub is : bytes ≡ old ++ figs_bytes (figs_of here)
  pub end : HasLast old here last

-- ---- an entry that begins a FIG
pub record Apart (here : List Marked) (m : Marked) : Type 0 where
  pub figs : figs_of (here ++ m ∷ []) ≡ figs_of here ++ written_of (head_of m) (m.entry ∷ []) ∷ []

apart_first : (here : List Marked) (m : Marked) → here ≡ [] → Apart here m
apart_first here m none = record {
  figs = figs_added here m ∙ ap (λ xs. added (figs_of xs) m) none
      ∙ ap (λ xs. figs_of xs ++ written_of (head_of m) (m.entry ∷ []) ∷ []) (sym none);
}

apart_other : (old : List ℕ) (here : List Marked) (m : Marked) (fig : OpenFig) → IsLast old here fig
    → same_head fig.head (head_of m) ≡ false → Apart here m
apart_other old here m fig last differ = record {
  figs =
      figs_added here m
      ∙ ap (λ fs. added fs m) last.figs
      ∙ added_other last.before (written_of fig.head last.entries) m differ
      ∙ ap (λ fs. fs ++ written_of (head_of m) (m.entry ∷ []) ∷ []) (sym last.figs);
}

apart_bytes : (here : List Marked) (m : Marked) → Apart here m
    → figs_bytes (figs_of (here ++ m ∷ [])) ≡ figs_bytes (figs_of here)
    ++ (1 + size_of m) ∷ head_byte (head_of m) ∷ entry_bytes m.entry
apart_bytes here m a =
    ap figs_bytes a.figs ∙ figs_bytes_last _ _ ∙ ap (λ t. figs_bytes (figs_of here) ++ t) (one_fig (head_of m) m.entry)

apart_room : (old here-bytes : List ℕ) (here : List Marked) (m : Marked) (size : ℕ) → here-bytes ≡ old
    ++ figs_bytes (figs_of here) → Apart here m → size ≡ size_of m
    → length old + figs_size None (here ++ m ∷ []) ≤ 30 → length here-bytes + 2 + size ≤ 30
apart_room old bytes here m size is a sized room =
    let whole = figs_cost (here ++ m ∷ []) in
    let parts : length (figs_bytes (figs_of (here ++ m ∷ []))) ≡ length (figs_bytes (figs_of here))
    + length ((1 + size_of m) ∷ head_byte (head_of m) ∷ entry_bytes m.entry) =
    ap length (apart_bytes here m a) ∙ length-append (figs_bytes (figs_of here))
    ((1 + size_of m) ∷ head_byte (head_of m) ∷ entry_bytes m.entry) in
    let entry : length (entry_bytes m.entry) ≡ size_of m = entry_length m.entry in
    omega (arith, whole, parts, entry, ap length is ∙ length-append old (figs_bytes (figs_of here)), sized, room)

begun_on : (old bytes mid after : List ℕ) (here : List Marked) (m : Marked) (s : EntryShape) (fig : OpenFig)
    → bytes ≡ old ++ figs_bytes (figs_of here) → Apart here m
    → s.head ≡ head_of m → s.size ≡ size_of m → Begins s bytes fig mid → after ≡ mid ++ entry_bytes m.entry
    → IsFilled old (here ++ m ∷ []) (Some fig) after
begun_on old bytes mid after here m s fig is a headed sized b put =
    let f = figs_bytes (figs_of here) in
    let e = entry_bytes m.entry in
    record {
      is =
          put
          ∙ ap (λ t. t ++ e) b.bytes
          ∙ append_assoc bytes ((1 + s.size) ∷ head_byte s.head ∷ []) e
          ∙ ap (λ t. t ++ (1 + s.size) ∷ head_byte s.head ∷ e) is
          ∙ append_assoc old f ((1 + s.size) ∷ head_byte s.head ∷ e)
          ∙ ap (λ n. old ++ (f ++ (1 + n) ∷ head_byte s.head ∷ e)) sized
          ∙ ap (λ (h : Head). old ++ (f ++ (1 + size_of m) ∷ head_byte h ∷ e)) headed
          ∙ ap (λ t. old ++ t) (sym (apart_bytes here m a));
      end = record {
        before = figs_of here;
        entries = m.entry ∷ [];
        figs = a.figs ∙ ap (λ (h : Head). figs_of here ++ written_of h (m.entry ∷ []) ∷ []) (sym (b.head ∙ headed));
        place = b.place ∙ ap length is;
      };
    }

-- ---- an entry that lengthens the last FIG
pub record Joins (old : List ℕ) (here : List Marked) (m : Marked) (fig : OpenFig) (bytes : List ℕ) : Type 0 where
  pub before : List Written
  pub entries : List Entry
  pub figs : figs_of (here ++ m ∷ []) ≡ before ++ written_of fig.head (entries ++ m.entry ∷ []) ∷ []
  pub place : fig.place ≡ length (old ++ figs_bytes before)
  pub is : bytes ≡ (old ++ figs_bytes before) ++ fig_bytes fig.head entries

joins : (old bytes : List ℕ) (here : List Marked) (m : Marked) (fig : OpenFig) → bytes ≡ old
    ++ figs_bytes (figs_of here) → IsLast old here fig → same_head fig.head (head_of m) ≡ true
    → Joins old here m fig bytes
joins old bytes here m fig is last same = record {
  before = last.before;
  entries = last.entries;
  figs = figs_added here m ∙ ap (λ fs. added fs m) last.figs ∙ added_same _ _ m same;
  place = last.place;
  is =
      is
      ∙ ap (λ fs. old ++ figs_bytes fs) last.figs
      ∙ ap (λ t. old ++ t) (figs_bytes_last last.before (written_of fig.head last.entries))
      ∙ sym (append_assoc old (figs_bytes last.before) (fig_bytes fig.head last.entries));
}

-- the value of the FIG's first byte, and the bytes with another value there
joins_byte : (old bytes : List ℕ) (here : List Marked) (m : Marked) (fig : OpenFig) (j : Joins old here m fig bytes)
    → slice_index_or bytes fig.place 0 ≡ 1 + length (entries_bytes j.entries)
joins_byte old bytes here m fig j =
    let front = old ++ figs_bytes j.before in
    ap (λ xs. slice_index_or xs fig.place 0) j.is
    ∙ ap (λ n. slice_index_or (front ++ fig_bytes fig.head j.entries) n 0) j.place
    ∙ get_or-append_seam front (1 + length (entries_bytes j.entries)) (head_byte fig.head ∷ entries_bytes j.entries) 0

joins_set : (old bytes : List ℕ) (here : List Marked) (m : Marked) (fig : OpenFig) (byte : ℕ)
    (j : Joins old here m fig bytes)
    → slice_set bytes fig.place byte ≡ (old ++ figs_bytes j.before)
    ++ byte ∷ head_byte fig.head ∷ entries_bytes j.entries
joins_set old bytes here m fig byte j =
    let front = old ++ figs_bytes j.before in
    ap (λ xs. slice_set xs fig.place byte) j.is
    ∙ ap (λ n. slice_set (front ++ fig_bytes fig.head j.entries) n byte) j.place
    ∙ set-append_seam front (1 + length (entries_bytes j.entries)) (head_byte fig.head ∷ entries_bytes j.entries) byte

-- the room for the entry
pub record JoinsRoom (bytes : List ℕ) (fig : OpenFig) (size : ℕ) : Type 0 where
  pub place : fig.place < length bytes
  pub byte : slice_index_or bytes fig.place 0 + size ≤ 255
  pub whole : length bytes + size ≤ 30

joins_room : (old bytes : List ℕ) (here : List Marked) (m : Marked) (fig : OpenFig) (size : ℕ)
    → Joins old here m fig bytes → size ≡ size_of m
    → length old + figs_size None (here ++ m ∷ []) ≤ 30 → JoinsRoom bytes fig size
joins_room old bytes here m fig size j sized room =
    let b = entries_bytes j.entries in
    let whole = figs_cost (here ++ m ∷ []) in
    let parts : length (figs_bytes (figs_of (here ++ m ∷ []))) ≡ length (figs_bytes j.before)
    + length (fig_bytes fig.head (j.entries ++ m.entry ∷ [])) =
    ap (λ fs. length (figs_bytes fs)) j.figs ∙ ap length
    (figs_bytes_last j.before (written_of fig.head (j.entries ++ m.entry ∷ [])))
    ∙ length-append (figs_bytes j.before) (fig_bytes fig.head (j.entries ++ m.entry ∷ [])) in
    let last = ap length (more_entries j.entries m.entry) ∙ length-append b (entry_bytes m.entry) in
    let entry : length (entry_bytes m.entry) ≡ size_of m = entry_length m.entry in
    let long = ap length j.is ∙ length-append (old ++ figs_bytes j.before) (fig_bytes fig.head j.entries) in
    let byte : slice_index_or bytes fig.place 0 ≡ 1 + length b = joins_byte old bytes here m fig j in
    let place : fig.place ≡ length (old ++ figs_bytes j.before) = j.place in
    record {
      place = omega (arith, place, long);
      byte = omega (arith, byte, whole, parts, last, entry, sized, room);
      whole = omega (arith, long, length-append old (figs_bytes j.before), whole, parts, last, entry, sized, room);
    }

joined_on : (old bytes mid after : List ℕ) (here : List Marked) (m : Marked) (s : EntryShape) (f fig : OpenFig)
    → Joins old here m f bytes → s.size ≡ size_of m
    → Lengthens f s bytes fig mid → after ≡ mid ++ entry_bytes m.entry → IsFilled old (here ++ m ∷ []) (Some fig) after
joined_on old bytes mid after here m s f fig j sized l put =
    let front = old ++ figs_bytes j.before in
    let b = entries_bytes j.entries in
    let e = entry_bytes m.entry in
    let es = j.entries ++ m.entry ∷ [] in
    let count : slice_index_or bytes f.place 0 + s.size ≡ 1 + length (entries_bytes es) =
    omega (
      arith,
      joins_byte old bytes here m f j,
      sized,
      entry_length m.entry,
      ap length (more_entries j.entries m.entry),
      length-append b e,
    ) in
    let filled : IsFilled old (here ++ m ∷ []) (Some f) after = record {
      is =
          put
          ∙ ap (λ t. t ++ e) l.bytes
          ∙ ap (λ t. t ++ e) (joins_set old bytes here m f (slice_index_or bytes f.place 0 + s.size) j)
          ∙ append_assoc front ((slice_index_or bytes f.place 0 + s.size) ∷ head_byte f.head ∷ b) e
          ∙ ap (λ n. front ++ n ∷ head_byte f.head ∷ (b ++ e)) count
          ∙ ap (λ t. front ++ (1 + length (entries_bytes es)) ∷ head_byte f.head ∷ t)
          (sym (more_entries j.entries m.entry))
          ∙ append_assoc old (figs_bytes j.before) (fig_bytes f.head es)
          ∙ ap (λ t. old ++ t) (sym (figs_bytes_last j.before (written_of f.head es)))
          ∙ ap (λ fs. old ++ figs_bytes fs) (sym j.figs);
      end = record { before = j.before; entries = es; figs = j.figs; place = j.place };
    } in
    subst (λ (g : OpenFig). IsFilled old (here ++ m ∷ []) (Some g) after) (sym l.same) filled

-- ---- any entry
same_as : (f : OpenFig) (s : EntryShape) (m : Marked) (b : Bool) → s.head ≡ head_of m → same_head f.head s.head ≡ b
    → same_head f.head (head_of m) ≡ b
same_as f s m b headed e = ap (λ (h : Head). same_head f.head h) (sym headed) ∙ e

pub fits_next : (old bytes : List ℕ) (here : List Marked) (m : Marked) (s : EntryShape) (last : Option OpenFig)
    → IsFilled old here last bytes
    → s.head ≡ head_of m → s.size ≡ size_of m → length old + figs_size None (here ++ m ∷ []) ≤ 30
    → TakesEntry last s bytes
fits_next old bytes here m s None h headed sized room =
    apart_room old bytes here m s.size h.is (apart_first here m h.end) sized room
fits_next old bytes here m s (Some f) h headed sized room = by (same_head f.head s.head) refl
  where
    by : (b : Bool) → same_head f.head s.head ≡ b → FitsBy b f s bytes
    by true e =
        let r = joins_room old bytes here m f s.size (joins old bytes here m f h.is h.end (same_as f s m true headed e))
        sized room in
        (r.place, r.byte)
    by false e = apart_room old bytes here m s.size h.is (apart_other old here m f h.end (same_as f s m false headed e))
        sized room

-- the FIB afterwards, with room for the entry itself
pub record Put (old mid : List ℕ) (here : List Marked) (m : Marked) (fig : OpenFig) : Type 0 where
  pub room : length mid + size_of m ≤ 30
  pub filled : (after : List ℕ) → after ≡ mid ++ entry_bytes m.entry → IsFilled old (here ++ m ∷ []) (Some fig) after

put_begun : (old bytes mid : List ℕ) (here : List Marked) (m : Marked) (s : EntryShape) (fig : OpenFig) → bytes ≡ old
    ++ figs_bytes (figs_of here) → Apart here m
    → s.head ≡ head_of m → s.size ≡ size_of m → length old + figs_size None (here ++ m ∷ []) ≤ 30
    → Begins s bytes fig mid → Put old mid here m fig
put_begun old bytes mid here m s fig is a headed sized room b =
    let fits : length bytes + 2 + s.size ≤ 30 = apart_room old bytes here m s.size is a sized room in
    record {
      room = omega (arith, fits, ap length b.bytes ∙ length-append bytes ((1 + s.size) ∷ head_byte s.head ∷ []), sized);
      filled = λ after put. begun_on old bytes mid after here m s fig is a headed sized b put;
    }

put_joined : (old bytes mid : List ℕ) (here : List Marked) (m : Marked) (s : EntryShape) (f fig : OpenFig)
    → Joins old here m f bytes → s.size ≡ size_of m
    → length old + figs_size None (here ++ m ∷ []) ≤ 30 → Lengthens f s bytes fig mid → Put old mid here m fig
put_joined old bytes mid here m s f fig j sized room l =
    let long = ap length l.bytes ∙ length-set bytes f.place (slice_index_or bytes f.place 0 + s.size) in
    record {
      room = omega (arith, (joins_room old bytes here m f s.size j sized room).whole, long, sized);
      filled = λ after put. joined_on old bytes mid after here m s f fig j sized l put;
    }

pub put_next : (old bytes mid : List ℕ) (here : List Marked) (m : Marked) (s : EntryShape) (last : Option OpenFig)
    (fig : OpenFig) → IsFilled old here last bytes
    → s.head ≡ head_of m → s.size ≡ size_of m → length old + figs_size None (here ++ m ∷ []) ≤ 30
    → Grows last s bytes fig mid → Put old mid here m fig
put_next old bytes mid here m s None fig h headed sized room g =
    put_begun old bytes mid here m s fig h.is (apart_first here m h.end) headed sized room g
put_next old bytes mid here m s (Some f) fig h headed sized room g = by (same_head f.head s.head) refl g
  where
    by : (b : Bool) → same_head f.head s.head ≡ b → GrowsBy b f s bytes fig mid → Put old mid here m fig
    by true e g = put_joined old bytes mid here m s f fig
        (joins old bytes here m f h.is h.end (same_as f s m true headed e)) sized room g
    by false e g = put_begun old bytes mid here m s fig h.is
        (apart_other old here m f h.end (same_as f s m false headed e)) headed sized room g

-- ---- the loop: the entries of FIB n so far
pub record FilledTo (layout : FrameLayout) (ms : List Marked) (n : ℕ) (old : List ℕ) (c : Position)
    (last : Option OpenFig) (bytes : List ℕ) : Type 0 where
  pub from : ℕ
  pub walked : Walked layout ms n from c
  pub filled : IsFilled old (take (c.index - from) (drop from ms)) last bytes

pub filled_start : (layout : FrameLayout) (ms : List Marked) (n : ℕ) (bytes : List ℕ) (c : Position)
    → IsAtFib layout ms n c → FilledTo layout ms n bytes c None bytes
filled_start layout ms n bytes c s =
    let none : c.index - c.index ≡ 0 = omega arith in
    let nothing : take (c.index - c.index) (drop c.index ms) ≡ [] = ap (λ k. take k (drop c.index ms)) none in
    record {
      from = c.index;
      walked = walked_start layout ms n c s;
      filled = record {
        is = sym (append-nil bytes) ∙ ap (λ xs. bytes ++ figs_bytes (figs_of xs)) (sym nothing);
        end = nothing;
      };
    }

-- a step into an earlier FIB
pub filled_before : (layout : FrameLayout) (ms : List Marked) (n : ℕ) (old bytes : List ℕ) (c d : Position)
    (last : Option OpenFig) → Passed layout ms c.index c.state d.state → d.index ≡ c.index + 1 → d.state.fib < n
    → d.state.used ≤ 30 → d.state.fib ≤ c.state.fib + 2 → c.index < length ms → FilledTo layout ms n old c last bytes
    → FilledTo layout ms n old d last bytes
filled_before layout ms n old bytes c d last s at before used near inside w =
    let above : c.state.fib ≤ d.state.fib = passed_above layout ms c.index c.state d.state s in
    let fresh : c.index - w.from ≡ 0 =
    elim w.walked.kind [ inl e ↦ omega (arith, e) | inr e ↦ absurd (omega (arith, e, above, before)) ] in
    let none : d.index - d.index ≡ 0 = omega arith in
    let same : take (c.index - w.from) (drop w.from ms) ≡ take (d.index - d.index) (drop d.index ms) =
    ap (λ k. take k (drop w.from ms)) fresh ∙ ap (λ k. take k (drop d.index ms)) (sym none) in
    record {
      from = d.index;
      walked = walked_before layout ms n w.from c d s at before used near inside w.walked;
      filled = subst (λ (xs : List Marked). IsFilled old xs last bytes) same w.filled;
    }

-- a step into this FIB
pub figs_size_part : (h : Option Head) (xs ys : List Marked) → figs_size h xs ≤ figs_size h (xs ++ ys)
figs_size_part h [] ys = omega arith
figs_size_part h (x ∷ xs) ys = omega (arith, figs_size_part (Some (head_of x)) xs ys)

room_next : (layout : FrameLayout) (ms : List Marked) (n from top : ℕ) (c : Position) (q : PackState)
    (s : Passed layout ms c.index c.state q) → q.fib ≡ n → Walked layout ms n from c
    → top + figs_size None (fib_entries layout n ms) ≤ 30
    → top + figs_size None (take (c.index - from) (drop from ms) ++ s.entry ∷ []) ≤ 30
room_next layout ms n from top c q s into w room =
    let piece = take (c.index - from) (drop from ms) in
    let rest = rest_in layout n ms (c.index + 1) q in
    let whole : (piece ++ s.entry ∷ []) ++ rest ≡ fib_entries layout n ms =
    append_assoc piece (s.entry ∷ []) rest ∙ ap (λ xs. piece ++ xs) (sym (rest_takes _ n ms _ _ q s into)) ∙ w.here in
    let part : figs_size None (piece ++ s.entry ∷ []) ≤ figs_size None (fib_entries layout n ms) =
    rw (← whole) (figs_size_part None (piece ++ s.entry ∷ []) rest) in
    omega (arith, part, room)

pub same_there : (ms : List Marked) (i : ℕ) (a b : Marked) → slice_get ms i ≡ Some a → slice_get ms i ≡ Some b → a ≡ b
same_there ms i a b h k = sym (get_or_from_slice_get ms i a a h) ∙ get_or_from_slice_get ms i b a k

-- what is known of a step into FIB n
pub record Entered (layout : FrameLayout) (ms : List Marked) (n : ℕ) (old : List ℕ) (c d : Position) : Type 0 where
  pub step : Passed layout ms c.index c.state d.state
  pub at : d.index ≡ c.index + 1
  pub into : d.state.fib ≡ n
  pub used : d.state.used ≤ 30
  pub near : d.state.fib ≤ c.state.fib + 2
  pub inside : c.index < length ms
  pub room : length old + figs_size None (fib_entries layout n ms) ≤ 30

pub filled_fits : (layout : FrameLayout) (ms : List Marked) (n : ℕ) (old bytes : List ℕ) (c d : Position)
    (last : Option OpenFig) (shape : EntryShape) (s : IsShapeAt ms c.index shape) → (e : Entered layout ms n old c d)
    → FilledTo layout ms n old c last bytes → TakesEntry last shape bytes
filled_fits layout ms n old bytes c d last shape s e w =
    let same : s.entry ≡ e.step.entry = same_there ms c.index s.entry e.step.entry s.here e.step.here in
    fits_next old bytes (take (c.index - w.from) (drop w.from ms)) e.step.entry shape last w.filled
    (s.head ∙ ap head_of same) (s.size ∙ ap size_of same)
    (room_next layout ms n w.from (length old) c d.state e.step e.into w.walked e.room)

pub put_step : (layout : FrameLayout) (ms : List Marked) (n : ℕ) (old bytes mid : List ℕ) (c d : Position)
    (last : Option OpenFig) (fig : OpenFig) (shape : EntryShape) (s : IsShapeAt ms c.index shape)
    (e : Entered layout ms n old c d)
    → (w : FilledTo layout ms n old c last bytes) → Grows last shape bytes fig mid
    → Put old mid (take (c.index - w.from) (drop w.from ms)) e.step.entry fig
put_step layout ms n old bytes mid c d last fig shape s e w g =
    let same : s.entry ≡ e.step.entry = same_there ms c.index s.entry e.step.entry s.here e.step.here in
    put_next old bytes mid _ _ shape last fig w.filled (s.head ∙ ap head_of same) (s.size ∙ ap size_of same)
    (room_next layout ms n w.from (length old) c d.state e.step e.into w.walked e.room) g

-- the end of the walk
pub filled_all : (layout : FrameLayout) (ms : List Marked) (n : ℕ) (old bytes : List ℕ) (c : Position)
    (last : Option OpenFig) (w : FilledTo layout ms n old c last bytes)
    → take (c.index - w.from) (drop w.from ms) ≡ fib_entries layout n ms
    → bytes ≡ old ++ figs_bytes (figs_of (fib_entries layout n ms))
filled_all layout ms n old bytes c last w all = w.filled.is ∙ ap (λ xs. old ++ figs_bytes (figs_of xs)) all
