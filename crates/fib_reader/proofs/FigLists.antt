-- The FIGs found by the walk are those of the grammar, and exist exactly if there is no fault.
use Rattle.fib_reader.proofs.Words.{[], ◌%◌, ◌&&◌, ◌*◌, ◌++◌, ◌+◌, ◌-◌, ◌/◌, ◌<◌, ◌==◌, ◌∙◌, ◌∷◌, ◌≡◌, ◌≢◌, ◌≤◌}
use Rattle.fib_reader.proofs.Words.{AllByRecursion, AreEntries, AreFigs, AreRaw, Bool, Entry, FibFault, Fig, IsBody}
use Rattle.fib_reader.proofs.Words.{IsCounted, IsFig, IsOther, IsWholeFig, List, None, Open, Option, Other, Overrun}
use Rattle.fib_reader.proofs.Words.{Some, ap, append-nil, arith, body_fault, cases_lt, cond, drop, drop-append_seam}
use Rattle.fib_reader.proofs.Words.{ensemble_fault, ensemble_len, entries_fault, entries_of, entry_at_fault, entry_len}
use Rattle.fib_reader.proofs.Words.{eq-eqb, eqb-false, eqb-true, false, fig_fault, fig_of_bytes, fig_spelled}
use Rattle.fib_reader.proofs.Words.{figs_of_bytes, flat_map, get_or, inl, inr, is_long, is_open, le-ltb, length}
use Rattle.fib_reader.proofs.Words.{length-append, length-drop, length-take-le, lt-ltb, ltb-false, ltb-true, map}
use Rattle.fib_reader.proofs.Words.{nat_lt, ne_eqb, or_else, packet_len, pieces_of, raw_of, refl, sub_len, subst, suc}
use Rattle.fib_reader.proofs.Words.{sym, take, take-append-drop, take-append_seam, true, zero, ℕ}
use Rattle.fib_reader.specs.FirstFault.{figs_fault}
use Rattle.fib_reader.specs.Walk.{pieces_within}
use Rattle.fib_reader.proofs.EntryLists.{through, same_entries, sound_entries, complete_entries}

-- ---- one FIG

taken : {A : Type 0} (a b c : Bool) (x y : A) → a ≡ true → b ≡ true → c ≡ true → cond (a && (b && c)) x y ≡ x
taken true true true x y p q r = refl
taken _ _ _ x y p q r = absurd (cc)

passed : {A : Type 0} (a c : Bool) (x y : A) → c ≡ false → cond (a && c) x y ≡ y
passed true true x y r = absurd (cc)
passed _ _ x y r = refl

and_false : (a b : Bool) → a ≡ false → (a && b) ≡ false
and_false true b p = absurd (cc)
and_false false b p = refl

and_right : (a b : Bool) → a ≡ true → (a && b) ≡ b
and_right true b p = refl
and_right false b p = absurd (cc)

fig_of-looked_into :
    (h s : ℕ) (body : List ℕ) → h < 32 → is_open s ≡ true
    → fig_of_bytes (h ∷ s ∷ body) ≡ Open s (entries_of (s % 32) (is_long s) body)
fig_of-looked_into h s body low is_so =
    taken (nat_lt 1 (length (h ∷ s ∷ body))) (nat_lt h 32) (is_open s) (Open s (entries_of (s % 32) (is_long s) body))
    (Other (h ∷ s ∷ body))
    (lt-ltb 1 (length (h ∷ s ∷ body)) (omega arith)) (lt-ltb h 32 low) is_so

fig_of-other :
    (h s : ℕ) (body : List ℕ) → (nat_lt h 32 && is_open s) ≡ false → fig_of_bytes (h ∷ s ∷ body) ≡ Other (h ∷ s ∷ body)
fig_of-other h s body not_open =
    passed (nat_lt 1 (length (h ∷ s ∷ body))) (nat_lt h 32 && is_open s) (Open s (entries_of (s % 32) (is_long s) body))
    (Other (h ∷ s ∷ body)) not_open

same_other : (bytes : List ℕ) → IsOther bytes → fig_of_bytes bytes ≡ Other bytes
same_other [] h = absurd h
same_other (b ∷ []) h = refl
same_other (b ∷ s ∷ body) h = fig_of-other b s body h.2

pub same_fig : (bytes : List ℕ) (f : Fig) → IsFig bytes f → fig_of_bytes bytes ≡ f
same_fig bytes (Open second es) h =
    ap fig_of_bytes h.1 ∙ fig_of-looked_into (1 + length h.0) second h.0 (let few = h.2 in omega arith) h.3
    ∙ ap (Open second) (same_entries (second % 32) (is_long second) h.0 es h.4.0)
same_fig bytes (Other given) h = same_other bytes h.1 ∙ ap Other (sym h.0)

-- a FIG is a header followed by as many bytes as it announces
pub record HasHeader (bytes : List ℕ) : Type 0 where
  pub header : ℕ
  pub after : List ℕ
  pub split : bytes ≡ header ∷ after
  pub no_marker : header ≢ 255
  pub len : length after ≡ header % 32

other_header : (bytes : List ℕ) → IsOther bytes → HasHeader bytes
other_header [] h = absurd h
other_header (b ∷ []) h = record { header = b; after = []; split = refl; no_marker = h.0; len = sym h.2 }
other_header (b ∷ s ∷ body) h =
    let len = h.1 in
    record { header = b; after = s ∷ body; split = refl; no_marker = h.0; len = omega arith }

pub fig_header : (bytes : List ℕ) (f : Fig) → IsFig bytes f → HasHeader bytes
fig_header bytes (Open second es) h =
    record { header = 1 + length h.0; after = second ∷ h.0; split = h.1; no_marker = omega arith; len = omega arith }
fig_header bytes (Other given) h = other_header bytes h.1

-- ---- the FIGs of the walk

enough_pieces :
    (m n : ℕ) (bytes : List ℕ) → length bytes ≤ m → length bytes ≤ n → pieces_within m bytes ≡ pieces_within n bytes
unfolding pieces_within
enough_pieces zero zero bytes p q = refl
enough_pieces zero (suc n) [] p q = refl
enough_pieces zero (suc n) (b ∷ bs) p q = absurd (omega arith)
enough_pieces (suc m) zero [] p q = refl
enough_pieces (suc m) zero (b ∷ bs) p q = absurd (omega arith)
enough_pieces (suc m) (suc n) [] p q = refl
enough_pieces (suc m) (suc n) (b ∷ bs) p q =
    let fewer : length (drop (b % 32) bs) ≡ length bs - b % 32 = length-drop (b % 32) bs in
    rw (enough_pieces m n (drop (b % 32) bs) (omega arith) (omega arith)) refl

pieces_of-cons :
    (h : ℕ) (bs : List ℕ)
    → pieces_of (h ∷ bs) ≡ cond (h == 255) [] ((h ∷ take (h % 32) bs) ∷ pieces_of (drop (h % 32) bs))
unfolding pieces_within
pieces_of-cons h bs =
    let fewer : length (drop (h % 32) bs) ≡ length bs - h % 32 = length-drop (h % 32) bs in
    rw (enough_pieces (length bs) (length (drop (h % 32) bs)) (drop (h % 32) bs) (omega arith) (omega arith)) refl

pub no_pieces : pieces_of [] ≡ []
unfolding pieces_within
no_pieces = refl

pub first_piece :
    (h : ℕ) (bs : List ℕ) → h ≢ 255 → pieces_of (h ∷ bs) ≡ (h ∷ take (h % 32) bs) ∷ pieces_of (drop (h % 32) bs)
first_piece h bs no_marker = cc (pieces_of-cons h bs, ne_eqb h 255 no_marker)

pub pieces_at_marker : (h : ℕ) (bs : List ℕ) → h ≡ 255 → pieces_of (h ∷ bs) ≡ []
pieces_at_marker h bs marker = cc (pieces_of-cons h bs, eq-eqb h 255 marker)

-- the list of FIGs is unique
pub same_figs : (bytes : List ℕ) (fs : List Fig) → AreFigs bytes fs → figs_of_bytes bytes ≡ fs
same_figs bytes [] h =
    elim h [
      | inl none ↦ ap figs_of_bytes none ∙ ap (map fig_of_bytes) no_pieces
      | inr marked ↦ ap figs_of_bytes marked.1 ∙ ap (map fig_of_bytes) (pieces_at_marker 255 marked.0 refl)
    ]
same_figs bytes (f ∷ fs) h =
    let front : List ℕ = h.0 in
    let rest : List ℕ = h.1 in
    let at = fig_header front f h.3 in
    let split : bytes ≡ at.header ∷ (at.after ++ rest) = h.2 ∙ ap (λ x. x ++ rest) at.split in
    let cut : take (at.header % 32) (at.after ++ rest) ≡ at.after = rw (← at.len) (take-append_seam at.after rest) in
    let one : fig_of_bytes (at.header ∷ take (at.header % 32) (at.after ++ rest)) ≡ f =
    rw (cut) (ap fig_of_bytes (sym at.split) ∙ same_fig front f h.3) in
    let more = ap figs_of_bytes (rw (← at.len) (drop-append_seam at.after rest)) ∙ same_figs rest fs h.4 in
    ap figs_of_bytes split ∙ ap (map fig_of_bytes) (first_piece at.header (at.after ++ rest) at.no_marker)
    ∙ ap (λ x. x ∷ figs_of_bytes (drop (at.header % 32) (at.after ++ rest))) one ∙ ap (λ x. f ∷ x) more

-- ---- without a fault there are FIGs

sound_ensemble :
    (long : Bool) (place : ℕ) (bytes : List ℕ) → ensemble_fault place bytes ≡ None
    → IsBody 0 long bytes (entries_of 0 long bytes)
sound_ensemble long place bytes none =
    let len : ℕ = ensemble_len bytes in
    let one = through (nat_lt (length bytes) len) place _ none in
    let two = through (nat_lt 19 (get_or bytes 2 0 % 32)) place _ one.1 in
    let three = through (nat_lt 249 (get_or bytes 3 0)) place _ two.1 in
    let fits : len ≤ length bytes = ltb-false _ _ one.0 in
    let high : get_or bytes 2 0 % 32 ≤ 19 = ltb-false _ _ two.0 in
    let low : get_or bytes 3 0 ≤ 249 = ltb-false _ _ three.0 in
    let all : length bytes ≤ len = ltb-false _ _ (through (nat_lt len (length bytes)) (place + len) None three.1).0 in
    let are : AreEntries 0 long bytes (bytes ∷ []) = ([], sym (append-nil bytes), omega arith, refl) in
    let same : entries_of 0 long bytes ≡ bytes ∷ [] = same_entries 0 long bytes (bytes ∷ []) are in (
      rw (same) are,
      λ zero_ext. (bytes, same, (omega arith, omega arith)),
    )

sound_body :
    (b : Bool) (ext : ℕ) (long : Bool) (place : ℕ) (bytes : List ℕ) → (ext == 0) ≡ b
    → body_fault ext long place bytes ≡ None → IsBody ext long bytes (entries_of ext long bytes)
sound_body true ext long place bytes is none =
    let fine : ensemble_fault place bytes ≡ None = cc (is, none) in
    rw ((eqb-true ext 0 is)) (sound_ensemble long place bytes fine)
sound_body false ext long place bytes is none =
    let fine : entries_fault (length bytes) ext long place bytes ≡ None =
    sym (ap (λ t. cond t (ensemble_fault place bytes) (entries_fault (length bytes) ext long place bytes)) is)
    ∙ none in (
      sound_entries (length bytes) ext long place bytes (omega arith) fine,
      λ zero_ext. absurd (eqb-false ext 0 is zero_ext),
    )

no_entry_fault : (o : Option ℕ) → entry_at_fault o ≡ None → o ≡ None
no_entry_fault None h = refl
no_entry_fault (Some place) h = absurd (cc)

piece_high : (h : ℕ) (after : List ℕ) → h ≢ 255 → length after ≡ h % 32 → 31 < h → IsWholeFig (h ∷ after)
piece_high h [] no_marker len high = (refl, (no_marker, omega arith, sym len))
piece_high h (s ∷ body) no_marker len high =
    let closed : (nat_lt h 32 && is_open s) ≡ false = and_false (nat_lt h 32) (is_open s) (le-ltb h 32 (omega arith)) in
    subst (IsFig (h ∷ s ∷ body)) (sym (fig_of-other h s body closed)) (refl, (no_marker, omega arith, closed))

piece_low :
    (b : Bool) (place h s : ℕ) (body : List ℕ) → h ≤ 31 → h ≡ 1 + length body → is_open s ≡ b
    → (b ≡ true → body_fault (s % 32) (is_long s) (place + 2) body ≡ None) → IsWholeFig (h ∷ s ∷ body)
piece_low true place h s body low len is fine =
    subst (IsFig (h ∷ s ∷ body)) (sym (fig_of-looked_into h s body (omega arith) is)) (
      body,
      rw (len) refl,
      omega arith,
      is,
      sound_body (s % 32 == 0) (s % 32) (is_long s) (place + 2) body refl (fine refl),
    )
piece_low false place h s body low len is fine =
    let closed = and_right (nat_lt h 32) (is_open s) (lt-ltb h 32 (omega arith)) ∙ is in
    subst (IsFig (h ∷ s ∷ body)) (sym (fig_of-other h s body closed)) (refl, (omega arith, omega arith, closed))

sound_low :
    (place h : ℕ) (bs : List ℕ) → h ≤ 31 → h % 32 ≤ length bs
    → cond (h == 0) (Some (Entry place))
    (cond (is_open (get_or bs 0 0))
    (entry_at_fault (body_fault (get_or bs 0 0 % 32) (is_long (get_or bs 0 0)) (place + 2) (take (h - 1) (drop 1 bs))))
    None) ≡ None
    → IsWholeFig (h ∷ take (h % 32) bs)
sound_low place h [] low fits none =
    absurd (eqb-false h 0 (through (h == 0) (Entry place) _ none).0 (omega arith))
sound_low place h (s ∷ bs) low fits none =
    let some = through (h == 0) (Entry place) _ none in
    let positive : h ≢ 0 = eqb-false h 0 some.0 in
    let len : h % 32 ≡ suc (h - 1) = omega arith in
    let cut : take (h % 32) (s ∷ bs) ≡ s ∷ take (h - 1) bs = rw (len) refl in
    let size : length (take (h - 1) bs) ≡ h - 1 = length-take-le (h - 1) bs (omega arith) in
    subst (λ (x : List ℕ). IsWholeFig (h ∷ x)) (sym cut)
    (piece_low (is_open s) place h s (take (h - 1) bs) low (omega arith) refl
    (λ is. no_entry_fault _
    (sym (ap (λ t. cond t (entry_at_fault (body_fault (s % 32) (is_long s) (place + 2) (take (h - 1) bs))) None) is)
    ∙ some.1)))

pub sound_fig :
    (place h : ℕ) (bs : List ℕ) → h ≢ 255 → fig_fault place h bs ≡ None → (h % 32 ≤ length bs)
    × IsWholeFig (h ∷ take (h % 32) bs)
sound_fig place h bs no_marker none =
    let one = through (nat_lt (length bs) (h % 32)) (Overrun place) _ none in
    let fits : h % 32 ≤ length bs = ltb-false _ _ one.0 in (
      fits,
      elim (cases_lt 31 h) [
        | inl high ↦ piece_high h (take (h % 32) bs) no_marker (length-take-le (h % 32) bs fits) high
        | inr low ↦ sound_low place h bs low fits
            (sym (ap (λ t. cond t None (cond (h == 0) (Some (Entry place))
            (cond (is_open (get_or bs 0 0))
            (entry_at_fault (body_fault (get_or bs 0 0 % 32) (is_long (get_or bs 0 0)) (place + 2)
            (take (h - 1) (drop 1 bs)))) None))) (le-ltb 31 h low)) ∙ one.1)
      ],
    )

no_first : (x y : Option FibFault) → or_else x y ≡ None → (x ≡ None) × (y ≡ None)
no_first None y h = (refl, h)
no_first (Some e) y h = absurd (cc)

sound_at :
    (b : Bool) (n place h : ℕ) (bs : List ℕ) → (h == 255) ≡ b
    → cond b None (or_else (fig_fault place h bs) (figs_fault n (place + 1 + h % 32) (drop (h % 32) bs))) ≡ None
    → (figs_fault n (place + 1 + h % 32) (drop (h % 32) bs) ≡ None
    → AllByRecursion IsWholeFig (pieces_of (drop (h % 32) bs))
    × AreFigs (drop (h % 32) bs) (figs_of_bytes (drop (h % 32) bs)))
    → AllByRecursion IsWholeFig (pieces_of (h ∷ bs)) × AreFigs (h ∷ bs) (figs_of_bytes (h ∷ bs))
sound_at true n place h bs is none more =
    let marker : h ≡ 255 = eqb-true h 255 is in
    rw (pieces_at_marker h bs marker) (tt, inr (bs, rw (marker) refl))
sound_at false n place h bs is none more =
    let no_marker : h ≢ 255 = eqb-false h 255 is in
    let both = no_first (fig_fault place h bs) _ none in
    let one = sound_fig place h bs no_marker both.0 in
    let rest = more both.1 in
    subst (λ (ps : List (List ℕ)). AllByRecursion IsWholeFig ps × AreFigs (h ∷ bs) (map fig_of_bytes ps))
    (sym (first_piece h bs no_marker)) (
      (one.1, rest.0),
      (h ∷ take (h % 32) bs, drop (h % 32) bs, ap (λ x. h ∷ x) (sym (take-append-drop (h % 32) bs)), one.1, rest.1),
    )

pub sound_figs :
    (n place : ℕ) (bytes : List ℕ) → length bytes ≤ n → figs_fault n place bytes ≡ None
    → AllByRecursion IsWholeFig (pieces_of bytes) × AreFigs bytes (figs_of_bytes bytes)
unfolding figs_fault
sound_figs n place [] enough none = rw (no_pieces) (tt, inl refl)
sound_figs zero place (h ∷ bs) enough none = absurd (omega arith)
sound_figs (suc n) place (h ∷ bs) enough none =
    let fewer : length (drop (h % 32) bs) ≡ length bs - h % 32 = length-drop (h % 32) bs in
    sound_at (h == 255) n place h bs refl none
    (λ fine. sound_figs n (place + 1 + h % 32) (drop (h % 32) bs) (omega arith) fine)

-- ---- if there are FIGs, there is no fault

complete_ensemble :
    (long : Bool) (place : ℕ) (bytes : List ℕ) (es : List (List ℕ)) → AreEntries 0 long bytes es
    → (e : List ℕ) → es ≡ e ∷ [] → IsCounted e → ensemble_fault place bytes ≡ None
complete_ensemble long place bytes es are e one counted =
    let both : AreEntries 0 long bytes (e ∷ []) = subst (λ (x : List (List ℕ)). AreEntries 0 long bytes x) one are in
    let same : bytes ≡ e = both.1 ∙ ap (λ x. e ++ x) both.3 ∙ append-nil e in
    let len : ℕ = ensemble_len bytes in
    let size : length bytes ≡ len = ap length same ∙ both.2 ∙ ap (entry_len 0 long) (sym same) in
    let high : get_or bytes 2 0 % 32 ≤ 19 =
    (let there = counted.0 in let moved : get_or bytes 2 0 ≡ get_or e 2 0 = ap (λ x. get_or x 2 0) same in
    omega arith) in
    let low : get_or bytes 3 0 ≤ 249 =
    (let there = counted.1 in let moved : get_or bytes 3 0 ≡ get_or e 3 0 = ap (λ x. get_or x 3 0) same in
    omega arith) in
    rw (
      le-ltb (length bytes) len (omega arith),
      le-ltb 19 (get_or bytes 2 0 % 32) high,
      le-ltb 249 (get_or bytes 3 0) low,
      le-ltb len (length bytes) (omega arith),
    ) refl

complete_body :
    (b : Bool) (ext : ℕ) (long : Bool) (place : ℕ) (bytes : List ℕ) (es : List (List ℕ)) → (ext == 0) ≡ b
    → IsBody ext long bytes es → body_fault ext long place bytes ≡ None
complete_body true ext long place bytes es is body =
    let zero_ext : ext ≡ 0 = eqb-true ext 0 is in
    let alone = body.1 zero_ext in
    rw (is) (complete_ensemble long place bytes es (rw (← zero_ext) body.0) alone.0 alone.1 alone.2)
complete_body false ext long place bytes es is body =
    rw (is) (complete_entries (length bytes) ext long place bytes es body.0)

-- the tests of a FIG's header, after which its second byte is examined
pub past_tests :
    (place h : ℕ) (bs : List ℕ) → h % 32 ≤ length bs → h ≤ 31 → h ≢ 0
    → fig_fault place h bs
    ≡ cond (is_open (get_or bs 0 0))
    (entry_at_fault (body_fault (get_or bs 0 0 % 32) (is_long (get_or bs 0 0)) (place + 2) (take (h - 1) (drop 1 bs))))
    None
past_tests place h bs fits low positive =
    rw (le-ltb _ _ fits, le-ltb _ _ low, ne_eqb _ _ positive) refl

not_looked_into :
    (place h : ℕ) (bs : List ℕ) → h % 32 ≤ length bs → 31 < h → fig_fault place h bs ≡ None
not_looked_into place h bs fits high =
    rw (le-ltb _ _ fits, lt-ltb _ _ high) refl

complete_open :
    (place second : ℕ) (body rest : List ℕ) (es : List (List ℕ)) → length body < 31 → is_open second ≡ true
    → IsBody (second % 32) (is_long second) body es → fig_fault place (1 + length body) ((second ∷ body) ++ rest) ≡ None
complete_open place second body rest es few is fine =
    let size : length (body ++ rest) ≡ length body + length rest = length-append body rest in
    let one_less : 1 + length body - 1 ≡ length body = omega arith in
    let cut : take (1 + length body - 1) (body ++ rest) ≡ body = rw (one_less) (take-append_seam body rest) in
    past_tests place (1 + length body) (second ∷ (body ++ rest)) (omega arith) (omega arith) (omega arith)
    ∙ ap (λ t. cond t (entry_at_fault
    (body_fault (second % 32) (is_long second) (place + 2) (take (1 + length body - 1) (body ++ rest)))) None) is
    ∙ ap (λ x. entry_at_fault (body_fault (second % 32) (is_long second) (place + 2) x)) cut
    ∙ ap entry_at_fault (complete_body (second % 32 == 0) (second % 32) (is_long second) (place + 2) body es refl fine)

complete_other :
    (place h : ℕ) (after rest : List ℕ) → IsOther (h ∷ after) → fig_fault place h (after ++ rest) ≡ None
complete_other place h [] rest other =
    not_looked_into place h rest (omega arith) (let high = other.1 in omega arith)
complete_other place h (s ∷ body) rest other =
    let size : length (body ++ rest) ≡ length body + length rest = length-append body rest in
    elim (cases_lt 31 h) [
      | inl high ↦ not_looked_into place h (s ∷ (body ++ rest)) (omega arith) high
      | inr low ↦
          past_tests place h (s ∷ (body ++ rest)) (omega arith) low (omega arith)
          ∙ ap (λ t. cond t (entry_at_fault (body_fault (s % 32) (is_long s) (place + 2) (take (h - 1) (body ++ rest))))
          None) (sym (and_right (nat_lt h 32) (is_open s) (lt-ltb h 32 (omega arith))) ∙ other.2)
    ]

pub complete_fig :
    (place h : ℕ) (after rest front : List ℕ) (f : Fig) → front ≡ h ∷ after → IsFig front f
    → fig_fault place h (after ++ rest) ≡ None
complete_fig place h after rest front (Open second es) is fig =
    let header : h ≡ 1 + length fig.0 = (cc) in
    let others : after ≡ second ∷ fig.0 = (cc) in
    rw (header, others) (complete_open place second fig.0 rest es fig.2 fig.3 fig.4)
complete_fig place h after rest front (Other given) is fig =
    complete_other place h after rest (subst IsOther is fig.1)

pub complete_figs :
    (n place : ℕ) (bytes : List ℕ) (fs : List Fig) → AreFigs bytes fs → figs_fault n place bytes ≡ None
unfolding figs_fault
complete_figs (suc n) place (b ∷ bs) [] h =
    elim h [
      | inl none ↦ absurd (cc)
      | inr marked ↦
          ap (λ t. cond t None (or_else (fig_fault place b bs) (figs_fault n (place + 1 + b % 32) (drop (b % 32) bs))))
          (eq-eqb b 255 (cc))
    ]
complete_figs (suc n) place (b ∷ bs) (f ∷ fs) h =
    let rest : List ℕ = h.1 in
    let at = fig_header h.0 f h.3 in
    let header : b ≡ at.header = (cc) in
    let others : bs ≡ at.after ++ rest = (cc) in
    let fine : fig_fault place b bs ≡ None = rw (header) (ap (fig_fault place at.header) others
    ∙ complete_fig place at.header at.after rest h.0 f at.split h.3) in
    let left : drop (b % 32) bs ≡ rest = rw (header) (ap (drop (at.header % 32)) others
    ∙ ap (λ k. drop k (at.after ++ rest)) (sym at.len) ∙ drop-append_seam at.after rest) in
    rw (ne_eqb b 255 (λ e. at.no_marker (sym header ∙ e)), fine) (ap (figs_fault n (place + 1 + b % 32)) left
    ∙ complete_figs n (place + 1 + b % 32) rest fs h.4)
complete_figs _ place _ fs h = refl

-- ---- what one FIG of the walk is

spelled_entries :
    (ext : ℕ) (long : Bool) (bytes : List ℕ) (es : List (List ℕ)) → AreEntries ext long bytes es
    → bytes ≡ flat_map (λ e. e) es
spelled_entries ext long bytes [] h = h
spelled_entries ext long bytes (e ∷ es) h = rw (← spelled_entries ext long h.0 es h.3) h.1

pub spelled_fig : (bytes : List ℕ) (f : Fig) → IsFig bytes f → bytes ≡ fig_spelled f
spelled_fig bytes (Open second es) h = rw (← spelled_entries (second % 32) (is_long second) h.0 es h.4.0) h.1
spelled_fig bytes (Other given) h = sym h.0

-- the P/D flag matters in FIG 0/2 alone
flag_counts :
    (a b c long : Bool) (x y p q z : ℕ)
    → cond a x (cond b y (cond c (cond long p q) z)) ≡ cond a x (cond b y (cond c (cond (c && long) p q) z))
flag_counts true b c long x y p q z = refl
flag_counts false true c long x y p q z = refl
flag_counts false false true long x y p q z = refl
flag_counts false false false long x y p q z = refl

entry_len-flag : (ext : ℕ) (long : Bool) (bytes : List ℕ)
    → entry_len ext long bytes ≡ entry_len ext (ext == 2 && long) bytes
entry_len-flag ext long bytes =
    flag_counts (ext == 0) (ext == 1) (ext == 2) long (ensemble_len bytes) (sub_len bytes)
    (5 + 2 * (get_or bytes 4 0 % 16)) (3 + 2 * (get_or bytes 2 0 % 16)) (packet_len bytes)

raw_each :
    (ext : ℕ) (long : Bool) (bytes : List ℕ) (es : List (List ℕ)) → ext < 4 → AreEntries ext long bytes es
    → (ext ≡ 0 → AllByRecursion IsCounted es) → AreRaw (map (raw_of ext long) es)
raw_each ext long bytes [] low are counted = tt
raw_each ext long bytes (e ∷ es) low are counted = (
  record {
    looked_into = low;
    whole = are.2 ∙ entry_len-flag ext long e;
    counted = λ zero_ext. (counted zero_ext).0;
    no_sid = λ other. and_false (ext == 2) long (ne_eqb ext 2 other);
  },
  raw_each ext long are.0 es low are.3 (λ zero_ext. (counted zero_ext).1),
)

and_true_right : (a b : Bool) → (a && b) ≡ true → b ≡ true
and_true_right true b h = h
and_true_right false b h = absurd (cc)

pub raw_fig :
    (bytes : List ℕ) (second : ℕ) (es : List (List ℕ)) → IsFig bytes (Open second es)
    → AreRaw (map (raw_of (second % 32) (is_long second)) es)
raw_fig bytes second es h =
    let low = ltb-true (second % 32) 4 (and_true_right (second / 64 % 2 == 0) (nat_lt (second % 32) 4) h.3) in
    raw_each (second % 32) (is_long second) h.0 es low h.4.0
    (λ zero_ext.
    let alone = h.4.1 zero_ext in
    subst (AllByRecursion IsCounted) (sym alone.1) (alone.2, tt))

-- ---- the walk

pub pieces_of_nothing : (bytes : List ℕ) → length bytes ≡ 0 → pieces_of bytes ≡ []
pieces_of_nothing [] none = no_pieces
pieces_of_nothing (b ∷ bs) none = absurd (omega arith)

pub pieces_of_marked : (bytes : List ℕ) → 0 < length bytes → get_or bytes 0 0 ≡ 255 → pieces_of bytes ≡ []
pieces_of_marked [] some marker = absurd (omega arith)
pieces_of_marked (b ∷ bs) some marker = pieces_at_marker b bs marker

pub first_of_pieces :
    (bytes : List ℕ) → 0 < length bytes → get_or bytes 0 0 ≢ 255
    → pieces_of bytes ≡ take (1 + get_or bytes 0 0 % 32) bytes ∷ pieces_of (drop (1 + get_or bytes 0 0 % 32) bytes)
first_of_pieces [] some no_marker = absurd (omega arith)
first_of_pieces (b ∷ bs) some no_marker =
    let one : suc (b % 32) ≡ 1 + b % 32 = omega arith in
    rw (← one) (first_piece b bs no_marker)

-- ---- a checked FIB

pub no_fault_twice :
    (n place : ℕ) (bytes : List ℕ) (fs : List Fig) (e : FibFault) → AreFigs bytes fs → figs_fault n place bytes ≡ Some e
    → ⊥
no_fault_twice n place bytes fs e are found =
    let none : figs_fault n place bytes ≡ None = complete_figs n place bytes fs are in
    absurd (cc)
