-- A FIB that is written is in the grammar with exactly the FIGs that were appended.
use Rattle.fib_codec.proofs.Words.{[], ◌%◌, ◌*◌, ◌++◌, ◌+◌, ◌-◌, ◌/◌, ◌<◌, ◌↔◌, ◌∙◌, ◌∷◌, ◌≡◌, ◌≤◌, AllByRecursion}
use Rattle.fib_codec.proofs.Words.{AreEntries, AreFigs, Bool, ComponentEntry, EnsembleInformation, Entry, Head, IsBody}
use Rattle.fib_codec.proofs.Words.{IsCounted, IsEnsembleInformation, IsEntry, IsFib, IsFig, IsOpen, IsOurs}
use Rattle.fib_codec.proofs.Words.{IsPacketEntry, IsServiceEntry, IsShortEntry, IsSome, IsSubEntry, IsUnder, IsValid}
use Rattle.fib_codec.proofs.Words.{IsWithin, IsWritten, List, Long, None, Open, Option, Other, PacketEntry}
use Rattle.fib_codec.proofs.Words.{ServiceEntry, Short, ShortEntry, Sid, Some, SubEntry, Written, and_from, and_left}
use Rattle.fib_codec.proofs.Words.{and_right, ap, append-nil, append_assoc, ap₂, arith, bit_of, ca_org_bytes, cases_lt}
use Rattle.fib_codec.proofs.Words.{checked, components_bytes, cond, cond-false, cond-true, cond_both, ensemble_bytes}
use Rattle.fib_codec.proofs.Words.{ensemble_len, entries_bytes, entry_bytes, entry_len, eq-eqb, eqb, false, fig_bytes}
use Rattle.fib_codec.proofs.Words.{fig_of, fig_spelled, figs_bytes, filled, flat_map, head_byte, inl, inr, is_long}
use Rattle.fib_codec.proofs.Words.{is_long_sid, is_next, is_open, is_some, le-ltb, length, length-append}
use Rattle.fib_codec.proofs.Words.{length-replicate, lt-ltb, ltb, ltb-false, ltb-true, map, ne_eqb, occurrence_bytes}
use Rattle.fib_codec.proofs.Words.{packet_bytes, packet_len, refl, replicate, service_bytes, service_len, short_bytes}
use Rattle.fib_codec.proofs.Words.{sid_bytes, sub_bytes, sub_len, subst, subst₂, suc, sym, take_at, true, zero, ℕ}
use Rattle.mux_types.specs.declared.entry.Entry.TheVariants.{Ensemble as EnsembleOf, Sub as SubOf, Short as ShortOf}
use Rattle.mux_types.specs.declared.entry.Entry.TheVariants.{Service as ServiceOf, Packet as PacketOf}
use Rattle.fib_codec.proofs.Lengths.{components_len, ext_small}
use Rattle.fib_codec.proofs.U16.{checked_is}

pub bit_small : (b : Bool) → bit_of b < 2
bit_small true = omega arith
bit_small false = omega arith

-- ---- each entry is one in the grammar
occurrence_counts : (x change : ℕ) (o : Option ℕ) → x / 64 ≡ change → (IsSome o ↔ (0 < change))
    → 4 + length (occurrence_bytes o) ≡ cond (eqb (x / 64) 0) 4 5
occurrence_counts x zero None e h = sym (cond-true (eqb (x / 64) 0) 4 5 (eq-eqb _ _ e))
occurrence_counts x zero (Some low) e h = absurd (omega (arith, h.0 refl))
occurrence_counts x (suc change) None e h =
    let none : false ≡ true = h.1 (omega arith) in
    cc
occurrence_counts x (suc change) (Some low) e h =
    sym (cond-false (eqb (x / 64) 0) 4 5 (ne_eqb _ _ (λ zero_flags. omega (arith, e, zero_flags))))

ensemble_is : (e : EnsembleInformation) → IsEnsembleInformation e
    → length (ensemble_bytes e) ≡ ensemble_len (ensemble_bytes e)
ensemble_is e h =
    let x = e.change * 64 + bit_of e.al * 32 + e.count / 250 in
    omega (arith, occurrence_counts x e.change e.occurrence (omega (arith, bit_small e.al, h.count)) h.flagged)

ensemble_counted : (e : EnsembleInformation) → IsEnsembleInformation e → IsCounted (ensemble_bytes e)
ensemble_counted e h =
    (omega (arith, bit_small e.al, h.count), omega arith)

sub_is : (s : SubEntry) → IsSubEntry s → length (sub_bytes s) ≡ sub_len (sub_bytes s)
sub_is s h =
    let x = 32768 + s.option * 4096 + s.level * 1024 + s.size in
    sym (cond-true (eqb (x / 256 % 256 / 128) 1) 4 3 (eq-eqb _ _ (omega (arith, h.option, h.level, h.size))))

short_is : (s : ShortEntry) → IsShortEntry s → length (short_bytes s) ≡ sub_len (short_bytes s)
short_is s h =
    let x = bit_of s.switch * 64 + s.table in
    let short : x / 128 ≡ 0 = omega (arith, bit_small s.switch, h.table) in
    sym (cond-false (eqb (x / 128) 1) 4 3 (ne_eqb _ _ (λ one. omega (arith, short, one))))

ca_org_counts : (x : ℕ) (o : Option ℕ) → x % 2 ≡ bit_of (is_some o)
    → 5 + length (ca_org_bytes o) ≡ cond (eqb (x % 2) 1) 7 5
ca_org_counts x None e = sym (cond-false (eqb (x % 2) 1) 7 5 (ne_eqb _ _ (λ one. omega (arith, e, one))))
ca_org_counts x (Some org) e = sym (cond-true (eqb (x % 2) 1) 7 5 (eq-eqb _ _ e))

packet_is : (p : PacketEntry) → IsPacketEntry p → length (packet_bytes p) ≡ packet_len (packet_bytes p)
packet_is p h =
    let x = p.scid * 16 + p.rfa * 2 + bit_of (is_some p.ca_org) in
    omega (arith, ca_org_counts (x % 256) p.ca_org (omega (arith, bit_small (is_some p.ca_org))))

service_at : (sid : Sid) (x : ℕ) (cs : List ComponentEntry) → x % 16 ≡ length cs
    → length (sid_bytes sid ++ x ∷ components_bytes cs)
    ≡ service_len (is_long_sid sid) (sid_bytes sid ++ x ∷ components_bytes cs)
service_at (Short n) x cs e = omega (arith, components_len cs)
service_at (Long n) x cs e = omega (arith, components_len cs)

service_is : (s : ServiceEntry) → IsServiceEntry s → length (service_bytes s)
    ≡ service_len (is_long_sid s.sid) (service_bytes s)
service_is s h =
    let x = bit_of s.rfa * 128 + s.ca_id * 16 + length s.components in
    service_at s.sid x s.components (omega (arith, h.few))

pub entry_is : (head : Head) (e : Entry) → IsUnder head e → IsWithin e → IsEntry head.ext head.long (entry_bytes e)
entry_is head (EnsembleOf e) under h = rw (under) (ensemble_is e h)
entry_is head (SubOf s) under h = rw (under) (sub_is s h)
entry_is head (ShortOf s) under h = rw (under) (short_is s h)
entry_is head (ServiceOf s) under h =
    service_is s h ∙ ap₂ (λ k long. entry_len k long (service_bytes s)) (sym under.0) (sym under.1)
entry_is head (PacketOf p) under h = rw (under) (packet_is p h)

-- ---- each FIG is one in the grammar
entries_are : (head : Head) (es : List Entry) → AllByRecursion (IsUnder head) es → AllByRecursion IsWithin es
    → AreEntries head.ext head.long (entries_bytes es) (map entry_bytes es)
entries_are head [] under within = refl
entries_are head (e ∷ es) under within =
    (entries_bytes es, refl, entry_is head e under.0 within.0, entries_are head es under.1 within.1)

counted_alone : (head : Head) (e : Entry) → IsUnder head e → IsWithin e → head.ext ≡ 0 → IsCounted (entry_bytes e)
counted_alone head (EnsembleOf e) under h zero_ext = ensemble_counted e h
counted_alone head (ServiceOf s) under h zero_ext = absurd (omega (arith, under.0))
counted_alone head _ under h zero_ext = absurd (omega arith)

one_alone : (head : Head) (es : List Entry) → AllByRecursion (IsUnder head) es → AllByRecursion IsWithin es
    → length es ≡ 1 → head.ext ≡ 0
    → (e : List ℕ) × (map entry_bytes es ≡ e ∷ []) × IsCounted e
one_alone head (e ∷ []) under within one zero_ext =
    (entry_bytes e, refl, counted_alone head e under.0 within.0 zero_ext)
one_alone head _ under within one zero_ext = absurd (omega arith)

pub body_is : (w : Written) → IsWritten w → IsBody w.head.ext w.head.long (entries_bytes w.entries)
    (map entry_bytes w.entries)
body_is w h = (
  entries_are w.head w.entries h.formed.under h.within,
  λ zero_ext. one_alone w.head w.entries h.formed.under h.within (h.formed.alone zero_ext) zero_ext,
)

-- the head in its byte
bit_is : (b : Bool) → eqb (bit_of b) 1 ≡ b
bit_is true = refl
bit_is false = refl

pub head_ext : (h : Head) → h.ext < 4 → head_byte h % 32 ≡ h.ext
head_ext h small = omega arith

pub head_long : (h : Head) → h.ext < 4 → is_long (head_byte h) ≡ h.long
head_long h small =
    let bit : head_byte h / 32 % 2 ≡ bit_of h.long = omega (arith, bit_small h.long) in
    rw (bit) (bit_is h.long)

pub head_next : (h : Head) → h.ext < 4 → is_next (head_byte h) ≡ h.next
head_next h small =
    let bit : head_byte h / 128 ≡ bit_of h.next = omega (arith, bit_small h.oe, bit_small h.long) in
    rw (bit) (bit_is h.next)

oe_bit : (h : Head) → h.ext < 4 → head_byte h / 64 % 2 ≡ bit_of h.oe
oe_bit h small = omega (arith, bit_small h.oe, bit_small h.long)

head_open : (h : Head) → h.ext < 4 → h.oe ≡ false → is_open (head_byte h) ≡ true
head_open h small ours =
    and_from _ _ (eq-eqb _ _ (oe_bit h small ∙ ap bit_of ours)) (lt-ltb _ _ (omega (arith, head_ext h small)))

head_closed : (h : Head) → h.ext < 4 → h.oe ≡ true → is_open (head_byte h) ≡ false
head_closed h small other =
    and_left _ _ (ne_eqb (head_byte h / 64 % 2) 0 (λ none. omega (arith, oe_bit h small ∙ ap bit_of other, none)))

fig_is_by : (oe : Bool) (w : Written) → w.head.oe ≡ oe → IsWritten w → length (entries_bytes w.entries) < 31
    → IsFig (fig_bytes w.head w.entries)
    (cond oe (Other (fig_bytes w.head w.entries)) (Open (head_byte w.head) (map entry_bytes w.entries)))
fig_is_by false w ours h short =
    let small = ext_small w.head w.entries h.formed in
    let body = body_is w h in (
      entries_bytes w.entries,
      refl,
      short,
      head_open w.head small ours,
      subst₂ (λ (k : ℕ) (long : Bool). IsBody k long (entries_bytes w.entries) (map entry_bytes w.entries))
          (sym (head_ext w.head small)) (sym (head_long w.head small)) body,
    )
fig_is_by true w other h short =
    let small = ext_small w.head w.entries h.formed in
    (refl, ((λ marker. omega (arith, marker)), (omega arith), and_right _ _ (head_closed w.head small other)))

pub fig_is : (w : Written) → IsWritten w → length (fig_bytes w.head w.entries) ≤ 30
    → IsFig (fig_bytes w.head w.entries) (fig_of w)
fig_is w h short = fig_is_by w.head.oe w refl h (omega arith)

figs_are : (figs : List Written) (tail : List ℕ) → AllByRecursion IsWritten figs → length (figs_bytes figs) ≤ 30
    → AreFigs tail []
    → AreFigs (figs_bytes figs ++ tail) (map fig_of figs)
figs_are [] tail written short ends = ends
figs_are (w ∷ ws) tail written short ends =
    let front = fig_bytes w.head w.entries in
    let whole : length (figs_bytes (w ∷ ws)) ≡ length front + length (figs_bytes ws) =
    length-append front (figs_bytes ws) in (
      front,
      figs_bytes ws ++ tail,
      append_assoc front (figs_bytes ws) tail,
      fig_is w written.0 (omega (arith, whole)),
      figs_are ws tail written.1 (omega (arith, whole)) ends,
    )

pub length-filled : (bytes : List ℕ) → length bytes ≤ 30 → length (filled bytes) ≡ 30
length-filled bytes h =
    let zeros : List ℕ = replicate (29 - length bytes) 0 in
    let rest : length zeros ≡ 29 - length bytes = length-replicate (29 - length bytes) 0 in
    let marker : List ℕ = 255 ∷ zeros in
    cond_both (ltb (length bytes) 30) (bytes ++ marker) bytes (λ xs. length xs ≡ 30)
    (λ lt. omega (arith, ltb-true _ _ lt, rest, length-append bytes marker)) (λ ge. omega (arith, ltb-false _ _ ge))

filled_figs : (figs : List Written) → AllByRecursion IsWritten figs → length (figs_bytes figs) ≤ 30
    → AreFigs (filled (figs_bytes figs)) (map fig_of figs)
filled_figs figs written short =
    let bytes = figs_bytes figs in
    let marker = 255 ∷ replicate (29 - length bytes) 0 in
    elim (cases_lt (length bytes) 30) [
      | inl lt ↦ subst (λ (xs : List ℕ). AreFigs xs (map fig_of figs))
          (sym (cond-true (ltb (length bytes) 30) (bytes ++ marker) bytes (lt-ltb _ _ lt)))
          (figs_are figs marker written short (inr (replicate (29 - length bytes) 0, refl)))
      | inr ge ↦ subst (λ (xs : List ℕ). AreFigs xs (map fig_of figs))
          (append-nil bytes ∙ sym (cond-false (ltb (length bytes) 30) (bytes ++ marker) bytes (le-ltb _ _ ge)))
          (figs_are figs [] written short (inl refl))
    ]

-- ---- the whole FIB
pub fib_is : (figs : List Written) → AllByRecursion IsWritten figs → length (figs_bytes figs) ≤ 30
    → IsFib (checked (filled (figs_bytes figs))) (map fig_of figs)
fib_is figs written short =
    let bytes = filled (figs_bytes figs) in
    let long : length bytes ≡ 30 = length-filled (figs_bytes figs) short in (
      checked_is bytes long,
      subst (λ (xs : List ℕ). AreFigs xs (map fig_of figs)) (sym (take_at bytes _ 30 long))
          (filled_figs figs written short),
    )

spelled_again : (es : List Entry) → flat_map (λ (e : List ℕ). e) (map entry_bytes es) ≡ entries_bytes es
spelled_again [] = refl
spelled_again (e ∷ es) = rw (spelled_again es) refl

again : (oe : Bool) (w : Written)
    → fig_spelled (cond oe (Other (fig_bytes w.head w.entries)) (Open (head_byte w.head) (map entry_bytes w.entries)))
    ≡ fig_bytes w.head w.entries
again true w = refl
again false w = rw (spelled_again w.entries) refl

figs_again : (figs : List Written) → flat_map fig_spelled (map fig_of figs) ≡ figs_bytes figs
figs_again [] = refl
figs_again (w ∷ ws) = ap₂ (λ xs ys. xs ++ ys) (again w.head.oe w) (figs_again ws)

open_by : (oe : Bool) (w : Written) → oe ≡ false
    → IsOpen (cond oe (Other (fig_bytes w.head w.entries)) (Open (head_byte w.head) (map entry_bytes w.entries)))
open_by false w ours = tt
open_by true w ours = cc

are_open : (figs : List Written) → AllByRecursion IsOurs figs → AllByRecursion IsOpen (map fig_of figs)
are_open [] ours = tt
are_open (w ∷ ws) ours = (open_by w.head.oe w ours.0, are_open ws ours.1)

pub valid_is : (figs : List Written) → AllByRecursion IsWritten figs → length (figs_bytes figs) ≤ 30
    → AllByRecursion IsOurs figs
    → IsValid (checked (filled (figs_bytes figs))) (map fig_of figs)
valid_is figs written short ours =
    let bytes = filled (figs_bytes figs) in
    record {
      fib = fib_is figs written short;
      looked_into = are_open figs ours;
      rest_filled = rw (figs_again figs) (take_at bytes _ 30 (length-filled (figs_bytes figs) short));
    }
