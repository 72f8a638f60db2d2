-- The components of a service, decoded from their entries.
use Rattle.fib_reader.proofs.Words.{[], ◌++◌, ◌<◌, ◌==◌, ◌||◌, ◌∙◌, ◌∷◌, ◌≡◌, ◌≢◌, AllByRecursion, AreDifferent, Bool}
use Rattle.fib_reader.proofs.Words.{Component, IsComponent, List, Packet, Sound, Stream, ap, arith, carrier_of}
use Rattle.fib_reader.proofs.Words.{component_entries, component_entry, eq-eqb, eqb-true, false, get_or, get_or-map}
use Rattle.fib_reader.proofs.Words.{is_same_carrier, length, length-map, list_any, map, names, ne_eqb, refl, suc, sym}
use Rattle.fib_reader.proofs.Words.{take, take-map, true, zero, ℕ}
use Rattle.mux_types.specs.declared.parts.Carrier.{Carrier}
use Rattle.mux_types.specs.declared.entry.ComponentEntry.{ComponentEntry}
use Rattle.mux_types.specs.declared.entry.ComponentEntry.TheVariants.{Other, Sound as SoundOf, Stream as StreamOf}
use Rattle.mux_types.specs.declared.entry.ComponentEntry.TheVariants.{Packet as PacketsOf}
use Rattle.mux_types.specs.declared.parts.Carrier.TheVariants.{Sub as BySub, Packet as ByPacket}

-- one more component
entries_more : (xs : List Component) (c : Component) → map (component_entry false) (xs ++ c ∷ [])
    ≡ map (component_entry false) xs ++ component_entry false c ∷ []
entries_more [] c = refl
entries_more (x ∷ xs) c = rw (entries_more xs c) refl

pub component_entries-more :
    (cs : List Component) (c : Component)
    → component_entries (cs ++ c ∷ []) ≡ component_entries cs ++ component_entry (length cs == 0) c ∷ []
component_entries-more [] c = refl
component_entries-more (x ∷ xs) c =
    let other : (suc (length xs) == 0) ≡ false = ne_eqb (suc (length xs)) 0 (λ e. omega arith) in
    cc (entries_more xs c, other)

each_more : (P : Component → Type 0) (cs : List Component) (c : Component) → AllByRecursion P cs → P c
    → AllByRecursion P (cs ++ c ∷ [])
each_more P [] c all one = (one, tt)
each_more P (x ∷ xs) c all one = (all.0, each_more P xs c all.1 one)

pub members_more : (cs : List Component) (c : Component) → AllByRecursion IsComponent cs → IsComponent c
    → AllByRecursion IsComponent (cs ++ c ∷ [])
members_more cs c all one = each_more IsComponent cs c all one

same_carrier : (a b : Carrier) → a ≡ b → is_same_carrier a b ≡ true
same_carrier (BySub a) (BySub b) h = let e : a ≡ b = (cc) in eq-eqb a b e
same_carrier (ByPacket a) (ByPacket b) h = let e : a ≡ b = (cc) in eq-eqb a b e
same_carrier _ _ h = absurd (cc)

carrier_same : (a b : Carrier) → is_same_carrier a b ≡ true → a ≡ b
carrier_same (BySub a) (BySub b) h = ap BySub (eqb-true a b h)
carrier_same (ByPacket a) (ByPacket b) h = ap ByPacket (eqb-true a b h)
carrier_same _ _ h = absurd (cc)

or_false : (a b : Bool) → (a || b) ≡ false → (a ≡ false) × (b ≡ false)
or_false true b h = absurd (cc)
or_false false b h = (refl, h)

pub different_more :
    (cs : List Component) (c : Component) → AreDifferent cs → list_any (names (carrier_of c)) cs ≡ false
    → AreDifferent (cs ++ c ∷ [])
different_more [] c all unnamed = (tt, tt)
different_more (x ∷ xs) c all unnamed =
    let both = or_false (names (carrier_of c) x) _ unnamed in (
      each_more (λ d. carrier_of x ≢ carrier_of d) xs c all.0
          (λ same. let yes : is_same_carrier (carrier_of x) (carrier_of c) ≡ true =
          same_carrier (carrier_of x) (carrier_of c) same in
          let not : is_same_carrier (carrier_of x) (carrier_of c) ≡ false = both.0 in absurd (cc)),
      different_more xs c all.1 both.1,
    )

-- a carrier that differs from those of all components differs from that of each
named_at : (a : Component) (xs : List Component) (j : ℕ) (d : Component)
    → AllByRecursion (λ y. carrier_of a ≢ carrier_of y) xs → j < length xs
    → carrier_of a ≢ carrier_of (get_or xs j d)
named_at a [] j d all inside = absurd (omega arith)
named_at a (x ∷ xs) zero d all inside = all.0
named_at a (x ∷ xs) (suc j) d all inside = named_at a xs j d all.1 (omega arith)

or_true : (a b : Bool) → (a || b) ≡ true → (a ≡ false → b ≡ true)
or_true true b h f = absurd (cc)
or_true false b h f = h

pub not_named_before :
    (cs : List Component) (i : ℕ) (d : Component) → AreDifferent cs → i < length cs
    → list_any (names (carrier_of (get_or cs i d))) (take i cs) ≡ true → ⊥
not_named_before [] i d all inside named = absurd (omega arith)
not_named_before (x ∷ xs) zero d all inside named = absurd (cc)
not_named_before (x ∷ xs) (suc j) d all inside named =
    let apart : carrier_of x ≢ carrier_of (get_or xs j d) = named_at x xs j d all.0 (omega arith) in
    let other : is_same_carrier (carrier_of x) (carrier_of (get_or xs j d)) ≡ false =
    (elim (is_same_carrier (carrier_of x) (carrier_of (get_or xs j d)))
    as (λ b. is_same_carrier (carrier_of x) (carrier_of (get_or xs j d)) ≡ b → b ≡ false) [
      | true ↦ λ e. absurd (apart (carrier_same (carrier_of x) (carrier_of (get_or xs j d)) e))
      | false ↦ λ e. refl
    ]) refl in
    not_named_before xs j d all.1 (omega arith)
    (or_true (is_same_carrier (carrier_of x) (carrier_of (get_or xs j d))) _ named other)

-- the component that an entry describes, if any
component_from : ComponentEntry → Component
component_from (SoundOf ty sub primary ca) = Sound ty sub
component_from (StreamOf ty sub primary ca) = Stream ty sub
component_from (Other bits) = Packet 0
component_from (PacketsOf scid primary ca) = Packet scid

from_entry : (primary : Bool) (c : Component) → component_from (component_entry primary c) ≡ c
unfolding component_from
from_entry primary (Sound ty sub) = refl
from_entry primary (Stream ty sub) = refl
from_entry primary (Packet scid) = refl

from_others : (cs : List Component) → map component_from (map (component_entry false) cs) ≡ cs
from_others [] = refl
from_others (c ∷ cs) = rw (from_entry false c, from_others cs) refl

from_entries : (cs : List Component) → map component_from (component_entries cs) ≡ cs
from_entries [] = refl
from_entries (c ∷ cs) = rw (from_entry true c, from_others cs) refl

-- so the components read so far are the front of those to be read
pub read_so_far :
    (cs all : List Component) (entries : List ComponentEntry) (i : ℕ) → component_entries cs ≡ take i entries
    → component_entries all ≡ entries → cs ≡ take i all
read_so_far cs all entries i part whole =
    sym (from_entries cs) ∙ ap (map component_from) part ∙ (sym (take-map component_from i entries))
    ∙ ap (λ es. take i (map component_from es)) (sym whole) ∙ ap (take i) (from_entries all)

pub length_component_entries : (cs : List Component) → length (component_entries cs) ≡ length cs
length_component_entries [] = refl
length_component_entries (c ∷ cs) = ap suc (length-map cs (component_entry false))

-- each entry describes its component
at_place :
    (all : List Component) (i : ℕ) (e : ComponentEntry) (d : Component) → i < length all
    → get_or (component_entries all) i e ≡ component_entry (i == 0) (get_or all i d)
at_place [] i e d inside = absurd (omega arith)
at_place (c ∷ cs) zero e d inside = refl
at_place (c ∷ cs) (suc j) e d inside =
    rw ((ne_eqb (suc j) 0 (λ e. omega arith))) (get_or-map (component_entry false) cs j d e (omega arith))

pub entry_at_place :
    (all : List Component) (entries : List ComponentEntry) (i : ℕ) (e : ComponentEntry) (d : Component)
    → component_entries all ≡ entries → i < length entries → e ≡ get_or entries i e
    → component_entry (i == 0) (get_or all i d) ≡ e
entry_at_place all entries i e d whole inside is =
    let size : length all ≡ length entries = sym (length_component_entries all) ∙ ap length whole in
    sym (at_place all i e d (omega arith)) ∙ ap (λ es. get_or es i e) whole ∙ sym is

-- a component whose carrier occurred before: no service has such components
pub named_twice :
    (cs all : List Component) (entries : List ComponentEntry) (i : ℕ) (e : ComponentEntry) (c : Component)
    → component_entries cs ≡ take i entries → i < length entries → e ≡ get_or entries i e
    → component_entry (i == 0) c ≡ e
    → list_any (names (carrier_of c)) cs ≡ true → AreDifferent all → component_entries all ≡ entries → ⊥
named_twice cs all entries i e c part inside is says named different whole =
    let size : length all ≡ length entries = sym (length_component_entries all) ∙ ap length whole in
    let same : get_or all i c ≡ c = sym (from_entry _ _) ∙ ap component_from
    (entry_at_place all entries i e c whole inside is ∙ sym says) ∙ from_entry _ _ in
    not_named_before all i c different (omega arith) (rw (same)
    (ap (list_any (names (carrier_of c))) (sym (read_so_far cs all entries i part whole)) ∙ named))
