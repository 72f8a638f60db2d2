-- The entries of a configuration, each with its C/N flag, and those of two side by side.
use Rattle.fib_carousel.proofs.Words.{◌++◌, ◌+◌, ◌-◌, ◌<◌, ◌∙◌, ◌≡◌, ◌≤◌, AreAlike, Bool, Configuration, Entry}
use Rattle.fib_carousel.proofs.Words.{EntryShape, IsRun, IsShapeAt, List, Marked, None, Option, PutsRun, Some}
use Rattle.fib_carousel.proofs.Words.{TakesRuns, ap, arith, config_entries, facts_of, false, get_or}
use Rattle.fib_carousel.proofs.Words.{get_or-append_right, get_or_append_left, get_or_from_slice_get, head_of, length}
use Rattle.fib_carousel.proofs.Words.{length-append, length-map, marked, marked_bytes, option_map, page_set, piece}
use Rattle.fib_carousel.proofs.Words.{refl, size_of, slice_get, slice_get-get_or, slice_get-map, slice_get_read}
use Rattle.fib_carousel.proofs.Words.{slice_get_within, subst, sym, true, ℕ}
use Rattle.fib_carousel.proofs.Filling.{same_there}
use Rattle.fib_carousel.proofs.Sections.{piece_front, piece_behind}

pub marked_at : (c : Configuration) (next : Bool) (place : ℕ) (e : Entry) → slice_get (config_entries c) place ≡ Some e
    → slice_get (facts_of c next) place ≡ Some (marked next e)
marked_at c next place e h = slice_get-map (marked next) (config_entries c) place
    ∙ ap (λ o. option_map (marked next) o) h

-- the element at an index of two concatenated lists
front_get : {A : Type 0} (xs ys : List A) (i : ℕ) (x : A) → slice_get xs i ≡ Some x → slice_get (xs ++ ys) i ≡ Some x
front_get xs ys i x h =
    let within : i < length xs = slice_get_within xs i x h in
    slice_get_read (xs ++ ys) (length (xs ++ ys)) i x refl (omega (arith, within, length-append xs ys))
    (sym (get_or_append_left xs ys x i within ∙ get_or_from_slice_get xs i x x h))

behind_get : {A : Type 0} (xs ys : List A) (i : ℕ) (x : A) → length xs ≤ i → slice_get ys (i - length xs) ≡ Some x
    → slice_get (xs ++ ys) i ≡ Some x
behind_get xs ys i x le h =
    let within : i - length xs < length ys = slice_get_within ys (i - length xs) x h in
    slice_get_read (xs ++ ys) (length (xs ++ ys)) i x refl (omega (arith, within, length-append xs ys, le))
    (sym (get_or-append_right xs ys i x le ∙ get_or_from_slice_get ys (i - length xs) x x h))

-- ---- runs of the entries of one side
run_front : (xs ys : List Marked) (i n : ℕ) (s : EntryShape) → IsRun xs i n s → IsRun (xs ++ ys) i n s
run_front xs ys i n s r = record {
  inside = omega (arith, r.inside, length-append xs ys);
  alike = subst (λ (ms : List Marked). AreAlike s ms) (sym (piece_front xs ys i n r.inside)) r.alike;
}

behind_piece : (xs ys : List Marked) (i n : ℕ) → length xs ≤ i → piece (xs ++ ys) i n ≡ piece ys (i - length xs) n
behind_piece xs ys i n le = ap (λ j. piece (xs ++ ys) j n) (omega (arith, le)) ∙ piece_behind xs ys _ n

run_behind : (xs ys : List Marked) (i n : ℕ) (s : EntryShape) → length xs ≤ i → IsRun ys (i - length xs) n s
    → IsRun (xs ++ ys) i n s
run_behind xs ys i n s le r = record {
  inside = omega (arith, le, r.inside, length-append xs ys);
  alike = subst (λ (ms : List Marked). AreAlike s ms) (sym (behind_piece xs ys i n le)) r.alike;
}

-- what holds for the first of two concatenated lists, and for the second
pub record OneSide (all side : List Marked) (i j : ℕ) : Type 0 where
  pub run : (n : ℕ) (s : EntryShape) → IsRun side j n s → IsRun all i n s
  pub same : (n : ℕ) → j + n ≤ length side → piece all i n ≡ piece side j n
  pub get : (m : Marked) → slice_get side j ≡ Some m → slice_get all i ≡ Some m

front_side : (xs ys : List Marked) (i : ℕ) → OneSide (xs ++ ys) xs i i
front_side xs ys i = record {
  run = λ n s r. run_front xs ys i n s r;
  same = λ n h. piece_front xs ys i n h;
  get = λ m h. front_get xs ys i m h;
}

behind_side : (xs ys : List Marked) (i : ℕ) → length xs ≤ i → OneSide (xs ++ ys) ys i (i - length xs)
behind_side xs ys i le = record {
  run = λ n s r. run_behind xs ys i n s le r;
  same = λ n h. behind_piece xs ys i n le;
  get = λ m h. behind_get xs ys i m le h;
}

whole_side : (xs : List Marked) (i : ℕ) → OneSide xs xs i i
whole_side xs i = record { run = λ n s r. r; same = λ n h. refl; get = λ m h. h }

pub current_side : (c : Configuration) (next : Option Configuration) (i : ℕ)
    → OneSide (page_set c next) (facts_of c false) i i
current_side c None i = whole_side (facts_of c false) i
current_side c (Some d) i = front_side (facts_of c false) (facts_of d true) i

pub next_side : (c d : Configuration) (next : Option Configuration) (count i : ℕ) → next ≡ Some d
    → count ≡ length (config_entries c) → count ≤ i → OneSide (page_set c next) (facts_of d true) i (i - count)
next_side c d next count i is same le =
    let long : length (facts_of c false) ≡ count = length-map (config_entries c) (marked false) ∙ sym same in
    rw is (rw (← long) (behind_side (facts_of c false) (facts_of d true) i (omega (arith, long, le))))

pub side_takes : (all side : List Marked) (i j room : ℕ) (old : List ℕ) → OneSide all side i j
    → TakesRuns all i room old → TakesRuns side j room old
side_takes all side i j room old o takes n s r fits = takes n s (o.run n s r) fits

pub side_puts : (all side : List Marked) (i j room n : ℕ) (old new : List ℕ) → OneSide all side i j → j < length side
    → ((s : EntryShape) → IsShapeAt side j s → PutsRun side j s room n old new)
    → (s : EntryShape) → IsShapeAt all i s → PutsRun all i s room n old new
side_puts all side i j room n old new o there puts s at =
    let here : slice_get side j ≡ Some (get_or side j at.entry) = slice_get-get_or side j at.entry there in
    let same = same_there all i at.entry (get_or side j at.entry) at.here (o.get (get_or side j at.entry) here) in
    let p = puts s (record {
      entry = get_or side j at.entry;
      here = here;
      head = at.head ∙ ap head_of same;
      size = at.size ∙ ap size_of same;
    }) in
    record {
      some = p.some;
      run = o.run n s p.run;
      fits = p.fits;
      bytes = p.bytes ∙ ap (λ (ms : List Marked). old ++ marked_bytes ms) (sym (o.same n p.run.inside));
    }

pub next_within : (c d : Configuration) (next : Option Configuration) (count i : ℕ) → next ≡ Some d
    → count ≡ length (config_entries c) → count ≤ i → i < length (page_set c next)
    → i - count < length (facts_of d true)
next_within c d next count i is same le inside =
    let all = ap (λ o. length (page_set c o)) is ∙ length-append (facts_of c false) (facts_of d true) in
    omega (arith, inside, all, length-map (config_entries c) (marked false) ∙ sym same, le)
