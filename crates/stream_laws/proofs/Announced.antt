-- The bytes of a notice's frames announce its swap, and the change of pictures.
use Rattle.stream_laws.proofs.Words.{[], ◌%◌, ◌&&◌, ◌++◌, ◌+◌, ◌-◌, ◌<◌, ◌==◌, ◌||◌, ◌∙◌, ◌∷◌, ◌≡◌, ◌≤◌, AllByRecursion}
use Rattle.stream_laws.proofs.Words.{AnnouncesChange, AreFibBytes, Bool, ChangeIsUnique, ChangesAreAnnounced}
use Rattle.stream_laws.proofs.Words.{Configuration, Contains, Contains-append_left, Contains-append_right}
use Rattle.stream_laws.proofs.Words.{EnsembleInformation, Fib, HasThreeHeaders, IsConfiguration, IsEnsembleHeardInRow}
use Rattle.stream_laws.proofs.Words.{IsFib, IsHeaded, IsHeardInRow, IsHeardWhole, IsSaid, IsSaidIn, IsSent, IsSentWhole}
use Rattle.stream_laws.proofs.Words.{IsTheMost, IsWithin, Item, List, Marked, Moment, Open, Option, Pictured, Raw}
use Rattle.stream_laws.proofs.Words.{Reading, ShowsEach, Some, SpellingIdentifies, SwapsAreAnnounced, after_frames}
use Rattle.stream_laws.proofs.Words.{all_entries, ap, arith, cond, contains_first, contains_later, drop}
use Rattle.stream_laws.proofs.Words.{drop-append_seam, drop-map, each_contains, ensemble_of_item, entries_in, entry_at}
use Rattle.stream_laws.proofs.Words.{entry_like, eq-eqb, eqb-true, ext_of, false, false≢true, frame_items, frames_ended}
use Rattle.stream_laws.proofs.Words.{identifier_of, is_ensemble, is_flagged, is_long, is_next, key_of, last_flags}
use Rattle.stream_laws.proofs.Words.{last_of, length, length-append, length-map, list_any, listener_after, map}
use Rattle.stream_laws.proofs.Words.{map-append, mapped_from, mapped_to, marked, past_after_frame, raw_entry, raw_of}
use Rattle.stream_laws.proofs.Words.{read_frames, refl, row_of, rows, said, service_entries, slice_get, sub_entries}
use Rattle.stream_laws.proofs.Words.{subst, suc, sym, take, take-append_seam, take-map, true, zero, ℕ}
use Rattle.mux_types.proofs.Walking.{each_at}
use Rattle.stream_check.specs.Cutting.{HasAll}
use Rattle.stream_laws.proofs.Clean.{IsHanded, said_ended, all_left, all_right, after_entry, entry_clean}
use Rattle.stream_laws.proofs.Kept.{first_holds}
use Rattle.stream_laws.proofs.Rows.{at_hand, notice_rows, hand_after, as_many, EndsWith, ends_with, none_between}
use Rattle.stream_laws.proofs.Tracking.{IsFormed, flagged_rows, AllAnnounce}
use Rattle.stream_laws.proofs.Bytes.{FibLaws, header_heard, at_place, item_from, read_fib, each_take, header_said}
use Rattle.stream_laws.proofs.Swapping.{flagged_at, get_later, get_map, IsSaidAmong, RowsAreSaid, IsNoticed}
use Rattle.stream_laws.proofs.Swapping.{swap_noticed, split_rows, in_part}
use Rattle.stream_laws.proofs.Formed.{all_formed}
use Rattle.stream_laws.proofs.Shown.{HasKinds, all_kinds, shows_kinds, entry_shown, flags_of_change}

-- the entries of a frame
abbrev pub items_in : Reading → List (List ℕ) → List Item
items_in r fibs = frame_items (map r.read fibs)

-- ---- an entry of the next configuration

-- two entries with the same key have the same lookup
pub one_found : (x y : Raw) (p : Pictured) → x.ext < 4 → y.ext < 4 → key_of x ≡ key_of y → entry_like x p ≡ Some x
    → entry_like y p ≡ Some y → x ≡ y
one_found x y p few small keys one two =
    let ext : x.ext ≡ y.ext = omega (arith, few, small, keys) in
    let id : identifier_of x ≡ identifier_of y = omega (arith, few, small, keys) in
    inner (sym one ∙ (ap (λ n. find_in n (identifier_of x) p) ext ∙ ap (λ k. find_in y.ext k p) id) ∙ two)
  where
    find_in : ℕ → ℕ → Pictured → Option Raw
    find_in n k p = entry_at identifier_of k (cond (n == 1) p.subs (cond (n == 2) p.services p.packets))

    inner : Some x ≡ Some y → x ≡ y
    inner e = cc

-- ---- the frames of the notice

pub frames_counted : (step : ℕ) (frames : List (List Fib)) (past : List Moment)
    → frames_ended (after_frames step past frames) ≡ frames_ended past + length frames
frames_counted step [] past = omega arith
frames_counted step (frame ∷ frames) past =
    let rest = frames_counted step frames (past_after_frame step past frame) in
    omega (arith, rest, ap (λ n. n + 1) (said_ended (frame_items frame) past))

-- a swap is the first entry of its frame
pub begins_frame : (step : ℕ) (frames : List (List Fib)) (past : List Moment) (i : Item)
    (s : IsSaidIn step frames past i) → at_hand past ≡ [] → past ≡ after_frames step [] s.before
begins_frame step frames past i s hand =
    let front : s.front ≡ [] =
    ap (λ (xs : List Item). xs ++ s.front) (sym (none_between step s.before))
    ∙ sym (hand_after s.front (after_frames step [] s.before)) ∙ ap at_hand (sym s.past_is) ∙ hand in
    s.past_is ∙ ap (λ (xs : List Item). said xs (after_frames step [] s.before)) front

map_twice : {X Y Z : Type 0} (f : Y → Z) (g : X → Y) (xs : List X) → map f (map g xs) ≡ map (λ x. f (g x)) xs
map_twice f g [] = refl
map_twice f g (x ∷ xs) = ap (λ zs. f (g x) ∷ zs) (map_twice f g xs)

last_by : {X Y : Type 0} (f : X → Y) (xs : List X) (earlier notice : List Y) (n : ℕ) → map f xs ≡ earlier ++ notice
    → length notice ≡ n → map f (last_of n xs) ≡ notice
last_by f xs earlier notice n whole len =
    let counts = sym (length-map xs f) ∙ ap length whole ∙ length-append earlier notice in
    let cut : length xs - n ≡ length earlier = omega (arith, counts, len) in
    cc (cut, drop-map f (length earlier) xs, whole, drop-append_seam earlier notice)

pub notice_is : (r : Reading) (step : ℕ) (frames : List (List (List ℕ))) (past : List Moment) (i : Item)
    → IsSaidIn step (read_frames r frames) past i → at_hand past ≡ []
    → map (items_in r) (last_of (length (rows past)) (take (frames_ended past) frames)) ≡ notice_rows past
notice_is r step frames past i s hand =
    let before : past ≡ after_frames step [] s.before = begins_frame step (read_frames r frames) past i s hand in
    let ended = ap frames_ended before ∙ frames_counted step s.before [] ∙ omega arith in
    let taken : map (map r.read) (take (frames_ended past) frames) ≡ s.before =
    sym (take-map (map r.read) (frames_ended past) frames) ∙ ap (λ n. take n (read_frames r frames)) ended
    ∙ ap (take (length s.before)) s.frames_are ∙ take-append_seam s.before (s.frame ∷ s.after) in
    let ends : EndsWith s.before past = subst (EndsWith s.before) (sym before) (ends_with step s.before) in
    let last : map (map r.read) (last_of (length (rows past)) (take (frames_ended past) frames)) ≡ ends.notice =
    last_by (map r.read) (take (frames_ended past) frames) ends.earlier ends.notice (length (rows past))
    (taken ∙ ends.whole) (sym (length-map ends.notice frame_items) ∙ ap length ends.are ∙ as_many past) in
    sym (map_twice _ _ _) ∙ ap (map frame_items) last ∙ ends.are

pub each_drop : {X : Type 0} (P : X → Type 0) (n : ℕ) (xs : List X) → AllByRecursion P xs → AllByRecursion P (drop n xs)
each_drop P zero xs all = all
each_drop P (suc n) [] all = tt
each_drop P (suc n) (x ∷ xs) all = each_drop P n xs all.1

-- ---- three FIG 0/0

flagged_in : (items : List Item) → list_any is_flagged items ≡ true → (i : Item) × Contains items i
    × (is_ensemble i ≡ true)
flagged_in [] e = absurd (false≢true e)
flagged_in (i ∷ is) e = elim (is_flagged i) as (λ t. is_flagged i ≡ t → (t || list_any is_flagged is) ≡ true
    → (j : Item) × Contains (i ∷ is) j × (is_ensemble j ≡ true)) [
      | true ↦ λ f any. (i, contains_first i is, first_holds (is_ensemble i) _ f)
      | false ↦ λ f any. (let rest = flagged_in is any in (rest.0, contains_later i is rest.0 rest.1, rest.2))
    ] refl e

headed : (laws : FibLaws) (r : Reading) (notice : List (List (List ℕ))) (place : ℕ) (fibs : List (List ℕ))
    → AllByRecursion AreFibBytes notice → slice_get notice place ≡ Some fibs
    → list_any is_flagged (items_in r fibs) ≡ true → IsHeaded (map row_of notice) place
headed laws r notice place fibs all got has =
    let found = flagged_in (items_in r fibs) has in (
      row_of fibs,
      get_map row_of notice place fibs got,
      (
        found.0.next,
        ensemble_of_item found.0,
        header_heard laws r fibs found.0
            (each_at AreFibBytes notice place fibs all got) found.2 found.1,
      ),
    )

pub three_headers : (laws : FibLaws) (r : Reading) (notice : List (List (List ℕ))) → AllByRecursion AreFibBytes notice
    → 3 ≤ flagged_rows (map (items_in r) notice) → HasThreeHeaders (map row_of notice)
three_headers laws r notice all three =
    let one = flagged_at (items_in r) 2 notice three in
    let two = flagged_at (items_in r) 1 (drop (suc one.place) notice) one.rest in
    let last = flagged_at (items_in r) 0 (drop (suc two.place) (drop (suc one.place) notice)) two.rest in
    let second = get_later (suc one.place) notice two.place two.frame two.got in
    let third : slice_get notice (suc one.place + (suc two.place + last.place)) ≡ Some last.frame =
    get_later _ notice _ _ (get_later (suc two.place) (drop (suc one.place) notice) last.place last.frame last.got) in
    record {
      first = one.place;
      second = suc one.place + two.place;
      third = suc one.place + (suc two.place + last.place);
      before_second = omega arith;
      before_third = omega arith;
      in_first = headed laws r notice one.place one.frame all one.got one.has;
      in_second = headed laws r notice (suc one.place + two.place) two.frame all second two.has;
      in_third = headed laws r notice (suc one.place + (suc two.place + last.place)) last.frame all third last.has;
    }

-- ---- the whole notice

pub three_parts : (notice xs ys zs : List (List (List ℕ))) → notice ≡ (xs ++ ys) ++ zs
    → map row_of notice ≡ (map row_of xs ++ map row_of ys) ++ map row_of zs
three_parts notice xs ys zs e =
    ap (map row_of) e ∙ (map-append row_of (xs ++ ys) zs) ∙ ap (λ rs. rs ++ map row_of zs) (map-append row_of xs ys)

pub formed_handed : IsHanded IsFormed
formed_handed = record { by_entry = λ i past w. w.2; by_frame = λ count past w. w }

-- ---- an entry of a picture

entry_in : (k : ℕ) (rs : List Raw) (raw : Raw) → entry_at identifier_of k rs ≡ Some raw → Contains rs raw
entry_in k [] raw e = absurd cc
entry_in k (x ∷ xs) raw e = elim (identifier_of x == k)
    as (λ t. cond t (Some x) (entry_at identifier_of k xs) ≡ Some raw → Contains (x ∷ xs) raw) [
      | true ↦ λ is. (let same : x ≡ raw = cc in subst (λ (y : Raw). Contains (x ∷ xs) y) same (contains_first x xs))
      | false ↦ λ is. contains_later x xs raw (entry_in k xs raw is)
    ] e

pub record IsThere (p : Pictured) (raw : Raw) : Type 0 where
  pub inside : Contains (all_entries p) raw
  pub small : raw.ext < 4

pub there : (p : Pictured) (raw : Raw) → HasKinds p → entry_like raw p ≡ Some raw → IsThere p raw
there p raw k found = elim (raw.ext == 1) as (λ t. (raw.ext == 1) ≡ t
    → entry_at identifier_of (identifier_of raw) (cond t p.subs (cond (raw.ext == 2) p.services p.packets)) ≡ Some raw
    → IsThere p raw) [
      | true ↦ λ is f. record {
        inside = Contains-append_left (p.subs ++ p.services) p.packets raw
            (Contains-append_left p.subs p.services raw (entry_in (identifier_of raw) p.subs raw f));
        small = (let one = eqb-true raw.ext 1 is in omega (arith, one));
      }
      | false ↦ λ is. elim (raw.ext == 2) as (λ t. (raw.ext == 2) ≡ t
          → entry_at identifier_of (identifier_of raw) (cond t p.services p.packets) ≡ Some raw → IsThere p raw) [
            | true ↦ λ two f. record {
              inside = Contains-append_left (p.subs ++ p.services) p.packets raw
                  (Contains-append_right p.subs p.services raw (entry_in (identifier_of raw) p.services raw f));
              small = (let one = eqb-true raw.ext 2 two in omega (arith, one));
            }
            | false ↦ λ two f. (let last = entry_in (identifier_of raw) p.packets raw f in
                record {
                  inside = Contains-append_right (p.subs ++ p.services) p.packets raw last;
                  small = (let three : raw.ext ≡ 3 =
                      each_contains (λ (x : Raw). x.ext ≡ 3) p.packets raw k.packets last in
                      omega (arith, three));
                })
          ] refl
    ] refl found

-- an entry of the frame is sent in its bytes
pub sent : (r : Reading) (next : Bool) (fibs : List (List ℕ)) (i : Item) → AreFibBytes fibs
    → Contains (items_in r fibs) i → i.next ≡ next → IsSent next (row_of fibs) i.raw
sent r next fibs i all h marked =
    let from = item_from r fibs i h in
    let here = at_place fibs from.inside.0 from.fib all from.inside.1 ∙ from.inside.2 in
    record {
      place = from.inside.0;
      figs = from.figs;
      second = from.second;
      es = from.es;
      is_fib = subst (λ (b : List ℕ). IsFib b from.figs) (sym here) (read_fib r from.fib from.figs from.read);
      inside = from.fig_in;
      tagged = from.next_is ∙ marked;
      there = subst (λ (x : Raw). Contains (entries_in (Open from.second from.es)) x) from.raw_is
          (mapped_from (raw_of (from.second % 32) (is_long from.second)) from.es from.bytes from.entry_in);
    }

part_sent : (r : Reading) (part : List (List (List ℕ))) (rs : List (List ℕ)) (p : Pictured)
    → AllByRecursion AreFibBytes part → HasKinds p
    → RowsAreSaid p (map (items_in r) part) rs → HasAll (map key_of (all_entries p)) rs
    → IsSentWhole p (map row_of part)
part_sent r part rs p bytes k s all raw known =
    let is = there p raw k known in
    let found = in_part (items_in r) p part rs (key_of raw) s (all (key_of raw) (mapped_from _ _ _ is.inside)) in
    let among : IsSaidAmong p (items_in r found.0) (key_of raw) = found.2 in
    let same : among.item.raw ≡ raw =
    one_found among.item.raw raw p among.small is.small among.key among.found known in (
      row_of found.0,
      mapped_from row_of part found.0 found.1,
      subst (IsSent true (row_of found.0)) same
          (sent r true found.0 among.item (each_contains AreFibBytes part found.0 bytes found.1) among.inside
          among.marked),
    )

-- what each FIG 0/0 in the notice's frames says
pub notice_header : FibLaws → (r : Reading) (notice : List (List (List ℕ))) → AllByRecursion AreFibBytes notice
    → (flags low : ℕ) → AllByRecursion (AllAnnounce flags low) (map (items_in r) notice)
    → (frame : List ℕ) (mark : Bool) (e : EnsembleInformation) → Contains (map row_of notice) frame
    → IsEnsembleHeardInRow frame mark e → (e.change ≡ flags) × (e.occurrence ≡ Some low)
notice_header laws r notice all flags low rows frame mark e inside heard =
    let here = mapped_to row_of notice frame inside in
    let header = header_said laws r here.0 mark e (each_contains AreFibBytes notice here.0 all here.1)
    (subst (λ (b : List ℕ). IsEnsembleHeardInRow b mark e) (sym here.2) heard) in
    let row : AllAnnounce flags low (items_in r here.0) = each_contains _ _ _ rows (mapped_from _ _ _ here.1) in
    let says = each_contains (λ j. is_ensemble j ≡ true → ((ensemble_of_item j).change ≡ flags)
    × ((ensemble_of_item j).occurrence ≡ Some low)) (items_in r here.0) header.item row header.inside
    header.ensemble in (
      ap (λ (x : EnsembleInformation). x.change) (sym header.says)
          ∙ says.0,
      ap (λ (x : EnsembleInformation). x.occurrence) (sym header.says) ∙ says.1,
    )

reported : (laws : FibLaws) (r : Reading) (notice : List (List (List ℕ))) (past : List Moment) (count : ℕ)
    → AllByRecursion AreFibBytes notice → IsNoticed past count
    → map (items_in r) notice ≡ notice_rows past → HasKinds (listener_after past).next
    → AnnouncesChange (listener_after past).current (listener_after past).next count (map row_of notice)
reported laws r notice past count all n are kinds =
    let p : Pictured = (listener_after past).next in
    let three = n.right.heard in
    let said : RowsAreSaid p (map (items_in r) notice) ((three.first ++ three.second) ++ three.third) =
    rw are (rw (← three.cut) n.said) in
    let ends = split_rows (items_in r) p notice (three.first ++ three.second) three.third said in
    let begins = split_rows (items_in r) p ends.left three.first three.second ends.first in
    let whole = ends.whole ∙ ap (λ xs. xs ++ ends.right) begins.whole in
    let bytes = subst (AllByRecursion AreFibBytes) whole all in
    let front = all_left AreFibBytes (begins.left ++ begins.right) ends.right bytes in
    record {
      first = map row_of begins.left;
      second = map row_of begins.right;
      third = map row_of ends.right;
      cut = three_parts notice begins.left begins.right ends.right whole;
      whole_in_first = part_sent r begins.left three.first p (all_left AreFibBytes begins.left begins.right front) kinds
          begins.first three.whole_in_first.1;
      whole_in_second = part_sent r _ _ p (all_right _ _ _ front) kinds begins.second three.whole_in_second.1;
      whole_in_third = part_sent r _ _ p (all_right _ _ _ bytes) kinds ends.second three.whole_in_third.1;
      headers = three_headers laws r notice all (rw are n.flagged);
      flagged = λ frame mark e inside heard.
          let says = notice_header laws r notice all (last_flags past) (count % 250) (rw are n.announced) frame mark e
          inside heard in
          (says.0 ∙ n.right.flags, says.1);
    }

pub changes_are_announced : FibLaws → IsTheMost → ChangesAreAnnounced
changes_are_announced laws most r size step period frames past i bytes faultless s sw whole =
    let clean = entry_clean size step period (read_frames r frames) past i faultless s in
    let formed = after_entry IsFormed formed_handed step (read_frames r frames) past i s (all_formed r step frames) in
    let n = swap_noticed most step period past i clean formed sw whole in
    let kinds = all_kinds step period past clean.2 formed.2 in
    let notice : List (List (List ℕ)) = last_of (length (rows past)) (take (frames_ended past) frames) in
    let all : AllByRecursion AreFibBytes notice =
    each_drop _ _ _ (each_take AreFibBytes (frames_ended past) frames bytes) in
    reported laws r notice past (ensemble_of_item i).count all n (notice_is r step frames past i s n.alone) kinds.next

-- ---- pictures that show configurations

-- the laws that are used
pub record Laws : Type 0 where
  pub fibs : FibLaws
  pub tells : SpellingIdentifies
  pub change : ChangeIsUnique
  pub most : IsTheMost

long_by : (n : ℕ) (long : Bool) → n ≡ 2 → ((n == 2) && long) ≡ long
long_by n long e = ap (λ t. t && long) (eq-eqb n 2 e)

sent_heard : (row : List ℕ) (m : Marked) → 1 ≤ ext_of m.entry → IsWithin m.entry → IsSent m.next row (raw_entry m.entry)
    → IsHeardInRow row m
sent_heard row m some within s =
    let from = mapped_to (raw_of (s.second % 32) (is_long s.second)) s.es (raw_entry m.entry) s.there in
    let ext : s.second % 32 ≡ ext_of m.entry = ap (λ (x : Raw). x.ext) from.2 in
    let said : IsSaid s.second from.0 m = record {
      ext = ext;
      next = s.tagged;
      long = λ two. sym (long_by (s.second % 32) (is_long s.second) (ext ∙ two)) ∙ ap (λ (x : Raw). x.long) from.2;
      spelled = ap (λ (x : Raw). x.bytes) from.2;
      within = within;
    } in (
      s.place,
      record {
        organization = some;
        inside = (s.figs, Open s.second s.es, s.is_fib, s.inside, (from.0, from.1, said));
      },
    )

-- frames that send each entry of a picture send the configuration that it shows
heard_whole : (p : Pictured) (c : Configuration) → IsConfiguration c → ShowsEach p c → (frames : List (List ℕ))
    → IsSentWhole p frames → IsHeardWhole c true frames
heard_whole p c is each frames sent m inside =
    let fact = mapped_to (marked true) (sub_entries c ++ service_entries c) m inside in
    let shown = entry_shown p c is each fact.0 fact.1 in
    let there = sent (raw_entry fact.0) shown.found in (
      there.0,
      there.1,
      subst (IsHeardInRow there.0) fact.2
          (sent_heard there.0 (marked true fact.0) shown.some shown.within there.2),
    )

pub swaps_are_announced : Laws → SwapsAreAnnounced
swaps_are_announced laws r size step period frames past i now next bytes faultless s sw whole is_now is_next shows_now
    shows_next =
    let clean = entry_clean size step period (read_frames r frames) past i faultless s in
    let formed = after_entry IsFormed formed_handed step (read_frames r frames) past i s (all_formed r step frames) in
    let kinds = all_kinds step period past clean.2 formed.2 in
    let each_next = shows_kinds (listener_after past).next next kinds.next is_next shows_next in
    let a = changes_are_announced laws.fibs laws.most r size step period frames past i bytes faultless s sw whole in
    let flags = flags_of_change laws.tells laws.change (listener_after past).current (listener_after past).next now next
    is_now is_next (shows_kinds (listener_after past).current now kinds.current is_now shows_now) each_next in
    record {
      first = a.first;
      second = a.second;
      third = a.third;
      cut = a.cut;
      whole_in_first = heard_whole (listener_after past).next next is_next each_next a.first a.whole_in_first;
      whole_in_second = heard_whole (listener_after past).next next is_next each_next a.second a.whole_in_second;
      whole_in_third = heard_whole (listener_after past).next next is_next each_next a.third a.whole_in_third;
      headers = a.headers;
      flagged = λ frame mark e inside heard. (let says = a.flagged frame mark e inside heard in
          (says.0 ∙ flags, says.1));
    }
