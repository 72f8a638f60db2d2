-- Overlays in the order of the text, and their tests, one by one.
use Rattle.schedule_verifier.proofs.Words.{◌%◌, ◌+◌, ◌<◌, ◌∙◌, ◌∷◌, ◌≡◌, ◌≤◌, [], ◌&&◌, ◌||◌, Answer, Bool}
use Rattle.schedule_verifier.proofs.Words.{Configuration}
use Rattle.schedule_verifier.proofs.Words.{Contacts, Decides, FRAMES_A_DAY, List, Overlay, Region, Throughout, after}
use Rattle.schedule_verifier.proofs.Words.{ap, both, changed, condition_holds, cond, drop, edits_of, either, get_or}
use Rattle.schedule_verifier.proofs.Words.{length, list_all, map, refl, sym, take, test_holds, with_overlays}
use Rattle.schedule_verifier.proofs.Words.{true, false, ℕ}
use Rattle.std.proofs.Common.{add-one, drop-cons}
use Rattle.std.proofs.lemmas.List.{drop_all, get_or-map, length-map, take_all}
use Rattle.std.proofs.lemmas.List.Folds.{list_all_more, list_any_more}
use Rattle.schedule_front.specs.declared.tree.Test.{Test}
use Rattle.schedule_front.specs.declared.tree.OverlayEdit.{OverlayEdit}
use Rattle.schedule_front.specs.declared.tree.Overlay.{Overlay as OverlayCode}
use Rattle.schedule_front.specs.Tree.{overlay_of}
use Rattle.std.specs.Prelude.{Vec}
use Rattle.std.specs.Global.{Global}
use Rattle.script_front.specs.Times.{frame_at}
use Rattle.schedule_front.specs.declared.tree.Test.TheVariants.{Time}
use Rattle.schedule_front.specs.Tree.{alternatives_of}
use Rattle.schedule_verifier.proofs.Words.{earlier, is_in_window}
use Rattle.schedule_verifier.proofs.Windows.{window_later}
use Rattle.schedule_verifier.proofs.Regions.{both_decides, either_decides, decides_same}

-- ---- the next element of a list

pub next_of : {X : Type 0} (xs : List X) (i : ℕ) (x d : X) → i < length xs → x ≡ get_or xs i d
    → drop i xs ≡ x ∷ drop (i + 1) xs
next_of xs i x d lt is = rw (add-one, is, drop-cons xs i d lt) refl

-- ---- tests

pub all_more : (a b : Answer) (r : Region) (notice : ℕ) (tests : List Test) (i : ℕ) (one d : Test) → i < length tests
    → one ≡ get_or tests i d
    → Decides a r (λ contacts day. list_all (test_holds contacts ((day + notice) % FRAMES_A_DAY)) (take i tests))
    → Decides b r (λ contacts day. test_holds contacts ((day + notice) % FRAMES_A_DAY) one)
    → Decides (both a b) r
    (λ contacts day. list_all (test_holds contacts ((day + notice) % FRAMES_A_DAY)) (take (i + 1) tests))
all_more a b r notice tests i one d lt is h k =
    decides_same (both a b) r _ _
    (λ contacts day low. list_all_more (test_holds contacts ((day + notice) % FRAMES_A_DAY)) tests i d lt
    ∙ ap (λ (t : Test). list_all (test_holds contacts ((day + notice) % FRAMES_A_DAY)) (take i tests)
    && test_holds contacts ((day + notice) % FRAMES_A_DAY) t) (sym is))
    (both_decides a b r _ _ h k)

-- the tests of an alternative
pub alternative_at : (condition : List (Vec Test Global)) (i : ℕ) (one d : Vec Test Global) → i < length condition
    → one ≡ get_or condition i d → get_or (alternatives_of condition) i [] ≡ one.items
alternative_at condition i one d lt is =
    get_or-map (λ (tests : Vec Test Global). tests.items) condition i d [] lt
    ∙ ap (λ (tests : Vec Test Global). tests.items) (sym is)

pub alternatives_length : (condition : List (Vec Test Global)) → length (alternatives_of condition) ≡ length condition
alternatives_length condition = length-map condition (λ (tests : Vec Test Global). tests.items)

pub time_decides : (a : Answer) (r : Region) (notice from to : ℕ) → frame_at from < FRAMES_A_DAY
    → frame_at to < FRAMES_A_DAY → notice < FRAMES_A_DAY
    → Decides a r
    (λ contacts day. is_in_window (earlier (frame_at from) notice) (earlier (frame_at to) notice) day)
    → Decides a r (λ contacts day. test_holds contacts ((day + notice) % FRAMES_A_DAY) (Time from to))
time_decides a r notice from to low_from low_to few h =
    decides_same a r _ _
    (λ contacts day low. window_later (frame_at from) (frame_at to) notice day low_from low_to few low) h

pub all_told : (a : Answer) (r : Region) (notice : ℕ) (tests : List Test) (i : ℕ) → length tests ≤ i
    → Decides a r (λ contacts day. list_all (test_holds contacts ((day + notice) % FRAMES_A_DAY)) (take i tests))
    → Decides a r (λ contacts day. list_all (test_holds contacts ((day + notice) % FRAMES_A_DAY)) tests)
all_told a r notice tests i past h =
    decides_same a r _ _ (λ contacts day low. ap (list_all (test_holds contacts ((day + notice) % FRAMES_A_DAY)))
    (sym (take_all i tests past))) h

pub any_more : (a b : Answer) (r : Region) (notice : ℕ) (condition : List (List Test)) (i : ℕ) (one : List Test)
    → i < length condition → get_or condition i [] ≡ one
    → Decides a r (λ contacts day. condition_holds contacts ((day + notice) % FRAMES_A_DAY) (take i condition))
    → Decides b r (λ contacts day. list_all (test_holds contacts ((day + notice) % FRAMES_A_DAY)) one)
    → Decides (either a b) r
    (λ contacts day. condition_holds contacts ((day + notice) % FRAMES_A_DAY) (take (i + 1) condition))
any_more a b r notice condition i one lt is h k =
    decides_same (either a b) r _ _
    (λ contacts day low. list_any_more (list_all (test_holds contacts ((day + notice) % FRAMES_A_DAY))) condition i []
    lt
    ∙ ap (λ (ts : List Test). condition_holds contacts ((day + notice) % FRAMES_A_DAY) (take i condition)
    || list_all (test_holds contacts ((day + notice) % FRAMES_A_DAY)) ts) is)
    (either_decides a b r _ _ h k)

pub any_told : (a : Answer) (r : Region) (notice : ℕ) (condition : List (List Test)) (i : ℕ) → length condition ≤ i
    → Decides a r (λ contacts day. condition_holds contacts ((day + notice) % FRAMES_A_DAY) (take i condition))
    → Decides a r (λ contacts day. condition_holds contacts ((day + notice) % FRAMES_A_DAY) condition)
any_told a r notice condition i past h =
    decides_same a r _ _ (λ contacts day low. ap (condition_holds contacts ((day + notice) % FRAMES_A_DAY))
    (sym (take_all i condition past))) h

-- ---- edits

pub edits_more : (edits : List OverlayEdit) (i : ℕ) (e x : OverlayEdit) (c d : Configuration) → i < length edits
    → e ≡ get_or edits i x → d ≡ changed e.edit c
    → after (map (λ x. x.edit) (drop i edits)) c ≡ after (map (λ x. x.edit) (drop (i + 1) edits)) d
edits_more edits i e x c d lt is new =
    ap (λ (es : List OverlayEdit). after (map (λ x. x.edit) es) c) (next_of edits i e x lt is)
    ∙ ap (after (map (λ x. x.edit) (drop (i + 1) edits))) (sym new)

pub edits_done : (edits : List OverlayEdit) (i : ℕ) (c : Configuration) → length edits ≤ i
    → after (map (λ x. x.edit) (drop i edits)) c ≡ c
edits_done edits i c past = ap (λ (es : List OverlayEdit). after (map (λ x. x.edit) es) c) (drop_all i edits past)

-- ---- overlays

abbrev pub with_overlay : Contacts → (day : ℕ) → Overlay → Configuration → Configuration
with_overlay contacts day o c = cond (condition_holds contacts day o.condition) (after (edits_of o) c) c

pub overlays_more : (r : Region) (notice : ℕ) (overlays : List OverlayCode) (i : ℕ) (o e : OverlayCode)
    (first c d : Configuration) → i < length overlays → o ≡ get_or overlays i e
    → Throughout r
    (λ contacts day. with_overlays contacts ((day + notice) % FRAMES_A_DAY) (map overlay_of overlays) first
    ≡ with_overlays contacts ((day + notice) % FRAMES_A_DAY) (map overlay_of (drop i overlays)) c)
    → Throughout r (λ contacts day. d ≡ with_overlay contacts ((day + notice) % FRAMES_A_DAY) (overlay_of o) c)
    → Throughout r
    (λ contacts day. with_overlays contacts ((day + notice) % FRAMES_A_DAY) (map overlay_of overlays) first
    ≡ with_overlays contacts ((day + notice) % FRAMES_A_DAY) (map overlay_of (drop (i + 1) overlays)) d)
overlays_more r notice overlays i o e first c d lt is so_far one contacts day h =
    so_far contacts day h
    ∙ ap (λ (os : List OverlayCode). with_overlays contacts ((day + notice) % FRAMES_A_DAY) (map overlay_of os) c)
    (next_of overlays i o e lt is)
    ∙ ap (with_overlays contacts ((day + notice) % FRAMES_A_DAY) (map overlay_of (drop (i + 1) overlays)))
    (sym (one contacts day h))

pub overlays_done : (r : Region) (notice : ℕ) (overlays : List OverlayCode) (i : ℕ) (first c : Configuration)
    → length overlays ≤ i
    → Throughout r
    (λ contacts day. with_overlays contacts ((day + notice) % FRAMES_A_DAY) (map overlay_of overlays) first
    ≡ with_overlays contacts ((day + notice) % FRAMES_A_DAY) (map overlay_of (drop i overlays)) c)
    → Throughout r (λ contacts day. c
    ≡ with_overlays contacts ((day + notice) % FRAMES_A_DAY) (map overlay_of overlays) first)
overlays_done r notice overlays i first c past so_far contacts day h =
    sym (so_far contacts day h
    ∙ ap (λ (os : List OverlayCode). with_overlays contacts ((day + notice) % FRAMES_A_DAY) (map overlay_of os) c)
    (drop_all i overlays past))

-- where the condition of an overlay is decided, its edits are applied or not
pub overlay_applied : (r : Region) (notice : ℕ) (o : Overlay) (c d : Configuration)
    → Throughout r (λ contacts day. condition_holds contacts ((day + notice) % FRAMES_A_DAY) o.condition ≡ true)
    → d ≡ after (edits_of o) c
    → Throughout r (λ contacts day. d ≡ with_overlay contacts ((day + notice) % FRAMES_A_DAY) o c)
overlay_applied r notice o c d holds new contacts day h =
    new ∙ ap (λ (b : Bool). cond b (after (edits_of o) c) c) (sym (holds contacts day h))

pub overlay_left : (r : Region) (notice : ℕ) (o : Overlay) (c : Configuration)
    → Throughout r (λ contacts day. condition_holds contacts ((day + notice) % FRAMES_A_DAY) o.condition ≡ false)
    → Throughout r (λ contacts day. c ≡ with_overlay contacts ((day + notice) % FRAMES_A_DAY) o c)
overlay_left r notice o c fails contacts day h =
    ap (λ (b : Bool). cond b (after (edits_of o) c) c) (sym (fails contacts day h))
