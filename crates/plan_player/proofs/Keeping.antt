-- Keeping the pages of a phase.
use Rattle.plan_player.proofs.Words.{[], ◌+◌, ◌<◌, ◌∙◌, ◌∷◌, ◌≡◌, ◌≤◌, Bool, Cursor, FrameLayout, HasPage, IsAtPage}
use Rattle.plan_player.proofs.Words.{IsKept, Keeps, KeptPage, List, Marked, Option, PhasePages, Some, after_up}
use Rattle.plan_player.proofs.Words.{arith, cond, cursor_page, eqb, eqb-false, eqb-true, false, length, length-set, ltb}
use Rattle.plan_player.proofs.Words.{ltb-false, ltb-true, page_after, refl, rounds, slice_get, slice_set, subst, suc}
use Rattle.plan_player.proofs.Words.{sym, true, zero, ℕ}

get_set_same : {X : Type 0} (xs : List X) (i : ℕ) (x : X) → i < length xs → slice_get (slice_set xs i x) i ≡ Some x
get_set_same [] i x lt = absurd (omega (arith, lt))
get_set_same (y ∷ ys) zero x lt = refl
get_set_same (y ∷ ys) (suc i) x lt = get_set_same ys i x (omega (arith, lt))

get_set_other : {X : Type 0} (xs : List X) (i j : ℕ) (x : X) → j < i → slice_get (slice_set xs i x) j ≡ slice_get xs j
get_set_other (y ∷ ys) zero j x lt = absurd (omega (arith, lt))
get_set_other (y ∷ ys) (suc i) (suc j) x lt = get_set_other ys i j x (omega (arith, lt))
get_set_other _ _ _ x lt = refl

-- one page more is made
each_more : (layout : FrameLayout) (ms : List Marked) (made : ℕ) (pages : List (Option KeptPage)) (page : KeptPage)
    → made < length pages → IsKept layout ms made page
    → ((n : ℕ) → n < made → HasPage layout ms n pages) → (n : ℕ) → n < made + 1 → (b : Bool) → eqb n made ≡ b
    → HasPage layout ms n (slice_set pages made (Some page))
each_more layout ms made pages page room kept each n below true e =
    rw ((eqb-true n made e)) (record { page = page; held = get_set_same pages made (Some page) room; kept = kept })
each_more layout ms made pages page room kept each n below false e =
    let earlier : n < made = omega (arith, below, eqb-false n made e) in
    let old = each n earlier in
    record { page = old.page; held = get_set_other pages made n (Some page) earlier ∙ old.held; kept = old.kept }

-- the index after a valid page index: 0 after the last, and otherwise valid too
last_of : (b : Bool) (count k : ℕ) → ltb (k + 1) count ≡ b → k < count → cond b (k + 1) 0 ≡ 0 → k + 1 ≡ count
last_of true count k e lt none = absurd (omega (arith, none))
last_of false count k e lt none = omega (arith, lt, ltb-false (k + 1) count e)

more_of : (b : Bool) (count k : ℕ) → ltb (k + 1) count ≡ b → (cond b (k + 1) 0 ≡ 0 → ⊥) → k + 1 < count
more_of true count k e other = ltb-true (k + 1) count e
more_of false count k e other = absurd (other refl)

pub one_more : (layout : FrameLayout) (ms : List Marked) (p : PhasePages) (place : ℕ) (page : KeptPage) (number : ℕ)
    (cursor : Cursor) → Keeps layout ms p.made p → place ≡ p.made → p.made < 60 → p.made < rounds layout ms
    → IsKept layout ms p.made page → IsAtPage layout ms (page_after (rounds layout ms) p.made) cursor
    → number ≡ cursor_page cursor
    → Keeps layout ms p.made (record {
      pages = slice_set p.pages place (Some page);
      made = p.made + 1;
      is_whole = eqb number 0;
      cursor = cursor;
      change = p.change;
      sent = p.sent;
      headed = p.headed;
    })
one_more layout ms p place page number cursor k at room within kept stands is =
    let cycle : number ≡ page_after (rounds layout ms) p.made = is ∙ stands.1 in
    record {
      whole = length-set p.pages place (Some page) ∙ k.whole;
      room = omega (arith, room);
      index_within = omega arith;
      each = λ n below. subst (λ (i : ℕ). HasPage layout ms n (slice_set p.pages i (Some page))) (sym at)
          (each_more layout ms p.made p.pages page (omega (arith, room, k.whole)) kept k.each n below (eqb n p.made)
          refl);
      all = λ e. last_of (ltb (p.made + 1) (rounds layout ms)) (rounds layout ms) p.made refl within
          (sym cycle ∙ eqb-true number 0 e);
      more = λ e. more_of (ltb (p.made + 1) (rounds layout ms)) (rounds layout ms) p.made refl
          (λ none. eqb-false number 0 e (cycle ∙ none));
      cursor = λ more. subst (λ (t : ℕ). IsAtPage layout ms t cursor) (after_up (rounds layout ms) p.made more) stands;
    }

-- the next index, with the page count or, before all pages have been made, with one more than were made
page_next : (layout : FrameLayout) (ms : List Marked) (page_index count : ℕ) (p : PhasePages)
    → Keeps layout ms page_index p → page_index < p.made → (b : Bool) → p.is_whole ≡ b
    → (p.is_whole ≡ true → count ≡ p.made) → (p.is_whole ≡ false → count ≡ p.made + 1)
    → page_after count page_index ≡ page_after (rounds layout ms) page_index
page_next layout ms page_index count p k lt true e whole more = rw (whole e ∙ k.all e) refl
page_next layout ms page_index count p k lt false e whole more =
    after_up count _ (omega (arith, lt, more e)) ∙ sym (after_up _ _ (omega (arith, lt, k.more e)))

pub next_page : (layout : FrameLayout) (ms : List Marked) (page_index count : ℕ) (p : PhasePages)
    → Keeps layout ms page_index p → page_index < p.made
    → (p.is_whole ≡ true → count ≡ p.made) → (p.is_whole ≡ false → count ≡ p.made + 1)
    → page_after count page_index ≡ page_after (rounds layout ms) page_index
next_page layout ms page_index count p k lt whole more = page_next _ _ _ _ _ k lt _ refl whole more

-- the page in turn next is one of those made, or page 0
next_within : (b : Bool) (page_index made : ℕ) → page_index < made → cond b (page_index + 1) 0 ≤ made
next_within true page_index made lt = omega (arith, lt)
next_within false page_index made lt = omega arith

pub turned : (layout : FrameLayout) (ms : List Marked) (page_index count : ℕ) (p : PhasePages)
    → Keeps layout ms page_index p → page_index < p.made → Keeps layout ms (page_after count page_index) p
turned layout ms page_index count p k lt = record {
  whole = k.whole;
  room = k.room;
  index_within = next_within (ltb (page_index + 1) count) page_index p.made lt;
  each = k.each;
  all = k.all;
  more = k.more;
  cursor = k.cursor;
}

-- the page stored at an index is that page
pub held_is : (layout : FrameLayout) (ms : List Marked) (n : ℕ) (pages : List (Option KeptPage)) (page : KeptPage)
    → HasPage layout ms n pages → slice_get pages n ≡ Some (Some page) → IsKept layout ms n page
held_is layout ms n pages page h e =
    let same : h.page ≡ page = cc (sym h.held ∙ e) in
    rw (← same) h.kept
