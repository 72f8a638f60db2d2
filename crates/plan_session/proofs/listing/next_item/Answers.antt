use Rattle.plan_session.proofs.Words.{◌∙◌, ◌∷◌, ◌≡◌, Err, FindsNext, List, Ok, Option, ReadsItem, Some, Token}
use Rattle.plan_session.proofs.Words.{added, ap, arith, length, refl, slice_range, subst, sym, ℕ}
use Rattle.plan_session.proofs.OneByOne.{Window, item_found, no_item_found, fault_found}
use Rattle.plan_session.proofs.listing.next_item.Goals as goal

pub returns-in-Ok-item_of : goal.returns-in-Ok-item_of
returns-in-Ok-item_of g c =
    let spelled = g.T.Item.spelled in
    let is = g.T.Item.is_item in
    let text : List ℕ = c.args.scanner.now.text in
    let first : Token = c.in-Ok-Some.first in
    let word : List ℕ = slice_range text first.start first.end in
    let f : FindsNext c.args.scanner.now c.next.new.self (Ok (Some first)) =
    subst (λ (o : Option Token). FindsNext c.args.scanner.now c.next.new.self (Ok o)) c.in-Ok-Some.field-0-is
    c.in-Ok-Some.ensures.found in
    let t = c.in-Ok.ensures in
    let more : List Token = t.0 in
    let count : ℕ = c.further-count.result in
    let window : Window spelled is c.args.scanner.now c.take_tokens.new.scanner first more count word = record {
      text = t.2.text ∙ c.in-Ok-Some.ensures.same.text;
      left = f.0 ∙ ap (added first) t.2.left;
      most = t.2.most;
      all = t.2.all;
      word_is = refl;
      counts = λ item rest e. c.further-count.ensures.count item rest
          (e ∙ ap (λ (x : List ℕ). slice_range x first.start first.end ∷ rest) (sym c.text-text.ensures));
    } in
    let items : c.as_slice.result.now ≡ first ∷ more =
    rw (c.as_slice.ensures.value, t.1, c.push.ensures.items, c.new-tokens.ensures) in
    let here = subst (λ (x : List ℕ). ReadsItem spelled is x c.as_slice.result.now (Ok c.in-Ok-item_of.item))
    c.text-text.ensures c.in-Ok-item_of.ensures in
    let read = subst (λ (l : List Token). ReadsItem spelled is text l (Ok c.in-Ok-item_of.item)) items here in
    let found = item_found spelled is c.args.scanner.now c.take_tokens.new.scanner first more count word
    c.in-Ok-item_of.item c.uniqueness.ensures.some window read in
    let size = ap (λ (x : List ℕ). length x) c.text-text.ensures in
    (found.0, found.1, omega (arith, f.3, t.2.bytes), omega (arith, size, c.text-text.type_inv), found.2)

pub returns-in-Err-item_of : goal.returns-in-Err-item_of
returns-in-Err-item_of g c =
    let spelled = g.T.Item.spelled in
    let is = g.T.Item.is_item in
    let text : List ℕ = c.args.scanner.now.text in
    let first : Token = c.in-Ok-Some.first in
    let word : List ℕ = slice_range text first.start first.end in
    let f : FindsNext c.args.scanner.now c.next.new.self (Ok (Some first)) =
    subst (λ (o : Option Token). FindsNext c.args.scanner.now c.next.new.self (Ok o)) c.in-Ok-Some.field-0-is
    c.in-Ok-Some.ensures.found in
    let t = c.in-Ok.ensures in
    let more : List Token = t.0 in
    let count : ℕ = c.further-count.result in
    let window : Window spelled is c.args.scanner.now c.take_tokens.new.scanner first more count word = record {
      text = t.2.text ∙ c.in-Ok-Some.ensures.same.text;
      left = f.0 ∙ ap (added first) t.2.left;
      most = t.2.most;
      all = t.2.all;
      word_is = refl;
      counts = λ item rest e. c.further-count.ensures.count item rest
          (e ∙ ap (λ (x : List ℕ). slice_range x first.start first.end ∷ rest) (sym c.text-text.ensures));
    } in
    let items : c.as_slice.result.now ≡ first ∷ more =
    rw (c.as_slice.ensures.value, t.1, c.push.ensures.items, c.new-tokens.ensures) in
    let here = subst (λ (x : List ℕ). ReadsItem spelled is x c.as_slice.result.now (Err c.in-Err-item_of.fault))
    c.text-text.ensures c.in-Err-item_of.ensures in
    let read : ReadsItem spelled is text (first ∷ more) (Err c.in-Err-item_of.fault) =
    subst (λ (l : List Token). ReadsItem spelled is text l (Err c.in-Err-item_of.fault)) items here in (
      read.0,
      no_item_found spelled is c.args.scanner.now c.take_tokens.new.scanner first more count word c.in-Err-item_of.fault
          c.uniqueness.ensures.some window read,
      fault_found spelled is c.args.scanner.now c.take_tokens.new.scanner first more count word c.in-Err-item_of.fault
          c.uniqueness.ensures.unique c.uniqueness.ensures.some window read,
    )
