use Rattle.script_config.proofs.Words.{◌∙◌, ◌≡◌, AllByRecursion, Edit, List, Transform, acts_from, added_by, ap, arith}
use Rattle.script_config.proofs.Words.{edits_that_make, items_from, length, map, nothing, refl, subst, sym, ℕ}
use Rattle.script_front.specs.Block.{nothing as no_block}
use Rattle.script_config.proofs.PlainScripts.{IsAdding, made_adding, is_script, added_again}
use Rattle.script_config.proofs.plain.script_of.Goals as goal

pub new-requires : goal.new-requires
new-requires c =
    let adding : AllByRecursion IsAdding c.in_ok-edits.edits.items =
    subst (AllByRecursion IsAdding) (sym c.in_ok-edits.ensures.value)
    (made_adding c.args.config.now c.in_ok-edits.ensures.configuration) in
    let items : c.in_ok-items.items.items ≡ items_from 3 c.in_ok-edits.edits.items =
    rw c.as_slice.ensures.value at c.in_ok-items.ensures in
    is_script c.args.header c.in_ok-edits.edits.items c.args.acts.now _ c.requires.headed adding c.requires.acts
    c.in_ok-edits.ensures.few c.requires.few
    refl items c.new-names.ensures (ap (map (λ b. b.items)) c.new-blocks.ensures.items) _
    (c.in_ok-statements.ensures no_block)

pub returns-clause-makes : goal.returns-clause-makes
returns-clause-makes c =
    let items : c.in_ok-items.items.items ≡ items_from 3 c.in_ok-edits.edits.items =
    rw c.as_slice.ensures.value at c.in_ok-items.ensures in
    let same : added_by c.in_ok-items.items.items ≡ c.in_ok-edits.edits.items =
    ap added_by items ∙ added_again 3 c.in_ok-edits.edits.items in
    rw c.new.ensures (subst (λ (es : List Edit). Transform es nothing c.args.config.now) (sym same)
    c.in_ok-edits.ensures.leads)

pub returns-clause-plain : goal.returns-clause-plain
returns-clause-plain c =
    let value = c.in_ok-edits.ensures.value in
    let items : c.in_ok-items.items.items ≡ items_from 3 c.in_ok-edits.edits.items =
    rw c.as_slice.ensures.value at c.in_ok-items.ensures in
    let count : length c.in_ok-edits.edits.items ≡ length (edits_that_make c.args.config.now) = ap length value in
    let long = c.len.ensures in
    rw c.new.ensures (record {
      heads = refl;
      items = items ∙ ap (items_from 3) value;
      names = c.new-names.ensures;
      blocks = ap (map (λ b. b.items)) c.new-blocks.ensures.items;
      begins = omega (arith, count, long);
      statements = c.in_ok-statements.ensures no_block
          ∙ ap (λ (n : ℕ). acts_from n c.args.acts.now no_block) (omega (arith, count, long));
      ends = omega (arith, count, long);
    })
