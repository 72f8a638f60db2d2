use Rattle.script_compiler.proofs.Words.{◌∙◌, ap, block_of, falls_out, has_no_instr, tables, take}
use Rattle.script_compiler.proofs.Trees.{facts_more}
use Rattle.script_compiler.proofs.compiler.facts_of.Goals as goal

pub loop-block-preserved : goal.loop-block-preserved
loop-block-preserved c =
    let k = c.loop-block.block-index in
    let before = take k c.args.blocks.now in
    let f = c.all_fall-reaches_end.ensures (tables before) (c.deref.ensures.value ∙ c.loop-block.invariant) in
    let e = f ∙ ap (λ xs. falls_out (block_of (tables before) xs)) c.deref-in-loop-block.ensures.value in
    let g = c.all_silent-emits_nothing.ensures (tables before)
    (c.deref-in-loop-block-2.ensures.value ∙ c.loop-block.invariant) in
    let h = g ∙ ap (λ xs. has_no_instr (block_of (tables before) xs)) c.deref-in-loop-block-3.ensures.value in
    c.in_ok-push.ensures.items ∙ facts_more c.args.blocks.now k c.block-item.result c.loop-block.facts.items
    c.all_fall-reaches_end.result c.all_silent-emits_nothing.result c.block-item.is c.loop-block-test.true
    c.loop-block.invariant e h
