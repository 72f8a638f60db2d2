use Rattle.script_front.proofs.Words.{◌++◌, ◌∙◌, List, Statement, ap, arith, definition_lines}
use Rattle.script_front.proofs.Words.{length, string_bytes, text_of_lines}
use Rattle.script_front.proofs.Listing.{next_fits}
use Rattle.script_front.proofs.Printed.{definition_more, definitions_all}
use Rattle.script_front.proofs.printer.put_definitions.Goals as goal

pub put_definition-requires-clause-fits : goal.put_definition-requires-clause-fits
put_definition-requires-clause-fits c =
    let h = next_fits c.loop-index.index c.loop-index.index (length c.args.names.now) c.args.blocks.now
    c.index-blocks-index.result c.loop-index-test.true c.index-blocks-index.is
    (omega (arith, c.loop-index-test.true)) c.loop-index.invariant.fits in
    rw (c.as_slice.ensures.value) h.fits

pub loop-index-preserved : goal.loop-index-preserved
loop-index-preserved c =
    let inv = c.loop-index.invariant in
    let h = next_fits c.loop-index.index c.loop-index.index (length c.args.names.now) c.args.blocks.now
    c.index-blocks-index.result c.loop-index-test.true c.index-blocks-index.is
    (omega (arith, c.loop-index-test.true)) inv.fits in
    let put = c.in_ok-put_definition.ensures
    ∙ ap (λ (ss : List Statement). string_bytes c.loop-index.out
    ++ text_of_lines (definition_lines c.args.names.now c.loop-index.index ss)) c.as_slice.ensures.value in
    record {
      so_far = definition_more _ _ _ _ _ _ _ c.loop-index-test.true c.index-blocks-index.is put inv.so_far;
      fits = h.later;
    }

pub returns : goal.returns
returns c = definitions_all _ _ _ _ _ c.loop-index-test.false c.loop-index.invariant.so_far
