use Rattle.mux_config.proofs.Words.{◌∙◌, ◌≡◌, Some, any_end, arith, carrier_of, length, names, refl, slice_get, sym}
use Rattle.std.proofs.lemmas.Option.{slice_get_read}
use Rattle.mux_config.proofs.Keeping.{closed_up, carrier_same, stay_told}
use Rattle.mux_config.proofs.edits.place_of.Goals as goal

pub returns-then-names-clause-found : goal.returns-then-names-clause-found
returns-then-names-clause-found c =
    let ms = c.args.components.now in
    let m = c.index-components-place.result in
    let at : slice_get ms c.loop-place.place ≡ Some m =
    slice_get_read ms (length ms) c.loop-place.place m refl (omega arith) c.index-components-place.is in
    let is : carrier_of m ≡ c.args.carrier.now =
    carrier_same (carrier_of m) c.args.carrier.now (sym c.names.ensures ∙ c.if-names.true) in
    closed_up c.args.carrier.now ms c.loop-place.place m c.requires at is

pub returns-clause-none : goal.returns-clause-none
returns-clause-none c =
    let ms = c.args.components.now in
    stay_told c.args.carrier.now ms (sym c.loop-place.invariant
    ∙ any_end (names c.args.carrier.now) ms c.loop-place.place c.loop-place-test.false)
