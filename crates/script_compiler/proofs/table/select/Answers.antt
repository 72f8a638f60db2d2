use Rattle.script_compiler.proofs.Words.{[], ◌++◌, ◌<◌, ◌∙◌, ◌∷◌, ◌≡◌, Configuration, List, Some, ap, configuration_at}
use Rattle.script_compiler.proofs.Words.{get_or, length, map_more, rules, slice_get-get_or, sym}
use Rattle.script_compiler.proofs.Labelling.{at_some, below_at}
use Rattle.script_compiler.proofs.table.select.Goals as goal

pub offset_bounds-configs-number : goal.offset_bounds-configs-number
offset_bounds-configs-number c =
    let ks = c.args.numbers.now in
    let i = c.loop-number.number-index in
    let lt : get_or ks i 0 < length c.args.configs.now =
    below_at (length c.args.configs.now) ks i (get_or ks i 0) c.requires
    (slice_get-get_or ks i 0 c.loop-number-test.true) in
    search (rules, lt)

pub bounds-configs-number : goal.bounds-configs-number
bounds-configs-number c =
    let ks = c.args.numbers.now in
    let i = c.loop-number.number-index in
    below_at (length c.args.configs.now) ks i (get_or ks i 0) c.requires
    (slice_get-get_or ks i 0 c.loop-number-test.true)

pub loop-number-preserved : goal.loop-number-preserved
loop-number-preserved c =
    let xs = c.args.configs.now in
    let ks = c.args.numbers.now in
    let i = c.loop-number.number-index in
    let n = get_or ks i 0 in
    let x = c.index-configs-number.result in
    let lt : n < length xs = below_at (length xs) ks i n c.requires (slice_get-get_or ks i 0 c.loop-number-test.true) in
    let e : c.push.new.self.items ≡ c.loop-number.select.items ++ c.copied.result ∷ [] =
    search (rules, c.push.ensures.items, c.if-is_err.false, c.is_err.ensures.value) in
    let at = at_some xs n x (slice_get-get_or xs n x lt ∙ ap Some (sym c.index-configs-number.is)) in
    e ∙ ap (λ (y : Configuration). c.loop-number.select.items ++ y ∷ []) (c.copied.ensures ∙ sym at)
    ∙ ap (λ (l : List Configuration). l ++ configuration_at xs n ∷ []) c.loop-number.invariant
    ∙ sym (map_more (configuration_at xs) ks i 0 c.loop-number-test.true)
