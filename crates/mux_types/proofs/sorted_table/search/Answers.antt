use Rattle.std.proofs.Common.{◌≡◌, ◌+◌, ◌-◌, ◌/◌, ◌<◌, get_or, sym, ap, ◌∙◌, arith}
use Rattle.std.proofs.lemmas.List.{get_or_default}
use Rattle.mux_types.proofs.Tables.{IsAbsentAt, place_of, place_bound, place_above, place_below, found_here}
use Rattle.mux_types.proofs.Tables.{apart_at_end, absent_between}
use Rattle.mux_types.proofs.sorted_table.search.Given as given
use Rattle.mux_types.proofs.sorted_table.search.Goals as goal

pub loop-low-init : goal.loop-low-init
loop-low-init g c =
    let bound = place_bound g.T.Keyed.key c.args.key c.args.entries.now in
    record {
      ordered = omega arith;
      within = omega arith;
      from = omega arith;
      to = bound;
      apart = λ d past. apart_at_end g.T.Keyed.key c.args.key c.args.entries.now d past;
    }

pub returns-then-found-key-clause-found : goal.returns-then-found-key-clause-found
returns-then-found-key-clause-found g c =
    (found_here g.T.Keyed.key c.args.key c.args.entries.now _ c.index-entries-middle.result c.requires (omega arith)
    (ap g.T.Keyed.key (sym c.index-entries-middle.is) ∙ sym c.key-found.ensures ∙ c.if-found-key.true)).found

pub returns-then-found-key-clause-removed : goal.returns-then-found-key-clause-removed
returns-then-found-key-clause-removed g c =
    (found_here g.T.Keyed.key c.args.key c.args.entries.now _ c.index-entries-middle.result c.requires (omega arith)
    (ap g.T.Keyed.key (sym c.index-entries-middle.is) ∙ sym c.key-found.ensures ∙ c.if-found-key.true)).removed

pub returns-then-found-key-clause-changed : goal.returns-then-found-key-clause-changed
returns-then-found-key-clause-changed g c =
    (found_here g.T.Keyed.key c.args.key c.args.entries.now _ c.index-entries-middle.result c.requires (omega arith)
    (ap g.T.Keyed.key (sym c.index-entries-middle.is) ∙ sym c.key-found.ensures ∙ c.if-found-key.true)).changed

pub loop-low-preserved-then-found-key-2 : goal.loop-low-preserved-then-found-key-2
loop-low-preserved-then-found-key-2 g c =
    let middle = c.loop-low.low + (c.loop-low.high - c.loop-low.low) / 2 in
    let there : c.key-found.result ≡ g.T.Keyed.key (get_or c.args.entries.now middle c.index-entries-middle.result) =
    c.key-found.ensures ∙ ap g.T.Keyed.key c.index-entries-middle.is in
    let below : c.key-found.result < c.args.key = c.if-found-key-2.true in
    let past : middle < place_of g.T.Keyed.key c.args.key c.args.entries.now =
    place_above g.T.Keyed.key c.args.key c.args.entries.now middle c.index-entries-middle.result c.requires
    (omega arith) (omega (arith, there, below)) in
    record {
      ordered = omega arith;
      within = c.loop-low.invariant.within;
      from = omega (arith, past);
      to = c.loop-low.invariant.to;
      apart = c.loop-low.invariant.apart;
    }

pub loop-low-preserved : goal.loop-low-preserved
loop-low-preserved g c =
    let middle = c.loop-low.low + (c.loop-low.high - c.loop-low.low) / 2 in
    let there : c.key-found.result ≡ g.T.Keyed.key (get_or c.args.entries.now middle c.index-entries-middle.result) =
    c.key-found.ensures ∙ ap g.T.Keyed.key c.index-entries-middle.is in
    let above : c.args.key < c.key-found.result = omega (arith, c.if-found-key.false, c.if-found-key-2.false) in
    record {
      ordered = omega arith;
      within = omega arith;
      from = c.loop-low.invariant.from;
      to = place_below g.T.Keyed.key c.args.key c.args.entries.now middle c.index-entries-middle.result (omega arith)
          (omega (arith, there, above));
      apart = λ d lt. let same =
          ap g.T.Keyed.key (get_or_default c.args.entries.now middle c.index-entries-middle.result d lt) in
          omega (arith, there, above, same);
    }

absent : (g : given.Over) (c : goal.After-loop-low g) → IsAbsentAt g.T.Keyed.key c.args.key c.args.entries.now
    c.loop-low.low
absent g c =
    let all = c.loop-low.invariant in
    absent_between g.T.Keyed.key c.args.key c.args.entries.now c.loop-low.low c.loop-low.high c.requires
    (omega (arith, c.loop-low-test.false)) all.from all.to all.apart

pub returns-clause-absent : goal.returns-clause-absent
returns-clause-absent g c = (absent g c).absent

pub returns-clause-inserted : goal.returns-clause-inserted
returns-clause-inserted g c = (absent g c).inserted
