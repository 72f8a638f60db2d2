use Rattle.mux_config.proofs.Words.{◌-◌, ◌≡◌, drop, false, has_address_twice, length}
use Rattle.mux_config.proofs.Overlaps.{Marks}
use Rattle.mux_config.proofs.soundness_test.has_address_twice.Given as goal

abbrev pub invariant-loop-gone : goal.invariant-loop-gone
invariant-loop-gone g l =
    let k = g.S.Store.content l.store in
    record {
      count : l.count ≡ length k.packets;
      each : length l.named ≡ 64;
      marks : Marks l.named (drop (l.count - l.gone) k.packets);
      none : has_address_twice (drop (l.count - l.gone) k.packets) ≡ false;
    }
