-- Replacing a sub-channel of a configuration with a placed one results in a configuration.
use Rattle.mux_tables.proofs.Words.{Configuration, IsConfiguration, IsPlaced, Sub, ascends_changed, each_changed}
use Rattle.mux_tables.proofs.Words.{length-map, sub_key, subs_keep, with_entry_changed}

pub replaced_keeps : (y : Sub) (c : Configuration) → IsConfiguration c → IsPlaced y
    → IsConfiguration (record c { subs = with_entry_changed sub_key y c.subs })
replaced_keeps y c is placed =
    subs_keep c (with_entry_changed sub_key y c.subs) is
    (record {
      ascends = ascends_changed sub_key y c.subs is.subs_ascend;
      each = each_changed IsPlaced sub_key y (λ x e p. placed) c.subs is.subs_placed;
      few = let few = is.subs_few in simp length-map few;
    })
