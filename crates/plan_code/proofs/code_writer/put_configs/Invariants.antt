use Rattle.plan_code.proofs.Words.{◌++◌, ◌≡◌, config_bytes, flat_map, take}
use Rattle.plan_code.proofs.code_writer.put_configs.Given as goal

abbrev pub invariant-loop-config : goal.invariant-loop-config
invariant-loop-config l = l.out.items ≡ l.fn.out.items ++ flat_map config_bytes (take l.config-index l.configs)
