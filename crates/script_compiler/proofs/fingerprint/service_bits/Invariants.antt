use Rattle.script_compiler.proofs.Words.{◌≡◌, component_number, drop, mix_all, service_bits}
use Rattle.script_compiler.proofs.fingerprint.service_bits.Given as goal

abbrev pub invariant-loop-component : goal.invariant-loop-component
invariant-loop-component l = mix_all component_number l.print (drop l.component-index l.service.components)
    ≡ service_bits l.service
