use Rattle.script_compiler.proofs.Words.{◌≡◌, drop, mix_all, service_bits}
use Rattle.script_compiler.proofs.fingerprint.mixed_services.Given as goal

abbrev pub invariant-loop-place : goal.invariant-loop-place
invariant-loop-place l = mix_all service_bits l.print (drop l.place l.tables.services)
    ≡ mix_all service_bits l.before l.tables.services
