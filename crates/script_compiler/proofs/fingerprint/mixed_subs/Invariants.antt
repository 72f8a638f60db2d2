use Rattle.script_compiler.proofs.Words.{◌≡◌, drop, mix_all, sub_bits}
use Rattle.script_compiler.proofs.fingerprint.mixed_subs.Given as goal

abbrev pub invariant-loop-place : goal.invariant-loop-place
invariant-loop-place l = mix_all sub_bits l.print (drop l.place l.tables.subs) ≡ mix_all sub_bits l.before l.tables.subs
