-- None of the versions before this index is of the file with the path.
use Rattle.std.proofs.Common.{◌≡◌, drop}
use Rattle.console.specs.Versions.{bytes_in}
use Rattle.console.proofs.memory.newest.Given as goal

abbrev pub invariant-loop-version : goal.invariant-loop-version
invariant-loop-version l = bytes_in l.path (drop l.version-index l.versions) ≡ bytes_in l.path l.versions
