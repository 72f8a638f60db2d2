-- Files in memory: versions of them, the newest first.
use Rattle.std.specs.Prelude.{ℕ, List, [], ◌∷◌, Option, Some, None, if◌then◌else◌, string_bytes}
use Rattle.std.specs.Str.{bytes_eq}
use Rattle.console.specs.World.{World}
use Rattle.console.specs.declared.memory.Version.{Version}
use Rattle.console.specs.declared.memory.MemoryFiles.{MemoryFiles}

-- the bytes of the newest version of the file with this path
abbrev pub bytes_in : List ℕ → List Version → Option (List ℕ)
bytes_in path [] = None
bytes_in path (version ∷ versions) =
    if bytes_eq (string_bytes version.path) path then Some version.bytes.items else bytes_in path versions

abbrev pub world_of : MemoryFiles → World
world_of m = record { files = λ path. bytes_in path m.versions.items }
