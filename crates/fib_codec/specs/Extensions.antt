-- The numbers of the extensions of FIG type 0 that are parsed (EN 300 401 clauses 5.2.2.1, 6.2.1, 6.3.1, 6.3.2 and
-- 6.4).
use Rattle.std.specs.Prelude.{ℕ}
use Rattle.fib_codec.specs.declared.extension.Extension.{Extension}
use Rattle.fib_codec.specs.declared.extension.Extension.TheVariants.{Ensemble, SubChannels, Services, Packets}

abbrev pub number_of : Extension → ℕ
number_of Ensemble = 0
number_of SubChannels = 1
number_of Services = 2
number_of Packets = 3
