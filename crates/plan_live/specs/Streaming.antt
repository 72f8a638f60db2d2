-- The writer of streams.
use Rattle.plan_live.specs.declared.streams.Streams.{Streams}

abbrev pub writer_of : {R W M : Type 0} → Streams R W M → W
writer_of s = s.out
