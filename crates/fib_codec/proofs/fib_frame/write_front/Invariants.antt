use Rattle.fib_codec.proofs.Words.{◌≡◌, drop, length, take}
use Rattle.fib_codec.proofs.fib_frame.write_front.Given as goal

abbrev pub invariant-loop-index : goal.invariant-loop-index
invariant-loop-index g l = record {
  whole : length l.fib ≡ length l.initial.fib;
  front : take l.index l.fib ≡ take l.index l.fig;
  behind : drop l.index l.fib ≡ drop l.index l.initial.fib;
}
