use Rattle.fib_reader.proofs.Words.{◌%◌, ◌+◌, ◌<◌, ◌≡◌, arith, drop, drop_min, get_or, length, min, take, take_min}
use Rattle.fib_reader.proofs.FigLists.{pieces_of_nothing, pieces_of_marked, first_of_pieces}
use Rattle.fib_reader.proofs.FaultSteps.{some_left, none_left}
use Rattle.fib_reader.proofs.figs.split_fig.Goals as goal

pub returns-then-is_empty : goal.returns-then-is_empty
returns-then-is_empty c = pieces_of_nothing _ (none_left _ _ c.is_empty.ensures c.if-is_empty.true)

pub returns-then-header : goal.returns-then-header
returns-then-header c =
    pieces_of_marked _ (some_left _ _ c.is_empty.ensures c.if-is_empty.false) (omega arith)

pub returns : goal.returns
returns c =
    let some : 0 < length c.args.bytes.now = some_left _ _ c.is_empty.ensures c.if-is_empty.false in
    let len : c.min-len.result ≡ min (1 + get_or c.args.bytes.now 0 0 % 32) (length c.args.bytes.now) =
    cc (c.min-len.ensures, c.from.ensures, c.byte_at-header.ensures) in
    let front : c.split_at.result.0.now ≡ take (1 + get_or c.args.bytes.now 0 0 % 32) c.args.bytes.now =
    cc (c.split_at.ensures.front, len, take_min (1 + get_or c.args.bytes.now 0 0 % 32) c.args.bytes.now) in
    let back : c.split_at.result.1.now ≡ drop (1 + get_or c.args.bytes.now 0 0 % 32) c.args.bytes.now =
    cc (c.split_at.ensures.back, len, drop_min (1 + get_or c.args.bytes.now 0 0 % 32) c.args.bytes.now) in
    rw (front, back) (first_of_pieces c.args.bytes.now some (omega arith))
