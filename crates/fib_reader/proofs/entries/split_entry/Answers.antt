use Rattle.fib_reader.proofs.Words.{◌<◌, ◌∙◌, ◌≡◌, ap, drop, drop_min, entry_len, length, min, number_of, take}
use Rattle.fib_reader.proofs.Words.{take_min}
use Rattle.fib_reader.proofs.EntryLists.{first_of_entries, no_entries_of}
use Rattle.fib_reader.proofs.FaultSteps.{some_left, none_left}
use Rattle.fib_reader.proofs.entries.split_entry.Goals as goal

pub returns-then-is_empty : goal.returns-then-is_empty
returns-then-is_empty c = no_entries_of _ _ _ (none_left _ _ c.is_empty.ensures c.if-is_empty.true)

pub returns : goal.returns
returns c =
    let some : 0 < length c.args.bytes.now = some_left _ _ c.is_empty.ensures c.if-is_empty.false in
    let len : c.min-len.result ≡ min (entry_len (number_of c.args.extension) c.args.long c.args.bytes.now)
    (length c.args.bytes.now) = rw (← c.entry_len_of.ensures) c.min-len.ensures in
    let front : c.split_at.result.0.now ≡ take (entry_len (number_of c.args.extension) c.args.long c.args.bytes.now)
    c.args.bytes.now =
    c.split_at.ensures.front ∙ ap (λ n. take n c.args.bytes.now) len
    ∙ take_min (entry_len (number_of c.args.extension) c.args.long c.args.bytes.now) c.args.bytes.now in
    let back : c.split_at.result.1.now ≡ drop (entry_len (number_of c.args.extension) c.args.long c.args.bytes.now)
    c.args.bytes.now =
    c.split_at.ensures.back ∙ ap (λ n. drop n c.args.bytes.now) len
    ∙ drop_min (entry_len (number_of c.args.extension) c.args.long c.args.bytes.now) c.args.bytes.now in
    rw (front, back) (first_of_entries (number_of c.args.extension) c.args.long c.args.bytes.now some)
