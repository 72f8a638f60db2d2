use Rattle.cli_scripts.proofs.Words.{◌%◌, ◌++◌, ◌<◌, ◌∙◌, ◌≡◌, ◌≤◌, Consumes-trans, ap, arith, ends, fibs_of_stream}
use Rattle.cli_scripts.proofs.Words.{length, length-append, piece_ends, piece_has_ended, unheard}
use Rattle.std.proofs.lemmas.Grind.{common_steps}
use Rattle.cli_scripts.proofs.Naming.{piece_named}
use Rattle.cli_scripts.proofs.listen_script.name_of.Goals.{then-has_room, else-has_room}
use Rattle.cli_scripts.proofs.listen_script.name_of.Goals as goal

pub returns-then-not-is_empty : goal.returns-then-not-is_empty
returns-then-not-is_empty g c =
    let before = c.loop.invariant in
    let piece = c.advance.new.self.piece in
    let same : length c.piece.result.now ≡ length piece = ap length c.piece.ensures in
    let left : 0 < length piece % 32 = grind (arith, common_steps, same) in
    let whole : 0 < length (before.stream ++ piece) % 32 =
    omega (arith, left, before.whole, length-append before.stream piece) in
    record {
      hears = (
        before.stream ++ piece,
        Consumes-trans _ _ _ before.stream piece before.consumed c.in_ok-advance.ensures.bytes,
        c.in_ok-advance.ensures.last left,
        whole,
      );
    }

pub loop-preserved : goal.loop-preserved
loop-preserved g c =
    let before = c.loop.invariant in
    let piece = c.advance.new.self.piece in
    let same : length c.piece.result.now ≡ length piece = ap length c.piece.ensures in
    let none : length piece % 32 ≡ 0 = grind (arith, common_steps, same) in
    let fibs : c.as_chunks.result.0.now ≡ fibs_of_stream piece =
    c.as_chunks.ensures.front ∙ ap fibs_of_stream c.piece.ensures in
    let consumed = Consumes-trans _ _ _ before.stream piece before.consumed c.in_ok-advance.ensures.bytes in
    let whole : length (before.stream ++ piece) % 32 ≡ 0 =
    omega (arith, none, before.whole, length-append before.stream piece) in
    let count : length c.as_chunks.result.0.now ≤ 8192 = grind (arith, common_steps, same) in
    let named = piece_named before.stream piece _ c.loop.eid c.eid_after-eid.result before.whole fibs before.named
    c.eid_after-eid.ensures in
    elim c.if-has_room.branch [
      | then-has_room w ↦ rw (w.heard-is, w.has_room-is) (record {
        stream = before.stream ++ piece;
        consumed = consumed;
        whole = whole;
        hears = piece_ends before.stream piece _ unheard c.loop.heard c.loop.has_room _ w.if-has_room.true before.whole
            fibs before.hears
            (ends _ c.loop.heard _ _ w.hear-has_room.ensures.heard w.hear-has_room.ensures.full);
        named = named;
        few = omega arith;
        damaged = w.hear-has_room.ensures.damaged;
      })
      | else-has_room w ↦ rw (w.heard-is, w.has_room-is) (record {
        stream = before.stream ++ piece;
        consumed = consumed;
        whole = whole;
        hears = piece_has_ended before.stream piece unheard c.loop.heard c.loop.has_room w.if-has_room.false
            before.whole before.hears;
        named = named;
        few = omega arith;
        damaged = before.damaged;
      })
    ]
