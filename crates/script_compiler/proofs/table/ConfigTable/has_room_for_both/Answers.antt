use Rattle.script_compiler.proofs.Words.{◌∙◌, ◌≡◌, Some, ap, arith, configuration_at, sym}
use Rattle.script_compiler.proofs.Labelling.{at_within}
use Rattle.script_compiler.proofs.Rooms.{room_two}
use Rattle.script_compiler.proofs.Spaces.{none_of, room_left, room_right}
use Rattle.script_compiler.proofs.table.ConfigTable.has_room_for_both.Goals as goal

pub returns-then-second-first : goal.returns-then-second-first
returns-then-second-first c = record {
  limited = λ none room.
      c.has_room_for.ensures.limited none
      (room_left c.args.self.now.table (configuration_at c.args.self.now.pool c.args.first)
      (configuration_at c.args.self.now.pool c.args.second) room);
}

pub returns-then-is_some : goal.returns-then-is_some
returns-then-is_some c = record {
  limited = λ none room.
      c.has_room_for-then-is_some.ensures.limited none
      (room_left c.args.self.now.table (configuration_at c.args.self.now.pool c.args.first)
      (configuration_at c.args.self.now.pool c.args.second) room);
}

pub returns-then-is_some-2 : goal.returns-then-is_some-2
returns-then-is_some-2 c = record {
  limited = λ none room.
      c.has_room_for-then-is_some-2.ensures.limited none
      (room_right c.args.self.now.table (configuration_at c.args.self.now.pool c.args.first)
      (configuration_at c.args.self.now.pool c.args.second) room);
}

pub returns : goal.returns
returns c = record {
  limited = λ none room.
      let pool = c.args.self.now.pool in
      let a = configuration_at pool c.args.first in
      let b = configuration_at pool c.args.second in
      let second = c.find.ensures.none (none_of c.find.result (sym c.is_some.ensures ∙ c.if-is_some.false)) in
      let first = c.find-2.ensures.none (none_of c.find-2.result (sym c.is_some-2.ensures ∙ c.if-is_some-2.false)) in
      let differs : b ≡ a → ⊥ =
      λ same. c.if-second-first.false
      (c.is_distinct.ensures c.args.second c.args.first a
      (at_within pool c.args.second c.requires.second ∙ ap Some same)
      (at_within pool c.args.first c.requires.first)) in
      let k = room_two c.args.self.now.table a b (λ h. first h.0 h.1) (λ h. second h.0 h.1) differs room in
      let e = c.from.ensures in
      let l = c.len.ensures in
      absurd (omega (arith, e, l, k, c.if-len-from.false));
}
