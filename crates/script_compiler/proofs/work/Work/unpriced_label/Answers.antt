use Rattle.script_compiler.proofs.Words.{[], ◌∷◌, Configurations, HasRoomFor, IsCovered, ProgramPoint, Work, ap}
use Rattle.script_compiler.proofs.Words.{configuration_at, length, refl, subst, sym}
use Rattle.script_compiler.proofs.Spaces.{room_here, table_as, space_as}
use Rattle.script_compiler.proofs.work.Work.unpriced_label.Goals as goal

pub returns-then-not-has_room_for_both-clause-limited : goal.returns-then-not-has_room_for_both-clause-limited
returns-then-not-has_room_for_both-clause-limited c = (
  refl,
  λ ps cover space.
      let w = c.args.self.now in
      let v = c.point_here.new.self in
      let s = c.in_ok-point_here.point_here in
      let cover' = subst (λ (x : ProgramPoint). IsCovered x.flow ps) (sym c.point_here.ensures.now) cover in
      let space' = space_as Configurations w v ps (ap (λ x. length x.items) c.point_here.ensures.lines)
      (ap (λ x. x.items) c.point_here.ensures.unpriced) space in
      let room = room_here v s ps c.in_ok-point_here.ensures.same
      (table_as w v c.point_here.ensures.unpriced c.requires.table) cover' space' in
      let there = subst (λ (x : Work). HasRoomFor x.unpriced.table
      (configuration_at x.pool s.flow.current ∷ configuration_at x.pool s.flow.next ∷ [])) (sym c.self-2.view_is)
      room in
      c.has_room_for_both.ensures.limited c.if-not-has_room_for_both.true there,
)
