use Rattle.script_compiler.proofs.Words.{[], ◌++◌, ◌<◌, ◌∙◌, ◌∷◌, ◌≡◌, ◌≤◌, Added, Configuration, HasRoomFor, HasSpace}
use Rattle.script_compiler.proofs.Words.{HasTable, List, Some, UnpricedLabel, Work, alone, ap, arith, configuration_at}
use Rattle.script_compiler.proofs.Words.{length, point_in, slice_get_within, subst, sym, true, unpriced_in}
use Rattle.script_compiler.proofs.Words.{unpriced_labels}
use Rattle.script_compiler.proofs.Labelling.{grown}
use Rattle.script_compiler.proofs.Spaces.{room_here, marked_as, marked_here, mark_with, short_with, room_left}
use Rattle.script_compiler.proofs.Spaces.{room_next, table_mark, limit_at_map}
use Rattle.script_compiler.proofs.work.Work.push_label.Goals as goal

pub returns-in-Err-clause-limited : goal.returns-in-Err-clause-limited
returns-in-Err-clause-limited c = limit_at_map c.in-Err.fault c.args.line (λ k h ps cover space.
    let w = c.args.self.now in
    let v = c.self.inside.unpriced in
    let s = c.args.point_here.now in
    let room = subst (λ (x : Work). HasRoomFor x.unpriced.table
    (configuration_at x.pool s.flow.current ∷ configuration_at x.pool s.flow.next ∷ [])) (sym c.self.view_is)
    (room_here w s ps c.requires.same c.requires.limits.table cover (subst (λ x. HasSpace x w ps) h.0 space)) in
    h.1 (room_left v.table (configuration_at v.pool s.flow.current) (configuration_at v.pool s.flow.next) room))
    c.in-Err.ensures.limited

pub returns-in-Err-index_of-clause-limited : goal.returns-in-Err-index_of-clause-limited
returns-in-Err-index_of-clause-limited c = limit_at_map c.in-Err-index_of.fault c.args.line (λ k h ps cover space.
    let w = c.args.self.now in
    let v = c.self.inside.unpriced in
    let s = c.args.point_here.now in
    let room = subst (λ (x : Work). HasRoomFor x.unpriced.table
    (configuration_at x.pool s.flow.current ∷ configuration_at x.pool s.flow.next ∷ [])) (sym c.self.view_is)
    (room_here w s ps c.requires.same c.requires.limits.table cover (subst (λ x. HasSpace x w ps) h.0 space)) in
    let left = room_next v.table c.index_of.new.self.table (configuration_at v.pool s.flow.current)
    (configuration_at v.pool s.flow.next) c.in-Ok.ensures.added room in
    h.1 (subst (λ (p : List Configuration). HasRoomFor c.index_of.new.self.table (configuration_at p s.flow.next ∷ []))
    (sym c.index_of.ensures.pool) left)) c.in-Err-index_of.ensures.limited

pub push-requires-clause-current : goal.push-requires-clause-current
push-requires-clause-current c =
    let v = c.self.inside.unpriced in
    let s = c.args.point_here.now in
    let table = c.index_of-2.new.self.table in
    let there = grown (configuration_at v.pool s.flow.current) (configuration_at c.index_of.new.self.pool s.flow.next)
    c.in-Ok.cur c.index_of.new.self.table table c.in-Ok-index_of.ensures.added c.in-Ok.ensures.index in
    slice_get_within table c.in-Ok.cur (configuration_at v.pool s.flow.current) there

pub push-requires-clause-following : goal.push-requires-clause-following
push-requires-clause-following c =
    slice_get_within c.index_of-2.new.self.table c.in-Ok-index_of.next
    (configuration_at c.index_of.new.self.pool c.args.point_here.now.flow.next) c.in-Ok-index_of.ensures.index

pub returns-clause-unpriced : goal.returns-clause-unpriced
returns-clause-unpriced c = λ line i.
    let v = c.self.inside in
    let s = c.args.point_here.now in
    let u : Work = record {
      lines = record { items = v.lines.items };
      unpriced = record { items = v.unpriced.items; table = v.unpriced.table };
      now = record { flow = v.now.flow; labelled = v.labelled };
      saved = c.args.self.now.saved;
      pool = v.unpriced.pool;
    } in
    let same = subst (λ (x : Work). point_in x.pool s ≡ x.now) (sym c.self.view_is) c.requires.same in
    let labelled = subst (λ (x : Work). x.now.labelled ≡ true) (sym c.self.view_is) c.requires.labelled in
    let table = c.index_of-2.new.self.table in
    let there = grown (configuration_at v.unpriced.pool s.flow.current)
    (configuration_at c.index_of.new.self.pool s.flow.next) c.in-Ok.cur c.index_of.new.self.table table
    c.in-Ok-index_of.ensures.added c.in-Ok.ensures.index in
    let then = c.in-Ok-index_of.ensures.index ∙ ap (λ (p : List Configuration). Some (configuration_at p s.flow.next))
    c.index_of.ensures.pool in
    let items = c.in_default.ensures.added
    ∙ ap (λ (ms : List UnpricedLabel). ms ++ unpriced_in table
    (short_with c.len.result c.in-Ok.cur c.in-Ok-index_of.next c.args.counters s) ∷ [])
    (c.index_of-2.ensures.items ∙ c.index_of.ensures.items) in
    let is = marked_as u s table c.in-Ok.cur c.in-Ok-index_of.next c.len.result c.args.counters c.push.new.self.items
    same there then items in
    let h = marked_here u c.len.result c.args.counters line i c.push.new.self.items labelled
    (c.len.ensures ∙ v.lines.ok.0) is in
    subst (λ (x : Work). c.push.new.self.items ≡ x.unpriced.items
    ++ unpriced_labels (length x.lines.items) (alone line i c.args.counters x.now)) c.self.view_is h

pub returns-clause-table : goal.returns-clause-table
returns-clause-table c =
    let v = c.self.inside in
    let s = c.args.point_here.now in
    let u : Work = record {
      lines = record { items = v.lines.items };
      unpriced = record { items = v.unpriced.items; table = v.unpriced.table };
      now = record { flow = v.now.flow; labelled = v.labelled };
      saved = c.args.self.now.saved;
      pool = v.unpriced.pool;
    } in
    let same = subst (λ (x : Work). point_in x.pool s ≡ x.now) (sym c.self.view_is) c.requires.same in
    let held = subst HasTable (sym c.self.view_is) c.requires.limits.table in
    let start : HasTable u = record { few = held.few; labels = held.labels; room = held.room; tabled = held.tabled } in
    let table = c.index_of-2.new.self.table in
    let there = grown (configuration_at v.unpriced.pool s.flow.current)
    (configuration_at c.index_of.new.self.pool s.flow.next) c.in-Ok.cur c.index_of.new.self.table table
    c.in-Ok-index_of.ensures.added c.in-Ok.ensures.index in
    let then = c.in-Ok-index_of.ensures.index ∙ ap (λ (p : List Configuration). Some (configuration_at p s.flow.next))
    c.index_of.ensures.pool in
    let items = c.in_default.ensures.added
    ∙ ap (λ (ms : List UnpricedLabel). ms ++ unpriced_in table
    (short_with c.len.result c.in-Ok.cur c.in-Ok-index_of.next c.args.counters s) ∷ [])
    (c.index_of-2.ensures.items ∙ c.index_of.ensures.items) in
    let is = marked_as u s table c.in-Ok.cur c.in-Ok-index_of.next c.len.result c.args.counters c.push.new.self.items
    same there then items in
    let m = mark_with c.len.result c.args.counters u.now in
    let current : Added m.flow.current v.unpriced.table c.index_of.new.self.table =
    subst (λ (x : Configuration). Added x v.unpriced.table c.index_of.new.self.table)
    (ap (λ x. x.flow.current) same) c.in-Ok.ensures.added in
    let next : Added m.flow.next c.index_of.new.self.table table =
    subst (λ (x : Configuration). Added x c.index_of.new.self.table table)
    (ap (λ (p : List Configuration). configuration_at p s.flow.next) c.index_of.ensures.pool
    ∙ ap (λ x. x.flow.next) same) c.in-Ok-index_of.ensures.added in
    let added = subst (λ (x : List Configuration). Added m.flow.next c.index_of.new.self.table x)
    (sym c.push.ensures.table) next in
    let few : length c.push.new.self.table ≤ 256 =
    (let k = c.in-Ok-index_of.ensures.room in let e = ap length c.push.ensures.table in omega (arith, k, e)) in
    table_mark u _ c.index_of.new.self.table m current added is few
    (subst (λ (x : Work). length x.unpriced.items < 1024) (sym c.self.view_is) c.requires.few) start
