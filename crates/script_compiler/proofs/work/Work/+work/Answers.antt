use Rattle.script_compiler.proofs.Words.{[], ◌++◌, ◌+◌, ◌<◌, ◌∙◌, ◌∷◌, ◌≡◌, ◌≤◌, Block, Bool, CanEmit, ClosesIf}
use Rattle.script_compiler.proofs.Words.{ClosesLoop, CompileFault, Compiled, Context, Emits, Err, Global, IfLimit}
use Rattle.script_compiler.proofs.Words.{IsJudged, IsRefusedIn, Jump, Left, List, Loop, Set, Statement, Table, Vec}
use Rattle.script_compiler.proofs.Words.{Work, alone, ap, apply, arith, at_drop_all, basic, before, block_in, block_of}
use Rattle.script_compiler.proofs.Words.{cases_lt, drop, either, err_from_is_err_and, falls_out, false, false≢true}
use Rattle.script_compiler.proofs.Words.{forever, get_or, if◌then◌else◌, inl, inr, length, length-take, nothing, refl}
use Rattle.script_compiler.proofs.Words.{repeat, statement_in, stop, subst, sym, tables, take, true, way, when}
use Rattle.script_compiler.proofs.Words.{without_label, ℕ}
use Rattle.script_compiler.proofs.Trees.{weight, weight_each, applied_is, is_act, is_end, is_if, is_if_else, is_repeat}
use Rattle.script_compiler.proofs.Trees.{is_forever, is_apply}
use Rattle.script_compiler.proofs.Steps.{ok_map, ok_true, act_step, left_before, facts_length, facts_take, silent_step}
use Rattle.script_compiler.proofs.Steps.{unnamed_step}
use Rattle.script_compiler.proofs.Refusing.{not_done, refused_here, err_two}
use Rattle.script_compiler.proofs.Emitted.{left_start, left_then, laid_length, some_is}
use Rattle.script_compiler.proofs.Fitting.{can_then}
use Rattle.script_compiler.proofs.Conditionals.{HasFirst, first_whole, first_saved, left_when, first_agrees, when_why}
use Rattle.script_compiler.proofs.Conditionals.{can_when_first, can_when_closed, second_saved, second_agrees}
use Rattle.script_compiler.proofs.Conditionals.{either_why, left_either, can_either_first, can_either_turned}
use Rattle.script_compiler.proofs.Conditionals.{can_either_second, can_either_closed}
use Rattle.script_compiler.proofs.Loops.{Enters, enters, HasBody, body_saved, end_fits, loop_why, left_repeat}
use Rattle.script_compiler.proofs.Loops.{can_repeat_entered, can_repeat_body, can_repeat_closed, repeat_deep}
use Rattle.script_compiler.proofs.Loops.{left_forever, can_forever_entered, can_forever_body, can_forever_closed}
use Rattle.script_compiler.proofs.Compiling.{compiles, fails, fails_at, fails_within, compiles_as, compiles_applied}
use Rattle.script_compiler.proofs.work.Work.+work.Goals as goal

-- ---- a block

pub block-loop-statement-init : goal.block-loop-statement-init
block-loop-statement-init t c = record {
  left = left_start c.args.context.plan.now c.args.context.counters (block_in c.args.context c.args.statements.now)
      c.args.self.now;
  limits = c.requires.limits;
}

pub block-statement-requires : goal.block-statement-requires
block-statement-requires t c =
    let w = weight_each (tables c.args.context.blocks.now) c.args.statements.now c.loop-statement.statement-index
    c.statement-item.result c.statement-item.is c.loop-statement-test.true in (
      omega (arith, c.decreases, w),
      record {
        limits = c.loop-statement.invariant.limits;
        counters = c.requires.counters;
        facts = c.requires.facts;
      },
    )

-- at a statement: those before it have been compiled, and it is left with the rest of the block
at_statement : (x : Context) (ss : List Statement) (k : ℕ) (s : Statement) (v w : Work) (f g : Bool) → s ≡ get_or ss k s
    → k < length ss → f ≡ g →
    Compiled x (block_in x ss) (block_in x (drop k ss)) v w f
    → Left x.plan.now x.counters (block_in x ss) v w g (statement_in x s (block_in x (drop (k + 1) ss)))
at_statement x ss k s v w f g is lt e h =
    left_before x.plan.now x.counters (tables x.blocks.now) ss k s v w f g is lt e h.left

pub block-loop-statement-preserved : goal.block-loop-statement-preserved
block-loop-statement-preserved t c =
    let x = c.args.context in
    let w = c.loop-statement in
    let s = c.statement-item.result in
    let rest = block_in x (drop (w.statement-index + 1) c.args.statements.now) in
    let left = at_statement x c.args.statements.now w.statement-index s c.args.self.now w.self w.is_reached true
    c.statement-item.is c.loop-statement-test.true c.if-not-is_reached.false w.invariant in
    let done = c.in_ok-is_reached.ensures rest in
    record {
      left = left_then x.plan.now x.counters (block_in x c.args.statements.now) (statement_in x s rest) rest
          c.args.self.now w.self c.statement.new.self c.in_ok-is_reached.is_reached left done.left;
      limits = done.limits;
    }

pub block-returns-then-not-is_reached : goal.block-returns-then-not-is_reached
block-returns-then-not-is_reached t c =
    let x = c.args.context in
    let w = c.loop-statement in
    let s = c.statement-item.result in
    let line = c.line_of.result in
    let whole = block_in x c.args.statements.now in
    let rest = block_in x (drop (w.statement-index + 1) c.args.statements.now) in
    let left = at_statement x c.args.statements.now w.statement-index s c.args.self.now w.self w.is_reached false
    c.statement-item.is c.loop-statement-test.true c.if-not-is_reached.true w.invariant in
    record {
      refused = λ is judged. not_done (tables x.blocks.now) s rest (left.only judged);
      why = refused_here c.refused.result line Table (λ at given.
          IsRefusedIn x.plan.now whole c.args.self.now.now at given) c.refused.ensures
          (left.fails line Table (c.line_of.ensures (tables x.blocks.now) rest, refl));
      limited = subst (λ (e : CompileFault). IfLimit e
          (λ _ limit. CanEmit limit x.plan.now x.counters whole c.args.self.now → ⊥)) (sym c.refused.ensures) tt;
    }

pub block-returns-in_err-is_reached : goal.block-returns-in_err-is_reached
block-returns-in_err-is_reached t c =
    let x = c.args.context in
    let w = c.loop-statement in
    let s = c.statement-item.result in
    let whole = block_in x c.args.statements.now in
    let rest = block_in x (drop (w.statement-index + 1) c.args.statements.now) in
    let left = at_statement x c.args.statements.now w.statement-index s c.args.self.now w.self w.is_reached true
    c.statement-item.is c.loop-statement-test.true c.if-not-is_reached.false w.invariant in
    let p = err_from_is_err_and c.from_residual.result c.from_residual.ensures.1 in
    rw (p.1, p.2) (fails_within x whole c.args.self.now (c.in_err-is_reached.ensures rest) (λ judged. left.only judged)
    (λ at given k. left.fails at given k)
    (λ k can. can_then k x.plan.now x.counters whole (statement_in x s rest) c.args.self.now w.self left can))

pub block-returns : goal.block-returns
block-returns t c =
    let x = c.args.context in
    let w = c.loop-statement in
    let end : block_in x (drop w.statement-index c.args.statements.now) ≡ nothing =
    at_drop_all (block_in x) c.args.statements.now w.statement-index c.loop-statement-test.false in
    subst (λ b. Compiled x (block_in x c.args.statements.now) b c.args.self.now w.self w.is_reached) end w.invariant

-- ---- a statement

pub statement-returns-in-Act : goal.statement-returns-in-Act
statement-returns-in-Act t c = λ rest.
    let x = c.args.context in
    let w = c.args.self.now in
    let line = c.in-Act.line in
    let act = c.in-Act.act in
    compiles_as x (statement_in x c.args.statement.now rest) (basic line act rest) rest w c.act.new.self c.act.result
    (is_act (tables x.blocks.now) c.args.statement.now line act c.in-Act.is rest)
    (compiles x (basic line act rest) w rest c.act.new.self c.act.result
    (act_step x.plan.now x.counters line act rest w c.act.new.self c.act.result c.act.ensures.is_reached
    c.act.ensures.emits c.act.ensures.now c.act.ensures.fine) c.act.ensures.limits
    (err_two c.act.result (λ e h g. fails_at x (basic line act rest) w e line h g (λ cause r judged. r.1 judged.0)
    (λ cause r. inl (refl, r.0)) (λ k full can. full _ _ refl can.space)) c.act.ensures.refused
    c.act.ensures.limited))

pub statement-returns-in-Err : goal.statement-returns-in-Err
statement-returns-in-Err t c = λ rest.
    let x = c.args.context in
    let w = c.args.self.now in
    compiles_as x (statement_in x c.args.statement.now rest) (stop c.in-End.line rest) rest w c.put.new.self
    (Err c.in-Err.fault) (is_end (tables x.blocks.now) c.args.statement.now c.in-End.line c.in-End.is rest)
    (fails x (stop c.in-End.line rest) w c.in-Err.fault c.in-End.line c.in-Err.ensures.limited
    (λ k full can. full _ _ refl can.space))

pub statement-returns-in-If : goal.statement-returns-in-If
statement-returns-in-If t c = λ rest.
    let x = c.args.context in
    let table = tables x.blocks.now in
    let line = c.in-If.line in
    let contact = c.in-If.condition in
    compiles_as x (statement_in x c.args.statement.now rest) (when line contact (block_in x c.deref.result.now) rest)
    rest c.args.self.now c.when.new.self c.when.result
    (is_if table c.args.statement.now line contact c.in-If.first c.in-If.is rest
    ∙ ap (λ ss. when line contact (block_of table ss) rest) (sym c.deref.ensures.value)) (c.when.ensures rest)

pub statement-returns-in-IfElse : goal.statement-returns-in-IfElse
statement-returns-in-IfElse t c = λ rest.
    let x = c.args.context in
    let table = tables x.blocks.now in
    let line = c.in-IfElse.line in
    let contact = c.in-IfElse.condition in
    let first = c.deref-in-IfElse in
    let second = c.deref-in-IfElse-2 in
    compiles_as x (statement_in x c.args.statement.now rest)
    (either line contact (block_in x first.result.now) (block_in x second.result.now) rest) rest c.args.self.now
    c.either.new.self c.either.result
    (is_if_else table c.args.statement.now line contact c.in-IfElse.first c.in-IfElse.second c.in-IfElse.is rest
    ∙ ap (λ ss. either line contact (block_of table ss) (block_of table c.in-IfElse.second.items) rest)
    (sym first.ensures.value)
    ∙ ap (λ ss. either line contact (block_of table first.result.now) (block_of table ss) rest)
    (sym second.ensures.value)) (c.either.ensures rest)

pub statement-returns-in-Repeat : goal.statement-returns-in-Repeat
statement-returns-in-Repeat t c = λ rest.
    let x = c.args.context in
    let table = tables x.blocks.now in
    let line = c.in-Repeat.line in
    let times = c.in-Repeat.times in
    compiles_as x (statement_in x c.args.statement.now rest)
    (repeat line times (block_in x c.deref-in-Repeat.result.now) rest) rest c.args.self.now c.repeat.new.self
    c.repeat.result
    (is_repeat table c.args.statement.now line times c.in-Repeat.body c.in-Repeat.is rest
    ∙ ap (λ ss. repeat line times (block_of table ss) rest) (sym c.deref-in-Repeat.ensures.value))
    (c.repeat.ensures rest)

pub statement-returns-in-Forever : goal.statement-returns-in-Forever
statement-returns-in-Forever t c = λ rest.
    let x = c.args.context in
    let table = tables x.blocks.now in
    let line = c.in-Forever.line in
    compiles_as x (statement_in x c.args.statement.now rest)
    (forever line (block_in x c.deref-in-Forever.result.now) rest) rest c.args.self.now c.forever.new.self
    c.forever.result
    (is_forever table c.args.statement.now line c.in-Forever.body c.in-Forever.is rest
    ∙ ap (λ ss. forever line (block_of table ss) rest) (sym c.deref-in-Forever.ensures.value))
    (c.forever.ensures rest)

pub statement-returns-then-number-context : goal.statement-returns-then-number-context
statement-returns-then-number-context t c = λ rest.
    let x = c.args.context in
    record {
      left = unnamed_step x.plan.now x.counters c.in-Apply.line x.blocks.now c.args.statement.now c.in-Apply.block
          c.from-number.result c.args.self.now c.requires.counters
          (λ rest. is_apply (tables x.blocks.now) c.args.statement.now c.in-Apply.line c.in-Apply.block c.in-Apply.is
          rest) (c.from-number.ensures ∙ c.get.ensures.value) c.if-number-context.true rest;
      limits = c.requires.limits;
    }

pub statement-bounds-context-number : goal.statement-bounds-context-number
statement-bounds-context-number t c =
    let n = facts_length c.args.context.facts.now c.args.context.blocks.now c.requires.facts in
    omega (arith, n, c.if-number-context.false)

pub statement-returns-then-context-number : goal.statement-returns-then-context-number
statement-returns-then-context-number t c = λ rest.
    let x = c.args.context in
    let n = facts_length x.facts.now x.blocks.now c.requires.facts in
    let lt : c.from-number.result < length x.facts.now = omega (arith, n, c.if-number-context.false) in
    record {
      left = silent_step x.plan.now x.counters c.in-Apply.line x.blocks.now c.args.statement.now c.in-Apply.block
          c.from-number.result x.facts.now _ c.args.self.now c.requires.counters
          (λ rest. is_apply (tables x.blocks.now) c.args.statement.now c.in-Apply.line c.in-Apply.block c.in-Apply.is
          rest) (c.from-number.ensures ∙ c.get.ensures.value) c.requires.facts lt c.if-context-number.true rest;
      limits = c.requires.limits;
    }

pub statement-slice_bounds-inner-end-in-Apply : goal.statement-slice_bounds-inner-end-in-Apply
statement-slice_bounds-inner-end-in-Apply t c =
    let n = facts_length c.args.context.facts.now c.args.context.blocks.now c.requires.facts in let m =
    length-take c.from-number.result c.args.context.facts.now in omega (arith, n, m, c.if-number-context.false)

pub statement-block-requires : goal.statement-block-requires
statement-block-requires t c =
    let bs = c.args.context.blocks.now in
    let k = c.from-number.result in
    let inner = c.deref-in-Apply.result.now in
    let same : inner ≡ c.index-context-number.result.items =
    c.deref-in-Apply.ensures.value ∙ sym (ap (λ (v : Vec Statement Global). v.items) c.index-context-number.is) in
    let is = applied_is bs c.args.statement.now c.in-Apply.line c.in-Apply.block k c.index-context-number.result inner
    c.in-Apply.is (c.from-number.ensures ∙ c.get.ensures.value) c.index-context-number.is
    (omega (arith, c.if-number-context.false)) same nothing in
    let w : weight (before (tables bs) c.args.statement.now nothing) ≡ 1 + weight (block_of (tables (take k bs)) inner)
    + 0 = ap (λ b. weight b) is in (
      omega (arith, c.decreases, w),
      record {
        limits = c.requires.limits;
        counters = c.requires.counters;
        facts = facts_take c.args.context.facts.now bs k c.requires.facts;
      },
    )

pub statement-returns-else-context-number : goal.statement-returns-else-context-number
statement-returns-else-context-number t c = λ rest.
    let x = c.args.context in
    let bs = x.blocks.now in
    let k = c.from-number.result in
    let inner = c.deref-in-Apply.result.now in
    let same : inner ≡ c.index-context-number.result.items =
    c.deref-in-Apply.ensures.value ∙ sym (ap (λ (v : Vec Statement Global). v.items) c.index-context-number.is) in
    let is = applied_is bs c.args.statement.now c.in-Apply.line c.in-Apply.block k c.index-context-number.result inner
    c.in-Apply.is (c.from-number.ensures ∙ c.get.ensures.value) c.index-context-number.is
    (omega (arith, c.if-number-context.false)) same rest in
    compiles_as x (statement_in x c.args.statement.now rest)
    (apply c.in-Apply.line c.in-Apply.block (block_of (tables (take k bs)) inner) rest) rest c.args.self.now
    c.block.new.self c.block.result is
    (compiles_applied x _ c.in-Apply.line c.in-Apply.block (block_of (tables (take k bs)) inner) rest c.args.self.now
    c.block.new.self c.block.result refl refl c.requires.counters c.block.ensures)

-- ---- `if`

pub when-returns-in-Err : goal.when-returns-in-Err
when-returns-in-Err t c = λ rest.
    let x = c.args.context in
    let first = block_in x c.args.first.now in
    fails x (when c.args.line c.args.condition.now first rest) c.args.self.now c.in-Err.fault c.args.line
    c.in-Err.ensures.limited (λ k full can. full _ _ refl can.space)

pub when-returns-in-Err-block : goal.when-returns-in-Err-block
when-returns-in-Err-block t c = λ rest.
    let x = c.args.context in
    let first = block_in x c.args.first.now in
    let forks = c.in_default.ensures.forks in
    fails_within x (when c.args.line c.args.condition.now first rest) c.args.self.now c.in-Err-block.ensures
    (λ judged. subst (λ s. IsJudged x.plan.now first s) (sym forks.now) judged.0)
    (λ at given k. inl (subst (λ s. IsRefusedIn x.plan.now first s at given) forks.now k))
    (λ k can. can_when_first c.args.condition.now forks can)

pub when-returns : goal.when-returns
when-returns t c = λ rest.
    let x = c.args.context in
    let w0 = c.args.self.now in
    let line = c.args.line in
    let condition = c.args.condition.now in
    let first = block_in x c.args.first.now in
    let f = c.in-Ok.falls in
    let y = c.close_if.result in
    let b : HasFirst x.plan.now x.counters line condition first w0 c.fork_if.new.self c.block.new.self f =
    record { forks = c.in_default.ensures.forks; left = c.in-Ok.ensures.left } in
    compiles x (when line condition first rest) w0 rest c.close_if.new.self y
    (ok_true y _ _ c.close_if.ensures.is_reached c.close_if.ensures.closes
    (λ closes. left_when b c.close_if.new.self rest c.requires.counters
    (subst (λ n. ClosesIf f line condition n w0.saved.items w0.now c.block.new.self c.close_if.new.self)
    c.len-at.ensures (closes w0.saved.items w0.now (first_saved b))))) c.close_if.ensures.limits
    (err_two y (λ e h g. fails_at x (when line condition first rest) w0 e line h g
    (λ cause r judged. r.1 w0.saved.items w0.now (first_saved b) (first_agrees b judged.1))
    (λ cause r. when_why b rest cause r)
    (λ k full can. can_when_closed condition b full can)) c.close_if.ensures.refused c.close_if.ensures.limited)

-- ---- `if` with `else`

pub either-returns-in-Err : goal.either-returns-in-Err
either-returns-in-Err t c = λ rest.
    let x = c.args.context in
    let first = block_in x c.args.first.now in
    let second = block_in x c.args.second.now in
    fails x (either c.args.line c.args.condition.now first second rest) c.args.self.now c.in-Err.fault c.args.line
    c.in-Err.ensures.limited (λ k full can. full _ _ refl can.space)

pub either-returns-in-Err-block : goal.either-returns-in-Err-block
either-returns-in-Err-block t c = λ rest.
    let x = c.args.context in
    let first = block_in x c.args.first.now in
    let second = block_in x c.args.second.now in
    let forks = c.in_default.ensures.forks in
    fails_within x (either c.args.line c.args.condition.now first second rest) c.args.self.now c.in-Err-block.ensures
    (λ judged. subst (λ s. IsJudged x.plan.now first s) (sym forks.now) judged.0)
    (λ at given k. inl (subst (λ s. IsRefusedIn x.plan.now first s at given) forks.now k))
    (λ k can. can_either_first c.args.condition.now can forks)

pub either-returns-in-Err-start_else : goal.either-returns-in-Err-start_else
either-returns-in-Err-start_else t c = λ rest.
    let x = c.args.context in
    let line = c.args.line in
    let condition = c.args.condition.now in
    let first = block_in x c.args.first.now in
    let second = block_in x c.args.second.now in
    let b : HasFirst x.plan.now x.counters line condition first c.args.self.now c.fork_if.new.self c.block.new.self
    c.in-Ok.falls = record { forks = c.in_default.ensures.forks; left = c.in-Ok.ensures.left } in
    fails x (either line condition first second rest) c.args.self.now c.in-Err-start_else.fault line
    c.in-Err-start_else.ensures.limited (λ k full can. can_either_turned condition can b full)

pub either-returns-in-Err-block-2 : goal.either-returns-in-Err-block-2
either-returns-in-Err-block-2 t c = λ rest.
    let x = c.args.context in
    let w0 = c.args.self.now in
    let line = c.args.line in
    let condition = c.args.condition.now in
    let first = block_in x c.args.first.now in
    let second = block_in x c.args.second.now in
    let b : HasFirst x.plan.now x.counters line condition first w0 c.fork_if.new.self c.block.new.self c.in-Ok.falls =
    record { forks = c.in_default.ensures.forks; left = c.in-Ok.ensures.left } in
    let turned = c.in_default-start_else.ensures.starts_else w0.saved.items w0.now (first_saved b) in
    fails_within x (either line condition first second rest) w0 c.in-Err-block-2.ensures
    (λ judged. subst (λ s. IsJudged x.plan.now second s) (sym turned.now) judged.1)
    (λ at given k. inr (
      (first_whole b).judged,
      inl (subst (λ s. IsRefusedIn x.plan.now second s at given) turned.now k),
    ))
    (λ k can. can_either_second condition can b turned)

pub either-returns : goal.either-returns
either-returns t c = λ rest.
    let x = c.args.context in
    let w0 = c.args.self.now in
    let line = c.args.line in
    let condition = c.args.condition.now in
    let first = block_in x c.args.first.now in
    let second = block_in x c.args.second.now in
    let w3 = c.block.new.self in
    let f = c.in-Ok.falls in
    let y = c.close_else.result in
    let b : HasFirst x.plan.now x.counters line condition first w0 c.fork_if.new.self w3 f =
    record { forks = c.in_default.ensures.forks; left = c.in-Ok.ensures.left } in
    let turned = c.in_default-start_else.ensures.starts_else w0.saved.items w0.now (first_saved b) in
    let left2 = c.in-Ok-block.ensures.left in
    let saved = second_saved b turned left2 in
    compiles x (either line condition first second rest) w0 rest c.close_else.new.self y
    (ok_map y (λ falls arrives. left_either b turned left2 c.close_else.new.self falls c.len-jump.result rest
    c.requires.counters c.len-at.ensures c.len-jump.ensures
    (arrives w0.saved.items (way f w3) (some_is f w3) saved)) c.close_else.ensures.arrives)
    c.close_else.ensures.limits
    (err_two y (λ e h l. fails_at x (either line condition first second rest) w0 e line h l
    (λ cause r judged. r.1 w0.saved.items (way f w3) (some_is f w3) saved (second_agrees b turned left2 judged.2))
    (λ cause r. either_why b turned left2 rest cause r)
    (λ k full can. can_either_closed condition can b turned left2 full)) c.close_else.ensures.refused
    c.close_else.ensures.limited)

-- ---- `repeat`

pub repeat-returns-in_default : goal.repeat-returns-in_default
repeat-returns-in_default t c = λ rest.
    let x = c.args.context in
    let many : 8 ≤ x.counters =
    elim (cases_lt x.counters 8) [
      | inl lt ↦ absurd (false≢true (c.in_default.ensures.in_range.1 lt))
      | inr ge ↦ ge
    ] in
    record {
      refused = λ is _. is;
      why = tt;
      limited = λ can. repeat_deep x.plan.now x.counters c.args.line c.args.times (block_in x c.args.body.now) rest
          c.args.self.now many can;
    }

pub repeat-returns-in_err-put : goal.repeat-returns-in_err-put
repeat-returns-in_err-put t c = λ rest.
    let x = c.args.context in
    let body = block_in x c.args.body.now in
    let p = err_from_is_err_and c.from_residual.result c.from_residual.ensures.1 in
    rw (p.1, p.2) (fails x (repeat c.args.line c.args.times body rest) c.args.self.now c.in_err-put.field-0.0
    c.args.line c.in_err-put.ensures.limited (λ k full can. full _ _ refl can.space))

-- the counter of a `repeat` is set, and its body is entered
set_emits : (line k n r : ℕ) (v w : Work) → k ≡ r → Emits v w (alone line (Set k n) r v.now)
    → Emits v w (alone line (Set r n) r v.now)
set_emits line k n r v w e h = subst (λ m. Emits v w (alone line (Set m n) r v.now)) e h

repeat_entry : (body : Block) (falls : Bool) (line r n : ℕ) (w0 w1 w2 : Work)
    → Emits w0 w1 (alone line (Set r n) r w0.now) → w1.now ≡ without_label w0.now.flow → falls ≡ falls_out body
    → w2.lines ≡ w1.lines → w2.unpriced ≡ w1.unpriced →
    w2.now ≡ record { flow = w1.now.flow; labelled = if falls then true else w1.now.labelled }
    → w2.saved.items ≡ w1.saved.items ++ w2.now ∷ []
    → Enters (length w0.lines.items + 1) body (without_label w0.now.flow) w1 w2
repeat_entry body falls line r n w0 w1 w2 emits now =
    enters (length w0.lines.items + 1) body (without_label w0.now.flow) falls w1 w2
    (laid_length w0 w1 (alone line (Set r n) r w0.now) emits) now

pub repeat-returns-in_err-enter : goal.repeat-returns-in_err-enter
repeat-returns-in_err-enter t c = λ rest.
    let x = c.args.context in
    let body = block_in x c.args.body.now in
    let w0 = c.args.self.now in
    let emits = set_emits c.args.line c.in-Some.counter c.args.times x.counters w0 c.put.new.self
    c.in-Some.ensures.value c.in_ok-put.ensures.emits in
    let p = err_from_is_err_and c.from_residual-in_err-enter.result c.from_residual-in_err-enter.ensures.1 in
    rw (p.1, p.2) (fails x (repeat c.args.line c.args.times body rest) w0 c.in_err-enter.field-0.0 c.args.line
    c.in_err-enter.ensures.limited
    (λ k full can. can_repeat_entered emits c.in_ok-put.ensures.now can c.all_fall.result
    (c.all_fall.ensures (tables x.blocks.now) c.requires.facts) full))

pub repeat-returns-in_err-falls : goal.repeat-returns-in_err-falls
repeat-returns-in_err-falls t c = λ rest.
    let x = c.args.context in
    let body = block_in x c.args.body.now in
    let w0 = c.args.self.now in
    let w1 = c.put.new.self in
    let emits = set_emits c.args.line c.in-Some.counter c.args.times x.counters w0 w1 c.in-Some.ensures.value
    c.in_ok-put.ensures.emits in
    let now = c.in_ok-put.ensures.now in
    let g = c.in_ok-enter.ensures in
    let entry = repeat_entry body c.all_fall.result c.args.line x.counters c.args.times w0 w1 c.enter.new.self emits now
    (c.all_fall.ensures (tables x.blocks.now) c.requires.facts) g.lines g.unpriced g.now g.saved in
    let p = err_from_is_err_and c.from_residual-in_err-falls.result c.from_residual-in_err-falls.ensures.1 in
    rw (p.1, p.2) (fails_within x (repeat c.args.line c.args.times body rest) w0 c.in_err-falls.ensures
    (λ judged. subst (λ s. IsJudged x.plan.now body s) (sym entry.now) judged.0)
    (λ at given k. inl (subst (λ s. IsRefusedIn x.plan.now body s at given) entry.now k))
    (λ k can. can_repeat_body emits now can entry))

pub repeat-returns-in_err-close_loop : goal.repeat-returns-in_err-close_loop
repeat-returns-in_err-close_loop t c = λ rest.
    let x = c.args.context in
    let body = block_in x c.args.body.now in
    let w0 = c.args.self.now in
    let w1 = c.put.new.self in
    let w2 = c.enter.new.self in
    let emits = set_emits c.args.line c.in-Some.counter c.args.times x.counters w0 w1 c.in-Some.ensures.value
    c.in_ok-put.ensures.emits in
    let now = c.in_ok-put.ensures.now in
    let g = c.in_ok-enter.ensures in
    let b : HasBody x.plan.now (x.counters + 1) (length w0.lines.items + 1) body (without_label w0.now.flow) w1 w2
    c.block.new.self c.in_ok-falls.falls = record {
      entry = repeat_entry body c.all_fall.result c.args.line x.counters c.args.times w0 w1 w2 emits now
          (c.all_fall.ensures (tables x.blocks.now) c.requires.facts) g.lines g.unpriced g.now g.saved;
      left = c.in_ok-falls.ensures.left;
    } in
    let h = c.in_err-close_loop.ensures in
    let p = err_from_is_err_and c.from_residual-in_err-close_loop.result c.from_residual-in_err-close_loop.ensures.1 in
    rw (p.1, p.2) (fails_at x (repeat c.args.line c.args.times body rest) w0 c.in_err-close_loop.field-0.0 c.args.line
    h.refused h.limited
    (λ cause r judged. r.1 w1.saved.items w2.now (body_saved b) (end_fits b judged.1))
    (λ cause r. loop_why b c.args.line cause r)
    (λ k full can. can_repeat_closed emits now can b full))

pub repeat-returns : goal.repeat-returns
repeat-returns t c = λ rest.
    let x = c.args.context in
    let body = block_in x c.args.body.now in
    let line = c.args.line in
    let w0 = c.args.self.now in
    let w1 = c.put.new.self in
    let w2 = c.enter.new.self in
    let w3 = c.block.new.self in
    let w4 = c.close_loop.new.self in
    let f = c.in_ok-falls.falls in
    let deep : x.counters + 1 ≤ 8 =
    (let lt : x.counters < 8 = c.in-Some.ensures.in_range.0 refl in omega (arith, lt)) in
    let emits = set_emits line c.in-Some.counter c.args.times x.counters w0 w1 c.in-Some.ensures.value
    c.in_ok-put.ensures.emits in
    let g = c.in_ok-enter.ensures in
    let b : HasBody x.plan.now (x.counters + 1) (length w0.lines.items + 1) body (without_label w0.now.flow) w1 w2 w3
    f = record {
      entry = repeat_entry body c.all_fall.result line x.counters c.args.times w0 w1 w2 emits c.in_ok-put.ensures.now
          (c.all_fall.ensures (tables x.blocks.now) c.requires.facts) g.lines g.unpriced g.now g.saved;
      left = c.in_ok-falls.ensures.left;
    } in
    let closed = c.in_ok-close_loop.ensures in
    let target : c.len-target.result ≡ length w0.lines.items + 1 =
    c.len-target.ensures ∙ laid_length w0 w1 (alone line (Set x.counters c.args.times) x.counters w0.now) emits in
    record {
      left = left_repeat deep emits b
          (subst (λ m. ClosesLoop f line (x.counters + 1) (Loop x.counters m) w1.saved.items w2.now w3 w4) target
          (subst (λ m. ClosesLoop f line (x.counters + 1) (Loop m c.len-target.result) w1.saved.items w2.now w3 w4)
          c.in-Some.ensures.value (closed.round w1.saved.items w2.now (body_saved b)))) rest;
      limits = closed.limits;
    }

-- ---- `forever`

pub forever-returns-in-Err : goal.forever-returns-in-Err
forever-returns-in-Err t c = λ rest.
    let x = c.args.context in
    fails x (forever c.args.line (block_in x c.args.body.now) rest) c.args.self.now c.in-Err.fault c.args.line
    c.in-Err.ensures.limited
    (λ k full can. can_forever_entered can c.all_fall.result
    (c.all_fall.ensures (tables x.blocks.now) c.requires.facts) full)

-- the body of a `forever` is entered
forever_entry : (body : Block) (falls : Bool) (w0 w2 : Work) → falls ≡ falls_out body → w2.lines ≡ w0.lines
    → w2.unpriced ≡ w0.unpriced
    → w2.now ≡ record { flow = w0.now.flow; labelled = if falls then true else w0.now.labelled }
    → w2.saved.items ≡ w0.saved.items ++ w2.now ∷ [] → Enters (length w0.lines.items) body w0.now w0 w2
forever_entry body falls w0 w2 = enters (length w0.lines.items) body w0.now falls w0 w2 refl refl

pub forever-returns-in-Err-block : goal.forever-returns-in-Err-block
forever-returns-in-Err-block t c = λ rest.
    let x = c.args.context in
    let body = block_in x c.args.body.now in
    let w0 = c.args.self.now in
    let g = c.in_default.ensures in
    let entry = forever_entry body c.all_fall.result w0 c.enter.new.self
    (c.all_fall.ensures (tables x.blocks.now) c.requires.facts) g.lines g.unpriced g.now g.saved in
    fails_within x (forever c.args.line body rest) w0 c.in-Err-block.ensures
    (λ judged. subst (λ s. IsJudged x.plan.now body s) (sym entry.now) judged.0)
    (λ at given k. inl (subst (λ s. IsRefusedIn x.plan.now body s at given) entry.now k))
    (λ k can. can_forever_body can entry)

pub forever-returns-in-Err-close_loop : goal.forever-returns-in-Err-close_loop
forever-returns-in-Err-close_loop t c = λ rest.
    let x = c.args.context in
    let body = block_in x c.args.body.now in
    let w0 = c.args.self.now in
    let w2 = c.enter.new.self in
    let g = c.in_default.ensures in
    let b : HasBody x.plan.now x.counters (length w0.lines.items) body w0.now w0 w2 c.block.new.self c.in-Ok.falls =
    record {
      entry = forever_entry body c.all_fall.result w0 w2 (c.all_fall.ensures (tables x.blocks.now) c.requires.facts)
          g.lines g.unpriced g.now g.saved;
      left = c.in-Ok.ensures.left;
    } in
    let h = c.in-Err-close_loop.ensures in
    fails_at x (forever c.args.line body rest) w0 c.in-Err-close_loop.fault c.args.line h.refused h.limited
    (λ cause r judged. r.1 w0.saved.items w2.now (body_saved b) (end_fits b judged.1))
    (λ cause r. loop_why b c.args.line cause r)
    (λ k full can. can_forever_closed can b full)

pub forever-returns : goal.forever-returns
forever-returns t c = λ rest.
    let x = c.args.context in
    let body = block_in x c.args.body.now in
    let w0 = c.args.self.now in
    let w2 = c.enter.new.self in
    let g = c.in_default.ensures in
    let b : HasBody x.plan.now x.counters (length w0.lines.items) body w0.now w0 w2 c.block.new.self c.in-Ok.falls =
    record {
      entry = forever_entry body c.all_fall.result w0 w2 (c.all_fall.ensures (tables x.blocks.now) c.requires.facts)
          g.lines g.unpriced g.now g.saved;
      left = c.in-Ok.ensures.left;
    } in
    let closed = c.in_default-close_loop.ensures in
    record {
      left = left_forever c.requires.counters b
          (subst (λ m. ClosesLoop c.in-Ok.falls c.args.line x.counters (Jump m) w0.saved.items w2.now c.block.new.self
          c.close_loop.new.self) c.len-target.ensures (closed.round w0.saved.items w2.now (body_saved b))) rest;
      limits = closed.limits;
    }
