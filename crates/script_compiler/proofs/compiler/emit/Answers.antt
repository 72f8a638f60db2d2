use Rattle.script_compiler.proofs.Words.{[], ◌∙◌, Emits, End, HasSpace, IsJudged, IsRefusedIn, ProgramPoint, alone, ap}
use Rattle.script_compiler.proofs.Words.{arith, beginning, block_of, body_of, err_from_is_err_and, length, onward}
use Rattle.script_compiler.proofs.Words.{subst, sym, table_of, tables, way}
use Rattle.script_compiler.proofs.Steps.{Starts, LaidWhole, laid_whole}
use Rattle.script_compiler.proofs.Fitting.{table_none, can_whole, space_whole_end}
use Rattle.script_compiler.proofs.Spaces.{limit_map, limit_here, never_refused}
use Rattle.script_compiler.proofs.Refusing.{refused_map}
use Rattle.script_compiler.proofs.compiler.emit.Goals.{After-block, After-into_emitted}
use Rattle.script_compiler.proofs.compiler.emit.Goals as goal

starts_of : (c : After-block) → Starts (body_of c.args.script.now)
    (block_of (tables c.blocks-3.result.now) c.statements.result.now) (beginning c.args.config.now) c.new-work.result
starts_of c = record {
  same = ap (λ xs. block_of (table_of [] xs) c.statements.result.now) c.blocks-3.ensures.value
      ∙ ap (λ xs. block_of (table_of [] c.args.script.now.blocks) xs) c.statements.ensures.value;
  lines = c.new-work.ensures.lines;
  unpriced = c.new-work.ensures.unpriced;
  now = c.new-work.ensures.now;
}

whole_is : (c : After-into_emitted) → Starts (body_of c.args.script.now)
    (block_of (tables c.blocks-3.result.now) c.statements.result.now) (beginning c.args.config.now) c.new-work.result →
    LaidWhole c.args.plan.now c.args.script.now.last_line (body_of c.args.script.now) (beginning c.args.config.now)
    c.close.new.self
whole_is c starts =
    laid_whole c.args.plan.now c.args.script.now.last_line c.block.new.self c.close.new.self c.in_ok-falls.falls starts
    c.in_ok-falls.ensures.left
    (subst (λ n. Emits c.block.new.self c.close.new.self
    (onward (way c.in_ok-falls.falls c.block.new.self) [] (alone n End 0))) c.last_line.ensures
    c.in_ok-close.ensures.emits)

pub returns-clause-lines : goal.returns-clause-lines
returns-clause-lines c =
    let at = goal.at.returns-clause-lines c in
    c.into_emitted.ensures.lines ∙ (whole_is at.After-into_emitted (starts_of at.After-block)).lines

pub returns-clause-unpriced : goal.returns-clause-unpriced
returns-clause-unpriced c =
    let at = goal.at.returns-clause-unpriced c in
    c.into_emitted.ensures.items ∙ (whole_is at.After-into_emitted (starts_of at.After-block)).unpriced

pub returns-clause-judged : goal.returns-clause-judged
returns-clause-judged c =
    let at = goal.at.returns-clause-judged c in
    λ _. (whole_is at.After-into_emitted (starts_of at.After-block)).judged

pub returns-clause-repeats : goal.returns-clause-repeats
returns-clause-repeats c =
    let at = goal.at.returns-clause-repeats c in
    λ _. (whole_is at.After-into_emitted (starts_of at.After-block)).repeats

pub block-requires : goal.block-requires
block-requires c = record {
  limits = record {
    room = let e = ap length c.new-work.ensures.lines in
        omega (arith, e);
    table = table_none _ c.new-work.ensures.table c.new-work.ensures.unpriced;
  };
  counters = omega arith;
  facts = cc c.in_ok-facts.ensures;
}

pub returns-in_err-falls-clause-limited : goal.returns-in_err-falls-clause-limited
returns-in_err-falls-clause-limited c =
    let starts = starts_of (goal.at.returns-in_err-falls-clause-limited c).After-block in
    let p = err_from_is_err_and c.from_residual-in_err-falls.result c.from_residual-in_err-falls.ensures.1 in
    rw (p.1, p.2) (limit_map c.in_err-falls.field-0.0 (λ at k limited judged few.
    limited (can_whole k c.args.plan.now c.args.script.now.last_line starts few judged))
    c.in_err-falls.ensures.limited)

pub returns-in_err-close-clause-limited : goal.returns-in_err-close-clause-limited
returns-in_err-close-clause-limited c =
    let starts = starts_of (goal.at.returns-in_err-close-clause-limited c).After-block in
    let p = err_from_is_err_and c.from_residual-in_err-close.result c.from_residual-in_err-close.ensures.1 in
    rw (p.1, p.2) (limit_map c.in_err-close.field-0.0 (λ at k limited judged few.
    limited.1 (subst (λ n. HasSpace k c.block.new.self
    (onward (way c.in_ok-falls.falls c.block.new.self) [] (alone n End 0))) (sym c.last_line.ensures)
    (space_whole_end k c.args.plan.now c.args.script.now.last_line starts few c.in_ok-falls.ensures.left)))
    (limit_here c.in_err-close.field-0.0 _ (λ k full. full) c.in_err-close.ensures.limited))

pub returns-in_err-falls-clause-refused : goal.returns-in_err-falls-clause-refused
returns-in_err-falls-clause-refused c =
    let starts = starts_of (goal.at.returns-in_err-falls-clause-refused c).After-block in
    let p = err_from_is_err_and c.from_residual-in_err-falls.result c.from_residual-in_err-falls.ensures.1 in
    rw (p.1, p.2) (λ is judged. c.in_err-falls.ensures.refused is
    (subst (λ (x : ProgramPoint). IsJudged c.args.plan.now
    (block_of (tables c.blocks-3.result.now) c.statements.result.now) x) (sym starts.now)
    (subst (λ b. IsJudged c.args.plan.now b (beginning c.args.config.now)) (sym starts.same) judged)))

pub returns-in_err-falls-clause-why : goal.returns-in_err-falls-clause-why
returns-in_err-falls-clause-why c =
    let starts = starts_of (goal.at.returns-in_err-falls-clause-why c).After-block in
    let p = err_from_is_err_and c.from_residual-in_err-falls.result c.from_residual-in_err-falls.ensures.1 in
    rw (p.1, p.2) (refused_map c.in_err-falls.field-0.0
    (λ at given k. subst (λ (x : ProgramPoint). IsRefusedIn c.args.plan.now (body_of c.args.script.now) x at given)
    starts.now (subst (λ b. IsRefusedIn c.args.plan.now b c.new-work.result.now at given) starts.same k))
    c.in_err-falls.ensures.why)

pub returns-in_err-close-clause-why : goal.returns-in_err-close-clause-why
returns-in_err-close-clause-why c =
    let p = err_from_is_err_and c.from_residual-in_err-close.result c.from_residual-in_err-close.ensures.1 in
    rw (p.1, p.2) (never_refused c.in_err-close.field-0.0 _ _ _ c.in_err-close.ensures.limited)
