use Rattle.script_compiler.proofs.Words.{◌∙◌, GrowsBy, Line, List, StepsTo, instrs_of, subst, sym, ℕ}
use Rattle.script_compiler.proofs.Cycles.{search_begins}
use Rattle.script_compiler.proofs.Paths.{instrs_length, instr_at}
use Rattle.script_compiler.proofs.cost.reached_from.Goals as goal

pub returns : goal.returns
returns c =
    let lines = c.args.lines.now in
    let pc = c.args.pc in
    let line = c.index-lines-pc.result in
    let ps = c.in_ok-no_flags.field-0.items in
    let r = c.add_following.new.self in
    let there = instr_at lines pc line c.index-lines-pc.is c.requires.within in
    let grows = subst (λ (ws : List ℕ). GrowsBy ps r.places.items ws r.waiting.items (StepsTo line.instr pc))
    c.new.ensures.items (subst
    (λ (l : Line). GrowsBy ps r.places.items c.new.result.items r.waiting.items (StepsTo l.instr pc))
    (sym c.index-lines-pc.is) c.in_ok-add_following.ensures) in
    search_begins (instrs_of lines) pc ps r.places.items r.waiting.items line.instr
    (c.in_ok-no_flags.ensures.long ∙ sym (instrs_length lines)) c.in_ok-no_flags.ensures.count there grows
