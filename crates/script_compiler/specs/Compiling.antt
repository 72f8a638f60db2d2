-- What compiling a block or a statement needs, and what it results in. Not used in public contracts.
use Rattle.std.specs.Prelude.{◌≡◌, ◌≤◌, Bool, List, map, Result, Ok, Err}
use Rattle.script_front.specs.declared.tree.Statement.{Statement}
use Rattle.script_front.specs.Block.{Block, before, block_of}
use Rattle.script_compiler.specs.Judged.{IsJudged}
use Rattle.script_compiler.specs.Refused.{IsRefusedIn}
use Rattle.script_compiler.specs.declared.context.Context.{Context}
use Rattle.script_compiler.specs.declared.fault.CompileFault.{CompileFault}
use Rattle.script_compiler.specs.Working.{Work}
use Rattle.script_compiler.specs.Emission.{Left, tables, facts_of}
use Rattle.script_compiler.specs.Refusals.{IsRefusal, IfRefused, IfLimit}
use Rattle.script_compiler.specs.Space.{IsInLimits, CanEmit}

-- the block of these statements, which can apply the blocks of the context
abbrev pub block_in : Context → List Statement → Block
block_in c statements = block_of (tables c.blocks.now) statements

-- this statement, which can apply them too, and then the rest of its block
abbrev pub statement_in : Context → Statement → Block → Block
statement_in c statement rest = before (tables c.blocks.now) statement rest

-- more can be compiled in this context
pub record CanCompile (c : Context) (w : Work) : Type 0 where
  -- the code so far is within the limits
  pub limits : IsInLimits w
  -- there is a counter for each enclosing repeat
  pub counters : c.counters ≤ 8
  -- the facts are those of the blocks, in order
  pub facts : c.facts.now ≡ map facts_of (tables c.blocks.now)

-- the block has been compiled up to `rest`, and more can be; `is_reached` says whether control reaches the rest
pub record Compiled (c : Context) (b rest : Block) (old new : Work) (is_reached : Bool) : Type 0 where
  -- its code has been emitted
  pub left : Left c.plan.now c.counters b old new is_reached rest
  -- the code so far is within the limits
  pub limits : IsInLimits new

-- why the block does not compile
pub record Fails (c : Context) (b : Block) (old : Work) (e : CompileFault) : Type 0 where
  -- only an invalid block is refused
  pub refused : IsRefusal e → IsJudged c.plan.now b old.now → ⊥
  -- at the line of the first fault in it, with its cause
  pub why : IfRefused e (λ at given. IsRefusedIn c.plan.now b old.now at given)
  -- a limit is exceeded only where it leaves too little room for the code of the block and all that follows
  pub limited : IfLimit e (λ _ limit. CanEmit limit c.plan.now c.counters b old → ⊥)

-- the result of compiling the block up to `rest`
abbrev pub Compiles : Context → Block → Block → Work → Work → Result Bool CompileFault → Type 0
Compiles c b rest old new (Ok is_reached) = Compiled c b rest old new is_reached
Compiles c b rest old new (Err e) = Fails c b old e
