use Rattle.script_front.proofs.Words.{◌∙◌, ap, is_some, sym}
use Rattle.script_front.proofs.Naming.{found_if, absent, place_is, within_if}
use Rattle.script_front.proofs.names.Names.find.Goals as goal

pub returns-clause-found : goal.returns-clause-found
returns-clause-found c = rw (← c.self.view_is) (found_if _ _ _ c.get_index_of.ensures.index)

pub returns-clause-none : goal.returns-clause-none
returns-clause-none c = λ none i. rw (← c.self.view_is)
    (absent c.args.name.now c.self.inside.set.keys (sym c.get_index_of.ensures.found ∙ ap is_some none) i)

pub returns-clause-within : goal.returns-clause-within
returns-clause-within c = rw (← c.self.view_is) (within_if _ _ c.get_index_of.ensures.within)

pub returns-clause-is : goal.returns-clause-is
returns-clause-is c = rw (← c.self.view_is) (c.get_index_of.ensures.index
    ∙ place_is c.args.name.now c.self.inside.set.keys)
