use Rattle.mux_config.proofs.laws.refusals.Goals as goal

pub returns : goal.returns
returns c = λ old new outcome fault h. h.1
