-- What is known, with each configuration in a store. No public contract refers to it.
use Rattle.mux_config.specs.Configuration.{Configuration}
use Rattle.plan_code.specs.declared.label.Label.{Label}
use Rattle.plan_verifier.specs.declared.indices.IndexedFlow.{IndexedFlow}
use Rattle.plan_verifier.specs.declared.known.KnownState.{KnownState}
use Rattle.plan_verifier.specs.Typing.{Known}

abbrev pub known_of : {S : Type 0} → (S → Configuration) → KnownState S → Known
known_of content s =
    record {
      current = content s.tracked.flow.current;
      next = content s.tracked.flow.next;
      pending = s.tracked.flow.pending;
      counters = s.counters;
      allowance = s.allowance;
    }

-- what a label declares of the configurations and the swap
abbrev pub flow_of_label : Label → IndexedFlow
flow_of_label label = record { current = label.cur; next = label.next; pending = label.pending }
