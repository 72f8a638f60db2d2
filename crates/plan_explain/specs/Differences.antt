-- What differs between two paths.
use Rattle.std.specs.Prelude.{◌≢◌, ◌||◌, not, if◌then◌else◌}
use Rattle.mux_config.specs.Configuration.{Configuration, nothing}
use Rattle.mux_config.specs.Edits.{sub_at, service_at, packet_at}
use Rattle.plan_code.specs.declared.label.Swap.{Swap}
use Rattle.plan_verifier.specs.Flows.{Flow}
use Rattle.plan_verifier.specs.Tests.{is_idle}
use Rattle.plan_explain.specs.declared.difference.Compared.{Compared}
use Rattle.plan_explain.specs.declared.difference.Compared.TheVariants.{Current, AfterSwap, Next}
use Rattle.plan_explain.specs.declared.difference.Difference.{Difference}
use Rattle.plan_explain.specs.declared.difference.Difference.TheVariants.{Sub, Service, Packet}

-- the configuration of a path that is compared with that of another, which has this swap state
abbrev pub compared : Compared → Swap → Flow → Configuration
compared Current other t = t.current
compared Next other t = t.next
compared AfterSwap other t = if is_idle t.pending || not (is_idle other) then t.current else t.next

-- a member is in one configuration and not in the other, or otherwise in the other
abbrev pub Differ : Difference → Configuration → Configuration → Type 0
Differ (Sub id) a b = sub_at id a ≢ sub_at id b
Differ (Service sid) a b = service_at sid a ≢ service_at sid b
Differ (Packet scid) a b = packet_at scid a ≢ packet_at scid b

-- a swap alone, with no configuration
abbrev pub with_swap : Swap → Flow
with_swap pending = record { current = nothing; next = nothing; pending = pending }
