-- When a fact holds of a refusal.
use Rattle.std.specs.Prelude.{◌≡◌, ◌≢◌, ℕ, ◌+◌, ◌≤◌, min, max, true, false, [], Option, Some, None, IsSome, Result, Ok}
use Rattle.std.specs.Prelude.{Err}
use Rattle.std.specs.List.{list_any}
use Rattle.mux_types.specs.declared.parts.Sub.{Sub}
use Rattle.mux_types.specs.declared.parts.Service.{Service}
use Rattle.mux_types.specs.declared.parts.Packet.{Packet}
use Rattle.mux_types.specs.declared.parts.Carrier.{Carrier}
use Rattle.mux_types.specs.declared.parts.Carrier.TheVariants.{Sub as BySub, Packet as ByPacket}
use Rattle.mux_types.specs.Sameness.{names}
use Rattle.mux_eep.specs.declared.fault.EepFault.{EepFault}
use Rattle.mux_eep.specs.Sizes.{size_or_fault}
use Rattle.mux_config.specs.Configuration.{Configuration}
use Rattle.mux_config.specs.Edits.{sub_at, service_at, packet_at}
use Rattle.fib_codec.specs.declared.frame_layout.FrameLayout.{FrameLayout}
use Rattle.fib_carousel.specs.Pages.{page_set, rounds}
use Rattle.plan_verifier.specs.Flows.{Flow, FitsFlow}
use Rattle.plan_explain.specs.declared.fact.Fact.{Fact}
use Rattle.plan_explain.specs.declared.fact.Fact.TheVariants.{HasSub, HasPacket, HasService, HasComponent as HasPart}
use Rattle.plan_explain.specs.declared.fact.Fact.TheVariants.{Lacks, LacksService, LacksComponent as LacksPart, Orphan}
use Rattle.plan_explain.specs.declared.fact.Fact.TheVariants.{OrphanPacket, SameAddress, Empty, Shared, Swap}
use Rattle.plan_explain.specs.declared.fact.Fact.TheVariants.{Pages as TakesPages, Differ as PathsDiffer, OtherSwap}
use Rattle.plan_explain.specs.declared.fact.Overlap.{Overlap}
use Rattle.plan_explain.specs.declared.fact.Pages.{Pages}
use Rattle.plan_explain.specs.declared.stop.Stop.{Stop}
use Rattle.plan_explain.specs.Differences.{compared, Differ, with_swap}

-- ---- members of a configuration

abbrev pub IsMissing : Carrier → Configuration → Type 0
IsMissing (BySub id) c = sub_at id c ≡ None
IsMissing (ByPacket scid) c = packet_at scid c ≡ None

-- the service, if there is one, has or has not a component on this carrier, or has none at all
abbrev pub HasComponent : Carrier → Option Service → Type 0
HasComponent carrier None = ⊥
HasComponent carrier (Some s) = list_any (names carrier) s.components ≡ true

abbrev pub LacksComponent : Carrier → Option Service → Type 0
LacksComponent carrier None = ⊥
LacksComponent carrier (Some s) = list_any (names carrier) s.components ≡ false

abbrev pub IsEmpty : Option Service → Type 0
IsEmpty None = ⊥
IsEmpty (Some s) = s.components ≡ []

-- two packet components with one address on one sub-channel
pub record IsApart (p q : Packet) : Type 0 where
  pub differ : p.scid ≢ q.scid
  pub sub : p.sub ≡ q.sub
  pub address : p.address ≡ q.address

-- the unit after those of a sub-channel; 0 if its rate has no size
abbrev pub end_from : ℕ → Result ℕ EepFault → ℕ
end_from start (Ok size) = start + size
end_from start (Err fault) = 0

abbrev pub end_of : Sub → ℕ
end_of s = end_from s.start (size_or_fault s.protection s.kbits)

-- the units that both have are these: from the later start to the earlier end
pub record Shares (o : Overlap) : Type 0 where
  pub from : o.low ≡ max o.first.start o.second.start
  pub to : o.high + 1 ≡ min (end_of o.first) (end_of o.second)
  pub some : o.low ≤ o.high

abbrev pub pages_of : FrameLayout → Flow → Pages
pages_of layout t =
    record {
      current = rounds layout (page_set t.current None);
      next = rounds layout (page_set t.next None);
      both = rounds layout (page_set t.current (Some t.next));
    }

-- ---- facts

abbrev pub HoldsIn : Fact → Configuration → Stop → Type 0
HoldsIn (HasSub s) c p = sub_at s.id c ≡ Some s
HoldsIn (HasPacket k) c p = packet_at k.scid c ≡ Some k
HoldsIn (HasService sid) c p = IsSome (service_at sid c)
HoldsIn (HasPart sid carrier) c p = HasComponent carrier (service_at sid c)
HoldsIn (Lacks carrier) c p = IsMissing carrier c
HoldsIn (LacksService sid) c p = service_at sid c ≡ None
HoldsIn (LacksPart sid carrier) c p = LacksComponent carrier (service_at sid c)
HoldsIn (Orphan sid carrier) c p = HasComponent carrier (service_at sid c) × IsMissing carrier c
HoldsIn (OrphanPacket k) c p = (packet_at k.scid c ≡ Some k) × IsMissing (BySub k.sub) c
HoldsIn (SameAddress k l) c p = (packet_at k.scid c ≡ Some k) × (packet_at l.scid c ≡ Some l) × IsApart k l
HoldsIn (Empty sid) c p = IsEmpty (service_at sid c)
HoldsIn (Shared o) c p = (sub_at o.first.id c ≡ Some o.first) × (sub_at o.second.id c ≡ Some o.second) × Shares o
HoldsIn (Swap swap) c p = p.here.pending ≡ swap
HoldsIn (TakesPages counts) c p = pages_of p.plan.layout p.here ≡ counts
HoldsIn (PathsDiffer which what) c p =
    Differ what (compared which p.other.pending p.here) (compared which p.here.pending p.other)
HoldsIn OtherSwap c p = FitsFlow (with_swap p.here.pending) (with_swap p.other.pending) → ⊥

-- a configuration is the next one where the plan is refused
abbrev pub Holds : Fact → Stop → Type 0
Holds fact p = HoldsIn fact p.here.next p
