-- The flaws that are listed of a configuration are those that it has.
use Rattle.std.proofs.Common.{◌≡◌, ◌≢◌, ℕ, Bool, true, false, ◌||◌, if◌then◌else◌, ◌⊎◌, inl, inr, List, [], ◌∷◌}
use Rattle.std.proofs.Common.{Contains, refl, sym, ap, subst, ◌∙◌}
use Rattle.std.specs.Prelude.{◌==◌}
use Rattle.std.specs.List.{flat_map, list_any}
use Rattle.std.proofs.lemmas.Bool.{false≢true, eqb-true, eq-eqb}
use Rattle.std.proofs.lemmas.List.Elements.{Contains-append_left, Contains-append_right, Contains-append_cases}
use Rattle.mux_types.proofs.Elements.{contains_first, contains_none}
use Rattle.mux_types.specs.declared.parts.Sub.{Sub}
use Rattle.mux_types.specs.declared.parts.Service.{Service}
use Rattle.mux_types.specs.declared.parts.Component.{Component}
use Rattle.mux_types.specs.declared.parts.Component.TheVariants.{Sound, Stream, Packet as InPackets}
use Rattle.mux_types.specs.declared.parts.Carrier.{Carrier}
use Rattle.mux_types.specs.declared.parts.Carrier.TheVariants.{Sub as BySub, Packet as ByPacket}
use Rattle.mux_types.specs.declared.parts.Packet.{Packet}
use Rattle.mux_types.specs.declared.numbers.Sid.{Sid}
use Rattle.mux_types.specs.declared.numbers.Sid.TheVariants.{Short, Long}
use Rattle.mux_types.specs.Configuration.{Configuration, carrier_of}
use Rattle.mux_types.specs.Sameness.{is_same_carrier, is_same_sid}
use Rattle.mux_config.proofs.Same.{sid_same, sid_itself}
use Rattle.plan_explain.specs.declared.flaw.Flaw.{Flaw}
use Rattle.plan_explain.specs.declared.flaw.Flaw.TheVariants.{Unnamed, LongAudio}
use Rattle.plan_explain.specs.Flaws.{IsUnnamed, IsLong, HasLongAudio, HasFlaw, is_on, has_component_on, is_named}
use Rattle.plan_explain.specs.Flaws.{unnamed, audio, audio_under, long_audio, flaws, is_same_flaw, is_among}
use Rattle.plan_explain.proofs.Lists.{from_flat, to_flat, from_one, from_any, from_none}

-- ---- named sub-channels

carrier_is : (k : Carrier) (id : ℕ) → is_same_carrier k (BySub id) ≡ true → k ≡ BySub id
carrier_is (BySub a) id e = ap BySub (eqb-true a id e)
carrier_is (ByPacket a) id e = absurd (false≢true e)

carrier_on : (k : Carrier) (id : ℕ) → k ≡ BySub id → is_same_carrier k (BySub id) ≡ true
carrier_on k id e = subst (λ (j : Carrier). is_same_carrier j (BySub id) ≡ true) (sym e) (eq-eqb id id refl)

neither : (a b : Bool) → (a || b) ≡ false → (a ≡ false) × (b ≡ false)
neither true b e = absurd (false≢true (sym e))
neither false b e = (refl, e)

one_of : (a b : Bool) → (a || b) ≡ true → (a ≡ true) ⊎ (b ≡ true)
one_of true b e = inl refl
one_of false b e = inr e

no_component : (c : Configuration) (id : ℕ) → list_any (has_component_on id) c.services ≡ false
    → (s : Service) (m : Component) → Contains c.services s → Contains s.components m → carrier_of m ≢ BySub id
no_component c id e s m in_services in_components on =
    let none = from_none (has_component_on id) c.services s e in_services in
    let off = from_none (is_on id) s.components m none in_components in
    false≢true (sym off ∙ carrier_on (carrier_of m) id on)

no_packet : (c : Configuration) (id : ℕ) → list_any (λ p. p.sub == id) c.packets ≡ false → (p : Packet)
    → Contains c.packets p → p.sub ≢ id
no_packet c id e p there same =
    let off = from_none (λ (q : Packet). q.sub == id) c.packets p e there in
    false≢true (sym off ∙ eq-eqb p.sub id same)

component_names : (c : Configuration) (id : ℕ) → list_any (has_component_on id) c.services ≡ true → IsUnnamed c id → ⊥
component_names c id e u =
    let s = from_any (has_component_on id) c.services e in
    let m = from_any (is_on id) s.element.components s.passes in
    u.components s.element m.element s.there m.there (carrier_is (carrier_of m.element) id m.passes)

packet_names : (c : Configuration) (id : ℕ) → list_any (λ p. p.sub == id) c.packets ≡ true → IsUnnamed c id → ⊥
packet_names c id e u =
    let p = from_any (λ (q : Packet). q.sub == id) c.packets e in
    u.packets p.element p.there (eqb-true p.element.sub id p.passes)

is_unnamed : (c : Configuration) (s : Sub) → Contains c.subs s → is_named c s.id ≡ false → IsUnnamed c s.id
is_unnamed c s there e =
    let both = neither (list_any (has_component_on s.id) c.services) (list_any (λ p. p.sub == s.id) c.packets) e in
    record {
      sub = s;
      there = there;
      is = refl;
      components = no_component c s.id both.0;
      packets = no_packet c s.id both.1;
    }

not_named : (c : Configuration) (id : ℕ) (b : Bool) → is_named c id ≡ b → IsUnnamed c id → is_named c id ≡ false
not_named c id true e u =
    elim (one_of (list_any (has_component_on id) c.services) (list_any (λ p. p.sub == id) c.packets) e) [
      | inl one ↦ absurd (component_names c id one u)
      | inr other ↦ absurd (packet_names c id other u)
    ]
not_named c id false e u = e

unnamed_at : (c : Configuration) (s : Sub) (f : Flaw) (b : Bool) → is_named c s.id ≡ b → Contains c.subs s
    → Contains (if b then [] else Unnamed s.id ∷ []) f → HasFlaw c f
unnamed_at c s f true e there h = absurd (contains_none f h)
unnamed_at c s f false e there h =
    subst (λ (g : Flaw). HasFlaw c g) (from_one (Unnamed s.id) f h) (is_unnamed c s there e)

listed_at : (c : Configuration) (s : Sub) → is_named c s.id ≡ false → Contains (unnamed c s) (Unnamed s.id)
listed_at c s e = subst (λ (b : Bool). Contains (if b then [] else Unnamed s.id ∷ []) (Unnamed s.id)) (sym e)
    (contains_first (Unnamed s.id) [])

unnamed_listed : (c : Configuration) (id : ℕ) → IsUnnamed c id → Contains (flaws c) (Unnamed id)
unnamed_listed c id u =
    let free = not_named c id (is_named c id) refl u in
    let here : is_named c u.sub.id ≡ false = ap (λ n. is_named c n) u.is ∙ free in
    let at : Contains (unnamed c u.sub) (Unnamed id) =
    subst (λ n. Contains (unnamed c u.sub) (Unnamed n)) u.is (listed_at c u.sub here) in
    Contains-append_left (flat_map (unnamed c) c.subs) (flat_map long_audio c.services) (Unnamed id)
    (to_flat (unnamed c) c.subs u.sub (Unnamed id) u.there at)

-- ---- audio under a 32-bit SId

audio_has : (c : Configuration) (s : Service) (n : ℕ) (m : Component) (f : Flaw) → s.sid ≡ Long n
    → Contains c.services s → Contains s.components m → Contains (audio (Long n) m) f → HasFlaw c f
audio_has c s n (Sound ty id) f e there at h =
    subst (λ (g : Flaw). HasFlaw c g) (from_one (LongAudio (Long n) id) f h)
    (record { service = s; there = there; is = e; long = tt; ty = ty; audio = at })
audio_has c s n (Stream ty id) f e there at h = absurd (contains_none f h)
audio_has c s n (InPackets scid) f e there at h = absurd (contains_none f h)

audios_have : (c : Configuration) (s : Service) (sid : Sid) (f : Flaw) → s.sid ≡ sid → Contains c.services s
    → Contains (audio_under sid s.components) f → HasFlaw c f
audios_have c s (Short n) f e there h = absurd (contains_none f h)
audios_have c s (Long n) f e there h =
    let from = from_flat (audio (Long n)) s.components f h in
    audio_has c s n from.source f e there from.there from.has

audio_listed : (s : Service) (sid : Sid) (ty id : ℕ) → IsLong sid → Contains s.components (Sound ty id)
    → Contains (audio_under sid s.components) (LongAudio sid id)
audio_listed s (Short n) ty id long at = absurd long
audio_listed s (Long n) ty id long at =
    to_flat (audio (Long n)) s.components (Sound ty id) (LongAudio (Long n) id) at
    (contains_first (LongAudio (Long n) id) [])

long_listed : (c : Configuration) (sid : Sid) (id : ℕ) → HasLongAudio c sid id → Contains (flaws c) (LongAudio sid id)
long_listed c sid id h =
    let here = audio_listed h.service sid h.ty id h.long h.audio in
    let at : Contains (long_audio h.service) (LongAudio sid id) =
    subst (λ (s : Sid). Contains (audio_under s h.service.components) (LongAudio sid id)) (sym h.is) here in
    Contains-append_right (flat_map (unnamed c) c.subs) (flat_map long_audio c.services) (LongAudio sid id)
    (to_flat long_audio c.services h.service (LongAudio sid id) h.there at)

-- ---- all flaws

pub has_flaw : (c : Configuration) (f : Flaw) → Contains (flaws c) f → HasFlaw c f
has_flaw c f h =
    elim (Contains-append_cases (flat_map (unnamed c) c.subs) (flat_map long_audio c.services) f h) [
      | inl one ↦ (let from = from_flat (unnamed c) c.subs f one in
          unnamed_at c from.source f (is_named c from.source.id) refl from.there from.has)
      | inr other ↦ (let from = from_flat long_audio c.services f other in
          audios_have c from.source from.source.sid f refl from.there from.has)
    ]

pub flaw_listed : (c : Configuration) (f : Flaw) → HasFlaw c f → Contains (flaws c) f
flaw_listed c (Unnamed id) h = unnamed_listed c id h
flaw_listed c (LongAudio sid id) h = long_listed c sid id h

-- ---- those that are not among others

both_same : (sid tid : Sid) (a b : ℕ) (same : Bool) → is_same_sid sid tid ≡ same
    → (if same then a == b else false) ≡ true → LongAudio sid a ≡ LongAudio tid b
both_same sid tid a b true e h = let one : sid ≡ tid = sid_same sid tid e in let other : a ≡ b = eqb-true a b h in cc
both_same sid tid a b false e h = absurd (false≢true h)

pub flaw_same : (f g : Flaw) → is_same_flaw f g ≡ true → f ≡ g
flaw_same (Unnamed a) (Unnamed b) e = ap Unnamed (eqb-true a b e)
flaw_same (Unnamed a) (LongAudio tid b) e = absurd (false≢true e)
flaw_same (LongAudio sid a) (Unnamed b) e = absurd (false≢true e)
flaw_same (LongAudio sid a) (LongAudio tid b) e = both_same sid tid a b (is_same_sid sid tid) refl e

pub flaw_itself : (f : Flaw) → is_same_flaw f f ≡ true
flaw_itself (Unnamed a) = eq-eqb a a refl
flaw_itself (LongAudio sid a) =
    subst (λ (b : Bool). (if b then a == a else false) ≡ true) (sym (sid_itself sid)) (eq-eqb a a refl)

pub is_new : (others : List Flaw) (f g : Flaw) (b : Bool) → is_among others f ≡ b
    → Contains (if b then [] else f ∷ []) g → (f ≡ g) × (Contains others g → ⊥)
is_new others f g true e h = absurd (contains_none g h)
is_new others f g false e h =
    let same = from_one f g h in (
      same,
      λ there.
          let old : Contains others f = subst (λ (x : Flaw). Contains others x) (sym same) there in
          let off = from_none (λ (x : Flaw). is_same_flaw x f) others f e old in
          false≢true (sym off ∙ flaw_itself f),
    )

pub new_listed : (others : List Flaw) (f : Flaw) (b : Bool) → is_among others f ≡ b → (Contains others f → ⊥)
    → Contains (if b then [] else f ∷ []) f
new_listed others f true e new =
    let old = from_any (λ (x : Flaw). is_same_flaw x f) others e in
    absurd (new (subst (λ (x : Flaw). Contains others x) (flaw_same old.element f old.passes) old.there))
new_listed others f false e new = contains_first f []
