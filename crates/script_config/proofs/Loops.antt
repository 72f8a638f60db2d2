-- Loop invariants.
use Rattle.script_config.proofs.Words.{[], ◌++◌, ◌∙◌, ◌∷◌, ◌≡◌, ◌≤◌, Component, Configuration, Edit, HaveNoFault, List}
use Rattle.script_config.proofs.Words.{Packet, Service, Sid, Sub, after, after_common, ap, append_assoc}
use Rattle.script_config.proofs.Words.{components_dropped, drop, drop_all, flat_map, length, nothing, packet_at}
use Rattle.script_config.proofs.Words.{packet_edits, packet_new, refl, service_at, service_edits, service_grown, sub_at}
use Rattle.script_config.proofs.Words.{sub_edits, sub_new, sym, ℕ}

-- ---- applying edits

-- the edits left have no fault, and result in the same configuration as all of them
pub record IsUnderWay (all left : List Edit) (c d : Configuration) : Type 0 where
  pub fine : HaveNoFault left d
  pub arrives : after left d ≡ after all c

-- ---- dropping components, the last one first

pub record AreDropped (sid : Sid) (ms : List Component) (place : ℕ) (old out : List Edit) : Type 0 where
  pub placed : place ≤ length ms
  pub so_far : out ≡ old ++ components_dropped sid (drop place ms)

-- ---- the longest common prefix

pub record IsCommon (ms ns : List Component) (place : ℕ) : Type 0 where
  pub placed : place ≤ length ms
  pub same : after_common (drop place ms) (drop place ns) ≡ after_common ms ns

behind_nothing : (ms : List Component) → after_common ms [] ≡ ms
behind_nothing [] = refl
behind_nothing (m ∷ ms) = refl

pub common_there : (ms ns : List Component) (place : ℕ) → length ns ≤ place → IsCommon ms ns place
    → drop place ms ≡ after_common ms ns
common_there ms ns place past h =
    let gone : drop place ns ≡ [] = drop_all place ns past in
    sym (behind_nothing (drop place ms)) ∙ sym (ap (λ (xs : List Component). after_common (drop place ms) xs) gone)
    ∙ h.same

-- ---- concatenation

-- the edits that add the members of three sets to a configuration, which is empty
pub made_joined : (n : Configuration) (ss : List Sub) (vs : List Service) (ps : List Packet)
    (none one two three : List Edit) → n ≡ nothing → none ≡ []
    → one ≡ none ++ flat_map (λ t. sub_new (sub_at t.id n) t) ss
    → two ≡ one ++ flat_map (λ t. service_grown (service_at t.sid n) t) vs
    → three ≡ two ++ flat_map (λ q. packet_new (packet_at q.scid n) q) ps
    → three ≡ flat_map sub_edits ss ++ (flat_map service_edits vs ++ flat_map packet_edits ps)
made_joined n ss vs ps none one two three empty n0 n1 n2 n3 =
    let a : List Edit = flat_map (λ t. sub_new (sub_at t.id n) t) ss in
    let b : List Edit = flat_map (λ t. service_grown (service_at t.sid n) t) vs in
    let c : List Edit = flat_map (λ q. packet_new (packet_at q.scid n) q) ps in
    let joined : three ≡ a ++ (b ++ c) =
    n3 ∙ ap (λ (es : List Edit). es ++ c) n2 ∙ append_assoc one b c
    ∙ ap (λ (es : List Edit). es ++ (b ++ c)) n1 ∙ append_assoc none a (b ++ c)
    ∙ ap (λ (es : List Edit). es ++ (a ++ (b ++ c))) n0 in
    joined ∙ ap (λ (m : Configuration). flat_map (λ t. sub_new (sub_at t.id m) t) ss
    ++ (flat_map (λ t. service_grown (service_at t.sid m) t) vs
    ++ flat_map (λ q. packet_new (packet_at q.scid m) q) ps)) empty

pub eight_joined : {T : Type 0} (a b c d e f g h none one two three four five six seven eight : List T) → none ≡ []
    → one ≡ none ++ a → two ≡ one ++ b → three ≡ two ++ c → four ≡ three ++ d
    → five ≡ four ++ e → six ≡ five ++ f → seven ≡ six ++ g → eight ≡ seven ++ h → eight ≡ a
    ++ (b ++ (c ++ (d ++ (e ++ (f ++ (g ++ h))))))
eight_joined a b c d e f g h none one two three four five six seven eight n1 n2 n3 n4 n5 n6 n7 n8 n9 =
    n9 ∙ ap (λ xs. xs ++ h) n8 ∙ append_assoc six g h
    ∙ ap (λ xs. xs ++ (g ++ h)) n7 ∙ append_assoc five f (g ++ h)
    ∙ ap (λ xs. xs ++ (f ++ (g ++ h))) n6 ∙ append_assoc four e (f ++ (g ++ h))
    ∙ ap (λ xs. xs ++ (e ++ (f ++ (g ++ h)))) n5 ∙ append_assoc three d (e ++ (f ++ (g ++ h)))
    ∙ ap (λ xs. xs ++ (d ++ (e ++ (f ++ (g ++ h))))) n4 ∙ append_assoc two c (d ++ (e ++ (f ++ (g ++ h))))
    ∙ ap (λ xs. xs ++ (c ++ (d ++ (e ++ (f ++ (g ++ h)))))) n3 ∙ append_assoc one b (c ++ (d ++ (e ++ (f ++ (g ++ h)))))
    ∙ ap (λ xs. xs ++ (b ++ (c ++ (d ++ (e ++ (f ++ (g ++ h))))))) n2
    ∙ append_assoc none a (b ++ (c ++ (d ++ (e ++ (f ++ (g ++ h))))))
    ∙ ap (λ xs. xs ++ (a ++ (b ++ (c ++ (d ++ (e ++ (f ++ (g ++ h)))))))) n1
