-- There are few edits between two configurations: a plan has room for them, and a wait after each.
use Rattle.script_config.proofs.Words.{[], ◌*◌, ◌++◌, ◌+◌, ◌==◌, ◌∷◌, ◌≡◌, ◌≤◌, AllByRecursion, Bool, Configuration}
use Rattle.script_config.proofs.Words.{DropSub, Edit, IsConfiguration, IsService, List, None, Option, Packet, Service}
use Rattle.script_config.proofs.Words.{Some, Sub, after_common, alterations, arith, cond, edits_between, false}
use Rattle.script_config.proofs.Words.{flat_map, is_same_packet, is_same_profile, length, length-append, nat_lt}
use Rattle.script_config.proofs.Words.{packet_at, packet_gone, packet_new, rate_altered, service_at, service_cut}
use Rattle.script_config.proofs.Words.{service_gone, service_grown, start_altered, sub_altered, sub_at, sub_gone}
use Rattle.script_config.proofs.Words.{sub_new, true, ℕ}
use Rattle.script_config.proofs.Counting.{few_each, each_any, chosen, behind_few, dropped_length, added_length}
use Rattle.script_config.proofs.Counting.{added_few, service_few}

-- two kinds of edits for each member
both_few : {T : Type 0} (P : T → Type 0) (f g : T → List Edit) (most : ℕ)
    → ((x : T) → P x → length (f x) + length (g x) ≤ most) → (xs : List T) → AllByRecursion P xs
    → length (flat_map f xs) + length (flat_map g xs) ≤ most * length xs
both_few P f g most few [] h = omega arith
both_few P f g most few (x ∷ xs) h =
    let rest = both_few P f g most few xs h.1 in
    let first = few x h.0 in
    let long = length-append (f x) (flat_map f xs) in
    let other = length-append (g x) (flat_map g xs) in
    let split : most * length (x ∷ xs) ≡ most + most * length xs = omega arith in
    omega (arith, rest, first, long, other, split)

-- ---- services

-- a service is dropped whole, or loses components
less_few : (o : Option Service) (s : Service) → IsService s → length (service_gone o s) + length (service_cut o s) ≤ 12
less_few None s h = omega arith
less_few (Some t) s h =
    let few = service_few s h in
    let less = behind_few s.components t.components in
    let same = dropped_length s.sid (after_common s.components t.components) in
    omega (arith, few, less, same)

grown_few : (o : Option Service) (t : Service) → IsService t → length (service_grown o t) ≤ 13
grown_few None t h = added_few t h
grown_few (Some s) t h =
    let few = service_few t h in
    let less = behind_few t.components s.components in
    let same = added_length t.sid (after_common t.components s.components) in
    omega (arith, few, less, same)

-- ---- sub-channels and packet components

packet_gone_few : (o : Option Packet) (p : Packet) → length (packet_gone o p) ≤ 1
packet_gone_few None p = omega arith
packet_gone_few (Some q) p = chosen (is_same_packet p q) [] _ 1 (omega arith) (omega arith)

packet_new_few : (o : Option Packet) (q : Packet) → length (packet_new o q) ≤ 1
packet_new_few None q = omega arith
packet_new_few (Some p) q = chosen (is_same_packet p q) [] _ 1 (omega arith) (omega arith)

start_few : (s t : Sub) → length (start_altered s t) ≤ 1
start_few s t = chosen (s.start == t.start) [] _ 1 (omega arith) (omega arith)

rate_few : (s t : Sub) → length (rate_altered s t) ≤ 1
rate_few s t = chosen (s.kbits == t.kbits) [] _ 1 (omega arith) (omega arith)

alterations_few : (s t : Sub) → length (alterations s t) ≤ 2
alterations_few s t =
    let one = start_few s t in
    let two = rate_few s t in
    let l1 = length-append (rate_altered s t) (start_altered s t) in
    let l2 = length-append (start_altered s t) (rate_altered s t) in
    chosen (nat_lt t.kbits s.kbits) (rate_altered s t ++ start_altered s t) (start_altered s t ++ rate_altered s t) 2
    (omega (arith, one, two, l1)) (omega (arith, one, two, l2))

-- a sub-channel is dropped, or altered
other_few : (b : Bool) (s t : Sub) → length (cond b [] (DropSub s.id ∷ [])) + length (cond b (alterations s t) []) ≤ 2
other_few true s t = let few = alterations_few s t in omega (arith, few)
other_few false s t = omega arith

sub_less_few : (o : Option Sub) (s : Sub) → length (sub_gone o s) + length (sub_altered o s) ≤ 2
sub_less_few None s = omega arith
sub_less_few (Some t) s = other_few (is_same_profile s.protection t.protection) s t

sub_new_few : (o : Option Sub) (t : Sub) → length (sub_new o t) ≤ 1
sub_new_few None t = omega arith
sub_new_few (Some s) t = chosen (is_same_profile s.protection t.protection) [] _ 1 (omega arith) (omega arith)

-- ---- all

pub few_between : (from to : Configuration) → IsConfiguration from → IsConfiguration to
    → length (edits_between from to) ≤ 1920
few_between from to f t =
    let e1 : List Edit = flat_map (λ s. service_gone (service_at s.sid to) s) from.services in
    let e2 : List Edit = flat_map (λ s. service_cut (service_at s.sid to) s) from.services in
    let e3 : List Edit = flat_map (λ p. packet_gone (packet_at p.scid to) p) from.packets in
    let e4 : List Edit = flat_map (λ s. sub_gone (sub_at s.id to) s) from.subs in
    let e5 : List Edit = flat_map (λ s. sub_altered (sub_at s.id to) s) from.subs in
    let e6 : List Edit = flat_map (λ t. sub_new (sub_at t.id from) t) to.subs in
    let e7 : List Edit = flat_map (λ q. packet_new (packet_at q.scid from) q) to.packets in
    let e8 : List Edit = flat_map (λ t. service_grown (service_at t.sid from) t) to.services in
    let b1 : length e1 + length e2 ≤ 12 * length from.services =
    both_few IsService (λ s. service_gone (service_at s.sid to) s) (λ s. service_cut (service_at s.sid to) s) 12
    (λ s h. less_few (service_at s.sid to) s h) from.services f.services_formed in
    let b3 : length e3 ≤ 1 * length from.packets =
    few_each (λ p. Unit {0}) (λ p. packet_gone (packet_at p.scid to) p) 1
    (λ p _. packet_gone_few (packet_at p.scid to) p) from.packets (each_any from.packets) in
    let b4 : length e4 + length e5 ≤ 2 * length from.subs =
    both_few (λ s. Unit {0}) (λ s. sub_gone (sub_at s.id to) s) (λ s. sub_altered (sub_at s.id to) s) 2
    (λ s _. sub_less_few (sub_at s.id to) s) from.subs (each_any from.subs) in
    let b6 : length e6 ≤ 1 * length to.subs =
    few_each (λ s. Unit {0}) (λ t. sub_new (sub_at t.id from) t) 1 (λ t _. sub_new_few (sub_at t.id from) t) to.subs
    (each_any to.subs) in
    let b7 : length e7 ≤ 1 * length to.packets =
    few_each (λ p. Unit {0}) (λ q. packet_new (packet_at q.scid from) q) 1
    (λ q _. packet_new_few (packet_at q.scid from) q) to.packets (each_any to.packets) in
    let b8 : length e8 ≤ 13 * length to.services =
    few_each IsService (λ t. service_grown (service_at t.sid from) t) 13
    (λ t h. grown_few (service_at t.sid from) t h) to.services t.services_formed in
    let l1 = length-append e1 (e2 ++ (e3 ++ (e4 ++ (e5 ++ (e6 ++ (e7 ++ e8)))))) in
    let l2 = length-append e2 (e3 ++ (e4 ++ (e5 ++ (e6 ++ (e7 ++ e8))))) in
    let l3 = length-append e3 (e4 ++ (e5 ++ (e6 ++ (e7 ++ e8)))) in
    let l4 = length-append e4 (e5 ++ (e6 ++ (e7 ++ e8))) in
    let l5 = length-append e5 (e6 ++ (e7 ++ e8)) in
    let l6 = length-append e6 (e7 ++ e8) in
    let l7 = length-append e7 e8 in
    omega (arith, b1, b3, b4, b6, b7, b8, l1, l2, l3, l4, l5, l6, l7)

pub between_few : (from to : Configuration) → IsConfiguration from → IsConfiguration to
    → length (edits_between from to) ≤ 2048
between_few from to f t = omega (arith, few_between from to f t)
