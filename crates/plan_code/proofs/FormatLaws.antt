-- The laws of formats: what is read is spelled so, what is spelled is read again, appended bytes do not affect the
-- reading, and a fault has its offset among the bytes. Those of a whole follow from those of its parts.
use Rattle.plan_code.proofs.Words.{[], ◌++◌, ◌+◌, ◌<◌, ◌∙◌, ◌∷◌, ◌≡◌, ◌≤◌, ◌▸◌, Err, Format, Front, Goes, IsBytes}
use Rattle.plan_code.proofs.Words.{IsComponent, IsSid, Kind, List, Ok, Placed, Reads, Short, Width, any_byte, any_u16}
use Rattle.plan_code.proofs.Words.{ap, append_assoc, arith, bind_ok, byte_from, byte_front, byte_within_again}
use Rattle.plan_code.proofs.Words.{byte_within_front, component, component_again, component_front, cond, done, flag}
use Rattle.plan_code.proofs.Words.{flag_again, flag_front, follows, front_then, goes_bind, goes_byte, goes_byte_within}
use Rattle.plan_code.proofs.Words.{goes_component, goes_flag, goes_judged, goes_number, goes_protection, goes_sid}
use Rattle.plan_code.proofs.Words.{guard_ok, judged, kind, le-ltb, length, long_again, long_front, ltb, ltb-false}
use Rattle.plan_code.proofs.Words.{mapped, nothing, number_at, number_from, ok_is, place, place_same, placed_bind}
use Rattle.plan_code.proofs.Words.{placed_byte, placed_byte_within, placed_component, placed_flag, placed_judged}
use Rattle.plan_code.proofs.Words.{placed_number, placed_protection, placed_sid, protection, protection_again}
use Rattle.plan_code.proofs.Words.{protection_front, refl, sid, sid_again, sid_front, subst, sym, tagged_at}
use Rattle.plan_code.proofs.Words.{to_be_bytes, u16_from, w16, w32, word_again, word_front, ℕ}
use Rattle.mux_eep.specs.Sizes.{Profile}
use Rattle.mux_config.specs.declared.record.RecordFault.TheVariants.{Field}
use Rattle.mux_config.specs.FieldReading.{◌>>=◌}

-- the laws of a format of the values with a property
pub record IsLawful {T : Type 0} (f : Format T) (P : T → Type 0) : Type 0 where
  pub front : (total : ℕ) (bytes : List ℕ) (x : T × List ℕ) → IsBytes bytes → f.read total bytes ≡ Ok x
      → Front bytes (f.spell x.0) x.1 × P x.0
  pub again : (total : ℕ) (x : T) (rest : List ℕ) → P x → f.read total (f.spell x ++ rest) ≡ Ok (x, rest)
  pub goes : (total : ℕ) (bytes more : List ℕ) → Goes more (f.read total bytes)
      (f.read (total + length more) (bytes ++ more))
  pub placed : (total : ℕ) (bytes : List ℕ) → length bytes ≤ total → Placed total (f.read total bytes)

-- with an equivalent property
pub adapted : {T : Type 0} {f : Format T} {P : T → Type 0} (Q : T → Type 0) → IsLawful f P → ((x : T) → P x → Q x)
    → ((x : T) → Q x → P x) → IsLawful f Q
adapted Q law there back = record {
  front = λ total bytes x fits e. let f = law.front total bytes x fits e in (f.0, there x.0 f.1);
  again = λ total x rest is. law.again total x rest (back x is);
  goes = law.goes;
  placed = law.placed;
}

-- ---- wholes

abbrev taken : {T : Type 0} → T × List ℕ → Reads T
taken x = Ok x

pub follows_is : {A B : Type 0} {a : Format A} {P : A → Type 0} (b : A → Format B) (Q : A → B → Type 0) → IsLawful a P
    → ((x : A) → IsLawful (b x) (Q x)) → IsLawful (follows a b) (λ x. P x.0 × Q x.0 x.1)
follows_is {A} {B} {a} {P} b Q first second = record {
  front = λ total bytes x fits e.
      let l = bind_ok (a.read total bytes) _ x e in
      let fl = first.front total bytes l.0 fits l.1 in
      let r = bind_ok ((b l.0.0).read total l.0.1) _ x l.2 in
      let fr = (second l.0.0).front total l.0.1 r.0 fl.0.rest_fits r.1 in
      subst (λ (y : (A × B) × List ℕ). Front bytes (a.spell y.0.0 ++ (b y.0.0).spell y.0.1) y.1
      × (P y.0.0 × Q y.0.0 y.0.1)) (ok_is ((l.0.0, r.0.0), r.0.1) x r.2)
      (front_then bytes (a.spell l.0.0) l.0.1 ((b l.0.0).spell r.0.0) r.0.1 fl.0 fr.0, (fl.1, fr.1));
  again = λ total x rest is.
      ap ((follows a b).read total) (append_assoc (a.spell x.0) ((b x.0).spell x.1) rest)
      ∙ rw (first.again total x.0 ((b x.0).spell x.1 ++ rest) is.0, (second x.0).again total x.1 rest is.1) refl;
  goes = λ total bytes more. goes_bind more _ _ _ _ (first.goes total bytes more)
      (λ x rest. goes_bind more _ _ _ _ ((second x).goes total rest more) (λ y last. refl));
  placed = λ total bytes left. placed_bind total _ _ (first.placed total bytes left)
      (λ x rest after. placed_bind total _ _ ((second x).placed total rest after) (λ y last end. end));
}

infixl 20 ◌then◌
pub ◌then◌ : {A B : Type 0} {a : Format A} {b : Format B} {P : A → Type 0} {Q : B → Type 0} → IsLawful a P
    → IsLawful b Q → IsLawful (a ▸ b) (λ x. P x.0 × Q x.1)
◌then◌ {b = b} {Q = Q} first second = follows_is (λ _. b) (λ _. Q) first (λ _. second)

pub made_is : {A T : Type 0} {a : Format A} {P : A → Type 0} (make : A → T) (parts : T → A) (Q : T → Type 0)
    → IsLawful a P
    → ((x : A) → P x → Q (make x) × (parts (make x) ≡ x)) → ((t : T) → Q t → P (parts t) × (make (parts t) ≡ t))
    → IsLawful (mapped make parts a) Q
made_is {A} {T} {a} {P} make parts Q law there back = record {
  front = λ total bytes t fits e.
      let x = bind_ok (a.read total bytes) _ t e in
      let f = law.front total bytes x.0 fits x.1 in
      let is = there x.0.0 f.1 in
      subst (λ (y : T × List ℕ). Front bytes (a.spell (parts y.0)) y.1 × Q y.0) (ok_is (make x.0.0, x.0.1) t x.2)
      (subst (λ (v : A). Front bytes (a.spell v) x.0.1) (sym is.1) f.0, is.0);
  again = λ total t rest is. let p = back t is in rw (law.again total (parts t) rest p.0, p.1) refl;
  goes = λ total bytes more. goes_bind more _ _ _ _ (law.goes total bytes more) (λ x rest. refl);
  placed = λ total bytes left. placed_bind total _ _ (law.placed total bytes left) (λ x rest after. after);
}

-- a kind is lawful, and its values are spelled with its tag, if it is one of those that are known
pub record IsKind {T : Type 0} (kind : Kind T) (known : Type 0) (text : List ℕ) (spell : T → List ℕ)
    (Q : T → Type 0) : Type 0 where
  pub read : (total : ℕ) (bytes : List ℕ) → kind.read total bytes
      ≡ (kind.format.read total bytes >>= λ x. taken (kind.make x.0, x.1))
  pub lawful : IsLawful kind.format (λ x. Q (kind.make x))
  pub spelled : known → (x : kind.Parts) → spell (kind.make x) ≡ text ++ kind.format.spell x

pub kind_is : {A T : Type 0} {format : Format A} {make : A → T} {known : Type 0} {text : List ℕ} {spell : T → List ℕ}
    {Q : T → Type 0} → IsLawful format (λ x. Q (make x))
    → (known → (x : A) → spell (make x) ≡ text ++ format.spell x) → IsKind (kind format make) known text spell Q
kind_is lawful spelled = record { read = λ total bytes. refl; lawful = lawful; spelled = spelled }

-- a value by its tag and its parts
pub record IsTagged {K T : Type 0} (P : K → Type 0) (kinds : K → Kind T) (t : T) : Type 0 where
  pub tag : K
  pub parts : (kinds tag).Parts
  pub known : P tag
  pub is : (kinds tag).make parts ≡ t

-- a tag, and what follows it
pub tagged_is : {K T : Type 0} {tag : Format K} {P : K → Type 0} (kinds : K → Kind T) (spell : T → List ℕ)
    (Q : T → Type 0) → IsLawful tag P
    → ((k : K) → IsKind (kinds k) (P k) (tag.spell k) spell Q) → ((t : T) → Q t → IsTagged P kinds t)
    → IsLawful (record { read = tagged_at tag kinds; spell = spell }) Q
tagged_is {K} {T} {tag} {P} kinds spell Q law each known = record {
  front = λ total bytes t fits e.
      let k = bind_ok (tag.read total bytes) _ t e in
      let fk = law.front total bytes k.0 fits k.1 in
      let is = each k.0.0 in
      let x = bind_ok ((kinds k.0.0).format.read total k.0.1) _ t (sym (is.read total k.0.1) ∙ k.2) in
      let fx = is.lawful.front total k.0.1 x.0 fk.0.rest_fits x.1 in
      let found : T × List ℕ = ((kinds k.0.0).make x.0.0, x.0.1) in
      let both = front_then bytes (tag.spell k.0.0) k.0.1 ((kinds k.0.0).format.spell x.0.0) x.0.1 fk.0 fx.0 in
      let here = subst (λ (s : List ℕ). Front bytes s x.0.1) (sym (is.spelled fk.1 x.0.0)) both in
      subst (λ (y : T × List ℕ). Front bytes (spell y.0) y.1 × Q y.0) (ok_is found t x.2) (here, fx.1);
  again = λ total t rest formed.
      let by = known t formed in
      let is = each by.tag in
      let text = (kinds by.tag).format.spell by.parts in
      ap (λ (s : List ℕ). tagged_at tag kinds total (s ++ rest)) (ap spell (sym by.is) ∙ is.spelled by.known by.parts)
      ∙ ap (tagged_at tag kinds total) (append_assoc (tag.spell by.tag) text rest)
      ∙ (rw (law.again total by.tag (text ++ rest) by.known) refl) ∙ is.read total (text ++ rest)
      ∙ rw (is.lawful.again total by.parts rest (subst Q (sym by.is) formed), by.is) refl;
  goes = λ total bytes more. goes_bind more _ _ _ _ (law.goes total bytes more) (λ k rest.
      rw ((each k).read total rest, (each k).read (total + length more) (rest ++ more))
      (goes_bind more _ _ _ _ ((each k).lawful.goes total rest more) (λ x last. refl)));
  placed = λ total bytes left. placed_bind total _ _ (law.placed total bytes left) (λ k rest after.
      rw ((each k).read total rest)
      (placed_bind total _ _ ((each k).lawful.placed total rest after) (λ x last end. end)));
}

-- ---- fields

pub nothing_is : IsLawful nothing (λ _. Unit {0})
nothing_is = record {
  front = λ total bytes x fits e. subst (λ (y : Unit {0} × List ℕ). Front bytes [] y.1 × Unit {0})
      (ok_is (tt, bytes) x e) (record { parts = refl; rest_fits = fits }, tt);
  again = λ total x rest is. refl;
  goes = λ total bytes more. refl;
  placed = λ total bytes left. left;
}

-- a byte of bytes
first_small : (bytes : List ℕ) (n : ℕ) (rest : List ℕ) → IsBytes bytes → Front bytes (n ∷ []) rest → n < 256
first_small bytes n rest fits f = let here : IsBytes (n ∷ rest) = subst IsBytes f.parts fits in here 0

pub any_byte_is : IsLawful any_byte (λ n. n < 256)
any_byte_is = record {
  front = λ total bytes x fits e. let f = byte_front bytes x fits e in (f, first_small bytes x.0 x.1 fits f);
  again = λ total n rest is. refl;
  goes = λ total bytes more. goes_byte bytes more;
  placed = λ total bytes left. placed_byte total bytes left;
}

pub byte_is : (low high : ℕ) → IsLawful (byte_from low high) (λ n. (low ≤ n) × (n ≤ high))
byte_is low high = record {
  front = λ total bytes x fits e. let f = byte_within_front total low high bytes x fits e in (f.0, (f.1, f.2));
  again = λ total n rest is. byte_within_again total low high n rest is.0 is.1;
  goes = λ total bytes more. goes_byte_within total low high bytes more;
  placed = λ total bytes left. placed_byte_within total low high bytes left;
}

pub byte_below : (limit : ℕ) → IsLawful (byte_from 0 limit) (λ n. n < limit + 1)
byte_below limit = adapted (λ n. n < limit + 1) (byte_is 0 limit) (λ n is. omega (arith, is.1))
    (λ n is. (omega arith, omega (arith, is)))

pub any_u16_is : IsLawful any_u16 (λ n. n < 65536)
any_u16_is = record {
  front = λ total bytes x fits e. word_front bytes x fits e;
  again = λ total n rest is. word_again n rest is;
  goes = λ total bytes more. goes_number w16 bytes more;
  placed = λ total bytes left. placed_number total w16 bytes left;
}

pub judged_is : (at low high : ℕ) (n x : ℕ × List ℕ) → judged at low high n ≡ Ok x → (n ≡ x) × (low ≤ x.0)
    × (x.0 ≤ high)
judged_is at low high n x e =
    let g = guard_ok (ltb n.0 low) (Field at) (cond (ltb high n.0) (Err (Field at)) (Ok n)) x e in
    let h = guard_ok (ltb high n.0) (Field at) (Ok n) x g.1 in
    let same : n ≡ x = ok_is n x h.1 in
    subst (λ (y : ℕ × List ℕ). (n ≡ y) × (low ≤ y.0) × (y.0 ≤ high)) same (refl, ltb-false _ _ g.0, ltb-false _ _ h.0)

-- a width of numbers below a limit
pub record IsWidth (w : Width) (limit : ℕ) : Type 0 where
  pub front : (bytes : List ℕ) (x : ℕ × List ℕ) → IsBytes bytes → number_at w bytes ≡ Ok x
      → Front bytes (to_be_bytes w x.0) x.1 × (x.0 < limit)
  pub again : (n : ℕ) (rest : List ℕ) → n < limit → number_at w (to_be_bytes w n ++ rest) ≡ Ok (n, rest)
  pub some : number_at w [] ≡ Err Short

-- a number that is read, and what is read after it, which may be at fault at the offset of the number
pub placed_wide : {B : Type 0} (w : Width) (limit total : ℕ) (bytes : List ℕ) (f : ℕ × List ℕ → Reads B)
    → IsWidth w limit → length bytes ≤ total
    → (place total bytes < total → (n : ℕ) (rest : List ℕ) → length rest ≤ total → Placed total (f (n, rest)))
    → Placed total (number_at w bytes >>= f)
placed_wide w limit total [] f width left next = rw width.some tt
placed_wide w limit total (b ∷ rest) f width left next =
    placed_bind total (number_at w (b ∷ rest)) f (placed_number total w (b ∷ rest) left) (next (omega (arith, left)))

-- a number within its range
abbrev pub IsFrom : (limit low high n : ℕ) → Type 0
IsFrom limit low high n = (low ≤ n) × (n ≤ high) × (n < limit)

number_is : (w : Width) (limit low high : ℕ) → IsWidth w limit
    → IsLawful (number_from w low high) (IsFrom limit low high)
number_is w limit low high width = record {
  front = λ total bytes x fits e.
      let b = bind_ok (number_at w bytes) (judged (place total bytes) low high) x e in
      let j = judged_is (place total bytes) low high b.0 x b.2 in
      let f = width.front bytes x fits (b.1 ∙ ap done j.0) in
      (f.0, (j.1, j.2, f.1));
  again = λ total n rest is. rw (width.again n rest is.2, le-ltb _ _ is.0, le-ltb _ _ is.1) refl;
  goes = λ total bytes more. goes_bind more _ _ _ _ (goes_number w bytes more)
      (λ n rest. goes_judged more _ _ low high n rest (place_same total bytes more));
  placed = λ total bytes left. placed_wide w limit total bytes _ width left
      (λ within n rest after. placed_judged total (place total bytes) low high n rest within after);
}

wide16 : IsWidth w16 65536
wide16 = record { front = word_front; again = word_again; some = refl }

pub wide32 : IsWidth w32 4294967296
wide32 = record { front = long_front; again = long_again; some = refl }

pub u16_is : (low high : ℕ) → IsLawful (u16_from low high) (IsFrom 65536 low high)
u16_is low high = number_is w16 65536 low high wide16

pub u32_is : (low high : ℕ) → IsLawful (number_from w32 low high) (IsFrom 4294967296 low high)
u32_is low high = number_is w32 4294967296 low high wide32

pub u16_below : (limit : ℕ) → limit < 65536 → IsLawful (u16_from 0 limit) (λ n. n < limit + 1)
u16_below limit small = adapted (λ n. n < limit + 1) (u16_is 0 limit) (λ n is. omega (arith, is.1))
    (λ n is. (omega arith, omega (arith, is), omega (arith, is, small)))

pub flag_is : IsLawful flag (λ _. Unit {0})
flag_is = record {
  front = λ total bytes x fits e. (flag_front total bytes x fits e, tt);
  again = λ total b rest _. flag_again total b rest;
  goes = goes_flag;
  placed = placed_flag;
}

abbrev pub IsProfile : Profile → Type 0
IsProfile p = (1 ≤ p.level) × (p.level ≤ 4)

pub protection_is : IsLawful protection IsProfile
protection_is = record {
  front = λ total bytes x fits e. let f = protection_front total bytes x fits e in (f.0, (f.1, f.2));
  again = λ total p rest is. protection_again total p rest is.0 is.1;
  goes = goes_protection;
  placed = placed_protection;
}

pub sid_is : IsLawful sid IsSid
sid_is = record { front = sid_front; again = sid_again; goes = goes_sid; placed = placed_sid }

pub component_is : IsLawful component IsComponent
component_is = record {
  front = component_front;
  again = component_again;
  goes = goes_component;
  placed = placed_component;
}
