-- Where a code is suspended: what an answer there says.
use Rattle.schedule_verifier.proofs.Words.{◌+◌, ◌≡◌, Answer, Ask, Bool, Changes, CommitIn, Configuration, Contacts}
use Rattle.schedule_verifier.proofs.Words.{End, GoesOn, IfYes, IsAway, Join, Lasts, LeadsOn, No, None, Option}
use Rattle.schedule_verifier.proofs.Words.{Program, Region, Rests, Some, Stays, Throughout, Tree, WaitAny, Yes, cond}
use Rattle.schedule_verifier.proofs.Words.{everything, false, instr_at, moment, refl, true, ℕ}
use Rattle.schedule_verifier.proofs.Words.{Comes, subst}
use Rattle.schedule_verifier.proofs.Regions.{everywhere}
use Rattle.schedule_verifier.proofs.Waiting.{IsDue}
use Rattle.schedule_verifier.proofs.Walking.{by_instr}

pub if_yes : (a : Answer) (P Q : Type 0) → (P → Q) → IfYes a P → IfYes a Q
if_yes Yes P Q f h = f h
if_yes No P Q f h = tt
if_yes (Ask q) P Q f h = tt

pub if_told : (b : Bool) (a : Answer) (P : Type 0) → a ≡ cond b Yes No → (b ≡ true → P) → IfYes a P
if_told true Yes P e h = h refl
if_told true No P e h = tt
if_told true (Ask q) P e h = tt
if_told false Yes P e h = absurd cc
if_told false No P e h = tt
if_told false (Ask q) P e h = tt

-- ---- commits

pub changes_known : (s : Tree) (code : Program) (current : Configuration) (r : Region) (pc delay : ℕ)
    (next : Configuration) (a : Answer) → delay ≡ s.header.notice → instr_at code (pc + 1) ≡ Some Join
    → GoesOn code (pc + 2) next → IfYes a (Throughout r (IsDue s next))
    → IfYes a (Throughout r (λ contacts day. Changes (moment s code current contacts day) pc next delay))
changes_known s code current r pc delay next a noticed joins onward h =
    if_yes a _ _ (λ all contacts day c. record {
      noticed = noticed;
      wanted = all contacts day c;
      joins = joins;
      onward = onward;
    }) h

pub commit_leads : (s : Tree) (code : Program) (current : Configuration) (r : Region) (pc delay : ℕ)
    (next : Configuration) (a : Answer) → instr_at code pc ≡ Some (CommitIn delay)
    → IfYes a (Throughout r (λ contacts day. Changes (moment s code current contacts day) pc next delay))
    → IfYes a (Throughout r (λ contacts day. LeadsOn (moment s code current contacts day) pc next))
commit_leads s code current r pc delay next a at h =
    if_yes a _ _ (λ all contacts day c.
    by_instr (moment s code current contacts day) code pc (CommitIn delay) next refl at 0 (all contacts day c)) h

-- ---- waits

pub rests_known : (s : Tree) (code : Program) (current next : Configuration) (r : Region) (pc : ℕ)
    (closed opened : Contacts) (until frames : Option ℕ) → frames ≡ None → next ≡ current
    → Throughout r (λ contacts day. IsAway closed opened contacts) → GoesOn code (pc + 1) current
    → Throughout r (λ contacts day. Lasts s current closed opened until day)
    → Throughout r (λ contacts day. Rests (moment s code current contacts day) pc next closed opened until frames)
rests_known s code current next r pc closed opened until frames endless same away onward lasts contacts day h = record {
  same = same;
  endless = endless;
  away = away contacts day h;
  ahead = (lasts contacts day h).0;
  keeps = (lasts contacts day h).1;
  onward = onward;
}

pub wait_leads : (s : Tree) (code : Program) (current next : Configuration) (r : Region) (pc : ℕ)
    (closed opened : Contacts) (until frames : Option ℕ) (b : Bool) (a : Answer)
    → instr_at code pc ≡ Some (WaitAny closed opened until frames) → a ≡ cond b Yes No
    → (b ≡ true → Throughout r (λ contacts day.
    Rests (moment s code current contacts day) pc next closed opened until frames))
    → IfYes a (Throughout r (λ contacts day. LeadsOn (moment s code current contacts day) pc next))
wait_leads s code current next r pc closed opened until frames b a at told h =
    if_told b a _ told (λ e contacts day c. by_instr (moment s code current contacts day) code pc
    (WaitAny closed opened until frames) next refl at 0 (h e contacts day c))

-- ---- ends

pub stays_known : (s : Tree) (current next : Configuration) → next ≡ current
    → Throughout everything (IsDue s current)
    → (code : Program) (contacts : Contacts) (day : ℕ) → Stays (moment s code current contacts day) next
stays_known s current next same all code contacts day =
    record { same = same; always = λ others later low. all others later (everywhere others later low) }

pub end_leads : (s : Tree) (code : Program) (current next : Configuration) (r : Region) (pc : ℕ) (b : Bool) (a : Answer)
    → instr_at code pc ≡ Some End → a ≡ cond b Yes No
    → (b ≡ true → (code : Program) (contacts : Contacts) (day : ℕ) → Stays (moment s code current contacts day) next)
    → IfYes a (Throughout r (λ contacts day. LeadsOn (moment s code current contacts day) pc next))
end_leads s code current next r pc b a at told h =
    if_told b a _ told (λ e contacts day c. by_instr (moment s code current contacts day) code pc End next refl at 0
    (h e code contacts day))

-- ---- from a top

pub judged : (s : Tree) (code : Program) (r : Region) (top pc : ℕ) (current old new : Configuration) (a : Answer)
    → old ≡ current → Comes code r top old pc new
    → IfYes a (Throughout r (λ contacts day. LeadsOn (moment s code current contacts day) pc new))
    → IfYes a (Throughout r (λ contacts day. LeadsOn (moment s code current contacts day) top current))
judged s code r top pc current old new a same come h =
    if_yes a _ _ (λ all contacts day c. subst (λ (next : Configuration).
    LeadsOn (moment s code current contacts day) top next) same
    (come (moment s code current contacts day) refl c (all contacts day c))) h
