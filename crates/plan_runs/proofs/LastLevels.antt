-- Only the last level of each contact counts in contact settings.
use Rattle.plan_runs.proofs.Words.{[], ◌++◌, ◌-◌, ◌<◌, ◌^◌, ◌∙◌, ◌∷◌, ◌≡◌, AgreeOnContacts, AllByRecursion, Bool}
use Rattle.plan_runs.proofs.Words.{Contacts, Event, Frame, IsSetting, LastLevelsCount, List, None, Option, Program}
use Rattle.plan_runs.proofs.Words.{Setting, Some, State, after_frame, ap, arith, bit_at, bit_at-lt, cond}
use Rattle.plan_runs.proofs.Words.{contacts_change_alone, eqb, eqb-false, eqb-true, false, frame_bytes, is_closed}
use Rattle.plan_runs.proofs.Words.{last_level, last_of, level_by, refl, run, run_frames, run_states}
use Rattle.plan_runs.proofs.Words.{same_from_bits_below, schedule, set_events, subst, sym, true, with_contact, ℕ}
use Rattle.std.proofs.lemmas.Nat.{pow_below, or_lt, and_le_l}
use Rattle.plan_runs.proofs.Clock.{frame_contacts}

-- ---- the contacts after settings

abbrev contacts_after : List Setting → Contacts → Contacts
contacts_after [] contacts = contacts
contacts_after (x ∷ xs) contacts = contacts_after xs (with_contact x.contact x.closed contacts)

abbrev at_contacts : State → Contacts → State
at_contacts s contacts = record s { contacts = contacts }

with_contact_below : (contacts : Contacts) (c : ℕ) (closed : Bool) → c < 16 → contacts.0 < 2 ^ 16
    → (with_contact c closed contacts).0 < 2 ^ 16
with_contact_below contacts c true within below = or_lt 16 contacts.0 (2 ^ c) below (pow_below c 16 within)
with_contact_below contacts c false within below = omega (arith, and_le_l contacts.0 (2 ^ 16 - 1 - 2 ^ c), below)

below_after : (xs : List Setting) (contacts : Contacts) → AllByRecursion IsSetting xs → contacts.0 < 2 ^ 16
    → (contacts_after xs contacts).0 < 2 ^ 16
below_after [] contacts within below = below
below_after (x ∷ xs) contacts within below =
    below_after xs (with_contact x.contact x.closed contacts) within.1
    (with_contact_below contacts x.contact x.closed within.0 below)

-- a level, if there is one
abbrev level_or : Option Bool → Bool → Bool
level_or None before = before
level_or (Some closed) before = closed

level_after_one : (x : Setting) (contacts : Contacts) (c : ℕ) → IsSetting x → c < 16 → (same : Bool)
    → eqb x.contact c ≡ same
    → is_closed (with_contact x.contact x.closed contacts) c
    ≡ level_or (cond same (Some x.closed) None) (is_closed contacts c)
level_after_one x contacts c within low true is =
    rw (← (eqb-true _ _ is)) (contacts_change_alone contacts x.contact x.closed within).0
level_after_one x contacts c within low false is =
    (contacts_change_alone contacts x.contact x.closed within).1 c low (λ e. (eqb-false _ _ is) (sym e))

level_joined : (earlier later : Option Bool) (before : Bool)
    → level_or later (level_or earlier before) ≡ level_or (last_of earlier later) before
level_joined earlier None before = refl
level_joined earlier (Some closed) before = refl

level_after : (xs : List Setting) (contacts : Contacts) (c : ℕ) → AllByRecursion IsSetting xs → c < 16
    → is_closed (contacts_after xs contacts) c ≡ level_or (last_level c xs) (is_closed contacts c)
level_after [] contacts c within low = refl
level_after (x ∷ xs) contacts c within low =
    level_after xs (with_contact x.contact x.closed contacts) c within.1 low
    ∙ ap (λ b. level_or (last_level c xs) b) (level_after_one x contacts c within.0 low (eqb x.contact c) refl)
    ∙ level_joined (level_by c x) (last_level c xs) (is_closed contacts c)

-- ---- equivalent settings have the same effect

same_contacts : (a b : Contacts) → a.0 ≡ b.0 → a ≡ b
same_contacts a b e = ap (λ (n : ℕ). let r : Contacts = record { 0 = n } in r) e

alike_contacts : (xs ys : List Setting) (contacts : Contacts) → AllByRecursion IsSetting xs
    → AllByRecursion IsSetting ys → contacts.0 < 2 ^ 16 → AgreeOnContacts xs ys
    → contacts_after xs contacts ≡ contacts_after ys contacts
alike_contacts xs ys contacts in_xs in_ys below alike =
    let a = contacts_after xs contacts in
    let b = contacts_after ys contacts in
    let bits : (i : ℕ) → i < 16 → bit_at a.0 i ≡ bit_at b.0 i =
    λ i low.
    let same : is_closed a i ≡ is_closed b i =
    level_after xs contacts i in_xs low ∙ ap (λ l. level_or l (is_closed contacts i)) (alike i)
    ∙ sym (level_after ys contacts i in_ys low) in
    grind (arith, (bit_at-lt a.0 i), (bit_at-lt b.0 i), same) in
    same_contacts a b (same_from_bits_below 16 a.0 b.0 (below_after xs contacts in_xs below)
    (below_after ys contacts in_ys below) bits)

-- ---- runs over settings

run_settings : (xs : List Setting) (p : Program) (s : State) (es : List Event)
    → run p s (set_events xs ++ es) ≡ run p (at_contacts s (contacts_after xs s.contacts)) es
run_settings [] p s es = refl
run_settings (x ∷ xs) p s es = run_settings xs p (at_contacts s (with_contact x.contact x.closed s.contacts)) es

frames_settings : (xs : List Setting) (p : Program) (s : State) (es : List Event)
    → run_frames p s (set_events xs ++ es) ≡ run_frames p (at_contacts s (contacts_after xs s.contacts)) es
frames_settings [] p s es = refl
frames_settings (x ∷ xs) p s es = frames_settings xs p (at_contacts s (with_contact x.contact x.closed s.contacts)) es

states_settings : (xs : List Setting) (p : Program) (s : State) (es : List Event)
    → run_states p s (set_events xs ++ es) ≡ run_states p (at_contacts s (contacts_after xs s.contacts)) es
states_settings [] p s es = refl
states_settings (x ∷ xs) p s es = states_settings xs p (at_contacts s (with_contact x.contact x.closed s.contacts)) es

-- the trailing settings can be at the end of a list
end_list : (es : List Event) → es ++ [] ≡ es
end_list [] = refl
end_list (e ∷ es) = ap (λ xs. e ∷ xs) (end_list es)

at_end : {A : Type 0} (f : List Event → A) (xs : List Setting) → f (set_events xs ++ []) ≡ f (set_events xs)
at_end f xs = ap f (end_list (set_events xs))

pub last_levels_count : LastLevelsCount
last_levels_count p s [] [] last other below in_these in_those in_last in_other alike alike_last =
    let e : at_contacts s (contacts_after last s.contacts) ≡ at_contacts s (contacts_after other s.contacts) =
    ap (λ c. at_contacts s c) (alike_contacts last other s.contacts in_last in_other below alike_last) in (
      sym (at_end (run_frames p s) last) ∙ frames_settings last p s [] ∙ ap (λ t. run_frames p t []) e
          ∙ sym (frames_settings other p s []) ∙ at_end (run_frames p s) other,
      sym (at_end (run_states p s) last) ∙ states_settings last p s [] ∙ ap (λ t. run_states p t []) e
          ∙ sym (states_settings other p s []) ∙ at_end (run_states p s) other,
      sym (at_end (run p s) last) ∙ run_settings last p s [] ∙ ap (λ t. run p t []) e ∙ sym (run_settings other p s [])
          ∙ at_end (run p s) other,
    )
last_levels_count p s (x ∷ these) (y ∷ those) last other below in_these in_those in_last in_other alike alike_last =
    let t = at_contacts s (contacts_after x s.contacts) in
    let e = ap (λ c. at_contacts s c) (alike_contacts x y s.contacts in_these.0 in_those.0 below alike.0) in
    let here = Frame ∷ schedule these last in
    let there = Frame ∷ schedule those other in
    let still : (after_frame p t).contacts.0 < 2 ^ 16 =
    subst (λ (c : Contacts). c.0 < 2 ^ 16) (sym (frame_contacts p t)) (below_after x s.contacts in_these.0 below) in
    let more = last_levels_count p (after_frame p t) these those last other still in_these.1 in_those.1 in_last in_other
    alike.1 alike_last in (
      frames_settings x p s here ∙ ap (λ fs. frame_bytes p t ∷ fs) more.0 ∙ ap (λ u. run_frames p u there) e
          ∙ sym (frames_settings y p s there),
      states_settings x p s here ∙ ap (λ ss. t ∷ after_frame p t ∷ ss) more.1 ∙ ap (λ u. run_states p u there) e
          ∙ sym (states_settings y p s there),
      run_settings x p s here ∙ more.2 ∙ ap (λ u. run p u there) e ∙ sym (run_settings y p s there),
    )
last_levels_count p s _ _ last other below in_these in_those in_last in_other alike alike_last = absurd alike
