-- Once the current configuration is settled, all its entries are known.
use Rattle.stream_laws.proofs.Words.{[], ◌&&◌, ◌==◌, ◌∙◌, ◌∷◌, ◌≡◌, AllByRecursion, Bool, Configuration, HasAll, Holds}
use Rattle.stream_laws.proofs.Words.{In, IsCode, IsConfiguration, IsOf, IsPart, IsPartial, Item, Known, List, Listening}
use Rattle.stream_laws.proofs.Words.{Moment, None, Nothing, Option, Or, Pictured, Plan, Program, Raw, Said, SaidIn}
use Rattle.stream_laws.proofs.Words.{Some, State, Tuned, after_is, agree, airs, and_right, ap, cond, count_step}
use Rattle.stream_laws.proofs.Words.{ensemble_sent, entry_at, entry_is_of, eq-eqb, false, false≢true, frames_ended}
use Rattle.stream_laws.proofs.Words.{headed, hear_entry, hears_entries, identifier_of, inl, inr, is_absent, is_ensemble}
use Rattle.stream_laws.proofs.Words.{is_settled, known_of, layout_mode, length, listener_after, listening, lookup}
use Rattle.stream_laws.proofs.Words.{lookup_among, lookup_in, member_heard, member_settles, nat_le, raw_entry, refl}
use Rattle.stream_laws.proofs.Words.{said, settles_at, shown, subst, sym, true, tuned_weaker, whole_is_set, whole_of, ℕ}
use Rattle.stream_laws.proofs.Words.{in_partly, sent_ext}
use Rattle.stream_check.specs.declared.heard_table.Lookup.TheVariants as standings
use Rattle.stream_laws.proofs.Sending.{IsSentItem}
use Rattle.stream_laws.proofs.Agreeing.{one_heard}
use Rattle.stream_laws.proofs.AgreeingRuns.{on_air}
use Rattle.stream_laws.proofs.Findings.{Each, IsKnown}
use Rattle.stream_laws.proofs.Clean.{said_ended}
use Rattle.stream_laws.proofs.Opening.{said_settles, IsOpened, each_opened, Enters}

-- ---- a known entry is not absent

some_no_none : {X : Type 0} (x : Raw) → Some x ≡ None → X
some_no_none x e = absurd cc

not_none : (rs : List Raw) (x : Raw) → In x rs → entry_at identifier_of (identifier_of x) rs ≡ None → ⊥
not_none [] x h e = absurd h
not_none (y ∷ ys) x (inl same) e =
    let here = eq-eqb (identifier_of y) (identifier_of x) (ap identifier_of same) in
    some_no_none y (sym (ap (λ b. cond b (Some y) (entry_at identifier_of (identifier_of x) ys)) here) ∙ e)
not_none (y ∷ ys) x (inr more) e =
    elim (identifier_of y == identifier_of x) as (λ b.
    cond b (Some y) (entry_at identifier_of (identifier_of x) ys) ≡ None → ⊥) [
      | true ↦ λ f. some_no_none y f
      | false ↦ λ f. not_none ys x more f
    ] e

present_by : (raw : Raw) (part : List Raw) → In raw part → (found : Option Raw)
    → entry_at identifier_of (identifier_of raw) part ≡ found → is_absent (lookup_among raw (length part) found) ≡ false
present_by raw part h None e = absurd (not_none part raw h e)
present_by raw part h (Some k) e =
    elim (agree k raw) as (λ b. is_absent (cond b standings.Same standings.Other) ≡ false)
    [ true ↦ refl | false ↦ refl ]

present : (full : List Raw) (C : Raw → Type 0) (raw : Raw) (part : List Raw) → In raw full → IsPart full C part → C raw
    → is_absent (lookup raw part) ≡ false
present full C raw part inside h c =
    let there : In raw part = rw h.is (in_partly h.known full raw inside (h.has raw inside c)) in
    present_by raw part there (entry_at identifier_of (identifier_of raw) part) refl

pub present_in : (full : Pictured) (C : Raw → Type 0) (raw : Raw) (p : Pictured) → IsOf raw full → IsPartial full C p
    → C raw → is_absent (lookup_in raw p) ≡ false
present_in full C raw p (inl (ext, inside)) h c = cc (ext, present full.subs C raw p.subs inside h.subs c)
present_in full C raw p (inr (inl (ext, inside))) h c =
    cc (ext, present full.services C raw p.services inside h.services c)
present_in full C raw p (inr (inr (ext, inside))) h c =
    cc (ext, present full.packets C raw p.packets inside h.packets c)

-- ---- the entries of a frame

-- the current configuration is settled
abbrev pub IsSettledAt : ℕ → List Moment → Type 0
IsSettledAt period past = nat_le (settles_at period past) (frames_ended past) ≡ true

pub members_settled : (step period : ℕ) (on : Bool) (c n : Configuration) → IsConfiguration c → IsConfiguration n
    → (C : Raw → Type 0) (awaited : Option ℕ) (items : List Item) (past : List Moment) (l : Listening)
    → listening past ≡ Some l → Tuned on c n C Nothing awaited l → AllByRecursion (IsSentItem on c n) items
    → (IsSettledAt period past → HasAll c C) → Each (IsKnown step period) past items
members_settled step period on c n is_c is_n C awaited [] past l is h all whole = tt
members_settled step period on c n is_c is_n C awaited (i ∷ items) past l is h all whole =
    let s = all.0 in
    let e : is_ensemble i ≡ false = ap (λ (x : Raw). x.ext == 0) s.raw ∙ sent_ext on c n s.m s.sent in
    let hears = hears_entries on c n C Nothing awaited (s.m ∷ []) l (whole_is_set c is_c) (whole_is_set n is_n)
    (s.sent, tt) h in
    let later : listening (Said i ∷ past) ≡ Some hears.after =
    member_heard past i l is ∙ ap (λ b. hear_entry b i.raw l) s.next ∙ ap (λ x. hear_entry s.m.next x l) s.raw
    ∙ (one_heard (hear_entry s.m.next (raw_entry s.m.entry) l) hears.after hears.is) in
    let knows = tuned_weaker on c n (Or C (SaidIn false (s.m ∷ []))) C (Or Nothing (SaidIn true (s.m ∷ []))) Nothing
    awaited hears.after (λ x had. inl had) (λ x no_entry. absurd no_entry) hears.knows in
    let rest = members_settled step period on c n is_c is_n C awaited items (Said i ∷ past) hears.after later knows
    all.1
    (λ settled. whole (ap (λ t. nat_le t (frames_ended past)) (member_settles period past i e) ∙ settled)) in
    let known : IsSettledAt period past → i.next ≡ false
    → is_absent (lookup_in i.raw (listener_after past).current) ≡ false = λ settled current.
    elim s.sent [
      | inl sent ↦ (
          let inside = subst (λ (x : Raw). IsOf x (whole_of c)) (sym s.raw) (entry_is_of c s.m.entry sent.1) in
          let had : C i.raw = subst C (sym s.raw) (whole settled s.m.entry sent.1) in
          ap (λ (x : Listening). is_absent (lookup_in i.raw x.current)) (after_is past l is)
          ∙ present_in (whole_of c) C i.raw l.current inside h.current had
          )
      | inr sent ↦ absurd (false≢true (sym current ∙ s.next ∙ sent.1))
    ] in
    ((λ other current. by known current (is_settled (known_of step period past)) refl), rest)
  where
    by : (IsSettledAt period past → i.next ≡ false → is_absent (lookup_in i.raw (listener_after past).current) ≡ false)
        → i.next ≡ false → (b : Bool) → is_settled (known_of step period past) ≡ b
        → (is_absent (lookup_in i.raw (listener_after past).current) && is_settled (known_of step period past)) ≡ false
    by known current true settled = ap (λ t. t && is_settled (known_of step period past)) (known settled current)
    by known current false settled = and_right (is_absent (lookup_in i.raw (listener_after past).current)) _ settled

pub frame_settled : (period : ℕ) (p : Program) (ts : List Known) → IsCode p ts → (s : State) → Holds p ts s
    → (past : List Moment) (C N : Raw → Type 0) (made : Bool) (items : List Item)
    → IsOpened p.plan (shown p s) made past items
    → Enters p s past C N → (IsSettledAt period (said items past) → HasAll (shown p s).current C)
    → Each (IsKnown (count_step (layout_mode p.plan.layout)) period) past items
frame_settled period p ts c s holds past C N made items o en whole =
    let plan : Plan = p.plan in
    let u : State = shown p s in
    let step : ℕ = count_step (layout_mode plan.layout) in
    let on : Bool = on_air plan u in
    let a = airs p ts c s holds in
    let f = en.entered in
    let l : Listening = headed (ensemble_sent plan u) en.heard in
    let known = tuned_weaker _ _ _ _ _ _ _ _ _ (λ x y. y) (λ x no_entry. absurd no_entry) f.knows in
    each_opened (IsKnown step period) plan u made past items o
    (λ i ens says other. absurd (false≢true (sym other ∙ ens)))
    (members_settled step period on u.current u.next a.current a.next C f.awaited o.members (said o.heads past) l
    (o.hears en.heard en.is).0 known o.sent
    (λ settled. whole (subst (IsSettledAt period) (sym o.are) (stays settled))))
  where
    stays : IsSettledAt period (said o.heads past) → IsSettledAt period (said o.members (said o.heads past))
    stays settled =
        ap (λ t. nat_le t (frames_ended (said o.members (said o.heads past))))
        (said_settles period o.members (said o.heads past) o.none)
        ∙ ap (nat_le (settles_at period (said o.heads past))) (said_ended o.members (said o.heads past)) ∙ settled
