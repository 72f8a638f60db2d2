-- The frames of a run, one after another, agree with the past of the stream.
use Rattle.stream_laws.proofs.Words.{[], ◌%◌, ◌&&◌, ◌-◌, ◌==◌, ◌||◌, ◌∙◌, ◌∷◌, ◌≡◌, ◌≢◌, ◌≤◌, ◌⊎◌, Airs, Bool, Contact}
use Rattle.stream_laws.proofs.Words.{Ended, EnsembleInformation, Fib, Holds, InFrame, IsCode, Item, Known, Laws, Links}
use Rattle.stream_laws.proofs.Words.{List, Listening, Moment, Nothing, OneList, Option, Plan, Program, Reading, Said}
use Rattle.stream_laws.proofs.Words.{Some, State, SwapsOn, after_frame, after_is, airs, ap, arith, began_early}
use Rattle.stream_laws.proofs.Words.{begins_notice, bits_of, change_of, cond, count_step, ensemble_of, ensemble_sent}
use Rattle.stream_laws.proofs.Words.{enters_known, enters_untuned, false, false≢true, finds_no_room, frame_bytes}
use Rattle.stream_laws.proofs.Words.{frame_items, happens, has_begun, has_ensemble, has_flags, has_low, headed, inl}
use Rattle.stream_laws.proofs.Words.{inr, is_due, is_ensemble, is_flagged, is_made, is_noticed, is_swap, known_of}
use Rattle.stream_laws.proofs.Words.{knows_after, last_flags, layout_mode, left_after_frame, links, listener_after}
use Rattle.stream_laws.proofs.Words.{listening, lookup_in, not, noticed_information, occurrence_of, overlap, past_end}
use Rattle.stream_laws.proofs.Words.{refl, said, shown, subst, sym, true, untuned, unwrap_or, ℕ, none_some}
use Rattle.stream_check.specs.History.{ensemble_of_item as said_ensemble}
use Rattle.stream_check.specs.Rules.{KnownBefore as Knowledge}
use Rattle.stream_check.specs.Stream.{past_after_frame as after_read}
use Rattle.stream_laws.proofs.Kept.{ensemble_flags, flags_are, begun_flagged}
use Rattle.stream_laws.proofs.Framing.{read_frame}
use Rattle.stream_laws.proofs.Sending.{not_sent}
use Rattle.stream_laws.proofs.Agreeing.{IsInside, members_fine}
use Rattle.stream_laws.proofs.Findings.{IsHeadFine, Each, Agrees}
use Rattle.stream_laws.proofs.AgreeingRuns.{IsBetween, IsHeadOk, head_ok, head_falls, flags_on, still, on_by}
use Rattle.stream_laws.proofs.AgreeingRuns.{left_of, awaits_by}
use Rattle.stream_laws.proofs.Opening.{IsOpened, IsOnStep, items_at, each_opened, next_opened, first_opened}
use Rattle.stream_laws.proofs.Words.{none_awaited, zero_or_more}

-- ---- a FIG 0/0

-- its rules, given what the listener knows
rules_by : (period : ℕ) (plan : Plan) (u : State) → Airs plan u
    → (past : List Moment) (l : Listening) (e : EnsembleInformation) → e ≡ ensemble_of plan u → listener_after past ≡ l
    → IsHeadOk plan u l (last_flags past) (began_early past)
    → IsHeadFine (known_of (count_step (layout_mode plan.layout)) period past) e
rules_by period plan u a past l e same is h =
    subst (λ (x : EnsembleInformation). IsHeadFine (known_of (count_step (layout_mode plan.layout)) period past) x)
    (sym same)
    (record {
      made = λ made. ap (λ (x : Listening). (ensemble_of plan u).count % 250 == unwrap_or x.awaited 0) is
          ∙ h.made (sym (ap (λ (x : Listening). is_made x.awaited (ensemble_of plan u)) is) ∙ made);
      again = λ made.
          ap (λ (x : Listening). has_low x.awaited
          && (not ((ensemble_of plan u).change == last_flags past)
          || not (occurrence_of (ensemble_of plan u) == unwrap_or x.awaited 0))) is
          ∙ h.again (sym (ap (λ (x : Listening). is_made x.awaited (ensemble_of plan u)) is) ∙ made);
      falls = head_falls plan u a;
      early = h.flagged;
      units = λ made.
          let before = h.units (sym (ap (λ (x : Listening). is_made x.awaited (ensemble_of plan u)) is) ∙ made) in (
            ap (λ (x : Listening). overlap x.next.subs) is ∙ before.0,
            ap (λ (x : Listening). past_end x.next.subs) is
                ∙ before.1,
          );
    })

head_word : (period : ℕ) (plan : Plan) (u : State) → Airs plan u → (past : List Moment) (l : Listening) (i : Item)
    → listening past ≡ Some l → is_ensemble i ≡ true → said_ensemble i ≡ ensemble_of plan u
    → IsHeadOk plan u l (last_flags past) (began_early past)
    → Agrees (count_step (layout_mode plan.layout)) period past i
head_word period plan u a past l i is ens says h =
    let k : Knowledge = known_of (count_step (layout_mode plan.layout)) period past in
    record {
      room = ap (λ t. cond t false
          (k.listener.tuned && finds_no_room (lookup_in i.raw (cond i.next k.listener.next k.listener.current)))) ens;
      head = λ is_head. rules_by period plan u a past l (said_ensemble i) says (after_is past l is) h;
      member = λ other. absurd (false≢true (sym other ∙ ens));
    }

head_inside : (plan : Plan) (u : State) → Airs plan u → (past : List Moment) (l : Listening) (i : Item)
    → is_ensemble i ≡ true → said_ensemble i ≡ ensemble_of plan u
    → (f : InFrame plan u Nothing Nothing l) → listening (Said i ∷ past) ≡ Some l
    → IsInside plan u f.awaited (Said i ∷ past)
head_inside plan u a past l i ens says f is = record {
  heard = l;
  is = is;
  knows = f.knows;
  begun = λ has on. begun on;
  pending = λ low some. begun (on_awaited low some (is_noticed plan.notice u.left) refl);
  early = λ early. absurd (false≢true
      (sym (ap (λ t. cond t false
      (cond (begins_notice past i && not (has_begun past)) (not (has_ensemble past)) (began_early past))) ens)
      ∙ early));
  flags = λ low some.
      let on = on_awaited low some (is_noticed plan.notice u.left) refl in
      flags_are past i true (flagged on) ∙ ap (λ (x : EnsembleInformation). x.change) says
      ∙ (noticed_information plan u on).change;
}
  where
    flagged : is_noticed plan.notice u.left ≡ true → is_flagged i ≡ true
    flagged on = ensemble_flags i ens ∙ ap has_flags says ∙ flags_on plan u a on

    begun : is_noticed plan.notice u.left ≡ true → has_begun (Said i ∷ past) ≡ true
    begun on = begun_flagged past i (is_swap past i) ens refl (flagged on)

    on_awaited : (low : ℕ) → f.awaited ≡ Some low → (b : Bool) → is_noticed plan.notice u.left ≡ b
        → is_noticed plan.notice u.left ≡ true
    on_awaited low some true on = on
    on_awaited low some false off =
        none_some low f.awaited (none_awaited plan u.left u.count f.awaited a.ahead off f.waits) some

-- ---- without FIG 0/0

no_header : (plan : Plan) (s u : State) (past : List Moment) → (h : IsBetween plan past s) → Airs plan u
    → Links plan s u → SwapsOn plan s.count s.left → (IsOnStep plan u → ⊥)
    → (f : InFrame plan u Nothing Nothing (headed (ensemble_sent plan u) h.heard)) → IsInside plan u f.awaited past
no_header plan s u past h a link swaps bare f = record {
  heard = headed (ensemble_sent plan u) h.heard;
  is = h.is ∙ ap (λ o. Some (headed o h.heard)) (sym (not_sent plan u bare));
  knows = f.knows;
  begun = λ has on. absurd (false≢true (sym h.fresh ∙ has));
  pending = λ low some. h.pending low (awaits ∙ some);
  early = λ early. (let there = h.early early in (
    sym awaits ∙ there.0,
    on_by plan u there.1 (still plan s u there.1 link there.2 (more there.1 there.2)).left
        (more there.1 there.2) (omega (arith, there.3)),
  ));
  flags = λ low some.
      let before : h.heard.awaited ≡ Some low = awaits ∙ some in
      let w = awaits_by plan s.left s.current s.next s.count h.heard low h.knows before in
      let stays = still plan s u w.k link w.is (more w.k w.is) in
      h.flags low before ∙ sym (ap (λ x. bits_of (change_of x u.next)) stays.current
      ∙ ap (λ x. bits_of (change_of s.current x)) stays.next);
}
  where
    awaits : h.heard.awaited ≡ f.awaited
    awaits = sym (ap (λ o. (headed o h.heard).awaited) (not_sent plan u bare)) ∙ f.knows.awaits

    off : s.count % count_step (layout_mode plan.layout) ≢ 0
    off e = bare (ap (λ n. n % count_step (layout_mode plan.layout)) link.count ∙ e)

    more : (k : ℕ) → s.left ≡ Some k → 1 ≤ k
    more k is = elim (zero_or_more k) [
      | inl none ↦ (
          let on = subst (λ (o : Option ℕ). SwapsOn plan s.count o) is swaps in
          absurd (off (sym (ap (λ n. n % count_step (layout_mode plan.layout)) (omega (arith, none))) ∙ on))
          )
      | inr some ↦ some
    ]

-- ---- a frame

pub record FrameAgrees (period : ℕ) (p : Program) (s : State) (past : List Moment) (frame : List Fib) : Type 0 where
  pub word : Each (Agrees (count_step (layout_mode p.plan.layout)) period) past (frame_items frame)
  pub after : IsBetween p.plan (after_read (count_step (layout_mode p.plan.layout)) past frame) (after_frame p s)

-- after all entries of the frame
ends : (p : Program) (s : State) (past : List Moment) (count : ℕ) → Airs p.plan (shown p s)
    → (l : Listening) (f : InFrame p.plan (shown p s) Nothing Nothing l) → IsInside p.plan (shown p s) f.awaited past
    → IsBetween p.plan (Ended count ∷ past) (after_frame p s)
ends p s past count a l f h =
    let plan : Plan = p.plan in
    let u : State = shown p s in
    let last : InFrame plan u Nothing Nothing h.heard =
    record { awaited = f.awaited; knows = h.knows; waits = f.waits; headless = f.headless } in
    record {
      heard = h.heard;
      is = h.is;
      knows = knows_after plan u Nothing Nothing h.heard a last;
      fresh = refl;
      pending = λ low some. h.pending low (sym h.knows.awaits ∙ some);
      early = λ early.
          let there = h.early early in
          let left = left_of plan u.left there.1 in
          (h.knows.awaits ∙ there.0, left.0 - 1, ap left_after_frame left.1, omega (arith, left.2, left.3));
      flags = λ low some. h.flags low (sym h.knows.awaits ∙ some);
    }

frame_agrees : (r : Reading) (period : ℕ) (p : Program) (s : State) (past : List Moment) → Airs p.plan (shown p s)
    → (made : Bool) → IsOpened p.plan (shown p s) made past (items_at r p s) → (l : Listening) → listening past ≡ Some l
    → IsHeadOk p.plan (shown p s) l (last_flags past) (began_early past)
    → (f : InFrame p.plan (shown p s) Nothing Nothing (headed (ensemble_sent p.plan (shown p s)) l))
    → ((IsOnStep p.plan (shown p s) → ⊥) → IsInside p.plan (shown p s) f.awaited past)
    → FrameAgrees period p s past (read_frame r p.plan.layout (frame_bytes p s))
frame_agrees r period p s past a made o l is ok f bare =
    let plan : Plan = p.plan in
    let u : State = shown p s in
    let step : ℕ = count_step (layout_mode plan.layout) in
    let m : Listening = headed (ensemble_sent plan u) l in
    let inside : IsInside plan u f.awaited (said o.heads past) = elim o.head [
      | inl none ↦ subst (λ hs. IsInside plan u f.awaited (said hs past)) (sym none.0) (bare none.2)
      | inr (i, are, ens, says, made_is, on) ↦
          subst (λ hs. IsInside plan u f.awaited (said hs past)) (sym are)
          (head_inside plan u a past m i ens says f
          (subst (λ hs. listening (said hs past) ≡ Some m) are (o.hears l is).0))
    ] in
    let rest = members_fine step period plan u f.awaited (said o.heads past) o.members inside o.sent a.current a.next in
    record {
      word = each_opened (Agrees step period) plan u made past (items_at r p s) o
          (λ i ens says. head_word period plan u a past l i is ens says ok) rest.word;
      after = ends p s (said (items_at r p s) past) _ a m f (subst (IsInside plan u f.awaited) (sym o.are) rest.after);
    }

-- ---- along a run

-- nothing was heard, and the next frame has FIG 0/0; or frames were heard
abbrev pub IsBefore : Plan → List Moment → State → Type 0
IsBefore plan past s = ((past ≡ []) × (s.count % count_step (layout_mode plan.layout) ≡ 0)) ⊎ IsBetween plan past s

-- the same with more that is known after frames
abbrev pub SinceFirst : Plan → List Moment → State → (IsKnown : Type 0) → Type 0
SinceFirst plan past s K = ((past ≡ []) × (s.count % count_step (layout_mode plan.layout) ≡ 0))
    ⊎ (IsBetween plan past s × K)

pub before_of : {K : Type 0} (plan : Plan) (past : List Moment) (s : State) → SinceFirst plan past s K
    → IsBefore plan past s
before_of plan past s (inl first) = inl first
before_of plan past s (inr (b, k)) = inr b

first_ok : (plan : Plan) (u : State) → IsHeadOk plan u untuned 0 false
first_ok plan u = record {
  made = λ made. absurd (false≢true made);
  again = λ made. refl;
  flagged = λ early. absurd (false≢true early);
  units = λ made. absurd (false≢true made);
}

pub agrees_by : OneList → Laws → (r : Reading) (period : ℕ) (p : Program) (ts : List Known) → IsCode p ts → (s : State)
    → Holds p ts s → (past : List Moment) → IsBefore p.plan past s
    → FrameAgrees period p s past (read_frame r p.plan.layout (frame_bytes p s))
agrees_by one laws r period p ts c s holds past (inl (none, on)) =
    let here = ap (λ n. n % count_step (layout_mode p.plan.layout)) (links p ts c s holds).count ∙ on in
    subst (λ (l : List Moment). FrameAgrees period p s l (read_frame r p.plan.layout (frame_bytes p s))) (sym none)
    (frame_agrees r period p s [] (airs p ts c s holds) false (first_opened one laws r p ts c s holds on) untuned refl
    (first_ok p.plan (shown p s)) (enters_untuned p ts c s holds on) (λ off. absurd (off here)))
agrees_by one laws r period p ts c s holds past (inr h) =
    let a = airs p ts c s holds in
    let f = enters_known p ts c s holds h.heard h.knows in
    frame_agrees r period p s past a (is_due s.left) (next_opened one laws r p ts c s holds past h (is_due s.left) refl)
    h.heard h.is (head_ok p ts c s holds past h) f
    (λ off. no_header p.plan s (shown p s) past h a (links p ts c s holds) holds.tracked.swaps off f)

-- contacts between two frames change nothing of it
pub before_contact : (p : Program) (past : List Moment) (s : State) (d : ℕ) (closed : Bool) → IsBetween p.plan past s
    → IsBetween p.plan past (happens p s (Contact d closed))
before_contact p past s d closed b =
    record {
      heard = b.heard;
      is = b.is;
      knows = b.knows;
      fresh = b.fresh;
      pending = b.pending;
      early = b.early;
      flags = b.flags;
    }
