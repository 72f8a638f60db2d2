-- Quiet frames that go to a sink together: the content of each, and cutting their bytes.
use Rattle.plan_player.proofs.Words.{[], ◌%◌, ◌*◌, ◌++◌, ◌+◌, ◌-◌, ◌/◌, ◌<◌, ◌==◌, ◌∙◌, ◌∷◌, ◌≡◌, ◌≤◌, Bool, COUNTS}
use Rattle.plan_player.proofs.Words.{EnsembleInformation, HasPage, HasRounds, Header, IfSome, IsKept, IsStretch}
use Rattle.plan_player.proofs.Words.{KeptPage, List, Marked, None, Option, PhasePages, Plan, Some, State, SwapIsAway}
use Rattle.plan_player.proofs.Words.{ap, append-nil, append_assoc, arith, bits_of, change_of, concat, concat-append}
use Rattle.plan_player.proofs.Words.{cond, count_step, counted_on, ensemble_at, ensemble_of, ensemble_sent, false}
use Rattle.plan_player.proofs.Words.{frame_fibs, headed_at, header_of, inl, inr, is_noticed, layout_mode, left_later}
use Rattle.plan_player.proofs.Words.{length, length-append, low_of_swap, mod-add-mod, mod-lt, not_noticed}
use Rattle.plan_player.proofs.Words.{notice_frames, noticed, page_after, page_bytes, pages_are_valid, refl}
use Rattle.plan_player.proofs.Words.{sent_entries, shown_bytes, slice_get, split_le, subst, suc, sym, take}
use Rattle.plan_player.proofs.Words.{take-append-add, take-append-le, true, with_next_counts, zero, ℕ}
use Rattle.fib_codec.specs.Ranges.{IsEnsembleInformation}
use Rattle.plan_player.proofs.Keeping.{held_is}
use Rattle.plan_player.proofs.CountedOn.{apart, left_on, count_on, on_more, frames_more}

-- ---- FIG 0/0

pub noticed_later : (notice n k : ℕ) (left : Option ℕ) → SwapIsAway notice left n → k < n
    → is_noticed notice (left_later k left) ≡ is_noticed notice left
noticed_later notice n k None away lt = refl
noticed_later notice n k (Some l) away lt =
    elim (split_le l notice) [
      | inl within ↦
          noticed notice (l - k) (omega (arith, away.0, lt)) (omega (arith, within))
          ∙ sym (noticed notice l (omega (arith, away.0, lt)) within)
      | inr past ↦
          not_noticed notice (l - k) (omega (arith, lt)) ∙ sym (not_noticed notice l past)
    ]

low_later : (n k count : ℕ) (notice : ℕ) (left : Option ℕ) → SwapIsAway notice left n → k < n
    → low_of_swap ((count + k) % COUNTS) (left_later k left) ≡ low_of_swap count left
low_later n k count notice None away lt = refl
low_later n k count notice (Some l) away lt =
    let same : count + k + (l - k) ≡ count + l = omega (arith, away.0, lt) in
    ap (λ (x : ℕ). x % 250) (mod-add-mod (count + k) COUNTS (l - k) ∙ ap (λ (x : ℕ). x % COUNTS) same)

abbrev header_by : ℕ → ℕ → ℕ → Bool → Header
header_by eid change low b = cond b (let r : Header = record { eid = eid; change = change; swap = Some low } in r)
    (record { eid = eid; change = 0; swap = None })

-- it differs in the count alone
pub header_later : (plan : Plan) (n k : ℕ) (s : State) → SwapIsAway plan.notice s.left n → k < n
    → header_of plan (counted_on plan k s) ≡ header_of plan s
header_later plan n zero s away lt = refl
header_later plan n (suc k) s away lt =
    let t : State = counted_on plan (suc k) s in
    let parts = ap (λ (u : State). header_by u.eid (bits_of (change_of u.current u.next)) (low_of_swap t.count t.left)
    (is_noticed plan.notice t.left)) (apart plan (suc k) s) in
    let low = ap (λ (c : ℕ). low_of_swap c t.left) (count_on plan k s)
    ∙ ap (λ (o : Option ℕ). low_of_swap ((s.count + suc k) % COUNTS) o) (left_on plan (suc k) s)
    ∙ low_later n (suc k) s.count plan.notice s.left away lt in
    let on = ap (λ (o : Option ℕ). is_noticed plan.notice o) (left_on plan (suc k) s) ∙ noticed_later _ _ _ _ away lt in
    rw (← on, ← low) parts

ensemble_is_by : (plan : Plan) (s : State) (b : Bool)
    → cond b (let r : EnsembleInformation = record {
      eid = s.eid;
      change = bits_of (change_of s.current s.next);
      al = false;
      count = s.count;
      occurrence = Some (low_of_swap s.count s.left);
    } in r)
    (record { eid = s.eid; change = 0; al = false; count = s.count; occurrence = None })
    ≡ ensemble_at (header_by s.eid (bits_of (change_of s.current s.next)) (low_of_swap s.count s.left) b) s.count
ensemble_is_by plan s true = refl
ensemble_is_by plan s false = refl

pub ensemble_is : (plan : Plan) (s : State) → ensemble_of plan s ≡ ensemble_at (header_of plan s) s.count
ensemble_is plan s = ensemble_is_by plan s (is_noticed plan.notice s.left)

pub headed_later : (plan : Plan) (n k : ℕ) (s : State) → SwapIsAway plan.notice s.left n → k < n
    → ensemble_sent plan (counted_on plan k s) ≡ headed_at (layout_mode plan.layout) (header_of plan s)
    (counted_on plan k s).count
headed_later plan n k s away lt =
    let t : State = counted_on plan k s in
    let same : ensemble_of plan t ≡ ensemble_at (header_of plan s) t.count =
    rw (← header_later plan n k s away lt) (ensemble_is plan t) in
    rw (same) refl

-- ---- pages

pub stretch_rounds : (plan : Plan) (n : ℕ) (s : State) (pages : PhasePages) → IsStretch plan n s pages
    → HasRounds plan n s pages.made
stretch_rounds plan n s pages h = λ k lt. sym ((h.ready k lt).keeps.all h.whole)

pub stretch_page : (plan : Plan) (n k : ℕ) (s : State) (pages : PhasePages) → IsStretch plan n s pages → k < n
    → (let t : State = counted_on plan k s in
    HasPage plan.layout (sent_entries plan t) t.page_index pages.pages)
stretch_page plan n k s pages h lt =
    let ready = h.ready k lt in
    ready.keeps.each (counted_on plan k s).page_index (omega (arith, ready.sent.page_index))

pub turn_within : (plan : Plan) (n : ℕ) (s : State) (pages : PhasePages) → 1 ≤ n → IsStretch plan n s pages
    → s.page_index < pages.made
turn_within plan n s pages some h =
    let ready = h.ready 0 (omega (arith, some)) in
    omega (arith, ready.sent.page_index)

pub frame_size : (plan : Plan) (n k : ℕ) (s : State) (pages : PhasePages) → IsStretch plan n s pages → k < n
    → length (shown_bytes plan (counted_on plan k s)) ≡ 32 * frame_fibs plan.layout
frame_size plan n k s pages h lt =
    let t : State = counted_on plan k s in
    let page = stretch_page plan n k s pages h lt in
    (pages_are_valid plan.layout (ensemble_sent plan t) t.page_index (sent_entries plan t)
    (record { entries = page.kept.sendable; ensemble_within = (h.ready k lt).sent.ensemble })).1

-- ---- the bytes

-- one more frame
pub bytes_more : (plan : Plan) (k : ℕ) (s : State) → concat (notice_frames plan (suc k) s)
    ≡ concat (notice_frames plan k s) ++ shown_bytes plan (counted_on plan k s)
bytes_more plan k s =
    let last : List ℕ = shown_bytes plan (counted_on plan k s) in
    cc (frames_more plan k s, concat-append (notice_frames plan k s) (last ∷ []), append-nil last)

-- ---- cut at any offset: whole frames, and a part of the next

pub record Cut (plan : Plan) (n : ℕ) (s : State) (taken frames bytes : ℕ) : Type 0 where
  pub few : frames < n
  pub part : bytes < length (shown_bytes plan (counted_on plan frames s))
  pub text : take taken (concat (notice_frames plan n s)) ≡ concat (notice_frames plan frames s)
      ++ take bytes (shown_bytes plan (counted_on plan frames s))

pub cut_at : (plan : Plan) (size n : ℕ) (s : State) (taken frames bytes : ℕ)
    → ((k : ℕ) → k < n → length (shown_bytes plan (counted_on plan k s)) ≡ size)
    → taken ≡ frames * size + bytes → bytes < size → taken < length (concat (notice_frames plan n s))
    → Cut plan n s taken frames bytes
cut_at plan size zero s taken frames bytes sized split part inside = absurd (omega (arith, inside))
cut_at plan size (suc n) s taken zero bytes sized split part inside =
    let frame : List ℕ = shown_bytes plan s in
    let others : List ℕ = concat (notice_frames plan n (with_next_counts plan s)) in
    let at : taken ≡ bytes = omega (arith, split) in
    record {
      few = omega arith;
      part = omega (arith, part, sized 0 (omega arith));
      text = ap (λ (k : ℕ). take k (frame ++ others)) at
          ∙ take-append-le bytes frame others (omega (arith, part, sized 0 (omega arith)));
    }
cut_at plan size (suc n) s taken (suc k) bytes sized split part inside =
    let on : State = with_next_counts plan s in
    let frame : List ℕ = shown_bytes plan s in
    let others : List ℕ = concat (notice_frames plan n on) in
    let long : length frame ≡ size = sized 0 (omega arith) in
    let left : ℕ = k * size + bytes in
    let at : taken ≡ length frame + left = omega (arith, split, long) in
    let later = cut_at plan size n on left k bytes (λ j lt. sized (suc j) (omega (arith, lt))) refl part
    (omega (arith, inside, length-append frame others, at)) in
    record {
      few = omega (arith, later.few);
      part = later.part;
      text = ap (λ (m : ℕ). take m (frame ++ others)) at ∙ take-append-add frame others left
          ∙ ap (λ (l : List ℕ). frame ++ l) later.text
          ∙ sym (append_assoc frame (concat (notice_frames plan k on))
          (take bytes (shown_bytes plan (counted_on plan k on))));
    }

-- ---- a batch, and one more frame

within_by : (b : Bool) (e : EnsembleInformation) → IfSome (cond b (Some e) None) IsEnsembleInformation → b ≡ true
    → IsEnsembleInformation e
within_by true e h is = h
within_by false e h is = absurd cc

pub headed_within : (plan : Plan) (n k : ℕ) (s : State) (pages : PhasePages) (header : Header) (number : ℕ)
    → IsStretch plan n s pages → k < n
    → header ≡ header_of plan s → number ≡ (counted_on plan k s).count
    → (number % count_step (layout_mode plan.layout) == 0) ≡ true
    → IsEnsembleInformation (ensemble_at header number)
headed_within plan n k s pages header number h lt is at =
    let here = subst (λ (o : Option EnsembleInformation). IfSome o IsEnsembleInformation)
    (headed_later plan n k s h.away lt) (h.ready k lt).sent.ensemble in
    let mine = subst (λ (x : Header). IfSome (headed_at (layout_mode plan.layout) x (counted_on plan k s).count)
    IsEnsembleInformation) (sym is) here in
    let now = subst (λ (x : ℕ). IfSome (headed_at (layout_mode plan.layout) header x) IsEnsembleInformation) (sym at)
    mine in
    within_by (number % count_step (layout_mode plan.layout) == 0) (ensemble_at header number) now

-- the page in turn is the one stored at its index
pub page_kept : (plan : Plan) (n k : ℕ) (s : State) (pages : PhasePages) (page_index : ℕ) (page : KeptPage)
    → IsStretch plan n s pages → k < n
    → page_index ≡ (counted_on plan k s).page_index → slice_get pages.pages page_index ≡ Some (Some page)
    → (let t : State = counted_on plan k s in
    IsKept plan.layout (sent_entries plan t) t.page_index page)
page_kept plan n k s pages page_index page h lt at held =
    let t : State = counted_on plan k s in
    held_is _ _ _ _ _ (stretch_page _ _ _ _ _ h lt) (rw (← at) held)

pub batch_more : (plan : Plan) (n k : ℕ) (s : State) (pages : PhasePages) (header : Header) (number : ℕ)
    (old new : List ℕ) → IsStretch plan n s pages → k < n
    → header ≡ header_of plan s → number ≡ (counted_on plan k s).count → old ≡ concat (notice_frames plan k s)
    → (let t : State = counted_on plan k s in
    new ≡ old ++ page_bytes plan.layout (headed_at (layout_mode plan.layout) header number) t.page_index
    (sent_entries plan t)) → new ≡ concat (notice_frames plan (suc k) s)
batch_more plan n k s pages header number old new h lt is at before more =
    let t : State = counted_on plan k s in
    let ms : List Marked = sent_entries plan t in
    let frame = ap (λ (x : Header). page_bytes plan.layout (headed_at (layout_mode plan.layout) x number) t.page_index
    ms) is
    ∙ ap (λ (x : ℕ). page_bytes plan.layout (headed_at (layout_mode plan.layout) (header_of plan s) x) t.page_index ms)
    at
    ∙ ap (λ (o : Option EnsembleInformation). page_bytes plan.layout o t.page_index ms)
    (sym (headed_later plan n k s h.away lt)) in
    cc (more, before, frame, bytes_more plan k s)

pub turn_more : (plan : Plan) (n k : ℕ) (s : State) (pages : PhasePages) → IsStretch plan n s pages → k < n
    → (counted_on plan (suc k) s).page_index ≡ page_after pages.made (counted_on plan k s).page_index
turn_more plan n k s pages h lt = rw (on_more plan k s, stretch_rounds plan n s pages h k lt) refl

pub count_more : (plan : Plan) (k : ℕ) (s : State) → (counted_on plan (suc k) s).count
    ≡ ((counted_on plan k s).count + 1) % COUNTS
count_more plan k s = rw (on_more plan k s) refl

-- ---- the frame in which the sink failed

pub stretch_cut : (plan : Plan) (n : ℕ) (s : State) (pages : PhasePages) (size taken : ℕ) → IsStretch plan n s pages
    → size ≡ 32 * frame_fibs plan.layout → 0 < size
    → taken < length (concat (notice_frames plan n s)) → Cut plan n s taken (taken / size) (taken % size)
stretch_cut plan n s pages size taken h is some inside =
    let split : taken ≡ taken / size * size + taken % size = omega arith in
    cut_at plan size n s taken (taken / size) (taken % size) (λ k lt. frame_size plan n k s pages h lt ∙ sym is) split
    (mod-lt taken some) inside

pub fewer_rounds : (plan : Plan) (m n : ℕ) (s : State) (pages : ℕ) → m ≤ n → HasRounds plan n s pages
    → HasRounds plan m s pages
fewer_rounds plan m n s pages le rounds = λ k lt. rounds k (omega (arith, le, lt))
