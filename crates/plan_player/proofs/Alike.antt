-- Frames that differ in the count alone, one after another.
use Rattle.plan_player.proofs.Words.{[], ◌%◌, ◌*◌, ◌++◌, ◌+◌, ◌-◌, ◌/◌, ◌<◌, ◌==◌, ◌∙◌, ◌∷◌, ◌≡◌, ◌≤◌, AreAlike, Bool}
use Rattle.plan_player.proofs.Words.{COUNTS, FrameLayout, Header, I, IsAlike, IsPageable, List}
use Rattle.plan_player.proofs.Words.{Marked, Mode, None, Plan, Some, State, Written, ap, append-nil, append_assoc, ap₂}
use Rattle.plan_player.proofs.Words.{arith, checked, checked_len, concat, cond, count_step, counted_on, drop, drop_at}
use Rattle.plan_player.proofs.Words.{ensemble_at, ensemble_figs, ensemble_sent, entries_bytes, false}
use Rattle.plan_player.proofs.Words.{fib_bytes, fib_entries, figs_bytes, figs_of, filled, first_fib, flat_map}
use Rattle.plan_player.proofs.Words.{frame_fibs, head_byte, head_of, header_of, later_fibs, layout_mode, length}
use Rattle.plan_player.proofs.Words.{length-append, ltb, map, marked, ne_eqb, notice_frames, occurrence_bytes}
use Rattle.plan_player.proofs.Words.{page_bytes, page_fits, pages_are_valid, refl, replicate, reserved_figs}
use Rattle.plan_player.proofs.Words.{sent_entries, shown_bytes, subst, suc, suc-mul, sym, take, take_at, true, zero, ℕ}
use Rattle.fib_codec.proofs.Finished.{length-filled}
use Rattle.plan_player.proofs.Words.{EnsembleOf}
use Rattle.plan_player.proofs.CountedOn.{on_more, count_on}
use Rattle.plan_player.proofs.Together.{ensemble_is, bytes_more}

-- ---- the first FIB, with FIG 0/0

-- what follows six bytes at the front of a FIB
abbrev rest_of : List ℕ → List ℕ
rest_of t =
    cond (ltb (length (0 ∷ 0 ∷ 0 ∷ 0 ∷ 0 ∷ 0 ∷ t)) 30)
    (t ++ 255 ∷ replicate (29 - length (0 ∷ 0 ∷ 0 ∷ 0 ∷ 0 ∷ 0 ∷ t)) 0) t

six_by : (b : Bool) (p q r u x y : ℕ) (t z : List ℕ)
    → cond b ((p ∷ q ∷ r ∷ u ∷ x ∷ y ∷ t) ++ z) (p ∷ q ∷ r ∷ u ∷ x ∷ y ∷ t) ≡ p ∷ q ∷ r ∷ u ∷ x ∷ y ∷ cond b (t ++ z) t
six_by true p q r u x y t z = refl
six_by false p q r u x y t z = refl

filled_six : (p q r u x y : ℕ) (t : List ℕ) → filled (p ∷ q ∷ r ∷ u ∷ x ∷ y ∷ t) ≡ p ∷ q ∷ r ∷ u ∷ x ∷ y ∷ rest_of t
filled_six p q r u x y t = six_by _ p q r u x y t _

-- its length and its head, which do not depend on the count
abbrev fig_len : Header → ℕ
fig_len h = 1 + length (entries_bytes (EnsembleOf (ensemble_at h 0) ∷ []))

abbrev fig_head : Header → ℕ
fig_head h = head_byte (head_of (marked false (EnsembleOf (ensemble_at h 0))))

-- what follows the count
abbrev behind : Header → List Written → List ℕ
behind h figs = rest_of ((occurrence_bytes h.swap ++ []) ++ figs_bytes figs)

abbrev headed_data : Header → ℕ → ℕ → List Written → List ℕ
headed_data h high low figs = fig_len h ∷ fig_head h ∷ h.eid / 256 % 256 ∷ h.eid % 256 ∷ high ∷ low ∷ behind h figs

headed_filled : (h : Header) (c : ℕ) (figs : List Written)
    → filled (figs_bytes (ensemble_figs (Some (ensemble_at h c)) ++ figs))
    ≡ headed_data h (h.change * 64 + 0 * 32 + c / 250) (c % 250) figs
headed_filled h c figs = filled_six _ _ _ _ _ _ _

-- the first FIB of a page gets another count
pub page_recounted : (layout : FrameLayout) (h : Header) (c later k : ℕ) (ms : List Marked)
    → IsPageable (Some (ensemble_at h later)) ms
    → (before after bytes fib new : List ℕ) (offset high low : ℕ)
    → bytes ≡ before ++ (page_bytes layout (Some (ensemble_at h c)) k ms ++ after) → length before ≡ offset
    → high ≡ h.change * 64 + later / 250 → low ≡ later % 250
    → fib ≡ take 32 (drop offset bytes)
    → ((p q r u x y : ℕ) (rest : List ℕ) → length rest ≡ 24 → fib ≡ checked (p ∷ q ∷ r ∷ u ∷ x ∷ y ∷ rest)
    → new ≡ checked (p ∷ q ∷ r ∷ u ∷ high ∷ low ∷ rest))
    → take offset bytes ++ (new ++ drop 32 (drop offset bytes)) ≡ before
    ++ (page_bytes layout (Some (ensemble_at h later)) k ms ++ after)
page_recounted layout h c later k ms pageable before after bytes fib new offset high low is long is_high is_low part
    step =
    let figs : List Written = figs_of (fib_entries layout (first_fib layout k) ms) in
    let others : List ℕ = flat_map fib_bytes (map (λ n. figs_of (fib_entries layout n ms)) (later_fibs layout k)
    ++ reserved_figs layout) in
    let fits = (page_fits layout (Some (ensemble_at h later)) k ms pageable).0 in
    let old_fib : List ℕ = fib_bytes (ensemble_figs (Some (ensemble_at h c)) ++ figs) in
    let new_fib : List ℕ = fib_bytes (ensemble_figs (Some (ensemble_at h later)) ++ figs) in
    let x : ℕ = h.change * 64 + 0 * 32 + c / 250 in
    let old_is : old_fib ≡ checked (headed_data h x (c % 250) figs) = ap checked (headed_filled h c figs) in
    let whole = length-filled (figs_bytes (ensemble_figs (Some (ensemble_at h later)) ++ figs)) fits.short in
    let rest_long : length (behind h figs) ≡ 24 = omega (arith, whole, ap length (headed_filled h later figs)) in
    let old_long = ap length old_is ∙ checked_len (headed_data h x (c % 250) figs) (omega (arith, rest_long)) in
    let text : bytes ≡ before ++ (old_fib ++ (others ++ after)) = rw (← append_assoc old_fib others after) is in
    let front : take offset bytes ≡ before = rw (text) (take_at before (old_fib ++ (others ++ after)) offset long) in
    let back : drop offset bytes ≡ old_fib ++ (others ++ after) = rw (text) (drop_at before _ _ long) in
    let past : drop 32 (drop offset bytes) ≡ others ++ after =
    rw (back) (drop_at old_fib (others ++ after) 32 old_long) in
    let fib_is = part ∙ ap (λ l. take 32 l) back ∙ take_at old_fib (others ++ after) 32 old_long ∙ old_is in
    let made : new ≡ new_fib =
    step (fig_len h) (fig_head h) (h.eid / 256 % 256) (h.eid % 256) x (c % 250) (behind h figs) rest_long fib_is
    ∙ ap₂ (λ m n. checked (headed_data h m n figs)) (omega (arith, is_high)) is_low
    ∙ sym (ap checked (headed_filled h later figs)) in
    rw (append_assoc new_fib others after) (ap₂ (λ l m. l ++ m) front (ap₂ (λ l m. l ++ m) made past))

-- ---- one frame after another

abbrev pub rest_from : Plan → ℕ → ℕ → State → List ℕ
rest_from plan n k s = concat (notice_frames plan (n - k) (counted_on plan k s))

-- the first k frames are those from the second state on, the others are those from the first
abbrev pub mixed : Plan → ℕ → ℕ → State → State → List ℕ
mixed plan n k s t = concat (notice_frames plan k t) ++ rest_from plan n k s

rest_more : (plan : Plan) (n k : ℕ) (s : State) → k < n → rest_from plan n k s ≡ shown_bytes plan (counted_on plan k s)
    ++ rest_from plan n (suc k) s
rest_more plan n k s lt =
    let count : n - k ≡ suc (n - suc k) = omega (arith, lt) in
    rw (count, ← on_more plan k s) refl

pub mixed_at : (plan : Plan) (n k : ℕ) (s t : State) → k < n
    → mixed plan n k s t ≡ concat (notice_frames plan k t)
    ++ (shown_bytes plan (counted_on plan k s) ++ rest_from plan n (suc k) s)
mixed_at plan n k s t lt = rw (rest_more plan n k s lt) refl

pub mixed_next : (plan : Plan) (n k : ℕ) (s t : State)
    → concat (notice_frames plan k t) ++ (shown_bytes plan (counted_on plan k t) ++ rest_from plan n (suc k) s)
    ≡ mixed plan n (suc k) s t
mixed_next plan n k s t =
    rw (bytes_more plan k t) (sym (append_assoc (concat (notice_frames plan k t))
    (shown_bytes plan (counted_on plan k t)) (rest_from plan n (suc k) s)))

pub mixed_none : (plan : Plan) (n : ℕ) (s t : State) → concat (notice_frames plan n s) ≡ mixed plan n 0 s t
mixed_none plan n s t =
    ap (λ (m : ℕ). concat (notice_frames plan m s)) (omega arith)

pub mixed_all : (plan : Plan) (n k : ℕ) (s t : State) → k ≡ n → mixed plan n k s t ≡ concat (notice_frames plan n t)
mixed_all plan n k s t e =
    let none : n - k ≡ 0 = omega (arith, e) in
    rw (none) (rw (← e) (append-nil (concat (notice_frames plan k t))))

-- ---- frames without FIG 0/0

no_fig : (plan : Plan) (s : State) → (s.count % count_step (layout_mode plan.layout) == 0) ≡ false
    → shown_bytes plan s ≡ page_bytes plan.layout None s.page_index (sent_entries plan s)
no_fig plan s off = rw (off) refl

same_frame : (plan : Plan) (header : Header) (s t : State) → IsAlike plan header s t
    → (t.count % count_step (layout_mode plan.layout) == 0) ≡ false → shown_bytes plan s ≡ shown_bytes plan t
same_frame plan header s t h off =
    no_fig plan s (h.on_step ∙ off)
    ∙ ap₂ (λ (k : ℕ) (ms : List Marked). page_bytes plan.layout None k ms) h.page_index h.entries
    ∙ sym (no_fig plan t off)

pub passed_over : (plan : Plan) (header : Header) (n k m : ℕ) (s t : State) → AreAlike plan header n s t → k + m ≤ n
    → ((j : ℕ) → k ≤ j → j < k + m → ((counted_on plan j t).count % count_step (layout_mode plan.layout) == 0) ≡ false)
    → mixed plan n k s t ≡ mixed plan n (k + m) s t
passed_over plan header n k zero s t alike fits off =
    ap (λ (j : ℕ). mixed plan n j s t) (omega arith)
passed_over plan header n k (suc m) s t alike fits off =
    let lt : k < n = omega (arith, fits) in
    let next : suc k + m ≡ k + suc m = omega arith in
    let here = same_frame plan header (counted_on plan k s) (counted_on plan k t) (alike k lt)
    (off k (omega arith) (omega arith)) in
    rw (← next) (mixed_at plan n k s t lt ∙ ap (λ (l : List ℕ). concat (notice_frames plan k t) ++
    (l ++ rest_from plan n (suc k) s)) here ∙ mixed_next plan n k s t
    ∙ passed_over plan header n (suc k) m s t alike (omega (arith, fits))
    (λ j from below. off j (omega (arith, from)) (omega (arith, below))))

-- ---- a frame with FIG 0/0

with_fig : (plan : Plan) (header : Header) (s : State) → header_of plan s ≡ header
    → (s.count % count_step (layout_mode plan.layout) == 0) ≡ true
    → ensemble_sent plan s ≡ Some (ensemble_at header s.count)
with_fig plan header s is on = cc (on, ensemble_is plan s, is)

frame_long : (plan : Plan) (header : Header) (s t : State) → IsAlike plan header s t
    → length (shown_bytes plan t) ≡ 32 * frame_fibs plan.layout
frame_long plan header s t h = (pages_are_valid _ _ _ _ h.pageable).1

pub all_long : (plan : Plan) (header : Header) (n k : ℕ) (s t : State) → AreAlike plan header n s t → k ≤ n
    → length (concat (notice_frames plan k t)) ≡ k * (32 * frame_fibs plan.layout)
all_long plan header n zero s t alike le =
    sym (omega arith)
all_long plan header n (suc k) s t alike le =
    let size : ℕ = 32 * frame_fibs plan.layout in
    let last : List ℕ = shown_bytes plan (counted_on plan k t) in
    let long = frame_long plan header (counted_on plan k s) (counted_on plan k t) (alike k (omega (arith, le))) in
    let before = all_long plan header n k s t alike (omega (arith, le)) in
    let more : suc k * size ≡ k * size + size = suc-mul k size in
    cc (bytes_more plan k t, length-append (concat (notice_frames plan k t)) last, ap₂ (λ a b. a + b) before long, more)

pub frame_recounted : (plan : Plan) (header : Header) (n k number offset high low : ℕ) (s t : State)
    (bytes fib new : List ℕ) → AreAlike plan header n s t → k < n
    → (counted_on plan k t).count ≡ number → number % count_step (layout_mode plan.layout) ≡ 0
    → offset ≡ k * (32 * frame_fibs plan.layout)
    → high ≡ header.change * 64 + number / 250 → low ≡ number % 250
    → bytes ≡ mixed plan n k s t → fib ≡ take 32 (drop offset bytes)
    → ((p q r u x y : ℕ) (rest : List ℕ) → length rest ≡ 24 → fib ≡ checked (p ∷ q ∷ r ∷ u ∷ x ∷ y ∷ rest)
    → new ≡ checked (p ∷ q ∷ r ∷ u ∷ high ∷ low ∷ rest))
    → take offset bytes ++ (new ++ drop 32 (drop offset bytes)) ≡ mixed plan n (suc k) s t
frame_recounted plan header n k number offset high low s t bytes fib new alike lt at on at_offset is_high is_low is part
    step =
    let a : State = counted_on plan k s in
    let b : State = counted_on plan k t in
    let h = alike k lt in
    let before : List ℕ = concat (notice_frames plan k t) in
    let after : List ℕ = rest_from plan n (suc k) s in
    let there : (b.count % count_step (layout_mode plan.layout) == 0) ≡ true = rw (at, on) refl in
    let old = with_fig plan header a h.first (h.on_step ∙ there) in
    let late : ensemble_sent plan b ≡ Some (ensemble_at header number) = rw (← at) (with_fig plan _ b h.second there) in
    let old_page : shown_bytes plan a ≡ page_bytes plan.layout (Some (ensemble_at header a.count)) b.page_index
    (sent_entries plan b) = rw (old) (ap₂ (λ (i : ℕ) (ms : List Marked). page_bytes plan.layout
    (Some (ensemble_at header a.count)) i ms) h.page_index h.entries) in
    let pageable : IsPageable (Some (ensemble_at header number)) (sent_entries plan b) = rw (← late) h.pageable in
    let text = is ∙ mixed_at plan n k s t lt ∙ ap (λ (l : List ℕ). before ++ (l ++ after)) old_page in
    let long : length before ≡ offset = all_long plan header n k s t alike (omega (arith, lt)) ∙ sym at_offset in
    page_recounted _ _ _ _ _ _ pageable _ after bytes fib new _ high low text long is_high is_low part step ∙ ap
    (λ (l : List ℕ). before ++ (l ++ after)) (sym (rw (late) refl)) ∙ mixed_next plan n k s t

-- ---- the counts at which the mode sends FIG 0/0

pub count_at : (plan : Plan) (k : ℕ) (t : State) → t.count < COUNTS
    → (counted_on plan k t).count ≡ (t.count + k) % COUNTS
count_at plan zero t lt = omega (arith, lt)
count_at plan (suc k) t lt = count_on plan k t

pub first_on_step : (mode : Mode) (count : ℕ) → (count + (count_step mode - count % count_step mode) % count_step mode)
    % COUNTS % count_step mode ≡ 0
first_on_step I count = omega arith
first_on_step _ count = omega arith

pub next_on_step : (mode : Mode) (number : ℕ) → number % count_step mode ≡ 0
    → (number + count_step mode) % COUNTS % count_step mode ≡ 0
next_on_step I number on = omega (arith, on)
next_on_step _ number on = omega (arith, on)

off_before : (mode : Mode) (count j : ℕ) → j < (count_step mode - count % count_step mode) % count_step mode
    → (count + j) % COUNTS % count_step mode ≡ 0 → ⊥
off_before I count j lt on = omega (arith, lt, on)
off_before _ count j lt on = omega (arith, lt, on)

off_after : (mode : Mode) (count j : ℕ) → 0 < j → j < count_step mode → count % COUNTS % count_step mode ≡ 0
    → (count + j) % COUNTS % count_step mode ≡ 0 → ⊥
off_after I count j some lt here on = omega (arith, some, lt, here, on)
off_after _ count j some lt here on = omega (arith, some, lt, here, on)

pub step_small : (mode : Mode) → (1 ≤ count_step mode) × (count_step mode ≤ 4)
step_small I = (omega arith, omega arith)
step_small _ = (omega arith, omega arith)

pub none_before : (plan : Plan) (count j : ℕ) (t : State) → count < COUNTS → t.count ≡ count
    → j < (count_step (layout_mode plan.layout) - count % count_step (layout_mode plan.layout))
    % count_step (layout_mode plan.layout)
    → ((counted_on plan j t).count % count_step (layout_mode plan.layout) == 0) ≡ false
none_before plan count j t fits at lt =
    let here : (counted_on plan j t).count ≡ (count + j) % COUNTS =
    rw (← at) (count_at plan j t (omega (arith, fits, at))) in
    rw (here) (ne_eqb ((count + j) % COUNTS % count_step (layout_mode plan.layout)) 0 (λ on. off_before _ _ _ lt on))

pub none_between : (plan : Plan) (count k j : ℕ) (t : State) → count < COUNTS → t.count ≡ count
    → (count + k) % COUNTS % count_step (layout_mode plan.layout) ≡ 0 → k < j
    → j < k + count_step (layout_mode plan.layout)
    → ((counted_on plan j t).count % count_step (layout_mode plan.layout) == 0) ≡ false
none_between plan count k j t fits at here from below =
    let d : ℕ = j - k in
    let far : count + j ≡ count + k + d = omega (arith, from) in
    let there : (counted_on plan j t).count ≡ (count + k + d) % COUNTS =
    rw (← far, ← at) (count_at plan j t (omega (arith, fits, at))) in
    rw (there) (ne_eqb ((count + k + d) % COUNTS % count_step (layout_mode plan.layout)) 0
    (λ on. off_after (layout_mode plan.layout) (count + k) d (omega (arith, from)) (omega (arith, from, below)) here
    on))

-- ---- from one frame with FIG 0/0 to the next

pub entered : (plan : Plan) (header : Header) (n count at step : ℕ) (s t : State) (bytes : List ℕ)
    → AreAlike plan header n s t → t.count ≡ count → count < COUNTS
    → step ≡ count_step (layout_mode plan.layout) → at ≡ (step - count % step) % step
    → bytes ≡ concat (notice_frames plan n s) → bytes ≡ mixed plan n (n - (n - at)) s t
entered plan header n count at step s t bytes alike counts fits is_step is_at is =
    let k : ℕ = n - (n - at) in
    is
    ∙ mixed_none plan n s t
    ∙ passed_over plan header n 0 k s t alike (omega arith)
    (λ j from below. none_before plan count j t fits counts
    (let within : j < at = omega (arith, below) in subst (λ (x : ℕ). j < x) (rw (← is_step) is_at) within))
    ∙ ap (λ (j : ℕ). mixed plan n j s t) (omega arith)

pub continued : (plan : Plan) (header : Header) (n count at number step size offset width high low : ℕ) (s t : State)
    (bytes fib new last : List ℕ) → AreAlike plan header n s t → t.count ≡ count → count < COUNTS
    → step ≡ count_step (layout_mode plan.layout) → size ≡ 32 * frame_fibs plan.layout → at < n
    → number ≡ (count + at) % COUNTS → number % count_step (layout_mode plan.layout) ≡ 0 → offset ≡ at * size
    → width ≡ 32 → high ≡ header.change * 64 + number / 250 → low ≡ number % 250
    → bytes ≡ mixed plan n (n - (n - at)) s t → fib ≡ take width (drop offset bytes)
    → ((p q r u x y : ℕ) (rest : List ℕ) → length rest ≡ 24 → fib ≡ checked (p ∷ q ∷ r ∷ u ∷ x ∷ y ∷ rest)
    → new ≡ checked (p ∷ q ∷ r ∷ u ∷ high ∷ low ∷ rest))
    → last ≡ take offset bytes ++ (new ++ drop width (drop offset bytes))
    → last ≡ mixed plan n (n - (n - (at + step))) s t
continued plan header n count at number step size offset width high low s t bytes fib new last alike counts fits is_step
    is_size lt at_number on at_offset is_width is_high is_low is part made is_last =
    let k : ℕ = n - (n - (at + step)) in
    let m : ℕ = k - suc at in
    let some : 1 ≤ step = omega (arith, is_step, (step_small (layout_mode plan.layout)).0) in
    let all : suc at + m ≡ k = omega (arith, lt, some) in
    let here : n - (n - at) ≡ at = omega (arith, lt) in
    let there : (counted_on plan at t).count ≡ number =
    count_at plan at t (omega (arith, fits, counts)) ∙ ap (λ (c : ℕ). (c + at) % COUNTS) counts ∙ sym at_number in
    rw (← all) (is_last ∙ ap (λ (w : ℕ). take offset bytes ++ (new ++ drop w (drop offset bytes))) is_width
    ∙ frame_recounted plan header n at number offset high low s t bytes fib new alike lt there on
    (rw (← is_size) at_offset) is_high is_low (rw (← here) is) (rw (← is_width) part) made
    ∙ passed_over plan header n (suc at) m s t alike (omega (arith, all))
    (λ j from below. none_between plan count at j t fits counts (rw (← at_number) on) (omega (arith, from))
    (omega (arith, below, all, is_step))))
