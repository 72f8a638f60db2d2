-- Quiet frames that come whole cycles after others, and differ from these in the count alone.
use Rattle.plan_player.proofs.Words.{◌%◌, ◌*◌, ◌++◌, ◌+◌, ◌-◌, ◌<◌, ◌==◌, ◌∙◌, ◌≡◌, ◌≤◌, AreAlike, AreRecounted}
use Rattle.plan_player.proofs.Words.{COUNTS, Header, I, IsAlike, IsStretch, List, Mode, Option, PhasePages}
use Rattle.plan_player.proofs.Words.{Plan, State, SwapIsAway, ap, ap₂, arith, concat, concat-append}
use Rattle.plan_player.proofs.Words.{copy_within, count_step, counted_on, drop, drop-take, drop_at, fib_count}
use Rattle.plan_player.proofs.Words.{frame_fibs, header_of, is_noticed, layout_mode, length, length-append, length-drop}
use Rattle.plan_player.proofs.Words.{length-take-le, mod-add-mod, notice_frames, paste, refl, sent_entries}
use Rattle.plan_player.proofs.Words.{shown_bytes, suc, suc-mul, sym, take, take-append-add, take-append-drop}
use Rattle.plan_player.proofs.Words.{take-append-le, take_at, with_next_counts, zero, ℕ}
use Rattle.std.proofs.lemmas.List.Edits.{take-paste}
use Rattle.plan_player.proofs.CountedOn.{apart, left_on, turn_on}
use Rattle.plan_player.proofs.Together.{noticed_later, header_later, stretch_rounds, fewer_rounds, stretch_page}
use Rattle.plan_player.proofs.Together.{turn_within, frame_size, bytes_more}
use Rattle.plan_player.proofs.Alike.{count_at}

-- ---- frames in two parts

on_split : (plan : Plan) (a b : ℕ) (s : State) → counted_on plan b (counted_on plan a s) ≡ counted_on plan (a + b) s
on_split plan zero b s =
    let e : b ≡ 0 + b = omega arith in
    ap (λ (n : ℕ). counted_on plan n s) e
on_split plan (suc a) b s =
    let e : suc (a + b) ≡ suc a + b = omega arith in
    rw (← e) (on_split plan a b (with_next_counts plan s))

frames_split : (plan : Plan) (a b : ℕ) (s : State) → notice_frames plan a s
    ++ notice_frames plan b (counted_on plan a s) ≡ notice_frames plan (a + b) s
frames_split plan zero b s =
    ap (λ (n : ℕ). notice_frames plan n s) (omega arith)
frames_split plan (suc a) b s =
    let e : suc (a + b) ≡ suc a + b = omega arith in
    cc (frames_split plan a b (with_next_counts plan s), e)

pub bytes_split : (plan : Plan) (a b : ℕ) (s : State) → concat (notice_frames plan a s)
    ++ concat (notice_frames plan b (counted_on plan a s)) ≡ concat (notice_frames plan (a + b) s)
bytes_split plan a b s =
    rw (← frames_split plan a b s) (sym (concat-append (notice_frames plan a s)
    (notice_frames plan b (counted_on plan a s))))

pub bytes_long : (plan : Plan) (n k : ℕ) (s : State) (pages : PhasePages) → IsStretch plan n s pages → k ≤ n
    → length (concat (notice_frames plan k s)) ≡ k * (32 * frame_fibs plan.layout)
bytes_long plan n zero s pages h le =
    sym (omega arith)
bytes_long plan n (suc k) s pages h le =
    let size : ℕ = 32 * frame_fibs plan.layout in
    let last : List ℕ = shown_bytes plan (counted_on plan k s) in
    let long : length last ≡ size = frame_size plan n k s pages h (omega (arith, le)) in
    let before = bytes_long plan n k s pages h (omega (arith, le)) in
    let more : suc k * size ≡ k * size + size = suc-mul k size in
    cc (bytes_more plan k s, length-append (concat (notice_frames plan k s)) last, ap₂ (λ a b. a + b) before long, more)

-- ---- what is the same after a cycle

entries_later : (plan : Plan) (n k : ℕ) (s : State) → SwapIsAway plan.notice s.left n → k < n
    → sent_entries plan (counted_on plan k s) ≡ sent_entries plan s
entries_later plan n zero s away lt = refl
entries_later plan n (suc k) s away lt =
    let on = ap (λ (o : Option ℕ). is_noticed plan.notice o) (left_on plan (suc k) s) ∙ noticed_later _ _ _ _ away lt in
    rw (apart plan (suc k) s, on) refl

turn_again : (page_index done k pages : ℕ) → done % pages ≡ 0
    → (page_index + k) % pages ≡ (page_index + (done + k)) % pages
turn_again page_index done k pages whole =
    let first : 0 + (page_index + k) ≡ page_index + k = omega arith in
    let last : done + (page_index + k) ≡ page_index + (done + k) = omega arith in
    rw (← first, ← whole) (rw (← last) (mod-add-mod done pages (page_index + k)))

step_again : (mode : Mode) (count done k : ℕ) → done % count_step mode ≡ 0
    → (count + k) % COUNTS % count_step mode ≡ (count + (done + k)) % COUNTS % count_step mode
step_again I count done k whole = omega (arith, whole)
step_again _ count done k whole = omega (arith, whole)

one_alike : (plan : Plan) (n done k : ℕ) (s : State) (pages : PhasePages) (header : Header) → IsStretch plan n s pages
    → header ≡ header_of plan s
    → done % pages.made ≡ 0 → done % count_step (layout_mode plan.layout) ≡ 0 → done + k < n
    → IsAlike plan header (counted_on plan k s) (counted_on plan (done + k) s)
one_alike plan n done k s pages header h is cycle steps lt =
    let few : k < n = omega (arith, lt) in
    let inside = turn_within plan n s pages (omega (arith, lt)) h in
    let rounds = stretch_rounds plan n s pages h in
    let counts = (h.ready 0 (omega (arith, lt))).sent.count in
    let page = stretch_page plan n (done + k) s pages h lt in
    record {
      page_index = turn_on plan k _ s inside (fewer_rounds plan k n s _ (omega (arith, few)) rounds) ∙ turn_again _
          done k _ cycle ∙ sym (turn_on plan _ _ s inside (fewer_rounds plan _ n s _ (omega (arith, lt)) rounds));
      entries = entries_later plan n k s h.away few ∙ sym (entries_later plan n (done + k) s h.away lt);
      first = header_later plan n k s h.away few ∙ sym is;
      second = header_later plan n (done + k) s h.away lt ∙ sym is;
      on_step = ap (λ (c : ℕ). c % count_step (layout_mode plan.layout) == 0) (count_at plan k s counts)
          ∙ ap (λ (c : ℕ). c == 0) (step_again (layout_mode plan.layout) s.count done k steps)
          ∙ sym (ap (λ (c : ℕ). c % count_step (layout_mode plan.layout) == 0) (count_at plan (done + k) s counts));
      pageable = record { entries = page.kept.sendable; ensemble_within = (h.ready (done + k) lt).sent.ensemble };
    }

alike : (plan : Plan) (n done more : ℕ) (s : State) (pages : PhasePages) (header : Header) → IsStretch plan n s pages
    → header ≡ header_of plan s
    → done % pages.made ≡ 0 → done % count_step (layout_mode plan.layout) ≡ 0 → done + more ≤ n
    → AreAlike plan header more s (counted_on plan done s)
alike plan n done more s pages header h is cycle steps le k lt =
    rw (on_split plan done k s) (one_alike plan n done k s pages header h is cycle steps (omega (arith, lt, le)))

-- further frames are copies of the first ones with other counts
pub turn_on_turn : (plan : Plan) (n done more number : ℕ) (s : State) (pages : PhasePages) (header : Header)
    (old new text : List ℕ) → IsStretch plan n s pages → header ≡ header_of plan s
    → done % pages.made ≡ 0 → done % count_step (layout_mode plan.layout) ≡ 0 → 1 ≤ n → more ≤ done → done + more ≤ n
    → number ≡ (s.count + done) % COUNTS
    → old ≡ concat (notice_frames plan done s) → new ≡ old ++ text
    → AreRecounted plan header number more (take (more * (32 * frame_fibs plan.layout)) old) text
    → new ≡ concat (notice_frames plan (done + more) s)
turn_on_turn plan n done more number s pages header old new text h is cycle steps some few le at before is_new
    recounted =
    let t : State = counted_on plan done s in
    let size : ℕ = 32 * frame_fibs plan.layout in
    let counts = (h.ready 0 (omega (arith, some))).sent.count in
    let all : more + (done - more) ≡ done = omega (arith, few) in
    let first : List ℕ = concat (notice_frames plan more s) in
    let others : List ℕ = concat (notice_frames plan (done - more) (counted_on plan more s)) in
    let parts : old ≡ first ++ others = cc (before, bytes_split plan more (done - more) s, all) in
    let front : take (more * size) old ≡ first = rw (parts) (take_at first others (more * size)
    (bytes_long plan n more s pages h (omega (arith, few, le)))) in
    let text_is : text ≡ concat (notice_frames plan more t) =
    recounted s t (alike plan n done more s pages header h is cycle steps le) (count_at plan done s counts ∙ sym at)
    front in
    is_new ∙ ap₂ (λ a b. a ++ b) before text_is ∙ bytes_split plan done more s

-- ---- whole cycles

pub twice_whole : (done pages : ℕ) → done % pages ≡ 0 → (done + done) % pages ≡ 0
twice_whole done pages whole =
    let none : 0 + done ≡ done = omega arith in
    cc (mod-add-mod done pages done, whole, none)

pub room : (mode : Mode) (done more : ℕ) → done + more ≤ 128
    → done * (32 * fib_count mode) + more * (32 * fib_count mode) ≤ 16384
room I done more le = omega (arith, le)
room _ done more le = omega (arith, le)

-- ---- in a buffer of bytes

pub copied : (b : List ℕ) (offset len : ℕ) (copy : List ℕ) → len ≤ offset → offset + len ≤ length b
    → copy ≡ take offset b ++ (take len b ++ drop (offset + len) b)
    → take len (drop offset copy) ≡ take len (take offset b)
copied b offset len copy few fits is =
    let front : length (take offset b) ≡ offset = length-take-le offset b (omega (arith, fits)) in
    let part : length (take len b) ≡ len = length-take-le len b (omega (arith, fits)) in
    rw (is, drop_at (take offset b) (take len b ++ drop (offset + len) b) offset front)
    (take_at (take len b) (drop (offset + len) b) len part ∙ ap (λ (l : List ℕ). take len l)
    (sym (take-append-drop offset b)) ∙ take-append-le len (take offset b) (drop offset b) (omega (arith, few, front)))

pub appended : (b copy text last : List ℕ) (offset len : ℕ) → offset + len ≤ length b → copy ≡ take offset b
    ++ (take len b ++ drop (offset + len) b)
    → length text ≡ len → last ≡ take offset copy ++ (text ++ drop len (drop offset copy))
    → take (offset + len) last ≡ take offset b ++ text
appended b copy text last offset len fits is long is_last =
    let front : length (take offset b) ≡ offset = length-take-le offset b (omega (arith, fits)) in
    let same : take offset copy ≡ take offset b = rw (is) (take_at (take offset b) (take len b ++ drop (offset + len) b)
    offset front) in
    let past : List ℕ = drop len (drop offset copy) in
    cc (is_last, same, front, take-append-add (take offset b) (text ++ past) len, take_at text past len long)

-- the first bytes are removed, and the others moved to the front
pub moved : (bytes after : List ℕ) (len count : ℕ) → count ≤ length (take len bytes) → len ≤ length bytes
    → after ≡ copy_within bytes count len 0 → take (len - count) after ≡ drop count (take len bytes)
moved bytes after len count few fits is =
    let left : ℕ = len - count in
    let all : count + left ≡ len = omega (arith, few, length-take-le len bytes fits) in
    ap (λ (l : List ℕ). take left l) is
    ∙ ap (λ (n : ℕ). take n (paste bytes 0 (drop count bytes) left)) (sym (omega arith))
    ∙ take-paste bytes 0 (drop count bytes) left (omega arith) (omega (arith, length-drop count bytes, fits))
    ∙ sym (drop-take count left bytes)
    ∙ ap (λ (n : ℕ). drop count (take n bytes)) all
