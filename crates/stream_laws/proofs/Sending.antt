-- The entries of a frame of a run, as the checker hears them: those of FIG 0/0 to 0/3 of its own ensemble alone.
use Rattle.stream_laws.proofs.Words.{[], ◌%◌, ◌*◌, ◌++◌, ◌+◌, ◌-◌, ◌==◌, ◌∙◌, ◌∷◌, ◌≡◌, ◌≢◌, Airs, AllByRecursion, Bool}
use Rattle.stream_laws.proofs.Words.{Configuration, Contradiction, EnsembleInformation, EnsembleIsHeard, Entry}
use Rattle.stream_laws.proofs.Words.{EntrySent, Fib, Fig, FrameLayout, Head, HearsAll, I, IfSome, IsEnsembleInformation}
use Rattle.stream_laws.proofs.Words.{IsOpen, IsSentOf, Item, Laws, List, Listening, Marked, Moment, None, OneList, Open}
use Rattle.stream_laws.proofs.Words.{Option, Other, Plan, Raw, Reading, ReserveOne, Said, Some, State, Whole, Written}
use Rattle.stream_laws.proofs.Words.{all_append, ap, append_assoc, arith, cond, count_step, drop, drop-drop}
use Rattle.stream_laws.proofs.Words.{ensemble_in, ensemble_of, ensemble_sent, entries_in, entries_sent, entry_bytes}
use Rattle.stream_laws.proofs.Words.{eq-eqb, false, fib_at, fib_entries, fib_items, fib_sent, fibs_from, fibs_items}
use Rattle.stream_laws.proofs.Words.{fibs_sent, fig_items, fig_of, fig_sent, figs_items, figs_sent, findings_at}
use Rattle.stream_laws.proofs.Words.{findings_at_items, findings_at_sent, first_fib, frame_fibs, frame_items}
use Rattle.stream_laws.proofs.Words.{frame_sent, has_no_room, head_byte, head_of, hear_entries, hear_entry, hear_fig}
use Rattle.stream_laws.proofs.Words.{hear_figs, is_ensemble, is_long, is_next, is_noticed, items_of, known_of}
use Rattle.stream_laws.proofs.Words.{later_fibs, layout_mode, length, listening, map, map-append, marked, ne_eqb}
use Rattle.stream_laws.proofs.Words.{noted_at, pageable, raw_entry, raw_is, raw_of, refl, replicate, reserved_fibs}
use Rattle.stream_laws.proofs.Words.{said, said_append, second_next, sent_entries, sent_within, shown_bytes, subst, suc}
use Rattle.stream_laws.proofs.Words.{sym, true, where_heard, zero, ℕ, then_joined}
use Rattle.fib_carousel.specs.Packing.{same_head}
use Rattle.fib_carousel.specs.Bytes.{AreFibs, with_entry_first, figs_of, ensemble_figs}
use Rattle.fib_carousel.proofs.Sharing.{same_head_is}
use Rattle.mux_types.specs.declared.entry.Entry.TheVariants.{Ensemble as EnsembleOf}
use Rattle.stream_check.specs.History.{ensemble_of_item as said_ensemble}
use Rattle.plan_runs.proofs.Contents.{fib_sent as page_sent}
use Rattle.stream_laws.proofs.Framing.{first_of_fibs, read_frame}
use Rattle.stream_laws.proofs.Bytes.{is_read}

-- an entry that is sent of these configurations
pub record IsSentItem (noticed : Bool) (c n : Configuration) (i : Item) : Type 0 where
  pub m : Marked
  pub next : i.next ≡ m.next
  pub raw : i.raw ≡ raw_entry m.entry
  pub sent : IsSentOf noticed c n m

-- ---- FIGs of entries

abbrev under : Head → List Entry → Written
under head es = record { head = head; entries = es }

-- each entry of the FIG is sent, wherever the FIG is in its frame
abbrev FigIsSent : Bool → Configuration → Configuration → Written → Type 0
FigIsSent on c n w = (first : Bool) → AllByRecursion (IsSentItem on c n) (fig_items first (fig_of w))

item_sent : (on : Bool) (c n : Configuration) (m : Marked) (first : Bool) → IsSentOf on c n m
    → IsSentItem on c n (record {
      first = first;
      next = is_next (head_byte (head_of m));
      raw = raw_of (head_byte (head_of m) % 32) (is_long (head_byte (head_of m))) (entry_bytes m.entry);
    })
item_sent on c n m first sent = record { m = m; next = second_next m; raw = raw_is m; sent = sent }

joined_by : (on : Bool) (c n : Configuration) (m : Marked) (f : Written) (fs : List Written) (b : Bool)
    → same_head (head_of m) f.head ≡ b → IsSentOf on c n m → FigIsSent on c n f → AllByRecursion (FigIsSent on c n) fs
    → AllByRecursion (FigIsSent on c n)
    (cond b (under f.head (m.entry ∷ f.entries) ∷ fs) (under (head_of m) (m.entry ∷ []) ∷ f ∷ fs))
joined_by on c n m f fs true e sent one rest =
    let same : head_of m ≡ f.head = same_head_is (head_of m) f.head e in
    let moved : FigIsSent on c n (under f.head f.entries) → FigIsSent on c n (under f.head (m.entry ∷ f.entries)) =
    rw (← same) (λ before first. (item_sent on c n m first sent, before first)) in
    (moved one, rest)
joined_by on c n m f fs false e sent one rest = ((λ first. (item_sent on c n m first sent, tt)), (one, rest))

joined_sent : (on : Bool) (c n : Configuration) (m : Marked) (fs : List Written) → IsSentOf on c n m
    → AllByRecursion (FigIsSent on c n) fs → AllByRecursion (FigIsSent on c n) (with_entry_first m fs)
joined_sent on c n m [] sent all = ((λ first. (item_sent on c n m first sent, tt)), tt)
joined_sent on c n m (f ∷ fs) sent all = joined_by on c n m f fs (same_head (head_of m) f.head) refl sent all.0 all.1

figs_are_sent : (on : Bool) (c n : Configuration) (ms : List Marked) → AllByRecursion (IsSentOf on c n) ms
    → AllByRecursion (FigIsSent on c n) (figs_of ms)
figs_are_sent on c n [] all = tt
figs_are_sent on c n (m ∷ ms) all = joined_sent on c n m (figs_of ms) all.0 (figs_are_sent on c n ms all.1)

items_are_sent : (on : Bool) (c n : Configuration) (ws : List Written) (first : Bool)
    → AllByRecursion (FigIsSent on c n) ws → AllByRecursion (IsSentItem on c n) (figs_items first (map fig_of ws))
items_are_sent on c n [] first all = tt
items_are_sent on c n (w ∷ ws) first all = all_append _ _ _ (all.0 first) (items_are_sent on c n ws false all.1)

-- ---- a frame

-- FIG 0/0, if it is sent
abbrev pub IsHeadOf : Option EnsembleInformation → List Item → Type 0
IsHeadOf None heads = heads ≡ []
IsHeadOf (Some e) heads = (h : Item) × (heads ≡ h ∷ []) × (is_ensemble h ≡ true) × (said_ensemble h ≡ e)

pub record IsFrameSaid (plan : Plan) (u : State) (frame : List Fib) : Type 0 where
  pub heads : List Item
  pub members : List Item
  pub are : frame_items frame ≡ heads ++ members
  pub header : IsHeadOf (ensemble_sent plan u) heads
  pub sent : AllByRecursion (IsSentItem (is_noticed plan.notice u.left) u.current u.next) members

head_items : EnsembleIsHeard → (o : Option EnsembleInformation) → IfSome o IsEnsembleInformation → (ws : List Written)
    → (heads : List Item) × (first : Bool)
    × (figs_items true (map fig_of (ensemble_figs o ++ ws)) ≡ heads ++ figs_items first (map fig_of ws))
    × IsHeadOf o heads
head_items heard None within ws = ([], true, refl, refl)
head_items heard (Some e) within ws =
    let m : Marked = marked false (EnsembleOf e) in
    let h : Item = record {
      first = true;
      next = is_next (head_byte (head_of m));
      raw = raw_of (head_byte (head_of m) % 32) (is_long (head_byte (head_of m))) (entry_bytes (EnsembleOf e));
    } in
    let raw : h.raw ≡ raw_entry (EnsembleOf e) = raw_is m in
    (h ∷ [], false, refl, (h, refl, ap (λ (x : Raw). x.ext == 0) raw, ap ensemble_in raw ∙ heard e within))

-- FIG 0/0 is sent at counts that are multiples of the step
pub is_sent : (plan : Plan) (u : State) → u.count % count_step (layout_mode plan.layout) ≡ 0
    → ensemble_sent plan u ≡ Some (ensemble_of plan u)
is_sent plan u e = ap (λ (b : Bool). cond b (Some (ensemble_of plan u)) None)
    (eq-eqb (u.count % count_step (layout_mode plan.layout)) 0 e)

pub not_sent : (plan : Plan) (u : State) → u.count % count_step (layout_mode plan.layout) ≢ 0
    → ensemble_sent plan u ≡ None
not_sent plan u apart = ap (λ (b : Bool). cond b (Some (ensemble_of plan u)) None)
    (ne_eqb (u.count % count_step (layout_mode plan.layout)) 0 apart)

-- what is sent in the frame of a state: the FIGs of its first FIB, and those of each later one
abbrev first_figs : Plan → State → List Written
first_figs plan u = ensemble_figs (ensemble_sent plan u)
    ++ figs_of (fib_entries plan.layout (first_fib plan.layout u.page_index) (sent_entries plan u))

abbrev later_figs : Plan → State → List (List Written)
later_figs plan u =
    map (λ k. figs_of (fib_entries plan.layout k (sent_entries plan u))) (later_fibs plan.layout u.page_index)
    ++ replicate (reserved_fibs plan.layout) []

abbrev as_read : List (List Written) → List Fib
as_read figs = map (λ (ws : List Written). Some (map fig_of ws)) figs

pub later_count : (layout : FrameLayout) (k : ℕ) → frame_fibs layout - 1 ≡ length (later_fibs layout k)
    + reserved_fibs layout
later_count (Whole I) k = refl
later_count (ReserveOne I) k = refl
later_count layout k = refl

long_list : {X Y : Type 0} (f : X → Y) (xs : List X) (count : ℕ) (y : Y)
    → length (map f xs ++ replicate count y) ≡ length xs + count
long_list f [] zero y = omega arith
long_list f [] (suc count) y = let rest = long_list f [] count y in omega (arith, rest)
long_list f (x ∷ xs) count y = let rest = long_list f xs count y in omega (arith, rest)

fibs_read : OneList → (r : Reading) (figs : List (List Written)) (place : ℕ) (frame : List ℕ)
    → AreFibs figs (drop (32 * place) frame) → map r.read (fibs_from (length figs) place frame) ≡ as_read figs
fibs_read one r [] place frame are = refl
fibs_read one r (ws ∷ wss) place frame are =
    let next = drop-drop 32 (32 * place) frame ∙ ap (λ d. drop d frame) (omega arith) in
    let rest : AreFibs wss (drop (32 * (place + 1)) frame) = subst (λ (b : List ℕ). AreFibs wss b) next are.1 in
    cc (is_read one r (fib_at frame place) (map fig_of ws) are.0.fib, fibs_read one r wss (place + 1) frame rest)

sent_fibs : Laws → (plan : Plan) (u : State) → Airs plan u
    → AreFibs (first_figs plan u ∷ later_figs plan u) (shown_bytes plan u)
sent_fibs laws plan u a = (laws.pages.valid plan.layout (ensemble_sent plan u) u.page_index (sent_entries plan u)
    (pageable laws.pages plan u a)).0

frame_read : OneList → Laws → (r : Reading) (plan : Plan) (u : State) → Airs plan u
    → read_frame r plan.layout (shown_bytes plan u) ≡ as_read (first_figs plan u ∷ later_figs plan u)
frame_read one laws r plan u a =
    let frame : List ℕ = shown_bytes plan u in
    let are = sent_fibs laws plan u a in
    let long = long_list (λ k. figs_of (fib_entries plan.layout k (sent_entries plan u))) _ _ _ in
    ap (map r.read) (first_of_fibs plan.layout frame)
    ∙ ap (λ k. r.read (fib_at frame 0) ∷ map r.read (fibs_from k 1 frame))
    (later_count plan.layout u.page_index ∙ sym long)
    ∙ ap (λ f. f ∷ map r.read (fibs_from (length (later_figs plan u)) 1 frame))
    (is_read one r (fib_at frame 0) (map fig_of (first_figs plan u)) are.0.fib)
    ∙ ap (λ fs. Some (map fig_of (first_figs plan u)) ∷ fs) (fibs_read one r (later_figs plan u) 1 frame are.1)

-- their entries are sent
abbrev AreSent : Bool → Configuration → Configuration → List (List Written) → Type 0
AreSent on c n wss = AllByRecursion (λ ws. AllByRecursion (FigIsSent on c n) ws) wss

none_sent : (on : Bool) (c n : Configuration) (count : ℕ) → AreSent on c n (replicate count [])
none_sent on c n zero = tt
none_sent on c n (suc count) = (tt, none_sent on c n count)

each_sent : (plan : Plan) (u : State) (ks : List ℕ) → AreSent (is_noticed plan.notice u.left) u.current u.next
    (map (λ k. figs_of (fib_entries plan.layout k (sent_entries plan u))) ks)
each_sent plan u [] = tt
each_sent plan u (k ∷ ks) = (
  figs_are_sent (is_noticed plan.notice u.left) u.current u.next
      (fib_entries plan.layout k (sent_entries plan u)) (page_sent plan u k),
  each_sent plan u ks,
)

later_sent : (on : Bool) (c n : Configuration) (wss : List (List Written)) → AreSent on c n wss
    → AllByRecursion (IsSentItem on c n) (fibs_items false (as_read wss))
later_sent on c n [] all = tt
later_sent on c n (ws ∷ wss) all = all_append _ _ _ (items_are_sent _ _ _ _ _ all.0) (later_sent on c n wss all.1)

pub frame_said : OneList → Laws → (r : Reading) (plan : Plan) (u : State) → Airs plan u
    → IsFrameSaid plan u (read_frame r plan.layout (shown_bytes plan u))
frame_said one laws r plan u a =
    let on : Bool = is_noticed plan.notice u.left in
    let c : Configuration = u.current in
    let n : Configuration = u.next in
    let first : List Marked = fib_entries plan.layout (first_fib plan.layout u.page_index) (sent_entries plan u) in
    let head = head_items laws.ensemble (ensemble_sent plan u) (sent_within plan u a) (figs_of first) in
    let later : List Item = fibs_items false (as_read (later_figs plan u)) in
    let ks : List ℕ = later_fibs plan.layout u.page_index in
    let all : AreSent on c n (later_figs plan u) =
    all_append (λ ws. AllByRecursion (FigIsSent on c n) ws)
    (map (λ k. figs_of (fib_entries plan.layout k (sent_entries plan u))) ks)
    (replicate (reserved_fibs plan.layout) []) (each_sent plan u ks)
    (none_sent on c n (reserved_fibs plan.layout)) in
    record {
      heads = head.0;
      members = figs_items head.1 (map fig_of (figs_of first)) ++ later;
      are = ap frame_items (frame_read one laws r plan u a) ∙ ap (λ is. is ++ later) head.2
          ∙ append_assoc head.0 (figs_items head.1 (map fig_of (figs_of first))) later;
      header = head.3;
      sent = all_append (IsSentItem on c n) (figs_items head.1 (map fig_of (figs_of first))) later
          (items_are_sent on c n (figs_of first) head.1
          (figs_are_sent on c n first (page_sent plan u (first_fib plan.layout u.page_index))))
          (later_sent on c n (later_figs plan u) all);
    }

-- ---- hearing the entries of FIBs one after another

nothing_more : (o : Option Listening) (f : Listening → Option Listening) → ((l : Listening) → f l ≡ Some l)
    → o ≡ where_heard o f
nothing_more None f h = refl
nothing_more (Some l) f h = sym (h l)

raws_heard : (first next : Bool) (raws : List Raw) (past : List Moment)
    → listening (said (items_of first next raws) past) ≡ where_heard (listening past) (hear_entries next raws)
raws_heard first next [] past = nothing_more (listening past) (hear_entries next []) (λ l. refl)
raws_heard first next (raw ∷ raws) past =
    let i : Item = record { first = first; next = next; raw = raw } in
    raws_heard first next raws (Said i ∷ past) ∙ then_joined (listening past) (hear_entry next raw)
    (hear_entries next raws) (hear_entries next (raw ∷ raws)) (λ l. refl)

fig_heard : (first : Bool) (f : Fig) (past : List Moment)
    → listening (said (fig_items first f) past) ≡ where_heard (listening past) (hear_fig f)
fig_heard first (Open second es) past = raws_heard first (is_next second) (entries_in (Open second es)) past
    ∙ same (listening past)
  where
    same : (o : Option Listening) → where_heard o (hear_entries (is_next second) (entries_in (Open second es)))
        ≡ where_heard o (hear_fig (Open second es))
    same None = refl
    same (Some l) = refl
fig_heard first (Other given) past = nothing_more (listening past) (hear_fig (Other given)) (λ l. refl)

figs_heard : (first : Bool) (figs : List Fig) (past : List Moment)
    → listening (said (figs_items first figs) past) ≡ where_heard (listening past) (hear_figs figs)
figs_heard first [] past = nothing_more (listening past) (hear_figs []) (λ l. refl)
figs_heard first (f ∷ fs) past =
    ap listening (said_append (fig_items first f) (figs_items false fs) past)
    ∙ figs_heard false fs (said (fig_items first f) past)
    ∙ ap (λ o. where_heard o (hear_figs fs)) (fig_heard first f past)
    ∙ then_joined (listening past) (hear_fig f) (hear_figs fs) (hear_figs (f ∷ fs)) (λ l. refl)

pub fibs_heard : OneList → (r : Reading) (first : Bool) (fibs : List (List ℕ)) (past : List Moment)
    (l after : Listening) → HearsAll fibs l after → listening past ≡ Some l
    → listening (said (fibs_items first (map r.read fibs)) past) ≡ Some after
fibs_heard one r first [] past l after h is = is ∙ ap Some (sym h)
fibs_heard one r first (f ∷ fs) past l after (between, here, rest) is =
    let read : r.read f ≡ Some here.0 = is_read one r f here.0 here.1 in
    let now : listening (said (fib_items first (r.read f)) past) ≡ Some between =
    cc (read, figs_heard first here.0 past, is, here.2) in
    ap listening (said_append (fib_items first (r.read f)) (fibs_items false (map r.read fs)) past)
    ∙ fibs_heard one r false fs (said (fib_items first (r.read f)) past) between after rest now

-- ---- what is sent in FIBs of this ensemble are their entries

abbrev pub IsOpenFib : Fib → Type 0
IsOpenFib None = Unit {0}
IsOpenFib (Some figs) = AllByRecursion IsOpen figs

entries_alone : (first next : Bool) (raws : List Raw) → entries_sent first next raws
    ≡ map EntrySent (items_of first next raws)
entries_alone first next [] = refl
entries_alone first next (raw ∷ raws) =
    ap (λ ss. EntrySent (record { first = first; next = next; raw = raw }) ∷ ss) (entries_alone first next raws)

fig_alone : (first : Bool) (f : Fig) → IsOpen f → fig_sent first f ≡ map EntrySent (fig_items first f)
fig_alone first (Open second es) opened = entries_alone first (is_next second) (entries_in (Open second es))
fig_alone first (Other given) opened = absurd opened

figs_alone : (first : Bool) (figs : List Fig) → AllByRecursion IsOpen figs
    → figs_sent first figs ≡ map EntrySent (figs_items first figs)
figs_alone first [] all = refl
figs_alone first (f ∷ fs) all =
    ap (λ ss. ss ++ figs_sent false fs) (fig_alone first f all.0)
    ∙ ap (λ ss. map EntrySent (fig_items first f) ++ ss) (figs_alone false fs all.1)
    ∙ sym (map-append EntrySent (fig_items first f) (figs_items false fs))

fib_alone : (first : Bool) (fib : Fib) → IsOpenFib fib → fib_sent first fib ≡ map EntrySent (fib_items first fib)
fib_alone first None opened = refl
fib_alone first (Some figs) opened = figs_alone first figs opened

fibs_alone : (first : Bool) (fibs : List Fib) → AllByRecursion IsOpenFib fibs
    → fibs_sent first fibs ≡ map EntrySent (fibs_items first fibs)
fibs_alone first [] all = refl
fibs_alone first (fib ∷ fibs) all =
    ap (λ ss. ss ++ fibs_sent false fibs) (fib_alone first fib all.0)
    ∙ ap (λ ss. map EntrySent (fib_items first fib) ++ ss) (fibs_alone false fibs all.1)
    ∙ sym (map-append EntrySent (fib_items first fib) (fibs_items false fibs))

found_alone : (step period : ℕ) (items : List Item) (past : List Moment) (noted : List Contradiction)
    → findings_at_sent step period past noted (map EntrySent items) ≡ findings_at_items step period past items
found_alone step period [] past noted = refl
found_alone step period (i ∷ is) past noted =
    ap (λ ws. cond (has_no_room (known_of step period past) i) [] (findings_at (known_of step period past) i ++ ws))
    (found_alone step period is (Said i ∷ past) (noted_at past i noted))

pub found_open : (step period : ℕ) (frame : List Fib) (past : List Moment) (noted : List Contradiction)
    → AllByRecursion IsOpenFib frame
    → findings_at_sent step period past noted (frame_sent frame)
    ≡ findings_at_items step period past (frame_items frame)
found_open step period frame past noted all =
    cc (fibs_alone true frame all, found_alone step period (frame_items frame) past noted)

-- ---- those of a run

fibs_open : (figs : List (List Written)) (bytes : List ℕ) → AreFibs figs bytes → AllByRecursion IsOpenFib (as_read figs)
fibs_open [] bytes are = tt
fibs_open (ws ∷ wss) bytes are = (are.0.looked_into, fibs_open wss (drop 32 bytes) are.1)

pub frame_open : OneList → Laws → (r : Reading) (plan : Plan) (u : State) → Airs plan u
    → AllByRecursion IsOpenFib (read_frame r plan.layout (shown_bytes plan u))
frame_open one laws r plan u a =
    subst (AllByRecursion IsOpenFib) (sym (frame_read one laws r plan u a))
    (fibs_open (first_figs plan u ∷ later_figs plan u) (shown_bytes plan u) (sent_fibs laws plan u a))
