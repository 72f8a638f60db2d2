-- Playing events, and then more events.
use Rattle.plan_player.proofs.Words.{[], ◌++◌, ◌+◌, ◌-◌, ◌<◌, ◌∙◌, ◌∷◌, ◌≡◌, ◌≤◌, Appends, Appends-trans, AreQuiet}
use Rattle.plan_player.proofs.Words.{Contact, Delivered, Event, Frame, List, Option, Playing, Program, State, Stopped}
use Rattle.plan_player.proofs.Words.{after_frame, ap, append-nil, append_assoc, arith, frames_of, happens, length}
use Rattle.plan_player.proofs.Words.{length-append, next_frame, played, played_bytes, refl, replicate, run_frames}
use Rattle.plan_player.proofs.Words.{subst, suc, sym, take, zero, ℕ}
use Rattle.plan_player.proofs.Delivering.{played_join, bytes_join, frames_join}

counts_join : (p : Playing) (events more : List Event)
    → length (frames_of p (events ++ more)) ≡ length (frames_of p events) + length (frames_of (played p events) more)
counts_join p events more =
    rw (frames_join p events more) (length-append (frames_of p events) (frames_of (played p events) more))

-- ---- events that were delivered, and then more

pub joined : (a b c : Playing) (es fs : List Event) (x y z : Option (List ℕ)) (m n : ℕ) → Delivered a b es x y m
    → Delivered b c fs y z n → Delivered a c (es ++ fs) x z (m + n)
joined a b c es fs x y z m n d e =
    let count : length (frames_of b fs) ≡ length (frames_of (played a es) fs) = rw (d.state) refl in
    record {
      state = e.state ∙ ap (λ (p : Playing). played p fs) d.state ∙ sym (played_join a es fs);
      out = subst (λ (l : List ℕ). Appends x z l) (rw (d.state) (sym (bytes_join a es fs)))
          (Appends-trans x y z (played_bytes a es) (played_bytes b fs) d.out e.out);
      whole = omega (arith, d.whole, e.whole, count, counts_join a es fs);
    }

-- ---- the sink fails in the later events

pub stopped_later : (a b c : Playing) (es fs : List Event) (x y z : Option (List ℕ)) (m n k : ℕ)
    → Delivered a b es x y m → Stopped b c fs y z n k → Stopped a c (es ++ fs) x z (m + n) k
stopped_later a b c es fs x y z m n k d s =
    let at : played b s.done ≡ played a (es ++ s.done) = rw (d.state) (sym (played_join a es s.done)) in
    let next = ap (λ (p : Playing). next_frame p) at in
    let before : played_bytes a es ++ played_bytes b s.done ≡ played_bytes a (es ++ s.done) =
    rw (d.state) (sym (bytes_join a es s.done)) in
    let bytes : played_bytes a es ++ (played_bytes b s.done ++ take k (next_frame (played b s.done))) ≡ played_bytes a
    (es ++ s.done) ++ take k (next_frame (played a (es ++ s.done))) = rw (← next, ← before)
    (sym (append_assoc (played_bytes a es) (played_bytes b s.done) (take k (next_frame (played b s.done))))) in
    let count : length (frames_of b s.done) ≡ length (frames_of (played a es) s.done) = rw (d.state) refl in
    record {
      done = es ++ s.done;
      rest = s.rest;
      cut = rw (s.cut) (sym (append_assoc es s.done (Frame ∷ s.rest)));
      whole = omega (arith, d.whole, s.whole, count, counts_join a es s.done);
      part = rw (← next) s.part;
      state = s.state ∙ ap (λ (p : Playing). played p (s.done ++ Frame ∷ [])) d.state ∙ sym (played_join a es _) ∙ ap
          (λ (l : List Event). played a l) (sym (append_assoc es s.done (Frame ∷ [])));
      out = subst (λ (l : List ℕ). Appends x z l) bytes
          (Appends-trans x y z (played_bytes a es) (played_bytes b s.done ++ take k (next_frame (played b s.done)))
          d.out s.out);
    }

-- no later event was played
pub stopped_before : (a c : Playing) (es fs : List Event) (x z : Option (List ℕ)) (n k : ℕ) → Stopped a c es x z n k
    → Stopped a c (es ++ fs) x z n k
stopped_before a c es fs x z n k s = record {
  done = s.done;
  rest = s.rest ++ fs;
  cut = rw (s.cut) (append_assoc s.done (Frame ∷ s.rest) fs);
  whole = s.whole;
  part = s.part;
  state = s.state;
  out = s.out;
}

-- ---- there are no more frames than events

few : (p : Program) (s : State) (es : List Event) → length (run_frames p s es) ≤ length es
few p s [] = omega arith
few p s (Contact c closed ∷ es) = omega (arith, few p (happens p s (Contact c closed)) es)
few p s (Frame ∷ es) = omega (arith, few p (after_frame p s) es)

pub few_delivered : (a b : Playing) (es : List Event) (x y : Option (List ℕ)) (m : ℕ) → Delivered a b es x y m
    → m ≤ length es
few_delivered a b es x y m d = omega (arith, d.whole, few a.code a.state es)

pub few_stopped : (a c : Playing) (es : List Event) (x z : Option (List ℕ)) (n k : ℕ) → Stopped a c es x z n k
    → n ≤ length es
few_stopped a c es x z n k s =
    let all : length es ≡ length s.done + length (Frame ∷ s.rest) =
    rw (s.cut) (length-append s.done (Frame ∷ s.rest)) in
    omega (arith, s.whole, few a.code a.state s.done, all)

-- ---- frames one after another

pub replicate_more : (m n : ℕ) → replicate (m + n) Frame ≡ replicate m Frame ++ replicate n Frame
replicate_more zero n =
    let same : 0 + n ≡ n = omega arith in
    rw (same) refl
replicate_more (suc m) n =
    let next : suc m + n ≡ suc (m + n) = omega arith in
    rw (next, replicate_more m n) refl

-- a player after n frames, and then after k more
pub played_frames : (a b c : Playing) (n k : ℕ) → b ≡ played a (replicate n Frame) → c ≡ played b (replicate k Frame)
    → c ≡ played a (replicate (n + k) Frame)
played_frames a b c n k d e =
    e ∙ ap (λ (p : Playing). played p (replicate k Frame)) d
    ∙ sym (played_join a (replicate n Frame) (replicate k Frame))
    ∙ ap (λ (l : List Event). played a l) (sym (replicate_more n k))

pub length_replicate : (n : ℕ) → length (replicate n Frame) ≡ n
length_replicate zero = refl
length_replicate (suc n) = rw (length_replicate n) refl

-- the sink fails in the first n of m frames
pub stopped_among : (a b : Playing) (n m : ℕ) (x y : Option (List ℕ)) (frames bytes : ℕ) → n ≤ m
    → Stopped a b (replicate n Frame) x y frames bytes → Stopped a b (replicate m Frame) x y frames bytes
stopped_among a b n m x y frames bytes le s =
    let cut : replicate n Frame ++ replicate (m - n) Frame ≡ replicate m Frame =
    sym (replicate_more n (m - n)) ∙ ap (λ (k : ℕ). replicate k Frame) (omega (arith, le)) in
    rw (← cut) (stopped_before a b (replicate n Frame) (replicate (m - n) Frame) x y frames bytes s)

-- n frames were delivered, and then more of the m
pub joined_frames : (a b c : Playing) (x y z : Option (List ℕ)) (n k : ℕ) → Delivered a b (replicate n Frame) x y n
    → Delivered b c (replicate k Frame) y z k → Delivered a c (replicate (n + k) Frame) x z (n + k)
joined_frames a b c x y z n k d e =
    rw (replicate_more n k) (joined a b c (replicate n Frame) (replicate k Frame) x y z n k d e)

pub stopped_frames : (a b c : Playing) (x y z : Option (List ℕ)) (n m frames bytes : ℕ) → n ≤ m
    → Delivered a b (replicate n Frame) x y n → Stopped b c (replicate (m - n) Frame) y z frames bytes
    → Stopped a c (replicate m Frame) x z (n + frames) bytes
stopped_frames a b c x y z n m frames bytes le d s =
    let cut : replicate n Frame ++ replicate (m - n) Frame ≡ replicate m Frame =
    sym (replicate_more n (m - n)) ∙ ap (λ (k : ℕ). replicate k Frame) (omega (arith, le)) in
    rw (← cut) (stopped_later a b c (replicate n Frame) (replicate (m - n) Frame) x y z n frames bytes d s)

pub few_frames : (a c : Playing) (m : ℕ) (x z : Option (List ℕ)) (frames bytes : ℕ)
    → Stopped a c (replicate m Frame) x z frames bytes → frames ≤ m
few_frames a c m x z frames bytes s = omega (arith, few_stopped a c _ x z _ bytes s, length_replicate m)

-- ---- one frame as a run of one frame event

pub one_delivered : (a b : Playing) (x y : Option (List ℕ)) → b ≡ played a (Frame ∷ []) → Appends x y (next_frame a)
    → Delivered a b (replicate 1 Frame) x y 1
one_delivered a b x y state out =
    let bytes : next_frame a ≡ next_frame a ++ [] = sym (append-nil (next_frame a)) in
    record { state = state; out = subst (λ (l : List ℕ). Appends x y l) bytes out; whole = refl }

pub one_stopped : (a b : Playing) (x y : Option (List ℕ)) (k : ℕ) → b ≡ played a (Frame ∷ [])
    → k < length (next_frame a) → Appends x y (take k (next_frame a))
    → Stopped a b (replicate 1 Frame) x y 0 k
one_stopped a b x y k state part out =
    record { done = []; rest = []; cut = refl; whole = refl; part = part; state = state; out = out }

-- there are as many frames as frame events
pub all_frames : (p : Program) (s : State) (n : ℕ) → n ≡ length (run_frames p s (replicate n Frame))
all_frames p s zero = refl
all_frames p s (suc n) = ap (λ (k : ℕ). suc k) (all_frames p (after_frame p s) n)

-- the first of some quiet frames, and the rest
pub first_quiet : (p : Program) (s : State) (n m : ℕ) → n ≡ suc m → AreQuiet p n s → AreQuiet p (suc m) s
first_quiet p s n m e quiet = subst (λ (k : ℕ). AreQuiet p k s) e quiet
