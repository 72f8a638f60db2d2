-- A stream is cut into frames in one way, and in the same way as far as any front of it goes.
use Rattle.stream_check.proofs.Words.{[], ◌++◌, ◌+◌, ◌<◌, ◌∙◌, ◌∷◌, ◌≡◌, ◌≤◌, AllByRecursion, AreFrames, BeginsAnew}
use Rattle.stream_check.proofs.Words.{Bool, Fib, HoldsFirst, IsFramed, IsOneFrame, List, Moment, ap, append-nil}
use Rattle.stream_check.proofs.Words.{append_assoc, arith, begins_with_ensemble, cond, false, false≢true, frame_items}
use Rattle.stream_check.proofs.Words.{frames_full, holds_ensemble, length, length-append, past_after_frame, refl}
use Rattle.stream_check.proofs.Words.{runs_full, subst, suc, sym, true, ℕ}
use Rattle.stream_check.proofs.Framing.{flat, begins_more}

-- later FIBs of a frame
abbrev AreLater : List Fib → Type 0
AreLater fibs = AllByRecursion (λ later. begins_with_ensemble later ≡ false) fibs

head_is : (x y : Fib) (xs ys : List Fib) → x ∷ xs ≡ y ∷ ys → x ≡ y
head_is x y xs ys e = cc

tail_is : (x y : Fib) (xs ys : List Fib) → x ∷ xs ≡ y ∷ ys → xs ≡ ys
tail_is x y xs ys e = cc

-- two lists in front, and what follows them, are the same
pub record AreSplit (a b u v : List Fib) : Type 0 where
  pub one : a ≡ b
  pub rest : u ≡ v

-- ---- the FIBs that are skipped

pub same_skipped : (a b u v : List Fib) → AllByRecursion (λ fib. holds_ensemble fib ≡ false) a
    → AllByRecursion (λ fib. holds_ensemble fib ≡ false) b → HoldsFirst u → HoldsFirst v → a ++ u ≡ b ++ v
    → AreSplit a b u v
same_skipped [] [] u v all others first second e = record { one = refl; rest = e }
same_skipped [] (y ∷ b) (x ∷ u) v all others first second e =
    absurd (false≢true (sym others.0 ∙ ap holds_ensemble (sym (head_is x y u (b ++ v) e)) ∙ first))
same_skipped (x ∷ a) [] u (y ∷ v) all others first second e =
    absurd (false≢true (sym all.0 ∙ ap holds_ensemble (head_is x y (a ++ u) v e) ∙ second))
same_skipped (x ∷ a) (y ∷ b) u v all others first second e =
    let rest = same_skipped a b u v all.1 others.1 first second (tail_is x y (a ++ u) (b ++ v) e) in
    record { one = ap (λ h. h ∷ a) (head_is x y (a ++ u) (b ++ v) e) ∙ ap (λ t. y ∷ t) rest.one; rest = rest.rest }
same_skipped _ _ _ _ all others first second e = absurd cc

-- ---- one frame

-- what begins anew is no later FIB
not_later : (u : List Fib) (xs : List Fib) → AreLater (xs ++ u) → BeginsAnew u → ⊥
not_later [] [] all anew = anew
not_later (x ∷ u) [] all anew = false≢true (sym all.0 ∙ anew)
not_later u (x ∷ xs) all anew = not_later u xs all.1 anew

-- the later FIBs of two frames that begin alike, where each is as long as can be
same_later : (size n : ℕ) (a b u v : List Fib) → AreLater a → AreLater b → (n + length a < size → BeginsAnew u)
    → (n + length b < size → BeginsAnew v) → n + length a ≤ size → n + length b ≤ size → a ++ u ≡ b ++ v
    → AreSplit a b u v
same_later size n [] [] u v all others first second fits other e = record { one = refl; rest = e }
same_later size n [] (y ∷ b) (x ∷ u) v all others first second fits other e =
    let short : n + 0 < size = omega (arith, other) in
    absurd (false≢true (sym others.0 ∙ ap begins_with_ensemble (sym (head_is x y u (b ++ v) e)) ∙ first short))
same_later size n (x ∷ a) [] u (y ∷ v) all others first second fits other e =
    absurd (false≢true (sym all.0 ∙ ap begins_with_ensemble (head_is x y (a ++ u) v e) ∙ second (omega (arith, fits))))
same_later size n (x ∷ a) (y ∷ b) u v all others first second fits other e =
    let rest = same_later size (suc n) a b u v all.1 others.1 (λ h. first (omega (arith, h)))
    (λ h. second (omega (arith, h))) (omega (arith, fits)) (omega (arith, other)) (tail_is _ _ _ _ e) in
    record { one = ap (λ h. h ∷ a) (head_is x y (a ++ u) (b ++ v) e) ∙ ap (λ t. y ∷ t) rest.one; rest = rest.rest }
same_later size n _ _ _ _ all others first second fits other e = absurd cc

pub same_frame : (size : ℕ) (g h u v : List Fib) → IsOneFrame g → IsOneFrame h → length g ≤ size → length h ≤ size
    → (length g < size → BeginsAnew u) → (length h < size → BeginsAnew v) → g ++ u ≡ h ++ v → AreSplit g h u v
same_frame size [] h u v one other fits others first second e = absurd one
same_frame size (x ∷ g) [] u v one other fits others first second e = absurd other
same_frame size (x ∷ g) (y ∷ h) u v one other fits others first second e =
    let rest = same_later size 1 g h u v one other (λ k. first (omega (arith, k))) (λ k. second (omega (arith, k)))
    (omega (arith, fits)) (omega (arith, others)) (tail_is x y (g ++ u) (h ++ v) e) in
    record { one = ap (λ z. z ∷ g) (head_is x y (g ++ u) (h ++ v) e) ∙ ap (λ t. y ∷ t) rest.one; rest = rest.rest }

-- a rest that is not a frame has no frame in front
pub no_frame : (size : ℕ) (g u : List Fib) (x : Fib) (rest : List Fib) → IsOneFrame g → length g ≤ size
    → (length g < size → BeginsAnew u) → AreLater rest → length (x ∷ rest) < size → x ∷ rest ≡ g ++ u → ⊥
no_frame size [] u x rest one fits anew later short e = one
no_frame size (y ∷ g) u x rest one fits anew later short e =
    let same : rest ≡ g ++ u = tail_is x y rest (g ++ u) e in
    let less : length (y ∷ g) < size = omega (arith, short, ap length same ∙ length-append g u) in
    not_later u g (subst AreLater same later) (anew less)

-- ---- frames

no_one : (h u : List Fib) → IsOneFrame h → [] ≡ h ++ u → ⊥
no_one [] u one k = one
no_one (x ∷ xs) u one k = absurd cc

front_cut : (size : ℕ) (f g : List (List Fib)) (r s w : List Fib) → AreFrames size f r → AreFrames size g s
    → (flat f ++ r) ++ w ≡ flat g ++ s → (more : List (List Fib)) × (g ≡ f ++ more)
front_cut size [] g r s w a b e = (g, refl)
front_cut size (h ∷ f) [] r [] w a b e =
    absurd (no_one _ _ a.0 (sym e ∙ append_assoc (h ++ flat f) r w ∙ append_assoc h (flat f) (r ++ w)))
front_cut size (h ∷ f) [] r (x ∷ s) w a b e =
    absurd (no_frame size h ((flat f ++ r) ++ w) x s a.0 a.1 (λ less. begins_more (flat f ++ r) w (a.2 less)) b.0 b.1
    (sym e ∙ ap (λ l. l ++ w) (append_assoc h (flat f) r) ∙ append_assoc h (flat f ++ r) w))
front_cut size (h ∷ f) (k ∷ g) r s w a b e =
    let one = same_frame size h k ((flat f ++ r) ++ w) (flat g ++ s) a.0 b.0 a.1 b.1
    (λ less. begins_more (flat f ++ r) w (a.2 less)) b.2
    (sym (append_assoc h (flat f ++ r) w) ∙ ap (λ l. l ++ w) (sym (append_assoc h (flat f) r)) ∙ e
    ∙ append_assoc k (flat g) s) in
    let rest = front_cut size f g r s w a.3 b.3 one.rest in
    (rest.0, ap (λ z. z ∷ g) (sym one.one) ∙ ap (λ t. h ∷ t) rest.1)

pub no_flat : (size : ℕ) (frames : List (List Fib)) (rest : List Fib) → AreFrames size frames rest → flat frames
    ++ rest ≡ [] → frames ≡ []
no_flat size [] rest cut none = refl
no_flat size ([] ∷ frames) rest cut none = absurd cut.0
no_flat size ((x ∷ xs) ∷ frames) rest cut none = absurd cc

-- the frames of a front of a stream are its first frames
pub front_framing : (size : ℕ) (front behind skipped later : List Fib) (f g : List (List Fib)) (r s : List Fib)
    → IsFramed size front skipped f r → IsFramed size (front ++ behind) later g s
    → (more : List (List Fib)) × (g ≡ f ++ more)
front_framing size front behind skipped later f g r s a b = chosen (flat f ++ r) refl
  where
    chosen : (held : List Fib) → flat f ++ r ≡ held → (more : List (List Fib)) × (g ≡ f ++ more)
    chosen [] e = (g, ap (λ l. l ++ g) (sym (no_flat size f r a.cut e)))
    chosen (x ∷ held) e =
        let first : HoldsFirst ((flat f ++ r) ++ behind) = rw (e) (subst HoldsFirst e a.begun) in
        let same = sym (append_assoc skipped (flat f ++ r) behind) ∙ ap (λ l. l ++ behind) (sym a.whole) ∙ b.whole in
        front_cut size f g r s behind a.cut b.cut
        (same_skipped skipped later ((flat f ++ r) ++ behind) (flat g ++ s) a.before b.before first b.begun
        same).rest

-- ---- no frame of a front is full

pub room_before : (step period : ℕ) (past : List Moment) (f more : List (List Fib))
    → frames_full step period past (f ++ more) ≡ false → frames_full step period past f ≡ false
room_before step period past [] more e = refl
room_before step period past (g ∷ gs) more e =
    chosen (room_before step period (past_after_frame step past g) gs more) (runs_full step period past (frame_items g))
    e
  where
    chosen : (frames_full step period (past_after_frame step past g) (gs ++ more) ≡ false
        → frames_full step period (past_after_frame step past g) gs ≡ false)
        → (t : Bool) → cond t true (frames_full step period (past_after_frame step past g) (gs ++ more)) ≡ false
        → cond t true (frames_full step period (past_after_frame step past g) gs) ≡ false
    chosen rest true h = h
    chosen rest false h = rest h

-- ---- lists that each begin with the other are the same

pub none_more : {X : Type 0} (f g more less : List X) → g ≡ f ++ more → f ≡ g ++ less → f ≡ g
none_more f g [] less one two = sym (append-nil f) ∙ sym one
none_more f g (m ∷ ms) less one two =
    absurd (omega (arith, ap length one ∙ length-append f (m ∷ ms), ap length two ∙ length-append g less))
