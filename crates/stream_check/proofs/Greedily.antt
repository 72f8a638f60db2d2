-- A greedy cut gives the maximum number of parts; a new identifier restarts it.
use Rattle.stream_check.proofs.Words.{[], ◌++◌, ◌+◌, ◌<◌, ◌∙◌, ◌∷◌, ◌≡◌, ◌≢◌, ◌≤◌, Contains, GreedyCloses, GreedyIsMost}
use Rattle.stream_check.proofs.Words.{GreedyStays, HasAll, IsCutInThree, IsCutInto, IsGreedy, IsMostParts, IsPart, List}
use Rattle.stream_check.proofs.Words.{MostIsOne, NewBeginsAnew, ThreeOrMore, ap, append-nil, append_assoc, arith}
use Rattle.stream_check.proofs.Words.{cases_lt, concat, inl, inr, length, length-append, refl, suc, sym, zero, ℕ}
use Rattle.stream_check.proofs.Rows.{shorter, behind, front}
use Rattle.stream_check.proofs.Cuts.{last, more, none, has_left, has_right}

is_some : {X : Type 0} (xs ys : List X) (y : X) → xs ++ y ∷ ys ≢ []
is_some [] ys y e = absurd cc
is_some (x ∷ xs) ys y e = absurd cc

some_left : {X : Type 0} (xs ys : List X) → xs ≢ [] → xs ++ ys ≢ []
some_left [] ys some e = some refl
some_left (x ∷ xs) ys some e = absurd cc

-- for a cut into one part more that ends with the new frame: what precedes its last part
record Before (wanted : List ℕ) (k : ℕ) (front back done open_frames : List (List ℕ)) (frame : List ℕ) : Type 0 where
  start : List (List ℕ)
  back_before : List (List ℕ)
  part : List (List ℕ)
  is_before : start ++ back_before ≡ done ++ open_frames
  is : start ++ (part ++ back) ≡ done ++ (open_frames ++ frame ∷ [])
  cut : IsCutInto wanted k start
  whole : IsPart wanted part

before : (wanted : List ℕ) (k : ℕ) (front back done open_frames : List (List ℕ)) (frame : List ℕ)
    → front ++ back ≡ done ++ (open_frames ++ frame ∷ []) → IsCutInto wanted (suc k) front
    → Before wanted k front back done open_frames frame
before wanted k front back done open_frames frame e c =
    let l = last wanted k front c in
    let is = sym (append_assoc l.front l.part back) ∙ ap (λ row. row ++ back) (sym l.is) ∙ e in
    let s = shorter l.front (l.part ++ back) (done ++ open_frames) frame
    (is ∙ sym (append_assoc done open_frames (frame ∷ []))) (some_left l.part back l.whole.0) in
    record {
      start = l.front;
      back_before = s.back;
      part = l.part;
      is_before = s.is;
      is = is;
      cut = l.cut;
      whole = l.whole;
    }

-- a front of the frames ends with the new frame, or earlier
sooner : (n : ℕ) (wanted : List ℕ) (front back done open_frames : List (List ℕ)) (frame : List ℕ) (P : Type 0)
    → front ++ back ≡ done ++ (open_frames ++ frame ∷ [])
    → (front ≡ done ++ (open_frames ++ frame ∷ []) → P)
    → ((b : List (List ℕ)) → front ++ b ≡ done ++ open_frames → P) → P
sooner n wanted front [] done open_frames frame P e at less = at (sym (append-nil front) ∙ e)
sooner n wanted front (b ∷ bs) done open_frames frame P e at less =
    let s = shorter front (b ∷ bs) (done ++ open_frames) frame (e ∙ sym (append_assoc done open_frames (frame ∷ [])))
    (λ q. absurd cc) in
    less s.back s.is

-- ---- the part is complete

closes_most : (wanted : List ℕ) (n : ℕ) (done open_frames : List (List ℕ)) (frame : List ℕ)
    → IsGreedy wanted n done open_frames
    → (m : ℕ) (front back : List (List ℕ)) → front ++ back ≡ done ++ (open_frames ++ frame ∷ [])
    → IsCutInto wanted m front → m ≤ n + 1
closes_most wanted n done open_frames frame g zero front back e c = omega arith
closes_most wanted n done open_frames frame g (suc k) front back e c =
    let b = before wanted k front back done open_frames frame e c in
    omega (arith, g.most k b.start b.back_before b.is_before b.cut)

closes_soonest : (wanted : List ℕ) (n : ℕ) (done open_frames : List (List ℕ)) (frame : List ℕ)
    → IsGreedy wanted n done open_frames
    → (front back : List (List ℕ)) → front ++ back ≡ done ++ (open_frames ++ frame ∷ [])
    → IsCutInto wanted (n + 1) front
    → length (done ++ (open_frames ++ frame ∷ [])) ≤ length front
closes_soonest wanted n done open_frames frame g front back e c =
    sooner n wanted front back done open_frames frame (length (done ++ (open_frames ++ frame ∷ [])) ≤ length front) e
    (λ (is : front ≡ done ++ (open_frames ++ frame ∷ [])). let same = ap length is in omega (arith, same))
    (λ (b : List (List ℕ)) (is : front ++ b ≡ done ++ open_frames). let le : n + 1 ≤ n = g.most (n + 1) front b is c in
    absurd (omega (arith, le)))

pub greedy_closes : GreedyCloses
greedy_closes wanted n done open_frames frame g all =
    let nil = append-nil (done ++ (open_frames ++ frame ∷ [])) in
    record {
      cut = more wanted n done (open_frames ++ frame ∷ []) g.cut (is_some open_frames [] frame, all);
      most = λ m front back e c. closes_most wanted n done open_frames frame g m front back (e ∙ nil) c;
      soonest = λ front back e c. closes_soonest wanted n done open_frames frame g front back (e ∙ nil) c;
    }

-- ---- the part is incomplete

stays_most : (wanted : List ℕ) (n : ℕ) (done open_frames : List (List ℕ)) (frame : List ℕ)
    → IsGreedy wanted n done open_frames
    → (HasAll wanted (open_frames ++ frame ∷ []) → ⊥)
    → (m : ℕ) (front back : List (List ℕ)) → front ++ back ≡ done ++ (open_frames ++ frame ∷ [])
    → IsCutInto wanted m front → m ≤ n
stays_most wanted n done open_frames frame g short zero front back e c = omega arith
stays_most wanted n done open_frames frame g short (suc k) front back e c =
    let b = before wanted k front back done open_frames frame e c in
    elim (cases_lt k n) [
      | inl lt ↦ omega (arith, lt)
      | inr ge ↦
          let same : k ≡ n = omega (arith, g.most k b.start b.back_before b.is_before b.cut, ge) in
          let far : length done ≤ length b.start = g.soonest b.start b.back_before b.is_before (rw (← same) b.cut) in
          let at = behind done b.start (b.part ++ back) (open_frames ++ frame ∷ []) b.is far in
          absurd (short (rw (at.is) (has_right wanted at.mid (b.part ++ back) (has_left wanted b.part back b.whole.1))))
    ]

stays_soonest : (wanted : List ℕ) (n : ℕ) (done open_frames : List (List ℕ)) (frame : List ℕ)
    → IsGreedy wanted n done open_frames
    → (front back : List (List ℕ)) → front ++ back ≡ done ++ (open_frames ++ frame ∷ []) → IsCutInto wanted n front
    → length done ≤ length front
stays_soonest wanted n done open_frames frame g front back e c =
    sooner n wanted front back done open_frames frame (length done ≤ length front) e
    (λ (is : front ≡ done ++ (open_frames ++ frame ∷ [])). let same = ap length is in
    omega (arith, same, length-append done (open_frames ++ frame ∷ [])))
    (λ (b : List (List ℕ)) (is : front ++ b ≡ done ++ open_frames). g.soonest front b is c)

pub greedy_stays : GreedyStays
greedy_stays wanted n done open_frames frame g short = record {
  cut = g.cut;
  most = stays_most wanted n done open_frames frame g short;
  soonest = stays_soonest wanted n done open_frames frame g;
}

-- ---- the maximum number of parts

cut_all : (wanted : List ℕ) (n : ℕ) (done open_frames : List (List ℕ)) → IsGreedy wanted n done open_frames → 0 < n
    → IsCutInto wanted n (done ++ open_frames)
cut_all wanted zero done open_frames g some = absurd (omega arith)
cut_all wanted (suc k) done open_frames g some =
    let l = last wanted k done g.cut in
    let whole : IsPart wanted (l.part ++ open_frames) =
    (some_left l.part open_frames l.whole.0, has_left wanted l.part open_frames l.whole.1) in
    let is = sym (append_assoc l.front l.part open_frames) ∙ ap (λ row. row ++ open_frames) (sym l.is) in
    let one : k + 1 ≡ suc k = omega arith in
    rw (← one) (rw (← is) (more wanted k l.front (l.part ++ open_frames) l.cut whole))

pub greedy_is_most : GreedyIsMost
greedy_is_most wanted n done open_frames g = record {
  cut = cut_all wanted n done open_frames g;
  most = λ m c. g.most m (done ++ open_frames) [] (append-nil (done ++ open_frames)) c;
}

at_most : (wanted : List ℕ) (n m : ℕ) (frames : List (List ℕ)) → IsMostParts wanted n frames
    → IsMostParts wanted m frames → n ≤ m
at_most wanted zero m frames one other = omega arith
at_most wanted (suc k) m frames one other = let some : 0 < suc k = omega arith in other.most (suc k) (one.cut some)

pub most_is_one : MostIsOne
most_is_one wanted n m frames one other =
    omega (arith, at_most wanted n m frames one other, at_most wanted m n frames other one)

-- ---- three parts

some_right : {X : Type 0} (xs ys : List X) → ys ≢ [] → xs ++ ys ≢ []
some_right [] ys some e = some e
some_right (x ∷ xs) ys some e = absurd cc

-- a cut into one part or more can be joined into one part
one_part : (wanted : List ℕ) (n : ℕ) (frames : List (List ℕ)) → IsCutInto wanted (suc n) frames → IsPart wanted frames
one_part wanted n frames c =
    let l = last wanted n frames c in
    rw (l.is) (some_right l.front l.part l.whole.0, has_right wanted l.front l.part l.whole.1)

three_of : (wanted : List ℕ) (n : ℕ) (frames : List (List ℕ)) → IsCutInto wanted n frames → 3 ≤ n
    → IsCutInThree wanted frames
three_of wanted (suc (suc (suc k))) frames c three =
    let third = last wanted (suc (suc k)) frames c in
    let second = last wanted (suc k) third.front third.cut in
    record {
      first = second.front;
      second = second.part;
      third = third.part;
      cut = rw (← second.is) third.is;
      whole_in_first = one_part wanted k second.front second.cut;
      whole_in_second = second.whole;
      whole_in_third = third.whole;
    }
three_of wanted _ frames c three = absurd (omega arith)

of_three : (wanted : List ℕ) (frames : List (List ℕ)) → IsCutInThree wanted frames → IsCutInto wanted 3 frames
of_three wanted frames t =
    let two = more _ _ _ _ (more _ _ _ _ (none wanted) t.whole_in_first) t.whole_in_second in
    rw (t.cut) (more wanted 2 (t.first ++ t.second) t.third two t.whole_in_third)

pub three_or_more : ThreeOrMore
three_or_more wanted n frames h = (
  λ three. let some : 0 < n = omega (arith, three) in three_of wanted n frames (h.cut some) three,
  λ t. h.most 3 (of_three wanted frames t),
)

-- ---- a new identifier

-- a front that contains the identifier is not within frames without it
missing : (wanted : List ℕ) (x : ℕ) (frames : List (List ℕ)) → Contains wanted x → (Contains (concat frames) x → ⊥)
    → (m : ℕ) (front back : List (List ℕ)) → front ++ back ≡ frames → IsCutInto wanted m front → m ≤ 0
missing wanted x frames want new zero front back e c = omega arith
missing wanted x frames want new (suc k) front back e c =
    let l = last wanted k front c in
    let all = has_left wanted (l.front ++ l.part) back (has_right wanted l.front l.part l.whole.1) in
    let is : (l.front ++ l.part) ++ back ≡ frames = rw (← l.is) e in
    absurd (new (rw (← is) (all x want)))

pub new_begins_anew : NewBeginsAnew
new_begins_anew wanted x frames want new = record {
  cut = none wanted;
  most = missing wanted x frames want new;
  soonest = λ front back e c. omega arith;
}
