-- A live run continues over events, and then over more.
use Rattle.plan_live.proofs.Words.{[], ◌++◌, ◌+◌, ◌-◌, ◌∙◌, ◌∷◌, ◌≡◌, ◌≤◌, Appends, Appends-kept, Appends-nil}
use Rattle.plan_live.proofs.Words.{Appends-trans}
use Rattle.plan_live.proofs.Words.{Bool, Contact, Err, Event, Frame, FrameWent, Keeps, List, Ok, OnOk, Option, Playing}
use Rattle.plan_live.proofs.Words.{Result, Streamed, Went, ap, append-nil, arith, concat, drop, frames_of, inl, inr}
use Rattle.plan_live.proofs.Words.{kept, kept_bytes, length, next_frame, played, refl, replicate, subst, suc, sym}
use Rattle.plan_live.proofs.Words.{zero, ℕ}
use Rattle.plan_player.proofs.Joining.{all_frames}
use Rattle.std.proofs.lemmas.Bool.{cases_lt, lt-ltb, le-ltb}
use Rattle.plan_live.specs.declared.fault.Stop.{Stop}
use Rattle.plan_live.proofs.Joining.{played_join, counts_join, drop_none, kept_none, kept_from}

pub appends_as : (a b : Option (List ℕ)) (xs ys : List ℕ) → xs ≡ ys → Appends a b xs → Appends a b ys
appends_as a b xs ys e p = subst (λ (l : List ℕ). Appends a b l) e p

-- ---- no event, a contact, a frame

pub went_none : (skip : ℕ) (p : Playing) (n : ℕ) (a b : Streamed) → b.left ≡ a.left → Keeps a.written b.written
    → Went skip p n [] p n a b
went_none skip p n a b left keeps = record {
  state = refl;
  count = omega arith;
  left = left;
  out = appends_as a.written b.written [] (kept_bytes (skip - n) p []) (sym (kept_none (skip - n) p))
      (Appends-kept a.written a.written b.written [] (Appends-nil a.written) keeps);
}

pub went_contact : (skip : ℕ) (p q : Playing) (n c : ℕ) (closed : Bool) (a : Streamed)
    → q ≡ played p (Contact c closed ∷ []) → Went skip p n (Contact c closed ∷ []) q n a a
went_contact skip p q n c closed a state = record {
  state = state;
  count = omega arith;
  left = refl;
  out = appends_as a.written a.written [] (kept_bytes (skip - n) p (Contact c closed ∷ []))
      (sym (kept_none (skip - n) p)) (Appends-nil a.written);
}

kept_one : (skip n : ℕ) (frame : List ℕ) → kept skip n frame ≡ concat (drop (skip - n) (frame ∷ []))
kept_one skip n frame = elim (cases_lt n skip) [
  | inl lt ↦
      let some : skip - n ≡ suc (skip - n - 1) = omega (arith, lt) in
      rw (lt-ltb n skip lt) (sym (ap (λ (fs : List (List ℕ)). concat fs) (drop_none (skip - n - 1) [] refl))
      ∙ ap (λ (k : ℕ). concat (drop k (frame ∷ []))) (sym some))
  | inr ge ↦
      let none : skip - n ≡ 0 = omega (arith, ge) in
      rw (le-ltb n skip ge) (sym (append-nil frame) ∙ ap (λ (k : ℕ). concat (drop k (frame ∷ []))) (sym none))
]

pub frame_went : (skip : ℕ) (p q : Playing) (n m : ℕ) (a b c : Streamed) (bytes : List ℕ) → bytes ≡ next_frame p
    → q ≡ played p (Frame ∷ []) → FrameWent skip bytes n m a b
    → c.left ≡ b.left → c.written ≡ b.written → Went skip p n (Frame ∷ []) q m a c
frame_went skip p q n m a b c bytes is state h left written =
    let out : Appends a.written c.written (kept skip n (next_frame p)) =
    subst (λ (o : Option (List ℕ)). Appends a.written o (kept skip n (next_frame p))) (sym written)
    (subst (λ (l : List ℕ). Appends a.written b.written (kept skip n l)) is h.out) in
    record {
      state = state;
      count = h.count;
      left = left ∙ h.left;
      out = appends_as a.written c.written (kept skip n (next_frame p)) (kept_bytes (skip - n) p (Frame ∷ []))
          (kept_one skip n (next_frame p)) out;
    }

-- ---- frames that are all skipped

drop_all : (n : ℕ) (xs : List (List ℕ)) → length xs ≤ n → drop n xs ≡ []
drop_all zero [] le = refl
drop_all zero (x ∷ xs) le = absurd (omega (arith, le))
drop_all (suc n) [] le = refl
drop_all (suc n) (x ∷ xs) le = drop_all n xs (omega (arith, le))

pub went_skipped : (skip : ℕ) (p q : Playing) (n m k : ℕ) (a : Streamed) → q ≡ played p (replicate k Frame)
    → m ≡ n + k → k ≤ skip - n → Went skip p n (replicate k Frame) q m a a
went_skipped skip p q n m k a state count le =
    let all : k ≡ length (frames_of p (replicate k Frame)) = all_frames p.code p.state k in
    let none : kept_bytes (skip - n) p (replicate k Frame) ≡ [] =
    ap (λ (fs : List (List ℕ)). concat fs)
    (drop_all (skip - n) (frames_of p (replicate k Frame)) (omega (arith, all, le)))
    in
    record {
      state = state;
      count = omega (arith, count, all);
      left = refl;
      out = appends_as a.written a.written [] (kept_bytes (skip - n) p (replicate k Frame)) (sym none)
          (Appends-nil a.written);
    }

-- ---- events, and then more

pub went_join : (skip : ℕ) (p q r : Playing) (n m k : ℕ) (xs ys : List Event) (a b c : Streamed)
    → Went skip p n xs q m a b → Went skip q m ys r k b c → Went skip p n (xs ++ ys) r k a c
went_join skip p q r n m k xs ys a b c h g =
    let both = counts_join p xs ys in
    let later : length (frames_of q ys) ≡ length (frames_of (played p xs) ys) =
    ap (λ (x : Playing). length (frames_of x ys)) h.state in
    record {
      state = g.state ∙ ap (λ (x : Playing). played x ys) h.state ∙ sym (played_join p xs ys);
      count = omega (arith, h.count, g.count, both, later);
      left = g.left ∙ h.left;
      out = appends_as a.written c.written (kept_bytes (skip - n) p xs ++ kept_bytes (skip - m) q ys)
          (kept_bytes (skip - n) p (xs ++ ys)) (kept_from skip p q n m xs ys h.state h.count)
          (Appends-trans a.written b.written c.written (kept_bytes (skip - n) p xs) (kept_bytes (skip - m) q ys) h.out
          g.out);
    }

-- none were skipped, and then one frame was made
pub went_one : (skip : ℕ) (p q r : Playing) (n m k j : ℕ) (a d : Streamed) → j ≡ 0
    → ((at : Streamed) → Went skip p n (replicate j Frame) q m at at) → Went skip q m (Frame ∷ []) r k a d
    → Went skip p n (replicate 1 Frame) r k a d
went_one skip p q r n m k j a d none h g =
    let still : Went skip p n [] q m a a = subst (λ (x : ℕ). Went skip p n (replicate x Frame) q m a a) none (h a) in
    went_join skip p q r n m k [] (Frame ∷ []) a a d still g

-- the output is flushed after them
pub went_flushed : (skip : ℕ) (p q : Playing) (n m : ℕ) (events : List Event) (a b c : Streamed)
    → Went skip p n events q m a b
    → c.left ≡ b.left → Keeps b.written c.written → Went skip p n events q m a c
went_flushed skip p q n m events a b c h left keeps = record {
  state = h.state;
  count = h.count;
  left = left ∙ h.left;
  out = Appends-kept a.written b.written c.written (kept_bytes (skip - n) p events) h.out keeps;
}

-- what holds of a call that succeeded holds of its caller
pub ok_then : {A : Type 0} (x : Result A Stop) (P Q : Type 0) → (P → Q) → OnOk x P → OnOk x Q
ok_then (Ok done) P Q f h = f h
ok_then (Err stop) P Q f h = tt

pub ok_always : {A : Type 0} (x : Result A Stop) (P : Type 0) → P → OnOk x P
ok_always (Ok done) P h = h
ok_always (Err stop) P h = tt
