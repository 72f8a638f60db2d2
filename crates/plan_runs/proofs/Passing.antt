-- What is known remains valid as a swap is made and as frames pass.
use Rattle.plan_runs.proofs.Words.{◌+◌, ◌-◌, ◌<◌, ◌∙◌, ◌≡◌, ◌≤◌, ◌⊎◌, Bool, Configuration, FitsSwap, Idle, IsCertain}
use Rattle.plan_runs.proofs.Words.{Known, None, Option, Perhaps, Some, Swap, Within, after_pause, after_wait, ap, arith}
use Rattle.plan_runs.proofs.Words.{cond, eqb-false, eqb-true, false, inl, inr, is_due, known_after_swap}
use Rattle.plan_runs.proofs.Words.{left_after_frame, ltb-false, ltb-true, nat_lt, refl, subst, true, ℕ}
use Rattle.plan_runs.proofs.Knowledge.{IsIdleAs, IsPendingAs, AgreesBy, ComesBy, PausesBy, JoinsBy, IsAhead}

-- ---- how many frames are left

pub some_is : {A : Type 0} (a b : A) → Some a ≡ Some b → a ≡ b
some_is a b e = cc e

pub none_some : {A : Type 0} {X : Type 0} (a : A) (left : Option A) → left ≡ None → left ≡ Some a → X
none_some a left e f = absurd cc

pub due_is : (l : ℕ) → is_due (Some l) ≡ true → l ≡ 0
due_is l e = eqb-true l 0 e

pub not_due : (l : ℕ) → is_due (Some l) ≡ false → 1 ≤ l
not_due l e = let apart = eqb-false l 0 e in omega (arith, apart)

pub ahead_from : (left : Option ℕ) → is_due left ≡ false → IsAhead left
ahead_from None e = tt
ahead_from (Some l) e = not_due l e

pub not_due_from : (left : Option ℕ) → IsAhead left → is_due left ≡ false
not_due_from None a = refl
not_due_from (Some l) a = by (is_due (Some l)) refl
  where
    by : (b : Bool) → is_due (Some l) ≡ b → is_due (Some l) ≡ false
    by true e = let zero_is = due_is l e in absurd (omega (arith, zero_is, a))
    by false e = e

-- ---- the swap

pub swap_comes : (k : ℕ) (pending : Swap) (t : Known) (left : Option ℕ) (c n : Configuration) → is_due left ≡ true
    → ComesBy k pending t.current t.next left c n → ComesBy k pending t.current t.next None n n
swap_comes k pending t None c n due h = absurd cc
swap_comes k Idle t (Some l) c n due (inl h) = none_some l _ h.none refl
swap_comes k Idle t (Some l) c n due (inr h) = inl (record { none = refl; current = h.current; next = h.next })
swap_comes k (Within lo hi) t (Some l) c n due h =
    let now = due_is l due in
    let same : l ≡ h.frames = some_is l h.frames h.is in
    absurd (omega arith)
swap_comes k (Perhaps hi) t (Some l) c n due (inl h) = inr (record { none = refl; current = h.next; next = h.next })
swap_comes k (Perhaps hi) t (Some l) c n due (inr h) = none_some l _ h.none refl

pub swap_pauses : (pending : Swap) (t : Known) (left : Option ℕ) (c n : Configuration) → is_due left ≡ true
    → PausesBy pending t.current t.next left c n → PausesBy pending t.current t.next None n n
swap_pauses pending t None c n due h = absurd cc
swap_pauses Idle t (Some l) c n due (inl h) = none_some l _ h.none refl
swap_pauses Idle t (Some l) c n due (inr h) = inl (record { none = refl; current = h.current; next = h.next })
swap_pauses (Within lo hi) t (Some l) c n due h = h
swap_pauses (Perhaps hi) t (Some l) c n due (inl h) = inr (record { none = refl; current = h.next; next = h.next })
swap_pauses (Perhaps hi) t (Some l) c n due (inr h) = none_some l _ h.none refl

joins_idle : (pending : Swap) (t : Known) (n : Configuration) → pending ≡ Idle → n ≡ t.current → n ≡ t.next
    → ComesBy 0 pending t.current t.next None n n
joins_idle Idle t n e a b = inl (record { none = refl; current = a; next = b })
joins_idle _ t n e a b = absurd cc

pub swap_joins : (t : Known) (left : Option ℕ) (n : Configuration) → JoinsBy t left n
    → ComesBy 0 t.pending t.current t.next None n n
swap_joins t left n h = joins_idle t.pending t n h.idle h.current h.next

-- ---- an instruction is executed

pub now : (pending : Swap) (t : Known) (left : Option ℕ) (c n : Configuration) → IsAhead left
    → ComesBy 0 pending t.current t.next left c n → AgreesBy pending t.current t.next left c n
now Idle t left c n a (inl h) = h
now Idle t left c n a (inr h) =
    absurd (omega (arith, subst IsAhead h.is a, h.most))
now (Within lo hi) t left c n a h =
    record {
      frames = h.frames;
      is = h.is;
      ahead = omega arith;
      low = omega arith;
      high = omega arith;
      current = h.current;
      next = h.next;
    }
now (Perhaps hi) t left c n a (inl h) =
    let later : IsAhead (Some h.frames) = subst IsAhead h.is a in
    inl (record {
      frames = h.frames;
      is = h.is;
      ahead = later;
      low = later;
      high = omega arith;
      current = h.current;
      next = h.next;
    })
now (Perhaps hi) t left c n a (inr h) = inr h

pub pauses_come : (pending : Swap) (t : Known) (left : Option ℕ) (c n : Configuration)
    → PausesBy pending t.current t.next left c n → ComesBy 0 pending t.current t.next left c n
pauses_come Idle t left c n h = h
pauses_come (Within lo hi) t left c n h = absurd h
pauses_come (Perhaps hi) t left c n (inl h) =
    inl (record {
      frames = h.frames;
      is = h.is;
      ahead = h.ahead;
      low = h.low;
      high = omega arith;
      current = h.current;
      next = h.next;
    })
pauses_come (Perhaps hi) t left c n (inr h) = inr h

-- ---- one frame passes

pub after_some : (left : Option ℕ) (l : ℕ) → left ≡ Some l → left_after_frame left ≡ Some (l - 1)
after_some left l e = ap left_after_frame e

pub after_none : (left : Option ℕ) → left ≡ None → left_after_frame left ≡ None
after_none left e = ap left_after_frame e

pub comes_later : (k : ℕ) (pending : Swap) (t : Known) (left : Option ℕ) (c n : Configuration) → IsAhead left
    → ComesBy (k + 1) pending t.current t.next left c n → ComesBy k pending t.current t.next (left_after_frame left) c n
comes_later k Idle t left c n a (inl h) =
    inl (record { none = after_none left h.none; current = h.current; next = h.next })
comes_later k Idle t left c n a (inr h) =
    inr (record {
      frames = h.frames - 1;
      is = after_some left h.frames h.is;
      most = omega arith;
      current = h.current;
      next = h.next;
    })
comes_later k (Within lo hi) t left c n a h =
    record {
      frames = h.frames - 1;
      is = after_some left h.frames h.is;
      ahead = omega arith;
      low = omega arith;
      high = omega arith;
      current = h.current;
      next = h.next;
    }
comes_later k (Perhaps hi) t left c n a (inl h) =
    inl (record {
      frames = h.frames - 1;
      is = after_some left h.frames h.is;
      ahead = omega arith;
      low = omega arith;
      high = omega arith;
      current = h.current;
      next = h.next;
    })
comes_later k (Perhaps hi) t left c n a (inr h) =
    inr (record { none = after_none left h.none; current = h.current; next = h.next })

pub pauses_later : (pending : Swap) (t : Known) (left : Option ℕ) (c n : Configuration) → IsAhead left
    → PausesBy pending t.current t.next left c n → PausesBy pending t.current t.next (left_after_frame left) c n
pauses_later Idle t left c n a (inl h) =
    inl (record { none = after_none left h.none; current = h.current; next = h.next })
pauses_later Idle t left c n a (inr h) =
    absurd (omega (arith, subst IsAhead h.is a, h.most))
pauses_later (Within lo hi) t left c n a h = h
pauses_later (Perhaps hi) t left c n a (inl h) =
    inl (record {
      frames = h.frames - 1;
      is = after_some left h.frames h.is;
      ahead = omega arith;
      low = omega arith;
      high = omega arith;
      current = h.current;
      next = h.next;
    })
pauses_later (Perhaps hi) t left c n a (inr h) =
    inr (record { none = after_none left h.none; current = h.current; next = h.next })

pub joins_later : (t : Known) (left : Option ℕ) (n : Configuration) → JoinsBy t left n
    → JoinsBy t (left_after_frame left) n
joins_later t left n h = record {
  frames = h.frames - 1;
  is = after_some left h.frames h.is;
  idle = h.idle;
  current = h.current;
  next = h.next;
}

-- ---- a wait

wait_within : (n lo hi : ℕ) (t : Known) (left : Option ℕ) (c x : Configuration) → 1 ≤ n → (n < lo) ⊎ (hi ≤ n)
    → IsPendingAs t.current t.next 1 lo hi left c x → (test : Bool) → nat_lt n lo ≡ test
    → (let u : Known = cond test (record t { pending = Within (lo - n) (hi - n) }) (known_after_swap t) in
    ComesBy (n - 1) u.pending u.current u.next (left_after_frame left) c x)
wait_within n lo hi t left c x some certain h true e =
    let below : n < lo = ltb-true n lo e in
    record {
      frames = h.frames - 1;
      is = after_some left h.frames h.is;
      ahead = omega arith;
      low = omega arith;
      high = omega arith;
      current = h.current;
      next = h.next;
    }
wait_within n lo hi t left c x some certain h false e =
    let above : lo ≤ n = ltb-false n lo e in
    inr (record {
      frames = h.frames - 1;
      is = after_some left h.frames h.is;
      most = omega arith;
      current = h.next;
      next = h.next;
    })

wait_perhaps : (n hi : ℕ) (t : Known) (left : Option ℕ) (c x : Configuration) → 1 ≤ n
    → AgreesBy (Perhaps hi) t.current t.next left c x → (test : Bool) → nat_lt n hi ≡ test
    → (let u : Known = cond test (record t { pending = Perhaps (hi - n) }) (known_after_swap t) in
    ComesBy (n - 1) u.pending u.current u.next (left_after_frame left) c x)
wait_perhaps n hi t left c x some (inl h) true e =
    inl (record {
      frames = h.frames - 1;
      is = after_some left h.frames h.is;
      ahead = omega arith;
      low = omega arith;
      high = omega arith;
      current = h.current;
      next = h.next;
    })
wait_perhaps n hi t left c x some (inl h) false e =
    let above : hi ≤ n = ltb-false n hi e in
    inr (record {
      frames = h.frames - 1;
      is = after_some left h.frames h.is;
      most = omega arith;
      current = h.next;
      next = h.next;
    })
wait_perhaps n hi t left c x some (inr h) true e =
    inr (record { none = after_none left h.none; current = h.current; next = h.next })
wait_perhaps n hi t left c x some (inr h) false e =
    inl (record { none = after_none left h.none; current = h.current; next = h.next })

pub wait_by : (n : ℕ) (pending : Swap) (t : Known) (left : Option ℕ) (c x : Configuration) → t.pending ≡ pending → 1 ≤ n
    → IsCertain n pending → AgreesBy pending t.current t.next left c x
    → (let u = after_wait n pending t in ComesBy (n - 1) u.pending u.current u.next (left_after_frame left) c x)
wait_by n Idle t left c x is some certain h =
    rw is (inl (record { none = after_none left h.none; current = h.current; next = h.next }))
wait_by n (Within lo hi) t left c x is some certain h = wait_within n lo hi t left c x some certain h (nat_lt n lo) refl
wait_by n (Perhaps hi) t left c x is some certain h = wait_perhaps n hi t left c x some h (nat_lt n hi) refl

-- ---- a pause

pause_within : (hi : ℕ) (t : Known) (left : Option ℕ) (c x : Configuration) (low : ℕ)
    → IsPendingAs t.current t.next 1 low hi left c x → (test : Bool) → nat_lt 1 hi ≡ test
    → (let u : Known = cond test (record t { pending = Perhaps (hi - 1) }) (known_after_swap t) in
    PausesBy u.pending u.current u.next (left_after_frame left) c x)
pause_within hi t left c x low h true e =
    inl (record {
      frames = h.frames - 1;
      is = after_some left h.frames h.is;
      ahead = omega arith;
      low = omega arith;
      high = omega arith;
      current = h.current;
      next = h.next;
    })
pause_within hi t left c x low h false e =
    let above : hi ≤ 1 = ltb-false 1 hi e in
    inr (record {
      frames = h.frames - 1;
      is = after_some left h.frames h.is;
      most = omega arith;
      current = h.next;
      next = h.next;
    })

pause_idle : (hi : ℕ) (t : Known) (left : Option ℕ) (c x : Configuration) → IsIdleAs t.next t.next left c x
    → (test : Bool)
    → (let u : Known = cond test (record t { pending = Perhaps (hi - 1) }) (known_after_swap t) in
    PausesBy u.pending u.current u.next (left_after_frame left) c x)
pause_idle hi t left c x h true = inr (record { none = after_none left h.none; current = h.current; next = h.next })
pause_idle hi t left c x h false = inl (record { none = after_none left h.none; current = h.current; next = h.next })

pub pause_by : (pending : Swap) (t : Known) (left : Option ℕ) (c x : Configuration) → t.pending ≡ pending
    → AgreesBy pending t.current t.next left c x
    → (let u = after_pause pending t in PausesBy u.pending u.current u.next (left_after_frame left) c x)
pause_by Idle t left c x is h =
    rw is (inl (record { none = after_none left h.none; current = h.current; next = h.next }))
pause_by (Within lo hi) t left c x is h = pause_within hi t left c x lo h (nat_lt 1 hi) refl
pause_by (Perhaps hi) t left c x is (inl h) = pause_within hi t left c x 1 h (nat_lt 1 hi) refl
pause_by (Perhaps hi) t left c x is (inr h) = pause_idle hi t left c x h (nat_lt 1 hi)

-- ---- a state fits a label

idle_as : {a b : Configuration} (d e : Configuration) {left : Option ℕ} {c n : Configuration} → a ≡ d → b ≡ e
    → IsIdleAs a b left c n → IsIdleAs d e left c n
idle_as d e p q h = record { none = h.none; current = h.current ∙ p; next = h.next ∙ q }

pending_as : {a b : Configuration} (d e : Configuration) {ahead low high : ℕ} (lower greater : ℕ) {left : Option ℕ}
    {c n : Configuration}
    → a ≡ d → b ≡ e → lower ≤ low → high ≤ greater → IsPendingAs a b ahead low high left c n
    → IsPendingAs d e ahead lower greater left c n
pending_as d e lower greater p q under over h =
    record {
      frames = h.frames;
      is = h.is;
      ahead = h.ahead;
      low = omega (arith, h.low, under);
      high = omega (arith, h.high, over);
      current = h.current ∙ p;
      next = h.next ∙ q;
    }

pub fits_by : (a b : Swap) (t d : Known) (left : Option ℕ) (c n : Configuration) → FitsSwap a b t d
    → AgreesBy a t.current t.next left c n → AgreesBy b d.current d.next left c n
fits_by Idle Idle t d left c n f h = idle_as d.current d.next f.0 f.1 h
fits_by Idle (Perhaps high) t d left c n f h = inr (idle_as d.next d.next f.0 f.1 h)
fits_by (Within lo hi) (Within low high) t d left c n f h = pending_as d.current d.next low high f.0.0 f.0.1 f.1 f.2 h
fits_by (Within lo hi) (Perhaps high) t d left c n f h =
    inl (record {
      frames = h.frames;
      is = h.is;
      ahead = h.ahead;
      low = h.ahead;
      high = omega (arith, h.high, f.1);
      current = h.current ∙ f.0.0;
      next = h.next ∙ f.0.1;
    })
fits_by (Perhaps hi) (Perhaps high) t d left c n f (inl h) = inl (pending_as _ _ 1 high f.0.0 f.0.1 (omega arith) f.1 h)
fits_by (Perhaps hi) (Perhaps high) t d left c n f (inr h) = inr (idle_as d.next d.next f.0.1 f.0.1 h)
fits_by _ _ t d left c n f h = absurd f
