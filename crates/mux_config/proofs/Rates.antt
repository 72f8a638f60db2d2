-- Each bit rate has capacity units, and a size in capacity units belongs to one bit rate.
use Rattle.mux_config.proofs.Words.{◌%◌, ◌*◌, ◌/◌, ◌<◌, ◌∙◌, ◌≡◌, A, B, Bool, EepSet, OneRate, ap, arith, cond, eqb}
use Rattle.mux_config.proofs.Words.{false, mul-div_cancel_left, rate_step, sym, true, units_of_step, ℕ}

chosen : (a b c : Bool) (k l m n : ℕ) → 0 < k → 0 < l → 0 < m → 0 < n → 0 < cond a k (cond b l (cond c m n))
chosen true b c k l m n h i j g = h
chosen false true c k l m n h i j g = i
chosen false false true k l m n h i j g = j
chosen false false false k l m n h i j g = g

-- each step of a rate takes at least one unit
pub units_positive : (set : EepSet) (level : ℕ) → 0 < units_of_step set level
units_positive A level = chosen (eqb level 1) (eqb level 2) (eqb level 3) 12 8 6 4 (omega arith) (omega arith)
    (omega arith) (omega arith)
units_positive B level = chosen (eqb level 1) (eqb level 2) (eqb level 3) 27 21 18 15 (omega arith) (omega arith)
    (omega arith) (omega arith)

steps_told : (set : EepSet) (one other : ℕ) → one % rate_step set ≡ 0 → other % rate_step set ≡ 0
    → one / rate_step set ≡ other / rate_step set → one ≡ other
steps_told A one other h k e = omega arith
steps_told B one other h k e = omega arith

pub one_rate : OneRate
one_rate p one other size h k =
    let units = units_of_step p.set p.level in
    let same : units * (one / rate_step p.set) ≡ units * (other / rate_step p.set) = sym h.from_table ∙ k.from_table in
    steps_told p.set one other h.multiple k.multiple
    (sym (mul-div_cancel_left (one / rate_step p.set) (units_positive p.set p.level)) ∙ ap (λ (x : ℕ). x / units) same
    ∙ mul-div_cancel_left (other / rate_step p.set) (units_positive p.set p.level))
