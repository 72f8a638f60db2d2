use Rattle.mux_config.proofs.Words.{[], ◌+◌, ◌-◌, ◌<◌, ◌∙◌, ◌≡◌, ap, arith, drop, drop_all, false, has_address_twice}
use Rattle.mux_config.proofs.Words.{length-set, refl, slice_index_or, slice_set, subst, sym, true, ℕ}
use Rattle.mux_config.proofs.Overlaps.{Marks, marks_none, marks_one, twice_found, twice_not, twice_unnamed}
use Rattle.mux_config.proofs.soundness_test.has_address_twice.Goals.{else-named-sub-via-then-named-sub+else-has_same_address_from}
use Rattle.mux_config.proofs.soundness_test.has_address_twice.Goals.{else-named-sub-via-else-named-sub}
use Rattle.mux_config.proofs.soundness_test.has_address_twice.Goals as goal

pub loop-gone-init : goal.loop-gone-init
loop-gone-init g c =
    let ps = (g.S.Store.content c.args.store.now).packets in
    let all : drop (c.packet_count-count.result - 0) ps ≡ [] =
    drop_all (c.packet_count-count.result - 0) ps (omega (arith, c.packet_count-count.ensures.value)) in
    record {
      count = c.packet_count-count.ensures.value;
      each = refl;
      marks = marks_none _ _ refl all;
      none = ap has_address_twice all;
    }

pub returns-then-has_same_address_from : goal.returns-then-has_same_address_from
returns-then-has_same_address_from g c =
    let ps = (g.S.Store.content c.args.store.now).packets in
    twice_found ps (c.packet_count-count.result - 1 - c.loop-gone.gone) c.packet_at-packet.result
    c.packet_at-packet.ensures.value (sym c.has_same_address_from.ensures ∙ c.if-has_same_address_from.true)

pub loop-gone-preserved : goal.loop-gone-preserved
loop-gone-preserved g c =
    let ps = (g.S.Store.content c.args.store.now).packets in
    let count = c.packet_count-count.result in
    let i : ℕ = count - 1 - c.loop-gone.gone in
    let p = c.packet_at-packet.result in
    let here = c.packet_at-packet.ensures.value in
    let at : c.from-sub.result ≡ p.sub = c.from-sub.ensures ∙ c.get.ensures.value in
    let within : p.sub < 64 = subst (λ (n : ℕ). n < 64) c.get.ensures.value c.get.ensures.in_range in
    let later : count - c.loop-gone.gone ≡ i + 1 = omega (arith, c.loop-gone-test.true) in
    let low : i ≡ count - (c.loop-gone.gone + 1) = omega arith in
    let marks : Marks c.loop-gone.named (drop (i + 1) ps) =
    subst (λ (n : ℕ). Marks c.loop-gone.named (drop n ps)) later c.loop-gone.invariant.marks in
    let none : has_address_twice (drop (i + 1) ps) ≡ false =
    subst (λ (n : ℕ). has_address_twice (drop n ps) ≡ false) later c.loop-gone.invariant.none in
    let here_none : has_address_twice (drop i ps) ≡ false =
    elim c.else-named-sub.branch [
      | else-named-sub-via-then-named-sub+else-has_same_address_from w ↦
          twice_not ps i p here (sym w.has_same_address_from.ensures ∙ w.if-has_same_address_from.false) none
      | else-named-sub-via-else-named-sub w ↦
          twice_unnamed ps i p here (sym (marks p.sub within)
          ∙ ap (λ (n : ℕ). slice_index_or c.loop-gone.named n false) (sym at) ∙ w.if-named-sub.false) none
    ] in
    record {
      count = c.loop-gone.invariant.count;
      each = length-set c.loop-gone.named c.from-sub.result true ∙ c.loop-gone.invariant.each;
      marks = subst (λ (n : ℕ). Marks (slice_set c.loop-gone.named n true) (drop (count - (c.loop-gone.gone + 1)) ps))
          (sym at)
          (subst (λ (n : ℕ). Marks (slice_set c.loop-gone.named p.sub true) (drop n ps)) low
          (marks_one c.loop-gone.named ps i p here c.loop-gone.invariant.each within marks));
      none = subst (λ (n : ℕ). has_address_twice (drop n ps) ≡ false) low here_none;
    }
