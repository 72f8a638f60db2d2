use Rattle.plan_player.proofs.Words.{◌*◌, ◌++◌, ◌+◌, ◌-◌, ◌∙◌, ◌≡◌, ◌≤◌, List, ap, ap₂, arith, drop, length}
use Rattle.plan_player.proofs.Words.{length-take-le, sym, take, ℕ}
use Rattle.plan_player.proofs.Cycles.{copied, appended}
use Rattle.plan_player.proofs.batch.Bytes+SIZE.repeat.Goals as goal

pub returns : goal.returns
returns c =
    let b : List ℕ = c.self.inside.bytes in
    let offset : ℕ = c.self.inside.len in
    let len : ℕ = c.from.result * (32 * c.fibs.result) in
    let width : ℕ = offset + len - offset in
    let old : List ℕ = c.args.self.now in
    let copy : List ℕ = c.copy_front.new.bytes in
    let text : List ℕ = c.recount_frames.new.bytes in
    let view : old ≡ take offset b = sym c.self.view_is in
    let is_len = ap₂ (λ (m n : ℕ). m * (32 * n)) c.from.ensures c.fibs.ensures.value in
    let long : length old ≡ offset = rw (view) (length-take-le offset b (omega arith)) in
    let few : len ≤ offset = omega (arith, is_len, long, c.requires.there) in
    let fits : offset + len ≤ length b = omega (arith, is_len, long, c.requires.room) in
    let is_width : width ≡ len = omega arith in
    let part : take width (drop offset copy) ≡ take len old =
    rw (is_width) (rw (view) (copied b offset len copy few fits c.copy_front.ensures)) in
    let text_long : length text ≡ len =
    cc (c.recount_frames.ensures.size, part, length-take-le len old (omega (arith, few, long))) in
    let all = appended b copy text (take offset copy ++ (text ++ drop width (drop offset copy))) offset len fits
    c.copy_front.ensures text_long
    (ap (λ (w : ℕ). take offset copy ++ (text ++ drop w (drop offset copy))) is_width) in (
      text,
      rw (view) all,
      λ s t alike counts is. c.recount_frames.ensures.frames s t alike counts
          (part ∙ ap (λ (k : ℕ). take k old) is_len ∙ is),
    )

pub copy_front-requires-clause-before : goal.copy_front-requires-clause-before
copy_front-requires-clause-before c =
    let b : List ℕ = c.self.inside.bytes in
    let offset : ℕ = c.self.inside.len in
    let len : ℕ = c.from.result * (32 * c.fibs.result) in
    let long : length c.args.self.now ≡ offset = rw (← c.self.view_is)
    (length-take-le offset b (omega arith)) in
    omega (arith, ap₂ (λ (m n : ℕ). m * (32 * n)) c.from.ensures c.fibs.ensures.value, long, c.requires.there)
