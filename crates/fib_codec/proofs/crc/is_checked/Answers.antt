use Rattle.fib_codec.proofs.Words.{◌*◌, ◌+◌, ◌∙◌, ap₂, eq-eqb, eqb-true, sym}
use Rattle.fib_codec.proofs.U16.{checked_by_word}
use Rattle.fib_codec.proofs.crc.is_checked.Goals as goal

pub returns : goal.returns
returns c =
    let fib = c.args.fib.now in
    let sent = ap₂ (λ a b. a * 256 + b) c.from.ensures c.from-2.ensures in
    let rule = checked_by_word fib c.crc16-crc.result c.told-fib (c.fits-fib 30) (c.fits-fib 31) c.crc16-crc.type_inv
    c.crc16-crc.ensures in
    (λ same. rule.0 (eqb-true _ _ same ∙ sent), λ checked. eq-eqb _ _ (rule.1 checked ∙ sym sent))
