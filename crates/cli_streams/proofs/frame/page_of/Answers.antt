use Rattle.cli_streams.proofs.Words.{◌<◌, ◌∙◌, ◌≡◌, None, Ok, ap, ap₂, arith, lt-ltb, sent}
use Rattle.fib_carousel.specs.Pages.{page_set, rounds}
use Rattle.fib_carousel.specs.Bytes.{page_bytes}
use Rattle.fib_codec.specs.declared.modes.Mode.{Mode}
use Rattle.cli_streams.proofs.frame.page_of.Goals as goal

pub returns : goal.returns
returns c =
    let below : c.args.index < rounds c.args.layout (page_set c.args.config.now None) =
    omega (arith, c.pages.ensures.value, c.if-index-pages.false) in
    let written : c.page.result ≡ page_bytes c.args.layout c.sent.result c.from-index.result
    (page_set c.args.config.now None) = c.page.ensures.bytes in
    let headed = c.sent.ensures ∙ ap (λ (m : Mode). sent m c.args.ensemble) c.mode.ensures in
    let asked = ap₂ (λ e k. page_bytes c.args.layout e k (page_set c.args.config.now None)) headed
    c.from-index.ensures in
    rw (lt-ltb _ _ below) (ap Ok (written ∙ asked))
