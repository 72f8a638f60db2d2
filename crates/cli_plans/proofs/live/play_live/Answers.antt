use Rattle.cli_plans.proofs.Words.{◌∙◌, ◌≡◌, List, ap, take, ℕ}
use Rattle.cli_plans.proofs.LiveInputs.{buffered, live_of, ended_so}
use Rattle.cli_plans.proofs.Playbacks.{still_known, read_is}
use Rattle.cli_plans.proofs.live.play_live.Goals as goal

pub returns-in-Ok-ended : goal.returns-in-Ok-ended
returns-in-Ok-ended g c =
    let known = g.F.Files.known in
    let contents = g.W.Write.contents in
    let r = c.args.request.now in
    let first = c.args.files.now in
    let second = c.input.new.self in
    let given = g.F.Files.known_input first in
    let behind = g.F.In.Read.remaining in
    record {
      success = λ code of_code.
          let there = still_known (known first r.code.now) (known second r.code.now) code
          (c.in-Ok.ensures.files r.code.now) of_code in
          let codes : c.as_slice.result.now ≡ take 1048577 code =
          read_is (λ (l : List ℕ). take 1048577 l) (known second r.code.now) code _ c.as_slice.result.now
          c.in-Ok-read_code.ensures.bytes there c.as_slice.ensures.value in
          live_of r c.as_slice.result.now (take 1048577 code) given _ (contents c.args.out)
          (contents c.drive_out-ended.result.1) codes
          (λ bytes is. buffered _ _ _ bytes c.in-Ok-new.ensures.capacity c.in-Ok-new.ensures.empty
          (ap (λ (i : g.row.F-In.Denot). behind i) c.in-Ok-new.ensures.inner
          ∙ still_known given (behind c.in-Ok.input) bytes c.in-Ok.ensures.bytes is))
          (ended_so c.drive_out-ended.result.0 c.in-Ok-ended.field-0 _ c.in-Ok-ended.is c.drive_out-ended.ensures);
    }
