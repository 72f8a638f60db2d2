use Rattle.cli_plans.proofs.Words.{◌≡◌, IsPlayedTo, List, PlaysToOutput, asked_from, subst, sym, take, ℕ}
use Rattle.cli_plans.specs.Success.{IsRefusedFor, RefusesPlay}
use Rattle.cli_plans.proofs.Playbacks.{still_known, read_is, known_is, done_so, refused_so}
use Rattle.cli_plans.proofs.play.stream_play.Goals as goal

pub returns : goal.returns
returns g c =
    let known = g.F.Files.known in
    let contents = g.W.Write.contents in
    let r = c.args.request.now in
    let first = c.args.files.now in
    let second = c.read_code.new.files in
    let ended = c.stream_playback-ended.result in
    record {
      success = done_so c.print_explained.result ended.0
          (IsPlayedTo c.as_slice.result.now c.as_str.result.now r.start (contents c.args.out) (contents ended.1))
          (PlaysToOutput r (known first) (contents c.args.out) (contents ended.1))
          c.stream_playback-ended.ensures.played
          (λ h code text of_code of_text.
          let codes : c.as_slice.result.now ≡ take 1048577 code =
          read_is (λ (l : List ℕ). take 1048577 l) (known first r.code.now) code _ c.as_slice.result.now
          c.in-Ok.ensures.bytes of_code c.as_slice.ensures.value in
          let there = still_known (known first r.events.now) (known second r.events.now) text
          (c.in-Ok.ensures.files r.events.now) of_text in
          let texts : text ≡ c.as_str.result.now =
          known_is (known second r.events.now) text _ c.as_str.result.now c.in-Ok-read_event_text.ensures.text there
          c.as_str.ensures.value in
          subst (λ (l : List ℕ). IsPlayedTo l text r.start (contents c.args.out) (contents ended.1)) codes
          (subst (λ (l : List ℕ). IsPlayedTo c.as_slice.result.now l r.start (contents c.args.out)
          (contents ended.1)) (sym texts) h))
          c.print_explained.ensures.done;
      refused = refused_so c.print_explained.result ended.0
          (asked_from c.as_slice.result.now c.as_str.result.now r.start) (RefusesPlay r (known first))
          c.stream_playback-ended.ensures.fault
          (λ h code text of_code of_text.
          let codes : c.as_slice.result.now ≡ take 1048577 code =
          read_is (λ (l : List ℕ). take 1048577 l) (known first r.code.now) code _ c.as_slice.result.now
          c.in-Ok.ensures.bytes of_code c.as_slice.ensures.value in
          let there = still_known (known first r.events.now) (known second r.events.now) text
          (c.in-Ok.ensures.files r.events.now) of_text in
          let texts : text ≡ c.as_str.result.now =
          known_is (known second r.events.now) text _ c.as_str.result.now c.in-Ok-read_event_text.ensures.text there
          c.as_str.ensures.value in
          subst (λ (l : List ℕ). IsRefusedFor (asked_from l text r.start)) codes
          (subst (λ (l : List ℕ). IsRefusedFor (asked_from c.as_slice.result.now l r.start)) (sym texts) h))
          c.print_explained.ensures.verdict;
      status = c.print_explained.ensures.status;
    }
