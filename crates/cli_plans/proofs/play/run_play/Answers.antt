use Rattle.cli_plans.proofs.Words.{◌≡◌, IsPlayedInto, List, Plays, asked_from, subst, sym, take, ℕ}
use Rattle.cli_plans.specs.Success.{IsRefusedFor, RefusesPlay}
use Rattle.cli_plans.proofs.Playbacks.{still_known, read_is, known_is, played_before, done_so, refused_so}
use Rattle.cli_plans.proofs.play.run_play.Goals as goal

pub returns-in-Ok-write_playback : goal.returns-in-Ok-write_playback
returns-in-Ok-write_playback g c =
    let known = g.F.Files.known in
    let files = g.F.Files.world in
    let r = c.args.request.now in
    let first = c.args.files.now in
    let second = c.read_code.new.files in
    let third = c.read_event_text.new.files in
    let last = c.write_playback.new.files in
    let Played = IsPlayedInto r.out.now in
    record {
      success = done_so c.print_ending.result c.in-Ok-write_playback.ended
          (Played c.as_slice.result.now c.as_str.result.now r.start (files third) (files last))
          (Plays r (known first) (files first) (files last)) c.in-Ok-write_playback.ensures.played
          (λ h code text of_code of_text.
          let codes : c.as_slice.result.now ≡ take 1048577 code =
          read_is (λ (l : List ℕ). take 1048577 l) (known first r.code.now) code _ c.as_slice.result.now
          c.in-Ok.ensures.bytes of_code c.as_slice.ensures.value in
          let there = still_known (known first r.events.now) (known second r.events.now) text
          (c.in-Ok.ensures.files r.events.now) of_text in
          let texts : text ≡ c.as_str.result.now =
          known_is (known second r.events.now) text _ c.as_str.result.now c.in-Ok-read_event_text.ensures.text there
          c.as_str.ensures.value in
          played_before r.out.now (take 1048577 code) text r.start (files first) (files second) (files third)
          (files last) c.in-Ok.ensures.world c.in-Ok-read_event_text.ensures.world
          (subst (λ (l : List ℕ). Played l text r.start (files third) (files last)) codes
          (subst (λ (l : List ℕ). Played c.as_slice.result.now l r.start (files third) (files last)) (sym texts)
          h)))
          c.print_ending.ensures.done;
      refused = refused_so c.print_ending.result c.in-Ok-write_playback.ended
          (asked_from c.as_slice.result.now c.as_str.result.now r.start) (RefusesPlay r (known first))
          c.in-Ok-write_playback.ensures.fault
          (λ h code text of_code of_text.
          let codes : c.as_slice.result.now ≡ take 1048577 code =
          read_is (λ (l : List ℕ). take 1048577 l) (known first r.code.now) code _ c.as_slice.result.now
          c.in-Ok.ensures.bytes of_code c.as_slice.ensures.value in
          let there = still_known (known first r.events.now) (known second r.events.now) text
          (c.in-Ok.ensures.files r.events.now) of_text in
          let texts : text ≡ c.as_str.result.now =
          known_is (known second r.events.now) text _ c.as_str.result.now c.in-Ok-read_event_text.ensures.text there
          c.as_str.ensures.value in
          subst (λ (l : List ℕ). IsRefusedFor (asked_from l text r.start)) codes
          (subst (λ (l : List ℕ). IsRefusedFor (asked_from c.as_slice.result.now l r.start)) (sym texts) h))
          c.print_ending.ensures.verdict;
      status = c.print_ending.ensures.status;
    }
