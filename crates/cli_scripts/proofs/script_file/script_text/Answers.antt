-- What is read of a file as text, of the whole characters of its first bytes.
use Rattle.cli_scripts.proofs.ReadTexts.{both_ok, text_read}
use Rattle.cli_scripts.proofs.script_file.script_text.Goals as goal

pub returns : goal.returns
returns c =
    let kept = c.whole_characters-kept in
    record {
      text = λ file is.
          both_ok c.text_of.result _ _ _
          (λ t same utf8. text_read 1048581 file c.args.bytes.now kept.result.now t.now is kept.ensures.short
          kept.ensures.long kept.ensures.front same utf8)
          c.text_of.ensures.text c.text_of.ensures.utf8;
    }
