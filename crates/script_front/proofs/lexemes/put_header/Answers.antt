use Rattle.script_front.proofs.Words.{◌++◌, ◌∙◌, Mode, ap, each_after, mode_lexemes, string_bytes}
use Rattle.script_front.proofs.Printed.{header_put}
use Rattle.script_front.proofs.lexemes.put_header.Goals as goal

pub returns : goal.returns
returns c =
    let mode = c.in_ok-put_mode.ensures
    ∙ ap (λ (m : Mode). string_bytes c.put_hex_u16.new.out ++ each_after (mode_lexemes m)) c.mode.ensures in
    header_put _ _ _ _ _ _ _ c.in_ok-push_str.ensures.bytes c.in_ok-put_hex_u16.ensures mode
    c.in_ok-push_str-2.ensures.bytes c.in_ok-put_limits_line.ensures
