use Rattle.schedule_front.proofs.Words.{◌++◌, ◌∙◌, List, ap, header_lines, map, overlay_of, string_bytes, text_of_lines}
use Rattle.schedule_front.proofs.Words.{ℕ}
use Rattle.schedule_front.proofs.PrintedOverlays.{schedule_put}
use Rattle.schedule_front.proofs.Denoted.{printed_denotes}
use Rattle.schedule_front.proofs.printer.print_schedule.Goals as goal

pub returns-clause-layout : goal.returns-clause-layout
returns-clause-layout c =
    schedule_put c.args.schedule.now (string_bytes c.put_header.new.out) (string_bytes c.put_items.new.out)
    (string_bytes c.push_str.new.self) (string_bytes c.put_overlays.new.out) c.header.result c.items.result.now
    c.names.result.now (map overlay_of c.overlays.result.now) c.header.ensures.value c.items.ensures.value
    c.names.ensures.value c.overlays.ensures.value
    (c.in_ok-put_header.ensures ∙ ap (λ (x : List ℕ). x ++ text_of_lines (header_lines c.header.result))
    c.new-out.ensures.bytes)
    c.in_ok-put_items.ensures c.in_ok-push_str.ensures.bytes c.in_ok-put_overlays.ensures

pub returns-clause-denotes : goal.returns-clause-denotes
returns-clause-denotes c = printed_denotes _ _ c.header.ensures.formed (returns-clause-layout c)
