use Rattle.stream_check.proofs.Words.{◌∙◌, ◌≡◌, None, Some, ap, entry_at, false, heard_key, identifier_of, sym, true}
use Rattle.std.specs.Option.{option_copied}
use Rattle.stream_check.proofs.Tables.{standing_known, standing_new, standing_full}
use Rattle.stream_check.proofs.heard_table.look_up.Goals as goal

pub returns-then-len-lt64 : goal.returns-then-len-lt64
returns-then-len-lt64 c =
    let found : None ≡ entry_at heard_key (identifier_of c.args.entry.now) c.args.table.now =
    rw (← c.requires) (ap option_copied (sym c.in_default.is) ∙ c.get.ensures.value) in
    standing_new c.args.entry.now c.args.table.now found (rw (← c.len.ensures.value) c.if-len-lt64.true)

pub returns-else-len-lt64 : goal.returns-else-len-lt64
returns-else-len-lt64 c =
    let found : None ≡ entry_at heard_key (identifier_of c.args.entry.now) c.args.table.now =
    rw (← c.requires) (ap option_copied (sym c.in_default.is) ∙ c.get.ensures.value) in
    standing_full c.args.entry.now c.args.table.now found (rw (← c.len.ensures.value) c.if-len-lt64.false)

pub returns-then-is : goal.returns-then-is
returns-then-is c =
    let found : Some c.in-Some.known.now ≡ entry_at heard_key (identifier_of c.args.entry.now) c.args.table.now =
    rw (← c.requires) (ap option_copied (sym c.in-Some.is) ∙ c.get.ensures.value) in
    sym (standing_known _ _ _ _ found (sym c.if-is.true ∙ c.is.ensures))

pub returns-else-is : goal.returns-else-is
returns-else-is c =
    let found : Some c.in-Some.known.now ≡ entry_at heard_key (identifier_of c.args.entry.now) c.args.table.now =
    rw (← c.requires) (ap option_copied (sym c.in-Some.is) ∙ c.get.ensures.value) in
    sym (standing_known _ _ _ _ found (sym c.if-is.false ∙ c.is.ensures))
