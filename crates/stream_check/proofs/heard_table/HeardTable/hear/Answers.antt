use Rattle.stream_check.proofs.Words.{◌∙◌, ◌≤◌, AllByRecursion, Heard, List, ap, lookup, raws, subst, sym}
use Rattle.stream_check.proofs.Tables.{full_without_room, not_full}
use Rattle.stream_check.proofs.Waiting.{kept_since}
use Rattle.stream_check.proofs.heard_table.HeardTable.hear.Goals as goal

pub returns-then-not-keep-clause-lookup : goal.returns-then-not-keep-clause-lookup
returns-then-not-keep-clause-lookup c =
    full_without_room (record { raw = c.args.entry.now; at = c.args.at }) c.self.inside.table
    (sym c.if-not-keep.true ∙ c.keep.ensures.room)
    ∙ ap (λ (hs : List Heard). lookup c.args.entry.now (raws hs)) c.self.view_is

pub invariant_of-self-2 : goal.invariant_of-self-2
invariant_of-self-2 c =
    subst (λ (hs : List Heard). AllByRecursion (λ (h : Heard). c.earlier-self-inside.result ≤ h.at) hs)
    (sym (c.keep.ensures.kept c.if-not-keep.false))
    (kept_since c.earlier-self-inside.result c.self.inside.oldest (record { raw = c.args.entry.now; at = c.args.at })
    c.self.inside.table
    c.earlier-self-inside.ensures.first c.earlier-self-inside.ensures.second c.self.invariant)

pub returns-clause-full : goal.returns-clause-full
returns-clause-full c = λ full.
    absurd (not_full (record { raw = c.args.entry.now; at = c.args.at }) c.self.inside.table
    (sym c.if-not-keep.false ∙ c.keep.ensures.room)
    (sym c.look_up-found.ensures ∙ full))
