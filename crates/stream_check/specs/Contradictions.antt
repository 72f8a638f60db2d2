-- FIGs that contradict a configuration, and which contradictions are reported: FIG 0/4, 0/5, 0/8, 0/14 and 0/19 of this
-- ensemble (EN 300 401 clauses 6.2.2, 6.3.3, 6.3.5, 8.1.2 and 8.1.6.2).
use Rattle.std.specs.Prelude.{◌≡◌, ◌↔◌, ◌⊎◌, ◌≤◌, ℕ, ◌/◌, ◌%◌, ◌==◌, ◌&&◌, nat_lt, not, Bool, true, false}
use Rattle.std.specs.Prelude.{if◌then◌else◌, List, [], ◌∷◌, ◌++◌, length, map, flat_map, drop, get_or, Contains, Option}
use Rattle.std.specs.Prelude.{Some, None}
use Rattle.std.specs.List.{list_any}
use Rattle.fib_reader.specs.Listening.{Pictured}
use Rattle.fig_mentions.specs.declared.mention.Mention.{Mention}
use Rattle.fig_mentions.specs.declared.mention.Mention.TheVariants.{Nothing, Sub, Packet, OnSub, ByPacket}
use Rattle.fig_mentions.specs.Agreeing.{fig_agrees, is_judged, is_present}
use Rattle.fig_mentions.specs.Mentions.{mentions_of}
use Rattle.stream_check.specs.declared.contradiction.Contradiction.{Contradiction}
use Rattle.stream_check.specs.declared.contradiction.Contradiction.TheVariants.{NotThere, NotWhole}
use Rattle.stream_check.specs.declared.finding.Fault.TheVariants as faults
use Rattle.stream_check.specs.declared.finding.What.{What}
use Rattle.stream_check.specs.declared.finding.What.TheVariants as whats

-- ---- the contradictions of a FIG

-- an entry that names what is not in the configuration
abbrev pub absent : Pictured → (ext : ℕ) → Mention → List Contradiction
absent k ext m = if is_present k m then [] else NotThere ext m ∷ []

-- those of whole entries, one after the other; where they are not whole, that alone
abbrev pub absent_among : Pictured → (ext : ℕ) → Option (List Mention) → List Contradiction
absent_among k ext None = NotWhole ext ∷ []
absent_among k ext (Some ms) = flat_map (absent k ext) ms

abbrev pub are_whole : Option (List Mention) → Bool
are_whole None = false
are_whole (Some ms) = true

-- a FIG has at least one entry
abbrev pub contradictions_among : Pictured → (second : ℕ) → (entries : List ℕ) → List Contradiction
contradictions_among k second [] = NotWhole (second % 32) ∷ []
contradictions_among k second (b ∷ bs) =
    absent_among k (second % 32) (mentions_of (second % 32) (second / 32 % 2 == 1) (b ∷ bs))

-- of a FIG, by its bytes; other FIGs contradict nothing
abbrev pub contradictions_in : Pictured → List ℕ → List Contradiction
contradictions_in k fig = if is_judged fig then contradictions_among k (get_or fig 1 0) (drop 2 fig) else []

-- the law of agreement: a FIG has none exactly if it agrees with the configuration, so that it would be carried
abbrev pub AgreeingHasNone : Type 0
AgreeingHasNone = (k : Pictured) (fig : List ℕ) → fig_agrees k fig ≡ true ↔ contradictions_in k fig ≡ []

-- ---- contradictions that are the same

abbrev pub is_same_mention : Mention → Mention → Bool
is_same_mention Nothing Nothing = true
is_same_mention (Sub sub) (Sub other) = sub == other
is_same_mention (Packet scid) (Packet other) = scid == other
is_same_mention (OnSub sid sub) (OnSub service other) = sid == service && sub == other
is_same_mention (ByPacket sid scid) (ByPacket service other) = sid == service && scid == other
is_same_mention m n = false

abbrev pub is_same : Contradiction → Contradiction → Bool
is_same (NotThere ext m) (NotThere other n) = ext == other && is_same_mention m n
is_same (NotWhole ext) (NotWhole other) = ext == other
is_same c d = false

-- ---- which are reported

abbrev pub most_noted : ℕ
most_noted = 64

-- given those that were reported since the last swap: one that is not among them, where these are fewer than 64
abbrev pub is_noted : List Contradiction → Contradiction → Bool
is_noted noted c = list_any (is_same c) noted

abbrev pub is_new : List Contradiction → Contradiction → Bool
is_new noted c = nat_lt (length noted) most_noted && not (is_noted noted c)

-- of some contradictions, one after the other, those that are reported
abbrev pub new_among : (noted some : List Contradiction) → List Contradiction
new_among noted [] = []
new_among noted (c ∷ cs) = if is_new noted c then c ∷ new_among (noted ++ c ∷ []) cs else new_among noted cs

-- and all that were reported since the last swap, after them
abbrev pub noted_with : (noted some : List Contradiction) → List Contradiction
noted_with noted some = noted ++ new_among noted some

abbrev pub contradicts : Contradiction → What
contradicts c = whats.Fault (faults.Contradicts c)

-- what is reported of some contradictions
abbrev pub new_findings : (noted some : List Contradiction) → List What
new_findings noted some = map contradicts (new_among noted some)

-- ---- the law of reports

-- each of these is not among those before it
abbrev pub AreNew : (before these : List Contradiction) → Type 0
AreNew before [] = Unit {0}
AreNew before (c ∷ cs) = (is_noted before c ≡ false) × AreNew (before ++ c ∷ []) cs

-- between two swaps none is reported twice, and at most 64 are
abbrev pub AreReportedOnce : Type 0
AreReportedOnce =
    (noted some : List Contradiction) → AreNew [] noted → length noted ≤ most_noted
    → AreNew [] (noted_with noted some) × (length (noted_with noted some) ≤ most_noted)

-- and each is reported, before or now, unless 64 are
abbrev pub NoneIsLeftOut : Type 0
NoneIsLeftOut =
    (noted some : List Contradiction) (c : Contradiction) → Contains some c
    → (is_noted (noted_with noted some) c ≡ true) ⊎ (most_noted ≤ length (noted_with noted some))
