-- What was reported to a receiver of findings.
use Rattle.std.specs.Prelude.{ℕ, nat_le, if◌then◌else◌, List, [], ◌∷◌, ◌++◌, length}
use Rattle.stream_check.specs.declared.finding.Finding.{Finding}

-- it is not known what was reported; or these findings, all of which are kept; or these, of which at most so many are
-- kept
pub data Reported : Type 0 where
  Unknown : Reported
  All : List Finding → Reported
  AtMost : ℕ → List Finding → Reported

-- so many are kept, and no more
abbrev pub kept_findings : ℕ → List Finding → Reported
kept_findings most findings = if nat_le (length findings) most then AtMost most findings else Unknown

-- with more findings
abbrev pub with_more : Reported → List Finding → Reported
with_more Unknown more = Unknown
with_more (All reported) more = All (reported ++ more)
with_more (AtMost most reported) [] = AtMost most reported
with_more (AtMost most reported) (finding ∷ more) = kept_findings most (reported ++ finding ∷ more)
