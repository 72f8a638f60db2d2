-- What a buffer has taken. No public contract depends on it.
use Rattle.std.specs.Prelude.{ℕ, List, Option}
use Rattle.std.specs.Io.KnownBytes.{append_known}
use Rattle.plan_session.specs.declared.buffer.Buffer.{Buffer}

-- what the inner sink has taken, followed by what is held
abbrev pub taken_by : {K : Type 0} → (K → Option (List ℕ)) → Buffer K → Option (List ℕ)
taken_by taken b = append_known (taken b.out) b.held
