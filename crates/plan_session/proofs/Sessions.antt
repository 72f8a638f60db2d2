-- A session and its request: both begin with the same player.
use Rattle.plan_session.proofs.Words.{◌≡◌, IsAtStart, IsSessionOf, IsTypedFileOf, None, Opened, Playing, Program}
use Rattle.plan_session.proofs.Words.{Request, start_fault, start_of, subst, sym}
use Rattle.plan_session.specs.Playback.{Begins}
use Rattle.plan_runs.specs.declared.event.Start.{Start as Starting}
use Rattle.plan_session.proofs.Requests.{begins_of}

-- a player of the request is at the start of its code
at_start : (r : Request) (code : Program) (start : Starting) (p : Playing) → code ≡ p.code → start ≡ start_of code r
    → Begins r p → IsAtStart code start p
at_start r code start p codes starts h =
    let here = subst (λ (c : Program). IsAtStart c (start_of c r) p) (sym codes) h.begins in
    subst (λ (s : Starting). IsAtStart code s p) (sym starts) here

-- a code file has one code
pub session_of : (r : Request) (s : Opened) → IsTypedFileOf s.code r.file
    → ((code : Program) → IsTypedFileOf code r.file → s.code ≡ code) → s.start ≡ start_of s.code r
    → start_fault s.start ≡ None → IsSessionOf r s
session_of r s file only starts none p = (
  (λ h. at_start r s.code s.start p (only p.code h.ready.file) starts h),
  (λ h. begins_of r p s.code s.start file starts none h),
)
