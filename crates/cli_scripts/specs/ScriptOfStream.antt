-- The script that `listen --script` prints of what it decodes of a stream.
use Rattle.std.specs.Prelude.{◌≡◌, ℕ, nat_lt, if◌then◌else◌, List, Option, Some, None}
use Rattle.console.specs.declared.exit.Status.{Status}
use Rattle.console.specs.declared.exit.Status.TheVariants.{Done, Refused, Misused, Faulty}
use Rattle.mux_config.specs.Configuration.{Configuration, IsConfiguration}
use Rattle.fib_carousel.specs.Pages.{page_set, rounds}
use Rattle.fib_reader.specs.Listening.{picture_of}
use Rattle.fib_reader.specs.Picture.{Shows}
use Rattle.plan_code.specs.declared.limits.TheConstants.{LONGEST_PERIOD, SHORTEST_NOTICE, LONGEST_NOTICE}
use Rattle.plan_code.specs.declared.plan.Plan.{Plan}
use Rattle.script_config.specs.Texts.{IsTextOf, usual_period}
use Rattle.cli_scripts.specs.declared.listen_script.ListenScriptRequest.{ListenScriptRequest}
use Rattle.cli_scripts.specs.declared.listen_script.Named.{Named}

-- ---- the header

-- a number of the request; one out of range, which the command line refuses, becomes the nearest in range
abbrev pub clamped : (low high number : ℕ) → ℕ
clamped low high number = if nat_lt number low then low else if nat_lt high number then high else number

-- the period of the request, or the usual one of the configuration
abbrev pub period_of : ListenScriptRequest → Configuration → Option ℕ → ℕ
period_of request c (Some period) = period
period_of request c None = usual_period (rounds request.layout (page_set c None))

-- the ensemble of the stream, and the numbers of the request
abbrev pub header_of : ListenScriptRequest → ℕ → Configuration → Plan
header_of request eid c = record {
  eid = eid;
  layout = request.layout;
  period = clamped 1 LONGEST_PERIOD (period_of request c request.period);
  notice = clamped SHORTEST_NOTICE LONGEST_NOTICE request.notice;
  budget = clamped 1 255 request.budget;
}

-- ---- the script

-- the script of the configuration that the next picture shows at the end of the stream, if that is asked for, else the
-- current one
pub record IsScriptText (request : ListenScriptRequest) (named : Named) (text : List ℕ) : Type 0 where
  pub eid : ℕ
  pub configuration : Configuration
  pub ensemble : named.eid ≡ Some eid
  pub formed : IsConfiguration configuration
  pub shown : Shows (picture_of request.is_next named.heard.listener) configuration
  pub text_of : IsTextOf (header_of request eid configuration) configuration text

-- what is printed of what is decoded: done, it is the script
abbrev pub HasScript : ListenScriptRequest → Named → (List ℕ → Type 0) → Status → Type 0
HasScript request named Prints Done = (text : List ℕ) × IsScriptText request named text × Prints text
HasScript request named Prints Refused = Unit {0}
HasScript request named Prints Misused = ⊥
HasScript request named Prints Faulty = ⊥
