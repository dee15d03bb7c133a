-- A target that is asked of a host, and what is told of the response (RFC 9112).
use Rattle.std.specs.Prelude.{◌≡◌, ⊤, ℕ, ◌==◌, List, ◌++◌, codes, Option, None, Some, Ok, Err, if◌then◌else◌}
use Rattle.std.specs.Fmt.{decimal}
use Rattle.siri_outside.specs.OutsideCalls.{WhereTold}
use Rattle.siri_outside.specs.Wires.{WireState}
use Rattle.siri_base.specs.declared.status.Status.TheVariants as status
use Rattle.siri_http.specs.declared.errors.HttpError.{HttpError}
use Rattle.siri_http.specs.declared.errors.HttpError.TheVariants as http
use Rattle.siri_http.specs.Texts.{get_text}
use Rattle.siri_http.specs.Exchanges.{Response, Exchanges}
use Rattle.siri_document.specs.script.Spaced.{line_feed}
use Rattle.siri_lines.specs.RunResult.{RunResult}
use Rattle.siri_get.specs.declared.plan.Plan.{Plan}
use Rattle.siri_get.specs.declared.plan.Plan.TheVariants as plan
use Rattle.siri_get.specs.Plans.{line_told}

-- what is told of a target that was asked, or nothing where the wire failed
abbrev pub Heard : Type 0
Heard = Option RunResult

-- what is told of a response: its body, where its status is 200; else its status
abbrev pub answered_told : (code : ℕ) (body : List ℕ) → RunResult
answered_told code body =
    if code == 200
    then record { text = body ++ line_feed; status = status.Done }
    else line_told (codes "status " ++ decimal code)

-- what is told where no response was read: why it is refused; nothing is said where there was no memory
abbrev pub refused_told_by : HttpError → Option Heard
refused_told_by http.BadHead = Some (Some (line_told (codes "BadHead")))
refused_told_by http.HeadTooLong = Some (Some (line_told (codes "HeadTooLong")))
refused_told_by http.NoLength = Some (Some (line_told (codes "NoLength")))
refused_told_by http.TransferCoding = Some (Some (line_told (codes "TransferCoding")))
refused_told_by http.BodyTooLong = Some (Some (line_told (codes "BodyTooLong")))
refused_told_by http.Short = Some (Some (line_told (codes "Short")))
refused_told_by http.ReadFault = Some None
refused_told_by http.WriteFault = Some None
refused_told_by http.OutOfMemory = None

-- what is told of what was read
abbrev pub told_of : Response → Option Heard
told_of (Ok response) = Some (Some (answered_told response.0 response.1))
told_of (Err error) = refused_told_by error

-- a request is sent to a host: what is told of its response is heard, or nothing where the wire failed
abbrev pub Gets : List ℕ → List ℕ → Option Heard → WireState → WireState → Type 0
Gets = Exchanges told_of None

-- nothing is asked: a line is told, unless there was no memory
abbrev pub TellsAtOnce : RunResult → Option Heard → Type 0
TellsAtOnce told None = ⊤
TellsAtOnce told (Some heard) = heard ≡ Some told

-- what comes of a plan, of which a target is asked of this host; where none is, the wire stays as it is
abbrev pub ComesOfPlan : List ℕ → Plan → Option WireState → Option WireState → Option Heard → Type 0
ComesOfPlan host (plan.Asks target) old new outcome = WhereTold old new (Gets host (get_text host target) outcome)
ComesOfPlan host (plan.Tells told) old new outcome = TellsAtOnce told outcome × (new ≡ old)
