-- What a document comes to: the target of its ServiceRequest, where one query can ask that; else a line that says why not.
use Rattle.std.specs.Prelude.{ℕ, List, ◌++◌, codes, Option, Some, None, Result, Ok, Err}
use Rattle.siri_base.specs.declared.status.Status.TheVariants as status
use Rattle.siri_messages.specs.declared.message.Message.{Message}
use Rattle.siri_messages.specs.declared.message.Message.TheVariants as message
use Rattle.siri_messages.specs.declared.requests.ServiceRequest.{ServiceRequest}
use Rattle.siri_tables.specs.Refusals.{Refusal}
use Rattle.siri_queries.specs.Targets.{target_of}
use Rattle.siri_document.specs.script.Spaced.{line_feed}
use Rattle.siri_lines.specs.RunResult.{RunResult}
use Rattle.siri_document.specs.OneDocument.{refused_told}
use Rattle.siri_get.specs.declared.plan.Plan.{Plan}
use Rattle.siri_get.specs.declared.plan.Plan.TheVariants as plan

-- a line tells why nothing else is told, and the run ends with status 1
abbrev pub line_told : List ℕ → RunResult
line_told line = record { text = line ++ line_feed; status = status.Refused }

abbrev pub by_target : Option (List ℕ) → Plan
by_target (Some target) = plan.Asks target
by_target None = plan.Tells (line_told (codes "NotQuery"))

-- what a request comes to
abbrev pub query_plan : ServiceRequest → Plan
query_plan request = by_target (target_of request)

abbrev pub message_plan : Message → Plan
message_plan (message.ServiceRequest request) = query_plan request
message_plan other = plan.Tells (line_told (codes "WrongMessage"))

-- what a document comes to by what it is read as
abbrev pub plan_of : Result Message Refusal → Plan
plan_of (Ok m) = message_plan m
plan_of (Err refusal) = plan.Tells (refused_told refusal)
