-- Inner words: cited by private functions alone.
-- What a request for all of a subscription is answered, by both answers that are ready.
use Rattle.std.specs.Prelude.{Result, Ok, Err}
use Rattle.siri_messages.specs.declared.deliveries.ServiceDelivery.{ServiceDelivery}
use Rattle.siri_subs.specs.declared.errors.Accepted.{Accepted}
use Rattle.siri_subs.specs.declared.errors.RenumberError.{RenumberError}
use Rattle.siri_model.specs.Rows.{KeptLife, asked_of, nothing_kept}
use Rattle.siri_subs.specs.declared.entry.Row.{Row}
use Rattle.std.specs.Prelude.{ℕ}
use Rattle.siri_subscriptions.specs.declared.renewals.RenewAnswer.{RenewAnswer}

-- the one of two deliveries that an outcome makes
abbrev pub answer_as : Result Accepted RenumberError → (renewed refused : ServiceDelivery) → RenewAnswer
answer_as (Ok how) renewed refused = record { outcome = Ok how; delivery = renewed }
answer_as (Err why) renewed refused = record { outcome = Err why; delivery = refused }

-- what is kept of a row's life where it begins anew at a moment
abbrev pub anew : ℕ → Row KeptLife → KeptLife
anew now row = nothing_kept now (asked_of row)
