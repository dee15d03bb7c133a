-- Why something is refused, and the ErrorText that says it (EN 15531-2, ErrorCondition).
use Rattle.std.specs.Prelude.{ℕ, List, ◌++◌, codes}
use Rattle.std.specs.Fmt.{decimal}
use Rattle.siri_subs.specs.declared.errors.AcceptError.{AcceptError}
use Rattle.siri_subs.specs.declared.errors.AcceptError.TheVariants as not_accepted
use Rattle.siri_subs.specs.declared.errors.RenumberError.{RenumberError}
use Rattle.siri_subs.specs.declared.errors.RenumberError.TheVariants as not_renewed
use Rattle.siri_subs.specs.declared.rounds.answers.SupplyError.{SupplyError}
use Rattle.siri_subs.specs.declared.rounds.answers.SupplyError.TheVariants as not_supplied
use Rattle.siri_subscriptions.specs.declared.replies.refusal.Refusal.{Refusal}
use Rattle.siri_subscriptions.specs.declared.replies.refusal.Refusal.TheVariants as refused

-- the ErrorText of a refusal
unfoldable pub refusal_text : Refusal → List ℕ
refusal_text refused.PastTermination = codes "PastTermination"
refusal_text (refused.Superseded held) = codes "Superseded " ++ decimal held
refusal_text refused.TableFull = codes "TableFull"
refusal_text refused.UnknownSubscription = codes "UnknownSubscription"
refusal_text refused.NothingReady = codes "NothingReady"
refusal_text (refused.WrongPart wanted) = (codes "WrongPart " ++ decimal wanted.round) ++ (codes " " ++ decimal wanted.part)
refusal_text (refused.StoreFull full) = codes "StoreFull " ++ decimal full

-- the refusal of a request for a subscription
abbrev pub not_accepted_as : AcceptError → Refusal
not_accepted_as not_accepted.PastTermination = refused.PastTermination
not_accepted_as (not_accepted.Superseded held) = refused.Superseded held
not_accepted_as not_accepted.TableFull = refused.TableFull

-- the refusal of a request for a part
abbrev pub not_supplied_as : SupplyError → Refusal
not_supplied_as not_supplied.NothingReady = refused.NothingReady
not_supplied_as (not_supplied.WrongPart wanted) = refused.WrongPart wanted

-- the refusal of a request for all of a subscription
abbrev pub not_renewed_as : RenumberError → Refusal
not_renewed_as not_renewed.UnknownSubscription = refused.UnknownSubscription
not_renewed_as (not_renewed.Superseded held) = refused.Superseded held
