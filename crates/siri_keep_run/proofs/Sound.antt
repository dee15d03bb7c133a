-- What is known of the procedure of `keep`: why it doesn't open, and what its opening and its turns leave.
use Rattle.std.proofs.Common.{◌⊎◌, ℕ, List, Option, refl, inl, inr}
use Rattle.siri_base.specs.declared.status.Status.{Status}
use Rattle.siri_base.specs.declared.status.Status.TheVariants as status
use Rattle.siri_http.specs.Requests.{post_alone}
use Rattle.siri_ends.specs.Serving.{PostsOut, target_of}
use Rattle.siri_outside.specs.Shelves.{ShelfState}
use Rattle.siri_keep.specs.Serving.{keeping}
use Rattle.siri_runs.specs.Calls.{Outside}
use Rattle.siri_runs.specs.Errors.{status_of}
use Rattle.siri_runs.specs.Run.{ByError}
use Rattle.siri_runs.specs.declared.network_error.NetworkError.{NetworkError}
use Rattle.siri_runs.specs.declared.network_error.NetworkError.TheVariants as error
use Rattle.siri_runs.specs.producers.Opening as serving
use Rattle.siri_runs.proofs.Causes.{CallFails, HasReason}
use Rattle.siri_runs.proofs.Enough.{opened_with}
use Rattle.siri_runs.proofs.Exchanges.{post_to_only}
use Rattle.siri_runs.proofs.Run.{IsSound}
use Rattle.siri_runs.proofs.TurnsTaken.{turn_later, turn_only}
use Rattle.siri_keep_run.specs.Opening.{EndsOpening, FailsToOpen}
use Rattle.siri_keep_run.specs.Runs.{EndsWholeOrByShelf, is_of_shelf, keep_procedure}
use Rattle.siri_keep_run.specs.Serving.{IsOwn, end_at, end_left}

-- ---- where it doesn't open

-- the shelf ended it, or memory was wanting
abbrev pub EndsApart : (name : List ℕ) → Option ShelfState → Status → Type 0
EndsApart name shelf end = (start : ℕ) × EndsOpening name start end shelf

opening_fails : (name listen file : List ℕ) (shelf after : Option ShelfState) (end : Status) (from to : Outside)
    → FailsToOpen name listen file end shelf after from to → ByError (CallFails listen) end from to ⊎ EndsApart name shelf end
opening_fails name listen file shelf after end from to (inl before) =
    inl (record { error = before.error; end_is = before.end_is; fails = by before.error before.fails })
  where
    by : (e : NetworkError) → serving.FailsToRaise e from to ⊎ (serving.FailsToListen listen e from to ⊎ serving.FailsToTell listen e from to)
        → CallFails listen e from to
    by e (inl raise) = inl raise.raises
    by e (inr (inl fails)) = inr (inl fails.listens)
    by e (inr (inr tell)) = inr (inr tell.tells)
opening_fails name listen file shelf after end from to (inr over) = inr (over.start, over.ends)

apart_reason : (name : List ℕ) (shelf : Option ShelfState) (from to : Outside) (end : Status) → EndsApart name shelf end
    → HasReason is_of_shelf from to end
apart_reason name shelf from to status.ShelfFault apart = refl
apart_reason name shelf from to status.OutOfMemory apart = tt
apart_reason name shelf from to (status.BadShelf why) apart = refl
apart_reason name shelf from to other apart = absurd apart.1

own_reason : (from to : Outside) (e : NetworkError) → IsOwn e → HasReason is_of_shelf from to (status_of e)
own_reason from to error.ShelfFault own = refl
own_reason from to error.OutOfMemory own = tt
own_reason from to other own = absurd own

pub keep_is_sound : (name listen file : List ℕ) (before after : Option ShelfState)
    → IsSound (keep_procedure name listen file before after) listen (EndsApart name before) IsOwn
keep_is_sound name listen file before after = record {
  fails = opening_fails name listen file before after;
  apart = apart_reason name before;
  own = record { refuses = λ e state own. own; stops = λ e state before after stops. stops.0 };
  own_reason = own_reason;
  opens_later = λ from first begins. record { wire = begins.opens.listens.cause.later; clock = begins.opens.tells.cause.later };
  opens_only = λ count from first has begins.
      opened_with count begins.moment listen from first.outside has begins.opens.listens begins.opens.tells;
  later = λ from before to after serves. turn_later PostsOut (keeping name) post_alone (end_at from before) (end_left to after) serves.serves;
  only = λ n from before to after has serves. turn_only PostsOut (keeping name)
      (λ out outcome n old new has told. post_to_only (target_of out.address) _ outcome n old new has told) post_alone n
      (end_at from before) (end_left to after) has serves.serves;
}

-- ---- where there is enough

pub apart_whole : (name : List ℕ) (shelf : Option ShelfState) (end : Status) → EndsApart name shelf end → EndsWholeOrByShelf end
apart_whole name shelf status.ShelfFault apart = tt
apart_whole name shelf status.OutOfMemory apart = tt
apart_whole name shelf (status.BadShelf why) apart = tt
apart_whole name shelf other apart = absurd apart.1

pub own_whole : (e : NetworkError) → IsOwn e → EndsWholeOrByShelf (status_of e)
own_whole error.ShelfFault own = tt
own_whole error.OutOfMemory own = tt
own_whole other own = absurd own
