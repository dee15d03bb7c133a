-- What is known of the procedure of `serve` and `lite`: why it doesn't open, and what its opening and its turns leave.
use Rattle.std.proofs.Common.{◌≡◌, ◌⊎◌, ℕ, List, sym, ap, ◌∙◌, subst, inl, inr}
use Rattle.siri_base.specs.declared.status.Status.{Status}
use Rattle.siri_base.specs.declared.status.Status.TheVariants as status
use Rattle.siri_http.specs.Requests.{Meaning}
use Rattle.siri_ends.specs.Serving.{PostsOut, serving, target_of}
use Rattle.siri_runs.specs.Calls.{Outside}
use Rattle.siri_runs.specs.Enough.{EndsWhole}
use Rattle.siri_runs.specs.Errors.{status_of}
use Rattle.siri_runs.specs.Run.{ByError}
use Rattle.siri_runs.specs.declared.network_error.NetworkError.{NetworkError}
use Rattle.siri_runs.specs.producers.Opening.{FailsToOpen}
use Rattle.siri_runs.specs.producers.Runs.{serve_procedure}
use Rattle.siri_runs.specs.producers.Serving.{end_at}
use Rattle.siri_runs.proofs.Causes.{CallFails, HasReason, IsMemory}
use Rattle.siri_runs.proofs.Enough.{opened_with}
use Rattle.siri_runs.proofs.Exchanges.{post_to_only}
use Rattle.siri_runs.proofs.Run.{IsSound}
use Rattle.siri_runs.proofs.TurnsTaken.{turn_later, turn_only}

-- ended apart from the calls of the outside: for want of memory
abbrev pub IsApart : Status → Type 0
IsApart end = end ≡ status.OutOfMemory

-- where it doesn't open, a call failed, or there was no memory for a producer
opening_fails : (listen : List ℕ) (end : Status) (from to : Outside) → ByError (FailsToOpen listen) end from to
    → ByError (CallFails listen) end from to ⊎ IsApart end
opening_fails listen end from to ends = by ends.fails
  where
    by : FailsToOpen listen ends.error from to → ByError (CallFails listen) end from to ⊎ IsApart end
    by (inl raise) = inl (record { error = ends.error; end_is = ends.end_is; fails = inl raise.raises })
    by (inr (inl fails)) = inl (record { error = ends.error; end_is = ends.end_is; fails = inr (inl fails.listens) })
    by (inr (inr (inl tell))) = inl (record { error = ends.error; end_is = ends.end_is; fails = inr (inr tell.tells) })
    by (inr (inr (inr stop))) = inr (ends.end_is ∙ ap status_of stop.error_is)

pub serve_is_sound : (asks : Meaning) (name listen : List ℕ) → IsSound (serve_procedure asks name listen) listen IsApart IsMemory
serve_is_sound asks name listen = record {
  fails = opening_fails listen;
  apart = λ from to end is. subst (HasReason (serve_procedure asks name listen).is_own from to) (sym is) tt;
  own = record { refuses = λ e state never. absurd never; stops = λ e state before after stops. stops.0 };
  own_reason = λ from to e is. subst (λ e. HasReason (serve_procedure asks name listen).is_own from to (status_of e)) (sym is) tt;
  opens_later = λ from first begins. record { wire = begins.opens.listens.cause.later; clock = begins.opens.tells.cause.later };
  opens_only = λ count from first has begins.
      opened_with count begins.moment listen from first.outside has begins.opens.listens begins.opens.tells;
  later = λ from before to after serves. turn_later PostsOut (serving name) asks (end_at from before) (end_at to after) serves;
  only = λ n from before to after has serves. turn_only PostsOut (serving name)
      (λ out outcome n old new has told. post_to_only (target_of out.address) _ outcome n old new has told) asks n
      (end_at from before) (end_at to after) has serves;
}

-- where there is enough, it is want of memory that ends it early
pub memory_whole : (end : Status) → IsApart end → EndsWhole end
memory_whole end is = subst EndsWhole (sym is) tt

pub own_whole : (e : NetworkError) → IsMemory e → EndsWhole (status_of e)
own_whole e is = memory_whole (status_of e) (ap status_of is)
