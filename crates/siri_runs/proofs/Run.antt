-- A run, whole, of whichever command: what is said of it follows from what is known of the command's procedure.
use Rattle.std.proofs.Common.{◌≡◌, ◌⊎◌, ℕ, List, Bool, true, false, refl, sym, ap, ◌∙◌, subst, inl, inr}
use Rattle.std.specs.Prelude.{IsTrue}
use Rattle.siri_outside.specs.Causes.{Rose}
use Rattle.siri_outside.specs.MetFailures.{is_write_fault}
use Rattle.siri_base.specs.declared.status.Status.{Status}
use Rattle.siri_base.specs.declared.status.Status.TheVariants as status
use Rattle.siri_lines.specs.Ends.{Bytes, ReadsAll}
use Rattle.siri_runs.specs.Calls.{Outside}
use Rattle.siri_runs.specs.Enough.{HasEnough}
use Rattle.siri_runs.specs.Errors.{status_of}
use Rattle.siri_runs.specs.Run.{ByError, Procedure, EndsBefore, EndsInTurns, Only, Run}
use Rattle.siri_runs.specs.Turns.{Running}
use Rattle.siri_runs.specs.declared.network_error.NetworkError.{NetworkError}
use Rattle.siri_runs.proofs.Causes.{AnswersLater, CallFails, EndsBy, HasReason, Later, call_reason, turns_reason}
use Rattle.siri_runs.proofs.Enough.{AnswersOnly, HasTurns, call_fails, turns_fail}
use Rattle.siri_runs.proofs.Statuses.{reads_unless, written_unless}

-- What has to be known of a procedure. Where it doesn't open, a call of the outside failed, or it ended apart from that; and its end
-- ends a run by its own errors. Either has a reason, whatever became of the outside. As it opens no count falls, and what is enough
-- for its turns stays enough; and so as it answers a connection.
pub record IsSound {State : Type 0} (procedure : Procedure State) (listen : List ℕ) (Apart : Status → Type 0) (Own : NetworkError → Type 0) : Type 0 where
  pub fails : (end : Status) (from to : Outside) → procedure.FailsToOpen end from to → ByError (CallFails listen) end from to ⊎ Apart end
  pub apart : (from to : Outside) (end : Status) → Apart end → HasReason procedure.is_own from to end
  pub own : EndsBy Own procedure.turning
  pub own_reason : (from to : Outside) (e : NetworkError) → Own e → HasReason procedure.is_own from to (status_of e)
  pub opens_later : (from : Outside) (first : Running State) → procedure.Opens from first → Later from first.outside
  pub opens_only : (count : ℕ) (from : Outside) (first : Running State) → HasEnough count from → procedure.Opens from first
      → HasTurns count first.outside
  pub later : AnswersLater procedure.turning
  pub only : AnswersOnly procedure.turning

-- it opened so, and a turn ended it
pub turn_ended : {State : Type 0} (procedure : Procedure State) (count : ℕ) (from to : Outside) (first : Running State)
    → procedure.Opens from first → (e : NetworkError) (end : Status) → end ≡ status_of e
    → (fails : EndsInTurns procedure.turning count e first to) × procedure.LeavesInTurn fails.last to
    → EndsBefore procedure count end from to
turn_ended procedure count from to first opens e end is one =
    inr (record { first = first; opens = opens; error = e; end_is = is; fails = one.0; leaves = one.1 })

only_so : (own : Bool) (Ends : Type 0) → IsTrue own → Ends → Only own Ends
only_so true Ends is ends = ends
only_so false Ends is ends = absurd (cc is)

module _ {State : Type 0} {procedure : Procedure State} {listen : List ℕ} {Apart : Status → Type 0} {Own : NetworkError → Type 0}
    (sound : IsSound procedure listen Apart Own) (count : ℕ) (from to : Outside) where
  -- ---- why it ended early

  reason : (end : Status) → EndsBefore procedure count end from to → HasReason procedure.is_own from to end
  reason end (inl opening) = by (sound.fails end from to opening)
    where
      by : ByError (CallFails listen) end from to ⊎ Apart end → HasReason procedure.is_own from to end
      by (inl call) = call_reason procedure.is_own from to call.error end call.end_is listen call.fails
      by (inr apart) = sound.apart from to end apart
  reason end (inr turn) = turns_reason procedure.is_own from to turn.error end turn.end_is procedure.turning Own sound.own
      (λ own. subst (HasReason procedure.is_own from to) (sym turn.end_is) (sound.own_reason from to turn.error own))
      sound.later count turn.first (sound.opens_later from turn.first turn.opens) turn.fails

  pub wire_fault : (end : Status) → EndsBefore procedure count end from to → end ≡ status.WireFault → Rose from.wire.faults to.wire.faults
  wire_fault end ends is = subst (HasReason procedure.is_own from to) is (reason end ends)

  pub clock_fault : (end : Status) → EndsBefore procedure count end from to → end ≡ status.ClockFault → Rose from.clock.faults to.clock.faults
  clock_fault end ends is = subst (HasReason procedure.is_own from to) is (reason end ends)

  pub keeper_fault : (end : Status) → EndsBefore procedure count end from to → end ≡ status.KeeperFault → Rose from.keeper.faults to.keeper.faults
  keeper_fault end ends is = subst (HasReason procedure.is_own from to) is (reason end ends)

  pub not_write : (end : Status) → EndsBefore procedure count end from to → end ≡ status.WriteFault → ⊥
  not_write end ends is = subst (HasReason procedure.is_own from to) is (reason end ends)

  not_done : (end : Status) → EndsBefore procedure count end from to → end ≡ status.Done → ⊥
  not_done end ends is = subst (HasReason procedure.is_own from to) is (reason end ends)

  -- no sink ended it
  pub unmet : (end : Status) → EndsBefore procedure count end from to → is_write_fault end ≡ false
  unmet end ends = written_unless end (not_write end ends)

  -- nothing is said of what is left to be read
  pub reads_early : (left : Bytes) (end : Status) → EndsBefore procedure count end from to → ReadsAll left end
  reads_early left end ends = reads_unless left end (not_done end ends)

  -- ---- by the status

  -- it ended before every turn was made
  pub run_ended : (held : Bytes) (end : Status) → EndsBefore procedure count end from to → Run procedure count from to held held end
  run_ended held end ends = by end ends (reason end ends)
    where
      by : (end : Status) → EndsBefore procedure count end from to → HasReason procedure.is_own from to end → Run procedure count from to held held end
      by status.Done ends is = absurd is
      by status.WriteFault ends is = absurd is
      by status.OutOfMemory ends is = inr (ends, refl)
      by status.WireFault ends is = (ends, refl)
      by status.ClockFault ends is = (ends, refl)
      by status.KeeperFault ends is = (ends, refl)
      by other ends is = only_so (procedure.is_own other) _ is (ends, refl)

  -- ---- where there is enough

  -- it ended for want of memory, apart from the calls of the outside, or by its end's own errors
  pub ends_whole : (Whole : Status → Type 0) → Whole status.OutOfMemory → ((e : NetworkError) → Own e → Whole (status_of e))
      → (end : Status) → (Apart end → Whole end) → EndsBefore procedure count end from to → HasEnough count from → Whole end
  ends_whole Whole memory own end apart ends has = by ends
    where
      opening : ByError (CallFails listen) end from to ⊎ Apart end → Whole end
      opening (inl call) = subst Whole (sym (call.end_is ∙ ap status_of (call_fails listen count call.error from to has call.fails))) memory
      opening (inr why) = apart why

      own_whole : EndsBy (λ e. Whole (status_of e)) procedure.turning
      own_whole = record {
        refuses = λ e state refuses. own e (sound.own.refuses e state refuses);
        stops = λ e state before after stops. own e (sound.own.stops e state before after stops);
      }

      by : EndsBefore procedure count end from to → Whole end
      by (inl fails) = opening (sound.fails end from to fails)
      by (inr turn) = subst Whole (sym turn.end_is)
          (turns_fail procedure.turning sound.only (λ e. Whole (status_of e)) own_whole memory count turn.error turn.first to
          (sound.opens_only count from turn.first has turn.opens) turn.fails)
