-- A whole run, by another meaning over the connections in the places of those that it accepts.
use Rattle.std.proofs.Common.{◌≡◌, ◌+◌, inl, inr, ℕ, List, Some, Ok, Err, sym, ap, subst, arith}
use Rattle.siri_outside.specs.Wires.{Connection, Listens, WireState}
use Rattle.siri_outside.specs.declared.errors.OutsideError.{OutsideError}
use Rattle.siri_outside.specs.declared.errors.OutsideError.TheVariants as outside
use Rattle.siri_base.specs.declared.status.Status.{Status}
use Rattle.siri_base.specs.declared.status.Status.TheVariants as status
use Rattle.siri_http.specs.Requests.{Meaning, post_alone}
use Rattle.siri_lines.specs.Ends.{Bytes}
use Rattle.siri_ends.specs.lite.Asking.{post_or_query}
use Rattle.siri_runs.specs.declared.network_error.NetworkError.{NetworkError}
use Rattle.siri_runs.specs.Calls.{Outside}
use Rattle.siri_runs.specs.Run.{Completes, Procedure, EndsBefore, EndsUnwritten, Tells}
use Rattle.siri_runs.specs.Turns.{Running, running}
use Rattle.siri_runs.specs.producers.Opening.{BeginsServing, FailsToListen, FailsToOpen, FailsToTell, Opens}
use Rattle.siri_runs.specs.producers.Runs.{ServeRun, serve_procedure}
use Rattle.siri_runs.specs.producers.Serving.{Serving}
use Rattle.siri_laws.specs.lite.Places.{AreInPlaces, IsInPlace, IsInPlaceOfKnown}
use Rattle.siri_laws.specs.lite.Served.{IsServedAsByServe, IsServedAsPosts, RunsAlike, post_or_no_path, with_coming, with_connections}
use Rattle.siri_laws.proofs.lite.Placed.{Swaps, swaps_known, swaps_posts}
use Rattle.siri_laws.proofs.lite.Told.{told_back, told_on}
use Rattle.siri_laws.proofs.lite.Turned.{FailsAlike, left_alike, moved, turns_alike, turns_fail_alike}

-- ---- how it opens

not_listened : (coming : List Connection) (listen : List ℕ) (failure : OutsideError) (old new : WireState)
    → Listens {T = Unit {0}} listen old new (Err failure)
    → Listens {T = Unit {0}} listen (with_coming coming old) (with_coming coming new) (Err failure)
not_listened coming listen outside.OutOfMemory old new same = ap (with_coming coming) same
not_listened coming listen outside.Failed old new failed = (failed.0, ap (with_coming coming) failed.1)

module _ (coming : List Connection) (listen : List ℕ) (from to : Outside) (wire : WireState) (told : from.wire.tells ≡ Some wire) where
  record OpensAlike (start moment : ℕ) : Type 0 where
    next : WireState
    there : to.wire.tells ≡ Some next
    keeps : next.to_accept ≡ wire.to_accept
    opens : Opens listen start moment (with_connections coming from) (with_connections coming to)

  opens_alike : (start moment : ℕ) → Opens listen start moment from to → OpensAlike start moment
  opens_alike start moment opens =
      let one = told_on (λ old new. Listens listen old new (Ok (tt {0}))) from.wire.tells to.wire.tells wire told opens.listens.does in
      record {
        next = one.0;
        there = one.1;
        keeps = ap (λ (w : WireState). w.to_accept) one.2.1;
        opens = record {
          raises = opens.raises;
          listens = record {
            does = told_back (λ old new. Listens listen old new (Ok (tt {0}))) coming coming from.wire.tells to.wire.tells wire one.0
                told one.1 (one.2.0, ap (with_coming coming) one.2.1);
            cause = opens.listens.cause;
          };
          tells = opens.tells;
        };
      }

  module _ (error : NetworkError) where
    listening_fails : FailsToListen listen error from to → FailsToListen listen error (with_connections coming from) (with_connections coming to)
    listening_fails fails =
        let failure = fails.listens.failure in
        let one = told_on (λ old new. Listens {T = Unit {0}} listen old new (Err failure)) from.wire.tells to.wire.tells wire told
        fails.listens.call.does in
        record {
          start = fails.start;
          raises = fails.raises;
          listens = record {
            failure = failure;
            error_is = fails.listens.error_is;
            call = record {
              does = told_back (λ old new. Listens {T = Unit {0}} listen old new (Err failure)) coming coming from.wire.tells
                  to.wire.tells wire one.0 told one.1 (not_listened coming listen failure wire one.0 one.2);
              cause = fails.listens.call.cause;
            };
          };
          rest = ap (with_connections coming) fails.rest;
        }

    telling_fails : FailsToTell listen error from to → FailsToTell listen error (with_connections coming from) (with_connections coming to)
    telling_fails fails =
        let one = told_on (λ old new. Listens listen old new (Ok (tt {0}))) from.wire.tells to.wire.tells wire told fails.listens.does in
        record {
          start = fails.start;
          raises = fails.raises;
          listens = record {
            does = told_back (λ old new. Listens listen old new (Ok (tt {0}))) coming coming from.wire.tells to.wire.tells wire one.0
                told one.1 (one.2.0, ap (with_coming coming) one.2.1);
            cause = fails.listens.cause;
          };
          tells = fails.tells;
        }

    opening_fails : FailsToOpen listen error from to → FailsToOpen listen error (with_connections coming from) (with_connections coming to)
    opening_fails (inl fails) = inl (record { raises = fails.raises; rest = ap (with_connections coming) fails.rest })
    opening_fails (inr (inl fails)) = inr (inl (listening_fails fails))
    opening_fails (inr (inr (inl fails))) = inr (inr (inl (telling_fails fails)))
    opening_fails (inr (inr (inr none))) = inr (inr (inr (record {
      error_is = none.error_is;
      start = none.start;
      moment = none.moment;
      opens = (opens_alike none.start none.moment none.opens).opens;
    })))

-- ---- the whole of it

module _ (asks other_asks : Meaning) (InPlace : Connection → Connection → Type 0) (swaps : Swaps asks other_asks InPlace)
    (name listen : List ℕ) (count : ℕ) (wire : WireState) (coming : List Connection) (from to : Outside)
    (told : from.wire.tells ≡ Some wire) (are : AreInPlaces InPlace count wire.to_accept coming) where
  -- its procedure by either meaning
  abbrev procedure : Procedure Serving
  procedure = serve_procedure asks name listen

  abbrev other_procedure : Procedure Serving
  other_procedure = serve_procedure other_asks name listen

  begins_alike : (first : Running Serving) (opens : BeginsServing listen from first)
      → OpensAlike coming listen from first.outside wire told opens.start opens.moment
      → BeginsServing listen (with_connections coming from) (moved coming first)
  begins_alike first opens alike = record { start = opens.start; moment = opens.moment; opens = alike.opens; state_is = opens.state_is }

  -- every connection was served
  all_alike : (text : List ℕ) → Completes procedure count text from to
      → FailsAlike asks other_asks InPlace swaps (Completes other_procedure count text (with_connections coming from)) to
  all_alike text serves =
      let o = opens_alike coming listen from serves.first.outside wire told serves.opens.start serves.opens.moment serves.opens.opens in
      let none : count ≡ count + 0 = omega arith in
      let open_are : AreInPlaces InPlace (count + 0) o.next.to_accept coming =
      subst (λ n. AreInPlaces InPlace n o.next.to_accept coming) none
      (subst (λ list. AreInPlaces InPlace count list coming) (sym o.keeps) are) in
      let t = turns_alike asks other_asks InPlace swaps count 0 name serves.first (running serves.end to)
      o.next coming o.there open_are serves.turns in
      record {
        last = with_connections t.later to;
        fails = record {
          first = moved coming serves.first;
          opens = begins_alike serves.first serves.opens o;
          end = serves.end;
          turns = t.turns;
          leaves = tt;
          text_is = serves.text_is;
        };
        alike = left_alike t.later to;
      }

  -- it ended before
  not_alike : (end : Status) → EndsBefore procedure count end from to
      → FailsAlike asks other_asks InPlace swaps (EndsBefore other_procedure count end (with_connections coming from)) to
  not_alike end (inl opening) = record {
    last = with_connections coming to;
    fails = inl (record {
      error = opening.error;
      end_is = opening.end_is;
      fails = opening_fails coming listen from to wire told opening.error opening.fails;
    });
    alike = left_alike coming to;
  }
  not_alike end (inr turn) =
      let o = opens_alike coming listen from turn.first.outside wire told turn.opens.start turn.opens.moment turn.opens.opens in
      let t = turns_fail_alike asks other_asks InPlace swaps count name turn.error turn.first to
      o.next coming o.there (subst (λ list. AreInPlaces InPlace count list coming) (sym o.keeps) are) turn.fails in
      record {
        last = t.last;
        fails = inr (record {
          first = moved coming turn.first;
          opens = begins_alike turn.first turn.opens o;
          error = turn.error;
          end_is = turn.end_is;
          fails = t.fails;
          leaves = tt;
        });
        alike = t.alike;
      }

  module _ (old new : Bytes) where
    tells_alike : (Writes : Bytes → Bytes → List ℕ → Type 0) → Tells Writes procedure count from to old new
        → FailsAlike asks other_asks InPlace swaps
        (λ last. Tells Writes other_procedure count (with_connections coming from) last old new) to
    tells_alike Writes some =
        let all = all_alike some.text some.completes in
        record { last = all.last; fails = record { text = some.text; completes = all.fails; writes = some.writes }; alike = all.alike }

    unwritten_alike : (end : Status) → EndsUnwritten procedure count end from to old new
        → FailsAlike asks other_asks InPlace swaps
        (λ last. EndsUnwritten other_procedure count end (with_connections coming from) last old new) to
    unwritten_alike end ends =
        let none = not_alike end ends.0 in
        record { last = none.last; fails = (none.fails, ends.1); alike = none.alike }

    pub run_alike : (end : Status) → ServeRun asks name listen count from to old new end
        → RunsAlike other_asks name listen count (with_connections coming from) to old new end
    run_alike status.Done run = let s = tells_alike _ run in record { last = s.last; run = s.fails; alike = s.alike }
    run_alike status.WriteFault run = let s = tells_alike _ run in record { last = s.last; run = s.fails; alike = s.alike }
    run_alike status.OutOfMemory (inl run) = let s = tells_alike _ run in record { last = s.last; run = inl s.fails; alike = s.alike }
    run_alike status.OutOfMemory (inr run) = let s = unwritten_alike _ run in record { last = s.last; run = inr s.fails; alike = s.alike }
    run_alike status.WireFault run = let s = unwritten_alike _ run in record { last = s.last; run = s.fails; alike = s.alike }
    run_alike status.ClockFault run = let s = unwritten_alike _ run in record { last = s.last; run = s.fails; alike = s.alike }
    run_alike status.KeeperFault run = let s = unwritten_alike _ run in record { last = s.last; run = s.fails; alike = s.alike }
    run_alike other run = absurd run

pub served_as_posts : IsServedAsPosts
served_as_posts name listen count wire others from to old new end told are run =
    run_alike post_or_query post_or_no_path IsInPlace swaps_posts name listen count wire others from to told are old new end run

pub served_as_by_serve : IsServedAsByServe
served_as_by_serve name listen count wire others from to old new end told are run =
    run_alike post_or_query post_alone IsInPlaceOfKnown swaps_known name listen count wire others from to told are old new end run
