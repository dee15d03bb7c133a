-- A run's turns are the turns of one over the connections in the places of those that it accepts.
use Rattle.std.proofs.Common.{◌≡◌, ◌+◌, ◌-◌, ◌⊎◌, inl, inr, ℕ, zero, suc, List, [], ◌∷◌, Some, Ok, Err, refl, sym, ap, ◌∙◌, subst, arith}
use Rattle.siri_outside.specs.OutsideCalls.{WhereTold}
use Rattle.siri_outside.specs.Wires.{Accepts, Connection, WireState}
use Rattle.siri_outside.specs.declared.errors.OutsideError.{OutsideError}
use Rattle.siri_outside.specs.declared.errors.OutsideError.TheVariants as outside
use Rattle.siri_http.specs.Requests.{Meaning}
use Rattle.siri_model.specs.History.{History}
use Rattle.siri_ends.specs.At.{At}
use Rattle.siri_ends.specs.InTurn.{most_sends}
use Rattle.siri_ends.specs.Serving.{ServesOne, serving}
use Rattle.siri_runs.specs.declared.network_error.NetworkError.{NetworkError}
use Rattle.siri_runs.specs.Calls.{Outside, told_by}
use Rattle.siri_runs.specs.Turns.{FailsToAccept, FailsToTell, Running, StopsAnswering, Turns, running}
use Rattle.siri_runs.specs.Run.{EndsAtTurn, EndsInTurns, MakesTurn, MakesTurns}
use Rattle.siri_runs.specs.producers.Serving.{Serving, StopsServing, end_at, given, turning}
use Rattle.siri_laws.specs.lite.Places.{AreInPlaces}
use Rattle.siri_laws.specs.lite.Served.{LeaveAlike, swapped, with_coming, with_connections}
use Rattle.siri_laws.proofs.lite.Answered.{accepts_alike, answer_alike, placed}
use Rattle.siri_laws.proofs.lite.Placed.{Swaps}
use Rattle.siri_laws.proofs.lite.Sends.{moved_at, sends_keep, sends_same}
use Rattle.siri_laws.proofs.lite.Stopped.{stops_alike}
use Rattle.siri_laws.proofs.lite.Told.{fresh, moved_alike, placed_alike, told_alike, told_back, told_on}

-- what two runs left, of which one has other connections to come
pub left_alike : (coming : List Connection) (outside : Outside) → LeaveAlike outside (with_connections coming outside)
left_alike coming outside = record {
  wire = moved_alike coming outside.wire.tells;
  faults = refl;
  clock = refl;
  keeper = refl;
}

abbrev pub moved : List Connection → Running Serving → Running Serving
moved coming from = running from.state (with_connections coming from.outside)

-- ---- a call of `accept` that failed

not_accepted : (coming : List Connection) (failure : OutsideError) (old new : WireState) → (old.to_accept ≡ [] → coming ≡ [])
    → Accepts {T = Unit {0}} old new (Err failure) → Accepts {T = Unit {0}} (with_coming coming old) (with_coming coming new) (Err failure)
not_accepted coming outside.OutOfMemory old new none same = ap (with_coming coming) same
not_accepted coming outside.Failed old new none failed = (due failed.0, ap (with_coming coming) failed.1)
  where
    due : {P : Type 0} → P ⊎ (old.to_accept ≡ []) → P ⊎ (coming ≡ [])
    due (inl p) = inl p
    due (inr empty) = inr (none empty)

module _ (asks other_asks : Meaning) (InPlace : Connection → Connection → Type 0) (swaps : Swaps asks other_asks InPlace) where
  none_coming : (count : ℕ) (list coming : List Connection) → AreInPlaces InPlace (suc count) list coming → list ≡ [] → coming ≡ []
  none_coming count [] coming are is = are
  none_coming count (first ∷ later) coming are is = absurd (cc is)

  -- ---- one turn

  record ServedAlike (name : List ℕ) (at end : At History) (wire : WireState) (second : Connection) (later : List Connection) : Type 0 where
    next : WireState
    there : end.wire ≡ Some next
    keeps : next.to_accept ≡ wire.to_accept
    serves : ServesOne other_asks name (record at { wire = Some (placed (fresh second) later wire) }) (moved_at later end)

  served_alike : (name : List ℕ) (at end : At History) (wire : WireState) (first second : Connection) (later : List Connection)
      → InPlace first second → at.wire ≡ Some wire → wire.present ≡ Some (fresh first) → ServesOne asks name at end
      → ServedAlike name at end wire second later
  served_alike name at end wire first second later place told there turn =
      let a = answer_alike asks other_asks InPlace swaps (serving name) turn.asked at turn.mid wire first second later place told there turn.answers in
      let list = (serving name).sends at.state turn.asked in
      let k = sends_keep (serving name) most_sends list turn.mid end a.next a.there turn.sends in
      record {
        next = k.0;
        there = k.1;
        keeps = k.2 ∙ a.keeps;
        serves = record {
          asked = turn.asked;
          mid = moved_at later turn.mid;
          answers = a.answers;
          sends = sends_same later (serving name) most_sends list turn.mid end turn.sends;
        };
      }

  record TurnAlike (count : ℕ) (name : List ℕ) (from to : Running Serving) (coming : List Connection) : Type 0 where
    next : WireState
    later : List Connection
    there : to.outside.wire.tells ≡ Some next
    are : AreInPlaces InPlace count next.to_accept later
    turn : MakesTurn (turning other_asks name) (moved coming from) (moved later to)

  turn_alike : (count : ℕ) (name : List ℕ) (from to : Running Serving) (wire : WireState) (coming : List Connection)
      → from.outside.wire.tells ≡ Some wire → AreInPlaces InPlace (suc count) wire.to_accept coming
      → MakesTurn (turning asks name) from to → TurnAlike count name from to coming
  turn_alike count name from to wire coming told are turn =
      let one = told_on (λ old new. Accepts old new (Ok (tt {0}))) from.outside.wire.tells turn.wire.tells wire told turn.accepts.does in
      let a = accepts_alike asks other_asks InPlace swaps count wire one.0 wire.to_accept coming are one.2.1 in
      let s = served_alike name (end_at (given turn.moment from.state) turn.wire) (end_at to.state to.outside.wire) one.0
      a.first a.second a.later a.place one.1 a.there turn.answers in
      let there = placed (fresh a.second) a.later one.0 in
      record {
        next = s.next;
        later = a.later;
        there = s.there;
        are = subst (λ list. AreInPlaces InPlace count list a.later) (sym s.keeps) a.rest;
        turn = record {
          wire = told_by (Some there) turn.wire.faults;
          moment = turn.moment;
          accepts = record {
            does = subst (λ tells. WhereTold (swapped coming tells) (Some there) (λ old new. Accepts old new (Ok (tt {0})))) (sym told)
                (one.2.0, a.takes);
            cause = turn.accepts.cause;
          };
          tells = turn.tells;
          answers = s.serves;
          keeper = turn.keeper;
        };
      }

  -- ---- all turns

  pub record TurnsAlike (made count : ℕ) (name : List ℕ) (from to : Running Serving) (coming : List Connection) : Type 0 where
    pub next : WireState
    pub later : List Connection
    pub there : to.outside.wire.tells ≡ Some next
    pub are : AreInPlaces InPlace count next.to_accept later
    pub turns : MakesTurns (turning other_asks name) made (moved coming from) (moved later to)

  pub turns_alike : (made count : ℕ) (name : List ℕ) (from to : Running Serving) (wire : WireState) (coming : List Connection)
      → from.outside.wire.tells ≡ Some wire → AreInPlaces InPlace (made + count) wire.to_accept coming
      → MakesTurns (turning asks name) made from to → TurnsAlike made count name from to coming
  unfolding Turns
  turns_alike zero count name from to wire coming told are same =
      let none : 0 + count ≡ count = omega arith in
      record {
        next = wire;
        later = coming;
        there = ap (λ (r : Running Serving). r.outside.wire.tells) same ∙ told;
        are = subst (λ n. AreInPlaces InPlace n wire.to_accept coming) none are;
        turns = ap (moved coming) same;
      }
  turns_alike (suc made) count name from to wire coming told are turns =
      let more : suc made + count ≡ made + suc count = omega arith in
      let t = turns_alike made (suc count) name from turns.0 wire coming told
      (subst (λ n. AreInPlaces InPlace n wire.to_accept coming) more are) turns.1 in
      let one = turn_alike count name turns.0 to t.next t.later t.there t.are turns.2 in
      record {
        next = one.next;
        later = one.later;
        there = one.there;
        are = one.are;
        turns = (moved t.later turns.0, t.turns, one.turn);
      }

  -- ---- a turn that ended the run

  pub record FailsAlike (Fails : Outside → Type 0) (to : Outside) : Type 0 where
    pub last : Outside
    pub fails : Fails last
    pub alike : LeaveAlike to last

  module _ (count : ℕ) (name : List ℕ) (error : NetworkError) (from : Running Serving) (to : Outside) (wire : WireState)
      (coming : List Connection) (told : from.outside.wire.tells ≡ Some wire)
      (are : AreInPlaces InPlace (suc count) wire.to_accept coming) where
    abbrev Ends : Outside → Type 0
    Ends last = EndsAtTurn (turning other_asks name) error (moved coming from) last

    -- the wire failed to accept
    at_accept : FailsToAccept error from.outside to → FailsAlike Ends to
    at_accept fails =
        let failure = fails.accepts.failure in
        let one = told_on (λ old new. Accepts {T = Unit {0}} old new (Err failure)) from.outside.wire.tells to.wire.tells wire told
        fails.accepts.call.does in
        record {
          last = with_connections coming to;
          fails = inl (record {
            accepts = record {
              failure = failure;
              error_is = fails.accepts.error_is;
              call = record {
                does = told_back (λ old new. Accepts {T = Unit {0}} old new (Err failure)) coming coming from.outside.wire.tells
                    to.wire.tells wire one.0 told one.1
                    (not_accepted coming failure wire one.0 (none_coming count wire.to_accept coming are) one.2);
                cause = fails.accepts.call.cause;
              };
            };
            rest = ap (with_connections coming) fails.rest;
          });
          alike = left_alike coming to;
        }

    -- a connection was accepted, and the clock failed
    at_clock : FailsToTell error from.outside to → FailsAlike Ends to
    at_clock fails =
        let one = told_on (λ old new. Accepts old new (Ok (tt {0}))) from.outside.wire.tells to.wire.tells wire told fails.accepts.does in
        let a = accepts_alike asks other_asks InPlace swaps count wire one.0 wire.to_accept coming are one.2.1 in
        let there = placed (fresh a.second) a.later one.0 in
        record {
          last = record to { wire = told_by (Some there) to.wire.faults };
          fails = inr (inl (record {
            accepts = record {
              does = subst (λ tells. WhereTold (swapped coming tells) (Some there) (λ old new. Accepts old new (Ok (tt {0})))) (sym told)
                  (one.2.0, a.takes);
              cause = fails.accepts.cause;
            };
            tells = fails.tells;
            keeper = fails.keeper;
          }));
          alike = record {
            wire = told_alike to.wire.tells one.0 there one.1 (placed_alike one.0 (fresh a.first) (fresh a.second) a.later a.there refl);
            faults = refl;
            clock = refl;
            keeper = refl;
          };
        }

    -- there was no memory to answer it to its end
    at_answer : StopsAnswering given (StopsServing asks name) error from to → FailsAlike Ends to
    at_answer fails =
        let one = told_on (λ old new. Accepts old new (Ok (tt {0}))) from.outside.wire.tells fails.wire.tells wire told fails.accepts.does in
        let a = accepts_alike asks other_asks InPlace swaps count wire one.0 wire.to_accept coming are one.2.1 in
        let s = stops_alike asks other_asks InPlace swaps name (end_at (given fails.moment from.state) fails.wire) one.0 to.wire.tells
        a.first a.second a.later a.place one.1 a.there fails.stops.1 in
        let there = placed (fresh a.second) a.later one.0 in
        record {
          last = record to { wire = told_by s.last to.wire.faults };
          fails = inr (inr (inr (record {
            wire = told_by (Some there) fails.wire.faults;
            moment = fails.moment;
            accepts = record {
              does = subst (λ tells. WhereTold (swapped coming tells) (Some there) (λ old new. Accepts old new (Ok (tt {0})))) (sym told)
                  (one.2.0, a.takes);
              cause = fails.accepts.cause;
            };
            tells = fails.tells;
            stops = (fails.stops.0, s.stops);
            keeper = fails.keeper;
          })));
          alike = record { wire = s.alike; faults = refl; clock = refl; keeper = refl };
        }

    pub turn_fails_alike : EndsAtTurn (turning asks name) error from to → FailsAlike Ends to
    turn_fails_alike (inl fails) = at_accept fails
    turn_fails_alike (inr (inl fails)) = at_clock fails
    turn_fails_alike (inr (inr (inl fails))) = absurd fails.refuses
    turn_fails_alike (inr (inr (inr fails))) = at_answer fails

  pub turns_fail_alike : (count : ℕ) (name : List ℕ) (error : NetworkError) (from : Running Serving) (to : Outside)
      (wire : WireState) (coming : List Connection) → from.outside.wire.tells ≡ Some wire
      → AreInPlaces InPlace count wire.to_accept coming → EndsInTurns (turning asks name) count error from to
      → FailsAlike (EndsInTurns (turning other_asks name) count error (moved coming from)) to
  turns_fail_alike count name error from to wire coming told are fails =
      let more : ℕ = count - (fails.made + 1) in
      let all : count ≡ fails.made + suc more = omega (arith, fails.fewer) in
      let t = turns_alike fails.made (suc more) name from fails.last wire coming told
      (subst (λ n. AreInPlaces InPlace n wire.to_accept coming) all are) fails.turns in
      let one = turn_fails_alike more name error fails.last to t.next t.later t.there t.are fails.ends in
      record {
        last = one.last;
        fails = record {
          made = fails.made;
          fewer = fails.fewer;
          last = moved t.later fails.last;
          turns = t.turns;
          ends = one.fails;
        };
        alike = one.alike;
      }
