-- A run of `relay`, as its parts make it.
use Rattle.std.proofs.Common.{◌≡◌, ℕ, List, [], ◌∷◌, ◌++◌, Option, refl, sym, ap, ◌∙◌, subst, inl, inr}
use Rattle.siri_outside.specs.OutsideCalls.{ClockState, KeeperState}
use Rattle.siri_outside.specs.Wires.{WireState}
use Rattle.siri_base.specs.declared.status.Status.TheVariants as status
use Rattle.siri_http.specs.declared.tally.Tally.{Tally}
use Rattle.siri_http.specs.Tallies.{nothing_yet}
use Rattle.siri_ends.specs.At.{at_of}
use Rattle.siri_ends.specs.InTurn.{FirstInTurn}
use Rattle.siri_lines.specs.Ends.{Bytes}
use Rattle.siri_messages.specs.declared.message.Message.{Message}
use Rattle.siri_relay.specs.Relaying.{KnownRelay, UpperSide}
use Rattle.siri_wire.specs.declared.wanted.Wanted.{Wanted}
use Rattle.siri_runs.specs.Calls.{Outside, Told, outside_of}
use Rattle.siri_runs.specs.Run.{Completes, EndsBefore, MakesTurns}
use Rattle.siri_runs.specs.Summaries.{summary_text}
use Rattle.siri_runs.specs.Turns.{running}
use Rattle.siri_runs.specs.consumers.Views.{views_text}
use Rattle.siri_relay_run.specs.Made.{OpensRelay, SendsFirst, SendsFirstSome}
use Rattle.siri_relay_run.specs.Opening.{begun}
use Rattle.siri_relay_run.specs.Passing.{RelayAsks, Passing, turning}
use Rattle.siri_relay_run.specs.Relays.{FirstGoings, Relaying, SendsGoings, none_posted_going}
use Rattle.siri_relay_run.specs.Runs.{BeginsRelaying, end_text, first_sent, parties_of, relay_procedure}
use Rattle.siri_relay_run.specs.Steps.{Stands, name_of}
use Rattle.siri_relay_run.specs.declared.going.Going.{Going}
use Rattle.siri_relay_run.specs.declared.going.Going.TheVariants as going

-- ---- what was asked

-- its request was sent: what it stands for then, and that this is what the run does
pub record HasAsked (name listen : List ℕ) (target : List ℕ × List ℕ) (start moment : ℕ) (wanted : Wanted) (open_ : Outside)
    (relay : KnownRelay) (tally : Tally) (to : Outside) : Type 0 where
  pub state : Relaying
  pub stands : Stands relay state
  pub name_is : name_of relay ≡ name
  pub asks : RelayAsks (parties_of name target) (first_sent name listen start moment wanted) (begun name listen start moment wanted) open_
      (running (record { relay = state; tally = tally }) to)

asked_all : (name listen : List ℕ) (target : List ℕ × List ℕ) (input : Bytes) (begins later : KnownRelay) (request : Message)
    (none tally : Tally) (from : Outside) (wire after : Told WireState) (clock : Told ClockState) (keeper : Told KeeperState)
    → none ≡ nothing_yet → (opens : OpensRelay name listen input begins request from (outside_of wire clock keeper))
    → SendsFirst target.0 target.1 request (at_of begins none wire.tells wire.faults) (at_of later tally after.tells after.faults)
    → HasAsked name listen target opens.start opens.moment opens.wanted (outside_of wire clock keeper) later tally (outside_of after clock keeper)
asked_all name listen target input begins later request none tally from wire after clock keeper nothing opens sends =
    let begun_is = opens.begins in
    let state = begun name listen opens.start opens.moment opens.wanted in
    let one = sends.goes state begun_is.stands in
    let end = at_of one.0 tally after.tells after.faults in
    record {
      state = one.0;
      stands = one.1;
      name_is = sends.keeps ∙ begun_is.name_is;
      asks = record {
        sends = subst (λ (t : Tally). SendsGoings target.0 target.1 name (first_sent name listen opens.start opens.moment opens.wanted)
            (at_of state t wire.tells wire.faults) end) nothing
            (subst (λ (m : Message). SendsGoings target.0 target.1 name (going.Up m ∷ []) (at_of state none wire.tells wire.faults) end) begun_is.request_is
            (subst (λ (n : List ℕ). SendsGoings target.0 target.1 n (going.Up request ∷ []) (at_of state none wire.tells wire.faults) end) begun_is.name_is one.2));
        rest = refl;
      };
    }

-- where memory was wanting before the request was sent
first_none : (host path name : List ℕ) (message : Going) (state : Relaying) (wire : Option WireState)
    → FirstGoings host path name (message ∷ []) state wire wire
unfolding FirstInTurn
first_none host path name message state wire = inl (none_posted_going host path message wire)

pub asked_nothing : (host path : List ℕ) (request : Message) (relay : KnownRelay) (wire : Option WireState)
    → SendsFirstSome host path request relay wire wire
asked_nothing host path request relay wire state so = first_none host path (name_of relay) (going.Up request) state wire

-- there was no memory to ask
pub ask_stopped : (name listen : List ℕ) (target : List ℕ × List ℕ) (count : ℕ) (input left : Bytes) (begins : KnownRelay) (request : Message)
    (from : Outside) (wire after : Told WireState) (clock : Told ClockState) (keeper : Told KeeperState)
    → OpensRelay name listen input begins request from (outside_of wire clock keeper)
    → SendsFirstSome target.0 target.1 request begins wire.tells after.tells
    → EndsBefore (relay_procedure name listen target input left) count status.OutOfMemory from (outside_of after clock keeper)
ask_stopped name listen target count input left begins request from wire after clock keeper opens some =
    let begun_is = opens.begins in
    let state = begun name listen opens.start opens.moment opens.wanted in
    inl (inr (record {
      end_is = refl;
      start = opens.start;
      wanted = opens.wanted;
      moment = opens.moment;
      open_ = outside_of wire clock keeper;
      opens = opens.opens;
      asks = record {
        sends = subst (λ (m : Message). FirstGoings target.0 target.1 name (going.Up m ∷ []) state wire.tells after.tells) begun_is.request_is
            (subst (λ (n : List ℕ). FirstGoings target.0 target.1 n (going.Up request ∷ []) state wire.tells after.tells) begun_is.name_is
            (some state begun_is.stands));
        rest = refl;
      };
    }))

-- ---- its turns

-- what a run has of a relay
abbrev pub relay_of : Passing → Relaying
relay_of state = state.relay

abbrev pub tally_of : Passing → Tally
tally_of state = state.tally

abbrev pub counting : Relaying → Tally → Passing
counting relay tally = record { relay = relay; tally = tally }

-- the text of what it stands for is that of what it is
text_of : (relay : KnownRelay) (tally : Tally) (end : Passing) → Stands relay end.relay → tally ≡ end.tally
    → views_text relay.consumer ++ summary_text tally ≡ end_text end
text_of relay tally end stands same =
    ap (λ (u : UpperSide). views_text u.consumer ++ summary_text tally) (sym stands.upper)
    ∙ ap (λ (t : Tally). views_text end.relay.upper.consumer ++ summary_text t) same

-- it opened and asked
module _ (name listen : List ℕ) (target : List ℕ × List ℕ) (count : ℕ) (input left : Bytes) (begins : KnownRelay) (request : Message)
    (none : Tally) (relay : KnownRelay) (tally : Tally) (from : Outside) (wire after : Told WireState)
    (clock : Told ClockState) (keeper : Told KeeperState) (nothing : none ≡ nothing_yet)
    (opens : OpensRelay name listen input begins request from (outside_of wire clock keeper))
    (sends : SendsFirst target.0 target.1 request (at_of begins none wire.tells wire.faults) (at_of relay tally after.tells after.faults)) where
  pub asked : HasAsked name listen target opens.start opens.moment opens.wanted (outside_of wire clock keeper) relay tally
      (outside_of after clock keeper)
  asked = asked_all name listen target input begins relay request none tally from wire after clock keeper nothing opens sends

  -- what it stands for then
  abbrev pub asked_state : Passing
  asked_state = counting asked.state tally

  pub begun_so : BeginsRelaying name listen target input from (running asked_state (outside_of after clock keeper))
  begun_so = record {
    start = opens.start;
    wanted = opens.wanted;
    moment = opens.moment;
    open_ = outside_of wire clock keeper;
    opens = opens.opens;
    asks = asked.asks;
  }

  -- every connection was answered
  pub all_passed : (last : KnownRelay) (counted : Tally) (to : Outside)
      → (end : Passing) × (Stands last end.relay × (counted ≡ end.tally))
      × MakesTurns (turning (parties_of name target)) count (running asked_state (outside_of after clock keeper)) (running end to)
      → Completes (relay_procedure name listen target input left) count (views_text last.consumer ++ summary_text counted) from to
  all_passed last counted to one = record {
    first = running asked_state (outside_of after clock keeper);
    opens = begun_so;
    end = one.0;
    turns = one.2;
    leaves = tt;
    text_is = text_of last counted one.0 one.1.0 one.1.1;
  }
