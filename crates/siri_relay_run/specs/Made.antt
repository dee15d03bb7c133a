-- Inner words: cited by private functions alone. What a part of a run does, with the relay as it is.
use Rattle.std.specs.Prelude.{◌≡◌, ◌⊎◌, ℕ, List, [], ◌∷◌, Option}
use Rattle.siri_outside.specs.Wires.{WireState}
use Rattle.siri_base.specs.declared.reason.ScriptReason.TheVariants as reason
use Rattle.siri_base.specs.declared.status.Status.{Status}
use Rattle.siri_base.specs.declared.status.Status.TheVariants as status
use Rattle.siri_lines.specs.Ends.{Bytes}
use Rattle.siri_messages.specs.declared.message.Message.{Message}
use Rattle.siri_relay.specs.Relaying.{KnownRelay}
use Rattle.siri_wire.specs.declared.wanted.Wanted.{Wanted}
use Rattle.siri_runs.specs.Calls.{Outside}
use Rattle.siri_runs.specs.consumers.Reading.{EndsReading, StopsAt, Wants}
use Rattle.siri_relay_run.specs.Opening.{Opens, begun, first_request}
use Rattle.siri_ends.specs.At.{At, Goes}
use Rattle.siri_relay_run.specs.Relays.{FirstGoings, Relaying, SendsGoings}
use Rattle.siri_relay_run.specs.Steps.{Stands, name_of}
use Rattle.siri_relay_run.specs.declared.going.Going.TheVariants as going

-- the lines of a source end a run: by one that isn't taken, or for want of any that wants something
abbrev pub EndsAtLines : (name : List ℕ) → (input left : Bytes) → Status → Type 0
EndsAtLines name input left end =
    (StopsAt 1 name input left end × EndsReading end)
    ⊎ ((end ≡ status.Script 1 reason.BadArgument) × Wants 1 name input [])

-- a relay that has asked, and its request
pub record Begins (name listen : List ℕ) (start moment : ℕ) (wanted : Wanted) (relay : KnownRelay) (request : Message) : Type 0 where
  pub stands : Stands relay (begun name listen start moment wanted)
  pub name_is : name_of relay ≡ name
  pub request_is : request ≡ first_request name listen start moment wanted

-- one that a run opened with
pub record OpensRelay (name listen : List ℕ) (input : Bytes) (relay : KnownRelay) (request : Message) (from to : Outside) : Type 0 where
  pub start : ℕ
  pub wanted : Wanted
  pub moment : ℕ
  pub opens : Opens name listen input start wanted moment from to
  pub begins : Begins name listen start moment wanted relay request

-- the request was sent, and what came of its response, whatever the relay stood for
abbrev pub SendsFirst : (host path : List ℕ) → Message → (old new : At KnownRelay) → Type 0
SendsFirst host path request old new = Goes name_of Stands (λ name. SendsGoings host path name (going.Up request ∷ [])) old new

-- where memory was wanting, the first of that
abbrev pub SendsFirstSome : (host path : List ℕ) → Message → KnownRelay → (before after : Option WireState) → Type 0
SendsFirstSome host path request relay before after =
    (state : Relaying) → Stands relay state → FirstGoings host path (name_of relay) (going.Up request ∷ []) state before after
