-- Two ends that are joined by connections, each in its own runs (EN 15531-2 for what is said, RFC 9112 for how): which connection of one is
-- which of the other, in which order both did what their logs tell, and what anybody else may bring.
use Rattle.std.specs.Prelude.{◌≡◌, ⊤, ℕ, suc, Bool, true, false, ◌==◌, ◌&&◌, not, List, [], ◌∷◌, ◌++◌, map, Option, None, Some}
use Rattle.std.specs.Prelude.{option_map, option_and_then, slice_get, if◌then◌else◌}
use Rattle.std.specs.List.{AllByRecursion, list_any}
use Rattle.siri_outside.specs.Wires.{Connection, Over}
use Rattle.siri_topic.specs.Agreement.{same_name}
use Rattle.siri_change.specs.Parts.{Carried}
use Rattle.siri_messages.specs.Asked.{AskedFor}
use Rattle.siri_messages.specs.declared.message.Message.{Message}
use Rattle.siri_life.specs.Life.{Packet, Supply}
use Rattle.siri_life.specs.Named.{Name}
use Rattle.siri_life.specs.Serving as serving
use Rattle.siri_life.specs.Serving.{Act}
use Rattle.siri_model.specs.History.{Entry}
use Rattle.siri_model.specs.Lives.{acts_in}
use Rattle.siri_view.specs.Hearing.{Delivered, Heard, heard}
use Rattle.siri_laws.specs.two_ends.Logs.{Accepted, Dialled, Done, Said, Took}
use Rattle.siri_laws.specs.two_ends.Truth.{BeginsWith}

-- ---- an end in its runs

-- a run of an end: what it did, and the connections that were over after it, in the order in which they came
pub record Ran : Type 0 where
  pub log : List Done
  pub over : List Over

-- a connection of an end: in which of its runs, from 0, and in which place of that, from 0
abbrev pub Place : Type 0
Place = ℕ × ℕ

abbrev pub same_place : Place → Place → Bool
same_place p q = p.0 == q.0 && p.1 == q.1

-- what it did in its runs, the first of this number, each thing with the number of its run
abbrev pub did_from : (run : ℕ) → List Ran → List (ℕ × Done)
did_from run [] = []
did_from run (first ∷ later) = map (λ done. (run, done)) first.log ++ did_from (suc run) later

abbrev pub did : List Ran → List (ℕ × Done)
did runs = did_from 0 runs

-- what was written to one of its connections
abbrev pub written_to : List Ran → Place → Option (List ℕ)
written_to runs place = option_and_then (λ run. option_map (λ over. over.written) (slice_get run.over place.1)) (slice_get runs place.0)

-- ---- which connection of one is which of the other

-- the two ends
pub data End : Type 0 where
  Producer : End
  Consumer : End

-- a connection between them, which one dialled and the other accepted: where it is among the producer's, and among the consumer's
pub record Pair : Type 0 where
  pub at_producer : Place
  pub at_consumer : Place

abbrev pub place_at : End → Pair → Place
place_at Producer pair = pair.at_producer
place_at Consumer pair = pair.at_consumer

abbrev pub other : End → End
other Producer = Consumer
other Consumer = Producer

-- the place at the other end of a connection of this one; none where it isn't between the two
abbrev pub partner : End → Place → List Pair → Option Place
partner end place [] = None
partner end place (pair ∷ pairs) = if same_place place (place_at end pair) then Some (place_at (other end) pair) else partner end place pairs

-- no connection of this end stands in two pairs
abbrev pub stand_once : End → List Pair → Bool
stand_once end [] = true
stand_once end (pair ∷ pairs) = not (list_any (λ more. same_place (place_at end pair) (place_at end more)) pairs) && stand_once end pairs

-- both ends, in their runs
pub record Ends : Type 0 where
  pub producer : List Ran
  pub consumer : List Ran

abbrev pub runs_of : End → Ends → List Ran
runs_of Producer ends = ends.producer
runs_of Consumer ends = ends.consumer

-- what a connection brings is a front of what was written to it at the other end; nothing is said of one that isn't between the two
abbrev pub BringsFront : (others : List Ran) → Option Place → Connection → Type 0
BringsFront others None connection = ⊤
BringsFront others (Some place) connection =
    (text : List ℕ) × (written_to others place ≡ Some text) × BeginsWith text connection.input

abbrev pub BringsWritten : End → Ends → List Pair → ℕ × Done → Type 0
BringsWritten end ends pairs (run, Accepted by connection) = BringsFront (runs_of (other end) ends) (partner end (run, by) pairs) connection
BringsWritten end ends pairs (run, Dialled by connection) = BringsFront (runs_of (other end) ends) (partner end (run, by) pairs) connection
BringsWritten end ends pairs (run, done) = ⊤

abbrev pub AllBringWritten : End → Ends → List Pair → Type 0
AllBringWritten end ends pairs = AllByRecursion (BringsWritten end ends pairs) (did (runs_of end ends))

-- The connections between the two ends fit these pairs, as TCP has it: each brings to one end a front of what the other wrote to it.
pub record Fits (ends : Ends) (pairs : List Pair) : Type 0 where
  pub producers_once : stand_once Producer pairs ≡ true
  pub consumers_once : stand_once Consumer pairs ≡ true
  pub to_producer : AllBringWritten Producer ends pairs
  pub to_consumer : AllBringWritten Consumer ends pairs

-- ---- in which order both did what they did

-- a thing that one of them did, in one of its runs
pub record Deed : Type 0 where
  pub end : End
  pub run : ℕ
  pub done : Done

abbrev pub is_of : End → End → Bool
is_of Producer Producer = true
is_of Producer Consumer = false
is_of Consumer Producer = false
is_of Consumer Consumer = true

-- what this end did, of an order
abbrev pub deeds_of : End → List Deed → List (ℕ × Done)
deeds_of end [] = []
deeds_of end (deed ∷ deeds) = if is_of end deed.end then (deed.run, deed.done) ∷ deeds_of end deeds else deeds_of end deeds

-- a thing that was done says something to this place
abbrev pub says_to : Place → ℕ → Done → Bool
says_to place run (Said by message) = same_place place (run, by)
says_to place run done = false

-- this end said something to this place
abbrev pub has_said : End → Place → List Deed → Bool
has_said end place deeds = list_any (λ deed. is_of end deed.end && says_to place deed.run deed.done) deeds

-- what was taken by a connection between the two stands behind what was said to it at the other end
abbrev pub IsBehind : End → Option Place → (before : List Deed) → Type 0
IsBehind end None before = ⊤
IsBehind end (Some place) before = has_said (other end) place before ≡ true

abbrev pub DoneBehind : List Pair → (before : List Deed) → End → ℕ → Done → Type 0
DoneBehind pairs before end run (Took by message) = IsBehind end (partner end (run, by) pairs) before
DoneBehind pairs before end run done = ⊤

-- each of these deeds, after those
abbrev pub AreBehind : List Pair → (before deeds : List Deed) → Type 0
AreBehind pairs before [] = ⊤
AreBehind pairs before (deed ∷ deeds) =
    DoneBehind pairs before deed.end deed.run deed.done × AreBehind pairs (before ++ deed ∷ []) deeds

-- An order of all that both did: each did its things in the order of its logs, and nothing is taken between the two before it is said.
pub record Order (ends : Ends) (pairs : List Pair) (deeds : List Deed) : Type 0 where
  pub producer : deeds_of Producer deeds ≡ did ends.producer
  pub consumer : deeds_of Consumer deeds ≡ did ends.consumer
  pub behind : AreBehind pairs [] deeds

-- ---- what anybody else may bring

abbrev pub IsSupply : Packet Carried AskedFor → Type 0
IsSupply (Supply mark) = ⊤
IsSupply packet = ⊥

abbrev pub IsIf : Bool → Type 0 → Type 0
IsIf true P = P
IsIf false P = ⊤

-- in the name of a consumer, a request for a part
abbrev pub IsStrangeAct : (name : Name) → Act Carried AskedFor Entry → Type 0
IsStrangeAct name (serving.Heard subscriber identifier packet) = IsIf (same_name subscriber name) (IsSupply packet)
IsStrangeAct name act = ⊤

-- To a producer anybody may bring feeds, requests for items, for the status and for parts, and whatever is in other names. But nobody asks
-- for a subscription, ends one, asks for all of one or acknowledges a part in this name.
abbrev pub IsStrangeToProducer : (name : Name) → Message → Type 0
IsStrangeToProducer name message = AllByRecursion (IsStrangeAct name) (acts_in message)

abbrev pub IsStrangeHeard : (name : Name) → Heard → Type 0
IsStrangeHeard name (Delivered subscriber identifier mark more carried) = same_name subscriber name ≡ false
IsStrangeHeard name other = ⊤

-- To a consumer anybody may bring notifications of any part, and whatever is in other names. But nobody delivers a part in its name.
abbrev pub IsStrangeToConsumer : (name : Name) → Message → Type 0
IsStrangeToConsumer name message = IsStrangeHeard name (heard message)

abbrev pub IsStrange : End → (name : Name) → Message → Type 0
IsStrange Producer name message = IsStrangeToProducer name message
IsStrange Consumer name message = IsStrangeToConsumer name message

abbrev pub IsStrangeFrom : End → (name : Name) → Option Place → Message → Type 0
IsStrangeFrom end name None message = IsStrange end name message
IsStrangeFrom end name (Some place) message = ⊤

abbrev pub TookStrange : End → (name : Name) → List Pair → ℕ × Done → Type 0
TookStrange end name pairs (run, Took by message) = IsStrangeFrom end name (partner end (run, by) pairs) message
TookStrange end name pairs (run, done) = ⊤

-- what an end took by connections that aren't between the two is of that kind, for a consumer of this name
abbrev pub TakesStrange : End → (name : Name) → Ends → List Pair → Type 0
TakesStrange end name ends pairs = AllByRecursion (TookStrange end name pairs) (did (runs_of end ends))
