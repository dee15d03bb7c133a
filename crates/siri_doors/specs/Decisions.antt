-- Which connections have their turns, in which order and with which bytes.
use Rattle.siri_doors.specs.Gathered.{Asking}
use Rattle.siri_doors.specs.declared.event.Event.{Event}
use Rattle.siri_doors.specs.declared.event.Event.TheVariants.{Opened, Came, Ended, Late}
use Rattle.siri_doors.specs.declared.outcome.Outcome.{Outcome}
use Rattle.siri_doors.specs.declared.outcome.Outcome.TheVariants.{Decides, Refuses, Waits}
use Rattle.std.specs.Prelude.{ℕ, ◌+◌, List, [], ◌∷◌, ◌++◌, length, map, Bool, true, false, if◌then◌else◌, nat_eq, nat_le, nat_lt}

-- ---- the connections that wait, in the order in which they came

-- whether one waits in a slot
abbrev pub waits_in : ℕ → List Asking → Bool
waits_in slot [] = false
waits_in slot (first ∷ later) = if nat_eq first.slot slot then true else waits_in slot later

-- the bytes that came by the one in a slot so far
abbrev pub bytes_in : ℕ → List Asking → List ℕ
bytes_in slot [] = []
bytes_in slot (first ∷ later) = if nat_eq first.slot slot then first.bytes else bytes_in slot later

-- the others
abbrev pub without : ℕ → List Asking → List Asking
without slot [] = []
without slot (first ∷ later) = if nat_eq first.slot slot then later else first ∷ without slot later

-- the one in a slot has these bytes
abbrev pub with_bytes : ℕ → List ℕ → List Asking → List Asking
with_bytes slot bytes [] = []
with_bytes slot bytes (first ∷ later) =
    if nat_eq first.slot slot then record { slot = slot; bytes = bytes } ∷ later else first ∷ with_bytes slot bytes later

-- how many bytes wait in all
abbrev pub held : List Asking → ℕ
held [] = 0
held (first ∷ later) = length first.bytes + held later

-- ---- what an event does

-- who waits after an event, and what it decides
pub record Step : Type 0 where
  pub waiting : List Asking
  pub outcome : Outcome

-- all wait as before
abbrev pub stays : List Asking → Step
stays waiting = record { waiting = waiting; outcome = Waits }

-- the connection in a slot is refused, where it waits and where it doesn't
abbrev pub refuses : ℕ → List Asking → Step
refuses slot waiting = record { waiting = without slot waiting; outcome = Refuses slot }

-- the connection in a slot has its turn, with these bytes
abbrev pub decides : ℕ → List ℕ → List Asking → Step
decides slot bytes waiting = record { waiting = without slot waiting; outcome = Decides (record { slot = slot; bytes = bytes }) }

-- the connection in a slot has these bytes, and its turn where they are whole
abbrev pub gathers : (List ℕ → Bool) → ℕ → List ℕ → List Asking → Step
gathers whole slot bytes waiting = if whole bytes then decides slot bytes waiting else stays (with_bytes slot bytes waiting)

-- Bytes come by the connection in a slot, unless more than 64 MiB would wait: then it is refused.
abbrev pub comes : (List ℕ → Bool) → ℕ → List ℕ → List Asking → Step
comes whole slot piece waiting =
    if nat_le (held waiting + length piece) 67108864 then gathers whole slot (bytes_in slot waiting ++ piece) waiting else refuses slot waiting

-- What happens to a connection that doesn't wait decides nothing.
abbrev pub where_it_waits : ℕ → List Asking → Step → Step
where_it_waits slot waiting happens = if waits_in slot waiting then happens else stays waiting

-- A connection opens: it waits where fewer than 256 do, and is refused else.
abbrev pub opens : ℕ → List Asking → Step
opens slot waiting =
    if nat_lt (length waiting) 256 then stays (waiting ++ record { slot = slot; bytes = [] } ∷ []) else record { waiting = waiting; outcome = Refuses slot }

-- What an event does. A connection waits from when it opens until its bytes are whole, it ends or its time is over: then it has its
-- turn with the bytes that came.
unfoldable pub step : (List ℕ → Bool) → List Asking → Event → Step
step whole waiting (Opened slot) = opens slot waiting
step whole waiting (Came slot piece) = where_it_waits slot waiting (comes whole slot piece waiting)
step whole waiting (Ended slot) = where_it_waits slot waiting (decides slot (bytes_in slot waiting) waiting)
step whole waiting (Late slot) = where_it_waits slot waiting (decides slot (bytes_in slot waiting) waiting)

-- ---- what all events do

-- what each event decides, in order
abbrev pub outcomes : (List ℕ → Bool) → List Asking → List Event → List Outcome
outcomes whole waiting [] = []
outcomes whole waiting (event ∷ later) = (step whole waiting event).outcome ∷ outcomes whole (step whole waiting event).waiting later

-- the connections that have their turns, in order
abbrev pub decided : List Outcome → List Asking
decided [] = []
decided (Waits ∷ later) = decided later
decided (Decides asking ∷ later) = asking ∷ decided later
decided (Refuses slot ∷ later) = decided later

-- the slots that are refused, in order
abbrev pub refusals : List Outcome → List ℕ
refusals [] = []
refusals (Waits ∷ later) = refusals later
refusals (Decides asking ∷ later) = refusals later
refusals (Refuses slot ∷ later) = slot ∷ refusals later

-- the connections that have their turns by these events, in order
abbrev pub turns : (List ℕ → Bool) → List Event → List Asking
turns whole events = decided (outcomes whole [] events)

-- their slots
abbrev pub slots : List Asking → List ℕ
slots list = map (λ asking. asking.slot) list
