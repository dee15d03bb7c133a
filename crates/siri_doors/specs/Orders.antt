-- What the order of events over several slots decides.
use Rattle.siri_doors.specs.Decisions.{outcomes, refusals, slots, turns}
use Rattle.siri_doors.specs.Gathered.{Asking}
use Rattle.siri_doors.specs.declared.event.Event.{Event}
use Rattle.siri_doors.specs.declared.event.Event.TheVariants.{Opened, Came, Ended, Late}
use Rattle.std.specs.Prelude.{◌≡◌, ℕ, List, [], ◌∷◌, Bool, if◌then◌else◌, nat_eq}

-- whose event it is
abbrev pub slot_of : Event → ℕ
slot_of (Opened slot) = slot
slot_of (Came slot piece) = slot
slot_of (Ended slot) = slot
slot_of (Late slot) = slot

-- what happens in a slot, in order
abbrev pub events_in : ℕ → List Event → List Event
events_in slot [] = []
events_in slot (first ∷ later) = if nat_eq (slot_of first) slot then first ∷ events_in slot later else events_in slot later

-- the connections of a slot, in order
abbrev pub asking_in : ℕ → List Asking → List Asking
asking_in slot [] = []
asking_in slot (first ∷ later) = if nat_eq first.slot slot then first ∷ asking_in slot later else asking_in slot later

-- nobody is refused
abbrev pub HasRoom : (List ℕ → Bool) → List Event → Type 0
HasRoom whole events = refusals (outcomes whole [] events) ≡ []

-- The connections of each slot have the same bytes, and the slots have their turns in the same order.
pub record SameBytesAndOrder (whole : List ℕ → Bool) (one two : List Event) : Type 0 where
  pub bytes : (slot : ℕ) → asking_in slot (turns whole one) ≡ asking_in slot (turns whole two)
  pub order : slots (turns whole one) ≡ slots (turns whole two)

-- The same happens in each slot, however it is interleaved, and the slots have their turns in the same order; nobody is refused.
pub record SameBySlot (whole : List ℕ → Bool) (one two : List Event) : Type 0 where
  pub events : (slot : ℕ) → events_in slot one ≡ events_in slot two
  pub order : slots (turns whole one) ≡ slots (turns whole two)
  pub room_of_one : HasRoom whole one
  pub room_of_two : HasRoom whole two
