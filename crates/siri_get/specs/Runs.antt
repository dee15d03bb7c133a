-- A run of `get`: what it writes, what it does with the wire, and how it ends.
use Rattle.std.specs.Prelude.{◌≡◌, ◌⊎◌, ⊤, ℕ, List, drop, Option, None, Some}
use Rattle.siri_outside.specs.Wires.{WireState}
use Rattle.siri_base.specs.declared.status.Status.{Status}
use Rattle.siri_base.specs.declared.status.Status.TheVariants as status
use Rattle.siri_wire.specs.Documents.{message_of}
use Rattle.siri_lines.specs.Ends.{Bytes}
use Rattle.siri_document.specs.OneDocument.{Tells}
use Rattle.siri_get.specs.Plans.{plan_of}
use Rattle.siri_get.specs.Exchanges.{Heard, ComesOfPlan}

-- how a run ends by what it heard: what is told is written, or a front of it where the run was cut off
abbrev pub EndsBy : Option Heard → Bytes → Bytes → Status → Type 0
EndsBy None old new end = (end ≡ status.OutOfMemory) × (new ≡ old)
EndsBy (Some None) old new end = (end ≡ status.WireFault) × (new ≡ old)
EndsBy (Some (Some told)) old new end = Tells old told new end

-- the source couldn't be read, or there was no memory for that; nothing is asked and nothing is written
pub record ReadsNone (before after : Option WireState) (old new : Bytes) (end : Status) : Type 0 where
  pub cut : (end ≡ status.ReadFault) ⊎ (end ≡ status.OutOfMemory)
  pub unasked : after ≡ before
  pub unwritten : new ≡ old

-- the input was read to its end, but no further than its byte 8,388,609; what it comes to was asked, and what was heard is told
pub record AsksInput (host input : List ℕ) (left : Bytes) (before after : Option WireState) (old new : Bytes) (end : Status) : Type 0 where
  pub outcome : Option Heard
  pub asks : ComesOfPlan host (plan_of (message_of input)) before after outcome
  pub ends : EndsBy outcome old new end
  pub read : left ≡ Some (drop 8388609 input)

-- a run, where the source tells its bytes
abbrev pub GetRun : (host : List ℕ) (input left : Bytes) (before after : Option WireState) (old new : Bytes) → Status → Type 0
GetRun host None left before after old new end = ⊤
GetRun host (Some input) left before after old new end =
    ReadsNone before after old new end ⊎ AsksInput host input left before after old new end

-- the statuses that it may end with
abbrev pub EndsGet : Status → Type 0
EndsGet status.Done = ⊤
EndsGet status.Refused = ⊤
EndsGet status.ReadFault = ⊤
EndsGet status.WireFault = ⊤
EndsGet status.OutOfMemory = ⊤
EndsGet status.WriteFault = ⊤
EndsGet other = ⊥
