-- A run of `get`.
use Rattle.std.proofs.Common.{◌≡◌, ℕ, List, None, Some, Option, Result, Ok, Err, refl, ap, subst, inl, inr}
use Rattle.std.specs.Io.KnownBytes.{IsAtEnd}
use Rattle.siri_outside.specs.Wires.{WireState}
use Rattle.siri_base.specs.declared.status.Status.{Status}
use Rattle.siri_base.specs.declared.status.Status.TheVariants as status
use Rattle.siri_messages.specs.declared.message.Message.{Message}
use Rattle.siri_tables.specs.Refusals.{Refusal}
use Rattle.siri_wire.specs.Documents.{message_of}
use Rattle.siri_lines.specs.Ends.{Bytes, ReadsAll}
use Rattle.siri_lines.specs.RunResult.{RunResult}
use Rattle.siri_document.specs.OneDocument.{IsDocument, Tells}
use Rattle.siri_document.proofs.OneDocument.{message_same, input_read, read_whole, reads_all}
use Rattle.siri_get.specs.Plans.{plan_of}
use Rattle.siri_get.specs.Exchanges.{Heard, ComesOfPlan}
use Rattle.siri_get.specs.Runs.{EndsBy, GetRun}

-- nothing was read
pub none_read : (host : List ℕ) (input left : Bytes) (before : Option WireState) (old : Bytes)
    → GetRun host input left before before old old status.ReadFault
none_read host None left before old = tt
none_read host (Some input) left before old = inl (record { cut = inl refl; unasked = refl; unwritten = refl })

pub none_held : (host : List ℕ) (input left : Bytes) (before : Option WireState) (old : Bytes)
    → GetRun host input left before before old old status.OutOfMemory
none_held host None left before old = tt
none_held host (Some input) left before old = inl (record { cut = inr refl; unasked = refl; unwritten = refl })

-- a document was read, and what it comes to was asked
pub was_read : (host : List ℕ) (input left : Bytes) (before after : Option WireState) (old new : Bytes)
    (document : List ℕ) (outcome : Option Heard) (end : Status) → IsDocument input left document
    → ComesOfPlan host (plan_of (message_of document)) before after outcome → EndsBy outcome old new end
    → GetRun host input left before after old new end
was_read host None left before after old new document outcome end d a e = tt
was_read host (Some input) None before after old new document outcome end d a e = absurd d.taken
was_read host (Some input) (Some later) before after old new document outcome end d a e = inr (record {
  outcome = outcome;
  asks = subst (λ m. ComesOfPlan host (plan_of m) before after outcome) (message_same input later document d.taken d.bound d.whole) a;
  ends = e;
  read = ap Some (input_read 8388609 input later document d.taken d.bound d.whole);
})

-- what is told of a document that isn't refused was asked
is_message : (host : List ℕ) (r : Result Message Refusal) (before after : Option WireState) (told : RunResult)
    → ComesOfPlan host (plan_of r) before after (Some (Some told)) → told.status ≡ status.Done → (m : Message) × (r ≡ Ok m)
is_message host (Ok m) before after told a e = (m, refl)
is_message host (Err refusal) before after told a e = absurd (cc (a.0, e))

-- a run that did its work read the input to its end
pub all_read : (host : List ℕ) (input left : Bytes) (before after : Option WireState) (old new : Bytes)
    (document : List ℕ) (told : RunResult) (end : Status) → IsDocument input left document
    → ComesOfPlan host (plan_of (message_of document)) before after (Some (Some told)) → Tells old told new end
    → ReadsAll left end
all_read host input left before after old new document told end d a t =
    reads_all left end (λ h. at_end (subst (Tells old told new) h t))
  where
    at_end : Tells old told new status.Done → IsAtEnd left
    at_end ends =
        let m = is_message host (message_of document) before after told a ends.status_is in
        read_whole m.0 input left document d m.1
