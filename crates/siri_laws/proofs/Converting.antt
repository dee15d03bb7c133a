-- Converting twice is converting once.
use Rattle.std.proofs.Common.{◌≡◌, ℕ, ◌≤◌, List, length, Result, Ok, Err, refl, ap}
use Rattle.siri_base.specs.declared.status.Status.TheVariants as status
use Rattle.siri_messages.specs.declared.message.Message.{Message}
use Rattle.siri_tables.specs.Refusals.{Refusal}
use Rattle.siri_wire.specs.Canonical.{canonical}
use Rattle.siri_wire.specs.Documents.{message_of}
use Rattle.siri_wire.proofs.ProperReadMessages.{converted_line_read}
use Rattle.siri_document.specs.OneDocument.{told_of, told_by, convert_text}
use Rattle.siri_json.specs.Tree.{longest_document}

converted_of : (document : List ℕ) (read : Result Message Refusal) → message_of document ≡ read
    → (told_of canonical read).status ≡ status.Done → length (told_of canonical read).text ≤ longest_document
    → told_of canonical (message_of (told_of canonical read).text) ≡ told_of canonical read
converted_of document (Ok m) read done few = ap (told_of canonical) (converted_line_read document m read few)
converted_of document (Err r) read done few = absurd cc

pub converted_twice : (document : List ℕ) → (convert_text document).status ≡ status.Done
    → length (convert_text document).text ≤ longest_document
    → convert_text (convert_text document).text ≡ convert_text document
unfolding told_by
converted_twice document done few = converted_of document (message_of document) refl done few
