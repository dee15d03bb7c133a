-- What is read of a document is proper.
use Rattle.std.proofs.Common.{◌≡◌, ℕ, List, Ok}
use Rattle.siri_messages.specs.declared.message.Message.{Message}
use Rattle.siri_wire.specs.Documents.{message_of}
use Rattle.siri_wire.specs.laws.ProperMessages.{IsProper}
use Rattle.siri_wire.proofs.ProperReadMessages.{document_proper}

pub read_proper : (text : List ℕ) (m : Message) → message_of text ≡ Ok m → IsProper m
read_proper = document_proper
