-- Documents from their bytes on.
use Rattle.std.proofs.Common.{◌≡◌, ℕ, ◌<◌, true, nat_lt, List, [], length, Err, refl}
use Rattle.std.proofs.lemmas.Bool.{lt-ltb}
use Rattle.siri_base.specs.declared.reason.Reason.TheVariants.{TooLong}
use Rattle.siri_wire.specs.Documents.{message_of}
use Rattle.siri_json.specs.Tree.{longest_document}

-- a document above the bound is refused for it, at its root
pub document_too_long : (bytes : List ℕ) → longest_document < length bytes → message_of bytes ≡ Err (record { path = []; reason = TooLong })
unfolding message_of
document_too_long bytes long =
    let above : nat_lt longest_document (length bytes) ≡ true = lt-ltb _ _ long in
    rw above refl
