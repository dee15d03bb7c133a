use Rattle.std.proofs.Common.{refl, sym}
use Rattle.std.proofs.lemmas.Str.{is_utf8-from_IsUtf8}
use Rattle.siri_document.proofs.Texts.{not_utf8}
use Rattle.siri_replay.proofs.arguments.number_in.Goals as goal

pub returns-in_default-from_utf8 : goal.returns-in_default-from_utf8
returns-in_default-from_utf8 c = rw (c.in-Some.is, not_utf8 c.in-Some.text.now c.in_default-from_utf8.ensures.cases.0) refl

pub returns-in-Some-number_of : goal.returns-in-Some-number_of
returns-in-Some-number_of c =
    let read = rw c.in-Ok.ensures.cases.0 at c.in-Some-number_of.ensures in
    rw (c.in-Some.is, is_utf8-from_IsUtf8 c.in-Some.text.now c.in-Ok.ensures.cases.1, sym read) refl
