use Rattle.std.proofs.Common.{refl, length}
use Rattle.std.proofs.lemmas.Str.{is_utf8-from_IsUtf8}
use Rattle.siri_replay.proofs.Texts.{name_bounds}
use Rattle.siri_document.proofs.Texts.{not_utf8}
use Rattle.siri_replay.proofs.arguments.name_of.Goals as goal

pub returns-in_default : goal.returns-in_default
returns-in_default c = rw (not_utf8 c.args.text.now c.in_default.ensures.cases.0) refl

pub returns-in-Ok-new : goal.returns-in-Ok-new
returns-in-Ok-new c =
    let same = c.in-Ok.ensures.cases.0 in
    let made = c.in-Ok-new.ensures in
    let bounds = rw same at (name_bounds (length c.in-Ok.text.now) (λ e. cc (made.empty.1 e)) (λ e. cc (made.too_long.1 e))) in
    rw (is_utf8-from_IsUtf8 c.args.text.now c.in-Ok.ensures.cases.1, bounds, made.ok, same) refl
