use Rattle.std.proofs.Common.{codes}
use Rattle.siri_base.specs.Words.{reason_name}
use Rattle.siri_base.proofs.Pieces.{four_pieces}
use Rattle.siri_base.proofs.reason.append_refusal.Goals as goal

pub returns-clause-ok : goal.returns-clause-ok
returns-clause-ok c =
    rw (
      c.in_ok-append-4.ensures.ok,
      c.in_ok-append-3.ensures.ok,
      c.in_ok-append-2.ensures.ok,
      c.in_ok-append.ensures.ok,
      c.as_bytes.ensures.value,
      c.name.ensures,
    )
    (four_pieces c.args.into.now.items (codes "BadDocument ") c.args.path.now (codes ": ") (reason_name c.args.reason))
