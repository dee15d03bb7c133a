use Rattle.std.proofs.lemmas.Str.{IsUtf8-from_ascii}
use Rattle.siri_queries.proofs.target.span_pair.Goals as goal

pub unreachable-requires : goal.unreachable-requires
unreachable-requires c = c.in-Err.ensures.cases.0 (rw c.write_span-length.ensures.text (IsUtf8-from_ascii _ c.written_span_is_ascii.ensures))
