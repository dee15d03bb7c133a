use Rattle.std.proofs.Common.{◌≡◌, map, take}
use Rattle.httparse.specs.Borrowed.{header_parts}
use Rattle.siri_http.specs.Bodies.{values}
use Rattle.siri_http.specs.inner.Found.{count_of, values_of}
use Rattle.siri_http.proofs.fields.named.Given as goal

abbrev pub invariant-loop-header : goal.invariant-loop-header
invariant-loop-header l = values_of l.found ≡ count_of (values l.name (map header_parts (take l.header-index l.headers)))
