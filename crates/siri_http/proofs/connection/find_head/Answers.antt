use Rattle.std.proofs.Common.{◌≡◌, ◌<◌, ◌∙◌, [], None, ap, sym, append-nil, arith, length, length-take-le, take}
use Rattle.std.proofs.lemmas.Result.{err_from_is_err_and}
use Rattle.siri_http.specs.inner.Scanning.{head_from, fresh}
use Rattle.siri_http.proofs.Connections.{took_more}
use Rattle.siri_http.proofs.Fronts.{stops_before_head, head_too_long, head_found, scan_len, scan_took, scan_same}
use Rattle.siri_http.proofs.connection.find_head.Goals as goal

pub returns-in_err-count-clause-end : goal.returns-in_err-count-clause-end
returns-in_err-count-clause-end g c =
    let p = err_from_is_err_and c.from_residual.result c.from_residual.ensures.1 in
    let came = take c.loop-scan.scan.len c.loop-scan.buffer in
    let fewer : length came < 16384 = omega (
      arith,
      length-take-le c.loop-scan.scan.len c.loop-scan.buffer
          (omega (arith, c.loop-scan.invariant.room, c.loop-scan.invariant.within)),
      c.loop-scan-test.true,
    ) in
    let none : head_from fresh came ≡ None = ap (head_from fresh) (sym (append-nil came)) ∙ c.loop-scan.invariant.same [] in
    rw (p.1, p.2) (stops_before_head came _ _ _ _ c.loop-scan.invariant.took c.in_err-count.ensures.end fewer none)

pub returns-in-Some-clause-bytes : goal.returns-in-Some-clause-bytes
returns-in-Some-clause-bytes g c =
    took_more _ _ _ c.loop-scan.scan.len c.in_ok-count.field-0 c.loop-scan.buffer c.read_some.new.buffer
    c.read_some.ensures.kept c.loop-scan.invariant.took c.in_ok-count.ensures.bytes

pub returns-in-Some-clause-head : goal.returns-in-Some-clause-head
returns-in-Some-clause-head g c =
    head_found c.loop-scan.scan.len c.in_ok-count.field-0 c.loop-scan.buffer c.read_some.new.buffer c.loop-scan.scan
    c.in-Some.head c.read_some.ensures.kept c.in_ok-count.ensures.bound
    (c.read_some.ensures.length ∙ c.loop-scan.invariant.room) c.loop-scan.invariant.same c.in-Some.ensures.within
    c.in-Some.ensures.found

pub loop-scan-preserved : goal.loop-scan-preserved
loop-scan-preserved g c =
    let took = took_more _ _ _ c.loop-scan.scan.len c.in_ok-count.field-0 c.loop-scan.buffer c.read_some.new.buffer
    c.read_some.ensures.kept c.loop-scan.invariant.took c.in_ok-count.ensures.bytes in
    record {
      there = c.read_some.ensures.open;
      took = scan_took _ _ c.loop-scan.scan.len c.in_ok-count.field-0 c.advance.new.self.len c.read_some.new.buffer
          c.in_default.ensures.len c.in_ok-count.ensures.bound took;
      room = c.read_some.ensures.length ∙ c.loop-scan.invariant.room;
      within = omega (
        arith,
        scan_len c.loop-scan.scan.len c.in_ok-count.field-0 c.advance.new.self.len
            c.read_some.new.buffer c.in_default.ensures.len c.in_ok-count.ensures.bound,
        c.in_ok-count.ensures.bound,
        c.read_some.ensures.length,
        c.loop-scan.invariant.room,
      );
      some = c.in_default.ensures.some;
      same = scan_same c.loop-scan.scan.len c.in_ok-count.field-0 c.advance.new.self.len c.loop-scan.buffer
          c.read_some.new.buffer c.loop-scan.scan c.advance.new.self c.read_some.ensures.kept
          c.in_ok-count.ensures.bound c.in_default.ensures.len c.loop-scan.invariant.same c.in_default.ensures.more;
      later = omega (arith, c.loop-scan.invariant.later, c.read_some.ensures.cause.later);
    }

pub returns-clause-end : goal.returns-clause-end
returns-clause-end g c =
    let came = take c.loop-scan.scan.len c.loop-scan.buffer in
    let all : length came ≡ 16384 = omega (
      arith,
      length-take-le c.loop-scan.scan.len c.loop-scan.buffer
          (omega (arith, c.loop-scan.invariant.room, c.loop-scan.invariant.within)),
      c.loop-scan-test.false,
      c.loop-scan.invariant.within,
    ) in
    let none : head_from fresh came ≡ None = ap (head_from fresh) (sym (append-nil came)) ∙ c.loop-scan.invariant.same [] in
    head_too_long came _ _ all none c.loop-scan.invariant.took
