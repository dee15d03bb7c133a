use Rattle.std.proofs.Common.{◌<◌, ◌≤◌, ◌∙◌, [], length, take, arith, rules, true, false, Ok, Err}
use Rattle.std.proofs.lemmas.List.{length-take}
use Rattle.siri_lines.proofs.Meeting.{sink_more, source_more, source_read, status_failed}
use Rattle.siri_lines.specs.RunResult.{verdict}
use Rattle.siri_lines.proofs.Worlds.{lines_no_read_fault, none_taken, reads_all, reads_more, reads_break, reads_end, reads_fault}
use Rattle.siri_lines.proofs.Worlds.{reads_in_piece, stop_no_read_fault}
use Rattle.siri_lines.proofs.reading.read_pieces.Goals as goal

pub returns-in-Err-clause-report : goal.returns-in-Err-clause-report
returns-in-Err-clause-report g c = λ w s. reads_fault g.T.LineTaker.fits _ w _ _ _ _ _ c.loop-reader.taker
    c.loop-reader.reader (c.loop-reader.invariant.reads w s) c.in-Err.ensures.bytes

pub returns-in-Ok-eq0-clause-report : goal.returns-in-Ok-eq0-clause-report
returns-in-Ok-eq0-clause-report g c = λ w s.
    let space : 0 < length c.read.new.into = search (rules, c.loop-reader.invariant.space) in
    let at_end = c.in-Ok-eq0.ensures.bytes.1 c.in-Ok-eq0.field-0-test space in
    let none = rw c.in-Ok-eq0.field-0-test at c.in-Ok-eq0.ensures.bytes.0 in
    reads_end g.T.LineTaker.fits (λ most. verdict most g.T.LineTaker.event) c.args.most w _ _ _ _ _ _
    c.loop-reader.taker c.loop-reader.reader c.finish.result c.loop-reader.invariant.most
    c.finish.ensures.cause.known (c.loop-reader.invariant.reads w s) none at_end c.finish.ensures.ends

pub returns-in-Ok-eq0-clause-stands : goal.returns-in-Ok-eq0-clause-stands
returns-in-Ok-eq0-clause-stands g c = λ done w s.
    let space : 0 < length c.read.new.into = search (rules, c.loop-reader.invariant.space) in
    let at_end = c.in-Ok-eq0.ensures.bytes.1 c.in-Ok-eq0.field-0-test space in
    let none = rw c.in-Ok-eq0.field-0-test at c.in-Ok-eq0.ensures.bytes.0 in
    reads_all g.T.LineTaker.fits (λ most. verdict most g.T.LineTaker.event) c.args.most w _ _ _ _ _ c.loop-reader.taker
    _ c.loop-reader.reader c.finish.new.self c.loop-reader.invariant.most
    (c.loop-reader.invariant.reads w s) none at_end (c.finish.ensures.stands done)

pub returns-in-Err-take-clause-report : goal.returns-in-Err-take-clause-report
returns-in-Err-take-clause-report g c = λ w s.
    rw c.from.ensures (reads_break g.T.LineTaker.fits (λ most. verdict most g.T.LineTaker.event) c.args.most w _ _ _ _ _
    _ c.loop-reader.taker c.loop-reader.reader _ c.in-Err-take.stop c.loop-reader.invariant.most
    (c.loop-reader.invariant.reads w s) c.in-Ok.ensures.bytes.0 c.in-Err-take.ensures.err)

pub loop-reader-preserved : goal.loop-reader-preserved
loop-reader-preserved g c = record {
  reads = λ w s. reads_more g.T.LineTaker.fits (λ most. verdict most g.T.LineTaker.event) c.args.most w _ _ _ _ _ _
      c.loop-reader.taker c.take.new.taker c.loop-reader.reader c.take.new.self _ c.loop-reader.invariant.most
      (c.loop-reader.invariant.reads w s) c.in-Ok.ensures.bytes.0 c.in_default.ensures.ok;
  most = c.take.ensures.most ∙ c.loop-reader.invariant.most;
  within = c.in_default.ensures.within;
  space = search (rules, c.loop-reader.invariant.space);
  read_later = omega (arith, c.loop-reader.invariant.read_later, c.read.ensures.cause.later);
  write_later = omega (arith, c.loop-reader.invariant.write_later, c.take.ensures.cause.later);
  piece = search (rules, c.loop-reader.invariant.piece);
  read = source_more false _ _ _ _ _ _ c.loop-reader.invariant.read
      (source_read (Ok c.in-Ok.count) (g.S.Source.left c.loop-reader.source) (g.S.Source.left c.read.new.self)
      (g.S.Source.fails c.loop-reader.source) (g.S.Source.fails c.read.new.self) c.read.new.into c.in-Ok.ensures.bound
      c.in-Ok.ensures.bytes c.in-Ok.ensures.failing);
  wrote = sink_more false _ _ _ _ _ _ c.loop-reader.invariant.wrote c.in_default.ensures.meets;
}

-- ---- how far was read

pub returns-in-Err-clause-pieces : goal.returns-in-Err-clause-pieces
returns-in-Err-clause-pieces g c = λ w s. reads_in_piece g.T.LineTaker.fits _ w _ _ _ _ _ c.loop-reader.taker
    c.loop-reader.reader [] (c.loop-reader.invariant.reads w s) c.loop-reader.invariant.within
    (none_taken _ _ c.in-Err.ensures.bytes) (omega arith)

pub returns-in-Ok-eq0-clause-pieces : goal.returns-in-Ok-eq0-clause-pieces
returns-in-Ok-eq0-clause-pieces g c = λ w s.
    let none = rw c.in-Ok-eq0.field-0-test at c.in-Ok-eq0.ensures.bytes.0 in
    reads_in_piece g.T.LineTaker.fits _ w _ _ _ _ _ c.loop-reader.taker c.loop-reader.reader []
    (c.loop-reader.invariant.reads w s) c.loop-reader.invariant.within none (omega arith)

pub returns-in-Err-take-clause-pieces : goal.returns-in-Err-take-clause-pieces
returns-in-Err-take-clause-pieces g c = λ w s.
    let space : length c.read.new.into ≤ 65536 = search (rules, c.loop-reader.invariant.piece) in
    reads_in_piece g.T.LineTaker.fits _ w _ _ _ _ _ c.loop-reader.taker c.loop-reader.reader
    (take c.in-Ok.count c.read.new.into) (c.loop-reader.invariant.reads w s) c.loop-reader.invariant.within
    c.in-Ok.ensures.bytes.0 (omega (arith, space, length-take c.in-Ok.count c.read.new.into))

-- ---- what was met of named failures

pub returns-in-Err-clause-source_meets : goal.returns-in-Err-clause-source_meets
returns-in-Err-clause-source_meets g c = source_more true _ _ _ _ _ _ c.loop-reader.invariant.read
    (source_read (Err c.in-Err.field-0) (g.S.Source.left c.loop-reader.source) (g.S.Source.left c.read.new.self)
    (g.S.Source.fails c.loop-reader.source) (g.S.Source.fails c.read.new.self) c.read.new.into c.in-Err.ensures.bound
    c.in-Err.ensures.bytes c.in-Err.ensures.failing)

pub returns-in-Err-clause-sink_meets : goal.returns-in-Err-clause-sink_meets
returns-in-Err-clause-sink_meets g c = c.loop-reader.invariant.wrote

pub returns-in-Ok-eq0-clause-source_meets : goal.returns-in-Ok-eq0-clause-source_meets
returns-in-Ok-eq0-clause-source_meets g c =
    rw (lines_no_read_fault c.finish.result c.finish.ensures.cause.known)
    (source_more false _ _ _ _ _ _ c.loop-reader.invariant.read
    (source_read (Ok c.in-Ok-eq0.field-0) (g.S.Source.left c.loop-reader.source) (g.S.Source.left c.read.new.self)
    (g.S.Source.fails c.loop-reader.source) (g.S.Source.fails c.read.new.self) c.read.new.into
    c.in-Ok-eq0.ensures.bound c.in-Ok-eq0.ensures.bytes c.in-Ok-eq0.ensures.failing))

pub returns-in-Ok-eq0-clause-sink_meets : goal.returns-in-Ok-eq0-clause-sink_meets
returns-in-Ok-eq0-clause-sink_meets g c = sink_more _ _ _ _ _ _ _ c.loop-reader.invariant.wrote c.finish.ensures.meets

pub returns-in-Err-take-clause-source_meets : goal.returns-in-Err-take-clause-source_meets
returns-in-Err-take-clause-source_meets g c =
    rw (c.from.ensures, stop_no_read_fault c.in-Err-take.stop)
    (source_more false _ _ _ _ _ _ c.loop-reader.invariant.read
    (source_read (Ok c.in-Ok.count) (g.S.Source.left c.loop-reader.source) (g.S.Source.left c.read.new.self)
    (g.S.Source.fails c.loop-reader.source) (g.S.Source.fails c.read.new.self) c.read.new.into c.in-Ok.ensures.bound
    c.in-Ok.ensures.bytes c.in-Ok.ensures.failing))

pub returns-in-Err-take-clause-sink_meets : goal.returns-in-Err-take-clause-sink_meets
returns-in-Err-take-clause-sink_meets g c =
    rw (c.from.ensures, status_failed c.in-Err-take.stop)
    (sink_more _ _ _ _ _ _ _ c.loop-reader.invariant.wrote c.in-Err-take.ensures.meets)
