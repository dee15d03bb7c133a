use Rattle.std.proofs.Common.{◌≡◌, ◌≢◌, arith}
use Rattle.siri_base.specs.declared.status.Status.TheVariants as status
use Rattle.siri_runs.specs.consumers.Wanting.{nothing_wanted}
use Rattle.siri_runs.specs.consumers.inner.Standing.{Fits}
use Rattle.siri_runs.proofs.consumers.Wanted.{ends_reading, stops_at, wants_few, wants_is}
use Rattle.siri_runs.proofs.consuming.reading.read_wanted.Goals as goal

pub returns-in-Done-clause-wanted : goal.returns-in-Done-clause-wanted
returns-in-Done-clause-wanted g c =
    let all = c.read_lines.ensures.stands c.in-Done.is (nothing_wanted c.args.subscriber.now) c.new-taken.ensures in
    wants_is Fits c.args.most c.args.subscriber.now _ c.read_lines.new.taker c.into_wanted.result all (c.into_wanted.ensures all.world all.stands)

pub returns-in-Done-clause-at_most : goal.returns-in-Done-clause-at_most
returns-in-Done-clause-at_most g c =
    let all = c.read_lines.ensures.stands c.in-Done.is (nothing_wanted c.args.subscriber.now) c.new-taken.ensures in
    wants_few Fits c.args.most c.args.subscriber.now _ c.read_lines.new.taker c.into_wanted.result all (c.into_wanted.ensures all.world all.stands)

pub returns : goal.returns
returns g c =
    let not_write : c.read_lines.result ≢ status.WriteFault = λ e. let rose = c.read_lines.ensures.write e in absurd (omega (arith, rose)) in
    record {
      wanted = tt;
      at_most = tt;
      all = tt;
      stops = stops_at _ _ _ _ _ _ _ c.in_default.not-Done not_write c.read_lines.ensures.ends
          (c.read_lines.ensures.report (nothing_wanted c.args.subscriber.now) c.new-taken.ensures);
      read = λ e. let fault : c.read_lines.result ≡ status.ReadFault = cc in c.read_lines.ensures.read fault;
      pieces = c.read_lines.ensures.pieces (nothing_wanted c.args.subscriber.now) c.new-taken.ensures;
      meets = c.read_lines.ensures.source_meets;
      ends = ends_reading _ c.in_default.not-Done not_write c.read_lines.ensures.ends;
    }

pub returns-in-Done-clause-pieces : goal.returns-in-Done-clause-pieces
returns-in-Done-clause-pieces g c = c.read_lines.ensures.pieces (nothing_wanted c.args.subscriber.now) c.new-taken.ensures
