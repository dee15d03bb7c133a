use Rattle.std.proofs.Common.{subst}
use Rattle.std.specs.Prelude.{IsUtf8}
use Rattle.siri_row_texts.proofs.MomentRows.{began_row_read}
use Rattle.siri_row_texts.proofs.moments.moment_row.Goals as goal

pub returns-clause-read : goal.returns-clause-read
returns-clause-read c = λ from_one small.
    began_row_read c.args.moment c.args.start c.args.name.now c.write_moment-count.ensures.moment from_one small (record {
      some = c.text.ensures.some;
      bound = c.text.ensures.bound;
      utf8 = subst IsUtf8 c.text.ensures.value c.text.utf8;
    })
