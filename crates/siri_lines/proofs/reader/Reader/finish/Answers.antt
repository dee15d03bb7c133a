use Rattle.std.proofs.Common.{◌≡◌, eqb, false, ◌∙◌, length}
use Rattle.siri_lines.specs.RunResult.{verdict}
use Rattle.siri_lines.proofs.Worlds.{last_finishes, last_ends_each, last_leads}
use Rattle.siri_lines.proofs.reader.Reader.finish.Goals as goal

pub returns-in-Ok-clause-ends : goal.returns-in-Ok-clause-ends
returns-in-Ok-clause-ends g c =
    let some : eqb (length c.args.self.now.line.items) 0 ≡ false = cc in
    last_finishes g.T.LineTaker.fits (verdict c.args.self.now.most g.T.LineTaker.event) c.args.taker.now
    c.end_line.new.taker c.args.self.now c.end_line.new.self _ _ c.len-ended.result
    (c.len-ended.ensures ∙ c.args.self.now.line.ok.0) c.requires.begun some c.in-Ok.ensures.ok

pub returns-in-Err-clause-ends : goal.returns-in-Err-clause-ends
returns-in-Err-clause-ends g c =
    let some : eqb (length c.args.self.now.line.items) 0 ≡ false = cc in
    rw c.from.ensures (last_ends_each g.T.LineTaker.fits
    (verdict c.args.self.now.most g.T.LineTaker.event) c.args.taker.now c.args.self.now _ _ c.len-ended.result
    c.in-Err.stop (c.len-ended.ensures ∙ c.args.self.now.line.ok.0) c.requires.begun some c.in-Err.ensures.err)

pub returns-in-Ok-clause-stands : goal.returns-in-Ok-clause-stands
returns-in-Ok-clause-stands g c = λ done.
    let some : eqb (length c.args.self.now.line.items) 0 ≡ false = cc in
    last_leads g.T.LineTaker.fits (verdict c.args.self.now.most g.T.LineTaker.event) c.args.taker.now
    c.end_line.new.taker c.args.self.now c.end_line.new.self _ _ c.len-ended.result
    (c.len-ended.ensures ∙ c.args.self.now.line.ok.0) c.requires.begun some c.in-Ok.ensures.ok
