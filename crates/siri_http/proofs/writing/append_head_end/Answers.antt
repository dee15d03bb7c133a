use Rattle.siri_http.proofs.Sending.{head_ends}
use Rattle.siri_http.proofs.writing.append_head_end.Goals as goal

pub returns : goal.returns
returns c =
    rw (
      c.in_ok-append_closing.ensures,
      c.in_ok-append-2.ensures.ok,
      c.in_ok-append_number.ensures.ok,
      c.in_ok-append.ensures.ok,
    ) (head_ends c.args.text.now.items c.args.length)
