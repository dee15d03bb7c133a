use Rattle.siri_http.proofs.Sending.{request_is}
use Rattle.siri_http.proofs.writing.request_text.Goals as goal

pub returns : goal.returns
returns c =
    rw (
      c.in_ok-append-2.ensures.ok,
      c.in_ok-append_head_end.ensures,
      c.in_ok-append.ensures.ok,
      c.in_ok-text.ensures,
    )
    (request_is c.args.address.now.host c.args.address.now.path c.args.body.now)
