use Rattle.siri_http.proofs.Sending.{begin_is}
use Rattle.siri_http.proofs.writing.request_begin.Goals as goal

pub returns : goal.returns
returns c =
    rw (
      c.in_ok-append-5.ensures.ok,
      c.in_ok-append-4.ensures.ok,
      c.as_bytes-2.ensures.value,
      c.text-2.ensures.value,
      c.in_ok-append-3.ensures.ok,
      c.in_ok-append-2.ensures.ok,
      c.as_bytes.ensures.value,
      c.text.ensures.value,
      c.in_ok-append.ensures.ok,
      c.new-text.ensures.items,
    )
    (begin_is c.args.method.now c.args.host.now c.args.target.now)
