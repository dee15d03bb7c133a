use Rattle.siri_http.proofs.Sending.{head_is}
use Rattle.siri_http.proofs.writing.head_text.Goals as goal

pub returns : goal.returns
returns c =
    rw (
      c.in_ok-append_head_end.ensures,
      c.in_ok-append-7.ensures.ok,
      c.in_ok-append-6.ensures.ok,
      c.type_text.ensures,
      c.in_ok-append-5.ensures.ok,
      c.in_ok-append-4.ensures.ok,
      c.as_bytes-2.ensures.value,
      c.phrase.ensures,
      c.in_ok-append-3.ensures.ok,
      c.in_ok-append-2.ensures.ok,
      c.as_bytes.ensures.value,
      c.as_str.ensures,
      c.in_ok-append.ensures.ok,
      c.new-text.ensures.items,
    ) (head_is c.args.code c.args.plain c.args.length)
