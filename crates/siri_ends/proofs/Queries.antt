-- A query is read as the POST of its document.
use Rattle.std.proofs.Common.{◌∷◌, [], ◌++◌, Some, None, Ok, codes, refl, sym, ap, ◌∙◌}
use Rattle.siri_outside.specs.Wires.{hung_up_after}
use Rattle.siri_ends.specs.lite.Replacing.{IsAnsweredAlike, IsReadAsItsPost}
use Rattle.siri_ends.proofs.Paths.{asks_its_document}
use Rattle.siri_ends.proofs.Posts.{answered_alike, post_is_read, read}

pub read_as_its_post : IsReadAsItsPost
read_as_its_post target document body other before after post e reads holds place = (
  record { request = Ok ((codes "GET", target), body); reads = reads; asked_is = ap Some (sym (asks_its_document target document body e)) },
  record {
    read = read other document post holds;
    asks = record { request = Ok ((codes "POST", other), document); reads = post_is_read other document post holds; asked_is = refl };
    same = record {
      written = place.written ∙ sym reads.written;
      write_fails = place.write_fails ∙ sym reads.unwritten;
    };
  },
)

pub alike : IsAnsweredAlike
alike wire there other same = (
  answered_alike wire there other same,
  ap (λ written. record wire { present = None; over = wire.over ++ hung_up_after written ∷ [] }) same.written,
)
