use Rattle.std.proofs.Common.{◌≡◌, ◌∷◌, [], List, ap, ◌∙◌, arith}
use Rattle.json.specs.Token.{begin_object, end_object, key}
use Rattle.siri_deliveries.specs.declared.names.TheConstants.{SIRI, SERVICE_DELIVERY}
use Rattle.siri_wire.proofs.Plain.{document_with, says, root_is}
use Rattle.siri_wire.proofs.incoming.delivery_of.Goals as goal

pub returns : goal.returns
returns c =
    let came = c.in_ok-delivery.ensures in
    let all = c.in_ok-reader.ensures.ok in
    let first : c.in_ok-reader.reader ≡ begin_object ∷ key SIRI.now ∷ c.begins.new.reader = c.begins.ensures (grind arith) in
    let second : c.begins.new.reader ≡ begin_object ∷ key SERVICE_DELIVERY.now ∷ c.begins-else-not-begins.new.reader = c.begins-else-not-begins.ensures (grind arith) in
    let third : c.read_next.new.reader ≡ end_object ∷ c.ends.new.reader = c.ends.ensures (grind arith) in
    let fourth : c.ends.new.reader ≡ end_object ∷ c.ends-else-not-ends.new.reader = c.ends-else-not-ends.ensures (grind arith) in
    let none : c.ends-else-not-ends.new.reader ≡ [] = grind arith in (
      document_with came.0,
      rw (← all) (says c.in_ok-reader.reader c.begins.new.reader c.begins-else-not-begins.new.reader c.read_next.new.reader came.0 first second came.1
          (third ∙ ap (λ (ts : List _). end_object ∷ ts) (fourth ∙ ap (λ (ts : List _). end_object ∷ ts) none))),
      root_is came.0 c.in_ok-delivery.delivery came.2,
    )
