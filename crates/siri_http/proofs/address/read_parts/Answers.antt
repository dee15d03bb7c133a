use Rattle.std.proofs.Common.{◌≡◌, refl}
use Rattle.siri_http.specs.Addresses.{after_scheme, parts_of}
use Rattle.siri_http.proofs.address.read_parts.Goals as goal

pub returns-clause-bad : goal.returns-clause-bad
returns-clause-bad c =
    let parts : after_scheme c.args.rest.now ≡ parts_of c.split_at-2.result.0.now c.split_at-2.result.1.now c.split_at.result.1.now =
    rw (
      c.split_at-2.ensures.front,
      c.split_at-2.ensures.back,
      c.before-3.ensures.value,
      c.split_at.ensures.front,
      c.split_at.ensures.back,
      c.before-2.ensures.value,
    ) refl in
    rw parts c.address_of.ensures.bad
