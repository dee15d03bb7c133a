use Rattle.std.proofs.Common.{◌<◌, length, ap, sym, ◌∙◌, arith}
use Rattle.indexmap.specs.IndexMap.{values}
use Rattle.indexmap.proofs.CallerLemmas.{index_map_len-with_value_at}
use Rattle.siri_view.specs.Consuming.{Consuming, clocked}
use Rattle.siri_world.proofs.Listed.{clocked_more}
use Rattle.siri_world.proofs.Named.{named_set, value_there, values_set}
use Rattle.siri_world.proofs.consumers.Consumers.clock.Goals as goal

pub index_mut-requires : goal.index_mut-requires
index_mut-requires c = omega (arith, c.loop-place.invariant.len, c.loop-place-test.true)

pub loop-place-preserved : goal.loop-place-preserved
loop-place-preserved c =
    let map = c.loop-place.self-inside.map in
    let place = c.loop-place.place in
    let before = c.index_mut.result.now in
    let after = c.clock.new.self in
    let at = c.index_mut.ensures.value in
    let within : place < length (values c.self.inside.map) = omega (arith, c.loop-place.invariant.all, c.loop-place-test.true) in
    let made = c.clock.ensures ∙ ap (λ (d : Consuming). clocked d c.args.now) (value_there (values map) place before at) in
    record {
      clocked = clocked_more c.args.now (values c.self.inside.map)
          (values map) place after before within c.loop-place.invariant.clocked made
          ∙ sym (values_set map.entries place after);
      named = named_set map.entries place before after at (ap (λ (d : Consuming). d.name) c.clock.ensures) c.loop-place.invariant.named;
      all = c.loop-place.invariant.all;
      len = index_map_len-with_value_at map place after ∙ c.loop-place.invariant.len;
    }
