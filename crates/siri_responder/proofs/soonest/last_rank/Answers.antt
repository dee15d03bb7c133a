use Rattle.std.proofs.Common.{◌<◌, ap, arith, length}
use Rattle.siri_records.specs.Keyed.{unshared}
use Rattle.siri_responder.specs.Answering.{ranks_of}
use Rattle.siri_records.proofs.Placed.{length_mapped}
use Rattle.siri_responder.proofs.Ranks.{rank_total, sorted_place, length_ranks}
use Rattle.siri_responder.proofs.soonest.last_rank.Goals as goal

pub returns : goal.returns
returns c =
    let items = unshared c.args.items.now in
    let within : c.args.before < length (ranks_of items) =
    omega (arith, c.requires, length_ranks 0 items, length_mapped (λ item. item.value) c.args.items.now) in
    sorted_place rank_total (ranks_of items) c.sort_unstable.new.self.items c.args.before c.index.result.now
    (rw (c.in_ok-ranks.ensures) at c.sort_unstable.ensures.permutation) c.sort_unstable.ensures.sorted within
    c.index.ensures

pub index-requires : goal.index-requires
index-requires c =
    let items = unshared c.args.items.now in
    omega (
      arith,
      c.requires,
      ap length c.in_ok-ranks.ensures,
      length_ranks 0 items,
      length_mapped (λ item. item.value) c.args.items.now,
      c.sort_unstable.ensures.len,
    )
