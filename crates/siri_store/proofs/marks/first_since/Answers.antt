use Rattle.std.proofs.Common.{◌≤◌, length, ltb, arith, rules}
use Rattle.std.proofs.lemmas.List.Sorted.{IsPartitionPoint-from_clause, IsPartitionedBy-ltb}
use Rattle.siri_store.proofs.Marking.{Mark, rising, rest_since}
use Rattle.siri_store.proofs.marks.first_since.Goals as goal

pub returns-clause-marks : goal.returns-clause-marks
returns-clause-marks c =
    let log = c.args.log.now.items in
    let number = c.args.number in
    let parted = IsPartitionedBy-ltb (λ (mark : Mark). mark.0) log number (rising c.args.top log c.requires) in
    let point =
    IsPartitionPoint-from_clause (λ (mark : Mark). ltb mark.0 number) log c.partition_point.result
    c.partition_point.ensures.partitioned parted (λ a r f called. search rules) in
    let within : c.partition_point.result ≤ length log =
    omega (arith, c.partition_point.ensures.bound, c.args.log.now.ok.0) in
    rest_since number log c.partition_point.result within point.0 point.1
