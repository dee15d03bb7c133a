use Rattle.std.proofs.Common.{◌≡◌, ◌+◌, take}
use Rattle.siri_view.specs.Consuming.{all_data_from}
use Rattle.siri_view.proofs.holdings.request_all.Given as goal

abbrev pub invariant-loop-entry : goal.invariant-loop-entry
invariant-loop-entry l = record {
  number : l.number ≡ l.first + l.entry-index;
  made : l.requests ≡ all_data_from l.name l.now l.first (take l.entry-index l.entries);
}
