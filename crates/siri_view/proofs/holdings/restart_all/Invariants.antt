use Rattle.std.proofs.Common.{◌≡◌, ◌+◌, vec_len}
use Rattle.std.specs.Map.{keys_of}
use Rattle.siri_view.specs.Places.{restarted_to}
use Rattle.siri_view.proofs.holdings.restart_all.Given as goal

-- so many from the front are as after the restart
abbrev pub invariant-loop-place : goal.invariant-loop-place
invariant-loop-place l = record {
  number : l.number ≡ l.first + l.place;
  items : l.entries.items ≡ restarted_to l.place l.first l.initial.entries.items;
  keys : keys_of l.entries.items ≡ keys_of l.initial.entries.items;
  len : vec_len l.entries ≡ vec_len l.initial.entries;
}
