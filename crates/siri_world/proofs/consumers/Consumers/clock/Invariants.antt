use Rattle.std.proofs.Common.{◌≡◌, ◌++◌, take, drop, length}
use Rattle.indexmap.specs.IndexMap.{index_map_len, values}
use Rattle.siri_world_model.specs.Consumers.{all_clocked}
use Rattle.siri_world.specs.Named.{AreNamed}
use Rattle.siri_world.proofs.consumers.Consumers.clock.Given as goal

-- those before the place are clocked, and those from it on are as they were, each under its name
abbrev pub invariant-loop-place : goal.invariant-loop-place
invariant-loop-place l = record {
  clocked : all_clocked l.now (take l.place (values l.initial.self-inside.map)) ++ drop l.place (values l.initial.self-inside.map) ≡ values l.self-inside.map;
  named : AreNamed l.self-inside.map.entries;
  all : length (values l.initial.self-inside.map) ≡ l.place-end;
  len : index_map_len l.self-inside.map ≡ l.place-end;
}
