use Rattle.std.proofs.Common.{◌≡◌, ◌≤◌, ◌+◌, ◌*◌, ◌++◌, length, drop, map}
use Rattle.siri_model.specs.Direct as direct
use Rattle.siri_responder.proofs.answers.answer_all.Given as goal

abbrev pub invariant-loop-topic : goal.invariant-loop-topic
invariant-loop-topic l = record {
  answers : l.answers ++ map (direct.answer l.fn.store.moment l.fn.store.entries)
      (drop l.topic-index l.topic-items) ≡ map (direct.answer l.fn.store.moment l.fn.store.entries) l.fn.topics;
  rest : l.store ≡ record l.fn.store { reads = l.store.reads };
  risen : l.fn.store.reads ≤ l.store.reads;
  reads : l.store.reads ≤ l.fn.store.reads + length l.fn.store.entries * l.topic-index;
}
