use Rattle.std.proofs.Common.{◌≡◌, ◌++◌, drop, map}
use Rattle.siri_producer.specs.Lent.{head_of}
use Rattle.siri_producer.proofs.lending.heads.Given as goal

abbrev pub invariant-loop-topic : goal.invariant-loop-topic
invariant-loop-topic l =
    l.heads ++ map (λ _. head_of l.fn.now) (drop l._topic-index l._topic-items)
    ≡ map (λ _. head_of l.fn.now) l.fn.topics
