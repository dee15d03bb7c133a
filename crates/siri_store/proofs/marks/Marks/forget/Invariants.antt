use Rattle.std.proofs.Common.{◌≡◌, drop}
use Rattle.std.specs.VecDeque.{deque_capacity}
use Rattle.siri_store.specs.Marked.{Rises}
use Rattle.siri_store.proofs.marks.Marks.forget.Given as goal

-- as many marks as turns were made are gone
abbrev pub invariant-loop : goal.invariant-loop
invariant-loop l = record {
  log : l.self-inside.log.items ≡ drop l.counter l.initial.self-inside.log.items;
  number : l.self-inside.number ≡ l.initial.self-inside.number;
  capacity : deque_capacity l.self-inside.log ≡ deque_capacity l.initial.self-inside.log;
  rises : Rises l.self-inside.number l.self-inside.log.items;
}
