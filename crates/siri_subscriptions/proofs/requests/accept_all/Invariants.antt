use Rattle.std.proofs.Common.{◌≡◌, ◌+◌, ◌++◌, ◌≤◌, length, vec_len}
use Rattle.std.specs.Vec.{vec_capacity}
use Rattle.std.specs.Vec.Iter.{into_iter_items}
use Rattle.siri_subscriptions.specs.Courses.{kept_rows}
use Rattle.siri_subscriptions.specs.Noted.{noted_rows}
use Rattle.siri_subscriptions.specs.Prepared.{all_statuses, all_rows, all_noted}
use Rattle.siri_subscriptions.proofs.requests.accept_all.Given as goal

-- what is left leads to where all of them do, and there is room for its statuses
abbrev pub invariant-loop-candidate : goal.invariant-loop-candidate
invariant-loop-candidate l = record {
  can_next : (goal.iterator-loop-candidate).can_next l.candidate-iterator;
  is_finite : (goal.iterator-loop-candidate).is_finite l.candidate-iterator;
  said : l.statuses.items ++ all_statuses l.now l.number (into_iter_items l.candidate-iterator)
      (kept_rows l.table) ≡ all_statuses l.now l.number l.fn.candidates.items (kept_rows l.fn.table);
  leads : all_rows l.now l.number (into_iter_items l.candidate-iterator)
      (kept_rows l.table) ≡ all_rows l.now l.number l.fn.candidates.items (kept_rows l.fn.table);
  noted : all_noted l.now l.number (into_iter_items l.candidate-iterator)
      (noted_rows l.table) ≡ all_noted l.now l.number l.fn.candidates.items (noted_rows l.fn.table);
  room : vec_len l.statuses + length (into_iter_items l.candidate-iterator) ≤ vec_capacity l.statuses;
}
