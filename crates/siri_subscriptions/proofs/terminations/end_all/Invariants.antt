use Rattle.std.proofs.Common.{◌≡◌, ◌+◌, ◌++◌, ◌≤◌, length, map, vec_len}
use Rattle.std.specs.Vec.{vec_capacity}
use Rattle.std.specs.Vec.Iter.{into_iter_items}
use Rattle.siri_subscriptions.specs.Courses.{kept_rows}
use Rattle.siri_subscriptions.specs.Noted.{noted_rows}
use Rattle.siri_subscriptions.specs.Endings.{sayings_of, all_said, all_left, all_noted_left}
use Rattle.siri_subscriptions.proofs.terminations.end_all.Given as goal

-- what is left leads to where all of them do, and there is room for its statuses
abbrev pub invariant-loop-ending : goal.invariant-loop-ending
invariant-loop-ending l = record {
  can_next : (goal.iterator-loop-ending).can_next l.ending-iterator;
  is_finite : (goal.iterator-loop-ending).is_finite l.ending-iterator;
  said : l.statuses.items ++ all_said l.number l.subscriber (map sayings_of (into_iter_items l.ending-iterator))
      (kept_rows l.table) ≡ all_said l.number l.subscriber (map sayings_of l.fn.endings.items) (kept_rows l.fn.table);
  leads : all_left l.number l.subscriber (map sayings_of (into_iter_items l.ending-iterator))
      (kept_rows l.table) ≡ all_left l.number l.subscriber (map sayings_of l.fn.endings.items) (kept_rows l.fn.table);
  noted : all_noted_left l.number l.subscriber (map sayings_of (into_iter_items l.ending-iterator))
      (noted_rows l.table) ≡ all_noted_left l.number l.subscriber (map sayings_of l.fn.endings.items) (noted_rows l.fn.table);
  room : vec_len l.statuses + length (into_iter_items l.ending-iterator) ≤ vec_capacity l.statuses;
}
