-- What a shelf keeps is decided by what its producer knows.
use Rattle.std.proofs.Common.{List, map, subst}
use Rattle.siri_records.specs.Keyed.{living}
use Rattle.siri_subs.specs.declared.entry.Row.{Row}
use Rattle.siri_model.specs.Held.{held_of}
use Rattle.siri_model.specs.History.{History, current, now_of, start_of}
use Rattle.siri_model.specs.Rows.{KeptLife}
use Rattle.siri_outside.specs.Rows.{Rows}
use Rattle.siri_keeping.specs.Keeps.{Keeps, KeepsThese}
use Rattle.siri_keep.specs.declared.kept.Kept.{Kept}
use Rattle.siri_keep.specs.Calls.{Holds}

pub keeps_of : (kept : Kept) (rows : Rows) (h : History) → Holds kept rows h → Keeps kept.producer.responder.name rows h
keeps_of kept rows h holds =
    let name = kept.producer.responder.name in
    let known = kept.producer.responder in
    let s = holds.stands in
    let one : KeepsThese name (now_of h) known.start known.held kept.mirror kept.places (map held_of kept.producer.table) rows =
    subst (λ m. KeepsThese name m known.start known.held kept.mirror kept.places (map held_of kept.producer.table) rows)
    s.responder.moment holds.left in
    let two : KeepsThese name (now_of h) (start_of h) known.held kept.mirror kept.places (map held_of kept.producer.table) rows =
    subst (λ k. KeepsThese name (now_of h) k known.held kept.mirror kept.places (map held_of kept.producer.table) rows)
    s.responder.start one in
    let three : KeepsThese name (now_of h) (start_of h) (living (now_of h) (current h)) kept.mirror kept.places
    (map held_of kept.producer.table) rows =
    subst (λ items. KeepsThese name (now_of h) (start_of h) items kept.mirror kept.places (map held_of kept.producer.table) rows)
    s.responder.held two in
    record {
      kept = kept.mirror;
      places = kept.places;
      these = subst (λ (table : List (Row KeptLife)). KeepsThese name (now_of h) (start_of h) (living (now_of h) (current h))
          kept.mirror kept.places (map held_of table) rows) s.table three;
      proper = holds.proper;
    }
