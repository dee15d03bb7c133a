-- What a consumer keeps of the subscriptions that it holds (EN 15531-2, subscriptions and deliveries).
use Rattle.std.specs.Prelude.{false, List, [], map, Option}
use Rattle.std.specs.Cmp.Lexicographic.{slice_cmp}
use Rattle.std.specs.Ordering.{nat_cmp}
use Rattle.std.specs.declared.cmp.Ordering.{Ordering}
use Rattle.std.specs.Map.{lookup, remove_entry}
use Rattle.std.specs.BTreeMap.{insert_entry, is_at}
use Rattle.siri_records.specs.Keyed.{Items, apply}
use Rattle.siri_messages.specs.Asked.{AskedFor}
use Rattle.siri_change.specs.Changes as change
use Rattle.siri_change.specs.Parts as part
use Rattle.siri_change.specs.Parts.{Carried, carried, changes_in, parts_of}
use Rattle.siri_change.specs.Views.{is_view}
use Rattle.siri_life.specs.Meaning.{Meaning}
use Rattle.siri_life.specs.Named.{Name}
use Rattle.siri_life.specs.Link.{Holding}

-- what subscriptions are about, to a consumer: views of items, and parts as deliveries carry them. It knows nothing of
-- what its producer knows, and sends no heartbeat
abbrev pub meaning : Meaning Items Carried AskedFor (Unit {0}) (Unit {0})
meaning = record {
  empty = [];
  is_view = is_view;
  began = λ start moment. tt;
  clocked = λ known moment. tt;
  fed_with = λ known entries. tt;
  direct = λ known wanted. [];
  target = λ acknowledged direct wanted. change.target wanted.subscription.slack wanted.subscription.incremental acknowledged direct;
  load = λ acknowledged target wanted. map carried (parts_of (part.load acknowledged target wanted.subscription.incremental));
  apply = λ view carried. apply view (changes_in carried);
  meets = λ view direct wanted. change.meets wanted.subscription.slack view direct;
  incremental = λ wanted. wanted.subscription.incremental;
  fetched = λ wanted. wanted.subscription.fetched;
  termination = λ wanted. wanted.subscription.termination;
  is_heartbeat_due = λ wanted last now. false;
}

-- what is kept of one subscription
abbrev pub HeldSubscription : Type 0
HeldSubscription = Holding Items Carried AskedFor

-- ---- what is kept of each, by its identifier, in order of the bytes

-- identifiers are in order of their bytes
abbrev pub name_cmp : Name → Name → Ordering
name_cmp = slice_cmp nat_cmp

abbrev pub Holdings : Type 0
Holdings = List (Name × HeldSubscription)

-- what is kept under an identifier
abbrev pub kept_of : Name → Holdings → Option HeldSubscription
kept_of identifier held = lookup (is_at (name_cmp identifier)) held

-- with this under an identifier
abbrev pub with_kept : Name → HeldSubscription → Holdings → Holdings
with_kept identifier kept held = insert_entry name_cmp held identifier kept

-- without what is under an identifier
abbrev pub without_kept : Name → Holdings → Holdings
without_kept identifier held = remove_entry (is_at (name_cmp identifier)) held
