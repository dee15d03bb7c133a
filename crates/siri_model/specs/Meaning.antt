-- What lives of subscriptions are about: items, parts of a hundred changes, what a request asks for, histories.
use Rattle.std.specs.Prelude.{[], ◌∷◌, ◌++◌, map}
use Rattle.siri_records.specs.Keyed.{Items, apply}
use Rattle.siri_messages.specs.Asked.{AskedFor}
use Rattle.siri_change.specs.Changes as change
use Rattle.siri_change.specs.Parts as part
use Rattle.siri_change.specs.Parts.{Carried, carried, changes_in, parts_of}
use Rattle.siri_change.specs.Views.{is_view}
use Rattle.siri_subs.specs.Beats.{is_due}
use Rattle.siri_life.specs.Meaning.{Meaning}
use Rattle.siri_model.specs.Direct.{direct_to}
use Rattle.siri_model.specs.History.{Entry, Start, Clock, Feed, History, now_of, current}

-- the direct response to a subscription after a history: that to its topic
abbrev pub direct_of : History → AskedFor → Items
direct_of history wanted = direct_to (now_of history) (current history) wanted.subscription.topic

-- views are current items, a part is what a functional delivery carries, and what a producer knows is its history, in
-- which the messages that it takes and its settles play no part
abbrev pub meaning : Meaning Items Carried AskedFor History Entry
meaning = record {
  empty = [];
  is_view = is_view;
  began = λ number moment. Start number moment ∷ [];
  clocked = λ history moment. history ++ Clock moment ∷ [];
  fed_with = λ history entries. history ++ Feed entries ∷ [];
  direct = direct_of;
  target = λ acknowledged direct wanted. change.target wanted.subscription.slack wanted.subscription.incremental acknowledged direct;
  load = λ acknowledged target wanted. map carried (parts_of (part.load acknowledged target wanted.subscription.incremental));
  apply = λ view carried. apply view (changes_in carried);
  meets = λ view direct wanted. change.meets wanted.subscription.slack view direct;
  incremental = λ wanted. wanted.subscription.incremental;
  fetched = λ wanted. wanted.subscription.fetched;
  termination = λ wanted. wanted.subscription.termination;
  is_heartbeat_due = λ wanted last now. is_due (record { every = wanted.beat; last = last }) now;
}
