-- What a responder knows, and the histories that it stands for.
use Rattle.std.specs.Prelude.{◌≡◌, ℕ, ◌≤◌, List, ◌∷◌, [], ◌++◌, map, take}
use Rattle.siri_messages.specs.declared.requests.ServiceRequest.{ServiceRequest}
use Rattle.siri_records.specs.declared.key.Key.{Key}
use Rattle.siri_records.specs.Keyed.{Items, living}
use Rattle.siri_records.specs.KeyLists.{with_keys}
use Rattle.siri_store.specs.Marked.{Marked, keys_since}
use Rattle.siri_messages.specs.declared.deliveries.ServiceDelivery.{ServiceDelivery}
use Rattle.siri_model.specs.Direct.{response}
use Rattle.siri_model.specs.Fed.{counts_of}
use Rattle.siri_model.specs.History.{Entry, Feed, History, Step, start_of, started_of, now_of, current}
use Rattle.siri_model.specs.Last.{entry_key}
use Rattle.siri_responder.specs.declared.feeding.Fed.{Fed}
use Rattle.siri_responder.specs.FedCounts.{fed_counts}

-- its name, its start number and the moment of its start, its moment, the items that it holds in order of key, the steps
-- that were counted, and the marks of keys
pub record Known : Type 0 where
  pub name : List ℕ
  pub start : ℕ
  pub started : ℕ
  pub moment : ℕ
  pub held : Items
  pub reads : ℕ
  pub marks : Marked

-- a responder stands for a history whose start and moments it has, and whose live current items it holds
pub record StandsFor (known : Known) (history : History) : Type 0 where
  pub start : known.start ≡ start_of history
  pub started : known.started ≡ started_of history
  pub moment : known.moment ≡ now_of history
  pub held : known.held ≡ living (now_of history) (current history)

-- whatever history a responder stood for before a call, it stands for that history and one more step after it
abbrev pub GoesOn : Known → Known → Step → Type 0
GoesOn old new step = (h : History) → StandsFor old h → StandsFor new (h ++ step ∷ [])

-- some keys were marked, and no other, under the number that is kept
pub record Touches (old new : Known) (keys : List Key) : Type 0 where
  pub number : new.marks.number ≡ old.marks.number
  pub touched : (n : ℕ) → n ≤ old.marks.number → keys_since new.marks.log n ≡ with_keys (keys_since old.marks.log n) keys

-- some first entries of a feed were taken, and no other
pub record TookSome (old new : Known) (entries : List Entry) : Type 0 where
  pub n : ℕ
  pub goes_on : GoesOn old new (Feed (take n entries))
  pub touched : Touches old new (map entry_key (take n entries))

-- what is told of a feed are the counts by every history that the responder stood for before it
abbrev pub CountsFor : Known → List Entry → Fed → Type 0
CountsFor old entries fed = (h : History) → StandsFor old h → fed ≡ fed_counts (counts_of (now_of h) (current h) entries)

-- a delivery is the response by every history that the responder stands for, under its name
abbrev pub ResponseFor : Known → ServiceRequest → ServiceDelivery → Type 0
ResponseFor known request delivery = (h : History) → StandsFor known h → delivery ≡ response known.name (now_of h) (current h) request
