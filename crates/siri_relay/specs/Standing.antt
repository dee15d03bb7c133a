-- A relay as it is kept.
-- Inner words: cited by private functions alone.
use Rattle.std.specs.Prelude.{◌≡◌, ◌≤◌, ◌⊎◌, length, true, [], None, is_some}
use Rattle.siri_records.specs.declared.key.Key.{Key}
use Rattle.siri_records.specs.Keyed.{Items, InOrder, item_of, living, most_live}
use Rattle.siri_change.specs.Views.{is_keyed}
use Rattle.siri_model.specs.History.{History}
use Rattle.siri_producer.specs.Known.{Known, StandsFor}
use Rattle.siri_relay.specs.Relaying.{KnownRelay, view_of}

-- a producer holds the living items of a view
abbrev pub HoldsView : Known → Items → Type 0
HoldsView p view = p.responder.held ≡ living p.responder.moment view

-- each key that a producer holds is one of a view, or one of another
abbrev pub HoldsAmong : Known → (fed view : Items) → Type 0
HoldsAmong p fed view = (key : Key) → is_some (item_of p.responder.held key) ≡ true
    → (is_some (item_of fed key) ≡ true) ⊎ (is_some (item_of view key) ≡ true)

-- what was fed last is the view, which has room, and is what the producer holds
pub record IsLevel (r : KnownRelay) : Type 0 where
  pub holds : HoldsView r.producer (view_of r)
  pub fed : r.fed ≡ view_of r
  pub room : length (view_of r) ≤ most_live

-- a view is in order of key, each item under its own
pub record IsOwn (view : Items) : Type 0 where
  pub order : InOrder view
  pub keyed : is_keyed view ≡ true

pub record IsRelay (r : KnownRelay) : Type 0 where
  pub stands : (h : History) × StandsFor r.producer h
  pub level : r.level ≡ true → IsLevel r
  pub among : HoldsAmong r.producer r.fed (view_of r)
  pub view : IsOwn (view_of r)
  pub fed : InOrder r.fed
  pub unopened : r.upstream ≡ None → r.consumer.held ≡ []
