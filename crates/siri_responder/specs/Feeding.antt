-- Inner words: cited by private functions alone.
-- What a store holds, what is told of it, and which keys are marked, after the entries of a feed.
use Rattle.std.specs.Prelude.{◌≡◌, ℕ, ◌+◌, ◌≤◌, List, ◌++◌, fold, map, length, if◌then◌else◌}
use Rattle.siri_records.specs.declared.key.Key.{Key}
use Rattle.siri_records.specs.Keyed.{most_live}
use Rattle.siri_records.specs.KeyLists.{with_keys}
use Rattle.siri_store.specs.Marked.{Marked, keys_since}
use Rattle.siri_model.specs.History.{Entry, Observed, Withdrawn}
use Rattle.siri_model.specs.Last.{entry_key}
use Rattle.siri_store.specs.Held.{Held}
use Rattle.siri_store.specs.Calls.{refuses, observed, without}
use Rattle.siri_responder.specs.declared.feeding.Fed.{Fed}
use Rattle.siri_responder.specs.declared.feeding.Feeding.{Feeding}
use Rattle.siri_responder.specs.FedCounts.{at_most_greatest}

-- a store, and what is told of the feed that it is given
pub record Filling : Type 0 where
  pub store : Held
  pub fed : Fed

-- those of a feeding
abbrev pub filling : Feeding → Filling
filling f = record { store = f.store; fed = f.fed }

-- one more
abbrev pub more : ℕ → ℕ
more count = at_most_greatest (count + 1)

abbrev pub after : Filling → Entry → Filling
after f (Observed item) =
    if refuses f.store item then record f { fed = record f.fed { full = more f.fed.full } }
    else record { store = observed f.store item; fed = record f.fed { observed = more f.fed.observed } }
after f (Withdrawn key) = record { store = without f.store key; fed = record f.fed { withdrawn = more f.fed.withdrawn } }

abbrev pub after_all : Filling → List Entry → Filling
after_all f entries = fold after f entries

-- some keys were marked, and no other, under the number that is kept
pub record AreMarked (old new : Marked) (keys : List Key) : Type 0 where
  pub number : new.number ≡ old.number
  pub touched : (n : ℕ) → n ≤ old.number → keys_since new.log n ≡ with_keys (keys_since old.log n) keys

-- entries were taken: of the store and of what is told nothing else changed, and their keys were marked, and no other
pub record TakesEntries (old new : Feeding) (entries : List Entry) : Type 0 where
  pub stands : filling new ≡ after_all (filling old) entries
  pub marked : AreMarked old.marks new.marks (map entry_key entries)

-- some first entries were taken, and the others are left
pub record Reaches (old new : Feeding) (entries left : List Entry) : Type 0 where
  pub taken : List Entry
  pub apart : entries ≡ taken ++ left
  pub takes : TakesEntries old new taken

-- some first entries were taken, and no other
abbrev pub ReachesSome : Feeding → Feeding → List Entry → Type 0
ReachesSome old new entries = (left : List Entry) × Reaches old new entries left

-- no more keys are held than may be live, and there is room for the mark of each
pub record HasRoom (f : Feeding) : Type 0 where
  pub few : length f.store.entries ≤ most_live
  pub room : length f.store.entries ≤ f.marks.room
