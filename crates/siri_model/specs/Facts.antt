-- The two facts that hold of a subscription after its first look, by what is held.
use Rattle.std.specs.Prelude.{◌≡◌, ℕ, ℤ, ◌≤◌, true, false, List, map, fold, None}
use Rattle.std.specs.Map.{keys_of}
use Rattle.siri_records.specs.declared.key.Key.{Key}
use Rattle.siri_records.specs.Near.{is_near}
use Rattle.siri_records.specs.Keyed.{Items, InOrder, item_of, living, dead_of}
use Rattle.siri_topic.specs.declared.topics.Topic.{Topic}
use Rattle.siri_store.specs.Candidates.{may_be_shown}
use Rattle.siri_change.specs.Changes.{agree_on}
use Rattle.siri_change.specs.Parts.{Carried}
use Rattle.siri_life.specs.Slot.{Slot, with_acknowledgement, with_supply}
use Rattle.siri_subs.specs.declared.entry.Row.{Row}
use Rattle.siri_model.specs.History.{Entry, IsKeyed, after_entry}
use Rattle.siri_model.specs.Last.{entry_key}
use Rattle.siri_model.specs.Rows.{KeptLife, settled_row}
use Rattle.siri_records.specs.KeyLists.{is_among, KeysInOrder}
use Rattle.siri_change.specs.Looks.{IsLook}
use Rattle.siri_model.specs.Direct.{direct_to, most_of}
use Rattle.siri_model.specs.Looks.{IsUncrossed}
use Rattle.siri_model.specs.Followed.{Look, touched_look, goal_of, look_at}

-- each key that wasn't touched since the look has the same item as then, or none as then; and the view that the consumer is led to
-- agrees with the direct response as it was then, but for exactly the keys that are kept apart; what was held then stood
-- under its own keys
pub record Follows (slack : ℤ) (topic : Topic) (now : ℕ) (held goal : Items) (look : Look) : Type 0 where
  pub then : Items
  pub ordered : InOrder then
  pub keyed : IsKeyed then
  pub earlier : look.moment ≤ now
  pub untouched : (key : Key) → is_among key look.touched ≡ false → item_of held key ≡ item_of then key
  pub agrees : (key : Key) → is_among key look.apart ≡ false → agree_on (is_near slack) goal (direct_to look.moment then topic) key ≡ true
  pub differs : (key : Key) → is_among key look.apart ≡ true → agree_on (is_near slack) goal (direct_to look.moment then topic) key ≡ false

-- ---- steps keep them

-- acknowledgements and requests for parts don't change the view that the consumer is led to
abbrev pub GoalStays : Type 0
GoalStays = (rounds : Slot Items Carried) (round part now : ℕ)
    → (goal_of (with_acknowledgement rounds round part now) ≡ goal_of rounds) × (goal_of (with_supply rounds round part now) ≡ goal_of rounds)

-- what changes what is held touches its keys
abbrev pub StepFollows : Type 0
StepFollows = (slack : ℤ) (topic : Topic) (now later : ℕ) (held after goal : Items) (look : Look) (touched : List Key) → now ≤ later
    → ((key : Key) → is_among key touched ≡ false → (is_among key look.touched ≡ false) × (item_of after key ≡ item_of held key))
    → Follows slack topic now held goal look → Follows slack topic later after goal (record look { touched = touched })

-- the entries of a feed touch their keys
abbrev pub FeedFollows : Type 0
FeedFollows = (slack : ℤ) (topic : Topic) (now : ℕ) (current goal : Items) (look : Look) (entries : List Entry) → InOrder current
    → Follows slack topic now (living now current) goal look
    → Follows slack topic now (living now (fold (after_entry now) current entries)) goal (touched_look (map entry_key entries) look)

-- items that die touch theirs
abbrev pub ClockFollows : Type 0
ClockFollows = (slack : ℤ) (topic : Topic) (now later : ℕ) (current goal : Items) (look : Look) → now ≤ later → InOrder current
    → Follows slack topic now (living now current) goal look
    → Follows slack topic later (living later current) goal (touched_look (keys_of (dead_of later (living now current))) look)

-- a look begins anew
abbrev pub LookFollows : Type 0
LookFollows = (now : ℕ) (held : Items) (row : Row KeptLife) → InOrder held → IsKeyed held → row.slot.rounds.outstanding ≡ None
    → Follows row.wanted.slack row.wanted.topic now held (goal_of (settled_row now held row).slot.rounds) (look_at now held row)

-- ---- so a look needs those keys alone, unless the topic has MaximumStopVisits

-- a key wasn't touched, and no live item of it was crossed
pub record IsAsThen (topic : Topic) (now : ℕ) (held : Items) (look : Look) (key : Key) : Type 0 where
  pub untouched : is_among key look.touched ≡ false
  pub uncrossed : IsUncrossed topic look.moment now (item_of held key)

-- a key that isn't one of these isn't kept apart, and where its item may be shown it was neither touched nor crossed
pub record IsOut (topic : Topic) (now : ℕ) (held : Items) (look : Look) (key : Key) : Type 0 where
  pub together : is_among key look.apart ≡ false
  pub as_then : may_be_shown topic key ≡ true → IsAsThen topic now held look key

-- of a topic without MaximumStopVisits
abbrev pub FactsSuffice : Type 0
FactsSuffice = (slack : ℤ) (topic : Topic) (now : ℕ) (held goal : Items) (look : Look) (keys : List Key) → most_of topic ≡ None
    → InOrder held → IsKeyed held → InOrder goal → KeysInOrder keys
    → Follows slack topic now held goal look → ((key : Key) → is_among key keys ≡ false → IsOut topic now held look key)
    → IsLook slack goal (direct_to now held topic) keys

-- where no key was touched or crossed whose item may be shown, the direct response is as it was at the look, whatever the topic
abbrev pub DirectStays : Type 0
DirectStays = (slack : ℤ) (topic : Topic) (now : ℕ) (held goal : Items) (look : Look) → InOrder held → IsKeyed held
    → (follows : Follows slack topic now held goal look)
    → ((key : Key) → may_be_shown topic key ≡ true → IsAsThen topic now held look key)
    → direct_to now held topic ≡ direct_to look.moment follows.then topic
