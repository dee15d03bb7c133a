-- What is known of the last look at each subscription of a history, and how many stored items a look may read.
use Rattle.std.specs.Prelude.{ℕ, ℤ, ◌+◌, ◌==◌, nat_lt, List, [], length, filter, count_by, Bool, not, ◌&&◌, Option, Some, None, is_some, if◌then◌else◌}
use Rattle.std.specs.List.{list_any, sum_by}
use Rattle.std.specs.Ordering.{is_lt}
use Rattle.siri_records.specs.declared.item.Item.{Item}
use Rattle.siri_records.specs.declared.key.Key.{Key}
use Rattle.siri_records.specs.Near.{is_near}
use Rattle.siri_records.specs.KeyLists.{with_keys}
use Rattle.siri_records.specs.Keyed.{Items}
use Rattle.siri_topic.specs.declared.topics.Topic.{Topic}
use Rattle.siri_topic.specs.declared.windows.Window.{Window}
use Rattle.siri_topic.specs.Shown.{window_of, is_from, is_before}
use Rattle.siri_store.specs.Candidates.{candidates, may_be_shown}
use Rattle.siri_messages.specs.declared.message.Message.{Message}
use Rattle.siri_change.specs.Changes.{agree_on, keys_of_both}
use Rattle.siri_change.specs.Parts.{Carried}
use Rattle.siri_life.specs.Life.{Outstanding}
use Rattle.siri_life.specs.Slot.{Slot, opens_round}
use Rattle.siri_subs.specs.declared.entry.Row.{Row}
use Rattle.siri_model.specs.History.{State, Step, History, nothing}
use Rattle.siri_model.specs.Meaning.{meaning}
use Rattle.siri_model.specs.Rows.{KeptLife, asked_of}
use Rattle.siri_model.specs.LookedAt as looked_at
use Rattle.siri_model.specs.LookedAt.{LookedAt, with_look}
use Rattle.siri_model.specs.Steps as steps
use Rattle.siri_model.specs.Steps.{Keeps}
use Rattle.siri_records.specs.Edges.{has_edge}
use Rattle.siri_records.specs.Ends.{entry_of}
use Rattle.siri_model.specs.Direct.{direct_to, most_of, soonest_cmp}
use Rattle.siri_topic.specs.Services.{is_served}
pub use Rattle.siri_model.specs.LookedAt.{life_row, lifted, look_by}
pub use Rattle.siri_model.specs.Steps.{keys_dying}

-- ---- the last look

-- the last look at a life: its moment; the keys that an entry named, or whose current item became dead, since then, in order, each
-- once; and the keys on which the view that its consumer is led to and the direct response as it was then don't agree, which are
-- none unless the numbers of rounds are used up
pub record Look : Type 0 where
  pub moment : ℕ
  pub touched : List Key
  pub apart : List Key

-- what is kept of a life, and its last look
abbrev pub Followed : Type 0
Followed = LookedAt Look

-- ---- the view that a consumer is led to: the target of the outstanding round, else the acknowledged view

abbrev pub goal_by : Items → Option (Outstanding Items Carried) → Items
goal_by acknowledged None = acknowledged
goal_by acknowledged (Some outstanding) = outstanding.round.target

abbrev pub goal_of : Slot Items Carried → Items
goal_of rounds = goal_by rounds.acknowledged rounds.outstanding

-- ---- what a step does to it

-- these keys were touched
abbrev pub touched_look : List Key → Look → Look
touched_look keys look = record look { touched = with_keys look.touched keys }

abbrev pub touch : List Key → Row Followed → Row Followed
touch keys = with_look (touched_look keys)

-- ---- a look

-- the keys on which a view and a direct response don't agree
abbrev pub keys_apart : ℤ → Items → Items → List Key
keys_apart slack view direct = filter (λ key. not (agree_on (is_near slack) view direct key)) (keys_of_both view direct)

-- a round opens at a look
abbrev pub opens : Items → Row KeptLife → Bool
opens direct row = opens_round meaning row.slot.rounds.outstanding row.slot.rounds (asked_of row) direct

-- a look by the current items at a moment: after a round opened, the view that the consumer is led to meets the direct response
abbrev pub look_at : ℕ → Items → Row KeptLife → Look
look_at now items row =
    let direct = direct_to now items row.wanted.topic in
    record {
      moment = now;
      touched = [];
      apart = if opens direct row then [] else keys_apart row.wanted.slack row.slot.rounds.acknowledged direct;
    }

abbrev pub followed_settled : ℕ → Items → Row Followed → Row Followed
followed_settled = looked_at.settled look_at touched_look

-- ---- the followed rows of a history

abbrev pub keeps_looks : Keeps Followed
keeps_looks = looked_at.keeps_looks look_at touched_look

unfoldable pub rows_taken : ℕ → ℕ → Message → List (Row Followed) → List (Row Followed)
unfolding steps.rows_taken
rows_taken start now m rows = steps.rows_taken keeps_looks start now m rows

unfoldable pub followed_after : State → Step → List (Row Followed) → List (Row Followed)
unfolding steps.rows_after rows_taken
followed_after state step rows = steps.rows_after keeps_looks state step rows

abbrev pub followed_of : History → List (Row Followed)
followed_of history = steps.rows_from keeps_looks nothing [] history

-- ---- how many stored items a look may read

-- how many of these items, of the topic's service, have an edge from one moment on and before another
abbrev pub edges_passed : Topic → Items → ℤ → ℤ → ℕ
edges_passed topic items from to = count_by (λ entry. is_served topic entry.1 && has_edge from to entry.1) items

abbrev pub far_edges_passed : Topic → Items → Option ℤ → Option ℤ → ℕ
far_edges_passed topic items (Some from) (Some to) = edges_passed topic items from to
far_edges_passed topic items from to = 0

-- how many of these items the two ends of a topic's window passed between two moments
abbrev pub items_passed : Topic → Items → ℕ → ℕ → ℕ
items_passed topic items before now =
    let old = window_of topic before in
    let new = window_of topic now in
    edges_passed topic items old.from new.from + far_edges_passed topic items old.to new.to

-- of a complete set the items of its target
abbrev pub complete_set : Row KeptLife → Items → ℕ
complete_set row direct = if not row.wanted.incremental && opens direct row then length direct else 0

-- a visit of these has its entry in a window, as far as the near end says; and as far as both do
abbrev pub enters_from : Topic → Window → Item → Bool
enters_from topic window i = is_served topic i && is_from window.from (entry_of i)

abbrev pub enters_in : Topic → Window → Item → Bool
enters_in topic window i = enters_from topic window i && is_before window.to (entry_of i)

-- an entry comes, by call moment and then key, no later than the last of some others
abbrev pub comes_up_to : Items → Key × Item → Bool
comes_up_to others entry = list_any (λ other. not (is_lt (soonest_cmp other entry))) others

-- of a topic with MaximumStopVisits the visits of these from the near end of its window on, up to the last of the direct response;
-- where this has fewer items than that, all whose entry is in the window
abbrev pub visits_to : Topic → ℕ → Window → Items → Items → ℕ
visits_to topic most window direct live =
    if nat_lt (length direct) most then count_by (λ entry. enters_in topic window entry.1) live
    else count_by (λ entry. enters_from topic window entry.1 && comes_up_to direct entry) live

-- these, where a topic has MaximumStopVisits: none where that is 0
abbrev pub first_visits : ℕ → Items → Topic → Option ℕ → ℕ
first_visits now live topic None = 0
first_visits now live topic (Some most) = visits_to topic most (window_of topic now) (direct_to now live topic) live

-- how many keys were touched since a look, and of how many items that may be shown to the topic by their keys an end of its
-- window passed an edge
abbrev pub changed_since : ℕ → Items → Topic → Look → ℕ
changed_since now live topic look = length look.touched + items_passed topic (candidates topic live) look.moment now

-- so of the keys those alone that may be shown to the topic
abbrev pub asked_since : ℕ → Items → Topic → Look → ℕ
asked_since now live topic look =
    count_by (may_be_shown topic) look.touched + items_passed topic (candidates topic live) look.moment now

-- at the first look as many as may be shown to the topic by their keys: of a stop its visits
abbrev pub bound_since : ℕ → Items → Row KeptLife → Option Look → ℕ
bound_since now live row None = length (candidates row.wanted.topic live)
bound_since now live row (Some look) =
    let topic = row.wanted.topic in
    changed_since now live topic look + complete_set row (direct_to now live topic)
    + (if asked_since now live topic look == 0 then 0 else first_visits now (candidates topic live) topic (most_of topic))

-- where a round is outstanding a settle is no look
abbrev pub look_bound : ℕ → Items → Row Followed → ℕ
look_bound now live row = if is_some row.slot.life.rounds.outstanding then 0 else bound_since now live (life_row row) row.slot.look

abbrev pub look_bounds : ℕ → Items → List (Row Followed) → ℕ
look_bounds now live rows = sum_by (look_bound now live) rows
