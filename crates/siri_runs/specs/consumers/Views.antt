-- What a consumer shows.
use Rattle.std.specs.Prelude.{ℕ, List, ◌++◌, length, flat_map}
use Rattle.siri_life.specs.Named.{Name}
use Rattle.siri_records.specs.Keyed.{Items}
use Rattle.siri_view.specs.Consuming.{Consuming, held_by}
use Rattle.siri_view.specs.Kept.{HeldSubscription}
use Rattle.siri_document.specs.script.Items.{item_line}
use Rattle.siri_document.specs.script.Spaced.{line_feed}
use Rattle.siri_document.specs.script.ViewLines.{view_line}

-- a line for each item, in order of key
abbrev pub items_text : Items → List ℕ
items_text view = flat_map (λ entry. item_line entry.1 ++ line_feed) view

-- the view of a subscription that a consumer of this name holds: `view CONSUMER ID number N start S round R items K`, and its items
abbrev pub view_text : Name → Name × HeldSubscription → List ℕ
view_text consumer entry =
    (view_line consumer entry.0 (held_by entry.1) (length entry.1.view) ++ line_feed) ++ items_text entry.1.view

-- the views of all that it holds, in byte order of their identifiers
abbrev pub views_text : Consuming → List ℕ
views_text c = flat_map (view_text c.name) c.held
