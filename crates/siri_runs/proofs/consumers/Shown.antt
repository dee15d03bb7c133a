-- What is shown is written piece by piece: of a view its items, of a consumer its views.
use Rattle.std.proofs.Common.{◌≡◌, ℕ, List, ◌++◌, length, ap, ◌∙◌, subst}
use Rattle.std.specs.Io.KnownBytes.{Appends}
use Rattle.siri_life.specs.Named.{Name}
use Rattle.siri_lines.specs.Ends.{Bytes, AppendsFront}
use Rattle.siri_records.specs.Keyed.{Items}
use Rattle.siri_records.specs.declared.item.Item.{Item}
use Rattle.siri_records.specs.declared.key.Key.{Key}
use Rattle.siri_view.specs.declared.outcome.Held.{Held}
use Rattle.siri_document.specs.script.Items.{item_line}
use Rattle.siri_document.specs.script.Spaced.{line_feed}
use Rattle.siri_document.specs.script.ViewLines.{view_line}
use Rattle.siri_runs.specs.consumers.Views.{items_text}

-- an item of a view, and its line
abbrev pub item_of : Key × Item → Item
item_of entry = entry.1

abbrev pub line_of : Item → List ℕ
line_of item = item_line item ++ line_feed

-- the lines of a view that is shown
abbrev pub lines_of : Name → Name × Held × Items → List ℕ
lines_of consumer s = (view_line consumer s.0 s.1 (length s.2) ++ line_feed) ++ items_text s.2

-- a text that is equal was written
pub ended_is : (a b : Bytes) (text same : List ℕ) → text ≡ same → Appends a b (text ++ line_feed) → Appends a b (same ++ line_feed)
ended_is a b text same is p = subst (λ (t : List ℕ). Appends a b (t ++ line_feed)) is p

pub front_is : (a b : Bytes) (text same : List ℕ) → text ≡ same → AppendsFront a b (text ++ line_feed) → AppendsFront a b (same ++ line_feed)
front_is a b text same is p = subst (λ (t : List ℕ). AppendsFront a b (t ++ line_feed)) is p

-- of a consumer of the same name
pub lines_are : (a b : Bytes) (name same : Name) (s : Name × Held × Items) → name ≡ same → Appends a b (lines_of name s) → Appends a b (lines_of same s)
lines_are a b name same s is p = subst (λ (n : Name). Appends a b (lines_of n s)) is p

pub front_are : (a b : Bytes) (name same : Name) (s : Name × Held × Items) → name ≡ same
    → AppendsFront a b (lines_of name s) → AppendsFront a b (lines_of same s)
front_are a b name same s is p = subst (λ (n : Name). AppendsFront a b (lines_of n s)) is p

-- the line of a view with as many items
pub line_is : (consumer identifier : Name) (held : Held) (view : Items) (items : ℕ) (text : List ℕ)
    → text ≡ view_line consumer identifier held items → items ≡ length view
    → text ≡ view_line consumer identifier held (length view)
line_is consumer identifier held view items text is number = is ∙ ap (view_line consumer identifier held) number
