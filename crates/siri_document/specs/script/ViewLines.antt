-- The line of a view.
use Rattle.std.specs.Prelude.{ℕ, List, codes}
use Rattle.std.specs.Fmt.{decimal}
use Rattle.siri_view.specs.declared.outcome.Held.{Held}
use Rattle.siri_document.specs.script.Spaced.{spaced}

-- `number N start S round R`
abbrev pub held_text : Held → List ℕ
held_text held =
    spaced (spaced (codes "number") (decimal held.number)) (
    spaced (spaced (codes "start") (decimal held.start)) (spaced (codes "round") (decimal held.round)))

-- `view CONSUMER ID number N start S round R items K`
abbrev pub view_line : (consumer identifier : List ℕ) → Held → (items : ℕ) → List ℕ
view_line consumer identifier held items =
    spaced (codes "view") (spaced consumer (spaced identifier (spaced (held_text held) (spaced (codes "items") (decimal items)))))
