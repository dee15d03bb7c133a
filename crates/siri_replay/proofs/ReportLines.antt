-- The lines of a report, written one after the other.
use Rattle.std.proofs.Common.{◌≡◌, ℕ, ◌+◌, ◌<◌, List, [], ◌∷◌, ◌++◌, refl, sym, ap, ◌∙◌, subst, append-nil, length, take, drop, get_or, take-append-drop}
use Rattle.std.specs.Prelude.{flat_map}
use Rattle.std.specs.Io.KnownBytes.{Appends}
use Rattle.std.proofs.KnownBytes.{Appends-trans}
use Rattle.std.proofs.lemmas.List.{take_more}
use Rattle.std.proofs.lemmas.Grind.{flat_map-append}
use Rattle.siri_lines.specs.Ends.{Bytes, AppendsFront}
use Rattle.siri_world_model.specs.declared.line.Line.{Line}
use Rattle.siri_world_model.specs.Lines.{told_line, told_lines}
use Rattle.siri_replay.specs.ReportLines.{line_text, lines_text}
use Rattle.siri_lines.proofs.Written.{front_longer, front_more}

-- the text of a line
abbrev text_of : Line → List ℕ
text_of line = line_text (told_line line)

-- the texts of lines as they are told
texts_are : (lines : List Line) → lines_text (told_lines lines) ≡ flat_map text_of lines
texts_are [] = refl
texts_are (line ∷ lines) = ap (λ text. text_of line ++ text) (texts_are lines)

-- the texts of lines, with one more
one_more : (written : List Line) (i : ℕ) (line : Line) → i < length written → line ≡ get_or written i line
    → flat_map text_of (take (i + 1) written) ≡ flat_map text_of (take i written) ++ text_of line
one_more written i line h is =
    ap (flat_map text_of) (take_more written i line h)
    ∙ flat_map-append text_of (take i written) (get_or written i line ∷ [])
    ∙ ap (λ l. flat_map text_of (take i written) ++ (text_of l ++ [])) (sym is)
    ∙ ap (λ text. flat_map text_of (take i written) ++ text) (append-nil (text_of line))

-- some lines were written, and the next
pub lines_more : (a b c : Bytes) (written : List Line) (i : ℕ) (line : Line) → i < length written
    → line ≡ get_or written i line → Appends a b (lines_text (told_lines (take i written)))
    → Appends b c (line_text (told_line line)) → Appends a c (lines_text (told_lines (take (i + 1) written)))
lines_more a b c written i line h is p q =
    let before : Appends a b (flat_map text_of (take i written)) = subst (Appends a b) (texts_are (take i written)) p in
    subst (Appends a c) (sym (texts_are (take (i + 1) written) ∙ one_more written i line h is))
    (Appends-trans a b c (flat_map text_of (take i written)) (text_of line) before q)

-- some lines were written, and a front of the next
pub lines_cut : (a b c : Bytes) (written : List Line) (i : ℕ) (line : Line) → i < length written
    → line ≡ get_or written i line → Appends a b (lines_text (told_lines (take i written)))
    → AppendsFront b c (line_text (told_line line)) → AppendsFront a c (lines_text (told_lines written))
lines_cut a b c written i line h is p w =
    let next = one_more written i line h is in
    let whole : flat_map text_of (take (i + 1) written) ++ flat_map text_of (drop (i + 1) written) ≡ lines_text (told_lines written) =
    sym (flat_map-append text_of (take (i + 1) written) (drop (i + 1) written))
    ∙ ap (flat_map text_of) (take-append-drop (i + 1) written) ∙ sym (texts_are written) in
    let before : Appends a b (flat_map text_of (take i written)) = subst (Appends a b) (texts_are (take i written)) p in
    let front : AppendsFront a c (flat_map text_of (take (i + 1) written)) =
    subst (AppendsFront a c) (sym next) (front_more a b c (flat_map text_of (take i written))
    (text_of line) before w) in
    subst (AppendsFront a c) whole (front_longer a c (flat_map text_of (take (i + 1) written)) (flat_map text_of (drop (i + 1) written)) front)
