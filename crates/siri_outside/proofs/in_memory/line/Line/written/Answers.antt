use Rattle.std.specs.Prelude.{option_map, option_to_list, slice_get}
use Rattle.std.proofs.Common.{◌≡◌, ◌++◌, length, Option, Some, None, sym, ap, ◌∙◌, subst, append-nil}
use Rattle.std.proofs.lemmas.Option.{slice_get-get_or, slice_get_past}
use Rattle.siri_outside.specs.InMemoryLines.{LineState}
use Rattle.siri_outside.specs.Wires.{texts}
use Rattle.siri_outside.specs.declared.in_memory.line.Taken.{Taken}
use Rattle.siri_outside.proofs.Lines.{at_end, bytes_of, in_front, line_text, past_end}
use Rattle.siri_outside.proofs.in_memory.line.Line.written.Goals as goal
use Rattle.siri_outside.proofs.in_memory.line.Line.written.Goals.{in_default-last-via-in-Some-last+else-place-len, in_default-last-via-in_default-last}

pub returns-in-Some : goal.returns-in-Some
returns-in-Some c =
    let here : slice_get c.self.inside.before.items c.args.place ≡ Some c.in-Some.taken.now =
    subst (λ l. slice_get l c.args.place ≡ Some c.in-Some.taken.now) c.deref.ensures.value
    (slice_get-get_or c.deref.result.now c.args.place c.in-Some.taken.now c.in-Some.ensures.lookup.3.0
    ∙ ap (λ taken. Some taken) (sym c.in-Some.ensures.lookup.1)) in
    sym c.bytes.ensures
    ∙ sym (ap (option_map bytes_of) (in_front c.self.inside.before.items (option_to_list c.self.inside.last) c.in-Some.taken.now c.args.place here))
    ∙ sym (line_text c.self.inside.last c.self.inside.before.items c.args.place)
    ∙ ap (λ (v : LineState). slice_get (texts v.wire) c.args.place) c.self.view_is

pub returns-in-Some-last : goal.returns-in-Some-last
returns-in-Some-last c =
    let here : slice_get (c.self.inside.before.items ++ option_to_list c.self.inside.last) c.args.place ≡ Some c.in-Some-last.last =
    ap (λ (o : Option Taken). slice_get (c.self.inside.before.items ++ option_to_list o) c.args.place) c.in-Some-last.is
    ∙ at_end c.self.inside.before.items c.in-Some-last.last c.args.place
    (c.if-place-len.true ∙ c.len.ensures ∙ sym c.deref.ensures.len ∙ ap length c.deref.ensures.value) in
    sym c.bytes-in-Some-last.ensures
    ∙ sym (ap (option_map bytes_of) here)
    ∙ sym (line_text c.self.inside.last c.self.inside.before.items c.args.place)
    ∙ ap (λ (v : LineState). slice_get (texts v.wire) c.args.place) c.self.view_is

pub returns-in_default-last : goal.returns-in_default-last
returns-in_default-last c =
    let past : slice_get c.self.inside.before.items c.args.place ≡ None =
    subst (λ l. slice_get l c.args.place ≡ None) c.deref.ensures.value
    (slice_get_past c.deref.result.now c.args.place c.in_default.ensures.lookup.3) in
    let none : slice_get (c.self.inside.before.items ++ option_to_list c.self.inside.last) c.args.place ≡ None =
    elim c.in_default-last.branch [
      | in_default-last-via-in-Some-last+else-place-len w ↦
          ap (λ (o : Option Taken). slice_get (c.self.inside.before.items ++ option_to_list o) c.args.place) w.in-Some-last.is
          ∙ past_end c.self.inside.before.items w.in-Some-last.last c.args.place past
          (λ is. w.if-place-len.false (is ∙ sym (w.len.ensures ∙ sym c.deref.ensures.len ∙ ap length c.deref.ensures.value)))
      | in_default-last-via-in_default-last w ↦
          ap (λ (o : Option Taken). slice_get (c.self.inside.before.items ++ option_to_list o) c.args.place) w.in_default-last.is
          ∙ ap (λ l. slice_get l c.args.place) (append-nil c.self.inside.before.items) ∙ past
    ] in
    sym (ap (option_map bytes_of) none)
    ∙ sym (line_text c.self.inside.last c.self.inside.before.items c.args.place)
    ∙ ap (λ (v : LineState). slice_get (texts v.wire) c.args.place) c.self.view_is
