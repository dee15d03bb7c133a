use Rattle.std.proofs.Common.{sym, ap, ◌∙◌, get_or, set}
use Rattle.std.specs.List.{remove}
use Rattle.siri_doors.proofs.Places.{decides_at, gathers_at, refuses_at}
use Rattle.siri_doors.proofs.waiting.Waiting.come.Goals as goal

pub returns-then-not-has_room-clause-ok : goal.returns-then-not-has_room-clause-ok
returns-then-not-has_room-clause-ok g c =
    refuses_at c.args.slot (g.P.Patience.whole c.args.patience.now) c.args.piece.now c.args.self.now c.remove.new.self.items c.in-Some.place
    c.in-Some.ensures (sym c.has_room.ensures ∙ c.if-not-has_room.true)
    (c.remove.ensures.items ∙ ap (λ l. remove l c.in-Some.place) c.self.view_is)

pub returns-then-is_whole-clause-ok : goal.returns-then-is_whole-clause-ok
returns-then-is_whole-clause-ok g c =
    let p = c.in-Some.place in
    let old = c.index_mut-gathered.result.now in
    let x = c.append.new.self in
    let given = c.remove-then-is_whole.result in
    decides_at c.args.slot (g.P.Patience.whole c.args.patience.now) c.args.piece.now c.args.self.now c.remove-then-is_whole.new.self.items p old x given
    c.in-Some.ensures (sym c.has_room.ensures ∙ c.if-not-has_room.false)
    (c.index_mut-gathered.ensures.value ∙ ap (λ l. get_or l p old) c.self.view_is)
    c.in_ok-append.ensures.ok
    (ap (g.P.Patience.whole c.args.patience.now) (sym c.bytes.ensures) ∙ sym c.is_whole.ensures ∙ c.if-is_whole.true)
    (c.remove-then-is_whole.ensures.value ∙ ap (λ l. get_or (set l p x) p given) c.self.view_is)
    (c.remove-then-is_whole.ensures.items ∙ ap (λ l. remove (set l p x) p) c.self.view_is)

pub returns-clause-ok : goal.returns-clause-ok
returns-clause-ok g c =
    let p = c.in-Some.place in
    let old = c.index_mut-gathered.result.now in
    let x = c.append.new.self in
    gathers_at c.args.slot (g.P.Patience.whole c.args.patience.now) c.args.piece.now c.args.self.now (set c.self.inside.list.items p x) p old x
    c.in-Some.ensures (sym c.has_room.ensures ∙ c.if-not-has_room.false)
    (c.index_mut-gathered.ensures.value ∙ ap (λ l. get_or l p old) c.self.view_is)
    c.in_ok-append.ensures.ok
    (ap (g.P.Patience.whole c.args.patience.now) (sym c.bytes.ensures) ∙ sym c.is_whole.ensures ∙ c.if-is_whole.false)
    (ap (λ l. set l p x) c.self.view_is)
