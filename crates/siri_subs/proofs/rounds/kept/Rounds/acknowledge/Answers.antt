use Rattle.std.proofs.Common.{◌≡◌, suc, ◌+◌, true, false, ◌&&◌, nat_eq, nat_lt, subst, ap, sym, ◌∙◌, add-one}
use Rattle.siri_change.specs.Parts.{parts_count}
use Rattle.siri_life.specs.Slot.{with_acknowledgement}
use Rattle.siri_subs.proofs.Parted.{kept_by, is_hit, is_missed, last_taken, next_taken}
use Rattle.siri_subs.proofs.rounds.kept.Rounds.acknowledge.Goals as goal

pub returns-then-is_last-clause-rounds : goal.returns-then-is_last-clause-rounds
returns-then-is_last-clause-rounds c =
    let kept = c.self.inside in
    let o = c.in-Some.round in
    let round = c.args.place.round in
    let part = c.args.place.part in
    let now = c.args.now in
    let found : (nat_eq round c.place.result.round && nat_eq part c.place.result.part) ≡ true =
    is_hit (nat_eq round c.place.result.round && nat_eq part c.place.result.part) c.ne.result c.ne.ensures
    c.if-ne.false in
    let hit : (nat_eq round kept.last && nat_eq part (suc o.acknowledged_parts)) ≡ true =
    subst (λ p. (nat_eq round p.round && nat_eq part p.part) ≡ true) c.place.ensures found in
    let last : nat_lt (suc o.acknowledged_parts) (parts_count o.changes) ≡ false =
    is_missed (nat_lt (suc o.acknowledged_parts) (parts_count o.changes)) c.is_last.result c.is_last.ensures.last
    c.if-is_last.true in
    (λ i. kept_by kept.fetched (c.make.ensures i) kept.last (c.take.ensures.after i))
    ∙ (sym (last_taken kept.fetched kept.acknowledged kept.last o round part now hit last)
    ∙ (ap (λ r. with_acknowledgement (kept_by kept.fetched kept.acknowledged kept.last r) round part now) (sym c.in-Some.is ∙ c.take.ensures.value)
    ∙ ap (λ s. with_acknowledgement s round part now) c.self.view_is))

pub returns-else-is_last-clause-rounds : goal.returns-else-is_last-clause-rounds
returns-else-is_last-clause-rounds c =
    let kept = c.self.inside in
    let o = c.in-Some.round in
    let round = c.args.place.round in
    let part = c.args.place.part in
    let now = c.args.now in
    let found : (nat_eq round c.place.result.round && nat_eq part c.place.result.part) ≡ true =
    is_hit (nat_eq round c.place.result.round && nat_eq part c.place.result.part) c.ne.result c.ne.ensures
    c.if-ne.false in
    let hit : (nat_eq round kept.last && nat_eq part (suc o.acknowledged_parts)) ≡ true =
    subst (λ p. (nat_eq round p.round && nat_eq part p.part) ≡ true) c.place.ensures found in
    let more : nat_lt (suc o.acknowledged_parts) (parts_count o.changes) ≡ true =
    is_hit (nat_lt (suc o.acknowledged_parts) (parts_count o.changes)) c.is_last.result c.is_last.ensures.last
    c.if-is_last.false in
    c.keep-else-is_last.ensures
    ∙ (sym (next_taken kept.fetched kept.acknowledged kept.last o round part now
    (o.acknowledged_parts + 1) c.then_some-round.result hit more
    (add-one o.acknowledged_parts) c.then_some-round.ensures)
    ∙ (ap (λ r. with_acknowledgement (kept_by kept.fetched kept.acknowledged kept.last r) round part now) (sym c.in-Some.is ∙ c.take.ensures.value)
    ∙ ap (λ s. with_acknowledgement s round part now) c.self.view_is))
