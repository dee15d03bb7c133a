use Rattle.siri_store.proofs.OwnKeys.{places_are, places_rise}
use Rattle.siri_store.proofs.candidates.asked.Goals as goal

pub returns-clause-rising : goal.returns-clause-rising
returns-clause-rising c =
    places_rise c.args.topic.now c.args.changes.now c.first_change_from.result c.first_change_from-2.result c.first_change_from.ensures.within
    c.first_change_from.ensures.below c.first_change_from-2.ensures.above

pub returns-clause-places : goal.returns-clause-places
returns-clause-places c =
    let rising = places_rise c.args.topic.now c.args.changes.now c.first_change_from.result c.first_change_from-2.result
    c.first_change_from.ensures.within c.first_change_from.ensures.below c.first_change_from-2.ensures.above in
    places_are c.args.topic.now c.args.changes.now c.first_change_from.result c.first_change_from-2.result rising
    c.first_change_from.ensures.below c.first_change_from.ensures.above c.first_change_from-2.ensures.below c.first_change_from-2.ensures.above
