use Rattle.siri_store.proofs.OwnKeys.{places_are, places_rise}
use Rattle.siri_store.proofs.candidates.candidates.Goals as goal

pub returns-clause-rising : goal.returns-clause-rising
returns-clause-rising c =
    places_rise c.args.topic.now c.args.items.now c.first_from.result c.first_from-2.result c.first_from.ensures.within
    c.first_from.ensures.below c.first_from-2.ensures.above

pub returns-clause-places : goal.returns-clause-places
returns-clause-places c =
    let rising = places_rise c.args.topic.now c.args.items.now c.first_from.result c.first_from-2.result
    c.first_from.ensures.within c.first_from.ensures.below c.first_from-2.ensures.above in
    places_are c.args.topic.now c.args.items.now c.first_from.result c.first_from-2.result rising
    c.first_from.ensures.below c.first_from.ensures.above c.first_from-2.ensures.below c.first_from-2.ensures.above
