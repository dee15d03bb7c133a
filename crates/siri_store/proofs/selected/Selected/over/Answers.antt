use Rattle.siri_store.proofs.OwnKeys.{shown_there}
use Rattle.siri_store.proofs.selected.Selected.over.Goals as goal

pub returns-clause-lends : goal.returns-clause-lends
returns-clause-lends c =
    let places = c.candidates-places in
    shown_there c.args.topic.now c.args.moment c.args.entries.now places.result.start places.result.end c.requires
    places.ensures.places
