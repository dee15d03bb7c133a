use Rattle.siri_store.proofs.store.Store.first_shown.Goals as goal

pub returns-clause-steps : goal.returns-clause-steps
returns-clause-steps c = rw (← c.self.view_is) c.first_shown.ensures.steps

pub returns-clause-at_most : goal.returns-clause-at_most
returns-clause-at_most c = rw (← c.self.view_is) c.first_shown.ensures.at_most
