use Rattle.std.proofs.Common.{◌∙◌, ap}
use Rattle.siri_records.specs.Keys.{key_of}
use Rattle.siri_store.proofs.store.Store.observe.Goals as goal

pub observe_under-requires : goal.observe_under-requires
observe_under-requires c = record { alive = c.requires; own = c.in-Ok.ensures ∙ ap key_of c.deref.ensures }
