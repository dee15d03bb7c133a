use Rattle.siri_tables.proofs.TableLaws.{is_spelled}
use Rattle.siri_items.specs.Calls.{stop_call, location}
use Rattle.siri_items.specs.Visits.{visit_journey}
use Rattle.siri_items.specs.Vehicles.{vehicle_journey}
use Rattle.siri_items.specs.Situations.{period, affected}
use Rattle.siri_items.proofs.References.{framed_ref_spelled, framed_ref_reads}
use Rattle.siri_items.proofs.CallTables.{call_laws, location_laws}
use Rattle.siri_items.proofs.ItemTables.{visit_journey_laws, vehicle_journey_laws, period_laws}
use Rattle.siri_items.proofs.Affects.{affected_laws}
use Rattle.siri_items.proofs.laws.tables_are_spelled.Goals as goal

pub returns-clause-of_framed_ref : goal.returns-clause-of_framed_ref
returns-clause-of_framed_ref c = λ d r. (framed_ref_spelled d r, framed_ref_reads d r)

pub returns-clause-of_call : goal.returns-clause-of_call
unfolding stop_call
returns-clause-of_call c = is_spelled call_laws

pub returns-clause-of_location : goal.returns-clause-of_location
unfolding location
returns-clause-of_location c = is_spelled location_laws

pub returns-clause-of_visit_journey : goal.returns-clause-of_visit_journey
unfolding visit_journey
returns-clause-of_visit_journey c = is_spelled visit_journey_laws

pub returns-clause-of_vehicle_journey : goal.returns-clause-of_vehicle_journey
unfolding vehicle_journey
returns-clause-of_vehicle_journey c = is_spelled vehicle_journey_laws

pub returns-clause-of_period : goal.returns-clause-of_period
unfolding period
returns-clause-of_period c = is_spelled period_laws

pub returns-clause-of_affected : goal.returns-clause-of_affected
unfolding affected
returns-clause-of_affected c = is_spelled affected_laws
