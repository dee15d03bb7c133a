use Rattle.std.proofs.Common.{◌≡◌, ◌∷◌, [], List, length, refl, sym, ap, ◌∙◌, subst}
use Rattle.std.proofs.lemmas.List.{length-map}
use Rattle.std.specs.Prelude.{option_and_then}
use Rattle.json.specs.Token.{Token, begin_object, end_object}
use Rattle.siri_messages.specs.declared.deliveries.ServiceDelivery.{ServiceDelivery}
use Rattle.siri_records.specs.declared.item.Service.{Service}
use Rattle.siri_records.specs.declared.item.Service.TheVariants as service
use Rattle.siri_tables.specs.Appended.{row_tokens}
use Rattle.siri_tables.specs.Writing.{written_flag, written_moment, written_text}
use Rattle.siri_deliveries.specs.WrittenValues.{written_error, written_where_true}
use Rattle.siri_deliveries.specs.declared.names.TheConstants.{ERROR_CONDITION, ESTIMATED_TIMETABLE_DELIVERY, MORE_DATA}
use Rattle.siri_deliveries.specs.declared.names.TheConstants.{PRODUCER_REF}
use Rattle.siri_deliveries.specs.declared.names.TheConstants.{REQUEST_MESSAGE_REF, RESPONSE_MESSAGE_IDENTIFIER}
use Rattle.siri_deliveries.specs.declared.names.TheConstants.{RESPONSE_TIMESTAMP}
use Rattle.siri_deliveries.specs.declared.names.TheConstants.{SITUATION_EXCHANGE_DELIVERY, STATUS}
use Rattle.siri_deliveries.specs.declared.names.TheConstants.{STOP_MONITORING_DELIVERY}
use Rattle.siri_deliveries.specs.declared.names.TheConstants.{VEHICLE_MONITORING_DELIVERY}
use Rattle.siri_deliveries.specs.Frame.{GoesOn, deliveries_of, without_entries, without_own_entries}
use Rattle.siri_deliveries.proofs.InOrder.{service_delivery_in_order}
use Rattle.siri_deliveries.proofs.Framed.{row_on, row_as, stop_trees, timetable_trees, vehicle_trees, situation_trees}
use Rattle.siri_deliveries.proofs.frame.write_frame.Goals as goal

-- as many deliveries as in the head
counted : (s : Service) (d : ServiceDelivery)
    → length (deliveries_of s (without_entries d)) ≡ length (deliveries_of s d)
counted service.Stop d = length-map d.stop_monitoring_delivery without_own_entries
counted service.Timetable d = length-map d.estimated_timetable_delivery without_own_entries
counted service.Vehicle d = length-map d.vehicle_monitoring_delivery without_own_entries
counted service.Situation d = length-map d.situation_exchange_delivery without_own_entries

as_many : (s : Service) (d head : ServiceDelivery) → without_entries d ≡ without_entries head
    → length (deliveries_of s d) ≡ length (deliveries_of s head)
as_many s d head same = sym (counted s d) ∙ ap (λ h. length (deliveries_of s h)) same ∙ counted s head

-- a row that says the same of both
same_row : (row : ServiceDelivery → List Token) (d head : ServiceDelivery) → without_entries d ≡ without_entries head
    → row (without_entries head) ≡ row (without_entries d)
same_row row d head same = sym (ap row same)

pub returns-clause-text : goal.returns-clause-text
returns-clause-text c d ts same goes =
    let h = c.args.head.now in
    let g0 = row_on d c.args.pieces.now c.args.out.now c.begin_object.new.self ts (begin_object ∷ [])
    (begin_object ∷ []) c.in_ok-begin_object.ensures.ok refl goes in
    let g1 = row_on d c.args.pieces.now c.begin_object.new.self c.optional.new.out _ _ _ c.in_ok-optional.ensures
    (same_row (λ x. row_tokens ERROR_CONDITION.now (option_and_then written_error x.error_condition)) d h same) g0 in
    let g2 = row_as d c.deliveries_row.new.pieces c.deliveries_row.new.out _ _ _
    (timetable_trees ESTIMATED_TIMETABLE_DELIVERY.now d.estimated_timetable_delivery)
    (c.in_ok-deliveries_row.ensures.text d _ (as_many service.Timetable d h same ∙ sym c.len-count.ensures) g1) in
    let g3 = row_on d c.deliveries_row.new.pieces c.deliveries_row.new.out c.true_row.new.out _ _ _
    c.in_ok-true_row.ensures
    (same_row (λ x. row_tokens MORE_DATA.now (written_where_true x.more_data)) d h same) g2 in
    let g4 = row_on d c.deliveries_row.new.pieces c.true_row.new.out c.optional-2.new.out _ _ _
    c.in_ok-optional-2.ensures
    (same_row (λ x. row_tokens PRODUCER_REF.now (option_and_then written_text x.producer_ref)) d h same) g3 in
    let g5 = row_on d c.deliveries_row.new.pieces c.optional-2.new.out c.optional-3.new.out _ _ _
    c.in_ok-optional-3.ensures
    (same_row (λ x. row_tokens REQUEST_MESSAGE_REF.now (option_and_then written_text x.request_message_ref)) d h same)
    g4 in
    let g6 = row_on d c.deliveries_row.new.pieces c.optional-3.new.out c.optional-4.new.out _ _ _
    c.in_ok-optional-4.ensures
    (same_row (λ x. row_tokens RESPONSE_MESSAGE_IDENTIFIER.now
    (option_and_then written_text x.response_message_identifier)) d h same) g5 in
    let g7 = row_on d c.deliveries_row.new.pieces c.optional-4.new.out c.optional-5.new.out _ _ _
    c.in_ok-optional-5.ensures
    (same_row (λ x. row_tokens RESPONSE_TIMESTAMP.now (option_and_then written_moment x.response_timestamp)) d h same)
    g6 in
    let g8 = row_as d c.deliveries_row-2.new.pieces c.deliveries_row-2.new.out _ _ _
    (situation_trees SITUATION_EXCHANGE_DELIVERY.now d.situation_exchange_delivery)
    (c.in_ok-deliveries_row-2.ensures.text d _ (as_many service.Situation d h same ∙ sym c.len-count-2.ensures) g7) in
    let g9 = row_on d c.deliveries_row-2.new.pieces c.deliveries_row-2.new.out c.required.new.out _ _ _
    c.in_ok-required.ensures
    (same_row (λ x. row_tokens STATUS.now (written_flag x.status)) d h same) g8 in
    let g10 = row_as d c.deliveries_row-3.new.pieces c.deliveries_row-3.new.out _ _ _
    (stop_trees STOP_MONITORING_DELIVERY.now d.stop_monitoring_delivery)
    (c.in_ok-deliveries_row-3.ensures.text d _ (as_many service.Stop d h same ∙ sym c.len-count-3.ensures) g9) in
    let g11 = row_as d c.deliveries_row-4.new.pieces c.deliveries_row-4.new.out _ _ _
    (vehicle_trees VEHICLE_MONITORING_DELIVERY.now d.vehicle_monitoring_delivery)
    (c.in_ok-deliveries_row-4.ensures.text d _ (as_many service.Vehicle d h same ∙ sym c.len-count-4.ensures) g10) in
    let g12 = row_on d c.deliveries_row-4.new.pieces c.deliveries_row-4.new.out c.end_object.new.self _
    (end_object ∷ []) (end_object ∷ []) c.in_ok-end_object.ensures.ok refl g11 in
    subst (λ (t : List Token). GoesOn d c.deliveries_row-4.new.pieces c.end_object.new.self t)
    (service_delivery_in_order ts d) g12
