-- How the rows of a functional delivery lie around its two lists, its items and its removals, in byte order of their
-- names: what stands before the first list, between both and behind the second. In a delivery of visits, journeys or
-- vehicles the items are the first list, in one of situations the removals. For clauses of pieces.
use Rattle.std.specs.Prelude.{List, [], ◌∷◌, ◌++◌, true, Option, Some, None, option_and_then}
use Rattle.json.specs.Token.{Token, key, begin_object, end_object, begin_array, end_array}
use Rattle.serde_json.specs.Data.{Data}
use Rattle.siri_records.specs.declared.item.Item.{Item}
use Rattle.siri_records.specs.declared.item.Service.{Service}
use Rattle.siri_records.specs.declared.item.Service.TheVariants as service
use Rattle.siri_tables.specs.Appended.{row_tokens, entries_tokens}
use Rattle.siri_tables.specs.Writing.{written_flag, written_moment, written_number, written_text}
use Rattle.siri_deliveries.specs.Deliveries.{item_writing}
use Rattle.siri_deliveries.specs.Frames.{written_frame}
use Rattle.siri_deliveries.specs.declared.names.TheConstants.{RESPONSE_TIMESTAMP, STATUS, SUBSCRIBER_REF}
use Rattle.siri_deliveries.specs.declared.names.TheConstants.{SUBSCRIPTION_REF}
use Rattle.siri_deliveries.specs.declared.names.TheConstants.{EXTENSIONS, PART, REMOVED, ROUND, START}
use Rattle.siri_deliveries.specs.declared.names.TheConstants.{MONITORED_STOP_VISIT, MONITORED_STOP_VISIT_CANCELLATION}
use Rattle.siri_deliveries.specs.declared.names.TheConstants.{ESTIMATED_JOURNEY_VERSION_FRAME, VEHICLE_ACTIVITY}
use Rattle.siri_deliveries.specs.declared.names.TheConstants.{VEHICLE_ACTIVITY_CANCELLATION, SITUATIONS}
use Rattle.siri_deliveries.specs.declared.names.TheConstants.{PT_SITUATION_ELEMENT}
use Rattle.siri_deliveries.specs.declared.pieces.DeliveryHead.{DeliveryHead}

-- ---- rows that all services have

-- these, where there is a subscriber
abbrev pub where_subscribed : {A : Type 0} → Option A → List Token → List Token
where_subscribed None tokens = []
where_subscribed (Some subscriber) tokens = tokens

-- these, where there is none
abbrev pub where_unasked : {A : Type 0} → Option A → List Token → List Token
where_unasked None tokens = tokens
where_unasked (Some subscriber) tokens = []

-- Extensions up to its Part
abbrev pub place_begins : DeliveryHead → List Token
place_begins h = where_subscribed h.subscriber
    (key EXTENSIONS.now ∷ begin_object ∷ row_tokens PART.now (written_number h.part))

-- its Round and Start
abbrev pub place_ends : DeliveryHead → List Token
place_ends h = where_subscribed h.subscriber
    (row_tokens ROUND.now (written_number h.round)
    ++ (row_tokens START.now (written_number h.start) ++ end_object ∷ []))

abbrev pub moment_row : DeliveryHead → List Token
moment_row h = row_tokens RESPONSE_TIMESTAMP.now (written_moment h.moment)

-- Status, SubscriberRef and SubscriptionRef
abbrev pub status_rows : DeliveryHead → List Token
status_rows h =
    row_tokens STATUS.now (written_flag true)
    ++ (row_tokens SUBSCRIBER_REF.now (option_and_then written_text h.subscriber)
    ++ row_tokens SUBSCRIPTION_REF.now (option_and_then written_text h.subscription))

-- ---- the rows of a service

abbrev pub front : Service → DeliveryHead → List Token
front service.Stop h = begin_object ∷ (place_begins h ++ place_ends h)
front service.Timetable h = begin_object ∷ []
front service.Vehicle h = begin_object ∷ (place_begins h ++ (place_ends h ++ (moment_row h ++ status_rows h)))
front service.Situation h = begin_object ∷ place_begins h

abbrev pub middle : Service → DeliveryHead → List Token
middle service.Stop h = []
middle service.Timetable h = place_begins h
middle service.Vehicle h = []
middle service.Situation h = place_ends h ++ moment_row h

abbrev pub back : Service → DeliveryHead → List Token
back service.Stop h = moment_row h ++ (status_rows h ++ end_object ∷ [])
back service.Timetable h = place_ends h ++ (moment_row h ++ (status_rows h ++ end_object ∷ []))
back service.Vehicle h = end_object ∷ []
back service.Situation h = status_rows h ++ end_object ∷ []

-- ---- the two lists

abbrev pub items_begin : Service → List Token
items_begin service.Stop = key MONITORED_STOP_VISIT.now ∷ begin_array ∷ []
items_begin service.Timetable = key ESTIMATED_JOURNEY_VERSION_FRAME.now ∷ begin_array ∷ []
items_begin service.Vehicle = key VEHICLE_ACTIVITY.now ∷ begin_array ∷ []
items_begin service.Situation = key SITUATIONS.now ∷ begin_object ∷ key PT_SITUATION_ELEMENT.now ∷ begin_array ∷ []

abbrev pub items_end : Service → List Token
items_end service.Stop = end_array ∷ []
items_end service.Timetable = end_array ∷ []
items_end service.Vehicle = end_array ∷ []
items_end service.Situation = end_array ∷ end_object ∷ []

-- where nothing else stands in Extensions, the removals begin them
abbrev pub removed_begin : DeliveryHead → List Token
removed_begin h = where_unasked h.subscriber (key EXTENSIONS.now ∷ begin_object ∷ [])
    ++ key REMOVED.now ∷ begin_array ∷ []

abbrev pub removals_begin : Service → DeliveryHead → List Token
removals_begin service.Stop h = key MONITORED_STOP_VISIT_CANCELLATION.now ∷ begin_array ∷ []
removals_begin service.Timetable h = removed_begin h
removals_begin service.Vehicle h = key VEHICLE_ACTIVITY_CANCELLATION.now ∷ begin_array ∷ []
removals_begin service.Situation h = removed_begin h

abbrev pub removed_end : DeliveryHead → List Token
removed_end h = end_array ∷ where_unasked h.subscriber (end_object ∷ [])

abbrev pub removals_end : Service → DeliveryHead → List Token
removals_end service.Stop h = end_array ∷ []
removals_end service.Timetable h = removed_end h
removals_end service.Vehicle h = end_array ∷ []
removals_end service.Situation h = removed_end h

-- an item in the list of a service: a journey in a frame of its own
abbrev pub entry_writing : Service → Item → Option Data
entry_writing service.Stop i = item_writing i
entry_writing service.Timetable i = written_frame i
entry_writing service.Vehicle i = item_writing i
entry_writing service.Situation i = item_writing i

-- a list is left out where it is empty
abbrev pub listed : List Token → List Token → List Data → List Token
listed begin end [] = []
listed begin end (d ∷ ds) = begin ++ (entries_tokens (d ∷ ds) ++ end)
