-- How documents spell the names of members (EN 15531-3, CEN/TS 15531-5): a row a name. The tables name their members by
-- the constants on the left.
use Rattle.std.specs.Prelude.{◌≡◌, codes}
use Rattle.siri_items.specs.declared.names.TheConstants.{STOP_POINT_REF, ORDER, STOP_POINT_NAME, VEHICLE_AT_STOP, AIMED_ARRIVAL_TIME}
use Rattle.siri_items.specs.declared.names.TheConstants.{EXPECTED_ARRIVAL_TIME, ACTUAL_ARRIVAL_TIME, ARRIVAL_STATUS, ARRIVAL_PLATFORM_NAME}
use Rattle.siri_items.specs.declared.names.TheConstants.{AIMED_DEPARTURE_TIME, EXPECTED_DEPARTURE_TIME, ACTUAL_DEPARTURE_TIME}
use Rattle.siri_items.specs.declared.names.TheConstants.{DEPARTURE_STATUS, DEPARTURE_PLATFORM_NAME, FRAMED_VEHICLE_JOURNEY_REF}
use Rattle.siri_items.specs.declared.names.TheConstants.{DATA_FRAME_REF, DATED_VEHICLE_JOURNEY_REF, LINE_REF, DIRECTION_REF}
use Rattle.siri_items.specs.declared.names.TheConstants.{PUBLISHED_LINE_NAME, OPERATOR_REF, DESTINATION_REF, DESTINATION_NAME, VEHICLE_REF}
use Rattle.siri_items.specs.declared.names.TheConstants.{MONITORED, OCCUPANCY, DELAY, VEHICLE_LOCATION, LONGITUDE, LATITUDE, MONITORED_CALL}
use Rattle.siri_items.specs.declared.names.TheConstants.{RECORDED_AT_TIME, ITEM_IDENTIFIER, MONITORING_REF, MONITORED_VEHICLE_JOURNEY}
use Rattle.siri_items.specs.declared.names.TheConstants.{CANCELLATION, RECORDED_CALLS, RECORDED_CALL, ESTIMATED_CALLS, ESTIMATED_CALL}
use Rattle.siri_items.specs.declared.names.TheConstants.{VALID_UNTIL_TIME, CREATION_TIME, PARTICIPANT_REF, SITUATION_NUMBER, VERSION}
use Rattle.siri_items.specs.declared.names.TheConstants.{VERSIONED_AT_TIME, PROGRESS, VALIDITY_PERIOD, START_TIME, END_TIME, SEVERITY}
use Rattle.siri_items.specs.declared.names.TheConstants.{SUMMARY, DESCRIPTION, AFFECTS, OPERATORS, AFFECTED_OPERATOR, NETWORKS}
use Rattle.siri_items.specs.declared.names.TheConstants.{AFFECTED_NETWORK, AFFECTED_LINE, STOP_POINTS, AFFECTED_STOP_POINT}

abbrev pub MembersAreSpelled : Type 0
MembersAreSpelled =
    (STOP_POINT_REF.now ≡ codes "StopPointRef") ×
    (ORDER.now ≡ codes "Order") ×
    (STOP_POINT_NAME.now ≡ codes "StopPointName") ×
    (VEHICLE_AT_STOP.now ≡ codes "VehicleAtStop") ×
    (AIMED_ARRIVAL_TIME.now ≡ codes "AimedArrivalTime") ×
    (EXPECTED_ARRIVAL_TIME.now ≡ codes "ExpectedArrivalTime") ×
    (ACTUAL_ARRIVAL_TIME.now ≡ codes "ActualArrivalTime") ×
    (ARRIVAL_STATUS.now ≡ codes "ArrivalStatus") ×
    (ARRIVAL_PLATFORM_NAME.now ≡ codes "ArrivalPlatformName") ×
    (AIMED_DEPARTURE_TIME.now ≡ codes "AimedDepartureTime") ×
    (EXPECTED_DEPARTURE_TIME.now ≡ codes "ExpectedDepartureTime") ×
    (ACTUAL_DEPARTURE_TIME.now ≡ codes "ActualDepartureTime") ×
    (DEPARTURE_STATUS.now ≡ codes "DepartureStatus") ×
    (DEPARTURE_PLATFORM_NAME.now ≡ codes "DeparturePlatformName") ×
    (FRAMED_VEHICLE_JOURNEY_REF.now ≡ codes "FramedVehicleJourneyRef") ×
    (DATA_FRAME_REF.now ≡ codes "DataFrameRef") ×
    (DATED_VEHICLE_JOURNEY_REF.now ≡ codes "DatedVehicleJourneyRef") ×
    (LINE_REF.now ≡ codes "LineRef") ×
    (DIRECTION_REF.now ≡ codes "DirectionRef") ×
    (PUBLISHED_LINE_NAME.now ≡ codes "PublishedLineName") ×
    (OPERATOR_REF.now ≡ codes "OperatorRef") ×
    (DESTINATION_REF.now ≡ codes "DestinationRef") ×
    (DESTINATION_NAME.now ≡ codes "DestinationName") ×
    (VEHICLE_REF.now ≡ codes "VehicleRef") ×
    (MONITORED.now ≡ codes "Monitored") ×
    (OCCUPANCY.now ≡ codes "Occupancy") ×
    (DELAY.now ≡ codes "Delay") ×
    (VEHICLE_LOCATION.now ≡ codes "VehicleLocation") ×
    (LONGITUDE.now ≡ codes "Longitude") ×
    (LATITUDE.now ≡ codes "Latitude") ×
    (MONITORED_CALL.now ≡ codes "MonitoredCall") ×
    (RECORDED_AT_TIME.now ≡ codes "RecordedAtTime") ×
    (ITEM_IDENTIFIER.now ≡ codes "ItemIdentifier") ×
    (MONITORING_REF.now ≡ codes "MonitoringRef") ×
    (MONITORED_VEHICLE_JOURNEY.now ≡ codes "MonitoredVehicleJourney") ×
    (CANCELLATION.now ≡ codes "Cancellation") ×
    (RECORDED_CALLS.now ≡ codes "RecordedCalls") ×
    (RECORDED_CALL.now ≡ codes "RecordedCall") ×
    (ESTIMATED_CALLS.now ≡ codes "EstimatedCalls") ×
    (ESTIMATED_CALL.now ≡ codes "EstimatedCall") ×
    (VALID_UNTIL_TIME.now ≡ codes "ValidUntilTime") ×
    (CREATION_TIME.now ≡ codes "CreationTime") ×
    (PARTICIPANT_REF.now ≡ codes "ParticipantRef") ×
    (SITUATION_NUMBER.now ≡ codes "SituationNumber") ×
    (VERSION.now ≡ codes "Version") ×
    (VERSIONED_AT_TIME.now ≡ codes "VersionedAtTime") ×
    (PROGRESS.now ≡ codes "Progress") ×
    (VALIDITY_PERIOD.now ≡ codes "ValidityPeriod") ×
    (START_TIME.now ≡ codes "StartTime") ×
    (END_TIME.now ≡ codes "EndTime") ×
    (SEVERITY.now ≡ codes "Severity") ×
    (SUMMARY.now ≡ codes "Summary") ×
    (DESCRIPTION.now ≡ codes "Description") ×
    (AFFECTS.now ≡ codes "Affects") ×
    (OPERATORS.now ≡ codes "Operators") ×
    (AFFECTED_OPERATOR.now ≡ codes "AffectedOperator") ×
    (NETWORKS.now ≡ codes "Networks") ×
    (AFFECTED_NETWORK.now ≡ codes "AffectedNetwork") ×
    (AFFECTED_LINE.now ≡ codes "AffectedLine") ×
    (STOP_POINTS.now ≡ codes "StopPoints") ×
    (AFFECTED_STOP_POINT.now ≡ codes "AffectedStopPoint")
