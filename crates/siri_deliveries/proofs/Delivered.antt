-- The deliveries of the four services, each read when its member comes.
use Rattle.std.proofs.Common.{◌≡◌, ℕ, List, false, bytes_eq, refl, Ok}
use Rattle.json.specs.Json.{Json, Members, no_members}
use Rattle.siri_messages.specs.declared.deliveries.FunctionalDelivery.{FunctionalDelivery}
use Rattle.siri_json.specs.Shown.{data_of}
use Rattle.siri_tables.specs.Rules.{is_null}
use Rattle.siri_deliveries.specs.AsItComes.{entries, is_among}
use Rattle.siri_deliveries.specs.Incoming.{of_services, no_deliveries, AreDeliveries}
use Rattle.siri_deliveries.specs.Deliveries.{stop_monitoring_delivery, estimated_timetable_delivery, vehicle_monitoring_delivery}
use Rattle.siri_deliveries.specs.Deliveries.{situation_exchange_delivery}
use Rattle.siri_deliveries.specs.declared.incoming_deliveries.Deliveries.{Deliveries}
use Rattle.siri_deliveries.specs.declared.names.TheConstants.{STOP_MONITORING_DELIVERY, ESTIMATED_TIMETABLE_DELIVERY}
use Rattle.siri_deliveries.specs.declared.names.TheConstants.{VEHICLE_MONITORING_DELIVERY, SITUATION_EXCHANGE_DELIVERY}
use Rattle.siri_deliveries.proofs.AsItComes.{Read, with_member, stays, is_read, is_own, turned}

-- what was read of the members that came
pub record Came (ms : Members) (d : Deliveries) : Type 0 where
  pub stop : Read (entries stop_monitoring_delivery 100) STOP_MONITORING_DELIVERY.now ms d.stop_monitoring
  pub timetable : Read (entries estimated_timetable_delivery 100) ESTIMATED_TIMETABLE_DELIVERY.now ms d.estimated_timetable
  pub vehicle : Read (entries vehicle_monitoring_delivery 100) VEHICLE_MONITORING_DELIVERY.now ms d.vehicle_monitoring
  pub situation : Read (entries situation_exchange_delivery 100) SITUATION_EXCHANGE_DELIVERY.now ms d.situation_exchange

pub none_delivered : Came no_members no_deliveries
none_delivered = record { stop = refl; timetable = refl; vehicle = refl; situation = refl }

-- a name of none of them
pub of_none : (k : List ℕ) → bytes_eq k STOP_MONITORING_DELIVERY.now ≡ false
    → bytes_eq k ESTIMATED_TIMETABLE_DELIVERY.now ≡ false → bytes_eq k VEHICLE_MONITORING_DELIVERY.now ≡ false
    → bytes_eq k SITUATION_EXCHANGE_DELIVERY.now ≡ false → is_among of_services k ≡ false
of_none k a b c e = rw (
  turned k STOP_MONITORING_DELIVERY.now false a,
  turned k ESTIMATED_TIMETABLE_DELIVERY.now false b,
  turned k VEHICLE_MONITORING_DELIVERY.now false c,
  turned k SITUATION_EXCHANGE_DELIVERY.now false e,
) refl

pub all_stay : (ms : Members) (d : Deliveries) (k : List ℕ) (j : Json) → bytes_eq k STOP_MONITORING_DELIVERY.now ≡ false
    → bytes_eq k ESTIMATED_TIMETABLE_DELIVERY.now ≡ false → bytes_eq k VEHICLE_MONITORING_DELIVERY.now ≡ false
    → bytes_eq k SITUATION_EXCHANGE_DELIVERY.now ≡ false → Came ms d → Came (with_member ms k j) d
all_stay ms d k j a b c e h = record {
  stop = stays (entries stop_monitoring_delivery 100) STOP_MONITORING_DELIVERY.now ms d.stop_monitoring k j a h.stop;
  timetable = stays (entries estimated_timetable_delivery 100) ESTIMATED_TIMETABLE_DELIVERY.now ms d.estimated_timetable k j b h.timetable;
  vehicle = stays (entries vehicle_monitoring_delivery 100) VEHICLE_MONITORING_DELIVERY.now ms d.vehicle_monitoring k j c h.vehicle;
  situation = stays (entries situation_exchange_delivery 100) SITUATION_EXCHANGE_DELIVERY.now ms d.situation_exchange k j e h.situation;
}

module _ (ms : Members) (d : Deliveries) (j : Json) (own : List FunctionalDelivery) (null : is_null (data_of j) ≡ false) (h : Came ms d) where
  pub stop_came : entries stop_monitoring_delivery 100 (data_of j) ≡ Ok own
      → Came (with_member ms STOP_MONITORING_DELIVERY.now j) (record d { stop_monitoring = own })
  stop_came read =
      let k = STOP_MONITORING_DELIVERY.now in record {
        stop = is_read (entries stop_monitoring_delivery 100) k ms own k j refl null read;
        timetable = stays (entries estimated_timetable_delivery 100) ESTIMATED_TIMETABLE_DELIVERY.now ms d.estimated_timetable k j refl h.timetable;
        vehicle = stays (entries vehicle_monitoring_delivery 100) VEHICLE_MONITORING_DELIVERY.now ms d.vehicle_monitoring k j refl h.vehicle;
        situation = stays (entries situation_exchange_delivery 100) SITUATION_EXCHANGE_DELIVERY.now ms d.situation_exchange k j refl h.situation;
      }

  pub timetable_came : entries estimated_timetable_delivery 100 (data_of j) ≡ Ok own
      → Came (with_member ms ESTIMATED_TIMETABLE_DELIVERY.now j) (record d { estimated_timetable = own })
  timetable_came read =
      let k = ESTIMATED_TIMETABLE_DELIVERY.now in record {
        stop = stays (entries stop_monitoring_delivery 100) STOP_MONITORING_DELIVERY.now ms d.stop_monitoring k j refl h.stop;
        timetable = is_read (entries estimated_timetable_delivery 100) k ms own k j refl null read;
        vehicle = stays (entries vehicle_monitoring_delivery 100) VEHICLE_MONITORING_DELIVERY.now ms d.vehicle_monitoring k j refl h.vehicle;
        situation = stays (entries situation_exchange_delivery 100) SITUATION_EXCHANGE_DELIVERY.now ms d.situation_exchange k j refl h.situation;
      }

  pub vehicle_came : entries vehicle_monitoring_delivery 100 (data_of j) ≡ Ok own
      → Came (with_member ms VEHICLE_MONITORING_DELIVERY.now j) (record d { vehicle_monitoring = own })
  vehicle_came read =
      let k = VEHICLE_MONITORING_DELIVERY.now in record {
        stop = stays (entries stop_monitoring_delivery 100) STOP_MONITORING_DELIVERY.now ms d.stop_monitoring k j refl h.stop;
        timetable = stays (entries estimated_timetable_delivery 100) ESTIMATED_TIMETABLE_DELIVERY.now ms d.estimated_timetable k j refl h.timetable;
        vehicle = is_read (entries vehicle_monitoring_delivery 100) k ms own k j refl null read;
        situation = stays (entries situation_exchange_delivery 100) SITUATION_EXCHANGE_DELIVERY.now ms d.situation_exchange k j refl h.situation;
      }

  pub situation_came : entries situation_exchange_delivery 100 (data_of j) ≡ Ok own
      → Came (with_member ms SITUATION_EXCHANGE_DELIVERY.now j) (record d { situation_exchange = own })
  situation_came read =
      let k = SITUATION_EXCHANGE_DELIVERY.now in record {
        stop = stays (entries stop_monitoring_delivery 100) STOP_MONITORING_DELIVERY.now ms d.stop_monitoring k j refl h.stop;
        timetable = stays (entries estimated_timetable_delivery 100) ESTIMATED_TIMETABLE_DELIVERY.now ms d.estimated_timetable k j refl h.timetable;
        vehicle = stays (entries vehicle_monitoring_delivery 100) VEHICLE_MONITORING_DELIVERY.now ms d.vehicle_monitoring k j refl h.vehicle;
        situation = is_read (entries situation_exchange_delivery 100) k ms own k j refl null read;
      }

pub all_came : (ms : Members) (d : Deliveries) → Came ms d → AreDeliveries ms d
all_came ms d h = record {
  stop = is_own (entries stop_monitoring_delivery 100) STOP_MONITORING_DELIVERY.now ms d.stop_monitoring h.stop;
  timetable = is_own (entries estimated_timetable_delivery 100) ESTIMATED_TIMETABLE_DELIVERY.now ms d.estimated_timetable h.timetable;
  vehicle = is_own (entries vehicle_monitoring_delivery 100) VEHICLE_MONITORING_DELIVERY.now ms d.vehicle_monitoring h.vehicle;
  situation = is_own (entries situation_exchange_delivery 100) SITUATION_EXCHANGE_DELIVERY.now ms d.situation_exchange h.situation;
}
