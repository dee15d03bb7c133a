-- The text of a ServiceDelivery around its functional deliveries: texts and the places where these stand.
use Rattle.std.specs.Prelude.{◌≡◌, ℕ, List, [], ◌++◌, length, map, slice_get, option_map, unwrap_or, nat_lt, Bool, true}
use Rattle.std.specs.List.{flat_map}
use Rattle.json.specs.Print.{print}
use Rattle.json.specs.Token.{Token}
use Rattle.serde_json.specs.Data.{Data}
use Rattle.siri_records.specs.declared.item.Service.{Service}
use Rattle.siri_records.specs.declared.item.Service.TheVariants as service
use Rattle.siri_messages.specs.declared.deliveries.FunctionalDelivery.{FunctionalDelivery}
use Rattle.siri_messages.specs.declared.deliveries.ServiceDelivery.{ServiceDelivery}
use Rattle.siri_deliveries.specs.Pieces.{delivery_text, delivery_tree}
use Rattle.siri_deliveries.specs.declared.frame.FramePiece.{FramePiece}
use Rattle.siri_deliveries.specs.declared.frame.FramePiece.TheVariants as piece

abbrev pub without_own_entries : FunctionalDelivery → FunctionalDelivery
without_own_entries d = record d { items = []; removals = [] }

-- a delivery of which each functional delivery is without its items and removals
abbrev pub without_entries : ServiceDelivery → ServiceDelivery
without_entries d = record d {
  stop_monitoring_delivery = map without_own_entries d.stop_monitoring_delivery;
  estimated_timetable_delivery = map without_own_entries d.estimated_timetable_delivery;
  vehicle_monitoring_delivery = map without_own_entries d.vehicle_monitoring_delivery;
  situation_exchange_delivery = map without_own_entries d.situation_exchange_delivery;
}

-- the functional deliveries of a service
abbrev pub deliveries_of : Service → ServiceDelivery → List FunctionalDelivery
deliveries_of service.Stop d = d.stop_monitoring_delivery
deliveries_of service.Timetable d = d.estimated_timetable_delivery
deliveries_of service.Vehicle d = d.vehicle_monitoring_delivery
deliveries_of service.Situation d = d.situation_exchange_delivery

-- a piece of a frame names no functional delivery that isn't there
abbrev pub is_of : ServiceDelivery → FramePiece → Bool
is_of d (piece.Text text) = true
is_of d (piece.Delivery s place) = nat_lt place (length (deliveries_of s d))

-- a piece of a frame with the canonical text of the functional delivery that stands there
abbrev pub filled : ServiceDelivery → FramePiece → List ℕ
filled d (piece.Text text) = text
filled d (piece.Delivery s place) = unwrap_or (option_map (delivery_text s) (slice_get (deliveries_of s d) place)) []

-- all pieces of a frame, joined
abbrev pub filled_text : ServiceDelivery → List FramePiece → List ℕ
filled_text d pieces = flat_map (filled d) pieces

-- the trees of the functional deliveries of a service
abbrev pub trees_of : Service → List FunctionalDelivery → List Data
trees_of s deliveries = map (delivery_tree s) deliveries

-- the pieces, with what was written behind them, are the text of these tokens, whichever follow; for clauses of frames
abbrev pub GoesOn : ServiceDelivery → List FramePiece → List Token → List Token → Type 0
GoesOn d pieces out tokens = (later : List Token)
    → filled_text d pieces ++ print (out ++ later) ≡ print (tokens ++ later)
