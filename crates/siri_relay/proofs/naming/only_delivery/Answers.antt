use Rattle.std.proofs.Common.{◌≡◌, ◌+◌, length, ap, arith}
use Rattle.siri_view.proofs.Only.{of_four}
use Rattle.siri_relay.proofs.naming.only_delivery.Goals as goal

pub returns-in_default : goal.returns-in_default
returns-in_default c =
    let d = c.args.delivery.now in
    let stop : length c.slice.result.now ≡ length d.stop_monitoring_delivery = ap length c.slice.ensures in
    let timetable : length c.slice-2.result.now ≡ length d.estimated_timetable_delivery = ap length c.slice-2.ensures in
    let vehicle : length c.slice-3.result.now ≡ length d.vehicle_monitoring_delivery = ap length c.slice-3.ensures in
    let situation : length c.slice-4.result.now ≡ length d.situation_exchange_delivery = ap length c.slice-4.ensures in
    of_four d.stop_monitoring_delivery d.estimated_timetable_delivery d.vehicle_monitoring_delivery d.situation_exchange_delivery
    (λ (one : length d.stop_monitoring_delivery + length d.estimated_timetable_delivery
    + length d.vehicle_monitoring_delivery + length d.situation_exchange_delivery ≡ 1). absurd
    (grind (arith, c.in_default.branch, stop, timetable, vehicle, situation)))
