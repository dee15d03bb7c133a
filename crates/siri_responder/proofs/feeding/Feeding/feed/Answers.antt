use Rattle.std.proofs.Common.{◌++◌}
use Rattle.siri_responder.proofs.Reached.{deliveries_front, deliveries_later, deliveries_both, on_err}
use Rattle.siri_responder.proofs.feeding.Feeding.feed.Goals as goal

pub returns-in_err-feed_all-clause-err : goal.returns-in_err-feed_all-clause-err
returns-in_err-feed_all-clause-err c =
    let d = c.args.delivery in
    let stop = d.stop_monitoring_delivery in
    let timetable = d.estimated_timetable_delivery in
    let vehicle = d.vehicle_monitoring_delivery in
    on_err _ (deliveries_front _ _ (stop ++ timetable ++ vehicle) d.situation_exchange_delivery
    (deliveries_front _ _ (stop ++ timetable) vehicle (deliveries_front _ _ stop timetable c.in_err-feed_all.ensures.err)))

pub returns-in_err-feed_all-2-clause-err : goal.returns-in_err-feed_all-2-clause-err
returns-in_err-feed_all-2-clause-err c =
    let d = c.args.delivery in
    let stop = d.stop_monitoring_delivery in
    let timetable = d.estimated_timetable_delivery in
    let vehicle = d.vehicle_monitoring_delivery in
    on_err _ (deliveries_front _ _ (stop ++ timetable ++ vehicle) d.situation_exchange_delivery
    (deliveries_front _ _ (stop ++ timetable) vehicle
    (deliveries_later _ _ _ stop timetable c.in_ok-feed_all.ensures.ok
    c.in_err-feed_all-2.ensures.err)))

pub returns-in_err-feed_all-3-clause-err : goal.returns-in_err-feed_all-3-clause-err
returns-in_err-feed_all-3-clause-err c =
    let d = c.args.delivery in
    let stop = d.stop_monitoring_delivery in
    let timetable = d.estimated_timetable_delivery in
    let vehicle = d.vehicle_monitoring_delivery in
    let two = deliveries_both _ _ _ stop timetable c.in_ok-feed_all.ensures.ok c.in_ok-feed_all-2.ensures.ok in
    on_err _ (deliveries_front _ _ (stop ++ timetable ++ vehicle) d.situation_exchange_delivery
    (deliveries_later _ _ _ (stop ++ timetable) vehicle two c.in_err-feed_all-3.ensures.err))

pub returns-in_err-feed_all-4-clause-err : goal.returns-in_err-feed_all-4-clause-err
returns-in_err-feed_all-4-clause-err c =
    let d = c.args.delivery in
    let stop = d.stop_monitoring_delivery in
    let timetable = d.estimated_timetable_delivery in
    let vehicle = d.vehicle_monitoring_delivery in
    let two = deliveries_both _ _ _ stop timetable c.in_ok-feed_all.ensures.ok c.in_ok-feed_all-2.ensures.ok in
    let three = deliveries_both _ _ _ (stop ++ timetable) vehicle two c.in_ok-feed_all-3.ensures.ok in
    on_err _ (deliveries_later _ _ _ (stop ++ timetable ++ vehicle) d.situation_exchange_delivery three c.in_err-feed_all-4.ensures.err)
