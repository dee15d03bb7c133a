use Rattle.std.proofs.Common.{◌≡◌, ◌||◌, refl, sym, ◌∙◌}
use Rattle.siri_keep.proofs.Longs.{any_long, asks_each, or_first, or_later}
use Rattle.siri_keep.proofs.rows.asks_long.Goals as goal
use Rattle.siri_keep.proofs.rows.asks_long.Goals.{then-branch, else-branch+in_ok-has_long_subscription-2}
use Rattle.siri_keep.proofs.rows.asks_long.Goals.{then-branch-2, else-branch-2+in_ok-has_long_subscription-3}

pub returns-then-branch-3 : goal.returns-then-branch-3
returns-then-branch-3 c =
    let r = c.args.request.now in
    let one = any_long r r.stop_monitoring_subscription_request in
    let two = any_long r r.estimated_timetable_subscription_request in
    let three = any_long r r.vehicle_monitoring_subscription_request in
    let four = any_long r r.situation_exchange_subscription_request in
    let first : c.in_ok-has_long_subscription.field-0 ≡ one = rw c.slice.ensures at c.in_ok-has_long_subscription.ensures in
    let second : c.if-branch.value ≡ (one || two) = elim c.if-branch.branch [
      | then-branch w ↦ or_first c.if-branch.value one two (sym first ∙ w.if-branch.true) (w.value-is ∙ w.if-branch.true)
      | else-branch+in_ok-has_long_subscription-2 w ↦ or_later c.if-branch.value w.in_ok-has_long_subscription-2.field-0 one two
          (sym first ∙ w.if-branch.false) w.value-is (rw w.slice-else-branch.ensures at w.in_ok-has_long_subscription-2.ensures)
    ] in
    let third : c.if-branch-2.value ≡ ((one || two) || three) = elim c.if-branch-2.branch [
      | then-branch-2 w ↦ or_first c.if-branch-2.value (one || two) three (sym second ∙ w.if-branch-2.true) (w.value-is ∙ w.if-branch-2.true)
      | else-branch-2+in_ok-has_long_subscription-3 w ↦
          or_later c.if-branch-2.value w.in_ok-has_long_subscription-3.field-0 (one || two) three
          (sym second ∙ w.if-branch-2.false) w.value-is (rw w.slice-else-branch-2.ensures at w.in_ok-has_long_subscription-3.ensures)
    ] in
    or_first c.if-branch-2.value ((one || two) || three) four (sym third ∙ c.if-branch-3.true) c.if-branch-3.true ∙ asks_each r

pub returns-in_ok-has_long_subscription-4 : goal.returns-in_ok-has_long_subscription-4
returns-in_ok-has_long_subscription-4 c =
    let r = c.args.request.now in
    let one = any_long r r.stop_monitoring_subscription_request in
    let two = any_long r r.estimated_timetable_subscription_request in
    let three = any_long r r.vehicle_monitoring_subscription_request in
    let four = any_long r r.situation_exchange_subscription_request in
    let first : c.in_ok-has_long_subscription.field-0 ≡ one = rw c.slice.ensures at c.in_ok-has_long_subscription.ensures in
    let second : c.if-branch.value ≡ (one || two) = elim c.if-branch.branch [
      | then-branch w ↦ or_first c.if-branch.value one two (sym first ∙ w.if-branch.true) (w.value-is ∙ w.if-branch.true)
      | else-branch+in_ok-has_long_subscription-2 w ↦ or_later c.if-branch.value w.in_ok-has_long_subscription-2.field-0 one two
          (sym first ∙ w.if-branch.false) w.value-is (rw w.slice-else-branch.ensures at w.in_ok-has_long_subscription-2.ensures)
    ] in
    let third : c.if-branch-2.value ≡ ((one || two) || three) = elim c.if-branch-2.branch [
      | then-branch-2 w ↦ or_first c.if-branch-2.value (one || two) three (sym second ∙ w.if-branch-2.true) (w.value-is ∙ w.if-branch-2.true)
      | else-branch-2+in_ok-has_long_subscription-3 w ↦
          or_later c.if-branch-2.value w.in_ok-has_long_subscription-3.field-0 (one || two) three
          (sym second ∙ w.if-branch-2.false) w.value-is (rw w.slice-else-branch-2.ensures at w.in_ok-has_long_subscription-3.ensures)
    ] in
    or_later c.in_ok-has_long_subscription-4.field-0 c.in_ok-has_long_subscription-4.field-0 ((one || two) || three) four
    (sym third ∙ c.if-branch-3.false) refl (rw c.slice-else-branch-3.ensures at c.in_ok-has_long_subscription-4.ensures) ∙ asks_each r
