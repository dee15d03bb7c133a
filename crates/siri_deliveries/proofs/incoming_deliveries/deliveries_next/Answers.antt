use Rattle.std.proofs.Common.{◌≡◌, ◌-◌, [], ◌∷◌, ◌++◌, length, true, false, List, bytes_eq, Some, None, refl, ap, ◌∙◌, arith, rules}
use Rattle.std.proofs.lemmas.Slice.Eq.{bytes_eq-Decides}
use Rattle.json.specs.Token.{Token}
use Rattle.json.specs.Json.{no_members, members, value, read_key}
use Rattle.json.specs.Value.{value_view}
use Rattle.json.proofs.Trees.{none_before}
use Rattle.siri_deliveries.specs.Incoming.{of_services}
use Rattle.siri_deliveries.specs.declared.names.TheConstants.{STOP_MONITORING_DELIVERY, ESTIMATED_TIMETABLE_DELIVERY}
use Rattle.siri_deliveries.specs.declared.names.TheConstants.{VEHICLE_MONITORING_DELIVERY, SITUATION_EXCHANGE_DELIVERY}
use Rattle.siri_deliveries.proofs.AsItComes.{with_member, none_came, another, its_own, passed, came_on, ended, are_others}
use Rattle.siri_deliveries.proofs.Delivered.{none_delivered, all_stay, stop_came, timetable_came, vehicle_came, situation_came, all_came, of_none}
use Rattle.siri_deliveries.proofs.incoming_deliveries.deliveries_next.Goals as goal

pub loop-found-init : goal.loop-found-init
loop-found-init c =
    let none : c.new-others.result.items ≡ [] = c.new-others.ensures.items in (
      length c.next.new.self,
      no_members,
      omega arith,
      none_before (members (value (c.args.depth - 1)) (length c.next.new.self) c.next.new.self),
      rw none (none_came of_services),
      rw (c.none-found.ensures) none_delivered,
      omega arith,
    )

pub loop-found-smaller-then-eq : goal.loop-found-smaller-then-eq
loop-found-smaller-then-eq c =
    let key : read_key c.loop-found.reader ≡ Some (Some c.in-Some.name.now, c.next_key.new.self) = grind arith in
    passed (c.args.depth - 1) c.loop-found.reader c.next_key.new.self c.few_next.new.reader c.in-Some.name.now c.in_ok-found.ensures.0 key c.in_ok-found.ensures.1

pub loop-found-preserved-then-eq : goal.loop-found-preserved-then-eq
loop-found-preserved-then-eq c =
    let l = c.loop-found in
    let s = c.next_key.new.self in
    let r = c.few_next.new.reader in
    let k = STOP_MONITORING_DELIVERY.now in
    let came = c.in_ok-found.ensures in
    let named : bytes_eq c.in-Some.name.now k ≡ true = grind arith in
    let told : read_key l.reader ≡ Some (Some c.in-Some.name.now, s) = grind arith in
    let key = told ∙ ap (λ (x : List _). Some (Some x, s)) ((bytes_eq-Decides c.in-Some.name.now k).0 named) in
    let on = came_on (c.args.depth - 1) c.next.new.self l.reader s r l.invariant.0 l.invariant.1 k came.0 l.invariant.2 l.invariant.3 key came.1 in (
      on.0,
      with_member l.invariant.1 k came.0,
      on.1,
      on.2,
      its_own of_services l.invariant.1 l.others.items k came.0 refl l.invariant.4,
      stop_came l.invariant.1 l.found came.0 c.in_ok-found.field-0 came.2 l.invariant.5 came.3,
      omega (arith, l.invariant.6, passed (c.args.depth - 1) l.reader s r k came.0 key came.1),
    )

pub loop-found-smaller-then-eq-2 : goal.loop-found-smaller-then-eq-2
loop-found-smaller-then-eq-2 c =
    let key : read_key c.loop-found.reader ≡ Some (Some c.in-Some.name.now, c.next_key.new.self) = grind arith in
    passed (c.args.depth - 1) c.loop-found.reader c.next_key.new.self c.few_next-then-eq-2.new.reader c.in-Some.name.now c.in_ok-found-2.ensures.0 key c.in_ok-found-2.ensures.1

pub loop-found-preserved-then-eq-2 : goal.loop-found-preserved-then-eq-2
loop-found-preserved-then-eq-2 c =
    let l = c.loop-found in
    let s = c.next_key.new.self in
    let r = c.few_next-then-eq-2.new.reader in
    let k = ESTIMATED_TIMETABLE_DELIVERY.now in
    let came = c.in_ok-found-2.ensures in
    let named : bytes_eq c.in-Some.name.now k ≡ true = grind arith in
    let told : read_key l.reader ≡ Some (Some c.in-Some.name.now, s) = grind arith in
    let key = told ∙ ap (λ (x : List _). Some (Some x, s)) ((bytes_eq-Decides c.in-Some.name.now k).0 named) in
    let on = came_on (c.args.depth - 1) c.next.new.self l.reader s r l.invariant.0 l.invariant.1 k came.0 l.invariant.2 l.invariant.3 key came.1 in (
      on.0,
      with_member l.invariant.1 k came.0,
      on.1,
      on.2,
      its_own of_services l.invariant.1 l.others.items k came.0 refl l.invariant.4,
      timetable_came l.invariant.1 l.found came.0 c.in_ok-found-2.field-0 came.2 l.invariant.5 came.3,
      omega (arith, l.invariant.6, passed (c.args.depth - 1) l.reader s r k came.0 key came.1),
    )

pub loop-found-smaller-then-eq-3 : goal.loop-found-smaller-then-eq-3
loop-found-smaller-then-eq-3 c =
    let key : read_key c.loop-found.reader ≡ Some (Some c.in-Some.name.now, c.next_key.new.self) = grind arith in
    passed (c.args.depth - 1) c.loop-found.reader c.next_key.new.self c.few_next-then-eq-3.new.reader c.in-Some.name.now c.in_ok-found-3.ensures.0 key c.in_ok-found-3.ensures.1

pub loop-found-preserved-then-eq-3 : goal.loop-found-preserved-then-eq-3
loop-found-preserved-then-eq-3 c =
    let l = c.loop-found in
    let s = c.next_key.new.self in
    let r = c.few_next-then-eq-3.new.reader in
    let k = VEHICLE_MONITORING_DELIVERY.now in
    let came = c.in_ok-found-3.ensures in
    let named : bytes_eq c.in-Some.name.now k ≡ true = grind arith in
    let told : read_key l.reader ≡ Some (Some c.in-Some.name.now, s) = grind arith in
    let key = told ∙ ap (λ (x : List _). Some (Some x, s)) ((bytes_eq-Decides c.in-Some.name.now k).0 named) in
    let on = came_on (c.args.depth - 1) c.next.new.self l.reader s r l.invariant.0 l.invariant.1 k came.0 l.invariant.2 l.invariant.3 key came.1 in (
      on.0,
      with_member l.invariant.1 k came.0,
      on.1,
      on.2,
      its_own of_services l.invariant.1 l.others.items k came.0 refl l.invariant.4,
      vehicle_came l.invariant.1 l.found came.0 c.in_ok-found-3.field-0 came.2 l.invariant.5 came.3,
      omega (arith, l.invariant.6, passed (c.args.depth - 1) l.reader s r k came.0 key came.1),
    )

pub loop-found-smaller-then-eq-4 : goal.loop-found-smaller-then-eq-4
loop-found-smaller-then-eq-4 c =
    let key : read_key c.loop-found.reader ≡ Some (Some c.in-Some.name.now, c.next_key.new.self) = grind arith in
    passed (c.args.depth - 1) c.loop-found.reader c.next_key.new.self c.few_next-then-eq-4.new.reader c.in-Some.name.now c.in_ok-found-4.ensures.0 key c.in_ok-found-4.ensures.1

pub loop-found-preserved-then-eq-4 : goal.loop-found-preserved-then-eq-4
loop-found-preserved-then-eq-4 c =
    let l = c.loop-found in
    let s = c.next_key.new.self in
    let r = c.few_next-then-eq-4.new.reader in
    let k = SITUATION_EXCHANGE_DELIVERY.now in
    let came = c.in_ok-found-4.ensures in
    let named : bytes_eq c.in-Some.name.now k ≡ true = grind arith in
    let told : read_key l.reader ≡ Some (Some c.in-Some.name.now, s) = grind arith in
    let key = told ∙ ap (λ (x : List _). Some (Some x, s)) ((bytes_eq-Decides c.in-Some.name.now k).0 named) in
    let on = came_on (c.args.depth - 1) c.next.new.self l.reader s r l.invariant.0 l.invariant.1 k came.0 l.invariant.2 l.invariant.3 key came.1 in (
      on.0,
      with_member l.invariant.1 k came.0,
      on.1,
      on.2,
      its_own of_services l.invariant.1 l.others.items k came.0 refl l.invariant.4,
      situation_came l.invariant.1 l.found came.0 c.in_ok-found-4.field-0 came.2 l.invariant.5 came.3,
      omega (arith, l.invariant.6, passed (c.args.depth - 1) l.reader s r k came.0 key came.1),
    )

pub loop-found-preserved : goal.loop-found-preserved
loop-found-preserved c =
    let l = c.loop-found in
    let s = c.next_key.new.self in
    let r = c.read.new.reader in
    let k = c.in-Some.name.now in
    let v = c.in_ok-read.field-0 in
    let key : read_key l.reader ≡ Some (Some k, s) = grind arith in
    let read = c.in_ok-read.ensures.ok in
    let pushed : c.push.new.self.items ≡ l.others.items ++ (c.in-Some.name, v) ∷ [] = search rules in
    let stop : bytes_eq k STOP_MONITORING_DELIVERY.now ≡ false = grind arith in
    let timetable : bytes_eq k ESTIMATED_TIMETABLE_DELIVERY.now ≡ false = grind arith in
    let vehicle : bytes_eq k VEHICLE_MONITORING_DELIVERY.now ≡ false = grind arith in
    let situation : bytes_eq k SITUATION_EXCHANGE_DELIVERY.now ≡ false = grind arith in
    let on = came_on (c.args.depth - 1) c.next.new.self l.reader s r l.invariant.0 l.invariant.1 k (value_view v) l.invariant.2 l.invariant.3 key read in (
      on.0,
      with_member l.invariant.1 k (value_view v),
      on.1,
      on.2,
      rw pushed (another of_services l.invariant.1 l.others.items (c.in-Some.name, v) (of_none k stop timetable vehicle situation) l.invariant.4),
      all_stay l.invariant.1 l.found k (value_view v) stop timetable vehicle situation l.invariant.5,
      omega (arith, l.invariant.6, passed (c.args.depth - 1) l.reader s r k (value_view v) key read),
    )

pub returns : goal.returns
returns c =
    let l = c.loop-found in
    let next = c.next.new.self in
    let r = c.next_key.new.self in
    let first : c.args.reader.now ≡ Token.begin_object ∷ next = grind arith in
    let closing : read_key l.reader ≡ Some (None, r) = grind arith in (
      l.invariant.1,
      ended c.args.depth next l.reader c.args.reader.now r l.invariant.0 l.invariant.1 (omega (arith, c.if-depth-eq0.false)) l.invariant.2 l.invariant.3 first closing,
      are_others of_services l.invariant.1 l.others l.invariant.4,
      all_came l.invariant.1 l.found l.invariant.5,
    )
