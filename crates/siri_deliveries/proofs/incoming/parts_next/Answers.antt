use Rattle.std.proofs.Common.{◌≡◌, ◌-◌, [], ◌∷◌, ◌++◌, length, true, false, bytes_eq, Some, None, refl, arith, rules}
use Rattle.json.specs.Token.{Token}
use Rattle.json.specs.Json.{no_members, members, value, read_key}
use Rattle.json.specs.Value.{value_view}
use Rattle.json.proofs.Trees.{none_before}
use Rattle.siri_deliveries.proofs.AsItComes.{with_member, none_came, another, its_own, stays, is_read, one_apart, one_among, passed, came_on, ended, are_others, is_own}
use Rattle.siri_deliveries.proofs.incoming.parts_next.Goals as goal

pub loop-others-init : goal.loop-others-init
loop-others-init g c =
    let none : c.new-others.result.items ≡ [] = c.new-others.ensures.items in
    let empty : c.new-own.result ≡ [] = c.new-own.ensures in (
      length c.next.new.self,
      no_members,
      omega arith,
      none_before (members (value (c.args.depth - 1)) (length c.next.new.self) c.next.new.self),
      rw none (none_came (c.args.key.now ∷ [])),
      rw empty refl,
      omega arith,
    )

pub loop-others-smaller : goal.loop-others-smaller
loop-others-smaller g c =
    let key : read_key c.loop-others.reader ≡ Some (Some c.in-Some.name.now, c.next_key.new.self) = grind arith in
    passed (c.args.depth - 1) c.loop-others.reader c.next_key.new.self c.read.new.reader c.in-Some.name.now (value_view c.in_ok-read.field-0) key c.in_ok-read.ensures.ok

pub loop-others-smaller-then-eq : goal.loop-others-smaller-then-eq
loop-others-smaller-then-eq g c =
    let key : read_key c.loop-others.reader ≡ Some (Some c.in-Some.name.now, c.next_key.new.self) = grind arith in
    passed (c.args.depth - 1) c.loop-others.reader c.next_key.new.self c.next-then-eq.new.reader c.in-Some.name.now c.in_ok-own.ensures.0 key c.in_ok-own.ensures.1

pub loop-others-preserved : goal.loop-others-preserved
loop-others-preserved g c =
    let l = c.loop-others in
    let k = c.in-Some.name.now in
    let s = c.next_key.new.self in
    let r = c.read.new.reader in
    let v = c.in_ok-read.field-0 in
    let key : read_key l.reader ≡ Some (Some k, s) = grind arith in
    let read = c.in_ok-read.ensures.ok in
    let pushed : c.push.new.self.items ≡ l.others.items ++ (c.in-Some.name, v) ∷ [] = search rules in
    let other : bytes_eq k c.args.key.now ≡ false = grind arith in
    let on = came_on (c.args.depth - 1) c.next.new.self l.reader s r l.invariant.0 l.invariant.1 k (value_view v) l.invariant.2 l.invariant.3 key read in (
      on.0,
      with_member l.invariant.1 k (value_view v),
      on.1,
      on.2,
      rw pushed (another (c.args.key.now ∷ []) l.invariant.1 l.others.items (c.in-Some.name, v) (one_apart c.args.key.now k other) l.invariant.4),
      stays g.A.Apart.read c.args.key.now l.invariant.1 l.own k (value_view v) other l.invariant.5,
      omega (arith, l.invariant.6, passed (c.args.depth - 1) l.reader s r k (value_view v) key read),
    )

pub loop-others-preserved-then-eq : goal.loop-others-preserved-then-eq
loop-others-preserved-then-eq g c =
    let l = c.loop-others in
    let k = c.in-Some.name.now in
    let s = c.next_key.new.self in
    let r = c.next-then-eq.new.reader in
    let key : read_key l.reader ≡ Some (Some k, s) = grind arith in
    let came = c.in_ok-own.ensures in
    let same : bytes_eq k c.args.key.now ≡ true = grind arith in
    let on = came_on (c.args.depth - 1) c.next.new.self l.reader s r l.invariant.0 l.invariant.1 k came.0 l.invariant.2 l.invariant.3 key came.1 in (
      on.0,
      with_member l.invariant.1 k came.0,
      on.1,
      on.2,
      its_own (c.args.key.now ∷ []) l.invariant.1 l.others.items k came.0 (one_among c.args.key.now k same) l.invariant.4,
      is_read g.A.Apart.read c.args.key.now l.invariant.1 c.in_ok-own.own k came.0 same came.2 came.3,
      omega (arith, l.invariant.6, passed (c.args.depth - 1) l.reader s r k came.0 key came.1),
    )

pub returns : goal.returns
returns g c =
    let l = c.loop-others in
    let next = c.next.new.self in
    let r = c.next_key.new.self in
    let first : c.args.reader.now ≡ Token.begin_object ∷ next = grind arith in
    let closing : read_key l.reader ≡ Some (None, r) = grind arith in (
      l.invariant.1,
      ended c.args.depth next l.reader c.args.reader.now r l.invariant.0 l.invariant.1 (omega (arith, c.if-depth-eq0.false)) l.invariant.2 l.invariant.3 first closing,
      are_others (c.args.key.now ∷ []) l.invariant.1 l.others l.invariant.4,
      is_own g.A.Apart.read c.args.key.now l.invariant.1 l.own l.invariant.5,
    )
