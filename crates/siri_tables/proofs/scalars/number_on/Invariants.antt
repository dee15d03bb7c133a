use Rattle.std.proofs.Common.{◌≡◌, ◌≤◌, drop, min}
use Rattle.siri_tables.specs.Scalars.{number_on}
use Rattle.siri_tables.proofs.scalars.number_on.Given as goal

abbrev pub invariant-loop-byte : goal.invariant-loop-byte
invariant-loop-byte l = record {
  told : min 1800000001 (number_on l.number (drop l.byte-index l.digits)) ≡ min 1800000001 (number_on l.before l.digits);
  small : l.number ≤ 1800000001;
}
