use Rattle.std.proofs.Common.{◌≤◌, ◌^◌, arith, unsigned_abs}
use Rattle.std.proofs.Math.Facts.{to_z-of_z}
use Rattle.std.specs.Int.Signed.{nat_abs-le}
use Rattle.std.proofs.lemmas.Str.{IsUtf8-from_ascii}
use Rattle.siri_tables.proofs.Ascii.{IsAscii-decimal_text}
use Rattle.siri_tables.proofs.writing.decimal.Goals as goal

pub unreachable-requires : goal.unreachable-requires
unreachable-requires c =
    let small : unsigned_abs c.args.units ≤ 2 ^ 63 = nat_abs-le c.args.units c.ranges.units.sfits in
    c.in-Err.ensures.cases.0 (rw (c.write_decimal-length.ensures.text, to_z-of_z c.ranges.units)
    (IsUtf8-from_ascii _ (IsAscii-decimal_text c.args.units (omega (arith, small)))))
