use Rattle.std.proofs.Common.{◌≡◌, ◌<◌, ◌+◌, ◌*◌, ◌%◌, ◌^◌, take, fold}
use Rattle.siri_store.proofs.order_numbers.digest.Given as goal

-- the number that is made of the bytes so far
abbrev pub invariant-loop-byte : goal.invariant-loop-byte
invariant-loop-byte l = record {
  sum : l.sum ≡ fold (λ sum byte. (sum * 1000003 + byte) % 2 ^ 40) l.start (take l.byte-index l.bytes);
  fits : l.sum < 2 ^ 40;
}
