use Rattle.std.proofs.Common.{◌≡◌, [], take}
use Rattle.siri_keep.specs.Planning.{PutsKeys}
use Rattle.siri_keep.proofs.kept.Kept.remove_keys.Given as goal

abbrev pub invariant-loop-key : goal.invariant-loop-key
invariant-loop-key l = PutsKeys [] l.fn.self l.self l.fn.puts l.puts (take l.key-index l.keys) × (l.self.producer ≡ l.fn.self.producer)
