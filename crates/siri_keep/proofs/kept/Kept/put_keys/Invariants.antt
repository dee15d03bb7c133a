use Rattle.std.proofs.Common.{take}
use Rattle.siri_keep.specs.Looks.{LooksUpTo}
use Rattle.siri_keep.specs.Planning.{PutsKeys}
use Rattle.siri_keep.proofs.kept.Kept.put_keys.Given as goal

abbrev pub invariant-loop-key : goal.invariant-loop-key
invariant-loop-key l =
    PutsKeys l.fn.self.producer.responder.held l.fn.self l.self l.fn.puts l.puts (take l.key-index l.keys)
    × LooksUpTo l.fn.self.producer l.self.producer l.key-index
