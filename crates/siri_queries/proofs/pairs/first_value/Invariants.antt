use Rattle.std.specs.Prelude.{◌≡◌}
use Rattle.form_urlencoded.specs.Parse.{raw_pairs_left}
use Rattle.siri_queries.specs.Pairs.{first_among, first_value}
use Rattle.siri_queries.proofs.pairs.first_value.Given as goal

-- none of the pairs so far is of that name
abbrev pub invariant-loop-name : goal.invariant-loop-name
invariant-loop-name l = first_among l.wanted (raw_pairs_left l.name-iterator) ≡ first_value l.wanted l.query
