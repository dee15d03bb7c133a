use Rattle.std.proofs.Common.{◌≡◌, ◌∙◌, ap, map, true}
use Rattle.std.proofs.lemmas.Bool.{and_parts}
use Rattle.clap.specs.Words.{first_of, found_of, is_simple, matches_of, takes}
use Rattle.clap.proofs.WalkLemmas.{first_value-rows}
use Rattle.siri_cli.specs.inner.Values.{IsOf, TakesWords, value_of, value_in}
use Rattle.siri_cli.proofs.values.matches_of.Goals as goal

pub unreachable-requires : goal.unreachable-requires
unfolding IsOf TakesWords
unreachable-requires c =
    let taken = ap (λ app. takes app (map (λ word. word.now) c.args.words.now)) c.requires.1 ∙ c.requires.2 in
    c.in_default.not-OutOfMemory (c.kind.ensures ∙ c.in-Err.ensures.passes taken)

pub returns-in-Ok : goal.returns-in-Ok
unfolding IsOf TakesWords value_of value_in
returns-in-Ok c app is id =
    let simple : is_simple c.requires.0 ≡ true = (and_parts (is_simple c.requires.0) _ c.requires.2).0 in
    let rows = (c.in-Ok.ensures.matches (ap is_simple c.requires.1 ∙ simple)).0 in
    first_value-rows (found_of c.in-Ok.matches) id ∙ ap (first_of id) (rows ∙ ap (λ app. matches_of app (map (λ word. word.now) c.args.words.now)) is)
