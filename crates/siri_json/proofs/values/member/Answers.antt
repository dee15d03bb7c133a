use Rattle.std.proofs.Common.{option_map, sym, ap, ◌∙◌}
use Rattle.json.specs.Value.{value_view}
use Rattle.siri_json.specs.Values.{member_of, unless_null}
use Rattle.siri_json.specs.Shown.{data_of}
use Rattle.siri_json.proofs.Finds.{get-data_of, shown_of_ref}
use Rattle.siri_json.proofs.values.member.Goals as goal

pub returns : goal.returns
unfolding member_of
returns c =
    c.unless_null.ensures ∙ ap unless_null (shown_of_ref c.get.result ∙ ap (option_map data_of) c.get.ensures
    ∙ sym (get-data_of c.args.name.now (value_view c.args.tree.now)))
