-- The tree that a borrowed value stands for, and what a text says as it stands.
use Rattle.std.specs.Prelude.{ℕ, List, Option, None, option_and_then, if◌then◌else◌}
use Rattle.std.specs.Str.{is_utf8}
use Rattle.std.specs.declared.alloc.Global.{Global}
use Rattle.json.specs.Token.{Token}
use Rattle.json.specs.Lex.{tokens}
use Rattle.json.specs.Json as json
use Rattle.json.specs.Value.{value_view}
use Rattle.json.specs.declared.value.Value.{Value}
use Rattle.serde_json.specs.Data.{Data, null, boolean, string, array, object, Items, no_items, item, Members, no_members, put}
use Rattle.serde_json.specs.Read.{max_depth}

-- a value with its numbers as texts; members go in one after another, so of those of one name the last stays
abbrev mutual
  pub data_of : json.Json → Data
  data_of json.null = null
  data_of (json.boolean b) = boolean b
  data_of (json.number s) = string s
  data_of (json.string s) = string s
  data_of (json.array js) = array (items_data js)
  data_of (json.object ms) = object (members_data ms no_members)

  pub items_data : json.Items → Items
  items_data json.no_items = no_items
  items_data (json.item j js) = item (data_of j) (items_data js)

  pub members_data : json.Members → Members → Members
  members_data json.no_members found = found
  members_data (json.member k j ms) found = members_data ms (put k (data_of j) found)

-- the tree of a borrowed value, whose numbers count as texts
abbrev pub shown : Value Global → Data
shown v = data_of (value_view v)

-- the value, where nothing follows it
abbrev pub whole : Option (json.Json × List Token) → Option json.Json
whole read = option_and_then (λ p. json.if_last p.0 p.1) read

-- what a text says as it stands (RFC 8259), to a depth of 127; nothing where it isn't UTF-8 or isn't JSON
unfoldable pub said : List ℕ → Option json.Json
said text = if is_utf8 text then whole (json.value max_depth (tokens text)) else None
