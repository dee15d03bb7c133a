-- Values in which no number stands, and what they are as trees.
use Rattle.std.proofs.Common.{◌≡◌, Some, option_map, refl, ap}
use Rattle.std.specs.Prelude.{⊤}
use Rattle.json.specs.Json as json
use Rattle.serde_json.specs.Data.{array, object, Members, no_members, put}
use Rattle.serde_json.specs.Read.{of_json, of_items, of_members}
use Rattle.siri_json.specs.Shown.{data_of, items_data, members_data}

abbrev mutual
  pub IsFree : json.Json → Type 0
  IsFree json.null = ⊤
  IsFree (json.boolean b) = ⊤
  IsFree (json.number s) = ⊥
  IsFree (json.string s) = ⊤
  IsFree (json.array js) = ItemsAreFree js
  IsFree (json.object ms) = MembersAreFree ms

  pub ItemsAreFree : json.Items → Type 0
  ItemsAreFree json.no_items = ⊤
  ItemsAreFree (json.item j js) = IsFree j × ItemsAreFree js

  pub MembersAreFree : json.Members → Type 0
  MembersAreFree json.no_members = ⊤
  MembersAreFree (json.member k j ms) = IsFree j × MembersAreFree ms

mutual
  pub of_json-free : (j : json.Json) → IsFree j → of_json j ≡ Some (data_of j)
  of_json-free json.null h = refl
  of_json-free (json.boolean b) h = refl
  of_json-free (json.number s) h = absurd h
  of_json-free (json.string s) h = refl
  of_json-free (json.array js) h = ap (option_map array) (of_items-free js h)
  of_json-free (json.object ms) h = ap (option_map object) (of_members-free ms no_members h)

  of_items-free : (js : json.Items) → ItemsAreFree js → of_items js ≡ Some (items_data js)
  of_items-free json.no_items h = refl
  of_items-free (json.item j js) h = rw (of_json-free j h.0, of_items-free js h.1)

  of_members-free : (ms : json.Members) (found : Members) → MembersAreFree ms → of_members ms found ≡ Some (members_data ms found)
  of_members-free json.no_members found h = refl
  of_members-free (json.member k j ms) found h = rw (of_json-free j h.0) (of_members-free ms (put k (data_of j) found) h.1)
