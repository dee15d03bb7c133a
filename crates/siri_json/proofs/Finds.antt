-- Looking up in a borrowed value, and in its data.
use Rattle.std.proofs.Common.{◌≡◌, ℕ, List, [], ◌∷◌, map, Bool, true, false, cond, bytes_eq, Option, Some, None, option_map, Vec, Global}
use Rattle.std.proofs.Common.{Bor, refl, sym, ap, ◌∙◌, subst, true≢false}
use Rattle.std.proofs.lemmas.Slice.Eq.{bytes_eq-Decides}
use Rattle.json.specs.Json as json
use Rattle.json.specs.Find as find
use Rattle.json.specs.Value.{value_view, items_view}
use Rattle.json.specs.declared.value.Value.{Value, Array}
use Rattle.json.proofs.Trees.{view-Array}
use Rattle.serde_json.specs.Data.{Data, array, Members, no_members, put}
use Rattle.serde_json.specs.Find.{get_member, get}
use Rattle.serde_json.proofs.Views.{get_member-put, get_member-put_other}
use Rattle.siri_json.specs.Values.{items_list}
use Rattle.siri_json.specs.Shown.{data_of, items_data, members_data, shown}

either : {A : Type 0} → Option A → Option A → Option A
either None other = other
either (Some a) other = Some a

put_at : (name k : List ℕ) (d : Data) (found : Members) (b : Bool) → bytes_eq k name ≡ b
    → get_member name (put k d found) ≡ cond b (Some d) (get_member name found)
put_at name k d found true is = subst (λ (n : List ℕ). get_member n (put k d found) ≡ Some d) ((bytes_eq-Decides k name).0 is) (get_member-put k d found)
put_at name k d found false is = get_member-put_other name k d found (λ same. true≢false (sym ((bytes_eq-Decides k name).1 (sym same)) ∙ is))

step : (o : Option json.Json) (b : Bool) (j : json.Json) (old new : Option Data) → new ≡ cond b (Some (data_of j)) old
    → either (option_map data_of o) new ≡ either (option_map data_of (find.later_or o (cond b (Some j) None))) old
unfolding either
step None true j old new e = e
step None false j old new e = e
step (Some x) b j old new e = refl

-- the last member of a name is the one that stays
later : (name : List ℕ) (ms : json.Members) (found : Members)
    → get_member name (members_data ms found) ≡ either (option_map data_of (find.get_member name ms))
    (get_member name found)
unfolding either
later name json.no_members found = refl
later name (json.member k j ms) found =
    later name ms (put k (data_of j) found) ∙ step (find.get_member name ms) (bytes_eq k name) j
    (get_member name found) _ (put_at name k (data_of j) found _ refl)

alone : (o : Option Data) → either o None ≡ o
unfolding either
alone None = refl
alone (Some d) = refl

-- looking up in a borrowed value agrees with looking up in its data
pub get-data_of : (name : List ℕ) (j : json.Json) → get name (data_of j) ≡ option_map data_of (find.get name j)
get-data_of name json.null = refl
get-data_of name (json.boolean b) = refl
get-data_of name (json.number s) = refl
get-data_of name (json.string s) = refl
get-data_of name (json.array js) = refl
get-data_of name (json.object ms) = later name ms no_members ∙ alone _

pub items_list_view : (vs : List (Value Global)) → map shown vs ≡ items_list (items_data (items_view vs))
items_list_view [] = refl
items_list_view (v ∷ vs) = ap (λ ds. shown v ∷ ds) (items_list_view vs)

pub shown-Array : (v : Vec (Value Global) Global) → shown (Array v) ≡ array (items_data (items_view v.items))
shown-Array v = ap data_of (view-Array v)

pub shown_of_ref : (r : Option (Bor (Value Global))) → option_map (λ x. shown x.now) r ≡ option_map data_of (option_map (λ x. value_view x.now) r)
shown_of_ref None = refl
shown_of_ref (Some x) = refl
