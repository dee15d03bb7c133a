-- Lists and objects that are read entry by entry and member by member.
use Rattle.std.proofs.Common.{◌≡◌, ℕ, ◌+◌, ◌-◌, ◌<◌, ◌≤◌, List, [], ◌∷◌, ◌++◌, length, Bool, true, false, cond, bytes_eq, not, Option, Some, None}
use Rattle.std.proofs.Common.{option_map, Result, Ok, Bor, Vec, Global, refl, sym, ap, ◌∙◌, subst, true≢false, arith}
use Rattle.std.specs.Prelude.{⊤, nat_le, count_by}
use Rattle.std.proofs.lemmas.Bool.{le-leb}
use Rattle.std.proofs.lemmas.List.Sums.{sum_by-cons}
use Rattle.std.proofs.lemmas.Slice.Eq.{bytes_eq-Decides}
use Rattle.json.specs.Token.{Token}
use Rattle.json.specs.Json.{Json, Items, no_items, item, Members, no_members, member, object, array, value, members, read_key, parse_map}
use Rattle.json.specs.Find as find
use Rattle.json.specs.Value.{value_view, members_view}
use Rattle.json.specs.declared.value.Value.{Value, Object}
use Rattle.json.proofs.Grammar.{left, skip_value-shorter, read_key-shorter, members_more, members_end, value-begin_object}
use Rattle.json.proofs.Trees.{get_member-push, view-Object}
use Rattle.serde_json.specs.Data as trees
use Rattle.serde_json.specs.Data.{Data}
use Rattle.serde_json.specs.Find.{get}
use Rattle.siri_json.specs.Shown.{data_of, items_data, shown}
use Rattle.siri_json.proofs.Finds.{get-data_of}
use Rattle.siri_json.specs.Values.{unless_null, member_of, items_list, object_in, entries_of}
use Rattle.siri_tables.specs.Refusals.{Refusal}
use Rattle.siri_tables.specs.Rules.{table, entries_from, required_value, is_null, or_empty, list_of}
use Rattle.siri_deliveries.specs.AsItComes.{entries, is_among, AreOthers, IsOwn}

-- ---- entries

-- entries before others
abbrev pub items_before : Items → Items → Items
items_before no_items rest = rest
items_before (item j js) rest = item j (items_before js rest)

items_push : (js : Items) (j : Json) (rest : Items) → items_before js (item j rest) ≡ items_before (items_before js (item j no_items)) rest
items_push no_items j rest = refl
items_push (item i js) j rest = ap (item i) (items_push js j rest)

pub one_more_item : (js : Items) (j : Json) (r : Option (Items × List Token))
    → parse_map (items_before js) (parse_map (item j) r) ≡ parse_map (items_before (items_before js (item j no_items))) r
one_more_item js j None = refl
one_more_item js j (Some p) = ap (λ (is : Items). Some (is, p.1)) (items_push js j p.0)

pub no_more_items : (js : Items) → items_before js no_items ≡ js
no_more_items no_items = refl
no_more_items (item j js) = ap (item j) (no_more_items js)

-- each entry is an object, and its rows spell what was read of it
abbrev pub AreRead : {A : Type 0} → (Data → Result A Refusal) → Items → List A → Type 0
AreRead rows no_items [] = ⊤
AreRead rows no_items (x ∷ xs) = ⊥
AreRead rows (item j js) [] = ⊥
AreRead rows (item j js) (x ∷ xs) = ((ms : Members) × (j ≡ object ms) × (rows (data_of (object ms)) ≡ Ok x)) × AreRead rows js xs

pub one_more_read : {A : Type 0} (rows : Data → Result A Refusal) (js : Items) (ms : Members) (xs : List A) (x : A)
    → AreRead rows js xs → rows (data_of (object ms)) ≡ Ok x → AreRead rows (items_before js (item (object ms) no_items)) (xs ++ x ∷ [])
one_more_read rows no_items ms [] x h e = ((ms, refl, e), tt)
one_more_read rows no_items ms (y ∷ ys) x h e = absurd h
one_more_read rows (item j js) ms [] x h e = absurd h
one_more_read rows (item j js) ms (y ∷ ys) x h e = (h.0, one_more_read rows js ms ys x h.1 e)

object_is : {A : Type 0} (rows : Data → Result A Refusal) (ms : Members) (x : A) → rows (data_of (object ms)) ≡ Ok x
    → required_value (table rows) (data_of (object ms)) ≡ Ok x
unfolding required_value table object_in
object_is rows ms x e = rw e refl

pub all_read : {A : Type 0} (rows : Data → Result A Refusal) (place : ℕ) (js : Items) (xs : List A) → AreRead rows js xs
    → entries_from (table rows) place (items_list (items_data js)) ≡ Ok xs
unfolding entries_from
all_read rows place no_items [] h = refl
all_read rows place no_items (x ∷ xs) h = absurd h
all_read rows place (item j js) [] h = absurd h
all_read rows place (item j js) (x ∷ xs) h =
    rw (h.0.1, object_is rows h.0.0 x h.0.2, all_read rows (place + 1) js xs h.1) refl

pub as_many : {A : Type 0} (rows : Data → Result A Refusal) (js : Items) (xs : List A) → AreRead rows js xs
    → count_by (λ e. not (is_null e)) (items_list (items_data js)) ≡ length xs
as_many rows no_items [] h = refl
as_many rows no_items (x ∷ xs) h = absurd h
as_many rows (item j js) [] h = absurd h
as_many rows (item j js) (x ∷ xs) h =
    rw (h.0.1) (sum_by-cons (λ e. cond (not (is_null e)) 1 0) (data_of (object h.0.0)) (items_list (items_data js))
    ∙ rw (as_many rows js xs h.1) (omega arith))

-- what a list of these entries is read as
pub entries_are : {A : Type 0} (rows : Data → Result A Refusal) (most : ℕ) (js : Items) (xs : List A) → AreRead rows js xs
    → length xs ≤ most → entries rows most (data_of (array js)) ≡ Ok xs
unfolding entries_of list_of
entries_are rows most js xs h le =
    let few : nat_le (length xs) most ≡ true = le-leb _ _ le in
    rw (as_many rows js xs h, few, all_read rows 0 js xs h) refl

-- what came took tokens
pub shorter : (depth : ℕ) (before after : List Token) (j : Json) → value depth before ≡ Some (j, after) → length after < length before
shorter depth before after j e = skip_value-shorter depth before after (ap left e)

-- ---- members

-- members before others
abbrev pub members_before : Members → Members → Members
members_before no_members rest = rest
members_before (member k j ms) rest = member k j (members_before ms rest)

-- a member more
abbrev pub with_member : Members → List ℕ → Json → Members
with_member ms k j = members_before ms (member k j no_members)

members_push : (ms : Members) (k : List ℕ) (j : Json) (rest : Members) → members_before ms (member k j rest) ≡ members_before (with_member ms k j) rest
members_push no_members k j rest = refl
members_push (member l i ms) k j rest = ap (member l i) (members_push ms k j rest)

pub one_more_member : (ms : Members) (k : List ℕ) (j : Json) (r : Option (Members × List Token))
    → parse_map (members_before ms) (parse_map (member k j) r) ≡ parse_map (members_before (with_member ms k j)) r
one_more_member ms k j None = refl
one_more_member ms k j (Some p) = ap (λ (ns : Members). Some (ns, p.1)) (members_push ms k j p.0)

pub no_more_members : (ms : Members) → members_before ms no_members ≡ ms
no_more_members no_members = refl
no_more_members (member k j ms) = ap (member k j) (no_more_members ms)

latest : (b : Bool) (j : Json) (o p : Option Json) → find.later_or (cond b (Some j) o) p ≡ cond b (Some j) (find.later_or o p)
latest true j o p = refl
latest false j o p = refl

-- the last member of a name is the one that is found
found_last : (name : List ℕ) (ms : Members) (k : List ℕ) (j : Json)
    → find.get_member name (with_member ms k j) ≡ cond (bytes_eq k name) (Some j) (find.get_member name ms)
found_last name no_members k j = refl
found_last name (member l i ms) k j =
    ap (λ (o : Option Json). find.later_or o (cond (bytes_eq l name) (Some i) None)) (found_last name ms k j) ∙ latest (bytes_eq k name) j _ _

-- a name and a value took tokens
pub passed : (depth : ℕ) (l s r : List Token) (k : List ℕ) (j : Json) → read_key l ≡ Some (Some k, s) → value depth s ≡ Some (j, r) → length r < length l
passed depth l s r k j key came =
    let less = read_key-shorter l (Some k) s key in
    let lesser = shorter depth s r j came in omega (arith, less, lesser)

-- with each member that came, those that come later are read as before
pub came_on : (depth : ℕ) (all l s r : List Token) (n : ℕ) (before : Members) (k : List ℕ) (j : Json) → length l ≤ n
    → members (value depth) (length all) all ≡ parse_map (members_before before) (members (value depth) n l)
    → read_key l ≡ Some (Some k, s) → value depth s ≡ Some (j, r)
    → (m : ℕ) × (length r ≤ m) × (members (value depth) (length all) all ≡ parse_map (members_before (with_member before k j)) (members (value depth) m r))
came_on depth all l s r n before k j le so_far key came =
    let less = read_key-shorter l (Some k) s key in
    let lesser = passed depth l s r k j key came in
    let turn = members_more (value depth) n k l s r j (omega (arith, le, less)) key came in (
      n - 1,
      omega (arith, le, lesser),
      so_far ∙ ap (parse_map (members_before before)) turn ∙ one_more_member before k j (members (value depth) (n - 1) r),
    )

-- an object whose last member came
pub ended : (depth : ℕ) (all l first r : List Token) (n : ℕ) (before : Members) → 0 < depth → length l ≤ n
    → members (value (depth - 1)) (length all) all ≡ parse_map (members_before before) (members (value (depth - 1)) n l)
    → first ≡ Token.begin_object ∷ all → read_key l ≡ Some (None, r) → value depth first ≡ Some (object before, r)
ended depth all l first r n before deep le so_far opened closed =
    ap (value depth) opened ∙ value-begin_object depth all deep
    ∙ ap (parse_map object) (so_far ∙ ap (parse_map (members_before before)) (members_end (value (depth - 1)) n l r le closed)
    ∙ ap (λ (ms : Members). Some (ms, r)) (no_more_members before))

-- of the members that came those of other names are in the tree that is made
pub record Agree (keys : List (List ℕ)) (ms : Members) (others : List (Bor (List ℕ) × Value Global)) : Type 0 where
  pub same : (name : List ℕ) → is_among keys name ≡ false → find.get_member name ms ≡ find.get_member name (members_view others)
  pub none : (name : List ℕ) → is_among keys name ≡ true → find.get_member name (members_view others) ≡ None

-- what was read of those of a name
abbrev pub Read : {A : Type 0} → (Data → Result (List A) Refusal) → List ℕ → Members → List A → Type 0
Read read key ms own = or_empty read (unless_null (option_map data_of (find.get_member key ms))) ≡ Ok own

pub none_came : (keys : List (List ℕ)) → Agree keys no_members []
none_came keys = record { same = λ name e. refl; none = λ name e. refl }

among_where : (keys : List (List ℕ)) (k name : List ℕ) (b : Bool) → bytes_eq k name ≡ b → is_among keys k ≡ false
    → is_among keys name ≡ true → bytes_eq k name ≡ false
among_where keys k name false is other e = is
among_where keys k name true is other e =
    absurd (true≢false (sym e ∙ subst (λ (x : List ℕ). is_among keys x ≡ false) ((bytes_eq-Decides k name).0 is) other))

apart_where : (keys : List (List ℕ)) (k name : List ℕ) (b : Bool) → bytes_eq k name ≡ b → is_among keys k ≡ true
    → is_among keys name ≡ false → bytes_eq k name ≡ false
apart_where keys k name false is own e = is
apart_where keys k name true is own e =
    absurd (true≢false (sym own ∙ subst (λ (x : List ℕ). is_among keys x ≡ false) (sym ((bytes_eq-Decides k name).0 is)) e))

pub turned : (k key : List ℕ) (b : Bool) → bytes_eq k key ≡ b → bytes_eq key k ≡ b
turned k key true e = (bytes_eq-Decides key k).1 (sym ((bytes_eq-Decides k key).0 e))
turned k key false e = turned_where (bytes_eq key k) refl
  where
    turned_where : (b : Bool) → bytes_eq key k ≡ b → bytes_eq key k ≡ false
    turned_where false is = is
    turned_where true is = absurd (true≢false (sym ((bytes_eq-Decides k key).1 (sym ((bytes_eq-Decides key k).0 is))) ∙ e))

-- of one name
pub one_among : (key k : List ℕ) → bytes_eq k key ≡ true → is_among (key ∷ []) k ≡ true
one_among key k e = rw (turned k key true e) refl

pub one_apart : (key k : List ℕ) → bytes_eq k key ≡ false → is_among (key ∷ []) k ≡ false
one_apart key k e = rw (turned k key false e) refl

-- a member of another name goes into the tree
pub another : (keys : List (List ℕ)) (ms : Members) (others : List (Bor (List ℕ) × Value Global)) (m : Bor (List ℕ) × Value Global)
    → is_among keys m.0.now ≡ false → Agree keys ms others → Agree keys (with_member ms m.0.now (value_view m.1)) (others ++ m ∷ [])
another keys ms others m other h = record {
  same = λ name e. found_last name ms m.0.now (value_view m.1)
      ∙ ap (cond (bytes_eq m.0.now name) (Some (value_view m.1))) (h.same name e) ∙ sym (get_member-push name others m);
  none = λ name e. get_member-push name others m
      ∙ ap (λ (b : Bool). cond b (Some (value_view m.1)) (find.get_member name (members_view others)))
      (among_where keys m.0.now name _ refl other e) ∙ h.none name e;
}

-- one of these names doesn't
pub its_own : (keys : List (List ℕ)) (ms : Members) (others : List (Bor (List ℕ) × Value Global)) (k : List ℕ) (j : Json)
    → is_among keys k ≡ true → Agree keys ms others → Agree keys (with_member ms k j) others
its_own keys ms others k j own h = record {
  same = λ name e. found_last name ms k j
      ∙ ap (λ (b : Bool). cond b (Some j) (find.get_member name ms)) (apart_where keys k name _ refl own e) ∙ h.same name e;
  none = h.none;
}

-- what was read of another name stays
pub stays : {A : Type 0} (read : Data → Result (List A) Refusal) (key : List ℕ) (ms : Members) (own : List A) (k : List ℕ)
    (j : Json) → bytes_eq k key ≡ false → Read read key ms own → Read read key (with_member ms k j) own
stays read key ms own k j other h =
    ap (λ (o : Option Json). or_empty read (unless_null (option_map data_of o)))
    (found_last key ms k j ∙ ap (λ (b : Bool). cond b (Some j) (find.get_member key ms)) other) ∙ h

there : (d : Data) → is_null d ≡ false → unless_null (Some d) ≡ Some d
there trees.null e = absurd (cc e)
there (trees.boolean b) e = refl
there (trees.number n) e = refl
there (trees.string s) e = refl
there (trees.array ds) e = refl
there (trees.object ms) e = refl

-- the last of a name counts
pub is_read : {A : Type 0} (read : Data → Result (List A) Refusal) (key : List ℕ) (ms : Members) (own : List A) (k : List ℕ)
    (j : Json) → bytes_eq k key ≡ true → is_null (data_of j) ≡ false → read (data_of j) ≡ Ok own → Read read key (with_member ms k j) own
is_read read key ms own k j same null e =
    ap (λ (o : Option Json). or_empty read (unless_null (option_map data_of o)))
    (found_last key ms k j ∙ ap (λ (b : Bool). cond b (Some j) (find.get_member key ms)) same)
    ∙ ap (or_empty read) (there (data_of j) null) ∙ e

-- the same of an object whose members came, and of the tree that was made
pub are_others : (keys : List (List ℕ)) (ms : Members) (others : Vec (Bor (List ℕ) × Value Global) Global)
    → Agree keys ms others.items → AreOthers keys ms (shown (Object others))
are_others keys ms others h =
    let view = view-Object others in record {
      same = λ name e. get-data_of name (object ms) ∙ ap (option_map data_of) (h.same name e)
          ∙ sym (ap (get name) (ap data_of view) ∙ get-data_of name (object (members_view others.items)));
      none = λ name e. ap (get name) (ap data_of view) ∙ get-data_of name (object (members_view others.items)) ∙ ap (option_map data_of) (h.none name e);
    }

pub is_own : {A : Type 0} (read : Data → Result (List A) Refusal) (key : List ℕ) (ms : Members) (own : List A)
    → Read read key ms own → IsOwn read key ms own
unfolding member_of
is_own read key ms own h = ap (λ (o : Option Data). or_empty read (unless_null o)) (get-data_of key (object ms)) ∙ h
