-- A row that is read is spelled, and one that is spelled is read.
use Rattle.std.proofs.Common.{◌≡◌, ℕ, List, [], ◌∷◌, Option, Some, None, Result, Ok, Err, refl, ap, ◌∙◌}
use Rattle.serde_json.specs.Data.{Data}
use Rattle.siri_json.specs.declared.path.Step.{Step}
use Rattle.siri_json.specs.declared.path.Step.TheVariants.{Member}
use Rattle.siri_json.specs.Values.{Found, found, absent, wrong, object_in, member_of}
use Rattle.siri_tables.specs.Refusals.{Refusal, ◌>>=◌, below, each}
use Rattle.siri_tables.specs.Rules.{table, unless_wrong, maybe, required, row, required_row, required_value}
use Rattle.siri_tables.specs.Spelling.{Spells, IfFound}

pub bind_ok : {A B : Type 0} (r : Result A Refusal) (f : A → Result B Refusal) (y : B) → (r >>= f) ≡ Ok y → (x : A) × (r ≡ Ok x) × (f x ≡ Ok y)
bind_ok (Ok x) f y e = (x, refl, e)
bind_ok (Err r) f y e = absurd cc

abbrev pub some : {A : Type 0} → A → Option A
some x = Some x

abbrev pub done : {A : Type 0} → A → Result A Refusal
done x = Ok x

pub ok_is : {A : Type 0} (x y : A) → done x ≡ done y → x ≡ y
ok_is x y e = cc

pub below_ok : {A : Type 0} (step : Step) (r : Result A Refusal) (x : A) → below step r ≡ Ok x → r ≡ Ok x
below_ok step (Ok y) x e = e
below_ok step (Err r) x e = absurd cc

pub row_spelled : {A : Type 0} (rule : Data → Result (Option A) Refusal) (key : List ℕ) (d : Data) (value : Option A)
    → row rule key d ≡ Ok value → Spells rule key d value
unfolding row
row_spelled rule key d value e = below_ok (Member key) (maybe rule (member_of key d)) value e

pub some_is : {A : Type 0} (x y : A) → some x ≡ some y → x ≡ y
some_is x y e = cc

pub required_ok : {A : Type 0} (path : List Step) (o : Option A) (x : A) → required path o ≡ Ok x → o ≡ Some x
required_ok path None x e = absurd cc
required_ok path (Some y) x e = ap Some (ok_is y x e)

pub required_row_spelled : {A : Type 0} (rule : Data → Result (Option A) Refusal) (key : List ℕ) (d : Data) (value : A)
    → required_row rule key d ≡ Ok value → Spells rule key d (Some value)
unfolding required_row
required_row_spelled rule key d value e =
    let r = bind_ok (row rule key d) (required (Member key ∷ [])) value e in
    row_spelled rule key d (Some value) (r.1 ∙ ap (λ (o : Option _). Ok o) (required_ok (Member key ∷ []) r.0 value r.2))

pub required_value_is : {A : Type 0} (rows : Data → Result A Refusal) (f : Found Data) (x : A)
    → ((unless_wrong f >>= each rows) >>= required []) ≡ Ok x → IfFound f (λ o. rows o ≡ Ok x)
required_value_is rows (found o) x e =
    let r = bind_ok (rows o >>= λ y. done (Some y)) (required []) x e in
    let y = bind_ok (rows o) _ r.0 r.1 in
    y.1 ∙ ap (λ (z : _). Ok z) (some_is _ x (ok_is (Some y.0) r.0 y.2 ∙ required_ok [] r.0 x r.2))
required_value_is rows absent x e = absurd cc
required_value_is rows wrong x e = absurd cc

pub table_is : {A : Type 0} (rows : Data → Result A Refusal) (d : Data) (x : A) → required_value (table rows) d ≡ Ok x
    → IfFound (object_in d) (λ o. rows o ≡ Ok x)
unfolding required_value table
table_is rows d x e = required_value_is rows (object_in d) x e

pub found_map : (f : Found Data) (P Q : Data → Type 0) → ((o : Data) → P o → Q o) → IfFound f P → IfFound f Q
found_map (found o) P Q h is = h o is
found_map absent P Q h is = is
found_map wrong P Q h is = is

pub row_ok : {A : Type 0} (rule : Data → Result (Option A) Refusal) (key : List ℕ) (d : Data) (value : Option A)
    → Spells rule key d value → row rule key d ≡ Ok value
unfolding row
row_ok rule key d value spells = rw spells refl

pub required_row_ok : {A : Type 0} (rule : Data → Result (Option A) Refusal) (key : List ℕ) (d : Data) (value : A)
    → Spells rule key d (Some value) → required_row rule key d ≡ Ok value
unfolding required_row
required_row_ok rule key d value spells = rw (row_ok rule key d (Some value) spells) refl

pub value_ok : {A : Type 0} (rule : Data → Result (Option A) Refusal) (d : Data) (x : A) → rule d ≡ Ok (Some x) → required_value rule d ≡ Ok x
unfolding required_value
value_ok rule d x is = rw is refl

pub required_value_ok : {A : Type 0} (rows : Data → Result A Refusal) (f : Found Data) (x : A)
    → IfFound f (λ o. rows o ≡ Ok x) → ((unless_wrong f >>= each rows) >>= required []) ≡ Ok x
required_value_ok rows (found o) x is = rw is refl
required_value_ok rows absent x is = absurd is
required_value_ok rows wrong x is = absurd is

pub table_ok : {A : Type 0} (rows : Data → Result A Refusal) (d : Data) (x : A)
    → IfFound (object_in d) (λ o. rows o ≡ Ok x) → required_value (table rows) d ≡ Ok x
unfolding required_value table
table_ok rows d x is = required_value_ok rows (object_in d) x is
