-- The entries of a list.
use Rattle.std.proofs.Common.{◌≡◌, ℕ, ◌+◌, ◌<◌, ◌≤◌, true, false, List, [], ◌∷◌, ◌++◌, length, get_or, drop, map, Option, Global, Result}
use Rattle.std.proofs.Common.{Ok, Err, refl, ap, sym, ◌∙◌, append_assoc, add-one, drop-cons}
use Rattle.std.specs.Prelude.{option_to_list, OnOk, IfOk}
use Rattle.std.specs.Result.{result_map_both}
use Rattle.std.proofs.lemmas.List.{append-nil, drop_all}
use Rattle.serde_json.specs.Data.{Data}
use Rattle.siri_json.specs.Shown.{shown}
use Rattle.json.specs.declared.value.Value.{Value}
use Rattle.siri_json.specs.declared.path.Step.{Step}
use Rattle.siri_json.specs.declared.path.Step.TheVariants.{Place}
use Rattle.siri_base.specs.declared.reason.Reason.TheVariants.{Missing}
use Rattle.siri_tables.specs.declared.refusal.TableError.{TableError}
use Rattle.siri_tables.specs.declared.refusal.TableError.TheVariants as errors
use Rattle.siri_tables.specs.Refusals.{◌>>=◌, Refusal, Fails, Gives, refused, below}
use Rattle.siri_tables.specs.Rules.{is_null, required_value, entries_from, found_from}

-- what was read so far, and then the rest
abbrev pub after : {A : Type 0} → List A → Result (List A) Refusal → Result (List A) Refusal
after front read = read >>= λ xs. Ok (front ++ xs)

-- the values from a place on
abbrev pub rest_from : ℕ → List (Value Global) → List Data
rest_from place vs = map shown (drop place vs)

pub rest_from-cons : (place : ℕ) (vs : List (Value Global)) (d : Value Global) → place < length vs
    → rest_from place vs ≡ shown (get_or vs place d) ∷ rest_from (place + 1) vs
rest_from-cons place vs d lt = ap (map shown) (drop-cons vs place d lt) ∙ rw (add-one) refl

pub rest_from-here : (place : ℕ) (vs : List (Value Global)) (v : Value Global) → place < length vs
    → v ≡ get_or vs place v → rest_from place vs ≡ shown v ∷ rest_from (place + 1) vs
rest_from-here place vs v lt here = rest_from-cons place vs v lt ∙ ap (λ (x : Value Global). shown x ∷ rest_from (place + 1) vs) (sym here)

pub rest_from-all : (place : ℕ) (vs : List (Value Global)) → length vs ≤ place → rest_from place vs ≡ []
rest_from-all place vs le = ap (map shown) (drop_all place vs le)

pub passes : {A : Type 0} (rule : Data → Result (Option A) Refusal) (front : List A) (place : ℕ) (v : Data) (rest : List Data) (total : Result (List A) Refusal)
    → is_null v ≡ true → after front (entries_from rule place (v ∷ rest)) ≡ total → after front (entries_from rule (place + 1) rest) ≡ total
unfolding entries_from
passes rule front place v rest total null so_far = rw null at so_far

regroup : {A : Type 0} (front : List A) (x : A) (read : Result (List A) Refusal)
    → after front (read >>= λ others. Ok (x ∷ others)) ≡ after (front ++ x ∷ []) read
regroup front x (Ok xs) = ap (λ (all : List _). Ok all) (sym (append_assoc front (x ∷ []) xs))
regroup front x (Err r) = refl

pub takes : {A : Type 0} (rule : Data → Result (Option A) Refusal) (front : List A) (place : ℕ) (v : Data)
    (rest : List Data) (x : A) (total : Result (List A) Refusal)
    → is_null v ≡ false → below (Place place) (required_value rule v) ≡ Ok x
    → after front (entries_from rule place (v ∷ rest)) ≡ total
    → after (front ++ x ∷ []) (entries_from rule (place + 1) rest) ≡ total
unfolding entries_from
takes rule front place v rest x total required_value_is read so_far =
    sym (regroup front x (entries_from rule (place + 1) rest)) ∙ (rw (required_value_is, read) at so_far)

pub fails : {A : Type 0} (rule : Data → Result (Option A) Refusal) (front : List A) (place : ℕ) (v : Data)
    (rest : List Data) (e : TableError) (total : Result (List A) Refusal)
    → is_null v ≡ false → Fails e (below (Place place) (required_value rule v)) → after front (entries_from rule place (v ∷ rest)) ≡ total → Fails e total
unfolding entries_from
fails rule front place v rest errors.OutOfMemory total required_value_is read so_far = tt
fails rule front place v rest (errors.Refused path reason) total required_value_is read so_far = sym so_far ∙ rw (required_value_is, read) refl

-- an entry was read, and nothing is told but that
abbrev pub is_read : {A : Type 0} → Result A Refusal → Result (Unit {0}) Refusal
is_read r = result_map_both (λ x. tt) (λ e. e) r

-- what is seen as read from the list was read
pub was_read : (read : Result (Unit {0}) TableError) (step : Step) (P : Type 0)
    → ((r : Result (Unit {0}) Refusal) → Gives read r → below step r ≡ Ok tt) → OnOk read P → P
was_read (Ok x) step P h p = p
was_read (Err errors.OutOfMemory) step P h p = absurd (cc (h (refused Missing) tt))
was_read (Err (errors.Refused path reason)) step P h p = absurd (cc (h (Err (record { path = path; reason = reason })) refl))

pub pushes : {A : Type 0} (rule : Data → Result (Option A) Refusal) (front : List A) (place : ℕ) (v : Data)
    (rest : List Data) (found : List A) (total : Result (List A) Refusal)
    → is_null v ≡ false → below (Place place) (is_read (required_value rule v)) ≡ Ok tt
    → IfOk (required_value rule v) (λ x. found ≡ front ++ x ∷ [])
    → after front (entries_from rule place (v ∷ rest)) ≡ total
    → after found (entries_from rule (place + 1) rest) ≡ total
pushes {A} rule front place v rest found total there read pushed so_far = choose (required_value rule v) refl read pushed
  where
    choose : (r : Result A Refusal) → required_value rule v ≡ r → below (Place place) (is_read r) ≡ Ok tt
        → IfOk r (λ x. found ≡ front ++ x ∷ []) → after found (entries_from rule (place + 1) rest) ≡ total
    choose (Ok x) e ok same = rw same (takes rule front place v rest x total there (ap (below (Place place)) e) so_far)
    choose (Err q) e ok same = absurd (cc ok)

pub fails_read : {A : Type 0} (rule : Data → Result (Option A) Refusal) (front : List A) (place : ℕ) (v : Data)
    (rest : List Data) (e : TableError) (total : Result (List A) Refusal)
    → is_null v ≡ false → Fails e (below (Place place) (is_read (required_value rule v)))
    → after front (entries_from rule place (v ∷ rest)) ≡ total → Fails e total
fails_read {A} rule front place v rest e total there failed so_far = fails rule front place v rest e total there (choose e (required_value rule v) failed) so_far
  where
    choose : (e : TableError) (r : Result A Refusal) → Fails e (below (Place place) (is_read r)) → Fails e (below (Place place) r)
    choose errors.OutOfMemory r h = tt
    choose (errors.Refused path reason) (Ok x) h = absurd (cc h)
    choose (errors.Refused path reason) (Err q) h = cc h

pub done : {A : Type 0} (rule : Data → Result (Option A) Refusal) (front : List A) (place : ℕ) (rest : List Data) (total : Result (List A) Refusal)
    → rest ≡ [] → after front (entries_from rule place rest) ≡ total → total ≡ Ok front
unfolding entries_from
done rule front place rest total none so_far = sym so_far ∙ rw (none) (ap (λ (all : List _). Ok all) (append-nil front))

-- ---- the same, where what counts as absent is passed over

pub found_passes : {A : Type 0} (rule : Data → Result (Option A) Refusal) (front : List A) (place : ℕ) (v : Data)
    (rest : List Data) (total : Result (List A) Refusal)
    → is_null v ≡ true → after front (found_from rule place (v ∷ rest)) ≡ total → after front (found_from rule (place + 1) rest) ≡ total
unfolding found_from
found_passes rule front place v rest total null so_far = rw null at so_far

join : {A : Type 0} (front : List A) (o : Option A) (read : Result (List A) Refusal)
    → after front (read >>= λ others. Ok (option_to_list o ++ others)) ≡ after (front ++ option_to_list o) read
join front o (Ok xs) = ap (λ (all : List _). Ok all) (sym (append_assoc front (option_to_list o) xs))
join front o (Err r) = refl

pub found_takes : {A : Type 0} (rule : Data → Result (Option A) Refusal) (front : List A) (place : ℕ) (v : Data)
    (rest : List Data) (o : Option A) (total : Result (List A) Refusal)
    → is_null v ≡ false → below (Place place) (rule v) ≡ Ok o → after front (found_from rule place (v ∷ rest)) ≡ total
    → after (front ++ option_to_list o) (found_from rule (place + 1) rest) ≡ total
unfolding found_from
found_takes rule front place v rest o total required_value_is read so_far =
    sym (join front o (found_from rule (place + 1) rest)) ∙ (rw (required_value_is, read) at so_far)

pub found_fails : {A : Type 0} (rule : Data → Result (Option A) Refusal) (front : List A) (place : ℕ) (v : Data)
    (rest : List Data) (e : TableError) (total : Result (List A) Refusal)
    → is_null v ≡ false → Fails e (below (Place place) (rule v)) → after front (found_from rule place (v ∷ rest)) ≡ total → Fails e total
unfolding found_from
found_fails rule front place v rest errors.OutOfMemory total required_value_is read so_far = tt
found_fails rule front place v rest (errors.Refused path reason) total required_value_is read so_far = sym so_far ∙ rw (required_value_is, read) refl

pub found_done : {A : Type 0} (rule : Data → Result (Option A) Refusal) (front : List A) (place : ℕ) (rest : List Data) (total : Result (List A) Refusal)
    → rest ≡ [] → after front (found_from rule place rest) ≡ total → total ≡ Ok front
unfolding found_from
found_done rule front place rest total none so_far = sym so_far ∙ rw (none) (ap (λ (all : List _). Ok all) (append-nil front))
