-- The rows of a table: each is what is found at its place, and rows that are found at places are those that were written there.
use Rattle.std.proofs.Common.{◌≡◌, ℕ, List, [], ◌∷◌, ◌++◌, map, filter, cond, Bool, true, false, ◌&&◌, Option, None, Some, refl, ap, sym, ◌∙◌, subst, inl, inr}
use Rattle.std.specs.Prelude.{◌==◌, IsSome, find, option_map}
use Rattle.std.specs.BTreeMap.{is_at}
use Rattle.std.specs.Cmp.{tied_itself}
use Rattle.std.specs.Cmp.Lexicographic.{slice_cmp}
use Rattle.std.specs.FinMap.{nat_cmp-IsAntisymmetric, slice_cmp-IsAntisymmetric}
use Rattle.std.specs.List.{AllByRecursion as All, AllZip, Contains}
use Rattle.std.specs.List.Sorted.{IsStrictlySortedBy}
use Rattle.std.specs.Map.{keys_of, lookup}
use Rattle.std.specs.Ordering.{is_eq, nat_cmp, ordering_then}
use Rattle.std.specs.declared.cmp.Ordering.{Ordering}
use Rattle.std.specs.declared.cmp.Ordering.TheVariants.{Less, Equal, Greater}
use Rattle.std.proofs.lemmas.Bool.{eqb-false, eqb-true}
use Rattle.std.proofs.lemmas.Cmp.{eq_by_cmp_equiv, nat_cmp_total, nat_list_cmp_total}
use Rattle.siri_outside.specs.declared.rows.StoredRow.{StoredRow}
use Rattle.siri_outside.specs.Rows.{InOrder, Rows, of_table, place_cmp, place_of, text_at}
use Rattle.siri_outside.proofs.Order.{order_kept, place_total}
use Rattle.siri_wire.proofs.MessageValues.{all_map}
use Rattle.siri_keeping.proofs.Found.{tied_is}
use Rattle.siri_keeping.proofs.SameItems.{same_entries}
use Rattle.siri_keeping.proofs.Written.{first_or, none_in, nothing_there}

-- ---- what holds of those that pass a test

passing_at : {X : Type 0} (p : X → Bool) (P Q : X → Type 0) (x : X) (xs : List X) (b : Bool) → p x ≡ b → (p x ≡ true → P x → Q x) → P x
    → All Q (filter p xs) → All Q (filter p (x ∷ xs))
passing_at p P Q x xs true is has here rest = rw is (has is here, rest)
passing_at p P Q x xs false is has here rest = rw is rest

pub all_passing : {X : Type 0} (p : X → Bool) (P Q : X → Type 0) → ((x : X) → p x ≡ true → P x → Q x) → (xs : List X) → All P xs → All Q (filter p xs)
all_passing p P Q has [] all = tt
all_passing p P Q has (x ∷ xs) all = passing_at p P Q x xs (p x) refl (has x) all.0 (all_passing p P Q has xs all.1)

-- ---- each row is found at its place

abbrev pub IsThere : Rows → StoredRow → Type 0
IsThere rows row = text_at rows row.table row.key ≡ Some row.text

first_there : (row : StoredRow) (rows : Rows) → IsThere (row ∷ rows) row
first_there row rows = rw (ap is_eq (tied_itself place_total (place_of row))) refl

later_there : (row : StoredRow) (rows rest : Rows) → All (λ q. place_cmp (place_of row) q ≡ Less) (map place_of rest) → All (IsThere rows) rest
    → All (IsThere (row ∷ rows)) rest
later_there row rows [] below there = tt
later_there row rows (r ∷ rest) below there = (rw (ap is_eq below.0) there.0, later_there row rows rest below.1 there.1)

pub all_there : (rows : Rows) → InOrder rows → All (IsThere rows) rows
unfolding IsStrictlySortedBy
all_there [] s = tt
all_there (row ∷ rows) s = (first_there row rows, later_there row rows rows s.0 (all_there rows s.1))

-- a row of a table, found there
pub record IsIn (table : ℕ) (rows : Rows) (row : StoredRow) : Type 0 where
  pub own : row.table ≡ table
  pub there : text_at rows table row.key ≡ Some row.text

pub is_in : (table : ℕ) (rows : Rows) (row : StoredRow) → row.table ≡ table → IsThere rows row → IsIn table rows row
is_in table rows row own there = record { own = own; there = sym (ap (λ t. text_at rows t row.key) own) ∙ there }

pub all_in : (table : ℕ) (rows : Rows) → InOrder rows → All (IsIn table rows) (of_table table rows)
all_in table rows s =
    all_passing (λ (row : StoredRow). row.table == table) (IsThere rows) (IsIn table rows)
    (λ row is there. is_in table rows row (eqb-true row.table table is) there) rows (all_there rows s)

-- ---- a table's rows as their keys and texts

abbrev pub pair_of : StoredRow → List ℕ × List ℕ
pair_of row = (row.key, row.text)

below_row : (r q : StoredRow) → r.table ≡ q.table → place_cmp (place_of r) (place_of q) ≡ Less → slice_cmp nat_cmp r.key q.key ≡ Less
below_row r q same less =
    let level : nat_cmp r.table q.table ≡ Equal = ap (nat_cmp r.table) (sym same) ∙ tied_itself nat_cmp_total r.table in
    sym (ap (λ o. ordering_then o (slice_cmp nat_cmp r.key q.key)) level) ∙ less

below_pairs : (table : ℕ) (r : StoredRow) (rows : Rows) → r.table ≡ table → All (λ (q : StoredRow). q.table ≡ table) rows
    → All (λ q. place_cmp (place_of r) q ≡ Less) (map place_of rows) → All (λ k. slice_cmp nat_cmp r.key k ≡ Less) (keys_of (map pair_of rows))
below_pairs table r [] own all below = tt
below_pairs table r (q ∷ rows) own all below = (below_row r q (own ∙ sym all.0) below.0, below_pairs table r rows own all.1 below.1)

pub pairs_in_order : (table : ℕ) (rows : Rows) → InOrder rows → All (λ (row : StoredRow). row.table ≡ table) rows
    → IsStrictlySortedBy (slice_cmp nat_cmp) (keys_of (map pair_of rows))
unfolding IsStrictlySortedBy
pairs_in_order table [] s all = tt
pairs_in_order table (row ∷ rows) s all = (below_pairs table row rows all.0 all.1 s.0, pairs_in_order table rows s.1 all.1)

-- ---- what is found by a key

tied_then : (o p : Ordering) → is_eq (ordering_then o p) ≡ (is_eq o && is_eq p)
tied_then Less p = refl
tied_then Equal p = refl
tied_then Greater p = refl

level_by : (a b : ℕ) (same : Bool) → (a == b) ≡ same → is_eq (nat_cmp a b) ≡ same
level_by a b true is = ap (λ n. is_eq (nat_cmp a n)) (sym (eqb-true a b is)) ∙ ap is_eq (tied_itself nat_cmp_total a)
level_by a b false is = apart (nat_cmp a b) refl
  where
    apart : (o : Ordering) → nat_cmp a b ≡ o → is_eq o ≡ false
    apart Less e = refl
    apart Greater e = refl
    apart Equal e = absurd (eqb-false a b is (nat_cmp-IsAntisymmetric a b e))

module _ (table : ℕ) (key : List ℕ) where
  abbrev is_key : List ℕ → Bool
  is_key = is_at (slice_cmp nat_cmp key)

  abbrev is_place : StoredRow → Bool
  is_place row = is_eq (place_cmp (place_of row) (table, key))

  place_by : (row : StoredRow) (same : Bool) → (row.table == table) ≡ same → is_place row ≡ (same && is_key row.key)
  place_by row same is =
      tied_then (nat_cmp row.table table) (slice_cmp nat_cmp row.key key)
      ∙ (λ i. level_by row.table table same is i && (eq_by_cmp_equiv nat_list_cmp_total).symm row.key key i)

  text_if : (b : Bool) (row : StoredRow) (o : Option StoredRow)
      → cond b (Some row.text) (option_map (λ (r : StoredRow). r.text) o) ≡ option_map (λ (r : StoredRow). r.text) (cond b (Some row) o)
  text_if true row o = refl
  text_if false row o = refl

  pub pairs_at : (rows : Rows) → lookup is_key (map pair_of (of_table table rows)) ≡ text_at rows table key
  pairs_at [] = refl
  pairs_at (row ∷ rows) = by (row.table == table) refl (pairs_at rows)
    where
      by : (b : Bool) → (row.table == table) ≡ b → lookup is_key (map pair_of (of_table table rows)) ≡ text_at rows table key
          → lookup is_key (map pair_of (cond (row.table == table) (row ∷ of_table table rows) (of_table table rows)))
          ≡ option_map (λ (r : StoredRow). r.text) (cond (is_place row) (Some row) (find is_place rows))
      by true own more =
          (λ i. lookup is_key (map pair_of (cond (own i) (row ∷ of_table table rows) (of_table table rows))))
          ∙ ap (cond (is_key row.key) (Some row.text)) more
          ∙ text_if (is_key row.key) row (find is_place rows)
          ∙ ap (λ b. option_map (λ (r : StoredRow). r.text) (cond b (Some row) (find is_place rows))) (sym (place_by row true own))
      by false other more =
          (λ i. lookup is_key (map pair_of (cond (other i) (row ∷ of_table table rows) (of_table table rows))))
          ∙ more
          ∙ ap (λ b. option_map (λ (r : StoredRow). r.text) (cond b (Some row) (find is_place rows))) (sym (place_by row false other))

-- ---- what was written at places

abbrev pub placed : List ℕ → Option (List ℕ) → List (List ℕ × List ℕ)
placed place None = []
placed place (Some text) = (place, text) ∷ []

-- of each of a list its text at its place, where it has one
abbrev pub entries_at : {S : Type 0} → (S → Option (List ℕ)) → List (List ℕ) → List S → List (List ℕ × List ℕ)
entries_at f [] list = []
entries_at f (place ∷ places) [] = []
entries_at f (place ∷ places) (s ∷ list) = placed place (f s) ++ entries_at f places list

module _ {S : Type 0} (f : S → Option (List ℕ)) where
  below_entry : (k place : List ℕ) (o : Option (List ℕ)) (rest : List (List ℕ × List ℕ)) → slice_cmp nat_cmp k place ≡ Less
      → All (λ j. slice_cmp nat_cmp k j ≡ Less) (keys_of rest) → All (λ j. slice_cmp nat_cmp k j ≡ Less) (keys_of (placed place o ++ rest))
  below_entry k place None rest less below = below
  below_entry k place (Some text) rest less below = (less, below)

  below_entries : (k : List ℕ) (places : List (List ℕ)) (list : List S) → All (λ place. slice_cmp nat_cmp k place ≡ Less) places
      → All (λ j. slice_cmp nat_cmp k j ≡ Less) (keys_of (entries_at f places list))
  below_entries k [] list below = tt
  below_entries k (place ∷ places) [] below = tt
  below_entries k (place ∷ places) (s ∷ list) below =
      below_entry k place (f s) (entries_at f places list) below.0 (below_entries k places list below.1)

  entry_in_order : (place : List ℕ) (o : Option (List ℕ)) (rest : List (List ℕ × List ℕ)) → All (λ j. slice_cmp nat_cmp place j ≡ Less) (keys_of rest)
      → IsStrictlySortedBy (slice_cmp nat_cmp) (keys_of rest) → IsStrictlySortedBy (slice_cmp nat_cmp) (keys_of (placed place o ++ rest))
  unfolding IsStrictlySortedBy
  entry_in_order place None rest below s = s
  entry_in_order place (Some text) rest below s = (below, s)

  entries_in_order : (places : List (List ℕ)) (list : List S) → IsStrictlySortedBy (slice_cmp nat_cmp) places
      → IsStrictlySortedBy (slice_cmp nat_cmp) (keys_of (entries_at f places list))
  unfolding IsStrictlySortedBy
  entries_in_order [] list s = tt
  entries_in_order (place ∷ places) [] s = tt
  entries_in_order (place ∷ places) (x ∷ list) s =
      entry_in_order place (f x) (entries_at f places list) (below_entries place places list s.0) (entries_in_order places list s.1)

  module _ (table : ℕ) (rows : Rows) where
    abbrev AreAt : List (List ℕ) → List S → Type 0
    AreAt = AllZip (λ place s. text_at rows table place ≡ f s)

    abbrev found : List ℕ → Option (List ℕ)
    found key = text_at rows table key

    others : (key place : List ℕ) (places : List (List ℕ)) → (place ≡ key → found key ≡ None) → (IsSome (found key) → Contains (place ∷ places) key)
        → IsSome (found key) → Contains places key
    others key place places none among some = elim (first_or place key places (among some)) [
      | inl same ↦ cc (subst IsSome (none same) some)
      | inr rest ↦ rest
    ]

    entry_found : (key place : List ℕ) (s : S) (rest : List (List ℕ × List ℕ)) (o : Option (List ℕ)) (b : Bool) → f s ≡ o → is_at (slice_cmp nat_cmp key) place ≡ b
        → found place ≡ f s → (place ≡ key → is_at (slice_cmp nat_cmp key) place ≡ true)
        → ((place ≡ key → found key ≡ None) → lookup (is_at (slice_cmp nat_cmp key)) rest ≡ found key)
        → lookup (is_at (slice_cmp nat_cmp key)) (placed place o ++ rest) ≡ found key
    entry_found key place s rest None b is tied there tie more = more (λ same. ap found (sym same) ∙ there ∙ is)
    entry_found key place s rest (Some text) true is tied there tie more =
        let same : key ≡ place = slice_cmp-IsAntisymmetric nat_cmp-IsAntisymmetric key place (tied_is (slice_cmp nat_cmp key place) tied) in
        rw tied (sym (ap found same ∙ there ∙ is))
    entry_found key place s rest (Some text) false is tied there tie more = rw tied (more (λ same. cc (tie same, tied)))

    tie_of : (key place : List ℕ) → place ≡ key → is_at (slice_cmp nat_cmp key) place ≡ true
    tie_of key place same = ap (is_at (slice_cmp nat_cmp key)) same ∙ ap is_eq (tied_itself nat_list_cmp_total key)

    entries_found : (key : List ℕ) (places : List (List ℕ)) (list : List S) → AreAt places list → (IsSome (found key) → Contains places key)
        → lookup (is_at (slice_cmp nat_cmp key)) (entries_at f places list) ≡ found key
    entries_found key [] [] are among = sym (nothing_there (found key) (λ some. none_in key (among some)))
    entries_found key [] (s ∷ list) are among = absurd are
    entries_found key (place ∷ places) [] are among = absurd are
    entries_found key (place ∷ places) (s ∷ list) are among =
        entry_found key place s (entries_at f places list) (f s) (is_at (slice_cmp nat_cmp key) place) refl refl are.0 (tie_of key place)
        (λ none. entries_found key places list are.1 (others key place places none among))

    -- where a table has at places what was written of a list, and no others, its rows are these
    pub table_is : (places : List (List ℕ)) (list : List S) → InOrder rows → IsStrictlySortedBy (slice_cmp nat_cmp) places → AreAt places list
        → ((key : List ℕ) → IsSome (found key) → Contains places key) → map pair_of (of_table table rows) ≡ entries_at f places list
    table_is places list ordered ascend are among =
        same_entries nat_list_cmp_total (slice_cmp-IsAntisymmetric nat_cmp-IsAntisymmetric) (map pair_of (of_table table rows)) (entries_at f places list)
        (pairs_in_order table (of_table table rows) (order_kept (λ (row : StoredRow). row.table == table) rows ordered)
        (all_map (IsIn table rows) (λ (row : StoredRow). row.table ≡ table) (λ row here. here.own) (of_table table rows) (all_in table rows ordered)))
        (entries_in_order places list ascend)
        (λ key. pairs_at table key rows ∙ sym (entries_found key places list are (among key)))
