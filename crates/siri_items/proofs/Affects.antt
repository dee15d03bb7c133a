-- The rows of what a situation affects.
use Rattle.std.proofs.Common.{◌≡◌, ℕ, ◌+◌, ◌≤◌, inl, inr, true, nat_le, List, [], ◌∷◌, length, append-nil, Option, Some, None, Ok, refl, ap}
use Rattle.std.proofs.Common.{arith, Bool, false, cond, length-append, subst}
use Rattle.std.specs.Prelude.{IfSome, sum_by, flat_map}
use Rattle.std.specs.List.{filter_map, AllByRecursion}
use Rattle.std.proofs.lemmas.Bool.{le-leb, leb-true}
use Rattle.std.proofs.lemmas.List.Sums.{sum_by-cons}
use Rattle.serde_json.specs.Data.{Data, object, Members, no_members, member as one_member}
use Rattle.siri_json.specs.Canonical.{as_texts}
use Rattle.siri_json.specs.Values.{object_in, member_of, entries_of}
use Rattle.siri_items.specs.declared.names.TheConstants.{AFFECTED_LINE, AFFECTED_NETWORK, AFFECTED_OPERATOR, AFFECTED_STOP_POINT, AFFECTS}
use Rattle.siri_items.specs.declared.names.TheConstants.{LINE_REF, NETWORKS, OPERATOR_REF, STOP_POINT_REF}
use Rattle.siri_items.specs.declared.read_situation.Affected.{Affected}
use Rattle.siri_items.specs.declared.read_situation.Network.{Network}
use Rattle.siri_tables.specs.Refusals.{◌>>=◌, refused}
use Rattle.siri_tables.specs.Rules.{name, table, row, inside, names, names_of, list_of, list_inside, entry_count, entries_from, required_value}
use Rattle.siri_items.specs.Situations.{network, lines_at, all_lines, lines_of, network_lines, affected, or_nothing, names_inside}
use Rattle.siri_items.specs.Situations.{lines_of_networks, affected_table, make_affected, SpellsAffects, optional_affects, written_names}
use Rattle.siri_items.specs.Situations.{written_network, written_networks, rows_of_affects, written_affects}
use Rattle.siri_tables.specs.Writing.{with_rows, row_object, object_unless_empty, array_unless_empty, written_list, written_text, written_name}
use Rattle.siri_tables.specs.Proper.{IsName, IsListWithin}
use Rattle.siri_tables.proofs.Back.{found_again}
use Rattle.siri_tables.proofs.BackValues.{table_back}
use Rattle.siri_tables.proofs.BackLists.{same_as_empty, object_back_or_empty, list_again, entry_count_back, names_of_back, names_of_none}
use Rattle.siri_tables.proofs.BackLists.{only_member, list_members, names_inside_back, name_entries}
use Rattle.siri_tables.proofs.RowSpells.{row_ok, bind_ok, done, ok_is, row_spelled}
use Rattle.siri_tables.proofs.CanonicalParts.{are_ascii, MayBeWithin, text_within, row_within, ◌then◌, object_within}
use Rattle.siri_tables.proofs.CanonicalParts.{object_unless_empty_within, array_unless_empty_within, list_within}
use Rattle.siri_base.specs.declared.reason.Reason.TheVariants.{TooMany}
use Rattle.siri_json.specs.declared.path.Step.TheVariants.{Member}
use Rattle.siri_json.specs.TextsOfTrees.{TextsAreUtf8}
use Rattle.siri_tables.proofs.ProperParts.{OnRead, Yields, on_ok, on_bind, on_below, member_is, table_yields, row_is, AreRead, list_of_on}
use Rattle.siri_tables.proofs.ProperParts.{names_of_on, at_name, list_inside_on, names_inside_on}
use Rattle.siri_tables.proofs.TableLaws.{RowLaws, at_depth, AllLaws, TableLaws, all_joined, written_read, table_within, table_kind}
use Rattle.siri_tables.specs.Tables.{AllProper}

abbrev IsProperNetwork : Network → Type 0
IsProperNetwork n = AllByRecursion IsName n.lines × (length n.lines ≤ n.entries)

lines_at_on : (o : Option Data) → IfSome o TextsAreUtf8 → OnRead (lines_at o) IsProperNetwork
lines_at_on None u = (tt, omega arith)
lines_at_on (Some d) u = on_bind (AreRead IsName (entries_of d)) IsProperNetwork (names_of LINE_REF.now d) _
    (names_of_on LINE_REF.now d u) (λ lines is. (is.each, is.few))

network_yields : Yields (table network) IsProperNetwork
unfolding network
network_yields = table_yields network IsProperNetwork
    (λ d u. on_below IsProperNetwork (Member AFFECTED_LINE.now) _
    (lines_at_on (member_of AFFECTED_LINE.now d) (member_is AFFECTED_LINE.now d u)))

abbrev lines_of_all : List Network → List (List ℕ)
lines_of_all networks = flat_map (λ n. n.lines) networks

abbrev entries_in : List Network → ℕ
entries_in networks = sum_by (λ n. n.entries) networks

joined_are : (networks : List Network) → AllByRecursion IsProperNetwork networks
    → AllByRecursion IsName (lines_of_all networks) × (length (lines_of_all networks) ≤ entries_in networks)
joined_are [] all = (tt, omega arith)
joined_are (n ∷ ns) all =
    let rest = joined_are ns all.1 in
    let lines : length (lines_of_all (n ∷ ns)) ≡ length n.lines + length (lines_of_all ns) = length-append n.lines (lines_of_all ns) in
    let entries : entries_in (n ∷ ns) ≡ n.entries + entries_in ns = sum_by-cons (λ (m : Network). m.entries) n ns in
    (all_joined IsName n.lines (lines_of_all ns) all.0.0 rest.0, omega (arith, all.0.1, rest.1, lines, entries))

all_lines_by : (networks : List Network) (b : Bool) → nat_le (entries_in networks) 2000 ≡ b → AllByRecursion IsProperNetwork networks
    → OnRead (cond b (Ok (lines_of_all networks)) (refused TooMany)) (IsListWithin 2000 IsName)
all_lines_by networks true fits all =
    let is = joined_are networks all in
    let le = leb-true (entries_in networks) 2000 fits in
    record { bound = omega (arith, le, is.1); each = is.0 }
all_lines_by networks false fits all = tt

lines_of_on : (d : Data) → TextsAreUtf8 d → OnRead (lines_of d) (IsListWithin 2000 IsName)
unfolding lines_of
lines_of_on d u =
    on_bind (AreRead IsProperNetwork (entries_of d)) (IsListWithin 2000 IsName) (list_of (table network) d) all_lines
    (list_of_on (table network) IsProperNetwork network_yields d u)
    (λ networks is. all_lines_by networks (nat_le (entries_in networks) 2000) refl is.each)

no_names : IsListWithin 2000 IsName []
no_names = record { bound = omega arith; each = tt }

network_lines_on : (d : Data) → TextsAreUtf8 d → OnRead (network_lines d) (IsListWithin 2000 IsName)
unfolding network_lines
network_lines_on d u = at_name (IsListWithin 2000 IsName) lines_of no_names lines_of_on AFFECTED_NETWORK.now d u

affected_names_back : (outer key inner : List ℕ) (d : Data) (ts : List (List ℕ)) → IsListWithin 2000 IsName ts
    → member_of outer d ≡ found_again (written_names key inner ts)
    → list_inside outer (names inner 2000 key) d ≡ Ok ts
unfolding written_names
affected_names_back outer key inner d ts p at_outer =
    names_inside_back inner (written_name inner) 2000 outer key d ts (name_entries inner ts p.each) p.bound at_outer

abbrev network_members : List (List ℕ) → Members
network_members lines = list_members AFFECTED_LINE.now (written_name LINE_REF.now) lines

lines_at_back : (ds : List Data) (lines : List (List ℕ)) → names_of LINE_REF.now (list_again []) ≡ Ok []
    → names_of LINE_REF.now (list_again ds) ≡ Ok lines → entry_count (list_again ds) ≡ length lines
    → lines_at (found_again (array_unless_empty ds)) ≡ Ok (record { lines = lines; entries = length lines })
lines_at_back [] lines none is count = let same : [] ≡ lines = same_as_empty (names_of LINE_REF.now (list_again [])) lines [] none is in rw (← same) refl
lines_at_back (d ∷ ds) lines none is count = rw (is, count) refl

network_back : (lines : List (List ℕ)) → AllByRecursion IsName lines
    → network (as_texts (object (network_members lines))) ≡ Ok (record { lines = lines; entries = length lines })
unfolding network written_list
network_back lines all =
    let each = name_entries LINE_REF.now lines all in
    let at_lines = lines_at_back (filter_map (written_name LINE_REF.now) lines) lines (names_of_none LINE_REF.now)
    (names_of_back LINE_REF.now (written_name LINE_REF.now) lines each)
    (entry_count_back (inside name LINE_REF.now) (written_name LINE_REF.now) lines each) in
    rw (only_member AFFECTED_LINE.now (written_list (written_name LINE_REF.now) lines), at_lines) refl

all_lines_back : (lines : List (List ℕ)) → length lines ≤ 2000 → all_lines (record { lines = lines; entries = length lines } ∷ []) ≡ Ok lines
all_lines_back lines le =
    let one : Network = record { lines = lines; entries = length lines } in
    let total : sum_by (λ (n : Network). n.entries) (one ∷ []) ≡ length lines + 0 = sum_by-cons (λ (n : Network). n.entries) one [] in
    let few : nat_le (sum_by (λ (n : Network). n.entries) (one ∷ [])) 2000 ≡ true = le-leb _ _ (omega (arith, total)) in
    rw (few, append-nil lines) refl

network_lines_back : (net : Members) (lines : List (List ℕ))
    → network (as_texts (object net)) ≡ Ok (record { lines = lines; entries = length lines }) → length lines ≤ 2000
    → network_lines (as_texts (row_object ((AFFECTED_NETWORK.now, array_unless_empty (object net ∷ [])) ∷ []))) ≡ Ok lines
unfolding network_lines lines_of list_of entries_of entries_from required_value
network_lines_back net lines is le =
    let entry : table network (as_texts (object net)) ≡ Ok (Some (record { lines = lines; entries = length lines })) = table_back network net _ is in
    rw (only_member AFFECTED_NETWORK.now (array_unless_empty (object net ∷ [])), entry, all_lines_back lines le) refl

networks_at : (d : Data) (net : Members) (lines : List (List ℕ))
    → network (object no_members) ≡ Ok (record { lines = []; entries = 0 })
    → network (as_texts (object net)) ≡ Ok (record { lines = lines; entries = length lines })
    → length lines ≤ 2000 → member_of NETWORKS.now d ≡ found_again (written_network (object_unless_empty net))
    → list_inside NETWORKS.now network_lines d ≡ Ok lines
unfolding list_inside written_network object_in
networks_at d no_members lines none is le at_networks =
    let same = same_as_empty (network (object no_members)) (record { lines = lines; entries = length lines }) (record { lines = []; entries = 0 }) none is in
    let no_lines : [] ≡ lines = ap (λ (n : Network). n.lines) same in
    rw (at_networks, ← no_lines) refl
networks_at d (one_member k e ms) lines none is le at_networks = rw (at_networks, network_lines_back (one_member k e ms) lines is le) refl

network_of_none : network (object no_members) ≡ Ok (record { lines = []; entries = 0 })
unfolding network member_of
network_of_none = refl

networks_back : (d : Data) (lines : List (List ℕ)) → IsListWithin 2000 IsName lines
    → member_of NETWORKS.now d ≡ found_again (written_networks lines)
    → list_inside NETWORKS.now network_lines d ≡ Ok lines
unfolding written_networks written_names
networks_back d lines p at_networks = networks_at d (network_members lines) lines network_of_none (network_back lines p.each) p.bound at_networks

names_within : (inner : List ℕ) (ts : List (List ℕ)) → are_ascii inner ≡ true → AllByRecursion IsName ts
    → AllByRecursion (λ t. MayBeWithin 1 (written_name inner t)) ts
unfolding written_name
names_within inner [] ascii all = tt
names_within inner (t ∷ ts) ascii all = (
  object_within 0 ((inner, written_text t) ∷ [])
      (row_within 0 inner _ ascii (text_within 0 t all.0.utf8) then tt),
  names_within inner ts ascii all.1,
)

name_list_within : (key inner : List ℕ) (ts : List (List ℕ)) → are_ascii key ≡ true → are_ascii inner ≡ true
    → IsListWithin 2000 IsName ts → MayBeWithin 3 (written_names key inner ts)
unfolding written_names
name_list_within key inner ts key_ascii inner_ascii p =
    object_unless_empty_within 3 _ (object_within 2 ((key, written_list (written_name inner) ts) ∷ [])
    (row_within 2 key _ key_ascii (list_within 1 (written_name inner) ts (names_within inner ts inner_ascii p.each))
    then tt))

network_within : (o : Option Data) → MayBeWithin 3 o → MayBeWithin 5 (written_network o)
unfolding written_network
network_within None is = tt
network_within (Some network) is =
    object_within 4 ((AFFECTED_NETWORK.now, array_unless_empty (network ∷ [])) ∷ [])
    (row_within 4 AFFECTED_NETWORK.now _ refl
    (array_unless_empty_within 3 (network ∷ [])
    (record { canonical = (is.canonical, tt); shallow = omega (arith, is.shallow) })) then tt)

pub names_inside_laws : {S : Type 0} {most : ℕ} {outer : List ℕ} {of : S → List (List ℕ)} (key inner : List ℕ)
    → are_ascii outer ≡ true → are_ascii key ≡ true → are_ascii inner ≡ true → nat_le 3 most ≡ true
    → RowLaws most (names_inside outer key inner of)
names_inside_laws {most = most} {outer = outer} key inner outer_ascii ascii inner_ascii le = record {
  spelled = λ d xs e. e;
  reads = λ d xs e. e;
  back = λ d xs is there. affected_names_back outer key inner d xs is there.0;
  within = λ xs is. (at_depth 3 most outer _ outer_ascii le (name_list_within key inner xs ascii inner_ascii is), tt);
  proper = λ d xs u e. on_ok (IsListWithin 2000 IsName) _ xs (names_inside_on inner 2000 outer key d u) e;
}

pub lines_of_networks_laws : {S : Type 0} {most : ℕ} {of : S → List (List ℕ)} → nat_le 5 most ≡ true → RowLaws most (lines_of_networks of)
unfolding written_networks
lines_of_networks_laws {most = most} le = record {
  spelled = λ d xs e. e;
  reads = λ d xs e. e;
  back = λ d xs is there. networks_back d xs is there.0;
  within = λ xs is. (at_depth 5 most NETWORKS.now _ refl le (network_within _ (name_list_within AFFECTED_LINE.now LINE_REF.now xs refl refl is)), tt);
  proper = λ d xs u e. on_ok (IsListWithin 2000 IsName) _ xs
      (list_inside_on (IsListWithin 2000 IsName) network_lines no_names network_lines_on NETWORKS.now d u) e;
}

affected_rows : AllLaws 5 affected_table
affected_rows = (
  names_inside_laws AFFECTED_OPERATOR.now OPERATOR_REF.now refl refl refl refl,
  (
    lines_of_networks_laws refl,
    (
      names_inside_laws AFFECTED_STOP_POINT.now STOP_POINT_REF.now refl refl refl refl,
      tt,
    ),
  ),
)

pub affected_laws : TableLaws 5 affected_table make_affected
affected_laws = record { rows = affected_rows; whole = λ a. refl; holds = λ x y z. (refl, (refl, (refl, tt))); distinct = λ a. refl }

affected_yields : Yields (table affected) (AllProper affected_table)
unfolding affected
affected_yields = (table_kind affected_laws).yields

nothing_is : AllProper affected_table (or_nothing None)
nothing_is = (no_names, (no_names, (no_names, tt)))

or_nothing_is : (o : Option Affected) → IfSome o (AllProper affected_table) → AllProper affected_table (or_nothing o)
or_nothing_is None is = nothing_is
or_nothing_is (Some a) is = is

affects_proper : (d : Data) (a : Affected) → TextsAreUtf8 d → SpellsAffects d a → AllProper affected_table a
affects_proper d a u s = subst (λ (x : Affected). AllProper affected_table x) s.is
    (or_nothing_is s.affects (row_is (table affected) (AllProper affected_table) affected_yields AFFECTS.now d s.affects
    u s.spelled))

affected_of_none : affected (object no_members) ≡ Ok (or_nothing None)
unfolding affected list_inside member_of
affected_of_none = refl

affects_back : (d : Data) (a : Affected) → AllProper affected_table a
    → member_of AFFECTS.now d ≡ found_again (written_affects a.operators a.lines a.stop_points) → SpellsAffects d a
unfolding written_affects affected
affects_back d a is at_affects =
    elim (object_back_or_empty affected (with_rows no_members (rows_of_affects a.operators a.lines a.stop_points)) a
    (or_nothing None) affected_of_none (written_read affected_laws a is)) [
      | inl back ↦ record { affects = Some a; spelled = rw at_affects back; is = refl }
      | inr empty ↦ record { affects = None; spelled = rw at_affects empty.0; is = empty.1 }
    ]

affects_spelled : (d : Data) (a : Affected) → (row (table affected) AFFECTS.now d >>= λ o. done (or_nothing o)) ≡ Ok a → SpellsAffects d a
affects_spelled d a e =
    let r = bind_ok (row (table affected) AFFECTS.now d) (λ o. done (or_nothing o)) a e in
    record { affects = r.0; spelled = row_spelled (table affected) AFFECTS.now d r.0 r.1; is = ok_is (or_nothing r.0) a r.2 }

affects_reads : (d : Data) (a : Affected) → SpellsAffects d a → (row (table affected) AFFECTS.now d >>= λ o. done (or_nothing o)) ≡ Ok a
affects_reads d a s = rw (row_ok (table affected) AFFECTS.now d s.affects s.spelled) (ap Ok s.is)

affects_within : (a : Affected) → AllProper affected_table a → MayBeWithin 6 (written_affects a.operators a.lines a.stop_points)
unfolding written_affects
affects_within a is = object_unless_empty_within 6 _ (table_within affected_laws a is)

pub optional_affects_laws : {S : Type 0} {most : ℕ} {of : S → Affected} → nat_le 6 most ≡ true → RowLaws most (optional_affects of)
optional_affects_laws {most = most} le = record {
  spelled = affects_spelled;
  reads = affects_reads;
  back = λ d a is there. affects_back d a is there.0;
  within = λ a is. (at_depth 6 most AFFECTS.now _ refl le (affects_within a is), tt);
  proper = affects_proper;
}
