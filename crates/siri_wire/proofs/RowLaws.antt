-- The laws of the kinds and rows of the tables of messages.
use Rattle.std.proofs.Common.{◌≡◌, ◌⊎◌, inl, inr, ℕ, suc, Bool, true, false, nat_le, List, [], ◌∷◌, Option, Some, None, Result, Ok, refl, sym, ap, subst}
use Rattle.std.specs.Prelude.{IfSome, option_and_then, unwrap_or}
use Rattle.serde_json.specs.Data.{Data, no_members}
use Rattle.siri_json.specs.Values.{member_of}
use Rattle.siri_tables.specs.Refusals.{Refusal, ◌>>=◌}
use Rattle.siri_tables.specs.Rules.{flag, row, inside}
use Rattle.siri_tables.specs.Proper.{IsListWithin}
use Rattle.siri_tables.specs.Writing.{with_rows, object_unless_empty, written_flag}
use Rattle.siri_tables.specs.Tables.{Kind, a_name}
use Rattle.siri_tables.proofs.Back.{found_again, GivesBack}
use Rattle.siri_tables.proofs.BackLists.{EntryBack, list_back}
use Rattle.siri_tables.proofs.BackValues.{name_back, flag_back}
use Rattle.siri_tables.proofs.CanonicalParts.{are_ascii, MayBeWithin, some_flag_within, list_within, row_within, object_within, object_unless_empty_within}
use Rattle.siri_tables.proofs.ProperParts.{Yields, on_ok, on_map, row_is, list_on, number_yields}
use Rattle.siri_tables.proofs.RowSpells.{done, bind_ok, ok_is, row_ok, row_spelled}
use Rattle.siri_tables.proofs.TableLaws.{KindLaws, EntryLaws, RowLaws, at_key, at_depth, some_back, some_within}
use Rattle.siri_tables.proofs.ValueLaws.{name_laws}
use Rattle.siri_wire.specs.Identifiers.{an_identifier}
use Rattle.siri_deliveries.specs.Rows.{a_whole_span, an_error, SpellsOr, with_default, flag_where_true, entries, optional_inside}
use Rattle.siri_deliveries.specs.WrittenValues.{written_where_true}
use Rattle.siri_wire.proofs.MessageValues.{all_map, inside_again, error_back, error_within, identifier_back, identifier_within}
use Rattle.siri_wire.proofs.MessageValues.{whole_span_back, some_whole_span_within}
use Rattle.siri_wire.proofs.ProperReadValues.{non_negative_span_yields, inside_yields, error_yields}

-- ---- kinds

pub whole_span_laws : KindLaws 0 a_whole_span
whole_span_laws = record { back = whole_span_back; within = λ s is. some_whole_span_within 0 (Some s) is; yields = non_negative_span_yields }

pub identifier_laws : KindLaws 0 an_identifier
identifier_laws = record { back = identifier_back; within = identifier_within 0; yields = number_yields }

pub error_laws : KindLaws 2 an_error
error_laws = record { back = error_back; within = error_within; yields = error_yields }

-- ---- rows with a default

or_proper : {A : Type 0} (P : A → Type 0) (given : Option A) (otherwise : A) → P otherwise → IfSome given P → P (unwrap_or given otherwise)
or_proper P None otherwise is given_is = is
or_proper P (Some x) otherwise is given_is = given_is

default_read : {A : Type 0} (rule : Data → Result (Option A) Refusal) (key : List ℕ) (d : Data) (otherwise v : A)
    → SpellsOr rule key d otherwise v → (row rule key d >>= λ o. Ok (unwrap_or o otherwise)) ≡ Ok v
default_read rule key d otherwise v s_ = rw (row_ok rule key d s_.given s_.spelled) (ap (λ x. done x) (sym s_.is))

default_spelled : {A : Type 0} (rule : Data → Result (Option A) Refusal) (key : List ℕ) (d : Data) (otherwise v : A)
    → (row rule key d >>= λ o. Ok (unwrap_or o otherwise)) ≡ Ok v → SpellsOr rule key d otherwise v
default_spelled rule key d otherwise v e =
    let b = bind_ok (row rule key d) (λ o. Ok (unwrap_or o otherwise)) v e in
    record { given = b.0; spelled = row_spelled rule key d b.0 b.1; is = sym (ok_is _ v b.2) }

pub with_default_laws : {A S : Type 0} {least most : ℕ} {kind : Kind A} {otherwise : A} {key : List ℕ} {of : S → A}
    → KindLaws least kind → kind.Is otherwise → are_ascii key ≡ true → nat_le least most ≡ true
    → RowLaws most (with_default kind otherwise key of)
with_default_laws {least = least} {most = most} {kind = kind} {otherwise = otherwise} {key = key} laws stands ascii le = record {
  spelled = λ d v e. default_spelled kind.rule key d otherwise v e;
  reads = λ d v s_. default_read kind.rule key d otherwise v s_;
  back = λ d v is there. record { given = Some v; spelled = at_key kind.rule key d (kind.writing v) (Some v) there.0 (laws.back v is); is = refl };
  within = λ v is. (at_depth least most key _ ascii le (laws.within v is), tt);
  proper = λ d v u s_. subst kind.Is (sym s_.is)
      (or_proper kind.Is s_.given otherwise stands (row_is kind.rule kind.Is laws.yields key d s_.given u s_.spelled));
}

-- what stands for an absent object may be left out, where it would be empty
pub default_or_empty_laws : {A S : Type 0} {most : ℕ} {kind : Kind A} {otherwise : A} {key : List ℕ} {of : S → A} (least : ℕ)
    → ((x : A) → kind.Is x → GivesBack kind.rule (kind.writing x) (Some x) ⊎ (GivesBack kind.rule (kind.writing x) None × (otherwise ≡ x)))
    → ((x : A) → kind.Is x → MayBeWithin least (kind.writing x)) → Yields kind.rule kind.Is → kind.Is otherwise
    → are_ascii key ≡ true → nat_le least most ≡ true → RowLaws most (with_default kind otherwise key of)
default_or_empty_laws {most = most} {kind = kind} {otherwise = otherwise} {key = key} least back within yields stands ascii le = record {
  spelled = λ d v e. default_spelled kind.rule key d otherwise v e;
  reads = λ d v s_. default_read kind.rule key d otherwise v s_;
  back = λ d v is there. elim (back v is) [
    | inl again ↦ record { given = Some v; spelled = at_key kind.rule key d (kind.writing v) (Some v) there.0 again; is = refl }
    | inr empty ↦ record { given = None; spelled = at_key kind.rule key d (kind.writing v) None there.0 empty.0; is = sym empty.1 }
  ];
  within = λ v is. (at_depth least most key _ ascii le (within v is), tt);
  proper = λ d v u s_. subst kind.Is (sym s_.is) (or_proper kind.Is s_.given otherwise stands (row_is kind.rule kind.Is yields key d s_.given u s_.spelled));
}

where_true_back : (key : List ℕ) (d : Data) (v : Bool) → member_of key d ≡ found_again (written_where_true v) → SpellsOr flag key d false v
where_true_back key d true there = record { given = Some true; spelled = at_key flag key d (written_flag true) (Some true) there (flag_back true); is = refl }
where_true_back key d false there = record { given = None; spelled = at_key flag key d None None there refl; is = refl }

where_true_within : (v : Bool) → MayBeWithin 0 (written_where_true v)
where_true_within true = some_flag_within 0 (Some true)
where_true_within false = tt

pub flag_where_true_laws : {S : Type 0} {most : ℕ} {key : List ℕ} {of : S → Bool} → are_ascii key ≡ true
    → nat_le 0 most ≡ true → RowLaws most (flag_where_true key of)
flag_where_true_laws {most = most} {key = key} ascii le = record {
  spelled = λ d v e. default_spelled flag key d false v e;
  reads = λ d v s_. default_read flag key d false v s_;
  back = λ d v is there. where_true_back key d v there.0;
  within = λ v is. (at_depth 0 most key _ ascii le (where_true_within v), tt);
  proper = λ d v u s_. tt;
}

-- ---- lists

pub name_entries : EntryLaws 0 a_name
name_entries = record {
  entry = λ t is. record { written = _; is = refl; not_null = refl; again = name_back t is };
  within = name_laws.within;
  yields = name_laws.yields;
}

pub entries_laws : {A S : Type 0} {least most : ℕ} {kind : Kind A} {bound : ℕ} {key : List ℕ} {of : S → List A}
    → EntryLaws least kind → are_ascii key ≡ true → nat_le (suc least) most ≡ true
    → RowLaws most (entries kind bound key of)
entries_laws {least = least} {most = most} {kind = kind} {bound = bound} {key = key} laws ascii le = record {
  spelled = λ d xs e. e;
  reads = λ d xs e. e;
  back = λ d xs is there. list_back kind.rule kind.writing bound key d xs
      (all_map kind.Is (EntryBack kind.rule kind.writing) laws.entry xs is.each) is.bound there.0;
  within = λ xs is. (
    at_depth (suc least) most key _ ascii le
        (list_within least kind.writing xs (all_map kind.Is
        (λ x. MayBeWithin least (kind.writing x)) laws.within xs is.each)),
    tt,
  );
  proper = λ d xs u e. on_ok (IsListWithin bound kind.Is) _ xs (list_on kind.rule kind.Is laws.yields bound key d u) e;
}

-- ---- a member of an object of its own

inside_or_left_out : {A : Type 0} (rule : Data → Result (Option A) Refusal) (key : List ℕ) (written : Option Data)
    (value : Option A) → GivesBack rule written value
    → GivesBack (inside rule key) (object_unless_empty (with_rows no_members ((key, written) ∷ []))) value
inside_or_left_out rule key None value again = again
inside_or_left_out rule key (Some d) value again = inside_again rule key (Some d) value again

pub optional_inside_laws : {A S : Type 0} {least most : ℕ} {kind : Kind A} {outer : List ℕ} {of : S → Option A}
    (key : List ℕ) → KindLaws least kind → are_ascii outer ≡ true → are_ascii key ≡ true
    → nat_le (suc least) most ≡ true
    → RowLaws most (optional_inside kind outer key of)
optional_inside_laws {least = least} {most = most} {kind = kind} {outer = outer} key laws outer_ascii ascii le = record {
  spelled = λ d v. row_spelled (inside kind.rule key) outer d v;
  reads = λ d v. row_ok (inside kind.rule key) outer d v;
  back = λ d v is there. at_key (inside kind.rule key) outer d _ v there.0 (inside_or_left_out kind.rule key _ v (some_back least kind laws v is));
  within = λ v is. (
    at_depth (suc least) most outer _ outer_ascii le
        (object_unless_empty_within (suc least) _
        (object_within least ((key, option_and_then kind.writing v) ∷ [])
        (row_within least key _ ascii (some_within least kind laws v is), tt))),
    tt,
  );
  proper = λ d v u s_. row_is (inside kind.rule key) kind.Is (inside_yields kind.rule kind.Is laws.yields key) outer d v u s_;
}

-- ---- the same kind with what is proper seen in another way

some_map : {A : Type 0} (P Q : A → Type 0) → ((x : A) → P x → Q x) → (o : Option A) → IfSome o P → IfSome o Q
some_map P Q h None is = is
some_map P Q h (Some x) is = h x is

pub entries_as : {A : Type 0} {most : ℕ} {rule : Data → Result (Option A) Refusal} {writing : A → Option Data}
    {P Q : A → Type 0} → EntryLaws most (record { rule = rule; writing = writing; Is = P })
    → ((x : A) → Q x → P x) → ((x : A) → P x → Q x) → EntryLaws most (record { rule = rule; writing = writing; Is = Q })
entries_as {rule = rule} {P = P} {Q = Q} laws from to = record {
  entry = λ x is. laws.entry x (from x is);
  within = λ x is. laws.within x (from x is);
  yields = λ d u. on_map (λ o. IfSome o P) (λ o. IfSome o Q) (rule d) (laws.yields d u) (some_map P Q to);
}
