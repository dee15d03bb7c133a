-- The laws of the tables of the messages by which rounds are announced, fetched and acknowledged, and by which the producer tells
-- that it is there.
use Rattle.std.proofs.Common.{◌≡◌, false, Some, Ok, refl}
use Rattle.serde_json.specs.Data.{Data, object, Members, no_members}
use Rattle.siri_json.specs.Canonical.{as_texts}
use Rattle.siri_json.specs.Values.{member_of, object_in}
use Rattle.siri_messages.specs.declared.supplies.Mark.{Mark}
use Rattle.siri_tables.specs.Tables.{AllProper, all_written}
use Rattle.siri_tables.specs.Writing.{with_rows}
use Rattle.siri_tables.proofs.Back.{GivesBack}
use Rattle.siri_tables.proofs.ProperParts.{Yields, reads_to, inside_on}
use Rattle.siri_tables.proofs.TableLaws.{KindLaws, optional_laws, mandatory_laws, TableLaws, read_spelled, written_read}
use Rattle.siri_tables.proofs.TableLaws.{read_proper, table_kind}
use Rattle.siri_tables.proofs.ValueLaws.{name_laws, moment_laws, number_laws, flag_laws}
use Rattle.siri_deliveries.specs.declared.names.TheConstants.{SUBSCRIPTION_REF}
use Rattle.siri_wire.specs.Statuses.{check_table, make_check, check_response_table, make_check_response, heartbeat_table, make_heartbeat}
use Rattle.siri_wire.specs.Supplies.{mark_table, make_mark, mark, written_mark, a_mark, lacks_mark, mark_if_any, optional_mark}
use Rattle.siri_wire.specs.Supplies.{an_optional_mark, ready_table, make_ready, ready_acknowledgement_table, make_ready_acknowledgement}
use Rattle.siri_wire.specs.Supplies.{supply_table, make_supply}
use Rattle.siri_wire.specs.Supplies.{received_table, make_received}
use Rattle.siri_deliveries.specs.Absence.{is_text_absent, lacks}
use Rattle.siri_wire.proofs.ProperReadValues.{unless_absent}
use Rattle.siri_wire.proofs.RowLaws.{error_laws, with_default_laws, flag_where_true_laws}
use Rattle.siri_wire.proofs.ReadIffSpellsParts.{something_spelled}

-- ---- whether the producer is there

pub check_laws : TableLaws 0 check_table make_check
check_laws = record { rows = search (optional_laws, name_laws, moment_laws); whole = λ c. refl; holds = λ a b c. search; distinct = λ c. refl }

pub check_response_laws : TableLaws 0 check_response_table make_check_response
check_response_laws = record {
  rows = search (optional_laws, with_default_laws, name_laws, moment_laws, flag_laws);
  whole = λ c. refl;
  holds = λ a b c d e. search;
  distinct = λ c. refl;
}

pub heartbeat_laws : TableLaws 0 heartbeat_table make_heartbeat
heartbeat_laws = record {
  rows = search (optional_laws, with_default_laws, name_laws, moment_laws, flag_laws);
  whole = λ h. refl;
  holds = λ a b c d. search;
  distinct = λ h. refl;
}

-- ---- marks

pub mark_laws : TableLaws 0 mark_table make_mark
mark_laws = record { rows = search (mandatory_laws, name_laws, number_laws); whole = λ m. refl; holds = λ a b c d e. search; distinct = λ m. refl }

mark_kind : KindLaws 1 a_mark
unfolding mark written_mark
mark_kind = table_kind mark_laws

-- a mark has rows, so that it doesn't count as absent
has_mark : (d : Data) (m : Mark) → mark d ≡ Ok m → lacks_mark d ≡ false
unfolding mark lacks_mark lacks
has_mark d m e =
    let required : is_text_absent (member_of SUBSCRIPTION_REF.now d) ≡ false =
    something_spelled _ (member_of SUBSCRIPTION_REF.now d) m.subscription (read_spelled mark_laws d m e).0 in
    rw required refl

optional_mark_back : (ms : Members) (m : Mark) → mark (as_texts (object ms)) ≡ Ok m → GivesBack optional_mark (Some (object ms)) (Some m)
unfolding optional_mark mark_if_any object_in
optional_mark_back ms m e = rw (has_mark (as_texts (object ms)) m e, e) refl

optional_mark_yields : Yields optional_mark (AllProper mark_table)
unfolding optional_mark mark_if_any mark
optional_mark_yields = λ d u. inside_on (AllProper mark_table) mark_if_any
    (λ e v. unless_absent (AllProper mark_table) (lacks_mark e) (mark e)
    (reads_to (AllProper mark_table) (mark e) (λ m is. read_proper mark_laws e m v is))) d u

optional_mark_kind : KindLaws 1 an_optional_mark
unfolding mark written_mark
optional_mark_kind = record {
  back = λ m is. optional_mark_back (with_rows no_members (all_written mark_table m)) m (written_read mark_laws m is);
  within = mark_kind.within;
  yields = optional_mark_yields;
}

-- ---- rounds

pub ready_laws : TableLaws 1 ready_table make_ready
ready_laws = record {
  rows = search (optional_laws, mandatory_laws, name_laws, moment_laws, mark_kind);
  whole = λ n. refl;
  holds = λ a b c. search;
  distinct = λ n. refl;
}

pub ready_acknowledgement_laws : TableLaws 0 ready_acknowledgement_table make_ready_acknowledgement
ready_acknowledgement_laws = record {
  rows = search
      (optional_laws, with_default_laws, name_laws, moment_laws, flag_laws);
  whole = λ a. refl;
  holds = λ a b c. search;
  distinct = λ a. refl;
}

pub supply_laws : TableLaws 1 supply_table make_supply
supply_laws = record {
  rows = search (
    optional_laws,
    mandatory_laws,
    flag_where_true_laws,
    name_laws,
    moment_laws,
    mark_kind,
  );
  whole = λ s. refl;
  holds = λ a b c d. search;
  distinct = λ s. refl;
}

pub received_laws : TableLaws 2 received_table make_received
received_laws = record {
  rows = search (optional_laws, with_default_laws, name_laws, moment_laws, flag_laws, error_laws, optional_mark_kind);
  whole = λ a. refl;
  holds = λ a b c d e f. search;
  distinct = λ a. refl;
}
