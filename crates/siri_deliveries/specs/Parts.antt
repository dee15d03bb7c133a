-- What the functional deliveries of all services have: the rows before their items, and where in a round a delivery
-- stands, which its Extensions tell in this profile's own way.
use Rattle.std.specs.Prelude.{◌≡◌, List, [], ◌∷◌, true, false, is_some, if◌then◌else◌, Option, Some, None, IfSome}
use Rattle.std.specs.Prelude.{option_and_then, unwrap_or, Result, Ok}
use Rattle.serde_json.specs.Data.{Data, no_members}
use Rattle.siri_records.specs.declared.item.Item.{Item}
use Rattle.siri_records.specs.declared.item.Service.{Service}
use Rattle.siri_records.specs.declared.key.Key.{Key}
use Rattle.siri_messages.specs.declared.deliveries.FunctionalDelivery.{FunctionalDelivery}
use Rattle.siri_tables.specs.Refusals.{Refusal, ◌>>=◌}
use Rattle.siri_tables.specs.Rules.{number, table, required_row, list}
use Rattle.siri_tables.specs.Proper.{IsNumber, IsListWithin}
use Rattle.siri_tables.specs.Writing.{Row as Written, with_rows, object_unless_empty, written_list, written_number}
use Rattle.siri_tables.specs.Tables.{Kind, Row, optional, a_name, a_moment, a_flag, Table, Maker, read_all, AllSpelled}
use Rattle.siri_tables.specs.Tables.{AllProper, all_written}
use Rattle.siri_deliveries.specs.declared.read_parts.Heading.{Heading}
use Rattle.siri_deliveries.specs.declared.read_parts.RoundPosition.{RoundPosition}
use Rattle.siri_deliveries.specs.declared.read_parts.DeliveryExtensions.{DeliveryExtensions}
use Rattle.siri_deliveries.specs.Removals.{IsProperRemoval, written_removal}
use Rattle.siri_deliveries.specs.Rows.{an_error, with_default}
use Rattle.siri_deliveries.specs.Absence.{lacks}
use Rattle.siri_deliveries.specs.declared.names.TheConstants.{RESPONSE_TIMESTAMP, SUBSCRIBER_REF, SUBSCRIPTION_REF}
use Rattle.siri_deliveries.specs.declared.names.TheConstants.{STATUS, ERROR_CONDITION}
use Rattle.siri_deliveries.specs.declared.names.TheConstants.{START, ROUND, PART, REMOVED}
use Rattle.siri_deliveries.specs.Limits.{most_entries}

-- ---- the rows before Extensions (EN 15531-2)

abbrev pub heading_table : Table Heading
heading_table =
    optional a_moment RESPONSE_TIMESTAMP.now (λ h. h.response_timestamp) ∷
    optional a_name SUBSCRIBER_REF.now (λ h. h.subscriber_ref) ∷
    optional a_name SUBSCRIPTION_REF.now (λ h. h.subscription_ref) ∷
    with_default a_flag true STATUS.now (λ h. h.status) ∷
    optional an_error ERROR_CONDITION.now (λ h. h.error_condition) ∷ []

abbrev pub make_heading : Maker heading_table
make_heading =
    λ response_timestamp subscriber_ref subscription_ref status error_condition.
    record {
      response_timestamp = response_timestamp;
      subscriber_ref = subscriber_ref;
      subscription_ref = subscription_ref;
      status = status;
      error_condition = error_condition;
    }

unfoldable pub heading : Data → Result Heading Refusal
heading d = read_all heading_table make_heading d

abbrev pub heading_of : FunctionalDelivery → Heading
heading_of d = record {
  response_timestamp = d.response_timestamp;
  subscriber_ref = d.subscriber_ref;
  subscription_ref = d.subscription_ref;
  status = d.status;
  error_condition = d.error_condition;
}

-- they stand among those of a delivery
abbrev pub with_heading : Row FunctionalDelivery
with_heading = record {
  Of = Heading;
  of = heading_of;
  read = heading;
  Spelled = λ d h. AllSpelled heading_table d h;
  write = λ h. all_written heading_table h;
  Is = λ h. AllProper heading_table h;
  blank = λ h. false;
}

-- ---- where in a round a delivery stands

-- in none
abbrev pub no_round : RoundPosition
no_round = record { start = None; round = None; part = None }

unfoldable pub within_round : Data → Result RoundPosition Refusal
within_round d = do
  start ← required_row number START.now d
  round ← required_row number ROUND.now d
  part ← required_row number PART.now d
  Ok (record { start = Some start; round = Some round; part = Some part })

-- where Round stands, Start and Part have to; where it doesn't, they aren't looked at
unfoldable pub round_position : Data → Result RoundPosition Refusal
round_position d = if lacks ROUND.now d then Ok no_round else within_round d

-- Start and Part stand exactly where Round does
pub record IsPlaced (p : RoundPosition) : Type 0 where
  pub start : IfSome p.start IsNumber
  pub round : IfSome p.round IsNumber
  pub part : IfSome p.part IsNumber
  pub start_stands : is_some p.start ≡ is_some p.round
  pub part_stands : is_some p.part ≡ is_some p.round

abbrev pub position_of : FunctionalDelivery → RoundPosition
position_of d = record { start = d.start; round = d.round; part = d.part }

-- what is written of it, and then further rows
abbrev pub rows_of_position : RoundPosition → List Written → List Written
rows_of_position p rows =
    (START.now, option_and_then written_number p.start) ∷
    (ROUND.now, option_and_then written_number p.round) ∷
    (PART.now, option_and_then written_number p.part) ∷ rows

abbrev pub rows_of_place : FunctionalDelivery → List Written → List Written
rows_of_place d rows = rows_of_position (position_of d) rows

unfoldable pub written_position : RoundPosition → Option Data
written_position p = object_unless_empty (with_rows no_members (rows_of_position p []))

-- Extensions where a service has cancellations
abbrev pub written_place : FunctionalDelivery → Option Data
written_place d = written_position (position_of d)

abbrev pub a_place : Kind RoundPosition
a_place = record { rule = table round_position; writing = written_position; Is = IsPlaced }

-- Extensions of a delivery of journeys or situations: where it stands, and what is shown no more
unfoldable pub delivery_extensions : (Data → Result Key Refusal) → Data → Result DeliveryExtensions Refusal
delivery_extensions removed d = do
  round_position ← round_position d
  removals ← list (table removed) most_entries REMOVED.now d
  Ok (record { round_position = round_position; removals = removals })

-- Extensions that are absent tell of no round, and of nothing removed
abbrev pub no_extensions : DeliveryExtensions
no_extensions = record { round_position = no_round; removals = [] }

abbrev pub extensions_or_empty : Option DeliveryExtensions → DeliveryExtensions
extensions_or_empty given = unwrap_or given no_extensions

abbrev pub extensions_of : FunctionalDelivery → DeliveryExtensions
extensions_of d = record { round_position = position_of d; removals = d.removals }

unfoldable pub written_extensions : DeliveryExtensions → Option Data
written_extensions e = object_unless_empty (with_rows no_members (rows_of_position e.round_position (
    (REMOVED.now, written_list written_removal e.removals) ∷ [])))

-- Extensions where a service has none, which hold what was removed
abbrev pub written_removed : FunctionalDelivery → Option Data
written_removed d = written_extensions (extensions_of d)

abbrev pub some_extensions : (Data → Result Key Refusal) → Service → Kind DeliveryExtensions
some_extensions removed s = record {
  rule = table (delivery_extensions removed);
  writing = written_extensions;
  Is = λ e. IsPlaced e.round_position × IsListWithin most_entries (IsProperRemoval s) e.removals;
}

-- ---- the whole

abbrev pub delivery_of : Heading → RoundPosition → List Item → List Key → FunctionalDelivery
delivery_of heading round_position items removals = record {
  response_timestamp = heading.response_timestamp;
  subscriber_ref = heading.subscriber_ref;
  subscription_ref = heading.subscription_ref;
  status = heading.status;
  error_condition = heading.error_condition;
  start = round_position.start;
  round = round_position.round;
  part = round_position.part;
  items = items;
  removals = removals;
}
