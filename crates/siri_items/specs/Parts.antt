-- The groups of rows that the journeys of all services have (EN 15531-3).
use Rattle.std.specs.Prelude.{[], ◌∷◌, Result}
use Rattle.serde_json.specs.Data.{Data}
use Rattle.siri_items.specs.declared.names.TheConstants.{PUBLISHED_LINE_NAME, OPERATOR_REF, DESTINATION_REF, DESTINATION_NAME, MONITORED, OCCUPANCY, DELAY}
use Rattle.siri_items.specs.declared.read_parts.ServiceInfo.{ServiceInfo}
use Rattle.siri_items.specs.declared.read_parts.JourneyProgress.{JourneyProgress}
use Rattle.siri_tables.specs.Refusals.{Refusal}
use Rattle.siri_tables.specs.Tables.{optional, a_name, a_text, a_span, a_flag, Table, Maker, read_all}

-- what passengers are told of the line, who runs it, and where it goes
abbrev pub service_info_table : Table ServiceInfo
service_info_table =
    optional a_text PUBLISHED_LINE_NAME.now (λ i. i.published_line_name) ∷
    optional a_name OPERATOR_REF.now (λ i. i.operator_ref) ∷
    optional a_name DESTINATION_REF.now (λ i. i.destination_ref) ∷
    optional a_text DESTINATION_NAME.now (λ i. i.destination_name) ∷ []

abbrev pub make_service_info : Maker service_info_table
make_service_info =
    λ published_line_name operator_ref destination_ref destination_name.
    record {
      published_line_name = published_line_name;
      operator_ref = operator_ref;
      destination_ref = destination_ref;
      destination_name = destination_name;
    }

unfoldable pub service_info : Data → Result ServiceInfo Refusal
service_info d = read_all service_info_table make_service_info d

-- how the journey goes
abbrev pub progress_table : Table JourneyProgress
progress_table =
    optional a_flag MONITORED.now (λ p. p.monitored) ∷
    optional a_text OCCUPANCY.now (λ p. p.occupancy) ∷
    optional a_span DELAY.now (λ p. p.delay) ∷ []

abbrev pub make_progress : Maker progress_table
make_progress = λ monitored occupancy delay. record { monitored = monitored; occupancy = occupancy; delay = delay }

unfoldable pub progress : Data → Result JourneyProgress Refusal
progress d = read_all progress_table make_progress d
