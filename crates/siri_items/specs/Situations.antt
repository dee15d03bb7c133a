-- The tables of situations: a line a row.
use Rattle.std.specs.Prelude.{◌≡◌, ℕ, List, [], ◌∷◌, false, if◌then◌else◌, Option, Some, None, Result, Ok, flat_map, sum_by, nat_le}
use Rattle.serde_json.specs.Data.{Data, no_members}
use Rattle.siri_base.specs.declared.reason.Reason.TheVariants.{TooMany}
use Rattle.siri_json.specs.declared.path.Step.TheVariants.{Member}
use Rattle.siri_json.specs.Values.{member_of}
use Rattle.siri_records.specs.declared.situation.Situation.{Situation}
use Rattle.siri_records.specs.declared.situation.Period.{Period}
use Rattle.siri_items.specs.declared.read_situation.Affected.{Affected}
use Rattle.siri_items.specs.declared.read_situation.Network.{Network}
use Rattle.siri_items.specs.declared.names.TheConstants.{CREATION_TIME, PARTICIPANT_REF, SITUATION_NUMBER, VERSION, VERSIONED_AT_TIME}
use Rattle.siri_items.specs.declared.names.TheConstants.{PROGRESS, SEVERITY, SUMMARY, DESCRIPTION, VALIDITY_PERIOD, START_TIME, END_TIME}
use Rattle.siri_items.specs.declared.names.TheConstants.{AFFECTS, OPERATORS, AFFECTED_OPERATOR, OPERATOR_REF, NETWORKS, AFFECTED_NETWORK}
use Rattle.siri_items.specs.declared.names.TheConstants.{AFFECTED_LINE, LINE_REF, STOP_POINTS, AFFECTED_STOP_POINT, STOP_POINT_REF}
use Rattle.siri_tables.specs.Refusals.{Refusal, ◌>>=◌, refused, below}
use Rattle.siri_tables.specs.Rules.{table, row, names, names_of, list_of, list_inside, entry_count, or_empty}
use Rattle.siri_tables.specs.Spelling.{Spells}
use Rattle.siri_tables.specs.Proper.{IsName, IsListWithin}
use Rattle.siri_tables.specs.Writing.{Row as Written, row_object, with_rows, object_unless_empty, array_unless_empty, written_list, written_name}
use Rattle.siri_tables.specs.Tables.{Kind, Row, optional, mandatory, some_entries, a_name, a_text, a_moment, Table, Maker, read_all, AllProper, all_written}

-- ValidityPeriod: a time in which a situation holds
abbrev pub period_table : Table Period
period_table =
    mandatory a_moment START_TIME.now (λ p. p.start_time) ∷
    optional a_moment END_TIME.now (λ p. p.end_time) ∷ []

abbrev pub make_period : Maker period_table
make_period = λ start_time end_time. record { start_time = start_time; end_time = end_time }

unfoldable pub period : Data → Result Period Refusal
period d = read_all period_table make_period d

abbrev pub rows_of_period : Period → List Written
rows_of_period p = all_written period_table p

unfoldable pub written_period : Period → Option Data
written_period p = Some (row_object (rows_of_period p))

abbrev pub a_period : Kind Period
a_period = record { rule = table period; writing = written_period; Is = AllProper period_table }

-- ---- what is affected

-- the lines at a member, and how many of its entries aren't null
abbrev pub lines_at : Option Data → Result Network Refusal
lines_at None = Ok (record { lines = []; entries = 0 })
lines_at (Some d) = names_of LINE_REF.now d >>= λ lines. Ok (record { lines = lines; entries = entry_count d })

-- AffectedNetwork: the lines of a network
unfoldable pub network : Data → Result Network Refusal
network d = below (Member AFFECTED_LINE.now) (lines_at (member_of AFFECTED_LINE.now d))

-- the lines of all networks, of whose entries there may be 2,000 in all
abbrev pub all_lines : List Network → Result (List (List ℕ)) Refusal
all_lines networks =
    if nat_le (sum_by (λ n. n.entries) networks) 2000 then Ok (flat_map (λ n. n.lines) networks) else refused TooMany

-- the bound is tested after the entries
unfoldable pub lines_of : Data → Result (List (List ℕ)) Refusal
lines_of d = list_of (table network) d >>= all_lines

unfoldable pub network_lines : Data → Result (List (List ℕ)) Refusal
network_lines d = below (Member AFFECTED_NETWORK.now) (or_empty lines_of (member_of AFFECTED_NETWORK.now d))

-- names in a list inside an object
unfoldable pub written_names : List ℕ → List ℕ → List (List ℕ) → Option Data
written_names key inner names = object_unless_empty (with_rows no_members ((key, written_list (written_name inner) names) ∷ []))

-- all lines under one network
unfoldable pub written_network : Option Data → Option Data
written_network None = None
written_network (Some network) = Some (row_object ((AFFECTED_NETWORK.now, array_unless_empty (network ∷ [])) ∷ []))

unfoldable pub written_networks : List (List ℕ) → Option Data
written_networks lines = written_network (written_names AFFECTED_LINE.now LINE_REF.now lines)

-- at most 2,000 names in a list inside an object
abbrev pub names_inside : {S : Type 0} → List ℕ → List ℕ → List ℕ → (S → List (List ℕ)) → Row S
names_inside outer key inner of = record {
  Of = List (List ℕ);
  of = of;
  read = list_inside outer (names inner 2000 key);
  Spelled = λ d xs. list_inside outer (names inner 2000 key) d ≡ Ok xs;
  write = λ xs. (outer, written_names key inner xs) ∷ [];
  Is = IsListWithin 2000 IsName;
  blank = λ xs. false;
}

abbrev pub lines_of_networks : {S : Type 0} → (S → List (List ℕ)) → Row S
lines_of_networks of = record {
  Of = List (List ℕ);
  of = of;
  read = list_inside NETWORKS.now network_lines;
  Spelled = λ d xs. list_inside NETWORKS.now network_lines d ≡ Ok xs;
  write = λ xs. (NETWORKS.now, written_networks xs) ∷ [];
  Is = IsListWithin 2000 IsName;
  blank = λ xs. false;
}

-- Affects: the operators, lines and stops that a situation affects (CEN/TS 15531-5)
abbrev pub affected_table : Table Affected
affected_table =
    names_inside OPERATORS.now AFFECTED_OPERATOR.now OPERATOR_REF.now (λ a. a.operators) ∷
    lines_of_networks (λ a. a.lines) ∷
    names_inside STOP_POINTS.now AFFECTED_STOP_POINT.now STOP_POINT_REF.now (λ a. a.stop_points) ∷ []

abbrev pub make_affected : Maker affected_table
make_affected = λ operators lines stop_points. record { operators = operators; lines = lines; stop_points = stop_points }

unfoldable pub affected : Data → Result Affected Refusal
affected d = read_all affected_table make_affected d

abbrev pub rows_of_affects : List (List ℕ) → List (List ℕ) → List (List ℕ) → List Written
rows_of_affects operators lines stop_points = all_written affected_table (make_affected operators lines stop_points)

unfoldable pub written_affects : List (List ℕ) → List (List ℕ) → List (List ℕ) → Option Data
written_affects operators lines stop_points = object_unless_empty (with_rows no_members (rows_of_affects operators lines stop_points))

-- where it is absent, nothing is affected
abbrev pub or_nothing : Option Affected → Affected
or_nothing None = record { operators = []; lines = []; stop_points = [] }
or_nothing (Some a) = a

-- its row
pub record SpellsAffects (d : Data) (a : Affected) : Type 0 where
  pub affects : Option Affected
  pub spelled : Spells (table affected) AFFECTS.now d affects
  pub is : or_nothing affects ≡ a

abbrev pub optional_affects : {S : Type 0} → (S → Affected) → Row S
optional_affects of = record {
  Of = Affected;
  of = of;
  read = λ d. row (table affected) AFFECTS.now d >>= λ a. Ok (or_nothing a);
  Spelled = SpellsAffects;
  write = λ a. (AFFECTS.now, written_affects a.operators a.lines a.stop_points) ∷ [];
  Is = AllProper affected_table;
  blank = λ a. false;
}

-- PtSituationElement: a situation of the network (CEN/TS 15531-5)
abbrev pub situation_table : Table Situation
situation_table =
    optional a_moment CREATION_TIME.now (λ s. s.creation_time) ∷
    optional a_name PARTICIPANT_REF.now (λ s. s.participant_ref) ∷
    mandatory a_name SITUATION_NUMBER.now (λ s. s.situation_number) ∷
    optional a_name VERSION.now (λ s. s.version) ∷
    optional a_moment VERSIONED_AT_TIME.now (λ s. s.versioned_at_time) ∷
    optional a_text PROGRESS.now (λ s. s.progress) ∷
    some_entries a_period 100 VALIDITY_PERIOD.now (λ s. s.validity_period) ∷
    optional a_text SEVERITY.now (λ s. s.severity) ∷
    optional a_text SUMMARY.now (λ s. s.summary) ∷
    optional a_text DESCRIPTION.now (λ s. s.description) ∷
    optional_affects (λ s. record { operators = s.affected_operators; lines = s.affected_lines; stop_points = s.affected_stop_points }) ∷ []

abbrev pub make_situation : Maker situation_table
make_situation =
    λ creation_time participant_ref situation_number version versioned_at_time progress validity_period severity summary description affected.
    record {
      creation_time = creation_time;
      participant_ref = participant_ref;
      situation_number = situation_number;
      version = version;
      versioned_at_time = versioned_at_time;
      progress = progress;
      validity_period = validity_period;
      severity = severity;
      summary = summary;
      description = description;
      affected_operators = affected.operators;
      affected_lines = affected.lines;
      affected_stop_points = affected.stop_points;
    }

unfoldable pub situation : Data → Result Situation Refusal
situation d = read_all situation_table make_situation d

unfoldable pub written_situation : Situation → Data
written_situation s = row_object (all_written situation_table s)

abbrev pub a_situation : Kind Situation
a_situation = record { rule = table situation; writing = λ s. Some (written_situation s); Is = AllProper situation_table }
