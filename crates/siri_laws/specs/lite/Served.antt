-- Runs over connections in the places of others.
use Rattle.std.specs.Prelude.{◌≡◌, ℕ, List, Option, Some, option_map, if◌then◌else◌}
use Rattle.siri_outside.specs.OutsideCalls.{WhereTold}
use Rattle.siri_outside.specs.Wires.{Connection, WireState, texts}
use Rattle.siri_base.specs.declared.status.Status.{Status}
use Rattle.siri_http.specs.Requests.{Meaning, post_alone}
use Rattle.siri_http.specs.declared.asked.Asked.TheVariants as asked
use Rattle.siri_http.specs.declared.asked.BadRequest.TheVariants as bad
use Rattle.siri_lines.specs.Ends.{Bytes}
use Rattle.siri_ends.specs.lite.Asking.{is_query, post_or_query}
use Rattle.siri_runs.specs.Calls.{Outside, told_by}
use Rattle.siri_runs.specs.producers.Runs.{ServeRun}
use Rattle.siri_laws.specs.lite.Places.{AreInPlaces, IsInPlace, IsInPlaceOfKnown}

-- what requests ask where a POST alone asks something, save that a GET below `/siri-lite/` is refused for `NoPath`
abbrev pub post_or_no_path : Meaning
post_or_no_path request = if is_query request.0.0 request.0.1 then asked.Refused bad.NoPath else post_alone request

-- a wire with these connections to come
abbrev pub with_coming : List Connection → WireState → WireState
with_coming coming wire = record wire { to_accept = coming }

abbrev pub swapped : List Connection → Option WireState → Option WireState
swapped coming wire = option_map (with_coming coming) wire

-- what a run is handed, with these connections to come, where its wire tells what it holds
abbrev pub with_connections : List Connection → Outside → Outside
with_connections coming outside =
    record outside { wire = told_by (swapped coming outside.wire.tells) outside.wire.faults }

-- Two wires are alike but for the connections to come and what is left of the one that is there: what was written to each
-- connection, the addresses that were named, and the failures to come.
pub record AreAlike (wire other : WireState) : Type 0 where
  pub rest : other ≡ record wire { to_accept = other.to_accept; present = other.present }
  pub written : texts other ≡ texts wire

-- what two runs left is alike
pub record LeaveAlike (outside other : Outside) : Type 0 where
  pub wire : WhereTold outside.wire.tells other.wire.tells AreAlike
  pub faults : other.wire.faults ≡ outside.wire.faults
  pub clock : other.clock ≡ outside.clock
  pub keeper : other.keeper ≡ outside.keeper

-- a run that ends alike
pub record RunsAlike (asks : Meaning) (name listen : List ℕ) (count : ℕ) (from to : Outside) (old new : Bytes) (end : Status) : Type 0 where
  pub last : Outside
  pub run : ServeRun asks name listen count from last old new end
  pub alike : LeaveAlike to last

-- a run by one meaning is one by another over the connections in the places of those that it accepts
abbrev pub IsServedBy : (asks other_asks : Meaning) → (InPlace : Connection → Connection → Type 0) → Type 0
IsServedBy asks other_asks InPlace = (name listen : List ℕ) (count : ℕ) (wire : WireState) (others : List Connection)
    (from to : Outside) (old new : Bytes) (end : Status) → from.wire.tells ≡ Some wire
    → AreInPlaces InPlace count wire.to_accept others → ServeRun asks name listen count from to old new end
    → RunsAlike other_asks name listen count (with_connections others from) to old new end

-- A run of `lite` is one that answers no queries, but 404 to a GET of an unknown path.
abbrev pub IsServedAsPosts : Type 0
IsServedAsPosts = IsServedBy post_or_query post_or_no_path IsInPlace

-- Where there is no such GET, it is one of `serve`.
abbrev pub IsServedAsByServe : Type 0
IsServedAsByServe = IsServedBy post_or_query post_alone IsInPlaceOfKnown
