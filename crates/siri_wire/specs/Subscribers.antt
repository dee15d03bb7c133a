-- Who subscribes: SubscriberRef, or the requestor where it is absent (EN 15531-2).
use Rattle.std.specs.Prelude.{◌≡◌, ◌⊎◌, ℕ, List, [], ◌∷◌, false, Option, Some, None, Result, Ok}
use Rattle.serde_json.specs.Data.{Data}
use Rattle.siri_json.specs.declared.path.Step.TheVariants.{Member}
use Rattle.siri_tables.specs.Refusals.{Refusal, ◌>>=◌}
use Rattle.siri_tables.specs.Rules.{name, required, row}
use Rattle.siri_tables.specs.Spelling.{Spells}
use Rattle.siri_tables.specs.Proper.{IsName}
use Rattle.siri_tables.specs.Writing.{written_text}
use Rattle.siri_tables.specs.Tables.{Row}
use Rattle.siri_deliveries.specs.declared.names.TheConstants.{SUBSCRIBER_REF}

-- the one that is named, otherwise the requestor, which has to be there then
abbrev pub named_or : Option (List ℕ) → Option (List ℕ) → Result (List ℕ) Refusal
named_or requestor (Some named) = Ok named
named_or requestor None = required (Member SUBSCRIBER_REF.now ∷ []) requestor

-- the subscriber
unfoldable pub subscriber_or : Option (List ℕ) → Data → Result (List ℕ) Refusal
subscriber_or requestor d = row name SUBSCRIBER_REF.now d >>= named_or requestor

-- SubscriberRef spells the subscriber, or is absent where the requestor is the subscriber
abbrev pub SpellsSubscriber : Option (List ℕ) → Data → List ℕ → Type 0
SpellsSubscriber requestor d subscriber =
    Spells name SUBSCRIBER_REF.now d (Some subscriber) ⊎ (Spells name SUBSCRIBER_REF.now d None × (requestor ≡ Some subscriber))

-- its row, in a message of this requestor
abbrev pub the_subscriber : {S : Type 0} → Option (List ℕ) → (S → List ℕ) → Row S
the_subscriber requestor of = record {
  Of = List ℕ;
  of = of;
  read = subscriber_or requestor;
  Spelled = SpellsSubscriber requestor;
  write = λ v. (SUBSCRIBER_REF.now, written_text v) ∷ [];
  Is = IsName;
  blank = λ v. false;
}
