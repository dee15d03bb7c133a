-- What is lent is what a history says.
use Rattle.std.proofs.Common.{◌≡◌, ℕ, List, [], ◌∷◌, map, Bool, Option, None, Some, refl, sym, ap, ◌∙◌}
use Rattle.std.specs.Prelude.{find, is_some, option_map, option_and_then}
use Rattle.siri_records.specs.Keyed.{Items, KeyChange}
use Rattle.siri_topic.specs.declared.topics.Topic.{Topic}
use Rattle.siri_messages.specs.declared.requests.ServiceRequest.{ServiceRequest}
use Rattle.siri_life.specs.Life.{Outstanding}
use Rattle.siri_subs.specs.rounds.Wanted.{WantedPart, outstanding_carried, part_sent, rounds_carried, wanted_part}
use Rattle.siri_subs.specs.declared.rounds.parts.Part.{Part}
use Rattle.siri_subs.specs.declared.entry.Row.{Row}
use Rattle.siri_subs.specs.Table.{is_of}
use Rattle.siri_model.specs.Direct.{answer, response, shown}
use Rattle.siri_model.specs.History.{History, current, now_of}
use Rattle.siri_model.specs.Lives.{table_of}
use Rattle.siri_model.specs.Rows.{rows_of}
use Rattle.siri_model.proofs.Lawful.{shown_live}
use Rattle.siri_responder.specs.Known as responder
use Rattle.siri_subscriptions.specs.Courses.{kept_row}
use Rattle.siri_subscriptions.specs.declared.course.Course.{Course}
use Rattle.siri_subscriptions.proofs.Kept.{found_kept}
use Rattle.siri_producer.specs.Known.{Known, StandsFor}
use Rattle.siri_producer.specs.Lent.{OwnPart, head_of, is_outstanding, is_outstanding_in, own_part, part_in}
use Rattle.siri_producer.specs.Lent.{response_head, without_items, without_own_items}
use Rattle.siri_producer.specs.Standing.{known_of}

-- ---- a direct response

heads_are : (now : ℕ) (items : Items) (topics : List Topic)
    → map (λ _. head_of now) topics ≡ map without_own_items (map (answer now items) topics)
unfolding answer
heads_are now items [] = refl
heads_are now items (topic ∷ topics) = ap (λ heads. head_of now ∷ heads) (heads_are now items topics)

-- without its items a response is its head
pub head_is : (name : List ℕ) (now : ℕ) (items : Items) (r : ServiceRequest)
    → response_head name now r ≡ without_items (response name now items r)
unfolding response
head_is name now items r = λ i. record (response_head name now r) {
  stop_monitoring_delivery = heads_are now items r.stop_monitoring_request i;
  estimated_timetable_delivery = heads_are now items r.estimated_timetable_request i;
  vehicle_monitoring_delivery = heads_are now items r.vehicle_monitoring_request i;
  situation_exchange_delivery = heads_are now items r.situation_exchange_request i;
}

-- what is shown of what is held is what is shown of what is current
pub shown_for : (known : responder.Known) (h : History) (topic : Topic) → responder.StandsFor known h
    → map (λ entry. entry.1) (shown known.moment known.held topic)
    ≡ map (λ entry. entry.1) (shown (now_of h) (current h) topic)
shown_for known h topic s =
    ap (map (λ entry. entry.1))
    ((λ i. shown (s.moment i) (s.held i) topic) ∙ shown_live (now_of h) (current h) topic)

-- ---- a part

module _ (known : responder.Known) (rows : List (Row Course)) (settled : Bool) (now : Known)
    (view : known_of known rows settled ≡ now) (h : History) (stands : StandsFor now h) (c s : List ℕ) where
  -- the row of a subscription by the history is the one that is kept
  pub found_for : find (is_of c s) (rows_of (table_of h)) ≡ option_map kept_row (find (is_of c s) rows)
  found_for =
      ap (find (is_of c s)) (sym stands.table ∙ sym (ap (λ (k : Known). k.table) view)) ∙ found_kept c s rows

  pub part_for : (row : Option (Row Course)) → find (is_of c s) rows ≡ row
      → option_and_then own_part (option_map kept_row row) ≡ part_in c s (rows_of (table_of h))
  part_for row found = sym (ap (option_and_then own_part) (found_for ∙ ap (option_map kept_row) found))

  pub known_for : (row : Option (Row Course)) → find (is_of c s) rows ≡ row
      → is_outstanding (option_map kept_row row) ≡ is_outstanding_in c s (rows_of (table_of h))
  known_for row found = sym (ap is_outstanding (found_for ∙ ap (option_map kept_row) found))

-- the part of a row that is lent
abbrev pub lent_of : Row Course → Part → OwnPart
lent_of row part = record { number = row.number; wanted = row.wanted; part = part_sent part }

pub own_is : (row : Row Course) (part : Option Part)
    → option_map part_sent part ≡ wanted_part (rounds_carried row.slot.rounds)
    → option_map (lent_of row) part ≡ own_part (kept_row row)
own_is row None is =
    ap (option_map (λ (part : WantedPart). record { number = row.number; wanted = row.wanted; part = part })) is
own_is row (Some part) is =
    ap (option_map (λ (part : WantedPart). record { number = row.number; wanted = row.wanted; part = part })) is

-- of what is kept of a row a round is outstanding where one is
pub outstanding_is : (o : Option (Outstanding Items (List KeyChange)))
    → is_some o ≡ is_some (option_map outstanding_carried o)
outstanding_is None = refl
outstanding_is (Some o) = refl
