-- Small runs of two ends that are joined, of any messages: what both did, which connection is which, and an order.
use Rattle.std.specs.Prelude.{ℕ, false, List, [], ◌∷◌, ◌++◌, take}
use Rattle.siri_outside.specs.Wires.{hung_up_after, unfailing}
use Rattle.siri_messages.specs.declared.message.Message.{Message}
use Rattle.siri_wire.specs.Canonical.{canonical}
use Rattle.siri_http.specs.Texts.{request_text, response_text}
use Rattle.siri_laws.specs.two_ends.Joined.{Consumer, Deed, End, Ends, Pair, Place, Producer}
use Rattle.siri_laws.specs.two_ends.Logs.{Accepted, Dialled, Done, Given, Said, Settled, Took}

abbrev pub paired : Place → Place → Pair
paired at_producer at_consumer = record { at_producer = at_producer; at_consumer = at_consumer }

-- what an end did, in this run
abbrev pub by_end : End → (run : ℕ) → List Done → List Deed
by_end end run [] = []
by_end end run (done ∷ more) = record { end = end; run = run; done = done } ∷ by_end end run more

-- the connections between them: one; two; and one of each of two runs of the consumer
abbrev pub one_pair : List Pair
one_pair = paired (0, 0) (0, 0) ∷ []

abbrev pub two_pairs : List Pair
two_pairs = paired (0, 0) (0, 0) ∷ paired (0, 1) (0, 1) ∷ []

abbrev pub back_pairs : List Pair
back_pairs = paired (0, 0) (0, 0) ∷ paired (0, 1) (1, 0) ∷ []

abbrev pub response : Message → List ℕ
response m = response_text 200 false (canonical m)

module _ (host path : List ℕ) where
  abbrev pub request : Message → List ℕ
  request m = request_text host path (canonical m)

  -- ---- a message is said by the consumer in a place, and answered by the producer in another

  abbrev pub dials : (by : ℕ) → (m answer : Message) → List Done
  dials by m answer = Dialled by (unfailing (response answer)) ∷ Said by m ∷ []

  abbrev pub serves : (by : ℕ) → (m answer : Message) → List Done
  serves by m answer = Accepted by (unfailing (request m)) ∷ Given 5 ∷ Took by m ∷ Settled ∷ Said by answer ∷ []

  abbrev pub exchanged : (m answer : Message) → Ends
  exchanged m answer = record {
    producer = record { log = serves 0 m answer; over = hung_up_after (response answer) ∷ [] } ∷ [];
    consumer = record { log = dials 0 m answer ++ Took 0 answer ∷ []; over = hung_up_after (request m) ∷ [] } ∷ [];
  }

  abbrev pub in_order : (m answer : Message) → List Deed
  in_order m answer = by_end Consumer 0 (dials 0 m answer) ++ (by_end Producer 0 (serves 0 m answer) ++ by_end Consumer 0 (Took 0 answer ∷ []))

  -- the consumer took the answer before the producer had done anything
  abbrev pub too_early : (m answer : Message) → List Deed
  too_early m answer = by_end Consumer 0 (dials 0 m answer) ++ (by_end Consumer 0 (Took 0 answer ∷ []) ++ by_end Producer 0 (serves 0 m answer))

  -- ---- then the producer sends a part, of whose acknowledgement so many bytes come

  abbrev pub lost : (m answer part acknowledgement : Message) (count : ℕ) → Ends
  lost m answer part acknowledgement count = record {
    producer = record {
      log = serves 0 m answer ++ (Dialled 1 (unfailing (take count (response acknowledgement))) ∷ Said 1 part ∷ []);
      over = hung_up_after (response answer) ∷ hung_up_after (request part) ∷ [];
    } ∷ [];
    consumer = record {
      log = dials 0 m answer ++ (Took 0 answer ∷ Accepted 1 (unfailing (request part)) ∷ Given 6 ∷ Took 1 part ∷ Said 1 acknowledgement ∷ []);
      over = hung_up_after (request m) ∷ hung_up_after (response acknowledgement) ∷ [];
    } ∷ [];
  }

  abbrev pub lost_in_order : (m answer part acknowledgement : Message) (count : ℕ) → List Deed
  lost_in_order m answer part acknowledgement count =
      in_order m answer
      ++ (by_end Producer 0 (Dialled 1 (unfailing (take count (response acknowledgement))) ∷ Said 1 part ∷ [])
      ++ by_end Consumer 0 (Accepted 1 (unfailing (request part)) ∷ Given 6 ∷ Took 1 part ∷ Said 1 acknowledgement ∷ []))

  -- ---- the consumer's process ends, and its next run asks again

  abbrev pub back : (m answer again second : Message) → Ends
  back m answer again second = record {
    producer = record {
      log = serves 0 m answer ++ serves 1 again second;
      over = hung_up_after (response answer) ∷ hung_up_after (response second) ∷ [];
    } ∷ [];
    consumer =
        record { log = dials 0 m answer ++ Took 0 answer ∷ []; over = hung_up_after (request m) ∷ [] }
        ∷ record { log = dials 0 again second ++ Took 0 second ∷ []; over = hung_up_after (request again) ∷ [] }
        ∷ [];
  }

  abbrev pub back_in_order : (m answer again second : Message) → List Deed
  back_in_order m answer again second =
      in_order m answer
      ++ (by_end Consumer 1 (dials 0 again second) ++ (by_end Producer 0 (serves 1 again second) ++ by_end Consumer 1 (Took 0 second ∷ [])))
