-- A run of `consume`, as its parts make it.
use Rattle.std.proofs.Common.{◌≡◌, ◌⊎◌, ℕ, List, ◌++◌, refl, sym, subst, append_assoc, inl, inr, Result, Ok, Err}
use Rattle.std.specs.Prelude.{OnErr}
use Rattle.std.specs.Io.KnownBytes.{Appends}
use Rattle.std.proofs.KnownBytes.{Appends-trans}
use Rattle.siri_outside.specs.OutsideCalls.{ClockState, KeeperState}
use Rattle.siri_outside.specs.Wires.{WireState}
use Rattle.siri_base.specs.declared.status.Status.TheVariants as status
use Rattle.siri_http.specs.declared.tally.Tally.{Tally}
use Rattle.siri_http.specs.Tallies.{nothing_yet}
use Rattle.siri_ends.specs.At.{at_of}
use Rattle.siri_ends.specs.Consuming.{FirstSendsUp, SendsUp}
use Rattle.siri_lines.specs.Ends.{AppendsFront, Bytes}
use Rattle.siri_view.specs.Consuming.{Consuming}
use Rattle.siri_wire.specs.declared.wanted.Wanted.{Wanted}
use Rattle.siri_runs.specs.Calls.{Outside, Told, outside_of}
use Rattle.siri_runs.specs.Run.{Completes, EndsBefore, MakesTurns}
use Rattle.siri_runs.specs.Turns.{running}
use Rattle.siri_runs.specs.consumers.Consumption.{ConsumerAsks, Consumption, Target, after_asking, requests, turning}
use Rattle.siri_runs.specs.consumers.Opening.{opened}
use Rattle.siri_runs.specs.consumers.Runs.{BeginsConsuming, consume_procedure, end_text}
use Rattle.siri_runs.specs.consumers.inner.Steps.{OpensConsumer}

-- what a run has of a consumer
abbrev pub consumer_of : Consumption → Consuming
consumer_of state = state.consumer

abbrev pub tally_of : Consumption → Tally
tally_of state = state.tally

abbrev pub counting : Consuming → Tally → Consumption
counting consumer tally = record { consumer = consumer; tally = tally }

-- what was asked, as the run has it
asks_all : (target : Target) (list : List Wanted) (first begun later : Consuming) (none tally : Tally)
    (wire after : Told WireState) (clock : Told ClockState) (keeper : Told KeeperState) → begun ≡ first
    → none ≡ nothing_yet
    → SendsUp target.0 target.1 (requests begun list)
    (at_of (after_asking begun list) none wire.tells wire.faults)
    (at_of later tally after.tells after.faults)
    → ConsumerAsks target list first (outside_of wire clock keeper) (running (counting later tally) (outside_of after clock keeper))
asks_all target list first begun later none tally wire after clock keeper is nothing sends = record {
  sends = subst (λ t. SendsUp target.0 target.1 (requests first list)
      (at_of (after_asking first list) t wire.tells wire.faults)
      (at_of later tally after.tells after.faults)) nothing
      (subst (λ c. SendsUp target.0 target.1 (requests c list)
      (at_of (after_asking c list) none wire.tells wire.faults)
      (at_of later tally after.tells after.faults)) is sends);
  rest = refl;
}

-- it opened, and there was no memory to ask
pub ask_stopped : (name listen : List ℕ) (target : Target) (count : ℕ) (input left : Bytes) (list : List Wanted)
    (begun : Consuming) (from : Outside) (wire after : Told WireState) (clock : Told ClockState)
    (keeper : Told KeeperState)
    → OpensConsumer name listen input list begun from (outside_of wire clock keeper)
    → (after ≡ wire) ⊎ FirstSendsUp target.0 target.1 (requests begun list) (after_asking begun list) wire.tells after.tells
    → EndsBefore (consume_procedure name listen target input left) count status.OutOfMemory from (outside_of after clock keeper)
ask_stopped name listen target count input left list begun from wire after clock keeper opens some =
    inl (inr (record {
      end_is = refl;
      start = opens.start;
      list = list;
      moment = opens.moment;
      open_ = outside_of wire clock keeper;
      opens = opens.opens;
      asks = record {
        sends = subst (λ c. (after ≡ wire) ⊎ FirstSendsUp target.0 target.1 (requests c list)
            (after_asking c list) wire.tells after.tells) opens.consumer_is some;
        rest = refl;
      };
    }))

-- it opened and asked
module _ (name listen : List ℕ) (target : Target) (count : ℕ) (input left : Bytes) (list : List Wanted) (begun : Consuming) (none : Tally)
    (consumer : Consuming) (tally : Tally) (from : Outside) (wire after : Told WireState) (clock : Told ClockState)
    (keeper : Told KeeperState) (nothing : none ≡ nothing_yet)
    (opens : OpensConsumer name listen input list begun from (outside_of wire clock keeper))
    (sends : SendsUp target.0 target.1 (requests begun list) (at_of (after_asking begun list) none wire.tells wire.faults)
    (at_of consumer tally after.tells after.faults)) where
  pub asked : BeginsConsuming name listen target input from (running (counting consumer tally) (outside_of after clock keeper))
  asked = record {
    start = opens.start;
    list = list;
    moment = opens.moment;
    open_ = outside_of wire clock keeper;
    opens = opens.opens;
    asks = asks_all target list (opened name listen opens.start opens.moment) begun consumer none tally wire after clock keeper
        opens.consumer_is nothing sends;
  }

  -- every connection was answered
  pub all_consumed : (last : Consuming) (counted : Tally) (to : Outside)
      → (end : Consumption) × ((end.consumer ≡ last) × (counted ≡ end.tally))
      × MakesTurns (turning target) count (running (counting consumer tally) (outside_of after clock keeper)) (running end to)
      → Completes (consume_procedure name listen target input left) count (end_text (counting last counted)) from to
  all_consumed last counted to one = record {
    first = running (counting consumer tally) (outside_of after clock keeper);
    opens = asked;
    end = one.0;
    turns = one.2;
    leaves = tt;
    text_is = λ i. end_text (counting ((sym one.1.0) i) (one.1.1 i));
  }

-- ---- what is written

-- a front of a text after another text
pub front_after : (a b c : Bytes) (text more : List ℕ) → Appends a b text → AppendsFront b c more → AppendsFront a c (text ++ more)
front_after a b c text more first next = record {
  front = text ++ next.front;
  rest = next.rest;
  parts = subst (λ t. text ++ t ≡ (text ++ next.front) ++ next.rest) (sym next.parts) (sym (append_assoc text next.front next.rest));
  written = Appends-trans a b c text next.front first next.written;
}

-- a front of the first of two texts
pub front_of : (a b : Bytes) (text more : List ℕ) → AppendsFront a b text → AppendsFront a b (text ++ more)
front_of a b text more some = record {
  front = some.front;
  rest = some.rest ++ more;
  parts = subst (λ t. t ++ more ≡ some.front ++ (some.rest ++ more)) (sym some.parts) (append_assoc some.front some.rest more);
  written = some.written;
}

-- what holds anyway holds after an error
pub on_err : {T E : Type 0} (result : Result T E) (P : Type 0) → P → OnErr result P
on_err (Ok value) P p = tt
on_err (Err error) P p = p

-- what follows from what holds after an error
pub on_err_with : {T E P Q : Type 0} (result : Result T E) → (P → Q) → OnErr result P → OnErr result Q
on_err_with (Ok value) follows p = tt
on_err_with (Err error) follows p = follows p
