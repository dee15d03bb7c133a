-- The parts of a round.
use Rattle.std.proofs.Common.{◌≡◌, ℕ, suc, ◌<◌, nat_lt, nat_eq, Bool, true, false, cond, not, ◌&&◌, List, Option, Some, None, option_map, refl, ap, sym, ◌∙◌}
use Rattle.std.specs.Bool.{then_some}
use Rattle.siri_records.specs.Keyed.{Items, KeyChange}
use Rattle.siri_change.specs.Parts.{led_to, part_after, parts_count}
use Rattle.siri_subs.specs.declared.rounds.kept.OpenRound.{OpenRound}
use Rattle.siri_subs.specs.rounds.Kept.{outstanding_on}
use Rattle.siri_subs.specs.rounds.Wanted.{RoundsOfChanges, PartOf, round_on, wanted_part_of}
use Rattle.siri_life.specs.Slot.{with_acknowledgement}
use Rattle.siri_change.proofs.Carriage.{each_part}
use Rattle.siri_change.proofs.InParts.{parts_number}

-- the wanted part of an outstanding round, as it is lent
abbrev part_of : (opened place moment n : ℕ) → List KeyChange → PartOf (List KeyChange)
part_of opened place moment n changes =
    record { place = record { round = opened; part = suc place }; moment = moment; more = nat_lt (suc place) n; carried = part_after changes place }

pub wanted_lent : (lent : PartOf (List KeyChange)) (opened place moment : ℕ) (base target : Items) (list changes : List KeyChange) (last_sent : Option ℕ)
    → lent ≡ record {
      place = record { round = opened; part = suc place };
      moment = moment;
      more = nat_lt (suc place) (parts_count changes);
      carried = part_after changes place;
    }
    → changes ≡ list → place < parts_count list
    → Some lent ≡ wanted_part_of opened (Some (record { round = round_on base moment target list; acknowledged_parts = place; last_sent = last_sent }))
wanted_lent lent opened place moment base target list changes last_sent is all lt =
    rw (each_part list place lt) (ap Some (is
    ∙ (ap (λ c. part_of opened place moment (parts_count c) c) all
    ∙ ap (λ n. part_of opened place moment n list) (sym (parts_number list)))))

-- ---- the wanted part is acknowledged

-- what is kept, by its fields
abbrev pub kept_by : Bool → Items → ℕ → Option OpenRound → RoundsOfChanges
kept_by fetched acknowledged opened round =
    record { fetched = fetched; acknowledged = acknowledged; rounds_opened = opened; outstanding = option_map (outstanding_on acknowledged) round }

-- a test that isn't false
pub is_hit : (b n : Bool) → n ≡ not b → n ≡ false → b ≡ true
is_hit true n e f = refl
is_hit false n e f = sym f ∙ e

-- a test that isn't true
pub is_missed : (b n : Bool) → n ≡ not b → n ≡ true → b ≡ false
is_missed false n e t = refl
is_missed true n e t = sym t ∙ e

-- it was the last one
pub last_taken : (fetched : Bool) (acknowledged : Items) (opened : ℕ) (o : OpenRound) (round part now : ℕ)
    → (nat_eq round opened && nat_eq part (suc o.acknowledged_parts)) ≡ true → nat_lt (suc o.acknowledged_parts) (parts_count o.changes) ≡ false
    → with_acknowledgement (kept_by fetched acknowledged opened (Some o)) round part now ≡ kept_by fetched (led_to acknowledged o.incremental o.changes) opened None
last_taken fetched acknowledged opened o round part now hit last = rw (hit, parts_number o.changes, last) refl

-- another follows
abbrev next_wanted : Bool → Items → ℕ → OpenRound → ℕ → Option ℕ → RoundsOfChanges
next_wanted fetched acknowledged opened o next sent = kept_by fetched acknowledged opened (Some (record o { acknowledged_parts = next; last_sent = sent }))

sent_then : (fetched : Bool) (now : ℕ) → then_some fetched now ≡ cond fetched (Some now) None
sent_then true now = refl
sent_then false now = refl

pub next_taken : (fetched : Bool) (acknowledged : Items) (opened : ℕ) (o : OpenRound) (round part now next : ℕ) (sent : Option ℕ)
    → (nat_eq round opened && nat_eq part (suc o.acknowledged_parts)) ≡ true → nat_lt (suc o.acknowledged_parts) (parts_count o.changes) ≡ true
    → next ≡ suc o.acknowledged_parts → sent ≡ then_some fetched now
    → with_acknowledgement (kept_by fetched acknowledged opened (Some o)) round part now
    ≡ kept_by fetched acknowledged opened (Some (record o { acknowledged_parts = next; last_sent = sent }))
next_taken fetched acknowledged opened o round part now next sent hit more e f =
    rw (hit, parts_number o.changes, more)
    (sym
    (ap (λ n. next_wanted fetched acknowledged opened o n sent) e
    ∙ ap (λ t. next_wanted fetched acknowledged opened o (suc o.acknowledged_parts) t) (f ∙ sent_then fetched now)))
