-- What stays of a life at each step of its producer: its number, its start, what it wants, and that the wanted part is there.
use Rattle.std.proofs.Common.{◌≡◌, ℕ, suc, ◌<◌, length, Bool, true, false, ◌&&◌, Option, None, Some, refl, subst, ◌∙◌}
use Rattle.std.specs.Prelude.{nat_lt}
use Rattle.std.proofs.lemmas.Bool.{ltb-true}
use Rattle.siri_records.specs.Keyed.{Items}
use Rattle.siri_change.specs.Parts.{Carried}
use Rattle.siri_life.specs.Life.{Mark, Outstanding, is_mark, is_due, acknowledged_at, acknowledged_if, next_part, after_acknowledgement}
use Rattle.siri_life.specs.Life.{supplied_at, after_supply, opened, opened_at, opened_if, wants_round, after_send, sent_if, after_heartbeat}
use Rattle.siri_life.specs.Life.{heartbeat_if, sends_heartbeat, settled}
use Rattle.siri_model.specs.Lives.{Living}
use Rattle.siri_model.specs.Meaning.{meaning}
use Rattle.siri_model.proofs.Lawful.{meaning_lawful}

-- of an outstanding round some part is still wanted
abbrev pub HasPart : Option (Outstanding Items Carried) → Type 0
HasPart None = Unit {0}
HasPart (Some o) = o.acknowledged_parts < length o.round.parts

-- one life goes on as another
pub record GoesOn (new old : Living) : Type 0 where
  pub number : new.number ≡ old.number
  pub start : new.start ≡ old.start
  pub wanted : new.wanted ≡ old.wanted
  pub part : HasPart old.outstanding → HasPart new.outstanding

as_it_is : (l : Living) → GoesOn l l
as_it_is l = record { number = refl; start = refl; wanted = refl; part = λ has. has }

then : (a b c : Living) → GoesOn b a → GoesOn c b → GoesOn c a
then a b c first later = record {
  number = later.number ∙ first.number;
  start = later.start ∙ first.start;
  wanted = later.wanted ∙ first.wanted;
  part = λ has. later.part (first.part has);
}

-- ---- a message of the outstanding round is sent

sent_goes : (l : Living) (now : ℕ) (b : Bool) (o : Outstanding Items Carried) → l.outstanding ≡ Some o → GoesOn (sent_if meaning b l o now) l
sent_goes l now true o is = record { number = refl; start = refl; wanted = refl; part = λ has. subst HasPart is has }
sent_goes l now false o is = as_it_is l

-- ---- an acknowledgement, and a request for a part

module _ (l : Living) (k : ℕ) (m : Mark) (now : ℕ) where
  next_goes : (b : Bool) (o : Outstanding Items Carried) → nat_lt (suc o.acknowledged_parts) (length o.round.parts) ≡ b → GoesOn (next_part meaning b l o now) l
  next_goes true o more = record { number = refl; start = refl; wanted = refl; part = λ has. ltb-true (suc o.acknowledged_parts) (length o.round.parts) more }
  next_goes false o more = record { number = refl; start = refl; wanted = refl; part = λ has. tt }

  acknowledged_goes : (b : Bool) (o : Outstanding Items Carried) → GoesOn (acknowledged_if meaning b l o now) l
  acknowledged_goes true o = next_goes (nat_lt (suc o.acknowledged_parts) (length o.round.parts)) o refl
  acknowledged_goes false o = as_it_is l

  pub acknowledgement_goes : GoesOn (after_acknowledgement meaning l k m now) l
  acknowledgement_goes = by l.outstanding
    where
      by : (o : Option (Outstanding Items Carried)) → GoesOn (acknowledged_at meaning o l k m now) l
      by None = as_it_is l
      by (Some o) = acknowledged_goes (is_mark m l.number k (length l.rounds) (suc o.acknowledged_parts)) o

  pub supply_goes : GoesOn (after_supply meaning l k m now) l
  supply_goes = by l.outstanding refl
    where
      by : (o : Option (Outstanding Items Carried)) → l.outstanding ≡ o → GoesOn (supplied_at meaning o l k m now) l
      by None is = as_it_is l
      by (Some o) is = sent_goes l now (meaning.fetched l.wanted && is_mark m l.number k (length l.rounds) (suc o.acknowledged_parts)) o is

-- ---- a settle

module _ (l : Living) (direct : Items) (now : ℕ) where
  pub look_goes : GoesOn (opened meaning l direct now) l
  look_goes = by l.outstanding
    where
      test : (b : Bool) → GoesOn (opened_if meaning b l direct now) l
      test true = record {
        number = refl;
        start = refl;
        wanted = refl;
        part = λ has. meaning_lawful.some_part l.acknowledged
            (meaning.target l.acknowledged direct l.wanted) l.wanted;
      }
      test false = as_it_is l

      by : (o : Option (Outstanding Items Carried)) → GoesOn (opened_at meaning o l direct now) l
      by None = test (wants_round meaning l direct)
      by (Some o) = as_it_is l

module _ (l : Living) (now : ℕ) where
  send_goes : GoesOn (after_send meaning l l.outstanding now) l
  send_goes = by l.outstanding refl
    where
      by : (o : Option (Outstanding Items Carried)) → l.outstanding ≡ o → GoesOn (after_send meaning l o now) l
      by None is = as_it_is l
      by (Some o) is = sent_goes l now (is_due o.last_sent now) o is

  heartbeat_goes : GoesOn (after_heartbeat meaning l now) l
  heartbeat_goes = by (sends_heartbeat meaning l now)
    where
      by : (b : Bool) → GoesOn (heartbeat_if meaning b l now) l
      by true = record { number = refl; start = refl; wanted = refl; part = λ has. has }
      by false = as_it_is l

pub settle_goes : (l : Living) (direct : Items) (now : ℕ) → GoesOn (settled meaning l direct now) l
settle_goes l direct now =
    let look = opened meaning l direct now in
    let sent = after_send meaning look look.outstanding now in
    then l sent (settled meaning l direct now) (then l look sent (look_goes l direct now) (send_goes look now)) (heartbeat_goes sent now)
