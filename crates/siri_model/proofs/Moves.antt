-- A row moves as its life does.
use Rattle.std.proofs.Common.{◌≡◌, ℕ, suc, List, [], ◌∷◌, length, map, Bool, true, false, cond, ◌&&◌, Option, None, Some, refl, sym, ap, ◌∙◌}
use Rattle.std.specs.Prelude.{nat_lt, ◌==◌}
use Rattle.std.proofs.lemmas.Bool.{and_parts, eqb-true}
use Rattle.siri_records.specs.Keyed.{Items}
use Rattle.siri_change.specs.Parts.{Carried}
use Rattle.siri_life.specs.Life.{Mark, Outstanding, is_mark, is_due, acknowledged_at, acknowledged_if, next_part, after_acknowledgement}
use Rattle.siri_life.specs.Life.{supplied_at, after_supply, opened, opened_at, opened_if, wants_round, new_round, after_send, sent_if}
use Rattle.siri_life.specs.Life.{after_heartbeat, heartbeat_if, sends_heartbeat, settled}
use Rattle.siri_life.specs.Named.{Of}
use Rattle.siri_life.specs.Serving.{settled_rows}
use Rattle.siri_life.specs.Slot.{Slot, slot_of, begun, opens_round, with_acknowledgement, with_supply}
use Rattle.siri_life.proofs.Slots.{slot_begins, slot_sends, slot_acknowledges, slot_supplies, slot_keeps}
use Rattle.siri_model.specs.Direct.{direct_to}
use Rattle.siri_model.specs.History.{History}
use Rattle.siri_model.specs.Lives.{Living}
use Rattle.siri_messages.specs.Asked.{AskedFor}
use Rattle.siri_model.specs.Meaning.{meaning}
use Rattle.siri_model.specs.Rows.{row_of, rows_of, is_numbered, acknowledged_row, supplied_row, looked, sent_if_due, settled_row}

-- a life asks for what another does, under its number and with its base, and its last heartbeat is the same
pub record IsLike (new old : Living) : Type 0 where
  pub number : new.number ≡ old.number
  pub base : new.base ≡ old.base
  pub wanted : new.wanted ≡ old.wanted
  pub heartbeat : new.last_heartbeat ≡ old.last_heartbeat

like_itself : (l : Living) → IsLike l l
like_itself l = record { number = refl; base = refl; wanted = refl; heartbeat = refl }

like_then : (a b c : Living) → IsLike b a → IsLike c b → IsLike c a
like_then a b c first later = record {
  number = later.number ∙ first.number;
  base = later.base ∙ first.base;
  wanted = later.wanted ∙ first.wanted;
  heartbeat = later.heartbeat ∙ first.heartbeat;
}

-- the row of a life that is like another, with these rounds
row_like : (new old : Living) (rounds : Slot Items Carried) → IsLike new old → slot_of meaning new ≡ rounds
    → record {
      wanted = old.wanted.subscription;
      number = old.number;
      base = old.base;
      address = old.wanted.address;
      beat = old.wanted.beat;
      slot = record { rounds = rounds; last_heartbeat = old.last_heartbeat };
    } ≡ row_of new
row_like new old rounds alike is = sym (λ i. record {
  wanted = (alike.wanted i).subscription;
  number = alike.number i;
  base = alike.base i;
  address = (alike.wanted i).address;
  beat = (alike.wanted i).beat;
  slot = record { rounds = is i; last_heartbeat = alike.heartbeat i };
})

-- ---- an acknowledgement

module _ (l : Living) (k : ℕ) (m : Mark) (now : ℕ) where
  next_like : (b : Bool) (o : Outstanding Items Carried) → IsLike (next_part meaning b l o now) l
  next_like true o = record { number = refl; base = refl; wanted = refl; heartbeat = refl }
  next_like false o = record { number = refl; base = refl; wanted = refl; heartbeat = refl }

  acknowledged_like : (b : Bool) (o : Outstanding Items Carried) → IsLike (acknowledged_if meaning b l o now) l
  acknowledged_like true o = next_like (nat_lt (suc o.acknowledged_parts) (length o.round.parts)) o
  acknowledged_like false o = like_itself l

  at_like : (o : Option (Outstanding Items Carried)) → IsLike (acknowledged_at meaning o l k m now) l
  at_like None = like_itself l
  at_like (Some o) = acknowledged_like (is_mark m l.number k (length l.rounds) (suc o.acknowledged_parts)) o

  pub acknowledgement_like : IsLike (after_acknowledgement meaning l k m now) l
  acknowledgement_like = at_like l.outstanding

  pub acknowledgement_moves : acknowledged_row k now m (row_of l) ≡ row_of (after_acknowledgement meaning l k m now)
  acknowledgement_moves = by (is_numbered m l.number k) refl
    where
      by : (b : Bool) → is_numbered m l.number k ≡ b → acknowledged_row k now m (row_of l) ≡ row_of (after_acknowledgement meaning l k m now)
      by true is =
          let parts = and_parts (m.number == l.number) (m.start == k) is in
          rw is (row_like (after_acknowledgement meaning l k m now) l
          (with_acknowledgement (slot_of meaning l) m.round m.part now) acknowledgement_like
          (slot_acknowledges meaning l k m now (eqb-true m.number l.number parts.0) (eqb-true m.start k parts.1)))
      by false is = rw is (ap row_of (sym (slot_keeps meaning l k m now is)))

-- ---- a request for a part

-- a message of the outstanding round is sent
sent_like : (l : Living) (now : ℕ) (b : Bool) (o : Outstanding Items Carried) → IsLike (sent_if meaning b l o now) l
sent_like l now true o = record { number = refl; base = refl; wanted = refl; heartbeat = refl }
sent_like l now false o = like_itself l

-- no other number or start does anything
other_supply : (b c r : Bool) → c ≡ false → (b && (c && r)) ≡ false
other_supply true c r is = rw is refl
other_supply false c r is = refl

module _ (l : Living) (k : ℕ) (m : Mark) (now : ℕ) where
  pub supply_like : IsLike (after_supply meaning l k m now) l
  supply_like = by l.outstanding
    where
      by : (o : Option (Outstanding Items Carried)) → IsLike (supplied_at meaning o l k m now) l
      by None = like_itself l
      by (Some o) = sent_like l now (meaning.fetched l.wanted && is_mark m l.number k (length l.rounds) (suc o.acknowledged_parts)) o

  supply_keeps : is_numbered m l.number k ≡ false → after_supply meaning l k m now ≡ l
  supply_keeps off = by l.outstanding
    where
      by : (o : Option (Outstanding Items Carried)) → supplied_at meaning o l k m now ≡ l
      by None = refl
      by (Some o) = ap (λ b. sent_if meaning b l o now)
          (other_supply (meaning.fetched l.wanted) (is_numbered m l.number k)
          (m.round == length l.rounds && m.part == suc o.acknowledged_parts) off)

  pub supply_moves : supplied_row k now m (row_of l) ≡ row_of (after_supply meaning l k m now)
  supply_moves = by (is_numbered m l.number k) refl
    where
      by : (b : Bool) → is_numbered m l.number k ≡ b → supplied_row k now m (row_of l) ≡ row_of (after_supply meaning l k m now)
      by true is =
          let parts = and_parts (m.number == l.number) (m.start == k) is in
          rw is (row_like (after_supply meaning l k m now) l
          (with_supply (slot_of meaning l) m.round m.part now) supply_like
          (slot_supplies meaning l k m now (eqb-true m.number l.number parts.0) (eqb-true m.start k parts.1)))
      by false is = rw is (ap row_of (sym (supply_keeps is)))

-- ---- a settle

module _ (l : Living) (direct : Items) (now : ℕ) where
  opened_like : IsLike (opened meaning l direct now) l
  opened_like = by l.outstanding
    where
      test : (b : Bool) → IsLike (opened_if meaning b l direct now) l
      test true = record { number = refl; base = refl; wanted = refl; heartbeat = refl }
      test false = like_itself l

      by : (o : Option (Outstanding Items Carried)) → IsLike (opened_at meaning o l direct now) l
      by None = test (wants_round meaning l direct)
      by (Some o) = like_itself l

  look_moves : looked l.wanted direct now (slot_of meaning l) ≡ slot_of meaning (opened meaning l direct now)
  look_moves = by l.outstanding
    where
      test : (b : Bool) → cond b (begun (slot_of meaning l) (new_round meaning l direct now))
          (slot_of meaning l) ≡ slot_of meaning (opened_if meaning b l direct now)
      test true = sym (slot_begins meaning l (new_round meaning l direct now))
      test false = refl

      by : (o : Option (Outstanding Items Carried)) → cond (opens_round meaning o (slot_of meaning l) l.wanted direct)
          (begun (slot_of meaning l) (new_round meaning l direct now)) (slot_of meaning l) ≡ slot_of meaning
          (opened_at meaning o l direct now)
      by None = test (wants_round meaning l direct)
      by (Some o) = refl

module _ (l : Living) (now : ℕ) where
  send_like : IsLike (after_send meaning l l.outstanding now) l
  send_like = by l.outstanding
    where
      by : (o : Option (Outstanding Items Carried)) → IsLike (after_send meaning l o now) l
      by None = like_itself l
      by (Some o) = sent_like l now (is_due o.last_sent now) o

  -- a heartbeat leaves all else
  beat_leaves : row_of (after_heartbeat meaning l now) ≡ record (row_of l) {
    slot = record {
      rounds = slot_of meaning l;
      last_heartbeat =
          cond (sends_heartbeat meaning l now) now l.last_heartbeat;
    };
  }
  beat_leaves = by (sends_heartbeat meaning l now)
    where
      by : (b : Bool) → row_of (heartbeat_if meaning b l now) ≡ record (row_of l)
          { slot = record { rounds = slot_of meaning l; last_heartbeat = cond b now l.last_heartbeat } }
      by true = refl
      by false = refl

pub settle_moves : (l : Living) (items : Items) (now : ℕ)
    → settled_row now items (row_of l) ≡ row_of (settled meaning l (direct_to now items l.wanted.subscription.topic) now)
settle_moves l items now =
    let direct = direct_to now items l.wanted.subscription.topic in
    let look = opened meaning l direct now in
    let sent = after_send meaning look look.outstanding now in
    let alike = like_then l look sent (opened_like l direct now) (send_like look now) in
    let rounds : slot_of meaning sent ≡ sent_if_due now (looked l.wanted direct now (slot_of meaning l)) =
    slot_sends meaning look now ∙ ap (sent_if_due now) (sym (look_moves l direct now)) in
    sym (
    beat_leaves sent now
    ∙ (λ i. record {
      wanted = (alike.wanted i).subscription;
      number = alike.number i;
      base = alike.base i;
      address = (alike.wanted i).address;
      beat = (alike.wanted i).beat;
      slot = record {
        rounds = rounds i;
        last_heartbeat = cond (meaning.is_heartbeat_due (alike.wanted i) (alike.heartbeat i) now) now (alike.heartbeat i);
      };
    })
    )

pub settled_like : (l : Living) (direct : Items) (now : ℕ) → (settled meaning l direct now).wanted ≡ l.wanted
settled_like l direct now =
    let look = opened meaning l direct now in
    let sent = after_send meaning look look.outstanding now in
    by (sends_heartbeat meaning sent now) sent ∙ (like_then l look sent (opened_like l direct now) (send_like look now)).wanted
  where
    by : (b : Bool) (l : Living) → (heartbeat_if meaning b l now).wanted ≡ l.wanted
    by true l = refl
    by false l = refl

-- all rows
pub rows_settled : (known : History) (now : ℕ) (items : Items) (t : List (Of Living))
    → ((wanted : AskedFor) → meaning.direct known wanted ≡ direct_to now items wanted.subscription.topic)
    → rows_of (settled_rows meaning known now t) ≡ map (settled_row now items) (rows_of t)
rows_settled known now items [] knows = refl
rows_settled known now items (x ∷ xs) knows = λ i.
    (ap (λ direct. row_of (settled meaning x.it direct now)) (knows x.it.wanted) ∙ sym (settle_moves x.it items now))
    i ∷ rows_settled known now items xs knows i
