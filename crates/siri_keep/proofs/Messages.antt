-- What a message leaves of what is kept of subscriptions.
use Rattle.std.proofs.Common.{◌≡◌, ◌≤◌, ℕ, List, [], ◌∷◌, map, Bool, true, false, cond, Option, None, Some, refl, sym, subst, arith}
use Rattle.std.specs.Prelude.{length, nat_lt, ◌==◌}
use Rattle.std.specs.List.{AllByRecursion as All, list_any}
use Rattle.std.specs.Cmp.Lexicographic.{bytes_decides}
use Rattle.std.proofs.lemmas.Bool.Decides.{nat_tests}
use Rattle.std.proofs.lemmas.Bool.{and_parts, eqb-true, ltb-false, ltb-true, or_parts}
use Rattle.siri_json.specs.Tree.{longest_document}
use Rattle.siri_tables.specs.Proper.{IsName, IsNumber}
use Rattle.siri_messages.specs.Asked.{AskedFor, asked_in}
use Rattle.siri_messages.specs.declared.message.Message.{Message}
use Rattle.siri_messages.specs.declared.message.Message.TheVariants as message
use Rattle.siri_messages.specs.declared.supplies.DataSupplyRequest.{DataSupplyRequest}
use Rattle.siri_messages.specs.declared.supplies.Mark.{Mark}
use Rattle.siri_subs.specs.declared.entry.Row.{Row}
use Rattle.siri_subs.specs.Table.{is_of, is_renumbered_by}
use Rattle.siri_model.specs.Held.{Held, held_of}
use Rattle.siri_model.specs.History.{entries_fed}
use Rattle.siri_life.specs.Slot.{with_acknowledgement, with_supply}
use Rattle.siri_model.specs.Lives.{mark_of}
use Rattle.siri_model.specs.Rows.{KeptLife, acknowledged_row, asked_of, is_numbered, new_row, nothing_kept, renewed_row, rows_acknowledged}
use Rattle.siri_model.specs.Rows.{rows_supplied, rows_taken, supplied_row, with_row_of, with_rounds}
use Rattle.siri_row_texts.specs.SubscriptionRows.{renewal_of, renewal_text, request_of, request_text}
use Rattle.siri_row_texts.specs.Reading.{renewal_of_row, request_of_row}
use Rattle.siri_row_texts.proofs.Asked.{each_alone}
use Rattle.siri_row_texts.proofs.Requests.{renewal_row_read, request_row_read}
use Rattle.siri_wire.specs.laws.ProperMessages.{IsProper}
use Rattle.siri_keep.specs.Puts.{changes_rows, has_long_row, is_long}
use Rattle.siri_keep.proofs.Alls.{accepted_each, all_mapped, all_unmapped, ended_each}

-- ---- messages that change nothing that is kept

held_if : (b : Bool) (x y : Row KeptLife) → held_of x ≡ held_of y → held_of (cond b x y) ≡ held_of y
held_if true x y e = e
held_if false x y e = refl

helds_changed : (subscriber identifier : List ℕ) (change : Row KeptLife → Row KeptLife)
    → ((row : Row KeptLife) → held_of (change row) ≡ held_of row) → (rows : List (Row KeptLife))
    → map held_of (with_row_of subscriber identifier change rows) ≡ map held_of rows
helds_changed s i change same [] = refl
helds_changed s i change same (row ∷ rows) =
    λ k. held_if (is_of s i row) (change row) row (same row) k ∷ helds_changed s i change same rows k

helds_acknowledged : (start now : ℕ) (status : Bool) (consumer : Option (List ℕ)) (mark : Option Mark) (rows : List (Row KeptLife))
    → map held_of (rows_acknowledged start now status consumer mark rows) ≡ map held_of rows
helds_acknowledged start now true (Some c) (Some m) rows =
    helds_changed c m.subscription (acknowledged_row start now (mark_of m))
    (λ row. held_if (is_numbered (mark_of m) row.number start)
    (with_rounds row (with_acknowledgement row.slot.rounds m.round m.part now)) row refl) rows
helds_acknowledged start now true (Some c) None rows = refl
helds_acknowledged start now true None mark rows = refl
helds_acknowledged start now false consumer mark rows = refl

helds_supplied : (start now : ℕ) (all_data : Bool) (consumer : List ℕ) (mark : Mark) (rows : List (Row KeptLife)) → all_data ≡ false
    → map held_of (rows_supplied start now all_data consumer mark rows) ≡ map held_of rows
helds_supplied start now true consumer mark rows none = cc
helds_supplied start now false consumer mark rows none =
    helds_changed consumer mark.subscription (supplied_row start now (mark_of mark))
    (λ row. held_if (is_numbered (mark_of mark) row.number start)
    (with_rounds row (with_supply row.slot.rounds mark.round mark.part now)) row refl) rows

pub helds_ignored : (start now : ℕ) (m : Message) (rows : List (Row KeptLife)) → changes_rows m ≡ false
    → map held_of (rows_taken start now m rows) ≡ map held_of rows
unfolding rows_taken
helds_ignored start now (message.ServiceRequest r) rows none = refl
helds_ignored start now (message.ServiceDelivery d) rows none = refl
helds_ignored start now (message.SubscriptionRequest r) rows none = cc
helds_ignored start now (message.SubscriptionResponse r) rows none = refl
helds_ignored start now (message.TerminateSubscriptionRequest r) rows none = cc
helds_ignored start now (message.TerminateSubscriptionResponse r) rows none = refl
helds_ignored start now (message.DataReadyNotification r) rows none = refl
helds_ignored start now (message.DataReadyAcknowledgement r) rows none = refl
helds_ignored start now (message.DataSupplyRequest r) rows none = helds_supplied start now r.all_data r.consumer_ref r.extensions rows none
helds_ignored start now (message.DataReceivedAcknowledgement a) rows none =
    helds_acknowledged start now a.status a.consumer_ref a.extensions rows
helds_ignored start now (message.CheckStatusRequest r) rows none = refl
helds_ignored start now (message.CheckStatusResponse r) rows none = refl
helds_ignored start now (message.HeartbeatNotification r) rows none = refl

-- ---- rows that are read back

-- what is kept of a subscription is read back
pub record Reads (s : Held) : Type 0 where
  pub request : request_of_row (request_text s.asked s.base) ≡ Some (message.SubscriptionRequest (request_of s.asked s.base))
  pub renewal : (text : List ℕ) → renewal_text s.asked.subscription s.number s.base ≡ Some text
      → renewal_of_row s.asked.subscription s.base text ≡ Some (message.DataSupplyRequest (renewal_of s.asked.subscription s.number s.base))
  pub based : s.base ≤ s.number

abbrev pub ReadsRow : Row KeptLife → Type 0
ReadsRow row = Reads (held_of row)

is_itself : (n : ℕ) → (n == n) ≡ true
is_itself n = grind (arith, nat_tests)

none_at : (b : Bool) (x : Option (List ℕ)) (text : List ℕ) → b ≡ true → cond b None x ≡ Some text → ⊥
none_at true x text is e = cc
none_at false x text is e = cc

-- one under the number that it was asked for with
new_reads : (now number : ℕ) (asked : AskedFor)
    → request_of_row (request_text asked number) ≡ Some (message.SubscriptionRequest (request_of asked number))
    → ReadsRow (new_row now number asked)
new_reads now number asked is = record {
  request = is;
  renewal = λ text e. absurd (none_at (number == number) _ text (is_itself number) e);
  based = omega arith;
}

pub short_at : (text : List ℕ) → is_long text ≡ false → length text ≤ longest_document
short_at text short = by (nat_lt longest_document (length text)) refl short
  where
    by : (b : Bool) → nat_lt longest_document (length text) ≡ b → b ≡ false → length text ≤ longest_document
    by true e h = cc
    by false e h = ltb-false longest_document (length text) e

-- those of a proper request, of which no row is too long
asked_reads : (now number : ℕ) (asked : List AskedFor) → All (λ a. IsProper (message.SubscriptionRequest (request_of a number))) asked
    → list_any (λ a. is_long (request_text a number)) asked ≡ false
    → All (λ a. ReadsRow (new_row now number a)) asked
asked_reads now number [] proper short = tt
asked_reads now number (a ∷ asked) proper short =
    let both = or_parts (is_long (request_text a number)) (list_any (λ a. is_long (request_text a number)) asked) short in (
      new_reads now number a (request_row_read a number proper.0 (short_at (request_text a number) both.0)),
      asked_reads now number asked proper.1 both.1,
    )

-- one under another number, above the one that it has
module _ (now : ℕ) (r : DataSupplyRequest) (proper : IsProper (message.DataSupplyRequest r)) where
  abbrev number : ℕ
  number = r.extensions.number

  abbrev base : ℕ
  base = r.extensions.round

  number_reads : (row : Row KeptLife) → is_of r.consumer_ref r.extensions.subscription row ≡ true
      → is_renumbered_by number base row ≡ true → ReadsRow row
      → ReadsRow (record row { number = number; slot = nothing_kept now (asked_of row) })
  number_reads row of_it above reads =
      let names = and_parts _ _ of_it in
      let subscriber : row.wanted.subscriber ≡ r.consumer_ref = (bytes_decides row.wanted.subscriber r.consumer_ref).0 names.0 in
      let identifier : row.wanted.identifier ≡ r.extensions.subscription =
      (bytes_decides row.wanted.identifier r.extensions.subscription).0 names.1 in
      let parts = and_parts _ _ above in
      let is_base : row.base ≡ base = eqb-true row.base base parts.0 in
      let less = ltb-true row.number number parts.1 in
      let after : row.base ≤ number = omega (arith, less, reads.based) in
      record {
        request = reads.request;
        renewal = λ text e. renewal_row_read row.wanted number row.base after
            (subst IsName (sym subscriber) proper.1.0) (subst IsName (sym identifier) proper.1.1.1.0.0)
            proper.1.1.1.0.1.0 (subst IsNumber (sym is_base) proper.1.1.1.0.1.1.1.0) text e;
        based = after;
      }

  renewed_at : (b : Bool) (row : Row KeptLife) → is_of r.consumer_ref r.extensions.subscription row ≡ true
      → is_renumbered_by number base row ≡ b → ReadsRow row
      → ReadsRow (cond b (record row { number = number; slot = nothing_kept now (asked_of row) }) row)
  renewed_at true row of_it above reads = number_reads row of_it above reads
  renewed_at false row of_it above reads = reads

  changed_at : (b : Bool) (row : Row KeptLife) → is_of r.consumer_ref r.extensions.subscription row ≡ b → ReadsRow row
      → ReadsRow (cond b (renewed_row now number base row) row)
  changed_at true row of_it reads = renewed_at (is_renumbered_by number base row) row of_it refl reads
  changed_at false row of_it reads = reads

  renewed_reads : (rows : List (Row KeptLife)) → All ReadsRow rows
      → All ReadsRow (with_row_of r.consumer_ref r.extensions.subscription (renewed_row now number base) rows)
  renewed_reads [] all = all
  renewed_reads (row ∷ rows) all = (
    changed_at (is_of r.consumer_ref r.extensions.subscription row) row refl all.0,
    renewed_reads rows all.1,
  )

reads_ignored : (P : Held → Type 0) (rows after : List (Row KeptLife)) → map held_of after ≡ map held_of rows
    → All (λ row. P (held_of row)) rows → All (λ row. P (held_of row)) after
reads_ignored P rows after same all =
    all_unmapped P held_of after (subst (All P) (sym same) (all_mapped P held_of rows all))

supplied_reads : (start now : ℕ) (r : DataSupplyRequest) (rows : List (Row KeptLife)) → IsProper (message.DataSupplyRequest r)
    → All ReadsRow rows → All ReadsRow (rows_supplied start now r.all_data r.consumer_ref r.extensions rows)
supplied_reads start now r rows proper all = by r.all_data refl
  where
    by : (b : Bool) → r.all_data ≡ b → All ReadsRow (rows_supplied start now b r.consumer_ref r.extensions rows)
    by true is = renewed_reads now r proper rows all
    by false is = reads_ignored Reads rows (rows_supplied start now false r.consumer_ref r.extensions rows)
        (helds_supplied start now false r.consumer_ref r.extensions rows refl) all

-- whatever message is taken: the rows of all that are held then are read back
pub reads_taken : (start now : ℕ) (m : Message) (rows : List (Row KeptLife)) → IsProper m → has_long_row m ≡ false
    → entries_fed m ≡ [] → All ReadsRow rows → All ReadsRow (rows_taken start now m rows)
unfolding rows_taken
reads_taken start now (message.SubscriptionRequest r) rows proper short none all =
    accepted_each ReadsRow now (new_row now r.message_identifier) (asked_in r) rows
    (asked_reads now r.message_identifier (asked_in r) (each_alone r proper) short) all
reads_taken start now (message.TerminateSubscriptionRequest r) rows proper short none all =
    ended_each ReadsRow r.message_identifier r.subscriber_ref r.subscription_ref rows all
reads_taken start now (message.DataSupplyRequest r) rows proper short none all = supplied_reads start now r rows proper all
reads_taken start now (message.ServiceRequest r) rows proper short none all = all
reads_taken start now (message.ServiceDelivery d) rows proper short none all = all
reads_taken start now (message.SubscriptionResponse r) rows proper short none all = all
reads_taken start now (message.TerminateSubscriptionResponse r) rows proper short none all = all
reads_taken start now (message.DataReadyNotification r) rows proper short none all = all
reads_taken start now (message.DataReadyAcknowledgement r) rows proper short none all = all
reads_taken start now (message.DataReceivedAcknowledgement a) rows proper short none all =
    reads_ignored Reads rows (rows_acknowledged start now a.status a.consumer_ref a.extensions rows)
    (helds_acknowledged start now a.status a.consumer_ref a.extensions rows) all
reads_taken start now (message.CheckStatusRequest r) rows proper short none all = all
reads_taken start now (message.CheckStatusResponse r) rows proper short none all = all
reads_taken start now (message.HeartbeatNotification r) rows proper short none all = all
