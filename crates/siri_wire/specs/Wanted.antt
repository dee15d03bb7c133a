-- The subscription that a line of a script asks for: a text with exactly one subscription under the name of its service's list, and
-- with SubscriptionContext or without, read as a SubscriptionRequest of its consumer (EN 15531-2).
use Rattle.std.specs.Prelude.{◌≡◌, ℕ, ℤ, pos, List, [], ◌∷◌, ◌++◌, length, nat_lt, if◌then◌else◌, Option, Some, None, unwrap_or, Result, Ok, Err}
use Rattle.serde_json.specs.Data.{Data, object}
use Rattle.siri_base.specs.declared.reason.Reason.TheVariants.{TooLong, NotJson, WrongKind, NotCarried}
use Rattle.siri_json.specs.Tree.{tree_of, longest_document}
use Rattle.siri_topic.specs.declared.subscription.Subscription.{Subscription}
use Rattle.siri_tables.specs.Refusals.{Refusal, refused}
use Rattle.siri_tables.specs.declared.refusal.TableError.{TableError}
use Rattle.siri_tables.specs.declared.refusal.TableError.TheVariants as tables
use Rattle.siri_wire.specs.Subscriptions.{read_requested_rows}
use Rattle.siri_wire.specs.declared.read_subscriptions.RequestedSubscriptions.{RequestedSubscriptions}
use Rattle.siri_wire.specs.declared.wanted.Wanted.{Wanted}
use Rattle.siri_wire.specs.declared.wanted.WantedError.{WantedError}
use Rattle.siri_wire.specs.declared.wanted.WantedError.TheVariants as errors

-- why a text asks for no subscription: it is refused at a place, or asks for more than one
pub data WantedRefusal : Type 0 where
  refused_at : Refusal → WantedRefusal
  several : WantedRefusal

-- ---- what is requested

-- the text is an object, and no list around one; where an element names no subscriber, its consumer subscribes
unfoldable pub requested_root : List ℕ → Data → Result RequestedSubscriptions Refusal
requested_root subscriber (object ms) = read_requested_rows (Some subscriber) (object ms)
requested_root subscriber other = refused WrongKind

abbrev pub requested_in : List ℕ → Option Data → Result RequestedSubscriptions Refusal
requested_in subscriber None = refused NotJson
requested_in subscriber (Some d) = requested_root subscriber d

-- what a text of at most 8,388,608 bytes requests in its consumer's name, or the first refusal
unfoldable pub requested_of : List ℕ → List ℕ → Result RequestedSubscriptions Refusal
requested_of text subscriber = if nat_lt longest_document (length text) then refused TooLong else requested_in subscriber (tree_of text)

-- ---- exactly one subscription

-- the subscriptions of all services
abbrev pub all_requested : RequestedSubscriptions → List Subscription
all_requested r = r.stops ++ r.timetables ++ r.vehicles ++ r.situations

-- a subscription of its consumer, whoever it names, and its heartbeat, which is zero where none is requested
abbrev pub wanted_by : List ℕ → Option ℤ → Subscription → Wanted
wanted_by subscriber beat s = record { subscription = record s { subscriber = subscriber }; beat = unwrap_or beat (pos 0) }

-- no subscription isn't carried, and of several none is taken
abbrev pub only_wanted : List ℕ → Option ℤ → List Subscription → Result Wanted WantedRefusal
only_wanted subscriber beat [] = Err (refused_at (record { path = []; reason = NotCarried }))
only_wanted subscriber beat (s ∷ []) = Ok (wanted_by subscriber beat s)
only_wanted subscriber beat (s ∷ t ∷ rest) = Err several

abbrev pub wanted_in : List ℕ → Result RequestedSubscriptions Refusal → Result Wanted WantedRefusal
wanted_in subscriber (Ok r) = only_wanted subscriber r.heartbeat_interval (all_requested r)
wanted_in subscriber (Err refusal) = Err (refused_at refusal)

-- the subscription that a text asks for in its consumer's name, or why there is none: what is refused comes before a second one
unfoldable pub wanted_of : List ℕ → List ℕ → Result Wanted WantedRefusal
wanted_of text subscriber = wanted_in subscriber (requested_of text subscriber)

-- ---- what a call gives

-- the same refusal, or no memory
abbrev pub wanted_error : TableError → WantedError
wanted_error tables.OutOfMemory = errors.OutOfMemory
wanted_error (tables.Refused path reason) = errors.Refused (record { path = path; reason = reason })

abbrev pub IsUnwanted : WantedError → Result Wanted WantedRefusal → Type 0
IsUnwanted errors.OutOfMemory read = Unit {0}
IsUnwanted errors.WrongMessage read = read ≡ Err several
IsUnwanted (errors.Refused r) read = read ≡ Err (refused_at (record { path = r.path; reason = r.reason }))

-- what the call returned is what a text asks for, or why there is nothing, unless there was no memory
abbrev pub IsWanted : Result Wanted WantedError → Result Wanted WantedRefusal → Type 0
IsWanted (Ok w) read = read ≡ Ok w
IsWanted (Err e) read = IsUnwanted e read
