-- One turn of a producer over a shelf, as an end of the exchange (EN 15531-2 for what is said, RFC 9112 for how).
use Rattle.std.specs.Prelude.{◌≡◌, ◌⊎◌, ◌*◌, ℕ, List, [], ◌∷◌, ◌++◌, length, slice_get, codes, Bool, false, if◌then◌else◌, Option, None, Some}
use Rattle.siri_outside.specs.OutsideCalls.{WhereTold}
use Rattle.siri_outside.specs.Wires.{Present, WireState, texts}
use Rattle.siri_http.specs.Connections.{OnConnection}
use Rattle.siri_http.specs.Requests.{Asks, post_alone}
use Rattle.siri_http.specs.declared.asked.Asked.{Asked}
use Rattle.siri_messages.specs.declared.message.Message.{Message}
use Rattle.siri_model.specs.History.{Clock, History, Take}
use Rattle.siri_producer.specs.Known.{StandsFor}
use Rattle.siri_producer.specs.Sends.{sends}
use Rattle.siri_subscriptions.specs.declared.outs.Out.{Out}
use Rattle.siri_ends.specs.At.{At, stood_for}
use Rattle.siri_ends.specs.Manners.{Manner}
use Rattle.siri_ends.specs.Occasions.{AfterTurn, Occasion, OfConnection, OfMoment}
use Rattle.siri_ends.specs.Responses.{message_asked, refusing, response_to, taking, turn_steps}
use Rattle.siri_ends.specs.Serving.{PostsOut, serving}
use Rattle.siri_ends.specs.TurnsTaken.{StopsTurn, TakesTurn}
use Rattle.siri_ends.specs.declared.response.Response.{Response}
use Rattle.siri_outside.specs.Rows.{Rows}
use Rattle.siri_outside.specs.Shelves.{ShelfState}
use Rattle.siri_keeping.specs.Keeps.{Keeps}
use Rattle.siri_keep.specs.declared.kept.Kept.{Kept}
use Rattle.siri_keep.specs.Calls.{AddsFronts, Holds, LeavesLive}
use Rattle.siri_keep.specs.Puts.{has_long_row}

-- ---- a message with a row that is too long

abbrev pub is_long_in : Option Message → Bool
is_long_in None = false
is_long_in (Some message) = has_long_row message

-- a connection brings one
abbrev pub has_long_asked : Asked → Bool
has_long_asked asked = is_long_in (message_asked asked)

-- it isn't taken
abbrev pub short_of : Message → Option Message
short_of message = if has_long_row message then None else Some message

-- so what is taken of a connection
abbrev pub message_kept : Asked → Option Message
message_kept asked = if has_long_asked asked then None else message_asked asked

-- and is refused as content that is too large (RFC 9110, section 15.5.14)
abbrev pub row_too_long : Response
row_too_long = refusing 413 (codes "RowTooLong")

-- what a connection is answered
abbrev pub kept_response : (name : List ℕ) → History → Asked → Option Response
kept_response name h asked = if has_long_asked asked then Some row_too_long else response_to name h asked

-- ---- a turn

-- as of a producer without a shelf, but for such messages
abbrev pub keeping : (name : List ℕ) → Manner History Out
keeping name = record (serving name) {
  responds = λ h asked. kept_response name h asked;
  after = λ h asked. h ++ turn_steps (message_kept asked);
  sends = λ h asked. sends name (h ++ taking (message_kept asked));
}

-- what a producer takes where it is called for this
abbrev pub steps_of : Occasion → History
steps_of (OfMoment now) = Clock now ∷ []
steps_of (OfConnection asked) = taking (message_kept asked)
steps_of AfterTurn = []

-- after how many turns of a run the rows of dead items leave
abbrev pub turns_to_clean : ℕ
turns_to_clean = 1000

-- after each 1,000 turns, so many in all, they have left
abbrev pub LeavesLiveAt : Kept → (made : ℕ) → Rows → Rows → Type 0
LeavesLiveAt old made before after = (n : ℕ) → made ≡ n * turns_to_clean → LeavesLive old before after

-- a connection is answered, and what was settled is sent out
abbrev pub ServesKept : (name : List ℕ) → (at end : At History) → Type 0
ServesKept name at end = TakesTurn post_alone PostsOut (keeping name) at end

-- the first steps of that were made
abbrev pub ServesKeptSome : (name : List ℕ) → At History → (after : Option WireState) → Type 0
ServesKeptSome name at after = StopsTurn post_alone PostsOut (keeping name) at after

-- Whatever history the producer stood for, the connection is served by it, and the producer stands for the one that the turn
-- leaves; where the shelf was as the producer left it, it is so again.
pub record GoesOnServing (old new : At Kept) (before after : Option ShelfState) : Type 0 where
  pub name : new.state.producer.responder.name ≡ old.state.producer.responder.name
  pub goes : (h : History) → StandsFor old.state.producer h → (next : History) × StandsFor new.state.producer next
      × ServesKept old.state.producer.responder.name (stood_for old h) (stood_for new next)
      × WhereTold before after (λ s t. Holds old.state s.rows h → Holds new.state t.rows next)

-- Whatever happens in the turn: the shelf stays as it was, or each of the rows that a stop may have left since the turn began,
-- and the present ones, keep the history, with the message of the connection taken after it or not.
abbrev pub AddsTurn : Kept → (wire : Option WireState) → ShelfState → ShelfState → Type 0
AddsTurn old wire before after =
    (after ≡ before)
    ⊎ ((asked : Asked) × (read : Option WireState) × OnConnection (Asks post_alone (Some asked)) wire read
    × AddsFronts old (taking (message_kept asked)) before after)

-- ---- what is answered is kept

-- what was written to the connection that was there begins a response of status 200
pub record AnswersOk (before after : WireState) : Type 0 where
  pub present : Present
  pub was : before.present ≡ Some present
  pub rest : List ℕ
  pub text : slice_get (texts after) (length before.over) ≡ Some (present.written ++ (codes "HTTP/1.1 200" ++ rest))

-- the connection brought a message, and rows keep a history with that message taken after it
pub record KeepsAnswered (name : List ℕ) (wire : WireState) (rows : Rows) (h : History) : Type 0 where
  pub asked : Asked
  pub read : Option WireState
  pub reads : OnConnection (Asks post_alone (Some asked)) (Some wire) read
  pub message : Message
  pub message_is : message_kept asked ≡ Some message
  pub keeps : Keeps name rows (h ++ Take message ∷ [])

-- Whatever the turn comes to, over a wire that tells its bytes: where what was written to its connection begins a response of
-- status 200, the rows keep each history that they kept before, with the message of that connection taken after it.
abbrev pub KeepsWhatIsAnswered : Kept → (from to : Option WireState) → ShelfState → ShelfState → Type 0
KeepsWhatIsAnswered old from to before after =
    (x y : WireState) → from ≡ Some x → to ≡ Some y → AnswersOk x y → (h : History) → Holds old before.rows h
    → KeepsAnswered old.producer.responder.name x after.rows h
