-- An exchange over a connection that is dialled: a request goes out, and something is told of its response (RFC 9112).
use Rattle.std.specs.Prelude.{◌≡◌, ◌⊎◌, ⊤, ℕ, Bool, true, false, ◌==◌, List, [], ◌∷◌, Option, None, Some, Result}
use Rattle.siri_outside.specs.Wires.{Connection, Present, WireState, dial_called, with_connection}
use Rattle.siri_http.specs.declared.errors.HttpError.{HttpError}
use Rattle.siri_http.specs.Connections.{OnPresent}
use Rattle.siri_http.specs.Messages.{IsResponse, Brings}
use Rattle.siri_http.specs.Responses.{WroteFront, is_whole, over_after, over_with}

-- ---- a dial

-- the next failure is due
abbrev pub is_due : List ℕ → Bool
is_due [] = false
is_due (before ∷ later) = before == 0

-- the first of these connections is there, where the dial doesn't fail
abbrev pub dialled_of : Bool → List Connection → List ℕ → WireState → Option WireState
dialled_of true coming host wire = None
dialled_of false [] host wire = None
dialled_of false (first ∷ later) host wire = Some (with_connection first (record (dial_called host wire) { to_dial = later }))

-- the wire after a dial that doesn't fail: one fails where a failure is due or no connection is left to be dialled
abbrev pub dialled : List ℕ → WireState → Option WireState
dialled host wire = dialled_of (is_due wire.dial_fails) wire.to_dial host wire

-- a connection was dialled, and there was no memory for what was to come over it
pub record StopsThere (host text : List ℕ) (old new : WireState) : Type 0 where
  pub there : WireState
  pub dialled_is : dialled host old ≡ Some there
  pub wrote : OnPresent (WroteFront text) there new

-- ---- a request and its response

-- a response, as it was read: its status and its body; or why there is none
abbrev pub Response : Type 0
Response = Result (ℕ × List ℕ) HttpError

-- by what is told of a response, where there was memory for it, and what is told where the wire failed
module _ {T : Type 0} (told_of : Response → Option T) (failed : T) where
  -- what a connection answers: the response that it brings says what is told
  pub record Answers (connection : Connection) (told : T) : Type 0 where
    pub response : Response
    pub brings : Brings IsResponse connection response
    pub told_is : told_of response ≡ Some told

  -- a request that wasn't written whole has failed, and its response isn't read
  abbrev pub AnswersIf : Bool → Connection → T → Type 0
  AnswersIf true connection told = Answers connection told
  AnswersIf false connection told = told ≡ failed

  -- the response of the connection that was there was read, and it is over
  abbrev pub Heard : T → Option Present → WireState → WireState → Type 0
  Heard told None old new = ⊤
  Heard told (Some present) old new = Answers present.left told × (new ≡ over_with present [] old)

  -- after want of memory nothing more was written
  abbrev pub Hears : Option T → WireState → WireState → Type 0
  Hears None old new = OnPresent (WroteFront []) old new
  Hears (Some told) old new = Heard told old.present old new

  -- a request went to the connection that was there, its response was read where it went whole, and the connection is over
  abbrev pub Talked : List ℕ → T → Option Present → WireState → WireState → Type 0
  Talked text told None old new = ⊤
  Talked text told (Some present) old new =
      AnswersIf (is_whole present.left.write_fails text) present.left told × (new ≡ over_after present text old)

  -- after want of memory the connection is there, with a front of the request
  abbrev pub Talks : List ℕ → Option T → WireState → WireState → Type 0
  Talks text None old new = OnPresent (WroteFront text) old new
  Talks text (Some told) old new = Talked text told old.present old new

  -- a dial that fails, or the connection that is there
  abbrev pub ByDial : List ℕ → List ℕ → T → Option WireState → WireState → WireState → Type 0
  ByDial host text told None old new = (told ≡ failed) × (new ≡ dial_called host old)
  ByDial host text told (Some there) old new = Talked text told there.present there new

  -- One connection to a host is dialled, and what is written to it is a front of the request; the whole of it, where no
  -- failure cuts it. Want of memory leaves the first of these steps.
  abbrev pub Exchanges : List ℕ → List ℕ → Option T → WireState → WireState → Type 0
  Exchanges host text None old new = (new ≡ old) ⊎ StopsThere host text old new
  Exchanges host text (Some told) old new = ByDial host text told (dialled host old) old new
