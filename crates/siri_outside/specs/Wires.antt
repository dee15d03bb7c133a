-- Connections: what a wire that tells what it holds does.
use Rattle.siri_outside.specs.Failures.{IsDue, after_call, ReadMeets, WriteMeets}
use Rattle.siri_outside.specs.OutsideCalls.{WhereTold}
use Rattle.siri_outside.specs.declared.errors.OutsideError.{OutsideError}
use Rattle.siri_outside.specs.declared.errors.OutsideError.TheVariants as outside
use Rattle.std.specs.Borrow.{Bor}
use Rattle.std.specs.Prelude.{◌≡◌, ◌⊎◌, ℕ, List, [], ◌∷◌, ◌++◌, length, map, option_to_list, option_map, Option, None, Some, Result, Ok, Err}
use Rattle.std.specs.Io.KnownBytes.{ReadConsumes, WriteAppends}

-- a connection: the bytes that come by it, and its failures of reading and of writing, each by how many bytes pass before it
pub record Connection : Type 0 where
  pub input : List ℕ
  pub read_fails : List ℕ
  pub write_fails : List ℕ

-- the connection that is there: what is left of it, and what was written to it
pub record Present : Type 0 where
  pub left : Connection
  pub written : List ℕ

-- how a connection ended: it was hung up, or one that was accepted or dialled took its place
pub data Ending : Type 0 where
  HungUp : Ending
  Replaced : Ending

-- a connection that is over: what was written to it, and how it ended
pub record Over : Type 0 where
  pub written : List ℕ
  pub ending : Ending

-- What a wire tells: the connections to come and those to be dialled; the one that is there; those that are over, in the order in
-- which they came; the addresses that were listened at and dialled, in order, whether the call failed or not; and the failures of
-- `listen`, `accept` and `dial`, each by how many calls of that name come before it.
pub record WireState : Type 0 where
  pub to_accept : List Connection
  pub to_dial : List Connection
  pub present : Option Present
  pub over : List Over
  pub named : List (List ℕ)
  pub listen_fails : List ℕ
  pub accept_fails : List ℕ
  pub dial_fails : List ℕ

-- a connection that brings these bytes and never fails
abbrev pub unfailing : List ℕ → Connection
unfailing input = record { input = input; read_fails = []; write_fails = [] }

-- connections that bring these bytes and never fail
abbrev pub connections : List (Bor (List ℕ)) → List Connection
connections inputs = map (λ input. unfailing input.now) inputs

-- a wire with these connections to come and to be dialled, that has done nothing yet
abbrev pub new_wire : List (Bor (List ℕ)) → List (Bor (List ℕ)) → WireState
new_wire to_accept to_dial = record {
  to_accept = connections to_accept;
  to_dial = connections to_dial;
  present = None;
  over = [];
  named = [];
  listen_fails = [];
  accept_fails = [];
  dial_fails = [];
}

-- what was written to the connection that is there, where one is
abbrev pub present_text : WireState → List (List ℕ)
present_text wire = option_to_list (option_map (λ present. present.written) wire.present)

-- what was written to the connections that are over, in order
abbrev pub over_texts : WireState → List (List ℕ)
over_texts wire = map (λ over. over.written) wire.over

-- what was written to every connection so far, in order
abbrev pub texts : WireState → List (List ℕ)
texts wire = over_texts wire ++ present_text wire

-- the connections that are over once the one that is there, if any, ended so
abbrev pub over_once : Ending → WireState → List Over
over_once ending wire =
    wire.over ++ option_to_list (option_map (λ present. record { written = present.written; ending = ending }) wire.present)

-- the connection that is there was hung up
abbrev pub hung_up : WireState → WireState
hung_up wire = record wire { present = None; over = over_once HungUp wire }

-- this connection is there, in the place of the one before it
abbrev pub with_connection : Connection → WireState → WireState
with_connection connection wire =
    record wire { present = Some (record { left = connection; written = [] }); over = over_once Replaced wire }

-- a connection that was hung up after this was written to it
abbrev pub hung_up_after : List ℕ → Over
hung_up_after written = record { written = written; ending = HungUp }

-- one more call of `listen` named its address
abbrev pub listened : List ℕ → WireState → WireState
listened address wire =
    record wire { named = wire.named ++ address ∷ []; listen_fails = after_call wire.listen_fails }

-- A call of `listen` fails exactly where a failure is due. Want of memory leaves all as it was, here and below.
abbrev pub Listens : {T : Type 0} → List ℕ → WireState → WireState → Result T OutsideError → Type 0
Listens address old new (Ok done) = (¬ IsDue old.listen_fails) × (new ≡ listened address old)
Listens address old new (Err outside.Failed) = IsDue old.listen_fails × (new ≡ listened address old)
Listens address old new (Err outside.OutOfMemory) = new ≡ old

-- one more call of `accept` came
abbrev pub accept_called : WireState → WireState
accept_called wire = record wire { accept_fails = after_call wire.accept_fails }

-- the first of these connections is there, and the others are to come
abbrev pub TakesComing : List Connection → WireState → WireState → Type 0
TakesComing [] old new = ⊥
TakesComing (first ∷ later) old new = new ≡ with_connection first (record old { to_accept = later })

-- a call of `accept` takes the first connection to come, and fails exactly where a failure is due or none is to come
abbrev pub Accepts : {T : Type 0} → WireState → WireState → Result T OutsideError → Type 0
Accepts old new (Ok done) = (¬ IsDue old.accept_fails) × TakesComing old.to_accept (accept_called old) new
Accepts old new (Err outside.Failed) = (IsDue old.accept_fails ⊎ (old.to_accept ≡ [])) × (new ≡ accept_called old)
Accepts old new (Err outside.OutOfMemory) = new ≡ old

-- one more call of `dial` named its address
abbrev pub dial_called : List ℕ → WireState → WireState
dial_called address wire =
    record wire { named = wire.named ++ address ∷ []; dial_fails = after_call wire.dial_fails }

-- the first of these connections is there, and the others are to be dialled
abbrev pub TakesDialled : List Connection → WireState → WireState → Type 0
TakesDialled [] old new = ⊥
TakesDialled (first ∷ later) old new = new ≡ with_connection first (record old { to_dial = later })

-- a call of `dial` takes the first connection to be dialled, and fails exactly where a failure is due or none is left
abbrev pub Dials : {T : Type 0} → List ℕ → WireState → WireState → Result T OutsideError → Type 0
Dials address old new (Ok done) = (¬ IsDue old.dial_fails) × TakesDialled old.to_dial (dial_called address old) new
Dials address old new (Err outside.Failed) =
    (IsDue old.dial_fails ⊎ (old.to_dial ≡ [])) × (new ≡ dial_called address old)
Dials address old new (Err outside.OutOfMemory) = new ≡ old

-- the next bytes of the connection that is there come, and what is to be written to it stays
pub record TakesBytes {E : Type 0} (old new : Present) (result : Result ℕ E) (buffer : List ℕ) : Type 0 where
  pub bytes : ReadConsumes (Some old.left.input) (Some new.left.input) result buffer
  pub fails : ReadMeets old.left.read_fails new.left.read_fails result (length buffer)
  pub unwritten : new.left.write_fails ≡ old.left.write_fails
  pub written : new.written ≡ old.written

-- a read is of the connection that is there
pub record Reads {E : Type 0} (old new : WireState) (result : Result ℕ E) (buffer : List ℕ) : Type 0 where
  pub present : WhereTold old.present new.present (λ before after. TakesBytes before after result buffer)
  pub rest : new ≡ record old { present = new.present }

-- a front of the piece goes to the connection that is there, and what is to be read of it stays
pub record PutsBytes (old new : Present) (result : Result ℕ OutsideError) (piece : List ℕ) : Type 0 where
  pub bytes : WriteAppends (Some old.written) (Some new.written) result piece
  pub fails : WriteMeets old.left.write_fails new.left.write_fails result (length piece)
  pub unread : new.left.input ≡ old.left.input
  pub read_fails : new.left.read_fails ≡ old.left.read_fails

-- a write is to the connection that is there
pub record Writes (old new : WireState) (result : Result ℕ OutsideError) (piece : List ℕ) : Type 0 where
  pub present : WhereTold old.present new.present (λ before after. PutsBytes before after result piece)
  pub rest : new ≡ record old { present = new.present }
