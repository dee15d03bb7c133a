-- Inner words: how far a message was read.
use Rattle.std.specs.Prelude.{◌≡◌, ⊤, ℕ, ◌-◌, ◌≤◌, ◌<◌, false, MatchBool, nat_le, nat_lt, List, [], ◌++◌, length, take, Option, None, Some}
use Rattle.std.specs.Prelude.{Result, if◌then◌else◌}
use Rattle.siri_outside.specs.Failures.{Passes}
use Rattle.siri_outside.specs.MetFailures.{Meets}
use Rattle.siri_outside.specs.Wires.{Present}
use Rattle.siri_http.specs.declared.errors.HttpError.{HttpError}
use Rattle.siri_http.specs.declared.errors.HttpError.TheVariants as http
use Rattle.siri_http.specs.declared.scan.HeadText.{HeadText}
use Rattle.siri_http.specs.Heads.{head_text}
use Rattle.siri_http.specs.Connections.{readable, cut_of}
use Rattle.siri_http.specs.Messages.{Head, UnlessMemory, is_memory, is_cut, is_read_fault, text_says}
use Rattle.siri_http.specs.inner.Scanning.{head_from, fresh}

-- these bytes were taken from a connection
pub record TakesInput (bytes : List ℕ) (before after : Present) : Type 0 where
  pub input : before.left.input ≡ bytes ++ after.left.input
  pub fails : Passes before.left.read_fails after.left.read_fails (length bytes)
  pub unwritten : after.left.write_fails ≡ before.left.write_fails
  pub written : after.written ≡ before.written

-- these bytes were taken, and no more can be read
pub record Stops (bytes : List ℕ) (cut : HttpError) (before after : Present) : Type 0 where
  pub input : before.left.input ≡ bytes ++ after.left.input
  pub fails : Meets (is_read_fault cut) before.left.read_fails after.left.read_fails (length bytes)
  pub readable_is : readable before.left ≡ bytes
  pub cut_is : cut_of before.left ≡ cut
  pub known : is_memory cut ≡ false
  pub unwritten : after.left.write_fails ≡ before.left.write_fails
  pub written : after.written ≡ before.written

-- the input has no head text, for this reason; some bytes of it were taken
pub record HasNoHead (e : HttpError) (before after : Present) : Type 0 where
  pub taken : List ℕ
  pub input : before.left.input ≡ taken ++ after.left.input
  pub fails : Meets (is_read_fault e) before.left.read_fails after.left.read_fails (length taken)
  pub reach : MatchBool (is_cut e) (taken ≡ readable before.left) (length taken ≤ 16384)
  pub needed : MatchBool (is_memory e) ⊤ (MatchBool (is_cut e) ⊤ (16384 ≤ length taken))
  pub unwritten : after.left.write_fails ≡ before.left.write_fails
  pub written : after.written ≡ before.written
  pub none : MatchBool (is_memory e) ⊤ (head_text (readable before.left) ≡ None)
  pub reason : MatchBool (is_memory e) ⊤ (e ≡ (if nat_le 16384 (length (readable before.left)) then http.HeadTooLong else cut_of before.left))

-- the bytes have this head text, whatever follows
pub record HasHead (bytes : List ℕ) (text : HeadText) : Type 0 where
  pub bound : length bytes ≤ 16384
  pub within : text.len ≤ length bytes
  pub found : (rest : List ℕ) → head_from fresh (bytes ++ rest) ≡ Some text

-- a head text is a head that says so
pub record SaysSo {T : Type 0} (Says : List ℕ → Option (Head T) → Type 0) (text : List ℕ) (full : ℕ) (result : Result (T × ℕ) HttpError) : Type 0 where
  pub head : Option (Head T)
  pub says : UnlessMemory result (MatchBool (nat_lt 65 full) ⊤ (Says text head))
  pub result_is : UnlessMemory result (result ≡ text_says full head)

-- the body didn't come whole: fewer bytes than these came, or there was no memory for it
abbrev pub LacksBody : ℕ → HttpError → Present → Present → Type 0
LacksBody room e before after =
    MatchBool (is_memory e) (TakesInput [] before after) ((bytes : List ℕ) × Stops bytes e before after × (length bytes < room))

-- the body: what came of it with the head, and just as many bytes as it has beyond that
pub record HasBody (came : List ℕ) (count : ℕ) (body : List ℕ) (before after : Present) : Type 0 where
  pub more : List ℕ
  pub takes : TakesInput more before after
  pub exact : length more ≡ count - length came
  pub body_is : body ≡ take count (came ++ more)
