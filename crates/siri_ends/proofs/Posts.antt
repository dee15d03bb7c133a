-- A connection that holds a POST whole is read as that POST.
use Rattle.std.proofs.Common.{◌≡◌, ◌≤◌, ◌+◌, ℕ, Bool, true, false, cond, List, [], ◌∷◌, ◌++◌, Option, None, Some, Result, Ok, Err, codes}
use Rattle.std.proofs.Common.{length, take, drop, take-append-drop, length-drop, length-take-le, refl, sym, ap, ap₂, ◌∙◌, subst, arith}
use Rattle.std.specs.Prelude.{nat_le}
use Rattle.std.proofs.lemmas.Bool.{leb-true}
use Rattle.siri_outside.specs.Failures.{Passes}
use Rattle.siri_outside.specs.Wires.{Connection, Present, WireState, hung_up_after}
use Rattle.siri_http.specs.declared.errors.HttpError.{HttpError}
use Rattle.siri_http.specs.Connections.{cut_of, passing, readable}
use Rattle.siri_http.specs.Heads.{full_lines, head_text}
use Rattle.siri_http.specs.Messages.{Brings, Head, IsRequest, ReadsMessage, RequestLine, end_by, message_after, message_by, message_end, text_says, told_with}
use Rattle.siri_http.specs.Responses.{Responds, is_whole}
use Rattle.siri_http.proofs.Alone.{alone, message_is}
use Rattle.siri_ends.specs.lite.Replacing.{HoldsPost, InPlaceOf}

-- ---- a message that came whole ends within what can be read

abbrev body_of : {T : Type 0} → Result (T × List ℕ) HttpError → List ℕ
body_of (Ok message) = message.1
body_of (Err error) = []

module _ {T : Type 0} (cut : HttpError) (input : List ℕ) (message : T × List ℕ) where
  body_within : (told : T) (len count : ℕ) (t : Bool) → nat_le (len + count) (length input) ≡ t
      → told_with told (cond t (Ok (take count (drop len input))) (Err cut)) ≡ Ok message
      → len + length message.1 ≤ length input
  body_within told len count false e is = absurd (cc is)
  body_within told len count true e is =
      let long : len + count ≤ length input = leb-true (len + count) (length input) e in
      let all : length (take count (drop len input)) ≡ count =
      length-take-le count (drop len input) (omega (arith, long, length-drop len input)) in
      let body : length (take count (drop len input)) ≡ length message.1 = ap (λ r. length (body_of r)) is in
      omega (arith, long, all, body)

  after_within : (len : ℕ) (says : Result (T × ℕ) HttpError) → message_after len says cut input ≡ Ok message
      → len + length message.1 ≤ length input
  after_within len (Err e) is = absurd (cc is)
  after_within len (Ok says) is = body_within says.0 len says.1 (nat_le (len + says.1) (length input)) refl is

  by_within : (head : Option (Head T)) (text : Option (List ℕ)) → message_by text head cut input ≡ Ok message
      → end_by text (Ok message) ≤ length input
  by_within head None is = absurd (cc is)
  by_within head (Some text) is = after_within (length text) (text_says (full_lines text) head) is

pub within : {T : Type 0} (Says : List ℕ → Option (Head T) → Type 0) (connection : Connection) (message : T × List ℕ)
    → Brings Says connection (Ok message) → message_end (Ok message) (readable connection) ≤ length (readable connection)
within Says connection message b =
    let input = readable connection in
    by_within (cut_of connection) input message b.head (head_text input)
    (sym (b.message_is ∙ message_is b.head (cut_of connection) input))

-- ---- it is read up to its end

module _ (target document : List ℕ) (post : Present) (holds : HoldsPost target document post.left) where
  abbrev pub end : ℕ
  end = message_end {T = RequestLine} (Ok ((codes "POST", target), document)) (readable post.left)

  abbrev pub read : Present
  read = record {
    left = record { input = drop end post.left.input; read_fails = []; write_fails = post.left.write_fails };
    written = post.written;
  }

  bare : readable post.left ≡ post.left.input
  bare = ap (λ fails. passing fails post.left.input) holds.unfailing

  taken_all : length (take end post.left.input) ≡ end
  taken_all = length-take-le end post.left.input
      (subst (λ input. end ≤ length input) bare (within IsRequest post.left ((codes "POST", target), document) holds.brings))

  pub post_is_read : ReadsMessage IsRequest (Ok ((codes "POST", target), document)) post read
  post_is_read = record {
    taken = take end post.left.input;
    input = sym (take-append-drop end post.left.input);
    reach = omega (arith, taken_all);
    fails = subst (λ fails. Passes fails [] (length (take end post.left.input))) (sym holds.unfailing) refl;
    unwritten = refl;
    written = refl;
    brings = holds.brings;
    decided = record {
      needed = omega (arith, taken_all);
      alone = λ other same. alone IsRequest post.left (Ok ((codes "POST", target), document)) holds.brings tt other same;
    };
  }

-- ---- what is written to it

pub answered_alike : (wire : WireState) (there other : Present) → InPlaceOf there other → (text : List ℕ) (whole : Bool)
    (next : WireState) → Responds text (Some whole) (record wire { present = Some there }) next
    → Responds text (Some whole) (record wire { present = Some other }) next
answered_alike wire there other same text whole next responds = (
  responds.0 ∙ ap (λ fails. is_whole fails text) (sym same.write_fails),
  responds.1 ∙ ap₂ (λ written fails. record wire { present = None; over = wire.over ++ hung_up_after (written ++ passing fails text) ∷ [] })
      (sym same.written) (sym same.write_fails),
)
