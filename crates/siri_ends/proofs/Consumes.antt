-- A consumer as an end: it stands for itself alone.
use Rattle.std.proofs.Common.{◌≡◌, List, Option, Some, refl, sym, ap, ◌∙◌, subst}
use Rattle.siri_http.specs.declared.asked.Asked.{Asked}
use Rattle.siri_messages.specs.declared.message.Message.{Message}
use Rattle.siri_view.specs.Consuming.{Consuming, after_message, seen_of}
use Rattle.siri_ends.specs.declared.response.Response.{Response}
use Rattle.siri_ends.specs.At.{At, Goes, stood_for}
use Rattle.siri_ends.specs.Consuming.{consuming}
use Rattle.siri_ends.specs.EndCalls.{Hears, Turned}

-- it keeps nothing
abbrev identity : Consuming → Unit {0}
identity consumer = tt

abbrev stands : Consuming → Consuming → Type 0
stands consumer state = state ≡ consumer

-- a message was taken, where there is one, and the first reply is the answer
pub took : (old new : Consuming) (asked : Asked) (list : List Message) (reply : Option Response)
    → new ≡ consuming.after old asked → reply ≡ consuming.responds old asked → list ≡ consuming.sends old asked
    → Turned identity stands (λ nothing. consuming) (λ nothing made state response. response ≡ made) asked list reply old new
took old new asked list reply is made sends = record {
  keeps = refl;
  stands_for = λ s so. ap (λ c. consuming.after c asked) so ∙ sym is;
  messages_are = λ s so. sends ∙ ap (λ c. consuming.sends c asked) (sym so);
  reply_is = λ s so. ap (λ c. consuming.responds c asked) so ∙ sym made;
}

-- a message that was answered was taken
pub heard : (old new : Consuming) (sent message : Message) (more : List Message) → new ≡ after_message old message
    → more ≡ (seen_of old message).replies
    → Hears {Beside = Unit {0}} identity stands (λ consumer beside state. Unit {0}) (λ nothing. consuming) sent (Some message) more old new
heard old new sent message more is replies = record {
  keeps = refl;
  stands_for = λ s so. ap (λ c. after_message c message) so ∙ sym is;
  holds_for = λ beside s so holds. tt;
  more_are = λ s so. replies ∙ ap (λ c. (seen_of c message).replies) (sym so);
}

-- what a call does of whatever it stands for, it does of itself
pub itself : (Does And : At Consuming → At Consuming → Type 0) (old new : At Consuming)
    → Goes identity stands (λ nothing at end. Does at end × And at end) old new → Does old new
itself Does And old new goes =
    let one = goes.goes old.state refl in
    subst (λ s. Does old (stood_for new s)) one.1 one.2.0
