-- What is read of a connection, written to it, and sent over others takes none of the connections that are still to come.
use Rattle.std.proofs.Common.{◌≡◌, ℕ, Bool, true, false, List, [], ◌∷◌, Option, None, Some, refl, sym, subst}
use Rattle.std.specs.Prelude.{IsSome, IsSomeAnd}
use Rattle.siri_outside.specs.OutsideCalls.{WhereTold}
use Rattle.siri_outside.specs.Wires.{Connection, Present, WireState, hung_up}
use Rattle.siri_http.specs.Connections.{OnConnection}
use Rattle.siri_http.specs.Texts.{request_text}
use Rattle.siri_http.specs.Exchanges.{dialled_of, is_due}
use Rattle.siri_http.specs.Posts.{ByDial, Posts, PostsTo}
use Rattle.siri_http.specs.Responses.{Responded, Responds}
use Rattle.siri_http.specs.declared.posting.Sent.{Sent}
use Rattle.siri_runs.specs.Enough.{HasConnections}
use Rattle.siri_runs.proofs.Enough.{HasAccepted}

-- ---- the connection that is there

still_there : (Does : Present → Present → Type 0) (old new : Option Present) → IsSome old → WhereTold old new Does → IsSome new
still_there Does None new there told = absurd (cc there)
still_there Does (Some old) None there told = absurd told
still_there Does (Some old) (Some new) there told = refl

-- it is read
pub read_only : (Does : Present → Present → Type 0) (n : ℕ) (old new : Option WireState) → IsSomeAnd old (HasAccepted n)
    → OnConnection Does old new → IsSomeAnd new (HasAccepted n)
read_only Does n None new has told = absurd has
read_only Does n (Some old) None has told = absurd told
read_only Does n (Some old) (Some new) has told = record {
  there = still_there Does old.present new.present has.there told.present;
  coming = subst (HasConnections n) (sym told.rest) (record { connections = has.coming.connections; accepts = has.coming.accepts });
}

responded_only : (text : List ℕ) (whole : Bool) (n : ℕ) (present : Option Present) (old new : WireState)
    → IsSome present → HasConnections n old → Responded text whole present old new → HasConnections n new
responded_only text whole n None old new there has responded = absurd (cc there)
responded_only text whole n (Some present) old new there has responded =
    subst (HasConnections n) (sym responded.1) (record { connections = has.connections; accepts = has.accepts })

-- it is answered
pub response_only : (text : List ℕ) (whole : Bool) (n : ℕ) (old new : Option WireState) → IsSomeAnd old (HasAccepted n)
    → WhereTold old new (Responds text (Some whole)) → IsSomeAnd new (HasConnections n)
response_only text whole n None new has told = absurd has
response_only text whole n (Some old) None has told = absurd told
response_only text whole n (Some old) (Some new) has told = responded_only text whole n old.present old new has.there has.coming told

-- it is hung up
pub hung_up_only : (n : ℕ) (old new : Option WireState) → IsSomeAnd old (HasAccepted n)
    → WhereTold old new (λ before after. after ≡ hung_up before) → IsSomeAnd new (HasConnections n)
hung_up_only n None new has told = absurd has
hung_up_only n (Some old) None has told = absurd told
hung_up_only n (Some old) (Some new) has told = subst (HasConnections n) (sym told)
    (record { connections = has.coming.connections; accepts = has.coming.accepts })

-- ---- connections that are dialled

dial_only : (host text : List ℕ) (outcome : Sent) (n : ℕ) (due : Bool) (coming : List Connection) (old new : WireState)
    → HasConnections n old → ByDial host text outcome (dialled_of due coming host old) old new → HasConnections n new
dial_only host text outcome n true coming old new has by = subst (HasConnections n) (sym by.1) (record { connections = has.connections; accepts = has.accepts })
dial_only host text outcome n false [] old new has by = subst (HasConnections n) (sym by.1) (record { connections = has.connections; accepts = has.accepts })
dial_only host text outcome n false (first ∷ later) old new has by =
    subst (HasConnections n) (sym by.1) (record { connections = has.connections; accepts = has.accepts })

-- a request is sent to a host
pub post_only : (host text : List ℕ) (outcome : Sent) (n : ℕ) (old new : Option WireState)
    → IsSomeAnd old (HasConnections n) → WhereTold old new (PostsTo host text (Some outcome))
    → IsSomeAnd new (HasConnections n)
post_only host text outcome n None new has told = absurd has
post_only host text outcome n (Some old) None has told = absurd told
post_only host text outcome n (Some old) (Some new) has told = dial_only host text outcome n (is_due old.dial_fails) old.to_dial old new has told

-- a body is sent to an address, or to none
pub post_to_only : (address : Option (List ℕ × List ℕ)) (body : List ℕ) (outcome : Sent) (n : ℕ)
    (old new : Option WireState) → IsSomeAnd old (HasConnections n)
    → WhereTold old new (Posts address body (Some outcome)) → IsSomeAnd new (HasConnections n)
post_to_only (Some address) body outcome n old new has told = post_only address.0 (request_text address.0 address.1 body) outcome n old new has told
post_to_only None body outcome n None new has told = absurd has
post_to_only None body outcome n (Some old) None has told = absurd told
post_to_only None body outcome n (Some old) (Some new) has told = subst (HasConnections n) (sym told.1) has
