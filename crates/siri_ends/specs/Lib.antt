-- In order of reading: what a connection is answered; an end at a moment of its run; how an end takes part in the exchange, and what
-- it is called for;
-- a connection that is answered; messages that are sent one after the other; a turn, what it hangs up, and the calls of it; a
-- producer and a consumer as ends; what a part of a turn does; answers that are written from what is lent; what a turn looks at. Between them are inner
-- words: where the text of a body goes.
pub mod Responses
pub mod At
pub mod Manners
pub mod Occasions
pub mod Answering
pub mod InTurn
pub mod TurnsTaken
pub mod HangingUp
pub mod EndCalls
pub mod Serving
pub mod Consuming
pub mod Turns
pub mod Sinks
pub mod SinkLaws
pub mod Pieces
pub mod Lending
pub mod Looks
pub mod lite
