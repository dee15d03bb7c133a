-- In order of reading: the head text of an input; how long a body is; what a connection brings, and the messages that it
-- brings; the texts that are written; addresses; when a call may answer that the wire failed. Then one exchange: what is
-- counted; what an accepted connection asks; what is written to it; what comes of a connection that is dialled; a request
-- that is sent, and what is answered; when such a call may answer that the wire failed. The words in `inner` are cited by
-- private functions alone.
pub mod Heads
pub mod Bodies
pub mod Connections
pub mod Messages
pub mod Parts
pub mod Texts
pub mod Addresses
pub mod HttpCauses
pub mod Tallies
pub mod Requests
pub mod Responses
pub mod Exchanges
pub mod Posts
pub mod ExchangeCauses
pub mod inner
