-- In order of reading: what calls write; what they do; what is read at opening; one turn, and what it looks at. Then inner words, cited by private
-- functions alone.
pub mod Puts
pub mod Calls
pub mod Walking
pub mod Serving
pub mod Looks
pub mod Planning
pub mod RowByRow
pub mod KeptTurns
