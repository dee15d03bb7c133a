-- In order of reading: what the lines bring, one after the other; what a run leaves in its sink; what one line brings; what a
-- run over lines writes; what a taker stands for in the end, and how far the input is read; why lines are read no
-- further. The words in `inner` are cited by private functions alone.
pub mod RunResult
pub mod Ends
pub mod StatusLines
pub mod Stops
pub mod Brings
pub mod Reports
pub mod Fronts
pub mod Stands
pub mod Pieces
pub mod inner
