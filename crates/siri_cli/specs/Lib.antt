-- In order of reading: the forms of arguments; the words of the command line; the statuses of a run. The words in `inner` are
-- cited by private functions alone.
pub mod Arguments
pub mod Commands
pub mod Keeping
pub mod Run
pub mod RunDoes
pub mod inner
