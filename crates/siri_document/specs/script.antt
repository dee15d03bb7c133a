-- In order of reading: which lines are skipped; what was read of a line; the subscription that a line wants; texts with spaces between
-- them; the line of a view; the line of an item.
pub mod Lines
pub mod Reads
pub mod Wanted
pub mod Spaced
pub mod ViewLines
pub mod Items
