use Rattle.siri_keep.proofs.ReadOn.{whole_told}
use Rattle.siri_keep.proofs.opening.read_all.Goals as goal

pub returns-clause-told : goal.returns-clause-told
returns-clause-told g c =
    whole_told c.in_ok-read.field-0 c.in-Some.read c.read_table.new.read c.read_tables.new.read c.new.result c.in_ok-into_whole.field-0 _ _ _ _
    c.in-Some.is c.new.ensures c.in_ok-into_whole.ensures c.in_ok-read.ensures.told c.in_ok-read_table.ensures.told c.in_ok-read_tables.ensures.told
