-- What is lent of a table.
use Rattle.std.specs.Option.{option_copied}
use Rattle.siri_subs.specs.declared.entry.Entry.{Entry}
use Rattle.siri_subs.specs.declared.entry.Row.{Row}

-- a lent entry is what is held
abbrev pub entry_of : {E : Type 0} → Entry E → Row E
entry_of e = record {
  wanted = e.wanted.now;
  number = e.number;
  base = e.base;
  address = option_copied e.address;
  beat = e.beat;
  slot = e.slot.now;
}
