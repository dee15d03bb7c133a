-- What is read of a shelf when it is opened.
use Rattle.std.specs.Prelude.{◌≡◌, ⊤, [], map, Option, None, Some, Result, Ok, Err}
use Rattle.siri_records.specs.Keyed.{apply}
use Rattle.siri_records.specs.Keys.{key_of}
use Rattle.siri_model.specs.History.{Observed, entries_of}
use Rattle.siri_outside.specs.Rows.{InOrder, Rows, of_table}
use Rattle.siri_keeping.specs.Opening.{SaysKept, Nothing, WhatIsKept, by_service, live_items, said}
use Rattle.siri_keep.specs.declared.errors.KeepError.{KeepError}
use Rattle.siri_keep.specs.declared.errors.KeepError.TheVariants as errors
use Rattle.siri_keep.specs.declared.opening.WhatIsRead.{WhatIsRead}

-- what was read is what rows say
pub record IsRead (rows : Rows) (what : WhatIsKept) (read : WhatIsRead) : Type 0 where
  pub ordered : InOrder rows
  pub began : read.began ≡ what.began
  pub all : read.items.all ≡ apply [] (map (λ i. (key_of i, Some i)) what.items)
  pub live : entries_of read.items.live ≡ map Observed (by_service (live_items what))
  pub requests : map (λ r. r.request) read.requests ≡ what.requests
  pub places : map (λ r. r.place) read.requests ≡ map (λ row. row.key) (of_table 2 rows)
  pub renewals : read.renewals ≡ what.renewals

-- what all rows say, or the place of the first bad one; want of memory and a failure of the shelf say nothing of rows
abbrev pub SaysAll : Rows → Result (Option WhatIsRead) KeepError → Type 0
SaysAll rows (Ok None) = said rows ≡ Ok Nothing
SaysAll rows (Ok (Some read)) = (what : WhatIsKept) × (said rows ≡ Ok (SaysKept what)) × IsRead rows what read
SaysAll rows (Err (errors.BadRow table key)) = said rows ≡ Err (table, key)
SaysAll rows (Err errors.ShelfFault) = ⊤
SaysAll rows (Err errors.OutOfMemory) = ⊤
SaysAll rows (Err other) = ⊥
