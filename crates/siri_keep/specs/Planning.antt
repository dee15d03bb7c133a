-- Inner words: cited by private functions alone.
-- What is planned before it is written.
use Rattle.std.specs.Prelude.{◌≡◌, ◌≤◌, ℕ, List, Some, ◌∷◌, ◌++◌, length, map, false, Result, Ok, OnErr, OnOk}
use Rattle.siri_model.specs.Held.{held_of}
use Rattle.siri_model.specs.History.{History}
use Rattle.siri_producer.specs.Known.{Known, SameButReads, StandsFor}
use Rattle.siri_records.specs.declared.key.Key.{Key}
use Rattle.siri_records.specs.Keyed.{Items, apply}
use Rattle.siri_tables.specs.Proper.{IsNumber}
use Rattle.siri_row_texts.specs.ItemRows.{moment_row}
use Rattle.siri_row_texts.specs.Reading.{began_of_row}
use Rattle.siri_outside.specs.declared.rows.Put.{Put}
use Rattle.siri_outside.specs.Rows.{Rows, with_puts}
use Rattle.siri_outside.specs.Shelves.{ShelfState}
use Rattle.siri_keeping.specs.Keeping.{AddsOnly, changes_to, moment_put, places_to, puts_to, subscription_puts}
use Rattle.siri_keeping.specs.Opening.{SaysKept, Said, WhatIsKept, reopened, said}
use Rattle.siri_subs.specs.Table.{most_subscriptions}
use Rattle.siri_keep.specs.declared.errors.KeepError.{KeepError}
use Rattle.siri_keep.specs.declared.kept.Kept.{Kept}
use Rattle.siri_keep.specs.declared.opening.WhatIsRead.{WhatIsRead}
use Rattle.siri_keep.specs.declared.reopening.ReopenedProducer.{ReopenedProducer}
use Rattle.siri_keep.specs.Calls.{FollowsOn, Holds, IsEarlier, StandsOn}
use Rattle.siri_keep.specs.Walking.{IsRead}

-- puts were written, all of them or none
pub record WritesAll {T : Type 0} (puts : List Put) (old new : ShelfState) (result : Result T KeepError) : Type 0 where
  pub ok : OnOk result (new.rows ≡ with_puts old.rows puts)
  pub stays : OnErr result (new.rows ≡ old.rows)
  pub trail : AddsOnly (λ rows. rows ≡ old.rows) (λ rows. rows ≡ with_puts old.rows puts) old new

-- the row of a moment is read back, where the start is from 1 on and a number
abbrev pub ReadsMoment : (moment start : ℕ) (name : List ℕ) → Type 0
ReadsMoment moment start name =
    1 ≤ start → IsNumber start
    → began_of_row (moment_row moment start name) ≡ Some (record { moment = moment; start = start; name = name })

-- puts make the rows that a producer left into those that it leaves after these steps
pub record Plans (old new : Kept) (steps : History) (puts : List Put) : Type 0 where
  pub name : new.producer.responder.name ≡ old.producer.responder.name
  pub stands : StandsOn old.producer new.producer steps
  pub follows : FollowsOn old.producer new.producer steps
  pub holds : (rows : Rows) (h : History) → Holds old rows h → Holds new (with_puts rows puts) (h ++ steps)

-- for each of these keys, its row was put, and what is kept of it is its item among the live ones, or nothing
pub record PutsKeys (live : Items) (old new : Kept) (before after : List Put) (keys : List Key) : Type 0 where
  pub puts : after ≡ before ++ puts_to live keys
  pub mirror : new.mirror ≡ apply old.mirror (changes_to live keys)
  pub producer : SameButReads old.producer new.producer
  pub places : new.places ≡ old.places
  pub is_closed : new.is_closed ≡ old.is_closed

-- ---- opening

-- whatever history a producer stood for before, it stands for that history and these steps after it
abbrev pub GoesOnBy : Known → Known → History → Type 0
GoesOnBy old new steps = (h : History) → StandsFor old h → StandsFor new (h ++ steps)

-- a producer begins over rows of these items and these places: the row of its moment is put, and all rows of its subscriptions
pub record Begins (producer : Known) (mirror : Items) (places : List (List ℕ)) (opened : ReopenedProducer) : Type 0 where
  pub puts : opened.puts
      ≡ moment_put producer.responder.moment producer.responder.start producer.responder.name
      ∷ subscription_puts places (map held_of producer.table)
  pub read : ReadsMoment producer.responder.moment producer.responder.start producer.responder.name
  pub few : length producer.table ≤ most_subscriptions
  pub producer_is : opened.kept.producer ≡ producer
  pub mirror_is : opened.kept.mirror ≡ mirror
  pub places_are : opened.kept.places ≡ places_to (length producer.table)
  pub is_open : opened.kept.is_closed ≡ false

-- with its puts made, rows keep a history of a producer of this name, which stands for it
pub record Opens (name : List ℕ) (h : History) (rows : Rows) (opened : ReopenedProducer) : Type 0 where
  pub name_is : opened.kept.producer.responder.name ≡ name
  pub holds : Holds opened.kept (with_puts rows opened.puts) h
  pub is_open : opened.kept.is_closed ≡ false

-- the same of the history that rows make, whatever rows these are that were read
abbrev pub OpensRead : (name : List ℕ) → (start now : ℕ) → WhatIsRead → ReopenedProducer → Type 0
OpensRead name start now read opened =
    (rows : Rows) (what : WhatIsKept) → said rows ≡ Ok (SaysKept what) → IsRead rows what read
    → Opens name (reopened start now (SaysKept what)) rows opened

-- what rows say is of this name and of an earlier start, and with the puts made they keep the history that they make
pub record PlansOpening (name : List ℕ) (start now : ℕ) (rows : Rows) (opened : ReopenedProducer) : Type 0 where
  pub what : Said
  pub says : said rows ≡ Ok what
  pub earlier : IsEarlier name start what
  pub opens : Opens name (reopened start now what) rows opened
