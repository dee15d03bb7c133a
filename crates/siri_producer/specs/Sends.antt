-- What a producer sends at a settle (EN 15531-2, subscriptions and deliveries).
use Rattle.std.specs.Prelude.{ℕ, List}
use Rattle.siri_model.specs.History.{History, now_of, start_of, started_of, current}
use Rattle.siri_model.specs.Lives.{table_of}
use Rattle.siri_model.specs.Rows.{rows_of}
use Rattle.siri_subscriptions.specs.declared.outs.Out.{Out}
use Rattle.siri_subscriptions.specs.Sends.{At, table_sends}

-- a producer of this name after a history
abbrev pub at_of : (name : List ℕ) → History → At
at_of name h = record { producer = name; start = start_of h; started = started_of h; now = now_of h }

-- of each subscription in the order of the table: the message of the wanted part, and then a heartbeat
unfoldable pub sends : (name : List ℕ) → History → List Out
sends name h = table_sends (at_of name h) (current h) (rows_of (table_of h))
