-- The script of a load, which is made as it is played, since what is delivered goes by what was sent: a start, four
-- subscriptions, and then events as they are drawn. What it comes to is one line.
use Rattle.std.specs.Prelude.{ℕ, zero, suc, ◌+◌, ◌==◌, nat_le, nat_lt, Bool, true, false, List, [], ◌∷◌, ◌++◌, length, map, count_by, codes}
use Rattle.std.specs.Prelude.{if◌then◌else◌, Result, Ok, Err}
use Rattle.std.specs.Fmt.{decimal}
use Rattle.siri_base.specs.declared.status.Status.TheVariants as status
use Rattle.siri_lines.specs.RunResult.{RunResult, ends_with}
use Rattle.siri_world_model.specs.declared.event.Event.{Event}
use Rattle.siri_world_model.specs.declared.event.Event.TheVariants as event
use Rattle.siri_world_model.specs.declared.step_error.StepError.{StepError}
use Rattle.siri_world_model.specs.Lines as line
use Rattle.siri_world_model.specs.Lines.{ToldLine}
use Rattle.siri_world_model.specs.World.{World}
use Rattle.siri_world_model.specs.Told.{most_packets, told, world_after}
use Rattle.siri_load.specs.Generator.{next, drawn}
use Rattle.siri_load.specs.Events.{first_moment, later, subscribing, feeding, cancelling, viewing}

-- ---- how far it came

-- the number of the generator, the moment that the clock was last given, the lines made so far, how many packets were
-- looked at in order of number, and how many of these were lost
pub record Progress : Type 0 where
  pub number : ℕ
  pub moment : ℕ
  pub events : List Event
  pub looked : ℕ
  pub lost : ℕ

-- the world of the lines made so far
abbrev pub world_of : Progress → World
world_of progress = world_after progress.events

-- how many packets were sent
abbrev pub sent : Progress → ℕ
sent progress = length (world_of progress).packets

-- before the first line
abbrev pub fresh : (seed : ℕ) → Progress
fresh seed = record { number = seed; moment = first_moment; events = []; looked = 0; lost = 0 }

-- ---- steps, which may end at a limit: an `Err` is the number of the line that passes it

-- how many lines there are at most
abbrev pub most_lines : ℕ
most_lines = 1000000

-- the number of the next line
abbrev pub next_line : Progress → ℕ
next_line progress = length progress.events + 1

abbrev pub and_then : (Progress → Result Progress ℕ) → Result Progress ℕ → Result Progress ℕ
and_then step (Ok progress) = step progress
and_then step (Err n) = Err n

-- steps one after the other
abbrev pub in_turn : List (Progress → Result Progress ℕ) → Progress → Result Progress ℕ
in_turn [] progress = Ok progress
in_turn (step ∷ steps) progress = and_then (in_turn steps) (step progress)

abbrev pub made_if : Result (List ToldLine) StepError → Event → Progress → Result Progress ℕ
made_if (Ok lines) event progress = Ok (record progress { events = progress.events ++ event ∷ [] })
made_if (Err why) event progress = Err (next_line progress)

-- one more line is made, which is this event
unfoldable pub makes : Event → Progress → Result Progress ℕ
makes event progress =
    if nat_le most_lines (length progress.events) then Err (next_line progress)
    else made_if (told (world_of progress) event) event progress

-- ---- packets

-- the next packet is looked at
abbrev pub looks : Progress → Progress
looks progress = record progress { looked = progress.looked + 1 }

-- the next packet is delivered
abbrev pub delivers : Progress → Result Progress ℕ
delivers progress = makes (event.Deliver (progress.looked + 1)) (looks progress)

-- the next packet is lost, which makes no line
abbrev pub loses : Progress → Progress
loses progress = record (looks progress) { lost = progress.lost + 1 }

-- a number is drawn
abbrev pub draws : Progress → Progress
draws progress = record progress { number = next progress.number }

-- the next packet is lost where 0 of 10 is drawn, and else delivered
abbrev pub delivers_or_loses : Progress → Result Progress ℕ
delivers_or_loses progress = let after = draws progress in
    if drawn after.number 10 == 0 then Ok (loses after) else delivers after

-- every new packet is taken in this way, in order of number, until none is left: so many at most
unfoldable pub taken_within : ℕ → (Progress → Result Progress ℕ) → Progress → Result Progress ℕ
taken_within zero takes progress = Ok progress
taken_within (suc more) takes progress =
    if nat_lt progress.looked (sent progress) then and_then (taken_within more takes) (takes progress) else Ok progress

-- every new packet is taken in this way, those that are sent meanwhile too; no more are ever sent than this
abbrev pub takes_all : (Progress → Result Progress ℕ) → Progress → Result Progress ℕ
takes_all takes progress = taken_within most_packets takes progress

-- ---- the script

-- the consumer asks for its subscription of a number, and every packet is delivered
abbrev pub subscribes : ℕ → Progress → Result Progress ℕ
subscribes number progress = and_then (takes_all delivers) (makes (subscribing number) progress)

-- the start and the four subscriptions
abbrev pub opens : Progress → Result Progress ℕ
opens = in_turn (makes (event.Start first_moment) ∷ map subscribes (1 ∷ 2 ∷ 3 ∷ 4 ∷ []))

-- the last moment that the clock was given
abbrev pub at_moment : ℕ → Progress → Result Progress ℕ
at_moment moment progress = Ok (record progress { moment = moment })

-- the clock moves on by a second or more, a minute at most
abbrev pub clocks : Progress → Result Progress ℕ
clocks before = let progress = draws before in let moment = later progress.moment (drawn progress.number 60 + 1) in
    and_then (at_moment moment) (makes (event.Clock moment) progress)

-- a visit is fed, which departs within two hours: its monitoring point, its identifier and its departure are drawn in turn
abbrev pub feeds : Progress → Result Progress ℕ
feeds before = let at = draws before in let known_by = draws at in let progress = draws known_by in
    makes (feeding (drawn at.number 4 + 1) (drawn known_by.number 500) (later progress.moment (drawn progress.number 7200))) progress

-- a visit is cancelled: its monitoring point and its identifier are drawn in turn
abbrev pub cancels : Progress → Result Progress ℕ
cancels before = let at = draws before in let progress = draws at in
    makes (cancelling (drawn at.number 4 + 1) (drawn progress.number 500)) progress

-- what is made, by what is drawn of 10: the clock by 0, a cancellation by 9, a visit by the others
abbrev pub makes_by : (choice : ℕ) → Progress → Result Progress ℕ
makes_by choice progress = if choice == 0 then clocks progress else if choice == 9 then cancels progress else feeds progress

-- an event is drawn, and every new packet is delivered or lost
abbrev pub happens : Progress → Result Progress ℕ
happens before = let progress = draws before in and_then (takes_all delivers_or_loses) (makes_by (drawn progress.number 10) progress)

-- so many events
unfoldable pub goes_on : ℕ → Progress → Result Progress ℕ
goes_on zero progress = Ok progress
goes_on (suc more) progress = and_then (goes_on more) (happens progress)

-- the whole script, with so many events
abbrev pub plays : (count : ℕ) → Progress → Result Progress ℕ
plays count progress = and_then (goes_on count) (opens progress)

-- ---- what it comes to

abbrev pub lines_of : Result (List ToldLine) StepError → List ToldLine
lines_of (Ok lines) = lines
lines_of (Err why) = []

-- what is told of the view of a number at the end, which makes no line of the script
abbrev pub view : ℕ → World → List ToldLine
view number world = lines_of (told world (viewing number))

-- of all four
abbrev pub views : World → List ToldLine
views world = view 1 world ++ view 2 world ++ view 3 world ++ view 4 world

-- a view that is quiet
unfoldable pub is_quiet_view : ToldLine → Bool
is_quiet_view (line.View consumer identifier held items quiet) = quiet
is_quiet_view other = false

-- an item of a view
unfoldable pub is_item : ToldLine → Bool
is_item (line.Item item) = true
is_item other = false

-- `load SEED COUNT lines L packets P lost X quiet Q items I`
abbrev pub summary : (seed count lines packets lost quiet items : ℕ) → List ℕ
summary seed count lines packets lost quiet items =
    codes "load " ++ decimal seed ++ codes " " ++ decimal count ++ codes " lines " ++ decimal lines
    ++ codes " packets " ++ decimal packets ++ codes " lost " ++ decimal lost
    ++ codes " quiet " ++ decimal quiet ++ codes " items " ++ decimal items ++ 10 ∷ []

-- the summary of what was played and of what is told of the views
abbrev pub summary_of : (seed count : ℕ) → Progress → List ToldLine → List ℕ
summary_of seed count progress shown =
    summary seed count (length progress.events) (sent progress) progress.lost (count_by is_quiet_view shown) (count_by is_item shown)

abbrev pub told_of : (seed count : ℕ) → Result Progress ℕ → RunResult
told_of seed count (Ok progress) = record { text = summary_of seed count progress (views (world_of progress)); status = status.Done }
told_of seed count (Err n) = ends_with (status.Limit n)

-- what a load writes, and how it ends: with its summary, or at the line that passes a limit
unfoldable pub load_text : (seed count : ℕ) → RunResult
load_text seed count = told_of seed count (plays count (fresh seed))
