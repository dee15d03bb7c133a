-- The line that a load comes to, or the line at which it stops.
use Rattle.std.proofs.Common.{◌≡◌, ℕ, Bool, List, [], ◌∷◌, count_by, length, Result, Ok, Err, refl, sym, ap, ◌∙◌, subst, ◌+◌, cond}
use Rattle.std.specs.Prelude.{fold}
use Rattle.siri_base.specs.declared.status.Status.TheVariants as status
use Rattle.siri_world_model.specs.declared.line.Line.{Line}
use Rattle.siri_world_model.specs.Lines.{ToldLine, told_line, told_lines}
use Rattle.siri_load.specs.declared.stop.Stop.{Stop}
use Rattle.siri_load.specs.declared.stop.Stop.TheVariants as stop
use Rattle.siri_load.specs.Load.{Progress, fresh, world_of, sent, plays, views, is_quiet_view, is_item, summary, summary_of, told_of, load_text}
use Rattle.siri_load.specs.Playing.{Playing, Plays, Brings, Shown, Sums}

text_is : (seed count : ℕ) (outcome : Result Progress ℕ) → plays count (fresh seed) ≡ outcome → load_text seed count ≡ told_of seed count outcome
unfolding load_text
text_is seed count outcome is = ap (told_of seed count) is

-- the script stops
pub sums_stop : {V : Type 0} (seed count : ℕ) (new : Playing) (why : Stop) (given : Result V Stop) (text : V → List ℕ)
    → given ≡ Err why → Brings new (Err why) (plays count (fresh seed)) → Sums given text (load_text seed count)
sums_stop {V} seed count new why given text is stops = let family : Result V Stop
    → Type 0 = λ given. Sums given text (load_text seed count) in subst family (sym is) (by_stop why stops)
  where
    by_stop : (why : Stop) → Brings new (Err why) (plays count (fresh seed)) → Sums (Err why) text (load_text seed count)
    by_stop (stop.Limit n) at = text_is seed count (Err n) at
    by_stop stop.OutOfMemory at = tt

-- counting lines as they are told
count_from : (test : ToldLine → Bool) (before : ℕ) (lines : List Line)
    → fold (λ (n : ℕ) (line : Line). n + cond (test (told_line line)) 1 0) before lines ≡ fold
    (λ (n : ℕ) (line : ToldLine). n + cond (test line) 1 0) before (told_lines lines)
count_from test before [] = refl
count_from test before (line ∷ lines) = count_from test (before + cond (test (told_line line)) 1 0) lines

count_told : (test : ToldLine → Bool) (lines : List Line) → count_by (λ line. test (told_line line)) lines ≡ count_by test (told_lines lines)
count_told test lines = count_from test 0 lines

same_summary : (seed count : ℕ) (lines lines' packets packets' lost lost' quiet quiet' items items' : ℕ)
    → lines ≡ lines' → packets ≡ packets' → lost ≡ lost' → quiet ≡ quiet' → items ≡ items'
    → summary seed count lines packets lost quiet items ≡ summary seed count lines' packets' lost' quiet' items'
same_summary seed count lines lines' packets packets' lost lost' quiet quiet' items items' a b c d e =
    ap (λ n. summary seed count n packets lost quiet items) a
    ∙ ap (λ n. summary seed count lines' n lost quiet items) b
    ∙ ap (λ n. summary seed count lines' packets' n quiet items) c
    ∙ ap (λ n. summary seed count lines' packets' lost' n items) d
    ∙ ap (λ n. summary seed count lines' packets' lost' quiet' n) e

-- the script was played to its end
pub sums_done : (seed count : ℕ) (last after : Playing) (done : Unit {0}) (text : List ℕ)
    (lines packets lost quiet items : ℕ) (shown : List Line) → Brings last (Ok done) (plays count (fresh seed))
    → ((progress : Progress) → Plays last progress → Shown after shown (views (world_of progress)) progress)
    → lines ≡ after.lines → ((progress : Progress) → Plays after progress → packets ≡ sent progress) → lost ≡ after.lost
    → quiet ≡ count_by (λ line. is_quiet_view (told_line line)) shown
    → items ≡ count_by (λ line. is_item (told_line line)) shown
    → text ≡ summary seed count lines packets lost quiet items
    → load_text seed count ≡ record { text = text; status = status.Done }
sums_done seed count last after done text lines packets lost quiet items shown brings shows lines_are packets_are
    lost_are quiet_are items_are text_are = by_outcome (plays count (fresh seed)) refl brings
  where
    at_end : (progress : Progress) → Shown after shown (views (world_of progress)) progress → summary_of seed count progress (views (world_of progress)) ≡ text
    at_end progress told = sym (text_are ∙ same_summary seed count lines (length progress.events) packets
        (sent progress) lost progress.lost quiet (count_by is_quiet_view (views (world_of progress))) items
        (count_by is_item (views (world_of progress)))
        (lines_are ∙ told.plays.lines)
        (packets_are progress told.plays)
        (lost_are ∙ told.plays.lost)
        (quiet_are ∙ count_told is_quiet_view shown ∙ ap (count_by is_quiet_view) told.lines_are)
        (items_are ∙ count_told is_item shown ∙ ap (count_by is_item) told.lines_are))

    by_outcome : (outcome : Result Progress ℕ) → plays count (fresh seed) ≡ outcome → Brings last (Ok done) outcome
        → load_text seed count ≡ record { text = text; status = status.Done }
    by_outcome (Ok progress) is here = text_is seed count (Ok progress) is
        ∙ ap (λ (text : List ℕ). record { text = text; status = status.Done }) (at_end progress (shows progress here))
    by_outcome (Err n) is bad = absurd bad
