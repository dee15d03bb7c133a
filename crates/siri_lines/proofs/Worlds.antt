-- Lines are read in each world that their taker stands for.
use Rattle.std.proofs.Common.{◌≡◌, ℕ, List, [], ◌∷◌, ◌++◌, eqb, ◌≤◌, false, refl, sym, ap, ◌∙◌, subst, append_assoc, append-nil, length, take, Result, Ok, Err}
use Rattle.std.specs.Io.KnownBytes.{Consumes, Keeps, IsAtEnd}
use Rattle.std.specs.Prelude.{IfErr}
use Rattle.std.proofs.KnownBytes.{Consumes-kept, Consumes-nil}
use Rattle.std.specs.Str.Lines.{strip_carriage_return}
use Rattle.siri_outside.specs.MetFailures.{is_read_fault}
use Rattle.siri_base.specs.declared.status.Status.{Status}
use Rattle.siri_base.specs.declared.status.Status.TheVariants as status
use Rattle.siri_lines.specs.declared.reader.Reader.{Reader}
use Rattle.siri_lines.specs.declared.stop.Stop.{Stop}
use Rattle.siri_lines.specs.declared.stop.Stop.TheVariants as stop
use Rattle.siri_lines.specs.Brings.{has_failed_to_write}
use Rattle.siri_lines.specs.Ends.{Bytes, Ends, HasNoBreak}
use Rattle.siri_lines.specs.Pieces.{ReadsNoFurther}
use Rattle.siri_lines.specs.Reports.{Reports, report_of}
use Rattle.siri_lines.specs.RunResult.{Events, verdict}
use Rattle.siri_lines.specs.Stands.{TakesAll}
use Rattle.siri_lines.specs.Stops.{EndsLines, status_of}
use Rattle.siri_lines.specs.inner.Reading.{Advances, Breaks, Finishes, Follows, GoesToEnd, LineBreaks, Passes, TakesLine, to_come}
use Rattle.siri_lines.specs.inner.Standing.{HasNoRoom, InEachWorld, IsWithin, Leads, progress}
use Rattle.std.specs.Str.Lines.{lines}
use Rattle.siri_lines.proofs.LineBreaks.{no_break_append}
use Rattle.siri_lines.proofs.Steps.{advances_none, advances_more, breaks_longer, breaks_more, finished_early, finished_whole, goes_to_end}
use Rattle.siri_lines.proofs.Steps.{line_breaks, line_taken, run_advances, run_no_memory, run_too_long}
use Rattle.siri_lines.proofs.Whole.{ends_in_piece, follows_more, follows_break, follows_end, follows_fault}
use Rattle.siri_lines.proofs.Whole.{passes_more, passes_end}

-- ---- a run of bytes that end no line

-- they were kept
pub run_leads : {T W : Type 0} (Fits : T → W → Type 0) (event : Events W) (taker : T) (old new : Reader) (a : Bytes)
    (run : List ℕ) → HasNoBreak old.line.items → HasNoBreak run → new.lines ≡ old.lines
    → new.line.items ≡ old.line.items ++ run → Leads Fits taker old taker new
    (λ from to. Advances event a from run a to)
run_leads Fits event taker old new a run h e number line = λ w s. (w, s, rw (number, line) (run_advances event a (progress old w) run h e))

-- there was no room for them
pub run_ends_each : {T W : Type 0} (Fits : T → W → Type 0) (event : Events W) (taker : T) (old : Reader) (a : Bytes)
    (run : List ℕ) (end : Stop) → HasNoBreak old.line.items → HasNoBreak run → HasNoRoom old run end
    → InEachWorld Fits taker old (λ from. Breaks (verdict old.most event) a from run a end)
run_ends_each Fits event taker old a run (stop.Script n why) h e none = absurd none
run_ends_each Fits event taker old a run (stop.Limit n) h e none =
    λ w s. subst (λ k. Breaks (verdict old.most event) a (progress old w) run a (stop.Limit k)) (sym none.0)
    (run_too_long old.most event a (progress old w) run h e none.1)
run_ends_each Fits event taker old a run stop.OutOfMemory h e none = λ w s. run_no_memory (verdict old.most event) a (progress old w) run
run_ends_each Fits event taker old a run stop.WriteFault h e none = absurd none

-- what follows them doesn't matter
pub longer_ends_each : {T W : Type 0} (Fits : T → W → Type 0) (event : Events W) (taker : T) (old : Reader)
    (a b : Bytes) (run later : List ℕ) (end : Stop) → InEachWorld Fits taker old (λ from. Breaks event a from run b end)
    → InEachWorld Fits taker old (λ from. Breaks event a from (run ++ later) b end)
longer_ends_each Fits event taker old a b run later end ends = λ w s. breaks_longer event a b (progress old w) run later end (ends w s)

-- ---- some bytes after others

pub more_leads : {T W : Type 0} (Fits : T → W → Type 0) (event : Events W) (first next last : T) (old mid new : Reader)
    (a b c : Bytes) (run later : List ℕ) → Leads Fits first old next mid (λ from to. Advances event a from run b to)
    → Leads Fits next mid last new (λ from to. Advances event b from later c to)
    → Leads Fits first old last new (λ from to. Advances event a from (run ++ later) c to)
more_leads Fits event first next last old mid new a b c run later before here = λ w s.
    let (v, t, x) = before w s in
    let (u, r, y) = here v t in
    (u, r, advances_more event a b c (progress old w) run (progress mid v) later (progress new u) x y)

pub more_ends_each : {T W : Type 0} (Fits : T → W → Type 0) (event : Events W) (first next : T) (old mid : Reader)
    (a b c : Bytes) (run later : List ℕ) (end : Stop) → Leads Fits first old next mid
    (λ from to. Advances event a from run b to) → InEachWorld Fits next mid (λ from. Breaks event b from later c end)
    → InEachWorld Fits first old (λ from. Breaks event a from (run ++ later) c end)
more_ends_each Fits event first next old mid a b c run later end before here = λ w s.
    let (v, t, x) = before w s in
    breaks_more event a b c (progress old w) run (progress mid v) later end x (here v t)

-- ---- a line feed

-- the line before it was taken
pub break_leads : {T W : Type 0} (Fits : T → W → Type 0) (event : Events W) (before after : T) (old new : Reader)
    (a b : Bytes) (line : List ℕ) → HasNoBreak old.line.items → line ≡ strip_carriage_return old.line.items
    → new.line.items ≡ [] → Leads Fits before old after new (λ from to. TakesLine event a from line b to)
    → Leads Fits before old after new (λ from to. Advances event a from (10 ∷ []) b to)
break_leads Fits event before after old new a b line h e none leads = λ w s.
    let (v, t, step) = leads w s in
    (v, t, line_taken event a b (progress old w) (progress new v) line h e none step)

pub break_ends_each : {T W : Type 0} (Fits : T → W → Type 0) (event : Events W) (taker : T) (old : Reader) (a b : Bytes)
    (line : List ℕ) (end : Stop) → HasNoBreak old.line.items → line ≡ strip_carriage_return old.line.items
    → InEachWorld Fits taker old (λ from. LineBreaks event a from line b end)
    → InEachWorld Fits taker old (λ from. Breaks event a from (10 ∷ []) b end)
break_ends_each Fits event taker old a b line end h e ends =
    λ w s. line_breaks event a b (progress old w) end h
    (subst (λ l. LineBreaks event a (progress old w) l b end) e (ends w s))

-- a run was kept, and the line that it ends was taken
pub run_taken : {T W : Type 0} (Fits : T → W → Type 0) (event : ℕ → Events W) (first last : T) (old mid new : Reader)
    (a b : Bytes) (line run : List ℕ) → HasNoBreak old.line.items → HasNoBreak run → mid.lines ≡ old.lines
    → mid.most ≡ old.most → mid.line.items ≡ old.line.items ++ run → line ≡ strip_carriage_return mid.line.items
    → new.line.items ≡ [] → Leads Fits first mid last new (λ from to. TakesLine (event mid.most) a from line b to)
    → Leads Fits first old last new (λ from to. Advances (event old.most) a from (run ++ 10 ∷ []) b to)
run_taken Fits event first last old mid new a b line run h e number same kept strip none leads =
    let whole : HasNoBreak mid.line.items = subst HasNoBreak (sym kept) (no_break_append old.line.items run h e) in
    let here = subst (λ most. Leads Fits first mid last new (λ from to. TakesLine (event most) a from line b to)) same leads in
    more_leads Fits (event old.most) first first last old mid new a a b run (10 ∷ [])
    (run_leads Fits (event old.most) first old mid a run h e number kept)
    (break_leads Fits (event old.most) first last mid new a b line whole strip none here)

-- it was kept, and the line that it ends ended the run
pub run_broken : {T W : Type 0} (Fits : T → W → Type 0) (event : ℕ → Events W) (first : T) (old mid : Reader)
    (a b : Bytes) (line run : List ℕ) (end : Stop) → HasNoBreak old.line.items → HasNoBreak run → mid.lines ≡ old.lines
    → mid.most ≡ old.most → mid.line.items ≡ old.line.items ++ run → line ≡ strip_carriage_return mid.line.items
    → InEachWorld Fits first mid (λ from. LineBreaks (event mid.most) a from line b end)
    → InEachWorld Fits first old (λ from. Breaks (event old.most) a from (run ++ 10 ∷ []) b end)
run_broken Fits event first old mid a b line run end h e number same kept strip ends =
    let whole : HasNoBreak mid.line.items = subst HasNoBreak (sym kept) (no_break_append old.line.items run h e) in
    let here = subst (λ most. InEachWorld Fits first mid (λ from. LineBreaks (event most) a from line b end)) same ends in
    more_ends_each Fits (event old.most) first first old mid a a b run (10 ∷ []) end
    (run_leads Fits (event old.most) first old mid a run h e number kept)
    (break_ends_each Fits (event old.most) first mid a b line end whole strip here)

-- ---- a piece

-- a front of the piece was taken, and this is left of it
pub record TakesFront {T W : Type 0} (Fits : T → W → Type 0) (event : Events W) (first : T) (old : Reader) (a : Bytes)
    (piece : List ℕ) (now : T) (new : Reader) (b : Bytes) (rest : List ℕ) : Type 0 where
  pub front : List ℕ
  pub parts : piece ≡ front ++ rest
  pub leads : Leads Fits first old now new (λ from to. Advances event a from front b to)

pub front_none : {T W : Type 0} (Fits : T → W → Type 0) (event : Events W) (taker : T) (old : Reader) (a : Bytes)
    (piece : List ℕ) → HasNoBreak old.line.items → TakesFront Fits event taker old a piece taker old a piece
front_none Fits event taker old a piece h = record { front = []; parts = refl; leads = λ w s. (w, s, advances_none event a (progress old w) h) }

-- more of it was taken
pub front_more : {T W : Type 0} (Fits : T → W → Type 0) (event : ℕ → Events W) (first next last : T)
    (old mid new : Reader) (a b c : Bytes) (piece rest run later : List ℕ) → mid.most ≡ old.most → rest ≡ run ++ later
    → TakesFront Fits (event old.most) first old a piece next mid b rest
    → Leads Fits next mid last new (λ from to. Advances (event mid.most) b from run c to)
    → TakesFront Fits (event old.most) first old a piece last new c later
front_more Fits event first next last old mid new a b c piece rest run later same e f here = record {
  front = f.front ++ run;
  parts = f.parts ∙ ap (λ l. f.front ++ l) e ∙ sym (append_assoc f.front run later);
  leads = more_leads Fits (event old.most) first next last old mid new a b c f.front run f.leads
      (subst (λ most. Leads Fits next mid last new (λ from to. Advances (event most) b from run c to)) same here);
}

-- it ended the run
pub front_ends_each : {T W : Type 0} (Fits : T → W → Type 0) (event : ℕ → Events W) (first next : T) (old mid : Reader)
    (a b c : Bytes) (piece rest run later : List ℕ) (end : Stop) → mid.most ≡ old.most → rest ≡ run ++ later
    → TakesFront Fits (event old.most) first old a piece next mid b rest
    → InEachWorld Fits next mid (λ from. Breaks (event mid.most) b from run c end)
    → InEachWorld Fits first old (λ from. Breaks (event old.most) a from piece c end)
front_ends_each Fits event first next old mid a b c piece rest run later end same e f here =
    let whole : (f.front ++ run) ++ later ≡ piece = append_assoc f.front run later ∙ ap (λ l. f.front ++ l) (sym e) ∙ sym f.parts in
    let ends = more_ends_each Fits (event old.most) first next old mid a b c f.front run end f.leads
    (subst (λ most. InEachWorld Fits next mid (λ from. Breaks (event most) b from run c end)) same here) in
    subst (λ bytes. InEachWorld Fits first old (λ from. Breaks (event old.most) a from bytes c end)) whole
    (longer_ends_each Fits (event old.most) first old a c (f.front ++ run) later end ends)

-- what is left was kept
pub front_last : {T W : Type 0} (Fits : T → W → Type 0) (event : ℕ → Events W) (first now : T) (old mid new : Reader)
    (a b : Bytes) (piece rest : List ℕ) → mid.most ≡ old.most
    → TakesFront Fits (event old.most) first old a piece now mid b rest
    → Leads Fits now mid now new (λ from to. Advances (event mid.most) b from rest b to)
    → Leads Fits first old now new (λ from to. Advances (event old.most) a from piece b to)
front_last Fits event first now old mid new a b piece rest same f here =
    let whole = front_more Fits event first now now old mid new a b b piece rest rest [] same (sym (append-nil rest)) f here in
    subst (λ bytes. Leads Fits first old now new (λ from to. Advances (event old.most) a from bytes b to))
    (sym (whole.parts ∙ append-nil whole.front)) whole.leads

-- ---- the end of the input

pub last_finishes : {T W : Type 0} (Fits : T → W → Type 0) (event : Events W) (before after : T) (old new : Reader)
    (a b : Bytes) (n : ℕ) → n ≡ length old.line.items → HasNoBreak old.line.items
    → eqb (length old.line.items) 0 ≡ false → Leads Fits before old after new
    (λ from to. TakesLine event a from (take n old.line.items) b to)
    → InEachWorld Fits before old (λ from. Ends a (to_come event from (lines from.line)) b status.Done)
last_finishes Fits event before after old new a b n e h some leads = λ w s.
    let (v, t, step) = leads w s in
    finished_whole event a b (progress old w) (progress new v) n e h some step

pub last_leads : {T W : Type 0} (Fits : T → W → Type 0) (event : Events W) (before after : T) (old new : Reader)
    (a b : Bytes) (n : ℕ) → n ≡ length old.line.items → HasNoBreak old.line.items
    → eqb (length old.line.items) 0 ≡ false → Leads Fits before old after new
    (λ from to. TakesLine event a from (take n old.line.items) b to) → Leads Fits before old after new (GoesToEnd event)
last_leads Fits event before after old new a b n e h some leads = λ w s.
    let (v, t, step) = leads w s in
    (v, t, goes_to_end event a b (progress old w) (progress new v) n e h some step)

pub last_ends_each : {T W : Type 0} (Fits : T → W → Type 0) (event : Events W) (taker : T) (old : Reader) (a b : Bytes)
    (n : ℕ) (end : Stop) → n ≡ length old.line.items → HasNoBreak old.line.items → eqb (length old.line.items) 0 ≡ false
    → InEachWorld Fits taker old (λ from. LineBreaks event a from (take n old.line.items) b end)
    → InEachWorld Fits taker old (λ from. Finishes event a from b (status_of end))
last_ends_each Fits event taker old a b n end e h some ends = λ w s. finished_early event a b (progress old w) n e h some end (ends w s)

-- ---- the whole input

-- how far the input was read from a world on, in some world that the taker stands for now
pub record ReadsOn {T W : Type 0} (Fits : T → W → Type 0) (event : Events W) (fresh : W) (input left held : Bytes)
    (taker : T) (r : Reader) (now : Bytes) : Type 0 where
  pub world : W
  pub stands : Fits taker world
  pub follows : Follows event fresh input left held (progress r world) now
  pub passes : Passes event fresh input left (progress r world)

pub reads_more : {T W : Type 0} (Fits : T → W → Type 0) (event : ℕ → Events W) (most : ℕ) (fresh : W)
    (input held left later mid now : Bytes) (before after : T) (r new : Reader) (piece : List ℕ) → r.most ≡ most
    → ReadsOn Fits (event most) fresh input left held before r mid → Consumes left later piece
    → Leads Fits before r after new (λ from to. Advances (event r.most) mid from piece now to)
    → ReadsOn Fits (event most) fresh input later held after new now
reads_more Fits event most fresh input held left later mid now before after r new piece same on took leads =
    let (v, stands, x) = leads on.world on.stands in
    record {
      world = v;
      stands = stands;
      follows = follows_more (event most) fresh input held left later mid now (progress r on.world)
          (progress new v) piece on.follows took
          (subst (λ most. Advances (event most) mid (progress r on.world) piece now (progress new v)) same x);
      passes = passes_more (event most) fresh input left later mid now (progress r on.world)
          (progress new v) piece on.passes took (subst
          (λ most. Advances (event most) mid (progress r on.world) piece now (progress new v)) same x);
    }

pub reads_break : {T W : Type 0} (Fits : T → W → Type 0) (event : ℕ → Events W) (most : ℕ) (fresh : W)
    (input held left later mid now : Bytes) (taker : T) (r : Reader) (piece : List ℕ) (end : Stop) → r.most ≡ most
    → ReadsOn Fits (event most) fresh input left held taker r mid → Consumes left later piece
    → InEachWorld Fits taker r (λ from. Breaks (event r.most) mid from piece now end)
    → Reports (report_of (event most) fresh) input later held now (status_of end)
reads_break Fits event most fresh input held left later mid now taker r piece end same on took ends =
    follows_break (event most) fresh input held left later mid now (progress r on.world) piece end on.follows took
    (subst (λ most. Breaks (event most) mid (progress r on.world) piece now end) same (ends on.world on.stands))

pub reads_end : {T W : Type 0} (Fits : T → W → Type 0) (event : ℕ → Events W) (most : ℕ) (fresh : W)
    (input held left later mid now : Bytes) (taker : T) (r : Reader) (end : Status) → r.most ≡ most → EndsLines end
    → ReadsOn Fits (event most) fresh input left held taker r mid → Consumes left later [] → IsAtEnd later
    → InEachWorld Fits taker r (λ from. Finishes (event r.most) mid from now end)
    → Reports (report_of (event most) fresh) input later held now end
reads_end Fits event most fresh input held left later mid now taker r end same known on took none finishes =
    follows_end (event most) fresh input held left later mid now (progress r on.world) end known on.follows took none
    (subst (λ most. Finishes (event most) mid (progress r on.world) now end) same (finishes on.world on.stands))

pub reads_all : {T W : Type 0} (Fits : T → W → Type 0) (event : ℕ → Events W) (most : ℕ) (fresh : W)
    (input held left later mid : Bytes) (taker last : T) (r new : Reader) → r.most ≡ most
    → ReadsOn Fits (event most) fresh input left held taker r mid → Consumes left later [] → IsAtEnd later
    → Leads Fits taker r last new (GoesToEnd (event r.most)) → TakesAll Fits (event most) fresh input last
reads_all Fits event most fresh input held left later mid taker last r new same on took none leads =
    let (v, stands, x) = leads on.world on.stands in
    passes_end Fits (event most) fresh input left later last (progress r on.world)
    (progress new v) on.passes took none stands
    (subst (λ most. GoesToEnd (event most) (progress r on.world) (progress new v)) same x)

pub reads_fault : {T W : Type 0} (Fits : T → W → Type 0) (event : Events W) (fresh : W)
    (input held left later mid : Bytes) (taker : T) (r : Reader) → ReadsOn Fits event fresh input left held taker r mid
    → Keeps left later → Reports (report_of event fresh) input later held mid status.ReadFault
reads_fault Fits event fresh input held left later mid taker r on kept =
    follows_fault event fresh input held left later mid (progress r on.world) on.follows kept

-- what was read before a piece ended no run, whatever came of the piece
pub reads_in_piece : {T W : Type 0} (Fits : T → W → Type 0) (event : Events W) (fresh : W)
    (input held left later mid : Bytes) (taker : T) (r : Reader) (piece : List ℕ)
    → ReadsOn Fits event fresh input left held taker r mid → IsWithin r → Consumes left later piece
    → length piece ≤ 65536 → ReadsNoFurther event fresh input later
reads_in_piece Fits event fresh input held left later mid taker r piece on within took few =
    ends_in_piece event fresh input left later (progress r on.world) piece on.passes took within.begun within.line few

-- what is left after a call that failed
pub none_taken : (input later : Bytes) → Keeps input later → Consumes input later []
none_taken input later kept = Consumes-kept input input later [] (Consumes-nil input) kept

-- ---- how it ended

-- lines end no run by a failure of the source
pub lines_no_read_fault : (end : Status) → EndsLines end → is_read_fault end ≡ false
lines_no_read_fault status.Done e = refl
lines_no_read_fault status.Refused e = refl
lines_no_read_fault status.Usage e = refl
lines_no_read_fault (status.Script line r) e = refl
lines_no_read_fault status.ReadFault e = absurd e
lines_no_read_fault (status.Limit line) e = refl
lines_no_read_fault status.WireFault e = refl
lines_no_read_fault status.OutOfMemory e = refl
lines_no_read_fault status.WriteFault e = refl
lines_no_read_fault status.ClockFault e = refl
lines_no_read_fault status.KeeperFault e = refl
lines_no_read_fault status.ShelfFault e = refl
lines_no_read_fault (status.BadShelf shelf) e = refl

pub stop_no_read_fault : (end : Stop) → is_read_fault (status_of end) ≡ false
stop_no_read_fault (stop.Script n why) = refl
stop_no_read_fault (stop.Limit n) = refl
stop_no_read_fault stop.OutOfMemory = refl
stop_no_read_fault stop.WriteFault = refl

-- there was no room for a line: the sink wasn't written to
pub no_room_no_fault : (r : Reader) (run : List ℕ) (end : Stop) → HasNoRoom r run end → has_failed_to_write {T = Unit {0}} (Err end) ≡ false
no_room_no_fault r run (stop.Script n why) e = absurd e
no_room_no_fault r run (stop.Limit n) e = refl
no_room_no_fault r run stop.OutOfMemory e = refl
no_room_no_fault r run stop.WriteFault e = absurd e

-- bytes that end no line were kept, or there was no room for them: the sink wasn't written to
pub kept_no_fault : (r : Reader) (run : List ℕ) (result : Result (Unit {0}) Stop)
    → IfErr result (λ end. HasNoRoom r run end) → has_failed_to_write result ≡ false
kept_no_fault r run (Ok done) e = refl
kept_no_fault r run (Err end) e = no_room_no_fault r run end e
