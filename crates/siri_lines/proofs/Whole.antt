-- A run over a source that told its bytes, or did not.
use Rattle.std.proofs.Common.{◌≡◌, ◌≤◌, ℕ, List, [], ◌++◌, length, None, Some, Option, refl, sym, ap, ◌∙◌, subst, append-nil, append_assoc, arith, inl, inr}
use Rattle.std.specs.Prelude.{IsSome}
use Rattle.std.proofs.KnownBytes.{Consumes-nil}
use Rattle.std.specs.Io.KnownBytes.{Consumes, Keeps, IsAtEnd}
use Rattle.std.specs.Str.Lines.{lines}
use Rattle.siri_base.specs.declared.status.Status.{Status}
use Rattle.siri_base.specs.declared.status.Status.TheVariants as status
use Rattle.siri_lines.specs.declared.stop.Stop.{Stop}
use Rattle.siri_lines.specs.declared.stop.Stop.TheVariants as stop
use Rattle.siri_lines.specs.RunResult.{Events}
use Rattle.siri_lines.specs.Ends.{Bytes, Ends, AppendsFront, HasNoBreak}
use Rattle.siri_lines.specs.Pieces.{ReadsNoFurther}
use Rattle.siri_lines.specs.Stops.{EndsLines}
use Rattle.siri_lines.specs.inner.Reading.{Progress, beginning, gone_from, Advances, CutsOff, EndsWithin, Breaks, Finishes, GoesToEnd}
use Rattle.siri_lines.specs.inner.Reading.{HasRead, Follows, IsTaken, Passes}
use Rattle.siri_lines.specs.Stops.{status_of}
use Rattle.siri_lines.specs.Fronts.{gone_through}
use Rattle.siri_lines.specs.Reports.{Reports, Writes, WritesFront, report_of}
use Rattle.siri_lines.specs.Stands.{IsInput, TakesAll}
use Rattle.siri_lines.proofs.Written.{front_none}
use Rattle.siri_lines.proofs.LineBreaks.{lines_whole, whole_append}
use Rattle.siri_lines.proofs.Steps.{advances_none, advances_more, breaks_more, finishes_after, more_lines, more_parts, whole_so_far}

-- nothing was read yet
pub follows_start : {W : Type 0} (event : Events W) (fresh : W) (input held : Bytes) → Follows event fresh input input held (beginning fresh) held
follows_start event fresh None held = tt
follows_start event fresh (Some input) held = record { taken = []; read = refl; advances = advances_none event held (beginning fresh) tt }

-- a piece was read, and taken
pub follows_more : {W : Type 0} (event : Events W) (fresh : W) (input held left later mid now : Bytes)
    (s t : Progress W) (piece : List ℕ) → Follows event fresh input left held s mid → Consumes left later piece
    → Advances event mid s piece now t → Follows event fresh input later held t now
follows_more event fresh None held left later mid now s t piece f e x = tt
follows_more event fresh (Some input) held None later mid now s t piece f e x = absurd f
follows_more event fresh (Some input) held (Some left) None mid now s t piece f e x = absurd e
follows_more event fresh (Some input) held (Some left) (Some later) mid now s t piece f e x = record {
  taken = f.taken ++ piece;
  read = f.read ∙ ap (λ l. f.taken ++ l) e ∙ sym (append_assoc f.taken piece later);
  advances = advances_more event held mid now (beginning fresh) f.taken s piece t f.advances x;
}

reports_end : {W : Type 0} (event : Events W) (fresh : W) (input later taken : List ℕ) (held now : Bytes) (end : Status)
    → input ≡ taken ++ later → EndsWithin event held (beginning fresh) taken now end
    → Ends held (report_of event fresh input) now end
reports_end event fresh input later taken held now end e y = subst (λ l. Ends held (report_of event fresh l) now end) (sym e) (y later)

reports_cut : {W : Type 0} (event : Events W) (fresh : W) (input later taken : List ℕ) (held now : Bytes)
    → input ≡ taken ++ later → CutsOff event held (beginning fresh) taken now
    → WritesFront (report_of event fresh) input (Some later) held now
reports_cut event fresh input later taken held now e y = record {
  whole = y.ended;
  begun = y.rest;
  read = e ∙ ap (λ l. l ++ later) y.parts;
  lines = inl y.whole;
  front = y.front;
}

reports_break : {W : Type 0} (event : Events W) (fresh : W) (input later taken : List ℕ) (held now : Bytes) (end : Stop)
    → input ≡ taken ++ later → Breaks event held (beginning fresh) taken now end
    → Reports (report_of event fresh) (Some input) (Some later) held now (status_of end)
reports_break event fresh input later taken held now (stop.Script n r) e y = reports_end event fresh input later taken held now (status.Script n r) e y
reports_break event fresh input later taken held now (stop.Limit n) e y = reports_end event fresh input later taken held now (status.Limit n) e y
reports_break event fresh input later taken held now stop.OutOfMemory e y = reports_cut event fresh input later taken held now e y
reports_break event fresh input later taken held now stop.WriteFault e y = reports_cut event fresh input later taken held now e y

-- a piece was read, and ended the run
pub follows_break : {W : Type 0} (event : Events W) (fresh : W) (input held left later mid now : Bytes) (s : Progress W)
    (piece : List ℕ) (end : Stop) → Follows event fresh input left held s mid → Consumes left later piece
    → Breaks event mid s piece now end → Reports (report_of event fresh) input later held now (status_of end)
follows_break event fresh None held left later mid now s piece end f e x = tt
follows_break event fresh (Some input) held None later mid now s piece end f e x = absurd f
follows_break event fresh (Some input) held (Some left) None mid now s piece end f e x = absurd e
follows_break event fresh (Some input) held (Some left) (Some later) mid now s piece end f e x =
    reports_break event fresh input later (f.taken ++ piece) held now end
    (f.read ∙ ap (λ l. f.taken ++ l) e ∙ sym (append_assoc f.taken piece later))
    (breaks_more event held mid now (beginning fresh) f.taken s piece end f.advances x)

end_cut : {W : Type 0} (event : Events W) (fresh : W) (input : List ℕ) (held mid now : Bytes) (s : Progress W)
    (f : HasRead event fresh input [] held s mid) → AppendsFront held now (report_of event fresh f.taken).text
    → WritesFront (report_of event fresh) input (Some []) held now
end_cut event fresh input held mid now s f w = record {
  whole = f.taken;
  begun = [];
  read = f.read ∙ ap (λ l. l ++ []) (sym (append-nil f.taken));
  lines = inr (refl, refl);
  front = w;
}

end_whole : {W : Type 0} (event : Events W) (fresh : W) (input : List ℕ) (held mid now : Bytes) (s : Progress W)
    (end : Status) (f : HasRead event fresh input [] held s mid) → Ends held (report_of event fresh f.taken) now end
    → Ends held (report_of event fresh input) now end
end_whole event fresh input held mid now s end f w = subst (λ l. Ends held (report_of event fresh l) now end) (sym (f.read ∙ append-nil f.taken)) w

at_end : {W : Type 0} (event : Events W) (fresh : W) (input : List ℕ) (held mid now : Bytes) (s : Progress W)
    (end : Status) → EndsLines end → HasRead event fresh input [] held s mid → Finishes event mid s now end
    → Writes (report_of event fresh) input (Some []) held now end
at_end event fresh input held mid now s status.Done known f x =
    end_whole event fresh input held mid now s status.Done f
    (finishes_after event held mid now (beginning fresh) f.taken s status.Done refl f.advances x)
at_end event fresh input held mid now s (status.Script n r) known f x =
    end_whole event fresh input held mid now s (status.Script n r) f
    (finishes_after event held mid now (beginning fresh) f.taken s (status.Script n r) refl f.advances x)
at_end event fresh input held mid now s (status.Limit n) known f x =
    end_whole event fresh input held mid now s (status.Limit n) f
    (finishes_after event held mid now (beginning fresh) f.taken s (status.Limit n) refl f.advances x)
at_end event fresh input held mid now s status.OutOfMemory known f x =
    end_cut event fresh input held mid now s f
    (finishes_after event held mid now (beginning fresh) f.taken s status.OutOfMemory refl f.advances x)
at_end event fresh input held mid now s status.WriteFault known f x =
    end_cut event fresh input held mid now s f
    (finishes_after event held mid now (beginning fresh) f.taken s status.WriteFault refl f.advances x)
at_end event fresh input held mid now s end known f x = absurd known

-- the input has ended
pub follows_end : {W : Type 0} (event : Events W) (fresh : W) (input held left later mid now : Bytes) (s : Progress W)
    (end : Status) → EndsLines end → Follows event fresh input left held s mid → Consumes left later [] → IsAtEnd later
    → Finishes event mid s now end → Reports (report_of event fresh) input later held now end
follows_end event fresh None held left later mid now s end known f e none x = tt
follows_end event fresh (Some input) held None later mid now s end known f e none x = absurd f
follows_end event fresh (Some input) held (Some left) None mid now s end known f e none x = absurd e
follows_end event fresh (Some input) held (Some left) (Some later) mid now s end known f e none x =
    subst (λ l. Reports (report_of event fresh) (Some input) (Some l) held now end) (sym none)
    (at_end event fresh input held mid now s end known
    (subst (λ l. HasRead event fresh input l held s mid) (e ∙ none) f) x)

-- the source failed
pub follows_fault : {W : Type 0} (event : Events W) (fresh : W) (input held left later mid : Bytes) (s : Progress W)
    → Follows event fresh input left held s mid → Keeps left later
    → Reports (report_of event fresh) input later held mid status.ReadFault
follows_fault event fresh None held left later mid s f k = tt
follows_fault event fresh (Some input) held None later mid s f k = absurd f
follows_fault event fresh (Some input) held (Some left) None mid s f k = absurd k
follows_fault event fresh (Some input) held (Some left) (Some later) mid s f k = record {
  whole = f.advances.ended;
  begun = s.line;
  read = f.read ∙ ap (λ l. l ++ left) f.advances.parts ∙ ap (λ l. (f.advances.ended ++ s.line) ++ l) (sym k);
  lines = f.advances.whole;
  last = f.advances.begun;
  ends = whole_so_far event held mid (beginning fresh) f.taken s f.advances;
}

-- nothing was read, for want of memory
pub reports_nothing : {W : Type 0} (event : Events W) (fresh : W) (input held : Bytes)
    → Reports (report_of event fresh) input input held held status.OutOfMemory
reports_nothing event fresh None held = tt
reports_nothing event fresh (Some input) held = record { whole = []; begun = []; read = refl; lines = inl (inl refl); front = front_none held _ }

-- ---- the world that the lines led to

taken_none : (input : Bytes) → IsTaken input [] input
taken_none None = tt
taken_none (Some input) = refl

taken_more : (input left later : Bytes) (taken piece : List ℕ) → IsTaken input taken left → Consumes left later piece → IsTaken input (taken ++ piece) later
taken_more None left later taken piece h took = tt
taken_more (Some input) None later taken piece h took = absurd h
taken_more (Some input) (Some left) None taken piece h took = absurd took
taken_more (Some input) (Some left) (Some later) taken piece h took = h ∙ ap (λ l. taken ++ l) took ∙ sym (append_assoc taken piece later)

taken_all : (input left later : Bytes) (taken : List ℕ) → IsTaken input taken left → Consumes left later [] → IsAtEnd later → IsInput input taken
taken_all None left later taken h took none = tt
taken_all (Some input) None later taken h took none = absurd h
taken_all (Some input) (Some left) None taken h took none = absurd took
taken_all (Some input) (Some left) (Some later) taken h took none = h ∙ ap (λ l. taken ++ l) (took ∙ none) ∙ append-nil taken

-- nothing was read yet
pub passes_start : {W : Type 0} (event : Events W) (fresh : W) (input : Bytes) → Passes event fresh input input (beginning fresh)
passes_start event fresh input = record { taken = []; read = taken_none input; ended = []; parts = refl; whole = inl refl; leads = λ more. refl }

-- a piece was read, and taken
pub passes_more : {W : Type 0} (event : Events W) (fresh : W) (input left later mid now : Bytes) (s t : Progress W)
    (piece : List ℕ) → Passes event fresh input left s → Consumes left later piece → Advances event mid s piece now t
    → Passes event fresh input later t
passes_more event fresh input left later mid now s t piece p took x = record {
  taken = p.taken ++ piece;
  read = taken_more input left later p.taken piece p.read took;
  ended = p.ended ++ x.ended;
  parts = more_parts [] p.taken piece p.ended s.line x.ended t.line p.parts x.parts;
  whole = whole_append p.ended x.ended p.whole x.whole;
  leads = λ more. ap (gone_from event (beginning fresh)) (more_lines p.ended x.ended more p.whole) ∙ p.leads (lines x.ended ++ more) ∙ x.leads more;
}

-- the input has ended, and its last line was taken
pub passes_end : {T W : Type 0} (Fits : T → W → Type 0) (event : Events W) (fresh : W) (input left later : Bytes)
    (last : T) (s t : Progress W) → Passes event fresh input left s → Consumes left later [] → IsAtEnd later
    → Fits last t.world → GoesToEnd event s t → TakesAll Fits event fresh input last
passes_end Fits event fresh input left later last s t p took none stands x = record {
  bytes = p.taken;
  read = taken_all input left later p.taken p.read took none;
  world = t.world;
  is = ap (gone_through event 1 fresh) (ap lines p.parts ∙ lines_whole p.ended s.line p.whole) ∙ p.leads (lines s.line) ∙ x;
  stands = stands;
}

-- What was read before this piece ended no run.
pub ends_in_piece : {W : Type 0} (event : Events W) (fresh : W) (input left later : Bytes) (s : Progress W)
    (piece : List ℕ) → Passes event fresh input left s → Consumes left later piece → HasNoBreak s.line
    → length s.line ≤ 1048577 → length piece ≤ 65536 → ReadsNoFurther event fresh input later
ends_in_piece event fresh None left later s piece p took begun within few = tt
ends_in_piece event fresh (Some input) None later s piece p took begun within few = absurd p.read
ends_in_piece event fresh (Some input) (Some left) None s piece p took begun within few = absurd took
ends_in_piece {W = W} event fresh (Some input) (Some left) (Some later) s piece p took begun within few = record {
  whole = p.ended;
  begun = s.line;
  piece = piece;
  read = p.read ∙ ap (λ l. l ++ left) p.parts ∙ ap (λ l. (p.ended ++ s.line) ++ l) took ∙ sym (append_assoc (p.ended ++ s.line) piece later);
  ended = p.whole;
  last = begun;
  within = within;
  goes = subst (λ (world : Option W). IsSome world) (sym (ap (gone_from event (beginning fresh)) (sym (append-nil (lines p.ended))) ∙ p.leads [])) refl;
  few = few;
}

-- nothing was read
pub ends_at_once : {W : Type 0} (event : Events W) (fresh : W) (input : Bytes) → ReadsNoFurther event fresh input input
ends_at_once event fresh input = ends_in_piece event fresh input input input (beginning fresh) []
    (passes_start event fresh input) (Consumes-nil input) tt (omega arith) (omega arith)
