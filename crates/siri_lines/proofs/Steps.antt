-- How lines are read, run by run and piece by piece.
use Rattle.std.proofs.Common.{◌≡◌, ℕ, ◌+◌, ◌<◌, List, [], ◌∷◌, ◌++◌, eqb, false, true, Bool, refl, sym, ap, ◌∙◌, subst, append_assoc}
use Rattle.std.proofs.Common.{append-nil, length, inl, inr, Ok, Err, Result, OnOk, take}
use Rattle.std.proofs.Math.Seq.{take-length}
use Rattle.std.specs.Prelude.{MatchBool}
use Rattle.std.specs.Io.KnownBytes.{Appends}
use Rattle.std.proofs.KnownBytes.{Appends-nil, Appends-trans}
use Rattle.std.specs.Str.Lines.{lines, strip_carriage_return}
use Rattle.siri_base.specs.declared.status.Status.{Status}
use Rattle.siri_base.specs.declared.status.Status.TheVariants as status
use Rattle.siri_lines.specs.declared.stop.Stop.{Stop}
use Rattle.siri_lines.specs.declared.stop.Stop.TheVariants as stop
use Rattle.siri_lines.specs.Stops.{status_of}
use Rattle.siri_lines.specs.RunResult.{RunResult, Events, verdict}
use Rattle.siri_lines.specs.Ends.{Bytes, Ends, AppendsFront, AreWholeLines, HasNoBreak, is_cut}
use Rattle.siri_lines.specs.inner.Reading.{Progress, to_come, gone_from, Continues, Advances, TakesLine, CutsOff, EndsWithin, Breaks}
use Rattle.siri_lines.specs.inner.Reading.{LineBreaks, Finishes, GoesToEnd}
use Rattle.siri_lines.proofs.Written.{front_none}
use Rattle.siri_lines.proofs.LineBreaks.{lines_whole, whole_append, no_break_append, line_ended, last_line, too_long}

continues_trans : (a b c : Bytes) (s t u : RunResult) → Continues a s b t → Continues b t c u → Continues a s c u
continues_trans a b c s t u p q = record {
  text = p.text ++ q.text;
  written = Appends-trans a b c p.text q.text p.written q.written;
  parts = p.parts ∙ ap (λ l. p.text ++ l) q.parts ∙ sym (append_assoc p.text q.text u.text);
  status_is = p.status_is ∙ q.status_is;
}

front_after : (a b c : Bytes) (s t : RunResult) → Continues a s b t → AppendsFront b c t.text → AppendsFront a c s.text
front_after a b c s t p w = record {
  front = p.text ++ w.front;
  rest = w.rest;
  parts = p.parts ∙ ap (λ l. p.text ++ l) w.parts ∙ sym (append_assoc p.text w.front w.rest);
  written = Appends-trans a b c p.text w.front p.written w.written;
}

ends_after : (a b c : Bytes) (s t : RunResult) (end : Status) → Continues a s b t → Ends b t c end → Ends a s c end
ends_after a b c s t end p q = record {
  status_is = p.status_is ∙ q.status_is;
  written = subst (λ l. Appends a c l) (sym p.parts) (Appends-trans a b c p.text t.text p.written q.written);
}

-- what was written so far is what the lines that ended bring, and none of them ended the run
pub whole_so_far : {W : Type 0} (event : Events W) (a b : Bytes) (s : Progress W) (bytes : List ℕ) (t : Progress W)
    (p : Advances event a s bytes b t) → Ends a (to_come event s (lines p.ended)) b status.Done
whole_so_far event a b s bytes t p =
    let here = p.continues [] in
    subst (λ ls. Ends a (to_come event s ls) b status.Done) (append-nil (lines p.ended))
    (record {
      status_is = here.status_is;
      written = subst (Appends a b)
          (sym (here.parts ∙ append-nil here.text)) here.written;
    })

-- nothing was read yet
pub advances_none : {W : Type 0} (event : Events W) (a : Bytes) (s : Progress W) → HasNoBreak s.line → Advances event a s [] a s
advances_none event a s h = record {
  ended = [];
  parts = append-nil s.line;
  whole = inl refl;
  begun = h;
  continues = λ more. record { text = []; written = Appends-nil a; parts = refl; status_is = refl };
  leads = λ more. refl;
}

pub more_parts : (l p q e m f n : List ℕ) → l ++ p ≡ e ++ m → m ++ q ≡ f ++ n → l ++ (p ++ q) ≡ (e ++ f) ++ n
more_parts l p q e m f n u v = sym (append_assoc l p q) ∙ ap (λ x. x ++ q) u ∙ append_assoc e m q ∙ ap (λ x. e ++ x) v ∙ sym (append_assoc e f n)

-- the lines of two fronts, one after the other
pub more_lines : (e f : List ℕ) (more : List (List ℕ)) → AreWholeLines e → lines (e ++ f) ++ more ≡ lines e ++ (lines f ++ more)
more_lines e f more h = ap (λ ls. ls ++ more) (lines_whole e f h) ∙ append_assoc (lines e) (lines f) more

pub advances_more : {W : Type 0} (event : Events W) (a b c : Bytes) (s : Progress W) (p : List ℕ) (t : Progress W)
    (q : List ℕ) (u : Progress W) → Advances event a s p b t → Advances event b t q c u
    → Advances event a s (p ++ q) c u
advances_more event a b c s p t q u x y = record {
  ended = x.ended ++ y.ended;
  parts = more_parts s.line p q x.ended t.line y.ended u.line x.parts y.parts;
  whole = whole_append x.ended y.ended x.whole y.whole;
  begun = y.begun;
  continues = λ more. subst (λ ls. Continues a (to_come event s ls) c (to_come event u more))
      (sym (more_lines x.ended y.ended more x.whole))
      (continues_trans a b c _ _ _ (x.continues (lines y.ended ++ more)) (y.continues more));
  leads = λ more. ap (gone_from event s) (more_lines x.ended y.ended more x.whole) ∙ x.leads (lines y.ended ++ more) ∙ y.leads more;
}

ends_within_more : {W : Type 0} (event : Events W) (a b c : Bytes) (s : Progress W) (p : List ℕ) (t : Progress W)
    (q : List ℕ) (end : Status) → Advances event a s p b t → EndsWithin event b t q c end
    → EndsWithin event a s (p ++ q) c end
ends_within_more event a b c s p t q end x y = λ rest.
    let cut : (s.line ++ (p ++ q)) ++ rest ≡ x.ended ++ ((t.line ++ q) ++ rest) =
    ap (λ l. l ++ rest) (sym (append_assoc s.line p q) ∙ ap (λ l. l ++ q) x.parts ∙ append_assoc x.ended t.line q) ∙ append_assoc x.ended (t.line ++ q) rest in
    let told : lines ((s.line ++ (p ++ q)) ++ rest) ≡ lines x.ended ++ lines ((t.line ++ q) ++ rest) = ap lines cut
    ∙ lines_whole x.ended ((t.line ++ q) ++ rest) x.whole in
    subst (λ ls. Ends a (to_come event s ls) c end) (sym told) (ends_after a b c _ _ end (x.continues (lines ((t.line ++ q) ++ rest))) (y rest))

cuts_off_more : {W : Type 0} (event : Events W) (a b c : Bytes) (s : Progress W) (p : List ℕ) (t : Progress W)
    (q : List ℕ) → Advances event a s p b t → CutsOff event b t q c → CutsOff event a s (p ++ q) c
cuts_off_more event a b c s p t q x y = record {
  ended = x.ended ++ y.ended;
  rest = y.rest;
  parts = more_parts s.line p q x.ended t.line y.ended y.rest x.parts y.parts;
  whole = whole_append x.ended y.ended x.whole y.whole;
  front = subst (λ ls. AppendsFront a c (to_come event s ls).text) (sym (lines_whole x.ended y.ended x.whole))
      (front_after a b c _ _ (x.continues (lines y.ended)) y.front);
}

pub breaks_more : {W : Type 0} (event : Events W) (a b c : Bytes) (s : Progress W) (p : List ℕ) (t : Progress W)
    (q : List ℕ) (end : Stop) → Advances event a s p b t → Breaks event b t q c end → Breaks event a s (p ++ q) c end
breaks_more event a b c s p t q (stop.Script n r) x y = ends_within_more event a b c s p t q (status.Script n r) x y
breaks_more event a b c s p t q (stop.Limit n) x y = ends_within_more event a b c s p t q (status.Limit n) x y
breaks_more event a b c s p t q stop.OutOfMemory x y = cuts_off_more event a b c s p t q x y
breaks_more event a b c s p t q stop.WriteFault x y = cuts_off_more event a b c s p t q x y

ends_within_longer : {W : Type 0} (event : Events W) (a b : Bytes) (s : Progress W) (p q : List ℕ) (end : Status)
    → EndsWithin event a s p b end → EndsWithin event a s (p ++ q) b end
ends_within_longer event a b s p q end y = λ rest.
    let same : (s.line ++ (p ++ q)) ++ rest ≡ (s.line ++ p) ++ (q ++ rest) =
    ap (λ l. l ++ rest) (sym (append_assoc s.line p q)) ∙ append_assoc (s.line ++ p) q rest in
    subst (λ l. Ends a (to_come event s (lines l)) b end) (sym same) (y (q ++ rest))

cuts_off_longer : {W : Type 0} (event : Events W) (a b : Bytes) (s : Progress W) (p q : List ℕ) → CutsOff event a s p b → CutsOff event a s (p ++ q) b
cuts_off_longer event a b s p q y = record {
  ended = y.ended;
  rest = y.rest ++ q;
  parts = sym (append_assoc s.line p q) ∙ ap (λ l. l ++ q) y.parts ∙ append_assoc y.ended y.rest q;
  whole = y.whole;
  front = y.front;
}

pub breaks_longer : {W : Type 0} (event : Events W) (a b : Bytes) (s : Progress W) (p q : List ℕ) (end : Stop)
    → Breaks event a s p b end → Breaks event a s (p ++ q) b end
breaks_longer event a b s p q (stop.Script n r) y = ends_within_longer event a b s p q (status.Script n r) y
breaks_longer event a b s p q (stop.Limit n) y = ends_within_longer event a b s p q (status.Limit n) y
breaks_longer event a b s p q stop.OutOfMemory y = cuts_off_longer event a b s p q y
breaks_longer event a b s p q stop.WriteFault y = cuts_off_longer event a b s p q y

-- a line feed came
pub line_advances : {W : Type 0} (event : Events W) (a b : Bytes) (s t : Progress W) → HasNoBreak s.line → t.line ≡ []
    → TakesLine event a s (strip_carriage_return s.line) b t → Advances event a s (10 ∷ []) b t
line_advances event a b s t h e step = record {
  ended = s.line ++ 10 ∷ [];
  parts = sym (ap (λ l. (s.line ++ 10 ∷ []) ++ l) e ∙ append-nil (s.line ++ 10 ∷ []));
  whole = inr (s.line, refl);
  begun = subst HasNoBreak (sym e) tt;
  continues = λ more. subst (λ ls. Continues a (to_come event s (ls ++ more)) b (to_come event t more)) (sym (line_ended s.line h)) (step.continues more);
  leads = λ more. ap (λ ls. gone_from event s (ls ++ more)) (line_ended s.line h) ∙ step.leads more;
}

line_ends : {W : Type 0} (event : Events W) (a b : Bytes) (s : Progress W) (end : Status) → HasNoBreak s.line
    → ((more : List (List ℕ)) → Ends a (to_come event s (strip_carriage_return s.line ∷ more)) b end)
    → EndsWithin event a s (10 ∷ []) b end
line_ends event a b s end h step = λ rest.
    let told : lines ((s.line ++ 10 ∷ []) ++ rest) ≡ strip_carriage_return s.line ∷ lines rest =
    lines_whole (s.line ++ 10 ∷ []) rest (inr (s.line, refl)) ∙ ap (λ ls. ls ++ lines rest) (line_ended s.line h) in
    subst (λ ls. Ends a (to_come event s ls) b end) (sym told) (step (lines rest))

line_cuts : {W : Type 0} (event : Events W) (a b : Bytes) (s : Progress W) → HasNoBreak s.line
    → AppendsFront a b (to_come event s (strip_carriage_return s.line ∷ [])).text → CutsOff event a s (10 ∷ []) b
line_cuts event a b s h w = record {
  ended = s.line ++ 10 ∷ [];
  rest = [];
  parts = sym (append-nil (s.line ++ 10 ∷ []));
  whole = inr (s.line, refl);
  front = subst (λ ls. AppendsFront a b (to_come event s ls).text) (sym (line_ended s.line h)) w;
}

pub line_breaks : {W : Type 0} (event : Events W) (a b : Bytes) (s : Progress W) (end : Stop) → HasNoBreak s.line
    → LineBreaks event a s (strip_carriage_return s.line) b end → Breaks event a s (10 ∷ []) b end
line_breaks event a b s (stop.Script n r) h y = line_ends event a b s (status.Script n r) h y
line_breaks event a b s (stop.Limit n) h y = line_ends event a b s (status.Limit n) h y
line_breaks event a b s stop.OutOfMemory h y = line_cuts event a b s h y
line_breaks event a b s stop.WriteFault h y = line_cuts event a b s h y

-- bytes came that end no line
pub run_advances : {W : Type 0} (event : Events W) (a : Bytes) (s : Progress W) (run : List ℕ) → HasNoBreak s.line
    → HasNoBreak run → Advances event a s run a (record { lines = s.lines; world = s.world; line = s.line ++ run })
run_advances event a s run h e = record {
  ended = [];
  parts = refl;
  whole = inl refl;
  begun = no_break_append s.line run h e;
  continues = λ more. record { text = []; written = Appends-nil a; parts = refl; status_is = refl };
  leads = λ more. refl;
}

-- by these bytes the line becomes too long
pub run_too_long : {W : Type 0} (most : ℕ) (event : Events W) (a : Bytes) (s : Progress W) (run : List ℕ)
    → HasNoBreak s.line → HasNoBreak run → 1048577 < length (s.line ++ run)
    → Breaks (verdict most event) a s run a (stop.Limit (s.lines + 1))
run_too_long most event a s run h e long = λ rest.
    let t = too_long most event (s.lines + 1) s.world (s.line ++ run) rest (no_break_append s.line run h e) long in
    record { status_is = ap (λ (t : RunResult). t.status) t; written = subst (λ (t : RunResult). Appends a a t.text) (sym t) (Appends-nil a) }

-- there was no memory for them
pub run_no_memory : {W : Type 0} (event : Events W) (a : Bytes) (s : Progress W) (run : List ℕ) → Breaks event a s run a stop.OutOfMemory
run_no_memory event a s run = record { ended = []; rest = s.line ++ run; parts = refl; whole = inl refl; front = front_none a _ }

-- the input has ended
pub finishes_after : {W : Type 0} (event : Events W) (a b c : Bytes) (s : Progress W) (bytes : List ℕ) (t : Progress W)
    (end : Status) → s.line ≡ [] → Advances event a s bytes b t → Finishes event b t c end
    → MatchBool (is_cut end) (AppendsFront a c (to_come event s (lines bytes)).text)
    (Ends a (to_come event s (lines bytes)) c end)
finishes_after event a b c s bytes t end none x y =
    let told : lines bytes ≡ lines x.ended ++ lines t.line = ap lines (ap (λ l. l ++ bytes) (sym none) ∙ x.parts) ∙ lines_whole x.ended t.line x.whole in
    let choose : (cut : Bool) → MatchBool cut (AppendsFront b c (to_come event t (lines t.line)).text)
    (Ends b (to_come event t (lines t.line)) c end) → MatchBool cut
    (AppendsFront a c (to_come event s (lines bytes)).text) (Ends a (to_come event s (lines bytes)) c end) =
    λ cut. elim cut as (λ cut. MatchBool cut (AppendsFront b c (to_come event t (lines t.line)).text)
    (Ends b (to_come event t (lines t.line)) c end) → MatchBool cut
    (AppendsFront a c (to_come event s (lines bytes)).text) (Ends a (to_come event s (lines bytes)) c end)) [
      | true ↦ λ w. subst (λ ls. AppendsFront a c (to_come event s ls).text) (sym told) (front_after a b c _ _ (x.continues (lines t.line)) w)
      | false ↦ λ w. subst (λ ls. Ends a (to_come event s ls) c end) (sym told) (ends_after a b c _ _ end (x.continues (lines t.line)) w)
    ] in
    choose (is_cut end) y

-- what stands after an Ok, where two facts stand after it
pub on_ok_with : {T E P Q R : Type 0} (r : Result T E) → (P → Q → R) → OnOk r P → OnOk r Q → OnOk r R
on_ok_with (Ok x) f p q = f p q
on_ok_with (Err e) f p q = tt

-- a line feed came, and the line before it was taken
pub line_taken : {W : Type 0} (event : Events W) (a b : Bytes) (s t : Progress W) (line : List ℕ) → HasNoBreak s.line
    → line ≡ strip_carriage_return s.line → t.line ≡ [] → TakesLine event a s line b t
    → Advances event a s (10 ∷ []) b t
line_taken event a b s t line h e none step = line_advances event a b s t h none (subst (λ l. TakesLine event a s l b t) e step)

-- the last line was taken
pub finished_whole : {W : Type 0} (event : Events W) (a b : Bytes) (s t : Progress W) (n : ℕ) → n ≡ length s.line
    → HasNoBreak s.line → eqb (length s.line) 0 ≡ false → TakesLine event a s (take n s.line) b t
    → Ends a (to_come event s (lines s.line)) b status.Done
finished_whole event a b s t n e h some step =
    let whole : take n s.line ∷ [] ≡ lines s.line = ap (λ l. l ∷ []) (ap (λ k. take k s.line) e ∙ take-length s.line) ∙ sym (last_line s.line h some) in
    let here = step.continues [] in
    subst (λ ls. Ends a (to_come event s ls) b status.Done) whole
    (record {
      status_is = here.status_is;
      written = subst (Appends a b)
          (sym (here.parts ∙ append-nil here.text)) here.written;
    })

-- and leads to the world after it
pub goes_to_end : {W : Type 0} (event : Events W) (a b : Bytes) (s t : Progress W) (n : ℕ) → n ≡ length s.line
    → HasNoBreak s.line → eqb (length s.line) 0 ≡ false → TakesLine event a s (take n s.line) b t → GoesToEnd event s t
goes_to_end event a b s t n e h some step =
    let whole : take n s.line ∷ [] ≡ lines s.line = ap (λ l. l ∷ []) (ap (λ k. take k s.line) e ∙ take-length s.line) ∙ sym (last_line s.line h some) in
    ap (gone_from event s) (sym whole) ∙ step.leads []

-- the last line ended the run, or it was cut off
pub finished_early : {W : Type 0} (event : Events W) (a b : Bytes) (s : Progress W) (n : ℕ) → n ≡ length s.line
    → HasNoBreak s.line → eqb (length s.line) 0 ≡ false → (end : Stop) → LineBreaks event a s (take n s.line) b end
    → Finishes event a s b (status_of end)
finished_early event a b s n e h some end y =
    let whole : take n s.line ∷ [] ≡ lines s.line = ap (λ l. l ∷ []) (ap (λ k. take k s.line) e ∙ take-length s.line) ∙ sym (last_line s.line h some) in
    at_last whole end y
  where
    at_last : take n s.line ∷ [] ≡ lines s.line → (end : Stop) → LineBreaks event a s (take n s.line) b end → Finishes event a s b (status_of end)
    at_last whole (stop.Script n r) y = subst (λ ls. Ends a (to_come event s ls) b (status.Script n r)) whole (y [])
    at_last whole (stop.Limit n) y = subst (λ ls. Ends a (to_come event s ls) b (status.Limit n)) whole (y [])
    at_last whole stop.OutOfMemory y = subst (λ ls. AppendsFront a b (to_come event s ls).text) whole y
    at_last whole stop.WriteFault y = subst (λ ls. AppendsFront a b (to_come event s ls).text) whole y
