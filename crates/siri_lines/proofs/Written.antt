-- What was written of a text.
use Rattle.std.proofs.Common.{◌≡◌, ℕ, List, [], ◌++◌, refl, sym, ap, ◌∙◌, append_assoc, take, drop, take-append-drop}
use Rattle.std.specs.Io.KnownBytes.{Appends}
use Rattle.std.proofs.KnownBytes.{Appends-nil, Appends-trans}
use Rattle.siri_lines.specs.Ends.{Bytes, AppendsFront}

-- the text but for this rest was written
pub record Wrote (old new : Bytes) (text rest : List ℕ) : Type 0 where
  pub front : List ℕ
  pub parts : text ≡ front ++ rest
  pub written : Appends old new front

-- nothing was written yet
pub wrote_none : (a : Bytes) (text : List ℕ) → Wrote a a text text
wrote_none a text = record { front = []; parts = refl; written = Appends-nil a }

-- a front of the rest was written
pub wrote_more : (a b c : Bytes) (text rest : List ℕ) (n : ℕ) → Wrote a b text rest → Appends b c (take n rest) → Wrote a c text (drop n rest)
wrote_more a b c text rest n w p = record {
  front = w.front ++ take n rest;
  parts = w.parts ∙ ap (λ l. w.front ++ l) (sym (take-append-drop n rest)) ∙ sym (append_assoc w.front (take n rest) (drop n rest));
  written = Appends-trans a b c w.front (take n rest) w.written p;
}

-- nothing of it was written yet
pub front_none : (a : Bytes) (text : List ℕ) → AppendsFront a a text
front_none a text = record { front = []; rest = text; parts = refl; written = Appends-nil a }

-- a front of a text is a front of what begins with it
pub front_longer : (a b : Bytes) (text later : List ℕ) → AppendsFront a b text → AppendsFront a b (text ++ later)
front_longer a b text later w = record {
  front = w.front;
  rest = w.rest ++ later;
  parts = ap (λ l. l ++ later) w.parts ∙ append_assoc w.front w.rest later;
  written = w.written;
}

-- a text was written, and a front of what follows it
pub front_more : (a b c : Bytes) (text later : List ℕ) → Appends a b text → AppendsFront b c later → AppendsFront a c (text ++ later)
front_more a b c text later p w = record {
  front = text ++ w.front;
  rest = w.rest;
  parts = ap (λ l. text ++ l) w.parts ∙ sym (append_assoc text w.front w.rest);
  written = Appends-trans a b c text w.front p w.written;
}
