-- A report of lines is that of the first of them, and then what the others bring.
use Rattle.std.proofs.Common.{◌≡◌, ℕ, ◌+◌, List, [], ◌∷◌, ◌++◌, length, Some, refl, sym, ap, ◌∙◌, append_assoc, arith}
use Rattle.std.proofs.lemmas.Option.{none-some, same_Some}
use Rattle.siri_lines.specs.RunResult.{Verdict, Goes, RunEnds, Events, goes_on, report_from}
use Rattle.siri_lines.specs.Fronts.{gone_on, gone_through}

module _ {W : Type 0} (event : Events W) where
  -- the report of all lines is that of those before, this text, and something more
  pub record Splits (n : ℕ) (world : W) (before all : List (List ℕ)) (text : List ℕ) : Type 0 where
    pub later : List ℕ
    pub written : (report_from event n world all).text ≡ (report_from event n world before).text ++ (text ++ later)

  -- the line right after them brings the text
  splits_here : (n : ℕ) (world next : W) (line : List ℕ) (after : List (List ℕ)) (text : List ℕ) (v : Verdict W)
      → event n world line ≡ v → v ≡ Goes text next → Splits n world [] (line ∷ after) text
  splits_here n world next line after text v at goes = record {
    later = (report_from event (n + 1) next after).text;
    written = ap (λ w. (goes_on w (λ u. report_from event (n + 1) u after)).text) (at ∙ goes);
  }

  pub splits : (before : List (List ℕ)) (n : ℕ) (world end next : W) (line : List ℕ) (after : List (List ℕ)) (text : List ℕ)
      → gone_through event n world before ≡ Some end → event (n + length before) end line ≡ Goes text next
      → Splits n world before (before ++ line ∷ after) text
  splits [] n world end next line after text gone brings =
      splits_here n world next line after text (event n world line) refl
      (ap (λ w. event n w line) (same_Some world end gone) ∙ ap (λ m. event m end line) (omega arith) ∙ brings)
  splits (first ∷ before) n world end next line after text gone brings =
      by (event n world first) refl (λ w gone_later. splits before (n + 1) w end next line after text gone_later
      (ap (λ m. event m end line) (omega arith) ∙ brings))
    where
      by : (v : Verdict W) → event n world first ≡ v
          → ((w : W) → gone_through event (n + 1) w before ≡ Some end → Splits (n + 1) w before (before ++ line ∷ after) text)
          → Splits n world (first ∷ before) (first ∷ (before ++ line ∷ after)) text
      by (Goes said w) at more =
          let s = more w (sym (ap (λ v. gone_on v (λ u. gone_through event (n + 1) u before)) at) ∙ gone) in
          record {
            later = s.later;
            written = ap (λ v. (goes_on v (λ u. report_from event (n + 1) u (before ++ line ∷ after))).text) at
                ∙ ap (λ t. said ++ t) s.written
                ∙ sym (append_assoc said (report_from event (n + 1) w before).text (text ++ s.later))
                ∙ sym (ap (λ v. (goes_on v (λ u. report_from event (n + 1) u before)).text ++ (text ++ s.later)) at);
          }
      by (RunEnds status) at more = absurd (none-some end (sym (ap (λ v. gone_on v (λ u. gone_through event (n + 1) u before)) at) ∙ gone))
