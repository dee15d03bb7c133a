-- What calls of a source or of a sink met of named failures, one after the other.
use Rattle.std.proofs.Common.{◌≡◌, ℕ, ◌+◌, ◌≤◌, List, None, Some, Bool, true, false, Result, Ok, Err, length, take, refl, sym, ap, ◌∙◌}
use Rattle.std.proofs.Common.{subst, arith, length-append}
use Rattle.std.specs.Io.{ReadsAtMost, WritesAtMost}
use Rattle.std.specs.Io.KnownBytes.{ReadConsumes, WriteAppends, Appends, Consumes, Keeps}
use Rattle.std.proofs.lemmas.List.{length-take}
use Rattle.siri_outside.proofs.MetFailures.{passes_none, passes_more, passes_failing}
use Rattle.siri_outside.specs.Failures.{Passes, ReadMeets, WriteMeets}
use Rattle.siri_outside.specs.MetFailures.{Meets, Takes, Puts, SourceMeets, SinkMeets, has_failed, is_write_fault}
use Rattle.siri_outside.specs.OutsideCalls.{WhereTold}
use Rattle.siri_outside.specs.declared.errors.Failed.{Failed}
use Rattle.siri_outside.specs.declared.errors.OutsideError.{OutsideError}
use Rattle.siri_outside.specs.declared.errors.OutsideError.TheVariants as outside
use Rattle.siri_lines.specs.Brings.{has_failed_to_write}
use Rattle.siri_lines.specs.Ends.{Bytes}
use Rattle.siri_lines.specs.Stops.{sink_stop, status_of}
use Rattle.siri_lines.specs.declared.stop.Stop.{Stop}
use Rattle.siri_lines.specs.declared.stop.Stop.TheVariants as stop

-- ---- failures alone

meets_after : (failed : Bool) (a b c : List ℕ) (n m : ℕ) → Passes a b n → Meets failed b c m → Meets failed a c (n + m)
meets_after false a b c n m p q = passes_more a b c n m p q
meets_after true a b c n m p q = passes_failing a b c n m p q

-- ---- a sink

put_none : (a : Bytes) (fails : List ℕ) → Puts false a a fails fails
put_none None fails = record { count = 0; bytes = tt; meets = passes_none fails }
put_none (Some held) fails = record { count = 0; bytes = omega arith; meets = passes_none fails }

-- nothing was written
pub sink_none : (a fails : Bytes) → SinkMeets false a a fails fails
sink_none a None = tt
sink_none a (Some fails) = put_none a fails

grown_more : (a b c : Bytes) (n m : ℕ) → WhereTold a b (λ held more. length more ≡ length held + n)
    → WhereTold b c (λ held more. length more ≡ length held + m)
    → WhereTold a c (λ held more. length more ≡ length held + (n + m))
grown_more None b c n m p q = tt
grown_more (Some x) None c n m p q = absurd p
grown_more (Some x) (Some y) None n m p q = absurd q
grown_more (Some x) (Some y) (Some z) n m p q = omega (arith, p, q)

put_more : (failed : Bool) (a b c : Bytes) (f g h : List ℕ) → Puts false a b f g → Puts failed b c g h → Puts failed a c f h
put_more failed a b c f g h p q = record {
  count = p.count + q.count;
  bytes = grown_more a b c p.count q.count p.bytes q.bytes;
  meets = meets_after failed f g h p.count q.count p.meets q.meets;
}

-- something was written, and then more
pub sink_more : (failed : Bool) (a b c f g h : Bytes) → SinkMeets false a b f g → SinkMeets failed b c g h → SinkMeets failed a c f h
sink_more failed a b c None g h p q = tt
sink_more failed a b c (Some f) None h p q = absurd p
sink_more failed a b c (Some f) (Some g) None p q = absurd q
sink_more failed a b c (Some f) (Some g) (Some h) p q = put_more failed a b c f g h p q

grown_by : (a b : Bytes) (piece : List ℕ) (n : ℕ) → n ≤ length piece → Appends a b (take n piece) → WhereTold a b (λ held more. length more ≡ length held + n)
grown_by None b piece n h p = tt
grown_by (Some x) None piece n h p = absurd p
grown_by (Some x) (Some y) piece n h p = ap length p ∙ length-append x (take n piece) ∙ ap (λ k. length x + k) (length-take n piece ∙ omega (arith, h))

grown_none : (a b : Bytes) → Keeps a b → WhereTold a b (λ held more. length more ≡ length held + 0)
grown_none None b p = tt
grown_none (Some x) None p = absurd p
grown_none (Some x) (Some y) p = ap length p ∙ omega arith

put_call : (r : Result ℕ OutsideError) (a b : Bytes) (f g piece : List ℕ) → WritesAtMost r piece
    → WriteAppends a b r piece → WriteMeets f g r (length piece) → Puts (has_failed r) a b f g
put_call (Ok n) a b f g piece h p q = record { count = n; bytes = grown_by a b piece n h p; meets = q.0 }
put_call (Err outside.Failed) a b f g piece h p q = record { count = 0; bytes = grown_none a b p; meets = q.0 }
put_call (Err outside.OutOfMemory) a b f g piece h p q =
    record { count = 0; bytes = grown_none a b p; meets = subst (λ l. Passes f l 0) (sym q) (passes_none f) }

-- one write
pub sink_write : (r : Result ℕ OutsideError) (a b f g : Bytes) (piece : List ℕ) → WritesAtMost r piece
    → WriteAppends a b r piece → WhereTold f g (λ old new. WriteMeets old new r (length piece))
    → SinkMeets (has_failed r) a b f g
sink_write r a b None g piece h p q = tt
sink_write r a b (Some f) None piece h p q = absurd q
sink_write r a b (Some f) (Some g) piece h p q = put_call r a b f g piece h p q

-- what a line ends with where its sink couldn't be written to
pub stop_failed : (e : OutsideError) → has_failed_to_write {T = Unit {0}} (Err (sink_stop e)) ≡ has_failed {T = Unit {0}} (Err e)
stop_failed outside.Failed = refl
stop_failed outside.OutOfMemory = refl

-- what a run ends with at a line
pub status_failed : (s : Stop) → is_write_fault (status_of s) ≡ has_failed_to_write {T = Unit {0}} (Err s)
status_failed (stop.Script n reason) = refl
status_failed (stop.Limit n) = refl
status_failed stop.OutOfMemory = refl
status_failed stop.WriteFault = refl

-- ---- a source

-- a call of a source failed
abbrev pub read_failed : {T : Type 0} → Result T Failed → Bool
read_failed (Ok value) = false
read_failed (Err failed) = true

take_none : (a : Bytes) (fails : List ℕ) → Takes false a a fails fails
take_none None fails = record { count = 0; bytes = tt; meets = passes_none fails }
take_none (Some left) fails = record { count = 0; bytes = omega arith; meets = passes_none fails }

-- nothing was read
pub source_none : (a fails : Bytes) → SourceMeets false a a fails fails
source_none a None = tt
source_none a (Some fails) = take_none a fails

shrunk_more : (a b c : Bytes) (n m : ℕ) → WhereTold a b (λ left later. length left ≡ n + length later)
    → WhereTold b c (λ left later. length left ≡ m + length later)
    → WhereTold a c (λ left later. length left ≡ (n + m) + length later)
shrunk_more None b c n m p q = tt
shrunk_more (Some x) None c n m p q = absurd p
shrunk_more (Some x) (Some y) None n m p q = absurd q
shrunk_more (Some x) (Some y) (Some z) n m p q = omega (arith, p, q)

take_more : (failed : Bool) (a b c : Bytes) (f g h : List ℕ) → Takes false a b f g → Takes failed b c g h → Takes failed a c f h
take_more failed a b c f g h p q = record {
  count = p.count + q.count;
  bytes = shrunk_more a b c p.count q.count p.bytes q.bytes;
  meets = meets_after failed f g h p.count q.count p.meets q.meets;
}

-- something was read, and then more
pub source_more : (failed : Bool) (a b c f g h : Bytes) → SourceMeets false a b f g → SourceMeets failed b c g h → SourceMeets failed a c f h
source_more failed a b c None g h p q = tt
source_more failed a b c (Some f) None h p q = absurd p
source_more failed a b c (Some f) (Some g) None p q = absurd q
source_more failed a b c (Some f) (Some g) (Some h) p q = take_more failed a b c f g h p q

shrunk_by : (a b : Bytes) (buffer : List ℕ) (n : ℕ) → n ≤ length buffer → Consumes a b (take n buffer)
    → WhereTold a b (λ left later. length left ≡ n + length later)
shrunk_by None b buffer n h p = tt
shrunk_by (Some x) None buffer n h p = absurd p
shrunk_by (Some x) (Some y) buffer n h p = ap length p ∙ length-append (take n buffer) y ∙ ap (λ k. k + length y) (length-take n buffer ∙ omega (arith, h))

shrunk_none : (a b : Bytes) → Keeps a b → WhereTold a b (λ left later. length left ≡ 0 + length later)
shrunk_none None b p = tt
shrunk_none (Some x) None p = absurd p
shrunk_none (Some x) (Some y) p = sym (ap length p) ∙ omega arith

take_call : (r : Result ℕ Failed) (a b : Bytes) (f g buffer : List ℕ) → ReadsAtMost r buffer → ReadConsumes a b r buffer
    → ReadMeets f g r (length buffer) → Takes (read_failed r) a b f g
take_call (Ok n) a b f g buffer h p q = record { count = n; bytes = shrunk_by a b buffer n h.0 p.0; meets = q.0 }
take_call (Err failed) a b f g buffer h p q = record { count = 0; bytes = shrunk_none a b p; meets = q.0 }

-- one read
pub source_read : (r : Result ℕ Failed) (a b f g : Bytes) (buffer : List ℕ) → ReadsAtMost r buffer
    → ReadConsumes a b r buffer → WhereTold f g (λ old new. ReadMeets old new r (length buffer))
    → SourceMeets (read_failed r) a b f g
source_read r a b None g buffer h p q = tt
source_read r a b (Some f) None buffer h p q = absurd q
source_read r a b (Some f) (Some g) buffer h p q = take_call r a b f g buffer h p q
