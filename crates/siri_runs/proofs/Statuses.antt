-- What a status says of a run: whether a source or a sink ended it, and whether its work was done.
use Rattle.std.proofs.Common.{◌≡◌, [], None, Some, true, false, refl, subst}
use Rattle.siri_outside.specs.MetFailures.{SourceMeets, is_read_fault, is_write_fault}
use Rattle.siri_base.specs.declared.status.Status.{Status}
use Rattle.siri_base.specs.declared.status.Status.TheVariants as status
use Rattle.siri_lines.specs.Ends.{Bytes, ReadsAll}
use Rattle.siri_runs.specs.Errors.{status_of}
use Rattle.siri_runs.specs.declared.network_error.NetworkError.{NetworkError}
use Rattle.siri_runs.specs.declared.network_error.NetworkError.TheVariants as error

-- no source ended it
pub no_read_fault : (e : NetworkError) → is_read_fault (status_of e) ≡ false
no_read_fault error.WireFault = refl
no_read_fault error.ClockFault = refl
no_read_fault error.KeeperFault = refl
no_read_fault error.ShelfFault = refl
no_read_fault error.OutOfMemory = refl

-- one that ended otherwise than by its sink
pub written_unless : (end : Status) → (end ≡ status.WriteFault → ⊥) → is_write_fault end ≡ false
written_unless status.Done not = refl
written_unless status.Refused not = refl
written_unless status.Usage not = refl
written_unless (status.Script n why) not = refl
written_unless status.ReadFault not = refl
written_unless (status.Limit n) not = refl
written_unless status.WireFault not = refl
written_unless status.OutOfMemory not = refl
written_unless status.WriteFault not = absurd (not refl)
written_unless status.ClockFault not = refl
written_unless status.KeeperFault not = refl
written_unless status.ShelfFault not = refl
written_unless (status.BadShelf shelf) not = refl

pub no_source_failure : (left later old new : Bytes) → old ≡ Some [] → SourceMeets true left later old new → ⊥
no_source_failure left later None new is met = cc is
no_source_failure left later (Some fails) None is met = met
no_source_failure left later (Some fails) (Some after) is met = cc (is, met.meets)

-- so no source ended the run
pub read_unless_named : (end : Status) (left later old new : Bytes) → old ≡ Some []
    → SourceMeets (is_read_fault end) left later old new → end ≡ status.ReadFault → ⊥
read_unless_named end left later old new is met e = no_source_failure left later old new is
    (subst (λ s. SourceMeets (is_read_fault s) left later old new) e met)

-- nothing is said of what is left where the work wasn't done
pub reads_unless : (left : Bytes) (end : Status) → (end ≡ status.Done → ⊥) → ReadsAll left end
reads_unless None end not = tt
reads_unless (Some left) status.Done not = absurd (not refl)
reads_unless (Some left) status.Refused not = tt
reads_unless (Some left) status.Usage not = tt
reads_unless (Some left) (status.Script n why) not = tt
reads_unless (Some left) status.ReadFault not = tt
reads_unless (Some left) (status.Limit n) not = tt
reads_unless (Some left) status.WireFault not = tt
reads_unless (Some left) status.OutOfMemory not = tt
reads_unless (Some left) status.WriteFault not = tt
reads_unless (Some left) status.ClockFault not = tt
reads_unless (Some left) status.KeeperFault not = tt
reads_unless (Some left) status.ShelfFault not = tt
reads_unless (Some left) (status.BadShelf shelf) not = tt
