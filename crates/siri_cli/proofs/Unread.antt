-- Words of `keep` that there was no memory to read.
use Rattle.std.proofs.Common.{ℕ, List, Option, None, Some, Err, refl, inl, inr, arith}
use Rattle.siri_outside.specs.OutsideCalls.{KeeperState, RaisesNumber, WhereTold}
use Rattle.siri_outside.specs.declared.errors.OutsideError.TheVariants as outside_error
use Rattle.siri_base.specs.declared.status.Status.TheVariants as status
use Rattle.siri_lines.specs.Ends.{Bytes}
use Rattle.siri_outside.specs.Shelves.{ShelfState}
use Rattle.siri_runs.specs.Calls.{Outside}
use Rattle.siri_runs.specs.declared.network_error.NetworkError.TheVariants as error
use Rattle.siri_keep_run.specs.Left.{KeepAnswered, KeepTrail}
use Rattle.siri_keep_run.specs.Opening.{FailsToOpen}
use Rattle.siri_keep_run.specs.Runs.{KeepRun}

opens_nothing : (name listen file : List ℕ) (shelf : Option ShelfState) (outside : Outside)
    → FailsToOpen name listen file status.OutOfMemory shelf shelf outside outside
opens_nothing name listen file shelf outside = inl (record {
  error = error.OutOfMemory;
  end_is = refl;
  fails = inl (record {
    raises = record {
      failure = outside_error.OutOfMemory;
      error_is = refl;
      call = record {
        does = stays outside.keeper.tells;
        cause = record { later = omega arith; failed = λ is. absurd (cc is) };
      };
    };
    rest = refl;
  });
  same = refl;
})
  where
    stays : (keeper : Option KeeperState) → WhereTold keeper keeper (λ old new. RaisesNumber old new (Err outside_error.OutOfMemory))
    stays None = tt
    stays (Some state) = refl

-- nothing was done
pub unread_keeps : (name listen file : List ℕ) (count : ℕ) (shelf : Option ShelfState) (outside : Outside) (held : Bytes)
    → KeepRun name listen file count shelf shelf outside outside held held status.OutOfMemory
unread_keeps name listen file count shelf outside held = inr (inl (opens_nothing name listen file shelf outside), refl)

pub unread_trail : (name listen file : List ℕ) (count : ℕ) (shelf : Option ShelfState) (outside : Outside)
    → WhereTold shelf shelf (KeepTrail name listen file count outside)
unread_trail name listen file count None outside = tt
unread_trail name listen file count (Some s) outside = inl refl

pub unread_answered : (name listen file : List ℕ) (count : ℕ) (shelf : Option ShelfState) (outside : Outside)
    → WhereTold shelf shelf (KeepAnswered name listen file count status.OutOfMemory outside outside)
unread_answered name listen file count None outside = tt
unread_answered name listen file count (Some s) outside = inl (opens_nothing name listen file (Some s) outside)
