-- A script that is taken line by line.
use Rattle.std.proofs.Common.{[]}
use Rattle.siri_base.specs.declared.status.Status.{Status}
use Rattle.siri_lines.specs.Ends.{Bytes}
use Rattle.siri_lines.specs.Reports.{Reports, report_of}
use Rattle.siri_lines.specs.RunResult.{verdict}
use Rattle.siri_replay.specs.Report.{event, report, most_lines}

-- the report is that of the lines, with no event before them
pub as_report : (input left old new : Bytes) (end : Status)
    → Reports (report_of (verdict most_lines event) []) input left old new end → Reports report input left old new end
unfolding report
as_report input left old new end r = r
