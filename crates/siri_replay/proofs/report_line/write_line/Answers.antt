use Rattle.siri_lines.proofs.Written.{front_none}
use Rattle.siri_document.proofs.Results.{on_err}
use Rattle.siri_replay.proofs.report_line.write_line.Goals as goal

pub returns-in_err-front-in-Packet-clause-err : goal.returns-in_err-front-in-Packet-clause-err
returns-in_err-front-in-Packet-clause-err g c = on_err c.from_residual-in_err-front-in-Packet.result (front_none _ _)

pub returns-in_err-document-in-Packet-clause-err : goal.returns-in_err-document-in-Packet-clause-err
returns-in_err-document-in-Packet-clause-err g c = on_err c.from_residual-in_err-document-in-Packet.result (front_none _ _)

pub returns-in_err-view-in-View-clause-err : goal.returns-in_err-view-in-View-clause-err
returns-in_err-view-in-View-clause-err g c = on_err c.from_residual-in_err-view-in-View.result (front_none _ _)
