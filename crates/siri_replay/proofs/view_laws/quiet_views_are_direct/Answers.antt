use Rattle.siri_replay.proofs.Shown.{views_direct}
use Rattle.siri_replay.proofs.view_laws.quiet_views_are_direct.Goals as goal

pub returns : goal.returns
returns c = views_direct
