use Rattle.siri_cli.proofs.Unread.{unread_answered, unread_keeps, unread_trail}
use Rattle.siri_cli.proofs.keeping.run_all.Goals as goal

pub returns-in-Err-clause-keep : goal.returns-in-Err-clause-keep
returns-in-Err-clause-keep g c = λ k _. unread_keeps k.name k.listen k.file k.count _ _ _

pub returns-in-Err-clause-keep_trail : goal.returns-in-Err-clause-keep_trail
returns-in-Err-clause-keep_trail g c = λ k _. unread_trail k.name k.listen k.file k.count _ _

pub returns-in-Err-clause-keep_answered : goal.returns-in-Err-clause-keep_answered
returns-in-Err-clause-keep_answered g c = λ k _. unread_answered k.name k.listen k.file k.count _ _
