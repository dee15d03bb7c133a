use Rattle.siri_document.proofs.OneDocument.{told_answers, told_all}
use Rattle.siri_document.proofs.document.answer_document.Goals as goal

pub returns-in-Ok-answer_of-clause-answers : goal.returns-in-Ok-answer_of-clause-answers
returns-in-Ok-answer_of-clause-answers g c = told_answers _ _ _ _ _ c.in-Ok.document.items c.in-Ok-answer_of.answer _
    c.in-Ok.ensures.document c.in-Ok-answer_of.ensures c.write.ensures.text

pub returns-in-Ok-answer_of-clause-all : goal.returns-in-Ok-answer_of-clause-all
returns-in-Ok-answer_of-clause-all g c = told_all _ _ _ _ _ c.in-Ok.document.items c.in-Ok-answer_of.answer _
    c.in-Ok.ensures.document c.in-Ok-answer_of.ensures c.write.ensures.text
