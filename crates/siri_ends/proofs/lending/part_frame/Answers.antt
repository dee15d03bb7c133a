use Rattle.siri_ends.proofs.LentTexts.{frames_part}
use Rattle.siri_ends.proofs.lending.part_frame.Goals as goal

pub returns : goal.returns
returns c = frames_part c.args.producer.now c.args.start c.args.lent.now c.in_ok-head.head c.reply_frame-frame.result
    c.in_ok-head.ensures
    c.reply_frame-frame.ensures.text c.reply_frame-frame.ensures.there
