use Rattle.siri_row_texts.proofs.PlaceOrder.{place_digits, places_ascend, twenty}
use Rattle.siri_row_texts.proofs.laws.places_ascend.Goals as goal

pub returns-clause-order : goal.returns-clause-order
returns-clause-order c = places_ascend

pub returns-clause-twenty : goal.returns-clause-twenty
returns-clause-twenty c = twenty

pub returns-clause-digits : goal.returns-clause-digits
returns-clause-digits c = place_digits
