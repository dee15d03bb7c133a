-- A round that is due, as a look finds it.
use Rattle.std.proofs.Common.{◌≡◌, ℕ, Bool, true, false, not, ◌&&◌, ◌||◌, nat_lt, List, None, Some, refl, ap, ◌∙◌}
use Rattle.std.specs.Prelude.{◌==◌, option_map}
use Rattle.siri_messages.specs.declared.message.Message.{Message}
use Rattle.siri_topic.specs.declared.subscription.Subscription.{Subscription}
use Rattle.siri_messages.specs.Asked.{AskedFor}
use Rattle.siri_records.specs.Keyed.{Items}
use Rattle.siri_change.specs.Changes as change
use Rattle.siri_change.specs.Parts.{led_to, load}
use Rattle.siri_life.specs.Life.{greatest_round}
use Rattle.siri_subs.specs.rounds.Wanted.{KeptRounds, RoundsOfChanges, WantedPart, rounds_carried, wanted_part, round_on}
use Rattle.siri_life.specs.Slot.{begun, is_message_due}
use Rattle.siri_subscriptions.specs.declared.looks.Opening.{Opening}
use Rattle.siri_subscriptions.specs.Openings.{with_opening}
use Rattle.siri_subscriptions.specs.Rounds.{looked, next_round}
use Rattle.siri_subscriptions.specs.Messages.{message_of, message_due}

-- a round is due after the last
abbrev pub due : Subscription → Items → RoundsOfChanges → Bool
due wanted direct rounds = nat_lt rounds.rounds_opened greatest_round
    && (rounds.rounds_opened == 0 || not (change.meets wanted.slack rounds.acknowledged direct))

pub opens : (wanted : Subscription) (direct : Items) (rounds : RoundsOfChanges) (opening : Opening)
    → rounds.outstanding ≡ None → due wanted direct rounds ≡ true
    → led_to rounds.acknowledged opening.incremental opening.changes ≡ change.target wanted.slack wanted.incremental rounds.acknowledged direct
    → opening.changes ≡ load rounds.acknowledged (change.target wanted.slack wanted.incremental rounds.acknowledged direct) wanted.incremental
    → (asked : AskedFor) → asked.subscription ≡ wanted → (now : ℕ) → with_opening now (Some opening) rounds ≡ looked asked direct now rounds
opens wanted direct rounds opening level is_due leads changes asked wants now =
    rw (wants, level, is_due) (λ i. begun rounds (round_on rounds.acknowledged now (leads i) (changes i)))

pub due_begins : (wanted : Subscription) (direct : Items) (rounds : RoundsOfChanges) → rounds.outstanding ≡ None → due wanted direct rounds ≡ true
    → (asked : AskedFor) → asked.subscription ≡ wanted → (now : ℕ) → begun rounds (next_round asked direct now rounds) ≡ looked asked direct now rounds
due_begins wanted direct rounds level is_due asked wants now = rw (wants, level, is_due) refl

pub stays : (wanted : Subscription) (direct : Items) (rounds : RoundsOfChanges) → rounds.outstanding ≡ None → due wanted direct rounds ≡ false
    → (asked : AskedFor) → asked.subscription ≡ wanted → (now : ℕ) → with_opening now None rounds ≡ looked asked direct now rounds
stays wanted direct rounds level is_due asked wants now = rw (wants, level, is_due) refl

not_not : (b : Bool) → not (not b) ≡ b
not_not true = refl
not_not false = refl

-- as a look tells whether one is due
pub is_found : (wanted : Subscription) (direct acknowledged : Items) (rounds : RoundsOfChanges) (last : ℕ) (differs found : Bool)
    → last ≡ rounds.rounds_opened → acknowledged ≡ rounds.acknowledged → differs ≡ not (change.meets wanted.slack acknowledged direct)
    → found ≡ (nat_lt last greatest_round && (last == 0 || not (not differs))) → found ≡ due wanted direct rounds
is_found wanted direct acknowledged rounds last differs found opened view differ is =
    is
    ∙ (ap (λ n. nat_lt n greatest_round && (n == 0 || not (not differs))) opened
    ∙ ap (λ b. nat_lt rounds.rounds_opened greatest_round && (rounds.rounds_opened == 0 || b))
    (not_not differs ∙ (differ ∙ ap (λ a. not (change.meets wanted.slack a direct)) view)))

-- ---- the message that is due

-- of the first part of a round that is to open
pub first_due : (producer : List ℕ) (start : ℕ) (wanted : Subscription) (number now : ℕ) (rounds : RoundsOfChanges)
    (opening : Opening) (part : WantedPart) (message : Message)
    → message ≡ message_of producer start wanted number part
    → Some part ≡ wanted_part (rounds_carried
    (begun rounds (round_on rounds.acknowledged now
    (led_to rounds.acknowledged opening.incremental opening.changes) opening.changes)))
    → Some message ≡ message_due producer start wanted number now (rounds_carried (with_opening now (Some opening) rounds))
first_due producer start wanted number now rounds opening part message is wants =
    ap Some is ∙ ap (option_map (message_of producer start wanted number)) wants

-- of the outstanding round
pub again_due : (producer : List ℕ) (start : ℕ) (wanted : Subscription) (number now : ℕ) (rounds : KeptRounds) (part : WantedPart) (message : Message)
    → message ≡ message_of producer start wanted number part → Some part ≡ wanted_part rounds → is_message_due rounds now ≡ true
    → Some message ≡ message_due producer start wanted number now rounds
again_due producer start wanted number now rounds part message is wants due =
    rw due (ap Some is ∙ ap (option_map (message_of producer start wanted number)) wants)
