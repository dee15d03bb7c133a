use Rattle.std.proofs.Common.{refl, sym, subst}
use Rattle.std.proofs.lemmas.Result.{IfOk-weaker}
use Rattle.siri_world_model.specs.declared.event.Event.TheVariants as event
use Rattle.siri_world_model.specs.Consumers.{consumer_of, consumer_or_new}
use Rattle.siri_world_model.specs.Packets.{packet_at}
use Rattle.siri_world_model.specs.Effects.{effect, started, clocked, fed, asked, subscribed, terminated, restarted}
use Rattle.siri_world_model.specs.Effects.{checked, delivered}
use Rattle.siri_world.specs.Doing.{Does}
use Rattle.siri_world.proofs.Deeds.{happen_as}
use Rattle.siri_world.proofs.world.World.happen.Goals as goal

pub returns-in-Start : goal.returns-in-Start
unfolding effect
returns-in-Start c = happen_as c.start.result c.args.self.now c.start.new.self c.args.event
    (event.Start c.in-Start.moment) (λ w. started w c.in-Start.moment) c.in-Start.is (λ w. refl) c.start.ensures

pub returns-in-Clock : goal.returns-in-Clock
unfolding effect
returns-in-Clock c = happen_as c.clock.result c.args.self.now c.clock.new.self c.args.event
    (event.Clock c.in-Clock.moment) (λ w. clocked w c.in-Clock.moment) c.in-Clock.is (λ w. refl) c.clock.ensures

pub returns-in-Feed : goal.returns-in-Feed
unfolding effect
returns-in-Feed c = happen_as c.feed.result c.args.self.now c.feed.new.self c.args.event
    (event.Feed c.in-Feed.delivery) (λ w. fed w c.in-Feed.delivery) c.in-Feed.is (λ w. refl) c.feed.ensures

pub returns-in-Ask : goal.returns-in-Ask
unfolding effect
returns-in-Ask c = happen_as c.ask.result c.args.self.now c.ask.new.self c.args.event (event.Ask c.in-Ask.request)
    (λ w. asked w c.in-Ask.request) c.in-Ask.is (λ w. refl) c.ask.ensures

pub returns-in-Subscribe : goal.returns-in-Subscribe
unfolding effect
returns-in-Subscribe c = happen_as c.subscribe.result c.args.self.now c.subscribe.new.self c.args.event
    (event.Subscribe c.in-Subscribe.consumer c.in-Subscribe.wanted c.in-Subscribe.beat)
    (λ w. subscribed w (consumer_or_new w.moment c.in-Subscribe.consumer
    (consumer_of c.in-Subscribe.consumer w.consumers)) c.in-Subscribe.wanted c.in-Subscribe.beat) c.in-Subscribe.is
    (λ w. refl) c.subscribe.ensures

pub returns-in-Terminate : goal.returns-in-Terminate
unfolding effect
returns-in-Terminate c = happen_as c.terminate.result c.args.self.now c.terminate.new.self c.args.event
    (event.Terminate c.in-Terminate.consumer c.in-Terminate.identifier)
    (λ w. terminated w c.in-Terminate.consumer c.in-Terminate.identifier
    (consumer_of c.in-Terminate.consumer w.consumers)) c.in-Terminate.is (λ w. refl) c.terminate.ensures

pub returns-in-Restart : goal.returns-in-Restart
unfolding effect
returns-in-Restart c = happen_as c.restart.result c.args.self.now c.restart.new.self c.args.event
    (event.Restart c.in-Restart.consumer) (λ w. restarted w c.in-Restart.consumer
    (consumer_of c.in-Restart.consumer w.consumers)) c.in-Restart.is (λ w. refl) c.restart.ensures

pub returns-in-Status : goal.returns-in-Status
unfolding effect
returns-in-Status c = happen_as c.check.result c.args.self.now c.args.self.now c.args.event
    (event.Status c.in-Status.consumer) (λ w. checked w c.in-Status.consumer
    (consumer_of c.in-Status.consumer w.consumers)) c.in-Status.is (λ w. refl) c.check.ensures

pub returns-in-Deliver : goal.returns-in-Deliver
unfolding effect
returns-in-Deliver c = happen_as c.deliver.result c.args.self.now c.deliver.new.self c.args.event
    (event.Deliver c.in-Deliver.number) (λ w. delivered w c.in-Deliver.number (packet_at c.in-Deliver.number w.packets))
    c.in-Deliver.is (λ w. refl) c.deliver.ensures

pub returns-in-View : goal.returns-in-View
unfolding effect
returns-in-View c = IfOk-weaker c.view.result _ _
    (λ happened does w k goals. subst (λ e. Does (effect w e) happened c.args.self.now) (sym c.in-View.is)
    (does w k goals)) c.view.ensures
