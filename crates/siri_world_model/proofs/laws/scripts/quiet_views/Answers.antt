use Rattle.std.specs.Prelude.{refl}
use Rattle.siri_world_model.proofs.Happen.{all_in_turn}
use Rattle.siri_world_model.specs.laws.Opened.{opened}
use Rattle.siri_world_model.specs.laws.Scripts.{drifted, restarted}
use Rattle.siri_world_model.proofs.laws.scripts.quiet_views.Goals as goal

pub returns-clause-happen : goal.returns-clause-happen
unfolding opened
returns-clause-happen c = all_in_turn drifted (refl, (refl, (refl, (refl, (refl, (refl, (refl, (refl, tt))))))))

pub returns-clause-anew_happen : goal.returns-clause-anew_happen
unfolding opened
returns-clause-anew_happen c = all_in_turn restarted (refl, (refl, (refl, (refl, (refl, (refl, (refl, (refl, (refl, (refl, tt))))))))))
