-- Demand 3.
use Rattle.two_runs.specs.Demand.{Demand3}
use Rattle.two_runs.proofs.Secrecy.{look_alike, stay_alike}
use Rattle.two_runs.proofs.Tries.{limited}

pub demand3 : Demand3
demand3 = record {
  secret = λ g h cs ds e r. (look_alike g h cs ds e.0 r, stay_alike g h cs ds e r);
  secret_wide = look_alike;
  limited = limited;
}
