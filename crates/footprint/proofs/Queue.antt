-- What a run of turns leaves of the core: all but the probe, as allow does.
use mathlib.Core.Path.{◌≡◌, ap, ◌∙◌}
use mathlib.Core.List.{List, [], ◌∷◌}
use Prim.Native.Nat.{ℕ, zero, suc}
use Rattle.phones.specs.Ids.{some_of}
use Rattle.waiting_list.specs.declared.Waiting.{Waiting}
use Rattle.state.specs.declared.Core.{Core}
use Rattle.state.specs.declared.Queue.{Queue}
use Rattle.state.specs.View.{Lists}
use Rattle.can_turns.specs.Turns.{Serving, turn, turns, serving}
use Rattle.footprint.specs.Footprint.{Part, in_core, probe}
use Rattle.footprint.proofs.Keeps.{mixed, unchanged}
use Rattle.footprint.proofs.Core.{allow_keeps}

abbrev probed : List Part
probed = in_core probe ∷ []

turns_keep : (l : Lists) (clock n : ℕ) (s : Serving) → (turns l clock n s).core ≡ mixed probed s.core (turns l clock n s).core
unfolding turns turn some_of
turns_keep l clock zero s = unchanged probed s.core
turns_keep l clock (suc n) s = (allow_keeps (turns l clock n s).core _ _ _ _ clock).core ∙ ap (λ (c : Core). mixed probed c (turns l clock (suc n) s).core) (turns_keep l clock n s)

pub serving_keeps : (c : Core) (l : Lists) (q : Queue) (ws : List Waiting) (n clock : ℕ) → let d = (serving c l q ws n clock).core in d ≡ mixed probed c d
unfolding serving
serving_keeps c l q ws n clock = turns_keep l clock _ _
