-- What a start comes to past its refusals.
use mathlib.Core.Path.{◌≡◌, refl}
use mathlib.Core.Bool.{Bool, true, false}
use mathlib.Core.List.{List}
use Prim.Native.Nat.{ℕ}
use Rattle.state.specs.Checks.{checked}
use Rattle.state.specs.declared.Kind.{Kind}
use Rattle.state.specs.declared.Kind.TheVariants.{CodeEntry, InCarAction}
use Rattle.state.specs.declared.Core.{Core}
use Rattle.validation.specs.Calls.{start_as}
use Rattle.start_checks.specs.Way.{way_as, taken}

pub taken_as : (c : Core) (phone : List ℕ) (at clock : ℕ) (lent gives : Bool) (k : Kind) → taken c phone at clock (way_as lent gives k) ≡ start_as c phone at clock lent gives k
unfolding checked
taken_as c phone at clock lent gives InCarAction = refl
taken_as c phone at clock true true CodeEntry = refl
taken_as c phone at clock true false CodeEntry = refl
taken_as c phone at clock false gives CodeEntry = refl
