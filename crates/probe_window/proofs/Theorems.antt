-- What awake means: P8, P9 and W-201 speak of it.
use mathlib.Core.Path.{◌≡◌}
use mathlib.Core.Bool.{Bool, true, and-eq-true_iff}
use mathlib.Core.Logic.{◌↔◌}
use Prim.Native.Nat.{ℕ, ◌+◌, ◌-◌, ◌≤◌}
use native.Mathlib.Omega.{arith}
use borrow.Author.Tests.{le-leb, leb-true}
use Rattle.probe_window.specs.Window.{is_awake}

-- a bus is awake exactly if a frame was heard on it, not later than now, and at most 1,000 ms ago; nothing wraps
pub awake_exactly : (heard : Bool) (mark clock : ℕ) → is_awake heard mark clock ≡ true ↔ (heard ≡ true) × (mark ≤ clock) × (clock ≤ mark + 1_000)
unfolding is_awake
awake_exactly heard mark clock = (
  λ e.
      let h = simp and-eq-true_iff at e in
      let k = leb-true (clock - mark) 1_000 h.1 in
      (h.0.0, leb-true mark clock h.0.1, omega arith),
  λ w.
      let h = w.1 in
      let k = w.2 in
      rw (w.0, le-leb mark clock h, le-leb (clock - mark) 1_000 (omega arith)),
)
