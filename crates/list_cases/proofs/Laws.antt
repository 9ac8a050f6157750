-- Laws of the definitions of specs/.
use Rattle.std.proofs.Common.{◌≡◌, ℕ, zero, suc, ◌+◌, ◌-◌, ◌%◌, ◌^◌, ◌<◌, arith}
use Rattle.list_cases.specs.declared.Draft.{Draft}
use Rattle.list_cases.specs.Records.{with_byte, with_run}

-- a run that is not empty: its first byte, then the others
pub run_turn : (b step n : ℕ) (w : Draft) → 0 < n → with_run b step n w ≡ with_run ((b + step) % 2 ^ 8) step (n - 1) (with_byte b w)
unfolding with_run
run_turn b step zero w h = absurd (omega arith)
run_turn b step (suc n) w h = let e : suc n - 1 ≡ n = omega arith in rw e

pub run_end : (b step n : ℕ) (w : Draft) → n ≡ 0 → with_run b step n w ≡ w
unfolding with_run
run_end b step n w h = rw h
