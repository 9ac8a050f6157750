-- The k of 5.1.1 is what the paper says: the smallest number for which l + 1 + k is 448 modulo 512.
use Rattle.std.proofs.Common.{◌≡◌, ℕ, ◌+◌, ◌%◌, ◌≤◌, arith}
use Rattle.sha256.specs.Sha256.{k}

pub k_solves : (l : ℕ) → (l + 1 + k l) % 512 ≡ 448
k_solves l = omega arith

pub k_smallest : (l j : ℕ) → (l + 1 + j) % 512 ≡ 448 → k l ≤ j
k_smallest l j h = omega arith
