-- The invariant: the first i methods are there, clean, then methods without an id.
use Rattle.std.proofs.Common.{◌≡◌, map, length, take}
use Rattle.arrays.specs.Arrays.{padded}
use Rattle.state.specs.Running.{no_method, clean_method}
use Rattle.new_gate.proofs.used_methods.Given as goal

abbrev pub invariant-loop-i : goal.invariant-loop-i
invariant-loop-i l = (length l.list ≡ 8) × (length l.kept ≡ 8) × (l.kept ≡ padded 8 no_method (take l.i (map clean_method l.list)))
