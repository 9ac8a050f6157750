-- What a function of the code leaves.
use Rattle.std.specs.Prelude.{◌≡◌, List, ℕ, ◌+◌, ◌≤◌, length}
use Rattle.arrays.specs.Arrays.{put}
use Rattle.saved_record.specs.SavedRecord.{CarIds, car_part}

-- the part of a car is written from `at` on, and `end` is the place after it; it has at most 1,089 bytes
pub record PutPart (before : List ℕ) (at : ℕ) (c : CarIds) (after : List ℕ) (end : ℕ) : Type 0 where
  pub bytes : after ≡ put before at (car_part c)
  pub place : end ≡ at + length (car_part c)
  pub short : length (car_part c) ≤ 1089
