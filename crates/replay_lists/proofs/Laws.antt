-- Laws of the definitions of specs/.
use mathlib.Core.Path.{◌≡◌, refl, ap, ◌∙◌}
use mathlib.Core.List.{List, ◌∷◌}
use Prim.Native.Nat.{ℕ, ◌+◌, ◌≤◌, ◌<◌}
use native.Mathlib.Nat.{le_antisymm}
use native.Mathlib.Omega.{arith}
use lib.ListN.{length, take, drop, replicate}
use Rattle.arrays.specs.Arrays.{put}
use Rattle.phones.specs.Phones.{id_of}
use Rattle.phones.specs.declared.ShortId.{ShortId}
use Rattle.replay_script.proofs.Laws.{found, found_le, split_first, word_turn, split_end}
use Rattle.replay_script.specs.Words.{split, after_first, part}
use Rattle.replay_digits.proofs.Laws.{put_zeros}
use Rattle.replay_lists.specs.Lists.{not_three, three, three_of}
use Rattle.word_table.specs.Words.{before}

pub id_made : (b s : List ℕ) (n : ℕ) → b ≡ put (replicate 32 0) 0 s → n ≡ length s → ◌≡◌ {A = ShortId} (record { bytes = b; len = n }) (id_of s)
unfolding id_of
id_made b s n e k = rw (e, k, put_zeros 32 s)

-- ---- three parts

module _ (v : List ℕ) (one : ℕ) (q1 : one ≡ 0 + before 47 (drop 0 v)) where
  parts_one : split 47 v ≡ take one v ∷ after_first (split 47 (drop one v))
  parts_one = let e : before 47 v ≡ one = omega arith in split_first 47 v ∙ ap (λ (n : ℕ). take n v ∷ after_first (split 47 (drop n v))) e

  pub cut_none : length v ≤ one → three_of (split 47 v) ≡ not_three
  cut_none h = ap three_of (parts_one ∙ ap (λ (ws : List (List ℕ)). take one v ∷ ws) (split_end 47 v one h))

  module _ (two : ℕ) (h1 : one < length v) (q2 : two ≡ one + 1 + before 47 (drop (one + 1) v)) where
    parts_two : split 47 v ≡ take one v ∷ part (one + 1) two v ∷ after_first (split 47 (drop two v))
    parts_two = parts_one ∙ ap (λ (ws : List (List ℕ)). take one v ∷ ws) (word_turn 47 v one two h1 (found 47 v 0 one q1 h1) q2)

    pub cut_one : length v ≤ two → three_of (split 47 v) ≡ not_three
    cut_one h = ap three_of (parts_two ∙ ap (λ (ws : List (List ℕ)). take one v ∷ part (one + 1) two v ∷ ws) (split_end 47 v two h))

    module _ (last : ℕ) (h2 : two < length v) (q3 : last ≡ two + 1 + before 47 (drop (two + 1) v)) where
      parts_three : split 47 v ≡ take one v ∷ part (one + 1) two v ∷ part (two + 1) last v ∷ after_first (split 47 (drop last v))
      parts_three = parts_two ∙ ap (λ (ws : List (List ℕ)). take one v ∷ part (one + 1) two v ∷ ws) (word_turn 47 v two last h2 (found 47 v (one + 1) two q2 h2) q3)

      pub cut_more : last < length v → three_of (split 47 v) ≡ not_three
      cut_more h =
          ap three_of (parts_three
          ∙ ap (λ (ws : List (List ℕ)). take one v ∷ part (one + 1) two v ∷ part (two + 1) last v ∷ ws)
          (word_turn 47 v last (last + 1 + before 47 (drop (last + 1) v)) h (found 47 v (two + 1) last q3 h) refl))

      pub cut_three : length v ≤ last → three_of (split 47 v) ≡ three (take one v) (part (one + 1) two v) (part (two + 1) (length v) v)
      cut_three h =
          ap three_of (parts_three ∙ ap (λ (ws : List (List ℕ)). take one v ∷ part (one + 1) two v ∷ part (two + 1) last v ∷ ws) (split_end 47 v last h))
          ∙ ap (λ (n : ℕ). three (take one v) (part (one + 1) two v) (part (two + 1) n v)) (le_antisymm (found_le 47 v (two + 1) last q3 (omega arith)) h)
