-- The methods in use, and the steps of the loop over the methods.
use mathlib.Core.Path.{◌≡◌, refl, ap, ◌∙◌}
use mathlib.Core.Bool.{Bool, false}
use mathlib.Core.List.{List, [], ◌∷◌, ◌++◌, map}
use Prim.Native.Nat.{ℕ, suc, ◌+◌, ◌<◌, min}
use native.Mathlib.Nat.{add-zero, zero-add}
use native.Mathlib.Numerals.{add-one}
use native.Mathlib.Omega.{arith}
use lib.ListN.{length, take, get_or, set, length-take, length-map}
use lib.Seq.{take-suc}
use Rattle.std.proofs.lemmas.List.{take_min}
use Rattle.arrays.specs.Arrays.{padded}
use Rattle.arrays.proofs.Laws.{padded_push}
use Rattle.state.specs.declared.Method.{Method}
use Rattle.state.specs.declared.Core.{Core}
use Rattle.state.specs.Running.{clean_method, past_methods}
use Rattle.answers.specs.Answers.{can_start, can_start_from}

-- ---- the methods in use

-- cleaning leaves their number
pub used_count : (n : ℕ) (ms : List Method) → length (take n (map clean_method ms)) ≡ length (take n ms)
used_count n ms = rw (length-take, length-map, length-take)

-- ---- the loop over the methods

start_length : (c : Core) (at : ℕ) (ms : List Method) → length (can_start_from c at ms) ≡ length ms
unfolding can_start_from
start_length c at [] = refl
start_length c at (m ∷ ms) = ap suc (start_length c (suc at) ms)

-- one method more, put last
start_snoc : (c : Core) (at : ℕ) (ms : List Method) (m : Method) → can_start_from c at (ms ++ (m ∷ [])) ≡ can_start_from c at ms ++ (can_start c (at + length ms) m ∷ [])
unfolding can_start_from
start_snoc c at [] m = rw add-zero
start_snoc c at (n ∷ ms) m =
    let e : suc at + length ms ≡ at + suc (length ms) = omega arith in
    ap (λ (bs : List Bool). can_start c at n ∷ bs) (rw e at (start_snoc c (suc at) ms m))

module _ (c : Core) (i : ℕ) (out : List Bool) (list : List Method) (far : length list ≡ 8) (inv : out ≡ padded 8 false (can_start_from c 0 (take i list))) where
  -- one method more
  pub start_step : (t : Bool) → t ≡ can_start c i (get_or list i past_methods) → i < 8 → set out i t ≡ padded 8 false (can_start_from c 0 (take (i + 1) list))
  start_step t e h =
      let inside : i < length list = omega arith in
      let long : length (take i list) ≡ i = rw (length-take, far) (omega arith) in
      let n : length (can_start_from c 0 (take i list)) ≡ i = start_length c 0 (take i list) ∙ long in
      let place : 0 + length (take i list) ≡ i = zero-add (length (take i list)) ∙ long in
      let more : can_start_from c 0 (take (i + 1) list) ≡ can_start_from c 0 (take i list) ++ (can_start c i (get_or list i past_methods) ∷ []) = rw (add-one, take-suc list i past_methods inside, start_snoc c 0 (take i list) (get_or list i past_methods), place) in
      let push = padded_push 8 false (can_start c i (get_or list i past_methods)) (can_start_from c 0 (take i list)) (omega arith) in
      rw (more, e, inv) (rw n at push)

  -- all of those in use
  pub start_end : (n : ℕ) → i ≡ min n 8 → out ≡ padded 8 false (can_start_from c 0 (take n list))
  start_end n e =
      let k : take i list ≡ take n list = rw (e, ← far) (take_min n list) in
      inv ∙ ap (λ (ms : List Method). padded 8 false (can_start_from c 0 ms)) k
