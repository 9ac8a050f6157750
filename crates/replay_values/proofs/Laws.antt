-- Laws of the definitions of specs/. Nothing stands for the value of no item.
use Rattle.std.proofs.Common.{◌≡◌, ◌*◌, ◌/◌, true, refl, ap, ◌∙◌, List, [], ◌∷◌, ◌++◌, ℕ, ◌-◌, length, replicate, Option, Some, None, arith}
use mathlib.Core.List.{append-nil}
use borrow.Author.Tests.{eq-eqb}
use Rattle.arrays.specs.Arrays.{padded, put, same_bytes}
use Rattle.replay_script.specs.Places.{first_of}
use Rattle.replay_digits.proofs.Laws.{put_zeros, pairs_length, hex_even}
use Rattle.replay_digits.specs.Digits.{number_in, is_hex, pairs_of}
use Rattle.replay_values.specs.Values.{bytes_in, flag_in, id_with, id_in, data_in, car_in, the_number, the_flag, the_id, the_data, the_car}

pub number_first : (most : ℕ) (vs : List (List ℕ)) → number_in 10 most (first_of vs) ≡ the_number most vs
unfolding first_of number_in
number_first most [] = refl
number_first most (v ∷ vs) = refl

pub flag_first : (vs : List (List ℕ)) → flag_in (first_of vs) ≡ the_flag vs
unfolding first_of flag_in same_bytes
flag_first [] = refl
flag_first (v ∷ vs) = refl

no_kind : (x : Option ℕ) → id_with [] x ≡ None
unfolding same_bytes
no_kind (Some n) = refl
no_kind None = refl

pub id_first : (ks ns : List (List ℕ)) → id_in (first_of ks) (first_of ns) ≡ the_id ks ns
unfolding first_of id_in number_in
id_first [] ns = no_kind (number_in 16 4294967295 (first_of ns))
id_first (k ∷ ks) [] = refl
id_first (k ∷ ks) (n ∷ ns) = refl

pub data_first : (vs : List (List ℕ)) → data_in (first_of vs) ≡ the_data vs
unfolding data_in first_of
data_first [] = refl
data_first (v ∷ vs) = refl

pub car_first : (vs : List (List ℕ)) → car_in (first_of vs) ≡ the_car vs
unfolding car_in first_of same_bytes
car_first [] = refl
car_first (v ∷ vs) = refl

-- as many bytes as there are zeros
pub put_all : (n : ℕ) (s : List ℕ) → length s ≡ n → put (replicate n 0) 0 s ≡ s
unfolding padded
put_all n s h =
    let e : n - length s ≡ 0 = omega arith in
    put_zeros n s ∙ (ap (λ (m : ℕ). s ++ replicate m 0) e ∙ append-nil s)

-- as many pairs as bytes are wanted
pub bytes_made : (n : ℕ) (s : List ℕ) → length s / 2 ≡ n → is_hex s ≡ true → Some (put (replicate n 0) 0 (pairs_of s)) ≡ bytes_in n s
bytes_made n s h e =
    let k : length s ≡ 2 * n = omega (arith, hex_even s e) in
    rw (eq-eqb _ _ k, e, put_all n (pairs_of s) (omega (arith, pairs_length s)))
