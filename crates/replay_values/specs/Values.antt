-- What the value of an item says. A value that may be missing is a list of one or none.
use Rattle.std.specs.Prelude.{Bool, true, false, cond, List, [], ◌∷◌, ℕ, ◌*◌, eqb, length, replicate, Option, Some, None, option_map}
use Rattle.arrays.specs.Arrays.{same_bytes}
use Rattle.frames.specs.declared.Id.{Id}
use Rattle.frames.specs.declared.Id.TheVariants.{Standard, Extended}
use Rattle.state.specs.declared.Car.{Car}
use Rattle.ascii.specs.Ascii.{ascii}
use Rattle.replay_digits.specs.Digits.{number_in, is_hex, pairs_of, laid_to, lay_bytes}
use Rattle.replay_digits.specs.declared.Written.{Written}

-- exactly n bytes
abbrev pub bytes_in : ℕ → List ℕ → Option (List ℕ)
bytes_in n s = cond (cond (eqb (length s) (2 * n)) (is_hex s) false) (Some (pairs_of s)) None

-- exactly 8 bytes
unfoldable pub data_in : List ℕ → Option (List ℕ)
data_in s = bytes_in 8 s

abbrev pub known_car : List ℕ → Car
known_car digest = record { known = true; digest = digest }

-- the word `none`, or exactly 32 bytes
unfoldable pub car_in : List ℕ → Option Car
car_in s = cond (same_bytes s (ascii "none")) (Some (record { known = false; digest = replicate 32 0 })) (option_map known_car (bytes_in 32 s))

-- ---- words

unfoldable pub flag_in : List ℕ → Option Bool
flag_in s = cond (same_bytes s (ascii "yes")) (Some true) (cond (same_bytes s (ascii "no")) (Some false) None)

-- an id's number under its kind
abbrev pub id_with : List ℕ → Option ℕ → Option Id
id_with kind (Some n) = cond (same_bytes kind (ascii "std")) (Some (Standard n)) (cond (same_bytes kind (ascii "ext")) (Some (Extended n)) None)
id_with kind None = None

-- the kind of an id, and its number of 32 bits in hexadecimal
unfoldable pub id_in : List ℕ → List ℕ → Option Id
id_in kind digits = id_with kind (number_in 16 4294967295 digits)

-- ---- the value of the only item with a key, or of none

abbrev pub the_number : ℕ → List (List ℕ) → Option ℕ
the_number most [] = None
the_number most (v ∷ vs) = number_in 10 most v

abbrev pub the_bytes : Written → List (List ℕ) → ℕ → ℕ → Option ℕ
the_bytes form [] at room = None
the_bytes form (v ∷ vs) at room = laid_to form v at room

abbrev pub lay_the_bytes : Written → List (List ℕ) → ℕ → List ℕ → List ℕ
lay_the_bytes form [] at out = out
lay_the_bytes form (v ∷ vs) at out = lay_bytes form v at out

abbrev pub the_flag : List (List ℕ) → Option Bool
the_flag [] = None
the_flag (v ∷ vs) = flag_in v

abbrev pub is_the_word : List ℕ → List (List ℕ) → Bool
is_the_word word [] = false
is_the_word word (v ∷ vs) = same_bytes v word

abbrev pub the_id : List (List ℕ) → List (List ℕ) → Option Id
the_id [] ns = None
the_id (k ∷ ks) [] = None
the_id (k ∷ ks) (n ∷ ns) = id_in k n

abbrev pub the_data : List (List ℕ) → Option (List ℕ)
the_data [] = None
the_data (v ∷ vs) = data_in v

abbrev pub the_car : List (List ℕ) → Option Car
the_car [] = None
the_car (v ∷ vs) = car_in v
