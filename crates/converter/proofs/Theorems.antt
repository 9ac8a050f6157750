-- The theorems on the conversion.
use mathlib.Core.Path.{◌≡◌, refl, ap, sym, ◌∙◌}
use mathlib.Core.Bool.{Bool, true, false}
use mathlib.Core.List.{List, [], ◌∷◌}
use Prim.Native.Nat.{ℕ}
use lib.Dec.{ltb}
use lib.ListN.{length, drop}
use Rattle.saved_record.specs.SavedRecord.{CarIds, car_parts, encoded, ok, decoded}
use Rattle.saved_record.proofs.RoundTrip.{version_one_lem, written_back}
use Rattle.std.specs.Prelude.{IsErr}
use Rattle.converter.specs.Convert.{encoded_as, refusal, laid_down, many_cars, converted}
use Rattle.converter.specs.Theorems.{is_two, ThereAndBack, AsItIs, Always, SameMeaning, Untouched}
use Rattle.converter.proofs.Meaning.{Means, means_converts, converts_means, own_version, read_again, every}

pub same_meaning : SameMeaning
same_meaning r target r' h = let m = converts_means r target r' h in read_again r target r' m.0 m.1 ∙ sym m.1.says

pub there_and_back : ThereAndBack
there_and_back r target r' h =
    let m = converts_means r target r' h in
    let own = own_version r m.0 m.1.says in
    means_converts r' (is_two r) r m.0 (record { says = read_again r target r' m.0 m.1; held = own.held; written = own.written })

pub as_it_is : AsItIs
as_it_is r cs e = means_converts r (is_two r) r cs (own_version r cs e)

up : (body : List ℕ) (cs : List CarIds) → decoded (1 ∷ body) ≡ ok cs → Means (1 ∷ body) true (2 ∷ 1 ∷ body) cs
unfolding many_cars encoded_as
up body cs e =
    let v = version_one_lem (1 ∷ body) cs e refl in
    let same : body ≡ car_parts cs = ap (λ (s : List ℕ). drop 1 s) v.1 in
    record { says = e; held = refl; written = rw same v.2 }

down : (n : ℕ) (body : List ℕ) (c : CarIds) → decoded (2 ∷ n ∷ body) ≡ ok (c ∷ []) → Means (2 ∷ n ∷ body) false (1 ∷ body) (c ∷ [])
unfolding many_cars encoded_as encoded
down n body c e =
    let same : car_parts (c ∷ []) ≡ body = ap (λ (s : List ℕ). drop 2 s) (written_back (2 ∷ n ∷ body) (c ∷ []) e refl) in
    record { says = e; held = refl; written = rw same }

pub always : Always
always =
    record {
      up = λ body cs e. means_converts (1 ∷ body) true (2 ∷ 1 ∷ body) cs (up body cs e);
      down = λ n body c e. means_converts (2 ∷ n ∷ body) false (1 ∷ body) (c ∷ []) (down n body c e);
    }

laid_kept : (r out : List ℕ) (b : Bool) → ltb (length out) (length r) ≡ b → IsErr (laid_down r out).answer → (laid_down r out).out ≡ out
unfolding laid_down
laid_kept r out true e h = rw e
laid_kept r out false e h = let z = rw e at h in cc

pub untouched : Untouched
unfolding converted refusal
untouched r target out =
    every (λ o. IsErr o.answer → o.out ≡ out) out (λ a h. refl) (λ s. laid_kept s out (ltb (length out) (length s)) refl) (decoded r) target
