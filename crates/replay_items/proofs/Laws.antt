-- Laws of the definitions of specs/.
use mathlib.Core.Path.{◌≡◌, refl, ap, ap₂, sym, ◌∙◌}
use mathlib.Core.Bool.{Bool, true, false, cond}
use mathlib.Core.List.{List, [], ◌∷◌, ◌++◌, append-nil, append_assoc}
use Rattle.std.proofs.Common.{Some, None, is_some, unwrap_or}
use Prim.Native.Nat.{ℕ, ◌+◌, ◌-◌, ◌≤◌}
use native.Mathlib.Nat.{add-zero}
use native.Mathlib.Omega.{arith}
use borrow.Author.Tests.{le-ltb}
use lib.Dec.{ltb}
use lib.ListN.{length, drop, length-append, take-append-drop}
use lib.Seq.{take_at, drop_at, drop-append-add, drop-drop}
use Rattle.arrays.specs.Arrays.{put}
use Rattle.arrays.proofs.Laws.{put_length}
use Rattle.replay_values.specs.Values.{the_number, the_bytes, lay_the_bytes}
use Rattle.replay_digits.specs.Digits.{is_bytes, as_bytes, fits_in, laid_to, lay_bytes}
use Rattle.replay_script.specs.Words.{part}
use Rattle.replay_digits.specs.declared.Written.{Written}
use Rattle.replay_digits.proofs.Laws.{number_most}
use Rattle.replay_items.specs.Bytes.{are_bytes, bytes_in, bytes_at, lent_at, LaidAt}
use Rattle.replay_items.specs.declared.LaidValue.{LaidValue}

-- ---- numbers

pub the_most : (most n : ℕ) (vs : List (List ℕ)) → the_number most vs ≡ Some n → n ≤ most
the_most most n [] e = cc
the_most most n (v ∷ vs) e = number_most 10 most n v e

-- ---- one value laid down

pub put_none : (d : List ℕ) (at : ℕ) → put d at [] ≡ d
unfolding put
put_none d at = rw (append-nil, add-zero) (take-append-drop at d)

laid_by : (b : List ℕ) (at size : ℕ) (t : Bool) → at + length (cond t b []) ≤ size → cond (cond t (cond (ltb size (at + length b)) false true) false) (Some (at + length b)) None ≡ cond t (Some (at + length (cond t b []))) None
laid_by b at size true fits = rw (le-ltb size (at + length b) fits)
laid_by b at size false fits = refl

pub laid_as : (form : Written) (vs : List (List ℕ)) (at size : ℕ) → at + length (bytes_in form vs) ≤ size → the_bytes form vs at size ≡ cond (are_bytes form vs) (Some (at + length (bytes_in form vs))) None
unfolding laid_to fits_in
laid_as form [] at size fits = refl
laid_as form (v ∷ vs) at size fits = laid_by (as_bytes form v) at size (is_bytes form v) fits

lay_by : (b out : List ℕ) (at : ℕ) (t : Bool) → at + length (cond t b []) ≤ length out → cond (cond t (cond (ltb (length out) (at + length b)) false true) false) (put out at b) out ≡ put out at (cond t b [])
lay_by b out at true fits = rw (le-ltb (length out) (at + length b) fits)
lay_by b out at false fits = sym (put_none out at)

pub lay_as : (form : Written) (vs : List (List ℕ)) (at : ℕ) (out : List ℕ) → at + length (bytes_in form vs) ≤ length out → lay_the_bytes form vs at out ≡ put out at (bytes_in form vs)
unfolding lay_bytes fits_in
lay_as form [] at out fits = sym (put_none out at)
lay_as form (v ∷ vs) at out fits = lay_by (as_bytes form v) out at (is_bytes form v) fits

none_by : (b : List ℕ) (t : Bool) → t ≡ false → cond t b [] ≡ []
none_by b true p = cc
none_by b false p = refl

pub no_bytes : (form : Written) (vs : List (List ℕ)) → are_bytes form vs ≡ false → bytes_in form vs ≡ []
no_bytes form [] p = refl
no_bytes form (v ∷ vs) p = none_by (as_bytes form v) (is_bytes form v) p

end_by : (t : Bool) (n at : ℕ) → (t ≡ false → n ≡ at) → (is_some (cond t (Some n) None) ≡ t) × (unwrap_or (cond t (Some n) None) at ≡ n)
end_by true n at h = (refl, refl)
end_by false n at h = (refl, sym (h refl))

-- whether there is a value, and where it ends
pub has_end : (form : Written) (vs : List (List ℕ)) (at : ℕ)
    → (is_some (cond (are_bytes form vs) (Some (at + length (bytes_in form vs))) None) ≡ are_bytes form vs) × (unwrap_or (cond (are_bytes form vs) (Some (at + length (bytes_in form vs))) None) at ≡ at + length (bytes_in form vs))
has_end form vs at = end_by (are_bytes form vs) (at + length (bytes_in form vs)) at (λ p. omega (arith, ap length (no_bytes form vs p)))

-- ---- one value behind the other

put_more : (d p s : List ℕ) → put (put d 0 p) (length p) s ≡ put d 0 (p ++ s)
unfolding put
put_more d p s =
    let e : 0 + length p + length s ≡ 0 + length (p ++ s) = rw length-append (omega arith) in
    ap₂ (λ (x y : List ℕ). x ++ s ++ y) (take_at p (drop (0 + length p) d) (length p) refl)
    (drop-append-add p (drop (0 + length p) d) (length s) ∙ drop-drop (length s) (0 + length p) d ∙ ap (λ (n : ℕ). drop n d) e)

-- memory d with p laid down at its start, up to `at`
pub record Begun (d room p : List ℕ) (at : ℕ) : Type 0 where
  pub memory : room ≡ put d 0 p
  pub end : at ≡ length p

pub begin : (d : List ℕ) → Begun d d [] 0
begin d = record { memory = sym (put_none d 0); end = refl }

pub next : {d room after key line p : List ℕ} {form : Written} {at : ℕ} {r : LaidValue} → Begun d room p at → LaidAt form key line room after at r
    → Begun d after (p ++ bytes_at form key line) r.end
next {d} {key = key} {line = line} {p = p} {form = form} b l =
    let s = bytes_at form key line in
    record {
      memory = l.memory ∙ ap₂ (λ (m : List ℕ) (n : ℕ). put m n s) b.memory b.end ∙ put_more d p s;
      end = l.end ∙ ap (λ (n : ℕ). n + length s) b.end ∙ sym (length-append p s);
    }

-- p stands at the start of `all`
pub record Front (p all : List ℕ) : Type 0 where
  pub rest : List ℕ
  pub is : all ≡ p ++ rest

pub whole : (p : List ℕ) → Front p p
whole p = record { rest = []; is = sym (append-nil p) }

pub less : {all : List ℕ} (p x : List ℕ) → Front (p ++ x) all → Front p all
less p x f = record { rest = x ++ f.rest; is = f.is ∙ append_assoc p x f.rest }

-- there is room for each of those that fit together
pub fitted : {line d all room after key p : List ℕ} {form : Written} {at : ℕ} {r : LaidValue} → length all ≤ length d → Front (p ++ bytes_at form key line) all → Begun d room p at
    → (at + length (bytes_at form key line) ≤ length room → LaidAt form key line room after at r) → LaidAt form key line room after at r
fitted {line} {d} {all} {room} {key = key} {p = p} {form = form} fits f b h =
    let x = bytes_at form key line in
    let parts = length-append p x in
    let whole : length all ≡ length (p ++ x) + length f.rest = ap length f.is ∙ length-append (p ++ x) f.rest in
    let long : length room ≡ length d = ap length b.memory ∙ put_length d 0 p (omega arith) in
    h (omega arith)

part_of : (d p x t : List ℕ) → part (length p) (length (p ++ x)) (put d 0 (p ++ x ++ t)) ≡ x
unfolding put
part_of d p x t =
    let r = drop (0 + length (p ++ x ++ t)) d in
    let e : p ++ x ++ t ++ r ≡ p ++ (x ++ (t ++ r)) = simp append_assoc in
    let n : length (p ++ x) - length p ≡ length x = rw length-append (omega arith) in
    rw (n, e, drop_at p (x ++ (t ++ r)) (length p) refl) (take_at x (t ++ r) (length x) refl)

pub lent_in : {d room all : List ℕ} {n a e : ℕ} (p x : List ℕ) → Begun d room all n → length all ≤ length d → Front (p ++ x) all → a ≡ length p → e ≡ length (p ++ x) → lent_at a e room ≡ x
unfolding lent_at
lent_in {d} {room} {all} {a = a} {e = e} p x b fits f ha he =
    let t = f.rest in
    let m = b.memory in
    let long : length room ≡ length d = ap length m ∙ put_length d 0 all (omega arith) in
    let parts = length-append p x in
    let whole : length all ≡ length (p ++ x) + length t = ap length f.is ∙ length-append (p ++ x) t in
    rw (le-ltb (length room) e (omega arith), le-ltb e a (omega arith), m, f.is, ha, he) (part_of d p x t)
