-- What the tests of specs/ mean: each is true exactly if the things are equal.
use mathlib.Core.Bool.{false≢true}
use Rattle.std.proofs.Common.{◌≡◌, refl, ap, true, ◌↔◌, ℕ, eq-eqb, eqb-true}
use Rattle.arrays.specs.Arrays.{same_bytes}
use Rattle.arrays.proofs.Laws.{both, same_bytes_is}
use Rattle.frames.specs.declared.Id.{Id}
use Rattle.frames.specs.declared.Id.TheVariants.{Standard, Extended}
use Rattle.frames.specs.declared.CanFrame.{CanFrame}
use Rattle.frames.specs.declared.ProbeFrame.{ProbeFrame}
use Rattle.frames.specs.Frames.{same_id, is_entry}

-- ---- ids

id_eq : (a b : Id) → same_id a b ≡ true → a ≡ b
id_eq (Standard m) (Standard n) h = ap Standard (eqb-true m n h)
id_eq (Standard m) (Extended n) h = absurd (false≢true h)
id_eq (Extended m) (Standard n) h = absurd (false≢true h)
id_eq (Extended m) (Extended n) h = ap Extended (eqb-true m n h)

id_refl : (a : Id) → same_id a a ≡ true
id_refl (Standard n) = eq-eqb n n refl
id_refl (Extended n) = eq-eqb n n refl

-- two ids are the same exactly if they are equal
pub same_id_is : (a b : Id) → same_id a b ≡ true ↔ a ≡ b
same_id_is a b = (id_eq a b, λ e. rw (← e) (id_refl a))

-- so a standard and an extended id differ, also with one number
pub widths_differ : (n : ℕ) → Standard n ≡ Extended n → ⊥
widths_differ n e = false≢true ((same_id_is (Standard n) (Extended n)).1 e)

-- ---- probe entries

-- a frame is a probe's entry exactly if its id and all its data are
pub is_entry_is : (e : ProbeFrame) (f : CanFrame) → is_entry e f ≡ true ↔ ((e.id ≡ f.id) × (e.data ≡ f.data))
unfolding is_entry
is_entry_is e f = (
  λ h. let p = both (same_id e.id f.id) (same_bytes e.data f.data) h in
      ((same_id_is e.id f.id).0 p.0, (same_bytes_is e.data f.data).0 p.1),
  λ h. rw ((same_id_is e.id f.id).1 h.0, (same_bytes_is e.data f.data).1 h.1),
)
