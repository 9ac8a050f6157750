-- Two frames are the same exactly if they are equal.
use Rattle.std.proofs.Common.{◌≡◌, refl, true, ◌↔◌, eq-eqb, eqb-true}
use Rattle.arrays.proofs.Laws.{both, same_refl, same_bytes_is}
use Rattle.frames.proofs.Theorems.{same_id_is}
use Rattle.frames.specs.declared.CanFrame.{CanFrame}
use Rattle.log_entries.specs.Entries.{same_frame}

frame_refl : (a : CanFrame) → same_frame a a ≡ true
unfolding same_frame
frame_refl a = rw (eq-eqb a.bus a.bus refl, (same_id_is a.id a.id).1 refl, eq-eqb a.dlc a.dlc refl, same_refl a.data)

frame_eq : (a b : CanFrame) → same_frame a b ≡ true → a ≡ b
unfolding same_frame
frame_eq a b h =
    let p = both _ _ h in
    let q = both _ _ p.1 in
    let r = both _ _ q.1 in
    let bus = eqb-true _ _ p.0 in
    let id = (same_id_is _ _).0 q.0 in
    let dlc = eqb-true _ _ r.0 in
    let bytes = (same_bytes_is _ _).0 r.1 in
    λ i. record { bus = bus i; id = id i; «data» = bytes i; dlc = dlc i }

pub frame_is : (a b : CanFrame) → same_frame a b ≡ true ↔ a ≡ b
frame_is a b = (frame_eq a b, λ e. rw (← e) (frame_refl a))
