-- Chains over the frames of a probe, in the words of the definitions.
use Rattle.std.proofs.Common.{◌≡◌, ℕ, suc, ◌+◌, Bool, true, false, cond, not, ◌&&◌, List, [], ◌∷◌, Option, Some, None, refl, ap, ◌∙◌, add-one}
use Rattle.std.specs.List.{list_all, zip, position_from}
use Rattle.frames.specs.declared.CanFrame.{CanFrame}
use Rattle.frames.specs.declared.ProbeFrame.{ProbeFrame}
use Rattle.frames.specs.Frames.{can_id_in_range, is_entry}
use Rattle.probe_window.specs.Window.{ids_in_range, first_unsent}

abbrev pub id_fits : ProbeFrame → Bool
id_fits f = can_id_in_range f.id

and_cond : (a b : Bool) → (a && b) ≡ cond a b false
and_cond true b = refl
and_cond false b = refl

pub ids_all : (fs : List ProbeFrame) → list_all id_fits fs ≡ ids_in_range fs
unfolding ids_in_range
ids_all [] = refl
ids_all (f ∷ fs) = ap (λ (b : Bool). id_fits f && b) (ids_all fs) ∙ and_cond (id_fits f) (ids_in_range fs)

-- an entry beside its mark: it is the frame, and was not sent
abbrev pub is_unsent : CanFrame → ProbeFrame × Bool → Bool
is_unsent frame p = is_entry p.0 frame && not p.1

pub unsent_at : (frame : CanFrame) (i : ℕ) (fs : List ProbeFrame) (ss : List Bool) → position_from (is_unsent frame) i (zip fs ss) ≡ first_unsent frame i fs ss
unfolding first_unsent
unsent_at frame i [] ss = refl
unsent_at frame i (f ∷ fs) [] = refl
unsent_at frame i (f ∷ fs) (s ∷ ss) = ap (λ (o : Option ℕ). cond (is_unsent frame (f, s)) (Some i) o) (rw add-one (unsent_at frame (suc i) fs ss))
