-- A platform frame does not ask for its owner.
use Rattle.std.proofs.Common.{Bool, ℕ, ◌≡◌, refl}
use Rattle.frames.specs.declared.CanFrame.{CanFrame}
use Rattle.frames.specs.declared.TxClass.{TxClass}
use Rattle.frames.specs.declared.TxClass.TheVariants.{Platform, Command}
use Rattle.state.specs.declared.Core.{Core}
use Rattle.can_tx.specs.Tx.{allow}
use Rattle.gate_frames.specs.Owner.{of_class}

pub allow_of_class : (c : Core) (bus : ℕ) (frame : CanFrame) (class : TxClass) (t : Bool) (clock : ℕ) → allow c bus frame class (of_class class t) clock ≡ allow c bus frame class t clock
unfolding allow
allow_of_class c bus frame Platform t clock = refl
allow_of_class c bus frame Command t clock = refl
