-- What a private function of the code gives: the verdict on a frame's owner, which only a command has.
use Rattle.std.specs.Prelude.{Bool, false}
use Rattle.frames.specs.declared.TxClass.{TxClass}
use Rattle.frames.specs.declared.TxClass.TheVariants.{Platform, Command}

abbrev pub of_class : TxClass → Bool → Bool
of_class Platform validated = false
of_class Command validated = validated
