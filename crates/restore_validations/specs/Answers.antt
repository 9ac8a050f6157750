-- What a private function of the code gives.
use Rattle.saved_record.specs.declared.RecordError.{RecordError}
use Rattle.saved_record.specs.declared.RecordError.TheVariants as Record
use Rattle.state.specs.declared.Answer.{Answer}
use Rattle.state.specs.declared.Answer.TheVariants.{Malformed, CarTwice, TooLarge}

-- the answer to a record's refusal
abbrev pub refusal_answer : RecordError → Answer
refusal_answer Record.Malformed = Malformed
refusal_answer Record.CarTwice = CarTwice
refusal_answer Record.TooLarge = TooLarge
