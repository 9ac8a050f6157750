use Rattle.answers.specs.Answers.{record_answer}
use Rattle.state.specs.View.{view}
use Rattle.answers.specs.Query.{encode_phone_validations, answer_to}
use Rattle.definition.proofs.Asked.{by_query}
use Rattle.queries.proofs.encode_phone_validations.Goals as goal

pub returns-then-in_range : goal.returns-then-in_range
unfolding answer_to view record_answer
returns-then-in_range c = let a = c.args in by_query a.g encode_phone_validations _ (rw (c.record_for.ensures, ← c.in_range.ensures, c.if-in_range.true))

pub returns-else-in_range : goal.returns-else-in_range
unfolding answer_to view record_answer
returns-else-in_range c = let a = c.args in by_query a.g encode_phone_validations _ (rw (c.no_record.ensures, ← c.in_range.ensures, c.if-in_range.false))
