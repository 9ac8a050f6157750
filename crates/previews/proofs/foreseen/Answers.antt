use Rattle.answers.specs.Query.{preview_of}
use Rattle.previews.proofs.Laws.{foreseen_laid}
use Rattle.previews.proofs.foreseen.Goals as goal

pub returns-then-in_range : goal.returns-then-in_range
unfolding preview_of
returns-then-in_range c =
    λ d e. let a = c.args in
    rw (c.canonical-then-in_range.ensures, c.canonical.ensures, c.record_for.ensures, ← c.in_range.ensures, c.if-in_range.true) (foreseen_laid a.g d a.x e)

pub returns-else-in_range : goal.returns-else-in_range
unfolding preview_of
returns-else-in_range c = λ d e. rw (c.no_validations.ensures, c.empty_list.ensures, ← c.in_range.ensures, c.if-in_range.false)
