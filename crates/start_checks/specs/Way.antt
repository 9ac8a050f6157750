-- What a start comes to, before anything large is copied.
use Rattle.std.specs.Prelude.{Bool, cond, List, ℕ, Result, Ok, Err}
use Rattle.state.specs.declared.Kind.{Kind}
use Rattle.state.specs.declared.Kind.TheVariants.{CodeEntry, InCarAction}
use Rattle.state.specs.declared.Core.{Core}
use Rattle.state.specs.declared.Answer.{Answer}
use Rattle.state.specs.declared.Answer.TheVariants.{RandomSpent, NoRandomSource}
use Rattle.state.specs.declared.Mark.{Mark}
use Rattle.state.specs.declared.Mark.TheVariants.{Blank, Fresh}
use Rattle.state.specs.declared.Said.{Said}
use Rattle.state.specs.Replies.{leave}
use Rattle.validation.specs.Calls.{begin}

-- the mark of the digits with which a session begins, or the refusal: only code entry draws
abbrev pub way_as : Bool → Bool → Kind → Result Mark Answer
way_as lent gives InCarAction = Ok Blank
way_as lent gives CodeEntry = cond lent (cond gives (Ok Fresh) (Err RandomSpent)) (Err NoRandomSource)

-- what is said where a start comes to this
abbrev pub taken : Core → List ℕ → ℕ → ℕ → Result Mark Answer → Said
taken c phone at clock (Err a) = leave c a
taken c phone at clock (Ok mark) = begin c phone at clock mark
