-- The refusals of a call as a list of checks, in the order that document 01 writes them: the first that meets the call refuses it.
use Rattle.std.specs.Prelude.{Bool, true, cond, not, ◌&&◌, List, [], ◌∷◌}
use Rattle.state.specs.declared.Answer.{Answer}

pub record Check : Type 0 where
  pub meets : Bool
  pub answer : Answer

infixl 10 ◌refuses◌
abbrev pub ◌refuses◌ : Bool → Answer → Check
b refuses a = record { meets = b; answer = a }

-- how a refusal is said comes first: 01, Replies: it changes nothing and raises no signal
unfoldable pub checked : {A : Type 0} → (Answer → A) → List Check → A → A
checked refusal [] o = o
checked refusal (k ∷ ks) o = cond k.meets (refusal k.answer) (checked refusal ks o)

-- no check meets the call
unfoldable pub unmet : List Check → Bool
unmet [] = true
unmet (k ∷ ks) = not k.meets && unmet ks
