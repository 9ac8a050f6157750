-- Which items a line has, key by key, and whether they are those that its name wants.
use Rattle.std.specs.Prelude.{Bool, true, false, cond, ◌||◌, List, [], ◌∷◌, map, ℕ, Option, Some, None, is_some}
use Rattle.frames.specs.declared.TxClass.{TxClass}
use Rattle.frames.specs.Frames.{is_command}
use Rattle.replay_names.specs.Names as Names
use Rattle.replay_items.specs.declared.Items.{Items}

-- a key's items: whether they are there and of their form, and how many they are then
pub record Found : Type 0 where
  pub right : Bool
  pub many : ℕ

infix 70 ◌if◌
abbrev pub ◌if◌ : ℕ → Bool → Found
n if r = record { right = r; many = n }

-- a command has its owner too
abbrev pub with_owner : Option TxClass → Bool → Bool
with_owner None owner = false
with_owner (Some class) owner = cond (is_command class) owner true

abbrev pub with_class : Option TxClass → ℕ
with_class None = 1
with_class (Some class) = cond (is_command class) 2 1

unfoldable pub class_right : Items → Bool
class_right i = with_owner i.class i.has.owner

unfoldable pub class_items : Items → ℕ
class_items i = with_class i.class

-- in the order of key_names
unfoldable pub found : Items → List Found
found i =
    1 if i.has.phone
    ∷ 1 if i.has.method
    ∷ 1 if i.has.random
    ∷ 1 if i.has.code
    ∷ 1 if i.has.stored
    ∷ 1 if i.has.fingerprint
    ∷ 1 if i.has.output
    ∷ 1 if is_some i.numbers.clock
    ∷ 1 if is_some i.numbers.session
    ∷ 1 if is_some i.numbers.bus
    ∷ 1 if is_some i.numbers.number
    ∷ 1 if is_some i.numbers.place
    ∷ 1 if is_some i.numbers.next
    ∷ 1 if is_some i.numbers.relocks
    ∷ 1 if is_some i.numbers.turns
    ∷ 1 if is_some i.numbers.length
    ∷ 1 if is_some i.numbers.slot
    ∷ 1 if is_some i.switches.unlocked
    ∷ 1 if is_some i.switches.enabled
    ∷ 1 if is_some i.switches.on
    ∷ 1 if is_some i.switches.target
    ∷ 1 if is_some i.car
    ∷ 1 if (i.nobody || i.has.phone)
    ∷ 5 if is_some i.frame
    ∷ class_items i if class_right i
    ∷ 6 if is_some i.settings
    ∷ i.methods.count if is_some i.methods.list
    ∷ i.frames.count if is_some i.frames.list
    ∷ []

unfoldable pub right_of : Items → List Bool
right_of i = map (λ (f : Found). f.right) (found i)

unfoldable pub many_of : Items → List ℕ
many_of i = map (λ (f : Found). f.many) (found i)

unfoldable pub takes : ℕ → Items → Bool
takes name i = Names.takes name (right_of i) (many_of i) i.count
