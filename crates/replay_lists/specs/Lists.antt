-- Items that may stand several times. Each value has three parts with slashes (47) between them.
use Rattle.std.specs.Prelude.{Bool, false, cond, List, [], ◌∷◌, ℕ, ◌+◌, ltb, length, set, replicate, Option, Some, None, option_map, option_and_then}
use Rattle.arrays.specs.Arrays.{same_bytes}
use Rattle.frames.specs.declared.Id.{Id}
use Rattle.frames.specs.declared.Id.TheVariants.{Standard}
use Rattle.frames.specs.declared.ProbeFrame.{ProbeFrame}
use Rattle.phones.specs.Phones.{id_of}
use Rattle.phones.specs.declared.ShortId.{ShortId}
use Rattle.state.specs.declared.Kind.{Kind}
use Rattle.state.specs.declared.Kind.TheVariants.{CodeEntry, InCarAction}
use Rattle.state.specs.declared.Method.{Method}
use Rattle.ascii.specs.Ascii.{ascii}
use Rattle.replay_digits.specs.Digits.{is_bytes, as_bytes}
use Rattle.replay_values.specs.Values.{flag_in, id_in, data_in}
use Rattle.replay_script.specs.Words.{split}
use Rattle.replay_lists.specs.declared.Methods.{Methods}
use Rattle.replay_lists.specs.declared.ProbeFrames.{ProbeFrames}
use Rattle.replay_digits.specs.declared.Written.TheVariants.{HexOrText}

-- ---- three parts

pub data Parts : Type 0 where
  not_three : Parts
  three : List ℕ → List ℕ → List ℕ → Parts

abbrev pub three_of : List (List ℕ) → Parts
three_of [] = not_three
three_of (a ∷ []) = not_three
three_of (a ∷ b ∷ []) = not_three
three_of (a ∷ b ∷ c ∷ []) = three a b c
three_of (a ∷ b ∷ c ∷ d ∷ ps) = not_three

-- ---- the first of them, in a list of as many places as there are at most

-- one more in its place; behind the last place it is left out. None if one is not of its form
abbrev pub with_next : {A : Type 0} → ℕ → Option (List A) → ℕ → Option A → Option (List A)
with_next size list n one = option_and_then (λ l. option_map (λ x. cond (ltb n size) (set l n x) l) one) list

-- ---- methods

-- an id of at most 32 bytes; of a longer one the length is kept
abbrev pub short_id : List ℕ → ShortId
short_id b = cond (ltb 32 (length b)) (record { bytes = replicate 32 0; len = length b }) (id_of b)

unfoldable pub method_id : List ℕ → Option ShortId
method_id s = cond (is_bytes HexOrText s) (Some (short_id (as_bytes HexOrText s))) None

unfoldable pub kind_in : List ℕ → Option Kind
kind_in s = cond (same_bytes s (ascii "code")) (Some CodeEntry) (cond (same_bytes s (ascii "action")) (Some InCarAction) None)

abbrev pub method_from : Option ShortId → Option Kind → Option Bool → Option Method
method_from id kind approval = option_and_then (λ i. option_and_then (λ k. option_map (λ a. record { id = i; kind = k; needs_approval = a }) approval) kind) id

-- ID/KIND/APPROVAL
abbrev pub method_of : Parts → Option Method
method_of not_three = None
method_of (three id kind approval) = method_from (method_id id) (kind_in kind) (flag_in approval)

unfoldable pub method_in : List ℕ → Option Method
method_in v = method_of (three_of (split 47 v))

-- what stands in a place that no method takes
abbrev pub no_method : Method
no_method = record { id = record { bytes = replicate 32 0; len = 0 }; kind = InCarAction; needs_approval = false }

abbrev pub no_methods : Methods
no_methods = record { list = Some (replicate 8 no_method); count = 0 }

-- one more; from the ninth on they are only counted
abbrev pub add_method : Methods → Option Method → Methods
add_method all one = record { list = with_next 8 all.list all.count one; count = all.count + 1 }

unfoldable pub add_methods : Methods → List (List ℕ) → Methods
add_methods all [] = all
add_methods all (v ∷ vs) = add_methods (add_method all (method_in v)) vs

-- ---- frames

abbrev pub frame_from : Option Id → Option (List ℕ) → Option ProbeFrame
frame_from id eight = option_and_then (λ i. option_map (λ bytes. record { id = i; «data» = bytes }) eight) id

-- KIND/ID/DATA
abbrev pub frame_of : Parts → Option ProbeFrame
frame_of not_three = None
frame_of (three kind id eight) = frame_from (id_in kind id) (data_in eight)

unfoldable pub frame_in : List ℕ → Option ProbeFrame
frame_in v = frame_of (three_of (split 47 v))

-- what stands in a place that no frame takes
abbrev pub no_frame : ProbeFrame
no_frame = record { id = Standard 0; «data» = replicate 8 0 }

abbrev pub no_frames : ProbeFrames
no_frames = record { list = Some (replicate 4 no_frame); count = 0 }

-- one more; from the fifth on they are only counted
abbrev pub add_frame : ProbeFrames → Option ProbeFrame → ProbeFrames
add_frame all one = record { list = with_next 4 all.list all.count one; count = all.count + 1 }

unfoldable pub add_frames : ProbeFrames → List (List ℕ) → ProbeFrames
add_frames all [] = all
add_frames all (v ∷ vs) = add_frames (add_frame all (frame_in v)) vs
