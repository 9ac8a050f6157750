-- W-210: packed lists give what the old layout of the same ids gave. The claims: `SameIds`, `LayoutsAgree`, `ZerosPast`.
use Rattle.std.specs.Prelude.{◌≡◌, Bool, true, List, [], ◌∷◌, ◌++◌, map, ℕ, ◌<◌, ◌≤◌, length, drop, get_or}
use Rattle.phones.specs.declared.ShortId.{ShortId}
use Rattle.phones.specs.declared.PhoneList.{PhoneList}
use Rattle.phones.specs.Ids as Ids
use Rattle.phones.specs.Ids.{joined, ids_fit, keep_where, retain_in, pushed, Left, becomes}
use Rattle.phones.specs.Phones.{phones_of, list_of, list_in_range, laid}
use Rattle.saved_record.specs.declared.CarPhones.{CarPhones}
use Rattle.saved_record.specs.declared.Store.{Store}
use Rattle.saved_record.specs.SavedRecord.{CarIds}
use Rattle.saved_record.specs.Store.{empty_car, cars_of, store_of}
use Rattle.state.specs.declared.Settings.{Settings}
use Rattle.state.specs.declared.Method.{Method}
use Rattle.state.specs.declared.Signals.{Signals}
use Rattle.state.specs.declared.Gate.{Gate}
use Rattle.state.specs.Answers.{Numbered}
use Rattle.state.specs.View.{View, view}
use Rattle.range.specs.Range.{in_range}
use Rattle.answers.specs.Query.{ReplyByIds}
use Rattle.definition.specs.Gate.{Call, new_gate_call, Lent, GivenIn, Given, Form, replied, step_in, packed, step}
use Rattle.layouts.specs.Wide.{wide_laid, WideList, wide_ids, wide_of, wide_in_range, WideCar, WideStore, wide_cars, WideGate, wide_view, wide}

-- P holds of each element
abbrev pub All : {A : Type 0} → (A → Type 0) → List A → Type 0
All P [] = Unit {0}
All P (x ∷ xs) = P x × All P xs

-- ---- same_ids: of a list

-- what functions do to a list
pub data Change : Type 0 where
  append remove_first remove_all : (id : List ℕ) → Change
  retain : (others : List (List ℕ)) → Change
  keep : (marks : List Bool) → Change
  canonical : Change

abbrev pub changed : Change → List (List ℕ) → Left (List (List ℕ))
changed (append id) ps = pushed id ps
changed (remove_first id) ps = becomes (Ids.remove_first id ps)
changed (remove_all id) ps = becomes (Ids.remove_all id ps)
changed (retain others) ps = becomes (retain_in others ps)
changed (keep marks) ps = becomes (keep_where marks ps)
changed canonical ps = becomes ps

-- what the type of a packed list gives, and that of one in the old layout
abbrev pub Sized : PhoneList → Type 0
Sized l = (length l.bytes ≡ 1024) × (length l.lens ≡ 32)

abbrev pub WideSized : WideList → Type 0
WideSized l = (length l.ids ≡ 32) × All (λ (p : ShortId). length p.bytes ≡ 32) l.ids

pub record SameIds : Type 0 where
  -- each list in range of either layout has one of the other with its ids
  pub packs : (w : WideList) → wide_in_range w ≡ true → (l : PhoneList) × Sized l × (list_in_range l ≡ true) × (phones_of l ≡ wide_ids w)
  pub unpacks : (l : PhoneList) → list_in_range l ≡ true → (w : WideList) × WideSized w × (wide_in_range w ≡ true) × (wide_ids w ≡ phones_of l)
  -- every change leaves the same ids
  pub changes : (k : Change) (l : PhoneList) (w : WideList) → phones_of l ≡ wide_ids w → phones_of (laid l (changed k (phones_of l))) ≡ wide_ids (wide_laid wide_of w (changed k (wide_ids w)))
  -- a list in range with a place left has room for every id: the test of 1,024 bytes in `pushed` says nothing there
  pub room : (ps : List (List ℕ)) (s : List ℕ) → ids_fit ps ≡ true → length ps < 32 → length s ≤ 32 → pushed s ps ≡ becomes (ps ++ (s ∷ []))

-- ---- layouts_agree: of a gate

-- each call is lent the gate as the call before it left it
abbrev pub run : {G L S : Type 0} → Form G L S → G → List Call → List (GivenIn G L S)
run f g [] = []
run f g (k ∷ ks) = step_in f g k ∷ run f (step_in f g k).gate ks

-- what is compared: the answer, lists in it by their ids; signals with their records and lent memory, whole; of the gate all but how its
-- lists lie
pub record Told : Type 0 where
  pub numbered : Numbered
  pub answer : ReplyByIds
  pub signals : Signals
  pub lent : Lent
  pub seen : View

abbrev pub told : {G L S : Type 0} → Form G L S → (L → List (List ℕ)) → (S → List CarIds) → GivenIn G L S → Told
told f ids cars o = record { numbered = o.numbered; answer = replied ids cars o.answer; signals = o.signals; lent = o.lent; seen = f.view o.gate }

-- what the type of a store gives: four cars with such lists. The digests in use are among what is seen; those past the count have 32 bytes
abbrev pub SizedStore : Store → Type 0
SizedStore s = (length s.cars ≡ 4) × All (λ (c : CarPhones). Sized c.phones) s.cars × All (λ (c : CarPhones). length c.car ≡ 32) (drop s.count s.cars)

abbrev pub WideSizedStore : WideStore → Type 0
WideSizedStore s = (length s.cars ≡ 4) × All (λ (c : WideCar). WideSized c.phones) s.cars × All (λ (c : WideCar). length c.car ≡ 32) (drop s.count s.cars)

pub record LayoutsAgree : Type 0 where
  -- over every list of calls, from two gates that are seen alike
  pub agree : (g : Gate) (w : WideGate) (ks : List Call) → view g ≡ wide_view w → map (told packed phones_of cars_of) (run packed g ks) ≡ map (told wide wide_ids wide_cars) (run wide w ks)
  -- every gate in range of either layout has one of the other that is seen alike
  pub packs : (w : WideGate) → in_range (wide_view w) ≡ true → (g : Gate) × Sized g.phones.paired × SizedStore g.phones.store × (view g ≡ wide_view w)
  pub unpacks : (g : Gate) → in_range (view g) ≡ true → (w : WideGate) × WideSized w.paired × WideSizedStore w.store × (wide_view w ≡ view g)
  -- the packed gate's definition is the one that the code meets
  pub same : (g : Gate) (k : Call) → step_in packed g k ≡ step g k

-- ---- zeros_past: of a run from a new gate on

-- past the last id every byte is 0, and past the count every length; so the list is the canonical one of its ids
pub record Zeros (l : PhoneList) : Type 0 where
  pub bytes : (i : ℕ) → length (joined (phones_of l)) ≤ i → get_or l.bytes i 0 ≡ 0
  pub lens : (i : ℕ) → l.count ≤ i → get_or l.lens i 0 ≡ 0
  pub canonical : l ≡ list_of (phones_of l)

-- so it is in the list of each car, those past the count too, which are empty; so the store is the canonical one of its cars
pub record ZerosStore (s : Store) : Type 0 where
  pub lists : All (λ (c : CarPhones). Zeros c.phones) s.cars
  pub past : All (λ (c : CarPhones). c ≡ empty_car) (drop s.count s.cars)
  pub canonical : s ≡ store_of (cars_of s)

abbrev pub ZerosIn : Given → Type 0
ZerosIn o = Zeros o.gate.phones.paired × ZerosStore o.gate.phones.store

abbrev pub ZerosPast : Type 0
ZerosPast = (g : Gate) (settings : Settings) (methods : List Method) (count : ℕ) (ks : List Call) → All ZerosIn (run packed g (new_gate_call settings methods count ∷ ks))
