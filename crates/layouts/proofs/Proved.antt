-- W-210 holds.
use mathlib.Core.Path.{◌≡◌, refl, sym, ◌∙◌}
use mathlib.Core.Bool.{true, and-eq-true_iff}
use mathlib.Core.List.{List, [], ◌∷◌}
use Prim.Native.Nat.{ℕ}
use Rattle.phones.specs.declared.PhoneList.{PhoneList}
use Rattle.phones.specs.Ids.{ids_fit, Left, stays, becomes}
use Rattle.phones.specs.Phones.{phones_of, list_of, laid}
use Rattle.phones.proofs.Laws.{phones_of_list}
use Rattle.phones.proofs.Packed.{fits_of_list, range_fits}
use Rattle.saved_record.specs.declared.Store.{Store}
use Rattle.saved_record.specs.SavedRecord.{CarIds}
use Rattle.saved_record.specs.Store.{cars_of, store_of}
use Rattle.saved_record.proofs.Laws.{cars_of_store}
use Rattle.state.specs.declared.Settings.{Settings}
use Rattle.state.specs.declared.Method.{Method}
use Rattle.state.specs.declared.Gate.{Gate}
use Rattle.state.specs.View.{View, view, laid_store}
use Rattle.range.specs.Range.{in_range}
use Rattle.range.proofs.Stores.{cars_fit, cars_fit_lem, store_range, store_fits_lem}
use Rattle.definition.specs.Gate.{Call, new_gate_call, Says, says, lent_to, gives, left, packed, step}
use Rattle.layouts.specs.Wide.{WideGate, wide_ids, wide_of, wide_in_range, wide_cars, wide_store_of, wide_store_in_range, wide_view, wide_left, wide}
use Rattle.layouts.specs.Layouts.{All, Sized, WideSized, SizedStore, WideSizedStore, run, LayoutsAgree, Zeros, ZerosStore, ZerosIn, ZerosPast}
use Rattle.validations.proofs.Laid.{list_after_lem, store_after}
use Rattle.layouts.proofs.Laws.{after, Lawful, agree}
use Rattle.layouts.proofs.Lists.{packed_sized, wide_sized, wide_reads, wide_fits, wide_range_fits, packed_range, wide_ids_lem, wide_range, zeros_of_list}
use Rattle.layouts.proofs.Stores.{store_left_range, store_sized, wide_store_reads, wide_store_range, wide_store_fits, wide_store_sized, zeros_of_store}

-- ---- both forms keep to the law

packed_leaves : (g : Gate) (s : Says) → view (left g s) ≡ after (view g) s
unfolding view left
packed_leaves g s = λ i. record {
  core = s.core;
  lists = record { paired = list_after_lem g.phones.paired s.paired i; store = store_after g.phones.store s.store i };
  paired_fits = packed_range g.phones.paired s.paired i;
  store_fits = store_left_range g.phones.store s.store i;
  save = s.save;
  queue = s.queue;
  code = s.code;
}

wide_leaves : (g : WideGate) (s : Says) → wide_view (wide_left g s) ≡ after (wide_view g) s
unfolding wide_view wide_left
wide_leaves g s = λ i. record {
  core = s.core;
  lists = record { paired = wide_ids_lem wide_of wide_ids wide_reads g.paired s.paired i; store = wide_ids_lem wide_store_of wide_cars wide_store_reads g.store s.store i };
  paired_fits = wide_range wide_of wide_in_range ids_fit wide_fits g.paired s.paired i;
  store_fits = wide_range wide_store_of wide_store_in_range cars_fit wide_store_range g.store s.store i;
  save = s.save;
  queue = s.queue;
  code = s.code;
}

packed_law : Lawful packed phones_of cars_of
packed_law = record { reads = phones_of_list; reads_store = cars_of_store; leaves = packed_leaves }

wide_law : Lawful wide wide_ids wide_cars
wide_law = record { reads = wide_reads; reads_store = wide_store_reads; leaves = wide_leaves }

-- ---- a gate in range has its like: its ids and its cars, laid anew

both_fit : (v : View) → in_range v ≡ true → (v.paired_fits ≡ true) × (v.store_fits ≡ true)
unfolding in_range
both_fit v h = let p = simp and-eq-true_iff at h in (p.0.0.0.1, p.0.0.1)

packs : (w : WideGate) → in_range (wide_view w) ≡ true → (g : Gate) × Sized g.phones.paired × SizedStore g.phones.store × (view g ≡ wide_view w)
unfolding view wide_view
packs w h =
    let r = both_fit (wide_view w) h in
    let ids = wide_ids w.paired in
    let cars = wide_cars w.store in
    let ids_in = wide_range_fits w.paired r.0 in
    let cars_in = wide_store_fits w.store r.1 in (
      record { core = w.core; phones = record { paired = list_of ids; store = store_of cars }; save = w.save; queue = w.queue; code = w.code },
      packed_sized ids ids_in,
      store_sized cars cars_in,
      λ i. record {
        core = w.core;
        lists = record { paired = phones_of_list ids i; store = cars_of_store cars i };
        paired_fits = (fits_of_list ids ∙ ids_in ∙ sym r.0) i;
        store_fits = (store_range cars ∙ cars_fit_lem cars cars_in ∙ sym r.1) i;
        save = w.save;
        queue = w.queue;
        code = w.code;
      },
    )

unpacks : (g : Gate) → in_range (view g) ≡ true → (w : WideGate) × WideSized w.paired × WideSizedStore w.store × (wide_view w ≡ view g)
unfolding view wide_view
unpacks g h =
    let r = both_fit (view g) h in
    let ids = phones_of g.phones.paired in
    let cars = cars_of g.phones.store in
    let ids_in = range_fits g.phones.paired r.0 in
    let cars_in = store_fits_lem g.phones.store r.1 in (
      record { core = g.core; paired = wide_of ids; store = wide_store_of cars; save = g.save; queue = g.queue; code = g.code },
      wide_sized ids ids_in,
      wide_store_sized cars cars_in,
      λ i. record {
        core = g.core;
        lists = record { paired = wide_reads ids i; store = wide_store_reads cars i };
        paired_fits = (wide_fits ids ∙ ids_in ∙ sym r.0) i;
        store_fits = (wide_store_range cars ∙ cars_fit_lem cars cars_in ∙ sym r.1) i;
        save = g.save;
        queue = g.queue;
        code = g.code;
      },
    )

same : (g : Gate) (k : Call) → gives packed g (lent_to k) (says (view g) k) ≡ step g k
unfolding step
same g k = refl

pub layouts_agree : LayoutsAgree
layouts_agree = record { agree = agree packed phones_of cars_of packed_law wide wide_ids wide_cars wide_law; packs = packs; unpacks = unpacks; same = same }

-- ---- zeros past the last id

abbrev ZerosOf : Gate → Type 0
ZerosOf g = Zeros g.phones.paired × ZerosStore g.phones.store

zeros_laid : (l : PhoneList) (x : Left (List (List ℕ))) → Zeros l → Zeros (laid l x)
zeros_laid l stays z = z
zeros_laid l (becomes ps) z = zeros_of_list ps

zeros_store : (s : Store) (x : Left (List CarIds)) → ZerosStore s → ZerosStore (laid_store s x)
zeros_store s stays z = z
zeros_store s (becomes cs) z = zeros_of_store cs

zeros_left : (g : Gate) (s : Says) → ZerosOf g → ZerosOf (left g s)
unfolding left
zeros_left g s z = (zeros_laid g.phones.paired s.paired z.0, zeros_store g.phones.store s.store z.1)

zeros_run : (g : Gate) (ks : List Call) → ZerosOf g → All ZerosIn (run packed g ks)
unfolding gives
zeros_run g [] z = tt
zeros_run g (k ∷ ks) z = let n = zeros_left g (says (view g) k) z in (n, zeros_run (left g (says (view g) k)) ks n)

zeros_new : (g : Gate) (settings : Settings) (methods : List Method) (count : ℕ) → ZerosOf (left g (says (view g) (new_gate_call settings methods count)))
unfolding left says
zeros_new g settings methods count = (zeros_of_list [], zeros_of_store [])

pub zeros_past : ZerosPast
unfolding gives
zeros_past g settings methods count ks =
    let n = zeros_new g settings methods count in
    (n, zeros_run (left g (says (view g) (new_gate_call settings methods count))) ks n)
