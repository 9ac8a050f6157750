-- Who becomes listed by a change of the store.
use Prim.Native.Nat.{ℕ}
use mathlib.Core.Path.{◌≡◌, refl, sym, ◌∙◌}
use mathlib.Core.Bool.{Bool, true, false, cond, false≢true, ◌&&◌, and-eq-true_iff}
use mathlib.Core.List.{List, [], ◌∷◌, ◌++◌}
use lib.Dec.{eqb, ltb}
use lib.ListN.{length}
use Rattle.arrays.specs.Arrays.{same_bytes}
use Rattle.arrays.proofs.Laws.{cond_same, same_bytes_is}
use Rattle.phones.specs.Ids.{some_of, kept, contains, remove_all, retain_in, Left, stays, becomes, afterwards, room_for, pushed}
use Rattle.phones.proofs.Members.{contains_append}
use Rattle.phones.proofs.Search.{some_snoc}
use Rattle.saved_record.specs.SavedRecord.{CarIds, has_car, twice, Reading, malformed, car_twice, too_large, ok}
use Rattle.validations.specs.Store.{with_some, under_every, phones_for, forgetting, pruning, car_has, of_car, displaced, validating, restoring}
use Rattle.only_validated.specs.Row.{listed}

pub untrue : {A : Type 0} → false ≡ true → A
untrue e = absurd (false≢true e)

-- both cannot be
pub unlisted : {A : Type 0} (b : Bool) → b ≡ false → b ≡ true → A
unlisted b f t = untrue (sym f ∙ t)

refuted : (b : Bool) → (b ≡ true → ⊥) → b ≡ false
refuted true h = absurd (h refl)
refuted false h = refl

pub cases : {A : Type 0} (P : A → Type 0) (b : Bool) (x y : A) → (b ≡ true → P x) → (b ≡ false → P y) → P (cond b x y)
cases P true x y h k = h refl
cases P false x y h k = k refl

-- ---- who is listed

module _ (car phone : List ℕ) where
  -- a car lists the phone for this car
  abbrev Lists : CarIds → Bool
  Lists c = same_bytes c.car car && contains phone c.phones

  -- one of two: a car, or others
  one_of : {X : Type 0} (c : CarIds) (b : Bool) → cond (Lists c) true b ≡ true → (same_bytes c.car car ≡ true → contains phone c.phones ≡ true → X) → (b ≡ true → X) → X
  one_of {X = X} c b h k o =
      cases (λ (t : Bool). t ≡ true → X) (Lists c) true b (λ e q. let p = (and-eq-true_iff (same_bytes c.car car) _).0 e in k p.0 p.1) (λ e q. o q) h

  module _ (c : CarIds) (cs : List CarIds) where
    by_first : {X : Type 0} → listed (c ∷ cs) car phone ≡ true → (same_bytes c.car car ≡ true → contains phone c.phones ≡ true → X) → (listed cs car phone ≡ true → X) → X
    unfolding listed some_of
    by_first h k o = one_of c (listed cs car phone) h k o

    first_lists : same_bytes c.car car ≡ true → contains phone c.phones ≡ true → listed (c ∷ cs) car phone ≡ true
    unfolding listed some_of
    first_lists s t = rw (s, t)

    others_list : listed cs car phone ≡ true → listed (c ∷ cs) car phone ≡ true
    unfolding listed some_of
    others_list h = rw h (cond_same (Lists c) true)

  by_last : {X : Type 0} (cs : List CarIds) (c : CarIds) → listed (cs ++ (c ∷ [])) car phone ≡ true → (same_bytes c.car car ≡ true → contains phone c.phones ≡ true → X) → (listed cs car phone ≡ true → X) → X
  unfolding listed
  by_last {X = X} cs c h k o =
      cases (λ (t : Bool). t ≡ true → X) (listed cs car phone) true (Lists c)
      (λ e q. o e)
      (λ e q. let p = (and-eq-true_iff (same_bytes c.car car) _).0 q in k p.0 p.1)
      (rw (some_snoc Lists cs c) at h)

  -- ---- the list of a car

  pub for_listed : (cs : List CarIds) → contains phone (phones_for car cs) ≡ true → listed cs car phone ≡ true
  unfolding phones_for contains listed some_of
  for_listed [] h = h
  for_listed (c ∷ cs) h =
      cases (λ (ps : List (List ℕ)). contains phone ps ≡ true → listed (c ∷ cs) car phone ≡ true) (same_bytes c.car car) _ _
      (λ e k. first_lists c cs e k)
      (λ e k. others_list c cs (for_listed cs k))
      h

  has_listed : (cs : List CarIds) → listed cs car phone ≡ true → has_car car cs ≡ true
  unfolding listed has_car some_of
  has_listed [] h = h
  has_listed (c ∷ cs) h = by_first c cs h (λ s k. rw s) (λ o. rw (has_listed cs o) (cond_same (same_bytes c.car car) true))

  -- where no digest stands twice, the first car with this digest is the one that lists
  pub listed_for : (cs : List CarIds) → twice cs ≡ false → listed cs car phone ≡ true → contains phone (phones_for car cs) ≡ true
  unfolding phones_for listed some_of twice
  listed_for [] t h = untrue h
  listed_for (c ∷ cs) t h =
      cases (λ (a : Bool). a ≡ false → contains phone (phones_for car (c ∷ cs)) ≡ true) (has_car c.car cs) true (twice cs)
      (λ e q. untrue (sym q))
      (λ e q. cases (λ (ps : List (List ℕ)). contains phone ps ≡ true) (same_bytes c.car car) _ _
      (λ s. by_first c cs h (λ u k. k) (λ o. unlisted _ (rw ((same_bytes_is c.car car).0 s) at e) (has_listed cs o)))
      (λ s. by_first c cs h (λ u k. unlisted _ s u) (listed_for cs q)))
      t

-- ---- changes

-- who is kept was there
contains_kept : (f : List ℕ → Bool) (s : List ℕ) (ps : List (List ℕ)) → contains s (kept f ps) ≡ true → contains s ps ≡ true
unfolding contains some_of kept
contains_kept f s [] h = h
contains_kept f s (p ∷ ps) h = go (f p) (same_bytes p s) refl h (λ k. contains_kept f s ps k)
  where
    go : (t u : Bool) → same_bytes p s ≡ u → contains s (cond t (p ∷ kept f ps) (kept f ps)) ≡ true → (contains s (kept f ps) ≡ true → contains s ps ≡ true)
        → cond u true (contains s ps) ≡ true
    go t true e h rest = refl
    go true false e h rest = rest (rw e at h)
    go false false e h rest = rest h

module _ (car phone : List ℕ) where
  -- ids leave under every car, and none comes
  every_listed : (f : List (List ℕ) → List (List ℕ)) → ((ps : List (List ℕ)) → contains phone (f ps) ≡ true → contains phone ps ≡ true) → (cs : List CarIds)
      → listed (under_every f cs) car phone ≡ true → listed cs car phone ≡ true
  unfolding under_every with_some
  every_listed f less [] h = h
  every_listed f less (c ∷ cs) h =
      cases (λ (x : List CarIds). listed x car phone ≡ true → listed (c ∷ cs) car phone ≡ true) (eqb (length (f c.phones)) 0) _ _
      (λ e k. others_list car phone c cs (every_listed f less cs k))
      (λ e k. by_first car phone _ _ k
      (λ s m. first_lists car phone c cs s (less c.phones m))
      (λ o. others_list car phone c cs (every_listed f less cs o)))
      h

  displaced_listed : (cs : List CarIds) → listed (displaced cs) car phone ≡ true → listed cs car phone ≡ true
  unfolding displaced
  displaced_listed [] h = h
  displaced_listed (c ∷ cs) h =
      cases (λ (x : List CarIds). listed x car phone ≡ true → listed (c ∷ cs) car phone ≡ true) (ltb 3 (length (c ∷ cs))) _ _ (λ e k. others_list car phone c cs k) (λ e k. k) h

  -- of the car at hand those are listed whom its new list has
  by_has : {X : Type 0} (at : List ℕ) (ps : List (List ℕ)) (cs : List CarIds) → listed (car_has at ps cs) car phone ≡ true
      → (at ≡ car → contains phone ps ≡ true → X) → (listed cs car phone ≡ true → X) → X
  unfolding car_has
  by_has at ps [] h new old = old h
  by_has {X = X} at ps (c ∷ cs) h new old =
      cases (λ (x : List CarIds). listed x car phone ≡ true → X) (same_bytes c.car at) _ _
      (λ e k. by_first car phone _ cs k
      (λ s m. new (sym ((same_bytes_is c.car at).0 e) ∙ (same_bytes_is c.car car).0 s) m)
      (λ o. old (others_list car phone c cs o)))
      (λ e k. by_first car phone c _ k
      (λ s m. old (first_lists car phone c cs s m))
      (λ o. by_has at ps cs o new (λ q. old (others_list car phone c cs q))))
      h

-- of what becomes of the store: of those who become listed, P holds
pub record Gains (P : List ℕ → List ℕ → Type 0) (cs : List CarIds) (y : Left (List CarIds)) : Type 0 where
  pub gains : (car phone : List ℕ) → listed cs car phone ≡ false → listed (afterwards cs y) car phone ≡ true → P car phone

module _ (P : List ℕ → List ℕ → Type 0) (cs : List CarIds) where
  pub gain_cond : (b : Bool) (y z : Left (List CarIds)) → (b ≡ true → Gains P cs y) → (b ≡ false → Gains P cs z) → Gains P cs (cond b y z)
  gain_cond b y z h k = cases (Gains P cs) b y z h k

  -- ---- nobody

  pub gain_stays : Gains P cs stays
  gain_stays = record { gains = λ car phone n l. unlisted _ n l }

  pub gain_none : Gains P cs (becomes [])
  unfolding listed some_of
  gain_none = record { gains = λ car phone n l. untrue l }

  gain_less : (f : List (List ℕ) → List (List ℕ)) → ((s : List ℕ) (ps : List (List ℕ)) → contains s (f ps) ≡ true → contains s ps ≡ true) → Gains P cs (becomes (under_every f cs))
  gain_less f less = record { gains = λ car phone n l. unlisted _ n (every_listed car phone f (less phone) cs l) }

  pub gain_forgetting : (id : List ℕ) → Gains P cs (forgetting cs id)
  unfolding forgetting remove_all
  gain_forgetting id = let less = gain_less (remove_all id) (contains_kept _) in search (gain_cond, gain_stays)

  pub gain_pruning : (paired : List (List ℕ)) → Gains P cs (pruning (record { paired = paired; store = cs }))
  unfolding pruning retain_in
  gain_pruning paired = let less = gain_less (retain_in paired) (contains_kept _) in search (gain_cond, gain_stays)

  -- ---- a phone is validated for a car

  module _ (at id : List ℕ) (p : P at id) where
    -- only the one put last is new
    last_is : (ps : List (List ℕ)) (car phone : List ℕ) → at ≡ car → contains phone ps ≡ false → contains phone (ps ++ (id ∷ [])) ≡ true → P car phone
    last_is ps car phone a n k =
        let e = (same_bytes_is id phone).0 (rw (contains_append phone ps id, n) at k) in
        rw (a, e) at p

    -- the list goes on
    gain_last : Gains P cs (of_car at cs (becomes (phones_for at cs ++ (id ∷ []))))
    gain_last = record {
      gains = λ car phone n l.
          by_has car phone at _ cs l
          (λ a k. last_is (phones_for at cs) car phone a (not_for car phone a n) k)
          (λ o. unlisted _ n o);
    }
      where
        not_for : (car phone : List ℕ) → at ≡ car → listed cs car phone ≡ false → contains phone (phones_for at cs) ≡ false
        not_for car phone a n = refuted _ (λ e. unlisted _ n (rw a at (for_listed at phone cs e)))

    gain_pushed : Gains P cs (of_car at cs (pushed id (phones_for at cs)))
    unfolding pushed
    gain_pushed = cases (λ (x : Left (List (List ℕ))). Gains P cs (of_car at cs x)) (room_for id (phones_for at cs)) _ _ (λ e. gain_last) (λ e. gain_stays)

    -- the car comes last, and the first of four goes
    gain_new : Gains P cs (becomes (displaced cs ++ (record { car = at; phones = id ∷ [] } ∷ [])))
    unfolding contains some_of
    gain_new = record {
      gains = λ car phone n l.
          by_last car phone (displaced cs) _ l
          (λ s k. last_is [] car phone ((same_bytes_is at car).0 s) refl k)
          (λ o. unlisted _ n (displaced_listed car phone cs o));
    }

    pub gain_validating : Gains P cs (validating cs at id)
    unfolding validating
    gain_validating = search (gain_cond, gain_stays, gain_pushed, gain_new)

  -- ---- a record is restored

  pub gain_restoring : (r : Reading) → ((car phone : List ℕ) (ds : List CarIds) → r ≡ ok ds → listed ds car phone ≡ true → P car phone) → Gains P cs (restoring r).store
  gain_restoring malformed k = gain_none
  gain_restoring car_twice k = gain_none
  gain_restoring too_large k = gain_none
  gain_restoring (ok ds) k = record { gains = λ car phone n l. k car phone ds refl l }
