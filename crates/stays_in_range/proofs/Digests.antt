-- The digests of a gate have 32 bytes each and keep them, so the record of its store has at most 4,358 bytes.
use Prim.Native.Nat.{ℕ, zero, suc, ◌*◌, ◌/◌, ◌≤◌}
use mathlib.Core.Path.{◌≡◌, refl, ap, ◌∙◌}
use mathlib.Core.Bool.{true, false}
use mathlib.Core.List.{List, [], ◌∷◌, ◌++◌}
use native.Mathlib.Omega.{arith}
use lib.Dec.{eqb, ltb}
use lib.ListN.{length}
use Rattle.arrays.specs.Arrays.{same_bytes}
use Rattle.arrays.proofs.Laws.{both}
use Rattle.phones.specs.Ids.{some_of, all_of}
use Rattle.sha256.specs.Sha256 as Sha256
use Rattle.sha256_block.specs.Block.{M, W, rounds, plus}
use Rattle.sha256.specs.Sha256.{pad, H₀, hash_from, sha256}
use Rattle.std.specs.Prelude.{Option, unwrap_or, replicate}
use Rattle.car_digest.specs.CarDigest.{car_digest}
use Rattle.saved_record.specs.SavedRecord.{CarIds, encoded, over, ok, decoded}
use Rattle.saved_record.proofs.Parts.{Digests}
use Rattle.saved_record.proofs.RoundTrip.{accepted_well_formed, at_most_4358}
use Rattle.range.proofs.Stores.{ids_fit_lem, car_fits, CarsFit}
use Rattle.validations.specs.Store.{with_some, under_every, car_has, displaced}
use Rattle.stays_in_range.proofs.Parts.{cases}
use Rattle.stays_in_range.proofs.Cars.{over_is}

-- ---- a digest that is made

module _ (p : List ℕ) where
  rounds_long : (w v : List ℕ) (t : ℕ) → length v ≡ 8 → length (rounds w v t) ≡ 8
  unfolding rounds
  rounds_long w v zero h = h
  rounds_long w v (suc t) h = refl

  plus_long : (v h : List ℕ) → length v ≡ length h → length (plus v h) ≡ length h
  plus_long [] h e = e
  plus_long (x ∷ v) [] e = refl
  plus_long (x ∷ v) (y ∷ h) e = ap suc (plus_long v h (omega arith))

  hash_long : (i : ℕ) → length (hash_from H₀ p i) ≡ 8
  unfolding hash_from
  hash_long zero = refl
  hash_long (suc i) =
      let g = hash_from H₀ p i in
      let e = hash_long i in
      let r = rounds_long (W (M p i) 64) g 64 e in
      plus_long (rounds (W (M p i) 64) g 64) g (omega arith) ∙ e

bytes_long : (ws : List ℕ) → length (Sha256.bytes ws) ≡ 4 * length ws
bytes_long [] = refl
bytes_long (w ∷ ws) = let e = bytes_long ws in omega arith

sha256_long : (m : List ℕ) → length (sha256 m) ≡ 32
unfolding sha256
sha256_long m = let p = pad m in let i = length p / 64 in bytes_long (hash_from H₀ p i) ∙ ap (λ (n : ℕ). 4 * n) (hash_long p i)

pub digest_long : (platform : ℕ) (fingerprint : List ℕ) → length (unwrap_or (car_digest platform fingerprint) (replicate 32 0)) ≡ 32
unfolding car_digest
digest_long platform fingerprint = cases (λ (d : Option (List ℕ)). length (unwrap_or d (replicate 32 0)) ≡ 32) (ltb 4096 (length fingerprint)) _ _ (λ e. refl) (λ e. sha256_long _)

-- ---- those of a store

pub every_digests : (f : List (List ℕ) → List (List ℕ)) (cs : List CarIds) → Digests cs → Digests (under_every f cs)
unfolding under_every with_some
every_digests f [] h = tt
every_digests f (c ∷ cs) h = let r = every_digests f cs h.1 in cases Digests (eqb (length (f c.phones)) 0) _ _ (λ e. r) (λ e. (h.0, r))

pub has_digests : (car : List ℕ) (ps : List (List ℕ)) (cs : List CarIds) → Digests cs → Digests (car_has car ps cs)
unfolding car_has
has_digests car ps [] h = tt
has_digests car ps (c ∷ cs) h = cases Digests (same_bytes c.car car) _ _ (λ e. h) (λ e. (h.0, has_digests car ps cs h.1))

snoc_digests : (cs : List CarIds) (c : CarIds) → Digests cs → length c.car ≡ 32 → Digests (cs ++ (c ∷ []))
snoc_digests [] c h k = (k, tt)
snoc_digests (x ∷ xs) c h k = (h.0, snoc_digests xs c h.1 k)

displaced_digests : (cs : List CarIds) → Digests cs → Digests (displaced cs)
unfolding displaced
displaced_digests [] h = tt
displaced_digests (c ∷ cs) h = cases Digests (ltb 3 (suc (length cs))) _ _ (λ e. h.1) (λ e. h)

pub last_digests : (cs : List CarIds) (c : CarIds) → Digests cs → length c.car ≡ 32 → Digests (displaced cs ++ (c ∷ []))
last_digests cs c h k = snoc_digests (displaced cs) c (displaced_digests cs h) k

pub accepted_digests : (bytes : List ℕ) (cs : List CarIds) → decoded bytes ≡ ok cs → Digests cs
accepted_digests bytes cs e = (accepted_well_formed bytes cs e).0.digests

-- ---- the record of a store

pub none_over : (cs : List CarIds) → all_of car_fits cs ≡ true → over cs ≡ false
unfolding over some_of all_of
none_over [] f = refl
none_over (c ∷ cs) f =
    let q = both (car_fits c) _ f in
    rw (over_is c.phones, ids_fit_lem c.phones q.0) (none_over cs q.1)

pub record_fits : (cs : List CarIds) → CarsFit cs → Digests cs → length (encoded cs) ≤ 4358
record_fits cs f h = at_most_4358 cs f.few h (none_over cs f.each)
