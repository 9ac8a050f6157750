-- The hash value of a byte that is repeated, some blocks at a time.
use Rattle.std.proofs.Common.{◌≡◌, refl, sym, ap, ap₂, ◌∙◌, ℕ, ◌+◌, ◌*◌, ◌/◌, List, [], ◌++◌, append-nil, length, replicate, arith}
use Rattle.std.proofs.lemmas.List.{length-replicate, replicate-append-replicate}
use Rattle.sha256.proofs.Pieces.{hash_from_append, cut_at_a_block}
use Rattle.sha256.specs.Sha256.{hash_from, H₀, finished, sha256}

-- before the first block
pub no_block : H₀ ≡ hash_from H₀ [] 0
unfolding hash_from
no_block = refl

-- after i blocks, j more
pub more : (x i j : ℕ) {h b : List ℕ} → h ≡ hash_from H₀ (replicate (64 * i) x) i → b ≡ replicate (64 * j) x
    → hash_from h b (length b / 64) ≡ hash_from H₀ (replicate (64 * (i + j)) x) (i + j)
more x i j p q =
    let l : length (replicate (64 * j) x) / 64 ≡ j = omega (arith, length-replicate (64 * j) x) in
    let n : 64 * i + 64 * j ≡ 64 * (i + j) = omega arith in
    ap₂ (λ (g s : List ℕ). hash_from g s (length s / 64)) p q
    ∙ ap (λ (m : ℕ). hash_from (hash_from H₀ (replicate (64 * i) x) i) (replicate (64 * j) x) m) l
    ∙ hash_from_append H₀ (replicate (64 * i) x) (replicate (64 * j) x) i j (length-replicate (64 * i) x)
    ∙ ap (λ (s : List ℕ). hash_from H₀ s (i + j)) (replicate-append-replicate (64 * i) (64 * j) x ∙ ap (λ (m : ℕ). replicate m x) n)

-- after the last one
pub all : (x i n : ℕ) {h : List ℕ} → n ≡ 64 * i → h ≡ hash_from H₀ (replicate (64 * i) x) i → finished h [] n ≡ sha256 (replicate n x)
all x i n e p =
    let a = replicate n x in
    let l : length (a ++ []) ≡ n = ap length (append-nil a) ∙ length-replicate n x in
    ap₂ (λ (g : List ℕ) (m : ℕ). finished g [] m) (p ∙ ap (λ (m : ℕ). hash_from H₀ (replicate m x) i) (sym e)) (sym l)
    ∙ cut_at_a_block a [] i (length-replicate n x ∙ e)
    ∙ ap sha256 (append-nil a)
