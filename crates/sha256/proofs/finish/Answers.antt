-- The whole blocks of the rest, and then its end, padded.
use Rattle.std.proofs.Common.{◌≡◌, ℕ, ◌-◌, ◌/◌, ◌%◌, List, length, take, drop, refl, ap, ◌∙◌, ap₂, le_of_eq, length-drop, take_all}
use Rattle.arrays.proofs.Laws.{padded_take}
use Rattle.arrays.specs.Arrays.{padded}
use Rattle.sha256.specs.Sha256.{bytes, hash_from, pad_last, finished}
use Rattle.sha256.proofs.Pieces.{finished_rest, rest_length}
use Rattle.sha256.proofs.finish.Goals as goal

pub returns : goal.returns
unfolding finished
returns c =
    let m = c.args.rest.now in
    let n = c.args.total in
    let from = length m - length m % 64 in
    let b = drop from m in
    let tail : take (length m - from) b ≡ b = take_all (length m - from) b (le_of_eq (length-drop from m)) in
    let p = pad_last b n in
    let s : take c.end.result c.last-t.result ≡ p =
    ap₂ take (c.end.ensures ∙ rest_length m n from refl) (c.last-t.ensures ∙ ap (λ (x : List ℕ). padded 128 0 (pad_last x n)) tail) ∙ padded_take 128 0 p in
    c.out.ensures
    ∙ ap bytes (c.hash_blocks-2.ensures ∙ ap₂ (λ (x q : List ℕ). hash_from x q (length q / 64)) c.hash_blocks.ensures s)
    ∙ finished_rest c.args.h m n from refl
