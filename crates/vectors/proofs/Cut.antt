-- Wherever a message is cut, its two pieces give the digest of the whole.
use Rattle.std.proofs.Common.{◌≡◌, sym, ap, ◌∙◌, ℕ, ◌-◌, ◌≤◌, List, length, take, drop, le_of_eq, length-drop, take_all}
use Rattle.sha256.proofs.CutAnywhere.{cut_anywhere}
use Rattle.sha256.specs.Pieces.{opened, absorbed, closed}
use Rattle.sha256.specs.Sha256.{sha256}

pub same_cut : (m : List ℕ) (i : ℕ) {d whole : List ℕ} → length m ≤ 4126 → i ≤ length m → whole ≡ sha256 m
    → d ≡ closed (absorbed (absorbed opened (take i m)) (take (length m - i) (drop i m))) → d ≡ whole
same_cut m i short within w p =
    let all : take (length m - i) (drop i m) ≡ drop i m = take_all (length m - i) (drop i m) (le_of_eq (length-drop i m)) in
    p ∙ ap (λ (b : List ℕ). closed (absorbed (absorbed opened (take i m)) b)) all ∙ cut_anywhere m i short within ∙ sym w
