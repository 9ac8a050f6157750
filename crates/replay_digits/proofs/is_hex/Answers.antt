use Rattle.std.proofs.Common.{◌≡◌, ◌∙◌, sym, ltb, rules, tests}
use Rattle.std.specs.List.{list_all}
use Rattle.std.proofs.lemmas.Iterator.{YieldsList-from_slice}
use Rattle.std.proofs.lemmas.Iterator.Search.{all_from_yields_List}
use Rattle.replay_digits.specs.Digits.{digit_of, is_hex}
use Rattle.replay_digits.proofs.Laws.{all_digits_is}
use Rattle.replay_digits.proofs.is_hex.Goals as goal

pub returns-then-s-eq0 : goal.returns-then-s-eq0
unfolding is_hex
returns-then-s-eq0 c =
    let s = c.args.s.now in
    let e : c.all.result ≡ list_all (λ b. ltb (digit_of b) 16) s = all_from_yields_List (λ b. ltb (digit_of b) 16) _ _ _ c.all.ensures.ran (YieldsList-from_slice s cc) (λ x b q k. search (rules, tests)) in
    rw c.if-s-eq0.true (e ∙ sym (all_digits_is s))
