use Rattle.std.proofs.Common.{◌≡◌, ◌==◌, ◌∙◌, count_by, rules, sym}
use Rattle.replay_script.proofs.Laws.{items_length}
use Rattle.replay_script.proofs.items.Goals as goal

pub returns : goal.returns
returns c =
    let e : c.count.result ≡ count_by (λ x. x == 32) c.args.line.now = search rules in
    e ∙ sym (items_length c.args.line.now)
