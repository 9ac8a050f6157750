use Rattle.std.proofs.Common.{sym, ◌∙◌}
use borrow.Author.Tests.{lt-ltb, le-ltb}
use Rattle.state.specs.Checks.{checked}
use Rattle.state.specs.View.{lists_stay}
use Rattle.phones.proofs.Made.{made_fits, made_long, made_bytes}
use Rattle.pairing.specs.Pairing.{pair}
use Rattle.pairing.proofs.add_paired_phone.Goals as goal

pub returns-in_default : goal.returns-in_default
unfolding pair checked lists_stay
returns-in_default c = rw (c.told.ensures, c.nothing_raised-none.ensures, made_long c.args.id.now (sym c.in_default.is ∙ c.make_id.ensures))

pub returns-then-contains : goal.returns-then-contains
unfolding pair checked lists_stay
returns-then-contains c =
    let m = sym c.in-Some.is ∙ c.make_id.ensures in
    rw (c.told-then-contains.ensures, c.phone_access_changed-raised.ensures, made_fits c.in-Some.q c.args.id.now m, sym c.is_empty.ensures ∙ c.if-is_empty.false, ← c.contains.ensures, c.if-contains.true)

pub returns-then-count-bonded : goal.returns-then-count-bonded
unfolding pair checked lists_stay
returns-then-count-bonded c =
    let m = sym c.in-Some.is ∙ c.make_id.ensures in
    rw (c.told-then-count-bonded.ensures, c.phone_access_changed-raised.ensures, c.append-paired.ensures, made_bytes c.in-Some.q c.args.id.now m, made_fits c.in-Some.q c.args.id.now m, sym c.is_empty.ensures ∙ c.if-is_empty.false, ← c.contains.ensures, c.if-contains.false, ← c.count.ensures, lt-ltb _ _ c.if-count-bonded.true)

pub returns : goal.returns
unfolding pair checked lists_stay
returns c =
    let m = sym c.in-Some.is ∙ c.make_id.ensures in
    rw (c.told-2.ensures, c.phone_access_changed-raised.ensures, made_fits c.in-Some.q c.args.id.now m, sym c.is_empty.ensures ∙ c.if-is_empty.false, ← c.contains.ensures, c.if-contains.false, ← c.count.ensures, le-ltb _ _ c.if-count-bonded.false)
