use Rattle.std.proofs.Common.{◌≡◌, ◌∙◌, sym, ap, ℕ}
use borrow.Author.Tests.{ltb-false}
use Rattle.phones.proofs.Made.{made_fits, made_long, made_id_lem}
use Rattle.state.specs.Checks.{checked}
use Rattle.validation.specs.Calls.{start, start_at, start_checks}
use Rattle.start.proofs.start_validation.Goals as goal

pub returns-in_default : goal.returns-in_default
unfolding start start_at start_checks checked
returns-in_default c = rw (c.leave.ensures, made_long c.args.phone.now (sym c.in_default.is ∙ c.make_id.ensures))

pub way_at-requires : goal.way_at-requires
way_at-requires c = ltb-false _ _ (made_fits c.in-Some.id c.args.phone.now (sym c.in-Some.is ∙ c.make_id.ensures))

pub returns-in-Ok : goal.returns-in-Ok
unfolding start
returns-in-Ok c =
    let a = c.args in
    c.begin.ensures a.phone.now (made_id_lem c.in-Some.id a.phone.now (sym c.in-Some.is ∙ c.make_id.ensures)) ∙ c.in-Ok.ensures
    ∙ ap (λ (at : ℕ). start_at a.core a.phone.now at a.clock a.lent a.gives) c.place_of-at.ensures
