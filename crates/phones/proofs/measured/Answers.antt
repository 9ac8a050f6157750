use Rattle.std.proofs.Common.{◌≡◌, refl, sym, ap, ◌∙◌, inl, arith, ℕ, ◌≤◌, List, [], ◌∷◌, ◌++◌, length, length-append, append_assoc}
use Rattle.arrays.specs.Arrays.{padded}
use Rattle.phones.specs.Ids.{joined}
use Rattle.phones.specs.Phones.{ids_left}
use Rattle.phones.proofs.Laws.{joined_snoc, joined_reach}
use Rattle.phones.proofs.Build.{lens_more}
use Rattle.phones.proofs.Walk.{ids_end}
use Rattle.phones.proofs.measured.Goals as goal

pub loop-i-init : goal.loop-i-init
unfolding padded joined
loop-i-init c =
    let it = c.into_iter-i-iterator in
    let source : ids_left it.result.iter ≡ ids_left c.args.ids = rw (it.ensures.into_iter_gives, c.enumerate-i-items.ensures.source) refl in
    let from : it.result.count ≡ 0 = rw (it.ensures.into_iter_gives) c.enumerate-i-items.ensures.count in
    ((tt, tt, inl (omega (arith, ap length source, c.requires))), tt, ([], sym source, from, refl, refl))

pub overflow_add-end : goal.overflow_add-end
overflow_add-end c =
    let loop = c.loop-i.invariant.2 in
    let step = c.in-Some.ensures.steps in
    let ids = c.args.ids in
    let all : length (joined (ids_left ids)) ≤ length ids.bytes.now = ids_end ids.lens.now ids.bytes.now in
    let reach = joined_reach loop.0 (ids_left c.next.new.self.iter) c.in-Some.id.now in
    let whole : ids_left ids ≡ loop.0 ++ c.in-Some.id.now ∷ ids_left c.next.new.self.iter = loop.1 ∙ ap (λ (ps : List (List ℕ)). loop.0 ++ ps) step.0.0 in
    let same : length (joined (ids_left ids)) ≡ length (joined (loop.0 ++ c.in-Some.id.now ∷ ids_left c.next.new.self.iter)) = ap (λ (ps : List (List ℕ)). length (joined ps)) whole in
    record { fits = omega arith }

pub loop-i-preserved : goal.loop-i-preserved
loop-i-preserved c =
    let loop = c.loop-i.invariant.2 in
    let step = c.in-Some.ensures.steps in
    let id = c.in-Some.id.now in
    let left = ids_left c.next.new.self.iter in
    let whole : ids_left c.args.ids ≡ loop.0 ++ id ∷ left = loop.1 ∙ ap (λ (ps : List (List ℕ)). loop.0 ++ ps) step.0.0 in
    let few = ap length whole ∙ length-append loop.0 (id ∷ left) in
    let at : c.in-Some.i ≡ length loop.0 = step.1 ∙ loop.2 in (
      (tt, tt, inl (omega arith)),
      tt,
      (
        loop.0 ++ id ∷ [],
        whole ∙ sym (append_assoc loop.0 (id ∷ []) left),
        rw length-append (omega arith),
        lens_more c.loop-i.lens c.in-Some.i (length id) loop.0 id loop.3 at (omega arith) refl,
        rw (joined_snoc, length-append) (omega arith),
      ),
    )
