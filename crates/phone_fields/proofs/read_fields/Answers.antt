use Rattle.std.proofs.Common.{◌≡◌, ◌∙◌, ap, arith, Result, Ok, Err}
use Rattle.std.specs.Result.{IsErrAnd}
use Rattle.phone_fields.specs.declared.FieldsError.{FieldsError}
use Rattle.phone_fields.specs.declared.FieldsError.TheVariants.{Malformed}
use Rattle.phone_fields.proofs.Reading.{too_many, kept_start, kept_none, kept_all, kept_long, kept_step, kept_room}
use Rattle.phone_fields.proofs.read_fields.Goals as goal

pub returns-then-count-gt32 : goal.returns-then-count-gt32
returns-then-count-gt32 c = rw c.only_checked.ensures (too_many _ _ _ c.if-count-gt32.true)

pub loop-k-init : goal.loop-k-init
loop-k-init c = rw c.new-packing.ensures (kept_start _ _)

-- `?` hands the error on as it is
handed : {A : Type 0} (r : Result A FieldsError) (e f : FieldsError) → IsErrAnd r (λ x. x ≡ e) → e ≡ f → r ≡ Err f
handed (Ok x) e f h k = absurd h
handed (Err x) e f h k = ap Err (h ∙ k)

pub returns-in_err-id : goal.returns-in_err-id
returns-in_err-id c =
    let none = rw c.in_err-id.ensures.ok_part at c.first_field.ensures in
    let is = rw c.in_err-id.ensures.ok_part at c.in_err-id.ensures.value in
    handed _ _ Malformed c.from_residual.ensures.1 (cc) ∙ kept_none _ _ _ _ _ c.loop-k.invariant (omega arith) none

pub returns-then-id-gt32 : goal.returns-then-id-gt32
returns-then-id-gt32 c =
    let first = rw c.in_ok-id.ensures.ok_part at c.first_field.ensures in
    rw c.only_checked-then-id-gt32.ensures (kept_long _ _ _ _ _ c.loop-k.invariant (omega arith) _ _ first.0 c.if-id-gt32.true)

pub push-requires-clause-room : goal.push-requires-clause-room
push-requires-clause-room c =
    kept_room _ _ _ _ _ c.loop-k.invariant _ (omega arith) c.if-id-gt32.false

pub loop-k-preserved : goal.loop-k-preserved
loop-k-preserved c =
    let first = rw c.in_ok-id.ensures.ok_part at c.first_field.ensures in
    rw c.push.ensures (kept_step _ _ _ _ _ c.loop-k.invariant (omega arith) _ _ first.0 c.if-id-gt32.false (omega (arith, first.2)))

pub returns : goal.returns
returns c =
    let p = c.loop-k.packing in
    rw p.canonical (kept_all _ _ _ _ _ c.loop-k.invariant c.if-count-gt32.false (omega arith))
