-- The bytes of all ids are copied over zeros at once.
use Rattle.std.proofs.Common.{◌≡◌, ap, arith, rules, length, map}
use Rattle.arrays.specs.Arrays.{padded}
use Rattle.phones.specs.Ids.{joined}
use Rattle.phones.specs.Phones.{phones_of}
use Rattle.phones.proofs.Build.{copied_is, laid_ids, laid_canonical}
use Rattle.phones.proofs.Packing.of.Goals as goal

pub measured-end-requires : goal.measured-end-requires
measured-end-requires c = omega (arith, ap length c.ids.ensures.value, c.ids.ensures.few)

pub shared_ref_as_front-over_zeros : goal.shared_ref_as_front-over_zeros
shared_ref_as_front-over_zeros c =
    let end : c.measured-end.result.1 ≡ length (joined (phones_of c.args.l.now)) = rw (← c.ids.ensures.value) c.measured-end.ensures.end in
    omega (arith, c.ids.ensures.within)

pub invariant_of-result : goal.invariant_of-result
invariant_of-result c =
    let l = c.args.l.now in
    let many : length l.lens ≡ 32 = search rules in
    let lens : c.measured-end.result.0 ≡ padded 32 0 (map length (phones_of l)) = rw (← c.ids.ensures.value) c.measured-end.ensures.lens in
    let end : c.measured-end.result.1 ≡ length (joined (phones_of l)) = rw (← c.ids.ensures.value) c.measured-end.ensures.end in
    let is = copied_is l _ _ _ many lens end c.min.ensures in
    let same = rw (← c.over_zeros.ensures) at is in
    record {
      canonical = laid_canonical _ (phones_of l) same;
      ends = rw (laid_ids _ (phones_of l) same) end;
      within = omega (arith, c.ids.ensures.within);
      few = omega (arith, c.min.ensures);
    }

pub returns : goal.returns
returns c =
    let l = c.args.l.now in
    let many : length l.lens ≡ 32 = search rules in
    let lens : c.measured-end.result.0 ≡ padded 32 0 (map length (phones_of l)) = rw (← c.ids.ensures.value) c.measured-end.ensures.lens in
    let end : c.measured-end.result.1 ≡ length (joined (phones_of l)) = rw (← c.ids.ensures.value) c.measured-end.ensures.end in
    laid_ids _ (phones_of l) (rw (← c.over_zeros.ensures) at (copied_is l _ _ _ many lens end c.min.ensures))
