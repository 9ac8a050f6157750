-- The invariant: what is left to put are the fields from the index on.
use Rattle.std.proofs.Common.{◌≡◌, drop}
use Rattle.replay_page.specs.Page.{page}
use Rattle.replay_lines.specs.Fields.{put_fields}
use Rattle.replay_lines.proofs.fields.put_fields.Given as goal

abbrev pub invariant-loop-f : goal.invariant-loop-f
invariant-loop-f l = put_fields l.lent l.fields (page l.initial.out l.at) ≡ put_fields l.lent (drop l.f-index l.fields) (page l.out l.k)
