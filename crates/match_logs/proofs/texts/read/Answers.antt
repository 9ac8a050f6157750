use Rattle.std.proofs.Common.{rules}
use Rattle.match_logs.proofs.Logs.{told}
use Rattle.match_logs.proofs.texts.read.Goals as goal

pub returns : goal.returns
returns c = told c.args.s.now c.args.log _ _ (λ x d k. search rules) _ c.read_log.ensures c.map_err.ensures.cases
