-- 25 before everything: on a gate out of range, each kind of operation as one that answers 25 and leaves all as it is.
use Rattle.std.specs.Prelude.{cond}
use Rattle.state.specs.declared.Core.{Core}
use Rattle.state.specs.declared.Gate.{Gate}
use Rattle.state.specs.declared.Answer.TheVariants.{BadSettings}
use Rattle.state.specs.declared.Said.{Said}
use Rattle.state.specs.declared.Ended.{Ended}
use Rattle.state.specs.declared.Listed.{Listed}
use Rattle.state.specs.declared.Save.{Save}
use Rattle.phones.specs.Ids.{stays}
use Rattle.save.specs.declared.Kept.{Kept}
use Rattle.save.specs.Save.{Saving}
use Rattle.state.specs.Replies.{nothing_raised, leave}
use Rattle.state.specs.View.{View, view, lists_stay, listed_in}
use Rattle.range.specs.Range.{in_range}
use Rattle.validation.specs.Calls.{unvalidated}

abbrev pub out_of_range : Core → Said
out_of_range c = leave c BadSettings

unfoldable pub said_on : View → Said → Said
said_on v o = cond (in_range v) o (out_of_range v.core)

unfoldable pub ended_on : View → Ended → Ended
ended_on v e = cond (in_range v) e (unvalidated (out_of_range v.core))

abbrev pub save_out_of_range : Save → Kept
save_out_of_range s = record { answer = BadSettings; save = s }

unfoldable pub kept_on : View → Saving → Saving
kept_on v x = cond (in_range v) x (record { answer = BadSettings; save = v.save; lent = stays })

unfoldable pub listed_on : Gate → Listed → Listed
listed_on g x = cond (in_range (view g)) x (listed_in g.phones (lists_stay nothing_raised BadSettings))
