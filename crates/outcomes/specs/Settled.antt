-- What functions of the code give.
use Rattle.std.specs.Prelude.{◌≡◌, Bool, cond, List, ℕ}
use Rattle.saved_record.specs.SavedRecord.{CarIds}
use Rattle.state.specs.declared.ValidationsSignal.{ValidationsSignal}
use Rattle.state.specs.declared.Phones.{Phones}
use Rattle.state.specs.declared.Gate.{Gate}
use Rattle.state.specs.declared.Said.{Said}
use Rattle.state.specs.declared.Listed.{Listed}
use Rattle.state.specs.declared.Signals.{Signals}
use Rattle.state.specs.declared.Outcome.{Outcome}
use Rattle.state.specs.declared.Save.{Save}
use Rattle.state.specs.declared.Queue.{Queue}
use Rattle.state.specs.declared.Core.{Core}
use Rattle.state.specs.declared.Answer.{Answer}
use Rattle.state.specs.Replies.{no_s, sent_s, no_signals, code_at}
use Rattle.state.specs.View.{Listing, view, listed_in}
use Rattle.validations.specs.Store.{record_for}
use Rattle.save.specs.declared.Kept.{Kept}
use Rattle.save.specs.Save.{Saving}
use Rattle.save.specs.Steps.{Says}
use Rattle.definition.specs.Gate.{of_lists, of_save, Lent, nothing, bytes, lent_as, lent_after, gives, packed, given, given_with}

-- what an operation on the core says, with the digits where it marks them, and the lists, the save, the waiting frames and the signals beside
-- it
unfoldable pub put : List ℕ → List ℕ → Said → Phones → Save → Queue → Signals → Outcome
put held drawn o p v q s = record {
  answer = o.answer;
  signals = s;
  gate = record { core = o.core; phones = p; save = v; queue = q; code = code_at held drawn o.code };
}

-- S, if it is sent
abbrev pub stored_if : Bool → List CarIds → ValidationsSignal
stored_if stores cs = cond stores (sent_s (record_for cs)) no_s

-- lists that are laid down already, whatever operation left them
abbrev pub Settles : Gate → Listed → Outcome → Type 0
Settles g x r = (d : Listing) → x ≡ listed_in g.phones d → given r ≡ gives packed g nothing (of_lists (view g) d)

-- a save that was said already, whatever operation left it, with the memory that it was lent
abbrev pub Keeps : Gate → Kept → Outcome → Type 0
Keeps g x r = (d : Saving) (m : Lent) → Says x d → given_with r (lent_after m (lent_as bytes d.lent)) ≡ gives packed g m (of_save (view g) d)

-- what an operation on the waiting frames leaves, with its answer; it sends nothing
abbrev pub queued : Gate → Answer → Core → Queue → Outcome
queued g a c q = record { answer = a; signals = no_signals; gate = record { core = c; phones = g.phones; save = g.save; queue = q; code = g.code } }
