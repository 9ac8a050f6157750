-- What functions of the code give.
use Rattle.std.specs.Prelude.{◌≡◌, Bool, List, [], ◌∷◌, ◌++◌, ℕ, ◌<◌, length}
use Rattle.frames.specs.declared.CanFrame.{CanFrame}
use Rattle.state.specs.declared.Decided.{Decided}
use Rattle.state.specs.declared.Report.{Report}
use Rattle.state.specs.View.{Lists}
use Rattle.can_turns.specs.declared.Run.{Run}
use Rattle.can_turns.specs.Turns.{Serving, turn, report_of}

-- where a run stands, with its report
abbrev pub run_of : Serving → Run
run_of s = record { core = s.core; queue = s.queue; all = s.list; report = report_of s.decided }

-- the report with one decision more, whatever was decided before: sixteen at most
abbrev pub Reports : Report → Report → CanFrame → Bool → Type 0
Reports r old frame allowed = (ds : List Decided) → old ≡ report_of ds → length ds < 16 → r ≡ report_of (ds ++ (record { frame = frame; allowed = allowed } ∷ []))

-- the run after one turn more, of sixteen records and with fifteen decisions at most
abbrev pub Turns : Run → Lists → ℕ → Run → Type 0
Turns r l clock s = (x : Serving) → s ≡ run_of x → length x.list ≡ 16 → length x.decided < 16 → r ≡ run_of (turn l clock x)
