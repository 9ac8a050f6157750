-- The host's notes on the methods, by place (validation.rs); nothing past them.
use Rattle.std.specs.Prelude.{Bool, cond, ◌&&◌, ℕ, ltb, set}
use Rattle.state.specs.declared.Methods.{Methods}
use Rattle.state.specs.declared.Core.{Core}
use Rattle.state.specs.declared.Answer.TheVariants.{Done}
use Rattle.state.specs.declared.Said.{Said}
use Rattle.state.specs.Parts.{with_methods}
use Rattle.state.specs.Replies.{leave, quiet}

-- a place of the methods, of which there are at most eight
unfoldable pub is_place : Methods → ℕ → Bool
is_place m at = ltb at 8 && ltb at m.count

unfoldable pub note_available : Core → ℕ → Bool → Said
note_available c at on =
    cond (is_place c.methods at)
    (quiet (with_methods c (record { list = c.methods.list; count = c.methods.count; available = set c.methods.available at on; continues = c.methods.continues })) Done)
    (leave c Done)

unfoldable pub note_continue : Core → ℕ → Bool → Said
note_continue c at on =
    cond (is_place c.methods at)
    (quiet (with_methods c (record { list = c.methods.list; count = c.methods.count; available = c.methods.available; continues = set c.methods.continues at on })) Done)
    (leave c Done)
