-- Parts of lines: ids and lists of them, methods, digits.
use Rattle.std.specs.Prelude.{List, [], ◌∷◌, ℕ, ◌+◌}
use Rattle.ascii.specs.Ascii.{ascii}
use Rattle.phones.specs.Phones.{id_bytes}
use Rattle.state.specs.declared.Method.{Method}
use Rattle.replay_lines.specs.Answer.{kind_name}
use Rattle.replay_page.specs.Page.{Page, ◌▸◌, text, bytes, comma, flag}

-- the id at place i of a list
unfoldable pub id_at : ℕ → List ℕ → Page → Page
id_at i x p = p ▸ comma i ▸ bytes x

-- ids from place i of a list on
unfoldable pub ids_from : ℕ → List (List ℕ) → Page → Page
ids_from i [] p = p
ids_from i (x ∷ xs) p = ids_from (i + 1) xs (id_at i x p)

-- ID/KIND/APPROVAL
unfoldable pub method : Method → Page → Page
method m p = p ▸ bytes (id_bytes m.id) ▸ text (ascii "/") ▸ text (kind_name m.kind) ▸ flag (ascii "/") m.needs_approval
