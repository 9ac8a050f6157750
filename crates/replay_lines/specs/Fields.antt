-- A printed line as a list of fields.
use Rattle.std.specs.Prelude.{List, [], ◌∷◌, ℕ, take}
use Rattle.replay_page.specs.Page.{Page, ◌▸◌, text, bytes, item, flag, word, known, digits}
use Rattle.replay_lines.specs.Table.{key_text, word_text}
use Rattle.replay_lines.specs.declared.fields.Field.{Field}
use Rattle.replay_lines.specs.declared.fields.Field.TheVariants.{Key, Number, Flag, Word, Bytes, Digits, Known}

-- the key, then the value
abbrev pub put_field : List ℕ → Field → Page → Page
put_field lent (Key k) p = p ▸ text (key_text k)
put_field lent (Number k n) p = p ▸ item (key_text k) n
put_field lent (Flag k b) p = p ▸ flag (key_text k) b
put_field lent (Word k w) p = p ▸ word (key_text k) (word_text w)
put_field lent (Bytes k n) p = p ▸ text (key_text k) ▸ bytes (take n lent)
put_field lent (Digits k n) p = p ▸ text (key_text k) ▸ digits lent n
put_field lent (Known k b) p = p ▸ text (key_text k) ▸ known b lent

unfoldable pub put_fields : List ℕ → List Field → Page → Page
put_fields lent [] p = p
put_fields lent (f ∷ fs) p = put_fields lent fs (put_field lent f p)
