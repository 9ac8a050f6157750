-- What is text, by RFC 3629's encoding.
use Rattle.std.proofs.Common.{◌≡◌, ℕ, true, List, refl, Option, Some, None, is_some}
use Rattle.utf8.specs.Utf8.{scalars, encode_all, decode}
use Rattle.text.specs.Text.{trim, is_text, trimmed}
use Rattle.utf8.proofs.Utf8.{Encoding, decode_sound, decode_complete}

-- what is text is the encoding of scalar values
pub text_encodes : (s : List ℕ) → is_text s ≡ true → (cs : List ℕ) × Encoding cs s
unfolding is_text
text_encodes s h = go (decode s) refl h
  where
    go : (x : Option (List ℕ)) → decode s ≡ x → is_some x ≡ true → (cs : List ℕ) × Encoding cs s
    go None e h = absurd cc
    go (Some cs) e h = (cs, decode_sound s cs e)

-- the encoding of scalar values is text, and trimmed it is the encoding of those that are left
pub encoding_text : (cs : List ℕ) → scalars cs ≡ true → (is_text (encode_all cs) ≡ true) × (trimmed (encode_all cs) ≡ encode_all (trim cs))
unfolding is_text trimmed
encoding_text cs h = (rw (decode_complete cs h), rw (decode_complete cs h))
