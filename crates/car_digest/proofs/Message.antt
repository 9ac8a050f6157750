-- The message of a car digest: how it is taken in, and how long it is.
use Rattle.std.proofs.Common.{◌≡◌, List, ◌++◌, ℕ, ◌+◌, ◌/◌, arith, length, length-append}
use Rattle.car_digest.specs.CarDigest.{domain, little4, car_message}
use Rattle.sha256.specs.Pieces.{opened, absorbed, closed}
use Rattle.sha256.specs.Sha256.{pad, sha256}
use Rattle.sha256.proofs.CutAnywhere.{two_pieces}
use Rattle.sha256.proofs.Pieces.{pad_blocks}

pub message_length : (p : ℕ) (f : List ℕ) → length (car_message p f) ≡ 30 + length f
unfolding car_message domain
message_length p f = length-append (domain ++ little4 p) f

-- the first 30 bytes and the fingerprint, taken in one after the other, give the digest of the message
pub in_pieces : (p : ℕ) (f : List ℕ) → closed (absorbed (absorbed opened (domain ++ little4 p)) f) ≡ sha256 (car_message p f)
unfolding car_message
in_pieces p f = two_pieces (domain ++ little4 p) f

-- a fingerprint of 25 bytes needs one block, and one of 26 two
pub one_block : (p : ℕ) (f : List ℕ) → length f ≡ 25 → length (pad (car_message p f)) / 64 ≡ 1
one_block p f l = omega (arith, pad_blocks (car_message p f), message_length p f)

pub two_blocks : (p : ℕ) (f : List ℕ) → length f ≡ 26 → length (pad (car_message p f)) / 64 ≡ 2
two_blocks p f l = omega (arith, pad_blocks (car_message p f), message_length p f)
