-- The records that the program makes, laid down byte by byte. Past the array's end nothing is written.
use Rattle.std.specs.Prelude.{ℕ, zero, suc, ◌+◌, ◌%◌, ◌^◌, cond, length, nat_lt, slice_set}
use Rattle.list_cases.specs.declared.Draft.{Draft}

unfoldable pub with_byte : ℕ → Draft → Draft
with_byte b w = cond (nat_lt w.at (length w.bytes)) (record { bytes = slice_set w.bytes w.at b; at = w.at + 1 }) w

-- the same bytes, with the front as the place to write at
abbrev pub rewound : Draft → Draft
rewound w = record { bytes = w.bytes; at = 0 }

-- n bytes, the first one b and each `step` more than the one before, 0 after 255
unfoldable pub with_run : ℕ → ℕ → ℕ → Draft → Draft
with_run b step zero w = w
with_run b step (suc n) w = with_run ((b + step) % 2 ^ 8) step n (with_byte b w)

-- 32 times a byte, and the count
unfoldable pub with_digest : ℕ → ℕ → Draft → Draft
with_digest digest count w = with_byte count (with_run digest 0 32 w)

-- version 1, 32 times 0x11, and the count
unfoldable pub with_head : ℕ → Draft → Draft
with_head count w = with_digest 0x11 count (with_byte 1 (rewound w))

-- version 2, and the number of cars
unfoldable pub with_cars : ℕ → Draft → Draft
with_cars n w = with_byte n (with_byte 2 (rewound w))

-- an id of `len` bytes, which count up from `first`, behind its length
unfoldable pub with_phone : ℕ → ℕ → Draft → Draft
with_phone first len w = with_run first 1 len (with_byte len w)

-- n of them; the first byte of each is its place
unfoldable pub with_phones : ℕ → ℕ → Draft → Draft
with_phones zero len w = w
with_phones (suc n) len w = with_phone n len (with_phones n len w)

-- a car of version 2 with n of them
unfoldable pub with_car : ℕ → ℕ → ℕ → Draft → Draft
with_car digest n len w = with_phones n len (with_digest digest n w)
