-- What functions of the code give.
use Rattle.std.specs.Prelude.{Bool, cond, Option, Some, None, List, [], ℕ, ◌+◌, ◌-◌, length, take}
use Rattle.phones.specs.Phones.{list_of}
use Rattle.phones.specs.declared.PhoneList.{PhoneList}
use Rattle.phone_fields.specs.PhoneFields.{Read, not_whole, whole, over_limits}
use Rattle.saved_record.specs.declared.CarPhones.{CarPhones}
use Rattle.saved_record.specs.SavedRecord.{CarIds}
use Rattle.decode_record.specs.declared.CarRead.{CarRead}

-- a car with its phones, where a list can hold them; its digest is kept in either case
unfoldable pub kept_car : CarIds → CarPhones
kept_car c = record { car = c.car; phones = list_of (cond (over_limits c.phones) [] c.phones) }

-- of n bytes those are used that do not remain
unfoldable pub car_read : ℕ → Read CarIds → Option CarRead
car_read n not_whole = None
car_read n (whole c rest) = Some (record { over = over_limits c.phones; car = kept_car c; used = n - length rest })

-- the part of a car whose phones are read: 32 digest bytes and a count stand before them
abbrev pub part_of : List ℕ → PhoneList → ℕ → Bool → CarRead
part_of s phones used over = record { over = over; car = record { car = take 32 s; phones = phones }; used = 33 + used }
