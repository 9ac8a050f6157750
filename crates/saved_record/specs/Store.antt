-- How the store lies in memory: `cars_of` reads one, `store_of` is the canonical store of some cars. A car past the count is not
-- looked at, and reading ends with the array.
use Rattle.std.specs.Prelude.{List, [], map, length, take, replicate, Result, Ok, Err}
use Rattle.arrays.specs.Arrays.{padded}
use Rattle.phones.specs.Phones.{phones_of, list_of}
use Rattle.saved_record.specs.declared.CarPhones.{CarPhones}
use Rattle.saved_record.specs.declared.Store.{Store}
use Rattle.saved_record.specs.declared.RecordError.{RecordError}
use Rattle.saved_record.specs.declared.RecordError.TheVariants.{Malformed, CarTwice, TooLarge}
use Rattle.saved_record.specs.SavedRecord.{CarIds, Reading, malformed, car_twice, too_large, ok}

-- ---- a car

unfoldable pub car_of : CarPhones → CarIds
car_of c = record { car = c.car; phones = phones_of c.phones }

-- with its list in canonical form
unfoldable pub laid_car : CarIds → CarPhones
laid_car c = record { car = c.car; phones = list_of c.phones }

-- what stands past the cars: a digest of zeros, no phones
unfoldable pub empty_car : CarPhones
empty_car = record { car = replicate 32 0; phones = list_of [] }

-- ---- a store

-- the cars in use are the first, as many as the count says
unfoldable pub cars_of : Store → List CarIds
cars_of s = map car_of (take s.count s.cars)

unfoldable pub store_of : List CarIds → Store
store_of cs = record { cars = padded 4 empty_car (map laid_car cs); count = length cs }

-- ---- what reading a record gives

unfoldable pub restored : Reading → Result Store RecordError
restored malformed = Err Malformed
restored car_twice = Err CarTwice
restored too_large = Err TooLarge
restored (ok cs) = Ok (store_of cs)
