-- What a record's reading makes of the store.
use Rattle.std.proofs.Common.{◌≡◌, false, [], List, ℕ, Ok, Err}
use Rattle.saved_record.specs.declared.RecordError.{RecordError}
use Rattle.saved_record.specs.declared.RecordError.TheVariants as Record
use Rattle.saved_record.specs.declared.Store.{Store}
use Rattle.saved_record.specs.SavedRecord.{Reading, malformed, car_twice, too_large, ok, decoded}
use Rattle.saved_record.specs.Store.{restored, store_of}
use Rattle.state.specs.declared.Answer.{Answer}
use Rattle.state.specs.declared.Answer.TheVariants.{Done}
use Rattle.state.specs.declared.Listed.{Listed}
use Rattle.state.specs.declared.Phones.{Phones}
use Rattle.state.specs.Replies.{phone_access_changed}
use Rattle.state.specs.View.{listed_in}
use Rattle.validations.specs.Store.{restoring, restore}
use Rattle.restore_validations.specs.Answers.{refusal_answer}

abbrev told : Phones → Answer → Store → Listed
told p answer store = record { answer = answer; raised = phone_access_changed; stores = false; phones = record { paired = p.paired; store = store } }

-- the store that a record says
pub restored_as : (p : Phones) (r : List ℕ) (s : Store) → Ok s ≡ restored (decoded r) → told p Done s ≡ listed_in p (restore r)
unfolding restored restore
restored_as p r s e = go (decoded r) e
  where
    go : (x : Reading) → Ok s ≡ restored x → told p Done s ≡ listed_in p (restoring x)
    go malformed e = cc
    go car_twice e = cc
    go too_large e = cc
    go (ok cs) e = let same : s ≡ store_of cs = cc in rw same

-- none, where it is refused
pub refused_as : (p : Phones) (r : List ℕ) (e : RecordError) → Err e ≡ restored (decoded r) → told p (refusal_answer e) (store_of []) ≡ listed_in p (restore r)
unfolding restored restore
refused_as p r e h = go (decoded r) h
  where
    go : (x : Reading) → Err e ≡ restored x → told p (refusal_answer e) (store_of []) ≡ listed_in p (restoring x)
    go malformed h = let same : e ≡ Record.Malformed = cc in rw same
    go car_twice h = let same : e ≡ Record.CarTwice = cc in rw same
    go too_large h = let same : e ≡ Record.TooLarge = cc in rw same
    go (ok cs) h = cc
