-- By the length of the input, and by what it says as a record.
use Rattle.std.proofs.Common.{length, lt-ltb, le-ltb}
use Rattle.listing.specs.Listing.{lines, listing_of}
use Rattle.listing.proofs.Record.{refused_told, restored_fit}
use Rattle.listing.proofs.list_record.Goals as goal

pub returns-then-input-gt8192 : goal.returns-then-input-gt8192
unfolding listing_of lines
returns-then-input-gt8192 c = rw (lt-ltb 8192 (length c.args.input.now) c.if-input-gt8192.true) c.refused.ensures

pub accepted-requires : goal.accepted-requires
accepted-requires c =
    let fit = restored_fit c.args.input.now c.in-Ok.store c.in-Ok.ensures in
    (rw c.first_car.ensures fit.stands, fit.room)

pub returns-in-Ok : goal.returns-in-Ok
unfolding listing_of lines
returns-in-Ok c =
    let s = c.args.input.now in
    rw (le-ltb 8192 (length s) c.if-input-gt8192.false, (restored_fit s c.in-Ok.store c.in-Ok.ensures).same) c.accepted.ensures

pub returns-in-Err : goal.returns-in-Err
unfolding listing_of lines
returns-in-Err c =
    let s = c.args.input.now in
    rw (le-ltb 8192 (length s) c.if-input-gt8192.false, refused_told s c.in-Err.field-0 c.in-Err.ensures) c.refused-in-Err.ensures
