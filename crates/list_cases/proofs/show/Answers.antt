-- A listing's length is at most that of its bytes.
use Rattle.listing.proofs.Record.{listing_fits, listing_prefix}
use Rattle.list_cases.proofs.show.Goals as goal

pub slice_bounds-bytes-end : goal.slice_bounds-bytes-end
slice_bounds-bytes-end g c = let l = c.list_record-len in listing_fits l.result c.args.record.now l.ensures

pub slice_bounds-write_all-end : goal.slice_bounds-write_all-end
slice_bounds-write_all-end g c = let l = c.list_record-len in listing_prefix l.result c.args.record.now l.ensures
