-- The room that lent bytes, ids, methods and saved records take.
use Rattle.std.proofs.Common.{List, [], ◌∷◌, ℕ, suc, ◌+◌, ◌*◌, ◌≤◌, le_refl, arith, lit≤, length, take, drop, length-take, length-drop}
use Rattle.ascii.specs.Ascii.{ascii}
use Rattle.phones.specs.Phones.{id_bytes, ids_in, phones_of}
use Rattle.phones.specs.declared.PhoneList.{PhoneList}
use Rattle.phones.specs.declared.ShortId.{ShortId}
use Rattle.state.specs.declared.Kind.{Kind}
use Rattle.state.specs.declared.Kind.TheVariants.{CodeEntry, InCarAction}
use Rattle.state.specs.declared.Method.{Method}
use Rattle.state.specs.declared.Status.{Status}
use Rattle.state.specs.declared.Status.TheVariants.{InProgress, Succeeded, Failed, Cancelled, TimedOut}
use Rattle.replay_page.specs.Page.{bytes, word}
use Rattle.replay_page.specs.Room.{Within}
use Rattle.replay_page.proofs.Room.{◌⊕◌, upto, same, text_in, bytes_in_lem, comma_in, flag_in_lem, word_in, first_in, part_in}
use Rattle.replay_lines.specs.Answer.{kind_name, status_name}
use Rattle.replay_lines.specs.Lent.{most_lent, output}
use Rattle.replay_lines.specs.Parts.{id_at, ids_from, method}

pub output_in : (s : List ℕ) → length s ≤ most_lent → Within 16392 (output s)
unfolding output
output_in s few = text_in (ascii " output=") ⊕ bytes_in_lem s most_lent few

pub id_in_lem : (id : ShortId) → length id.bytes ≤ 32 → Within 64 (bytes (id_bytes id))
unfolding id_bytes
id_in_lem id h = part_in id.bytes id.len 32 h

at_in : (i : ℕ) (x : List ℕ) → Within (1 + 2 * length x) (id_at i x)
unfolding id_at
at_in i x = comma_in i ⊕ bytes_in_lem x (length x) (le_refl (length x))

ids_in_lem : (ns b : List ℕ) (i : ℕ) → Within (length ns + 2 * length b) (ids_from i (ids_in ns b))
unfolding ids_from ids_in
ids_in_lem [] b i = same _
ids_in_lem (n ∷ ns) b i = upto (suc (length ns) + 2 * length b) (omega (arith, length-take n b, length-drop n b)) (at_in i (take n b) ⊕ ids_in_lem ns (drop n b) (i + 1))

pub phones_in : (l : PhoneList) → length l.bytes ≤ 1024 → length l.lens ≤ 32 → Within 2080 (ids_from 0 (phones_of l))
unfolding phones_of
phones_in l b n = upto 2080 (omega (arith, first_in l.lens l.count 32 n)) (ids_in_lem (take l.count l.lens) l.bytes 0)

kind_in_lem : (k : Kind) → length (kind_name k) ≤ 6
kind_in_lem CodeEntry = lit≤ tt
kind_in_lem InCarAction = lit≤ tt

pub status_in : (s : Status) → length (status_name s) ≤ 11
status_in InProgress = lit≤ tt
status_in Succeeded = lit≤ tt
status_in Failed = lit≤ tt
status_in Cancelled = lit≤ tt
status_in TimedOut = lit≤ tt

pub kind_word_in : (key : List ℕ) (k : Kind) → Within (length key + 6) (word key (kind_name k))
kind_word_in key k = word_in key (kind_name k) 6 (kind_in_lem k)

pub method_in_lem : (m : Method) → length m.id.bytes ≤ 32 → Within 75 (method m)
unfolding method
method_in_lem m h = id_in_lem m.id h ⊕ text_in (ascii "/") ⊕ upto 6 (kind_in_lem m.kind) (text_in (kind_name m.kind)) ⊕ flag_in_lem (ascii "/") m.needs_approval
