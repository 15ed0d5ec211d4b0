-- Frames that are written to a buffer.
use Rattle.std.specs.Prelude.{ℕ, cond, List, length, Ok, Err, Result, nat_lt}
use Rattle.store.specs.Bytes.{over}
use Rattle.frame.specs.declared.faults.Fault.{Fault}
use Rattle.frame.specs.declared.faults.Fault.TheVariants.{Room}
use Rattle.frame.specs.declared.drafts.Draft.{Draft}

-- the longest request, that of a write, and the longest reply, that of a close
abbrev pub longest_request : ℕ
longest_request = 20

abbrev pub longest_reply : ℕ
longest_reply = 15

-- the fields that were put
abbrev pub contents : Draft → List ℕ
contents d = d.bytes.items

-- a frame goes to the front of a buffer and leaves the later bytes; where it does not fit, the buffer stays
abbrev pub written : List ℕ → List ℕ → Result ℕ Fault × List ℕ
written frame buffer = cond (nat_lt (length buffer) (length frame)) (Err Room, buffer) (Ok (length frame), over 0 frame buffer)
