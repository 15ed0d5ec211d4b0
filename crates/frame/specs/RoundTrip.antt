-- Each request has one frame, and each frame at most one reading.
use Rattle.std.specs.Prelude.{◌≡◌, ℕ, ◌^◌, ◌<◌, List, Ok, slice_index}
use Rattle.service.specs.declared.calls.Call.{Call}
use Rattle.service.specs.declared.calls.Call.TheVariants.{Begin, Read, Write, Close, Certify, Commit, Abort, Settle}
use Rattle.frame.specs.declared.kinds.Kind.{Kind}
use Rattle.frame.specs.declared.kinds.Kind.TheVariants as kind
use Rattle.frame.specs.Fields.{width}
use Rattle.frame.specs.Requests.{frame_of, read_request}

-- every element is a byte
abbrev pub Bytes : List ℕ → Type 0
Bytes bs = (i : ℕ) → slice_index bs i < 256

-- the number fits a field of that kind
abbrev pub Fits : Kind → ℕ → Type 0
Fits k n = n < 256 ^ width k

-- all numbers of the call fit their fields
abbrev pub CallFits : Call → Type 0
CallFits (Begin t) = Fits kind.Tool t
CallFits (Read t i) = Fits kind.Tool t × Fits kind.Item i
CallFits (Write t i v) = Fits kind.Tool t × Fits kind.Item i × Fits kind.Value v
CallFits (Close t k) = Fits kind.Tool t × Fits kind.Tick k
CallFits (Certify t i) = Fits kind.Tool t × Fits kind.Item i
CallFits (Commit t) = Fits kind.Tool t
CallFits (Abort t) = Fits kind.Tool t
CallFits (Settle t i) = Fits kind.Tool t × Fits kind.Item i

-- reading a request's frame gives the request, a frame that is read is that of what was read, and no two requests share a frame
pub record RequestsOneFrame : Type 0 where
  pub read_written : (c : Call) → CallFits c → read_request (frame_of c) ≡ Ok c
  pub written_read : (frame : List ℕ) (c : Call) → Bytes frame → read_request frame ≡ Ok c → frame_of c ≡ frame
  pub apart : (c d : Call) → CallFits c → CallFits d → frame_of c ≡ frame_of d → c ≡ d
