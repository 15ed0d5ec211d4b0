-- Serving a frame: the call that it asks for is made, and its answer written as a reply.
use Rattle.std.specs.Prelude.{◌≡◌, ℕ, cond, List, ◌∷◌, length, take, Ok, Err, Result, nat_lt}
use Rattle.store.specs.declared.Version.{Version}
use Rattle.store.specs.Bytes.{over}
use Rattle.service.specs.declared.services.Service.{Service}
use Rattle.service.specs.declared.calls.Call.{Call}
use Rattle.service.specs.Services.{state_of, Makes}
use Rattle.history.specs.History.{History}
use Rattle.history.specs.Runs.{Run, Runs}
use Rattle.frame.specs.declared.faults.Fault.{Fault}
use Rattle.frame.specs.declared.faults.Fault.TheVariants.{Room}
use Rattle.frame.specs.Fields.{bind}
use Rattle.frame.specs.Drafts.{longest_reply}
use Rattle.frame.specs.Requests.{read_request}
use Rattle.frame.specs.Replies.{Reply, reply_of, read_reply}

-- the call that a frame asks for, if there is room for any reply
abbrev pub accepted : List ℕ → List ℕ → Result Call Fault
accepted frame buffer = bind (read_request frame) (λ c. cond (nat_lt (length buffer) longest_reply) (Err Room) (Ok c))

module _ {S : Type 0} (versions : S → List Version) (x : Service S) (buffer : List ℕ) (r : Result ℕ Fault) (y : Service S) (after : List ℕ) where
  -- the call is made and answered, the answer is the reply in front of the buffer, and a run goes on by that call
  pub record Answered (c : Call) (a : Reply) : Type 0 where
    pub makes : Makes versions x c a y
    pub counts : r ≡ Ok (length (reply_of a))
    pub writes : after ≡ over 0 (reply_of a) buffer
    pub tells : read_reply c (take (length (reply_of a)) after) ≡ Ok a
    pub runs : (vs : List Version) (h : History) → Run vs h (state_of versions x) → Runs vs ((c, a) ∷ h) (state_of versions y)

  -- a fault reaches neither service nor buffer
  pub record Refused (e : Fault) : Type 0 where
    pub fault : r ≡ Err e
    pub service : y ≡ x
    pub buffer_stays : after ≡ buffer

  abbrev pub Serves : Result Call Fault → Type 0
  Serves (Ok c) = (a : Reply) × Answered c a
  Serves (Err e) = Refused e
