-- Requests: the tool, the call's number, and what the call takes.
use Rattle.std.specs.Prelude.{ℕ, cond, List, [], ◌∷◌, ◌++◌, Ok, Err, Result, ◌==◌}
use Rattle.service.specs.declared.calls.Call.{Call}
use Rattle.service.specs.declared.calls.Call.TheVariants.{Begin, Read, Write, Close, Certify, Commit, Abort, Settle}
use Rattle.service.specs.Service.{tool_of}
use Rattle.frame.specs.declared.faults.Fault.{Fault}
use Rattle.frame.specs.declared.faults.Fault.TheVariants.{Unknown, Trailing}
use Rattle.frame.specs.declared.kinds.Kind.{Kind}
use Rattle.frame.specs.declared.kinds.Kind.TheVariants as kind
use Rattle.frame.specs.declared.requests.Request.{Request}
use Rattle.frame.specs.Fields.{field, taken, bind}
use Rattle.frame.specs.Drafts.{written}

abbrev pub number : Call → ℕ
number (Begin t) = 1
number (Read t i) = 2
number (Write t i v) = 3
number (Close t k) = 4
number (Certify t i) = 5
number (Commit t) = 6
number (Abort t) = 7
number (Settle t i) = 8

-- the fields of what a call takes
abbrev pub arguments : Call → List ℕ
arguments (Begin t) = []
arguments (Read t i) = field kind.Item i
arguments (Write t i v) = field kind.Item i ++ field kind.Value v
arguments (Close t k) = field kind.Tick k
arguments (Certify t i) = field kind.Item i
arguments (Commit t) = []
arguments (Abort t) = []
arguments (Settle t i) = field kind.Item i

abbrev pub frame_of : Call → List ℕ
frame_of c = field kind.Tool (tool_of c) ++ (field kind.Call (number c) ++ arguments c)

-- what a request's numbers ask for; the call picks those that it takes
abbrev pub requested : Request → Result Call Fault
requested q =
    cond (q.call == 1) (Ok (Begin q.tool))
    (cond (q.call == 2) (Ok (Read q.tool q.item))
    (cond (q.call == 3) (Ok (Write q.tool q.item q.value))
    (cond (q.call == 4) (Ok (Close q.tool q.tick))
    (cond (q.call == 5) (Ok (Certify q.tool q.item))
    (cond (q.call == 6) (Ok (Commit q.tool))
    (cond (q.call == 7) (Ok (Abort q.tool))
    (cond (q.call == 8) (Ok (Settle q.tool q.item))
    (Err Unknown))))))))

-- what writing a request answers, and the buffer after it
abbrev pub written_call : Result Call Fault → List ℕ → Result ℕ Fault × List ℕ
written_call (Ok c) buffer = written (frame_of c) buffer
written_call (Err e) buffer = (Err e, buffer)

abbrev pub written_request : Request → List ℕ → Result ℕ Fault × List ℕ
written_request q = written_call (requested q)

-- a call that takes no field, and one that takes one field of that kind; with each what follows
abbrev pub with_none : Call → List ℕ → Result (Call × List ℕ) Fault
with_none c rest = Ok (c, rest)

abbrev pub with_one : Kind → (ℕ → Call) → List ℕ → Result (Call × List ℕ) Fault
with_one k make rest = bind (taken k rest) (λ x. Ok (make x.0, x.1))

-- the call with that number, and what follows its fields
abbrev pub taken_call : ℕ → ℕ → List ℕ → Result (Call × List ℕ) Fault
taken_call t n rest =
    cond (n == 1) (with_none (Begin t) rest)
    (cond (n == 2) (with_one kind.Item (Read t) rest)
    (cond (n == 3) (bind (taken kind.Item rest) (λ i. with_one kind.Value (Write t i.0) i.1))
    (cond (n == 4) (with_one kind.Tick (Close t) rest)
    (cond (n == 5) (with_one kind.Item (Certify t) rest)
    (cond (n == 6) (with_none (Commit t) rest)
    (cond (n == 7) (with_none (Abort t) rest)
    (cond (n == 8) (with_one kind.Item (Settle t) rest)
    (Err Unknown))))))))

-- nothing may follow the last field
abbrev pub ended : {X : Type 0} → X × List ℕ → Result X Fault
ended (x, []) = Ok x
ended (x, b ∷ rest) = Err Trailing

-- the call that a frame asks for
abbrev pub read_request : List ℕ → Result Call Fault
read_request frame = bind (taken kind.Tool frame) (λ t. bind (taken kind.Call t.1) (λ n. bind (taken_call t.0 n.0 n.1) ended))
