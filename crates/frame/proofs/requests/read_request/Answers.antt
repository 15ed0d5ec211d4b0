use Rattle.std.proofs.Common.{◌≡◌, Ok, Result, sym, arith, rules}
use Rattle.service.specs.declared.calls.Call.{Call}
use Rattle.frame.specs.declared.faults.Fault.{Fault}
use Rattle.frame.specs.Requests.{read_request}
use Rattle.frame.proofs.RoundTrips.{written_read}
use Rattle.frame.proofs.requests.read_request.Goals as goal

pub returns : goal.returns
returns c =
    let reads : ◌≡◌ {A = Result Call Fault} (Ok c.in_ok-call.call) (read_request c.args.frame.now) = search rules in
    record { reads = reads; back = written_read c.args.frame.now c.in_ok-call.call (λ i. omega (arith, c.type_inv.frame i)) (sym reads) }
