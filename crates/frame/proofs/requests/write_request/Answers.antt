use Rattle.std.proofs.Common.{◌≡◌, ℕ, List, Result, ap, ◌∙◌}
use Rattle.service.specs.declared.calls.Call.{Call}
use Rattle.frame.specs.declared.faults.Fault.{Fault}
use Rattle.frame.specs.Drafts.{written}
use Rattle.frame.specs.Requests.{frame_of, requested, read_request, written_call}
use Rattle.frame.proofs.RoundTrips.{read_written}
use Rattle.frame.proofs.Written.{written_takes}
use Rattle.frame.proofs.requests.write_request.Goals as goal

pub returns : goal.returns
returns c =
    let q = c.args.request in
    let call = c.in_ok-call.call in
    let (is, fits) = c.in_ok-call.ensures in
    let put = c.copy_to.ensures ∙ ap (λ (l : List ℕ). written l c.args.buffer.now) c.from.ensures in
    record {
      writes = put ∙ ap (λ (x : Result Call Fault). written_call x c.args.buffer.now) is;
      back = written_takes (frame_of call) c.args.buffer.now c.copy_to.new.buffer c.copy_to.result (λ l. read_request l ≡ requested q) put (read_written call fits ∙ is);
    }
