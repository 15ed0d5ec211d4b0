use Rattle.std.proofs.Common.{◌≡◌, Ok, Result, sym, arith, rules}
use Rattle.frame.specs.declared.faults.Fault.{Fault}
use Rattle.frame.specs.Replies.{Reply, read_reply}
use Rattle.frame.proofs.ReplyTrips.{written_read}
use Rattle.frame.proofs.replies.read_reply.Goals as goal

pub returns : goal.returns
returns c =
    let reads : ◌≡◌ {A = Result Reply Fault} (Ok c.in_ok-reply.reply) (read_reply c.args.call c.args.frame.now) = search rules in
    record { reads = reads; back = written_read c.args.call c.args.frame.now c.in_ok-reply.reply (λ i. omega (arith, c.type_inv.frame i)) (sym reads) }
