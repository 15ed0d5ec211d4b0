use Rattle.std.proofs.Common.{arith}
use Rattle.frame.proofs.Answering.{served}
use Rattle.frame.proofs.serving.serve.Goals as goal

pub returns : goal.returns
returns g c =
    served g.S.Store.versions c.args.service.now c.call-answer.new.self c.args.frame.now c.args.reply.now c.write_reply.new.buffer c.write_reply.result
    c.in_ok-call.call c.call-answer.result c.in_ok-call.ensures.reads (omega arith) c.call-answer.ensures c.write_reply.ensures.writes c.write_reply.ensures.back
