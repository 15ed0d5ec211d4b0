use Rattle.std.proofs.Common.{◌≡◌, ℕ, List, Ok, ap, ◌∙◌}
use Rattle.service.specs.declared.calls.Call.{Call}
use Rattle.frame.specs.Drafts.{written}
use Rattle.frame.specs.Replies.{reply_of, read_reply, Suits}
use Rattle.frame.proofs.ReplyTrips.{read_written}
use Rattle.frame.proofs.Written.{written_takes}
use Rattle.frame.proofs.replies.write_reply.Goals as goal

pub returns : goal.returns
returns c =
    let reply = c.args.reply in
    let put = c.copy_to.ensures ∙ ap (λ (l : List ℕ). written l c.args.buffer.now) c.from.ensures.0 in
    record {
      writes = put;
      back =
          written_takes (reply_of reply) c.args.buffer.now c.copy_to.new.buffer c.copy_to.result
          (λ l. (d : Call) → Suits d reply → read_reply d l ≡ Ok reply) put (λ d suits. read_written d reply suits c.from.ensures.1);
    }
