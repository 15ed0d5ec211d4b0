use Rattle.std.proofs.Common.{sym, ap, ◌∙◌}
use Rattle.std.proofs.Math.ListN.{set}
use Rattle.std.proofs.lemmas.List.{set_past}
use Rattle.service.specs.Entries.{settled_version}
use Rattle.service.proofs.Changes.{puts_it, puts_none}
use Rattle.service.proofs.Replies.{got, past_end}
use Rattle.service.proofs.settlements.committed.Goals as goal

pub returns-in_err-before : goal.returns-in_err-before
returns-in_err-before c = record {
  value = λ vs f. rw c.from_residual.ensures (sym (set_past vs c.args.entry.item _ (past_end vs c.args.entry.item (f ∙ c.in_err-before.was))));
  quiet = λ _ _ _. c.from_residual.ensures;
}

pub returns : goal.returns
returns c = record {
  value = λ vs f.
      let g = got vs c.args.entry.item c.in_ok-before.before (f ∙ c.in_ok-before.was) in
      rw c.then_some.ensures (puts_it vs c.args.entry.item c.in_ok-before.before c.settled-after.result g.0 g.1 c.ne.result c.ne.ensures)
      ∙ ap (set vs c.args.entry.item) (c.settled-after.ensures ∙ ap (settled_version c.args.entry c.args.stamp) (sym g.1));
  quiet = λ vs f q.
      let g = got vs c.args.entry.item c.in_ok-before.before (f ∙ c.in_ok-before.was) in
      c.then_some.ensures ∙ puts_none vs c.args.entry.item c.in_ok-before.before c.settled-after.result g.0 g.1 c.ne.result c.ne.ensures (rw c.then_some.ensures at q);
}
