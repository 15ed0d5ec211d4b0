use Rattle.std.proofs.Common.{rules}
use Rattle.service.proofs.Lists.{seen_under}
use Rattle.service.proofs.services.Service.is_under.Goals as goal

pub returns : goal.returns
returns g c i = seen_under c.args.phase c.args.stamp c.tool.result _ c.is_some_and.result (c.tool.ensures (g.S.Store.versions c.args.self.now.store)) c.is_some_and.ensures (λ own k. search rules) i
