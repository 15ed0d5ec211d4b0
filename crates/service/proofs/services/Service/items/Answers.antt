use Rattle.service.proofs.services.Service.items.Goals as goal

pub returns-in-Some : goal.returns-in-Some
returns-in-Some g c p h = rw (c.in-Some.ensures (g.S.Store.versions c.args.self.now.store)) (c.items.ensures p h)

pub returns-in-None : goal.returns-in-None
returns-in-None g c p h = rw (c.in-None.ensures (g.S.Store.versions c.args.self.now.store)) c.new.ensures
