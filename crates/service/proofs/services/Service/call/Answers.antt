use Rattle.service.proofs.Lawful.{lawful_step}
use Rattle.service.proofs.services.Service.call.Goals as goal

pub invariant_of-self : goal.invariant_of-self
invariant_of-self g c =
    record { lawful = lawful_step c.args.self.now.desk c.args.self.now.lawful _ _ c.args.call _ c.serve.new.self (c.serve.ensures.serves (g.S.Store.versions c.args.self.now.store) c.find-found.ensures) }

pub invariant_of-self-2 : goal.invariant_of-self-2
invariant_of-self-2 g c =
    record { lawful = lawful_step c.args.self.now.desk c.args.self.now.lawful _ _ c.args.call _ c.serve.new.self (c.serve.ensures.serves (g.S.Store.versions c.args.self.now.store) c.find-found.ensures) }
