use Rattle.tuner.proofs.Handling.{open_read, open_written}
use Rattle.tuner.proofs.adjust.Goals as goal

pub returns-in_err-limit : goal.returns-in_err-limit
returns-in_err-limit g c = λ o. open_read g.S.Store.versions _ _ _ _ _ c.read-2.ensures (open_read g.S.Store.versions _ _ _ _ _ c.read.ensures o)

pub returns-in_err-write : goal.returns-in_err-write
returns-in_err-write g c = λ o.
    open_written g.S.Store.versions _ _ _ _ _ _ c.write.ensures
    (open_read g.S.Store.versions _ _ _ _ _ c.read-2.ensures (open_read g.S.Store.versions _ _ _ _ _ c.read.ensures o))

pub returns : goal.returns
returns g c = λ o.
    open_written g.S.Store.versions _ _ _ _ _ _ c.write.ensures
    (open_read g.S.Store.versions _ _ _ _ _ c.read-2.ensures (open_read g.S.Store.versions _ _ _ _ _ c.read.ensures o))
