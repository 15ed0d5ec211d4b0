use Rattle.std.proofs.Common.{arith}
use Rattle.std.proofs.lemmas.Result.{err_from_is_err_and}
use Rattle.service.specs.Services.{state_of}
use Rattle.tuner.specs.Hands.{IsOpen}
use Rattle.tuner.proofs.Handling.{open_begun}
use Rattle.tuner.proofs.attempt.Goals as goal

pub returns-in-Err : goal.returns-in-Err
returns-in-Err g c =
    let e = c.in_ok-held.ensures.held in
    let o : IsOpen (state_of g.S.Store.versions c.work.new.service) c.in_ok-held.held.tool = c.work.ensures (λ s. omega (arith, e)) (rw e (open_begun g.S.Store.versions _ _ _ _ c.in_ok-held.ensures.makes)) in
    rw c.from.ensures o

pub returns-in_err-finish-in-Ok : goal.returns-in_err-finish-in-Ok
returns-in_err-finish-in-Ok g c =
    let e = c.in_ok-held.ensures.held in
    let o : IsOpen (state_of g.S.Store.versions c.work.new.service) c.in_ok-held.held.tool = c.work.ensures (λ s. omega (arith, e)) (rw e (open_begun g.S.Store.versions _ _ _ _ c.in_ok-held.ensures.makes)) in
    let p = err_from_is_err_and c.from_residual-in_err-finish-in-Ok.result c.from_residual-in_err-finish-in-Ok.ensures.1 in
    rw (p.1, p.2) (c.in_err-finish-in-Ok.ensures o)
