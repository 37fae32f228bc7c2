-- `run_list` equals the plain run. Assumes nothing.
use mathlib.Core.Path.{sym, ap}
use mathlib.Core.Logic.{inl}
use native.Mathlib.Nat.{lt_of_not-le}
use native.Mathlib.Omega.{arith}
use Rattle.std.proofs.lemmas.Result.{err_from_is_err_and}
use Rattle.scene.proofs.Accepted.{verdict_answers}
use Rattle.records.proofs.Causes.{caused}
use Rattle.call_list.proofs.Run.{refused_is, done_is}
use Rattle.call_list.proofs.run_list.Goals as goal

pub returns-in_err-check_list : goal.returns-in_err-check_list
returns-in_err-check_list c =
    let p = err_from_is_err_and c.from_residual.result c.from_residual.ensures.1 in
    rw (p.1, p.2) (refused_is c.args.scene c.args.list.now _ c.in_err-check_list.ensures (caused _))

pub is_still-still-requires : goal.is_still-still-requires
is_still-still-requires c =
    let accepted = ap (λ x. x.number) (sym c.in_ok-check_list.ensures) in
    omega (arith, lt_of_not-le (λ h. ((verdict_answers c.args.scene c.args.list.now).none accepted).0.0 (inl h)))

pub returns : goal.returns
returns c =
    let accepted = ap (λ x. x.number) (sym c.in_ok-check_list.ensures) in
    done_is c.args.scene c.run_calls-next.result c.args.list.now c.is_still-still.result accepted c.run_calls-next.ensures c.is_still-still.ensures
