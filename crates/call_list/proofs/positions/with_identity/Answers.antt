-- `with_identity` equals its definition: the elements below `k` are filled. Assumes nothing.
use Rattle.std.proofs.Common.{◌≡◌, length, arith, rules}
use lib.ListN.{replicate, length-replicate}
use Rattle.records.specs.Body.{identity_body_state}
use Rattle.call_list.proofs.Elements.{fill_more, fill_33}
use Rattle.call_list.proofs.positions.with_identity.Goals as goal

pub loop-k-preserved : goal.loop-k-preserved
loop-k-preserved c =
    let bodies = c.args.scene.bodies in
    let long : length c.args.scene.bodies ≡ 32 = search rules in
    fill_more bodies (replicate 33 identity_body_state) c.loop-k.out c.loop-k.k _ c.loop-k.invariant (omega (arith, long, c.loop-k-test.true))
    (rw (length-replicate 33 identity_body_state) (omega (arith, c.loop-k-test.true)))

pub returns : goal.returns
returns c =
    let long : length c.args.scene.bodies ≡ 32 = search rules in
    let k : c.loop-k.k ≡ 32 = omega arith in
    fill_33 c.args.scene.bodies c.loop-k.out c.loop-k.k long k c.loop-k.invariant
