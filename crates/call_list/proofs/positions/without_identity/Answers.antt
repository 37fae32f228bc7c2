-- `without_identity` equals its definition, element by element. Assumes nothing.
use Rattle.std.proofs.Common.{◌≡◌, length, get_or, rules}
use Rattle.std.proofs.lemmas.List.{get_or_default}
use Rattle.records.specs.declared.body.BodyState.{BodyState}
use Rattle.list_check.proofs.Elements.{made_at}
use Rattle.call_list.proofs.Elements.{first_32}
use Rattle.call_list.proofs.positions.without_identity.Goals as goal

pub returns : goal.returns
returns c =
    let long : length c.args.bodies ≡ 33 = search rules in
    first_32 c.from_fn.result c.args.bodies c.from_fn.ensures.items.long long
    (made_at _ _ (λ k b. (d : BodyState) → b ≡ get_or c.args.bodies k d) 32
    (λ i y q h called. (λ d. search (rules, get_or_default), search rules)) _ c.from_fn.ensures.items)
