-- `tzif::local::type_in` meets its contract.
use Rattle.numbers.proofs.Prelude.{ℕ, ◌+◌, ◌*◌, sfits_of, ap, ◌∙◌, w32, to_z-of_z, arith}
use Rattle.tzif.specs.{Local.{type_in}, Number.{octet}}
use Rattle.tzif.proofs.local.type_in.Goals as goal

pub overflow_sub-block : goal.overflow_sub-block
overflow_sub-block c =
    let desigidx = c.octet-desigidx.ensures.same ∙ ap (λ (p : ℕ). octet c.args.file.now (p + 6 * c.args.index + 5)) c.types_of.ensures in
    omega (arith, desigidx, c.requires.good.inside c.args.index c.requires.index_lt_typecnt)

pub run_to-length-requires : goal.run_to-length-requires
run_to-length-requires c =
    let desigidx = c.octet-desigidx.ensures.same ∙ ap (λ (p : ℕ). octet c.args.file.now (p + 6 * c.args.index + 5)) c.types_of.ensures in
    omega (arith, desigidx, c.requires.good.inside c.args.index c.requires.index_lt_typecnt, c.designations_of.ensures, c.requires.good.within.end)

pub returns : goal.returns
unfolding type_in
returns c =
    let offset = to_z-of_z w32 c.signed-offset.result (sfits_of c.signed-offset.type_inv) in
    cc
